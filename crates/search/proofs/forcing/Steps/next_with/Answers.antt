use Rattle.std.proofs.Common.{rules, tests}
use Rattle.search.proofs.Ranges.{found_first}
use Rattle.search.proofs.forcing.Steps.next_with.Goals as goal

pub returns : goal.returns
returns c = found_first _ _ _ _ _ c.find.ensures.ran (λ x q k. search (rules, tests)) (λ x q k. search (rules, tests))
