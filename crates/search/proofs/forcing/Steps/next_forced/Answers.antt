use Rattle.std.proofs.Common.{rules, tests}
use Rattle.search.proofs.Ranges.{mapped_first}
use Rattle.search.proofs.forcing.Steps.next_forced.Goals as goal

pub returns : goal.returns
returns c = mapped_first _ _ _ _ c.find_map.ensures.runs (λ a r q k. search (rules, tests)) (λ x k. search (rules, tests)) (λ x y l k. search (rules, tests))
