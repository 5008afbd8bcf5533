use Rattle.std.proofs.Common.{rules, tests}
use Rattle.search.proofs.Ranges.{any_decides}
use Rattle.search.proofs.forcing.Steps.open_above.Goals as goal

pub returns : goal.returns
returns c = any_decides _ _ _ _ c.any.ensures.ran (λ x q k. search (rules, tests)) (λ x q k. search (rules, tests))
