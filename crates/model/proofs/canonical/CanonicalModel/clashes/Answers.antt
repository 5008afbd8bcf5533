use Rattle.std.proofs.Common.{rules, refl}
use Rattle.model.specs.Clashes.{mark_clashes}
use Rattle.model.proofs.Searches.{some_any}
use Rattle.model.proofs.canonical.CanonicalModel.clashes.Goals as goal

pub returns : goal.returns
unfolding mark_clashes
returns g c = some_any _ c.any.ensures.runs refl refl (λ x b h k. search rules)
