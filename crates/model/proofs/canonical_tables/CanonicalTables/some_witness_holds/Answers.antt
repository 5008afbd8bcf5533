use Rattle.std.proofs.Common.{rules, refl}
use Rattle.model.proofs.Searches.{some_any}
use Rattle.model.proofs.canonical_tables.CanonicalTables.some_witness_holds.Goals as goal

pub returns : goal.returns
returns c = some_any _ c.any.ensures.runs refl refl (λ x b h k. search rules)
