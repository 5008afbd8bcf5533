use Rattle.std.proofs.Common.{rules}
use Rattle.model.proofs.Searches.{filled_by}
use Rattle.model.proofs.name_rows.starts_row.Goals as goal

pub returns : goal.returns
returns c = filled_by _ c.from_fn.ensures.items (λ x b h k. search rules)
