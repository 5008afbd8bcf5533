use Rattle.std.proofs.Common.{refl}
use Rattle.text.proofs.Cuts.{fields_some}
use Rattle.text.proofs.fields.Fields.end.Goals as goal

pub returns-in-Some : goal.returns-in-Some
returns-in-Some c = let f = fields_some c.in-Some.field-0.now in rw (c.in-Some.is, f.2) refl
