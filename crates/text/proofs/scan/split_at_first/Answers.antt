use Rattle.std.proofs.Common.{refl}
use Rattle.text.proofs.Cuts.{found_at, not_found}
use Rattle.text.proofs.scan.split_at_first.Goals as goal

pub returns-in-Some : goal.returns-in-Some
returns-in-Some c = found_at c.args.byte c.args.bytes.now c.in-Some.end c.in-Some.ensures

pub returns-in-None : goal.returns-in-None
returns-in-None c = (not_found c.args.byte c.args.bytes.now c.in-None.ensures, refl)
