use Rattle.std.proofs.Common.{◌∙◌}
use Rattle.text.proofs.Cuts.{found_or_len}
use Rattle.text.proofs.scan.find_byte.Goals as goal

pub returns-clause-value : goal.returns-clause-value
returns-clause-value c = c.unwrap_or.ensures ∙ found_or_len c.args.byte c.args.bytes.now c.position.result c.position.ensures
