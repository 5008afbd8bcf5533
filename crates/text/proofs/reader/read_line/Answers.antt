use Rattle.std.proofs.Common.{◌≡◌, rules}
use Rattle.text.specs.Grammar.{reading}
use Rattle.text.specs.Lines.{fields}
use Rattle.text.proofs.Readings.{means}
use Rattle.text.proofs.reader.read_line.Goals as goal

pub returns-in_err-letter : goal.returns-in_err-letter
returns-in_err-letter c =
    let e : c.from_residual.result ≡ reading (fields c.args.line.now) = search rules in
    record { value = e; grammar = means c.args.line.now c.from_residual.result e }

pub returns : goal.returns
returns c =
    let e : c.read_rest.result ≡ reading (fields c.args.line.now) = search rules in
    record { value = e; grammar = means c.args.line.now c.read_rest.result e }
