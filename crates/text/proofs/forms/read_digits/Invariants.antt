use Rattle.text.proofs.Digits.{Reading}
use Rattle.text.proofs.forms.read_digits.Given as goal

abbrev pub invariant-loop-digit : goal.invariant-loop-digit
invariant-loop-digit l = Reading l.digits l.digit-index l.number
