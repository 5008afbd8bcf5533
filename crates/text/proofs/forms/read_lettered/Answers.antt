use Rattle.std.proofs.Common.{◌≡◌, None, get_or, ap, ◌∙◌, rules}
use Rattle.std.proofs.lemmas.List.{take_rest}
use Rattle.text.specs.Forms.{beside, numeral, lettered}
use Rattle.text.proofs.forms.read_lettered.Goals as goal

pub returns-in_default : goal.returns-in_default
unfolding lettered
returns-in_default c = search rules

pub returns-in_err-number : goal.returns-in_err-number
unfolding lettered
returns-in_err-number c =
    let s = c.args.part.now in
    let none : c.from_residual.result ≡ None = search rules in
    none ∙ ap (beside (get_or s 0 0)) (c.in_err-number.ensures ∙ ap numeral (take_rest s 1))

pub returns : goal.returns
unfolding lettered
returns c =
    let s = c.args.part.now in
    ap (beside (get_or s 0 0)) (c.in_ok-number.ensures ∙ ap numeral (take_rest s 1))
