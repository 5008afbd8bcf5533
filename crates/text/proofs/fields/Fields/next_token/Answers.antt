use Rattle.std.proofs.Common.{refl, ap, ◌∙◌, arith}
use Rattle.std.proofs.lemmas.Bool.Decides.{nat_tests}
use Rattle.text.specs.Tokens.{left}
use Rattle.text.proofs.Cuts.{fields_split}
use Rattle.text.proofs.fields.Fields.next_token.Goals as goal

pub returns : goal.returns
returns c =
    let r = c.split_at_first.result in
    (refl, ap left c.in-Some.is ∙ fields_split c.in-Some.rest.now r.0 r.1 c.split_at_first.ensures, refl, grind (arith, nat_tests))
