use Rattle.std.proofs.Common.{◌∙◌, refl, rules, arith}
use borrow.Author.Tests.{tests}
use Rattle.std.proofs.lemmas.Iterator.{YieldsList-from_range}
use Rattle.std.proofs.lemmas.Iterator.Search.{all_from_yields_List}
use Rattle.league.specs.Filling.{mentioned}
use Rattle.league.proofs.Covering.{covered_range}
use Rattle.league.proofs.cover.covers.Goals as goal

pub returns : goal.returns
returns c =
    let atoms = c.args.atoms.now
    in all_from_yields_List (λ v. mentioned v atoms) _ _ _ c.all.ensures.ran (YieldsList-from_range 0 _ c.args.answers refl (omega arith))
    (λ v b f called. search (rules, tests))
    ∙ covered_range c.args.answers atoms
