use Rattle.std.proofs.Common.{rules, refl, ◌∙◌}
use Rattle.rules.specs.Codes.{mark_of}
use Rattle.rules.specs.Tables.{means}
use Rattle.model.specs.Clashes.{mark_clashes}
use Rattle.model.specs.LookedUp.{tabled}
use Rattle.model.proofs.ClashTests.{clash_marks}
use Rattle.model.proofs.Searches.{some_any}
use Rattle.model.proofs.canonical.CanonicalModel.clash.Goals as goal

pub returns : goal.returns
returns g c =
    let m = c.args.self.now in
    some_any (λ b. mark_clashes (tabled m.tables) (means m.rules.now).rules (mark_of b)) c.any.ensures.runs refl refl (λ x b h k. search rules) ∙ clash_marks _ _
