use Rattle.std.proofs.Common.{rules, refl, ◌∙◌}
use Rattle.rules.specs.Flags.{flag}
use Rattle.model.proofs.Searches.{some_any, some_same}
use Rattle.model.proofs.TableRows.{flag_inside}
use Rattle.model.proofs.generating.is_started.Goals as goal

pub returns : goal.returns
returns c =
    let t = c.args.starts.now in
    some_any (λ a. flag t.cells a c.args.code) c.any.ensures.runs refl refl (λ x b h k. search rules)
    ∙ some_same c.args.names _ _ (λ a l. flag_inside t.cells 1024 128 t.tall t.wide a c.args.code)
