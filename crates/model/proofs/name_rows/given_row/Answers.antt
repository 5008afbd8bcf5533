use Rattle.std.proofs.Common.{◌&&◌, rules, ltb, arith}
use Rattle.model.specs.Given.{given_at}
use Rattle.model.proofs.Searches.{filled_by, filled_low}
use Rattle.model.proofs.name_rows.given_row.Goals as goal

pub returns : goal.returns
returns g c =
    let q = given_at (g.S.Store.means c.args.store.now) c.args.name in
    filled_low c.from_fn.result q (omega arith) (filled_by (λ m. ltb m 128 && q m) c.from_fn.ensures.items (λ x b h k. search rules))
