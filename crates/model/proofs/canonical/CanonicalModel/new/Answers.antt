use Rattle.std.proofs.Common.{refl}
use Rattle.model.proofs.Built.{built_few, built_right, built_whole, built_clash}
use Rattle.model.proofs.canonical.CanonicalModel.new.Goals as goal

pub invariant_of-result : goal.invariant_of-result
invariant_of-result g c =
    let store = c.args.store.now in
    let h = g.S.Store.means store in
    let e = c.tables_of-tables.ensures in
    record {
      few = built_few h (g.S.Store.sound store) c.args.rules.now c.tables_of-tables.result c.args.consequences.now e.same c.requires e.made;
      right = ∣ built_right h (g.S.Store.sound store) c.args.rules.now c.tables_of-tables.result c.args.consequences.now e.same c.requires e.made ∣₁;
    }

pub returns : goal.returns
returns g c =
    let store = c.args.store.now in
    let e = c.tables_of-tables.ensures in
    record {
      store = refl;
      rules = refl;
      whole = built_whole (g.S.Store.means store) (g.S.Store.sound store) c.args.rules.now c.tables_of-tables.result c.args.consequences.now e.same c.requires e.made;
      clash = built_clash (g.S.Store.means store) (g.S.Store.sound store) c.args.rules.now c.tables_of-tables.result c.args.consequences.now e.same c.requires e.made;
    }
