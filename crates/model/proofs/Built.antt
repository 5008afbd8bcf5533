-- The tables made of a store and a rule table's consequences: they are right, and tell the canonical model.
use Rattle.std.proofs.Common.{◌≡◌, ◌≤◌, T, ◌↔◌, sym, subst, arith}
use Rattle.rules.specs.Consequences.{Decides}
use Rattle.rules.specs.Tables.{means}
use Rattle.rules.specs.declared.consequences.Consequences.{Consequences}
use Rattle.rules.specs.declared.table.RuleTable.{RuleTable}
use Rattle.rules.proofs.Kept.{table_proper}
use Rattle.store.specs.Holding.{Holding, Sound}
use Rattle.model.specs.Canonical.{Clash, Completes}
use Rattle.model.specs.Clashes.{clash_test}
use Rattle.model.specs.LookedUp.{tabled, TablesOf}
use Rattle.model.specs.Recorded.{FactsIn}
use Rattle.model.specs.Tabled.{Consistent, tabled_shape, tabled_form}
use Rattle.model.specs.declared.canonical_tables.CanonicalTables.{CanonicalTables}
use Rattle.model.proofs.ClashTests.{clash_is}
use Rattle.model.proofs.Completion.{tabled_completes}
use Rattle.model.proofs.Rightness.{tables_right}

module _ (h : Holding) (sound : Sound h) (table : RuleTable) (t : CanonicalTables) (c : Consequences)
    (same : t.consequences.now ≡ c) (decides : Decides c (means table)) (made : TablesOf h t) where
  pub built_few : t.names ≤ 1024
  built_few = omega (arith, sound.few, made.names_are)

  pub built_right : Consistent (tabled t)
  built_right = record {
    facts = h.facts;
    rules = means table;
    inside = subst (λ n. FactsIn n h.facts) (sym made.names_are) sound.range;
    proper = table_proper table;
    right = tables_right h (means table) t made sound.range sound.few (table_proper table) (subst (λ x. Decides x (means table)) (sym same) decides);
  }

  pub built_whole : Completes h.names h.facts (means table) (tabled_shape (tabled t) h.facts) (tabled_form (tabled t))
  unfolding built_right
  built_whole =
      subst (λ n. Completes n h.facts (means table) (tabled_shape (tabled t) h.facts) (tabled_form (tabled t))) made.names_are
      (tabled_completes h.facts (means table) (tabled t) built_right.inside (table_proper table) built_right.right)

  pub built_clash : T (clash_test (tabled t) (means table).rules) ↔ Clash h.names h.facts (means table)
  unfolding built_right
  built_clash =
      subst (λ n. T (clash_test (tabled t) (means table).rules) ↔ Clash n h.facts (means table)) made.names_are
      (clash_is h.facts (means table) (tabled t) built_right.inside (table_proper table) built_right.right)
