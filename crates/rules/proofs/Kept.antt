-- What every rule table keeps has one proof at most, so that a table can promise it.
use mathlib.Core.Logic.{∥∥₁_elim}
use native.Mathlib.Bridge.{le_prop}
use base.Stored.{Coded-set, coded_ℕ, coded_bool}
use Rattle.league.specs.declared.roles.Mark.{Mark}
use Rattle.league.specs.declared.roles.Mark.TheVariants.{Is, Has}
use Rattle.league.specs.declared.rules.Rule.{Rule}
use Rattle.league.specs.declared.rules.Rule.TheVariants.{Inclusion, Exclusion, Required, RoleInclusion}
use Rattle.rules.specs.Marks.{MarkIn}
use Rattle.rules.specs.RuleSet.{RuleSet, RuleIn, Proper}
use Rattle.rules.specs.Tables.{means}
use Rattle.rules.specs.declared.table.RuleTable.{RuleTable}

mark_prop : (B : Mark) → IsProp (MarkIn B)
mark_prop (Is k) = le_prop
mark_prop (Has R) = le_prop

rule_prop : (r : Rule) → IsProp (RuleIn r)
rule_prop (Inclusion B C) x y = λ i. (mark_prop B x.0 y.0 i, mark_prop C x.1 y.1 i)
rule_prop (Exclusion B C) x y = λ i. (mark_prop B x.0 y.0 i, mark_prop C x.1 y.1 i)
rule_prop (Required B R k) x y = λ i. (mark_prop B x.0 y.0 i, le_prop x.1 y.1 i, le_prop x.2 y.2 i)
rule_prop (RoleInclusion R S) x y = λ i. (le_prop x.0 y.0 i, le_prop x.1 y.1 i)

pub proper_prop : (s : RuleSet) → IsProp (Proper s)
proper_prop s x y =
    λ i. record {
      rules_in = λ r t. rule_prop r (x.rules_in r t) (y.rules_in r t) i;
      exchanged = λ B C. Coded-set coded_bool _ _ (x.exchanged B C) (y.exchanged B C) i;
      turned = λ R S. Coded-set coded_bool _ _ (x.turned R S) (y.turned R S) i;
      paired = λ B R k t. le_prop (x.paired B R k t) (y.paired B R k t) i;
      pairs_few = le_prop x.pairs_few y.pairs_few i;
      pairs_in = λ n p e. (le_prop (x.pairs_in n p e).0 (y.pairs_in n p e).0 i, le_prop (x.pairs_in n p e).1 (y.pairs_in n p e).1 i);
      pairs_apart = λ m n p e f. Coded-set coded_ℕ _ _ (x.pairs_apart m n p e f) (y.pairs_apart m n p e f) i;
    }

-- what a rule table keeps
pub table_proper : (t : RuleTable) → Proper (means t)
table_proper t = ∥∥₁_elim t.proper (proper_prop (means t)) (λ p. p)
