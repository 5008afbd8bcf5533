-- The canonical model read off tables: what they tell of roles, marks and names, and what a structure that
-- looks them up then tells of its elements.
use Rattle.std.specs.Prelude.{ℕ, ◌+◌, ◌-◌, ◌/◌, ◌%◌, ◌<◌, Bool, false, cond, not, ◌&&◌, ◌||◌, T, ◌↔◌, ◌==◌, nat_le, nat_lt}
use Rattle.league.specs.Roles.{inverse, code}
use Rattle.league.specs.declared.facts.Fact.{Fact}
use Rattle.league.specs.declared.facts.Kind.{Kind}
use Rattle.league.specs.declared.roles.Mark.{Mark}
use Rattle.league.specs.declared.roles.Mark.TheVariants.{Is, Has}
use Rattle.league.specs.declared.roles.Role.{Role}
use Rattle.rules.specs.Codes.{role_of}
use Rattle.rules.specs.Follows.{Below, Implies}
use Rattle.rules.specs.RuleSet.{RuleSet, Proper}
use Rattle.model.specs.Canonical.{Loop, InLoop, NameGenerates, Generating}
use Rattle.model.specs.Recorded.{FactsIn, NameHas, name_of, fact_of}
use Rattle.model.specs.Rows.{some_below}
use Rattle.model.specs.Structures.{Shape, Form}

-- what the tables tell: how many names there are, which roles and marks are above one another, which marks
-- a name has and which roles it generates, which roles are generating, and which form loops
pub record Tabled : Type 0 where
  pub names : ℕ
  pub below : Role → Role → Bool
  pub implies : Mark → Mark → Bool
  pub marks : ℕ → Mark → Bool
  pub starts : ℕ → Role → Bool
  pub generating : Role → Bool
  pub loops : Role → Role → Bool
  pub in_loop : Role → Bool

-- a role of one of the 64 links: those that rules name, and the hidden ones
abbrev pub RoleRange : Role → Type 0
RoleRange R = code R < 128

-- a mark that can follow from a rule
abbrev pub MarkRange : Mark → Type 0
MarkRange (Is k) = k.0 < 64
MarkRange (Has R) = RoleRange R

-- the tables are right: each tells exactly what it is there for
pub record Right (facts : Fact → Bool) (rules : RuleSet) (t : Tabled) : Type 0 where
  pub below_is : (R S : Role) → RoleRange R → T (t.below R S) ↔ Below rules R S
  pub implies_is : (B C : Mark) → MarkRange B → T (t.implies B C) ↔ Implies rules B C
  pub marks_are : (a : ℕ) (C : Mark) → a < t.names → T (t.marks a C) ↔ NameHas facts rules (name_of a) C
  pub starts_are : (a : ℕ) (R : Role) → a < t.names → T (t.starts a R) ↔ NameGenerates t.names facts rules (name_of a) R
  pub generating_is : (R : Role) → T (t.generating R) ↔ Generating t.names facts rules R
  pub loops_are : (R S : Role) → T (t.loops R S) ↔ Loop rules R S
  pub in_loop_is : (R : Role) → T (t.in_loop R) ↔ InLoop rules R

-- the tables are right for some facts in range and some rules that a table can hold
pub record Consistent (t : Tabled) : Type 0 where
  pub facts : Fact → Bool
  pub rules : RuleSet
  pub inside : FactsIn t.names facts
  pub proper : Proper rules
  pub right : Right facts rules t

module _ (t : Tabled) where
  -- the element is a name
  abbrev pub is_name : ℕ → Bool
  is_name d = nat_lt d t.names

  -- the role of a witness, by its number
  abbrev pub role_at : ℕ → Role
  role_at d = role_of ((d - t.names) / 3)

  -- and its index
  abbrev pub index_at : ℕ → ℕ
  index_at d = (d - t.names) % 3

  -- R has a witness with the index i
  abbrev pub has_witness : Role → ℕ → Bool
  has_witness R i = t.generating R && (i == 0 || t.in_loop R)

  -- the number is that of a witness
  abbrev pub witness_at : ℕ → Bool
  witness_at d = has_witness (role_at d) (index_at d)

  -- the number has an element
  abbrev pub present_at : ℕ → Bool
  present_at d = is_name d || witness_at d

  -- U generates S
  abbrev pub generates : Role → Role → Bool
  generates U S = t.implies (Has (inverse U)) (Has S) && not (code S == code (inverse U))

  -- a step from U's witness to S's turns to the next index
  abbrev pub turns : Role → Role → Bool
  turns U S = t.loops S U && nat_le (code U) (code S)

  -- the index at which a step from U's witness i to S ends
  abbrev pub index_after : Role → ℕ → Role → ℕ
  index_after U i S = cond (t.in_loop S) (cond (turns U S) ((i + 1) % 3) i) 0

  -- a name steps to S's witness j
  abbrev pub steps_from_name : ℕ → Role → ℕ → Bool
  steps_from_name a S j = t.starts a S && j == 0

  -- a name steps to the number
  abbrev pub name_steps : ℕ → ℕ → Bool
  name_steps a e = steps_from_name a (role_at e) (index_at e)

  -- U has a witness i, and that steps to S's witness j
  abbrev pub steps_from_witness : Role → ℕ → Role → ℕ → Bool
  steps_from_witness U i S j = has_witness U i && (generates U S && j == index_after U i S)

  -- a witness steps to the number
  abbrev pub witness_steps : ℕ → ℕ → Bool
  witness_steps d e = steps_from_witness (role_at d) (index_at d) (role_at e) (index_at e)

  -- d steps to e
  abbrev pub step_at : ℕ → ℕ → Bool
  step_at d e = cond (is_name e) false (cond (is_name d) (name_steps d e) (witness_steps d e))

  -- by the role
  abbrev pub by_at : Role → ℕ → ℕ → Bool
  by_at R d e = step_at d e && t.below (role_at e) R

  -- the element is of the kind
  abbrev pub kind_at : Kind → ℕ → Bool
  kind_at k d = cond (is_name d) (t.marks d (Is k)) (witness_at d && t.implies (Has (inverse (role_at d))) (Is k))

  -- a link fact joins the names by the role S, and that is below R
  abbrev pub joined_by : (Fact → Bool) → Role → ℕ → ℕ → Role → Bool
  joined_by facts R a b S = t.below S R && facts (fact_of S (name_of a) (name_of b))

  -- the same, of the role with a code
  abbrev pub name_fact : (Fact → Bool) → Role → ℕ → ℕ → ℕ → Bool
  name_fact facts R a b c = joined_by facts R a b (role_of c)

  -- a link fact joins the names by a role below R; facts have links below 32, whose roles have the codes below 64
  abbrev pub names_at : (Fact → Bool) → Role → ℕ → ℕ → Bool
  names_at facts R a b = some_below 64 (name_fact facts R a b)

  -- R joins d to e
  abbrev pub joins_at : (Fact → Bool) → Role → ℕ → ℕ → Bool
  joins_at facts R d e = cond (is_name d && is_name e) (names_at facts R d e) (by_at R d e || by_at (inverse R) e d)

  abbrev pub tabled_shape : (Fact → Bool) → Shape
  tabled_shape facts = record {
    size = t.names + 384;
    present = present_at;
    nameable = t.names;
    kind = kind_at;
    joins = joins_at facts;
  }

  abbrev pub tabled_form : Form
  tabled_form = record { names = t.names; step = step_at; by = by_at }
