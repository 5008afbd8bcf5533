-- What the recorded facts say of names: their partners by a role itself, and the marks that follow.
use Rattle.std.specs.Prelude.{◌≡◌, ℕ, Bool, true, T}
use Rattle.league.specs.Facts.{within}
use Rattle.league.specs.declared.facts.Fact.{Fact}
use Rattle.league.specs.declared.facts.Fact.TheVariants as fact
use Rattle.league.specs.declared.facts.Kind.{Kind}
use Rattle.league.specs.declared.facts.Name.{Name}
use Rattle.league.specs.declared.roles.Mark.{Mark}
use Rattle.league.specs.declared.roles.Mark.TheVariants as mark
use Rattle.league.specs.declared.roles.Role.{Role}
use Rattle.league.specs.declared.roles.Role.TheVariants.{Forward, Backward}
use Rattle.rules.specs.Follows.{Implies}
use Rattle.rules.specs.RuleSet.{RuleSet}

-- the name with a number
abbrev pub name_of : ℕ → Name
name_of n = record { 0 = n }

-- the link fact by which the role itself joins a to b
abbrev pub fact_of : Role → Name → Name → Fact
fact_of (Forward l) a b = fact.Joins l a b
fact_of (Backward l) a b = fact.Joins l b a

-- every recorded fact can be stated over P names
abbrev pub FactsIn : ℕ → (Fact → Bool) → Type 0
FactsIn P facts = (f : Fact) → facts f ≡ true → within P f ≡ true

module _ (facts : Fact → Bool) where
  -- a link fact gives a the partner b by the role itself
  abbrev pub Recorded : Role → Name → Name → Type 0
  Recorded R a b = T (facts (fact_of R a b))

  -- the marks that the facts give a name: a kind fact gives the kind, a link fact having a partner
  pub data Given (a : Name) : Mark → Type 0 where
    of_kind : (k : Kind) → T (facts (fact.Is k a)) → Given a (mark.Is k)
    partner : (R : Role) (b : Name) → Recorded R a b → Given a (mark.Has R)

  -- a name has every mark above a given one
  abbrev pub NameHas : RuleSet → Name → Mark → Type 0
  NameHas rules a C = (B : Mark) × Given a B × Implies rules B C
