-- The canonical model of facts and rules: the names, and witnesses for the partners that the rules require.
use Rattle.std.specs.Prelude.{◌≡◌, ℕ, ◌+◌, ◌%◌, ◌<◌, Bool, T, ◌⊎◌, ◌↔◌, ◌≢◌}
use Rattle.league.specs.Roles.{inverse, code}
use Rattle.league.specs.declared.facts.Fact.{Fact}
use Rattle.league.specs.declared.facts.Kind.{Kind}
use Rattle.league.specs.declared.facts.Name.{Name}
use Rattle.league.specs.declared.roles.Mark.{Mark}
use Rattle.league.specs.declared.roles.Mark.TheVariants.{Is, Has}
use Rattle.league.specs.declared.roles.Role.{Role}
use Rattle.league.specs.declared.rules.Rule.TheVariants.{Exclusion}
use Rattle.rules.specs.Follows.{Below, Implies}
use Rattle.rules.specs.RuleSet.{RuleSet, Proper}
use Rattle.model.specs.Elements.{Element, element_of}
use Rattle.model.specs.Recorded.{FactsIn, Recorded, NameHas}
use Rattle.model.specs.Structures.{Shape, Form, Lawful}

module _ (rules : RuleSet) where
  -- R generates S: what R leads to has a partner by S, other than the one it was led to from
  abbrev pub RoleGenerates : Role → Role → Type 0
  RoleGenerates R S = Implies rules (Has (inverse R)) (Has S) × (S ≢ inverse R)

  -- R and S, perhaps equal, form a loop: each generates the other, and some role is above both S⁻ and R,
  -- so that a step by R and a step by S could be taken for one step and its way back
  abbrev pub Loop : Role → Role → Type 0
  Loop R S =
      (R ≢ inverse S)
      × Implies rules (Has (inverse R)) (Has S)
      × Implies rules (Has (inverse S)) (Has R)
      × ((U : Role) × Below rules (inverse S) U × Below rules R U)

  -- R forms a loop with some role
  abbrev pub InLoop : Role → Type 0
  InLoop R = (S : Role) × Loop R S

  -- a step from U's witness to S's turns to the next index: they form a loop, and S is U or U comes first
  abbrev pub Turns : Role → Role → Type 0
  Turns U S = Loop S U × ((S ≡ U) ⊎ (code U < code S))

  -- the step from U's witness i to S ends at S's witness j: 0 where S is in no loop, the next of three
  -- where the step turns, and else the same
  pub data Index (U : Role) (i : ℕ) (S : Role) (j : ℕ) : Type 0 where
    out : (InLoop S → ⊥) → j ≡ 0 → Index U i S j
    turn : Turns U S → j ≡ (i + 1) % 3 → Index U i S j
    keep : InLoop S → (Turns U S → ⊥) → j ≡ i → Index U i S j

  -- a step to the element is by R: it is a witness of a role below R
  abbrev pub By : Role → Element → Type 0
  By R (Element.named b) = ⊥
  By R (Element.witness S j) = Below rules S R

  -- it can be told which roles form loops
  pub record Decided : Type 0 where
    pub loop : (R S : Role) → Dec (Loop R S)
    pub in_loop : (R : Role) → Dec (InLoop R)

module _ (P : ℕ) (facts : Fact → Bool) (rules : RuleSet) where
  -- a name generates R: it has a partner by R, and no link fact gives it one by R itself
  abbrev pub NameGenerates : Name → Role → Type 0
  NameGenerates a R = (a.0 < P) × NameHas facts rules a (Has R) × ((b : Name) → Recorded facts R a b → ⊥)

  -- a role is generating: a name generates it, or a generating role does
  pub data Generating : Role → Type 0 where
    from_name : (a : Name) (R : Role) → NameGenerates a R → Generating R
    from_role : (R S : Role) → Generating R → RoleGenerates rules R S → Generating S

  -- an element is present: a name below P, or a witness of a generating role, with the index 0, or 1 or 2
  -- where the role is in a loop
  abbrev pub Present : Element → Type 0
  Present (Element.named a) = a.0 < P
  Present (Element.witness R i) = Generating R × (i < 3) × ((i ≡ 0) ⊎ InLoop rules R)

  -- one element steps to another: a name to the first witness of a role that it generates, and a witness
  -- to one of a role that its role generates
  abbrev pub Steps : Element → Element → Type 0
  Steps d (Element.named b) = ⊥
  Steps (Element.named a) (Element.witness S j) = NameGenerates a S × (j ≡ 0)
  Steps (Element.witness U i) (Element.witness S j) = RoleGenerates rules U S × Index rules U i S j

  -- an element has a mark: a name those that follow from its facts, a witness of R those above ∃R⁻
  abbrev pub HasMark : Element → Mark → Type 0
  HasMark (Element.named a) C = NameHas facts rules a C
  HasMark (Element.witness R i) C = Implies rules (Has (inverse R)) C

  -- R joins two names: a link fact joins them by a role below R
  abbrev pub NamesJoined : Role → Element → Element → Type 0
  NamesJoined R (Element.named a) (Element.named b) = (S : Role) × Recorded facts S a b × Below rules S R
  NamesJoined R (Element.named a) (Element.witness S j) = ⊥
  NamesJoined R (Element.witness S i) e = ⊥

  -- R joins one element to another: both are names that it joins, or there is a step by R, or one back by R⁻
  abbrev pub Joined : Role → Element → Element → Type 0
  Joined R d e = NamesJoined R d e ⊎ ((Steps d e × By rules R e) ⊎ (Steps e d × By rules (inverse R) d))

  -- a clash: some present element has both marks of an accepted exclusion
  pub record Clash : Type 0 where
    pub one : Mark
    pub other : Mark
    pub excluded : T (rules.rules (Exclusion one other))
    pub holder : Element
    pub present : Present holder
    pub has_one : HasMark holder one
    pub has_other : HasMark holder other

  -- a structure with names and steps is exactly the canonical model, number by number; a number without an
  -- element is of no kind, joined to nothing, and steps to nothing
  pub record Completes (s : Shape) (f : Form) : Type 0 where
    pub names_are : f.names ≡ P
    pub nameable_is : s.nameable ≡ P
    pub size_is : s.size ≡ P + 384
    pub present_is : (d : ℕ) → T (s.present d) ↔ Present (element_of P d)
    pub kinds_are : (k : Kind) (d : ℕ) → T (s.kind k d) ↔ (Present (element_of P d) × HasMark (element_of P d) (Is k))
    pub joins_are : (R : Role) (d e : ℕ)
        → T (s.joins R d e) ↔ (Present (element_of P d) × Present (element_of P e) × Joined R (element_of P d) (element_of P e))
    pub steps_are : (d e : ℕ) → T (f.step d e) ↔ (Present (element_of P d) × Steps (element_of P d) (element_of P e))
    pub by_is : (R : Role) (d e : ℕ) → T (f.by R d e) ↔ (T (f.step d e) × By rules R (element_of P e))

-- the canonical model of recorded facts in range and of rules that a table holds keeps the laws of a model
abbrev pub CanonicalLawful : Type 0
CanonicalLawful = (P : ℕ) (facts : Fact → Bool) (rules : RuleSet) (s : Shape) (f : Form)
    → FactsIn P facts → Proper rules → Decided rules → Completes P facts rules s f → Lawful s f
