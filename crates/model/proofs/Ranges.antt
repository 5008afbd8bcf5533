-- What follows stays among 64 kinds and 64 links; so the loops can be told from tables over those.
use Rattle.std.proofs.Common.{◌≡◌, ℕ, zero, suc, ◌<◌, Bool, T, ltb, List, [], ◌∷◌, length, Some, sym, refl, ap, ◌∙◌, subst, arith, ltb→lt}
use native.Mathlib.Decide.{dec_lt}
use Rattle.std.specs.List.{slice_get}
use Rattle.league.specs.Roles.{inverse, code}
use Rattle.league.specs.declared.facts.Fact.{Fact}
use Rattle.league.specs.declared.facts.Fact.TheVariants.{Joins}
use Rattle.league.specs.declared.facts.Kind.{Kind}
use Rattle.league.specs.declared.facts.Link.{Link}
use Rattle.league.specs.declared.facts.Name.{Name}
use Rattle.league.specs.declared.roles.Mark.{Mark}
use Rattle.league.specs.declared.roles.Mark.TheVariants.{Is, Has}
use Rattle.league.specs.declared.roles.Role.{Role}
use Rattle.league.specs.declared.roles.Role.TheVariants.{Forward, Backward}
use Rattle.graph.specs.Paths.{Star}
use Rattle.rules.specs.Follows.{Hides, Below, Implies, RoleEdge, MarkEdge, hidden}
use Rattle.rules.specs.Marks.{KindIn, RoleIn, MarkIn}
use Rattle.rules.specs.RuleSet.{RuleSet, Proper}
use Rattle.rules.specs.declared.pair.Pair.{Pair}
use Rattle.rules.proofs.Coded.{code_role, role_of_code}
use Rattle.rules.proofs.Marked.{turn_turn, T_true, true_T}
use Rattle.model.specs.Canonical.{Generating, Loop, InLoop, Decided}
use Rattle.rules.specs.Codes.{role_of}
use Rattle.model.specs.Recorded.{FactsIn, Given, Recorded, NameHas}
use Rattle.model.specs.Tabled.{RoleRange, MarkRange}
use Rattle.model.proofs.Roles.{same_role_lem}
use Rattle.model.proofs.Tests.{and_both}

pub in_small : (R : Role) → RoleIn R → RoleRange R
in_small (Forward l) h = omega arith
in_small (Backward l) h = omega arith

pub in_inverse : (R : Role) → RoleRange R → RoleRange (inverse R)
in_inverse (Forward l) h = omega arith
in_inverse (Backward l) h = omega arith

mark_small : (B : Mark) → MarkIn B → MarkRange B
mark_small (Is k) h = h
mark_small (Has R) h = in_small R h

-- what stands at a place of a list stands before its end
nth_in : (ps : List Pair) (i : ℕ) (p : Pair) → slice_get ps i ≡ Some p → i < length ps
nth_in [] i p e = let z : ◌≡◌ {A = ℕ} 0 1 = cc in omega arith
nth_in (q ∷ ps) zero p e = omega arith
nth_in (q ∷ ps) (suc i) p e = omega (arith, nth_in ps i p e)

module _ (rules : RuleSet) (proper : Proper rules) where
  hidden_in : (i : ℕ) (R : Role) (k : Kind) → Hides rules i R k → RoleRange (Forward (hidden i)) × RoleRange (Backward (hidden i)) × RoleRange R × KindIn k
  hidden_in i R k h =
      let n = nth_in rules.pairs i _ h in
      let f = proper.pairs_few in
      let p = proper.pairs_in i _ h in
      (omega arith, omega arith, in_small R p.0, p.1)

  edge_in : {R S : Role} → RoleEdge rules R S → RoleRange R × RoleRange S
  edge_in (RoleEdge.under U V h) = let p = proper.rules_in _ h in (in_small U p.0, in_small V p.1)
  edge_in (RoleEdge.under⁻ U V h) = let p = proper.rules_in _ h in (in_inverse U (in_small U p.0), in_inverse V (in_small V p.1))
  edge_in (RoleEdge.hides i U k h) = let p = hidden_in i U k h in (p.0, p.2)
  edge_in (RoleEdge.hides⁻ i U k h) = let p = hidden_in i U k h in (p.1, in_inverse U p.2)

  pub below_in : {R S : Role} → Below rules R S → RoleRange R → RoleRange S
  below_in Star.here i = i
  below_in (Star.then p e) i = (edge_in e).1

  pub below_out : {R S : Role} → Below rules R S → (RoleRange R → ⊥) → R ≡ S
  below_out Star.here n = refl
  below_out (Star.then {b = U} p e) n = absurd (n (subst RoleRange (sym (below_out p n)) (edge_in e).0))

  -- an edge from a mark in range ends in range, and from another it goes nowhere else
  mark_edge_in : {B C : Mark} → MarkEdge rules B C → (MarkRange B → MarkRange C) × ((MarkRange B → ⊥) → B ≡ C)
  mark_edge_in (MarkEdge.includes B C h) = let p = proper.rules_in _ h in (λ _. mark_small C p.1, λ n. absurd (n (mark_small B p.0)))
  mark_edge_in (MarkEdge.needs B i R k h s) = let p = proper.rules_in _ h in (λ _. (hidden_in i R k s).0, λ n. absurd (n (mark_small B p.0)))
  mark_edge_in (MarkEdge.lands i R k s) = (λ _. (hidden_in i R k s).3, λ n. absurd (n (hidden_in i R k s).1))
  mark_edge_in (MarkEdge.lifts R S h) = (below_in h, λ n. ap {B = Mark} Has (below_out h n))

  pub implies_in : {B C : Mark} → Implies rules B C → MarkRange B → MarkRange C
  implies_in Star.here i = i
  implies_in (Star.then p e) i = (mark_edge_in e).0 (implies_in p i)

  pub implies_out : {B C : Mark} → Implies rules B C → (MarkRange B → ⊥) → B ≡ C
  implies_out Star.here n = refl
  implies_out (Star.then p e) n = let q = implies_out p n in q ∙ (mark_edge_in e).1 (λ i. n (subst MarkRange (sym q) i))

  abbrev role_in : Mark → Role → Role
  role_in (Is k) R = R
  role_in (Has S) R = S

  pub loop_in : (R S : Role) → Loop rules R S → RoleRange R × RoleRange S
  loop_in R S h = elim (dec_lt (code R) 128) [
    | yes i ↦ (i, implies_in h.1 (in_inverse R i))
    | no n ↦ absurd (h.0 (sym (turn_turn R) ∙ ap inverse (ap (λ M. role_in M R) (implies_out h.1 (λ i. n (subst RoleRange (turn_turn R) (in_inverse _ i)))))))
  ]

  -- a search below n
  some_below_lem : (n : ℕ) (Q : ℕ → Type 0) → ((c : ℕ) → c < n → Dec (Q c)) → Dec ((c : ℕ) × (c < n) × Q c)
  some_below_lem zero Q d = no (λ p. omega (arith, p.1))
  some_below_lem (suc n) Q d = elim (d n (omega arith)) [
    | yes q ↦ yes (n, omega arith, q)
    | no u ↦ elim (some_below_lem n Q (λ c h. d c (omega arith))) [
      | yes p ↦ yes (p.0, omega (arith, p.1), p.2)
      | no v ↦ no (λ p. elim (dec_lt p.0 n) [ yes l ↦ v (p.0, l, p.2) | no g ↦ let e : p.0 ≡ n = omega (arith, p.1) in u (subst Q e p.2) ])
    ]
  ]

  pub some_role : (Q : Role → Type 0) → ((R : Role) → RoleRange R → Dec (Q R)) → ((R : Role) → Q R → RoleRange R) → Dec ((R : Role) × Q R)
  some_role Q d i = elim (some_below_lem 128 (λ c. Q (role_of c)) (λ c h. d (role_of c) (omega (arith, code_role c)))) [
    | yes p ↦ yes (role_of p.0, p.2)
    | no n ↦ no (λ p. n (code p.0, i p.0 p.1, subst Q (sym (role_of_code p.0)) p.1))
  ]

  -- what tables over 128 roles and 64 kinds tell
  pub record Tables : Type 0 where
    pub below : (R S : Role) → RoleRange R → RoleRange S → Dec (Below rules R S)
    pub implies : (B C : Mark) → MarkRange B → MarkRange C → Dec (Implies rules B C)

  pub decided : Tables → Decided rules
  decided t = record { loop = loop; in_loop = some_loop }
    where
      near : (R S : Role) → RoleRange R → RoleRange S → Dec (Loop rules R S)
      near R S i j = elim (same_role_lem R (inverse S)) [
        | yes e ↦ no (λ h. h.0 e)
        | no n ↦ elim (t.implies (Has (inverse R)) (Has S) (in_inverse R i) j) [
          | no u ↦ no (λ h. u h.1)
          | yes a ↦ elim (t.implies (Has (inverse S)) (Has R) (in_inverse S j) i) [
            | no u ↦ no (λ h. u h.2)
            | yes b ↦ elim (some_role (λ U. Below rules (inverse S) U × Below rules R U) both (λ U h. below_in h.1 i)) [
              | no u ↦ no (λ h. u (h.3.0, (h.3.1, h.3.2)))
              | yes p ↦ yes (n, a, b, (p.0, p.1.0, p.1.1))
            ]
          ]
        ]
      ]
        where
          both : (U : Role) → RoleRange U → Dec (Below rules (inverse S) U × Below rules R U)
          both U k = elim (t.below (inverse S) U (in_inverse S j) k) [
            | no u ↦ no (λ h. u h.0)
            | yes a ↦ elim (t.below R U i k) [ no u ↦ no (λ h. u h.1) | yes b ↦ yes (a, b) ]
          ]

      loop : (R S : Role) → Dec (Loop rules R S)
      loop R S = elim (dec_lt (code R) 128) [
        | no n ↦ no (λ h. n (loop_in R S h).0)
        | yes i ↦ elim (dec_lt (code S) 128) [ no n ↦ no (λ h. n (loop_in R S h).1) | yes j ↦ near R S i j ]
      ]

      some_loop : (R : Role) → Dec (InLoop rules R)
      some_loop R = some_role (Loop rules R) (λ S _. loop R S) (λ S h. (loop_in R S h).1)

module _ (P : ℕ) (facts : Fact → Bool) (inside : FactsIn P facts) where
  link_in : (l : Link) (a b : Name) → T (facts (Joins l a b)) → l.0 < 32
  link_in l a b r = ltb→lt l.0 32 (and_both (ltb l.0 32) _ (true_T _ (inside _ (T_true _ r)))).0

  -- a recorded partner is by a role of a link below 32
  pub recorded_small : (a : Name) (R : Role) (b : Name) → Recorded facts R a b → code R < 64
  recorded_small a (Forward l) b r = omega (arith, link_in l a b r)
  recorded_small a (Backward l) b r = omega (arith, link_in l b a r)

  pub given_in : (a : Name) {B : Mark} → Given facts a B → MarkRange B
  given_in a (Given.of_kind k g) = ltb→lt k.0 64 (and_both (ltb k.0 64) _ (true_T _ (inside _ (T_true _ g)))).0
  given_in a (Given.partner R b g) = omega (arith, recorded_small a R b g)

module _ (P : ℕ) (facts : Fact → Bool) (rules : RuleSet) (inside : FactsIn P facts) (proper : Proper rules) where
  pub name_in : (a : Name) (C : Mark) → NameHas facts rules a C → MarkRange C
  name_in a C h = implies_in rules proper h.2 (given_in P facts inside a h.1)

  pub generating_in : {R : Role} → Generating P facts rules R → RoleRange R
  generating_in (Generating.from_name a R s) = name_in a (Has R) s.1
  generating_in (Generating.from_role R S l h) = implies_in rules proper h.0 (in_inverse R (generating_in l))
