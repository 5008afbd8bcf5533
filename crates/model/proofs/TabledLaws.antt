-- Tables that are right for some facts and rules tell a model, whatever facts join its names.
use Rattle.std.proofs.Common.{◌≡◌, ℕ, zero, suc, ◌+◌, ◌<◌, Bool, true, false, cond, ◌&&◌, ◌||◌, T, ◌⊎◌, ◌↔◌, sym, refl, ap, ◌∙◌, subst, inl, inr, arith, ltb→lt, lt→ltb}
use mathlib.Core.HLevel.{×_prop, ⊥_prop}
use mathlib.Core.Logic.{∥∥₁_elim, ∥∥₁_map}
use native.Mathlib.Bridge.{le_prop}
use native.Mathlib.Decide.{dec_lt}
use base.Stored.{Coded-set, coded_bool}
use lib.Dec.{T_prop}
use Rattle.graph.specs.Paths.{Star}
use Rattle.league.specs.Roles.{inverse, code}
use Rattle.league.specs.declared.facts.Fact.{Fact}
use Rattle.league.specs.declared.roles.Role.{Role}
use Rattle.league.specs.declared.roles.Role.TheVariants.{Forward, Backward}
use Rattle.rules.specs.Codes.{role_of}
use Rattle.rules.proofs.Coded.{code_role, role_of_code}
use Rattle.rules.proofs.Marked.{T_true, turn_turn}
use Rattle.model.specs.Recorded.{name_of, fact_of}
use Rattle.model.specs.Rows.{some_below}
use Rattle.model.specs.Structures.{Lawful, StepsBy, BothNames, Reaches}
use Rattle.model.specs.Tabled.{Tabled, Consistent, is_name, present_at, name_steps, witness_steps, step_at, by_at, name_fact, names_at, joins_at, tabled_shape, tabled_form}
use Rattle.model.proofs.CanonicalLaws.{canonical_lawful}
use Rattle.model.proofs.Completion.{tabled_completes}
use Rattle.model.proofs.Least.{found}
use Rattle.model.proofs.Roles.{below-inverse}
use Rattle.model.proofs.Searches.{some_found, some_at}
use Rattle.model.proofs.Tests.{and_both, both_and, or_either, or_left, or_right, is_false, same_test}

told : {A : Type 0} (b : Bool) → (T b ↔ A) → Dec A
told true h = yes (h.0 tt)
told false h = no h.1

module _ (t : Tabled) where
  -- the laws, with the facts that the tables are right for
  lawful_own : (c : Consistent t) → Lawful (tabled_shape t c.facts) (tabled_form t)
  lawful_own c =
      canonical_lawful t.names c.facts c.rules _ _ c.inside c.proper
      (record {
        loop = λ R S. told (t.loops R S) (c.right.loops_are R S);
        in_loop = λ R. told (t.in_loop R) (c.right.in_loop_is R);
      })
      (tabled_completes c.facts c.rules t c.inside c.proper c.right)

  -- what is reached from a name within so many steps
  within : ℕ → ℕ → Bool
  within zero e = is_name t e
  within (suc k) e = within k e || some_below (t.names + 384) (λ d. within k d && step_at t d e)

  within_path : (k e : ℕ) → T (within k e) → (a : ℕ) × (a < t.names) × Reaches (tabled_form t) a e
  unfolding within
  within_path zero e h = (e, ltb→lt e t.names h, Star.here)
  within_path (suc k) e h = elim (or_either (within k e) _ h) [
    | inl g ↦ within_path k e g
    | inr g ↦
        let p = some_found (t.names + 384) (λ d. within k d && step_at t d e) g in
        let q = and_both (within k p.0) _ p.2 in
        let r = within_path k p.0 q.0 in
        (r.0, r.1, Star.then r.2 q.1)
  ]

  path_within : (c : Consistent t) {a e : ℕ} → a < t.names → Reaches (tabled_form t) a e → T (present_at t e) × ((k : ℕ) × T (within k e))
  unfolding within
  path_within c {a} l Star.here = ((lawful_own c).names_present a l, (zero, lt→ltb a t.names l))
  path_within c l (Star.then {b = d} {c = e} p s) =
      let r = path_within c l p in (
        (lawful_own c).step_present d e r.0 s,
        (
          suc r.1.0,
          or_right (within r.1.0 e) _
              (some_at (t.names + 384) (λ x. within r.1.0 x && step_at t x e) d ((lawful_own c).present_below d r.0) (both_and (within r.1.0 d) _ r.1.1 s)),
        ),
      )

  module _ (facts : Fact → Bool) (right : ∥ Consistent t ∥₁) where
    -- joins of elements that are not both names are by steps
    not_both : (R : Role) (d e : ℕ) → (is_name t d && is_name t e) ≡ false → (other : Fact → Bool) → joins_at t other R d e ≡ (by_at t R d e || by_at t (inverse R) e d)
    not_both R d e f other = ap (λ b. cond b (names_at t other R d e) (by_at t R d e || by_at t (inverse R) e d)) f

    -- either both are names, or not
    sides : (d e : ℕ) → (((is_name t d && is_name t e) ≡ true) × BothNames (tabled_form t) d e) ⊎ ((is_name t d && is_name t e) ≡ false)
    sides d e = go (is_name t d && is_name t e) refl
      where
        go : (b : Bool) → (is_name t d && is_name t e) ≡ b → (((is_name t d && is_name t e) ≡ true) × BothNames (tabled_form t) d e) ⊎ ((is_name t d && is_name t e) ≡ false)
        go true h = let p = and_both (is_name t d) (is_name t e) (subst T (sym h) tt) in inl (h, (ltb→lt d t.names p.0, ltb→lt e t.names p.1))
        go false h = inr h

    -- a step ends at no name
    far : (d e : ℕ) → T (step_at t d e) → is_name t e ≡ false
    far d e s = is_false (is_name t e) (λ n. subst (λ b. T (cond b false (cond (is_name t d) (name_steps t d e) (witness_steps t d e)))) (T_true _ n) s)

    and_false : (a b : Bool) → b ≡ false → (a && b) ≡ false
    and_false true b h = h
    and_false false b h = refl

    same-joins : (R : Role) (d e : ℕ) → (is_name t d && is_name t e) ≡ false → (c : Consistent t) → joins_at t facts R d e ≡ joins_at t c.facts R d e
    same-joins R d e f c = not_both R d e f facts ∙ sym (not_both R d e f c.facts)

    fact_back : (S : Role) (a b : ℕ) → T (facts (fact_of S (name_of a) (name_of b))) → T (facts (fact_of (inverse S) (name_of b) (name_of a)))
    fact_back (Forward l) a b h = h
    fact_back (Backward l) a b h = h

    code_back : (S : Role) → code S < 64 → code (inverse S) < 64
    code_back (Forward l) h = omega arith
    code_back (Backward l) h = omega arith

    -- a link fact below R joins the names the other way round by its inverse
    names_back : (c : Consistent t) (R : Role) (a b : ℕ) → T (names_at t facts R a b) → T (names_at t facts (inverse R) b a)
    names_back c R a b h =
        let p = some_found 64 (name_fact t facts R a b) h in
        let S : Role = role_of p.0 in
        let q = and_both (t.below S R) _ p.2 in
        let small : code S < 64 = omega (arith, code_role p.0, p.1) in
        let back : code (inverse S) < 64 = code_back S small in
        let r = (c.right.below_is S R (omega arith)).0 q.0 in
        some_at 64 (name_fact t facts (inverse R) b a) (code (inverse S)) back
        (subst (λ X. T (t.below X (inverse R) && facts (fact_of X (name_of b) (name_of a)))) (sym (role_of_code (inverse S)))
        (both_and (t.below (inverse S) (inverse R)) _ ((c.right.below_is (inverse S) (inverse R) (omega arith)).1 (below-inverse c.rules r)) (fact_back S a b q.1)))

    both_back : (c : Consistent t) (R : Role) (d e : ℕ) → BothNames (tabled_form t) d e → T (joins_at t facts R d e) → T (joins_at t facts (inverse R) e d)
    both_back c R d e p h =
        let m = T_true _ (lt→ltb d t.names p.0) in
        let n = T_true _ (lt→ltb e t.names p.1) in
        let here : joins_at t facts R d e ≡ names_at t facts R d e = λ i. cond (m i && n i) (names_at t facts R d e) (by_at t R d e || by_at t (inverse R) e d) in
        let there : joins_at t facts (inverse R) e d ≡ names_at t facts (inverse R) e d = λ i. cond (n i && m i) (names_at t facts (inverse R) e d) (by_at t (inverse R) e d || by_at t (inverse (inverse R)) d e) in
        subst T (sym there) (names_back c R d e (subst T here h))

    swapped : (d e : ℕ) → (is_name t d && is_name t e) ≡ false → (is_name t e && is_name t d) ≡ false
    swapped d e f = go (is_name t d) (is_name t e) f
      where
        go : (a b : Bool) → (a && b) ≡ false → (b && a) ≡ false
        go true true h = h
        go true false h = refl
        go false true h = refl
        go false false h = refl

    joins_back_lem : (c : Consistent t) (R : Role) (d e : ℕ) → T (joins_at t facts R d e) → T (joins_at t facts (inverse R) e d)
    joins_back_lem c R d e h = elim (sides d e) [
      | inl p ↦ both_back c R d e p.1 h
      | inr f ↦ subst T (sym (same-joins (inverse R) e d (swapped d e f) c)) (subst T (sym ((lawful_own c).joins_back R d e)) (subst T (same-joins R d e f c) h))
    ]

    joined_by_step_lem : (R : Role) (d e : ℕ) → T (joins_at t facts R d e) → BothNames (tabled_form t) d e ⊎ (StepsBy (tabled_form t) R d e ⊎ StepsBy (tabled_form t) (inverse R) e d)
    joined_by_step_lem R d e h = elim (sides d e) [
      | inl p ↦ inl p.1
      | inr f ↦ inr (elim (or_either (by_at t R d e) _ (subst T (not_both R d e f facts) h)) [
        | inl g ↦ inl ((and_both (step_at t d e) _ g).0, g)
        | inr g ↦ inr ((and_both (step_at t e d) _ g).0, g)
      ])
    ]

    pub tabled_lawful : Lawful (tabled_shape t facts) (tabled_form t)
    tabled_lawful = record {
      names_nameable = refl;
      names_present = λ a l. or_left (is_name t a) _ (lt→ltb a t.names l);
      present_below = λ d p. ∥∥₁_elim right le_prop (λ c. (lawful_own c).present_below d p);
      kind_present = λ k d h. ∥∥₁_elim right (T_prop _) (λ c. (lawful_own c).kind_present k d h);
      joins_present = λ R d e h. elim (sides d e) [
        | inl p ↦ (or_left (is_name t d) _ (lt→ltb d t.names p.1.0), or_left (is_name t e) _ (lt→ltb e t.names p.1.1))
        | inr f ↦ ∥∥₁_elim right (×_prop (T_prop _) (T_prop _)) (λ c. (lawful_own c).joins_present R d e (subst T (same-joins R d e f c) h))
      ];
      joins_back = λ R d e. ∥∥₁_elim right (Coded-set coded_bool _ _) (λ c.
          same_test _ _ (λ h. subst (λ S. T (joins_at t facts S d e)) (turn_turn R) (joins_back_lem c (inverse R) e d h)) (joins_back_lem c R d e));
      step_present = λ d e p s. ∥∥₁_elim right (T_prop _) (λ c. (lawful_own c).step_present d e p s);
      joined_by_step = λ R d e _ _ h. joined_by_step_lem R d e h;
      step_joins = λ R d e p s. subst T (sym (not_both R d e (and_false (is_name t d) (is_name t e) (far d e s.0)) facts)) (or_left (by_at t R d e) _ s.1);
      step_to_no_name = λ d e p s. elim (dec_lt e t.names) [ yes l ↦ absurd (subst T (far d e s) (lt→ltb e t.names l)) | no n ↦ omega arith ];
      no_step_back = λ R d e p q s u. ∥∥₁_elim right ⊥_prop (λ c. (lawful_own c).no_step_back R d e p q s u);
      reached = λ e p.
          let x = found (λ k. within k e) (∥∥₁_map right (λ c. let r = (lawful_own c).reached e p in (path_within c r.1 r.2).1)) in
          within_path x.0 e x.1;
    }
