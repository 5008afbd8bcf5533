-- Right tables tell exactly the canonical model.
use Rattle.std.proofs.Common.{◌≡◌, ℕ, ◌+◌, ◌%◌, ◌<◌, ◌≤◌, Bool, true, false, cond, not, ◌&&◌, ◌||◌, T, eqb, ◌⊎◌, ◌↔◌, sym, refl, ap, ◌∙◌, subst, subst₂, inl, inr, arith, le→leb, eqb→eq, ltb→lt, lt→ltb, leb→le, T_not}
use native.Mathlib.Decide.{dec_lt, ℕ_discrete}
use lib.Dec.{eqb_refl}
use Rattle.league.specs.Roles.{inverse, code}
use Rattle.league.specs.declared.facts.Fact.{Fact}
use Rattle.league.specs.declared.facts.Kind.{Kind}
use Rattle.league.specs.declared.facts.Name.{Name}
use Rattle.league.specs.declared.roles.Mark.TheVariants.{Is, Has}
use Rattle.league.specs.declared.roles.Role.{Role}
use Rattle.rules.specs.RuleSet.{RuleSet, Proper}
use Rattle.rules.specs.Codes.{role_of}
use Rattle.rules.proofs.Coded.{role_of_code}
use Rattle.rules.proofs.Marked.{T_true, true_T}
use Rattle.model.specs.Canonical.{Present, Steps, By, HasMark, Joined, NamesJoined, RoleGenerates, Turns, Index, InLoop, Completes}
use Rattle.model.specs.Elements.{Element, element_of}
use Rattle.model.specs.Recorded.{FactsIn, Recorded, name_of, fact_of}
use Rattle.model.specs.Tabled.{Tabled, Right, RoleRange, is_name, role_at, index_at, witness_at, present_at, generates, turns, index_after, name_steps, witness_steps, step_at, by_at, kind_at, names_at, joins_at, tabled_shape, tabled_form}
use Rattle.model.proofs.Numbers.{element_name, element_far}
use Rattle.model.proofs.Ranges.{generating_in, in_inverse, recorded_small}
use Rattle.model.proofs.Roles.{code_same}
use Rattle.model.proofs.Searches.{some_found, some_at}
use Rattle.model.proofs.Steps.{step_present_lem}
use Rattle.model.proofs.Tests.{and_both, both_and, or_either, or_left, or_right, is_false}

not_from : (b : Bool) → (T b → ⊥) → T (not b)
not_from true h = h tt
not_from false h = tt

module _ (facts : Fact → Bool) (rules : RuleSet) (t : Tabled) (inside : FactsIn t.names facts) (proper : Proper rules) (right : Right facts rules t) where
  abbrev element_at : ℕ → Element
  element_at = element_of t.names

  abbrev Pres : Element → Type 0
  Pres = Present t.names facts rules

  abbrev Step : Element → Element → Type 0
  Step = Steps t.names facts rules

  abbrev witness_element : ℕ → Element
  witness_element d = Element.witness (role_at t d) (index_at t d)

  near : (d : ℕ) → d < t.names → is_name t d ≡ true
  near d h = T_true _ (lt→ltb d t.names h)

  far : (d : ℕ) → t.names ≤ d → is_name t d ≡ false
  far d h = is_false _ (λ l. omega (arith, ltb→lt d t.names l))

  at_name : (d : ℕ) → d < t.names → element_at d ≡ Element.named (name_of d)
  at_name d h = element_name t.names (name_of d) h

  at_far : (d : ℕ) → t.names ≤ d → element_at d ≡ witness_element d
  at_far d h = element_far t.names d h

  -- a number is a name's, or far
  sides : (d : ℕ) → (d < t.names) ⊎ (t.names ≤ d)
  sides d = elim (dec_lt d t.names) [ yes h ↦ inl h | no n ↦ inr (omega arith) ]

  -- presence
  witness_is : (d : ℕ) → T (witness_at t d) ↔ Pres (witness_element d)
  witness_is d = (
    (λ h. let p = and_both (t.generating (role_at t d)) _ h in
        ((right.generating_is (role_at t d)).0 p.0, omega arith, elim (or_either (eqb (index_at t d) 0) _ p.1) [ inl e ↦ inl (eqb→eq _ _ e) | inr l ↦ inr ((right.in_loop_is (role_at t d)).0 l) ])),
    (λ p. both_and (t.generating (role_at t d)) _ ((right.generating_is (role_at t d)).1 p.0)
        (elim p.2 [ inl e ↦ or_left (eqb (index_at t d) 0) _ (subst (λ x. T (eqb x 0)) (sym e) tt) | inr l ↦ or_right (eqb (index_at t d) 0) _ ((right.in_loop_is (role_at t d)).1 l) ])),
  )

  present_is_lem : (d : ℕ) → T (present_at t d) ↔ Pres (element_at d)
  present_is_lem d = elim (sides d) [
    | inl h ↦ (λ _. subst Pres (sym (at_name d h)) h, λ _. or_left (is_name t d) _ (lt→ltb d t.names h))
    | inr h ↦ (
      λ p. subst Pres (sym (at_far d h)) ((witness_is d).0 (subst (λ b. T (b || witness_at t d)) (far d h) p)),
      λ p. or_right (is_name t d) _ ((witness_is d).1 (subst Pres (at_far d h) p)),
    )
  ]

  -- steps
  generates_is : (U S : Role) → RoleRange U → T (generates t U S) ↔ RoleGenerates rules U S
  generates_is U S i = (
    (λ h. let p = and_both (t.implies (Has (inverse U)) (Has S)) _ h in
        ((right.implies_is (Has (inverse U)) (Has S) (in_inverse U i)).0 p.0, λ e. T_not _ p.1 (subst (λ R. T (eqb (code R) (code (inverse U)))) (sym e) (eqb_refl (code (inverse U)))))),
    (λ g. both_and (t.implies (Has (inverse U)) (Has S)) _ ((right.implies_is (Has (inverse U)) (Has S) (in_inverse U i)).1 g.0)
        (not_from _ (λ e. g.1 (code_same S (inverse U) (eqb→eq _ _ e))))),
  )

  turns_is : (U S : Role) → T (turns t U S) ↔ Turns rules U S
  turns_is U S = (
    (λ h. let p = and_both (t.loops S U) _ h in
        ((right.loops_are S U).0 p.0, elim (ℕ_discrete (code S) (code U)) [ yes e ↦ inl (code_same S U e) | no n ↦ inr (let l = leb→le (code U) (code S) p.1 in omega arith) ])),
    (λ g. both_and (t.loops S U) _ ((right.loops_are S U).1 g.0)
        (le→leb (code U) (code S) (elim g.1 [ inl e ↦ omega (arith, ap code e) | inr l ↦ omega arith ]))),
  )

  -- the two tests of an index decide which of its ways holds
  index_is : (U : Role) (i : ℕ) (S : Role) (j : ℕ) → (j ≡ index_after t U i S) ↔ Index rules U i S j
  index_is U i S j = go (t.in_loop S) refl (turns t U S) refl
    where
      go : (b : Bool) → t.in_loop S ≡ b → (c : Bool) → turns t U S ≡ c → (j ≡ cond (t.in_loop S) (cond (turns t U S) ((i + 1) % 3) i) 0) ↔ Index rules U i S j
      go false e c f =
          let n : InLoop rules S → ⊥ = λ l. subst T e ((right.in_loop_is S).1 l) in (
            λ h. Index.out n (h ∙ ap (λ b. cond b (cond (turns t U S) ((i + 1) % 3) i) 0) e),
            λ x. elim x [
              | Index.out _ q ↦ q ∙ sym (ap (λ b. cond b (cond (turns t U S) ((i + 1) % 3) i) 0) e)
              | Index.turn r _ ↦ absurd (n (U, r.0))
              | Index.keep l _ _ ↦ absurd (n l)
            ],
          )
      go true e true f =
          let k : cond (t.in_loop S) (cond (turns t U S) ((i + 1) % 3) i) 0 ≡ (i + 1) % 3 = λ x. cond (e x) (cond (f x) ((i + 1) % 3) i) 0 in
          let l : InLoop rules S = (right.in_loop_is S).0 (true_T _ e) in
          let r : Turns rules U S = (turns_is U S).0 (true_T _ f) in (
            λ h. Index.turn r (h ∙ k),
            λ x. elim x [ Index.out n _ ↦ absurd (n l) | Index.turn _ q ↦ q ∙ sym k | Index.keep _ n _ ↦ absurd (n r) ],
          )
      go true e false f =
          let k : cond (t.in_loop S) (cond (turns t U S) ((i + 1) % 3) i) 0 ≡ i = λ x. cond (e x) (cond (f x) ((i + 1) % 3) i) 0 in
          let l : InLoop rules S = (right.in_loop_is S).0 (true_T _ e) in
          let n : Turns rules U S → ⊥ = λ r. subst T f ((turns_is U S).1 r) in (
            λ h. Index.keep l n (h ∙ k),
            λ x. elim x [ Index.out u _ ↦ absurd (u l) | Index.turn r _ ↦ absurd (n r) | Index.keep _ _ q ↦ q ∙ sym k ],
          )

  name_steps_lem : (a e : ℕ) → a < t.names → T (name_steps t a e) ↔ Step (Element.named (name_of a)) (witness_element e)
  name_steps_lem a e h = (
    (λ s. let p = and_both (t.starts a (role_at t e)) _ s in ((right.starts_are a (role_at t e) h).0 p.0, eqb→eq _ _ p.1)),
    (λ s. both_and (t.starts a (role_at t e)) _ ((right.starts_are a (role_at t e) h).1 s.0) (subst (λ x. T (eqb x 0)) (sym s.1) tt)),
  )

  witness_steps_lem : (d e : ℕ) → T (witness_steps t d e) ↔ (Pres (witness_element d) × Step (witness_element d) (witness_element e))
  witness_steps_lem d e = (
    (λ s. let p = and_both (witness_at t d) _ s in
        let w = (witness_is d).0 p.0 in
        let i = generating_in t.names facts rules inside proper w.0 in
        let q = and_both (generates t (role_at t d) (role_at t e)) _ p.1 in
        (w, ((generates_is (role_at t d) (role_at t e) i).0 q.0, (index_is (role_at t d) (index_at t d) (role_at t e) (index_at t e)).0 (eqb→eq _ _ q.1)))),
    (λ s. let i = generating_in t.names facts rules inside proper s.0.0 in
        both_and (witness_at t d) _ ((witness_is d).1 s.0)
        (both_and (generates t (role_at t d) (role_at t e)) _ ((generates_is (role_at t d) (role_at t e) i).1 s.1.0)
        (subst (λ x. T (eqb (index_at t e) x)) ((index_is (role_at t d) (index_at t d) (role_at t e) (index_at t e)).1 s.1.1) (eqb_refl (index_at t e))))),
  )

  steps_are_lem : (d e : ℕ) → T (step_at t d e) ↔ (Pres (element_at d) × Step (element_at d) (element_at e))
  steps_are_lem d e = elim (sides e) [
    | inl h ↦ (
      λ s. absurd (subst (λ b. T (cond b false (cond (is_name t d) (name_steps t d e) (witness_steps t d e)))) (near e h) s),
      λ s. absurd (subst (Step (element_at d)) (at_name e h) s.1),
    )
    | inr h ↦ elim (sides d) [
      | inl k ↦
          (let q : step_at t d e ≡ name_steps t d e = λ i. cond (far e h i) false (cond (near d k i) (name_steps t d e) (witness_steps t d e)) in
          let n = name_steps_lem d e k in (
            λ s. (subst Pres (sym (at_name d k)) k, subst₂ Step (sym (at_name d k)) (sym (at_far e h)) (n.0 (subst T q s))),
            λ s. subst T (sym q) (n.1 (subst₂ Step (at_name d k) (at_far e h) s.1)),
          ))
      | inr k ↦
          (let q : step_at t d e ≡ witness_steps t d e = λ i. cond (far e h i) false (cond (far d k i) (name_steps t d e) (witness_steps t d e)) in
          let n = witness_steps_lem d e in (
            λ s. let w = n.0 (subst T q s) in (subst Pres (sym (at_far d k)) w.0, subst₂ Step (sym (at_far d k)) (sym (at_far e h)) w.1),
            λ s. subst T (sym q) (n.1 (subst Pres (at_far d k) s.0, subst₂ Step (at_far d k) (at_far e h) s.1)),
          ))
    ]
  ]

  -- where a step ends is far, and its role is in range
  step_end : (d e : ℕ) → T (step_at t d e) → (t.names ≤ e) × RoleRange (role_at t e)
  step_end d e s = elim (sides e) [
    | inl h ↦ absurd (subst (Step (element_at d)) (at_name e h) ((steps_are_lem d e).0 s).1)
    | inr h ↦
        let p = (steps_are_lem d e).0 s in
        (h, generating_in t.names facts rules inside proper (subst Pres (at_far e h) (step_present_lem t.names facts rules (element_at d) (element_at e) p.0 p.1)).0)
  ]

  by_is_lem : (R : Role) (d e : ℕ) → T (by_at t R d e) ↔ (T (step_at t d e) × By rules R (element_at e))
  by_is_lem R d e = (
    (λ h. let p = and_both (step_at t d e) _ h in
        let q = step_end d e p.0 in
        (p.0, subst (By rules R) (sym (at_far e q.0)) ((right.below_is (role_at t e) R q.1).0 p.1))),
    (λ h. let q = step_end d e h.0 in
        both_and (step_at t d e) _ h.0 ((right.below_is (role_at t e) R q.1).1 (subst (By rules R) (at_far e q.0) h.1))),
  )

  -- kinds
  kinds_are_lem : (k : Kind) (d : ℕ) → T (kind_at t k d) ↔ (Pres (element_at d) × HasMark t.names facts rules (element_at d) (Is k))
  kinds_are_lem k d = elim (sides d) [
    | inl h ↦
        (let e : kind_at t k d ≡ t.marks d (Is k) = ap (λ b. cond b (t.marks d (Is k)) (witness_at t d && t.implies (Has (inverse (role_at t d))) (Is k))) (near d h) in (
          λ s. (subst Pres (sym (at_name d h)) h, subst (λ x. HasMark t.names facts rules x (Is k)) (sym (at_name d h)) ((right.marks_are d (Is k) h).0 (subst T e s))),
          λ s. subst T (sym e) ((right.marks_are d (Is k) h).1 (subst (λ x. HasMark t.names facts rules x (Is k)) (at_name d h) s.1)),
        ))
    | inr h ↦
        (let e : kind_at t k d ≡ (witness_at t d && t.implies (Has (inverse (role_at t d))) (Is k)) = ap (λ b. cond b (t.marks d (Is k)) (witness_at t d && t.implies (Has (inverse (role_at t d))) (Is k))) (far d h) in
        let i : Pres (witness_element d) → RoleRange (inverse (role_at t d)) = λ w. in_inverse (role_at t d) (generating_in t.names facts rules inside proper w.0) in (
          λ s. let p = and_both (witness_at t d) _ (subst T e s) in
              let w = (witness_is d).0 p.0 in
              (subst Pres (sym (at_far d h)) w, subst (λ x. HasMark t.names facts rules x (Is k)) (sym (at_far d h)) ((right.implies_is _ (Is k) (i w)).0 p.1)),
          λ s. let w = subst Pres (at_far d h) s.0 in
              subst T (sym e) (both_and (witness_at t d) _ ((witness_is d).1 w) ((right.implies_is _ (Is k) (i w)).1 (subst (λ x. HasMark t.names facts rules x (Is k)) (at_far d h) s.1))),
        ))
  ]

  -- joins of two names
  names_are_lem : (R : Role) (a b : Name) → T (names_at t facts R a.0 b.0) ↔ NamesJoined t.names facts rules R (Element.named a) (Element.named b)
  names_are_lem R a b = (
    (λ h. let p = some_found 64 (λ c. t.below (role_of c) R && facts (fact_of (role_of c) a b)) h in
        let q = and_both (t.below (role_of p.0) R) _ p.2 in
        (role_of p.0, q.1, (right.below_is (role_of p.0) R (recorded_range (role_of p.0) q.1)).0 q.0)),
    (λ j. some_at 64 (λ c. t.below (role_of c) R && facts (fact_of (role_of c) a b)) (code j.0) (recorded_small t.names facts inside a j.0 b j.1)
        (subst (λ S. T (t.below S R && facts (fact_of S a b))) (sym (role_of_code j.0))
        (both_and (t.below j.0 R) _ ((right.below_is j.0 R (recorded_range j.0 j.1)).1 j.2) j.1))),
  )
    where
      recorded_range : (S : Role) → Recorded facts S a b → RoleRange S
      recorded_range S r = omega (arith, recorded_small t.names facts inside a S b r)

  -- joins where not both are names
  steps_join : (R : Role) (d e : ℕ) → T (by_at t R d e || by_at t (inverse R) e d)
      ↔ (Pres (element_at d) × Pres (element_at e) × ((Step (element_at d) (element_at e) × By rules R (element_at e)) ⊎ (Step (element_at e) (element_at d) × By rules (inverse R) (element_at d))))
  steps_join R d e = (
    (λ h. elim (or_either (by_at t R d e) _ h) [
      | inl g ↦ let p = (by_is_lem R d e).0 g in let s = (steps_are_lem d e).0 p.0 in (s.0, step_present_lem t.names facts rules (element_at d) (element_at e) s.0 s.1, inl (s.1, p.1))
      | inr g ↦ let p = (by_is_lem (inverse R) e d).0 g in let s = (steps_are_lem e d).0 p.0 in (step_present_lem t.names facts rules (element_at e) (element_at d) s.0 s.1, s.0, inr (s.1, p.1))
    ]),
    (λ j. elim j.2 [
      | inl g ↦ or_left (by_at t R d e) _ ((by_is_lem R d e).1 ((steps_are_lem d e).1 (j.0, g.0), g.1))
      | inr g ↦ or_right (by_at t R d e) _ ((by_is_lem (inverse R) e d).1 ((steps_are_lem e d).1 (j.1, g.0), g.1))
    ]),
  )

  abbrev Join : Role → ℕ → ℕ → Type 0
  Join R d e = Pres (element_at d) × Pres (element_at e) × Joined t.names facts rules R (element_at d) (element_at e)

  both_named : (R : Role) (d e : ℕ) → d < t.names → e < t.names → T (joins_at t facts R d e) ↔ Join R d e
  both_named R d e h k =
      let q : joins_at t facts R d e ≡ names_at t facts R d e = λ i. cond (near d h i && near e k i) (names_at t facts R d e) (by_at t R d e || by_at t (inverse R) e d) in
      let n = names_are_lem R (name_of d) (name_of e) in (
        λ s. (subst Pres (sym (at_name d h)) h, subst Pres (sym (at_name e k)) k, inl (subst₂ (NamesJoined t.names facts rules R) (sym (at_name d h)) (sym (at_name e k)) (n.0 (subst T q s)))),
        λ j. subst T (sym q) (n.1 (elim j.2 [
          | inl g ↦ subst₂ (NamesJoined t.names facts rules R) (at_name d h) (at_name e k) g
          | inr (inl g) ↦ absurd (subst (Step (element_at d)) (at_name e k) g.0)
          | inr (inr g) ↦ absurd (subst (Step (element_at e)) (at_name d h) g.0)
        ])),
      )

  not_both : (R : Role) (d e : ℕ) → (is_name t d && is_name t e) ≡ false → (NamesJoined t.names facts rules R (element_at d) (element_at e) → ⊥) → T (joins_at t facts R d e) ↔ Join R d e
  not_both R d e f n =
      let q : joins_at t facts R d e ≡ (by_at t R d e || by_at t (inverse R) e d) = ap (λ b. cond b (names_at t facts R d e) (by_at t R d e || by_at t (inverse R) e d)) f in
      let g = steps_join R d e in (
        λ s. let p = g.0 (subst T q s) in (p.0, p.1, inr p.2),
        λ j. subst T (sym q) (g.1 (j.0, j.1, elim j.2 [ inl x ↦ absurd (n x) | inr x ↦ x ])),
      )

  joins_are_lem : (R : Role) (d e : ℕ) → T (joins_at t facts R d e) ↔ Join R d e
  joins_are_lem R d e = elim (sides d) [
    | inr h ↦ not_both R d e (ap (λ b. b && is_name t e) (far d h)) (λ j. subst (λ x. NamesJoined t.names facts rules R x (element_at e)) (at_far d h) j)
    | inl h ↦ elim (sides e) [
      | inl k ↦ both_named R d e h k
      | inr k ↦ not_both R d e (λ i. near d h i && far e k i) (λ j. subst₂ (NamesJoined t.names facts rules R) (at_name d h) (at_far e k) j)
    ]
  ]

  pub tabled_completes : Completes t.names facts rules (tabled_shape t facts) (tabled_form t)
  tabled_completes = record {
    names_are = refl;
    nameable_is = refl;
    size_is = refl;
    present_is = present_is_lem;
    kinds_are = kinds_are_lem;
    joins_are = joins_are_lem;
    steps_are = steps_are_lem;
    by_is = by_is_lem;
  }
