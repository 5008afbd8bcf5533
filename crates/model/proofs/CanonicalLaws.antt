-- The canonical model is a model: its laws.
use Rattle.std.proofs.Common.{◌≡◌, ℕ, ◌-◌, ◌/◌, ◌<◌, ◌≤◌, Bool, T, ◌⊎◌, sym, ap, ◌∙◌, subst, subst₂, inl, inr, arith}
use native.Mathlib.Decide.{dec_lt}
use Rattle.league.specs.Roles.{inverse}
use Rattle.league.specs.declared.facts.Fact.{Fact}
use Rattle.league.specs.declared.facts.Name.{Name}
use Rattle.league.specs.declared.roles.Role.{Role}
use Rattle.league.specs.declared.roles.Role.TheVariants.{Forward, Backward}
use Rattle.graph.specs.Paths.{Star}
use Rattle.rules.specs.RuleSet.{RuleSet, Proper}
use Rattle.rules.proofs.Coded.{code_role}
use Rattle.rules.proofs.Marked.{turn_turn}
use Rattle.model.specs.Canonical.{Present, Steps, By, Joined, NamesJoined, Decided, Completes, CanonicalLawful}
use Rattle.model.specs.Elements.{Element, element_of, number}
use Rattle.model.specs.Recorded.{FactsIn, Recorded, name_of}
use Rattle.model.specs.Structures.{Shape, Form, Lawful, StepsBy, BothNames, Reaches}
use Rattle.model.proofs.Numbers.{element_name, element_far, element_number, number_element}
use Rattle.model.proofs.Ranges.{generating_in}
use Rattle.model.proofs.Roles.{below-inverse}
use Rattle.model.proofs.Steps.{no_step_back_lem, step_present_lem, witness_reached}
use Rattle.model.proofs.Tests.{same_test}

-- what R joins, its inverse joins the other way round
module _ (P : ℕ) (facts : Fact → Bool) (rules : RuleSet) where
  recorded_back : (S : Role) (a b : Name) → Recorded facts S a b → Recorded facts (inverse S) b a
  recorded_back (Forward l) a b r = r
  recorded_back (Backward l) a b r = r

  names_back : (R : Role) (d e : Element) → NamesJoined P facts rules R d e → NamesJoined P facts rules (inverse R) e d
  names_back R (Element.named a) (Element.named b) j = (inverse j.0, recorded_back j.0 a b j.1, below-inverse rules j.2)
  names_back R (Element.named a) (Element.witness S j) h = absurd h
  names_back R (Element.witness S i) e h = absurd h

  joined_back : (R : Role) (d e : Element) → Joined P facts rules R d e → Joined P facts rules (inverse R) e d
  joined_back R d e j = elim j [
    | inl a ↦ inl (names_back R d e a)
    | inr (inl a) ↦ inr (inr (a.0, subst (λ S. By rules S e) (sym (turn_turn R)) a.1))
    | inr (inr a) ↦ inr (inl a)
  ]

module _ (facts : Fact → Bool) (rules : RuleSet) (s : Shape) (f : Form) (inside : FactsIn f.names facts) (proper : Proper rules)
    (decided : Decided rules) (whole : Completes f.names facts rules s f) where
  abbrev element_at : ℕ → Element
  element_at = element_of f.names

  abbrev Pres : Element → Type 0
  Pres = Present f.names facts rules

  abbrev Step : Element → Element → Type 0
  Step = Steps f.names facts rules

  pres : (d : ℕ) → T (s.present d) → Pres (element_at d)
  pres d h = (whole.present_is d).0 h

  steps : (d e : ℕ) → T (f.step d e) → Step (element_at d) (element_at e)
  steps d e h = ((whole.steps_are d e).0 h).1

  -- a step ends at no name
  far : (d e : ℕ) → Step (element_at d) (element_at e) → f.names ≤ e
  far d e h = elim (dec_lt e f.names) [
    | yes l ↦ absurd (subst (Step (element_at d)) (element_name f.names (name_of e) l) h)
    | no n ↦ omega arith
  ]

  both_names : (R : Role) (d e : ℕ) → NamesJoined f.names facts rules R (element_at d) (element_at e) → BothNames f d e
  both_names R d e h = elim (dec_lt d f.names) [
    | no n ↦ absurd (subst (λ c. NamesJoined f.names facts rules R c (element_at e)) (element_far f.names d (omega arith)) h)
    | yes i ↦ elim (dec_lt e f.names) [
      | yes j ↦ (i, j)
      | no n ↦ absurd (subst₂ (NamesJoined f.names facts rules R) (element_name f.names (name_of d) i) (element_far f.names e (omega arith)) h)
    ]
  ]

  at-number : (e : Element) → Pres e → element_at (number f.names e) ≡ e
  at-number (Element.named a) p = element_name f.names a p
  at-number (Element.witness R i) p = element_number f.names R i p.1

  -- steps between elements are steps between their numbers
  numbered : (a : Name) → a.0 < f.names → {e : Element} → Star Step (Element.named a) e → Pres e × Reaches f a.0 (number f.names e)
  numbered a h Star.here = (h, Star.here)
  numbered a h (Star.then {b = b} {c = c} p t) =
      let r = numbered a h p in
      let q = step_present_lem f.names facts rules b c r.0 t in (
        q,
        Star.then r.1 ((whole.steps_are (number f.names b) (number f.names c)).1
            (subst Pres (sym (at-number b r.0)) r.0, subst₂ Step (sym (at-number b r.0)) (sym (at-number c q)) t)),
      )

  reached_at : (d : ℕ) → T (s.present d) → (a : ℕ) × (a < f.names) × Reaches f a d
  reached_at d p = elim (dec_lt d f.names) [
    | yes h ↦ (d, h, Star.here)
    | no n ↦
        let e = element_far f.names d (omega arith) in
        let r = witness_reached f.names facts rules decided _ _ (subst Pres e (pres d p)) in
        (r.0.0, r.1, subst (Reaches f r.0.0) (ap (number f.names) (sym e) ∙ number_element f.names d) (numbered r.0 r.1 r.2).1)
  ]

  below_at : (d : ℕ) → T (s.present d) → d < s.size
  below_at d p = elim (dec_lt d f.names) [
    | yes h ↦ omega (arith, whole.size_is)
    | no n ↦
        let l = generating_in f.names facts rules inside proper (subst Pres (element_far f.names d (omega arith)) (pres d p)).0 in
        omega (arith, l, whole.size_is, code_role ((d - f.names) / 3))
  ]

  next_present : (d e : ℕ) → T (s.present d) → T (f.step d e) → T (s.present e)
  next_present d e p t = (whole.present_is e).1 (step_present_lem f.names facts rules (element_at d) (element_at e) (pres d p) (steps d e t))

  steps_by_lem : (R : Role) (d e : ℕ) → StepsBy f R d e → Step (element_at d) (element_at e) × By rules R (element_at e)
  steps_by_lem R d e h = (steps d e h.0, ((whole.by_is R d e).0 h.1).1)

  by_steps : (R : Role) (d e : ℕ) → T (s.present d) → Step (element_at d) (element_at e) → By rules R (element_at e) → StepsBy f R d e
  by_steps R d e p t b = let u = (whole.steps_are d e).1 (pres d p, t) in (u, (whole.by_is R d e).1 (u, b))

  join_step : (R : Role) (d e : ℕ) → T (s.present d) → T (s.present e) → Joined f.names facts rules R (element_at d) (element_at e)
      → BothNames f d e ⊎ (StepsBy f R d e ⊎ StepsBy f (inverse R) e d)
  join_step R d e p q (inl h) = inl (both_names R d e h)
  join_step R d e p q (inr (inl h)) = inr (inl (by_steps R d e p h.0 h.1))
  join_step R d e p q (inr (inr h)) = inr (inr (by_steps (inverse R) e d q h.0 h.1))

  joins_back_lem : (R : Role) (d e : ℕ) → T (s.joins R d e) → T (s.joins (inverse R) e d)
  joins_back_lem R d e t =
      let j = (whole.joins_are R d e).0 t in
      (whole.joins_are (inverse R) e d).1 (j.1, j.0, joined_back f.names facts rules R (element_at d) (element_at e) j.2)

  lawful_here : Lawful s f
  lawful_here = record {
    names_nameable = whole.nameable_is;
    names_present = λ a h. (whole.present_is a).1 (subst Pres (sym (element_name f.names (name_of a) h)) h);
    present_below = below_at;
    kind_present = λ k d h. (whole.present_is d).1 ((whole.kinds_are k d).0 h).0;
    joins_present = λ R d e h. let j = (whole.joins_are R d e).0 h in ((whole.present_is d).1 j.0, (whole.present_is e).1 j.1);
    joins_back = λ R d e. same_test _ _ (λ h. subst (λ S. T (s.joins S d e)) (turn_turn R) (joins_back_lem (inverse R) e d h)) (joins_back_lem R d e);
    step_present = next_present;
    joined_by_step = λ R d e p q h. join_step R d e p q ((whole.joins_are R d e).0 h).2;
    step_joins = λ R d e p h. (whole.joins_are R d e).1 (pres d p, pres e (next_present d e p h.0), inr (inl (steps_by_lem R d e h)));
    step_to_no_name = λ d e p h. far d e (steps d e h);
    no_step_back = λ R d e p q h t.
        let a = steps_by_lem R d e h in
        let b = steps_by_lem (inverse R) e d t in
        no_step_back_lem f.names facts rules R (element_at d) (element_at e) (pres d p) (pres e q) a.0 a.1 b.0 b.1;
    reached = reached_at;
  }

pub canonical_lawful : CanonicalLawful
canonical_lawful P facts rules s f inside proper decided whole =
    let e : P ≡ f.names = sym whole.names_are in
    lawful_here facts rules s f (subst (λ n. FactsIn n facts) e inside) proper decided (subst (λ n. Completes n facts rules s f) e whole)
