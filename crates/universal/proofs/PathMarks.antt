-- The marks of the unravelled model's paths are those that follow at their ends.
use Rattle.std.proofs.Common.{◌≡◌, ℕ, ◌<◌, Bool, T, ltb, [], ◌∷◌, sym, refl, ap, ◌∙◌, subst, subst₂, inl, inr, arith, ltb→lt, lt→ltb}
use Rattle.league.specs.Roles.{inverse}
use Rattle.league.specs.Worlds.{Thing, Marked}
use Rattle.league.specs.declared.facts.Fact.{Fact}
use Rattle.league.specs.declared.facts.Name.{Name}
use Rattle.league.specs.declared.roles.Mark.{Mark}
use Rattle.league.specs.declared.roles.Role.{Role}
use Rattle.graph.specs.Paths.{Star}
use Rattle.rules.specs.Follows.{Below, Implies}
use Rattle.rules.specs.RuleSet.{RuleSet}
use Rattle.rules.proofs.Marked.{turn_turn}
use Rattle.model.specs.Canonical.{Present, Steps, By, HasMark, Joined}
use Rattle.model.specs.Elements.{Element, element_of, number}
use Rattle.model.specs.Recorded.{Recorded, Given, name_of}
use Rattle.model.specs.Structures.{Shape, Form, Lawful}
use Rattle.model.specs.Unravelled.{is_path, end_of, bare, extends, unravelled}
use Rattle.model.proofs.CanonicalLaws.{canonical_lawful}
use Rattle.model.proofs.Numbers.{element_name, element_number}
use Rattle.model.proofs.Roles.{same_role_lem, below_turned, implies_lift}
use Rattle.model.proofs.Steps.{some_index}
use Rattle.model.proofs.Tests.{and_both, both_and}
use Rattle.search.proofs.Joining.{View, view, joined, Bare, bare_parts, Extends, extends_parts, extends_made}
use Rattle.search.proofs.Kept.{end_present}
use Rattle.universal.specs.Universal.{Models, MarksFollow}
use Rattle.universal.proofs.Partners.{partner_within, partner?}

module _ (facts : Fact → Bool) (rules : RuleSet) (s : Shape) (f : Form) (m : Models f.names facts rules s f) where
  abbrev element_at : ℕ → Element
  element_at = element_of f.names

  abbrev Pres : Element → Type 0
  Pres = Present f.names facts rules

  abbrev Step : Element → Element → Type 0
  Step = Steps f.names facts rules

  abbrev Marks : Element → Mark → Type 0
  Marks = HasMark f.names facts rules

  pub laws : Lawful s f
  laws = canonical_lawful f.names facts rules s f m.facts_in m.proper m.decided m.completes

  pub path_present : (x : Thing) → T (is_path f x) → Pres (element_at (end_of x))
  path_present x h = (m.completes.present_is (end_of x)).0 (end_present s f laws x h)

  pub step_at_lem : (d e : ℕ) (p : Thing) → T (is_path f (d ∷ (e ∷ p))) → Step (element_at e) (element_at d)
  step_at_lem d e p h = ((m.completes.steps_are e d).0 (and_both (f.step e d) _ h).0).1

  pub step_has : (R : Role) (c d : Element) → Step c d → By rules R d → Marks c (Mark.Has R)
  step_has R c (Element.named b) t h = absurd t
  step_has R (Element.named a) (Element.witness S j) t h = let g = t.0.1 in (g.0, g.1, implies_lift rules g.2 h)
  step_has R (Element.witness U i) (Element.witness S j) t h = implies_lift rules t.0.0 h

  by_has : (R : Role) (d : Element) → By rules (inverse R) d → Marks d (Mark.Has R)
  by_has R (Element.named b) h = absurd h
  by_has R (Element.witness S j) h = implies_lift rules Star.here (below_turned rules h)

  -- an extension is a step by R
  pub stepped : (R : Role) (x y : Thing) (h : Extends s f R x y) → Step (element_at (end_of x)) (element_at h.last) × By rules R (element_at h.last)
  stepped R x y h =
      let b = (m.completes.by_is R (end_of x) h.last).0 h.by in
      (((m.completes.steps_are (end_of x) h.last).0 b.0).1, b.1)

  -- two bare names that R joins: a link fact joins them by a role below R
  pub recorded : (R : Role) (x y : Thing) (h : Bare s f R x y) → (S : Role) × Recorded facts S (name_of h.from) (name_of h.to) × Below rules S R
  recorded R x y h =
      named_only (subst₂ (Joined f.names facts rules R)
      (element_name f.names (name_of h.from) h.from_in)
      (element_name f.names (name_of h.to) h.to_in)
      ((m.completes.joins_are R h.from h.to).0 h.join).2)
    where
      a : Name
      a = name_of h.from

      b : Name
      b = name_of h.to

      named_only : Joined f.names facts rules R (Element.named a) (Element.named b) → (S : Role) × Recorded facts S a b × Below rules S R
      named_only (inl j) = j
      named_only (inr (inl j)) = absurd j.0
      named_only (inr (inr j)) = absurd j.0

  -- x is a path at whose end the mark follows
  abbrev pub Follows : Mark → Thing → Type 0
  Follows C x = T (is_path f x) × Marks (element_at (end_of x)) C

  pub marks_have : (C : Mark) (x : Thing) → Marked (unravelled s f) C x → Follows C x
  marks_have (Mark.Is k) x h =
      let g = and_both (is_path f x) _ h in
      (g.0, ((m.completes.kinds_are k (end_of x)).0 g.1).1)
  marks_have (Mark.Has R) x h = go (view s f laws R x h.0 h.1)
    where
      y : Thing
      y = h.0

      of_bare : Bare s f R x y → Follows (Mark.Has R) x
      of_bare b =
          let r = recorded R x y b in
          let a : Name = name_of b.from in
          let has : Marks (Element.named a) (Mark.Has R) = (Mark.Has r.0, Given.partner r.0 (name_of b.to) r.1, implies_lift rules Star.here r.2) in
          subst (Follows (Mark.Has R)) (sym b.x_is)
          (lt→ltb b.from f.names b.from_in, subst (λ z. Marks z (Mark.Has R)) (sym (element_name f.names a b.from_in)) has)

      go : View s f R x y → Follows (Mark.Has R) x
      go (inl a) = of_bare (bare_parts s f R x y a)
      go (inr (inl a)) = let e = extends_parts s f R x y a in let t = stepped R x y e in (e.old, step_has R _ _ t.0 t.1)
      go (inr (inr a)) =
          let e = extends_parts s f (inverse R) y x a in
          let t = stepped (inverse R) y x e in
          subst (Follows (Mark.Has R)) (sym e.y_is) (e.new, by_has R _ t.1)

  -- the extension of a path to a witness
  pub grown : (x : Thing) (S : Role) (j : ℕ) → j < 3 → T (is_path f x) → Step (element_at (end_of x)) (Element.witness S j) → (R : Role) → Below rules S R
      → T (extends s f R x (number f.names (Element.witness S j) ∷ x))
  grown [] S j hj h t R b = absurd h
  grown (e ∷ p) S j hj h t R b =
      extends_made s f R (e ∷ p) d h (both_and (f.step e d) _ st h) ((m.completes.by_is R e d).1 (st, subst (λ z. By rules R z) (sym en) b))
    where
      d : ℕ
      d = number f.names (Element.witness S j)

      en : element_at d ≡ Element.witness S j
      en = element_number f.names S j hj

      st : T (f.step e d)
      st = (m.completes.steps_are e d).1 (path_present (e ∷ p) h, subst (Step (element_at e)) (sym en) t)

  -- two names that a link fact joins by a role below R
  pub facts_joined : (R S : Role) (a b : Name) → Recorded facts S a b → Below rules S R → T (bare s f R (a.0 ∷ []) (b.0 ∷ []))
  facts_joined R S a b r h = both_and (ltb a.0 f.names) _ la (both_and (ltb b.0 f.names) _ lb lk)
    where
      i : (a.0 < f.names) × (b.0 < f.names)
      i = partner_within f.names facts m.facts_in S a b r

      la : T (ltb a.0 f.names)
      la = lt→ltb a.0 f.names i.0

      lb : T (ltb b.0 f.names)
      lb = lt→ltb b.0 f.names i.1

      lk : T (s.joins R a.0 b.0)
      lk =
          (m.completes.joins_are R a.0 b.0).1 (
            path_present (a.0 ∷ []) la,
            path_present (b.0 ∷ []) lb,
            subst₂ (Joined f.names facts rules R) (sym (element_name f.names a i.0)) (sym (element_name f.names b i.1)) (inl (S, r, h)),
          )

  -- a path that ends in a name: its partner is recorded, or a witness
  from_name_lem : (R : Role) (a : Name) → a.0 < f.names → Marks (Element.named a) (Mark.Has R) → Marked (unravelled s f) (Mark.Has R) (a.0 ∷ [])
  from_name_lem R a ha h =
      elim (partner? f.names facts m.facts_in R a) [
        | yes p ↦ (p.0.0 ∷ [], joined s f laws R (a.0 ∷ []) (p.0.0 ∷ []) (inl (facts_joined R R a p.0 p.1 Star.here)))
        | no n ↦ (
          d ∷ (a.0 ∷ []),
          joined s f laws R (a.0 ∷ []) (d ∷ (a.0 ∷ []))
              (inr (inl (grown (a.0 ∷ []) R 0 (omega arith) la
              (subst (λ z. Step z (Element.witness R 0)) (sym (element_name f.names a ha)) ((ha, h, λ b r. n (b, r)), refl)) R Star.here))),
        )
      ]
    where
      d : ℕ
      d = number f.names (Element.witness R 0)

      la : T (ltb a.0 f.names)
      la = lt→ltb a.0 f.names ha

  -- a path that ends in a witness: its partner is where it was led to from, or another witness
  from_witness : (R U : Role) (i : ℕ) (d e : ℕ) (p : Thing) → element_at d ≡ Element.witness U i → T (is_path f (d ∷ (e ∷ p))) → Implies rules (Mark.Has (inverse U)) (Mark.Has R)
      → Marked (unravelled s f) (Mark.Has R) (d ∷ (e ∷ p))
  from_witness R U i d e p q h g =
      elim (same_role_lem R (inverse U)) [
        | yes t ↦ (
          e ∷ p,
          joined s f laws R (d ∷ (e ∷ p)) (e ∷ p)
              (inr (inr (extends_made s f (inverse R) (e ∷ p) d st.1 h
              ((m.completes.by_is (inverse R) e d).1 (st.0, subst (By rules (inverse R)) (sym q) (subst (Below rules U) (sym (turn_turn U) ∙ ap inverse (sym t)) Star.here)))))),
        )
        | no n ↦
            let x = some_index rules m.decided U i R ui in
            let c = number f.names (Element.witness R x.0) in (
              c ∷ (d ∷ (e ∷ p)),
              joined s f laws R (d ∷ (e ∷ p)) (c ∷ (d ∷ (e ∷ p)))
                  (inr (inl (grown (d ∷ (e ∷ p)) R x.0 x.1 h (subst (λ z. Step z (Element.witness R x.0)) (sym q) ((g, n), x.2)) R Star.here))),
            )
      ]
    where
      st : T (f.step e d) × T (is_path f (e ∷ p))
      st = and_both (f.step e d) _ h

      ui : i < 3
      ui = (subst Pres q (path_present (d ∷ (e ∷ p)) h)).1

  pub have_marks : (C : Mark) (x : Thing) → T (is_path f x) → Marks (element_at (end_of x)) C → Marked (unravelled s f) C x
  have_marks (Mark.Is k) x h g = both_and (is_path f x) _ h ((m.completes.kinds_are k (end_of x)).1 (path_present x h, g))
  have_marks (Mark.Has R) [] h g = absurd h
  have_marks (Mark.Has R) (a ∷ []) h g =
      let l = ltb→lt a f.names h in
      from_name_lem R (name_of a) l (subst (λ z. Marks z (Mark.Has R)) (element_name f.names (name_of a) l) g)
  have_marks (Mark.Has R) (d ∷ (e ∷ p)) h g = go (element_at d) refl
    where
      go : (c : Element) → element_at d ≡ c → Marked (unravelled s f) (Mark.Has R) (d ∷ (e ∷ p))
      go (Element.named b) q = absurd (subst (Step (element_at e)) q (step_at_lem d e p h))
      go (Element.witness U i) q = from_witness R U i d e p q h (subst (λ z. Marks z (Mark.Has R)) q g)

pub marks_follow : MarksFollow
marks_follow facts rules s f m C x = (marks_have facts rules s f m C x, λ h. have_marks facts rules s f m C x h.0 h.1)
