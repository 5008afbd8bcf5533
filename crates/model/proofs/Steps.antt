-- The steps of the canonical model: none is also a step back, and every witness is reached from a name.
use Rattle.std.proofs.Common.{ℕ, zero, suc, ◌+◌, ◌%◌, ◌<◌, Bool, sym, refl, ap, ◌∙◌, subst, inl, inr, arith}
use Rattle.league.specs.Roles.{inverse, code}
use Rattle.league.specs.declared.facts.Fact.{Fact}
use Rattle.league.specs.declared.facts.Name.{Name}
use Rattle.league.specs.declared.roles.Role.{Role}
use Rattle.graph.specs.Paths.{Star}
use Rattle.rules.specs.Follows.{Below}
use Rattle.rules.specs.RuleSet.{RuleSet}
use Rattle.rules.proofs.Marked.{turn_turn}
use Rattle.model.specs.Canonical.{Generating, Loop, InLoop, Turns, Index, RoleGenerates, Present, Steps, By, Decided}
use Rattle.model.specs.Elements.{Element}
use Rattle.model.proofs.Roles.{order, below-inverse, below_turned}

module _ (rules : RuleSet) where
  loop_turned : {R S : Role} → Loop rules R S → Loop rules S R
  loop_turned {R} {S} h = (
    λ e. h.0 (sym (turn_turn R) ∙ ap inverse (sym e)),
    h.2,
    h.1,
    (inverse h.3.0, below-inverse rules h.3.2, subst (λ X. Below rules X (inverse h.3.0)) (turn_turn S) (below-inverse rules h.3.1)),
  )

  -- two witnesses of a loop do not step to one another
  no_both : (R S : Role) (i j : ℕ) → i < 3 → j < 3 → Loop rules R S → Loop rules S R → Index rules R i S j → Index rules S j R i → ⊥
  no_both R S i j hi hj l l' (Index.out n e) g = n (R, l')
  no_both R S i j hi hj l l' (Index.turn t e) (Index.out n f) = n (S, l)
  no_both R S i j hi hj l l' (Index.turn t e) (Index.turn u f) = omega arith
  no_both R S i j hi hj l l' (Index.turn t e) (Index.keep m u f) = omega arith
  no_both R S i j hi hj l l' (Index.keep m u e) (Index.out n f) = n (S, l)
  no_both R S i j hi hj l l' (Index.keep m u e) (Index.turn t f) = omega arith
  no_both R S i j hi hj l l' (Index.keep m u e) (Index.keep n v f) =
      elim (order R S) [ inl q ↦ u (l', inl (sym q)) | inr (inl q) ↦ u (l', inr q) | inr (inr q) ↦ v (l, inr q) ]

  module _ (decided : Decided rules) where
    pub turns? : (U S : Role) → Dec (Turns rules U S)
    turns? U S = elim (decided.loop S U) [
      | no n ↦ no (λ t. n t.0)
      | yes l ↦ elim (order S U) [
        | inl e ↦ yes (l, inl e)
        | inr (inr q) ↦ yes (l, inr q)
        | inr (inl q) ↦ no (λ t. elim t.1 [ inl e ↦ omega (arith, ap code e) | inr g ↦ omega arith ])
      ]
    ]

    -- the index of a step's end
    pub some_index : (U : Role) (i : ℕ) (S : Role) → i < 3 → (j : ℕ) × (j < 3) × Index rules U i S j
    some_index U i S hi = elim (decided.in_loop S) [
      | no n ↦ (0, omega arith, Index.out n refl)
      | yes l ↦ elim (turns? U S) [ yes t ↦ ((i + 1) % 3, omega arith, Index.turn t refl) | no n ↦ (i, hi, Index.keep l n refl) ]
    ]

module _ (P : ℕ) (facts : Fact → Bool) (rules : RuleSet) where
  pub no_step_back_lem : (R : Role) (d e : Element) → Present P facts rules d → Present P facts rules e
      → Steps P facts rules d e → By rules R e → Steps P facts rules e d → By rules (inverse R) d → ⊥
  no_step_back_lem R d (Element.named b) p q s h t g = s
  no_step_back_lem R (Element.named a) (Element.witness S j) p q s h t g = t
  no_step_back_lem R (Element.witness U i) (Element.witness S j) p q s h t g =
      no_both rules U S i j p.1 q.1 (loop_turned rules l) l s.1 t.1
    where
      l : Loop rules S U
      l = (s.0.1, t.0.0, s.0.0, (R, below_turned rules g, h))

  -- a step from a present element ends at a present one
  pub step_present_lem : (d e : Element) → Present P facts rules d → Steps P facts rules d e → Present P facts rules e
  step_present_lem d (Element.named b) p s = absurd s
  step_present_lem (Element.named a) (Element.witness S j) p s = (Generating.from_name a S s.0, omega (arith, s.1), inl s.1)
  step_present_lem (Element.witness U i) (Element.witness S j) p s = go s.1
    where
      l : Generating P facts rules S
      l = Generating.from_role U S p.0 s.0

      go : Index rules U i S j → Present P facts rules (Element.witness S j)
      go (Index.out n e) = (l, omega arith, inl e)
      go (Index.turn t e) = (l, omega arith, inr (U, t.0))
      go (Index.keep h n e) = (l, omega (arith, p.1), inr h)

  -- reached from a name by steps
  abbrev pub FromName : Element → Type 0
  FromName e = (a : Name) × (a.0 < P) × Star (Steps P facts rules) (Element.named a) e

  go_on : (d e : Element) → FromName d → Steps P facts rules d e → FromName e
  go_on d e r s = (r.0, r.1, Star.then r.2 s)

  -- from a witness of a role in a loop, the next one is reached
  next : (R : Role) (i : ℕ) → InLoop rules R → FromName (Element.witness R i) → FromName (Element.witness R ((i + 1) % 3))
  next R i h r =
      elim (order R h.0) [
        | inl e ↦ go_on _ _ r (subst (RoleGenerates rules R) (sym e) there, Index.turn (subst (λ X. Loop rules R X) (sym e) h.1, inl refl) refl)
        | inr (inl q) ↦
            go_on (Element.witness S ((i + 1) % 3)) _ (go_on _ _ r (there, Index.turn (l, inr q) refl))
            (back, Index.keep h (λ t. elim t.1 [ inl e ↦ omega (arith, ap code e) | inr g ↦ omega arith ]) refl)
        | inr (inr q) ↦
            go_on (Element.witness S i) _
            (go_on _ _ r (there, Index.keep (R, l) (λ t. elim t.1 [ inl e ↦ omega (arith, ap code e) | inr g ↦ omega arith ]) refl))
            (back, Index.turn (h.1, inr q) refl)
      ]
    where
      S : Role
      S = h.0

      l : Loop rules S R
      l = loop_turned rules h.1

      there : RoleGenerates rules R S
      there = (h.1.1, l.0)

      back : RoleGenerates rules S R
      back = (h.1.2, h.1.0)

  module _ (decided : Decided rules) where
    settle : (U S : Role) (j : ℕ) → Index rules U 0 S j → FromName (Element.witness S j) → FromName (Element.witness S 0)
    settle U S j (Index.out n e) r = subst (λ x. FromName (Element.witness S x)) e r
    settle U S j (Index.turn t e) r = next S 2 (U, t.0) (next S 1 (U, t.0) (subst (λ x. FromName (Element.witness S x)) e r))
    settle U S j (Index.keep l n e) r = subst (λ x. FromName (Element.witness S x)) e r

    first : {R : Role} → Generating P facts rules R → FromName (Element.witness R 0)
    first (Generating.from_name a R s) = (a, s.0, Star.then Star.here (s, refl))
    first (Generating.from_role U S l h) =
        let x = some_index rules decided U 0 S (omega arith) in
        settle U S x.0 x.2 (go_on _ _ (first l) (h, x.2))

    pub witness_reached : (R : Role) (i : ℕ) → Present P facts rules (Element.witness R i) → FromName (Element.witness R i)
    witness_reached R zero p = first p.0
    witness_reached R (suc zero) p = elim p.2 [ inl e ↦ absurd (omega arith) | inr l ↦ next R 0 l (first p.0) ]
    witness_reached R (suc (suc zero)) p = elim p.2 [ inl e ↦ absurd (omega arith) | inr l ↦ next R 1 l (next R 0 l (first p.0)) ]
    witness_reached R (suc (suc (suc i))) p = absurd (omega (arith, p.1))
