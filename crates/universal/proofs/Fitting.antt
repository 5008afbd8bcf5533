-- Without a clash the unravelled model fits.
use Rattle.std.proofs.Common.{ℕ, Bool, T, [], ◌∷◌, sym, subst, inl, inr, lt→ltb}
use Rattle.league.specs.Roles.{inverse}
use Rattle.league.specs.Worlds.{Thing, Joined, Marked, FitsFact, FitsRule}
use Rattle.league.specs.declared.facts.Fact.{Fact}
use Rattle.league.specs.declared.facts.Kind.{Kind}
use Rattle.league.specs.declared.roles.Mark.{Mark}
use Rattle.league.specs.declared.roles.Role.{Role}
use Rattle.league.specs.declared.rules.Rule.{Rule}
use Rattle.graph.specs.Paths.{Star}
use Rattle.rules.specs.Follows.{Hides, Below, Implies, RoleEdge, MarkEdge, hidden}
use Rattle.rules.specs.Pairs.{pair_of, number_of}
use Rattle.rules.specs.RuleSet.{RuleSet}
use Rattle.rules.proofs.Numbered.{number_at}
use Rattle.model.specs.Canonical.{By, HasMark, Clash}
use Rattle.model.specs.Elements.{Element, element_of}
use Rattle.model.specs.Recorded.{Given}
use Rattle.model.specs.Structures.{Shape, Form}
use Rattle.model.specs.Unravelled.{end_of, bare, extends, unravelled}
use Rattle.model.proofs.Numbers.{element_name}
use Rattle.model.proofs.Roles.{below-inverse, star_trans}
use Rattle.search.proofs.Joining.{View, view, joined, bare_parts, extends_parts, extends_made, step_of}
use Rattle.universal.specs.Universal.{Models, UnravelledFits}
use Rattle.universal.proofs.Partners.{kind_within_lem}
use Rattle.universal.proofs.PathMarks.{laws, path_present, recorded, stepped, facts_joined, marks_have, have_marks}

module _ (facts : Fact → Bool) (rules : RuleSet) (s : Shape) (f : Form) (m : Models f.names facts rules s f) where
  has_more : (e : Element) (B C : Mark) → HasMark f.names facts rules e B → Implies rules B C → HasMark f.names facts rules e C
  has_more (Element.named a) B C h i = (h.0, h.1, star_trans h.2 i)
  has_more (Element.witness R i) B C h j = star_trans h j

  by_more : (e : Element) (R S : Role) → By rules R e → Below rules R S → By rules S e
  by_more (Element.named a) R S h b = absurd h
  by_more (Element.witness U i) R S h b = star_trans h b

  extends_more : (R S : Role) (x y : Thing) → T (extends s f R x y) → Below rules R S → T (extends s f S x y)
  extends_more R S x y h b =
      let e = extends_parts s f R x y h in
      let t = stepped facts rules s f m R x y e in
      let st = step_of s f e.last x e.old e.new in
      subst (λ z. T (extends s f S x z)) (sym e.y_is)
      (extends_made s f S x e.last e.old e.new ((m.completes.by_is S (end_of x) e.last).1 (st, by_more _ R S t.1 b)))

  -- what R joins, every role above it joins
  joins_more : (R S : Role) (x y : Thing) → Joined (unravelled s f) R x y → Below rules R S → Joined (unravelled s f) S x y
  joins_more R S x y h b = joined s f (laws facts rules s f m) S x y (go (view s f (laws facts rules s f m) R x y h))
    where
      go : View s f R x y → View s f S x y
      go (inl a) =
          let p = bare_parts s f R x y a in
          let r = recorded facts rules s f m R x y p in
          inl (subst (λ z. T (bare s f S z y)) (sym p.x_is)
          (subst (λ z. T (bare s f S (p.from ∷ []) z)) (sym p.y_is) (facts_joined facts rules s f m S r.0 _ _ r.1 (star_trans r.2 b))))
      go (inr (inl a)) = inr (inl (extends_more R S x y a b))
      go (inr (inr a)) = inr (inr (extends_more (inverse R) (inverse S) y x a (below-inverse rules b)))

  -- what has a mark has every mark above it
  more_marks : (B C : Mark) (x : Thing) → Implies rules B C → Marked (unravelled s f) B x → Marked (unravelled s f) C x
  more_marks B C x i h =
      let g = marks_have facts rules s f m B x h in
      have_marks facts rules s f m C x g.0 (has_more _ B C g.1 i)

  fits_fact : (g : Fact) → T (facts g) → FitsFact (unravelled s f) g
  fits_fact (Fact.Is k a) h =
      let l = kind_within_lem f.names facts m.facts_in k a h in
      have_marks facts rules s f m (Mark.Is k) (a.0 ∷ []) (lt→ltb a.0 f.names l)
      (subst (λ z. HasMark f.names facts rules z (Mark.Is k)) (sym (element_name f.names a l)) (Mark.Is k, Given.of_kind k h, Star.here))
  fits_fact (Fact.Joins l a b) h =
      joined s f (laws facts rules s f m) (Role.Forward l) (a.0 ∷ []) (b.0 ∷ [])
      (inl (facts_joined facts rules s f m (Role.Forward l) (Role.Forward l) a b h Star.here))

  -- the pair of an accepted rule has a hidden link
  hides : (B : Mark) (R : Role) (k : Kind) → T (rules.rules (Rule.Required B R k)) → (i : ℕ) × Hides rules i R k
  hides B R k h = (number_of rules.pairs (pair_of R k), number_at rules.pairs (pair_of R k) (m.proper.paired B R k h))

  fits_rule : (Clash f.names facts rules → ⊥) → (r : Rule) → T (rules.rules r) → FitsRule (unravelled s f) r
  fits_rule calm (Rule.Inclusion B C) h = λ x. more_marks B C x (Star.then Star.here (MarkEdge.includes B C h))
  fits_rule calm (Rule.Exclusion B C) h = λ x p q.
      let a = marks_have facts rules s f m B x p in
      let b = marks_have facts rules s f m C x q in
      calm (record {
        one = B;
        other = C;
        excluded = h;
        holder = element_of f.names (end_of x);
        present = path_present facts rules s f m x a.0;
        has_one = a.1;
        has_other = b.1;
      })
  fits_rule calm (Rule.Required B R k) h = λ x p.
      let u = hides B R k h in
      let g = more_marks B (Mark.Has (Role.Forward (hidden u.0))) x (Star.then Star.here (MarkEdge.needs B u.0 R k h u.1)) p in (
        g.0,
        joins_more (Role.Forward (hidden u.0)) R x g.0 g.1 (Star.then Star.here (RoleEdge.hides u.0 R k u.1)),
        more_marks (Mark.Has (Role.Backward (hidden u.0))) (Mark.Is k) g.0 (Star.then Star.here (MarkEdge.lands u.0 R k u.1)) (x, g.1),
      )
  fits_rule calm (Rule.RoleInclusion R S) h = λ x y j. joins_more R S x y j (Star.then Star.here (RoleEdge.under R S h))

pub unravelled-fits : UnravelledFits
unravelled-fits facts rules s f m calm = record { each_fact = fits_fact facts rules s f m; each_rule = fits_rule facts rules s f m calm }
