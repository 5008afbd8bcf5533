-- The unravelled model maps into every world that fits, and takes matches to matches.
use Rattle.std.proofs.Common.{◌≡◌, ℕ, ◌<◌, Bool, true, false, T, [], ◌∷◌, sym, refl, ap, ◌∙◌, subst, subst₂, inl, inr, arith, ltb→lt, lt→ltb}
use Rattle.league.specs.Proper.{AtomRanged}
use Rattle.league.specs.Questions.{value, True}
use Rattle.league.specs.Roles.{inverse, link_of}
use Rattle.league.specs.Worlds.{World, Thing, Joined, Marked, Fits}
use Rattle.league.specs.declared.facts.Fact.{Fact}
use Rattle.league.specs.declared.facts.Kind.{Kind}
use Rattle.league.specs.declared.facts.Name.{Name}
use Rattle.league.specs.declared.questions.Atom.{Atom}
use Rattle.league.specs.declared.questions.Term.{Term}
use Rattle.league.specs.declared.roles.Mark.{Mark}
use Rattle.league.specs.declared.roles.Role.{Role}
use Rattle.graph.specs.Paths.{Star}
use Rattle.rules.specs.RuleSet.{RuleSet}
use Rattle.model.specs.Canonical.{Steps, By, HasMark}
use Rattle.model.specs.Elements.{Element, element_of}
use Rattle.model.specs.Recorded.{name_of}
use Rattle.model.specs.Structures.{Shape, Form}
use Rattle.model.specs.Unravelled.{is_path, end_of, unravelled}
use Rattle.model.proofs.Numbers.{element_name}
use Rattle.model.proofs.Tests.{and_both}
use Rattle.search.proofs.Joining.{View, view, bare_parts, extends_parts}
use Rattle.universal.specs.Universal.{Models, UnravelledMaps}
use Rattle.universal.proofs.HiddenLinks.{flip, unflip, extended, seen, below-joins, facts_join, name_marks, grow}
use Rattle.universal.proofs.PathMarks.{laws, step_at_lem, step_has, recorded, stepped, marks_have}

-- a thing where the test passes
pick : (b : Bool) → (T b → Thing) → Thing
pick true g = g tt
pick false g = []

pick_is : (b : Bool) (g : T b → Thing) (h : T b) → pick b g ≡ g h
unfolding pick
pick_is true g h = refl
pick_is false g h = absurd h

module _ (facts : Fact → Bool) (rules : RuleSet) (s : Shape) (f : Form) (m : Models f.names facts rules s f)
    (w : World f.names) (fits : Fits w facts rules.rules) where
  abbrev extension : World f.names
  extension = extended w rules

  abbrev element_at : ℕ → Element
  element_at = element_of f.names

  -- a thing with all the marks of an element
  abbrev Like : Element → Type 0
  Like e = (y : Thing) × ((C : Mark) → HasMark f.names facts rules e C → Marked extension C y)

  -- and joined from x as a step to the element is
  abbrev Onward : Element → Thing → Type 0
  Onward d x = (y : Like d) × ((R : Role) → By rules R d → Joined extension R x y.0)

  onward : (c d : Element) → Steps f.names facts rules c d → (x : Like c) → Onward d x.0
  onward c (Element.named b) t x = absurd t
  onward c (Element.witness S j) t x =
      let g = grow w facts rules m.facts_in m.proper fits S x.0 (x.1 _ (step_has facts rules s f m S c (Element.witness S j) t Star.here)) in
      ((g.0, g.1), g.2)

  -- the image of a path: a name's own thing, and then on, step by step
  image : (x : Thing) → T (is_path f x) → Like (element_at (end_of x))
  image [] h = absurd h
  image (a ∷ []) h =
      let n : Name = name_of a in (
        w.name n,
        λ C g. name_marks w facts rules m.facts_in m.proper fits n C
            (subst (λ e. HasMark f.names facts rules e C) (element_name f.names n (ltb→lt a f.names h)) g),
      )
  image (d ∷ (e ∷ p)) h = (onward (element_at e) (element_at d) (step_at_lem facts rules s f m d e p h) (image (e ∷ p) (and_both (f.step e d) _ h).1)).0

  pub to : Thing → Thing
  to x = pick (is_path f x) (λ h. (image x h).0)

  to_is : (x : Thing) (h : T (is_path f x)) → to x ≡ (image x h).0
  unfolding to
  to_is x h = pick_is (is_path f x) (λ g. (image x g).0) h

  pub to_name : (a : Name) → a.0 < f.names → to (a.0 ∷ []) ≡ w.name a
  unfolding image
  to_name a h = to_is (a.0 ∷ []) (lt→ltb a.0 f.names h)

  to_kind : (k : Kind) (x : Thing) → T ((unravelled s f).kind k x) → T (w.kind k (to x))
  to_kind k x h =
      let g = marks_have facts rules s f m (Mark.Is k) x h in
      subst (λ y. T (w.kind k y)) (sym (to_is x g.0)) ((image x g.0).1 (Mark.Is k) g.1)

  to_extends : (R : Role) (x : Thing) (d : ℕ) → T (is_path f x) → T (is_path f (d ∷ x)) → By rules R (element_at d) → Joined extension R (to x) (to (d ∷ x))
  unfolding image
  to_extends R [] d o n b = absurd o
  to_extends R (e ∷ p) d o n b =
      let q = (and_both (f.step e d) _ n).1 in
      subst₂ (Joined extension R) (sym (to_is (e ∷ p) q)) (sym (to_is (d ∷ (e ∷ p)) n))
      ((onward (element_at e) (element_at d) (step_at_lem facts rules s f m d e p n) (image (e ∷ p) q)).1 R b)

  to_joins : (R : Role) (x y : Thing) → Joined (unravelled s f) R x y → Joined extension R (to x) (to y)
  to_joins R x y h = go (view s f (laws facts rules s f m) R x y h)
    where
      go : View s f R x y → Joined extension R (to x) (to y)
      go (inl a) =
          let b = bare_parts s f R x y a in
          let r = recorded facts rules s f m R x y b in
          subst₂ (Joined extension R) (sym (ap to b.x_is ∙ to_name _ b.from_in)) (sym (ap to b.y_is ∙ to_name _ b.to_in))
          (below-joins w facts rules m.facts_in m.proper fits r.2 _ _ (facts_join w facts rules m.facts_in m.proper fits r.0 _ _ r.1))
      go (inr (inl a)) =
          let e = extends_parts s f R x y a in
          subst (λ z. Joined extension R (to x) (to z)) (sym e.y_is) (to_extends R x e.last e.old e.new (stepped facts rules s f m R x y e).1)
      go (inr (inr a)) =
          let e = extends_parts s f (inverse R) y x a in
          subst (λ z. Joined extension R (to z) (to y)) (sym e.y_is)
          (unflip extension R _ _ (to_extends (inverse R) y e.last e.old e.new (stepped facts rules s f m (inverse R) y x e).1))

  to_seen_joins : (R : Role) (x y : Thing) → (link_of R).0 < 32 → Joined (unravelled s f) R x y → Joined w R (to x) (to y)
  to_seen_joins R x y l h = subst (λ X. X) (seen w facts rules m.facts_in m.proper R (to x) (to y) l) (to_joins R x y h)

  -- a match goes to a match
  module _ (σ : ℕ → Thing) where
    value_to : (t : Term) → T (is_path f (value (unravelled s f) σ t)) → to (value (unravelled s f) σ t) ≡ value w (λ v. to (σ v)) t
    value_to (Term.Variable v) h = refl
    value_to (Term.Name a) h = to_name a (ltb→lt a.0 f.names h)

    pub true_to : (u : Atom) → AtomRanged u → True (unravelled s f) σ u → True w (λ v. to (σ v)) u
    true_to (Atom.Is k t) i h = subst (λ z. T (w.kind k z)) (value_to t (and_both (is_path f (value (unravelled s f) σ t)) _ h).0) (to_kind k _ h)
    true_to (Atom.Joins R t u) i h =
        subst₂ (Joined w R)
        (value_to t (marks_have facts rules s f m (Mark.Has R) _ (_, h)).0)
        (value_to u (marks_have facts rules s f m (Mark.Has (inverse R)) _ (_, flip (unravelled s f) R _ _ h)).0)
        (to_seen_joins R _ _ (omega (arith, i.0)) h)

pub unravelled_maps : UnravelledMaps
unravelled_maps facts rules s f m w fits = record {
  image = to facts rules s f m w fits;
  keeps_names = to_name facts rules s f m w fits;
  keeps_kinds = to_kind facts rules s f m w fits;
  keeps_links = λ l x y h. to_seen_joins facts rules s f m w fits (Role.Forward l) x y h;
}
