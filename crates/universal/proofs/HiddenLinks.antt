-- A world that fits, with hidden links added: it has every edge, and so all that follows from facts and rules.
use Rattle.std.proofs.Common.{◌≡◌, ℕ, ◌+◌, ◌-◌, ◌<◌, Bool, false, cond, ◌&&◌, T, ltb, Option, sym, refl, ap, ◌∙◌, subst, arith, ltb→lt, lt→ltb}
use Rattle.std.specs.List.{slice_get}
use Rattle.league.specs.Roles.{inverse, link_of}
use Rattle.league.specs.Worlds.{World, Thing, Joined, Marked, Fits}
use Rattle.league.specs.declared.facts.Fact.{Fact}
use Rattle.league.specs.declared.facts.Kind.{Kind}
use Rattle.league.specs.declared.facts.Link.{Link}
use Rattle.league.specs.declared.facts.Name.{Name}
use Rattle.league.specs.declared.roles.Mark.{Mark}
use Rattle.league.specs.declared.roles.Role.{Role}
use Rattle.league.specs.declared.rules.Rule.{Rule}
use Rattle.graph.specs.Paths.{Star}
use Rattle.rules.specs.Follows.{Hides, Below, Implies, RoleEdge, MarkEdge, hidden}
use Rattle.rules.specs.Marks.{MarkIn}
use Rattle.rules.specs.RuleSet.{RuleSet, Proper}
use Rattle.rules.specs.declared.pair.Pair.{Pair}
use Rattle.rules.proofs.Marked.{T_true}
use Rattle.model.specs.Canonical.{Generating, Present, HasMark, Clash}
use Rattle.model.specs.Elements.{Element}
use Rattle.model.specs.Recorded.{FactsIn, Recorded, Given, NameHas}
use Rattle.model.proofs.Tests.{and_both, both_and, is_false}
use Rattle.universal.specs.Universal.{ClashFitsNone}
use Rattle.universal.proofs.Partners.{link_within}

module _ {P : ℕ} (w : World P) where
  pub flip : (R : Role) (x y : Thing) → Joined w R x y → Joined w (inverse R) y x
  flip (Role.Forward l) x y h = h
  flip (Role.Backward l) x y h = h

  pub unflip : (R : Role) (x y : Thing) → Joined w (inverse R) x y → Joined w R y x
  unflip (Role.Forward l) x y h = h
  unflip (Role.Backward l) x y h = h

  abbrev joins : Role → Thing → Thing → Bool
  joins (Role.Forward l) x y = w.link l x y
  joins (Role.Backward l) x y = w.link l y x

  joins_are_lem : (R : Role) (x y : Thing) → T (joins R x y) ≡ Joined w R x y
  joins_are_lem (Role.Forward l) x y = refl
  joins_are_lem (Role.Backward l) x y = refl

  abbrev joins_pair : Option Pair → Thing → Thing → Bool
  joins_pair Option.None x y = false
  joins_pair (Option.Some p) x y = joins p.role x y && w.kind p.kind y

  -- with hidden links: that of a pair joins what its role joins to something of its kind
  abbrev pub extended : RuleSet → World P
  extended rules = record {
    name = w.name;
    own = w.own;
    kind = w.kind;
    link = λ l x y. cond (ltb l.0 32) (w.link l x y) (joins_pair (slice_get rules.pairs (l.0 - 32)) x y);
  }

module _ {P : ℕ} (w : World P) (facts : Fact → Bool) (rules : RuleSet) (inside : FactsIn P facts) (proper : Proper rules) where
  abbrev extension : World P
  extension = extended w rules

  seen_link : (l : Link) (x y : Thing) → l.0 < 32 → extension.link l x y ≡ w.link l x y
  seen_link l x y h =
      ap (λ b. cond b (w.link l x y) (joins_pair w (slice_get rules.pairs (l.0 - 32)) x y)) (T_true (ltb l.0 32) (lt→ltb l.0 32 h))

  pub seen : (R : Role) (x y : Thing) → (link_of R).0 < 32 → Joined extension R x y ≡ Joined w R x y
  seen (Role.Forward l) x y h = ap T (seen_link l x y h)
  seen (Role.Backward l) x y h = ap T (seen_link l y x h)

  to_seen : (B : Mark) (x : Thing) → MarkIn B → Marked extension B x → Marked w B x
  to_seen (Mark.Is k) x h g = g
  to_seen (Mark.Has R) x h g = (g.0, subst (λ X. X) (seen R x g.0 h) g.1)

  from_seen : (B : Mark) (x : Thing) → MarkIn B → Marked w B x → Marked extension B x
  from_seen (Mark.Is k) x h g = g
  from_seen (Mark.Has R) x h g = (g.0, subst (λ X. X) (sym (seen R x g.0 h)) g.1)

  hidden_link : (i : ℕ) (R : Role) (k : Kind) (x y : Thing) → Hides rules i R k → extension.link (hidden i) x y ≡ (joins w R x y && w.kind k y)
  hidden_link i R k x y h =
      ap (λ b. cond b (w.link (hidden i) x y) (joins_pair w (slice_get rules.pairs ((32 + i) - 32)) x y)) (is_false (ltb (32 + i) 32) (λ t. omega (arith, ltb→lt (32 + i) 32 t)))
      ∙ (ap (λ j. joins_pair w (slice_get rules.pairs j) x y) place ∙ ap (λ o. joins_pair w o x y) h)
    where
      place : (32 + i) - 32 ≡ i
      place = omega arith

  hidden_parts : (i : ℕ) (R : Role) (k : Kind) (x y : Thing) → Hides rules i R k → T (extension.link (hidden i) x y) → Joined extension R x y × T (w.kind k y)
  hidden_parts i R k x y h t =
      let g = and_both (joins w R x y) _ (subst T (hidden_link i R k x y h) t) in
      (subst (λ X. X) (joins_are_lem w R x y ∙ sym (seen R x y (proper.pairs_in i _ h).0)) g.0, g.1)

  module _ (fits : Fits w facts rules.rules) where
    under_joins : (U V : Role) → T (rules.rules (Rule.RoleInclusion U V)) → (x y : Thing) → Joined extension U x y → Joined extension V x y
    under_joins U V h x y j =
        let p = proper.rules_in _ h in
        subst (λ X. X) (sym (seen V x y p.1)) (fits.each_rule _ h x y (subst (λ X. X) (seen U x y p.0) j))

    edge_joins : {R S : Role} → RoleEdge rules R S → (x y : Thing) → Joined extension R x y → Joined extension S x y
    edge_joins (RoleEdge.under U V h) x y j = under_joins U V h x y j
    edge_joins (RoleEdge.under⁻ U V h) x y j = flip extension V y x (under_joins U V h y x (unflip extension U x y j))
    edge_joins (RoleEdge.hides i U k h) x y j = (hidden_parts i U k x y h j).0
    edge_joins (RoleEdge.hides⁻ i U k h) x y j = flip extension U y x (hidden_parts i U k y x h j).0

    pub below-joins : {R S : Role} → Below rules R S → (x y : Thing) → Joined extension R x y → Joined extension S x y
    below-joins Star.here x y j = j
    below-joins (Star.then p e) x y j = edge_joins e x y (below-joins p x y j)

    edge_marks : {B C : Mark} → MarkEdge rules B C → (x : Thing) → Marked extension B x → Marked extension C x
    edge_marks (MarkEdge.includes B C h) x g =
        let p = proper.rules_in _ h in
        from_seen C x p.1 (fits.each_rule _ h x (to_seen B x p.0 g))
    edge_marks (MarkEdge.needs B i R k h t) x g =
        let p = proper.rules_in _ h in
        let y = fits.each_rule _ h x (to_seen B x p.0 g) in (
          y.0,
          subst T (sym (hidden_link i R k x y.0 t)) (both_and (joins w R x y.0) _ (subst (λ X. X) (sym (joins_are_lem w R x y.0)) y.1) y.2),
        )
    edge_marks (MarkEdge.lands i R k t) x g = (hidden_parts i R k g.0 x t g.1).1
    edge_marks (MarkEdge.lifts R S h) x g = (g.0, below-joins h x g.0 g.1)

    pub implies_marks : {B C : Mark} → Implies rules B C → (x : Thing) → Marked extension B x → Marked extension C x
    implies_marks Star.here x g = g
    implies_marks (Star.then p e) x g = edge_marks e x (implies_marks p x g)

    pub facts_join : (R : Role) (a b : Name) → Recorded facts R a b → Joined extension R (w.name a) (w.name b)
    facts_join (Role.Forward l) a b r = subst T (sym (seen_link l (w.name a) (w.name b) (link_within P facts inside l a b r).0)) (fits.each_fact _ r)
    facts_join (Role.Backward l) a b r = subst T (sym (seen_link l (w.name b) (w.name a) (link_within P facts inside l b a r).0)) (fits.each_fact _ r)

    given_marks : (a : Name) {B : Mark} → Given facts a B → Marked extension B (w.name a)
    given_marks a (Given.of_kind k h) = fits.each_fact _ h
    given_marks a (Given.partner R b h) = (w.name b, facts_join R a b h)

    pub name_marks : (a : Name) (C : Mark) → NameHas facts rules a C → Marked extension C (w.name a)
    name_marks a C h = implies_marks h.2 (w.name a) (given_marks a h.1)

    -- a thing that has every mark of a witness of S
    abbrev pub LikeWitness : Role → Thing → Type 0
    LikeWitness S y = (C : Mark) → Implies rules (Mark.Has (inverse S)) C → Marked extension C y

    -- from a thing with a partner by S to one with the marks of a witness of S
    pub grow : (S : Role) (x : Thing) → Marked extension (Mark.Has S) x → (y : Thing) × LikeWitness S y × ((R : Role) → Below rules S R → Joined extension R x y)
    grow S x h = (h.0, λ C i. implies_marks i h.0 (x, flip extension S x h.0 h.1), λ R b. below-joins b x h.0 h.1)

    generating_marks : {R : Role} → Generating P facts rules R → (y : Thing) × LikeWitness R y
    generating_marks (Generating.from_name a R t) = let g = grow R (w.name a) (name_marks a _ t.1) in (g.0, g.1)
    generating_marks (Generating.from_role R S l h) = let t = generating_marks l in let g = grow S t.0 (t.1 _ h.0) in (g.0, g.1)

    clash_none : Clash P facts rules → ⊥
    clash_none c = go c.holder c.present c.has_one c.has_other
      where
        both : (x : Thing) → Marked extension c.one x → Marked extension c.other x → ⊥
        both x g h =
            let p = proper.rules_in _ c.excluded in
            fits.each_rule _ c.excluded x (to_seen _ x p.0 g) (to_seen _ x p.1 h)

        go : (e : Element) → Present P facts rules e → HasMark P facts rules e c.one → HasMark P facts rules e c.other → ⊥
        go (Element.named a) p g h = both (w.name a) (name_marks a _ g) (name_marks a _ h)
        go (Element.witness R i) p g h = let t = generating_marks p.0 in both t.0 (t.1 _ g) (t.1 _ h)

pub clash_fits_none : ClashFitsNone
clash_fits_none P facts rules inside proper c w fits = clash_none w facts rules inside proper fits c
