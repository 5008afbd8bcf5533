-- The tests of what the rules give at once say the same as the edges, and edges join only what is in the tables.
use Rattle.std.proofs.Common.{◌≡◌, ℕ, ◌+◌, ◌-◌, ◌<◌, ◌≤◌, Bool, true, false, ◌&&◌, ◌||◌, T, leb, ◌⊎◌, Some, None, Option, sym, refl, ap, ◌∙◌, subst, inl, inr, ⊎_elim, arith}
use Rattle.std.proofs.lemmas.Bool.{leb-true, le-leb}
use Rattle.std.proofs.lemmas.Option.{slice_get_within}
use Rattle.std.specs.List.{slice_get}
use Rattle.graph.proofs.Reaching.{or_in, in_left, in_right}
use Rattle.graph.proofs.Stars.{star_ends}
use Rattle.league.specs.Roles.{inverse, link_of}
use Rattle.league.specs.declared.facts.Kind.{Kind}
use Rattle.league.specs.declared.facts.Link.{Link}
use Rattle.league.specs.declared.roles.Role.{Role}
use Rattle.league.specs.declared.roles.Role.TheVariants.{Forward, Backward}
use Rattle.league.specs.declared.roles.Mark.{Mark}
use Rattle.league.specs.declared.roles.Mark.TheVariants.{Is, Has}
use Rattle.league.specs.declared.rules.Rule.TheVariants.{Inclusion, Required, RoleInclusion}
use Rattle.rules.specs.Follows.{hidden, Hides, RoleEdge, under, under⁻, hides, hides⁻, Below, MarkEdge, includes, needs, lands, lifts}
use Rattle.rules.specs.Marks.{MarkIn}
use Rattle.rules.specs.Pairs.{pair_of}
use Rattle.rules.specs.RuleSet.{RuleSet, Proper}
use Rattle.rules.specs.Steps.{of_role, of_kind, hidden_under, role_gives, requires_pair, needs_hidden, lands_hidden, lifts_role, mark_gives}
use Rattle.rules.specs.declared.pair.Pair.{Pair}
use Rattle.rules.proofs.Marked.{T_true, true_T, kind_self, kind_eq, role_self, role_eq, turn_turn}

-- both of two tests
in_both : (x y : Bool) → T (x && y) → T x × T y
in_both true y t = (tt, t)
in_both false y t = absurd t

from_both : (x y : Bool) → T x → T y → T (x && y)
from_both true y t u = u
from_both false y t u = absurd t

-- the roles and marks of the tables: kinds below 64, and links below 64, of which the upper half are hidden
abbrev pub RoleFits : Role → Type 0
RoleFits R = (link_of R).0 < 64

abbrev pub MarkFits : Mark → Type 0
MarkFits (Is k) = k.0 < 64
MarkFits (Has R) = RoleFits R

in_fits : (B : Mark) → MarkIn B → MarkFits B
in_fits (Is k) h = h
in_fits (Has R) h = omega arith

turned_link : (R : Role) → (link_of (inverse R)).0 ≡ (link_of R).0
turned_link (Forward l) = refl
turned_link (Backward l) = refl

-- a link that is hidden, as the hidden link of a number
hidden_link : (l : Link) → T (leb 32 l.0) → hidden (l.0 - 32) ≡ l
hidden_link l t =
    let m : 32 ≤ l.0 = leb-true 32 l.0 (T_true (leb 32 l.0) t) in
    let e : 32 + (l.0 - 32) ≡ l.0 = omega arith in
    λ i. record { 0 = e i }

module _ (s : RuleSet) where
  -- a pair at a number, by its role, and by its kind
  role_pair : (o : Option Pair) (R : Role) → T (of_role o R) → (k : Kind) × (o ≡ Some (pair_of R k))
  role_pair None R t = absurd t
  role_pair (Some p) R t =
      (p.kind, (let e = role_eq p.role R (T_true _ t) in λ i. Some (record { role = e i; kind = p.kind })))

  kind_pair : (o : Option Pair) (k : Kind) → T (of_kind o k) → (R : Role) × (o ≡ Some (pair_of R k))
  kind_pair None k t = absurd t
  kind_pair (Some p) k t =
      (p.role, (let e = kind_eq p.kind k (T_true _ t) in λ i. Some (record { role = p.role; kind = e i })))

  pair_role : (o : Option Pair) (R : Role) (k : Kind) → o ≡ Some (pair_of R k) → T (of_role o R)
  pair_role o R k e = subst (λ (x : Option Pair). T (of_role x R)) (sym e) (true_T _ (role_self R))

  pair_kind : (o : Option Pair) (R : Role) (k : Kind) → o ≡ Some (pair_of R k) → T (of_kind o k)
  pair_kind o R k e = subst (λ (x : Option Pair). T (of_kind x k)) (sym e) (true_T _ (kind_self k))

  -- the pair of the hidden link of a number
  at-hidden : (i : ℕ) (R : Role) (k : Kind) → Hides s i R k → slice_get s.pairs ((32 + i) - 32) ≡ Some (pair_of R k)
  at-hidden i R k h = let e : (32 + i) - 32 ≡ i = omega arith in ap (slice_get s.pairs) e ∙ h

  is_hidden : (i : ℕ) → T (leb 32 (32 + i))
  is_hidden i = true_T _ (le-leb 32 (32 + i) (omega arith))

  -- roles: the test and the edge
  hidden_edge : (R S : Role) → T (hidden_under s R S) → RoleEdge s R S
  hidden_edge (Forward l) S t =
      let b = in_both (leb 32 l.0) (of_role (slice_get s.pairs (l.0 - 32)) S) t in
      let k = role_pair (slice_get s.pairs (l.0 - 32)) S b.1 in
      subst (λ (m : Link). RoleEdge s (Forward m) S) (hidden_link l b.0) (hides (l.0 - 32) S k.0 k.1)
  hidden_edge (Backward l) S t =
      let b = in_both (leb 32 l.0) (of_role (slice_get s.pairs (l.0 - 32)) (inverse S)) t in
      let k = role_pair (slice_get s.pairs (l.0 - 32)) (inverse S) b.1 in
      let e : RoleEdge s (Backward l) (inverse (inverse S)) =
      subst (λ (m : Link). RoleEdge s (Backward m) (inverse (inverse S))) (hidden_link l b.0) (hides⁻ (l.0 - 32) (inverse S) k.0 k.1) in
      subst (λ (Q : Role). RoleEdge s (Backward l) Q) (turn_turn S) e

  pub gives_edge : (R S : Role) → T (role_gives s R S) → RoleEdge s R S
  gives_edge R S t =
      ⊎_elim (under R S) (hidden_edge R S) (or_in (s.rules (RoleInclusion R S)) (hidden_under s R S) t)

  -- marks: the test and the edge
  needs_edge : (B C : Mark) → T (needs_hidden s B C) → MarkEdge s B C
  needs_edge B (Is k) t = absurd t
  needs_edge B (Has (Forward l)) t =
      let b = in_both (leb 32 l.0) (requires_pair s B (slice_get s.pairs (l.0 - 32))) t in
      subst (λ (m : Link). MarkEdge s B (Has (Forward m))) (hidden_link l b.0) (required (slice_get s.pairs (l.0 - 32)) refl b.1)
    where
      required : (o : Option Pair) → slice_get s.pairs (l.0 - 32) ≡ o → T (requires_pair s B o) → MarkEdge s B (Has (Forward (hidden (l.0 - 32))))
      required None e r = absurd r
      required (Some p) e r = needs B (l.0 - 32) p.role p.kind r e
  needs_edge B (Has (Backward l)) t = absurd t

  lands_edge : (B C : Mark) → T (lands_hidden s B C) → MarkEdge s B C
  lands_edge (Is k) C t = absurd t
  lands_edge (Has (Forward l)) C t = absurd t
  lands_edge (Has (Backward l)) (Is k) t =
      let b = in_both (leb 32 l.0) (of_kind (slice_get s.pairs (l.0 - 32)) k) t in
      let R = kind_pair (slice_get s.pairs (l.0 - 32)) k b.1 in
      subst (λ (m : Link). MarkEdge s (Has (Backward m)) (Is k)) (hidden_link l b.0) (lands (l.0 - 32) R.0 k R.1)
  lands_edge (Has (Backward l)) (Has S) t = absurd t

  -- where it is known which roles are below which
  module _ (below : Role → Role → Bool) (sound : (R S : Role) → T (below R S) → Below s R S) where
    lifts_edge : (B C : Mark) → T (lifts_role below B C) → MarkEdge s B C
    lifts_edge (Is k) C t = absurd t
    lifts_edge (Has R) (Is k) t = absurd t
    lifts_edge (Has R) (Has S) t = lifts R S (sound R S t)

    pub gives_mark_edge : (B C : Mark) → T (mark_gives s below B C) → MarkEdge s B C
    gives_mark_edge B C t =
        ⊎_elim (includes B C)
        (λ u.
        ⊎_elim (needs_edge B C)
        (λ v. ⊎_elim (lands_edge B C) (lifts_edge B C) (or_in (lands_hidden s B C) (lifts_role below B C) v))
        (or_in (needs_hidden s B C) (lands_hidden s B C || lifts_role below B C) u))
        (or_in (s.rules (Inclusion B C)) (needs_hidden s B C || (lands_hidden s B C || lifts_role below B C)) t)

  -- an edge passes the test, and joins what is in the tables, where the rules are those of a rule table
  module _ (proper : Proper s) where
    pub edge_gives : {R S : Role} → RoleEdge s R S → T (role_gives s R S)
    edge_gives (under R S t) = in_left (s.rules (RoleInclusion R S)) (hidden_under s R S) t
    edge_gives (under⁻ R S t) =
        in_left (s.rules (RoleInclusion (inverse R) (inverse S))) (hidden_under s (inverse R) (inverse S))
        (subst T (proper.turned R S) t)
    edge_gives (hides i R k h) =
        in_right (s.rules (RoleInclusion (Forward (hidden i)) R)) (hidden_under s (Forward (hidden i)) R)
        (from_both (leb 32 (32 + i)) (of_role (slice_get s.pairs ((32 + i) - 32)) R) (is_hidden i)
        (pair_role (slice_get s.pairs ((32 + i) - 32)) R k (at-hidden i R k h)))
    edge_gives (hides⁻ i R k h) =
        in_right (s.rules (RoleInclusion (Backward (hidden i)) (inverse R))) (hidden_under s (Backward (hidden i)) (inverse R))
        (from_both (leb 32 (32 + i)) (of_role (slice_get s.pairs ((32 + i) - 32)) (inverse (inverse R))) (is_hidden i)
        (subst (λ (Q : Role). T (of_role (slice_get s.pairs ((32 + i) - 32)) Q)) (sym (turn_turn R))
        (pair_role (slice_get s.pairs ((32 + i) - 32)) R k (at-hidden i R k h))))

    few : (i : ℕ) (R : Role) (k : Kind) → Hides s i R k → 32 + i < 64
    few i R k h = omega (arith, slice_get_within s.pairs i (pair_of R k) h, proper.pairs_few)

    pub edge_fits : {R S : Role} → RoleEdge s R S → RoleFits R × RoleFits S
    edge_fits (under R S t) =
        let w = proper.rules_in (RoleInclusion R S) t in
        (omega (arith, w.0), omega (arith, w.1))
    edge_fits (under⁻ R S t) =
        let w = proper.rules_in (RoleInclusion R S) t in
        (omega (arith, w.0, turned_link R), omega (arith, w.1, turned_link S))
    edge_fits (hides i R k h) = (few i R k h, omega (arith, (proper.pairs_in i (pair_of R k) h).0))
    edge_fits (hides⁻ i R k h) =
        (few i R k h, omega (arith, (proper.pairs_in i (pair_of R k) h).0, turned_link R))

    -- roles one below the other are one, or in the tables
    pub below-fits : {R S : Role} → Below s R S → (R ≡ S) ⊎ (RoleFits R × RoleFits S)
    below-fits = star_ends RoleFits (λ R S e. inr (edge_fits e))

    module _ (below : Role → Role → Bool) (complete : (R S : Role) → RoleFits R → RoleFits S → Below s R S → T (below R S)) where
      -- the marks of an edge are one, or the edge joins marks in the tables, and passes the test
      pub mark_edge_gives : {B C : Mark} → MarkEdge s B C → (B ≡ C) ⊎ (MarkFits B × MarkFits C × T (mark_gives s below B C))
      mark_edge_gives (includes B C t) =
          let w = proper.rules_in (Inclusion B C) t in
          inr (in_fits B w.0, in_fits C w.1, in_left (s.rules (Inclusion B C)) _ t)
      mark_edge_gives (needs B i R k t h) =
          let w = proper.rules_in (Required B R k) t in
          let C : Mark = Has (Forward (hidden i)) in
          let r : T (requires_pair s B (slice_get s.pairs ((32 + i) - 32))) =
          subst (λ (o : Option Pair). T (requires_pair s B o)) (sym (at-hidden i R k h)) t in
          inr (
            in_fits B w.0,
            few i R k h,
            in_right (s.rules (Inclusion B C)) _
                (in_left (needs_hidden s B C) _ (from_both (leb 32 (32 + i)) (requires_pair s B (slice_get s.pairs ((32 + i) - 32))) (is_hidden i) r)),
          )
      mark_edge_gives (lands i R k h) =
          let B : Mark = Has (Backward (hidden i)) in
          inr (
            few i R k h,
            (proper.pairs_in i (pair_of R k) h).1,
            in_right (s.rules (Inclusion B (Is k))) _
                (in_right (needs_hidden s B (Is k)) _
                (in_left (lands_hidden s B (Is k)) _
                (from_both (leb 32 (32 + i)) (of_kind (slice_get s.pairs ((32 + i) - 32)) k) (is_hidden i)
                (pair_kind (slice_get s.pairs ((32 + i) - 32)) R k (at-hidden i R k h))))),
          )
      mark_edge_gives (lifts R S b) =
          ⊎_elim
          (λ e. inl (ap Has e))
          (λ f.
          inr (
            f.0,
            f.1,
            in_right (s.rules (Inclusion (Has R) (Has S))) _
                (in_right (needs_hidden s (Has R) (Has S)) _
                (in_right (lands_hidden s (Has R) (Has S)) _ (complete R S f.0 f.1 b))),
          ))
          (below-fits b)
