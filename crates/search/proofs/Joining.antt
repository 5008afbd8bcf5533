-- What joins two paths of the unravelled model, taken apart and put together.
use Rattle.std.proofs.Common.{◌≡◌, ℕ, ◌<◌, T, eqb, ltb, ◌⊎◌, List, [], ◌∷◌, sym, refl, subst, ap₂, inl, inr, eqb→eq, ltb→lt}
use lib.Dec.{eqb_refl}
use Rattle.league.specs.Roles.{inverse}
use Rattle.league.specs.Worlds.{Thing, Joined}
use Rattle.league.specs.declared.roles.Role.{Role}
use Rattle.model.specs.Structures.{Shape, Form, Lawful}
use Rattle.model.specs.Unravelled.{same_list, end_of, is_path, bare, extends, unravelled}
use Rattle.model.proofs.Tests.{and_both, both_and, or_either, or_left, or_right}

same_equal : (x y : List ℕ) → T (same_list x y) → x ≡ y
same_equal [] [] h = refl
same_equal [] (b ∷ y) h = absurd h
same_equal (a ∷ x) [] h = absurd h
same_equal (a ∷ x) (b ∷ y) h =
    let g = and_both (eqb a b) (same_list x y) h
    in ap₂ {C = List ℕ} (λ c z. c ∷ z) (eqb→eq a b g.0) (same_equal x y g.1)

same_self : (x : List ℕ) → T (same_list x x)
same_self [] = tt
same_self (a ∷ x) = both_and (eqb a a) (same_list x x) (eqb_refl a) (same_self x)

module _ (s : Shape) (f : Form) where
  -- the parts of a join of two bare names
  pub record Bare (R : Role) (x y : Thing) : Type 0 where
    pub from : ℕ
    pub to : ℕ
    pub x_is : x ≡ from ∷ []
    pub y_is : y ≡ to ∷ []
    pub from_in : from < f.names
    pub to_in : to < f.names
    pub join : T (s.joins R from to)

  pub bare_parts : (R : Role) (x y : Thing) → T (bare s f R x y) → Bare R x y
  bare_parts R [] y h = absurd h
  bare_parts R (a ∷ []) [] h = absurd h
  bare_parts R (a ∷ []) (b ∷ []) h =
      let g = and_both (ltb a f.names) _ h
      in let j = and_both (ltb b f.names) _ g.1
      in record { from = a; to = b; x_is = refl; y_is = refl; from_in = ltb→lt a _ g.0; to_in = ltb→lt b _ j.0; join = j.1 }
  bare_parts R (a ∷ []) (b ∷ (e ∷ p)) h = absurd h
  bare_parts R (a ∷ (e ∷ p)) y h = absurd h

  -- the parts of an extension
  pub record Extends (R : Role) (x y : Thing) : Type 0 where
    pub last : ℕ
    pub y_is : y ≡ last ∷ x
    pub old : T (is_path f x)
    pub new : T (is_path f (last ∷ x))
    pub by : T (f.by R (end_of x) last)

  pub extends_parts : (R : Role) (x y : Thing) → T (extends s f R x y) → Extends R x y
  extends_parts R x [] h = absurd h
  extends_parts R x (d ∷ y) h =
      let a = and_both (same_list x y) _ h
      in let b = and_both (is_path f y) _ a.1
      in let c = and_both (is_path f (d ∷ y)) _ b.1
      in subst (λ z. Extends R z (d ∷ y)) (sym (same_equal x y a.0)) (record { last = d; y_is = refl; old = b.0; new = c.0; by = c.1 })

  pub extends_made : (R : Role) (x : Thing) (d : ℕ) → T (is_path f x) → T (is_path f (d ∷ x)) → T (f.by R (end_of x) d) → T (extends s f R x (d ∷ x))
  extends_made R x d o n h =
      both_and (same_list x x) _ (same_self x) (both_and (is_path f x) _ o (both_and (is_path f (d ∷ x)) _ n h))

  pub step_of : (d : ℕ) (x : Thing) → T (is_path f x) → T (is_path f (d ∷ x)) → T (f.step (end_of x) d)
  step_of d [] h g = absurd h
  step_of d (e ∷ p) h g = (and_both (f.step e d) _ g).0

  -- two bare names, an extension by a step by R, or one back by R⁻
  abbrev pub View : Role → Thing → Thing → Type 0
  View R x y = T (bare s f R x y) ⊎ (T (extends s f R x y) ⊎ T (extends s f (inverse R) y x))

module _ (s : Shape) (f : Form) (laws : Lawful s f) where
  bare_turned : (R : Role) (x y : Thing) → T (bare s f R x y) → T (bare s f (inverse R) y x)
  bare_turned R [] y h = absurd h
  bare_turned R (a ∷ []) [] h = absurd h
  bare_turned R (a ∷ []) (b ∷ []) h =
      let g = and_both (ltb a f.names) _ h
      in let j = and_both (ltb b f.names) _ g.1
      in both_and (ltb b f.names) _ j.0 (both_and (ltb a f.names) _ g.0 (subst T (sym (laws.joins_back R a b)) j.1))
  bare_turned R (a ∷ []) (b ∷ (e ∷ p)) h = absurd h
  bare_turned R (a ∷ (e ∷ p)) y h = absurd h

  pub view : (R : Role) (x y : Thing) → Joined (unravelled s f) R x y → View s f R x y
  view (Role.Forward l) x y h =
      elim (or_either (bare s f (Role.Forward l) x y) _ h) [
        | inl a ↦ inl a
        | inr a ↦ inr (or_either (extends s f (Role.Forward l) x y) _ a)
      ]
  view (Role.Backward l) x y h =
      elim (or_either (bare s f (Role.Forward l) y x) _ h) [
        | inl a ↦ inl (bare_turned (Role.Forward l) y x a)
        | inr a ↦ elim (or_either (extends s f (Role.Forward l) y x) _ a) [ inl b ↦ inr (inr b) | inr b ↦ inr (inl b) ]
      ]

  pub joined : (R : Role) (x y : Thing) → View s f R x y → Joined (unravelled s f) R x y
  joined (Role.Forward l) x y (inl a) = or_left (bare s f (Role.Forward l) x y) _ a
  joined (Role.Forward l) x y (inr (inl a)) =
      or_right (bare s f (Role.Forward l) x y) _ (or_left (extends s f (Role.Forward l) x y) _ a)
  joined (Role.Forward l) x y (inr (inr a)) =
      or_right (bare s f (Role.Forward l) x y) _ (or_right (extends s f (Role.Forward l) x y) _ a)
  joined (Role.Backward l) x y (inl a) = or_left (bare s f (Role.Forward l) y x) _ (bare_turned (Role.Backward l) x y a)
  joined (Role.Backward l) x y (inr (inl a)) =
      or_right (bare s f (Role.Forward l) y x) _ (or_right (extends s f (Role.Forward l) y x) _ a)
  joined (Role.Backward l) x y (inr (inr a)) =
      or_right (bare s f (Role.Forward l) y x) _ (or_left (extends s f (Role.Forward l) y x) _ a)
