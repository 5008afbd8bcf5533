-- Paths carried from one graph to another, and their ends.
use Rattle.std.proofs.Common.{◌≡◌, ◌⊎◌, sym, refl, subst, inl, inr, ⊎_elim}
use Rattle.graph.specs.Paths.{Star, here, then}

-- a path after a path
pub star_join : {A : Type 0} {E : A → A → Type 0} {a b c : A} → Star E a b → Star E b c → Star E a c
star_join p here = p
star_join p (then q e) = then (star_join p q) e

-- a path of equal ends
pub star_same : {A : Type 0} {E : A → A → Type 0} {a b : A} → a ≡ b → Star E a b
star_same {E = E} {a = a} e = subst (λ x. Star E a x) e here

-- a path in one graph, where each edge is a path in another
pub star_map : {A B : Type 0} {E : A → A → Type 0} {F : B → B → Type 0} (f : A → B)
    → ((x y : A) → E x y → Star F (f x) (f y)) → {a b : A} → Star E a b → Star F (f a) (f b)
star_map f g here = here
star_map f g (then {b = b} {c = c} p e) = star_join (star_map f g p) (g b c e)

-- where the ends of each edge are one or both have a property, so are or have the ends of a path
pub star_ends : {A : Type 0} {E : A → A → Type 0} (P : A → Type 0)
    → ((x y : A) → E x y → (x ≡ y) ⊎ (P x × P y)) → {a b : A} → Star E a b → (a ≡ b) ⊎ (P a × P b)
star_ends P g here = inl refl
star_ends P g (then {a = a} {b = b} {c = c} p e) =
    ⊎_elim
    (λ same. subst (λ x. (a ≡ x) ⊎ (P a × P x)) same (star_ends P g p))
    (λ both.
    ⊎_elim
    (λ same. inr (subst P (sym same) both.0, both.1))
    (λ ends. inr (ends.0, both.1))
    (star_ends P g p))
    (g b c e)
