-- A number that a test holds of can be found once it is known that there is one.
use Rattle.std.proofs.Common.{◌≡◌, ℕ, zero, suc, ◌<◌, Bool, true, false, T, ◌⊎◌, subst, inl, inr, arith}
use mathlib.Core.Logic.{∥∥₁_elim}
use mathlib.Core.HLevel.{Σ_prop_path, ×_prop, Π_prop, ⊥_prop}
use native.Mathlib.Decide.{dec_lt}
use lib.Dec.{T_prop}

-- the least number that the test holds of
Least : (ℕ → Bool) → Type 0
Least q = (k : ℕ) × (T (q k) × ((j : ℕ) → j < k → T (q j) → ⊥))

least_prop : (q : ℕ → Bool) → IsProp (Least q)
unfolding Least
least_prop q x y = Σ_prop_path (λ k. ×_prop (T_prop (q k)) (Π_prop (λ j. Π_prop (λ _. Π_prop (λ _. ⊥_prop))))) same
  where
    same : x.0 ≡ y.0
    same = elim (dec_lt x.0 y.0) [
      | yes l ↦ absurd (y.1.1 x.0 l x.1.0)
      | no u ↦ elim (dec_lt y.0 x.0) [ yes l ↦ absurd (x.1.1 y.0 l y.1.0) | no v ↦ omega arith ]
    ]

-- among the numbers below n, or none of them
least_below : (q : ℕ → Bool) (n : ℕ) → Least q ⊎ ((j : ℕ) → j < n → T (q j) → ⊥)
unfolding Least
least_below q zero = inr (λ j l. absurd (omega arith))
least_below q (suc n) = elim (least_below q n) [
  | inl x ↦ inl x
  | inr none ↦ elim (told (q n)) [
    | inl h ↦ inl (n, (h, none))
    | inr u ↦ inr (λ j l h. elim (dec_lt j n) [ yes k ↦ none j k h | no v ↦ u (subst (λ i. T (q i)) (omega arith) h) ])
  ]
]
  where
    told : (b : Bool) → T b ⊎ (T b → ⊥)
    told true = inl tt
    told false = inr (λ h. h)

least_of : (q : ℕ → Bool) (k : ℕ) → T (q k) → Least q
least_of q k h = elim (least_below q (suc k)) [ inl x ↦ x | inr none ↦ absurd (none k (omega arith) h) ]

pub found : (q : ℕ → Bool) → ∥ ((k : ℕ) × T (q k)) ∥₁ → (k : ℕ) × T (q k)
unfolding Least
found q x = let l : Least q = ∥∥₁_elim x (least_prop q) (λ p. least_of q p.0 p.1) in (l.0, l.1.0)
