-- What the bytes of a bit store mean as a bit is set, and when they are cleared.
use Rattle.std.proofs.Common.{◌≡◌, ℕ, ◌+◌, ◌/◌, ◌%◌, ◌^◌, ◌<◌, ◌≤◌, Bool, true, false, List, length, get_or, drop, set, replicate, sym, refl, ap, ◌∙◌, ⊎_elim, arith}
use mathlib.Core.Path.{fun_ext}
use native.Mathlib.Nat.{zero-div}
use Rattle.std.proofs.lemmas.List.{get_or_append_left, get_or-replicate, length-replicate}
use Rattle.std.proofs.lemmas.Bool.{and_left, cases_eq, cases_Bool}
use Rattle.std.proofs.lemmas.Bool.Decides.{nat_tests}
use Rattle.league.specs.declared.facts.Fact.{Fact}
use Rattle.league.specs.Facts.{same, plus, count_of, within}
use Rattle.league.proofs.Counts.{count-gain, count_none, same_eq}
use Rattle.store.specs.Holding.{gain, opened}
use Rattle.store.specs.Bits.{place_of, with_bit, set_bit, cleared, size_of, bit_limit, names_over, marked, held_bits}
use Rattle.store.proofs.Admitted.{range_within}
use Rattle.store.proofs.BitsSet.{set_here, set_there}
use Rattle.store.proofs.BitsPlaced.{place_same, place_below}

-- the byte of a fact's bit is one of the store's
pub place_byte : (n : ℕ) (xs : List ℕ) (f : Fact) → within n f ≡ true → size_of n ≤ length xs → place_of n f / 8 < length xs
place_byte n xs f w l = omega (arith, place_below n f w)

-- the bytes in which a fact's bit was set hold that fact more
pub marked-set : (n : ℕ) (xs : List ℕ) (f : Fact) → within n f ≡ true → size_of n ≤ length xs → marked n (set_bit xs (place_of n f)) ≡ plus f (marked n xs)
marked-set n xs f w l = fun_ext (λ g. ⊎_elim (inside g) (outside g) (cases_Bool (within n g)))
  where
    outside : (g : Fact) → within n g ≡ false → marked n (set_bit xs (place_of n f)) g ≡ plus f (marked n xs) g
    outside g v =
        let d : same f g ≡ false =
        ⊎_elim (λ e. let t : within n g ≡ true = rw (same_eq f g e) at w in cc) (λ e. e) (cases_Bool (same f g)) in
        rw (v, d) refl

    inside : (g : Fact) → within n g ≡ true → marked n (set_bit xs (place_of n f)) g ≡ plus f (marked n xs) g
    inside g v =
        let h = place_byte n xs f w l in
        ⊎_elim (λ e. rw (v, place_same n f g w v e, ← e) (set_here xs (place_of n f) h))
        (λ ne.
        let d : same f g ≡ false =
        ⊎_elim (λ e. absurd (ne (ap (place_of n) (same_eq f g e)))) (λ e. e) (cases_Bool (same f g)) in
        rw (v, d) (set_there xs (place_of n f) (place_of n g) h ne))
        (cases_eq (place_of n f) (place_of n g))

pub held-set : (n : ℕ) (xs : List ℕ) (f : Fact) → within n f ≡ true → size_of n ≤ length xs → held_bits n (set_bit xs (place_of n f)) ≡ gain (held_bits n xs) f
held-set n xs f w l =
    ap (λ (s : Fact → Bool). record { names = n; limit = bit_limit n; facts = s }) (marked-set n xs f w l)

-- one more is counted where the fact is new
pub counted_set : (n : ℕ) (xs : List ℕ) (f : Fact) (k : ℕ) → within n f ≡ true → size_of n ≤ length xs → marked n xs f ≡ false
    → k ≡ count_of n (marked n xs) → k + 1 ≡ count_of n (marked n (set_bit xs (place_of n f)))
counted_set n xs f k w l e t =
    ap (λ (x : ℕ). x + 1) t ∙ (sym (count-gain n (marked n xs) f w e) ∙ ap (count_of n) (sym (marked-set n xs f w l)))

-- the bytes as the program writes a bit of them
pub written : (xs : List ℕ) (i p byte : ℕ) → i ≡ p → byte ≡ with_bit (get_or xs (i / 8) 0) (i % 8) → set xs (i / 8) byte ≡ set_bit xs p
written xs i p byte e b = rw (b, e) refl

-- a cleared byte is 0
cleared_at : (n : ℕ) (xs : List ℕ) (k : ℕ) → k < n → get_or (cleared n xs) k 0 ≡ 0
cleared_at n xs k l =
    get_or_append_left (replicate n 0) (drop n xs) 0 k (rw length-replicate l) ∙ get_or-replicate n k 0 0 l

-- cleared bytes hold no fact
pub marked-cleared : (n : ℕ) (xs : List ℕ) → marked n (cleared (size_of n) xs) ≡ (λ _. false)
marked-cleared n xs = fun_ext (λ f. ⊎_elim (inside f) (λ e. and_left _ _ e) (cases_Bool (within n f)))
  where
    inside : (f : Fact) → within n f ≡ true → marked n (cleared (size_of n) xs) f ≡ false
    inside f w =
        let e : get_or (cleared (size_of n) xs) (place_of n f / 8) 0 ≡ 0 =
        cleared_at (size_of n) xs (place_of n f / 8) (omega (arith, place_below n f w)) in
        let q : 0 / 2 ^ (place_of n f % 8) ≡ 0 = zero-div (2 ^ (place_of n f % 8)) in
        rw (w, e, q) refl

pub held-cleared : (n : ℕ) (xs : List ℕ) → held_bits n (cleared (size_of n) xs) ≡ opened n (bit_limit n)
held-cleared n xs =
    ap (λ (s : Fact → Bool). record { names = n; limit = bit_limit n; facts = s }) (marked-cleared n xs)

pub counted_cleared : (n : ℕ) (xs : List ℕ) → 0 ≡ count_of n (marked n (cleared (size_of n) xs))
counted_cleared n xs = sym (ap (count_of n) (marked-cleared n xs) ∙ count_none n)

-- a store has at most 1,024 names, and bytes enough for their bits
pub over_few : (xs : List ℕ) (asked : ℕ) → names_over xs asked ≤ 1024
over_few xs asked = grind (arith, nat_tests)

pub over_room : (xs : List ℕ) (asked : ℕ) → size_of (names_over xs asked) ≤ length xs
over_room xs asked = grind (arith, nat_tests)

-- what tells that the byte of a fact's bit is there
pub ruleset placed = (arith, place_byte, range_within)
