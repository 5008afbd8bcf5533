-- One bit of a byte, and of bytes, in which a bit was set.
use Rattle.std.proofs.Common.{◌≡◌, ℕ, zero, suc, ◌+◌, ◌-◌, ◌*◌, ◌/◌, ◌%◌, ◌^◌, ◌<◌, true, ◌≢◌, List, length, get_or, sym, refl, subst, ⊎_elim, arith, get_or-set_other, get_or-set_same}
use lib.Bits.{bit_or, or_zero_r}
use Rattle.std.proofs.lemmas.Nat.{pow_pos, pow-add, shl-shr, or_shr, or_mod, pow_below, div_below}
use Rattle.std.proofs.lemmas.Bool.{cases_eq, cases_order}
use Rattle.store.specs.Bits.{is_set, with_bit, set_bit}

-- a power of two has one bit, and no other
pow_bit_same : (j : ℕ) → 2 ^ j / 2 ^ j % 2 ≡ 1
pow_bit_same j =
    let e : 1 * 2 ^ j ≡ 2 ^ j = omega arith in
    let q : 2 ^ j / 2 ^ j ≡ 1 = rw e at (shl-shr 1 j) in
    rw q refl

pow_bit_above : (d k : ℕ) → 2 ^ ((d + 1) + k) / 2 ^ k % 2 ≡ 0
pow_bit_above d k =
    let e : 2 ^ ((d + 1) + k) / 2 ^ k ≡ 2 ^ (d + 1) = rw (pow-add 2 (d + 1) k) (shl-shr (2 ^ (d + 1)) k) in
    rw (e, pow-add 2 d 1) (omega arith)

pow_bit_other : (j k : ℕ) → (j ≡ k → ⊥) → 2 ^ j / 2 ^ k % 2 ≡ 0
pow_bit_other j k ne = ⊎_elim (λ e. absurd (ne e)) (⊎_elim below above) (cases_order j k)
  where
    below : j < k → 2 ^ j / 2 ^ k % 2 ≡ 0
    below l =
        let z : 2 ^ j / 2 ^ k < 1 = div_below (2 ^ j) (2 ^ k) 1 (pow_pos k) (omega (arith, pow_below j k l)) in
        let e : 2 ^ j / 2 ^ k ≡ 0 = omega arith in
        rw e refl

    above : k < j → 2 ^ j / 2 ^ k % 2 ≡ 0
    above l = subst (λ (x : ℕ). 2 ^ x / 2 ^ k % 2 ≡ 0) (omega arith) (pow_bit_above (j - k - 1) k)

-- a bit of a byte that gained one is a bit of the byte or of the power of two
with_bit_lem : (v j k : ℕ) → with_bit v j / 2 ^ k % 2 ≡ bit_or (v / 2 ^ k % 2) (2 ^ j / 2 ^ k % 2)
with_bit_lem v j k = rw (or_shr v (2 ^ j) k) (or_mod (v / 2 ^ k) (2 ^ j / 2 ^ k) 1)

or-one : (b : ℕ) → b < 2 → bit_or b 1 ≡ 1
or-one zero l = refl
or-one (suc zero) l = refl
or-one (suc (suc b)) l = omega arith

-- the bit that was set is set
pub set_here : (xs : List ℕ) (i : ℕ) → i / 8 < length xs → is_set (set_bit xs i) i ≡ true
set_here xs i l =
    let v = get_or xs (i / 8) 0 in
    rw (get_or-set_same, with_bit_lem v (i % 8) (i % 8), pow_bit_same (i % 8), or-one (v / 2 ^ (i % 8) % 2) (omega arith)) refl

-- any other bit is as it was
pub set_there : (xs : List ℕ) (i j : ℕ) → i / 8 < length xs → (i ≡ j → ⊥) → is_set (set_bit xs i) j ≡ is_set xs j
set_there xs i j l ne = ⊎_elim here there (cases_eq (i / 8) (j / 8))
  where
    here : i / 8 ≡ j / 8 → is_set (set_bit xs i) j ≡ is_set xs j
    here e =
        let v = get_or xs (j / 8) 0 in
        let k : j / 8 < length xs = omega arith in
        rw (e, get_or-set_same, with_bit_lem v (i % 8) (j % 8), pow_bit_other (i % 8) (j % 8) (λ q. ne (omega arith)), or_zero_r) refl

    there : (i / 8 ≡ j / 8 → ⊥) → is_set (set_bit xs i) j ≡ is_set xs j
    there d = let h : j / 8 ≢ i / 8 = λ q. d (sym q) in rw get_or-set_other refl
