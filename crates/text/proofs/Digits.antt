-- Reading digits from the left.
use Rattle.std.proofs.Common.{◌≡◌, ℕ, ◌+◌, ◌-◌, ◌*◌, ◌^◌, ◌<◌, ◌≤◌, true, false, length, get_or, drop, Some, None, refl, ◌∙◌, pow-suc, add-one, arith}
use Rattle.std.specs.Char.{is_ascii_digit}
use Rattle.std.specs.Str.{all_ascii_digits}
use Rattle.std.proofs.lemmas.List.{at_drop_more, at_drop_all}
use Rattle.std.proofs.lemmas.Bool.Decides.{nat_tests}
use Rattle.text.specs.Lines.{Bytes}
use Rattle.text.specs.Forms.{value_from, digits_form}

-- what is known before the i-th digit is read: the number of the digits before it, and that they are digits
abbrev pub Reading : Bytes → ℕ → ℕ → Type 0
Reading s i n = (all_ascii_digits s ≡ all_ascii_digits (drop i s)) × (value_from 0 s ≡ value_from n (drop i s)) × (n < 10 ^ i)

pub digit_fails : (s : Bytes) (i n : ℕ) → i < length s → Reading s i n → is_ascii_digit (get_or s i 0) ≡ false → None ≡ digits_form s
digit_fails s i n l h out =
    let f : all_ascii_digits s ≡ false = h.0 ∙ (at_drop_more all_ascii_digits s i 0 l ∙ rw out refl) in
    rw f refl

pub digit_more : (s : Bytes) (i n : ℕ) → i < length s → Reading s i n → is_ascii_digit (get_or s i 0) ≡ true → Reading s (i + 1) (10 * n + (get_or s i 0 - 48))
digit_more s i n l h d =
    let hi : get_or s i 0 ≤ 57 = grind (arith, nat_tests) in
    let p : 10 ^ (i + 1) ≡ 10 ^ i * 10 = rw (add-one i) (pow-suc 10 i) in
    (h.0 ∙ (at_drop_more all_ascii_digits s i 0 l ∙ rw d refl), h.1 ∙ at_drop_more (value_from n) s i 0 l, rw p (omega (arith, h.2)))

pub digits_end : (s : Bytes) (i n : ℕ) → length s ≤ i → Reading s i n → Some n ≡ digits_form s
digits_end s i n l h =
    let a : all_ascii_digits s ≡ true = h.0 ∙ at_drop_all all_ascii_digits s i l in
    let b : value_from 0 s ≡ n = h.1 ∙ at_drop_all (value_from n) s i l in
    rw (a, b) refl
