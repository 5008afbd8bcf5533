-- Codes: the role and the mark of a code, and the code of these.
use Rattle.std.proofs.Common.{◌≡◌, ℕ, ◌+◌, ◌-◌, ◌*◌, ◌/◌, ◌%◌, ◌<◌, ◌≤◌, eqb, ltb, sym, ap, ◌∙◌, ⊎_elim, arith}
use Rattle.std.proofs.lemmas.Bool.{cases_lt, eq-eqb, ne_eqb, lt-ltb, le-ltb, cond-true, cond-false}
use Rattle.league.specs.Roles.{code, link_of}
use Rattle.league.specs.declared.roles.Role.{Role}
use Rattle.league.specs.declared.roles.Role.TheVariants.{Forward, Backward}
use Rattle.league.specs.declared.roles.Mark.TheVariants.{Is, Has}
use Rattle.rules.specs.Codes.{role_of, mark_of}
use Rattle.rules.specs.Marks.{same_role, role_within, mark_within, mark_code}
use Rattle.rules.proofs.Marked.{role_code}

-- the role of an even and of an odd code
module _ (i : ℕ) where
  pub even_role : i % 2 ≡ 0 → role_of i ≡ Forward (record { 0 = i / 2 })
  unfolding role_of
  even_role e = cond-true (eqb (i % 2) 0) _ _ (eq-eqb (i % 2) 0 e)

  pub odd_role : i % 2 ≡ 1 → role_of i ≡ Backward (record { 0 = i / 2 })
  unfolding role_of
  odd_role e = cond-false (eqb (i % 2) 0) _ _ (ne_eqb (i % 2) 0 (omega arith))

  pub code_role : code (role_of i) ≡ i
  code_role =
      ⊎_elim
      (λ l. ap code (even_role (omega arith)) ∙ omega arith)
      (λ l. ap code (odd_role (omega arith)) ∙ omega arith)
      (cases_lt (i % 2) 1)

  pub small_mark : i < 64 → mark_of i ≡ Is (record { 0 = i })
  unfolding mark_of
  small_mark l = cond-true (ltb i 64) _ _ (lt-ltb i 64 l)

  pub large_mark : 64 ≤ i → mark_of i ≡ Has (role_of (i - 64))
  unfolding mark_of
  large_mark l = cond-false (ltb i 64) _ _ (le-ltb i 64 l)

pub code_mark : (i : ℕ) → mark_code (mark_of i) ≡ i
code_mark i =
    ⊎_elim
    (λ l. ap mark_code (small_mark i l))
    (λ l. ap mark_code (large_mark i l) ∙ omega (arith, code_role (i - 64)))
    (cases_lt i 64)

pub role_of_code : (R : Role) → role_of (code R) ≡ R
role_of_code (Forward l) =
    let h : 2 * l.0 / 2 ≡ l.0 = omega arith in
    even_role (2 * l.0) (omega arith) ∙ (λ i. Forward (record { 0 = h i }))
role_of_code (Backward l) =
    let h : (2 * l.0 + 1) / 2 ≡ l.0 = omega arith in
    odd_role (2 * l.0 + 1) (omega arith) ∙ (λ i. Backward (record { 0 = h i }))

-- the link of a code
pub link_of_code : (i : ℕ) → (link_of (role_of i)).0 ≡ i / 2
link_of_code i =
    ⊎_elim
    (λ l. ap (λ (R : Role). (link_of R).0) (even_role i (omega arith)))
    (λ l. ap (λ (R : Role). (link_of R).0) (odd_role i (omega arith)))
    (cases_lt (i % 2) 1)

-- a role is the one of a code exactly when it has that code
pub same_role_code : (R : Role) (k : ℕ) → same_role R (role_of k) ≡ eqb k (code R)
same_role_code R k = sym (role_code R (role_of k)) ∙ ap (λ (n : ℕ). eqb n (code R)) (code_role k)

-- codes in range
pub code_below : (R : Role) (n : ℕ) → (link_of R).0 < n → code R < 2 * n
code_below (Forward l) n h = omega arith
code_below (Backward l) n h = omega arith

pub link_below : (i n : ℕ) → i < 2 * n → (link_of (role_of i)).0 < n
link_below i n h = omega (arith, link_of_code i)

pub link_above : (i n : ℕ) → 2 * n ≤ i → n ≤ (link_of (role_of i)).0
link_above i n h = omega (arith, link_of_code i)

pub role_within-code : (i : ℕ) → role_within (role_of i) ≡ ltb i 64
role_within-code i =
    ⊎_elim
    (λ l. lt-ltb (link_of (role_of i)).0 32 (link_below i 32 l) ∙ sym (lt-ltb i 64 l))
    (λ l. le-ltb (link_of (role_of i)).0 32 (link_above i 32 l) ∙ sym (le-ltb i 64 l))
    (cases_lt i 64)

pub mark_within-code : (i : ℕ) → mark_within (mark_of i) ≡ ltb i 128
mark_within-code i =
    ⊎_elim
    (λ l. ap mark_within (small_mark i l) ∙ (lt-ltb i 64 l ∙ sym (lt-ltb i 128 (omega arith))))
    (λ l. ap mark_within (large_mark i l) ∙ (role_within-code (i - 64) ∙ less_64 l))
    (cases_lt i 64)
  where
    less_64 : 64 ≤ i → ltb (i - 64) 64 ≡ ltb i 128
    less_64 l =
        ⊎_elim
        (λ h. lt-ltb (i - 64) 64 (omega arith) ∙ sym (lt-ltb i 128 h))
        (λ h. le-ltb (i - 64) 64 (omega arith) ∙ sym (le-ltb i 128 h))
        (cases_lt i 128)
