-- Whether one of the first n of some tests holds, as told by a flag that is set test after test.
use Rattle.std.proofs.Common.{◌≡◌, ℕ, ◌+◌, ◌<◌, Bool, true, false, ◌||◌, sym, ◌∙◌, subst, ⊎_elim, arith}
use Rattle.std.proofs.lemmas.Bool.{or_cases, or_left, or_right, cases_Bool, cases_lt, both_ways}
use Rattle.search.specs.Forcing.{Decides}

module _ (G : ℕ → Bool) where
  -- one of the first n tests holds
  abbrev pub SomeBelow : ℕ → Type 0
  SomeBelow n = (k : ℕ) × (k < n) × (G k ≡ true)

  pub some_none : {flag : Bool} → flag ≡ false → Decides flag (SomeBelow 0)
  some_none {flag = flag} e = record { yes = λ h. absurd (both_ways flag e h); not = λ _ m. absurd (let l = m.1 in omega arith) }

  pub some_next : {before after : Bool} (n : ℕ) → Decides before (SomeBelow n) → after ≡ (G n || before) → Decides after (SomeBelow (n + 1))
  some_next {before = before} {after = after} n d e = record {
    yes = λ h. ⊎_elim
        (λ g. (n, omega arith, g))
        (λ b. let m = d.yes b in let l = m.1 in (m.0, omega arith, m.2))
        (or_cases (G n) before (sym e ∙ h));
    not = λ h m. ⊎_elim
        (λ l. ⊎_elim (λ b. both_ways after h (e ∙ or_right (G n) before b)) (λ b. d.not b (m.0, l, m.2)) (cases_Bool before))
        (λ l. let k = m.1 in let q : m.0 ≡ n = omega arith in both_ways after h (e ∙ or_left (G n) before (subst (λ v. G v ≡ true) q m.2)))
        (cases_lt m.0 n);
  }

  pub some_all : {flag : Bool} {m n : ℕ} → Decides flag (SomeBelow m) → m ≡ n → Decides flag (SomeBelow n)
  some_all {flag = flag} d e = subst (λ k. Decides flag (SomeBelow k)) e d
