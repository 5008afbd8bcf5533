-- Flagging what is forced, until nothing more is: the flagged pairs are those that are forced to one path.
use Rattle.std.proofs.Common.{◌≡◌, ℕ, zero, suc, ◌+◌, ◌*◌, ◌/◌, ◌%◌, ◌<◌, ◌≤◌, Bool, true, false, cond, ◌&&◌, ◌||◌, eqb, List, [], length, get_or, sym, refl, ap, ◌∙◌, subst, inl, inr, ⊎_elim, arith}
use Rattle.std.proofs.lemmas.Bool.{and_parts, and_from, or_cases, or_left, or_right, eq-eqb, eqb-true, cases_Bool, cases_lt, both_ways}
use Rattle.rules.proofs.Flagged.{no_row, no_column}
use Rattle.rules.proofs.Marked.{T_true as is_true, true_T as holds}
use Rattle.rules.specs.Flags.{flag}
use Rattle.search.specs.Forcing.{Forced, ForcedNow, Decides}

-- a flag that is set is at two places below eight
abbrev pub Within : List (List Bool) → Type 0
Within table = (i j : ℕ) → flag table i j ≡ true → (i < 8) × (j < 8)

pub within : (table : List (List Bool)) → length table ≡ 8 → ((i : ℕ) → i < 8 → length (get_or table i []) ≡ 8) → Within table
within table tall wide i j e = (row, column)
  where
    row : i < 8
    row = ⊎_elim (λ l. l) (λ l. absurd (both_ways (flag table i j) (sym (no_row table i j (omega (arith, tall)))) e)) (cases_lt i 8)

    column : j < 8
    column = ⊎_elim (λ l. l) (λ l. absurd (both_ways (flag table i j) (sym (no_column table i j (omega (arith, wide i row)))) e)) (cases_lt j 8)

-- how many of the first n flags are not set
unfoldable pub unset : (ℕ → Bool) → ℕ → ℕ
unset f zero = 0
unset f (suc n) = unset f n + cond (f n) 0 1

module _ (f g : ℕ → Bool) (more : (k : ℕ) → f k ≡ true → g k ≡ true) where
  one_left : (k : ℕ) → cond {A = ℕ} (g k) 0 1 ≤ cond (f k) 0 1
  one_left k = go (f k) (g k) (more k)
    where
      go : (a b : Bool) → (a ≡ true → b ≡ true) → cond {A = ℕ} b 0 1 ≤ cond a 0 1
      go true b h = rw (h refl) (omega arith)
      go false true h = omega arith
      go false false h = omega arith

  no_more_left : (n : ℕ) → unset g n ≤ unset f n
  unfolding unset
  no_more_left zero = omega arith
  no_more_left (suc n) = omega (arith, no_more_left n, one_left n)

  -- fewer are left once one more is set
  pub fewer_left : (n p : ℕ) → p < n → f p ≡ false → g p ≡ true → unset g n < unset f n
  unfolding unset
  fewer_left zero p l a b = absurd (omega arith)
  fewer_left (suc n) p l a b =
      ⊎_elim
      (λ h. omega (arith, fewer_left n p h a b, one_left n))
      (λ h. let q : p ≡ n = omega arith
      in let x : cond {A = ℕ} (f n) 0 1 ≡ 1 = ap (λ z. cond z 0 1) (ap f (sym q) ∙ a)
      in let y : cond {A = ℕ} (g n) 0 1 ≡ 0 = ap (λ z. cond z 0 1) (ap g (sym q) ∙ b)
      in omega (arith, no_more_left n))
      (cases_lt p n)

-- how many pairs of places are not flagged
abbrev pub pairs_left : List (List Bool) → ℕ
pairs_left table = unset (λ p. flag table (p / 8) (p % 8)) 64

-- a table with one more flag
abbrev pub IsSet : List (List Bool) → ℕ → ℕ → List (List Bool) → Type 0
IsSet before row column after = (i j : ℕ) → flag after i j ≡ ((eqb i row && eqb j column) || flag before i j)

module _ (before after : List (List Bool)) (row column : ℕ) (set : IsSet before row column after) where
  pub kept : (i j : ℕ) → flag before i j ≡ true → flag after i j ≡ true
  kept i j e = set i j ∙ or_right (eqb i row && eqb j column) _ e

  pub set_there : flag after row column ≡ true
  set_there = set row column ∙ or_left _ _ (and_from _ _ (eq-eqb row row refl) (eq-eqb column column refl))

  -- what is flagged was flagged, or is the new flag
  pub set_or : (P : ℕ → ℕ → Type 0) → P row column → ((i j : ℕ) → flag before i j ≡ true → P i j) → (i j : ℕ) → flag after i j ≡ true → P i j
  set_or P new old i j e =
      ⊎_elim
      (λ a. let q = and_parts (eqb i row) _ a
      in subst (λ b. P i b) (sym (eqb-true j column q.1)) (subst (λ b. P b column) (sym (eqb-true i row q.0)) new))
      (λ a. old i j a)
      (or_cases (eqb i row && eqb j column) _ (sym (set i j) ∙ e))

  pub fewer_pairs : row < 8 → column < 8 → flag before row column ≡ false → pairs_left after < pairs_left before
  fewer_pairs h k e =
      let q : (8 * row + column) / 8 ≡ row = omega arith
      in let r : (8 * row + column) % 8 ≡ column = omega arith
      in let at = λ (t : List (List Bool)). let s : flag t ((8 * row + column) / 8) ((8 * row + column) % 8) ≡ flag t row column = rw (q, r) refl in s
      in fewer_left (λ p. flag before (p / 8) (p % 8)) (λ p. flag after (p / 8) (p % 8)) (λ p. kept (p / 8) (p % 8)) 64 (8 * row + column) (omega arith)
      (at before ∙ e) (at after ∙ set_there)

-- each of the first n places is flagged with itself, and none with another
pub record Diagonal (n : ℕ) (same : List (List Bool)) : Type 0 where
  pub equal : (i j : ℕ) → flag same i j ≡ true → i ≡ j
  pub own : (i : ℕ) → i < n → flag same i i ≡ true

pub diagonal_first : (same : List (List Bool)) → ((i j : ℕ) → flag same i j ≡ false) → Diagonal 0 same
diagonal_first same none = record { equal = λ i j e. absurd (both_ways (flag same i j) (none i j) e); own = λ i h. absurd (omega arith) }

pub diagonal_more : (before after : List (List Bool)) (n : ℕ) → IsSet before n n after → Diagonal n before → Diagonal (n + 1) after
diagonal_more before after n set d = record {
  equal = set_or before after n n set (λ i j. i ≡ j) refl d.equal;
  own = λ i h. ⊎_elim (λ l. kept before after n n set i i (d.own i l)) (λ l. let q : n ≡ i = omega arith in subst (λ k. flag after k k ≡ true) q (set_there before after n n set)) (cases_lt i n);
}

module _ (down : List (List Bool)) where
  -- what is flagged is forced, and each place is flagged with itself
  pub record Flagged (same : List (List Bool)) : Type 0 where
    pub sound : (i j : ℕ) → flag same i j ≡ true → Forced (flag down) i j
    pub own : (i : ℕ) → i < 8 → flag same i i ≡ true

  pub flagged_first : (same : List (List Bool)) (n : ℕ) → 8 ≤ n → Diagonal n same → Flagged same
  flagged_first same n l d = record {
    sound = λ i j e. subst (λ k. Forced (flag down) i k) (d.equal i j e) (Forced.self i);
    own = λ i h. d.own i (omega arith);
  }

  forced_now_lem : (same : List (List Bool)) → Flagged same → (i j : ℕ) → ForcedNow (flag down) (flag same) i j → Forced (flag down) i j
  forced_now_lem same f i j (inl m) = Forced.onward i m.0 j (f.sound i m.0 m.2.0) (f.sound m.0 j m.2.1)
  forced_now_lem same f i j (inr m) =
      Forced.above i j m.0 m.2.1.0 (f.sound m.0 m.2.1.0 m.2.1.2.1) (holds _ m.2.0) (holds _ m.2.1.2.0)

  pub flagged_more : (before after : List (List Bool)) (i j : ℕ) → IsSet before i j after → Flagged before → ForcedNow (flag down) (flag before) i j → Flagged after
  flagged_more before after i j set f now = record {
    sound = set_or before after i j set (Forced (flag down)) (forced_now_lem before f i j now) f.sound;
    own = λ k h. kept before after i j set k k (f.own k h);
  }

  -- where nothing more is forced, all that is forced is flagged
  module _ (edges : Within down) (same : List (List Bool)) (bounds : Within same) (f : Flagged same) (closed : (i : ℕ) → i < 8 → (j : ℕ) → j < 8 → flag same i j ≡ false → ForcedNow (flag down) (flag same) i j → ⊥) where
    shut : (i j : ℕ) → i < 8 → j < 8 → ForcedNow (flag down) (flag same) i j → flag same i j ≡ true
    shut i j h k now = ⊎_elim (λ e. e) (λ e. absurd (closed i h j k e now)) (cases_Bool (flag same i j))

    flags : {i j : ℕ} → Forced (flag down) i j → i < 8 → flag same i j ≡ true
    flags (Forced.self i) h = f.own i h
    flags (Forced.above i j v w g a b) h =
        let da = is_true (flag down i v) a
        in let db = is_true (flag down j w) b
        in let pa = edges i v da
        in let pb = edges j w db
        in shut i j h pb.0 (inr (v, pa.1, (da, (w, pb.1, (db, flags g pa.1)))))
    flags (Forced.onward i j k g e) h =
        let a = flags g h
        in let pa = bounds i j a
        in let b = flags e pa.1
        in shut i k h (bounds j k b).1 (inl (j, pa.1, (a, b)))

    pub flagged_all : (i j : ℕ) → i < 8 → j < 8 → Decides (flag same i j) (Forced (flag down) i j)
    flagged_all i j h k = record {
      yes = f.sound i j;
      not = λ e g. both_ways (flag same i j) e (flags g h);
    }
