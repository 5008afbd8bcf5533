-- The edges of the graph of marks, as the parts of a rule table and the table of roles have them.
use Rattle.std.proofs.Common.{◌≡◌, ℕ, zero, suc, ◌+◌, ◌-◌, ◌*◌, ◌/◌, ◌%◌, ◌<◌, ◌≤◌, Bool, true, false, ◌&&◌, ◌||◌, eqb, ltb, leb, List, [], ◌∷◌, length, get_or, Some, None, Option, sym, refl, ap, ◌∙◌, ⊎_elim, arith}
use Rattle.std.proofs.lemmas.List.{get_or_past}
use Rattle.std.proofs.lemmas.Bool.{cases_eq, cases_lt, lt-ltb, le-ltb, le-leb, eq-eqb, ne_eqb, and_right}
use Rattle.std.proofs.Math.Bool.{or-false}
use Rattle.std.proofs.lemmas.Bool.Decides.{nat_tests}
use Rattle.std.specs.List.{slice_get}
use Rattle.league.specs.Roles.{link_of}
use Rattle.league.specs.declared.facts.Kind.{Kind}
use Rattle.league.specs.declared.roles.Role.{Role}
use Rattle.league.specs.declared.roles.Role.TheVariants.{Forward, Backward}
use Rattle.league.specs.declared.roles.Mark.{Mark}
use Rattle.league.specs.declared.roles.Mark.TheVariants.{Is, Has}
use Rattle.league.specs.declared.rules.Rule.TheVariants.{Inclusion}
use Rattle.rules.specs.Codes.{role_of, mark_of}
use Rattle.rules.specs.Flags.{flag}
use Rattle.rules.specs.Pairs.{number_of}
use Rattle.rules.specs.Steps.{of_kind, requires_pair, needs_hidden, lands_hidden, lifts_role, entry_of}
use Rattle.rules.specs.Tables.{means}
use Rattle.rules.specs.declared.pair.Pair.{Pair}
use Rattle.rules.specs.declared.table.RuleTable.{RuleTable}
use Rattle.rules.proofs.Coded.{code_role, even_role, odd_role, small_mark, large_mark, code_mark, mark_within-code}
use Rattle.rules.proofs.Flagged.{no_row}
use Rattle.rules.proofs.Kept.{table_proper}
use Rattle.rules.proofs.Numbered.{number_at, number_in}
use Rattle.rules.proofs.RoleRows.{from_first}

-- the marks of the codes of roles, on either side
module _ (k : ℕ) (l : 64 ≤ k) where
  pub forward_mark : k % 2 ≡ 0 → mark_of k ≡ Has (Forward (record { 0 = (k - 64) / 2 }))
  forward_mark z = large_mark k l ∙ ap Has (even_role (k - 64) (omega arith))

  pub backward_mark : k % 2 ≡ 1 → mark_of k ≡ Has (Backward (record { 0 = (k - 64) / 2 }))
  backward_mark z = large_mark k l ∙ ap Has (odd_role (k - 64) (omega arith))

-- a place without a pair is not in use
nth_none : (ps : List Pair) (i : ℕ) → None ≡ slice_get ps i → length ps ≤ i
nth_none [] i e = omega arith
nth_none (q ∷ qs) zero e = let z : ◌≡◌ {A = ℕ} 0 1 = cc in absurd (omega arith)
nth_none (q ∷ qs) (suc i) e = omega (arith, nth_none qs i e)

-- inclusions
module _ (t : RuleTable) (i k : ℕ) where
  include_rule : (means t).rules (Inclusion (mark_of i) (mark_of k)) ≡ ((ltb i 128 && ltb k 128) && flag t.inclusions.cells i k)
  include_rule = rw (mark_within-code i, mark_within-code k, code_mark i, code_mark k) refl

  pub include_row : i < 128 → flag t.inclusions.cells i k ≡ (means t).rules (Inclusion (mark_of i) (mark_of k))
  include_row l =
      let wide = t.inclusions.wide i l in
      grind (arith, nat_tests, include_rule, get_or_past (get_or t.inclusions.cells i []) k false)

  pub include_none : 128 ≤ i → (means t).rules (Inclusion (mark_of i) (mark_of k)) ≡ false
  include_none l = include_rule ∙ rw (le-ltb i 128 l) refl

-- required partners
module _ (t : RuleTable) (i : ℕ) where
  -- the test of a pair with a number is the flag of its number
  requires_flag : i < 128 → (n : ℕ) (o : Option Pair) → o ≡ slice_get (means t).pairs n → requires_pair (means t) (mark_of i) o ≡ flag t.required.cells i n
  requires_flag l n None e = sym (t.empty i n (nth_none (means t).pairs n e))
  requires_flag l n (Some p) e =
      let q = (table_proper t).pairs_in n p (sym e) in
      let m = number_in (means t).pairs p n (sym e) in
      let same : number_of (means t).pairs p ≡ n =
      (table_proper t).pairs_apart (number_of (means t).pairs p) n p (number_at (means t).pairs p m) (sym e) in
      rw (
        mark_within-code i,
        lt-ltb i 128 l,
        lt-ltb (link_of p.role).0 32 q.0,
        lt-ltb p.kind.0 64 q.1,
        lt-ltb (number_of (means t).pairs p) (length (means t).pairs) m,
        code_mark i,
        same,
      )
      refl

  requires_none : 128 ≤ i → (o : Option Pair) → requires_pair (means t) (mark_of i) o ≡ false
  requires_none l None = refl
  requires_none l (Some p) = rw (mark_within-code i, le-ltb i 128 l) refl

  -- what is needed by the code of a mark: by role read forward, the test of its pair
  needs_forward : (k : ℕ) → 64 ≤ k → k % 2 ≡ 0
      → needs_hidden (means t) (mark_of i) (mark_of k) ≡ (leb 32 ((k - 64) / 2) && requires_pair (means t) (mark_of i) (slice_get (means t).pairs ((k - 64) / 2 - 32)))
  needs_forward k l z = ap (needs_hidden (means t) (mark_of i)) (forward_mark k l z)

  needs_backward : (k : ℕ) → 64 ≤ k → k % 2 ≡ 1 → needs_hidden (means t) (mark_of i) (mark_of k) ≡ false
  needs_backward k l z = ap (needs_hidden (means t) (mark_of i)) (backward_mark k l z)

  -- only having a partner by a hidden link is needed
  needs_small : (k : ℕ) → k < 64 → needs_hidden (means t) (mark_of i) (mark_of k) ≡ false
  needs_small k l = ap (needs_hidden (means t) (mark_of i)) (small_mark k l)

  pub needs_low : (k : ℕ) → k < 128 → needs_hidden (means t) (mark_of i) (mark_of k) ≡ false
  needs_low k l = grind (arith, nat_tests, needs_small k, needs_forward k, needs_backward k)

  -- before the first number
  pub needs_start : (k : ℕ) → (ltb k 128 && needs_hidden (means t) (mark_of i) (mark_of k)) ≡ false
  needs_start k = grind (arith, nat_tests, needs_low k)

  pub needs_none : 128 ≤ i → (k : ℕ) → needs_hidden (means t) (mark_of i) (mark_of k) ≡ false
  needs_none l k =
      grind (arith, nat_tests, needs_low k, needs_forward k, needs_backward k, requires_none l (slice_get (means t).pairs ((k - 64) / 2 - 32)))

  -- the flag of the pair with a number is at the code of having a partner by its hidden link
  module _ (l : i < 128) where
    needs_at : (n k : ℕ) → k ≡ 128 + 2 * n → needs_hidden (means t) (mark_of i) (mark_of k) ≡ flag t.required.cells i n
    needs_at n k e =
        let z : k % 2 ≡ 0 = omega arith in
        let m : 32 ≤ (k - 64) / 2 = omega arith in
        let same : (k - 64) / 2 - 32 ≡ n = omega arith in
        needs_forward k (omega arith) z
        ∙ rw (le-leb 32 ((k - 64) / 2) m, same) (requires_flag l n (slice_get (means t).pairs n) refl)

    -- past the last number nothing is needed
    pub needs_high : (k : ℕ) → 192 ≤ k → needs_hidden (means t) (mark_of i) (mark_of k) ≡ false
    needs_high k h =
        let few = (table_proper t).pairs_few in
        grind (arith, nat_tests, needs_at ((k - 128) / 2) k, needs_backward k, t.empty i ((k - 128) / 2))

    -- one number more
    needs_more : (n k : ℕ) (x y : Bool) → y ≡ (x || (ltb k (128 + 2 * n) && needs_hidden (means t) (mark_of i) (mark_of k)))
        → (y || (flag t.required.cells i n && eqb k (128 + 2 * n))) ≡ (x || (ltb k (128 + 2 * (n + 1)) && needs_hidden (means t) (mark_of i) (mark_of k)))
    needs_more n k x y e = grind (arith, nat_tests, needs_at n k, needs_backward k)

    -- one number more, whose flag is set or not
    pub needs_more_yes : (n k : ℕ) (x y : Bool) → flag t.required.cells i n ≡ true
        → y ≡ (x || (ltb k (128 + 2 * n) && needs_hidden (means t) (mark_of i) (mark_of k)))
        → (y || eqb k (128 + 2 * n)) ≡ (x || (ltb k (128 + 2 * (n + 1)) && needs_hidden (means t) (mark_of i) (mark_of k)))
    needs_more_yes n k x y f e = ap (λ (b : Bool). y || (b && eqb k (128 + 2 * n))) (sym f) ∙ needs_more n k x y e

    pub needs_more_no : (n k : ℕ) (x y : Bool) → flag t.required.cells i n ≡ false
        → y ≡ (x || (ltb k (128 + 2 * n) && needs_hidden (means t) (mark_of i) (mark_of k)))
        → y ≡ (x || (ltb k (128 + 2 * (n + 1)) && needs_hidden (means t) (mark_of i) (mark_of k)))
    needs_more_no n k x y f e =
        (sym (or-false y) ∙ ap (λ (b : Bool). y || (b && eqb k (128 + 2 * n))) (sym f)) ∙ needs_more n k x y e

    -- all numbers
    pub needs_all : (k : ℕ) → (ltb k 192 && needs_hidden (means t) (mark_of i) (mark_of k)) ≡ needs_hidden (means t) (mark_of i) (mark_of k)
    needs_all k = grind (arith, nat_tests, needs_high k)

-- kinds of pairs
module _ (t : RuleTable) (i k : ℕ) where
  pub lands_low : i < 128 → lands_hidden (means t) (mark_of i) (mark_of k) ≡ false
  lands_low l =
      ⊎_elim
      (λ h. ap (λ (B : Mark). lands_hidden (means t) B (mark_of k)) (small_mark i h))
      (λ h.
      ⊎_elim
      (λ z. ap (λ (B : Mark). lands_hidden (means t) B (mark_of k)) (forward_mark i h (omega arith)))
      (λ z. ap (λ (B : Mark). lands_hidden (means t) B (mark_of k)) (backward_mark i h (omega arith)) ∙ visible (mark_of k))
      (cases_lt (i % 2) 1))
      (cases_lt i 64)
    where
      visible : (C : Mark) → lands_hidden (means t) (Has (Backward (record { 0 = (i - 64) / 2 }))) C ≡ false
      visible (Is m) = grind (arith, nat_tests)
      visible (Has S) = refl

  pub lands_even : 128 ≤ i → i % 2 ≡ 0 → lands_hidden (means t) (mark_of i) (mark_of k) ≡ false
  lands_even l z = ap (λ (B : Mark). lands_hidden (means t) B (mark_of k)) (forward_mark i (omega arith) z)

  module _ (l : 128 ≤ i) (z : i % 2 ≡ 1) (o : Option Pair) (e : o ≡ slice_get (means t).pairs ((i - 128) / 2)) where
    lands_kind : (m : Kind) → lands_hidden (means t) (mark_of i) (Is m) ≡ of_kind o m
    lands_kind m =
        let h : 32 ≤ (i - 64) / 2 = omega arith in
        let same : (i - 64) / 2 - 32 ≡ (i - 128) / 2 = omega arith in
        ap (λ (B : Mark). lands_hidden (means t) B (Is m)) (backward_mark i (omega arith) z)
        ∙ rw (le-leb 32 ((i - 64) / 2) h, same) (ap (λ (x : Option Pair). of_kind x m) (sym e))

    lands_role : (S : Role) → lands_hidden (means t) (mark_of i) (Has S) ≡ false
    lands_role S = ap (λ (B : Mark). lands_hidden (means t) B (Has S)) (backward_mark i (omega arith) z)

    pub lands_test : lands_hidden (means t) (mark_of i) (mark_of k) ≡ (ltb k 64 && of_kind o (record { 0 = k }))
    lands_test =
        ⊎_elim
        (λ h. ap (lands_hidden (means t) (mark_of i)) (small_mark k h) ∙ (lands_kind (record { 0 = k }) ∙ rw (lt-ltb k 64 h) refl))
        (λ h. ap (lands_hidden (means t) (mark_of i)) (large_mark k h) ∙ (lands_role (role_of (k - 64)) ∙ rw (le-ltb k 64 h) refl))
        (cases_lt k 64)

  pub lands_none : 128 ≤ i → i % 2 ≡ 1 → None ≡ slice_get (means t).pairs ((i - 128) / 2) → lands_hidden (means t) (mark_of i) (mark_of k) ≡ false
  lands_none l z e = lands_test l z None e ∙ and_right (ltb k 64) false refl

  pub lands_some : (p : Pair) → 128 ≤ i → i % 2 ≡ 1 → Some p ≡ slice_get (means t).pairs ((i - 128) / 2)
      → eqb k p.kind.0 ≡ lands_hidden (means t) (mark_of i) (mark_of k)
  lands_some p l z e =
      sym
      (lands_test l z (Some p) e
      ∙ ⊎_elim
      (λ same. rw (eq-eqb k p.kind.0 same, eq-eqb p.kind.0 k (sym same), lt-ltb k 64 (omega (arith, inside))) refl)
      (λ ne. rw (ne_eqb k p.kind.0 ne, ne_eqb p.kind.0 k (λ q. ne (sym q))) (and_right (ltb k 64) false refl))
      (cases_eq k p.kind.0))
    where
      inside : p.kind.0 < 64
      inside = ((table_proper t).pairs_in ((i - 128) / 2) p (sym e)).1

-- roles of a table
module _ (rows : List (List Bool)) (i k : ℕ) where
  pub lifts_low : i < 64 → lifts_role (entry_of rows) (mark_of i) (mark_of k) ≡ false
  lifts_low l = ap (λ (B : Mark). lifts_role (entry_of rows) B (mark_of k)) (small_mark i l)

  pub lifts_row : 64 ≤ i → (leb 64 k && flag rows (i - 64) (k - 64)) ≡ lifts_role (entry_of rows) (mark_of i) (mark_of k)
  lifts_row l =
      sym
      (ap (λ (B : Mark). lifts_role (entry_of rows) B (mark_of k)) (large_mark i l)
      ∙ ⊎_elim
      (λ h. ap (lifts_role (entry_of rows) (Has (role_of (i - 64)))) (small_mark k h) ∙ grind (arith, nat_tests))
      (λ h. ap (lifts_role (entry_of rows) (Has (role_of (i - 64)))) (large_mark k h) ∙ rw (code_role (i - 64), code_role (k - 64), le-leb 64 k h) refl)
      (cases_lt k 64))

  pub lifts_high : length rows ≡ 128 → 192 ≤ i → lifts_role (entry_of rows) (mark_of i) (mark_of k) ≡ false
  lifts_high tall l =
      sym (lifts_row (omega arith))
      ∙ and_right (leb 64 k) (flag rows (i - 64) (k - 64)) (sym (no_row rows (i - 64) (k - 64) (omega arith)))

-- what the functions that add the successors of a mark stand on
pub ruleset of_inclusions = (from_first, include_row, include_none)

pub ruleset of_needs = (needs_none, needs_start, needs_more_yes, needs_more_no, needs_all)

pub ruleset of_landings = (lands_low, lands_even, lands_none, lands_some)

pub ruleset of_lifts = (lifts_low, lifts_row, lifts_high)
