-- Tables of flags: one without flags, and one flag more.
use Rattle.std.proofs.Common.{◌≡◌, ℕ, ◌<◌, ◌≤◌, Bool, true, false, cond, ◌&&◌, ◌||◌, eqb, List, [], length, get_or, set, replicate, sym, ap, ◌∙◌, ⊎_elim, arith}
use Rattle.std.proofs.lemmas.Bool.Decides.{nat_tests}
use Rattle.std.proofs.lemmas.Grind.{common_steps, elements}
use Rattle.std.proofs.lemmas.List.{get_or-replicate, get_or_past}
use lib.ListN.{length-replicate}
use Rattle.std.proofs.lemmas.Bool.{cases_lt}
use Rattle.rules.specs.Flags.{flag}

-- a list of equal values, with that value past its end, has it everywhere
replicated : {X : Type 0} (n i : ℕ) (x : X) → get_or (replicate n x) i x ≡ x
replicated n i x =
    ⊎_elim (λ l. get_or-replicate n i x x l)
    (λ l. get_or_past (replicate n x) i x (rw (length-replicate n x) l))
    (cases_lt i n)

pub flag_none : (rows columns i j : ℕ) → flag (replicate rows (replicate columns false)) i j ≡ false
flag_none rows columns i j = ⊎_elim inside outside (cases_lt i rows)
  where
    inside : i < rows → flag (replicate rows (replicate columns false)) i j ≡ false
    inside l = ap (λ (row : List Bool). get_or row j false) (get_or-replicate rows i (replicate columns false) [] l) ∙ replicated columns j false

    outside : rows ≤ i → flag (replicate rows (replicate columns false)) i j ≡ false
    outside l =
        ap (λ (row : List Bool). get_or row j false)
        (get_or_past (replicate rows (replicate columns false)) i [] (rw (length-replicate rows (replicate columns false)) l))

pub flag_set : (cells : List (List Bool)) (row column i j : ℕ) → row < length cells → column < length (get_or cells row [])
    → flag (set cells row (set (get_or cells row []) column true)) i j ≡ ((eqb i row && eqb j column) || flag cells i j)
flag_set cells row column i j lr lc = grind (arith, common_steps, elements, nat_tests)

-- every row of a table without flags has as many columns
pub wide_none : (rows columns i : ℕ) → i < rows → length (get_or (replicate rows (replicate columns false)) i []) ≡ columns
wide_none rows columns i l = grind (arith, common_steps, elements, nat_tests)

-- a flag more leaves a row as long as it was
pub wide_set : (cells : List (List Bool)) (row column i : ℕ) → row < length cells
    → length (get_or (set cells row (set (get_or cells row []) column true)) i []) ≡ length (get_or cells i [])
wide_set cells row column i l = grind (arith, common_steps, elements, nat_tests)

-- outside a table no flag is set
pub no_row : (cells : List (List Bool)) (i j : ℕ) → length cells ≤ i → false ≡ flag cells i j
no_row cells i j l = sym (ap (λ (row : List Bool). get_or row j false) (get_or_past cells i [] l))

pub no_column : (cells : List (List Bool)) (i j : ℕ) → length (get_or cells i []) ≤ j → false ≡ flag cells i j
no_column cells i j l = sym (get_or_past (get_or cells i []) j false l)

-- a table with the flags of one row made others
module _ (cells : List (List Bool)) (i : ℕ) (row : List Bool) (l : i < length cells) where
  pub wide_put : (n a : ℕ) → length row ≡ n → length (get_or cells a []) ≡ n → length (get_or (set cells i row) a []) ≡ n
  wide_put n a long was = grind (arith, common_steps, elements, nat_tests)

  pub flag_put : (a b : ℕ) → flag (set cells i row) a b ≡ cond (eqb a i) (get_or row b false) (flag cells a b)
  flag_put a b = grind (arith, common_steps, elements, nat_tests)
