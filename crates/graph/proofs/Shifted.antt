-- Rows that begin at some node.
use Rattle.std.proofs.Common.{◌≡◌, ℕ, ◌+◌, ◌-◌, ◌<◌, Bool, false, ◌&&◌, ◌||◌, leb, List, ◌∷◌, length, get_or, set, arith}
use Rattle.std.proofs.lemmas.List.{get_or-set_same, get_or-set_other}
use Rattle.std.proofs.lemmas.Bool.{cases_eq}
use Rattle.std.proofs.lemmas.Bool.Decides.{nat_tests}
use Rattle.std.proofs.lemmas.Grind.{common_steps}

-- whether a set has a node once a row that begins at some node is added
unfoldable pub with_row : List Bool → List Bool → ℕ → ℕ → Bool
with_row nodes row first k = get_or nodes k false || (leb first k && get_or row (k - first) false)

-- a row is added by adding its first flag, and then the rest one node later
pub with_row_first : (nodes left : List Bool) (first next k : ℕ) (flag : Bool) → first < length nodes → next ≡ first + 1
    → with_row (set nodes first (get_or nodes first false || flag)) left next k ≡ with_row nodes (flag ∷ left) first k
unfolding with_row
with_row_first nodes left first next k flag l n = grind (arith, common_steps, nat_tests, get_or-set_same, get_or-set_other, cases_eq k first)

-- nothing is added past the end of the set or of the row
pub with_row_past : (nodes row : List Bool) (first k : ℕ) → k < length nodes → length nodes - first ≡ 0 → with_row nodes row first k ≡ get_or nodes k false
unfolding with_row
with_row_past nodes row first k l e = grind (arith, nat_tests)

pub with_row_empty : (nodes row : List Bool) (first k : ℕ) → length row ≡ 0 → with_row nodes row first k ≡ get_or nodes k false
unfolding with_row
with_row_empty nodes row first k e = grind (arith, common_steps, nat_tests)
