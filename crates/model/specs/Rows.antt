-- Rows of flags, and searches below a number.
use Rattle.std.specs.Prelude.{◌≡◌, ℕ, zero, suc, ◌<◌, Bool, false, ◌&&◌, ◌||◌, List, [], nat_lt, slice_index_or}
use Rattle.rules.specs.Flags.{flag}

-- the test holds of some number below n; it stays shut, as it would else compute to as many tests
unfoldable pub some_below : ℕ → (ℕ → Bool) → Bool
some_below zero q = false
some_below (suc n) q = some_below n q || q n

-- the first n flags of the row tell a test, and the others are unset
abbrev pub Filled : List Bool → ℕ → (ℕ → Bool) → Type 0
Filled row n q = (c : ℕ) → slice_index_or row c false ≡ (nat_lt c n && q c)

-- the flag at a place of a row of so many; outside of it none is set
abbrev pub flag_at : ℕ → List Bool → ℕ → Bool
flag_at wide row i = nat_lt i wide && slice_index_or row i false

-- the flag at a row and a column of a table with so many of them; outside of it none is set
abbrev pub flag_in : ℕ → ℕ → List (List Bool) → ℕ → ℕ → Bool
flag_in tall wide rows i j = (nat_lt i tall && nat_lt j wide) && flag rows i j

-- the first n rows of a table tell a test each, up to a width
abbrev pub Stacked : List (List Bool) → ℕ → ℕ → (ℕ → ℕ → Bool) → Type 0
Stacked rows n wide q = (i : ℕ) → i < n → Filled (slice_index_or rows i []) wide (q i)
