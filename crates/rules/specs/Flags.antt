-- A table of flags.
use Rattle.std.specs.Prelude.{ℕ, Bool, false, List, [], slice_index_or}

-- the flag at a row and a column; outside the table no flag is set
abbrev pub flag : List (List Bool) → ℕ → ℕ → Bool
flag rows row column = slice_index_or (slice_index_or rows row []) column false
