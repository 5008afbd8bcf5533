-- Places from which every way up ends.
use Rattle.std.specs.Prelude.{◌≡◌, ℕ, ◌<◌, Bool, true, false, List, slice_index_or}

-- a place is grounded when each place above one that is the same as it is grounded
pub data Grounded (down same : ℕ → ℕ → Bool) : ℕ → Type 0 where
  ground : (i : ℕ) → ((v u : ℕ) → same i v ≡ true → down u v ≡ true → Grounded down same u) → Grounded down same i

-- some place above v is not flagged
abbrev pub OpenAbove : (ℕ → ℕ → Bool) → List Bool → ℕ → Type 0
OpenAbove down flags v = (u : ℕ) × (u < 8) × ((down u v ≡ true) × (slice_index_or flags u false ≡ false))

-- some place above one that is the same as i is not flagged
abbrev pub Waits : (ℕ → ℕ → Bool) → (ℕ → ℕ → Bool) → List Bool → ℕ → Type 0
Waits down same flags i = (v : ℕ) × (v < 8) × ((same i v ≡ true) × OpenAbove down flags v)
