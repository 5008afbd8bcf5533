-- Which of eight places are forced to one path by the steps between them.
use Rattle.std.specs.Prelude.{◌≡◌, ℕ, ◌<◌, Bool, true, false, T, ◌⊎◌}

-- two places are forced to one path: a place and itself, the places above two that are, and what follows from these
pub data Forced (down : ℕ → ℕ → Bool) : ℕ → ℕ → Type 0 where
  self : (i : ℕ) → Forced down i i
  above : (i j v w : ℕ) → Forced down v w → T (down i v) → T (down j w) → Forced down i j
  onward : (i j k : ℕ) → Forced down i j → Forced down j k → Forced down i k

-- some place is the same as both
abbrev pub Meets : (ℕ → ℕ → Bool) → ℕ → ℕ → Type 0
Meets same i j = (v : ℕ) × (v < 8) × ((same i v ≡ true) × (same v j ≡ true))

-- some place below j is the same as v
abbrev pub BelowMeets : (ℕ → ℕ → Bool) → (ℕ → ℕ → Bool) → ℕ → ℕ → Type 0
BelowMeets down same j v = (w : ℕ) × (w < 8) × ((down j w ≡ true) × (same v w ≡ true))

-- places below i and j are the same
abbrev pub SideBySide : (ℕ → ℕ → Bool) → (ℕ → ℕ → Bool) → ℕ → ℕ → Type 0
SideBySide down same i j = (v : ℕ) × (v < 8) × ((down i v ≡ true) × BelowMeets down same j v)

-- what is the same forces two places to be the same
abbrev pub ForcedNow : (ℕ → ℕ → Bool) → (ℕ → ℕ → Bool) → ℕ → ℕ → Type 0
ForcedNow down same i j = Meets same i j ⊎ SideBySide down same i j

-- the answer is yes exactly when the fact holds
pub record Decides (answer : Bool) (P : Type 0) : Type 0 where
  pub yes : answer ≡ true → P
  pub not : answer ≡ false → P → ⊥
