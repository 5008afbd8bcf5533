-- Bytes that are cut at a byte.
use Rattle.std.specs.Prelude.{◌≡◌, ℕ, ◌+◌, ◌<◌, ◌≤◌, List, [], length, take, drop, MatchOption, Option}
use denote.Ref.{Bor}
use Rattle.text.specs.declared.pieces.Pieces.{Pieces}
use Rattle.text.specs.Lines.{Bytes, cut, first_at}

-- what stands before the first such byte, and after it where there is one
abbrev pub Splits : ℕ → Bytes → Bor Bytes × Option (Bor Bytes) → Type 0
Splits byte s r =
    MatchOption r.1 ((length s ≤ first_at byte s) × (r.0.now ≡ s)) (λ after.
    (first_at byte s < length s) × (r.0.now ≡ take (first_at byte s) s) × (after.now ≡ drop (first_at byte s + 1) s))

-- the pieces that are left, each ended by the separator, which the last may lack
abbrev pub pieces_left : Pieces → List Bytes
pieces_left p = cut [] p.separator p.rest.now
