-- When the variables below a number are all in some atom.
use Rattle.std.proofs.Common.{◌≡◌, ℕ, zero, suc, ◌+◌, Bool, ◌&&◌, List, arith}
use Rattle.std.specs.List.{list_all, range_with_len}
use Rattle.league.specs.declared.questions.Atom.{Atom}
use Rattle.league.specs.Filling.{mentioned, covered}

-- one number more at the end of a range
tested_more : (p : ℕ → Bool) (a n : ℕ) → list_all p (range_with_len a (suc n)) ≡ (list_all p (range_with_len a n) && p (a + n))
tested_more p a zero = grind arith
tested_more p a (suc n) = grind (arith, tested_more p (a + 1) n)

-- to test each variable below k in turn
pub covered_range : (k : ℕ) (atoms : List Atom) → list_all (λ v. mentioned v atoms) (range_with_len 0 k) ≡ covered k atoms
covered_range zero atoms = grind arith
covered_range (suc k) atoms = grind (arith, tested_more (λ v. mentioned v atoms) 0 k, covered_range k atoms)
