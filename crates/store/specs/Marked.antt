-- What a bit store keeps. The lemma stands here, and not in proofs/, since the store carries its proof.
use Rattle.std.specs.Prelude.{ℕ, ◌≤◌, List}
use Rattle.std.proofs.lemmas.Bool.{and_parts}
use Rattle.league.specs.Facts.{within}
use Rattle.league.proofs.Counts.{count_le}
use Rattle.store.specs.Holding.{Sound}
use Rattle.store.specs.Bits.{place_of, is_set, marked, held_bits}

pub held_bits_sound : (n : ℕ) (xs : List ℕ) → n ≤ 1024 → Sound (held_bits n xs)
held_bits_sound n xs s =
    record { few = s; room = count_le n (marked n xs); range = λ f e. (and_parts (within n f) (is_set xs (place_of n f)) e).0 }
