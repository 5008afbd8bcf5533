-- What the bytes of a bit store mean: one bit for each fact that can be stated over n names.
-- By bytes the layout is: kind k of name a is bit k mod 8 of byte 8·a + k/8, and link l from name a to name b is
-- bit l mod 8 of byte 8·n + 4·(a·n + b) + l/8, where the lowest bit of a byte is bit 0.
use Rattle.std.specs.Prelude.{ℕ, ◌+◌, ◌*◌, ◌/◌, ◌%◌, ◌^◌, Bool, cond, ◌&&◌, List, ◌++◌, length, drop, replicate, ◌==◌, bit_or, nat_lt, slice_index, slice_set}
use Rattle.league.specs.declared.facts.Fact.{Fact}
use Rattle.league.specs.declared.facts.Fact.TheVariants.{Is, Joins}
use Rattle.league.specs.Facts.{within}
use Rattle.store.specs.Holding.{Holding, names_of}

-- the number of a fact's bit
abbrev pub place_of : ℕ → Fact → ℕ
place_of n (Is k a) = 64 * a.0 + k.0
place_of n (Joins l a b) = 64 * n + (32 * (a.0 * n + b.0) + l.0)

-- bit i is set: bit i mod 8, of which the lowest is 0, of byte i/8
abbrev pub is_set : List ℕ → ℕ → Bool
is_set xs i = slice_index xs (i / 8) / 2 ^ (i % 8) % 2 == 1

-- a byte with one of its bits set, and the others as they were
abbrev pub with_bit : ℕ → ℕ → ℕ
with_bit byte i = bit_or byte (2 ^ i)

-- the bytes with bit i set, and all other bits as they were
abbrev pub set_bit : List ℕ → ℕ → List ℕ
set_bit xs i = slice_set xs (i / 8) (with_bit (slice_index xs (i / 8)) (i % 8))

-- the bytes with the first n of them 0, and the others as they were
abbrev pub cleared : ℕ → List ℕ → List ℕ
cleared n xs = replicate n 0 ++ drop n xs

-- how many bytes the bits over n names take: 8 for the kinds of each name, 4 for the links from each name to each
abbrev pub size_of : ℕ → ℕ
size_of n = 8 * n + 4 * (n * n)

-- how many facts can be stated over n names, and so be held: 64 kinds of each name, 32 links from each name to each
abbrev pub bit_limit : ℕ → ℕ
bit_limit n = 64 * n + 32 * (n * n)

-- a store that is asked for so many names has them; asked for more than 1,024, or over fewer bytes than their bits
-- take, it has none
abbrev pub names_over : List ℕ → ℕ → ℕ
names_over xs asked = cond (nat_lt (length xs) (size_of asked)) 0 (names_of asked)

-- the set of the facts that can be stated over n names and whose bits are set
abbrev pub marked : ℕ → List ℕ → Fact → Bool
marked n xs f = within n f && is_set xs (place_of n f)

-- what the bytes mean
abbrev pub held_bits : ℕ → List ℕ → Holding
held_bits n xs = record { names = n; limit = bit_limit n; facts = marked n xs }
