-- The pairs that a list of pairs has in use.
use Rattle.std.specs.Prelude.{List, take}
use Rattle.rules.specs.declared.pair.Pair.{Pair}
use Rattle.rules.specs.declared.pairs.PairList.{PairList}

-- the pairs at the first places, as many as it counts
abbrev pub in_use : PairList → List Pair
in_use t = take t.count t.places
