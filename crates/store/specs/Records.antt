-- What the records of a record store mean.
use Rattle.std.specs.Prelude.{ℕ, min, Bool, true, false, not, ◌&&◌, List, [], ◌∷◌, length, take}
use Rattle.league.specs.declared.facts.Fact.{Fact}
use Rattle.league.specs.Facts.{plus, within}
use Rattle.store.specs.Holding.{Holding}

-- the set of the facts of a list
abbrev pub listed : List Fact → Fact → Bool
listed [] f = false
listed (x ∷ xs) f = plus x (listed xs) f

-- every fact of a list can be stated over n names, and none stands in it twice
abbrev pub distinct : ℕ → List Fact → Bool
distinct n [] = true
distinct n (x ∷ xs) = within n x && (not (listed xs x) && distinct n xs)

-- so many records hold as many facts, but at most 65,535
abbrev pub record_limit : List Fact → ℕ
record_limit xs = min (length xs) 65535

-- what the first len of the records mean
abbrev pub held : ℕ → List Fact → ℕ → Holding
held n xs len = record { names = n; limit = record_limit xs; facts = listed (take len xs) }
