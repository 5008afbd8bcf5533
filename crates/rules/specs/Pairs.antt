-- The pairs of a role and a kind that required-partner rules use, in order of first use.
use Rattle.std.specs.Prelude.{ℕ, suc, Bool, cond, ◌&&◌, ◌||◌, List, [], ◌∷◌, ◌++◌, length, nat_lt}
use Rattle.league.specs.declared.facts.Kind.{Kind}
use Rattle.league.specs.declared.roles.Role.{Role}
use Rattle.rules.specs.Marks.{same_kind, same_role}
use Rattle.rules.specs.declared.pair.Pair.{Pair}

-- the pair of a role and a kind
abbrev pub pair_of : Role → Kind → Pair
pair_of R k = record { role = R; kind = k }

-- two pairs are one
abbrev pub same_pair : Pair → Pair → Bool
same_pair p q = same_role p.role q.role && same_kind p.kind q.kind

-- the number of a pair: its place in the list, or the list's length where it is not in it
abbrev pub number_of : List Pair → Pair → ℕ
number_of [] p = 0
number_of (q ∷ qs) p = cond (same_pair q p) 0 (suc (number_of qs p))

-- the pair is in the list
abbrev pub has_pair : List Pair → Pair → Bool
has_pair ps p = nat_lt (number_of ps p) (length ps)

-- there is room for the pair: it is in use already, or fewer than 32 are
abbrev pub fits : List Pair → Pair → Bool
fits ps p = has_pair ps p || nat_lt (length ps) 32

-- the pairs once the pair is used: a new one comes last
abbrev pub with_pair : List Pair → Pair → List Pair
with_pair ps p = cond (has_pair ps p) ps (ps ++ (p ∷ []))
