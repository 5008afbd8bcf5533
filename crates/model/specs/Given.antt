-- The marks that the recorded facts give a name, as a test.
use Rattle.std.specs.Prelude.{ℕ, ◌+◌, Bool, false, not, ◌&&◌, List, slice_index_or}
use Rattle.league.specs.declared.facts.Fact.TheVariants as fact
use Rattle.league.specs.declared.facts.Name.{Name}
use Rattle.league.specs.declared.roles.Mark.{Mark}
use Rattle.league.specs.declared.roles.Mark.TheVariants.{Is, Has}
use Rattle.league.specs.declared.roles.Role.{Role}
use Rattle.rules.specs.Codes.{mark_of}
use Rattle.rules.specs.Consequences.{told_implies}
use Rattle.rules.specs.declared.consequences.Consequences.{Consequences}
use Rattle.store.specs.Holding.{Holding}
use Rattle.model.specs.Recorded.{name_of, fact_of}
use Rattle.model.specs.Rows.{some_below, Filled}

-- a recorded fact gives the name a partner by the role itself
abbrev pub has_partner : Holding → Role → Name → Bool
has_partner h R a = some_below h.names (λ b. h.facts (fact_of R a (name_of b)))

-- a recorded fact gives the name the mark
abbrev pub is_given : Holding → Name → Mark → Bool
is_given h a (Is k) = h.facts (fact.Is k a)
is_given h a (Has R) = has_partner h R a

-- whether the mark with a code is given; those of hidden links have the codes from 128 on, and never are
abbrev pub given_at : Holding → Name → ℕ → Bool
given_at h a c = is_given h a (mark_of c)

-- the name generates the role with a code: it has a partner by it, and no recorded one by the role itself
abbrev pub starts_at : List Bool → List Bool → ℕ → Bool
starts_at marks given c = slice_index_or marks (64 + c) false && not (slice_index_or given (64 + c) false)

-- the given mark with a code implies the mark
abbrev pub passes_on : Consequences → List Bool → Mark → ℕ → Bool
passes_on c given C g = slice_index_or given g false && told_implies c (mark_of g) C

-- some given mark implies the mark; given ones have codes below 128
abbrev pub implied_by : Consequences → List Bool → Mark → Bool
implied_by c given C = some_below 128 (passes_on c given C)

-- the rows of a name: the marks that follow from those that are given, and the roles that it generates
pub record RowsOf (h : Holding) (c : Consequences) (a : Name) (marks starts : List Bool) : Type 0 where
  pub given : List Bool
  pub given_are : Filled given 128 (given_at h a)
  pub marks_are : Filled marks 192 (λ m. implied_by c given (mark_of m))
  pub starts_are : Filled starts 128 (starts_at marks given)
