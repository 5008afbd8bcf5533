-- What the rules give at once, as tests: the edges of the graphs of roles and of marks.
use Rattle.std.specs.Prelude.{ℕ, ◌-◌, Bool, false, ◌&&◌, ◌||◌, List, Some, None, Option, nat_le}
use Rattle.std.specs.List.{slice_get}
use Rattle.league.specs.Roles.{code, inverse}
use Rattle.league.specs.declared.facts.Kind.{Kind}
use Rattle.league.specs.declared.roles.Role.{Role}
use Rattle.league.specs.declared.roles.Role.TheVariants.{Forward, Backward}
use Rattle.league.specs.declared.roles.Mark.{Mark}
use Rattle.league.specs.declared.roles.Mark.TheVariants.{Is, Has}
use Rattle.league.specs.declared.rules.Rule.TheVariants.{Inclusion, Required, RoleInclusion}
use Rattle.rules.specs.Codes.{role_of, mark_of}
use Rattle.rules.specs.Flags.{flag}
use Rattle.rules.specs.Marks.{same_kind, same_role}
use Rattle.rules.specs.RuleSet.{RuleSet}
use Rattle.rules.specs.declared.pair.Pair.{Pair}

-- there is a pair, with this role
abbrev pub of_role : Option Pair → Role → Bool
of_role None R = false
of_role (Some p) R = same_role p.role R

-- there is a pair, with this kind
abbrev pub of_kind : Option Pair → Kind → Bool
of_kind None k = false
of_kind (Some p) k = same_kind p.kind k

-- both marks are having a partner, by roles of which the one is below the other
abbrev pub lifts_role : (Role → Role → Bool) → Mark → Mark → Bool
lifts_role below (Is k) C = false
lifts_role below (Has R) (Is k) = false
lifts_role below (Has R) (Has S) = below R S

-- the entry of two roles in a table by code
abbrev pub entry_of : List (List Bool) → Role → Role → Bool
entry_of cells R S = flag cells (code R) (code S)

module _ (s : RuleSet) where
  -- the role is a hidden link and the other the role of its pair, or both turned
  abbrev pub hidden_under : Role → Role → Bool
  hidden_under (Forward l) S = nat_le 32 l.0 && of_role (slice_get s.pairs (l.0 - 32)) S
  hidden_under (Backward l) S = nat_le 32 l.0 && of_role (slice_get s.pairs (l.0 - 32)) (inverse S)

  -- the rules put the one role below the other at once
  abbrev pub role_gives : Role → Role → Bool
  role_gives R S = s.rules (RoleInclusion R S) || hidden_under R S

  -- there is a pair, and the mark requires it
  abbrev pub requires_pair : Mark → Option Pair → Bool
  requires_pair B None = false
  requires_pair B (Some p) = s.rules (Required B p.role p.kind)

  -- the other mark is having a partner by the hidden link of a pair that the mark requires
  abbrev pub needs_hidden : Mark → Mark → Bool
  needs_hidden B (Is k) = false
  needs_hidden B (Has (Forward l)) = nat_le 32 l.0 && requires_pair B (slice_get s.pairs (l.0 - 32))
  needs_hidden B (Has (Backward l)) = false

  -- the mark is being the partner by a hidden link, and the other the kind of its pair
  abbrev pub lands_hidden : Mark → Mark → Bool
  lands_hidden (Is k) C = false
  lands_hidden (Has (Forward l)) C = false
  lands_hidden (Has (Backward l)) (Is k) = nat_le 32 l.0 && of_kind (slice_get s.pairs (l.0 - 32)) k
  lands_hidden (Has (Backward l)) (Has S) = false

  -- the rules put the one mark below the other at once, where it is known which roles are below which
  abbrev pub mark_gives : (Role → Role → Bool) → Mark → Mark → Bool
  mark_gives below B C =
      s.rules (Inclusion B C) || (needs_hidden B C || (lands_hidden B C || lifts_role below B C))

  -- the edges of the graph of roles, by code
  abbrev pub role_step : ℕ → ℕ → Bool
  role_step i j = role_gives (role_of i) (role_of j)

  -- the edges of the graph of marks, by code
  abbrev pub mark_step : (Role → Role → Bool) → ℕ → ℕ → Bool
  mark_step below i j = mark_gives below (mark_of i) (mark_of j)
