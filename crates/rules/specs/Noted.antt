-- What the parts of a rule table mean.
use Rattle.std.specs.Prelude.{Bool, ◌&&◌, List}
use Rattle.league.specs.Roles.{code}
use Rattle.league.specs.declared.rules.Rule.{Rule}
use Rattle.league.specs.declared.rules.Rule.TheVariants.{Inclusion, Exclusion, Required, RoleInclusion}
use Rattle.rules.specs.Flags.{flag}
use Rattle.rules.specs.Marks.{mark_code}
use Rattle.rules.specs.Pairs.{pair_of, number_of, has_pair}
use Rattle.rules.specs.RuleSet.{RuleSet, rule_within}
use Rattle.rules.specs.declared.pair.Pair.{Pair}

-- the flags of inclusions, exclusions, required partners and role inclusions, and the pairs in use
module _ (inclusions exclusions required roles : List (List Bool)) (pairs : List Pair) where
  -- the flag of a rule is set: its row and column are the codes of its marks or roles, or a mark's code and a pair's number
  abbrev pub noted : Rule → Bool
  noted (Inclusion B C) = flag inclusions (mark_code B) (mark_code C)
  noted (Exclusion B C) = flag exclusions (mark_code B) (mark_code C)
  noted (Required B R k) = has_pair pairs (pair_of R k) && flag required (mark_code B) (number_of pairs (pair_of R k))
  noted (RoleInclusion R S) = flag roles (code R) (code S)

  -- the rules in range whose flags are set, and the pairs
  abbrev pub rule_set_of : RuleSet
  rule_set_of = record { rules = λ r. rule_within r && noted r; pairs = pairs }
