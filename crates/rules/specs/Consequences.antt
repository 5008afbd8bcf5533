-- What consequences tell, and that it is what follows from the rules.
use Rattle.std.specs.Prelude.{Bool, cond, ◌&&◌, nat_lt}
use Rattle.graph.specs.Paths.{Tells}
use Rattle.league.specs.Roles.{code, link_of}
use Rattle.league.specs.declared.roles.Role.{Role}
use Rattle.league.specs.declared.roles.Mark.{Mark}
use Rattle.league.specs.declared.roles.Mark.TheVariants.{Is, Has}
use Rattle.rules.specs.Flags.{flag}
use Rattle.rules.specs.Follows.{Below, Implies}
use Rattle.rules.specs.Marks.{same_role, same_mark, kind_within, mark_code}
use Rattle.rules.specs.RuleSet.{RuleSet}
use Rattle.rules.specs.declared.consequences.Consequences.{Consequences}

-- the role has a place in the tables: its link is below 64, a link of rules or a hidden one
abbrev pub role_listed : Role → Bool
role_listed R = nat_lt (link_of R).0 64

-- the mark has a place in the tables
abbrev pub mark_listed : Mark → Bool
mark_listed (Is k) = kind_within k
mark_listed (Has R) = role_listed R

module _ (c : Consequences) where
  -- whether the role is told to be below the other: by the table, and outside of it only a role below itself
  abbrev pub told_below : Role → Role → Bool
  told_below R S = cond (role_listed R && role_listed S) (flag c.roles.cells (code R) (code S)) (same_role R S)

  -- whether the mark is told to imply the other: by the table, and outside of it only a mark itself
  abbrev pub told_implies : Mark → Mark → Bool
  told_implies B C = cond (mark_listed B && mark_listed C) (flag c.marks.cells (mark_code B) (mark_code C)) (same_mark B C)

-- the consequences tell exactly what follows from the rules
pub record Decides (c : Consequences) (s : RuleSet) : Type 0 where
  pub below : (R S : Role) → Tells (told_below c R S) (Below s R S)
  pub implies : (B C : Mark) → Tells (told_implies c B C) (Implies s B C)
