-- Roles and marks: which are the same, which are in range, and the code of a mark.
use Rattle.std.specs.Prelude.{ℕ, ◌+◌, ◌<◌, Bool, false, ◌==◌, nat_lt}
use Rattle.league.specs.Roles.{code, link_of}
use Rattle.league.specs.declared.facts.Kind.{Kind}
use Rattle.league.specs.declared.roles.Role.{Role}
use Rattle.league.specs.declared.roles.Role.TheVariants.{Forward, Backward}
use Rattle.league.specs.declared.roles.Mark.{Mark}
use Rattle.league.specs.declared.roles.Mark.TheVariants.{Is, Has}

-- two kinds are one
abbrev pub same_kind : Kind → Kind → Bool
same_kind k m = k.0 == m.0

-- two roles are one: the same link, read from the same side
abbrev pub same_role : Role → Role → Bool
same_role (Forward l) (Forward m) = l.0 == m.0
same_role (Forward l) (Backward m) = false
same_role (Backward l) (Forward m) = false
same_role (Backward l) (Backward m) = l.0 == m.0

-- two marks are one
abbrev pub same_mark : Mark → Mark → Bool
same_mark (Is k) (Is m) = same_kind k m
same_mark (Is k) (Has S) = false
same_mark (Has R) (Is m) = false
same_mark (Has R) (Has S) = same_role R S

-- a kind that a rule may name: below 64
abbrev pub kind_within : Kind → Bool
kind_within k = nat_lt k.0 64

-- a role that a rule may name: its link is below 32
abbrev pub role_within : Role → Bool
role_within R = nat_lt (link_of R).0 32

-- a mark that a rule may name
abbrev pub mark_within : Mark → Bool
mark_within (Is k) = kind_within k
mark_within (Has R) = role_within R

-- the code of a mark: a kind has its number, and having a partner by a role has 64 more than the role's code
abbrev pub mark_code : Mark → ℕ
mark_code (Is k) = k.0
mark_code (Has R) = 64 + code R

-- the same ranges, as facts: a kind below 64, a link below 32
abbrev pub KindIn : Kind → Type 0
KindIn k = k.0 < 64

abbrev pub RoleIn : Role → Type 0
RoleIn R = (link_of R).0 < 32

abbrev pub MarkIn : Mark → Type 0
MarkIn (Is k) = KindIn k
MarkIn (Has R) = RoleIn R
