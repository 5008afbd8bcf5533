-- The role and the mark that a code stands for.
use Rattle.std.specs.Prelude.{ℕ, ◌-◌, ◌/◌, ◌%◌, cond, ◌==◌, nat_lt}
use Rattle.league.specs.Roles.{inverse}
use Rattle.league.specs.declared.roles.Role.{Role}
use Rattle.league.specs.declared.roles.Role.TheVariants.{Forward, Backward}
use Rattle.league.specs.declared.roles.Mark.{Mark}
use Rattle.league.specs.declared.roles.Mark.TheVariants.{Is, Has}

-- an even code is a link read forward, an odd one the same link read backward
unfoldable pub role_of : ℕ → Role
role_of i = cond (i % 2 == 0) (Forward (record { 0 = i / 2 })) (Backward (record { 0 = i / 2 }))

-- the role, turned where a code is odd, so of a link read backward
abbrev pub on_side : Role → ℕ → Role
on_side R i = cond (i % 2 == 0) R (inverse R)

-- a code below 64 is a kind, another is having a partner by the role whose code is 64 less
unfoldable pub mark_of : ℕ → Mark
mark_of i = cond (nat_lt i 64) (Is (record { 0 = i })) (Has (role_of (i - 64)))
