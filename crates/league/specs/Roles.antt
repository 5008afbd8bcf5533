-- Roles: a link read from one of its sides.
use Rattle.std.specs.Prelude.{ℕ, ◌+◌, ◌*◌}
use Rattle.league.specs.declared.facts.Link.{Link}
use Rattle.league.specs.declared.roles.Role.{Role}
use Rattle.league.specs.declared.roles.Role.TheVariants.{Forward, Backward}

-- the role read from the other side
abbrev pub inverse : Role → Role
inverse (Forward l) = Backward l
inverse (Backward l) = Forward l

-- twice the link's number, plus one for backward
abbrev pub code : Role → ℕ
code (Forward l) = 2 * l.0
code (Backward l) = 2 * l.0 + 1

-- the link that is read
abbrev pub link_of : Role → Link
link_of (Forward l) = l
link_of (Backward l) = l
