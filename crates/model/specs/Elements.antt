-- The elements of the canonical model, and their numbers.
use Rattle.std.specs.Prelude.{ℕ, ◌+◌, ◌-◌, ◌*◌, ◌/◌, ◌%◌, cond, nat_lt}
use Rattle.league.specs.Roles.{code}
use Rattle.league.specs.declared.facts.Name.{Name}
use Rattle.league.specs.declared.roles.Role.{Role}
use Rattle.rules.specs.Codes.{role_of}
use Rattle.model.specs.Recorded.{name_of}

-- a name, or a witness of a role: something that the role leads to though nobody named it; a role has
-- several, told apart by an index
pub data Element : Type 0 where
  named : Name → Element
  witness : Role → ℕ → Element

-- where there are P names: a name is the element of its own number, and the witness of R with the index i
-- has the number P + 3 · code of R + i
abbrev pub number : ℕ → Element → ℕ
number P (Element.named a) = a.0
number P (Element.witness R i) = P + (3 * code R + i)

-- the element with a number
abbrev pub element_of : ℕ → ℕ → Element
element_of P n = cond (nat_lt n P) (Element.named (name_of n)) (Element.witness (role_of ((n - P) / 3)) ((n - P) % 3))
