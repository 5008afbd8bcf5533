-- The forms that a field can have, and what each says.
use Rattle.std.specs.Prelude.{ℕ, ◌+◌, ◌-◌, ◌*◌, Bool, cond, not, ◌&&◌, [], ◌∷◌, length, drop, Some, None, Option, ◌==◌, nat_le, slice_index}
use Rattle.std.specs.Str.{all_ascii_digits}
use Rattle.league.specs.declared.facts.Kind.{Kind}
use Rattle.league.specs.declared.roles.Role.{Role}
use Rattle.league.specs.declared.roles.Role.TheVariants.{Forward, Backward}
use Rattle.league.specs.declared.roles.Mark.{Mark}
use Rattle.league.specs.declared.roles.Mark.TheVariants.{Is, Has}
use Rattle.text.specs.declared.forms.Letter.{Letter}
use Rattle.text.specs.declared.forms.Lettered.{Lettered}
use Rattle.text.specs.Lines.{Bytes}

-- the number that digits write, after the number so far
abbrev pub value_from : ℕ → Bytes → ℕ
value_from n [] = n
value_from n (d ∷ ds) = value_from (10 * n + (d - 48)) ds

-- one to four bytes that do not begin with 0, unless it is alone
abbrev pub plain : Bytes → Bool
plain ds = (nat_le 1 (length ds) && nat_le (length ds) 4) && not (nat_le 2 (length ds) && slice_index ds 0 == 48)

-- the number that digits write
abbrev pub digits_form : Bytes → Option ℕ
digits_form ds = cond (all_ascii_digits ds) (Some (value_from 0 ds)) None

-- numbers have one to four digits without leading zeros
abbrev pub numeral : Bytes → Option ℕ
numeral ds = cond (plain ds) (digits_form ds) None

-- a single byte
abbrev pub letter : Bytes → Option Letter
letter [] = None
letter (b ∷ []) = Some (record { 0 = b })
letter (b ∷ (c ∷ cs)) = None

-- a byte and the number after it
abbrev pub beside : ℕ → Option ℕ → Option Lettered
beside b None = None
beside b (Some n) = Some (record { letter = b; number = n })

-- a letter with a number after it; kept shut, so that proofs take it as a whole
unfoldable pub lettered : Bytes → Option Lettered
lettered w = beside (slice_index w 0) (numeral (drop 1 w))

-- k (107) and a number is a kind
abbrev pub kind_of : Option Lettered → Option Kind
kind_of None = None
kind_of (Some t) = cond (t.letter == 107) (Some (record { 0 = t.number })) None

abbrev pub kind_form : Bytes → Option Kind
kind_form w = kind_of (lettered w)

-- f (102) or b (98) and a number is a role, read forward or backward
abbrev pub role_of : Option Lettered → Option Role
role_of None = None
role_of (Some t) =
    cond (t.letter == 102) (Some (Forward (record { 0 = t.number })))
    (cond (t.letter == 98) (Some (Backward (record { 0 = t.number }))) None)

abbrev pub role_form : Bytes → Option Role
role_form w = role_of (lettered w)

-- a mark is a kind, or a role for having some partner by it
abbrev pub mark_of : Option Lettered → Option Mark
mark_of None = None
mark_of (Some t) =
    cond (t.letter == 107) (Some (Is (record { 0 = t.number })))
    (cond (t.letter == 102) (Some (Has (Forward (record { 0 = t.number }))))
    (cond (t.letter == 98) (Some (Has (Backward (record { 0 = t.number })))) None))

abbrev pub mark_form : Bytes → Option Mark
mark_form w = mark_of (lettered w)
