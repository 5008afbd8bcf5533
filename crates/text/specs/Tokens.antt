-- The fields that are left of a line.
use Rattle.std.specs.Prelude.{◌≡◌, ℕ, ◌+◌, ◌<◌, true, List, [], ◌∷◌, length, is_ok, Some, None, Ok, Err, Option, Result}
use denote.Ref.{Bor}
use Rattle.text.specs.declared.faults.Unreadable.{Unreadable}
use Rattle.text.specs.declared.fields.Fields.{Fields}
use Rattle.text.specs.declared.tokens.Token.{Token}
use Rattle.text.specs.declared.tokens.Token.TheVariants.{Field, Missing}
use Rattle.text.specs.Lines.{Bytes, fields}

-- the fields from the next one on, where there is a next one
abbrev pub left : Option (Bor Bytes) → List Bytes
left None = []
left (Some rest) = fields rest.now

-- the fields that are left of a line, and the number of the first of them
pub record Unread : Type 0 where
  pub fields : List Bytes
  pub number : ℕ

abbrev pub unread_from : ℕ → List Bytes → Unread
unread_from n ws = record { fields = ws; number = n }

abbrev pub unread : Fields → Unread
unread f = unread_from f.number (left f.rest)

-- the next field; a missing one counts as an empty one
abbrev pub first : List Bytes → Bytes
first [] = []
first (w ∷ ws) = w

-- what a token says of the fields left before and after: a field that is not empty, and the others are left; or one that is missing or empty
abbrev pub Took : Unread → Token → Unread → Type 0
Took before (Field part m) after =
    (m ≡ before.number) × (before.fields ≡ part.now ∷ after.fields) × (after.number ≡ before.number + 1) × (0 < length part.now)
Took before (Missing m) after = (m ≡ before.number) × (first before.fields ≡ [])

-- the fields after the next one
abbrev pub others : List Bytes → List Bytes
others [] = []
others (w ∷ ws) = ws

-- what was read, or that the field is unreadable
abbrev pub or_unreadable : {A : Type 0} → ℕ → Option A → Result A Unreadable
or_unreadable n None = Err (record { 0 = n })
or_unreadable n (Some a) = Ok a

-- what a field that is well formed says; an empty one never is
abbrev pub said : {A : Type 0} → (Bytes → Option A) → ℕ → Bytes → Result A Unreadable
said form n [] = Err (record { 0 = n })
said form n (b ∷ bs) = or_unreadable n (form (b ∷ bs))

-- what the next field says, where it has the form; else it is unreadable, by its number
abbrev pub got : {A : Type 0} → (Bytes → Option A) → ℕ → List Bytes → Result A Unreadable
got form n ws = said form n (first ws)

-- a field was read: what it says, and the fields and the next number after it
pub record ReadField {A : Type 0} (form : Bytes → Option A) (before : Unread) (r : Result A Unreadable) (after : Unread) : Type 0 where
  pub value : r ≡ got form before.number before.fields
  pub rest : is_ok r ≡ true → after.fields ≡ others before.fields
  pub number : is_ok r ≡ true → after.number ≡ before.number + 1

-- all fields are read, or the next one is extra
abbrev pub at_end : ℕ → List Bytes → Result (Unit {0}) Unreadable
at_end n [] = Ok tt
at_end n (w ∷ ws) = Err (record { 0 = n })
