-- Lines of a text and fields of a line.
use Rattle.std.specs.Prelude.{ℕ, suc, cond, List, [], ◌∷◌, ◌==◌}

-- a text, a line or a field, byte by byte
abbrev pub Bytes : Type 0
Bytes = List ℕ

-- one byte more at the front of the first piece
abbrev pub onto : ℕ → List Bytes → List Bytes
onto b [] = (b ∷ []) ∷ []
onto b (p ∷ ps) = (b ∷ p) ∷ ps

-- the pieces between the separators, where the end of the bytes gives the pieces `last`
abbrev pub cut : List Bytes → ℕ → Bytes → List Bytes
cut last separator [] = last
cut last separator (b ∷ bs) = cond (b == separator) ([] ∷ cut last separator bs) (onto b (cut last separator bs))

-- lines end at byte 10, and a last line may lack it: no line follows the last byte 10
abbrev pub lines : Bytes → List Bytes
lines text = cut [] 10 text

-- fields are separated by single spaces: an empty field follows a last space, and an empty line is one empty field
abbrev pub fields : Bytes → List Bytes
fields line = cut ([] ∷ []) 32 line

-- the index of the first such byte, or the length where there is none
abbrev pub first_at : ℕ → Bytes → ℕ
first_at byte [] = 0
first_at byte (b ∷ bs) = cond (b == byte) 0 (suc (first_at byte bs))
