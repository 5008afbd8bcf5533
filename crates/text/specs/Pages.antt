-- An output page: the bytes, and how many are written, where no line was left out.
use Rattle.std.specs.Prelude.{ℕ, ◌+◌, ◌-◌, cond, List, [], ◌∷◌, ◌++◌, length, take, drop, Some, None, Ok, Err, Option, Result, nat_le, nat_lt}
use Rattle.std.specs.List.{flat_map}
use Rattle.league.specs.declared.faults.BookFault.{BookFault}
use Rattle.league.specs.declared.faults.BookFault.TheVariants as book
use Rattle.text.specs.declared.page.OutputPage.{OutputPage}
use Rattle.text.specs.Lines.{Bytes}

pub record Page : Type 0 where
  pub bytes : Bytes
  pub written : Option ℕ

abbrev pub page : Bytes → Option ℕ → Page
page bytes written = record { bytes = bytes; written = written }

-- an output page as it stands
abbrev pub shown : OutputPage → Page
shown p = page p.bytes.now p.written

-- nothing is written yet
abbrev pub fresh : Bytes → Page
fresh bytes = page bytes (Some 0)

-- the bytes with some of them at a place, and all others as they were
abbrev pub pasted : Bytes → ℕ → Bytes → Bytes
pasted bytes at line = take at bytes ++ (line ++ drop (at + length line) bytes)

-- one line more where it fits and none was left out before; else it is left out
abbrev pub put_after : Bytes → Option ℕ → Bytes → Page
put_after bytes (Some n) line =
    cond (nat_lt (length bytes - n) (length line))
    (page bytes None)
    (page (pasted bytes n line) (Some (n + length line)))
put_after bytes None line = page bytes None

abbrev pub put : Page → Bytes → Page
put p line = put_after p.bytes p.written line

abbrev pub put_all : Page → List Bytes → Page
put_all p [] = p
put_all p (l ∷ ls) = put_all (put p l) ls

-- the lines that fit whole, from the first: from the first that does not fit, none stays
abbrev pub kept : ℕ → List Bytes → List Bytes
kept room [] = []
kept room (l ∷ ls) = cond (nat_le (length l) room) (l ∷ kept (room - length l) ls) []

-- the lines one after the other
abbrev pub together : List Bytes → Bytes
together ls = flat_map (λ l. l) ls

-- the number of bytes written, or refusal 10 where a line was left out
abbrev pub result : Page → Result ℕ BookFault
result p = told p.written
  where
    told : Option ℕ → Result ℕ BookFault
    told (Some n) = Ok n
    told None = Err book.Page
