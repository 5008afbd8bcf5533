-- What is printed of a line.
use Rattle.std.specs.Prelude.{ℕ, ◌+◌, [], ◌∷◌, ◌++◌, Some, None, Ok, Err, codes, decimal, Option, Result}
use Rattle.league.specs.declared.facts.Entry.{Entry}
use Rattle.league.specs.declared.facts.Entry.TheVariants.{New, Known}
use Rattle.league.specs.declared.faults.Place.{Place}
use Rattle.league.specs.declared.faults.StoreFault.{StoreFault}
use Rattle.league.specs.declared.faults.BookFault.{BookFault}
use Rattle.league.specs.declared.faults.BookFault.TheVariants as book
use Rattle.league.specs.Faults.{book_number, store_place, book_place}
use Rattle.text.specs.declared.faults.LineFault.{LineFault}
use Rattle.text.specs.declared.faults.LineFault.TheVariants as line
use Rattle.text.specs.Lines.{Bytes}

-- the number of a refusal: 12 for a line that cannot be read, else the register's
abbrev pub line_number : LineFault → ℕ
line_number (line.Book fault) = book_number fault
line_number (line.Unreadable at) = 12

-- where the refusal comes from: the store where it refuses a fact, else the book of rules and questions
abbrev pub book_layer : BookFault → Bytes
book_layer (book.Store fault) = codes "store"
book_layer (book.Kind p) = codes "book"
book_layer (book.Link p) = codes "book"
book_layer (book.Name p) = codes "book"
book_layer book.Pairs = codes "book"
book_layer book.Size = codes "book"
book_layer (book.Variable p) = codes "book"
book_layer book.Answers = codes "book"
book_layer book.Contradiction = codes "book"
book_layer book.Page = codes "book"
book_layer book.Match = codes "book"

-- a line that cannot be read is refused by the text
abbrev pub layer_of : LineFault → Bytes
layer_of (line.Book fault) = book_layer fault
layer_of (line.Unreadable at) = codes "text"

-- the field of an argument: the letter is field 1
abbrev pub field_at : Place → ℕ
field_at p = p.0 + 1

-- refusals that tell an argument name its field, others field 1
abbrev pub field_told : Option Place → ℕ
field_told None = 1
field_told (Some p) = field_at p

abbrev pub store_field : StoreFault → ℕ
store_field fault = field_told (store_place fault)

abbrev pub book_field : BookFault → ℕ
book_field fault = field_told (book_place fault)

abbrev pub field_of : LineFault → ℕ
field_of (line.Book fault) = book_field fault
field_of (line.Unreadable at) = at.0

-- `no`, number, layer, line and field, separated by single spaces and ended by byte 10
abbrev pub refusal : ℕ → LineFault → Bytes
refusal n fault =
    codes "no " ++ (decimal (line_number fault) ++ (32 ∷ (layer_of fault ++ (32 ∷ (decimal n ++ (32 ∷ (decimal (field_of fault) ++ (10 ∷ []))))))))

-- what is printed of the n-th line, by what became of it
abbrev pub rendered : ℕ → Result Entry LineFault → Bytes
rendered n (Ok New) = codes "ok\n"
rendered n (Ok Known) = codes "known\n"
rendered n (Err fault) = refusal n fault
