-- What a text prints: each line is carried out in turn, and what became of it is one line of output.
use Rattle.std.specs.Prelude.{◌≡◌, ℕ, ◌+◌, cond, List, [], ◌∷◌, ◌++◌, length, drop, Ok, Err, Result, nat_le}
use Rattle.league.specs.declared.facts.Entry.{Entry}
use Rattle.league.specs.declared.faults.BookFault.{BookFault}
use Rattle.league.specs.declared.faults.BookFault.TheVariants as book
use Rattle.certain.specs.declared.calls.Call.{Call}
use Rattle.certain.specs.Reference.{Accepted, reply_to, next, at_first}
use Rattle.text.specs.declared.faults.LineFault.{LineFault}
use Rattle.text.specs.declared.faults.Unreadable.{Unreadable}
use Rattle.text.specs.Faults.{from_book, from_unreadable}
use Rattle.text.specs.Format.{rendered}
use Rattle.text.specs.Grammar.{reading}
use Rattle.text.specs.Lines.{Bytes, lines, fields}
use Rattle.text.specs.Pages.{kept, together}

-- the register's reply, as the line's
abbrev pub as_line : Result Entry BookFault → Result Entry LineFault
as_line (Ok entry) = Ok entry
as_line (Err fault) = Err (from_book fault)

-- what becomes of a line that was read so: the reference's reply to its call
abbrev pub replied : Accepted → Result Call Unreadable → Result Entry LineFault
replied a (Ok call) = as_line (reply_to a call)
replied a (Err at) = Err (from_unreadable at)

-- what is accepted after it
abbrev pub accepts : Accepted → Result Call Unreadable → Accepted
accepts a (Ok call) = next a call
accepts a (Err at) = a

abbrev pub outcome : Accepted → Bytes → Result Entry LineFault
outcome a line = replied a (reading (fields line))

abbrev pub after_line : Accepted → Bytes → Accepted
after_line a line = accepts a (reading (fields line))

-- what is printed of some lines, the first of which is the n-th
abbrev pub outputs : Accepted → ℕ → List Bytes → List Bytes
outputs a n [] = []
outputs a n (l ∷ ls) = rendered n (outcome a l) ∷ outputs (after_line a l) (n + 1) ls

-- what is printed of a whole text, by a register that is opened on an empty store of so many names and this limit
abbrev pub printed : ℕ → ℕ → Bytes → List Bytes
printed names limit text = outputs (at_first names limit) 1 (lines text)

-- Output lines on a page: those that fit whole, from the first, stand at its front, and the rest is as it was; the
-- result is the number of bytes of all of them where they fit, and else refusal 10.
pub record Filled (outs : List Bytes) (before after : Bytes) (r : Result ℕ BookFault) : Type 0 where
  pub page : after ≡ together (kept (length before) outs) ++ drop (length (together (kept (length before) outs))) before
  pub reply : r ≡ cond (nat_le (length (together outs)) (length before)) (Ok (length (together outs))) (Err book.Page)
