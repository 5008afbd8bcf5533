-- The refusals of a line.
use Rattle.league.specs.declared.faults.BookFault.{BookFault}
use Rattle.text.specs.declared.faults.Unreadable.{Unreadable}
use Rattle.text.specs.declared.faults.LineFault.{LineFault}
use Rattle.text.specs.declared.faults.LineFault.TheVariants as line

-- the register's refusal, as one of the line's
abbrev pub from_book : BookFault → LineFault
from_book fault = line.Book fault

-- a line that cannot be read is refused
abbrev pub from_unreadable : Unreadable → LineFault
from_unreadable fault = line.Unreadable fault
