-- The number of each refusal, and the argument that it tells.
use Rattle.std.specs.Prelude.{ℕ, Option, Some, None}
use Rattle.league.specs.declared.faults.Place.{Place}
use Rattle.league.specs.declared.faults.StoreFault.{StoreFault}
use Rattle.league.specs.declared.faults.StoreFault.TheVariants as store
use Rattle.league.specs.declared.faults.BookFault.{BookFault}
use Rattle.league.specs.declared.faults.BookFault.TheVariants as book

-- 1: a kind is above 63; 2: a link is above 31; 3: a name is not below the number of names;
-- 4: a new fact meets a store at its limit
abbrev pub store_number : StoreFault → ℕ
store_number (store.Kind p) = 1
store_number (store.Link p) = 2
store_number (store.Name p) = 3
store_number store.Full = 4

-- the store's refusals keep their numbers; 1, 2 and 3 in rules and questions mean the same;
-- 5: a new pair comes while 32 are in use; 6: over 16 atoms or eight terms; 7: a variable is above v7;
-- 8: k is above 4, there is no atom, or an answer variable is in none; 9: no world fits;
-- 10: the page has too few cells; 11: the cells are no match
abbrev pub book_number : BookFault → ℕ
book_number (book.Store fault) = store_number fault
book_number (book.Kind p) = 1
book_number (book.Link p) = 2
book_number (book.Name p) = 3
book_number book.Pairs = 5
book_number book.Size = 6
book_number (book.Variable p) = 7
book_number book.Answers = 8
book_number book.Contradiction = 9
book_number book.Page = 10
book_number book.Match = 11

-- the argument at fault: a kind, a link or a name is one of the fact's, and a store at its limit blames none
abbrev pub store_place : StoreFault → Option Place
store_place (store.Kind p) = Some p
store_place (store.Link p) = Some p
store_place (store.Name p) = Some p
store_place store.Full = None

-- the argument at fault: the store's refusals tell theirs; a kind, a link, a name and a variable are one of the call's;
-- the other refusals blame no one argument
abbrev pub book_place : BookFault → Option Place
book_place (book.Store fault) = store_place fault
book_place (book.Kind p) = Some p
book_place (book.Link p) = Some p
book_place (book.Name p) = Some p
book_place book.Pairs = None
book_place book.Size = None
book_place (book.Variable p) = Some p
book_place book.Answers = None
book_place book.Contradiction = None
book_place book.Page = None
book_place book.Match = None

-- the store's refusal, as one of the register's
abbrev pub from_store : StoreFault → BookFault
from_store fault = book.Store fault
