-- When filling a question is refused, and why: the first refusal in this order stands.
use Rattle.std.specs.Prelude.{ℕ, zero, suc, Bool, true, false, cond, not, ◌&&◌, ◌||◌, List, length, Ok, Err, ◌==◌, nat_lt}
use Rattle.std.specs.List.{list_any}
use Rattle.league.specs.declared.faults.Place.{Place}
use Rattle.league.specs.declared.faults.BookFault.{BookFault}
use Rattle.league.specs.declared.faults.BookFault.TheVariants as book
use Rattle.league.specs.declared.questions.Term.{Term}
use Rattle.league.specs.declared.questions.Term.TheVariants as term
use Rattle.league.specs.declared.questions.Atom.{Atom}
use Rattle.league.specs.declared.questions.Atom.TheVariants as atom
use Rattle.league.specs.declared.questions.Argument.{Argument}
use Rattle.league.specs.declared.questions.Argument.TheVariants as argument
pub use Rattle.league.specs.Arguments.{Checked, and_then, arguments_of}
use Rattle.league.specs.Arguments.{arguments_checked, atoms_checked}
use Rattle.league.specs.Roles.{link_of}
use Rattle.league.specs.Terms.{terms_of}

-- a refusal where the test passes
abbrev pub refused_if : Bool → BookFault → Checked
refused_if b fault = cond b (Err fault) (Ok tt)

-- the argument of a call, counted from 1
abbrev pub place_at : ℕ → Place
place_at p = record { 0 = p }

-- a term that stands at place p: a variable is one of v0 to v7, a name at most 1,023
abbrev pub term_checked : ℕ → Term → Checked
term_checked p (term.Variable v) = refused_if (nat_lt 7 v) (book.Variable (place_at p))
term_checked p (term.Name a) = refused_if (nat_lt 1023 a.0) (book.Name (place_at p))

-- an argument that stands at place p: a kind is at most 63, a role's link at most 31, and a term in range
abbrev pub number_checked : ℕ → Argument → Checked
number_checked p (argument.Kind k) = refused_if (nat_lt 63 k.0) (book.Kind (place_at p))
number_checked p (argument.Role R) = refused_if (nat_lt 31 (link_of R).0) (book.Link (place_at p))
number_checked p (argument.Term t) = term_checked p t

-- the numbers of an atom whose first argument stands at place p
abbrev pub atom_checked : ℕ → Atom → Checked
atom_checked p a = arguments_checked number_checked p a

-- the numbers of all atoms from left to right, the first argument of the first at place p
abbrev pub numbers_checked : ℕ → List Atom → Checked
numbers_checked p atoms = atoms_checked number_checked p atoms

-- the term is the variable v
abbrev pub is_variable : ℕ → Term → Bool
is_variable v (term.Variable u) = u == v
is_variable v (term.Name a) = false

-- the atom has the variable v
abbrev pub mentions : ℕ → Atom → Bool
mentions v (atom.Is k t) = is_variable v t
mentions v (atom.Joins R s t) = is_variable v s || is_variable v t

-- some atom has the variable v
abbrev pub mentioned : ℕ → List Atom → Bool
mentioned v atoms = list_any (mentions v) atoms

-- each of v0 to v(k-1) is in some atom
abbrev pub covered : ℕ → List Atom → Bool
covered zero atoms = true
covered (suc v) atoms = covered v atoms && mentioned v atoms

-- more than four answer variables, or no atom
abbrev pub counts_checked : ℕ → List Atom → Checked
counts_checked k atoms = refused_if (nat_lt 4 k || length atoms == 0) book.Answers

-- more than sixteen atoms
abbrev pub size_checked : List Atom → Checked
size_checked atoms = refused_if (nat_lt 16 (length atoms)) book.Size

-- more than eight distinct terms
abbrev pub terms_checked : List Atom → Checked
terms_checked atoms = refused_if (nat_lt 8 (length (terms_of atoms))) book.Size

-- an answer variable in no atom
abbrev pub answers_checked : ℕ → List Atom → Checked
answers_checked k atoms = refused_if (not (covered k atoms)) book.Answers

-- what filling a question with k answer variables and these atoms returns; k is its argument 1
abbrev pub filling : ℕ → List Atom → Checked
filling k atoms =
    and_then (counts_checked k atoms)
    (and_then (size_checked atoms) (and_then (numbers_checked 2 atoms) (and_then (terms_checked atoms) (answers_checked k atoms))))
