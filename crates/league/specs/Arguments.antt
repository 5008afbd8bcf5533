-- Checks of the arguments of a question's atoms, from left to right: the first refusal stands.
use Rattle.std.specs.Prelude.{◌≡◌, ℕ, ◌+◌, List, [], ◌∷◌, Ok, Err, Result}
use Rattle.league.specs.declared.faults.BookFault.{BookFault}
use Rattle.league.specs.declared.questions.Atom.{Atom}
use Rattle.league.specs.declared.questions.Atom.TheVariants as atom
use Rattle.league.specs.declared.questions.Argument.{Argument}
use Rattle.league.specs.declared.questions.Argument.TheVariants as argument

-- nothing, or a refusal
abbrev pub Checked : Type 0
Checked = Result (Unit {0}) BookFault

-- the first check, and where it finds nothing the second
abbrev pub and_then : Checked → Checked → Checked
and_then (Ok u) r = r
and_then (Err fault) r = Err fault

-- how many arguments an atom has: its kind or role, and its terms
abbrev pub arguments_of : Atom → ℕ
arguments_of (atom.Is k t) = 2
arguments_of (atom.Joins R s t) = 3

-- a check of each argument of an atom, the first at place p: its kind or role, then its terms in order
abbrev pub arguments_checked : (ℕ → Argument → Checked) → ℕ → Atom → Checked
arguments_checked check p (atom.Is k t) = and_then (check p (argument.Kind k)) (check (p + 1) (argument.Term t))
arguments_checked check p (atom.Joins R s t) =
    and_then (check p (argument.Role R)) (and_then (check (p + 1) (argument.Term s)) (check (p + 2) (argument.Term t)))

-- a check of each argument of the atoms, the first argument of the first at place p
abbrev pub atoms_checked : (ℕ → Argument → Checked) → ℕ → List Atom → Checked
atoms_checked check p [] = Ok tt
atoms_checked check p (a ∷ atoms) = and_then (arguments_checked check p a) (atoms_checked check (p + arguments_of a) atoms)

-- what a call returns of an argument and its place is what the check gives
abbrev pub Computes : (Argument → ℕ → Checked → Type 0) → (ℕ → Argument → Checked) → Type 0
Computes returns check = (x : Argument) (p : ℕ) (r : Checked) → returns x p r → r ≡ check p x
