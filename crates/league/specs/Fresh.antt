-- What a fresh question asks: whether anything is of kind 0.
use Rattle.league.specs.declared.questions.Term.{Term}
use Rattle.league.specs.declared.questions.Term.TheVariants as term
use Rattle.league.specs.declared.questions.Atom.{Atom}
use Rattle.league.specs.declared.questions.Atom.TheVariants as atom

-- its one term: v0
abbrev pub fresh_term : Term
fresh_term = term.Variable 0

-- its one atom: v0 is of kind 0
abbrev pub fresh_atom : Atom
fresh_atom = atom.Is (record { 0 = 0 }) fresh_term
