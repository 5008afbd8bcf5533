-- What a question holds, and what filling leaves of it.
use Rattle.std.specs.Prelude.{◌≡◌, ℕ, List, Ok, Err}
use Rattle.league.specs.declared.questions.Atom.{Atom}
use Rattle.league.specs.declared.question.Question.{Question}
use Rattle.league.specs.Filling.{Checked}

-- the atoms of a question, in order
abbrev pub atoms_of : Question → List Atom
atoms_of q = q.atoms.items

-- filled, a question has this number of answer variables and these atoms; refused, it is as it was
abbrev pub Filled : ℕ → List Atom → Question → Question → Checked → Type 0
Filled k atoms before after (Ok u) = (after.answers ≡ k) × (atoms_of after ≡ atoms)
Filled k atoms before after (Err fault) = after ≡ before
