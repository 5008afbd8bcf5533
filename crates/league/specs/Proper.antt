-- What every question has, in plain words.
use Rattle.std.specs.Prelude.{ℕ, ◌<◌, ◌≤◌, List, length}
use Rattle.league.specs.declared.questions.Term.{Term}
use Rattle.league.specs.declared.questions.Term.TheVariants as term
use Rattle.league.specs.declared.questions.Atom.{Atom}
use Rattle.league.specs.declared.questions.Atom.TheVariants as atom
use Rattle.league.specs.Questions.{Among}
use Rattle.league.specs.Roles.{link_of}
use Rattle.league.specs.Terms.{terms_of, InSome}

-- a term is a variable v0 to v7 or a name from 0 to 1,023
abbrev pub TermRanged : Term → Type 0
TermRanged (term.Variable v) = v ≤ 7
TermRanged (term.Name a) = a.0 ≤ 1023

-- an atom's kind is at most 63, its link at most 31, and its terms are in range
abbrev pub AtomRanged : Atom → Type 0
AtomRanged (atom.Is k t) = (k.0 ≤ 63) × TermRanged t
AtomRanged (atom.Joins R s t) = ((link_of R).0 ≤ 31) × TermRanged s × TermRanged t

-- one to sixteen atoms in range, at most eight distinct terms, and at most four answer variables, each in some atom
pub record Proper (k : ℕ) (atoms : List Atom) : Type 0 where
  pub few : k ≤ 4
  pub some : 0 < length atoms
  pub short : length atoms ≤ 16
  pub ranged : (a : Atom) → Among a atoms → AtomRanged a
  pub narrow : length (terms_of atoms) ≤ 8
  pub answered : (v : ℕ) → v < k → InSome (term.Variable v) atoms
