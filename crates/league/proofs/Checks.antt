-- One check after the other, over the atoms from left to right.
use Rattle.std.proofs.Common.{◌≡◌, ℕ, ◌<◌, List, length, get_or, drop, Ok, Err, sym, refl, ◌∙◌}
use Rattle.std.proofs.lemmas.List.{at_drop_more}
use Rattle.league.specs.declared.faults.BookFault.{BookFault}
use Rattle.league.specs.declared.questions.Atom.{Atom}
use Rattle.league.specs.declared.questions.Argument.{Argument}
use Rattle.league.specs.Arguments.{Checked, and_then, arguments_checked, atoms_checked}

-- a check that finds nothing leaves the next
pub after_ok : (r s : Checked) (u : Unit {0}) → Ok u ≡ r → and_then r s ≡ s
after_ok (Ok v) s u e = refl
after_ok (Err f) s u e = let z : ◌≡◌ {A = Checked} (Ok u) (Err f) = e in cc

-- a check that refuses is the last
pub after_err : (r s : Checked) (f : BookFault) → Err f ≡ r → and_then r s ≡ Err f
after_err (Ok v) s f e = cc
after_err (Err g) s f e = cc

-- an atom that is refused is the last that is checked
pub checked_refused : (check : ℕ → Argument → Checked) (p : ℕ) (atoms : List Atom) (i : ℕ) (d : Atom) → i < length atoms
    → (f : BookFault) → Err f ≡ arguments_checked check p (get_or atoms i d) → Err f ≡ atoms_checked check p (drop i atoms)
checked_refused check p atoms i d h f e =
    sym (at_drop_more (atoms_checked check p) atoms i d h ∙ after_err (arguments_checked check p (get_or atoms i d)) _ f e)
