use Rattle.std.proofs.Common.{◌≡◌, ℕ, ◌+◌, ◌*◌, ◌≤◌, drop}
use Rattle.league.specs.declared.questions.Argument.{Argument}
use Rattle.league.specs.Arguments.{Checked, atoms_checked, Computes}
use Rattle.league.proofs.arguments.check_arguments.Given as goal

abbrev pub invariant-loop-atom : goal.invariant-loop-atom
invariant-loop-atom g l =
    (l.place ≤ 2 + 3 * l.atom-index)
    × ((checked : ℕ → Argument → Checked) → Computes (goal.F-post g l.check) checked
    → atoms_checked checked l.place (drop l.atom-index l.atoms) ≡ atoms_checked checked 2 l.atoms)
