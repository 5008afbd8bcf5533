use Rattle.std.proofs.Common.{ℕ, slice_index_or}
use Rattle.rules.specs.Flags.{flag}
use Rattle.search.specs.Forcing.{Decides}
use Rattle.search.specs.Searching.{no_atom}
use Rattle.search.specs.Stepping.{goes_down}
use Rattle.search.proofs.Stepped.{SomeBelow}
use Rattle.search.proofs.matcher.Matcher.down_table.Given as goal

abbrev pub invariant-loop-atom : goal.invariant-loop-atom
invariant-loop-atom g l =
    (i j : ℕ)
    → Decides (flag l.down.cells i j) (SomeBelow (λ k. goes_down (g.M.Model.form l.self.model.now) l.self.terms.now l.cells (slice_index_or l.self.atoms.now k no_atom) i j) l.atom-index)
