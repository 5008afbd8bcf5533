use Rattle.std.proofs.Common.{false, get_or}
use Rattle.search.proofs.Forces.{unset}
use Rattle.search.proofs.Grounds.{Raised}
use Rattle.search.proofs.forcing.Steps.grounded_places.Given as goal

abbrev pub invariant-loop-place : goal.invariant-loop-place
invariant-loop-place l = Raised l.self.down.cells l.self.same.cells l.flags

abbrev pub decreases-loop-place : goal.decreases-loop-place
decreases-loop-place l = unset (λ i. get_or l.flags i false) 8
