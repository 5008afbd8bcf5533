use Rattle.std.proofs.Common.{◌≡◌}
use Rattle.search.proofs.Forces.{Diagonal, Flagged, pairs_left}
use Rattle.search.proofs.forcing.Steps.new.Given as goal

abbrev pub invariant-loop-place : goal.invariant-loop-place
invariant-loop-place l = (l.steps.down ≡ l.fn.down) × Diagonal l.place l.steps.same.cells

abbrev pub invariant-loop-one : goal.invariant-loop-one
invariant-loop-one l = (l.steps.down ≡ l.fn.down) × Flagged l.steps.down.cells l.steps.same.cells

abbrev pub decreases-loop-one : goal.decreases-loop-one
decreases-loop-one l = pairs_left l.steps.same.cells
