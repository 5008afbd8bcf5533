use Rattle.std.proofs.Common.{not, count_by}
use Rattle.graph.proofs.Reaching.{Searched}
use Rattle.graph.proofs.search.reach.Given as goal

abbrev pub invariant-loop-node : goal.invariant-loop-node
invariant-loop-node g l = Searched (g.G.Graph.edge l.graph) l.initial.set l.set l.finished

abbrev pub decreases-loop-node : goal.decreases-loop-node
decreases-loop-node g l = count_by not l.finished
