use Rattle.std.proofs.Common.{ℕ, ◌<◌}
use Rattle.graph.specs.Paths.{Tells, Star, Step}
use Rattle.rules.specs.Flags.{flag}
use Rattle.rules.proofs.consequences.reach_table.Given as goal

abbrev pub invariant-loop-node : goal.invariant-loop-node
invariant-loop-node g l = (a b : ℕ) → a < l.node → Tells (flag l.rows.cells a b) (Star (Step (g.G.Graph.edge l.graph) g.row.N) a b)
