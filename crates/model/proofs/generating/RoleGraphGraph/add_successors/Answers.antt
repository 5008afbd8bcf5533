use Rattle.std.proofs.Common.{false, ◌||◌, get_or, ap}
use Rattle.model.proofs.Searches.{spread_none, spread_more, spread_end}
use Rattle.model.proofs.generating.RoleGraphGraph.add_successors.Goals as goal

pub loop-code-init : goal.loop-code-init
loop-code-init c = spread_none _ _

pub loop-code-preserved : goal.loop-code-preserved
loop-code-preserved c =
    spread_more _ _ _ _ _ c.loop-code.invariant c.loop-code-test.true (ap (λ b. get_or c.loop-code.set c.loop-code.code false || b) c.has_edge.ensures)

pub returns : goal.returns
returns c = spread_end _ _ _ _ c.loop-code.invariant c.loop-code-test.false
