use Rattle.std.proofs.Common.{◌<◌, length, arith, rules}
use Rattle.graph.proofs.Reaching.{searched_none, searched_more, searched_all, fewer_left}
use Rattle.graph.proofs.search.reach.Goals as goal

pub loop-node-init : goal.loop-node-init
loop-node-init g c = searched_none (g.G.Graph.edge c.args.graph.now) c.args.set.now

pub loop-node-smaller : goal.loop-node-smaller
loop-node-smaller g c =
    let e = c.in-Some.ensures in
    let l : c.in-Some.node < length c.loop-node.finished =
    omega (arith, e.0, c.loop-node.invariant.long, c.loop-node.invariant.roomy) in
    fewer_left c.loop-node.finished c.in-Some.node l e.2

pub loop-node-preserved : goal.loop-node-preserved
loop-node-preserved g c =
    searched_more (g.G.Graph.edge c.args.graph.now) c.args.set.now c.loop-node.set c.loop-node.finished c.add_successors.new.set c.in-Some.node c.loop-node.invariant c.in-Some.ensures.1 c.add_successors.ensures (search rules)

pub returns : goal.returns
returns g c =
    searched_all (g.G.Graph.edge c.args.graph.now) c.args.set.now c.loop-node.set c.loop-node.finished c.loop-node.invariant c.in_default.ensures
