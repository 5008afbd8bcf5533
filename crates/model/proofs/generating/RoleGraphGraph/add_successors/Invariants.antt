use Rattle.model.specs.RoleTests.{generates_edge}
use Rattle.model.proofs.Searches.{Spread}
use Rattle.model.proofs.generating.RoleGraphGraph.add_successors.Given as goal

abbrev pub invariant-loop-code : goal.invariant-loop-code
invariant-loop-code l = Spread l.initial.set l.set l.code (generates_edge l.self.consequences.now l.node)
