use Rattle.rules.specs.Codes.{role_of}
use Rattle.model.specs.RoleTests.{told_loop}
use Rattle.model.specs.Rows.{Stacked}
use Rattle.model.proofs.tables.LoopTables.of.Given as goal

abbrev pub invariant-loop-code : goal.invariant-loop-code
invariant-loop-code l = Stacked l.pairs.cells l.code 128 (λ i j. told_loop l.consequences (role_of i) (role_of j))
