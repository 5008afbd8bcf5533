use Rattle.model.proofs.TableRows.{NamesMade}
use Rattle.model.proofs.tables.NameTables.of.Given as goal

abbrev pub invariant-loop-name : goal.invariant-loop-name
invariant-loop-name g l = NamesMade (g.S.Store.means l.store) l.consequences l.marks.cells l.starts.cells l.name
