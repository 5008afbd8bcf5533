use Rattle.std.proofs.Common.{arith}
use Rattle.model.proofs.TableRows.{names_none, names_more}
use Rattle.model.proofs.tables.NameTables.of.Goals as goal

pub loop-name-init : goal.loop-name-init
loop-name-init g c = names_none _ _ _ _

pub loop-name-preserved : goal.loop-name-preserved
loop-name-preserved g c =
    names_more _ _ _ _ _ _ _ _ _ _ c.from-place.ensures c.loop-name.invariant (record {
      given = c.given_row-given.result;
      given_are = c.given_row-given.ensures;
      marks_are = c.marks_row-row.ensures;
      starts_are = c.starts_row.ensures;
    }) c.put.ensures c.put-in-loop-name.ensures

pub returns : goal.returns
returns g c = λ a l. c.loop-name.invariant.made a (omega (arith, l, c.names-name-end.ensures, c.loop-name-test.false))
