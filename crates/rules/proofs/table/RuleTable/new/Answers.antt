use Rattle.std.proofs.Common.{sym, subst}
use Rattle.rules.specs.InUse.{in_use}
use Rattle.rules.specs.RuleSet.{Proper}
use Rattle.rules.proofs.Gained.{no_rules_proper}
use Rattle.rules.proofs.Noting.{noted_none}
use Rattle.rules.proofs.table.RuleTable.new.Goals as goal

pub invariant_of-result : goal.invariant_of-result
invariant_of-result c = record {
  proper = ∣ subst Proper
      (sym (noted_none c.new.result.cells c.new-2.result.cells c.new-3.result.cells c.new-4.result.cells
      (in_use c.new-5.result)
      c.new.ensures c.new-2.ensures c.new-3.ensures c.new-4.ensures c.new-5.ensures))
      no_rules_proper ∣₁;
  empty = λ i j l. c.new-3.ensures i j;
}

pub returns : goal.returns
returns c =
    noted_none c.new.result.cells c.new-2.result.cells c.new-3.result.cells c.new-4.result.cells
    (in_use c.new-5.result)
    c.new.ensures c.new-2.ensures c.new-3.ensures c.new-4.ensures c.new-5.ensures
