use Rattle.std.proofs.Common.{arith}
use Rattle.search.proofs.Stepped.{some_none, some_next, some_all}
use Rattle.search.proofs.matcher.Matcher.down_table.Goals as goal

pub loop-atom-init : goal.loop-atom-init
loop-atom-init g c = λ i j. some_none _ (c.new-down.ensures i j)

pub loop-atom-preserved : goal.loop-atom-preserved
loop-atom-preserved g c = λ i j. some_next _ c.loop-atom.atom-index (c.loop-atom.invariant i j) (c.flag_steps.ensures i j)

pub returns : goal.returns
returns g c = λ i j h k. some_all _ (c.loop-atom.invariant i j) (omega (arith, c.loop-atom.auto.atom-index-end, c.loop-atom-test.false))
