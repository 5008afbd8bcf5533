use Rattle.std.proofs.Common.{refl, arith}
use Rattle.search.proofs.Forces.{within, diagonal_first, diagonal_more, flagged_first, flagged_more, flagged_all, fewer_pairs}
use Rattle.search.proofs.forcing.Steps.new.Goals as goal

pub loop-place-init : goal.loop-place-init
loop-place-init c = (refl, diagonal_first c.new.result.cells c.new.ensures)

pub loop-place-preserved : goal.loop-place-preserved
loop-place-preserved c = (
  c.loop-place.invariant.0,
  diagonal_more c.loop-place.steps.same.cells c.set.new.self.cells c.loop-place.place c.set.ensures c.loop-place.invariant.1,
)

pub loop-one-init : goal.loop-one-init
loop-one-init c = (
  c.loop-place.invariant.0,
  flagged_first c.loop-place.steps.down.cells c.loop-place.steps.same.cells c.loop-place.place (omega arith) c.loop-place.invariant.1,
)

pub loop-one-preserved : goal.loop-one-preserved
loop-one-preserved c = (
  c.loop-one.invariant.0,
  flagged_more c.loop-one.steps.down.cells c.loop-one.steps.same.cells c.set-in-Some.new.self.cells c.in-Some.one c.in-Some.other c.set-in-Some.ensures
      c.loop-one.invariant.1 c.in-Some.ensures.3,
)

pub loop-one-smaller : goal.loop-one-smaller
loop-one-smaller c =
    let e = c.in-Some.ensures
    in fewer_pairs c.loop-one.steps.same.cells c.set-in-Some.new.self.cells c.in-Some.one c.in-Some.other c.set-in-Some.ensures e.0 e.1 e.2

pub returns : goal.returns
returns c =
    let down = c.loop-one.steps.down
    in let same = c.loop-one.steps.same
    in record {
      down = c.loop-one.invariant.0;
      same = flagged_all down.cells (within down.cells down.tall down.wide) same.cells (within same.cells same.tall same.wide) c.loop-one.invariant.1 c.in_default.ensures;
    }
