use Rattle.std.proofs.Common.{false, true, get_or, set, arith, get_or-set_same}
use Rattle.search.proofs.Forces.{within, fewer_left}
use Rattle.search.proofs.Grounds.{raised_first, raised_more, raised_all, kept_set}
use Rattle.search.proofs.forcing.Steps.grounded_places.Goals as goal

pub loop-place-init : goal.loop-place-init
loop-place-init c = let s = c.args.self.now in raised_first s.down.cells (within s.down.cells s.down.tall s.down.wide) s.same.cells (within s.same.cells s.same.tall s.same.wide)

pub loop-place-preserved : goal.loop-place-preserved
loop-place-preserved c =
    let s = c.args.self.now in let e = c.in-Some.ensures
    in raised_more s.down.cells (within s.down.cells s.down.tall s.down.wide) s.same.cells (within s.same.cells s.same.tall s.same.wide) c.loop-place.flags c.in-Some.place c.loop-place.invariant e.0 e.1.1

pub loop-place-smaller : goal.loop-place-smaller
loop-place-smaller c =
    let e = c.in-Some.ensures
    in fewer_left (λ i. get_or c.loop-place.flags i false) (λ i. get_or (set c.loop-place.flags c.in-Some.place true) i false)
    (λ i h. kept_set c.loop-place.flags c.in-Some.place i h) 8 c.in-Some.place e.0 e.1.0
    (get_or-set_same c.loop-place.flags c.in-Some.place true false (omega (arith, e.0, c.loop-place.invariant.long)))

pub returns : goal.returns
returns c = let s = c.args.self.now in raised_all s.down.cells (within s.down.cells s.down.tall s.down.wide) s.same.cells (within s.same.cells s.same.tall s.same.wide) c.loop-place.flags c.loop-place.invariant c.in_default.ensures
