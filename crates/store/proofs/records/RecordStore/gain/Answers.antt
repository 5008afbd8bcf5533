use Rattle.std.proofs.Common.{arith, length-set}
use Rattle.store.specs.Listed.{room_left, kept, held-put}
use Rattle.store.proofs.records.RecordStore.gain.Goals as goal

pub bounds-self-self : goal.bounds-self-self
bounds-self-self c =
    let r = c.args.self.now in
    omega (arith, room_left r.names r.records.now r.len r.room r.good c.requires.room)

pub invariant_of-self : goal.invariant_of-self
invariant_of-self c =
    let r = c.args.self.now in
    let left = room_left r.names r.records.now r.len r.room r.good c.requires.room in
    record {
      few = r.few;
      room = rw length-set (omega arith);
      good = kept r.names r.records.now r.len c.args.fact left r.good c.requires.range c.requires.fresh;
    }

pub returns : goal.returns
returns c =
    let r = c.args.self.now in
    let left = room_left r.names r.records.now r.len r.room r.good c.requires.room in
    held-put r.names r.records.now r.len c.args.fact (omega arith)
