use Rattle.std.proofs.Common.{ℕ, List, sym, ap, ◌∙◌, length-set}
use Rattle.league.specs.Facts.{count_of}
use Rattle.store.specs.Bits.{marked, held_bits}
use Rattle.store.proofs.BitsHeld.{written, held-set, counted_set}
use Rattle.store.proofs.bits.BitStore.gain.Goals as goal

pub invariant_of-self : goal.invariant_of-self
invariant_of-self c =
    let s = c.args.self.now in
    let w = written _ _ _ _ c.place-bit.ensures c.with_bit.ensures in
    record {
      few = s.few;
      room = rw length-set s.room;
      counted =
          counted_set s.names s.bytes.now c.args.fact s.count c.requires.range s.room c.requires.fresh s.counted
          ∙ ap (λ (xs : List ℕ). count_of s.names (marked s.names xs)) (sym w);
    }

pub returns : goal.returns
returns c =
    let s = c.args.self.now in
    ap (held_bits s.names) (written _ _ _ _ c.place-bit.ensures c.with_bit.ensures)
    ∙ held-set s.names s.bytes.now c.args.fact c.requires.range s.room
