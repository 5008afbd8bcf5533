use Rattle.std.proofs.Common.{◌≡◌, ℕ, length}
use Rattle.std.specs.Iterator.Adapters.{zip_first, zip_second}
use Rattle.std.specs.Slice.Iter.{iter_rest}
use Rattle.graph.proofs.Shifted.{with_row}
use Rattle.graph.proofs.rows.add_row.Given as goal

-- what is left of the row, added from the next node on, makes of the set what the whole row makes of it at first
abbrev pub invariant-loop-node : goal.invariant-loop-node
invariant-loop-node l =
    let nodes = zip_first l.node-iterator in
    let left = iter_rest (zip_second l.node-iterator) in
    (nodes.end ≡ length l.initial.set) × ((k : ℕ) → with_row l.set left nodes.start k ≡ with_row l.initial.set l.row l.first k)
