use Rattle.std.proofs.Common.{sym, ◌∙◌, ⊎_elim, arith}
use Rattle.std.specs.Iterator.Adapters.{zip_first, zip_second}
use Rattle.std.specs.Slice.Iter.{iter_rest}
use Rattle.graph.proofs.Shifted.{with_row, with_row_past, with_row_empty}
use Rattle.graph.proofs.rows.add_row.Goals as goal

pub returns : goal.returns
unfolding with_row
returns c k l =
    let set = c.loop-node.set in
    let next = (zip_first c.loop-node.node-iterator).start in
    let left = iter_rest (zip_second c.loop-node.node-iterator) in
    ⊎_elim
    (λ ended. sym (with_row_past set left next k (omega arith) (omega (arith, ended.1.1.0))))
    (λ ended. sym (with_row_empty set left next k ended.1.0))
    c.in-None.ensures.steps
    ∙ c.loop-node.invariant.1 k
