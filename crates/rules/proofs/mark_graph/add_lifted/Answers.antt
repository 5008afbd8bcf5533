use Rattle.std.proofs.Common.{◌-◌, ◌≤◌, Bool, false, ◌&&◌, ◌||◌, leb, get_or, ap, ◌∙◌, rules}
use Rattle.rules.proofs.MarkRows.{lifts_row}
use Rattle.rules.proofs.mark_graph.add_lifted.Goals as goal

pub returns-then-contains : goal.returns-then-contains
returns-then-contains c k l =
    let low : 64 ≤ c.args.node = search rules in
    c.add_row.ensures k l
    ∙ ap (λ (b : Bool). get_or c.args.set.now k false || b)
    (ap (λ (b : Bool). leb 64 k && b) (c.row.ensures (k - 64)) ∙ lifts_row c.args.below.now.cells c.args.node k low)
