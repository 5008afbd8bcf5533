use Rattle.std.proofs.Common.{◌≡◌, ℕ, ◌+◌, ◌*◌, ◌<◌, false, ◌&&◌, ◌||◌, ltb, length, get_or}
use Rattle.rules.specs.Codes.{mark_of}
use Rattle.rules.specs.Steps.{needs_hidden}
use Rattle.rules.specs.Tables.{means}
use Rattle.rules.proofs.mark_graph.add_needed.Given as goal

abbrev pub invariant-loop-number : goal.invariant-loop-number
invariant-loop-number l =
    (k : ℕ) → k < length l.initial.set
    → get_or l.set k false ≡ (get_or l.initial.set k false || (ltb k (128 + 2 * l.number) && needs_hidden (means l.table) (mark_of l.node) (mark_of k)))
