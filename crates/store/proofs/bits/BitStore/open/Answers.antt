use Rattle.std.proofs.Common.{◌≡◌, ℕ, List, ◌++◌, drop, sym, ap, ◌∙◌, arith, rules}
use Rattle.std.proofs.lemmas.Grind.{common_steps}
use Rattle.league.specs.Facts.{count_of}
use Rattle.store.specs.Bits.{cleared, size_of, bit_limit, marked, held_bits}
use Rattle.store.specs.Holding.{opened}
use Rattle.store.proofs.BitsHeld.{over_few, held-cleared, counted_cleared}
use Rattle.store.proofs.bits.BitStore.open.Goals as goal
use Rattle.store.proofs.bits.BitStore.open.Goals.{After-fill}

bytes_are : (c : After-fill) → c.fill.new.self ++ drop c.size.result c.args.bytes.now ≡ cleared (size_of c.names_over-usable.result) c.args.bytes.now
bytes_are c = search (rules, arith, common_steps)

pub invariant_of-result-clause-few : goal.invariant_of-result-clause-few
invariant_of-result-clause-few c = omega (arith, over_few c.args.bytes.now c.args.names)

pub invariant_of-result-clause-counted : goal.invariant_of-result-clause-counted
invariant_of-result-clause-counted c =
    let n = c.names_over-usable.result in
    counted_cleared n c.args.bytes.now
    ∙ ap (λ (xs : List ℕ). count_of n (marked n xs)) (sym (bytes_are (goal.at.invariant_of-result-clause-counted c).After-fill))

pub returns-clause-opened : goal.returns-clause-opened
returns-clause-opened c =
    let n = c.names_over-usable.result in
    ap (held_bits n) (bytes_are (goal.at.returns-clause-opened c).After-fill)
    ∙ (held-cleared n c.args.bytes.now ∙ ap (λ (m : ℕ). opened m (bit_limit m)) c.names_over-usable.ensures)
