use Rattle.std.proofs.Common.{◌≡◌, true, false, rules, arith, tests}
use Rattle.std.proofs.lemmas.Iterator.{first_from_Range}
use Rattle.std.proofs.lemmas.List.{get_or_read}
use Rattle.graph.proofs.Reaching.{is_open, first_open}
use Rattle.graph.proofs.search.next_open.Goals as goal

pub returns : goal.returns
returns c =
    let found = c.args.set.now in
    let finished = c.args.finished.now in
    first_open found finished c.find.result
    (first_from_Range _ _ _ _ (λ i. is_open found finished i ≡ true) (λ i. is_open found finished i ≡ false) c.find.ensures.ran
    (λ x q k. grind (arith, tests, get_or_read))
    (λ x q k. (search rules, grind (arith, tests, get_or_read))))
