use Rattle.std.proofs.Common.{rules, tests}
use Rattle.std.proofs.lemmas.Iterator.{YieldsList-from_slice}
use Rattle.std.proofs.lemmas.Iterator.Search.{position_from_yields_List}
use Rattle.rules.specs.InUse.{in_use}
use Rattle.rules.specs.Pairs.{same_pair}
use Rattle.rules.proofs.Paired.{same_from_equals, number_of_lem}
use Rattle.rules.proofs.pairs.PairList.number.Goals as goal

pub returns : goal.returns
returns c =
    let p = c.args.pair in
    let ps = c.used.result.now in
    let found = position_from_yields_List (λ q. same_pair q p) _ _ _ c.position.ensures.ran (YieldsList-from_slice ps cc) (λ x b q k. search (rules, tests, same_from_equals)) in
    rw (c.used.ensures, number_of_lem (in_use c.args.self.now) p) at found
