use Rattle.std.proofs.Common.{arith}
use Rattle.rules.proofs.Paired.{length_in_use}
use Rattle.std.proofs.lemmas.List.{take_more_set}
use Rattle.rules.proofs.pairs.PairList.push.Goals as goal

pub returns : goal.returns
returns c =
    let t = c.args.self.now in
    take_more_set t.places t.count c.args.pair (omega (arith, length_in_use t))
