use Rattle.rules.proofs.Kept.{table_proper}
use Rattle.rules.proofs.table.RuleTable.pair_count.Goals as goal

pub returns : goal.returns
returns c = record { counts = c.len.ensures.counts; keeps = table_proper c.args.self.now }
