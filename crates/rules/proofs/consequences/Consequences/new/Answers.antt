use Rattle.rules.specs.Tables.{means}
use Rattle.rules.proofs.Followed.{decided}
use Rattle.rules.proofs.Kept.{table_proper}
use Rattle.rules.proofs.consequences.Consequences.new.Goals as goal

pub returns : goal.returns
returns c =
    decided (means c.args.table.now) (table_proper c.args.table.now) (record { roles = c.reach_table-roles.result; marks = c.reach_table-marks.result }) c.reach_table-roles.ensures c.reach_table-marks.ensures
