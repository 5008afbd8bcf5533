use Rattle.std.proofs.Common.{◌≡◌, length, rules}
use Rattle.model.proofs.generating.generating_row.Goals as goal

pub returns : goal.returns
returns c =
    let long : length c.start_row-row.result ≡ 128 = search rules in
    record {
      start = c.start_row-row.result;
      long = long;
      starts_are = c.start_row-row.ensures;
      reached = c.reach.ensures;
    }
