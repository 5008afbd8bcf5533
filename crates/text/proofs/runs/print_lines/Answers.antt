use Rattle.std.proofs.Common.{ap, ◌∙◌, length, arith}
use Rattle.text.proofs.runs.print_lines.Goals as goal

pub loop-line-preserved : goal.loop-line-preserved
loop-line-preserved g c =
    let x = c.loop-line.invariant in
    let e = c.in-Some.ensures.steps in
    let outcome = c.carry_out_line-outcome.ensures in (
      rw (c.put.ensures.put, c.as_str.ensures.value, c.render.ensures, outcome.replies, outcome.holds) (rw e at x.0),
      c.put.ensures.lent ∙ x.1,
      omega (arith, ap length e, x.2),
    )
