use Rattle.std.proofs.Common.{sym, ap, ◌∙◌, arith}
use Rattle.league.specs.declared.roles.Mark.{Mark}
use Rattle.league.specs.declared.roles.Mark.TheVariants.{Has}
use Rattle.rules.proofs.Coded.{small_mark, large_mark}
use Rattle.model.proofs.codes.mark_of.Goals as goal

pub returns-then-code-lt64 : goal.returns-then-code-lt64
returns-then-code-lt64 c = sym (small_mark c.args.code c.if-code-lt64.true)

pub returns : goal.returns
returns c = ap {B = Mark} Has c.role_of.ensures ∙ sym (large_mark c.args.code (omega (arith, c.if-code-lt64.false)))
