use Rattle.std.proofs.Common.{sym, arith}
use Rattle.rules.proofs.Coded.{even_role, odd_role}
use Rattle.model.proofs.codes.role_of.Goals as goal

pub returns-then-code-eq0 : goal.returns-then-code-eq0
returns-then-code-eq0 c = sym (even_role c.args.code c.if-code-eq0.true)

pub returns : goal.returns
returns c = sym (odd_role c.args.code (omega (arith, c.if-code-eq0.false)))
