use Rattle.std.proofs.Common.{◌∙◌}
use Rattle.league.proofs.Acceptance.{proper_accepted}
use Rattle.league.proofs.question.Question.fill.Goals as goal

pub returns-clause-proper : goal.returns-clause-proper
returns-clause-proper c = λ p. c.replace.ensures.result ∙ proper_accepted c.args.answers c.args.atoms.now p
