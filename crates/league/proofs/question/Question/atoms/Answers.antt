use Rattle.league.specs.Asked.{atoms_of}
use Rattle.league.proofs.Acceptance.{accepted_proper}
use Rattle.league.proofs.question.Question.atoms.Goals as goal

pub returns-clause-proper : goal.returns-clause-proper
returns-clause-proper c = let q = c.args.self.now in accepted_proper q.answers (atoms_of q) q.accepted
