use Rattle.league.specs.Asked.{atoms_of}
use Rattle.league.proofs.Acceptance.{accepted_proper}
use Rattle.league.proofs.Order.{in_order}
use Rattle.league.proofs.question.Question.terms.Goals as goal

pub returns-clause-ordered : goal.returns-clause-ordered
returns-clause-ordered c =
    let q = c.args.self.now in in_order q.answers (atoms_of q) (accepted_proper q.answers (atoms_of q) q.accepted)
