use Rattle.std.proofs.Common.{is_ok, sym, ap}
use Rattle.league.proofs.Acceptance.{all_ranged}
use Rattle.league.proofs.question.Question.replace.Goals as goal

pub gather-requires : goal.gather-requires
gather-requires c = all_ranged 2 c.args.atoms.now (ap is_ok (sym c.in_ok-check_numbers.ensures))
