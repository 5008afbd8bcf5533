use Rattle.std.proofs.Common.{◌∙◌}
use Rattle.std.proofs.lemmas.Result.{err_from_is_err_and}
use Rattle.league.proofs.Checks.{checked_refused}
use Rattle.league.proofs.arguments.check_arguments.Goals as goal

pub returns-in_err-check_atom : goal.returns-in_err-check_atom
returns-in_err-check_atom g c = λ checked computes.
    let p = err_from_is_err_and c.from_residual.result c.from_residual.ensures.1
    in let e = checked_refused checked c.loop-atom.place c.args.atoms.now c.loop-atom.atom-index _ c.loop-atom-test.true _ (c.in_err-check_atom.ensures checked computes)
    in rw (p.1, p.2) (e ∙ c.loop-atom.invariant.1 checked computes)
