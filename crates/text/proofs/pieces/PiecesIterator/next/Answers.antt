use Rattle.std.proofs.Common.{[], ◌∷◌, length, refl, sym, ap, ◌∙◌, Bor, arith}
use Rattle.std.proofs.lemmas.Bool.Decides.{nat_tests}
use Rattle.text.specs.Lines.{Bytes, cut}
use Rattle.text.proofs.Cuts.{pieces_split}
use Rattle.text.proofs.pieces.PiecesIterator.next.Goals as goal

pub returns-clause-steps : goal.returns-clause-steps
returns-clause-steps c =
    let s = c.args.self.now in
    let r = c.split_at_first.result in
    pieces_split s.separator s.rest.now r.0 r.1 _ (grind (arith, nat_tests)) refl c.split_at_first.ensures
    ∙ ap (λ (b : Bor Bytes). r.0.now ∷ cut [] s.separator b.now) (sym c.unwrap_or-self.ensures)

pub returns-clause-goes : goal.returns-clause-goes
returns-clause-goes c = record { on = λ f. (tt, tt, omega (arith, ap length (returns-clause-steps c))); keeps = tt; rests = λ f. tt }
