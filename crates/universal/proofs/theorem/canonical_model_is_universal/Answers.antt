use Rattle.universal.proofs.Fitting.{unravelled-fits}
use Rattle.universal.proofs.HiddenLinks.{clash_fits_none}
use Rattle.universal.proofs.Images.{unravelled_maps}
use Rattle.universal.proofs.PathMarks.{marks_follow}
use Rattle.universal.proofs.Whole.{certain_is_kept, none_fits_is_clash}
use Rattle.universal.proofs.theorem.canonical_model_is_universal.Goals as goal

pub returns : goal.returns
returns c = record {
  marks = marks_follow;
  maps = unravelled_maps;
  fits = unravelled-fits;
  clashes = clash_fits_none;
  contradictions = none_fits_is_clash;
  answers = certain_is_kept;
}
