-- The certain rows are the rows of kept matches, and no world fits exactly when there is a clash.
use Rattle.std.proofs.Common.{ℕ, Bool, ◌↔◌, List, ap, ◌∙◌, subst}
use Rattle.league.specs.Proper.{Proper}
use Rattle.league.specs.Questions.{Holds}
use Rattle.league.specs.Worlds.{World, Fits}
use Rattle.league.specs.declared.facts.Fact.{Fact}
use Rattle.league.specs.declared.facts.Name.{Name}
use Rattle.league.specs.declared.questions.Atom.{Atom}
use Rattle.rules.specs.RuleSet.{RuleSet}
use Rattle.model.specs.Canonical.{Clash}
use Rattle.model.specs.Structures.{Shape, Form}
use Rattle.model.specs.Unravelled.{unravelled}
use Rattle.search.specs.Matches.{KeptRow, RowBelow}
use Rattle.search.proofs.Kept.{kept_rows_hold_lem}
use Rattle.universal.specs.Universal.{Certain, Models, CertainIsKept, NoneFitsIsClash}
use Rattle.universal.proofs.Fitting.{unravelled-fits}
use Rattle.universal.proofs.HiddenLinks.{clash_fits_none}
use Rattle.universal.proofs.Images.{to, to_name, true_to}
use Rattle.universal.proofs.PathMarks.{laws}

module _ (facts : Fact → Bool) (rules : RuleSet) (s : Shape) (f : Form) where
  -- what is certain holds in the unravelled model, and what holds there goes into every world that fits
  certain_holds : Models f.names facts rules s f → (Clash f.names facts rules → ⊥) → (k : ℕ) (atoms : List Atom) → Proper k atoms
      → (row : List Name) → RowBelow f.names k row → Certain f.names facts rules.rules atoms row ↔ Holds (unravelled s f) atoms row
  certain_holds m calm k atoms proper row below = (
    λ c. c (unravelled s f) (unravelled-fits facts rules s f m calm),
    λ h w fits. (
      λ v. to facts rules s f m w fits (h.0 v),
      λ i a e. ap (to facts rules s f m w fits) (h.1 i a e) ∙ to_name facts rules s f m w fits a (below.1 i a e),
      λ u g. true_to facts rules s f m w fits h.0 u (proper.ranged u g) (h.2 u g),
    ),
  )

  -- over P names, where these are the names of the form
  abbrev KeptOver : ℕ → Type 0
  KeptOver P =
      Models P facts rules s f → (Clash P facts rules → ⊥) → (k : ℕ) (atoms : List Atom) → Proper k atoms
      → (row : List Name) → RowBelow P k row → Certain P facts rules.rules atoms row ↔ KeptRow s f k atoms row

  kept_here : KeptOver f.names
  kept_here m calm k atoms proper row below =
      let found = certain_holds m calm k atoms proper row below in
      let kept = kept_rows_hold_lem s f (laws facts rules s f m) k atoms proper row below in
      (λ c. kept.0 (found.0 c), λ h. found.1 (kept.1 h))

  abbrev NoneOver : ℕ → Type 0
  NoneOver P = Models P facts rules s f → Dec (Clash P facts rules) → ((w : World P) → Fits w facts rules.rules → ⊥) ↔ Clash P facts rules

  none_here : NoneOver f.names
  none_here m told = (
    λ none. elim told [ yes c ↦ c | no calm ↦ absurd (none (unravelled s f) (unravelled-fits facts rules s f m calm)) ],
    λ c. clash_fits_none f.names facts rules m.facts_in m.proper c,
  )

pub certain_is_kept : CertainIsKept
certain_is_kept P facts rules s f m = subst (KeptOver facts rules s f) m.completes.names_are (kept_here facts rules s f) m

pub none_fits_is_clash : NoneFitsIsClash
none_fits_is_clash P facts rules s f m = subst (NoneOver facts rules s f) m.completes.names_are (none_here facts rules s f) m
