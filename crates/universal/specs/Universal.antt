-- Why the canonical model answers for every world: its unravelling fits, and maps into every world that fits.
use Rattle.std.specs.Prelude.{◌≡◌, ℕ, ◌<◌, Bool, T, ◌↔◌, List}
use Rattle.league.specs.Proper.{Proper as ProperQuestion}
use Rattle.league.specs.Questions.{Holds}
use Rattle.league.specs.Worlds.{Thing, World, Marked, Fits}
use Rattle.league.specs.declared.facts.Fact.{Fact}
use Rattle.league.specs.declared.facts.Kind.{Kind}
use Rattle.league.specs.declared.facts.Link.{Link}
use Rattle.league.specs.declared.facts.Name.{Name}
use Rattle.league.specs.declared.questions.Atom.{Atom}
use Rattle.league.specs.declared.roles.Mark.{Mark}
use Rattle.league.specs.declared.rules.Rule.{Rule}
use Rattle.rules.specs.RuleSet.{RuleSet, Proper}
use Rattle.model.specs.Canonical.{HasMark, Clash, Completes, Decided}
use Rattle.model.specs.Elements.{element_of}
use Rattle.model.specs.Recorded.{FactsIn}
use Rattle.model.specs.Structures.{Shape, Form}
use Rattle.model.specs.Unravelled.{is_path, end_of, unravelled}
use Rattle.search.specs.Matches.{KeptRow, RowBelow}

-- the row is certain: the atoms hold of it in every world that fits these facts and rules
abbrev pub Certain : (P : ℕ) → (Fact → Bool) → (Rule → Bool) → List Atom → List Name → Type 0
Certain P facts rules atoms row = (w : World P) → Fits w facts rules → Holds w atoms row

-- the facts can be stated over P names, a rule table can hold the rules, it can be told which roles form loops,
-- and the structure with its names and steps is exactly the canonical model of these facts and rules
pub record Models (P : ℕ) (facts : Fact → Bool) (rules : RuleSet) (s : Shape) (f : Form) : Type 0 where
  pub facts_in : FactsIn P facts
  pub proper : Proper rules
  pub decided : Decided rules
  pub completes : Completes P facts rules s f

-- a map of things to things of a world that keeps each name, each kind, and each link that a rule may name
pub record MapInto {P : ℕ} (v w : World P) : Type 0 where
  pub image : Thing → Thing
  pub keeps_names : (a : Name) → a.0 < P → image (v.name a) ≡ w.name a
  pub keeps_kinds : (k : Kind) (x : Thing) → T (v.kind k x) → T (w.kind k (image x))
  pub keeps_links : (l : Link) (x y : Thing) → l.0 < 32 → T (v.link l x y) → T (w.link l (image x) (image y))

-- what has a mark in the unravelled model are the paths at whose ends the mark follows from facts and rules
abbrev pub MarksFollow : Type 0
MarksFollow =
    (facts : Fact → Bool) (rules : RuleSet) (s : Shape) (f : Form) → Models f.names facts rules s f
    → (C : Mark) (x : Thing)
    → Marked (unravelled s f) C x ↔ (T (is_path f x) × HasMark f.names facts rules (element_of f.names (end_of x)) C)

-- the unravelled model maps into every world that fits
abbrev pub UnravelledMaps : Type 0
UnravelledMaps =
    (facts : Fact → Bool) (rules : RuleSet) (s : Shape) (f : Form) → Models f.names facts rules s f
    → (w : World f.names) → Fits w facts rules.rules → MapInto (unravelled s f) w

-- without a clash the unravelled model is itself a world that fits
abbrev pub UnravelledFits : Type 0
UnravelledFits =
    (facts : Fact → Bool) (rules : RuleSet) (s : Shape) (f : Form) → Models f.names facts rules s f
    → (Clash f.names facts rules → ⊥) → Fits (unravelled s f) facts rules.rules

-- with a clash no world fits
abbrev pub ClashFitsNone : Type 0
ClashFitsNone =
    (P : ℕ) (facts : Fact → Bool) (rules : RuleSet) → FactsIn P facts → Proper rules
    → Clash P facts rules → (w : World P) → Fits w facts rules.rules → ⊥

-- where clashes can be told, no world fits exactly when there is one
abbrev pub NoneFitsIsClash : Type 0
NoneFitsIsClash =
    (P : ℕ) (facts : Fact → Bool) (rules : RuleSet) (s : Shape) (f : Form) → Models P facts rules s f
    → Dec (Clash P facts rules)
    → ((w : World P) → Fits w facts rules.rules → ⊥) ↔ Clash P facts rules

-- without a clash a row of names is certain exactly when it has a kept match in the canonical model
abbrev pub CertainIsKept : Type 0
CertainIsKept =
    (P : ℕ) (facts : Fact → Bool) (rules : RuleSet) (s : Shape) (f : Form) → Models P facts rules s f
    → (Clash P facts rules → ⊥)
    → (k : ℕ) (atoms : List Atom) → ProperQuestion k atoms
    → (row : List Name) → RowBelow P k row
    → Certain P facts rules.rules atoms row ↔ KeptRow s f k atoms row
