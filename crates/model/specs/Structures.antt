-- What a structure tells of its elements, what a model tells besides, and the laws that tie the two.
use Rattle.std.specs.Prelude.{◌≡◌, ℕ, ◌<◌, ◌≤◌, Bool, T, ◌⊎◌}
use Rattle.league.specs.Roles.{inverse}
use Rattle.league.specs.declared.facts.Kind.{Kind}
use Rattle.league.specs.declared.roles.Role.{Role}
use Rattle.graph.specs.Paths.{Star}

-- a structure: elements are numbers below its size, some of them present; a question may name those
-- below `nameable`; each element is of some kinds, and each role joins some elements to others
pub record Shape : Type 0 where
  pub size : ℕ
  pub present : ℕ → Bool
  pub nameable : ℕ
  pub kind : Kind → ℕ → Bool
  pub joins : Role → ℕ → ℕ → Bool

-- what a model tells besides: the names are the elements below a number, there are steps from element to
-- element, and the step from d to e is by some roles
pub record Form : Type 0 where
  pub names : ℕ
  pub step : ℕ → ℕ → Bool
  pub by : Role → ℕ → ℕ → Bool

-- d steps to e by R
abbrev pub StepsBy : Form → Role → ℕ → ℕ → Type 0
StepsBy f R d e = T (f.step d e) × T (f.by R d e)

-- both elements are names
abbrev pub BothNames : Form → ℕ → ℕ → Type 0
BothNames f d e = (d < f.names) × (e < f.names)

-- steps lead from d to e
abbrev pub Reaches : Form → ℕ → ℕ → Type 0
Reaches f = Star (λ d e. T (f.step d e))

-- the laws of a model
pub record Lawful (s : Shape) (f : Form) : Type 0 where
  -- what a question may name are the names
  pub names_nameable : s.nameable ≡ f.names
  -- names are present
  pub names_present : (a : ℕ) → a < f.names → T (s.present a)
  -- present elements are below the size
  pub present_below : (d : ℕ) → T (s.present d) → d < s.size
  -- an absent number is of no kind
  pub kind_present : (k : Kind) (d : ℕ) → T (s.kind k d) → T (s.present d)
  -- and joined to nothing
  pub joins_present : (R : Role) (d e : ℕ) → T (s.joins R d e) → T (s.present d) × T (s.present e)
  -- what a role joins, its inverse joins the other way round
  pub joins_back : (R : Role) (d e : ℕ) → s.joins (inverse R) e d ≡ s.joins R d e
  -- a step from a present element ends at a present one
  pub step_present : (d e : ℕ) → T (s.present d) → T (f.step d e) → T (s.present e)
  -- elements that are not both names are joined only by a step, one way or the other
  pub joined_by_step : (R : Role) (d e : ℕ) → T (s.present d) → T (s.present e) → T (s.joins R d e)
      → BothNames f d e ⊎ (StepsBy f R d e ⊎ StepsBy f (inverse R) e d)
  -- a step by R is a join by R
  pub step_joins : (R : Role) (d e : ℕ) → T (s.present d) → StepsBy f R d e → T (s.joins R d e)
  -- no step ends at a name
  pub step_to_no_name : (d e : ℕ) → T (s.present d) → T (f.step d e) → f.names ≤ e
  -- no element steps to another by R while that steps back by R⁻
  pub no_step_back : (R : Role) (d e : ℕ) → T (s.present d) → T (s.present e) → StepsBy f R d e → StepsBy f (inverse R) e d → ⊥
  -- every present element is reached from a name by steps
  pub reached : (e : ℕ) → T (s.present e) → (a : ℕ) × (a < f.names) × Reaches f a e
