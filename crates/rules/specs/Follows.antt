-- What follows from the rules: ⊑ on roles and on marks, with a hidden link for each pair.
use Rattle.std.specs.Prelude.{◌≡◌, ℕ, ◌+◌, T, Some}
use Rattle.std.specs.List.{slice_get}
use Rattle.graph.specs.Paths.{Star}
use Rattle.league.specs.Roles.{inverse}
use Rattle.league.specs.declared.facts.Kind.{Kind}
use Rattle.league.specs.declared.facts.Link.{Link}
use Rattle.league.specs.declared.roles.Role.{Role}
use Rattle.league.specs.declared.roles.Role.TheVariants.{Forward, Backward}
use Rattle.league.specs.declared.roles.Mark.{Mark}
use Rattle.league.specs.declared.roles.Mark.TheVariants.{Is, Has}
use Rattle.league.specs.declared.rules.Rule.TheVariants.{Inclusion, Required, RoleInclusion}
use Rattle.rules.specs.Pairs.{pair_of}
use Rattle.rules.specs.RuleSet.{RuleSet}

-- the hidden link of the pair with a number: above all links that a rule may name
abbrev pub hidden : ℕ → Link
hidden i = record { 0 = 32 + i }

module _ (s : RuleSet) where
  -- the pair with the number i is (R, k), so that the i-th hidden link stands for it
  abbrev pub Hides : ℕ → Role → Kind → Type 0
  Hides i R k = slice_get s.pairs i ≡ Some (pair_of R k)

  -- the role inclusions that the rules give at once: R ⊑ S and R⁻ ⊑ S⁻ of an accepted one,
  -- and for the hidden link h of a pair (R, k) h ⊑ R and h⁻ ⊑ R⁻
  pub data RoleEdge : Role → Role → Type 0 where
    under : (R S : Role) → T (s.rules (RoleInclusion R S)) → RoleEdge R S
    under⁻ : (R S : Role) → T (s.rules (RoleInclusion R S)) → RoleEdge (inverse R) (inverse S)
    hides : (i : ℕ) (R : Role) (k : Kind) → Hides i R k → RoleEdge (Forward (hidden i)) R
    hides⁻ : (i : ℕ) (R : Role) (k : Kind) → Hides i R k → RoleEdge (Backward (hidden i)) (inverse R)

  -- R ⊑ S: what R joins, S joins
  abbrev pub Below : Role → Role → Type 0
  Below = Star RoleEdge

  -- the inclusions of marks that the rules give at once: B ⊑ C of an accepted one;
  -- for the hidden link h of a pair (R, k), B ⊑ ∃h where B has a partner by R of kind k, and ∃h⁻ ⊑ k;
  -- and ∃R ⊑ ∃S whenever R ⊑ S
  pub data MarkEdge : Mark → Mark → Type 0 where
    includes : (B C : Mark) → T (s.rules (Inclusion B C)) → MarkEdge B C
    needs : (B : Mark) (i : ℕ) (R : Role) (k : Kind) → T (s.rules (Required B R k)) → Hides i R k → MarkEdge B (Has (Forward (hidden i)))
    lands : (i : ℕ) (R : Role) (k : Kind) → Hides i R k → MarkEdge (Has (Backward (hidden i))) (Is k)
    lifts : (R S : Role) → Below R S → MarkEdge (Has R) (Has S)

  -- B ⊑ C: what has the mark B has the mark C
  abbrev pub Implies : Mark → Mark → Type 0
  Implies = Star MarkEdge
