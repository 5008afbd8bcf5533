-- Worlds, and what it is to fit a fact or a rule. What certain answers mean rests on this page and on Questions.
use Rattle.std.specs.Prelude.{◌≡◌, ℕ, ◌<◌, Bool, T, List}
use Rattle.league.specs.declared.facts.Name.{Name}
use Rattle.league.specs.declared.facts.Kind.{Kind}
use Rattle.league.specs.declared.facts.Link.{Link}
use Rattle.league.specs.declared.facts.Fact.{Fact}
use Rattle.league.specs.declared.facts.Fact.TheVariants as fact
use Rattle.league.specs.declared.roles.Role.{Role}
use Rattle.league.specs.declared.roles.Role.TheVariants.{Forward, Backward}
use Rattle.league.specs.declared.roles.Mark.{Mark}
use Rattle.league.specs.declared.roles.Mark.TheVariants as mark
use Rattle.league.specs.declared.rules.Rule.{Rule}
use Rattle.league.specs.declared.rules.Rule.TheVariants as rule

-- finite lists of numbers serve as things
abbrev pub Thing : Type 0
Thing = List ℕ

-- a world gives each name below P a thing of its own, each kind a set of things and each link a set of ordered pairs;
-- a set is the function that tells which things are in it
pub record World (P : ℕ) : Type 0 where
  pub name : Name → Thing
  pub own : (a b : Name) → a.0 < P → b.0 < P → name a ≡ name b → a ≡ b
  pub kind : Kind → Thing → Bool
  pub link : Link → Thing → Thing → Bool

module _ {P : ℕ} (w : World P) where
  -- the role joins x to y: read forward its link has the pair x, y, read backward the pair y, x
  abbrev pub Joined : Role → Thing → Thing → Type 0
  Joined (Forward l) x y = T (w.link l x y)
  Joined (Backward l) x y = T (w.link l y x)

  -- x has the mark: it is of the kind, or the role joins it to something
  abbrev pub Marked : Mark → Thing → Type 0
  Marked (mark.Is k) x = T (w.kind k x)
  Marked (mark.Has R) x = (y : Thing) × Joined R x y

  -- the fact is true in the world
  abbrev pub FitsFact : Fact → Type 0
  FitsFact (fact.Is k a) = T (w.kind k (w.name a))
  FitsFact (fact.Joins l a b) = T (w.link l (w.name a) (w.name b))

  -- the rule is true in the world, of all things
  abbrev pub FitsRule : Rule → Type 0
  FitsRule (rule.Inclusion B C) = (x : Thing) → Marked B x → Marked C x
  FitsRule (rule.Exclusion B C) = (x : Thing) → Marked B x → Marked C x → ⊥
  FitsRule (rule.Required B R k) = (x : Thing) → Marked B x → (y : Thing) × Joined R x y × T (w.kind k y)
  FitsRule (rule.RoleInclusion R S) = (x y : Thing) → Joined R x y → Joined S x y

-- the world fits each of these facts and each of these rules
pub record Fits {P : ℕ} (w : World P) (facts : Fact → Bool) (rules : Rule → Bool) : Type 0 where
  pub each_fact : (f : Fact) → T (facts f) → FitsFact w f
  pub each_rule : (r : Rule) → T (rules r) → FitsRule w r
