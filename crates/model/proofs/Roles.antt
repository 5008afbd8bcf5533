-- Roles in their order, and what stands below a role when both are turned.
use Rattle.std.proofs.Common.{◌≡◌, ◌+◌, ◌<◌, ◌⊎◌, sym, ap, subst, subst₂, inl, inr, arith}
use native.Mathlib.Decide.{ℕ_discrete, dec_lt}
use Rattle.league.specs.Roles.{inverse, code}
use Rattle.league.specs.declared.roles.Mark.{Mark}
use Rattle.league.specs.declared.roles.Mark.TheVariants.{Has}
use Rattle.league.specs.declared.roles.Role.{Role}
use Rattle.league.specs.declared.roles.Role.TheVariants.{Forward, Backward}
use Rattle.graph.specs.Paths.{Star}
use Rattle.rules.specs.Follows.{RoleEdge, Below, Implies, MarkEdge}
use Rattle.rules.specs.RuleSet.{RuleSet}
use Rattle.rules.proofs.Marked.{turn_turn}

pub code_same : (R S : Role) → code R ≡ code S → R ≡ S
code_same (Forward l) (Forward m) e = let p : l.0 ≡ m.0 = omega arith in λ i. Forward (record { 0 = p i })
code_same (Forward l) (Backward m) e = absurd (omega arith)
code_same (Backward l) (Forward m) e = absurd (omega arith)
code_same (Backward l) (Backward m) e = let p : l.0 ≡ m.0 = omega arith in λ i. Backward (record { 0 = p i })

pub same_role_lem : (R S : Role) → Dec (R ≡ S)
same_role_lem R S = elim (ℕ_discrete (code R) (code S)) [ yes e ↦ yes (code_same R S e) | no n ↦ no (λ e. n (ap code e)) ]

pub order : (R S : Role) → (R ≡ S) ⊎ ((code R < code S) ⊎ (code S < code R))
order R S = elim (ℕ_discrete (code R) (code S)) [
  | yes e ↦ inl (code_same R S e)
  | no n ↦ inr (elim (dec_lt (code R) (code S)) [ yes h ↦ inl h | no h ↦ inr (omega arith) ])
]

pub star_trans : {A : Type 0} {E : A → A → Type 0} {a b c : A} → Star E a b → Star E b c → Star E a c
star_trans p Star.here = p
star_trans p (Star.then q e) = Star.then (star_trans p q) e

module _ (rules : RuleSet) where
  edge_inverse : (R S : Role) → RoleEdge rules R S → RoleEdge rules (inverse R) (inverse S)
  edge_inverse _ _ (RoleEdge.under U V h) = RoleEdge.under⁻ U V h
  edge_inverse _ _ (RoleEdge.under⁻ U V h) = subst₂ (RoleEdge rules) (sym (turn_turn U)) (sym (turn_turn V)) (RoleEdge.under U V h)
  edge_inverse _ _ (RoleEdge.hides i U k h) = RoleEdge.hides⁻ i U k h
  edge_inverse _ _ (RoleEdge.hides⁻ i U k h) = subst (RoleEdge rules (Forward (record { 0 = 32 + i }))) (sym (turn_turn U)) (RoleEdge.hides i U k h)

  pub below-inverse : {R S : Role} → Below rules R S → Below rules (inverse R) (inverse S)
  below-inverse Star.here = Star.here
  below-inverse (Star.then {b = U} {c = V} p e) = Star.then (below-inverse p) (edge_inverse U V e)

  pub below_turned : {R S : Role} → Below rules R (inverse S) → Below rules (inverse R) S
  below_turned {R} {S} h = subst (Below rules (inverse R)) (turn_turn S) (below-inverse h)

  pub implies_lift : {C : Mark} {R S : Role} → Implies rules C (Has R) → Below rules R S → Implies rules C (Has S)
  implies_lift {C} {R} {S} p h = Star.then p (MarkEdge.lifts R S h)
