-- Marks and roles: what the same code says, and what the ranges say.
use Rattle.std.proofs.Common.{◌≡◌, ℕ, ◌+◌, Bool, true, false, not, ◌&&◌, T, eqb, is_some, sym, refl, ap, ◌∙◌, arith}
use Rattle.std.proofs.lemmas.Bool.{eqb-true, ltb-true, and_parts, not-false}
use Rattle.std.proofs.lemmas.Bool.Decides.{nat_tests}
use Rattle.league.specs.Roles.{code, inverse, link_of}
use Rattle.league.specs.declared.facts.Kind.{Kind}
use Rattle.league.specs.declared.roles.Role.{Role}
use Rattle.league.specs.declared.roles.Role.TheVariants.{Forward, Backward}
use Rattle.league.specs.declared.roles.Mark.{Mark}
use Rattle.league.specs.declared.roles.Mark.TheVariants.{Is, Has}
use Rattle.league.specs.declared.rules.Rule.{Rule}
use Rattle.league.specs.declared.rules.Rule.TheVariants.{Inclusion, Exclusion, Required, RoleInclusion}
use Rattle.rules.specs.Marks.{same_kind, same_role, same_mark, kind_within, role_within, mark_within, mark_code, MarkIn}
use Rattle.rules.specs.RuleSet.{rule_fault, rule_within, RuleIn}

-- T b and b ≡ true
pub T_true : (b : Bool) → T b → b ≡ true
T_true true t = refl
T_true false t = absurd t

pub true_T : (b : Bool) → b ≡ true → T b
true_T true e = tt
true_T false e = absurd (let z : ◌≡◌ {A = ℕ} 0 1 = cc in omega arith)

pub kind_self : (k : Kind) → same_kind k k ≡ true
kind_self k = grind (arith, nat_tests)

pub role_self : (R : Role) → same_role R R ≡ true
role_self (Forward l) = grind (arith, nat_tests)
role_self (Backward l) = grind (arith, nat_tests)

pub mark_self : (B : Mark) → same_mark B B ≡ true
mark_self (Is k) = kind_self k
mark_self (Has R) = role_self R

pub kind_eq : (k m : Kind) → same_kind k m ≡ true → k ≡ m
kind_eq k m e = let q = eqb-true k.0 m.0 e in λ i. record { 0 = q i }

pub role_eq : (R S : Role) → same_role R S ≡ true → R ≡ S
role_eq (Forward l) (Forward m) e = let q = eqb-true l.0 m.0 e in λ i. Forward (record { 0 = q i })
role_eq (Forward l) (Backward m) e = cc
role_eq (Backward l) (Forward m) e = cc
role_eq (Backward l) (Backward m) e = let q = eqb-true l.0 m.0 e in λ i. Backward (record { 0 = q i })

pub mark_eq : (B C : Mark) → same_mark B C ≡ true → B ≡ C
mark_eq (Is k) (Is m) e = ap Is (kind_eq k m e)
mark_eq (Is k) (Has S) e = cc
mark_eq (Has R) (Is m) e = cc
mark_eq (Has R) (Has S) e = ap Has (role_eq R S e)

-- a role turned twice is itself, and turning both sides changes nothing
pub turn_turn : (R : Role) → inverse (inverse R) ≡ R
turn_turn (Forward l) = refl
turn_turn (Backward l) = refl

pub same_turned : (R S : Role) → same_role (inverse R) S ≡ same_role R (inverse S)
same_turned (Forward l) (Forward m) = refl
same_turned (Forward l) (Backward m) = refl
same_turned (Backward l) (Forward m) = refl
same_turned (Backward l) (Backward m) = refl

pub turned_within : (R : Role) → role_within (inverse R) ≡ role_within R
turned_within (Forward l) = refl
turned_within (Backward l) = refl

-- a code tells its role, and a code in range its mark
pub role_code : (R S : Role) → eqb (code S) (code R) ≡ same_role R S
role_code (Forward l) (Forward m) = grind (arith, nat_tests)
role_code (Forward l) (Backward m) = grind (arith, nat_tests)
role_code (Backward l) (Forward m) = grind (arith, nat_tests)
role_code (Backward l) (Backward m) = grind (arith, nat_tests)

add_code : (m n : ℕ) → eqb (64 + m) (64 + n) ≡ eqb m n
add_code m n = grind (arith, nat_tests)

pub mark_code_lem : (B C : Mark) → mark_within B ≡ true → mark_within C ≡ true → eqb (mark_code C) (mark_code B) ≡ same_mark B C
mark_code_lem (Is k) (Is m) v w = grind (arith, nat_tests)
mark_code_lem (Is k) (Has S) v w = grind (arith, nat_tests)
mark_code_lem (Has R) (Is m) v w = grind (arith, nat_tests)
mark_code_lem (Has R) (Has S) v w = add_code (code S) (code R) ∙ role_code R S

-- the same ranges, as facts
pub mark_in : (B : Mark) → mark_within B ≡ true → MarkIn B
mark_in (Is k) w = ltb-true k.0 64 w
mark_in (Has R) w = ltb-true (link_of R).0 32 w

pub rule_in : (r : Rule) → rule_within r ≡ true → RuleIn r
rule_in (Inclusion B C) w = let p = and_parts (mark_within B) (mark_within C) w in (mark_in B p.0, mark_in C p.1)
rule_in (Exclusion B C) w = let p = and_parts (mark_within B) (mark_within C) w in (mark_in B p.0, mark_in C p.1)
rule_in (Required B R k) w =
    let p = and_parts (mark_within B) (role_within R && kind_within k) w in
    let q = and_parts (role_within R) (kind_within k) p.1 in
    (mark_in B p.0, ltb-true (link_of R).0 32 q.0, ltb-true k.0 64 q.1)
rule_in (RoleInclusion R S) w =
    let p = and_parts (role_within R) (role_within S) w in
    (ltb-true (link_of R).0 32 p.0, ltb-true (link_of S).0 32 p.1)

-- a rule has a fault exactly when it is not in range
pub fault_within : (r : Rule) → is_some (rule_fault r) ≡ not (rule_within r)
fault_within (Inclusion (Is k) (Is m)) = grind (arith, nat_tests)
fault_within (Inclusion (Is k) (Has S)) = grind (arith, nat_tests)
fault_within (Inclusion (Has R) (Is m)) = grind (arith, nat_tests)
fault_within (Inclusion (Has R) (Has S)) = grind (arith, nat_tests)
fault_within (Exclusion (Is k) (Is m)) = grind (arith, nat_tests)
fault_within (Exclusion (Is k) (Has S)) = grind (arith, nat_tests)
fault_within (Exclusion (Has R) (Is m)) = grind (arith, nat_tests)
fault_within (Exclusion (Has R) (Has S)) = grind (arith, nat_tests)
fault_within (Required (Is m) R k) = grind (arith, nat_tests)
fault_within (Required (Has Q) R k) = grind (arith, nat_tests)
fault_within (RoleInclusion R S) = grind (arith, nat_tests)

pub none_within : (r : Rule) → is_some (rule_fault r) ≡ false → rule_within r ≡ true
none_within r e = not-false (rule_within r) (sym (fault_within r) ∙ e)
