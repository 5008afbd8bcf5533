-- Elements by number.
use Rattle.std.proofs.Common.{◌≡◌, ℕ, ◌+◌, ◌-◌, ◌*◌, ◌/◌, ◌%◌, ◌<◌, ◌≤◌, cond, ltb, ap, ◌∙◌, ap₂, arith, ltb→lt, lt→ltb}
use native.Mathlib.Decide.{dec_lt}
use Rattle.league.specs.Roles.{code}
use Rattle.league.specs.declared.facts.Name.{Name}
use Rattle.league.specs.declared.roles.Role.{Role}
use Rattle.model.specs.Elements.{Element, number, element_of}
use Rattle.model.specs.Recorded.{name_of}
use Rattle.rules.specs.Codes.{role_of}
use Rattle.rules.proofs.Coded.{code_role, role_of_code}
use Rattle.rules.proofs.Marked.{T_true}
use Rattle.model.proofs.Tests.{is_false}

-- the element with a number below P is the name
pub element_name : (P : ℕ) (a : Name) → a.0 < P → element_of P a.0 ≡ Element.named a
element_name P a h =
    ap (λ b. cond b (Element.named a) (Element.witness (role_of ((a.0 - P) / 3)) ((a.0 - P) % 3)))
    (T_true (ltb a.0 P) (lt→ltb a.0 P h))

-- and with another number it is a witness
pub element_far : (P d : ℕ) → P ≤ d → element_of P d ≡ Element.witness (role_of ((d - P) / 3)) ((d - P) % 3)
element_far P d h =
    ap (λ b. cond b (Element.named (name_of d)) (Element.witness (role_of ((d - P) / 3)) ((d - P) % 3)))
    (is_false (ltb d P) (λ t. omega (arith, ltb→lt d P t)))

pub element_number : (P : ℕ) (R : Role) (i : ℕ) → i < 3 → element_of P (number P (Element.witness R i)) ≡ Element.witness R i
element_number P R i h = element_far P n (omega arith) ∙ ap₂ Element.witness (ap role_of q ∙ role_of_code R) r
  where
    n : ℕ
    n = P + (3 * code R + i)

    q : (n - P) / 3 ≡ code R
    q = omega arith

    r : (n - P) % 3 ≡ i
    r = omega arith

pub number_element : (P d : ℕ) → number P (element_of P d) ≡ d
number_element P d = elim (dec_lt d P) [
  | yes h ↦ ap (number P) (element_name P (name_of d) h)
  | no n ↦ ap (number P) (element_far P d (omega arith)) ∙ omega (arith, code_role ((d - P) / 3))
]
