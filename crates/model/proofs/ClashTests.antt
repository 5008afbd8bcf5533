-- The test for a clash tells exactly whether one stands.
use Rattle.std.proofs.Common.{◌≡◌, ℕ, ◌<◌, Bool, ◌&&◌, T, ◌↔◌, sym, refl, subst, subst₂, inl, inr, arith}
use Rattle.league.specs.Roles.{inverse, code}
use Rattle.league.specs.declared.facts.Fact.{Fact}
use Rattle.league.specs.declared.roles.Mark.{Mark}
use Rattle.league.specs.declared.roles.Mark.TheVariants.{Is, Has}
use Rattle.league.specs.declared.roles.Role.TheVariants.{Forward, Backward}
use Rattle.league.specs.declared.rules.Rule.{Rule}
use Rattle.league.specs.declared.rules.Rule.TheVariants.{Exclusion}
use Rattle.rules.specs.Codes.{role_of, mark_of}
use Rattle.rules.specs.Marks.{MarkIn, mark_code}
use Rattle.rules.specs.RuleSet.{RuleSet, Proper}
use Rattle.rules.proofs.Coded.{code_role, role_of_code}
use Rattle.model.specs.Canonical.{Clash, Present, HasMark}
use Rattle.model.specs.Clashes.{name_holds, witness_holds, some_holds, mark_clashes, clashes_at, clash_test}
use Rattle.model.specs.Elements.{Element}
use Rattle.model.specs.Recorded.{FactsIn, name_of}
use Rattle.model.specs.Rows.{some_below}
use Rattle.model.specs.Tabled.{Tabled, Right, RoleRange, MarkRange}
use Rattle.model.proofs.Ranges.{generating_in, in_inverse, in_small}
use Rattle.model.proofs.Rightness.{mark_back_lem}
use Rattle.model.proofs.Searches.{some_found, some_at}
use Rattle.model.proofs.Tests.{and_both, both_and, or_either, or_left, or_right}

small : (B : Mark) → MarkIn B → mark_code B < 128
small (Is k) h = omega arith
small (Has (Forward l)) h = omega arith
small (Has (Backward l)) h = omega arith

ranged : (B : Mark) → MarkIn B → MarkRange B
ranged (Is k) h = h
ranged (Has R) h = in_small R h

pub clash_marks : (t : Tabled) (rules : Rule → Bool) → some_below 128 (λ b. mark_clashes t rules (mark_of b)) ≡ clash_test t rules
unfolding mark_clashes
clash_marks t rules = refl

module _ (facts : Fact → Bool) (rules : RuleSet) (t : Tabled) (inside : FactsIn t.names facts) (proper : Proper rules) (right : Right facts rules t) where
  back_range : (r : ℕ) → r < 128 → RoleRange (inverse (role_of r))
  back_range r l = in_inverse (role_of r) (omega (arith, code_role r))

  -- an element with both marks
  abbrev Holder : Mark → Mark → Type 0
  Holder B C = (e : Element) × Present t.names facts rules e × HasMark t.names facts rules e B × HasMark t.names facts rules e C

  holder_of : (B C : Mark) → T (some_holds t B C) → Holder B C
  holder_of B C h = elim (or_either (some_below t.names (name_holds t B C)) _ h) [
    | inl g ↦
        (let p = some_found t.names (name_holds t B C) g in
        let q = and_both (t.marks p.0 B) _ p.2 in
        (Element.named (name_of p.0), p.1, (right.marks_are p.0 B p.1).0 q.0, (right.marks_are p.0 C p.1).0 q.1))
    | inr g ↦
        (let p = some_found 128 (witness_holds t B C) g in
        let q = and_both (t.generating (role_of p.0)) _ p.2 in
        let s = and_both (t.implies (Has (inverse (role_of p.0))) B) _ q.1 in
        let i = back_range p.0 p.1 in
        (Element.witness (role_of p.0) 0, ((right.generating_is (role_of p.0)).0 q.0, omega arith, inl refl), (right.implies_is _ B i).0 s.0, (right.implies_is _ C i).0 s.1))
  ]

  of_holder : (B C : Mark) (e : Element) → Present t.names facts rules e → HasMark t.names facts rules e B → HasMark t.names facts rules e C → T (some_holds t B C)
  of_holder B C (Element.named a) p b c =
      or_left (some_below t.names (name_holds t B C)) _
      (some_at t.names (name_holds t B C) a.0 p (both_and (t.marks a.0 B) _ ((right.marks_are a.0 B p).1 b) ((right.marks_are a.0 C p).1 c)))
  of_holder B C (Element.witness R i) p b c =
      let r : RoleRange R = generating_in t.names facts rules inside proper p.0 in
      let j = in_inverse R r in
      or_right (some_below t.names (name_holds t B C)) _
      (some_at 128 (witness_holds t B C) (code R) r
      (subst (λ X. T (t.generating X && (t.implies (Has (inverse X)) B && t.implies (Has (inverse X)) C))) (sym (role_of_code R))
      (both_and (t.generating R) _ ((right.generating_is R).1 p.0) (both_and (t.implies (Has (inverse R)) B) _ ((right.implies_is (Has (inverse R)) B j).1 b) ((right.implies_is (Has (inverse R)) C j).1 c)))))

  pub clash_is : T (clash_test t rules.rules) ↔ Clash t.names facts rules
  clash_is = (
    (λ h. let p = some_found 128 (λ b. some_below 128 (clashes_at t rules.rules b)) h in
        let q = some_found 128 (clashes_at t rules.rules p.0) p.2 in
        let s = and_both (rules.rules (Exclusion (mark_of p.0) (mark_of q.0))) _ q.2 in
        let e = holder_of (mark_of p.0) (mark_of q.0) s.1 in
        record { one = mark_of p.0; other = mark_of q.0; excluded = s.0; holder = e.0; present = e.1; has_one = e.2; has_other = e.3 }),
    (λ x. let m = proper.rules_in (Exclusion x.one x.other) x.excluded in
        let e = of_holder x.one x.other x.holder x.present x.has_one x.has_other in
        some_at 128 (λ b. some_below 128 (clashes_at t rules.rules b)) (mark_code x.one) (small x.one m.0)
        (some_at 128 (clashes_at t rules.rules (mark_code x.one)) (mark_code x.other) (small x.other m.1)
        (subst₂ (λ B C. T (rules.rules (Exclusion B C) && some_holds t B C)) (sym (mark_back_lem x.one (ranged x.one m.0))) (sym (mark_back_lem x.other (ranged x.other m.1)))
        (both_and (rules.rules (Exclusion x.one x.other)) _ x.excluded e)))),
  )
