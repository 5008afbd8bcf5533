-- What every rule table keeps: it holds of no rules, and is kept as a rule is gained.
use Rattle.std.proofs.Common.{◌≡◌, ℕ, ◌<◌, ◌≤◌, Bool, true, false, cond, ◌&&◌, ◌||◌, T, ltb, List, [], ◌∷◌, ◌++◌, length, is_some, Some, None, Ok, Err, Option, sym, refl, ◌∙◌, subst, ⊎_elim, arith}
use Rattle.std.specs.List.{slice_get}
use Rattle.std.proofs.lemmas.List.{length_push}
use Rattle.std.proofs.Math.Bool.{or_comm, and_comm}
use Rattle.std.proofs.lemmas.Bool.{cases_Bool, and_parts, or_cases, ltb-false}
use Rattle.std.proofs.lemmas.Bool.Decides.{nat_tests}
use Rattle.league.specs.Roles.{inverse}
use Rattle.league.specs.declared.facts.Entry.TheVariants.{New, Known}
use Rattle.league.specs.declared.facts.Kind.{Kind}
use Rattle.league.specs.declared.faults.BookFault.{BookFault}
use Rattle.league.specs.declared.faults.BookFault.TheVariants.{Pairs as NoRoom}
use Rattle.league.specs.declared.roles.Role.{Role}
use Rattle.league.specs.declared.roles.Mark.{Mark}
use Rattle.league.specs.declared.rules.Rule.{Rule}
use Rattle.league.specs.declared.rules.Rule.TheVariants.{Inclusion, Exclusion, Required, RoleInclusion}
use Rattle.rules.specs.Marks.{same_kind, same_role, same_mark, mark_within, KindIn, RoleIn}
use Rattle.rules.specs.Pairs.{pair_of, number_of, has_pair, with_pair}
use Rattle.rules.specs.RuleSet.{RuleSet, no_rules, same_rule, rule_within, RuleIn, has_room, pairs_with, gained, held_after, rule_fault, unless, rule_after, Proper}
use Rattle.rules.specs.declared.pair.Pair.{Pair}
use Rattle.rules.proofs.Marked.{kind_eq, role_eq, mark_eq, turn_turn, turned_within, rule_in, none_within}
use Rattle.rules.proofs.Numbered.{pair_eq, number_in, nth_push, with_number, with_has, with_length, with_other}

-- no rules
pub no_rules_proper : Proper no_rules
no_rules_proper =
    record {
      rules_in = λ r t. absurd t;
      exchanged = λ B C. refl;
      turned = λ R S. refl;
      paired = λ B R k t. absurd t;
      pairs_few = omega arith;
      pairs_in = λ i p e. let z : ◌≡◌ {A = ℕ} 0 1 = cc in absurd (omega arith);
      pairs_apart = λ i j p e f. let z : ◌≡◌ {A = ℕ} 0 1 = cc in absurd (omega arith);
    }

-- a rule that is the same as one in range is in range
pub same-within : (r q : Rule) → same_rule r q ≡ true → rule_within r ≡ true → rule_within q ≡ true
same-within (Inclusion B C) (Inclusion D E) e w =
    let p = and_parts (same_mark B D) (same_mark C E) e in
    rw (← mark_eq B D p.0, ← mark_eq C E p.1) w
same-within (Inclusion B C) (Exclusion D E) e w = cc
same-within (Inclusion B C) (Required D S m) e w = cc
same-within (Inclusion B C) (RoleInclusion S U) e w = cc
same-within (Exclusion B C) (Inclusion D E) e w = cc
same-within (Exclusion B C) (Exclusion D E) e w =
    ⊎_elim
    (λ h.
    let p = and_parts (same_mark B D) (same_mark C E) h in
    rw (← mark_eq B D p.0, ← mark_eq C E p.1) w)
    (λ h.
    let p = and_parts (same_mark B E) (same_mark C D) h in
    rw (← mark_eq B E p.0, ← mark_eq C D p.1) (and_comm (mark_within C) (mark_within B) ∙ w))
    (or_cases (same_mark B D && same_mark C E) (same_mark B E && same_mark C D) e)
same-within (Exclusion B C) (Required D S m) e w = cc
same-within (Exclusion B C) (RoleInclusion S U) e w = cc
same-within (Required B R k) (Inclusion D E) e w = cc
same-within (Required B R k) (Exclusion D E) e w = cc
same-within (Required B R k) (Required D S m) e w =
    let p = and_parts (same_mark B D) (same_role R S && same_kind k m) e in
    let q = and_parts (same_role R S) (same_kind k m) p.1 in
    rw (← mark_eq B D p.0, ← role_eq R S q.0, ← kind_eq k m q.1) w
same-within (Required B R k) (RoleInclusion S U) e w = cc
same-within (RoleInclusion Q R) (Inclusion D E) e w = cc
same-within (RoleInclusion Q R) (Exclusion D E) e w = cc
same-within (RoleInclusion Q R) (Required D S m) e w = cc
same-within (RoleInclusion Q R) (RoleInclusion S U) e w =
    ⊎_elim
    (λ h.
    let p = and_parts (same_role Q S) (same_role R U) h in
    rw (← role_eq Q S p.0, ← role_eq R U p.1) w)
    (λ h.
    let p = and_parts (same_role Q (inverse S)) (same_role R (inverse U)) h in
    rw (← turned_within S, ← turned_within U, ← role_eq Q (inverse S) p.0, ← role_eq R (inverse U) p.1) w)
    (or_cases (same_role Q S && same_role R U) (same_role Q (inverse S) && same_role R (inverse U)) e)

-- the two spellings are the same rules
pub same_exchanged : (r : Rule) (B C : Mark) → same_rule r (Exclusion B C) ≡ same_rule r (Exclusion C B)
same_exchanged (Inclusion D E) B C = refl
same_exchanged (Exclusion D E) B C = or_comm (same_mark D B && same_mark E C) (same_mark D C && same_mark E B)
same_exchanged (Required D R k) B C = refl
same_exchanged (RoleInclusion R S) B C = refl

pub same_inverted : (r : Rule) (R S : Role) → same_rule r (RoleInclusion R S) ≡ same_rule r (RoleInclusion (inverse R) (inverse S))
same_inverted (Inclusion D E) R S = refl
same_inverted (Exclusion D E) R S = refl
same_inverted (Required D Q k) R S = refl
same_inverted (RoleInclusion Q U) R S =
    rw (turn_turn R, turn_turn S) (or_comm (same_role Q R && same_role U S) (same_role Q (inverse R) && same_role U (inverse S)))

-- a pair that is in no list yet keeps the pairs apart
push_apart : (ps : List Pair) (p : Pair) → has_pair ps p ≡ false
    → ((i j : ℕ) (q : Pair) → slice_get ps i ≡ Some q → slice_get ps j ≡ Some q → i ≡ j)
    → (i j : ℕ) (q : Pair) → slice_get (ps ++ (p ∷ [])) i ≡ Some q → slice_get (ps ++ (p ∷ [])) j ≡ Some q → i ≡ j
push_apart ps p new apart i j q e f =
    ⊎_elim
    (λ a. ⊎_elim (λ b. apart i j q a b) (λ b. absurd (never i a b.1)) (nth_push ps p q j f))
    (λ a. ⊎_elim (λ b. absurd (never j b a.1)) (λ b. a.0 ∙ sym b.0) (nth_push ps p q j f))
    (nth_push ps p q i e)
  where
    never : (n : ℕ) → slice_get ps n ≡ Some q → q ≡ p → ⊥
    never n a b =
        let c : slice_get ps n ≡ Some p = cc in
        omega (arith, number_in ps p n c, ltb-false (number_of ps p) (length ps) new)

-- the pairs once a pair is used
module _ (ps : List Pair) (p : Pair) where
  with_few : (has_pair ps p || ltb (length ps) 32) ≡ true → length ps ≤ 32 → length (with_pair ps p) ≤ 32
  with_few room few = grind (arith, nat_tests, length_push ps p)

  with_in : RoleIn p.role × KindIn p.kind → ((i : ℕ) (q : Pair) → slice_get ps i ≡ Some q → RoleIn q.role × KindIn q.kind)
      → (i : ℕ) (q : Pair) → slice_get (with_pair ps p) i ≡ Some q → RoleIn q.role × KindIn q.kind
  with_in here there i q e =
      ⊎_elim
      (λ h. there i q (rw h at e))
      (λ h.
      ⊎_elim (λ a. there i q a) (λ a. subst (λ (o : Pair). RoleIn o.role × KindIn o.kind) (sym a.1) here)
      (nth_push ps p q i (rw h at e)))
      (cases_Bool (has_pair ps p))

  with_apart : ((i j : ℕ) (q : Pair) → slice_get ps i ≡ Some q → slice_get ps j ≡ Some q → i ≡ j)
      → (i j : ℕ) (q : Pair) → slice_get (with_pair ps p) i ≡ Some q → slice_get (with_pair ps p) j ≡ Some q → i ≡ j
  with_apart apart i j q e f =
      ⊎_elim
      (λ h. apart i j q (rw h at e) (rw h at f))
      (λ h. push_apart ps p h apart i j q (rw h at e) (rw h at f))
      (cases_Bool (has_pair ps p))

-- the pairs once a rule is accepted
pairs_few_lem : (ps : List Pair) (r : Rule) → has_room ps r ≡ true → length ps ≤ 32 → length (pairs_with ps r) ≤ 32
pairs_few_lem ps (Inclusion B C) room few = few
pairs_few_lem ps (Exclusion B C) room few = few
pairs_few_lem ps (Required B R k) room few = with_few ps (pair_of R k) room few
pairs_few_lem ps (RoleInclusion R S) room few = few

pairs_in_lem : (ps : List Pair) (r : Rule) → RuleIn r → ((i : ℕ) (q : Pair) → slice_get ps i ≡ Some q → RoleIn q.role × KindIn q.kind)
    → (i : ℕ) (q : Pair) → slice_get (pairs_with ps r) i ≡ Some q → RoleIn q.role × KindIn q.kind
pairs_in_lem ps (Inclusion B C) w there = there
pairs_in_lem ps (Exclusion B C) w there = there
pairs_in_lem ps (Required B R k) w there = with_in ps (pair_of R k) (w.1, w.2) there
pairs_in_lem ps (RoleInclusion R S) w there = there

pairs_apart_lem : (ps : List Pair) (r : Rule) → ((i j : ℕ) (q : Pair) → slice_get ps i ≡ Some q → slice_get ps j ≡ Some q → i ≡ j)
    → (i j : ℕ) (q : Pair) → slice_get (pairs_with ps r) i ≡ Some q → slice_get (pairs_with ps r) j ≡ Some q → i ≡ j
pairs_apart_lem ps (Inclusion B C) apart = apart
pairs_apart_lem ps (Exclusion B C) apart = apart
pairs_apart_lem ps (Required B R k) apart = with_apart ps (pair_of R k) apart
pairs_apart_lem ps (RoleInclusion R S) apart = apart

-- a pair that was in use still is
pairs_keep : (ps : List Pair) (r : Rule) (o : Pair) → number_of ps o < length ps → number_of (pairs_with ps r) o < length (pairs_with ps r)
pairs_keep ps (Inclusion B C) o l = l
pairs_keep ps (Exclusion B C) o l = l
pairs_keep ps (Required B R k) o l =
    omega (arith, with_other ps (pair_of R k) o l, with_length ps (pair_of R k))
pairs_keep ps (RoleInclusion R S) o l = l

-- the pair of a rule that was gained is in use
pairs_gain : (ps : List Pair) (r : Rule) (B : Mark) (R : Role) (k : Kind) → same_rule r (Required B R k) ≡ true
    → number_of (pairs_with ps r) (pair_of R k) < length (pairs_with ps r)
pairs_gain ps (Inclusion D E) B R k e = let z : ◌≡◌ {A = ℕ} 0 1 = cc in absurd (omega arith)
pairs_gain ps (Exclusion D E) B R k e = let z : ◌≡◌ {A = ℕ} 0 1 = cc in absurd (omega arith)
pairs_gain ps (Required D S m) B R k e =
    let p = and_parts (same_mark D B) (same_role S R && same_kind m k) e in
    let f = pair_eq (pair_of S m) (pair_of R k) p.1 in
    let l : number_of (with_pair ps (pair_of S m)) (pair_of S m) < length (with_pair ps (pair_of S m)) =
    omega (arith, with_number ps (pair_of S m), with_has ps (pair_of S m)) in
    subst (λ (o : Pair). number_of (with_pair ps (pair_of S m)) o < length (with_pair ps (pair_of S m))) f l
pairs_gain ps (RoleInclusion S U) B R k e = let z : ◌≡◌ {A = ℕ} 0 1 = cc in absurd (omega arith)

T-or : (a b : Bool) {X : Type 0} → (a ≡ true → X) → (T b → X) → T (a || b) → X
T-or true b f g t = f refl
T-or false b f g t = g t

-- what every rule table keeps is kept as a rule in range is gained that finds room
pub gained_proper : (s : RuleSet) (r : Rule) → rule_within r ≡ true → has_room s.pairs r ≡ true → Proper s → Proper (gained s r)
gained_proper s r w room proper =
    record {
      rules_in = λ q t. T-or (same_rule r q) (s.rules q) (λ e. rule_in q (same-within r q e w)) (proper.rules_in q) t;
      exchanged = λ B C. rw (same_exchanged r B C, proper.exchanged B C) refl;
      turned = λ R S. rw (same_inverted r R S, proper.turned R S) refl;
      paired = λ B R k t. T-or (same_rule r (Required B R k)) (s.rules (Required B R k)) (pairs_gain s.pairs r B R k)
          (λ u. pairs_keep s.pairs r (pair_of R k) (proper.paired B R k u)) t;
      pairs_few = pairs_few_lem s.pairs r room proper.pairs_few;
      pairs_in = pairs_in_lem s.pairs r (rule_in r w) proper.pairs_in;
      pairs_apart = pairs_apart_lem s.pairs r proper.pairs_apart;
    }

-- what every rule table keeps is kept as a rule is entered, whatever the reply
pub after_proper : (s : RuleSet) (r : Rule) → Proper s → Proper (rule_after s r)
after_proper s r proper =
    cases (rule_fault r) (s.rules r) (has_room s.pairs r) (λ e room. gained_proper s r (none_within r e) room proper)
  where
    cases : (fault : Option BookFault) (known room : Bool) → (is_some fault ≡ false → room ≡ true → Proper (gained s r))
        → Proper (held_after s r (unless fault (cond known (Ok Known) (cond room (Ok New) (Err NoRoom)))))
    cases (Some e) known room f = proper
    cases None true room f = proper
    cases None false true f = f refl refl
    cases None false false f = proper
