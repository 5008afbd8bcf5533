-- The edges of the graph of roles, as the parts of a rule table have them.
use Rattle.std.proofs.Common.{◌≡◌, ℕ, ◌-◌, ◌/◌, ◌%◌, ◌<◌, ◌≤◌, Bool, false, ◌&&◌, eqb, ltb, leb, List, [], get_or, Some, None, Option, sym, refl, ap, ◌∙◌, ⊎_elim, arith}
use Rattle.std.proofs.lemmas.List.{get_or_past}
use Rattle.std.proofs.lemmas.Bool.{cases_lt, le-ltb, lt-leb, le-leb, eq-eqb, ne_eqb, and_left}
use Rattle.std.specs.List.{slice_get}
use Rattle.std.proofs.lemmas.Bool.Decides.{nat_tests}
use Rattle.league.specs.Roles.{code, inverse, link_of}
use Rattle.league.specs.declared.roles.Role.{Role}
use Rattle.league.specs.declared.roles.Role.TheVariants.{Forward, Backward}
use Rattle.league.specs.declared.rules.Rule.TheVariants.{RoleInclusion}
use Rattle.rules.specs.Codes.{role_of, on_side}
use Rattle.rules.specs.Flags.{flag}
use Rattle.rules.specs.Marks.{same_role}
use Rattle.rules.specs.RuleSet.{RuleSet}
use Rattle.rules.specs.Steps.{of_role, hidden_under, role_step}
use Rattle.rules.specs.Tables.{means}
use Rattle.rules.specs.declared.pair.Pair.{Pair}
use Rattle.rules.specs.declared.table.RuleTable.{RuleTable}
use Rattle.rules.proofs.Coded.{code_role, even_role, odd_role, link_below, role_within-code, same_role_code}
use Rattle.rules.proofs.Marked.{same_turned}

-- a row that begins at the first node
pub from_first : (row : List Bool) (k : ℕ) → (leb 0 k && get_or row (k - 0) false) ≡ get_or row k false
from_first row k = grind (arith, nat_tests)

-- a role that rules may name is no hidden link
low_hidden : (s : RuleSet) (R S : Role) → (link_of R).0 < 32 → hidden_under s R S ≡ false
low_hidden s (Forward l) S h = and_left (leb 32 l.0) (of_role (slice_get s.pairs (l.0 - 32)) S) (lt-leb 32 l.0 h)
low_hidden s (Backward l) S h = and_left (leb 32 l.0) (of_role (slice_get s.pairs (l.0 - 32)) (inverse S)) (lt-leb 32 l.0 h)

module _ (t : RuleTable) (i k : ℕ) where
  -- the flag of a role inclusion by codes
  role_rule : (means t).rules (RoleInclusion (role_of i) (role_of k)) ≡ ((ltb i 64 && ltb k 64) && flag t.roles.cells i k)
  role_rule = rw (role_within-code i, role_within-code k, code_role i, code_role k) refl

  -- the row of a role that rules may name
  pub role_row_lem : i < 64 → flag t.roles.cells i k ≡ role_step (means t) i k
  role_row_lem l =
      let wide = t.roles.wide i l in
      grind (arith, nat_tests, role_rule, low_hidden (means t) (role_of i) (role_of k) (link_below i 32 l), get_or_past (get_or t.roles.cells i []) k false)

  -- a hidden link stands under the role of its pair, on the same side
  hidden_row : 64 ≤ i → role_step (means t) i k ≡ hidden_under (means t) (role_of i) (role_of k)
  hidden_row l = rw (role_rule, le-ltb i 64 l) refl

  -- the test of a hidden link, by the pair that it stands for
  hidden_test : 64 ≤ i → (o : Option Pair) → o ≡ slice_get (means t).pairs ((i - 64) / 2)
      → hidden_under (means t) (role_of i) (role_of k) ≡ of_role o (on_side (role_of k) i)
  hidden_test l o e =
      ⊎_elim
      (λ h.
      let z : i % 2 ≡ 0 = omega arith in
      let m : 32 ≤ i / 2 = omega arith in
      let n : i / 2 - 32 ≡ (i - 64) / 2 = omega arith in
      ap (λ (R : Role). hidden_under (means t) R (role_of k)) (even_role i z)
      ∙ rw (le-leb 32 (i / 2) m, n, eq-eqb (i % 2) 0 z) (ap (λ (x : Option Pair). of_role x (role_of k)) (sym e)))
      (λ h.
      let z : i % 2 ≡ 1 = omega arith in
      let m : 32 ≤ i / 2 = omega arith in
      let n : i / 2 - 32 ≡ (i - 64) / 2 = omega arith in
      ap (λ (R : Role). hidden_under (means t) R (role_of k)) (odd_role i z)
      ∙ rw (le-leb 32 (i / 2) m, n, ne_eqb (i % 2) 0 (omega arith)) (ap (λ (x : Option Pair). of_role x (inverse (role_of k))) (sym e)))
      (cases_lt (i % 2) 1)

  pub no_pair_row : 64 ≤ i → None ≡ slice_get (means t).pairs ((i - 64) / 2) → role_step (means t) i k ≡ false
  no_pair_row l e = hidden_row l ∙ hidden_test l None e

  pub pair_row : (p : Pair) → 64 ≤ i → Some p ≡ slice_get (means t).pairs ((i - 64) / 2)
      → eqb k (code (on_side p.role i)) ≡ role_step (means t) i k
  pair_row p l e = sym (hidden_row l ∙ (hidden_test l (Some p) e ∙ (turned ∙ same_role_code (on_side p.role i) k)))
    where
      turned : same_role p.role (on_side (role_of k) i) ≡ same_role (on_side p.role i) (role_of k)
      turned =
          ⊎_elim
          (λ h. rw (eq-eqb (i % 2) 0 (omega arith)) refl)
          (λ h. rw (ne_eqb (i % 2) 0 (omega arith)) (sym (same_turned p.role (role_of k))))
          (cases_lt (i % 2) 1)

-- what the functions that add the roles above a role stand on
pub ruleset of_visible_links = (from_first, role_row_lem)

pub ruleset of_hidden_links = (no_pair_row, pair_row)
