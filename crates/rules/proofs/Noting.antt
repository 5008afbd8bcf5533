-- One flag more is one rule more, in each part of a rule table.
use Rattle.std.proofs.Common.{◌≡◌, ℕ, ◌<◌, ◌≤◌, Bool, true, false, cond, ◌&&◌, ◌||◌, eqb, List, [], length, Some, sym, refl, ap, ◌∙◌, subst, ⊎_elim, arith}
use Rattle.std.proofs.Math.Bool.{or_comm, or_assoc, and_comm, and-true, and-false}
use mathlib.Core.Path.{fun_ext}
use mathlib.Core.Logic.{∥∥₁_map}
use Rattle.std.specs.List.{slice_get}
use Rattle.std.proofs.lemmas.Bool.{cases_Bool, and_parts, and_right, eq-eqb, ne_eqb, lt-ltb, ltb-true, ltb-false}
use Rattle.league.specs.Roles.{code, inverse}
use Rattle.league.specs.declared.facts.Kind.{Kind}
use Rattle.league.specs.declared.roles.Role.{Role}
use Rattle.league.specs.declared.roles.Mark.{Mark}
use Rattle.league.specs.declared.rules.Rule.{Rule}
use Rattle.league.specs.declared.rules.Rule.TheVariants.{Inclusion, Exclusion, Required, RoleInclusion}
use Rattle.rules.specs.Flags.{flag}
use Rattle.rules.specs.Marks.{same_role, same_mark, mark_within, role_within, kind_within, mark_code}
use Rattle.rules.specs.Noted.{noted, rule_set_of}
use Rattle.rules.specs.Pairs.{pair_of, same_pair, number_of, has_pair, with_pair}
use Rattle.rules.specs.RuleSet.{RuleSet, no_rules, same_rule, rule_within, has_room, gained, Proper}
use Rattle.rules.specs.declared.pair.Pair.{Pair}
use Rattle.rules.proofs.Gained.{same-within, gained_proper}
use Rattle.rules.proofs.Marked.{role_code, mark_code_lem, same_turned}
use Rattle.rules.proofs.Numbered.{pair_self, pair_eq, number_at, with_number, with_has, with_length, with_other, with_has_other}

-- no flag is set
abbrev pub Blank : List (List Bool) → Type 0
Blank cells = (i j : ℕ) → flag cells i j ≡ false

-- one flag more is set
abbrev pub More : List (List Bool) → List (List Bool) → ℕ → ℕ → Type 0
More cells after row column = (i j : ℕ) → flag after i j ≡ ((eqb i row && eqb j column) || flag cells i j)

-- two sets of rules with the same rules and the same pairs are one
same_sets : (f g : Rule → Bool) (ps qs : List Pair) → ((r : Rule) → f r ≡ g r) → ps ≡ qs
    → ◌≡◌ {A = RuleSet} (record { rules = f; pairs = ps }) (record { rules = g; pairs = qs })
same_sets f g ps qs h e = let k = fun_ext h in λ i. record { rules = k i; pairs = e i }

-- a table without flags and pairs holds no rules
pub noted_none : (inc exc req rol : List (List Bool)) (ps : List Pair) → Blank inc → Blank exc → Blank req → Blank rol → ps ≡ []
    → rule_set_of inc exc req rol ps ≡ no_rules
noted_none inc exc req rol ps hi he hq hr e =
    same_sets (λ r. rule_within r && noted inc exc req rol ps r) (λ _. false) ps [] none e
  where
    none : (r : Rule) → (rule_within r && noted inc exc req rol ps r) ≡ false
    none (Inclusion B C) = and_right (rule_within (Inclusion B C)) (flag inc (mark_code B) (mark_code C)) (hi (mark_code B) (mark_code C))
    none (Exclusion B C) = and_right (rule_within (Exclusion B C)) (flag exc (mark_code B) (mark_code C)) (he (mark_code B) (mark_code C))
    none (Required B R k) =
        and_right (rule_within (Required B R k)) (has_pair ps (pair_of R k) && flag req (mark_code B) (number_of ps (pair_of R k)))
        (and_right (has_pair ps (pair_of R k)) (flag req (mark_code B) (number_of ps (pair_of R k))) (hq (mark_code B) (number_of ps (pair_of R k))))
    none (RoleInclusion R S) = and_right (rule_within (RoleInclusion R S)) (flag rol (code R) (code S)) (hr (code R) (code S))

-- a rule q in range (w) whose flag was f; x: its flag is set now, s: it is the rule that is gained
cell_more : (w x s f : Bool) → (w ≡ true → x ≡ s) → (s ≡ true → w ≡ true) → (w && (x || f)) ≡ (s || (w && f))
cell_more true x s f h k = ap (λ (b : Bool). b || f) (h refl)
cell_more false x true f h k = k refl
cell_more false x false f h k = refl

-- the flags at the codes that a row and a column stand for
pub at_codes : (cells after : List (List Bool)) (row column m n : ℕ) → row ≡ m → column ≡ n → More cells after row column → More cells after m n
at_codes cells after row column m n e f h i j = rw (e, f) at (h i j)

module _ (inc exc req rol : List (List Bool)) (ps : List Pair) where
  pub gain_inclusion : (B C : Mark) (after : List (List Bool)) → rule_within (Inclusion B C) ≡ true
      → More inc after (mark_code B) (mark_code C) → rule_set_of after exc req rol ps ≡ gained (rule_set_of inc exc req rol ps) (Inclusion B C)
  gain_inclusion B C after w h =
      same_sets (λ r. rule_within r && noted after exc req rol ps r)
      (λ r. same_rule (Inclusion B C) r || (rule_within r && noted inc exc req rol ps r)) ps ps each refl
    where
      each : (r : Rule) → (rule_within r && noted after exc req rol ps r) ≡ (same_rule (Inclusion B C) r || (rule_within r && noted inc exc req rol ps r))
      each (Inclusion D E) =
          ap (λ (b : Bool). rule_within (Inclusion D E) && b) (h (mark_code D) (mark_code E))
          ∙ cell_more (rule_within (Inclusion D E)) (eqb (mark_code D) (mark_code B) && eqb (mark_code E) (mark_code C))
          (same_mark B D && same_mark C E) (flag inc (mark_code D) (mark_code E))
          (λ u.
          let v = and_parts (mark_within B) (mark_within C) w in
          let p = and_parts (mark_within D) (mark_within E) u in
          rw (mark_code_lem B D v.0 p.0, mark_code_lem C E v.1 p.1) refl)
          (λ e. same-within (Inclusion B C) (Inclusion D E) e w)
      each (Exclusion D E) = refl
      each (Required D S m) = refl
      each (RoleInclusion S U) = refl

  pub gain_exclusion : (B C : Mark) (after : List (List Bool)) → rule_within (Exclusion B C) ≡ true
      → ((i j : ℕ)
      → flag after i j ≡ ((eqb i (mark_code C) && eqb j (mark_code B)) || ((eqb i (mark_code B) && eqb j (mark_code C)) || flag exc i j)))
      → rule_set_of inc after req rol ps ≡ gained (rule_set_of inc exc req rol ps) (Exclusion B C)
  gain_exclusion B C after w h =
      same_sets (λ r. rule_within r && noted inc after req rol ps r)
      (λ r. same_rule (Exclusion B C) r || (rule_within r && noted inc exc req rol ps r)) ps ps each refl
    where
      each : (r : Rule) → (rule_within r && noted inc after req rol ps r) ≡ (same_rule (Exclusion B C) r || (rule_within r && noted inc exc req rol ps r))
      each (Inclusion D E) = refl
      each (Exclusion D E) =
          let one = eqb (mark_code D) (mark_code B) && eqb (mark_code E) (mark_code C) in
          let two = eqb (mark_code D) (mark_code C) && eqb (mark_code E) (mark_code B) in
          let f = flag exc (mark_code D) (mark_code E) in
          let s : flag after (mark_code D) (mark_code E) ≡ ((two || one) || f) =
          h (mark_code D) (mark_code E) ∙ sym (or_assoc two one f) in
          ap (λ (b : Bool). rule_within (Exclusion D E) && b) s
          ∙ cell_more (rule_within (Exclusion D E)) (two || one) (same_rule (Exclusion B C) (Exclusion D E)) f
          (λ u.
          let v = and_parts (mark_within B) (mark_within C) w in
          let p = and_parts (mark_within D) (mark_within E) u in
          rw (mark_code_lem C D v.1 p.0, mark_code_lem B E v.0 p.1, mark_code_lem B D v.0 p.0, mark_code_lem C E v.1 p.1)
          (or_comm (same_mark C D && same_mark B E) (same_mark B D && same_mark C E)
          ∙ ap (λ (b : Bool). (same_mark B D && same_mark C E) || b) (and_comm (same_mark C D) (same_mark B E))))
          (λ e. same-within (Exclusion B C) (Exclusion D E) e w)
      each (Required D S m) = refl
      each (RoleInclusion S U) = refl

  pub gain_role : (Q R : Role) (after : List (List Bool)) → rule_within (RoleInclusion Q R) ≡ true
      → ((i j : ℕ)
      → flag after i j ≡ ((eqb i (code (inverse Q)) && eqb j (code (inverse R))) || ((eqb i (code Q) && eqb j (code R)) || flag rol i j)))
      → rule_set_of inc exc req after ps ≡ gained (rule_set_of inc exc req rol ps) (RoleInclusion Q R)
  gain_role Q R after w h =
      same_sets (λ r. rule_within r && noted inc exc req after ps r)
      (λ r. same_rule (RoleInclusion Q R) r || (rule_within r && noted inc exc req rol ps r)) ps ps each refl
    where
      each : (r : Rule) → (rule_within r && noted inc exc req after ps r) ≡ (same_rule (RoleInclusion Q R) r || (rule_within r && noted inc exc req rol ps r))
      each (Inclusion D E) = refl
      each (Exclusion D E) = refl
      each (Required D S m) = refl
      each (RoleInclusion S U) =
          let one = eqb (code S) (code Q) && eqb (code U) (code R) in
          let two = eqb (code S) (code (inverse Q)) && eqb (code U) (code (inverse R)) in
          let f = flag rol (code S) (code U) in
          let s : flag after (code S) (code U) ≡ ((two || one) || f) =
          h (code S) (code U) ∙ sym (or_assoc two one f) in
          ap (λ (b : Bool). rule_within (RoleInclusion S U) && b) s
          ∙ cell_more (rule_within (RoleInclusion S U)) (two || one) (same_rule (RoleInclusion Q R) (RoleInclusion S U)) f
          (λ u.
          rw (role_code Q S, role_code R U, role_code (inverse Q) S, role_code (inverse R) U, same_turned Q S, same_turned R U)
          (or_comm (same_role Q (inverse S) && same_role R (inverse U)) (same_role Q S && same_role R U)))
          (λ e. same-within (RoleInclusion Q R) (RoleInclusion S U) e w)

-- the columns past the pairs in use have no flag
abbrev pub Empty : List Pair → List (List Bool) → Type 0
Empty ps cells = (i j : ℕ) → length ps ≤ j → flag cells i j ≡ false

pub empty_more : (ps : List Pair) (p : Pair) (req after : List (List Bool)) (row : ℕ) → Empty ps req → More req after row (number_of ps p) → Empty (with_pair ps p) after
empty_more ps p req after row none h i j l =
    let d : eqb j (number_of ps p) ≡ false = ne_eqb j (number_of ps p) (λ e. omega (arith, with_has ps p)) in
    let f : flag req i j ≡ false = none i j (omega (arith, with_length ps p)) in
    h i j ∙ rw (d, f, and-false (eqb i row)) refl

-- where a pair is not in use, its column has no flag
guarded : (ps : List Pair) (o : Pair) (req : List (List Bool)) (i : ℕ) → Empty ps req → (has_pair ps o && flag req i (number_of ps o)) ≡ flag req i (number_of ps o)
guarded ps o req i none =
    ⊎_elim
    (λ e. rw e refl)
    (λ e. rw e (sym (none i (number_of ps o) (ltb-false (number_of ps o) (length ps) e))))
    (cases_Bool (has_pair ps o))

-- the flag of a rule that asks for the pair which is gained: hp and hf are whether that pair is in use and the flag, as they are now
-- and x whether this is the flag that was set; f is the flag as it was, and sp says that the pairs are one
with_same : (w hp hf x s sp old f : Bool) → hp ≡ true → hf ≡ ((x && true) || f) → old ≡ f → sp ≡ true
    → (w ≡ true → x ≡ s) → ((s && sp) ≡ true → w ≡ true) → (w && (hp && hf)) ≡ ((s && sp) || (w && old))
with_same w hp hf x s sp old f ep ef eo es h k =
    let l : (hp && hf) ≡ (x || f) = rw (ep, ef, and-true x) refl in
    let m : (s && sp) ≡ s = rw es (and-true s) in
    let c : (w && (x || f)) ≡ (s || (w && f)) = cell_more w x s f h (λ e. k (m ∙ e)) in
    rw (l, m, eo) c

-- the flag of a rule that asks for another pair
with_another : (w hp hf x y s sp old f : Bool) → hp ≡ old → (old ≡ true → hf ≡ ((x && y) || f)) → (old ≡ true → y ≡ false) → sp ≡ false
    → (w && (hp && hf)) ≡ ((s && sp) || (w && (old && f)))
with_another w hp hf x y s sp true f ep ef ey es =
    let l : hf ≡ f = ef refl ∙ rw (ey refl, and-false x) refl in
    rw (ep, l, es, and-false s) refl
with_another w hp hf x y s sp false f ep ef ey es = rw (ep, es, and-false w, and-false s) refl

-- a required partner more, of a pair that is in use now
module _ (inc exc req rol : List (List Bool)) (ps : List Pair) (B : Mark) (R : Role) (k : Kind) (after : List (List Bool)) (v : rule_within (Required B R k) ≡ true)
    (none : Empty ps req) (h : More req after (mark_code B) (number_of ps (pair_of R k))) where
  -- the flag of a rule now, and what it should be
  Right : Mark → Role → Kind → Type 0
  Right D S m =
      (rule_within (Required D S m) && (has_pair (with_pair ps (pair_of R k)) (pair_of S m) && flag after (mark_code D) (number_of (with_pair ps (pair_of R k)) (pair_of S m))))
      ≡ ((same_mark B D && same_pair (pair_of R k) (pair_of S m)) || (rule_within (Required D S m) && (has_pair ps (pair_of S m) && flag req (mark_code D) (number_of ps (pair_of S m)))))

  right_same : (D : Mark) (S : Role) (m : Kind) → same_pair (pair_of R k) (pair_of S m) ≡ true → Right D S m
  unfolding Right
  right_same D S m e =
      let p = pair_of R k in
      let o = pair_of S m in
      let n = number_of ps p in
      let q : p ≡ o = pair_eq p o e in
      let is : number_of (with_pair ps p) o ≡ n = ap (number_of (with_pair ps p)) (sym q) ∙ with_number ps p in
      let was : number_of ps o ≡ n = ap (number_of ps) (sym q) in
      let has : has_pair (with_pair ps p) o ≡ true = lt-ltb (number_of (with_pair ps p) o) (length (with_pair ps p)) (omega (arith, is, with_has ps p)) in
      let set : flag after (mark_code D) (number_of (with_pair ps p) o) ≡ ((eqb (mark_code D) (mark_code B) && true) || flag req (mark_code D) n) =
      ap (flag after (mark_code D)) is ∙ (h (mark_code D) n ∙ rw (eq-eqb n n refl) refl) in
      let old : (has_pair ps o && flag req (mark_code D) (number_of ps o)) ≡ flag req (mark_code D) n =
      guarded ps o req (mark_code D) none ∙ ap (flag req (mark_code D)) was in
      let bin : mark_within B ≡ true = (and_parts (mark_within B) (role_within R && kind_within k) v).0 in
      with_same (rule_within (Required D S m)) (has_pair (with_pair ps p) o) (flag after (mark_code D) (number_of (with_pair ps p) o))
      (eqb (mark_code D) (mark_code B)) (same_mark B D) (same_pair p o) (has_pair ps o && flag req (mark_code D) (number_of ps o)) (flag req (mark_code D) n)
      has set old e
      (λ u. mark_code_lem B D bin (and_parts (mark_within D) (role_within S && kind_within m) u).0)
      (λ u. same-within (Required B R k) (Required D S m) u v)

  right_other : (D : Mark) (S : Role) (m : Kind) → same_pair (pair_of R k) (pair_of S m) ≡ false → Right D S m
  unfolding Right
  right_other D S m e =
      let p = pair_of R k in
      let o = pair_of S m in
      with_another (rule_within (Required D S m)) (has_pair (with_pair ps p) o) (flag after (mark_code D) (number_of (with_pair ps p) o))
      (eqb (mark_code D) (mark_code B)) (eqb (number_of ps o) (number_of ps p)) (same_mark B D) (same_pair p o) (has_pair ps o) (flag req (mark_code D) (number_of ps o))
      (with_has_other ps p o e)
      (λ t.
      ap (flag after (mark_code D)) (with_other ps p o (ltb-true (number_of ps o) (length ps) t)) ∙ h (mark_code D) (number_of ps o))
      (λ t.
      let l = ltb-true (number_of ps o) (length ps) t in
      ne_eqb (number_of ps o) (number_of ps p) (λ f. apart l f))
      e
    where
      apart : number_of ps (pair_of S m) < length ps → number_of ps (pair_of S m) ≡ number_of ps (pair_of R k) → ⊥
      apart l f =
          let a : slice_get ps (number_of ps (pair_of S m)) ≡ Some (pair_of S m) = number_at ps (pair_of S m) l in
          let b : slice_get ps (number_of ps (pair_of R k)) ≡ Some (pair_of R k) = number_at ps (pair_of R k) (omega (arith, f)) in
          let g : Some (pair_of R k) ≡ Some (pair_of S m) = sym b ∙ (ap (slice_get ps) (sym f) ∙ a) in
          let q : pair_of R k ≡ pair_of S m = cc in
          let t : same_pair (pair_of R k) (pair_of S m) ≡ true = subst (λ (x : Pair). same_pair (pair_of R k) x ≡ true) q (pair_self (pair_of R k)) in
          let z : ◌≡◌ {A = ℕ} 0 1 = cc in
          omega arith

  pub gain_required : rule_set_of inc exc after rol (with_pair ps (pair_of R k)) ≡ gained (rule_set_of inc exc req rol ps) (Required B R k)
  unfolding Right
  gain_required =
      same_sets (λ r. rule_within r && noted inc exc after rol (with_pair ps (pair_of R k)) r)
      (λ r. same_rule (Required B R k) r || (rule_within r && noted inc exc req rol ps r)) (with_pair ps (pair_of R k)) (with_pair ps (pair_of R k)) each refl
    where
      each : (r : Rule) → (rule_within r && noted inc exc after rol (with_pair ps (pair_of R k)) r) ≡ (same_rule (Required B R k) r || (rule_within r && noted inc exc req rol ps r))
      each (Inclusion D E) = refl
      each (Exclusion D E) = refl
      each (Required D S m) = ⊎_elim (right_same D S m) (right_other D S m) (cases_Bool (same_pair (pair_of R k) (pair_of S m)))
      each (RoleInclusion S U) = refl

-- a rule r in range is q, which finds room and is gained: what every table keeps is kept, and what is held is as it should be
module _ (s t : RuleSet) (r q : Rule) (is : r ≡ q) (within : rule_within r ≡ true) (room : has_room s.pairs q ≡ true) (more : t ≡ gained s q) where
  pub kept : ∥ Proper s ∥₁ → ∥ Proper t ∥₁
  kept p = ∥∥₁_map p (λ z. subst Proper (sym more) (gained_proper s q (subst (λ (x : Rule). rule_within x ≡ true) is within) room z))

  pub held : t ≡ cond (has_room s.pairs r) (gained s r) s
  held = rw (is, room) more
