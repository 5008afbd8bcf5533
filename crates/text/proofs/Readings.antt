-- What the reading of a line tells, by the letter that it begins with.
use Rattle.std.proofs.Common.{◌≡◌, ℕ, suc, ◌-◌, ◌≤◌, true, false, cond, eqb, List, [], ◌∷◌, length, take, Ok, Err, Option, Result, sym, refl, ap, ◌∙◌, subst, ⊎_elim, true≢false, arith}
use Rattle.std.proofs.lemmas.Bool.{cases_Bool, eqb-true, eq-eqb}
use Rattle.league.specs.declared.facts.Fact.TheVariants as fact
use Rattle.league.specs.declared.rules.Rule.TheVariants.{Inclusion, Exclusion, Required, RoleInclusion}
use Rattle.certain.specs.declared.calls.Call.{Call}
use Rattle.certain.specs.declared.calls.Call.TheVariants.{EnterFact, EnterRule}
use Rattle.text.specs.declared.faults.Unreadable.{Unreadable}
use Rattle.text.specs.Lines.{Bytes, fields}
use Rattle.text.specs.Grammar.{and_then, two, three, by_letter, reading}
use Rattle.text.specs.Written.{Short, written, spaced, Begins, Means}
use Rattle.text.proofs.Spaces.{spaced-fields, fields-written}
use Rattle.text.proofs.Spelling.{Spells, spells_number, spells_kind, spells_role, spells_mark}
use Rattle.text.proofs.Tells.{Starts, Tells, tells_two, tells_three, got_back, Both, All}

-- reading what is written of two values, or of three
two_back : {A B : Type 0} {p : Bytes → Option A} {q : Bytes → Option B} {f : A → Bytes} {g : B → Bytes} {ok : A → Type 0} {fine : B → Type 0}
    (s : Spells p f ok) (t : Spells q g fine) (a : A) (b : B) → ok a → fine b → two p q (f a ∷ (g b ∷ [])) ≡ Ok (a, b)
two_back {g = g} s t a b l m = rw (got_back s 2 a (g b ∷ []) l, got_back t 3 b [] m) refl

three_back : {A B C : Type 0} {p : Bytes → Option A} {q : Bytes → Option B} {r : Bytes → Option C} {f : A → Bytes} {g : B → Bytes} {h : C → Bytes}
    {ok : A → Type 0} {fine : B → Type 0} {good : C → Type 0} (s : Spells p f ok) (t : Spells q g fine) (u : Spells r h good) (a : A) (b : B) (c : C)
    → ok a → fine b → good c → three p q r (f a ∷ (g b ∷ (h c ∷ []))) ≡ Ok (a, b, c)
three_back {g = g} {h = h} s t u a b c l m n = rw (got_back s 2 a (g b ∷ (h c ∷ [])) l, got_back t 3 b (h c ∷ []) m, got_back u 4 c [] n) refl

-- reading what is written gives the call back
reads_back : (c : Call) → Short c → reading (written c) ≡ Ok c
reads_back (EnterFact (fact.Is kind name)) l = rw (two_back spells_number spells_number kind.0 name.0 l.0 l.1) refl
reads_back (EnterFact (fact.Joins link from to)) l =
    rw (three_back spells_number spells_number spells_number link.0 from.0 to.0 l.0 l.1 l.2) refl
reads_back (EnterRule (Inclusion first second)) l = rw (two_back spells_mark spells_mark first second l.0 l.1) refl
reads_back (EnterRule (Exclusion first second)) l = rw (two_back spells_mark spells_mark first second l.0 l.1) refl
reads_back (EnterRule (Required mark role kind)) l = rw (three_back spells_mark spells_role spells_kind mark role kind l.0 l.1 l.2) refl
reads_back (EnterRule (RoleInclusion first second)) l = rw (two_back spells_role spells_role first second l.0 l.1) refl

-- the fields of a call's line
abbrev Line : Call → List Bytes → Type 0
Line c ws = Short c × (ws ≡ written c)

-- a line of one letter: P reads the fields after it
module _ {T : Type 0} (L : T → List Bytes → Type 0) (P : List Bytes → Result T Unreadable) (make : T → Call) (x : ℕ)
    (tells : (ws : List Bytes) → Tells L 2 ws (P ws))
    (enter : (t : T) (vs : List Bytes) → L t vs → Line (make t) ((x ∷ []) ∷ vs))
    (is : (vs : List Bytes) → by_letter x vs ≡ and_then (P vs) (λ t. Ok (make t))) where
  -- fields that a call's line has after the letter are well formed
  leaves : (c : Call) (vs : List Bytes) (r : Result T Unreadable) → Tells L 2 vs r → and_then r (λ t. Ok (make t)) ≡ Ok c → (t : T) × L t vs
  leaves c vs (Ok t) h e = (t, h)
  leaves c vs (Err f) h e = absurd (let z : ◌≡◌ {A = ℕ} 0 1 = cc in omega arith)

  never : (k : ℕ) (ws us : List Bytes) (c : Call) → (Starts L (suc k) ws → ⊥) → Line c us → take (suc (suc k)) ((x ∷ []) ∷ ws) ≡ take (suc (suc k)) us → ⊥
  never k ws [] c h l e = let z : suc (length (take (suc k) ws)) ≡ 0 = ap length e in omega arith
  never k ws (v ∷ vs) c h l e =
      let y : x ∷ [] ≡ v = cc in
      let z : take (suc k) ws ≡ take (suc k) vs = cc in
      let m = leaves c vs (P vs) (tells vs) (sym (is vs) ∙ (ap (λ w. reading (w ∷ vs)) y ∙ (ap reading l.1 ∙ reads_back c l.0))) in
      h (m.0, vs, m.1, z)

  tells_line : (ws : List Bytes) → Tells Line 1 ((x ∷ []) ∷ ws) (by_letter x ws)
  tells_line ws = subst (Tells Line 1 ((x ∷ []) ∷ ws)) (sym (is ws)) (by (P ws) (tells ws))
    where
      by : (r : Result T Unreadable) → Tells L 2 ws r → Tells Line 1 ((x ∷ []) ∷ ws) (and_then r (λ t. Ok (make t)))
      by (Ok t) h = enter t ws h
      by (Err e) h =
          let s = h.2 in
          (suc h.0, omega (arith, h.1), (make s.0, (x ∷ []) ∷ s.1, enter s.0 s.1 s.2, ap (λ w. (x ∷ []) ∷ w) s.3), λ u. never h.0 ws u.1 u.0 h.3 u.2 u.3)

-- a line of one letter and two fields
two_line : {A B : Type 0} {p : Bytes → Option A} {q : Bytes → Option B} {f : A → Bytes} {g : B → Bytes} {ok : A → Type 0} {fine : B → Type 0}
    (s : Spells p f ok) (t : Spells q g fine) (make : A × B → Call) (x : ℕ)
    → ((vs : List Bytes) → by_letter x vs ≡ and_then (two p q vs) (λ v. Ok (make v)))
    → ((v : A × B) → ok v.0 × fine v.1 → Short (make v))
    → ((v : A × B) → (x ∷ []) ∷ (f v.0 ∷ (g v.1 ∷ [])) ≡ written (make v))
    → (ws : List Bytes) → Tells Line 1 ((x ∷ []) ∷ ws) (by_letter x ws)
two_line {p = p} {q = q} s t make x is short writes ws =
    tells_line (Both s t) (two p q) make x (tells_two s t) (λ v vs h. (short v (h.0, h.1), ap (λ us. (x ∷ []) ∷ us) h.2 ∙ writes v)) is ws

-- and three
three_line : {A B C : Type 0} {p : Bytes → Option A} {q : Bytes → Option B} {r : Bytes → Option C} {f : A → Bytes} {g : B → Bytes} {h : C → Bytes}
    {ok : A → Type 0} {fine : B → Type 0} {good : C → Type 0} (s : Spells p f ok) (t : Spells q g fine) (u : Spells r h good) (make : A × B × C → Call) (x : ℕ)
    → ((vs : List Bytes) → by_letter x vs ≡ and_then (three p q r vs) (λ v. Ok (make v)))
    → ((v : A × B × C) → ok v.0 × fine v.1 × good v.2 → Short (make v))
    → ((v : A × B × C) → (x ∷ []) ∷ (f v.0 ∷ (g v.1 ∷ (h v.2 ∷ []))) ≡ written (make v))
    → (ws : List Bytes) → Tells Line 1 ((x ∷ []) ∷ ws) (by_letter x ws)
three_line {p = p} {q = q} {r = r} s t u make x is short writes ws =
    tells_line (All s t u) (three p q r) make x (tells_three s t u) (λ v vs h. (short v (h.0, h.1, h.2), ap (λ us. (x ∷ []) ∷ us) h.3 ∙ writes v)) is ws

-- the letter of a call's line
abbrev letter_of : Call → ℕ
letter_of (EnterFact (fact.Is kind name)) = 75
letter_of (EnterFact (fact.Joins link from to)) = 76
letter_of (EnterRule (Inclusion first second)) = 82
letter_of (EnterRule (Exclusion first second)) = 78
letter_of (EnterRule (Required mark role kind)) = 83
letter_of (EnterRule (RoleInclusion first second)) = 72

first_field : (c : Call) → take 1 (written c) ≡ (letter_of c ∷ []) ∷ []
first_field (EnterFact (fact.Is kind name)) = refl
first_field (EnterFact (fact.Joins link from to)) = refl
first_field (EnterRule (Inclusion first second)) = refl
first_field (EnterRule (Exclusion first second)) = refl
first_field (EnterRule (Required mark role kind)) = refl
first_field (EnterRule (RoleInclusion first second)) = refl

-- a byte that is none of the six
abbrev Other : ℕ → Type 0
Other x = (x ≡ 75 → ⊥) × (x ≡ 76 → ⊥) × (x ≡ 82 → ⊥) × (x ≡ 78 → ⊥) × (x ≡ 83 → ⊥) × (x ≡ 72 → ⊥)

other_letter : (x : ℕ) → Other x → (c : Call) → x ≡ letter_of c → ⊥
other_letter x o (EnterFact (fact.Is kind name)) e = o.0 e
other_letter x o (EnterFact (fact.Joins link from to)) e = o.1 e
other_letter x o (EnterRule (Inclusion first second)) e = o.2 e
other_letter x o (EnterRule (Exclusion first second)) e = o.3 e
other_letter x o (EnterRule (Required mark role kind)) e = o.4 e
other_letter x o (EnterRule (RoleInclusion first second)) e = o.5 e

-- no call's line begins with this field
wrong_letter : (ws : List Bytes) → ((c : Call) → take 1 ws ≡ (letter_of c ∷ []) ∷ [] → ⊥) → Tells Line 1 ws (Err (record { 0 = 1 }))
wrong_letter ws none =
    let c : Call = EnterFact (fact.Is (record { 0 = 0 }) (record { 0 = 0 })) in
    (0, refl, (c, written c, ((omega arith, omega arith), refl), refl), λ u. none u.0 (u.3 ∙ (ap (take 1) u.2.1 ∙ first_field u.0)))

-- one letter, or another
choose : (x y : ℕ) (ws : List Bytes) (r s : Result Call Unreadable) → Tells Line 1 ((y ∷ []) ∷ ws) r → ((x ≡ y → ⊥) → Tells Line 1 ((x ∷ []) ∷ ws) s)
    → Tells Line 1 ((x ∷ []) ∷ ws) (cond (eqb x y) r s)
choose x y ws r s h k =
    ⊎_elim
    (λ e. rw e (subst (λ z. Tells Line 1 ((z ∷ []) ∷ ws) r) (sym (eqb-true x y e)) h))
    (λ e. rw e (k (λ z. let n : eqb x y ≡ true = eq-eqb x y z in let f : true ≡ false = sym n ∙ e in absurd (true≢false f))))
    (cases_Bool (eqb x y))

by_letter_lem : (x : ℕ) (ws : List Bytes) → Tells Line 1 ((x ∷ []) ∷ ws) (by_letter x ws)
by_letter_lem x ws =
    let n = spells_number in
    let m = spells_mark in
    let r = spells_role in
    let k = spells_kind in
    choose x 75 ws _ _ (two_line n n (λ v. EnterFact (fact.Is (record { 0 = v.0 }) (record { 0 = v.1 }))) 75 (λ _. refl) (λ _ l. l) (λ _. refl) ws) (λ n₀.
    choose x 76 ws _ _ (three_line n n n (λ v. EnterFact (fact.Joins (record { 0 = v.0 }) (record { 0 = v.1 }) (record { 0 = v.2 }))) 76 (λ _. refl) (λ _ l. l) (λ _. refl) ws) (λ n₁.
    choose x 82 ws _ _ (two_line m m (λ v. EnterRule (Inclusion v.0 v.1)) 82 (λ _. refl) (λ _ l. l) (λ _. refl) ws) (λ n₂.
    choose x 78 ws _ _ (two_line m m (λ v. EnterRule (Exclusion v.0 v.1)) 78 (λ _. refl) (λ _ l. l) (λ _. refl) ws) (λ n₃.
    choose x 83 ws _ _ (three_line m r k (λ v. EnterRule (Required v.0 v.1 v.2)) 83 (λ _. refl) (λ _ l. l) (λ _. refl) ws) (λ n₄.
    choose x 72 ws _ _ (two_line r r (λ v. EnterRule (RoleInclusion v.0 v.1)) 72 (λ _. refl) (λ _ l. l) (λ _. refl) ws) (λ n₅.
    wrong_letter ((x ∷ []) ∷ ws) (λ c e. let z : x ≡ letter_of c = cc in other_letter x (n₀, n₁, n₂, n₃, n₄, n₅) c z)))))))

tells_reading : (ws : List Bytes) → Tells Line 1 ws (reading ws)
tells_reading [] = wrong_letter [] (λ c e. let z : ◌≡◌ {A = ℕ} 0 1 = ap length e in omega arith)
tells_reading ([] ∷ ws) = wrong_letter ([] ∷ ws) (λ c e. let z : [] ≡ letter_of c ∷ [] = cc in let y : ◌≡◌ {A = ℕ} 0 1 = ap length z in omega arith)
tells_reading ((x ∷ []) ∷ ws) = by_letter_lem x ws
tells_reading ((x ∷ (y ∷ ys)) ∷ ws) =
    wrong_letter ((x ∷ (y ∷ ys)) ∷ ws) (λ c e.
    let z : x ∷ (y ∷ ys) ≡ letter_of c ∷ [] = cc in let o : suc (suc (length ys)) ≡ 1 = ap length z in omega arith)

-- what the reading of a line means
pub means : (line : Bytes) (r : Result Call Unreadable) → r ≡ reading (fields line) → Means line r
means line r e =
    record {
      readable = λ c f.
          let h : Line c (fields line) = subst (Tells Line 1 (fields line)) (sym e ∙ f) (tells_reading (fields line)) in
          (h.0, sym (spaced-fields line) ∙ ap spaced h.1);
      back = λ c l f. e ∙ (ap (λ s. reading (fields s)) f ∙ (ap reading (fields-written c l) ∙ reads_back c l));
      unreadable = λ n f. wrong n (subst (Tells Line 1 (fields line)) (sym e ∙ f) (tells_reading (fields line)));
    }
  where
    wrong : (n : ℕ) → Tells Line 1 (fields line) (Err (record { 0 = n })) → (1 ≤ n) × Begins (n - 1) (fields line) × (Begins n (fields line) → ⊥)
    wrong n h =
        let k : n - 1 ≡ h.0 = omega (arith, h.1) in
        let m : n ≡ suc h.0 = omega (arith, h.1) in
        let s = h.2 in (
          omega arith,
          (s.0, s.2.0, rw k (s.3 ∙ ap (take h.0) s.2.1)),
          λ b. h.3 (b.0, written b.0, (b.1, refl), subst (λ j. take j (fields line) ≡ take j (written b.0)) m b.2),
        )
