-- What the reading of some fields tells of them, and how that is put together field by field.
use Rattle.std.proofs.Common.{◌≡◌, ℕ, suc, ◌+◌, List, [], ◌∷◌, length, take, Some, None, Ok, Err, Option, Result, sym, refl, ap, ◌∙◌, subst, arith}
use Rattle.text.specs.declared.faults.Unreadable.{Unreadable}
use Rattle.text.specs.Lines.{Bytes}
use Rattle.text.specs.Tokens.{got, said, or_unreadable, others, at_end}
use Rattle.text.specs.Grammar.{and_then, two, three}
use Rattle.text.proofs.Spelling.{Spells}

-- fields that begin as well formed ones do, n of them
abbrev pub Starts : {C : Type 0} → (C → List Bytes → Type 0) → ℕ → List Bytes → Type 0
Starts {C} L k ws = (c : C) × (vs : List Bytes) × L c vs × (take k ws ≡ take k vs)

-- what a result tells of some fields, the first of which is the n-th, where L is what is well formed and what it says:
-- what the fields say, or how many of them are as in some well formed ones, while one more never is
abbrev pub Tells : {C : Type 0} → (C → List Bytes → Type 0) → ℕ → List Bytes → Result C Unreadable → Type 0
Tells L n ws (Ok c) = L c ws
Tells L n ws (Err e) = (k : ℕ) × (e.0 ≡ n + k) × Starts L k ws × (Starts L (suc k) ws → ⊥)

-- one field and what comes after it: M a is what is well formed after a field that says a
module _ {A C : Type 0} (form : Bytes → Option A) (text : A → Bytes) (ok : A → Type 0) (s : Spells form text ok)
    (L : C → List Bytes → Type 0) (M : A → C → List Bytes → Type 0)
    (enter : (a : A) (c : C) (vs : List Bytes) → ok a → M a c vs → L c (text a ∷ vs))
    (leave : (c : C) (ws : List Bytes) → L c ws → (a : A) × (vs : List Bytes) × ok a × (ws ≡ text a ∷ vs) × M a c vs)
    (some : (c : C) × (vs : List Bytes) × L c vs) (n : ℕ) where
  -- the field itself is wrong
  wrong : (ws : List Bytes) → ((a : A) → ok a → take 1 ws ≡ text a ∷ [] → ⊥) → Tells L n ws (Err (record { 0 = n }))
  wrong ws never = (
    0,
    omega arith,
    (some.0, some.1, some.2, refl),
    λ t.
        let h = leave t.0 t.1 t.2 in
        never h.0 h.2 (t.3 ∙ ap (take 1) h.3),
  )

  -- the field is right
  right : (w : Bytes) (ws : List Bytes) (a : A) (r : Result C Unreadable) → form w ≡ Some a → Tells (M a) (n + 1) ws r → Tells L n (w ∷ ws) r
  right w ws a (Ok c) f t =
      let h = s.to w a f in
      subst (λ v. L c (v ∷ ws)) (sym h.1) (enter a c ws h.0 t)
  right w ws a (Err e) f t = (suc t.0, omega (arith, t.1), (t.2.0, text a ∷ t.2.1, enter a t.2.0 t.2.1 h.0 t.2.2, rw (h.1, t.2.3) refl), never)
    where
      h : ok a × (w ≡ text a)
      h = s.to w a f

      never : Starts L (suc (suc t.0)) (w ∷ ws) → ⊥
      never u =
          let g = leave u.0 u.1 u.2 in
          let m : w ∷ take (suc t.0) ws ≡ text g.0 ∷ take (suc t.0) g.1 = u.3 ∙ ap (take (suc (suc t.0))) g.3 in
          let x : w ≡ text g.0 = cc in
          let y : take (suc t.0) ws ≡ take (suc t.0) g.1 = cc in
          let p = s.from g.0 g.2 in
          let q : form (text g.0) ≡ Some a = ap form (sym x) ∙ f in
          let z : g.0 ≡ a = cc in
          t.3 (u.0, g.1, subst (λ b. M b u.0 g.1) z g.4, y)

  pub tells_field : (ws : List Bytes) (f : A → Result C Unreadable) → ((a : A) → Tells (M a) (n + 1) (others ws) (f a)) → Tells L n ws (and_then (got form n ws) f)
  tells_field [] f t = wrong [] (λ a l e. let z : ◌≡◌ {A = ℕ} 0 1 = ap length e in omega arith)
  tells_field ([] ∷ ws) f t = wrong ([] ∷ ws) (λ a l e. let z : text a ≡ [] = cc in s.some a l z)
  tells_field ((b ∷ bs) ∷ ws) f t = by (form (b ∷ bs)) refl
    where
      by : (o : Option A) → form (b ∷ bs) ≡ o → Tells L n ((b ∷ bs) ∷ ws) (and_then (or_unreadable n o) f)
      by None e = wrong ((b ∷ bs) ∷ ws) (λ a l g.
          let x : b ∷ bs ≡ text a = cc in
          let y = s.from a l in
          let v = ap form x in
          let z : ◌≡◌ {A = ℕ} 0 1 = cc in omega arith)
      by (Some a) e = right (b ∷ bs) ws a (f a) e (t a)

-- the end of the fields
tells_end : {C : Type 0} (n : ℕ) (c : C) (ws : List Bytes) → Tells (λ d vs. (d ≡ c) × (vs ≡ [])) n ws (and_then (at_end n ws) (λ _. Ok c))
tells_end n c [] = (refl, refl)
tells_end n c (w ∷ ws) = (
  0,
  omega arith,
  (c, [], (refl, refl), refl),
  λ u.
      let z : ◌≡◌ {A = ℕ} 1 0 = ap length (u.3 ∙ ap (take 1) u.2.1) in omega arith,
)

-- two fields
module _ {A B : Type 0} {p : Bytes → Option A} {q : Bytes → Option B} {f : A → Bytes} {g : B → Bytes} {ok : A → Type 0} {fine : B → Type 0}
    (s : Spells p f ok) (t : Spells q g fine) where
  -- the fields of two values
  abbrev pub Both : A × B → List Bytes → Type 0
  Both v ws = ok v.0 × fine v.1 × (ws ≡ f v.0 ∷ (g v.1 ∷ []))

  abbrev Second : A → A × B → List Bytes → Type 0
  Second a v ws = (v.0 ≡ a) × fine v.1 × (ws ≡ g v.1 ∷ [])

  abbrev Neither : A → B → A × B → List Bytes → Type 0
  Neither a b v ws = (v ≡ (a, b)) × (ws ≡ [])

  pub tells_two : (ws : List Bytes) → Tells Both 2 ws (two p q ws)
  tells_two ws =
      let a₀ = s.one in
      let b₀ = t.one in
      tells_field p f ok s Both Second
      (λ a v vs l m. (subst ok (sym m.0) l, m.1, λ i. f (sym m.0 i) ∷ m.2 i))
      (λ v vs l. (v.0, g v.1 ∷ [], l.0, l.2, (refl, l.1, refl)))
      ((a₀.0, b₀.0), f a₀.0 ∷ (g b₀.0 ∷ []), (a₀.1, b₀.1, refl)) 2 ws _
      (λ a.
      tells_field q g fine t (Second a) (Neither a)
      (λ b v vs l m. (ap (λ (x : A × B). x.0) m.0, subst (λ (x : A × B). fine x.1) (sym m.0) l, λ i. g (sym m.0 i).1 ∷ m.1 i))
      (λ v vs l. (v.1, [], l.1, l.2, ((λ i. (l.0 i, v.1)), refl)))
      ((a, b₀.0), g b₀.0 ∷ [], (refl, b₀.1, refl)) 3 (others ws) _
      (λ b. tells_end 4 (a, b) (others (others ws))))

-- three fields
module _ {A B C : Type 0} {p : Bytes → Option A} {q : Bytes → Option B} {r : Bytes → Option C} {f : A → Bytes} {g : B → Bytes} {h : C → Bytes}
    {ok : A → Type 0} {fine : B → Type 0} {good : C → Type 0} (s : Spells p f ok) (t : Spells q g fine) (u : Spells r h good) where
  -- the fields of three values
  abbrev pub All : A × B × C → List Bytes → Type 0
  All v ws = ok v.0 × fine v.1 × good v.2 × (ws ≡ f v.0 ∷ (g v.1 ∷ (h v.2 ∷ [])))

  abbrev LastTwo : A → A × B × C → List Bytes → Type 0
  LastTwo a v ws = (v.0 ≡ a) × fine v.1 × good v.2 × (ws ≡ g v.1 ∷ (h v.2 ∷ []))

  abbrev LastOne : A → B → A × B × C → List Bytes → Type 0
  LastOne a b v ws = (v.0 ≡ a) × (v.1 ≡ b) × good v.2 × (ws ≡ h v.2 ∷ [])

  abbrev LastNone : A → B → C → A × B × C → List Bytes → Type 0
  LastNone a b c v ws = (v ≡ (a, b, c)) × (ws ≡ [])

  pub tells_three : (ws : List Bytes) → Tells All 2 ws (three p q r ws)
  tells_three ws =
      let a₀ = s.one in
      let b₀ = t.one in
      let c₀ = u.one in
      tells_field p f ok s All LastTwo
      (λ a v vs l m. (subst ok (sym m.0) l, m.1, m.2, λ i. f (sym m.0 i) ∷ m.3 i))
      (λ v vs l. (v.0, g v.1 ∷ (h v.2 ∷ []), l.0, l.3, (refl, l.1, l.2, refl)))
      ((a₀.0, b₀.0, c₀.0), f a₀.0 ∷ (g b₀.0 ∷ (h c₀.0 ∷ [])), (a₀.1, b₀.1, c₀.1, refl)) 2 ws _
      (λ a.
      tells_field q g fine t (LastTwo a) (LastOne a)
      (λ b v vs l m. (m.0, subst fine (sym m.1) l, m.2, λ i. g (sym m.1 i) ∷ m.3 i))
      (λ v vs l. (v.1, h v.2 ∷ [], l.1, l.3, (l.0, refl, l.2, refl)))
      ((a, b₀.0, c₀.0), g b₀.0 ∷ (h c₀.0 ∷ []), (refl, b₀.1, c₀.1, refl)) 3 (others ws) _
      (λ b.
      tells_field r h good u (LastOne a b) (LastNone a b)
      (λ c v vs l m. (
        ap (λ (x : A × B × C). x.0) m.0,
        ap (λ (x : A × B × C). x.1) m.0,
        subst (λ (x : A × B × C). good x.2) (sym m.0) l,
        λ i. h (sym m.0 i).2 ∷ m.1 i,
      ))
      (λ v vs l. (v.2, [], l.2, l.3, ((λ i. (l.0 i, l.1 i, v.2)), refl)))
      ((a, b, c₀.0), h c₀.0 ∷ [], (refl, refl, c₀.1, refl)) 4 (others (others ws)) _
      (λ c. tells_end 5 (a, b, c) (others (others (others ws))))))

-- a field of a value's text says the value
said_back : {A : Type 0} (form : Bytes → Option A) (n : ℕ) (w : Bytes) (a : A) → form w ≡ Some a → (w ≡ [] → ⊥) → said form n w ≡ Ok a
said_back form n [] a e some = absurd (some refl)
said_back form n (b ∷ bs) a e some = ap (or_unreadable n) e

pub got_back : {A : Type 0} {form : Bytes → Option A} {text : A → Bytes} {ok : A → Type 0} (s : Spells form text ok) (n : ℕ) (a : A) (ws : List Bytes) → ok a
    → got form n (text a ∷ ws) ≡ Ok a
got_back {form = form} {text = text} s n a ws l = said_back form n (text a) a (s.from a l) (s.some a l)
