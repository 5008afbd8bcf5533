-- Searches below a number, rows that are made of a test, and sets to which a test's numbers are added.
use Rattle.std.proofs.Common.{◌≡◌, ℕ, zero, suc, ◌+◌, ◌<◌, ◌≤◌, Bool, true, false, ◌&&◌, ◌||◌, T, IsTrue, Option, Some, None, ltb, List, length, get_or, set, sym, refl, ap, ◌∙◌, subst, inl, inr, ⊎_elim, arith, length-set}
use native.Mathlib.Decide.{ℕ_discrete}
use Rattle.std.proofs.lemmas.List.{get_or-set_same, get_or-set_other, get_or_past}
use Rattle.std.proofs.lemmas.Bool.{cases_eq, cases_lt, lt-ltb, le-ltb}
use Rattle.std.proofs.iter.Yields.{nat_range_steps}
use Rattle.std.proofs.iter.runs.Sources.{range_runs}
use Rattle.std.specs.Array.{IsFromFnResult, IsFromFnResultFrom}
use Rattle.std.specs.Bool.{MatchBool}
use Rattle.std.specs.Fn.{Called}
use Rattle.std.specs.Iterator.Runs.{SomeRun, AnyItemGives, AllItemsGive}
use Rattle.std.specs.Option.{IfSome, IsSomeAnd, option_map}
use Rattle.std.specs.declared.ops.Range.{Range}
use denote.Param.Members.{Mut}
use Rattle.rules.proofs.Marked.{T_true}
use Rattle.model.specs.Rows.{some_below, Filled}
use Rattle.model.proofs.Tests.{or_either, or_left, or_right}

pub some_found : (n : ℕ) (q : ℕ → Bool) → T (some_below n q) → (c : ℕ) × (c < n) × T (q c)
unfolding some_below
some_found zero q h = absurd h
some_found (suc n) q h = elim (or_either (some_below n q) (q n) h) [
  | inl g ↦ let p = some_found n q g in (p.0, omega (arith, p.1), p.2)
  | inr g ↦ (n, omega arith, g)
]

pub some_at : (n : ℕ) (q : ℕ → Bool) (c : ℕ) → c < n → T (q c) → T (some_below n q)
unfolding some_below
some_at zero q c l h = absurd (omega arith)
some_at (suc n) q c l h = elim (ℕ_discrete c n) [
  | yes e ↦ or_right (some_below n q) (q n) (subst (λ k. T (q k)) e h)
  | no u ↦ or_left (some_below n q) (q n) (some_at n q c (omega arith) h)
]

-- a search that has found something
pub some_true : (n : ℕ) (q : ℕ → Bool) (c : ℕ) → c < n → q c ≡ true → some_below n q ≡ true
some_true n q c l e = T_true _ (some_at n q c l (subst T (sym e) tt))

-- a search that has found nothing
pub some_false : (n : ℕ) (q : ℕ → Bool) → ((c : ℕ) → c < n → q c ≡ false) → some_below n q ≡ false
unfolding some_below
some_false zero q e = refl
some_false (suc n) q e = λ i. some_false n q (λ c l. e c (omega arith)) i || e n (omega arith) i

item_both : {P Q : ℕ → Type 0} (o : Option ℕ) → IfSome o P → IsSomeAnd o Q → (x : ℕ) × P x × Q x
item_both None h g = absurd g
item_both (Some x) h g = (x, h, g)

item_at : (P : ℕ → Type 0) (o : Option ℕ) (c : ℕ) → IfSome o P → option_map (λ y. y) o ≡ Some c → P c
item_at P None c h e = absurd (cc)
item_at P (Some x) c h e = let s : x ≡ c = cc in subst P s h

-- `any` over the numbers below n, at a closure that computes a test, is the search for a number that the test holds of
pub some_any : {F : Type 0} {g : Mut F (ℕ × Unit {0}) Bool} {f : F} {r : Bool} {s : Range ℕ} {n : ℕ} (q : ℕ → Bool)
    → SomeRun nat_range_steps s (λ p. MatchBool r (AnyItemGives p g f true) (IsTrue p.whole × AllItemsGive p g f false))
    → s.start ≡ 0 → s.end ≡ n → ((x : ℕ) (b : Bool) (h : F) → Called g f (x, tt) b h → (h ≡ f) × (b ≡ q x)) → r ≡ some_below n q
some_any {g = g} {f = f} {r = true} {n = n} q run low high calls =
    let p = run.0 in
    let all = range_runs p p.seen in
    let hit = run.2 (λ a b h k. (calls a.0 b h k).0) in
    let x = item_both (p.at hit.0) (all.2 hit.0) hit.2 in
    let e : p.from.end ≡ n = ap (λ (s : Range ℕ). s.end) run.1 ∙ high in
    sym (some_true n q x.0 (omega (arith, x.1.1, e)) (sym (calls x.0 true f x.2).1))
some_any {g = g} {f = f} {r = false} {n = n} q run low high calls =
    let p = run.0 in
    let all = range_runs p p.seen in
    let miss = run.2.1 (λ a b h k. (calls a.0 b h k).0) in
    let e : p.from.end ≡ n = ap (λ (s : Range ℕ). s.end) run.1 ∙ high in
    let z : p.from.start ≡ 0 = ap (λ (s : Range ℕ). s.start) run.1 ∙ low in
    sym (some_false n q (λ c l.
    let at : option_map (λ y. y) (p.at c) ≡ Some (p.from.start + c) = all.3 c (omega (arith, all.1 run.2.0)) in
    sym (calls c false f (item_at (λ x. Called g f (x, tt) false f) (p.at c) c (miss c) (at ∙ ap Some (omega arith)))).1))

-- a row of flags that a closure tells
module _ {F : Type 0} (g : Mut F (ℕ × Unit {0}) Bool) (f : F) (q : ℕ → Bool) (calls : (i : ℕ) (b : Bool) (h : F) → Called g f (i, tt) b h → (h ≡ f) × (b ≡ q i)) where
  told_from : (row : List Bool) (i n k : ℕ) → IsFromFnResultFrom g f row i n → i ≤ k → k < i + n → get_or row k false ≡ q k
  told_from row i zero k m l u = absurd (omega arith)
  told_from row i (suc n) k m l u = elim (ℕ_discrete k i) [
    | yes e ↦ subst (λ j. get_or row j false ≡ q j) (sym e) (m.2.1 false ∙ (calls i m.1 m.0 m.3).1)
    | no v ↦ told_from row (i + 1) n k (subst (λ h. IsFromFnResultFrom g h row (i + 1) n) (calls i m.1 m.0 m.3).0 m.4) (omega arith) (omega arith)
  ]

pub filled_by : {F : Type 0} {g : Mut F (ℕ × Unit {0}) Bool} {f : F} {n : ℕ} {row : List Bool} (q : ℕ → Bool) → IsFromFnResult g f row n
    → ((i : ℕ) (b : Bool) (h : F) → Called g f (i, tt) b h → (h ≡ f) × (b ≡ q i)) → Filled row n q
filled_by {g = g} {f = f} {n = n} {row = row} q m calls c = ⊎_elim
    (λ l. told_from g f q calls row 0 n c m.each (omega arith) (omega arith) ∙ sym (ap (λ t. t && q c) (lt-ltb c n l)))
    (λ l. get_or_past row c false (omega (arith, m.long)) ∙ sym (ap (λ t. t && q c) (le-ltb c n l)))
    (cases_lt c n)

and_none : (b : Bool) → (b && false) ≡ false
and_none true = refl
and_none false = refl

-- a row of which only the first n flags tell a test
pub filled_low : {n m : ℕ} (row : List Bool) (q : ℕ → Bool) → n ≤ m → Filled row m (λ c. ltb c n && q c) → Filled row n q
filled_low {n} {m} row q l f c = f c ∙ ⊎_elim
    (λ h. ap (λ t. t && (ltb c n && q c)) (lt-ltb c m (omega arith)))
    (λ h. ap (λ t. ltb c m && (t && q c)) (le-ltb c n h) ∙ and_none (ltb c m) ∙ sym (ap (λ t. t && q c) (le-ltb c n h)))
    (cases_lt c n)

-- searches for tests that agree
pub some_same : (n : ℕ) (p q : ℕ → Bool) → ((c : ℕ) → c < n → p c ≡ q c) → some_below n p ≡ some_below n q
unfolding some_below
some_same zero p q e = refl
some_same (suc n) p q e = λ i. some_same n p q (λ c l. e c (omega arith)) i || e n (omega arith) i

-- a set to which a test's numbers below n have been added
pub record Spread (old now : List Bool) (n : ℕ) (q : ℕ → Bool) : Type 0 where
  pub long : length now ≡ length old
  pub flags : (k : ℕ) → k < length old → get_or now k false ≡ (get_or old k false || (ltb k n && q k))

or_none : (b : Bool) → b ≡ (b || false)
or_none true = refl
or_none false = refl

pub spread_none : (old : List Bool) (q : ℕ → Bool) → Spread old old 0 q
spread_none old q = record {
  long = refl;
  flags = λ k l. or_none (get_or old k false) ∙ sym (ap (λ t. get_or old k false || (t && q k)) (le-ltb k 0 (omega arith)));
}

pub spread_more : (old now : List Bool) (n : ℕ) (q : ℕ → Bool) (b : Bool) → Spread old now n q → n < length old → b ≡ (get_or now n false || q n) → Spread old (set now n b) (n + 1) q
spread_more old now n q b s l e = record {
  long = length-set now n b ∙ s.long;
  flags = λ k h. ⊎_elim
      (λ same. ap (λ i. get_or (set now n b) i false) same ∙ (get_or-set_same now n b false (omega (arith, s.long)) ∙ (e ∙ (own ∙ ap (λ i. get_or old i false || (ltb i (n + 1) && q i)) (sym same)))))
      (λ other. get_or-set_other now n k b false other ∙ (s.flags k h ∙ ap (λ t. get_or old k false || (t && q k)) (next k other)))
      (cases_eq k n);
}
  where
    own : (get_or now n false || q n) ≡ (get_or old n false || (ltb n (n + 1) && q n))
    own = ap (λ t. t || q n) (s.flags n l ∙ (ap (λ t. get_or old n false || (t && q n)) (le-ltb n n (omega arith)) ∙ sym (or_none (get_or old n false))))
        ∙ sym (ap (λ t. get_or old n false || (t && q n)) (lt-ltb n (n + 1) (omega arith)))

    next : (k : ℕ) → (k ≡ n → ⊥) → ltb k n ≡ ltb k (n + 1)
    next k u = ⊎_elim (λ h. lt-ltb k n h ∙ sym (lt-ltb k (n + 1) (omega arith))) (λ h. le-ltb k n h ∙ sym (le-ltb k (n + 1) (omega arith))) (cases_lt k n)

pub spread_end : (old now : List Bool) (n : ℕ) (q : ℕ → Bool) → Spread old now n q → length old ≤ n → (k : ℕ) → k < length old → get_or now k false ≡ (get_or old k false || q k)
spread_end old now n q s l k h = s.flags k h ∙ ap (λ t. get_or old k false || (t && q k)) (lt-ltb k n (omega arith))
