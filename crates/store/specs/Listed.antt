-- Lemmas on the facts of a list and their number. They stand here, and not in proofs/, since the record store
-- carries the proof of what it keeps.
use Rattle.std.specs.Prelude.{◌≡◌, ℕ, ◌+◌, ◌<◌, ◌≤◌, min, Bool, true, false, not, ◌&&◌, ◌||◌, List, [], ◌∷◌, ◌++◌, length, take, drop, slice_index_or, slice_set, refl}
use Rattle.std.proofs.Common.{◌∙◌, subst, arith, ⊎_elim, length-set}
use Rattle.std.proofs.Math.Path.{fun_ext}
use Rattle.std.proofs.lemmas.List.{at_drop_more, take_more_set, length-take-le}
use Rattle.league.specs.declared.facts.Fact.TheVariants.{Is}
use Rattle.std.proofs.lemmas.Bool.{and_parts, or_parts, or_cases, not-true}
use Rattle.league.specs.declared.facts.Fact.{Fact}
use Rattle.league.specs.Facts.{same, plus, count_of, within}
use Rattle.store.specs.Holding.{count, gain, Sound}
use Rattle.league.proofs.Counts.{count-gain, count_none, same_sym, same_eq}
use Rattle.store.specs.Records.{listed, distinct, held}

pub listed_push : (xs : List Fact) (x g : Fact) → listed (xs ++ (x ∷ [])) g ≡ plus x (listed xs) g
listed_push [] x g = refl
listed_push (y ∷ ys) x g = rw (listed_push ys x g) (swap (same y g) (same x g) (listed ys g))
  where
    swap : (a b c : Bool) → (a || (b || c)) ≡ (b || (a || c))
    swap true true c = refl
    swap true false c = refl
    swap false true c = refl
    swap false false c = refl

pub count-listed : (n : ℕ) (xs : List Fact) → distinct n xs ≡ true → count_of n (listed xs) ≡ length xs
count-listed n [] e = count_none n
count-listed n (x ∷ xs) e =
    let p = and_parts (within n x) (not (listed xs x) && distinct n xs) e in
    let q = and_parts (not (listed xs x)) (distinct n xs) p.1 in
    let k = count-gain n (listed xs) x p.0 (not-true (listed xs x) q.0) in
    let h = count-listed n xs q.1 in
    omega (arith, k, h)

pub distinct_push : (n : ℕ) (xs : List Fact) (x : Fact) → distinct n xs ≡ true → within n x ≡ true → listed xs x ≡ false → distinct n (xs ++ (x ∷ [])) ≡ true
distinct_push n [] x e w l = rw w refl
distinct_push n (y ∷ ys) x e w l =
    let p = and_parts (within n y) (not (listed ys y) && distinct n ys) e in
    let q = and_parts (not (listed ys y)) (distinct n ys) p.1 in
    let o = or_parts (same y x) (listed ys x) l in
    let h = distinct_push n ys x q.1 w o.1 in
    let s : same x y ≡ false = same_sym x y ∙ o.0 in
    rw (p.0, listed_push ys x y, s, q.0, h) refl

pub listed_more : (xs : List Fact) (i : ℕ) (f : Fact) → i < length xs → listed (drop i xs) f ≡ (same (slice_index_or xs i (Is (record { 0 = 0 }) (record { 0 = 0 }))) f || listed (drop (i + 1) xs) f)
listed_more xs i f l = at_drop_more (λ ys. listed ys f) xs i (Is (record { 0 = 0 }) (record { 0 = 0 })) l

pub count_held : (n : ℕ) (xs : List Fact) (len : ℕ) → len ≤ min (length xs) 65535 → distinct n (take len xs) ≡ true → count (held n xs len) ≡ len
count_held n xs len l e = count-listed n (take len xs) e ∙ length-take-le len xs (omega arith)

pub held-put : (n : ℕ) (xs : List Fact) (len : ℕ) (x : Fact) → len < length xs → held n (slice_set xs len x) (len + 1) ≡ gain (held n xs len) x
held-put n xs len x l =
    let a : min (length (slice_set xs len x)) 65535 ≡ min (length xs) 65535 = rw length-set refl in
    let b : listed (take (len + 1) (slice_set xs len x)) ≡ plus x (listed (take len xs)) =
    fun_ext (λ g. rw (take_more_set xs len x l) (listed_push (take len xs) x g)) in
    λ i. record { names = n; limit = a i; facts = b i }

-- where the store is not full there is a record left
pub room_left : (n : ℕ) (xs : List Fact) (len : ℕ) → len ≤ min (length xs) 65535 → distinct n (take len xs) ≡ true → count (held n xs len) < min (length xs) 65535 → len < min (length xs) 65535
room_left n xs len l e h = omega (arith, h, count_held n xs len l e)

-- what a record store keeps as it gains a record
pub kept : (n : ℕ) (xs : List Fact) (len : ℕ) (x : Fact) → len < min (length xs) 65535 → distinct n (take len xs) ≡ true → within n x ≡ true → listed (take len xs) x ≡ false → distinct n (take (len + 1) (slice_set xs len x)) ≡ true
kept n xs len x l e w f = rw (take_more_set xs len x (omega arith)) (distinct_push n (take len xs) x e w f)

pub listed-within : (n : ℕ) (xs : List Fact) → distinct n xs ≡ true → (f : Fact) → listed xs f ≡ true → within n f ≡ true
listed-within n [] e f l = cc
listed-within n (x ∷ xs) e f l =
    let p = and_parts (within n x) (not (listed xs x) && distinct n xs) e in
    let q = and_parts (not (listed xs x)) (distinct n xs) p.1 in
    ⊎_elim (λ s. subst (λ (y : Fact). within n y ≡ true) (same_eq x f s) p.0) (λ t. listed-within n xs q.1 f t) (or_cases (same x f) (listed xs f) l)

pub held_sound : (n : ℕ) (xs : List Fact) (len : ℕ) → n ≤ 1024 → len ≤ min (length xs) 65535 → distinct n (take len xs) ≡ true → Sound (held n xs len)
held_sound n xs len s l e =
    record { few = s; room = omega (arith, count_held n xs len l e); range = listed-within n (take len xs) e }
