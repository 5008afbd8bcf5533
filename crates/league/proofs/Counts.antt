-- How the count of a set changes as it gains one fact.
use Rattle.std.proofs.Common.{◌≡◌, ℕ, zero, suc, ◌+◌, ◌*◌, ◌<◌, ◌≤◌, Bool, true, false, ◌&&◌, eqb, ltb, sym, refl, ⊎_elim, suc-mul, arith}
use Rattle.std.proofs.lemmas.Bool.{cases_eq, eqb-true, ltb-true, and_parts}
use Rattle.std.proofs.lemmas.Bool.Decides.{nat_tests}
use Rattle.league.specs.Facts.{same, plus, one, sum_to, count_of, within}
use Rattle.league.specs.declared.facts.Fact.{Fact}
use Rattle.league.specs.declared.facts.Fact.TheVariants.{Is, Joins}

pub sum_cong : (n : ℕ) (f g : ℕ → ℕ) → ((i : ℕ) → i < n → f i ≡ g i) → sum_to n f ≡ sum_to n g
unfolding sum_to
sum_cong zero f g h = refl
sum_cong (suc n) f g h =
    let e : sum_to n f ≡ sum_to n g = sum_cong n f g (λ i l. h i (omega arith)) in
    let k : f n ≡ g n = h n (omega arith) in
    cc

pub sum_bump : (n j : ℕ) (f g : ℕ → ℕ) → j < n → f j ≡ g j + 1 → ((i : ℕ) → (i ≡ j → ⊥) → f i ≡ g i) → sum_to n f ≡ sum_to n g + 1
unfolding sum_to
sum_bump zero j f g l b h = omega arith
sum_bump (suc n) j f g l b h =
    ⊎_elim
    (λ e.
    let p : sum_to n f ≡ sum_to n g = sum_cong n f g (λ i k. h i (λ q. omega arith)) in
    let q : f n ≡ g n + 1 = rw e at b in
    omega arith)
    (λ ne.
    let p : sum_to n f ≡ sum_to n g + 1 = sum_bump n j f g (omega arith) b h in
    let q : f n ≡ g n = h n (λ e. ne (sym e)) in
    omega arith)
    (cases_eq j n)

pub same_self : (f : Fact) → same f f ≡ true
same_self (Is k a) = grind (arith, nat_tests)
same_self (Joins l a b) = grind (arith, nat_tests)

pub same_eq : (f g : Fact) → same f g ≡ true → f ≡ g
same_eq (Is k a) (Is m c) e =
    let p = and_parts (eqb k.0 m.0) (eqb a.0 c.0) e in
    let q = eqb-true k.0 m.0 p.0 in
    let r = eqb-true a.0 c.0 p.1 in
    λ i. Is (record { 0 = q i }) (record { 0 = r i })
same_eq (Is k a) (Joins m c d) e = cc
same_eq (Joins l a b) (Is m c) e = cc
same_eq (Joins l a b) (Joins m c d) e =
    let p = and_parts (eqb l.0 m.0) (eqb a.0 c.0 && eqb b.0 d.0) e in
    let p' = and_parts (eqb a.0 c.0) (eqb b.0 d.0) p.1 in
    let q = eqb-true l.0 m.0 p.0 in
    let r = eqb-true a.0 c.0 p'.0 in
    let s = eqb-true b.0 d.0 p'.1 in
    λ i. Joins (record { 0 = q i }) (record { 0 = r i }) (record { 0 = s i })

-- what a fact that a set gains counts, and what any other does
pub one_here : (f : Fact) (s : Fact → Bool) → s f ≡ false → one (plus f s f) ≡ one (s f) + 1
one_here f s e = rw (same_self f, e) refl

pub one_there : (f g : Fact) (s : Fact → Bool) → same f g ≡ false → one (plus f s g) ≡ one (s g)
one_there f g s e = rw e refl

pub count-gain : (n : ℕ) (s : Fact → Bool) (f : Fact) → within n f ≡ true → s f ≡ false → count_of n (plus f s) ≡ count_of n s + 1
count-gain n s (Is k a) w e =
    let p = and_parts (ltb k.0 64) (ltb a.0 n) w in
    let lk = ltb-true k.0 64 p.0 in
    let la = ltb-true a.0 n p.1 in
    let F : ℕ → ℕ → Fact = λ i j. Is (record { 0 = i }) (record { 0 = j }) in
    let inner : sum_to n (λ j. one (plus (Is k a) s (F k.0 j))) ≡ sum_to n (λ j. one (s (F k.0 j))) + 1 =
    sum_bump n a.0 (λ j. one (plus (Is k a) s (F k.0 j))) (λ j. one (s (F k.0 j))) la (one_here (Is k a) s e)
    (λ j ne. one_there (Is k a) (F k.0 j) s (grind (arith, nat_tests))) in
    let outer =
    sum_bump 64 k.0 (λ i. sum_to n (λ j. one (plus (Is k a) s (F i j)))) (λ i. sum_to n (λ j. one (s (F i j)))) lk inner
    (λ i ne. sum_cong n (λ j. one (plus (Is k a) s (F i j))) (λ j. one (s (F i j))) (λ j l. one_there (Is k a) (F i j) s (grind (arith, nat_tests)))) in
    omega (arith, outer)
count-gain n s (Joins l a b) w e =
    let p = and_parts (ltb l.0 32) (ltb a.0 n && ltb b.0 n) w in
    let p' = and_parts (ltb a.0 n) (ltb b.0 n) p.1 in
    let ll = ltb-true l.0 32 p.0 in
    let la = ltb-true a.0 n p'.0 in
    let lb = ltb-true b.0 n p'.1 in
    let F : ℕ → ℕ → ℕ → Fact = λ h i j. Joins (record { 0 = h }) (record { 0 = i }) (record { 0 = j }) in
    let in3 =
    sum_bump n b.0 (λ j. one (plus (Joins l a b) s (F l.0 a.0 j))) (λ j. one (s (F l.0 a.0 j))) lb (one_here (Joins l a b) s e)
    (λ j ne. one_there (Joins l a b) (F l.0 a.0 j) s (grind (arith, nat_tests))) in
    let in2 =
    sum_bump n a.0 (λ i. sum_to n (λ j. one (plus (Joins l a b) s (F l.0 i j)))) (λ i. sum_to n (λ j. one (s (F l.0 i j)))) la in3
    (λ i ne. sum_cong n (λ j. one (plus (Joins l a b) s (F l.0 i j))) (λ j. one (s (F l.0 i j))) (λ j k. one_there (Joins l a b) (F l.0 i j) s (grind (arith, nat_tests)))) in
    let in1 =
    sum_bump 32 l.0 (λ h. sum_to n (λ i. sum_to n (λ j. one (plus (Joins l a b) s (F h i j))))) (λ h. sum_to n (λ i. sum_to n (λ j. one (s (F h i j))))) ll in2
    (λ h ne.
    sum_cong n (λ i. sum_to n (λ j. one (plus (Joins l a b) s (F h i j)))) (λ i. sum_to n (λ j. one (s (F h i j))))
    (λ i k'. sum_cong n (λ j. one (plus (Joins l a b) s (F h i j))) (λ j. one (s (F h i j))) (λ j k. one_there (Joins l a b) (F h i j) s (grind (arith, nat_tests))))) in
    omega (arith, in1)

pub sum_none : (n : ℕ) → sum_to n (λ _. 0) ≡ 0
unfolding sum_to
sum_none zero = refl
sum_none (suc n) = rw (sum_none n) refl

pub count_none : (n : ℕ) → count_of n (λ _. false) ≡ 0
count_none n = simp sum_none

pub same_sym : (f g : Fact) → same f g ≡ same g f
same_sym (Is k a) (Is m c) = grind (arith, nat_tests)
same_sym (Is k a) (Joins m c d) = refl
same_sym (Joins l a b) (Is m c) = refl
same_sym (Joins l a b) (Joins m c d) = grind (arith, nat_tests)

pub one_le : (b : Bool) → one b ≤ 1
one_le true = omega arith
one_le false = omega arith

pub sum_le : (n m : ℕ) (f : ℕ → ℕ) → ((i : ℕ) → f i ≤ m) → sum_to n f ≤ n * m
unfolding sum_to
sum_le zero m f h = omega arith
sum_le (suc n) m f h = omega (arith, sum_le n m f h, h n, suc-mul n m)

pub count_le : (n : ℕ) (s : Fact → Bool) → count_of n s ≤ 64 * n + 32 * (n * n)
count_le n s =
    let k =
    sum_le 64 (n * 1) (λ i. sum_to n (λ j. one (s (Is (record { 0 = i }) (record { 0 = j })))))
    (λ i. sum_le n 1 (λ j. one (s (Is (record { 0 = i }) (record { 0 = j })))) (λ j. one_le _)) in
    let l =
    sum_le 32 (n * (n * 1)) (λ h. sum_to n (λ i. sum_to n (λ j. one (s (Joins (record { 0 = h }) (record { 0 = i }) (record { 0 = j }))))))
    (λ h. sum_le n (n * 1) (λ i. sum_to n (λ j. one (s (Joins (record { 0 = h }) (record { 0 = i }) (record { 0 = j })))))
    (λ i. sum_le n 1 (λ j. one (s (Joins (record { 0 = h }) (record { 0 = i }) (record { 0 = j })))) (λ j. one_le _))) in
    let e : n * 1 ≡ n = omega arith in
    let k' : _ ≤ 64 * n = rw e at k in
    let l' : _ ≤ 32 * (n * n) = rw e at l in
    omega (arith, k', l')
