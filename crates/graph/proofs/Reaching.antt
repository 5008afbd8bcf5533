-- The reach search: what its sets keep from turn to turn, and what they hold at its end.
use Rattle.std.proofs.Common.{◌≡◌, ℕ, zero, suc, ◌+◌, ◌<◌, ◌≤◌, Option, None, Some, Bool, true, false, cond, not, ◌&&◌, ◌||◌, T, ◌⊎◌, List, [], ◌∷◌, length, get_or, set, replicate, count_by, sym, refl, ◌∙◌, subst, inl, inr, ⊎_elim, arith, length-set, MatchOption}
use lib.ListN.{length-replicate}
use Rattle.std.proofs.lemmas.List.{get_or-set_other, get_or-replicate, get_or_past}
use Rattle.std.proofs.lemmas.List.Sums.{sum_by-set}
use Rattle.std.proofs.lemmas.Bool.{cases_eq, cases_lt}
use Rattle.graph.specs.Paths.{In, Step, Star, Reached, Tells, here, then}

-- what is in a set is below its length
pub in_below : (xs : List Bool) (k : ℕ) → In xs k → k < length xs
in_below [] k t = absurd t
in_below (x ∷ xs) zero t = omega arith
in_below (x ∷ xs) (suc k) t = omega (arith, in_below xs k t)

-- whether a node of a set is not finished
abbrev pub is_open : List Bool → List Bool → ℕ → Bool
is_open found finished k = get_or found k false && not (get_or finished k false)

set_and_not : (x y : Bool) → (x && not y) ≡ true → T x × (y ≡ false)
set_and_not false y e = absurd (subst T (sym e) tt)
set_and_not true false e = (tt, refl)
set_and_not true true e = absurd (subst T (sym e) tt)

set_so_both : (x y : Bool) → (x && not y) ≡ false → T x → T y
set_so_both false y e t = absurd t
set_so_both true true e t = tt
set_so_both true false e t = absurd (subst T e tt)

-- what the first open number below the length of a set tells of the set
pub first_open : (found finished : List Bool) (r : Option ℕ)
    → MatchOption r ((k : ℕ) → 0 ≤ k → k < length found → is_open found finished k ≡ false) (λ i. (0 ≤ i) × (i < length found) × (is_open found finished i ≡ true) × ((k : ℕ) → 0 ≤ k → k < i → is_open found finished k ≡ false))
    → MatchOption r ((k : ℕ) → In found k → In finished k) (λ i. (i < length found) × In found i × (get_or finished i false ≡ false))
first_open found finished None h = λ k t.
    set_so_both (get_or found k false) (get_or finished k false) (h k (omega arith) (in_below found k t)) t
first_open found finished (Some i) h =
    let b = set_and_not (get_or found i false) (get_or finished i false) h.2 in
    (h.1, b.0, b.1)

-- one of two tests
pub or_in : (x y : Bool) → T (x || y) → T x ⊎ T y
or_in true y t = inl tt
or_in false y t = inr t

pub in_left : (x y : Bool) → T x → T (x || y)
in_left true y t = tt
in_left false y t = absurd t

pub in_right : (x y : Bool) → T y → T (x || y)
in_right true y t = tt
in_right false y t = t

same_in : (x y : Bool) → x ≡ y → T y → T x
same_in x y e t = subst T (sym e) t

-- nothing is in a set of unset flags
none_in : (n k : ℕ) → In (replicate n false) k → ⊥
none_in n k t =
    ⊎_elim
    (λ l. same_in false (get_or (replicate n false) k false) (sym (get_or-replicate n k false false l)) t)
    (λ l. same_in false (get_or (replicate n false) k false) (sym (get_or_past (replicate n false) k false (rw (length-replicate n false) l))) t)
    (cases_lt k n)

-- what is in a set with one node more
more_in : (xs : List Bool) (i k : ℕ) → In (set xs i true) k → (k ≡ i) ⊎ In xs k
more_in xs i k t =
    ⊎_elim inl
    (λ ne. inr (same_in (get_or xs k false) (get_or (set xs i true) k false) (sym (get_or-set_other xs i k true false ne)) t))
    (cases_eq k i)

-- what the search keeps: the set has as many flags as it had and the nodes that it had, all in it are reached,
-- and every edge out of a finished node leads to a node in it
pub record Searched (edge : ℕ → ℕ → Bool) (start found finished : List Bool) : Type 0 where
  pub long : length found ≡ length start
  pub roomy : length finished ≡ 192
  pub keeps : (k : ℕ) → In start k → In found k
  pub sound : (k : ℕ) → In found k → Reached edge start k
  pub closed : (a b : ℕ) → In finished a → T (edge a b) → b < length start → In found b

module _ (edge : ℕ → ℕ → Bool) (start : List Bool) where
  pub searched_none : Searched edge start start (replicate 192 false)
  searched_none = record {
    long = refl;
    roomy = length-replicate 192 false;
    keeps = λ k t. t;
    sound = λ k t. (k, (t, here));
    closed = λ a b t. absurd (none_in 192 a t);
  }

  -- one node more is finished, and its successors are added
  module _ (found finished next : List Bool) (i : ℕ) (s : Searched edge start found finished) (opened : In found i)
      (added : (k : ℕ) → k < length found → get_or next k false ≡ (get_or found k false || edge i k)) (long : length next ≡ length found) where
    old_in : (k : ℕ) → In found k → In next k
    old_in k t =
        same_in (get_or next k false) (get_or found k false || edge i k) (added k (in_below found k t))
        (in_left (get_or found k false) (edge i k) t)

    new_in : (k : ℕ) → k < length start → T (edge i k) → In next k
    new_in k l t =
        same_in (get_or next k false) (get_or found k false || edge i k) (added k (omega (arith, s.long)))
        (in_right (get_or found k false) (edge i k) t)

    reached_next : (k : ℕ) → In next k → Reached edge start k
    reached_next k t =
        let l : k < length found = omega (arith, in_below next k t) in
        ⊎_elim
        (s.sound k)
        (λ e. let r = s.sound i opened in (r.0, (r.1.0, then r.1.1 (e, (omega (arith, s.long))))))
        (or_in (get_or found k false) (edge i k) (same_in (get_or found k false || edge i k) (get_or next k false) (sym (added k l)) t))

    pub searched_more : Searched edge start next (set finished i true)
    searched_more = record {
      long = long ∙ s.long;
      roomy = length-set finished i true ∙ s.roomy;
      keeps = λ k t. old_in k (s.keeps k t);
      sound = reached_next;
      closed = λ a b t e l.
          ⊎_elim
          (λ same. new_in b l (subst (λ (n : ℕ). T (edge n b)) same e))
          (λ was. old_in b (s.closed a b was e l))
          (more_in finished i a t);
    }

  -- at the end every node of the set is finished
  module _ (found finished : List Bool) (s : Searched edge start found finished) (all : (k : ℕ) → In found k → In finished k) where
    follow : {a k : ℕ} → Star (Step edge (length start)) a k → In found a → In found k
    follow here t = t
    follow (then {b = b} {c = c} p e) t = s.closed b c (all b (follow p t)) e.0 e.1

    pub searched_all : (k : ℕ) → Tells (get_or found k false) (Reached edge start k)
    searched_all k = record {
      sound = s.sound k;
      complete = λ r. follow r.1.1 (s.keeps r.0 r.1.0);
    }

-- fewer nodes are left once one more is finished
pub fewer_left : (finished : List Bool) (i : ℕ) → i < length finished → get_or finished i false ≡ false
    → count_by not (set finished i true) < count_by not finished
fewer_left finished i l e =
    let m : count_by not (set finished i true) + cond (not (get_or finished i false)) 1 0 ≡ count_by not finished + 0 =
    sum_by-set (λ x. cond (not x) 1 0) finished i true false l in
    let n : cond {A = ℕ} (not (get_or finished i false)) 1 0 ≡ 1 = rw e refl in
    omega arith
