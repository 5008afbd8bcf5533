-- The number of a pair, and what one pair more at the end changes of it.
use Rattle.std.proofs.Common.{◌≡◌, ℕ, zero, suc, ◌+◌, ◌<◌, ◌≤◌, Bool, true, false, cond, ◌⊎◌, List, [], ◌∷◌, ◌++◌, length, Some, Ok, Err, Result, refl, ap, inl, inr, ⊎_elim, arith}
use Rattle.std.specs.List.{slice_get}
use Rattle.league.specs.declared.faults.BookFault.{BookFault}
use Rattle.league.specs.declared.faults.BookFault.TheVariants.{Pairs as NoRoom}
use Rattle.std.proofs.lemmas.List.{length_push}
use Rattle.std.proofs.lemmas.Bool.{cases_Bool, and_parts, and_from}
use Rattle.std.proofs.lemmas.Bool.Decides.{nat_tests}
use Rattle.rules.specs.Marks.{same_kind, same_role}
use Rattle.rules.specs.Pairs.{same_pair, number_of, has_pair, with_pair}
use Rattle.rules.specs.declared.pair.Pair.{Pair}
use Rattle.rules.proofs.Marked.{kind_self, role_self, kind_eq, role_eq}

pub pair_self : (p : Pair) → same_pair p p ≡ true
pair_self p = and_from (same_role p.role p.role) (same_kind p.kind p.kind) (role_self p.role) (kind_self p.kind)

pub pair_eq : (p q : Pair) → same_pair p q ≡ true → p ≡ q
pair_eq p q e =
    let w = and_parts (same_role p.role q.role) (same_kind p.kind q.kind) e in
    let r = role_eq p.role q.role w.0 in
    let k = kind_eq p.kind q.kind w.1 in
    λ i. record { role = r i; kind = k i }

pub number_le : (ps : List Pair) (p : Pair) → number_of ps p ≤ length ps
number_le [] p = omega arith
number_le (q ∷ qs) p = grind (arith, nat_tests, number_le qs p)

-- the pair at its number
pub number_at : (ps : List Pair) (p : Pair) → number_of ps p < length ps → slice_get ps (number_of ps p) ≡ Some p
number_at [] p l = absurd (omega arith)
number_at (q ∷ qs) p l =
    ⊎_elim
    (λ e. rw e (ap Some (pair_eq q p e)))
    (λ e. rw e (number_at qs p (let m : suc (number_of qs p) < suc (length qs) = rw e at l in omega arith)))
    (cases_Bool (same_pair q p))

-- a pair in the list has a number
pub number_in : (ps : List Pair) (p : Pair) (i : ℕ) → slice_get ps i ≡ Some p → number_of ps p < length ps
number_in [] p i e = let z : ◌≡◌ {A = ℕ} 0 1 = cc in omega arith
number_in (q ∷ qs) p zero e =
    let f : q ≡ p = cc in
    rw (f, pair_self p) (omega arith)
number_in (q ∷ qs) p (suc i) e = grind (arith, nat_tests, number_in qs p i e)

-- what stands in a list with one pair more stood in it before, or is that pair at the end
pub nth_push : (ps : List Pair) (p q : Pair) (i : ℕ) → slice_get (ps ++ (p ∷ [])) i ≡ Some q → (slice_get ps i ≡ Some q) ⊎ ((i ≡ length ps) × (q ≡ p))
nth_push [] p q zero e = inr (refl, (cc))
nth_push [] p q (suc i) e = let z : ◌≡◌ {A = ℕ} 0 1 = cc in absurd (omega arith)
nth_push (x ∷ xs) p q zero e = inl e
nth_push (x ∷ xs) p q (suc i) e = ⊎_elim inl (λ h. inr (ap suc h.0, h.1)) (nth_push xs p q i e)

-- one pair more at the end
module _ (p : Pair) where
  pub number_push : (ps : List Pair) → number_of (ps ++ (p ∷ [])) p ≡ number_of ps p
  number_push [] = rw (pair_self p) refl
  number_push (q ∷ qs) = ap (λ (n : ℕ). cond (same_pair q p) 0 (suc n)) (number_push qs)

  pub number_push_in : (ps : List Pair) (o : Pair) → number_of ps o < length ps → number_of (ps ++ (p ∷ [])) o ≡ number_of ps o
  number_push_in [] o l = omega arith
  number_push_in (q ∷ qs) o l = grind (arith, nat_tests, number_push_in qs o)

  pub number_push_out : (ps : List Pair) (o : Pair) → same_pair p o ≡ false → number_of ps o ≡ length ps → number_of (ps ++ (p ∷ [])) o ≡ length ps + 1
  number_push_out [] o d l = rw d refl
  number_push_out (q ∷ qs) o d l = grind (arith, nat_tests, number_push_out qs o)

-- the pairs once a pair is used
module _ (ps : List Pair) (p : Pair) where
  pub with_number : number_of (with_pair ps p) p ≡ number_of ps p
  with_number = grind (arith, nat_tests, number_push p ps)

  pub with_has : number_of ps p < length (with_pair ps p)
  with_has = grind (arith, nat_tests, length_push ps p, number_le ps p)

  pub with_length : length ps ≤ length (with_pair ps p)
  with_length = grind (arith, nat_tests, length_push ps p)

  -- a pair that was in use has the number it had
  pub with_other : (o : Pair) → number_of ps o < length ps → number_of (with_pair ps p) o ≡ number_of ps o
  with_other o l = grind (arith, nat_tests, number_push_in p ps o l)

  -- another pair is in use exactly when it was
  pub with_has_other : (o : Pair) → same_pair p o ≡ false → has_pair (with_pair ps p) o ≡ has_pair ps o
  with_has_other o d =
      grind (arith, nat_tests, number_push_in p ps o, number_push_out p ps o, length_push ps p, number_le ps o)

-- a number that was given out: there was room, and it is the pair's number
module _ (room : Bool) (n m : ℕ) (e : ◌≡◌ {A = Result ℕ BookFault} (Ok n) (cond room (Ok m) (Err NoRoom))) where
  pub taken : room ≡ true
  taken = ⊎_elim (λ t. t) (λ f. let k : ◌≡◌ {A = Result ℕ BookFault} (Ok n) (Err NoRoom) = rw f at e in cc) (cases_Bool room)

  pub taken_number : n ≡ m
  taken_number = let k : ◌≡◌ {A = Result ℕ BookFault} (Ok n) (Ok m) = rw taken at e in cc

pub taken_pairs : (room : Bool) (ps qs rs : List Pair) → ps ≡ cond room qs rs → room ≡ true → ps ≡ qs
taken_pairs room ps qs rs e t = rw t at e
