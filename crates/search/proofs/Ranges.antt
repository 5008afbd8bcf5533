-- What `any`, `all`, `find` and `find_map` answer over the numbers below a bound, and a test over the first items of a list.
use Rattle.std.proofs.Common.{◌≡◌, ℕ, ◌+◌, ◌<◌, ◌≤◌, Bool, true, false, ◌⊎◌, List, [], ◌∷◌, length, get_or, take, Option, Some, None, MatchOption, refl, sym, ap, subst, ◌∙◌, inl, inr, ⊎_elim, arith}
use Rattle.std.proofs.lemmas.Bool.{both_ways, cases_lt}
use Rattle.std.proofs.lemmas.List.{get_or-take, length-take-le}
use denote.Param.Members.{Mut}
use denote.Ref.{Bor}
use Rattle.std.specs.Fn.{Called, CalledAt}
use Rattle.std.specs.List.{FoldsTo}
use Rattle.std.specs.Iterator.{Yields, CallsWhile, ChecksAny, ChecksAll, FindsItem}
use Rattle.std.specs.Iterator.Runs.{SomeRun, AllItemsGive, IsFirstToGive, CallKeepsClosure, ItemsCountUp}
use Rattle.std.specs.Bool.{IsTrue}
use Rattle.std.specs.Option.{IfSome, IsSomeAnd, option_map}
use Rattle.std.proofs.lemmas.Iterator.{first_from_Range}
use Rattle.std.proofs.iter.runs.Sources.{range_runs}
use Rattle.std.proofs.iter.Yields.{nat_range_steps}
use Rattle.std.specs.declared.ops.Range.{Range}
use Rattle.search.specs.Forcing.{Decides}

-- the numbers below n, at a closure that calls leave as it was: No holds of a number at which it answers `on`
module _ {F R : Type 0} {g : Mut F (ℕ × Unit {0}) R} (f : F) (n : ℕ) (on : R) (No : ℕ → Type 0) (goes : (x : ℕ) (q : F) → Called g f (x, tt) on q → (q ≡ f) × No x) where
  turns : (xs : List ℕ) (s t : Range ℕ) (i j : F) → i ≡ f → Yields nat_range_steps s xs t → FoldsTo (λ p x q. Called g p (x, tt) on q) i xs j
      → (t.end ≡ s.end) × (j ≡ f) × ((k : ℕ) → s.start ≤ k → k < t.start → No k)
  turns [] s t i j e y z = (
    sym (ap (λ r. r.end) y),
    sym z ∙ e,
    λ k h l. absurd (let q : s.start ≡ t.start = ap (λ (r : Range ℕ). r.start) y in omega arith),
  )
  turns (x ∷ xs) s t i j e y z =
      let call : Called g f (x, tt) on z.0 = subst (λ p. Called g p (x, tt) on z.0) e z.1
      in let one = goes x z.0 call
      in let rest = turns xs y.0 t z.0 j one.0 y.2 z.2
      in (
        rest.0 ∙ y.1.0,
        rest.1,
        λ k h l.
            ⊎_elim
            (λ m. let q : x ≡ k = omega (arith, y.1.1.1, y.1.1.2) in subst No q one.1)
            (λ m. rest.2 k (omega (arith, y.1.1.2)) l)
            (cases_lt k (s.start + 1)),
      )

  -- it answers `on` at each of them, or something else at one
  pub first_other : (u : Range ℕ) (End : Type 0) (Stop : List ℕ → F → ℕ → Type 0) → CallsWhile nat_range_steps g on (record { start = 0; end = n }) f u End Stop
      → (End × ((k : ℕ) → k < n → No k)) ⊎ ((xs : List ℕ) × (x : ℕ) × (x < n) × Stop xs f x)
  first_other u End Stop w = go w.1 w.3.2 w.5
    where
      all : (w.3.0.end ≡ n) × (w.2 ≡ f) × ((k : ℕ) → 0 ≤ k → k < w.3.0.start → No k)
      all = turns w.0 (record { start = 0; end = n }) w.3.0 f w.2 refl w.3.1 w.4

      go : (o : Option ℕ) → nat_range_steps w.3.0 o u → MatchOption o End (Stop w.0 w.2) → (End × ((k : ℕ) → k < n → No k)) ⊎ ((xs : List ℕ) × (x : ℕ) × (x < n) × Stop xs f x)
      go None step stop = inl (stop, λ k h. all.2 k (omega arith) (omega (arith, all.0, step.1.0)))
      go (Some x) step stop = inr (w.0, x, omega (arith, all.0, step.1.0, step.1.1), subst (λ j. Stop w.0 j x) all.1 stop)

module _ {F : Type 0} {g : Mut F (ℕ × Unit {0}) Bool} {n : ℕ} (u : Range ℕ) (f : F) (r : Bool) (P : ℕ → Type 0) where
  pub any_decides : ChecksAny nat_range_steps g (record { start = 0; end = n }) f r u
      → ((x : ℕ) (q : F) → Called g f (x, tt) true q → P x)
      → ((x : ℕ) (q : F) → Called g f (x, tt) false q → (q ≡ f) × (P x → ⊥))
      → Decides r ((k : ℕ) × (k < n) × P k)
  any_decides ran found passed = ⊎_elim
      (λ w. record { yes = λ e. absurd (both_ways r w.0 e); not = λ _ m. w.1 m.0 m.1 m.2 })
      (λ w. record { yes = λ _. (w.1, w.2, found w.1 w.3.1.0 w.3.1.1); not = λ e _. both_ways r e w.3.0 })
      (first_other f n false (λ x. P x → ⊥) passed u _ _ ran)

  pub all_decides : ChecksAll nat_range_steps g (record { start = 0; end = n }) f r u
      → ((x : ℕ) (q : F) → Called g f (x, tt) true q → (q ≡ f) × P x)
      → ((x : ℕ) (q : F) → Called g f (x, tt) false q → P x → ⊥)
      → Decides r ((k : ℕ) → k < n → P k)
  all_decides ran passed broken = ⊎_elim
      (λ w. record { yes = λ _. w.1; not = λ e _. both_ways r e w.0 })
      (λ w. record { yes = λ e. absurd (both_ways r w.3.0 e); not = λ _ h. broken w.1 w.3.1.0 w.3.1.1 (h w.1 w.2) })
      (first_other f n true P passed u _ _ ran)

-- a test of the first n items is a test of the places below n
pub first_decides : {X : Type 0} (xs : List X) (n : ℕ) (d : X) (P : X → Type 0) (r : Bool) → n ≤ length xs
    → Decides r ((i : ℕ) → i < length (take n xs) → P (get_or (take n xs) i d)) → Decides r ((i : ℕ) → i < n → P (get_or xs i d))
first_decides xs n d P r h t =
    let w : length (take n xs) ≡ n = length-take-le n xs h
    in record {
      yes = λ q i l. subst P (get_or-take n xs i d l) (t.yes q i (omega (arith, w)));
      not = λ q f. t.not q (λ i l. let k : i < n = omega (arith, w) in subst P (sym (get_or-take n xs i d k)) (f i k));
    }

-- `find` gives the first number at which the closure answers true
pub found_first : {F : Type 0} {g : Mut F (Bor ℕ × Unit {0}) Bool} {n : ℕ} (u : Range ℕ) (f : F) (r : Option ℕ) (Yes No : ℕ → Type 0)
    → FindsItem nat_range_steps g (record { start = 0; end = n }) f r u
    → ((x : ℕ) (q : F) → CalledAt g f x true q → Yes x)
    → ((x : ℕ) (q : F) → CalledAt g f x false q → (q ≡ f) × No x)
    → MatchOption r ((k : ℕ) → k < n → No k) (λ i. (i < n) × Yes i)
found_first {n = n} u f r Yes No ran found passed = go r (first_from_Range (record { start = 0; end = n }) u f r Yes No ran found passed)
  where
    go : (o : Option ℕ) → MatchOption o ((k : ℕ) → 0 ≤ k → k < n → No k) (λ i. (0 ≤ i) × (i < n) × Yes i × ((k : ℕ) → 0 ≤ k → k < i → No k)) → MatchOption o ((k : ℕ) → k < n → No k) (λ i. (i < n) × Yes i)
    go None h = λ k l. h k (omega arith) l
    go (Some i) h = (h.1, h.2)

-- a fact of an item that is known
at_item : (o : Option ℕ) (k : ℕ) (P : ℕ → Type 0) → option_map (λ y. y) o ≡ Some k → IfSome o P → P k
at_item None k P e h = absurd (let z : ◌≡◌ {A = ℕ} 0 1 = cc in omega arith)
at_item (Some x) k P e h = let q : x ≡ k = cc in subst P q h

some_item : (o : Option ℕ) (k : ℕ) (P : ℕ → Type 0) → option_map (λ y. y) o ≡ Some k → IsSomeAnd o P → P k
some_item None k P e h = absurd h
some_item (Some x) k P e h = let q : x ≡ k = cc in subst P q h

module _ {F B : Type 0} {g : Mut F (ℕ × Unit {0}) (Option B)} {n : ℕ} (f : F) (r : Option B) (No : ℕ → Type 0) (Yes : B → Type 0) where
  pub mapped_first : SomeRun nat_range_steps (record { start = 0; end = n }) (λ p. MatchOption r (IsTrue p.whole × AllItemsGive p g f None) (λ y. (i : ℕ) × (i < p.len) × (p.len ≡ i + 1) × IsFirstToGive p g f (Some y) None i))
      → CallKeepsClosure g f
      → ((x : ℕ) → Called g f (x, tt) None f → No x)
      → ((x : ℕ) (y : B) → x < n → Called g f (x, tt) (Some y) f → Yes y)
      → MatchOption r ((k : ℕ) → k < n → No k) Yes
  mapped_first run keeps passed found = go r run.2
    where
      up : ItemsCountUp run.0 run.0.from.start run.0.from.end
      up = range_runs run.0 run.0.seen

      start : run.0.from.start ≡ 0
      start = ap (λ (s : Range ℕ). s.start) run.1

      end : run.0.from.end ≡ n
      end = ap (λ (s : Range ℕ). s.end) run.1

      at : (k : ℕ) → k < run.0.len → option_map (λ y. y) (run.0.at k) ≡ Some k
      at k l = let q : run.0.from.start + k ≡ k = omega (arith, start) in up.3 k l ∙ ap Some q

      go : (o : Option B) → MatchOption o (IsTrue run.0.whole × AllItemsGive run.0 g f None) (λ y. (i : ℕ) × (i < run.0.len) × (run.0.len ≡ i + 1) × IsFirstToGive run.0 g f (Some y) None i) → MatchOption o ((k : ℕ) → k < n → No k) Yes
      go None h = λ k l.
          let long = up.1 h.0
          in passed k (at_item (run.0.at k) k (λ x. Called g f (x, tt) None f) (at k (omega (arith, long, start, end))) (h.1 keeps k))
      go (Some y) h = found h.0 y (omega (arith, up.0, h.1, start, end)) (some_item (run.0.at h.0) h.0 (λ x. Called g f (x, tt) (Some y) f) (at h.0 h.1) (h.3 keeps).0)
