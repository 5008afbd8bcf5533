-- Flagging places that wait for none, until there is no other: the flagged places are the grounded ones.
use Rattle.std.proofs.Common.{◌≡◌, ℕ, zero, suc, ◌<◌, Bool, true, false, List, length, get_or, set, replicate, sym, refl, ◌∙◌, subst, ⊎_elim, ap, length-set, get_or-set_other, get_or-set_same}
use Rattle.std.proofs.lemmas.List.{get_or_past}
use Rattle.std.proofs.lemmas.Bool.{cases_Bool, cases_eq, cases_lt, both_ways}
use Rattle.rules.specs.Flags.{flag}
use Rattle.search.specs.Forcing.{Decides}
use Rattle.search.specs.Grounding.{Waits, Grounded}
use Rattle.search.proofs.Forces.{Within}

-- no flag is set at first
none_set : (n i : ℕ) → get_or (replicate n false) i false ≡ false
none_set zero i = refl
none_set (suc n) zero = refl
none_set (suc n) (suc i) = none_set n i

-- one flag more keeps the others
pub kept_set : (flags : List Bool) (p i : ℕ) → get_or flags i false ≡ true → get_or (set flags p true) i false ≡ true
kept_set flags p i h =
    ⊎_elim
    (λ e. ap (λ k. get_or (set flags p true) k false) e ∙ get_or-set_same flags p true false (subst (λ k. k < length flags) e (set_below flags i h)))
    (λ ne. get_or-set_other flags p i true false ne ∙ h)
    (cases_eq i p)
  where
    set_below : (xs : List Bool) (k : ℕ) → get_or xs k false ≡ true → k < length xs
    set_below xs k e = ⊎_elim (λ l. l) (λ l. absurd (both_ways (get_or xs k false) (get_or_past xs k false l) e)) (cases_lt k (length xs))

-- what is flagged is grounded
pub record Raised (down same : List (List Bool)) (flags : List Bool) : Type 0 where
  pub long : length flags ≡ 8
  pub sound : (i : ℕ) → get_or flags i false ≡ true → Grounded (flag down) (flag same) i

module _ (down : List (List Bool)) (edges : Within down) (same : List (List Bool)) (bounds : Within same) where
  pub raised_first : Raised down same (replicate 8 false)
  raised_first = record {
    long = refl;
    sound = λ i e. absurd (both_ways (get_or (replicate 8 false) i false) (none_set 8 i) e);
  }

  pub raised_more : (flags : List Bool) (p : ℕ) → Raised down same flags → p < 8 → (Waits (flag down) (flag same) flags p → ⊥) → Raised down same (set flags p true)
  raised_more flags p f h free = record {
    long = length-set flags p true ∙ f.long;
    sound = λ i e.
        ⊎_elim (λ q. subst (Grounded (flag down) (flag same)) (sym q) here)
        (λ ne. f.sound i (sym (get_or-set_other flags p i true false ne) ∙ e))
        (cases_eq i p);
  }
    where
      here : Grounded (flag down) (flag same) p
      here = Grounded.ground p (λ v u a b.
          ⊎_elim (λ e. f.sound u e)
          (λ e. absurd (free (v, (bounds p v a).1, (a, (u, (edges u v b).0, (b, e))))))
          (cases_Bool (get_or flags u false)))

  module _ (flags : List Bool) (f : Raised down same flags) (shut : (i : ℕ) → i < 8 → get_or flags i false ≡ false → (Waits (flag down) (flag same) flags i → ⊥) → ⊥) where
    never : {i : ℕ} → Grounded (flag down) (flag same) i → i < 8 → get_or flags i false ≡ false → ⊥
    never (Grounded.ground i up) h e =
        shut i h e (λ w. never (up w.0 w.2.1.0 w.2.0 w.2.1.2.0) w.2.1.1 w.2.1.2.1)

    pub raised_all : (i : ℕ) → i < 8 → Decides (get_or flags i false) (Grounded (flag down) (flag same) i)
    raised_all i h = record { yes = f.sound i; not = λ e g. never g h e }
