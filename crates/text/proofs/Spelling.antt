-- The forms of a field and what they write: each form takes just the texts of its small values.
use Rattle.std.proofs.Common.{◌≡◌, ℕ, zero, suc, ◌^◌, ◌<◌, ◌≤◌, Bool, true, false, cond, eqb, ◌⊎◌, [], ◌∷◌, length, get_or, Some, None, decimal, Option, sym, refl, ap, ◌∙◌, subst, inl, inr, ⊎_elim, arith, rules}
use Rattle.std.specs.Str.{all_ascii_digits}
use Rattle.std.proofs.lemmas.Fmt.{decimal_nonempty, decimal-digits_value, digits_decimal, digits_value-decimal, length-decimal-le, first_decimal, decimal_digit}
use Rattle.std.proofs.lemmas.Str.Parse.{IsNumeralModel, numerals_by_fold, tells_all_ascii_digits, digits_value_short}
use Rattle.std.proofs.lemmas.Bool.{eqb-true}
use Rattle.std.proofs.lemmas.Bool.Decides.{nat_tests}
use Rattle.league.specs.declared.facts.Kind.{Kind}
use Rattle.league.specs.declared.roles.Role.{Role}
use Rattle.league.specs.declared.roles.Role.TheVariants.{Forward, Backward}
use Rattle.league.specs.declared.roles.Mark.{Mark}
use Rattle.league.specs.declared.roles.Mark.TheVariants.{Is, Has}
use Rattle.text.specs.declared.forms.Lettered.{Lettered}
use Rattle.text.specs.Lines.{Bytes}
use Rattle.text.specs.Forms.{value_from, plain, digits_form, numeral, beside, lettered, kind_of, kind_form, role_of, role_form, mark_of, mark_form}
use Rattle.text.specs.Written.{Small, ShortRole, ShortMark, kind_text, role_text, mark_text}

-- a form takes just the texts of the values that are ok, and says the value; no such text is empty, and there is one
pub record Spells {A : Type 0} (form : Bytes → Option A) (text : A → Bytes) (ok : A → Type 0) : Type 0 where
  pub to : (w : Bytes) (a : A) → form w ≡ Some a → ok a × (w ≡ text a)
  pub from : (a : A) → ok a → form (text a) ≡ Some a
  pub some : (a : A) → ok a → text a ≡ [] → ⊥
  pub one : (a : A) × ok a

none_some : {A : Type 0} (a : A) → None ≡ Some a → ⊥
none_some a e = let z : ◌≡◌ {A = ℕ} 0 1 = cc in omega arith

-- a test before a form
cond_some : {A : Type 0} (b : Bool) (o : Option A) (a : A) → cond b o None ≡ Some a → (b ≡ true) × (o ≡ Some a)
cond_some true o a e = (refl, e)
cond_some false o a e = absurd (none_some a e)

cond_either : {A : Type 0} (b : Bool) (x : A) (o : Option A) (a : A) → cond b (Some x) o ≡ Some a → ((b ≡ true) × (x ≡ a)) ⊎ (o ≡ Some a)
cond_either true x o a e = inl (refl, cc)
cond_either false x o a e = inr e

own : IsNumeralModel (λ ds. all_ascii_digits ds ≡ true) (value_from 0)
own = numerals_by_fold _ tells_all_ascii_digits value_from (search rules)

plain_to : (ds : Bytes) → plain ds ≡ true → (0 < length ds) × (length ds ≤ 4) × (get_or ds 0 0 ≡ 48 → length ds ≡ 1)
plain_to ds e = (grind (arith, nat_tests), grind (arith, nat_tests), λ z. grind (arith, nat_tests))

plain_from : (ds : Bytes) → 0 < length ds → length ds ≤ 4 → (48 < get_or ds 0 0) ⊎ (length ds ≡ 1) → plain ds ≡ true
plain_from ds l m n = ⊎_elim (λ a. grind (arith, nat_tests)) (λ a. grind (arith, nat_tests)) n

numeral_to : (ds : Bytes) (n : ℕ) → numeral ds ≡ Some n → Small n × (ds ≡ decimal n)
numeral_to ds n e =
    let p = cond_some (plain ds) (digits_form ds) n e in
    let q = cond_some (all_ascii_digits ds) (Some (value_from 0 ds)) n p.1 in
    let f = plain_to ds p.0 in
    let v : value_from 0 ds ≡ n = cc in
    let s = digits_value_short own ds 4 q.0 f.1 in
    let d = decimal-digits_value own ds q.0 f.0 f.2 (omega arith) in
    (omega arith, sym d ∙ ap decimal v)

numeral_from : (n : ℕ) → Small n → numeral (decimal n) ≡ Some n
numeral_from n l =
    let b : n < 2 ^ 64 = omega arith in
    let first : (48 < get_or (decimal n) 0 0) ⊎ (length (decimal n) ≡ 1) =
    ⊎_elim (λ z. inr (ap length (ap decimal z ∙ decimal_digit 0 (omega arith)))) (λ z. inl (first_decimal n z b)) (zero_or n) in
    let p = plain_from (decimal n) (decimal_nonempty n b) (length-decimal-le 4 n (omega arith) (omega arith) b) first in
    rw (p, digits_decimal own n b, digits_value-decimal own n b) refl
  where
    zero_or : (m : ℕ) → (m ≡ 0) ⊎ (0 < m)
    zero_or zero = inl refl
    zero_or (suc m) = inr (omega arith)

-- a bare number
pub spells_number : Spells numeral decimal Small
spells_number =
    record {
      to = numeral_to;
      from = numeral_from;
      some = λ a l e. omega (arith, decimal_nonempty a (omega arith), ap length e);
      one = (0, omega arith);
    }

lettered_to : (w : Bytes) (t : Lettered) → lettered w ≡ Some t → Small t.number × (w ≡ t.letter ∷ decimal t.number)
unfolding lettered
lettered_to [] t e = absurd (none_some t e)
lettered_to (b ∷ bs) t e = by (numeral bs) refl e
  where
    by : (o : Option ℕ) → numeral bs ≡ o → beside b o ≡ Some t → Small t.number × (b ∷ bs ≡ t.letter ∷ decimal t.number)
    by None f g = absurd (none_some t g)
    by (Some n) f g =
        let h = numeral_to bs n f in
        let k : ◌≡◌ {A = Lettered} (record { letter = b; number = n }) t = cc in
        (subst (λ (x : Lettered). Small x.number) k h.0, ap (λ x. b ∷ x) h.1 ∙ ap (λ (x : Lettered). x.letter ∷ decimal x.number) k)

lettered_from : (t : Lettered) → Small t.number → lettered (t.letter ∷ decimal t.number) ≡ Some t
unfolding lettered
lettered_from t l = rw (numeral_from t.number l) refl

-- what a lettered number says, by its letter: a form over one takes just the texts of its values
module _ {A : Type 0} (of : Option Lettered → Option A) (text : A → Bytes) (ok : A → Type 0) (back : A → Lettered) where
  pub spells_lettered : of None ≡ None
      → ((t : Lettered) (a : A) → of (Some t) ≡ Some a → back a ≡ t)
      → ((a : A) → of (Some (back a)) ≡ Some a)
      → ((a : A) → text a ≡ (back a).letter ∷ decimal (back a).number)
      → ((a : A) → Small (back a).number → ok a)
      → ((a : A) → ok a → Small (back a).number)
      → (a : A) × ok a
      → Spells (λ w. of (lettered w)) text ok
  spells_lettered none turn says writes short small one =
      record {
        to = λ w a e. by w a (lettered w) refl e;
        from = λ a l. ap (λ w. of (lettered w)) (writes a) ∙ (ap of (lettered_from (back a) (small a l)) ∙ says a);
        some = λ a l e. absurd (omega (arith, ap length (sym (writes a) ∙ e)));
        one = one;
      }
    where
      by : (w : Bytes) (a : A) (o : Option Lettered) → lettered w ≡ o → of o ≡ Some a → ok a × (w ≡ text a)
      by w a None f g = absurd (none_some a (sym none ∙ g))
      by w a (Some t) f g =
          let h = lettered_to w t f in
          let k = turn t a g in
          (short a (subst (λ (x : Lettered). Small x.number) (sym k) h.0), h.1 ∙ (ap (λ (x : Lettered). x.letter ∷ decimal x.number) (sym k) ∙ sym (writes a)))

-- a kind
kind_back : (t : Lettered) (a : Kind) → kind_of (Some t) ≡ Some a → ◌≡◌ {A = Lettered} (record { letter = 107; number = a.0 }) t
kind_back t a e =
    let p = cond_some (eqb t.letter 107) (Some (record { 0 = t.number })) a e in
    let l = eqb-true t.letter 107 p.0 in
    let k : ◌≡◌ {A = Kind} (record { 0 = t.number }) a = cc in
    λ i. record { letter = sym l i; number = (sym k i).0 }

pub spells_kind : Spells kind_form kind_text (λ k. Small k.0)
spells_kind =
    spells_lettered kind_of kind_text (λ k. Small k.0) (λ k. record { letter = 107; number = k.0 }) refl kind_back (λ a. refl) (λ a. refl) (λ a l. l) (λ a l. l)
    (record { 0 = 0 }, omega arith)

-- a role
abbrev role_back : Role → Lettered
role_back (Forward link) = record { letter = 102; number = link.0 }
role_back (Backward link) = record { letter = 98; number = link.0 }

-- a letter f or b is a role's, also where the role is part of something
side_turn : {A : Type 0} (with-role : Role → A) (back : A → Lettered) → ((r : Role) → back (with-role r) ≡ role_back r) → (t : Lettered) (a : A)
    → cond (eqb t.letter 102) (Some (with-role (Forward (record { 0 = t.number })))) (cond (eqb t.letter 98) (Some (with-role (Backward (record { 0 = t.number })))) None) ≡ Some a
    → back a ≡ t
side_turn with-role back same t a e =
    ⊎_elim
    (λ p. from (Forward (record { 0 = t.number })) p.1 ∙ (λ i. record { letter = sym (eqb-true t.letter 102 p.0) i; number = t.number }))
    (λ f.
    let p = cond_some (eqb t.letter 98) (Some (with-role (Backward (record { 0 = t.number })))) a f in
    let k : with-role (Backward (record { 0 = t.number })) ≡ a = cc in
    from (Backward (record { 0 = t.number })) k ∙ (λ i. record { letter = sym (eqb-true t.letter 98 p.0) i; number = t.number }))
    (cond_either (eqb t.letter 102) (with-role (Forward (record { 0 = t.number }))) (cond (eqb t.letter 98) (Some (with-role (Backward (record { 0 = t.number })))) None) a e)
  where
    from : (r : Role) → with-role r ≡ a → back a ≡ role_back r
    from r k = ap back (sym k) ∙ same r

role_says : (a : Role) → role_of (Some (role_back a)) ≡ Some a
role_says (Forward link) = refl
role_says (Backward link) = refl

role_writes : (a : Role) → role_text a ≡ (role_back a).letter ∷ decimal (role_back a).number
role_writes (Forward link) = refl
role_writes (Backward link) = refl

role_short : (a : Role) → Small (role_back a).number → ShortRole a
role_short (Forward link) l = l
role_short (Backward link) l = l

role_small : (a : Role) → ShortRole a → Small (role_back a).number
role_small (Forward link) l = l
role_small (Backward link) l = l

pub spells_role : Spells role_form role_text ShortRole
spells_role =
    spells_lettered role_of role_text ShortRole role_back refl (side_turn (λ r. r) role_back (λ r. refl)) role_says role_writes role_short role_small (Forward (record { 0 = 0 }), omega arith)

-- a mark
abbrev mark_back : Mark → Lettered
mark_back (Is kind) = record { letter = 107; number = kind.0 }
mark_back (Has role) = role_back role

mark_turn : (t : Lettered) (a : Mark) → mark_of (Some t) ≡ Some a → mark_back a ≡ t
mark_turn t a e =
    ⊎_elim
    (λ p. let l = eqb-true t.letter 107 p.0 in ap mark_back (sym p.1) ∙ (λ i. record { letter = sym l i; number = t.number }))
    (side_turn Has mark_back (λ r. refl) t a)
    (cond_either (eqb t.letter 107) (Is (record { 0 = t.number }))
    (cond (eqb t.letter 102) (Some (Has (Forward (record { 0 = t.number })))) (cond (eqb t.letter 98) (Some (Has (Backward (record { 0 = t.number })))) None)) a e)

mark_says : (a : Mark) → mark_of (Some (mark_back a)) ≡ Some a
mark_says (Is kind) = refl
mark_says (Has (Forward link)) = refl
mark_says (Has (Backward link)) = refl

mark_writes : (a : Mark) → mark_text a ≡ (mark_back a).letter ∷ decimal (mark_back a).number
mark_writes (Is kind) = refl
mark_writes (Has role) = role_writes role

mark_short : (a : Mark) → Small (mark_back a).number → ShortMark a
mark_short (Is kind) l = l
mark_short (Has role) l = role_short role l

mark_small : (a : Mark) → ShortMark a → Small (mark_back a).number
mark_small (Is kind) l = l
mark_small (Has role) l = role_small role l

pub spells_mark : Spells mark_form mark_text ShortMark
spells_mark =
    spells_lettered mark_of mark_text ShortMark mark_back refl mark_turn mark_says mark_writes mark_short mark_small (Is (record { 0 = 0 }), omega arith)
