-- Cutting bytes at the first separator.
use Rattle.std.proofs.Common.{◌≡◌, ℕ, suc, Bor, Option, Some, None, MatchOption, position, unwrap_or, ◌+◌, ◌-◌, ◌<◌, ◌≤◌, true, false, cond, not, eqb, ltb, List, [], ◌∷◌, length, take, drop, sym, refl, ap, ◌∙◌, ⊎_elim, add-one, arith}
use Rattle.std.specs.List.{position_or_len}
use Rattle.std.proofs.lemmas.List.{take_rest}
use Rattle.std.proofs.lemmas.Bool.Decides.{nat_tests}
use Rattle.std.proofs.lemmas.Bool.{cases_Bool, cases_lt}
use Rattle.text.specs.Lines.{Bytes, onto, cut, fields, first_at}
use Rattle.text.specs.Pieces.{Splits}
use Rattle.text.specs.Tokens.{left}

pub first_le : (byte : ℕ) (s : Bytes) → first_at byte s ≤ length s
first_le byte [] = omega arith
first_le byte (b ∷ bs) =
    elim (eqb b byte) as (λ t. cond t 0 (suc (first_at byte bs)) ≤ suc (length bs))
    [ true ↦ omega arith | false ↦ omega (arith, first_le byte bs) ]

-- where the separator comes, the piece before it is the first
pub cut_found : (last : List Bytes) (byte : ℕ) (s : Bytes) → first_at byte s < length s
    → cut last byte s ≡ take (first_at byte s) s ∷ cut last byte (drop (first_at byte s + 1) s)
cut_found last byte [] l = absurd (omega arith)
cut_found last byte (b ∷ bs) l = ⊎_elim (λ e. rw e refl) (there (cut_found last byte bs)) (cases_Bool (eqb b byte))
  where
    there : (first_at byte bs < length bs → cut last byte bs ≡ take (first_at byte bs) bs ∷ cut last byte (drop (first_at byte bs + 1) bs))
        → eqb b byte ≡ false
        → cut last byte (b ∷ bs) ≡ take (first_at byte (b ∷ bs)) (b ∷ bs) ∷ cut last byte (drop (first_at byte (b ∷ bs) + 1) (b ∷ bs))
    there again e =
        let k : suc (first_at byte bs) < suc (length bs) = rw e at l in
        let h = again (omega arith) in
        rw (e, h, add-one (suc (first_at byte bs)), add-one (first_at byte bs)) refl

-- where a byte does not come, it is not the first of the bytes, and does not come after
not_first : (byte b : ℕ) (bs : Bytes) → length (b ∷ bs) ≤ first_at byte (b ∷ bs) → (eqb b byte ≡ false) × (length bs ≤ first_at byte bs)
not_first byte b bs l = ⊎_elim (λ e. let k : suc (length bs) ≤ 0 = rw e at l in absurd (omega arith)) (λ e. (e, rest e)) (cases_Bool (eqb b byte))
  where
    rest : eqb b byte ≡ false → length bs ≤ first_at byte bs
    rest e = let k : suc (length bs) ≤ suc (first_at byte bs) = rw e at l in omega arith

-- where the separator does not come, there is one field
pub fields_last : (s : Bytes) → length s ≤ first_at 32 s → fields s ≡ s ∷ []
fields_last [] l = refl
fields_last (b ∷ bs) l =
    let k = not_first 32 b bs l in
    rw (k.0, fields_last bs k.1) refl

-- and, where there are bytes, one piece that a separator ends
pub pieces_last : (byte : ℕ) (s : Bytes) → 0 < length s → length s ≤ first_at byte s → cut [] byte s ≡ s ∷ []
pieces_last byte [] z l = absurd (omega arith)
pieces_last byte (b ∷ []) z l = rw (not_first byte b [] l).0 refl
pieces_last byte (b ∷ (a ∷ rest)) z l =
    let k = not_first byte b (a ∷ rest) l in
    rw (k.0, pieces_last byte (a ∷ rest) (omega arith) k.1) refl

-- a line has a field
pub fields_some : (s : Bytes) → (w : Bytes) × (ws : List Bytes) × (fields s ≡ w ∷ ws)
fields_some s =
    ⊎_elim
    (λ l. (take (first_at 32 s) s, fields (drop (first_at 32 s + 1) s), cut_found ([] ∷ []) 32 s l))
    (λ l. (s, [], fields_last s l))
    (cases_lt (first_at 32 s) (length s))

-- the search of the library looks for the same place
position_is : (byte : ℕ) (s : Bytes) → position_or_len (λ b. eqb b byte) s ≡ first_at byte s
position_is byte [] = refl
position_is byte (b ∷ bs) =
    elim (eqb b byte) as (λ t. cond (not t) (1 + position_or_len (λ c. eqb c byte) bs) 0 ≡ cond t 0 (suc (first_at byte bs)))
    [ true ↦ refl | false ↦ omega (arith, position_is byte bs) ]

-- where the first such byte stands, if there is one
abbrev Finds : ℕ → Bytes → Option ℕ → Type 0
Finds byte s r = MatchOption r (length s ≤ first_at byte s) (λ i. (i ≡ first_at byte s) × (first_at byte s < length s))

finds : (byte : ℕ) (s : Bytes) (o : Option ℕ) → o ≡ position (λ b. eqb b byte) s → Finds byte s o
finds byte s o e = ⊎_elim found none (cases_lt (first_at byte s) (length s))
  where
    found : first_at byte s < length s → Finds byte s o
    found l =
        let t : ltb (first_at byte s) (length s) ≡ true = grind (arith, nat_tests) in
        rw (e, position_is byte s, t) (refl, l)

    none : length s ≤ first_at byte s → Finds byte s o
    none l =
        let t : ltb (first_at byte s) (length s) ≡ false = grind (arith, nat_tests) in
        rw (e, position_is byte s, t) l

pub found_or_len : (byte : ℕ) (s : Bytes) (o : Option ℕ) → o ≡ position (λ b. eqb b byte) s → unwrap_or o (length s) ≡ first_at byte s
found_or_len byte s None e = omega (arith, first_le byte s, finds byte s None e)
found_or_len byte s (Some i) e = (finds byte s (Some i) e).0

-- what a search finds, as the code cuts there: `&s[..i]` and `&s[i + 1..]`
pub found_at : (byte : ℕ) (s : Bytes) (i : ℕ) → Some i ≡ position (λ b. eqb b byte) s
    → (first_at byte s < length s) × (take i s ≡ take (first_at byte s) s) × (take (length s - (i + 1)) (drop (i + 1) s) ≡ drop (first_at byte s + 1) s)
found_at byte s i e =
    let p = finds byte s (Some i) e in
    (p.1, rw p.0 refl, rw (take_rest s (i + 1), p.0) refl)

pub not_found : (byte : ℕ) (s : Bytes) → None ≡ position (λ b. eqb b byte) s → length s ≤ first_at byte s
not_found byte s e = finds byte s None e

-- the first field of a line, and the fields after it
pub fields_split : (s : Bytes) (before : Bor Bytes) (after : Option (Bor Bytes)) → Splits 32 s (before, after) → fields s ≡ before.now ∷ left after
fields_split s before None h = fields_last s h.0 ∙ ap (λ w. w ∷ []) (sym h.1)
fields_split s before (Some after) h = cut_found ([] ∷ []) 32 s h.0 ∙ (λ i. sym h.1 i ∷ fields (sym h.2 i))

-- the first piece, and those after it
pub pieces_split : (byte : ℕ) (s : Bytes) (before : Bor Bytes) (after : Option (Bor Bytes)) (none : Bor Bytes) → 0 < length s → none.now ≡ []
    → Splits byte s (before, after) → cut [] byte s ≡ before.now ∷ cut [] byte (unwrap_or after none).now
pieces_split byte s before None none z e h = pieces_last byte s z h.0 ∙ rw (e, h.1) refl
pieces_split byte s before (Some after) none z e h = cut_found [] byte s h.0 ∙ (λ i. sym h.1 i ∷ cut [] byte (sym h.2 i))

length-onto : (b : ℕ) (ps : List Bytes) → length (onto b ps) ≤ length ps + 1
length-onto b [] = omega arith
length-onto b (p ∷ ps) = omega arith

-- there are no more pieces than bytes
pub pieces_few : (byte : ℕ) (s : Bytes) → length (cut [] byte s) ≤ length s
pieces_few byte [] = omega arith
pieces_few byte (b ∷ bs) =
    elim (eqb b byte) as (λ t. length (cond t ([] ∷ cut [] byte bs) (onto b (cut [] byte bs))) ≤ suc (length bs))
    [ true ↦ omega (arith, pieces_few byte bs) | false ↦ omega (arith, pieces_few byte bs, length-onto b (cut [] byte bs)) ]
