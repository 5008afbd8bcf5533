-- Writing lines to a page.
use Rattle.std.proofs.Common.{◌≡◌, ℕ, ◌+◌, ◌-◌, ◌<◌, ◌≤◌, true, false, cond, ltb, leb, List, [], ◌∷◌, ◌++◌, length, take, drop, Some, None, Ok, Err, Result, sym, refl, ap, ◌∙◌, ⊎_elim, append_assoc, zero-add, arith, length-append, length-drop}
use Rattle.std.proofs.lemmas.List.{length-take-le, take-append-drop, take_at, drop_at, drop-drop}
use Rattle.std.proofs.lemmas.Bool.{cases_lt}
use Rattle.std.proofs.lemmas.Bool.Decides.{nat_tests}
use Rattle.text.specs.Lines.{Bytes}
use Rattle.league.specs.declared.faults.BookFault.{BookFault}
use Rattle.league.specs.declared.faults.BookFault.TheVariants as book
use Rattle.text.specs.Pages.{Page, page, pasted, put, put_all, kept, together, result, fresh}
use Rattle.certain.specs.Reference.{Accepted}
use Rattle.text.specs.Runs.{Filled, outputs}

pub pasted_none : (b : Bytes) (w : ℕ) (s : Bytes) → pasted b w (take 0 s) ≡ b
pasted_none b w s = let z : w + 0 ≡ w = omega arith in rw z (take-append-drop w b)

-- once a line was left out, nothing more is written
pub all_full : (b : Bytes) (outs : List Bytes) → put_all (page b None) outs ≡ page b None
all_full b [] = refl
all_full b (l ∷ ls) = all_full b ls

-- one line after another
pub pasted-pasted : (b : Bytes) (w : ℕ) (l k : Bytes) → w ≤ length b → pasted (pasted b w l) (w + length l) k ≡ pasted b w (l ++ k)
pasted-pasted b w l k h =
    let n = w + length l in
    let q = drop n b in
    let m : length (take w b ++ l) ≡ n = length-append (take w b) l ∙ rw (length-take-le w b h) refl in
    let e : pasted b w l ≡ (take w b ++ l) ++ q = sym (append_assoc (take w b) l q) in
    let front : take n (pasted b w l) ≡ take w b ++ l = rw e (take_at (take w b ++ l) q n m) in
    let back : drop (n + length k) (pasted b w l) ≡ drop (n + length k) b =
    sym (drop-drop (length k) n (pasted b w l)) ∙ (ap (drop (length k)) (rw e (drop_at (take w b ++ l) q n m)) ∙ drop-drop (length k) n b) in
    let len : w + length (l ++ k) ≡ n + length k = rw (length-append l k) (omega arith) in
    rw (front, back, len) (simp append_assoc)

pub length-pasted : (b : Bytes) (w : ℕ) (l : Bytes) → w + length l ≤ length b → length (pasted b w l) ≡ length b
length-pasted b w l h =
    let m : length (take w b) ≡ w = length-take-le w b (omega arith) in
    simp (length-append, length-drop) (rw m (omega arith))

-- the lines that fit stand on the page one after the other, and the result tells whether all did
pub record Stands (b : Bytes) (w : ℕ) (outs : List Bytes) (p : Page) : Type 0 where
  pub bytes : p.bytes ≡ pasted b w (together (kept (length b - w) outs))
  pub reply : result p ≡ cond (leb (w + length (together outs)) (length b)) (Ok (w + length (together outs))) (Err book.Page)

pub all_stands : (b : Bytes) (w : ℕ) (outs : List Bytes) → w ≤ length b → Stands b w outs (put_all (page b (Some w)) outs)
all_stands b w [] h =
    let z : w + 0 ≡ w = omega arith in
    let t : leb w (length b) ≡ true = grind (arith, nat_tests) in
    record { bytes = sym (pasted_none b w []); reply = rw (z, t) refl }
all_stands b w (l ∷ ls) h = ⊎_elim (λ k. left_out k) (λ k. fits k (all_stands (pasted b w l) (w + length l) ls)) (cases_lt (length b - w) (length l))
  where
    left_out : length b - w < length l → Stands b w (l ∷ ls) (put_all (page b (Some w)) (l ∷ ls))
    left_out k =
        let t : ltb (length b - w) (length l) ≡ true = grind (arith, nat_tests) in
        let u : leb (length l) (length b - w) ≡ false = grind (arith, nat_tests) in
        let a = length-append l (together ls) in
        let v : leb (w + length (l ++ together ls)) (length b) ≡ false = grind (arith, nat_tests) in
        let out : put (page b (Some w)) l ≡ page b None = rw t refl in
        let end : put_all (put (page b (Some w)) l) ls ≡ page b None = ap (λ (q : Page). put_all q ls) out ∙ all_full b ls in
        record { bytes = ap (λ (q : Page). q.bytes) end ∙ rw u (sym (pasted_none b w [])); reply = ap result end ∙ rw v refl }

    fits : length l ≤ length b - w → (w + length l ≤ length (pasted b w l) → Stands (pasted b w l) (w + length l) ls (put_all (page (pasted b w l) (Some (w + length l))) ls))
        → Stands b w (l ∷ ls) (put_all (page b (Some w)) (l ∷ ls))
    fits k again =
        let t : ltb (length b - w) (length l) ≡ false = grind (arith, nat_tests) in
        let u : leb (length l) (length b - w) ≡ true = grind (arith, nat_tests) in
        let n = length-pasted b w l (omega arith) in
        let s = again (omega arith) in
        let r : length (pasted b w l) - (w + length l) ≡ length b - w - length l = omega arith in
        let a : w + length l + length (together ls) ≡ w + length (l ++ together ls) = rw (length-append l (together ls)) (omega arith) in
        let one : put (page b (Some w)) l ≡ page (pasted b w l) (Some (w + length l)) = rw t refl in
        let all : put_all (put (page b (Some w)) l) ls ≡ put_all (page (pasted b w l) (Some (w + length l))) ls = ap (λ (q : Page). put_all q ls) one in
        record {
          bytes =
              ap (λ (q : Page). q.bytes) all
              ∙ (s.bytes ∙ rw (r, u) (pasted-pasted b w l (together (kept (length b - w - length l) ls)) h));
          reply = ap result all ∙ (s.reply ∙ rw (a, n) refl);
        }

-- what a fresh page is filled with
pub filled : (outs : List Bytes) (before after : Bytes) (p : Page) (r : Result ℕ BookFault)
    → p ≡ put_all (fresh before) outs → r ≡ result p → after ≡ p.bytes → Filled outs before after r
filled outs before after p r e f g =
    let s = all_stands before 0 outs (omega arith) in
    let z : length before - 0 ≡ length before = omega arith in
    record {
      page = g ∙ (ap (λ (q : Page). q.bytes) e ∙ (s.bytes ∙ rw (z, zero-add (length (together (kept (length before) outs)))) refl));
      reply = f ∙ (ap result e ∙ (s.reply ∙ rw (zero-add (length (together outs))) refl));
    }

-- the same page and the same that is accepted print the same
pub alike : (p q : Page) (a b : Accepted) (ls : List Bytes) → p ≡ q → a ≡ b → put_all p (outputs a 1 ls) ≡ put_all q (outputs b 1 ls)
alike p q a b ls e f = λ i. put_all (e i) (outputs (f i) 1 ls)
