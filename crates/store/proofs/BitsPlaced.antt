-- The places of facts: two facts have two places, and each place is within the bytes of the store.
use Rattle.std.proofs.Common.{◌≡◌, ℕ, ◌+◌, ◌*◌, ◌/◌, ◌%◌, ◌^◌, ◌<◌, ◌≤◌, true, ◌&&◌, ltb, sym, ap, ◌∙◌, arith}
use Rattle.std.proofs.lemmas.Nat.{mul-add-lt, mul-le, div-mul-add, mod-mul-add}
use Rattle.std.proofs.lemmas.Bool.{and_parts, and_from, ltb-true, eq-eqb}
use Rattle.league.specs.declared.facts.Fact.{Fact}
use Rattle.league.specs.declared.facts.Fact.TheVariants.{Is, Joins}
use Rattle.league.specs.declared.facts.Kind.{Kind}
use Rattle.league.specs.declared.facts.Link.{Link}
use Rattle.league.specs.declared.facts.Name.{Name}
use Rattle.league.specs.Facts.{same, within}
use Rattle.store.specs.Bits.{place_of, bit_limit}

-- the layout by bytes: the byte of a kind's bit and of a link's, and the bit of that byte
pub kind_byte : (n : ℕ) (k : Kind) (a : Name) → place_of n (Is k a) / 8 ≡ 8 * a.0 + k.0 / 8
kind_byte n k a = omega arith

pub kind_bit : (n : ℕ) (k : Kind) (a : Name) → place_of n (Is k a) % 8 ≡ k.0 % 8
kind_bit n k a = omega arith

pub link_byte : (n : ℕ) (l : Link) (a b : Name) → place_of n (Joins l a b) / 8 ≡ 8 * n + 4 * (a.0 * n + b.0) + l.0 / 8
link_byte n l a b = omega arith

pub link_bit : (n : ℕ) (l : Link) (a b : Name) → place_of n (Joins l a b) % 8 ≡ l.0 % 8
link_bit n l a b = omega arith

-- what it says of the numbers of a fact that it can be stated
record KindRange (n k a : ℕ) : Type 0 where
  pub kind : k < 64
  pub name : a < n

record LinkRange (n l a b : ℕ) : Type 0 where
  pub link : l < 32
  pub from : a < n
  pub to : b < n

kind_range : (n : ℕ) (k : Kind) (a : Name) → within n (Is k a) ≡ true → KindRange n k.0 a.0
kind_range n k a w =
    let p = and_parts (ltb k.0 64) (ltb a.0 n) w in
    record { kind = ltb-true k.0 64 p.0; name = ltb-true a.0 n p.1 }

link_range : (n : ℕ) (l : Link) (a b : Name) → within n (Joins l a b) ≡ true → LinkRange n l.0 a.0 b.0
link_range n l a b w =
    let p = and_parts (ltb l.0 32) (ltb a.0 n && ltb b.0 n) w in
    let q = and_parts (ltb a.0 n) (ltb b.0 n) p.1 in
    record { link = ltb-true l.0 32 p.0; from = ltb-true a.0 n q.0; to = ltb-true b.0 n q.1 }

-- a place in a table of rows of n columns says its row and its column
cell_row : (n r a s b : ℕ) → a < n → b < n → r * n + a ≡ s * n + b → r ≡ s
cell_row n r a s b la lb e = sym (div-mul-add r n a la) ∙ (ap (λ (x : ℕ). x / n) e ∙ div-mul-add s n b lb)

cell_column : (n r a s b : ℕ) → a < n → b < n → r * n + a ≡ s * n + b → a ≡ b
cell_column n r a s b la lb e = sym (mod-mul-add r n a la) ∙ (ap (λ (x : ℕ). x % n) e ∙ mod-mul-add s n b lb)

-- two facts with one place are one
pub place_same : (n : ℕ) (f g : Fact) → within n f ≡ true → within n g ≡ true → place_of n f ≡ place_of n g → same f g ≡ true
place_same n (Is k a) (Is m c) w v e =
    let p = kind_range n k a w in
    let q = kind_range n m c v in
    and_from _ _ (eq-eqb k.0 m.0 (omega arith)) (eq-eqb a.0 c.0 (omega arith))
place_same n (Is k a) (Joins m c d) w v e = let p = kind_range n k a w in absurd (omega arith)
place_same n (Joins l a b) (Is m c) w v e = let q = kind_range n m c v in absurd (omega arith)
place_same n (Joins l a b) (Joins m c d) w v e =
    let p = link_range n l a b w in
    let q = link_range n m c d v in
    let r : a.0 * n + b.0 ≡ c.0 * n + d.0 = omega arith in
    and_from _ _ (eq-eqb l.0 m.0 (omega arith))
    (and_from _ _ (eq-eqb _ _ (cell_row n a.0 b.0 c.0 d.0 p.to q.to r))
    (eq-eqb _ _ (cell_column n a.0 b.0 c.0 d.0 p.to q.to r)))

-- a fact that can be stated has one of the places
pub place_below : (n : ℕ) (f : Fact) → within n f ≡ true → place_of n f < bit_limit n
place_below n (Is k a) w = let p = kind_range n k a w in omega arith
place_below n (Joins l a b) w =
    let p = link_range n l a b w in
    omega (arith, mul-add-lt a.0 n b.0 n p.from p.to)

-- so many places have a number of 32 bits
pub limit_fits : (n : ℕ) → n ≤ 1024 → 64 * n + 32 * (n * n) < 2 ^ 32
limit_fits n l = omega (arith, mul-le n n 1024 1024 l l)
