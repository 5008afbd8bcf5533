-- Facts, sets of facts, and how many facts a set has.
use Rattle.std.specs.Prelude.{ℕ, zero, suc, ◌+◌, Bool, false, cond, ◌&&◌, ◌||◌, ◌==◌, nat_lt}
use Rattle.league.specs.declared.facts.Fact.{Fact}
use Rattle.league.specs.declared.facts.Fact.TheVariants.{Is, Joins}

-- two facts are one
abbrev pub same : Fact → Fact → Bool
same (Is k a) (Is m c) = k.0 == m.0 && a.0 == c.0
same (Is k a) (Joins m c d) = false
same (Joins l a b) (Is m c) = false
same (Joins l a b) (Joins m c d) = l.0 == m.0 && (a.0 == c.0 && b.0 == d.0)

-- a set with one fact more
abbrev pub plus : Fact → (Fact → Bool) → Fact → Bool
plus f s g = same f g || s g

-- the fact can be stated over n names: its kind is below 64, its link below 32, its names below n
abbrev pub within : ℕ → Fact → Bool
within n (Is k a) = nat_lt k.0 64 && nat_lt a.0 n
within n (Joins l a b) = nat_lt l.0 32 && (nat_lt a.0 n && nat_lt b.0 n)

-- 1 for a fact that is in a set, 0 for another
abbrev pub one : Bool → ℕ
one b = cond b 1 0

-- the sum of f 0 to f (n - 1); it stays shut, as a sum to a numeral would else compute to as many terms
unfoldable pub sum_to : ℕ → (ℕ → ℕ) → ℕ
sum_to zero f = 0
sum_to (suc n) f = sum_to n f + f n

-- how many of the facts that can be stated over n names are in a set
abbrev pub count_of : ℕ → (Fact → Bool) → ℕ
count_of n s =
    sum_to 64 (λ k. sum_to n (λ a. one (s (Is (record { 0 = k }) (record { 0 = a })))))
    + sum_to 32 (λ l. sum_to n (λ a. sum_to n (λ b. one (s (Joins (record { 0 = l }) (record { 0 = a }) (record { 0 = b }))))))
