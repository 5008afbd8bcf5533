-- What a store means: how many names there are, how many facts it may hold, and which it holds.
use Rattle.std.specs.Prelude.{◌≡◌, ℕ, ◌≤◌, Bool, true, false, cond, Ok, Err, Result, nat_lt}
use Rattle.league.specs.Facts.{plus, within, count_of}
use Rattle.league.specs.declared.facts.Fact.{Fact}
use Rattle.league.specs.declared.facts.Fact.TheVariants.{Is, Joins}
use Rattle.league.specs.declared.facts.Entry.{Entry}
use Rattle.league.specs.declared.facts.Entry.TheVariants.{New, Known}
use Rattle.league.specs.declared.faults.StoreFault.{StoreFault}
use Rattle.league.specs.declared.faults.StoreFault.TheVariants.{Kind, Link, Name, Full}

pub record Holding : Type 0 where
  pub names : ℕ
  pub limit : ℕ
  pub facts : Fact → Bool

-- a store that is asked for so many names has them; asked for more than 1,024 it has none
abbrev pub names_of : ℕ → ℕ
names_of asked = cond (nat_lt 1024 asked) 0 asked

-- a store as it is opened: without facts
abbrev pub opened : ℕ → ℕ → Holding
opened names limit = record { names = names; limit = limit; facts = λ _. false }

-- how many facts it holds
abbrev pub count : Holding → ℕ
count h = count_of h.names h.facts

-- a refusal where a number is not below its bound; else what comes of the numbers after it
abbrev pub below : ℕ → ℕ → StoreFault → Result (Unit {0}) StoreFault → Result (Unit {0}) StoreFault
below n bound fault rest = cond (nat_lt n bound) rest (Err fault)

-- the fault at the first of a fact's numbers that is out of range, from the left
abbrev pub fault_in : ℕ → Fact → Result (Unit {0}) StoreFault
fault_in n (Is k a) =
    below k.0 64 (Kind (record { 0 = 1 })) (below a.0 n (Name (record { 0 = 2 })) (Ok tt))
fault_in n (Joins l a b) =
    below l.0 32 (Link (record { 0 = 1 }))
    (below a.0 n (Name (record { 0 = 2 })) (below b.0 n (Name (record { 0 = 3 })) (Ok tt)))

abbrev pub unless : Result (Unit {0}) StoreFault → Result Entry StoreFault → Result Entry StoreFault
unless (Ok u) r = r
unless (Err e) r = Err e

-- what is answered to a fact: a fault in its numbers, known, new where there is room, or full
abbrev pub admitted : ℕ → Fact → Bool → Bool → Result Entry StoreFault
admitted n f known room = unless (fault_in n f) (cond known (Ok Known) (cond room (Ok New) (Err Full)))

-- what a store answers to a fact that is entered
abbrev pub reply : Holding → Fact → Result Entry StoreFault
reply h f = admitted h.names f (h.facts f) (nat_lt (count h) h.limit)

-- one fact more, and the rest as it was
abbrev pub gain : Holding → Fact → Holding
gain h f = record { names = h.names; limit = h.limit; facts = plus f h.facts }

-- what is held once the answer was given: a new fact is gained, and else nothing changes
abbrev pub after_reply : Holding → Fact → Result Entry StoreFault → Holding
after_reply h f (Ok New) = gain h f
after_reply h f (Ok Known) = h
after_reply h f (Err e) = h

-- what a store holds after a fact was entered
abbrev pub after : Holding → Fact → Holding
after h f = after_reply h f (reply h f)

-- what every store keeps: few names, no more facts than its limit, and each of them in range
pub record Sound (h : Holding) : Type 0 where
  pub few : h.names ≤ 1024
  pub room : count h ≤ h.limit
  pub range : (f : Fact) → h.facts f ≡ true → within h.names f ≡ true
