-- Pairs in use: how many, at which number, and one pair more.
use Rattle.std.proofs.Common.{◌≡◌, ℕ, suc, ◌+◌, Bool, true, false, cond, not, List, [], ◌∷◌, length, refl, arith}
use Rattle.std.specs.List.{position_or_len}
use Rattle.std.proofs.lemmas.List.{length-take-le}
use Rattle.std.proofs.lemmas.Bool.Decides.{nat_tests}
use Rattle.league.specs.declared.facts.Kind.{Kind}
use Rattle.league.specs.declared.roles.Role.{Role}
use Rattle.league.specs.declared.roles.Role.TheVariants.{Forward, Backward}
use Rattle.rules.specs.contracts.pair.PairPartialEq.TheImpl.{ghosts}
use Rattle.rules.specs.InUse.{in_use}
use Rattle.rules.specs.Pairs.{pair_of, same_pair, number_of}
use Rattle.rules.specs.declared.pair.Pair.{Pair}
use Rattle.rules.specs.declared.pairs.PairList.{PairList}

pub length_in_use : (t : PairList) → length (in_use t) ≡ t.count
length_in_use t = length-take-le t.count t.places (omega (arith, t.few, t.sized))

-- what `==` tells of two pairs
pair_equals : (R S : Role) (k m : Kind) (r : Bool) → (r ≡ ghosts.eq (pair_of R k) (pair_of S m)) → r ≡ same_pair (pair_of R k) (pair_of S m)
pair_equals (Forward l) (Forward n) k m true h = grind (arith, nat_tests)
pair_equals (Forward l) (Forward n) k m false h = grind (arith, nat_tests)
pair_equals (Forward l) (Backward n) k m true h = grind (arith, nat_tests)
pair_equals (Forward l) (Backward n) k m false h = refl
pair_equals (Backward l) (Forward n) k m true h = grind (arith, nat_tests)
pair_equals (Backward l) (Forward n) k m false h = refl
pair_equals (Backward l) (Backward n) k m true h = grind (arith, nat_tests)
pair_equals (Backward l) (Backward n) k m false h = grind (arith, nat_tests)

pub same_from_equals : (p q : Pair) (r : Bool) → (r ≡ ghosts.eq p q) → r ≡ same_pair p q
same_from_equals p q r h = pair_equals p.role q.role p.kind q.kind r h

-- the number of a pair is the first place that has it
number_step : (here : Bool) (m n : ℕ) → m ≡ n → cond (not here) (1 + m) 0 ≡ cond here 0 (suc n)
number_step true m n e = refl
number_step false m n e = omega arith

pub number_of_lem : (ps : List Pair) (p : Pair) → position_or_len (λ q. same_pair q p) ps ≡ number_of ps p
number_of_lem [] p = refl
number_of_lem (q ∷ qs) p = number_step (same_pair q p) (position_or_len (λ o. same_pair o p) qs) (number_of qs p) (number_of_lem qs p)
