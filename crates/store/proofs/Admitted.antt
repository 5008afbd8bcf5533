-- When a fact can be stated.
use Rattle.std.proofs.Common.{◌≡◌, ℕ, true, is_ok, arith}
use Rattle.std.proofs.lemmas.Bool.Decides.{nat_tests}
use Rattle.league.specs.declared.facts.Fact.{Fact}
use Rattle.league.specs.declared.facts.Fact.TheVariants.{Is, Joins}
use Rattle.league.specs.Facts.{within}
use Rattle.store.specs.Holding.{fault_in}

-- where no number is at fault the fact can be stated
pub range_within : (n : ℕ) (f : Fact) → is_ok (fault_in n f) ≡ true → within n f ≡ true
range_within n (Is k a) e = grind (arith, nat_tests)
range_within n (Joins l a b) e = grind (arith, nat_tests)
