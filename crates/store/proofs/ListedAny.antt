-- The test of the code for a fact among records is that of the definition.
use Rattle.std.proofs.Common.{◌≡◌, List, [], ◌∷◌, refl}
use Rattle.std.specs.List.{list_any}
use Rattle.league.specs.declared.facts.Fact.{Fact}
use Rattle.league.specs.declared.facts.Fact.TheVariants.{Is, Joins}
use Rattle.league.specs.contracts.facts.FactPartialEq.TheImpl.{ghosts}
use Rattle.league.specs.Facts.{same}
use Rattle.store.specs.Records.{listed}

pub same_fact : (x f : Fact) → ghosts.eq x f ≡ same x f
same_fact (Is k a) (Is m c) = refl
same_fact (Is k a) (Joins m c d) = refl
same_fact (Joins l a b) (Is m c) = refl
same_fact (Joins l a b) (Joins m c d) = refl

-- a fact is listed where one of the records is it
pub listed_any : (xs : List Fact) (f : Fact) → listed xs f ≡ list_any (λ x. same x f) xs
listed_any [] f = refl
listed_any (x ∷ xs) f = cc (listed_any xs f)
