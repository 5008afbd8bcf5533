-- The plain model of what a store holds: names and recorded facts, no rules and no steps.
use Rattle.std.specs.Prelude.{false, nat_lt}
use Rattle.league.specs.declared.facts.Fact.TheVariants.{Is}
use Rattle.store.specs.Holding.{Holding}
use Rattle.model.specs.Recorded.{name_of, fact_of}
use Rattle.model.specs.Structures.{Shape, Form}

-- its elements are the names; each is of the kinds that are recorded of it, and a role joins two names
-- where the fact that says so is recorded
abbrev pub plain_shape : Holding → Shape
plain_shape h = record {
  size = h.names;
  present = λ d. nat_lt d h.names;
  nameable = h.names;
  kind = λ k d. h.facts (Is k (name_of d));
  joins = λ R d e. h.facts (fact_of R (name_of d) (name_of e));
}

-- no element steps to another
abbrev pub plain_form : Holding → Form
plain_form h = record { names = h.names; step = λ _ _. false; by = λ _ _ _. false }
