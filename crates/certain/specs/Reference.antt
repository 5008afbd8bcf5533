-- The reference: what a register has accepted, reckoned from the calls' arguments alone. At opening it is told the number
-- of names and the store's limit; it is never told an answer.
use Rattle.std.specs.Prelude.{ℕ, Ok, Err, Result}
use Rattle.league.specs.declared.facts.Fact.{Fact}
use Rattle.league.specs.declared.facts.Entry.{Entry}
use Rattle.league.specs.declared.faults.StoreFault.{StoreFault}
use Rattle.league.specs.declared.faults.BookFault.{BookFault}
use Rattle.league.specs.declared.rules.Rule.{Rule}
use Rattle.league.specs.Faults.{from_store}
use Rattle.store.specs.Holding.{Holding, reply, after, opened}
use Rattle.rules.specs.RuleSet.{RuleSet, no_rules, rule_reply, rule_after}
use Rattle.rules.specs.Tables.{means as rule_set}
use Rattle.certain.specs.declared.register.Register.{Register}
use Rattle.certain.specs.declared.calls.Call.{Call}
use Rattle.certain.specs.declared.calls.Call.TheVariants.{EnterFact, EnterRule}

-- what is accepted: the facts, with the number of names and the limit, and the rules with their pairs
pub record Accepted : Type 0 where
  pub store : Holding
  pub book : RuleSet

abbrev pub accepted : Holding → RuleSet → Accepted
accepted h s = record { store = h; book = s }

-- what a register has accepted, where a store of its type holds what `means` tells
abbrev pub accepted_by : {S : Type 0} → (S → Holding) → Register S → Accepted
accepted_by means register = accepted (means register.store) (rule_set register.rules)

-- a register that was opened on an empty store: no facts and no rules
abbrev pub at_first : ℕ → ℕ → Accepted
at_first names limit = accepted (opened names limit) no_rules

-- the store's answer, as the register's
abbrev pub as_book : Result Entry StoreFault → Result Entry BookFault
as_book (Ok entry) = Ok entry
as_book (Err fault) = Err (from_store fault)

-- a fact entry is answered as a store of these names, limit and facts answers it
abbrev pub fact_reply : Accepted → Fact → Result Entry BookFault
fact_reply a f = as_book (reply a.store f)

abbrev pub fact_after : Accepted → Fact → Accepted
fact_after a f = accepted (after a.store f) a.book

-- a rule entry is answered by the rules accepted before and their pairs
abbrev pub rule_replied : Accepted → Rule → Result Entry BookFault
rule_replied a r = rule_reply a.book r

abbrev pub rule_entered : Accepted → Rule → Accepted
rule_entered a r = accepted a.store (rule_after a.book r)

-- the reply to a call
abbrev pub reply_to : Accepted → Call → Result Entry BookFault
reply_to a (EnterFact f) = fact_reply a f
reply_to a (EnterRule r) = rule_replied a r

-- what is accepted after a call
abbrev pub next : Accepted → Call → Accepted
next a (EnterFact f) = fact_after a f
next a (EnterRule r) = rule_entered a r
