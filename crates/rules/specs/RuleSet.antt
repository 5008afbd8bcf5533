-- What a rule table holds, what it replies to a rule, and what it then holds.
use Rattle.std.specs.Prelude.{◌≡◌, ℕ, ◌<◌, ◌≤◌, Bool, true, false, cond, ◌&&◌, ◌||◌, T, List, [], length, Some, None, Ok, Err, Option, Result}
use Rattle.std.specs.Option.{option_or}
use Rattle.std.specs.List.{slice_get}
use Rattle.league.specs.Roles.{inverse}
use Rattle.league.specs.declared.facts.Entry.{Entry}
use Rattle.league.specs.declared.facts.Entry.TheVariants.{New, Known}
use Rattle.league.specs.declared.facts.Kind.{Kind}
use Rattle.league.specs.declared.faults.BookFault.{BookFault}
use Rattle.league.specs.declared.faults.BookFault.TheVariants as book
use Rattle.league.specs.declared.roles.Role.{Role}
use Rattle.league.specs.declared.roles.Mark.{Mark}
use Rattle.league.specs.declared.roles.Mark.TheVariants.{Is, Has}
use Rattle.league.specs.declared.rules.Rule.{Rule}
use Rattle.league.specs.declared.rules.Rule.TheVariants.{Inclusion, Exclusion, Required, RoleInclusion}
use Rattle.rules.specs.Marks.{same_kind, same_role, same_mark, kind_within, role_within, mark_within, KindIn, RoleIn, MarkIn}
use Rattle.rules.specs.Pairs.{pair_of, number_of, fits, with_pair}
use Rattle.rules.specs.declared.pair.Pair.{Pair}

-- the accepted rules, in each of their spellings, and the pairs that they use, in order of first use
pub record RuleSet : Type 0 where
  pub rules : Rule → Bool
  pub pairs : List Pair

-- no rule and no pair
abbrev pub no_rules : RuleSet
no_rules = record { rules = λ _. false; pairs = [] }

-- two rules are one, in either spelling: an exclusion may have its marks exchanged, a role inclusion both its roles turned
abbrev pub same_rule : Rule → Rule → Bool
same_rule (Inclusion B C) (Inclusion D E) = same_mark B D && same_mark C E
same_rule (Inclusion B C) (Exclusion D E) = false
same_rule (Inclusion B C) (Required D S m) = false
same_rule (Inclusion B C) (RoleInclusion S U) = false
same_rule (Exclusion B C) (Inclusion D E) = false
same_rule (Exclusion B C) (Exclusion D E) = (same_mark B D && same_mark C E) || (same_mark B E && same_mark C D)
same_rule (Exclusion B C) (Required D S m) = false
same_rule (Exclusion B C) (RoleInclusion S U) = false
same_rule (Required B R k) (Inclusion D E) = false
same_rule (Required B R k) (Exclusion D E) = false
same_rule (Required B R k) (Required D S m) = same_mark B D && (same_role R S && same_kind k m)
same_rule (Required B R k) (RoleInclusion S U) = false
same_rule (RoleInclusion Q R) (Inclusion D E) = false
same_rule (RoleInclusion Q R) (Exclusion D E) = false
same_rule (RoleInclusion Q R) (Required D S m) = false
same_rule (RoleInclusion Q R) (RoleInclusion S U) =
    (same_role Q S && same_role R U) || (same_role Q (inverse S) && same_role R (inverse U))

-- the fault of a kind above 63, as an argument at a place
abbrev pub kind_fault : ℕ → Kind → Option BookFault
kind_fault place k = cond (kind_within k) None (Some (book.Kind (record { 0 = place })))

-- the fault of a link above 31
abbrev pub role_fault : ℕ → Role → Option BookFault
role_fault place R = cond (role_within R) None (Some (book.Link (record { 0 = place })))

-- the fault of a mark
abbrev pub mark_fault : ℕ → Mark → Option BookFault
mark_fault place (Is k) = kind_fault place k
mark_fault place (Has R) = role_fault place R

-- the fault of the first argument, from the left, that is out of range; places count from 1
abbrev pub rule_fault : Rule → Option BookFault
rule_fault (Inclusion B C) = option_or (mark_fault 1 B) (mark_fault 2 C)
rule_fault (Exclusion B C) = option_or (mark_fault 1 B) (mark_fault 2 C)
rule_fault (Required B R k) = option_or (option_or (mark_fault 1 B) (role_fault 2 R)) (kind_fault 3 k)
rule_fault (RoleInclusion R S) = option_or (role_fault 1 R) (role_fault 2 S)

-- every argument is in range
abbrev pub rule_within : Rule → Bool
rule_within (Inclusion B C) = mark_within B && mark_within C
rule_within (Exclusion B C) = mark_within B && mark_within C
rule_within (Required B R k) = mark_within B && (role_within R && kind_within k)
rule_within (RoleInclusion R S) = role_within R && role_within S

-- the same, as a fact
abbrev pub RuleIn : Rule → Type 0
RuleIn (Inclusion B C) = MarkIn B × MarkIn C
RuleIn (Exclusion B C) = MarkIn B × MarkIn C
RuleIn (Required B R k) = MarkIn B × RoleIn R × KindIn k
RuleIn (RoleInclusion R S) = RoleIn R × RoleIn S

-- a rule that uses a pair finds room for it
abbrev pub has_room : List Pair → Rule → Bool
has_room ps (Inclusion B C) = true
has_room ps (Exclusion B C) = true
has_room ps (Required B R k) = fits ps (pair_of R k)
has_room ps (RoleInclusion R S) = true

-- the fault where there is one, else the reply
abbrev pub unless : Option BookFault → Result Entry BookFault → Result Entry BookFault
unless None reply = reply
unless (Some fault) reply = Err fault

-- the reply to a rule: a number out of range is refused first, then a rule accepted before is known,
-- then a new pair is refused while 32 are in use
abbrev pub rule_reply : RuleSet → Rule → Result Entry BookFault
rule_reply s r =
    unless (rule_fault r) (cond (s.rules r) (Ok Known) (cond (has_room s.pairs r) (Ok New) (Err book.Pairs)))

-- the pairs once the rule is accepted
abbrev pub pairs_with : List Pair → Rule → List Pair
pairs_with ps (Inclusion B C) = ps
pairs_with ps (Exclusion B C) = ps
pairs_with ps (Required B R k) = with_pair ps (pair_of R k)
pairs_with ps (RoleInclusion R S) = ps

-- the rules and pairs with one rule more
abbrev pub gained : RuleSet → Rule → RuleSet
gained s r = record { rules = λ q. same_rule r q || s.rules q; pairs = pairs_with s.pairs r }

-- what is held after a reply: a new rule is gained, and else nothing changes
abbrev pub held_after : RuleSet → Rule → Result Entry BookFault → RuleSet
held_after s r (Ok New) = gained s r
held_after s r (Ok Known) = s
held_after s r (Err fault) = s

-- what is held after a rule is entered
abbrev pub rule_after : RuleSet → Rule → RuleSet
rule_after s r = held_after s r (rule_reply s r)

-- what every rule table keeps
pub record Proper (s : RuleSet) : Type 0 where
  -- accepted rules have kinds below 64 and links below 32
  pub rules_in : (r : Rule) → T (s.rules r) → RuleIn r
  -- both spellings of an exclusion are accepted together
  pub exchanged : (B C : Mark) → s.rules (Exclusion B C) ≡ s.rules (Exclusion C B)
  -- and both of a role inclusion
  pub turned : (R S : Role) → s.rules (RoleInclusion R S) ≡ s.rules (RoleInclusion (inverse R) (inverse S))
  -- the pair of an accepted rule has a number
  pub paired : (B : Mark) (R : Role) (k : Kind) → T (s.rules (Required B R k)) → number_of s.pairs (pair_of R k) < length s.pairs
  -- at most 32 pairs are in use
  pub pairs_few : length s.pairs ≤ 32
  -- their links are below 32 and their kinds below 64
  pub pairs_in : (i : ℕ) (p : Pair) → slice_get s.pairs i ≡ Some p → RoleIn p.role × KindIn p.kind
  -- no pair has two numbers
  pub pairs_apart : (i j : ℕ) (p : Pair) → slice_get s.pairs i ≡ Some p → slice_get s.pairs j ≡ Some p → i ≡ j
