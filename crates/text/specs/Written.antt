-- How a call is written as a line, and what the reading of a line tells by that.
use Rattle.std.specs.Prelude.{◌≡◌, ℕ, ◌-◌, ◌<◌, ◌≤◌, List, [], ◌∷◌, ◌++◌, take, Ok, Err, codes, decimal, Result}
use Rattle.league.specs.declared.facts.Fact.{Fact}
use Rattle.league.specs.declared.facts.Fact.TheVariants as fact
use Rattle.league.specs.declared.facts.Kind.{Kind}
use Rattle.league.specs.declared.roles.Mark.{Mark}
use Rattle.league.specs.declared.roles.Mark.TheVariants.{Is, Has}
use Rattle.league.specs.declared.roles.Role.{Role}
use Rattle.league.specs.declared.roles.Role.TheVariants.{Forward, Backward}
use Rattle.league.specs.declared.rules.Rule.{Rule}
use Rattle.league.specs.declared.rules.Rule.TheVariants.{Inclusion, Exclusion, Required, RoleInclusion}
use Rattle.certain.specs.declared.calls.Call.{Call}
use Rattle.certain.specs.declared.calls.Call.TheVariants.{EnterFact, EnterRule}
use Rattle.text.specs.declared.faults.Unreadable.{Unreadable}
use Rattle.text.specs.Lines.{Bytes, fields}

-- a kind is its number after the letter k (107)
abbrev pub kind_text : Kind → Bytes
kind_text kind = 107 ∷ decimal kind.0

-- a role is its link's number after the letter f (102) where it is read forward, and b (98) where backward
abbrev pub role_text : Role → Bytes
role_text (Forward link) = 102 ∷ decimal link.0
role_text (Backward link) = 98 ∷ decimal link.0

-- a mark is a kind, or a role for having some partner by it
abbrev pub mark_text : Mark → Bytes
mark_text (Is kind) = kind_text kind
mark_text (Has role) = role_text role

-- the fields of the line of a fact: K kind name, and L link name name, with bare numbers
abbrev pub written_fact : Fact → List Bytes
written_fact (fact.Is kind name) = codes "K" ∷ (decimal kind.0 ∷ (decimal name.0 ∷ []))
written_fact (fact.Joins link from to) = codes "L" ∷ (decimal link.0 ∷ (decimal from.0 ∷ (decimal to.0 ∷ [])))

-- the fields of the line of a rule: R mark mark, N mark mark, S mark role kind, and H role role
abbrev pub written_rule : Rule → List Bytes
written_rule (Inclusion first second) = codes "R" ∷ (mark_text first ∷ (mark_text second ∷ []))
written_rule (Exclusion first second) = codes "N" ∷ (mark_text first ∷ (mark_text second ∷ []))
written_rule (Required mark role kind) = codes "S" ∷ (mark_text mark ∷ (role_text role ∷ (kind_text kind ∷ [])))
written_rule (RoleInclusion first second) = codes "H" ∷ (role_text first ∷ (role_text second ∷ []))

-- the fields of the line of a call
abbrev pub written : Call → List Bytes
written (EnterFact f) = written_fact f
written (EnterRule r) = written_rule r

-- numbers have at most four digits
abbrev pub Small : ℕ → Type 0
Small n = n < 10000

-- a role's link has such a number
abbrev pub ShortRole : Role → Type 0
ShortRole (Forward link) = Small link.0
ShortRole (Backward link) = Small link.0

-- and so has a mark's kind, or its role's link
abbrev pub ShortMark : Mark → Type 0
ShortMark (Is kind) = Small kind.0
ShortMark (Has role) = ShortRole role

-- all numbers of a fact have at most four digits
abbrev pub ShortFact : Fact → Type 0
ShortFact (fact.Is kind name) = Small kind.0 × Small name.0
ShortFact (fact.Joins link from to) = Small link.0 × Small from.0 × Small to.0

-- all numbers of a rule
abbrev pub ShortRule : Rule → Type 0
ShortRule (Inclusion first second) = ShortMark first × ShortMark second
ShortRule (Exclusion first second) = ShortMark first × ShortMark second
ShortRule (Required mark role kind) = ShortMark mark × ShortRole role × Small kind.0
ShortRule (RoleInclusion first second) = ShortRole first × ShortRole second

-- all numbers of a call: just such calls can be written
abbrev pub Short : Call → Type 0
Short (EnterFact f) = ShortFact f
Short (EnterRule r) = ShortRule r

-- the fields with single spaces (32) between them
abbrev pub spaced : List Bytes → Bytes
spaced [] = []
spaced (w ∷ []) = w
spaced (w ∷ (v ∷ vs)) = w ++ (32 ∷ spaced (v ∷ vs))

-- the first n fields are those of some call's line; where there are fewer fields than n, they are all of its fields
abbrev pub Begins : ℕ → List Bytes → Type 0
Begins n ws = (c : Call) × Short c × (take n ws ≡ take n (written c))

-- What the reading of a line tells: the call of which it is the line, or the number of the first field, from 1, at
-- which no call's line goes on as it does: its form is another, or it is missing or extra.
pub record Means (line : Bytes) (r : Result Call Unreadable) : Type 0 where
  pub readable : (c : Call) → r ≡ Ok c → Short c × (line ≡ spaced (written c))
  pub back : (c : Call) → Short c → line ≡ spaced (written c) → r ≡ Ok c
  pub unreadable : (n : ℕ) → r ≡ Err (record { 0 = n }) → (1 ≤ n) × Begins (n - 1) (fields line) × (Begins n (fields line) → ⊥)
