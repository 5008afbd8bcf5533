-- What a line means: the first letter decides its form, and each form has its fields.
use Rattle.std.specs.Prelude.{ℕ, cond, List, Ok, Err, Option, Result, ◌==◌}
use Rattle.league.specs.declared.facts.Fact.TheVariants as fact
use Rattle.league.specs.declared.rules.Rule.TheVariants as rule
use Rattle.certain.specs.declared.calls.Call.{Call}
use Rattle.certain.specs.declared.calls.Call.TheVariants.{EnterFact, EnterRule}
use Rattle.text.specs.declared.faults.Unreadable.{Unreadable}
use Rattle.text.specs.Lines.{Bytes}
use Rattle.text.specs.Tokens.{got, others, at_end}
use Rattle.text.specs.Forms.{numeral, letter, kind_form, role_form, mark_form}

-- what comes of what was read, where it was readable
abbrev pub and_then : {A B : Type 0} → Result A Unreadable → (A → Result B Unreadable) → Result B Unreadable
and_then (Ok a) f = f a
and_then (Err e) f = Err e

-- two fields of these forms, and no more, after the line's letter
abbrev pub two : {A B : Type 0} → (Bytes → Option A) → (Bytes → Option B) → List Bytes → Result (A × B) Unreadable
two p q ws =
    and_then (got p 2 ws) (λ a.
    and_then (got q 3 (others ws)) (λ b.
    and_then (at_end 4 (others (others ws))) (λ _. Ok (a, b))))

-- three fields
abbrev pub three : {A B C : Type 0} → (Bytes → Option A) → (Bytes → Option B) → (Bytes → Option C) → List Bytes → Result (A × B × C) Unreadable
three p q r ws =
    and_then (got p 2 ws) (λ a.
    and_then (got q 3 (others ws)) (λ b.
    and_then (got r 4 (others (others ws))) (λ c.
    and_then (at_end 5 (others (others (others ws)))) (λ _. Ok (a, b, c)))))

-- the rest of a line, by its letter: K kind name (75), L link name name (76), R mark mark (82), N mark mark (78),
-- S mark role kind (83), H role role (72); no other line is readable
abbrev pub by_letter : ℕ → List Bytes → Result Call Unreadable
by_letter c ws =
    cond (c == 75) (and_then (two numeral numeral ws) (λ t. Ok (EnterFact (fact.Is (record { 0 = t.0 }) (record { 0 = t.1 })))))
    (cond (c == 76) (and_then (three numeral numeral numeral ws) (λ t. Ok (EnterFact (fact.Joins (record { 0 = t.0 }) (record { 0 = t.1 }) (record { 0 = t.2 })))))
    (cond (c == 82) (and_then (two mark_form mark_form ws) (λ t. Ok (EnterRule (rule.Inclusion t.0 t.1))))
    (cond (c == 78) (and_then (two mark_form mark_form ws) (λ t. Ok (EnterRule (rule.Exclusion t.0 t.1))))
    (cond (c == 83) (and_then (three mark_form role_form kind_form ws) (λ t. Ok (EnterRule (rule.Required t.0 t.1 t.2))))
    (cond (c == 72) (and_then (two role_form role_form ws) (λ t. Ok (EnterRule (rule.RoleInclusion t.0 t.1))))
    (Err (record { 0 = 1 })))))))

-- the call that the fields of a line mean, or the first field that is misformed, missing or extra
abbrev pub reading : List Bytes → Result Call Unreadable
reading ws = and_then (got letter 1 ws) (λ c. by_letter c.0 (others ws))
