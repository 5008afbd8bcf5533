-- Tables that are made row by row.
use Rattle.std.proofs.Common.{◌≡◌, ℕ, ◌+◌, ◌<◌, Bool, false, cond, not, ◌&&◌, ltb, eqb, List, [], length, get_or, sym, ap, ◌∙◌, subst, ⊎_elim, arith}
use Rattle.std.proofs.lemmas.Bool.{cases_eq, cases_lt, eq-eqb, ne_eqb, lt-ltb, le-ltb, cond-true, cond-false}
use Rattle.rules.proofs.Flagged.{no_row, no_column}
use Rattle.rules.specs.Codes.{role_of}
use Rattle.rules.specs.Flags.{flag}
use Rattle.rules.specs.declared.consequences.Consequences.{Consequences}
use Rattle.store.specs.Holding.{Holding}
use Rattle.model.specs.Given.{RowsOf}
use Rattle.model.specs.Recorded.{name_of}
use Rattle.model.specs.RoleTests.{told_loop, told_in_loop}
use Rattle.model.specs.Rows.{some_below, Filled, Stacked, flag_in}
use Rattle.model.proofs.Searches.{some_same}

-- outside a table of so many rows and columns no flag is set
pub flag_inside : (cells : List (List Bool)) (tall wide : ℕ) → length cells ≡ tall → ((i : ℕ) → i < tall → length (get_or cells i []) ≡ wide)
    → (i j : ℕ) → flag cells i j ≡ flag_in tall wide cells i j
flag_inside cells tall wide rows columns i j = ⊎_elim
    (λ l. ⊎_elim
    (λ m. sym (ap (λ t. t && flag cells i j) (ap (λ t. t && ltb j wide) (lt-ltb i tall l) ∙ lt-ltb j wide m)))
    (λ m. sym (no_column cells i j (omega (arith, columns i l))) ∙ sym (ap (λ t. t && flag cells i j) (ap (λ t. t && ltb j wide) (lt-ltb i tall l) ∙ le-ltb j wide m)))
    (cases_lt j wide))
    (λ l. sym (no_row cells i j (omega (arith, rows))) ∙ sym (ap (λ t. (t && ltb j wide) && flag cells i j) (le-ltb i tall l)))
    (cases_lt i tall)

-- rows with the flags of others tell what those tell
rows_same : (h : Holding) (c : Consequences) (i : ℕ) (marks starts row other : List Bool) → RowsOf h c (name_of i) row other
    → ((j : ℕ) → get_or marks j false ≡ get_or row j false) → ((j : ℕ) → get_or starts j false ≡ get_or other j false) → RowsOf h c (name_of i) marks starts
rows_same h c i marks starts row other r m s = record {
  given = r.given;
  given_are = r.given_are;
  marks_are = λ j. m j ∙ r.marks_are j;
  starts_are = λ j. s j ∙ (r.starts_are j ∙ ap (λ b. ltb j 128 && (b && not (get_or r.given (64 + j) false))) (sym (m (64 + j))));
}

-- the rows of the first n names are made
pub record NamesMade (h : Holding) (c : Consequences) (marks starts : List (List Bool)) (n : ℕ) : Type 0 where
  pub made : (i : ℕ) → i < n → RowsOf h c (name_of i) (get_or marks i []) (get_or starts i [])

pub names_none : (h : Holding) (c : Consequences) (marks starts : List (List Bool)) → NamesMade h c marks starts 0
names_none h c marks starts = record { made = λ i l. absurd (omega arith) }

pub names_more : (h : Holding) (c : Consequences) (marks starts marks' starts' : List (List Bool)) (n place : ℕ) (row other : List Bool)
    → place ≡ n → NamesMade h c marks starts n → RowsOf h c (name_of n) row other
    → ((i j : ℕ) → flag marks' i j ≡ cond (eqb i place) (get_or row j false) (flag marks i j))
    → ((i j : ℕ) → flag starts' i j ≡ cond (eqb i place) (get_or other j false) (flag starts i j))
    → NamesMade h c marks' starts' (n + 1)
names_more h c marks starts marks' starts' n place row other same m r p q = record {
  made = λ i l. ⊎_elim
      (λ e. rows_same h c i _ _ row other (subst (λ k. RowsOf h c (name_of k) row other) (sym (e ∙ same)) r)
      (λ j. p i j ∙ cond-true (eqb i place) _ _ (eq-eqb i place e)) (λ j. q i j ∙ cond-true (eqb i place) _ _ (eq-eqb i place e)))
      (λ u. rows_same h c i _ _ (get_or marks i []) (get_or starts i []) (m.made i (omega arith))
      (λ j. p i j ∙ cond-false (eqb i place) _ _ (ne_eqb i place u)) (λ j. q i j ∙ cond-false (eqb i place) _ _ (ne_eqb i place u)))
      (cases_eq i place);
}

-- a table of which one row more tells a test
pub stacked_more : (pairs pairs' : List (List Bool)) (n place wide : ℕ) (row : List Bool) (q : ℕ → ℕ → Bool) → place ≡ n → Stacked pairs n wide q → Filled row wide (q n)
    → ((i j : ℕ) → flag pairs' i j ≡ cond (eqb i place) (get_or row j false) (flag pairs i j)) → Stacked pairs' (n + 1) wide q
stacked_more pairs pairs' n place wide row q same s f p i l j = p i j ∙ ⊎_elim
    (λ e. cond-true (eqb i place) _ _ (eq-eqb i place e) ∙ (f j ∙ ap (λ k. ltb j wide && q k j) (sym (e ∙ same))))
    (λ u. cond-false (eqb i place) _ _ (ne_eqb i place u) ∙ s i (omega arith) j)
    (cases_eq i place)

-- a role is in some loop where its row of loops has a flag
pub members_of : (c : Consequences) (pairs : List (List Bool)) (members : List Bool) → Stacked pairs 128 128 (λ i j. told_loop c (role_of i) (role_of j))
    → Filled members 128 (λ i. some_below 128 (flag pairs i)) → Filled members 128 (λ i. told_in_loop c (role_of i))
members_of c pairs members s m i = m i ∙ ⊎_elim
    (λ l. ap (λ b. ltb i 128 && b) (some_same 128 (flag pairs i) (λ j. told_loop c (role_of i) (role_of j)) (λ j k. s i l j ∙ ap (λ t. t && told_loop c (role_of i) (role_of j)) (lt-ltb j 128 k))))
    (λ l. ap (λ t. t && some_below 128 (flag pairs i)) (le-ltb i 128 l) ∙ sym (ap (λ t. t && told_in_loop c (role_of i)) (le-ltb i 128 l)))
    (cases_lt i 128)
