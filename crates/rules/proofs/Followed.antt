-- Reach tables over the codes of roles and of marks hold what follows from the rules.
use Rattle.std.proofs.Common.{◌≡◌, ℕ, ◌+◌, ◌-◌, ◌<◌, Bool, true, false, cond, ◌&&◌, T, eqb, ◌⊎◌, List, length, get_or, sym, refl, ap, ◌∙◌, subst, inl, inr, ⊎_elim, arith}
use Rattle.std.proofs.lemmas.Bool.{cases_eq, cases_lt, ltb-true, lt-ltb, eq-eqb, ne_eqb, and_parts, and_from, both_ways, cond-true, cond-false}
use Rattle.graph.specs.Paths.{Star, here, then, Step, Tells}
use Rattle.graph.proofs.Stars.{star_map, star_same, star_ends}
use Rattle.league.specs.Roles.{code, link_of}
use Rattle.league.specs.declared.roles.Role.{Role}
use Rattle.league.specs.declared.roles.Mark.{Mark}
use Rattle.league.specs.declared.roles.Mark.TheVariants.{Is, Has}
use Rattle.rules.specs.Codes.{role_of, mark_of}
use Rattle.rules.specs.Consequences.{role_listed, mark_listed, told_below, told_implies, Decides}
use Rattle.rules.specs.Flags.{flag}
use Rattle.rules.specs.Follows.{RoleEdge, Below, MarkEdge, Implies}
use Rattle.rules.specs.Marks.{same_role, same_mark, mark_code}
use Rattle.rules.specs.RuleSet.{RuleSet, Proper}
use Rattle.rules.specs.Steps.{role_gives, role_step, entry_of, mark_gives, mark_step}
use Rattle.rules.specs.declared.consequences.Consequences.{Consequences}
use Rattle.rules.proofs.Coded.{role_of_code, code_below, small_mark, large_mark}
use Rattle.rules.proofs.Flagged.{no_row}
use Rattle.rules.proofs.Marked.{T_true, true_T, role_self, role_eq, mark_self, mark_eq}
use Rattle.rules.proofs.Stepped.{RoleFits, MarkFits, gives_edge, edge_gives, edge_fits, below-fits, gives_mark_edge, mark_edge_gives}

-- marks of the tables have codes below 192, and are told by them
mark_code-below : (B : Mark) → MarkFits B → mark_code B < 192
mark_code-below (Is k) f = omega arith
mark_code-below (Has R) f = omega (arith, code_below R 64 f)

mark_of_code : (B : Mark) → MarkFits B → mark_of (mark_code B) ≡ B
mark_of_code (Is k) f = small_mark k.0 f
mark_of_code (Has R) f =
    let e : (64 + code R) - 64 ≡ code R = omega arith in
    large_mark (64 + code R) (omega arith) ∙ (ap (λ (n : ℕ). Has (role_of n)) e ∙ ap Has (role_of_code R))

-- a table tells a relation: by its entries for what is listed, and by equality for what is not
told : {A : Type 0} (P : A → A → Type 0) (x y : A) (listed entry same : Bool)
    → ((a : A) → P a a) → (listed ≡ true → Tells entry (P x y)) → (same ≡ true → x ≡ y) → (x ≡ y → same ≡ true)
    → (listed ≡ false → P x y → x ≡ y) → Tells (cond listed entry same) (P x y)
told P x y true entry same own table eq qe out = table refl
told P x y false entry same own table eq qe out = record {
  sound = λ t. subst (λ z. P x z) (eq (T_true same t)) (own x);
  complete = λ p. true_T same (qe (out refl p));
}

-- a table that tells a relation of the first nodes tells it of one more, once the row of that one is put
pub row_more : (P : ℕ → ℕ → Type 0) (rows next : List (List Bool)) (i : ℕ) (row : List Bool)
    → ((a b : ℕ) → flag next a b ≡ cond (eqb a i) (get_or row b false) (flag rows a b))
    → ((a b : ℕ) → a < i → Tells (flag rows a b) (P a b)) → ((b : ℕ) → Tells (get_or row b false) (P i b))
    → (a b : ℕ) → a < i + 1 → Tells (flag next a b) (P a b)
row_more P rows next i row put was own a b l =
    ⊎_elim
    (λ (e : a ≡ i).
    let t : Tells (get_or row b false) (P a b) = subst (λ (n : ℕ). Tells (get_or row b false) (P n b)) (sym e) (own b) in
    subst (λ (x : Bool). Tells x (P a b)) (sym (put a b ∙ cond-true (eqb a i) (get_or row b false) (flag rows a b) (eq-eqb a i e))) t)
    (λ (ne : a ≡ i → ⊥).
    let h : a < i = omega arith in
    subst (λ (x : Bool). Tells x (P a b))
    (sym (put a b ∙ cond-false (eqb a i) (get_or row b false) (flag rows a b) (ne_eqb a i ne)))
    (was a b h))
    (cases_eq a i)

module _ (s : RuleSet) (proper : Proper s) where
  -- the table of roles
  module _ (rows : List (List Bool)) (table : (a b : ℕ) → a < 128 → Tells (flag rows a b) (Star (Step (role_step s) 128) a b)) where
    from_codes : (R S : Role) → Star (Step (role_step s) 128) (code R) (code S) → Below s R S
    from_codes R S p =
        let q : Below s (role_of (code R)) (role_of (code S)) =
        star_map role_of (λ x y e. then here (gives_edge s (role_of x) (role_of y) e.0)) p in
        let r : Below s R (role_of (code S)) = subst (λ (Q : Role). Below s Q (role_of (code S))) (role_of_code R) q in
        subst (λ (Q : Role). Below s R Q) (role_of_code S) r

    step_codes : (R S : Role) → RoleEdge s R S → Step (role_step s) 128 (code R) (code S)
    step_codes R S e =
        let g : T (role_gives s (role_of (code R)) S) =
        subst (λ (Q : Role). T (role_gives s Q S)) (sym (role_of_code R)) (edge_gives s proper e) in
        let f = edge_fits s proper e in
        (subst (λ (Q : Role). T (role_gives s (role_of (code R)) Q)) (sym (role_of_code S)) g, code_below S 64 f.1)

    pub role_table_lem : (R S : Role) → RoleFits R → Tells (flag rows (code R) (code S)) (Below s R S)
    role_table_lem R S f =
        let t = table (code R) (code S) (code_below R 64 f) in
        record {
          sound = λ h. from_codes R S (t.sound h);
          complete = λ p. t.complete (star_map code (λ x y e. then here (step_codes x y e)) p);
        }

    -- an entry says that the role is below the other, whatever the roles
    pub role_entry : length rows ≡ 128 → (R S : Role) → T (flag rows (code R) (code S)) → Below s R S
    role_entry tall R S t =
        ⊎_elim
        (λ l. from_codes R S ((table (code R) (code S) l).sound t))
        (λ l. absurd (subst T (sym (no_row rows (code R) (code S) (omega arith))) t))
        (cases_lt (code R) 128)

  -- the table of marks, where it is known which roles are below which
  module _ (below : Role → Role → Bool) (sound : (R S : Role) → T (below R S) → Below s R S)
      (complete : (R S : Role) → RoleFits R → RoleFits S → Below s R S → T (below R S))
      (rows : List (List Bool)) (table : (a b : ℕ) → a < 192 → Tells (flag rows a b) (Star (Step (mark_step s below) 192) a b)) where
    from_mark_codes : (B C : Mark) → MarkFits B → MarkFits C → Star (Step (mark_step s below) 192) (mark_code B) (mark_code C) → Implies s B C
    from_mark_codes B C f g p =
        let q : Implies s (mark_of (mark_code B)) (mark_of (mark_code C)) =
        star_map mark_of (λ x y e. then here (gives_mark_edge s below sound (mark_of x) (mark_of y) e.0)) p in
        let r : Implies s B (mark_of (mark_code C)) = subst (λ (D : Mark). Implies s D (mark_of (mark_code C))) (mark_of_code B f) q in
        subst (λ (D : Mark). Implies s B D) (mark_of_code C g) r

    step_mark_codes : (B C : Mark) → MarkEdge s B C → Star (Step (mark_step s below) 192) (mark_code B) (mark_code C)
    step_mark_codes B C e =
        ⊎_elim
        (λ q. star_same (ap mark_code q))
        (λ w.
        let g : T (mark_gives s below (mark_of (mark_code B)) C) =
        subst (λ (D : Mark). T (mark_gives s below D C)) (sym (mark_of_code B w.0)) w.2 in
        then here (subst (λ (D : Mark). T (mark_gives s below (mark_of (mark_code B)) D)) (sym (mark_of_code C w.1)) g, mark_code-below C w.1))
        (mark_edge_gives s proper below complete e)

    pub mark_table_lem : (B C : Mark) → MarkFits B → MarkFits C → Tells (flag rows (mark_code B) (mark_code C)) (Implies s B C)
    mark_table_lem B C f g =
        let t = table (mark_code B) (mark_code C) (mark_code-below B f) in
        record {
          sound = λ h. from_mark_codes B C f g (t.sound h);
          complete = λ p. t.complete (star_map mark_code step_mark_codes p);
        }

-- both tables together
module _ (s : RuleSet) (proper : Proper s) (c : Consequences) where
  abbrev entry_below : Role → Role → Bool
  entry_below = entry_of c.roles.cells

  module _ (roles : (a b : ℕ) → a < 128 → Tells (flag c.roles.cells a b) (Star (Step (role_step s) 128) a b))
      (marks : (a b : ℕ) → a < 192 → Tells (flag c.marks.cells a b) (Star (Step (mark_step s (entry_of c.roles.cells)) 192) a b)) where
    role_listed_lem : (R S : Role) → (role_listed R && role_listed S) ≡ true → RoleFits R × RoleFits S
    role_listed_lem R S e =
        let w = and_parts (role_listed R) (role_listed S) e in
        (ltb-true (link_of R).0 64 w.0, ltb-true (link_of S).0 64 w.1)

    listed_role : (R S : Role) → RoleFits R → RoleFits S → (role_listed R && role_listed S) ≡ true
    listed_role R S f g = and_from (role_listed R) (role_listed S) (lt-ltb (link_of R).0 64 f) (lt-ltb (link_of S).0 64 g)

    told_below_lem : (R S : Role) → Tells (told_below c R S) (Below s R S)
    told_below_lem R S =
        told (Below s) R S (role_listed R && role_listed S) (entry_below R S) (same_role R S) (λ a. here)
        (λ e. role_table_lem s proper c.roles.cells roles R S (role_listed_lem R S e).0)
        (role_eq R S)
        (λ e. subst (λ (Q : Role). same_role R Q ≡ true) e (role_self R))
        (λ o p.
        ⊎_elim (λ e. e)
        (λ f. absurd (both_ways (role_listed R && role_listed S) o (listed_role R S f.0 f.1)))
        (below-fits s proper p))

    listed_mark : (B : Mark) → MarkFits B → mark_listed B ≡ true
    listed_mark (Is k) f = lt-ltb k.0 64 f
    listed_mark (Has R) f = lt-ltb (link_of R).0 64 f

    mark_listed_lem : (B : Mark) → mark_listed B ≡ true → MarkFits B
    mark_listed_lem (Is k) e = ltb-true k.0 64 e
    mark_listed_lem (Has R) e = ltb-true (link_of R).0 64 e

    whole : (R S : Role) → RoleFits R → RoleFits S → Below s R S → T (entry_below R S)
    whole R S f g p = (role_table_lem s proper c.roles.cells roles R S f).complete p

    implies_fits : (B C : Mark) → Implies s B C → (B ≡ C) ⊎ (MarkFits B × MarkFits C)
    implies_fits B C p =
        star_ends MarkFits (λ x y e. ⊎_elim inl (λ w. inr (w.0, w.1)) (mark_edge_gives s proper entry_below whole e)) p

    told_implies_lem : (B C : Mark) → Tells (told_implies c B C) (Implies s B C)
    told_implies_lem B C =
        told (Implies s) B C (mark_listed B && mark_listed C) (flag c.marks.cells (mark_code B) (mark_code C)) (same_mark B C) (λ a. here)
        (λ e.
        let w = and_parts (mark_listed B) (mark_listed C) e in
        mark_table_lem s proper entry_below (role_entry s proper c.roles.cells roles c.roles.tall) whole c.marks.cells marks B C (mark_listed_lem B w.0) (mark_listed_lem C w.1))
        (mark_eq B C)
        (λ e. subst (λ (D : Mark). same_mark B D ≡ true) e (mark_self B))
        (λ o p.
        ⊎_elim (λ e. e)
        (λ f.
        absurd
        (both_ways (mark_listed B && mark_listed C) o
        (and_from (mark_listed B) (mark_listed C) (listed_mark B f.0) (listed_mark C f.1))))
        (implies_fits B C p))

    pub decided : Decides c s
    decided = record { below = told_below_lem; implies = told_implies_lem }
