-- The tables that are made of a store's facts and of consequences are right.
use Rattle.std.proofs.Common.{◌≡◌, ℕ, ◌+◌, ◌<◌, ◌≤◌, Bool, true, false, not, ◌&&◌, T, eqb, ltb, ◌↔◌, List, [], length, get_or, sym, ap, ◌∙◌, subst, arith, eqb→eq, ltb→lt, lt→ltb, T_not}
use lib.Dec.{eqb_refl}
use Rattle.graph.specs.Paths.{Star, Step, In, Reached}
use Rattle.league.specs.Roles.{inverse, code}
use Rattle.league.specs.declared.facts.Fact.TheVariants.{Joins}
use Rattle.league.specs.declared.facts.Link.{Link}
use Rattle.league.specs.declared.facts.Name.{Name}
use Rattle.league.specs.declared.roles.Mark.{Mark}
use Rattle.league.specs.declared.roles.Mark.TheVariants.{Is, Has}
use Rattle.league.specs.declared.roles.Role.{Role}
use Rattle.league.specs.declared.roles.Role.TheVariants.{Forward, Backward}
use Rattle.rules.specs.Codes.{role_of, mark_of}
use Rattle.rules.specs.Consequences.{told_below, told_implies, mark_listed, Decides}
use Rattle.rules.specs.Follows.{Below, Implies}
use Rattle.rules.specs.Marks.{mark_code}
use Rattle.rules.specs.RuleSet.{RuleSet, Proper}
use Rattle.rules.specs.declared.consequences.Consequences.{Consequences}
use Rattle.rules.proofs.Coded.{code_role, role_of_code, small_mark, large_mark}
use Rattle.rules.proofs.Marked.{T_true, true_T}
use Rattle.store.specs.Holding.{Holding}
use Rattle.model.specs.Canonical.{NameGenerates, RoleGenerates, Generating, Loop, InLoop}
use Rattle.model.specs.Given.{is_given, given_at, passes_on, implied_by, starts_at, RowsOf}
use Rattle.model.specs.Recorded.{FactsIn, Given, Recorded, NameHas, name_of, fact_of}
use Rattle.model.specs.RoleTests.{told_generates, above_both, told_loop, told_in_loop, generates_edge, GeneratingRow}
use Rattle.model.specs.Rows.{Filled, Stacked, flag_at, flag_in}
use Rattle.model.specs.LookedUp.{tabled, TablesOf}
use Rattle.model.specs.Tabled.{RoleRange, MarkRange, Right}
use Rattle.model.specs.declared.canonical_tables.CanonicalTables.{CanonicalTables}
use Rattle.model.proofs.Ranges.{below_in, loop_in, name_in, generating_in, recorded_small, given_in}
use Rattle.model.proofs.Roles.{code_same}
use Rattle.model.proofs.Searches.{some_found, some_at}
use Rattle.model.proofs.Tests.{and_both, both_and}

not_from : (b : Bool) → (T b → ⊥) → T (not b)
not_from true h = h tt
not_from false h = tt

-- a filled row's flags
pub filled_is : (row : List Bool) (n : ℕ) (q : ℕ → Bool) → Filled row n q → (c : ℕ) → T (get_or row c false) ↔ ((c < n) × T (q c))
filled_is row n q f c = (
  (λ h. let p = and_both (ltb c n) (q c) (subst T (f c) h) in (ltb→lt c n p.0, p.1)),
  (λ p. subst T (sym (f c)) (both_and (ltb c n) (q c) (lt→ltb c n p.0) p.1)),
)

flag_is : (tall wide : ℕ) (rows : List (List Bool)) (i j : ℕ) → T (flag_in tall wide rows i j) ↔ ((i < tall) × ((j < wide) × T (get_or (get_or rows i []) j false)))
flag_is tall wide rows i j = (
  (λ h. let p = and_both (ltb i tall && ltb j wide) _ h in let q = and_both (ltb i tall) _ p.0 in (ltb→lt i tall q.0, (ltb→lt j wide q.1, p.1))),
  (λ p. both_and (ltb i tall && ltb j wide) _ (both_and (ltb i tall) _ (lt→ltb i tall p.0) (lt→ltb j wide p.1.0)) p.1.1),
)

listed : (C : Mark) → MarkRange C → T (mark_listed C)
listed (Is k) h = lt→ltb k.0 64 h
listed (Has (Forward l)) h = lt→ltb l.0 64 (omega arith)
listed (Has (Backward l)) h = lt→ltb l.0 64 (omega arith)

ranged : (C : Mark) → T (mark_listed C) → MarkRange C
ranged (Is k) h = ltb→lt k.0 64 h
ranged (Has (Forward l)) h = let p = ltb→lt l.0 64 h in omega arith
ranged (Has (Backward l)) h = let p = ltb→lt l.0 64 h in omega arith

pub mark_back_lem : (C : Mark) → MarkRange C → mark_of (mark_code C) ≡ C
mark_back_lem (Is k) h = small_mark k.0 h
mark_back_lem (Has R) h = large_mark (64 + code R) (omega arith) ∙ (ap (λ n. Has (role_of n)) (omega arith) ∙ ap {B = Mark} Has (role_of_code R))

code_wide : (C : Mark) → MarkRange C → mark_code C < 192
code_wide (Is k) h = omega arith
code_wide (Has R) h = omega arith

module _ (h : Holding) (c : Consequences) (rules : RuleSet) (inside : FactsIn h.names h.facts) (proper : Proper rules) (decides : Decides c rules) where
  pub below_is_lem : (R S : Role) → T (told_below c R S) ↔ Below rules R S
  below_is_lem R S = ((decides.below R S).sound, (decides.below R S).complete)

  pub implies_is_lem : (B C : Mark) → T (told_implies c B C) ↔ Implies rules B C
  implies_is_lem B C = ((decides.implies B C).sound, (decides.implies B C).complete)

  link_names : (l : Link) (a b : Name) → T (h.facts (Joins l a b)) → (a.0 < h.names) × (b.0 < h.names)
  link_names l a b r =
      let p = and_both (ltb a.0 h.names) _ (and_both (ltb l.0 32) _ (true_T _ (inside _ (T_true _ r)))).1 in
      (ltb→lt a.0 h.names p.0, ltb→lt b.0 h.names p.1)

  partner_name : (R : Role) (a b : Name) → Recorded h.facts R a b → b.0 < h.names
  partner_name (Forward l) a b r = (link_names l a b r).1
  partner_name (Backward l) a b r = (link_names l b a r).0

  -- given marks
  has_given : (a : Name) (C : Mark) → T (is_given h a C) → Given h.facts a C
  has_given a (Is k) t = Given.of_kind k t
  has_given a (Has R) t = let p = some_found h.names (λ b. h.facts (fact_of R a (name_of b))) t in Given.partner R (name_of p.0) p.2

  given_has : (a : Name) {C : Mark} → Given h.facts a C → T (is_given h a C)
  given_has a (Given.of_kind k t) = t
  given_has a (Given.partner R b r) = some_at h.names (λ n. h.facts (fact_of R a (name_of n))) b.0 (partner_name R a b r) r

  given_small : (a : Name) {C : Mark} → Given h.facts a C → mark_code C < 128
  given_small a (Given.of_kind k t) = let p : k.0 < 64 = given_in h.names h.facts inside a (Given.of_kind k t) in omega arith
  given_small a (Given.partner R b r) = omega (arith, recorded_small h.names h.facts inside a R b r)

  module _ (a : Name) (marks starts : List Bool) (rows : RowsOf h c a marks starts) where
    given_flag : (C : Mark) → Given h.facts a C → T (get_or rows.given (mark_code C) false)
    given_flag C g =
        (filled_is rows.given 128 (given_at h a) rows.given_are (mark_code C)).1
        (given_small a g, subst (λ B. T (is_given h a B)) (sym (mark_back_lem C (given_in h.names h.facts inside a g))) (given_has a g))

    flag_given : (m : ℕ) → T (get_or rows.given m false) → (m < 128) × Given h.facts a (mark_of m)
    flag_given m t = let p = (filled_is rows.given 128 (given_at h a) rows.given_are m).0 t in (p.0, has_given a (mark_of m) p.1)

    -- the marks that follow
    implied_is : (C : Mark) → T (implied_by c rows.given C) ↔ NameHas h.facts rules a C
    implied_is C = (
      (λ t. let p = some_found 128 (passes_on c rows.given C) t in
          let q = and_both (get_or rows.given p.0 false) _ p.2 in
          (mark_of p.0, (flag_given p.0 q.0).1, (implies_is_lem (mark_of p.0) C).0 q.1)),
      (λ n. some_at 128 (passes_on c rows.given C) (mark_code n.0) (given_small a n.1)
          (both_and (get_or rows.given (mark_code n.0) false) _ (given_flag n.0 n.1)
          (subst (λ B. T (told_implies c B C)) (sym (mark_back_lem n.0 (given_in h.names h.facts inside a n.1))) ((implies_is_lem n.0 C).1 n.2)))),
    )

    mark_is : (C : Mark) → MarkRange C → T (get_or marks (mark_code C) false) ↔ NameHas h.facts rules a C
    mark_is C i =
        let f = filled_is marks 192 (λ m. implied_by c rows.given (mark_of m)) rows.marks_are (mark_code C) in (
          λ t. (implied_is C).0 (subst (λ B. T (implied_by c rows.given B)) (mark_back_lem C i) (f.0 t).1),
          λ n. f.1 (code_wide C i, subst (λ B. T (implied_by c rows.given B)) (sym (mark_back_lem C i)) ((implied_is C).1 n)),
        )

    start_is : (R : Role) → RoleRange R → T (get_or starts (code R) false) ↔ (NameHas h.facts rules a (Has R) × ((b : Name) → Recorded h.facts R a b → ⊥))
    start_is R i =
        let f = filled_is starts 128 (starts_at marks rows.given) rows.starts_are (code R) in
        let same : mark_of (64 + code R) ≡ Has R = mark_back_lem (Has R) i in (
          λ t. let p = and_both (get_or marks (64 + code R) false) _ (f.0 t).1 in
              ((mark_is (Has R) i).0 p.0, λ b r. T_not _ p.1 (given_flag (Has R) (Given.partner R b r))),
          λ n. f.1 (
            i,
            both_and (get_or marks (64 + code R) false) _ ((mark_is (Has R) i).1 n.0)
                (not_from _ (λ t. none n.1 (subst (Given h.facts a) same (flag_given (64 + code R) t).1))),
          ),
        )
      where
        none : ((b : Name) → Recorded h.facts R a b → ⊥) → Given h.facts a (Has R) → ⊥
        none n (Given.partner _ b r) = n b r

  -- loops
  apart : (R S : Role) → T (not (eqb (code R) (code S))) ↔ (R ≡ S → ⊥)
  apart R S = (
    (λ t e. T_not _ t (subst (λ X. T (eqb (code R) (code X))) e (eqb_refl (code R)))),
    (λ n. not_from _ (λ t. n (code_same R S (eqb→eq _ _ t)))),
  )

  loop_is : (R S : Role) → RoleRange R → T (told_loop c R S) ↔ Loop rules R S
  loop_is R S i = (
    (λ t. let p = and_both (not (eqb (code R) (code (inverse S)))) _ t in
        let q = and_both (told_implies c (Has (inverse R)) (Has S)) _ p.1 in
        let r = and_both (told_implies c (Has (inverse S)) (Has R)) _ q.1 in
        let u = some_found 128 (above_both c R S) r.1 in
        let v = and_both (told_below c (inverse S) (role_of u.0)) _ u.2 in
        ((apart R (inverse S)).0 p.0, (implies_is_lem _ _).0 q.0, (implies_is_lem _ _).0 r.0, (role_of u.0, (below_is_lem _ _).0 v.0, (below_is_lem _ _).0 v.1))),
    (λ l. let U : Role = l.3.0 in
        both_and (not (eqb (code R) (code (inverse S)))) _ ((apart R (inverse S)).1 l.0)
        (both_and (told_implies c (Has (inverse R)) (Has S)) _ ((implies_is_lem _ _).1 l.1)
        (both_and (told_implies c (Has (inverse S)) (Has R)) _ ((implies_is_lem _ _).1 l.2)
        (some_at 128 (above_both c R S) (code U) (below_in rules proper l.3.2 i)
        (subst (λ X. T (told_below c (inverse S) X && told_below c R X)) (sym (role_of_code U))
        (both_and (told_below c (inverse S) U) _ ((below_is_lem _ _).1 l.3.1) ((below_is_lem _ _).1 l.3.2))))))),
  )

  pub pairs_are_lem : (pairs : List (List Bool)) → Stacked pairs 128 128 (λ i j. told_loop c (role_of i) (role_of j)) → (R S : Role) → T (flag_in 128 128 pairs (code R) (code S)) ↔ Loop rules R S
  pairs_are_lem pairs made R S =
      let told : T (told_loop c (role_of (code R)) (role_of (code S))) ≡ T (told_loop c R S) = λ i. T (told_loop c (role_of_code R i) (role_of_code S i)) in (
        λ t. let p = (flag_is 128 128 pairs (code R) (code S)).0 t in
            (loop_is R S p.0).0 (subst (λ (X : Type 0). X) told ((filled_is _ 128 _ (made (code R) p.0) (code S)).0 p.1.1).1),
        λ l. let i = loop_in rules proper R S l in
            (flag_is 128 128 pairs (code R) (code S)).1 (i.0, (i.1, (filled_is _ 128 _ (made (code R) i.0) (code S)).1 (i.1, subst (λ (X : Type 0). X) (sym told) ((loop_is R S i.0).1 l)))),
      )

  pub members_are_lem : (members : List Bool) → Filled members 128 (λ i. told_in_loop c (role_of i)) → (R : Role) → T (flag_at 128 members (code R)) ↔ InLoop rules R
  members_are_lem members made R =
      let f = filled_is members 128 _ made (code R) in (
        λ t. let p = and_both (ltb (code R) 128) _ t in
            let i = ltb→lt (code R) 128 p.0 in
            let q = some_found 128 (λ s. told_loop c R (role_of s)) (subst (λ X. T (told_in_loop c X)) (role_of_code R) (f.0 p.1).1) in
            (role_of q.0, (loop_is R (role_of q.0) i).0 q.2),
        λ l. let i = loop_in rules proper R l.0 l.1 in
            both_and (ltb (code R) 128) _ (lt→ltb (code R) 128 i.0)
            (f.1 (
              i.0,
              subst (λ X. T (told_in_loop c X)) (sym (role_of_code R))
                  (some_at 128 (λ s. told_loop c R (role_of s)) (code l.0) i.1 (subst (λ X. T (told_loop c R X)) (sym (role_of_code l.0)) ((loop_is R l.0 i.0).1 l.1))),
            )),
      )

  -- names and generating roles
  module _ (few : h.names ≤ 1024) (marks starts : List (List Bool)) (rows : (a : ℕ) → a < h.names → RowsOf h c (name_of a) (get_or marks a []) (get_or starts a [])) where
    pub marks_are_lem : (a : ℕ) (C : Mark) → a < h.names → T (mark_listed C && flag_in 1024 192 marks a (mark_code C)) ↔ NameHas h.facts rules (name_of a) C
    marks_are_lem a C l = (
      (λ t. let p = and_both (mark_listed C) _ t in
          let q = (flag_is 1024 192 marks a (mark_code C)).0 p.1 in
          (mark_is (name_of a) _ _ (rows a l) C (ranged C p.0)).0 q.1.1),
      (λ n. let i = name_in h.names h.facts rules inside proper (name_of a) C n in
          both_and (mark_listed C) _ (listed C i) ((flag_is 1024 192 marks a (mark_code C)).1 (omega arith, (code_wide C i, (mark_is (name_of a) _ _ (rows a l) C i).1 n)))),
    )

    pub starts_are_lem : (a : ℕ) (R : Role) → a < h.names → T (flag_in 1024 128 starts a (code R)) ↔ NameGenerates h.names h.facts rules (name_of a) R
    starts_are_lem a R l = (
      (λ t. let q = (flag_is 1024 128 starts a (code R)).0 t in
          let s = (start_is (name_of a) _ _ (rows a l) R q.1.0).0 q.1.1 in
          (l, s.0, s.1)),
      (λ n. let i : RoleRange R = name_in h.names h.facts rules inside proper (name_of a) (Has R) n.1 in
          (flag_is 1024 128 starts a (code R)).1 (omega arith, (i, (start_is (name_of a) _ _ (rows a l) R i).1 (n.1, n.2)))),
    )

    generates_is : (U S : Role) → T (told_generates c U S) ↔ RoleGenerates rules U S
    generates_is U S = (
      (λ t. let p = and_both (told_implies c (Has (inverse U)) (Has S)) _ t in ((implies_is_lem _ _).0 p.0, (apart S (inverse U)).0 p.1)),
      (λ g. both_and (told_implies c (Has (inverse U)) (Has S)) _ ((implies_is_lem _ _).1 g.0) ((apart S (inverse U)).1 g.1)),
    )

    module _ (row : List Bool) (gen : GeneratingRow c starts h.names row) where
      from_start : (k : ℕ) → In gen.start k → Generating h.names h.facts rules (role_of k)
      from_start k t =
          let p = (filled_is gen.start 128 _ gen.starts_are k).0 t in
          let q = some_found h.names (λ a. flag_in 1024 128 starts a k) p.1 in
          Generating.from_name (name_of q.0) (role_of k) ((starts_are_lem q.0 (role_of k) q.1).0 (subst (λ n. T (flag_in 1024 128 starts q.0 n)) (sym (code_role k)) q.2))

      along : {a k : ℕ} → Generating h.names h.facts rules (role_of a) → Star (Step (generates_edge c) (length gen.start)) a k → Generating h.names h.facts rules (role_of k)
      along g Star.here = g
      along g (Star.then {b = u} {c = s} p e) =
          Generating.from_role (role_of u) (role_of s) (along g p) ((generates_is (role_of u) (role_of s)).0 (and_both (ltb u 128 && ltb s 128) _ e.0).1)

      reach_of : {R : Role} → Generating h.names h.facts rules R → Reached (generates_edge c) gen.start (code R)
      reach_of (Generating.from_name a R g) =
          let i = generating_in h.names h.facts rules inside proper (Generating.from_name a R g) in
          (code R, ((filled_is gen.start 128 _ gen.starts_are (code R)).1 (i, some_at h.names (λ n. flag_in 1024 128 starts n (code R)) a.0 g.0 ((starts_are_lem a.0 R g.0).1 g)), Star.here))
      reach_of (Generating.from_role R S l g) =
          let r = reach_of l in
          let i = generating_in h.names h.facts rules inside proper l in
          let j = generating_in h.names h.facts rules inside proper (Generating.from_role R S l g) in (
            r.0,
            (
              r.1.0,
              Star.then r.1.1 (
                both_and (ltb (code R) 128 && ltb (code S) 128) _ (both_and (ltb (code R) 128) _ (lt→ltb (code R) 128 i) (lt→ltb (code S) 128 j))
                    ((generates_is (role_of (code R)) (role_of (code S))).1 (subst (λ X. RoleGenerates rules X (role_of (code S))) (sym (role_of_code R)) (subst (RoleGenerates rules R) (sym (role_of_code S)) g))),
                omega (arith, j, gen.long),
              ),
            ),
          )

      pub generating_is_lem : (R : Role) → T (flag_at 128 row (code R)) ↔ Generating h.names h.facts rules R
      generating_is_lem R = (
        (λ t. let p = and_both (ltb (code R) 128) _ t in
            let r = (gen.reached (code R)).sound p.1 in
            subst (Generating h.names h.facts rules) (role_of_code R) (along (from_start r.0 r.1.0) r.1.1)),
        (λ g. both_and (ltb (code R) 128) _ (lt→ltb (code R) 128 (generating_in h.names h.facts rules inside proper g)) ((gen.reached (code R)).complete (reach_of g))),
      )

-- the tables of a store and of consequences that tell what follows from rules
pub tables_right : (h : Holding) (rules : RuleSet) (t : CanonicalTables) → TablesOf h t → FactsIn h.names h.facts → h.names ≤ 1024 → Proper rules → Decides t.consequences.now rules
    → Right h.facts rules (tabled t)
tables_right h rules t made inside few proper decides =
    let c = t.consequences.now in
    record {
      below_is = λ R S _. below_is_lem h c rules inside proper decides R S;
      implies_is = λ B C _. implies_is_lem h c rules inside proper decides B C;
      marks_are = λ a C l. marks_are_lem h c rules inside proper decides few t.rows.marks.cells t.rows.starts.cells made.rows_are a C (omega (arith, l, made.names_are));
      starts_are = λ a R l. subst (λ n. T (flag_in 1024 128 t.rows.starts.cells a (code R)) ↔ NameGenerates n h.facts rules (name_of a) R) (sym made.names_are)
          (starts_are_lem h c rules inside proper decides few t.rows.marks.cells t.rows.starts.cells made.rows_are a R (omega (arith, l, made.names_are)));
      generating_is = λ R. subst (λ n. T (flag_at 128 t.generating (code R)) ↔ Generating n h.facts rules R) (sym made.names_are)
          (generating_is_lem h c rules inside proper decides few t.rows.marks.cells t.rows.starts.cells made.rows_are t.generating made.generating_are R);
      loops_are = pairs_are_lem h c rules inside proper decides t.loops.pairs.cells made.pairs_are;
      in_loop_is = members_are_lem h c rules inside proper decides t.loops.members made.members_are;
    }
