-- Filling accepts a question exactly when it is proper.
use Rattle.std.proofs.Common.{◌≡◌, ℕ, zero, suc, ◌+◌, ◌<◌, Bool, true, false, eqb, ltb, List, [], ◌∷◌, All, length, is_ok, Ok, Err, sym, refl, ap, ◌∙◌, subst, inl, inr, ⊎_elim, arith}
use Rattle.std.proofs.lemmas.Bool.{ltb-false, le-ltb, eqb-true, eqb-false, eq-eqb, ne_eqb, not-false, not_from_true, or_parts, or_cases, or_from, or_left, or_right, and_parts, and_from, cases_lt}
use Rattle.std.proofs.lemmas.List.Elements.{All-nil, All-cons, All-head, All-tail}
use Rattle.league.specs.declared.faults.BookFault.{BookFault}
use Rattle.league.specs.declared.questions.Term.{Term}
use Rattle.league.specs.declared.questions.Atom.{Atom}
use Rattle.league.specs.Roles.{link_of}
use Rattle.league.specs.Filling.{Checked, and_then, refused_if, term_checked, atom_checked, arguments_of, numbers_checked, is_variable, mentions, mentioned, covered, counts_checked, size_checked, terms_checked, answers_checked, filling}
use Rattle.league.specs.Questions.{Among}
use Rattle.league.specs.Terms.{Occurs, InSome, terms_of}
use Rattle.league.specs.Proper.{TermRanged, AtomRanged, Proper}

-- of two checks that pass, each does
passed : (r s : Checked) → is_ok (and_then r s) ≡ true → (is_ok r ≡ true) × (is_ok s ≡ true)
passed (Ok u) s e = (refl, e)
passed (Err f) s e = cc

-- a check that passes found nothing
unrefused : (b : Bool) (f : BookFault) → is_ok (refused_if b f) ≡ true → b ≡ false
unrefused true f e = sym e
unrefused false f e = refl

term_ranged : (p : ℕ) (t : Term) → is_ok (term_checked p t) ≡ true → TermRanged t
term_ranged p (Term.Variable v) e = ltb-false 7 v (unrefused _ _ e)
term_ranged p (Term.Name a) e = ltb-false 1023 a.0 (unrefused _ _ e)

atom_ranged : (p : ℕ) (a : Atom) → is_ok (atom_checked p a) ≡ true → AtomRanged a
atom_ranged p (Atom.Is k t) e =
    let q = passed _ _ e in (ltb-false 63 k.0 (unrefused _ _ q.0), term_ranged (p + 1) t q.1)
atom_ranged p (Atom.Joins R s t) e =
    let q = passed _ _ e
    in let r = passed _ _ q.1
    in (ltb-false 31 (link_of R).0 (unrefused _ _ q.0), term_ranged (p + 1) s r.0, term_ranged (p + 2) t r.1)

-- atoms whose numbers pass are in range
pub all_ranged : (p : ℕ) (atoms : List Atom) → is_ok (numbers_checked p atoms) ≡ true → All AtomRanged atoms
all_ranged p [] e = All-nil AtomRanged
all_ranged p (b ∷ atoms) e =
    let q = passed _ _ e in All-cons AtomRanged b atoms (atom_ranged p b q.0) (all_ranged (p + arguments_of b) atoms q.1)

-- what is among atoms in range is in range
among_ranged : (atoms : List Atom) → All AtomRanged atoms → (a : Atom) → Among a atoms → AtomRanged a
among_ranged [] all a m = absurd m
among_ranged (b ∷ atoms) all a m =
    ⊎_elim (λ i. subst AtomRanged (sym i) (All-head AtomRanged b atoms all)) (among_ranged atoms (All-tail AtomRanged b atoms all) a) m

is_variable_lem : (v : ℕ) (t : Term) → is_variable v t ≡ true → Term.Variable v ≡ t
is_variable_lem v (Term.Variable u) e = ap Term.Variable (sym (eqb-true u v e))
is_variable_lem v (Term.Name a) e = cc

occurs : (v : ℕ) (a : Atom) → mentions v a ≡ true → Occurs (Term.Variable v) a
occurs v (Atom.Is k t) e = is_variable_lem v t e
occurs v (Atom.Joins R s t) e =
    ⊎_elim (λ h. inl (is_variable_lem v s h)) (λ h. inr (is_variable_lem v t h)) (or_cases (is_variable v s) (is_variable v t) e)

in_some : (v : ℕ) (atoms : List Atom) → mentioned v atoms ≡ true → InSome (Term.Variable v) atoms
in_some v [] e = cc
in_some v (a ∷ atoms) e =
    ⊎_elim (λ h. (a, inl refl, occurs v a h)) (λ h. let q = in_some v atoms h in (q.0, inr q.1, q.2))
    (or_cases (mentions v a) (mentioned v atoms) e)

each_covered : (k : ℕ) (atoms : List Atom) → covered k atoms ≡ true → (v : ℕ) → v < k → InSome (Term.Variable v) atoms
each_covered zero atoms e v h = absurd (omega arith)
each_covered (suc k) atoms e v h =
    let q = and_parts (covered k atoms) (mentioned k atoms) e
    in ⊎_elim (each_covered k atoms q.0 v)
    (λ l. let same : k ≡ v = omega arith in let P : ℕ → Type 0 = λ n. InSome (Term.Variable n) atoms in subst P same (in_some k atoms q.1))
    (cases_lt v k)

-- what filling accepts is proper
pub accepted_proper : (k : ℕ) (atoms : List Atom) → is_ok (filling k atoms) ≡ true → Proper k atoms
accepted_proper k atoms e =
    let a = passed (counts_checked k atoms) _ e
    in let b = passed (size_checked atoms) _ a.1
    in let c = passed (numbers_checked 2 atoms) _ b.1
    in let d = passed (terms_checked atoms) (answers_checked k atoms) c.1
    in let counts = or_parts (ltb 4 k) (eqb (length atoms) 0) (unrefused _ _ a.0)
    in let nonempty = eqb-false (length atoms) 0 counts.1
    in record {
      few = ltb-false 4 k counts.0;
      some = omega (arith, nonempty);
      short = ltb-false 16 (length atoms) (unrefused _ _ b.0);
      ranged = among_ranged atoms (all_ranged 2 atoms c.0);
      narrow = ltb-false 8 (length (terms_of atoms)) (unrefused _ _ d.0);
      answered = each_covered k atoms (not-false (covered k atoms) (unrefused _ _ d.1));
    }

-- a check that finds nothing passes
accepted : (b : Bool) (f : BookFault) → b ≡ false → refused_if b f ≡ Ok tt
accepted b f e = ap (λ c. refused_if c f) e

-- two checks that pass are one
both_ok : (r s : Checked) → r ≡ Ok tt → s ≡ Ok tt → and_then r s ≡ Ok tt
both_ok r s e f = ap (λ q. and_then q s) e ∙ f

term_accepted : (p : ℕ) (t : Term) → TermRanged t → term_checked p t ≡ Ok tt
term_accepted p (Term.Variable v) h = accepted _ _ (le-ltb 7 v h)
term_accepted p (Term.Name a) h = accepted _ _ (le-ltb 1023 a.0 h)

atom_accepted : (p : ℕ) (a : Atom) → AtomRanged a → atom_checked p a ≡ Ok tt
atom_accepted p (Atom.Is k t) h = both_ok _ _ (accepted _ _ (le-ltb 63 k.0 h.0)) (term_accepted (p + 1) t h.1)
atom_accepted p (Atom.Joins R s t) h =
    both_ok _ _ (accepted _ _ (le-ltb 31 (link_of R).0 h.0))
    (both_ok _ _ (term_accepted (p + 1) s h.1) (term_accepted (p + 2) t h.2))

numbers_accepted : (p : ℕ) (atoms : List Atom) → ((a : Atom) → Among a atoms → AtomRanged a) → numbers_checked p atoms ≡ Ok tt
numbers_accepted p [] h = refl
numbers_accepted p (a ∷ atoms) h =
    both_ok _ _ (atom_accepted p a (h a (inl refl))) (numbers_accepted (p + arguments_of a) atoms (λ b m. h b (inr m)))

variable_is : (v : ℕ) (t : Term) → Term.Variable v ≡ t → is_variable v t ≡ true
variable_is v (Term.Variable u) e = let same : u ≡ v = cc in eq-eqb u v same
variable_is v (Term.Name a) e = cc

occurs_mentions : (v : ℕ) (a : Atom) → Occurs (Term.Variable v) a → mentions v a ≡ true
occurs_mentions v (Atom.Is k t) o = variable_is v t o
occurs_mentions v (Atom.Joins R s t) o =
    ⊎_elim (λ e. or_left (is_variable v s) (is_variable v t) (variable_is v s e)) (λ e. or_right (is_variable v s) (is_variable v t) (variable_is v t e)) o

some_mentioned : (v : ℕ) (atoms : List Atom) → InSome (Term.Variable v) atoms → mentioned v atoms ≡ true
some_mentioned v [] o = absurd o.1
some_mentioned v (a ∷ atoms) o =
    ⊎_elim (λ e. or_left (mentions v a) (mentioned v atoms) (occurs_mentions v a (subst (Occurs (Term.Variable v)) e o.2)))
    (λ m. or_right (mentions v a) (mentioned v atoms) (some_mentioned v atoms (o.0, m, o.2))) o.1

all_covered : (k : ℕ) (atoms : List Atom) → ((v : ℕ) → v < k → InSome (Term.Variable v) atoms) → covered k atoms ≡ true
all_covered zero atoms h = refl
all_covered (suc k) atoms h =
    and_from (covered k atoms) (mentioned k atoms) (all_covered k atoms (λ v l. h v (omega arith))) (some_mentioned k atoms (h k (omega arith)))

-- filling accepts what is proper
pub proper_accepted : (k : ℕ) (atoms : List Atom) → Proper k atoms → filling k atoms ≡ Ok tt
proper_accepted k atoms p =
    let few = le-ltb 4 k p.few
    in let some = ne_eqb (length atoms) 0 (λ e. omega (arith, p.some))
    in both_ok _ _ (accepted _ _ (or_from (ltb 4 k) (eqb (length atoms) 0) few some))
    (both_ok _ _ (accepted _ _ (le-ltb 16 (length atoms) p.short))
    (both_ok _ _ (numbers_accepted 2 atoms p.ranged)
    (both_ok _ _ (accepted _ _ (le-ltb 8 (length (terms_of atoms)) p.narrow))
    (accepted _ _ (not_from_true (covered k atoms) (all_covered k atoms p.answered))))))
