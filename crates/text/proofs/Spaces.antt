-- Fields with single spaces between them, and the fields of such a line.
use Rattle.std.proofs.Common.{◌≡◌, ℕ, true, false, eqb, List, [], ◌∷◌, ◌++◌, decimal, sym, refl, ap, ◌∙◌, ⊎_elim, append-nil, arith}
use Rattle.std.specs.Str.Parse.{AllDigits}
use Rattle.std.proofs.lemmas.Fmt.{decimal_is_IsNumeral}
use Rattle.std.proofs.lemmas.Str.Parse.{digit_from_value}
use Rattle.std.proofs.lemmas.Bool.{cases_Bool, eqb-true, ne_eqb}
use Rattle.league.specs.declared.facts.Fact.TheVariants as fact
use Rattle.league.specs.declared.roles.Mark.{Mark}
use Rattle.league.specs.declared.roles.Mark.TheVariants.{Is, Has}
use Rattle.league.specs.declared.roles.Role.{Role}
use Rattle.league.specs.declared.roles.Role.TheVariants.{Forward, Backward}
use Rattle.league.specs.declared.rules.Rule.TheVariants.{Inclusion, Exclusion, Required, RoleInclusion}
use Rattle.certain.specs.declared.calls.Call.{Call}
use Rattle.certain.specs.declared.calls.Call.TheVariants.{EnterFact, EnterRule}
use Rattle.text.specs.Lines.{Bytes, fields}
use Rattle.text.specs.Written.{Small, ShortRole, ShortMark, Short, role_text, mark_text, written, spaced}
use Rattle.text.proofs.Cuts.{fields_some}

-- no byte is a space
abbrev Clean : Bytes → Type 0
Clean [] = Unit {0}
Clean (b ∷ bs) = (eqb b 32 ≡ false) × Clean bs

abbrev AllClean : List Bytes → Type 0
AllClean [] = Unit {0}
AllClean (w ∷ ws) = Clean w × AllClean ws

-- bytes before the first field of a line that are no spaces belong to it
onto-first : (w rest p : Bytes) (ps : List Bytes) → Clean w → fields rest ≡ p ∷ ps → fields (w ++ rest) ≡ (w ++ p) ∷ ps
onto-first [] rest p ps c e = e
onto-first (b ∷ bs) rest p ps c e = rw (c.0, onto-first bs rest p ps c.1 e) refl

fields-spaced : (w : Bytes) (ws : List Bytes) → Clean w → AllClean ws → fields (spaced (w ∷ ws)) ≡ w ∷ ws
fields-spaced w [] c d =
    let h = onto-first w [] [] [] c refl in
    ap fields (sym (append-nil w)) ∙ (h ∙ ap (λ x. x ∷ []) (append-nil w))
fields-spaced w (v ∷ vs) c d =
    let h = onto-first w (32 ∷ spaced (v ∷ vs)) [] (v ∷ vs) c (ap (λ x. [] ∷ x) (fields-spaced v vs d.0 d.1)) in
    h ∙ ap (λ x. x ∷ (v ∷ vs)) (append-nil w)

-- a byte more of the first field
spaced-onto : (b : ℕ) (w : Bytes) (ws : List Bytes) → spaced ((b ∷ w) ∷ ws) ≡ b ∷ spaced (w ∷ ws)
spaced-onto b w [] = refl
spaced-onto b w (v ∷ vs) = refl

-- the fields of a line are what stands between its spaces
pub spaced-fields : (line : Bytes) → spaced (fields line) ≡ line
spaced-fields [] = refl
spaced-fields (b ∷ bs) = ⊎_elim (λ e. space e (spaced-fields bs)) (λ e. other e (spaced-fields bs)) (cases_Bool (eqb b 32))
  where
    f : (w : Bytes) × (ws : List Bytes) × (fields bs ≡ w ∷ ws)
    f = fields_some bs

    space : eqb b 32 ≡ true → spaced (fields bs) ≡ bs → spaced (fields (b ∷ bs)) ≡ b ∷ bs
    space e again =
        let h : spaced (f.0 ∷ f.1) ≡ bs = ap spaced (sym f.2) ∙ again in
        rw (e, f.2, h, eqb-true b 32 e) refl

    other : eqb b 32 ≡ false → spaced (fields bs) ≡ bs → spaced (fields (b ∷ bs)) ≡ b ∷ bs
    other e again =
        let h : spaced (f.0 ∷ f.1) ≡ bs = ap spaced (sym f.2) ∙ again in
        rw (e, f.2) (spaced-onto b f.0 f.1 ∙ ap (λ x. b ∷ x) h)

-- digits are no spaces
clean_digits : (ds : Bytes) → AllDigits 10 ds → Clean ds
clean_digits [] d = tt
clean_digits (c ∷ cs) d = (ne_eqb c 32 (λ e. omega (arith, digit_from_value c d.0)), clean_digits cs d.1)

clean_number : (n : ℕ) → Small n → Clean (decimal n)
clean_number n l = clean_digits (decimal n) (decimal_is_IsNumeral n (omega arith)).0.1

clean_role : (r : Role) → ShortRole r → Clean (role_text r)
clean_role (Forward link) l = (refl, clean_number link.0 l)
clean_role (Backward link) l = (refl, clean_number link.0 l)

clean_mark : (m : Mark) → ShortMark m → Clean (mark_text m)
clean_mark (Is kind) l = (refl, clean_number kind.0 l)
clean_mark (Has role) l = clean_role role l

-- the fields of a call's line are those that were written
pub fields-written : (c : Call) → Short c → fields (spaced (written c)) ≡ written c
fields-written (EnterFact (fact.Is kind name)) l =
    fields-spaced _ (_ ∷ (_ ∷ [])) (refl, tt) (clean_number kind.0 l.0, (clean_number name.0 l.1, tt))
fields-written (EnterFact (fact.Joins link from to)) l =
    fields-spaced _ (_ ∷ (_ ∷ (_ ∷ []))) (refl, tt) (clean_number link.0 l.0, (clean_number from.0 l.1, (clean_number to.0 l.2, tt)))
fields-written (EnterRule (Inclusion first second)) l =
    fields-spaced _ (_ ∷ (_ ∷ [])) (refl, tt) (clean_mark first l.0, (clean_mark second l.1, tt))
fields-written (EnterRule (Exclusion first second)) l =
    fields-spaced _ (_ ∷ (_ ∷ [])) (refl, tt) (clean_mark first l.0, (clean_mark second l.1, tt))
fields-written (EnterRule (Required mark role kind)) l =
    fields-spaced _ (_ ∷ (_ ∷ (_ ∷ []))) (refl, tt) (clean_mark mark l.0, (clean_role role l.1, ((refl, clean_number kind.0 l.2), tt)))
fields-written (EnterRule (RoleInclusion first second)) l =
    fields-spaced _ (_ ∷ (_ ∷ [])) (refl, tt) (clean_role first l.0, (clean_role second l.1, tt))
