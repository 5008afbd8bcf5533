-- What recorded facts in range say of the names in them; whether a name has a recorded partner can be told.
use Rattle.std.proofs.Common.{◌≡◌, ℕ, ◌<◌, Bool, true, false, T, ltb, refl, subst, ltb→lt}
use Rattle.league.specs.declared.facts.Fact.{Fact}
use Rattle.league.specs.declared.facts.Kind.{Kind}
use Rattle.league.specs.declared.facts.Link.{Link}
use Rattle.league.specs.declared.facts.Name.{Name}
use Rattle.league.specs.declared.roles.Role.{Role}
use Rattle.rules.proofs.Marked.{T_true, true_T}
use Rattle.model.specs.Recorded.{FactsIn, Recorded, name_of, fact_of}
use Rattle.model.specs.Rows.{some_below}
use Rattle.model.proofs.Searches.{some_found, some_at}
use Rattle.model.proofs.Tests.{and_both}

module _ (P : ℕ) (facts : Fact → Bool) (inside : FactsIn P facts) where
  pub kind_within_lem : (k : Kind) (a : Name) → T (facts (Fact.Is k a)) → a.0 < P
  kind_within_lem k a h = ltb→lt a.0 P (and_both (ltb k.0 64) _ (true_T _ (inside _ (T_true _ h)))).1

  pub link_within : (l : Link) (a b : Name) → T (facts (Fact.Joins l a b)) → (l.0 < 32) × (a.0 < P) × (b.0 < P)
  link_within l a b h =
      let p = and_both (ltb l.0 32) _ (true_T _ (inside _ (T_true _ h))) in
      let q = and_both (ltb a.0 P) _ p.1 in
      (ltb→lt l.0 32 p.0, ltb→lt a.0 P q.0, ltb→lt b.0 P q.1)

  -- both names of a recorded link are below P
  pub partner_within : (R : Role) (a b : Name) → Recorded facts R a b → (a.0 < P) × (b.0 < P)
  partner_within (Role.Forward l) a b r = let p = link_within l a b r in (p.1, p.2)
  partner_within (Role.Backward l) a b r = let p = link_within l b a r in (p.2, p.1)

  -- whether a name has a recorded partner by the role itself
  pub partner? : (R : Role) (a : Name) → Dec ((b : Name) × Recorded facts R a b)
  partner? R a = go (some_below P q) refl
    where
      q : ℕ → Bool
      q b = facts (fact_of R a (name_of b))

      go : (t : Bool) → some_below P q ≡ t → Dec ((b : Name) × Recorded facts R a b)
      go true e = let p = some_found P q (true_T _ e) in yes (name_of p.0, p.2)
      go false e = no (λ p. subst T e (some_at P q p.0.0 (partner_within R a p.0 p.1).1 p.1))
