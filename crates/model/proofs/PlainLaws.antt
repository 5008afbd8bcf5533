-- The plain model is a model: it has no steps, and every recorded fact is of names.
use Rattle.std.proofs.Common.{◌≡◌, ℕ, T, ltb, refl, inl, ltb→lt, lt→ltb}
use Rattle.league.specs.Roles.{inverse}
use Rattle.league.specs.declared.facts.Fact.TheVariants.{Is, Joins}
use Rattle.league.specs.declared.facts.Kind.{Kind}
use Rattle.league.specs.declared.facts.Link.{Link}
use Rattle.league.specs.declared.roles.Role.{Role}
use Rattle.league.specs.declared.roles.Role.TheVariants.{Forward, Backward}
use Rattle.graph.specs.Paths.Star.{here}
use Rattle.store.specs.Holding.{Holding, Sound}
use Rattle.model.specs.Plain.{plain_shape, plain_form}
use Rattle.model.specs.Recorded.{name_of}
use Rattle.model.specs.Structures.{Lawful}
use Rattle.rules.proofs.Marked.{T_true, true_T}
use Rattle.model.proofs.Tests.{and_both}

module _ (h : Holding) (sound : Sound h) where
  kind_in : (k : Kind) (d : ℕ) → T (h.facts (Is k (name_of d))) → T (ltb d h.names)
  kind_in k d t = (and_both (ltb k.0 64) _ (true_T _ (sound.range _ (T_true _ t)))).1

  link_in : (l : Link) (d e : ℕ) → T (h.facts (Joins l (name_of d) (name_of e))) → T (ltb d h.names) × T (ltb e h.names)
  link_in l d e t = and_both _ _ (and_both (ltb l.0 32) _ (true_T _ (sound.range _ (T_true _ t)))).1

  joins_in : (R : Role) (d e : ℕ) → T ((plain_shape h).joins R d e) → T (ltb d h.names) × T (ltb e h.names)
  joins_in (Forward l) d e t = link_in l d e t
  joins_in (Backward l) d e t = let p = link_in l e d t in (p.1, p.0)

  joins_back_lem : (R : Role) (d e : ℕ) → (plain_shape h).joins (inverse R) e d ≡ (plain_shape h).joins R d e
  joins_back_lem (Forward l) d e = refl
  joins_back_lem (Backward l) d e = refl

  pub plain_lawful : Lawful (plain_shape h) (plain_form h)
  plain_lawful = record {
    names_nameable = refl;
    names_present = λ a l. lt→ltb a h.names l;
    present_below = λ d p. ltb→lt d h.names p;
    kind_present = kind_in;
    joins_present = joins_in;
    joins_back = joins_back_lem;
    step_present = λ d e p s. absurd s;
    joined_by_step = λ R d e p q j. inl (ltb→lt d h.names p, ltb→lt e h.names q);
    step_joins = λ R d e p s. absurd s.0;
    step_to_no_name = λ d e p s. absurd s;
    no_step_back = λ R d e p q s t. s.0;
    reached = λ e p. (e, ltb→lt e h.names p, here);
  }
