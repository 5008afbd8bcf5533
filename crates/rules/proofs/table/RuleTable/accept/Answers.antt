use Rattle.std.proofs.Common.{◌≡◌, true, List, sym, refl, ap, ◌∙◌, subst}
use Rattle.league.specs.declared.rules.Rule.{Rule}
use Rattle.league.specs.declared.rules.Rule.TheVariants.{Inclusion, Exclusion, Required, RoleInclusion}
use Rattle.rules.specs.InUse.{in_use}
use Rattle.rules.specs.Marks.{mark_code}
use Rattle.rules.specs.Noted.{rule_set_of}
use Rattle.rules.specs.Pairs.{pair_of, fits, number_of, with_pair}
use Rattle.rules.specs.RuleSet.{rule_within, gained}
use Rattle.rules.specs.Tables.{means}
use Rattle.rules.specs.declared.pair.Pair.{Pair}
use Rattle.rules.proofs.Noting.{More, at_codes, gain_inclusion, gain_exclusion, gain_required, gain_role, empty_more, kept, held, Empty}
use Rattle.rules.proofs.Numbered.{taken, taken_number, taken_pairs}
use Rattle.rules.proofs.table.RuleTable.accept.Goals as goal
use Rattle.rules.proofs.table.RuleTable.accept.Goals.{After-set, After-note_exclusion, After-set-in-Required, After-note_role_inclusion}

-- an inclusion
module _ (c : After-set) where
  abbrev inclusion : Rule
  inclusion = Inclusion c.in-Inclusion.sub c.in-Inclusion.sup

  inclusion_more : let t = c.args.self.now in
      rule_set_of c.set.new.self.cells t.exclusions.cells t.required.cells t.roles.cells (in_use t.pairs) ≡ gained (means t) inclusion
  inclusion_more =
      let t = c.args.self.now in
      gain_inclusion t.inclusions.cells t.exclusions.cells t.required.cells t.roles.cells (in_use t.pairs) c.in-Inclusion.sub c.in-Inclusion.sup c.set.new.self.cells
      (subst (λ (r : Rule). rule_within r ≡ true) c.in-Inclusion.is c.requires)
      (at_codes t.inclusions.cells c.set.new.self.cells _ _ _ _ c.mark_code.ensures.tells c.mark_code-in-Inclusion.ensures.tells c.set.ensures)

pub invariant_of-self : goal.invariant_of-self
invariant_of-self c =
    let t = c.args.self.now in
    record { proper = kept (means t) _ c.args.rule (inclusion c) c.in-Inclusion.is c.requires refl (inclusion_more c) t.proper; empty = t.empty }

pub returns-in-Inclusion-clause-holds : goal.returns-in-Inclusion-clause-holds
returns-in-Inclusion-clause-holds c =
    let d = (goal.at.returns-in-Inclusion-clause-holds c).After-set in
    held (means d.args.self.now) _ d.args.rule (inclusion d) d.in-Inclusion.is d.requires refl (inclusion_more d)

-- an exclusion
module _ (c : After-note_exclusion) where
  abbrev exclusion : Rule
  exclusion = Exclusion c.in-Exclusion.left c.in-Exclusion.right

  exclusion_more : let t = c.args.self.now in
      rule_set_of t.inclusions.cells c.note_exclusion.new.flags.cells t.required.cells t.roles.cells (in_use t.pairs) ≡ gained (means t) exclusion
  exclusion_more =
      let t = c.args.self.now in
      gain_exclusion t.inclusions.cells t.exclusions.cells t.required.cells t.roles.cells (in_use t.pairs) c.in-Exclusion.left c.in-Exclusion.right c.note_exclusion.new.flags.cells
      (subst (λ (r : Rule). rule_within r ≡ true) c.in-Exclusion.is c.requires) c.note_exclusion.ensures

pub invariant_of-self-in-Exclusion : goal.invariant_of-self-in-Exclusion
invariant_of-self-in-Exclusion c =
    let t = c.args.self.now in
    record { proper = kept (means t) _ c.args.rule (exclusion c) c.in-Exclusion.is c.requires refl (exclusion_more c) t.proper; empty = t.empty }

pub returns-in-Exclusion-clause-holds : goal.returns-in-Exclusion-clause-holds
returns-in-Exclusion-clause-holds c =
    let d = (goal.at.returns-in-Exclusion-clause-holds c).After-note_exclusion in
    held (means d.args.self.now) _ d.args.rule (exclusion d) d.in-Exclusion.is d.requires refl (exclusion_more d)

-- a role inclusion
module _ (c : After-note_role_inclusion) where
  abbrev role_inclusion : Rule
  role_inclusion = RoleInclusion c.in-RoleInclusion.sub c.in-RoleInclusion.sup

  role_inclusion_more : let t = c.args.self.now in
      rule_set_of t.inclusions.cells t.exclusions.cells t.required.cells c.note_role_inclusion.new.flags.cells (in_use t.pairs) ≡ gained (means t) role_inclusion
  role_inclusion_more =
      let t = c.args.self.now in
      gain_role t.inclusions.cells t.exclusions.cells t.required.cells t.roles.cells (in_use t.pairs) c.in-RoleInclusion.sub c.in-RoleInclusion.sup c.note_role_inclusion.new.flags.cells
      (subst (λ (r : Rule). rule_within r ≡ true) c.in-RoleInclusion.is c.requires) c.note_role_inclusion.ensures

pub invariant_of-self-in-RoleInclusion : goal.invariant_of-self-in-RoleInclusion
invariant_of-self-in-RoleInclusion c =
    let t = c.args.self.now in
    record {
      proper = kept (means t) _ c.args.rule (role_inclusion c) c.in-RoleInclusion.is c.requires refl (role_inclusion_more c) t.proper;
      empty = t.empty;
    }

pub returns-in-RoleInclusion-clause-holds : goal.returns-in-RoleInclusion-clause-holds
returns-in-RoleInclusion-clause-holds c =
    let d = (goal.at.returns-in-RoleInclusion-clause-holds c).After-note_role_inclusion in
    held (means d.args.self.now) _ d.args.rule (role_inclusion d) d.in-RoleInclusion.is d.requires refl (role_inclusion_more d)

-- a required partner
module _ (c : After-set-in-Required) where
  abbrev requirement : Rule
  requirement = Required c.in-Required.mark c.in-Required.role c.in-Required.kind

  abbrev here : Pair
  here = pair_of c.in-Required.role c.in-Required.kind

  abbrev pairs : List Pair
  pairs = in_use c.args.self.now.pairs

  room : fits pairs here ≡ true
  room = taken (fits pairs here) c.in_ok-number-in-Required.number (number_of pairs here) c.in_ok-number-in-Required.ensures.replies

  pairs_now : in_use c.take_number.new.self ≡ with_pair pairs here
  pairs_now = taken_pairs (fits pairs here) _ (with_pair pairs here) pairs c.take_number.ensures.holds room

  set : More c.args.self.now.required.cells c.set-in-Required.new.self.cells (mark_code c.in-Required.mark) (number_of pairs here)
  set =
      at_codes c.args.self.now.required.cells c.set-in-Required.new.self.cells c.mark_code-in-Required.result c.in_ok-number-in-Required.number (mark_code c.in-Required.mark) (number_of pairs here)
      c.mark_code-in-Required.ensures.tells (taken_number (fits pairs here) c.in_ok-number-in-Required.number (number_of pairs here) c.in_ok-number-in-Required.ensures.replies) c.set-in-Required.ensures

  requirement_more : let t = c.args.self.now in
      rule_set_of t.inclusions.cells t.exclusions.cells c.set-in-Required.new.self.cells t.roles.cells (in_use c.take_number.new.self) ≡ gained (means t) requirement
  requirement_more =
      let t = c.args.self.now in
      ap (rule_set_of t.inclusions.cells t.exclusions.cells c.set-in-Required.new.self.cells t.roles.cells) pairs_now
      ∙ gain_required t.inclusions.cells t.exclusions.cells t.required.cells t.roles.cells pairs
      c.in-Required.mark c.in-Required.role c.in-Required.kind c.set-in-Required.new.self.cells
      (subst (λ (r : Rule). rule_within r ≡ true) c.in-Required.is c.requires) t.empty set

pub invariant_of-self-in-Required : goal.invariant_of-self-in-Required
invariant_of-self-in-Required c =
    let t = c.args.self.now in
    record {
      proper = kept (means t) _ c.args.rule (requirement c) c.in-Required.is c.requires (room c) (requirement_more c) t.proper;
      empty = subst (λ (qs : List Pair). Empty qs c.set-in-Required.new.self.cells) (sym (pairs_now c))
          (empty_more (pairs c) (here c) t.required.cells c.set-in-Required.new.self.cells (mark_code c.in-Required.mark) t.empty (set c));
    }

pub returns-in_ok-number-in-Required-clause-holds : goal.returns-in_ok-number-in-Required-clause-holds
returns-in_ok-number-in-Required-clause-holds c =
    let d = (goal.at.returns-in_ok-number-in-Required-clause-holds c).After-set-in-Required in
    held (means d.args.self.now) _ d.args.rule (requirement d) d.in-Required.is d.requires (room d) (requirement_more d)
