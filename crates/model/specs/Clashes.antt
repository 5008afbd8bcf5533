-- Whether a clash stands, as a test on the canonical model's tables.
use Rattle.std.specs.Prelude.{ℕ, Bool, ◌&&◌, ◌||◌}
use Rattle.league.specs.Roles.{inverse}
use Rattle.league.specs.declared.roles.Mark.{Mark}
use Rattle.league.specs.declared.roles.Mark.TheVariants.{Has}
use Rattle.league.specs.declared.roles.Role.{Role}
use Rattle.league.specs.declared.rules.Rule.{Rule}
use Rattle.league.specs.declared.rules.Rule.TheVariants.{Exclusion}
use Rattle.rules.specs.Codes.{role_of, mark_of}
use Rattle.model.specs.Rows.{some_below}
use Rattle.model.specs.Tabled.{Tabled}

module _ (t : Tabled) where
  -- the name has both marks
  abbrev pub name_holds : Mark → Mark → ℕ → Bool
  name_holds B C a = t.marks a B && t.marks a C

  -- the role is generating, and its witnesses have both marks
  abbrev pub role_holds : Mark → Mark → Role → Bool
  role_holds B C R = t.generating R && (t.implies (Has (inverse R)) B && t.implies (Has (inverse R)) C)

  -- the same, of the role with a code
  abbrev pub witness_holds : Mark → Mark → ℕ → Bool
  witness_holds B C r = role_holds B C (role_of r)

  -- some present element has both marks
  abbrev pub some_holds : Mark → Mark → Bool
  some_holds B C = some_below t.names (name_holds B C) || some_below 128 (witness_holds B C)

  -- the marks exclude one another, and some present element has both
  abbrev pub both_clash : (Rule → Bool) → Mark → Mark → Bool
  both_clash rules B C = rules (Exclusion B C) && some_holds B C

  -- some mark excludes the mark, and some present element has both; it stays shut, so that what is told of a mark
  -- is told of an equal one
  unfoldable pub mark_clashes : (Rule → Bool) → Mark → Bool
  mark_clashes rules B = some_below 128 (λ c. both_clash rules B (mark_of c))

  -- the marks with these codes exclude one another, and some present element has both
  abbrev pub clashes_at : (Rule → Bool) → ℕ → ℕ → Bool
  clashes_at rules b c = both_clash rules (mark_of b) (mark_of c)

  -- some two marks do; rules name marks with codes below 128
  abbrev pub clash_test : (Rule → Bool) → Bool
  clash_test rules = some_below 128 (λ b. some_below 128 (clashes_at rules b))
