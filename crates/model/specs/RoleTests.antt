-- Which roles generate which, and which form loops, as tests on what follows.
use Rattle.std.specs.Prelude.{◌≡◌, ℕ, Bool, false, not, ◌&&◌, List, length, ◌==◌, nat_lt, slice_index_or}
use Rattle.graph.specs.Paths.{Tells, Reached}
use Rattle.league.specs.Roles.{inverse, code}
use Rattle.league.specs.declared.roles.Mark.TheVariants.{Has}
use Rattle.league.specs.declared.roles.Role.{Role}
use Rattle.rules.specs.Codes.{role_of}
use Rattle.rules.specs.Consequences.{told_below, told_implies}
use Rattle.rules.specs.declared.consequences.Consequences.{Consequences}
use Rattle.model.specs.Rows.{some_below, Filled, flag_in}

module _ (c : Consequences) where
  -- U generates S
  abbrev pub told_generates : Role → Role → Bool
  told_generates U S = told_implies c (Has (inverse U)) (Has S) && not (code S == code (inverse U))

  -- U is above both S⁻ and R
  abbrev pub is_above : Role → Role → Role → Bool
  is_above R S U = told_below c (inverse S) U && told_below c R U

  -- the same, of the role with a code
  abbrev pub above_both : Role → Role → ℕ → Bool
  above_both R S u = is_above R S (role_of u)

  -- R and S form a loop
  abbrev pub told_loop : Role → Role → Bool
  told_loop R S =
      not (code R == code (inverse S))
      && (told_implies c (Has (inverse R)) (Has S) && (told_implies c (Has (inverse S)) (Has R) && some_below 128 (above_both R S)))

  -- R forms a loop with some role
  abbrev pub told_in_loop : Role → Bool
  told_in_loop R = some_below 128 (λ s. told_loop R (role_of s))

  -- the graph of the 128 roles by code, with an edge from each role to those that it generates
  abbrev pub generates_edge : ℕ → ℕ → Bool
  generates_edge u s = (nat_lt u 128 && nat_lt s 128) && told_generates (role_of u) (role_of s)

-- the row of the generating roles: reached from the roles that some of the first so many names generate
pub record GeneratingRow (c : Consequences) (starts : List (List Bool)) (names : ℕ) (row : List Bool) : Type 0 where
  pub start : List Bool
  pub long : length start ≡ 128
  pub starts_are : Filled start 128 (λ s. some_below names (λ a. flag_in 1024 128 starts a s))
  pub reached : (k : ℕ) → Tells (slice_index_or row k false) (Reached (generates_edge c) start k)
