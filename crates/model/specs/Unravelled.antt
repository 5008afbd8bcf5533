-- The unravelled model: the world whose things are the paths of a model.
use Rattle.std.specs.Prelude.{ℕ, Bool, true, false, ◌&&◌, ◌||◌, List, [], ◌∷◌, ◌==◌, nat_lt}
use Rattle.league.specs.Roles.{inverse}
use Rattle.league.specs.Worlds.{World}
use Rattle.league.specs.declared.roles.Role.{Role}
use Rattle.league.specs.declared.roles.Role.TheVariants.{Forward}
use Rattle.model.specs.Structures.{Shape, Form}

-- two lists of elements are one
abbrev pub same_list : List ℕ → List ℕ → Bool
same_list [] [] = true
same_list [] (e ∷ y) = false
same_list (d ∷ x) [] = false
same_list (d ∷ x) (e ∷ y) = d == e && same_list x y

-- the last element of a path, which stands first in its list
abbrev pub end_of : List ℕ → ℕ
end_of [] = 0
end_of (d ∷ x) = d

-- a path: a name, then elements, each stepped to from the one before; the last stands first
abbrev pub is_path : Form → List ℕ → Bool
is_path f [] = false
is_path f (a ∷ []) = nat_lt a f.names
is_path f (d ∷ (e ∷ x)) = f.step e d && is_path f (e ∷ x)

module _ (s : Shape) (f : Form) where
  -- two bare names that R joins
  abbrev pub bare : Role → List ℕ → List ℕ → Bool
  bare R (a ∷ []) (b ∷ []) = nat_lt a f.names && (nat_lt b f.names && s.joins R a b)
  bare R (a ∷ []) [] = false
  bare R (a ∷ []) (b ∷ (e ∷ y)) = false
  bare R [] y = false
  bare R (d ∷ (e ∷ x)) y = false

  -- y is the path x extended by a step by R
  abbrev pub extends : Role → List ℕ → List ℕ → Bool
  extends R x [] = false
  extends R x (d ∷ y) = same_list x y && (is_path f y && (is_path f (d ∷ y) && f.by R (end_of y) d))

  -- R joins two bare names as the model does, a path to its extension by a step by R, and an extension
  -- back to its path when that step is by R⁻
  abbrev pub path_joins : Role → List ℕ → List ℕ → Bool
  path_joins R x y = bare R x y || (extends R x y || extends (inverse R) y x)

  -- the world of paths: a name is the path of itself alone, and a path has its last element's kinds
  abbrev pub unravelled : World f.names
  unravelled = record {
    name = λ a. a.0 ∷ [];
    own = λ a b _ _ e. λ i. record { 0 = end_of (e i) };
    kind = λ k x. is_path f x && s.kind k (end_of x);
    link = λ l x y. path_joins (Forward l) x y;
  }
