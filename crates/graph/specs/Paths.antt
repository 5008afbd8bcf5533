-- Paths in a graph, and where they lead from a set of nodes.
use Rattle.std.specs.Prelude.{◌≡◌, ℕ, ◌<◌, Bool, false, ◌||◌, T, List, length, slice_index_or}

-- the smallest reflexive and transitive relation that holds the edges
pub data Star {A : Type 0} (E : A → A → Type 0) : A → A → Type 0 where
  here : {a : A} → Star E a a
  then : {a b c : A} → Star E a b → E b c → Star E a c

-- an edge to one of the first n numbers: these are the nodes of the graph
abbrev pub Step : (ℕ → ℕ → Bool) → ℕ → ℕ → ℕ → Type 0
Step edge n a b = T (edge a b) × (b < n)

-- the node is in a set, which has a flag for each node
abbrev pub In : List Bool → ℕ → Type 0
In set k = T (slice_index_or set k false)

-- of the nodes that the sets have flags for, the new set has those of the old one, those that pass a test, and no other
abbrev pub Adds : List Bool → List Bool → (ℕ → Bool) → Type 0
Adds old new joins =
    (k : ℕ) → k < length old → slice_index_or new k false ≡ (slice_index_or old k false || joins k)

-- a path leads to the node from a node of the set
abbrev pub Reached : (ℕ → ℕ → Bool) → List Bool → ℕ → Type 0
Reached edge from k = (a : ℕ) × (In from a × Star (Step edge (length from)) a k)

-- the flag is set exactly when the fact holds
pub record Tells (flag : Bool) (P : Type 0) : Type 0 where
  pub sound : T flag → P
  pub complete : P → T flag
