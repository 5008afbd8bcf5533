-- What a number is decoded to where there are so many names.
use Rattle.std.specs.Prelude.{◌≡◌, ℕ, ◌<◌, ◌≤◌}
use Rattle.model.specs.Tabled.{Tabled, role_at, index_at}
use Rattle.model.specs.declared.witness.Element.{Element}
use Rattle.model.specs.declared.witness.Element.TheVariants.{Name, Witness}

-- a number below the number of names is a name; another has a witness's role and index
abbrev pub Decodes : Tabled → ℕ → Element → Type 0
Decodes t d (Name a) = (d < t.names) × (a.0 ≡ d)
Decodes t d (Witness w) = (t.names ≤ d) × (w.role ≡ role_at t d) × (w.index ≡ index_at t d)
