-- What the tables of the canonical model tell.
use Rattle.std.specs.Prelude.{◌≡◌, ℕ, ◌<◌, ◌&&◌, [], slice_index_or}
use Rattle.league.specs.Roles.{code}
use Rattle.rules.specs.Codes.{role_of}
use Rattle.rules.specs.Consequences.{told_below, told_implies, mark_listed}
use Rattle.rules.specs.Marks.{mark_code}
use Rattle.store.specs.Holding.{Holding}
use Rattle.model.specs.Given.{RowsOf}
use Rattle.model.specs.Recorded.{name_of}
use Rattle.model.specs.RoleTests.{told_loop, told_in_loop, GeneratingRow}
use Rattle.model.specs.Rows.{Filled, Stacked, flag_at, flag_in}
use Rattle.model.specs.Tabled.{Tabled}
use Rattle.model.specs.declared.canonical_tables.CanonicalTables.{CanonicalTables}

-- each is looked up by the codes of roles and marks, where those have a place in the table
abbrev pub tabled : CanonicalTables → Tabled
tabled t = record {
  names = t.names;
  below = told_below t.consequences.now;
  implies = told_implies t.consequences.now;
  marks = λ a C. mark_listed C && flag_in 1024 192 t.rows.marks.cells a (mark_code C);
  starts = λ a R. flag_in 1024 128 t.rows.starts.cells a (code R);
  generating = λ R. flag_at 128 t.generating (code R);
  loops = λ R S. flag_in 128 128 t.loops.pairs.cells (code R) (code S);
  in_loop = λ R. flag_at 128 t.loops.members (code R);
}

-- the tables are made of what a store holds: a row for each name, the loops of all roles, and the roles
-- reached from those that a name generates
pub record TablesOf (h : Holding) (t : CanonicalTables) : Type 0 where
  pub names_are : t.names ≡ h.names
  pub rows_are : (a : ℕ) → a < h.names → RowsOf h t.consequences.now (name_of a) (slice_index_or t.rows.marks.cells a []) (slice_index_or t.rows.starts.cells a [])
  pub pairs_are : Stacked t.loops.pairs.cells 128 128 (λ i j. told_loop t.consequences.now (role_of i) (role_of j))
  pub members_are : Filled t.loops.members 128 (λ i. told_in_loop t.consequences.now (role_of i))
  pub generating_are : GeneratingRow t.consequences.now t.rows.starts.cells h.names t.generating
