-- The tables of a program.
use Rattle.std.specs.Prelude.{◌≡◌, ◌<◌, ◌≤◌, ◌^◌, ℕ, length}
use Rattle.task_code.specs.Code.{Code, body, entry}
use Rattle.board_program.specs.Places.{FindsPlaces}
use Rattle.board_program.specs.Spots.{homes_of}
use Rattle.board_program.specs.Tables.{AllFrom, IsBodyTable, IsEntryTable, body_of}
use Rattle.board_program.specs.declared.lexical_address.NameResolver.{NameResolver}
use Rattle.board_program.specs.declared.program.ProgramTables.{ProgramTables}

-- the resolver of the code: the body that contains each entry, and the index of the variables of each body
pub record IsLeads (C : Code) (l : NameResolver) : Type 0 where
  pub entry_bodies : l.entry_bodies.items ≡ homes_of C
  pub places : AllFrom (λ b m. FindsPlaces (body C b).makes m) 0 l.places.items
  pub all : length l.places.items ≡ length C.bodies

-- no entry reads or writes more than `most` names
pub record AreAtMost (C : Code) (most : ℕ) : Type 0 where
  pub reads : (i : ℕ) → length (entry C i).reads ≤ most
  pub writes : (i : ℕ) → length (entry C i).writes ≤ most

-- the invariant of all tables of the code
pub record IsProgram (p : ProgramTables) : Type 0 where
  pub leads_are : IsLeads p.code p.leads
  pub few_bodies : length p.code.bodies < 2 ^ 32
  pub few_entries : length p.code.entries < 2 ^ 32
  pub each_entry : AllFrom (λ i t. IsEntryTable p.code (body_of p.code i) i t) 0 p.entries.items
  pub all_entries : length p.entries.items ≡ length p.code.entries
  pub each_body : AllFrom (λ b t. IsBodyTable p.code b t) 0 p.bodies.items
  pub all_bodies : length p.bodies.items ≡ length p.code.bodies
  pub names : AreAtMost p.code p.most_names
