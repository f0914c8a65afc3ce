-- Codes that do the same: they differ only in what a listing alone shows, and in the order of rights.
use Rattle.std.specs.Prelude.{◌≡◌, ◌↔◌, ℕ, List, [], ◌∷◌}
use Rattle.dataflow.specs.System.{In}
use Rattle.task_code.specs.Code.{Name, Act, Cell, Read, Call, If, Range, Each, Entry, Code, entry}

-- the value of the act is stored at the entry's node
abbrev pub StoresAtNode : Act → Type 0
StoresAtNode (Cell e) = Unit {0}
StoresAtNode Read = Unit {0}
StoresAtNode _ = ⊥

-- the blocks of the act are opened at the entry's offset
abbrev pub OpensAtMark : Act → Type 0
OpensAtMark (Call b rs os) = Unit {0}
OpensAtMark (If e b d) = Unit {0}
OpensAtMark (Range l h s w) = Unit {0}
OpensAtMark (Each w) = Unit {0}
OpensAtMark _ = ⊥

-- two entries of one statement that wait for the same and do the same
pub record DoSame (e f : Entry) : Type 0 where
  pub at : e.at ≡ f.at
  pub priority : e.priority ≡ f.priority
  pub needs : e.needs ≡ f.needs
  pub act : e.act ≡ f.act
  pub node : StoresAtNode e.act → e.node ≡ f.node
  pub offset : OpensAtMark e.act → e.offset ≡ f.offset

-- entry by entry
abbrev pub AllDoSame : List Entry → List Entry → Type 0
AllDoSame [] [] = Unit {0}
AllDoSame [] (f ∷ fs) = ⊥
AllDoSame (e ∷ es) [] = ⊥
AllDoSame (e ∷ es) (f ∷ fs) = DoSame e f × AllDoSame es fs

-- the entries may read and write the same
pub record HaveSameRights (e f : Entry) : Type 0 where
  pub reads : (r : Name) → In r e.reads ↔ In r f.reads
  pub writes : (r : Name) → In r e.writes ↔ In r f.writes

pub record AreAlike (C D : Code) : Type 0 where
  pub bodies : C.bodies ≡ D.bodies
  pub entries : AllDoSame C.entries D.entries
  pub rights : (i : ℕ) → HaveSameRights (entry C i) (entry D i)
