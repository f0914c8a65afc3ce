-- The instance of an item is there, with what is worked out of its entry.
use Rattle.std.proofs.Common.{◌≡◌, ap, subst, ℕ, List, Some}
use Rattle.dataflow.specs.Machine.{Event}
use Rattle.board_history.specs.Fields.{Does, Fields, Over, Row, row_of}
use Rattle.board_history.specs.Stands.{Stands}
use Rattle.task_code.specs.Code.{Code, Entry, entry}
use Rattle.task_code.specs.Whole.{IsCode}
use Rattle.board_program.proofs.Found.{home_found}
use Rattle.board_program.specs.Spots.{layout_of}
use Rattle.board_program.specs.Tables.{IsEntryTable, body_of, body_or_script}
use Rattle.board_program.specs.declared.program.EntryTable.{EntryTable}
use Rattle.board_data.specs.Wanted.{FewSlots}
use Rattle.board_effects.specs.Effects.{IsAtWork}

pub at_work : (C : Code) → IsCode C → (events : List Event) (F : Fields) → Stands C (layout_of C) events F → FewSlots F.frames → (n k i c : ℕ) (row : Row) → row_of F.rows n ≡ Some row → row.job ≡ Does k i c → (row.status ≡ Over → ⊥) → (e : Entry) → e ≡ entry C i → (table : EntryTable) → IsEntryTable C (body_of C i) i table → IsAtWork C F.frames k i e table
at_work C I events F x few n k i c row row_is is live e e_is table t =
    let f = x.frames.there n k i c row row_is is live in
    record {
      frame = f.0;
      there = f.1;
      depth = x.frames.depth k f.0 f.1;
      few = few;
      entry_is = e_is;
      table_is = subst (λ (b : ℕ). IsEntryTable C b i table) (ap body_or_script (home_found C I f.0.body i f.2)) t;
    }
