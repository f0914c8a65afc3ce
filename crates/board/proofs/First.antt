-- A new board's fields stand for the empty history.
use Rattle.std.proofs.Common.{◌≡◌, ℕ, ◌≤◌, true, List, [], ◌∷◌, refl, sym, ap, subst, Option, None, arith}
use Rattle.std.specs.Prelude.{ℤ, pos}
use Rattle.std.specs.Ordering.{int_eq}
use Rattle.dataflow.specs.System.{Distinct, In}
use Rattle.data_store.specs.Stores.{Store, array_at}
use Rattle.data_store.specs.declared.datum.Datum.{Datum}
use Rattle.board_history.specs.Fields.{Fields, Ready, Row, Script}
use Rattle.board_history.specs.Stands.{Stands, first_fields, first_queue}
use Rattle.board_history.proofs.Standing.{first_stands}
use Rattle.board_history.proofs.Tests.{choose, none_some}
use Rattle.task_code.specs.Code.{Code, Control, Kind, Leaf}
use Rattle.values.specs.Maps.{rising}
use Rattle.board_program.specs.Spots.{layout_of}
use Rattle.board_data.specs.Wanted.{FewSlots}
use Rattle.board_instances.specs.View.{frames_view, rows_view}
use Rattle.board_instances.specs.declared.instance.Instance.{Instance}
use Rattle.paths.specs.declared.faults.Fault.{Fault}
use Rattle.board.specs.Board.{Rises}
use Rattle.board_data.specs.Data.{AreRising}
use Rattle.board.specs.Inside.{IsNoted, Stand}
use Rattle.board_items.specs.Settled.{AreFirst}
use Rattle.board_items.specs.View.{numbers_at, queue_view}
use Rattle.board.specs.Queues.{SameNumbers, with_queue}
use Rattle.board_items.specs.Room.{IsRoomy, apart_in}
use Rattle.board.specs.View.{fields_view, nothing_told}
use Rattle.board_items.specs.declared.items.Items.{Items}
use Rattle.board.specs.declared.state.BoardState.{BoardState}
use Rattle.board.proofs.Queues.{queue_kept}

none_rising : (s : Store) → s.cells ≡ [] → AreRising s
none_rising s e d = subst (λ (cs : List (Option Datum)). rising (array_at (record { cells = cs; room = s.room; bound = s.bound }) d).elements ≡ true) (sym e) refl

none_few : FewSlots (frames_view [])
none_few k f h = none_some h

first_once : (k : Kind) (z : ℤ) → Distinct (first_queue k z)
first_once Control z = choose (λ (ns : List ℕ). Distinct ns) (int_eq (pos 0) z) (1 ∷ []) [] (λ e. (λ h. h, tt)) (λ e. tt)
first_once Leaf z = tt

first_numbers : (items : Items) → AreFirst items → (k : Kind) (z : ℤ) → queue_view items.queue k z ≡ first_queue k z
first_numbers items a Control z = ap (numbers_at z) a.controls
first_numbers items a Leaf z = ap (numbers_at z) a.leaves

first_same : (items : Items) → AreFirst items → SameNumbers first_queue (queue_view items.queue)
first_same items a =
    record {
      all = λ k z n h. subst (λ (ns : List ℕ). In n ns) (sym (first_numbers items a k z)) h;
      only = λ k z n h. subst (λ (ns : List ℕ). In n ns) (first_numbers items a k z) h;
      once = λ k z. subst (λ (ns : List ℕ). Distinct ns) (sym (first_numbers items a k z)) (first_once k z);
    }

none_apart : (C : Code) (k : Kind) (n : ℕ) (rows : List Row) → rows ≡ record { job = Script; status = Ready } ∷ [] → apart_in C k rows ≤ n
none_apart C k n rows e = subst (λ (rs : List Row). apart_in C k rs ≤ n) (sym e) (omega arith)

first_roomy : (C : Code) (items : Items) → AreFirst items → IsRoomy C items
first_roomy C items a =
    record {
      controls_counted = none_apart C Control items.apart.controls (rows_view items.rows.items) a.rows;
      leaves_counted = none_apart C Leaf items.apart.leaves (rows_view items.rows.items) a.rows;
      controls_fit = none_apart C Control items.queue.control.room (rows_view items.rows.items) a.rows;
      leaves_fit = none_apart C Leaf items.queue.leaf.room (rows_view items.rows.items) a.rows;
      noted = a.noted;
    }

pub first_core : (core : BoardState) → AreFirst core.items → core.data_state.instances.slots ≡ [] → core.data_state.store.cells ≡ [] → core.lines.items ≡ [] → core.fault ≡ None → (C : Code) → Stand C [] core
first_core core a slots cells lines fault C =
    record {
      told = nothing_told;
      stands = subst (λ (F : Fields). Stands C (layout_of C) [] F) fields (queue_kept C (layout_of C) [] first_fields (first_stands C (layout_of C)) (queue_view core.items.queue) (first_same core.items a));
      fault = subst (λ (f : Option Fault). IsNoted C None f) (sym fault) tt;
      kept = record {
        few = subst (λ (fs : List (Option Instance)). FewSlots (frames_view fs)) (sym slots) none_few;
        rising = none_rising core.data_state.store cells;
        roomy = first_roomy C core.items a;
        rises = subst (λ (ns : List ℕ). Rises ns) (sym a.newly) tt;
      };
    }
  where
    fields : with_queue (queue_view core.items.queue) first_fields ≡ fields_view nothing_told core
    fields =
        let b = a.rows in
        let c = a.waiting in
        let d = a.running in
        let e = a.newly in
        cc
