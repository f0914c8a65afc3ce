-- Room that is made keeps what the fields stand for.
use Rattle.std.proofs.Common.{◌≡◌, ℕ, ◌<◌, ◌≤◌, List, sym, ap, ◌∙◌, subst, Option, arith}
use Rattle.std.specs.Global.{Global}
use Rattle.std.specs.Prelude.{ℤ, Vec, vec_capacity}
use Rattle.board_history.specs.Fields.{Fields, Frame}
use Rattle.board_history.specs.Stands.{Stands}
use Rattle.task_code.specs.Code.{Code, Control, Kind, Leaf}
use Rattle.board_program.specs.Spots.{layout_of}
use Rattle.board_data.specs.View.{cells_view}
use Rattle.board_data.specs.Wanted.{FewSlots}
use Rattle.board_instances.specs.View.{frames_view, rows_view}
use Rattle.paths.specs.declared.faults.Fault.{Fault}
use Rattle.rules.specs.Waiting.{Listing}
use Rattle.board_changes.specs.Room.{OnlyRoom}
use Rattle.values.specs.declared.value.Scalar.{Scalar}
use Rattle.board_items.specs.Room.{IsRoomy, apart_in}
use Rattle.board_items.specs.Settled.{StaysButRoom}
use Rattle.board_items.specs.declared.items.Items.{Items}
use Rattle.board_items.specs.declared.items.Counts.{Counts}
use Rattle.board_instances.specs.declared.item.ItemRecord.{ItemRecord}
use Rattle.data_store.specs.Stores.{Store}
use Rattle.work_queue.specs.Both.{Both}
use Rattle.board_items.specs.View.{numbers_at, queue_view, waiters_view}
use Rattle.board.specs.Board.{Rises}
use Rattle.board.specs.Ending.{StaysSo}
use Rattle.board_data.specs.Data.{AreRising}
use Rattle.board.specs.Inside.{IsNoted}
use Rattle.board.specs.View.{Told, fields_view}
use Rattle.board.specs.declared.state.BoardState.{BoardState}

-- nothing has changed but room
pub record KeepsFields (C : Code) (old new : BoardState) : Type 0 where
  pub frames : frames_view new.data_state.instances.slots ≡ frames_view old.data_state.instances.slots
  pub cells : cells_view new.data_state.store.cells ≡ cells_view old.data_state.store.cells
  pub rising : AreRising old.data_state.store → AreRising new.data_state.store
  pub items : StaysButRoom old.items new.items
  pub roomy : IsRoomy C old.items → IsRoomy C new.items
  pub lines : new.lines.items ≡ old.lines.items
  pub fault : new.fault ≡ old.fault

queue_kept : (old new : BoardState) → StaysButRoom old.items new.items → (k : Kind) (z : ℤ) → queue_view old.items.queue k z ≡ queue_view new.items.queue k z
queue_kept old new s Control z = ap (numbers_at z) (sym s.control)
queue_kept old new s Leaf z = ap (numbers_at z) (sym s.leaf)

fields_kept : (C : Code) (told : Told) (old new : BoardState) → KeepsFields C old new → fields_view told old ≡ fields_view told new
fields_kept C told old new k =
    let rows : rows_view old.items.rows.items ≡ rows_view new.items.rows.items = ap rows_view (sym k.items.rows) in
    let waiting : waiters_view old.items.rules.waiting ≡ waiters_view new.items.rules.waiting = ap waiters_view (sym k.items.waiting) in
    let frames = sym k.frames in
    let cells = sym k.cells in
    let lines = sym k.lines in
    let running = sym k.items.running in
    let newly = sym k.items.newly in
    λ i. record {
      frames = frames i;
      rows = rows i;
      cells = cells i;
      waiting = waiting i;
      turns = told.turns;
      queue = λ l z. queue_kept old new k.items l z i;
      lines = lines i;
      fault = told.fault;
      running = running i;
      newly = newly i;
    }

pub room_kept : (C : Code) (old new : BoardState) → KeepsFields C old new → StaysSo C old new
room_kept C old new k =
    record {
      stand = λ es s. record {
        told = s.told;
        stands = subst (λ (F : Fields). Stands C (layout_of C) es F) (fields_kept C s.told old new k) s.stands;
        fault = subst (λ (f : Option Fault). IsNoted C s.told.fault f) (sym k.fault) s.fault;
        kept = record {
          few = subst (λ (fs : List (Option Frame)). FewSlots fs) (sym k.frames) s.kept.few;
          rising = k.rising s.kept.rising;
          roomy = k.roomy s.kept.roomy;
          rises = subst (λ (ns : List ℕ). Rises ns) (sym k.items.newly) s.kept.rises;
        };
      };
      newly = k.items.newly;
      fault = k.fault;
      running = k.items.running;
    }

pub stays_on : (C : Code) (a b c : BoardState) → StaysSo C a b → StaysSo C b c → StaysSo C a c
stays_on C a b c s t =
    record {
      stand = λ es x. t.stand es (s.stand es x);
      newly = t.newly ∙ s.newly;
      fault = t.fault ∙ s.fault;
      running = t.running ∙ s.running;
    }

-- more room for what can begin
still_roomy : (C : Code) (a b : Items) → IsRoomy C a → b.rows ≡ a.rows → b.queue ≡ a.queue → b.apart ≡ a.apart → vec_capacity a.newly ≤ vec_capacity b.newly → IsRoomy C b
still_roomy C a b r rows queue apart capacity =
    record {
      controls_counted = subst (λ (p : Counts). apart_in C Control (rows_view b.rows.items) ≤ p.controls) (sym apart) (subst (λ (v : Vec ItemRecord Global). apart_in C Control (rows_view v.items) ≤ a.apart.controls) (sym rows) r.controls_counted);
      leaves_counted = subst (λ (p : Counts). apart_in C Leaf (rows_view b.rows.items) ≤ p.leaves) (sym apart) (subst (λ (v : Vec ItemRecord Global). apart_in C Leaf (rows_view v.items) ≤ a.apart.leaves) (sym rows) r.leaves_counted);
      controls_fit = subst (λ (q : Both). apart_in C Control (rows_view b.rows.items) ≤ q.control.room) (sym queue) (subst (λ (v : Vec ItemRecord Global). apart_in C Control (rows_view v.items) ≤ a.queue.control.room) (sym rows) r.controls_fit);
      leaves_fit = subst (λ (q : Both). apart_in C Leaf (rows_view b.rows.items) ≤ q.leaf.room) (sym queue) (subst (λ (v : Vec ItemRecord Global). apart_in C Leaf (rows_view v.items) ≤ a.queue.leaf.room) (sym rows) r.leaves_fit);
      noted = (let n = r.noted in omega arith);
    }

module _ (C : Code) (old new : BoardState) (slots : new.data_state.instances.slots ≡ old.data_state.instances.slots) (lines : new.lines.items ≡ old.lines.items) (fault : new.fault ≡ old.fault) where
  -- room in instances and data, and for new items
  pub open_kept : cells_view new.data_state.store.cells ≡ cells_view old.data_state.store.cells → (AreRising old.data_state.store → AreRising new.data_state.store) → StaysButRoom old.items new.items → (IsRoomy C old.items → IsRoomy C new.items) → StaysSo C old new
  open_kept cells rising items roomy =
      room_kept C old new (record { frames = ap frames_view slots; cells = cells; rising = rising; items = items; roomy = roomy; lines = lines; fault = fault })

  -- room for items, and then in the lists of those that learn or can begin
  pub more_kept : new.data_state.store ≡ old.data_state.store → (mid : Items) → StaysButRoom old.items mid → (IsRoomy C old.items → IsRoomy C mid) → new.items.rows ≡ mid.rows → new.items.rules ≡ mid.rules → new.items.queue ≡ mid.queue → new.items.apart ≡ mid.apart
      → new.items.running ≡ mid.running → new.items.newly.items ≡ mid.newly.items → new.items.woken.items ≡ mid.woken.items → vec_capacity mid.newly ≤ vec_capacity new.items.newly → StaysSo C old new
  more_kept store mid items roomy rows rules queue apart running newly woken capacity =
      room_kept C old new (record {
        frames = ap frames_view slots;
        cells = ap (λ (s : Store). cells_view s.cells) store;
        rising = λ h. subst (λ (s : Store). AreRising s) (sym store) h;
        items = record {
          rows = ap (λ (v : Vec ItemRecord Global). v.items) rows ∙ items.rows;
          waiting = ap (λ (r : Listing). r.waiting) rules ∙ items.waiting;
          control = ap (λ (q : Both). q.control.entries) queue ∙ items.control;
          leaf = ap (λ (q : Both). q.leaf.entries) queue ∙ items.leaf;
          newly = newly ∙ items.newly;
          woken = woken ∙ items.woken;
          running = running ∙ items.running;
        };
        roomy = λ r. still_roomy C mid new.items (roomy r) rows queue apart capacity;
        lines = lines;
        fault = fault;
      })

same_roomy : (C : Code) (a b : Items) → IsRoomy C a → b.rows.items ≡ a.rows.items → b.queue ≡ a.queue → b.apart ≡ a.apart → b.newly ≡ a.newly → IsRoomy C b
same_roomy C a b r rows queue apart newly =
    record {
      controls_counted = subst (λ (p : Counts). apart_in C Control (rows_view b.rows.items) ≤ p.controls) (sym apart) (subst (λ (l : List ItemRecord). apart_in C Control (rows_view l) ≤ a.apart.controls) (sym rows) r.controls_counted);
      leaves_counted = subst (λ (p : Counts). apart_in C Leaf (rows_view b.rows.items) ≤ p.leaves) (sym apart) (subst (λ (l : List ItemRecord). apart_in C Leaf (rows_view l) ≤ a.apart.leaves) (sym rows) r.leaves_counted);
      controls_fit = subst (λ (q : Both). apart_in C Control (rows_view b.rows.items) ≤ q.control.room) (sym queue) (subst (λ (l : List ItemRecord). apart_in C Control (rows_view l) ≤ a.queue.control.room) (sym rows) r.controls_fit);
      leaves_fit = subst (λ (q : Both). apart_in C Leaf (rows_view b.rows.items) ≤ q.leaf.room) (sym queue) (subst (λ (l : List ItemRecord). apart_in C Leaf (rows_view l) ≤ a.queue.leaf.room) (sym rows) r.leaves_fit);
      noted = subst (λ (v : Vec ℕ Global). 0 < vec_capacity v) (sym newly) r.noted;
    }

-- room in instances and data, and for rows
pub world_kept : (C : Code) (old new : BoardState) → OnlyRoom old.data_state new.data_state → new.items.rows.items ≡ old.items.rows.items → new.items.rules ≡ old.items.rules → new.items.queue ≡ old.items.queue → new.items.apart ≡ old.items.apart
    → new.items.running ≡ old.items.running → new.items.newly ≡ old.items.newly → new.items.woken ≡ old.items.woken → new.lines ≡ old.lines → new.fault ≡ old.fault → StaysSo C old new
world_kept C old new only rows rules queue apart running newly woken lines fault =
    room_kept C old new (record {
      frames = ap frames_view only.frames;
      cells = only.cells;
      rising = only.rising;
      items = record {
        rows = rows;
        waiting = ap (λ (r : Listing). r.waiting) rules;
        control = ap (λ (q : Both). q.control.entries) queue;
        leaf = ap (λ (q : Both). q.leaf.entries) queue;
        newly = ap (λ (v : Vec ℕ Global). v.items) newly;
        woken = ap (λ (v : Vec ℕ Global). v.items) woken;
        running = running;
      };
      roomy = λ r. same_roomy C old.items new.items r rows queue apart newly;
      lines = ap (λ (v : Vec Scalar Global). v.items) lines;
      fault = fault;
    })
