-- The board that a refused replay leaves.
use Rattle.std.proofs.Common.{◌≡◌, ◌∙◌, ◌++◌, refl, sym, ap, subst, ℕ, Bool, true, false, Option, Some, None, List, [], length, map, take, drop, get_or}
use Rattle.std.specs.Prelude.{IfErr, IfSome, IsErrAnd, IsSome, Result, Ok, Err}
use Rattle.std.proofs.lemmas.List.{append-nil, map-append, take-append-drop}
use Rattle.dataflow.specs.Machine as Machine
use Rattle.task_code.specs.declared.event.Event.{Event}
use Rattle.task_code.specs.Code.{Code}
use Rattle.task_code.specs.View.{event_view}
use Rattle.board.specs.Board.{Seen}
use Rattle.board_runs.specs.declared.report.Report.{Report}
use Rattle.board_runs.specs.declared.stopped.StoppedRun.{StoppedRun}
use Rattle.board_runs.specs.Report.{Reports, Tells}
use Rattle.board_runs.specs.Stopped.{IsStopped}
use Rattle.swt_trace.specs.declared.ending.Ending.{Ending}
use Rattle.swt_trace.specs.declared.fault.RefusedReplay.{RefusedReplay}
use Rattle.swt_trace.specs.declared.fault.ReplayFault.{ReplayFault}
use Rattle.swt_trace.specs.declared.fault.ReplayFault.TheVariants.{Memory, NotARun}
use Rattle.swt_trace.specs.Refused.{IsRefusedBy, IsSoFar}
use Rattle.swt_trace.specs.Replay.{Takes}
use Rattle.swt_trace.specs.Trace.{IsTrace}

-- the events before a refused one
in_front : (items : List Event) (place : ℕ) (history : List Machine.Event) → history ≡ map event_view (take place items) → IsSoFar items history
in_front items place history h = (
  drop place items,
  sym (ap (map event_view) (take-append-drop place items)) ∙ map-append event_view (take place items) (drop place items)
      ∙ ap (λ (es : List Machine.Event). es ++ map event_view (drop place items)) (sym h),
)

-- have led to the board
pub left_at : (C : Code) (items : List Event) (place : ℕ) (d : Event) (old new : Seen) (taken : Bool) → old.code ≡ C → old.history ≡ map event_view (take place items)
    → Takes old (event_view (get_or items place d)) new taken → taken ≡ false → (new.code ≡ C) × IsSoFar items new.history
left_at C items place d old new taken code history takes refused =
    let t = subst (λ (b : Bool). Takes old (event_view (get_or items place d)) new b) refused takes in
    (ap (λ (b : Seen). b.code) t.0 ∙ code, in_front items place new.history (ap (λ (b : Seen). b.history) t.0 ∙ history))

-- which is returned
pub refused_by : (C : Code) (keeps : Bool) (event : Option Event) (events : List Event) (fault : ReplayFault) (o : Option Seen) (board : Seen)
    → IfSome o (λ left. (left ≡ board) × (keeps ≡ true) × ((n : ℕ) × (fault ≡ NotARun n))) → ((n : ℕ) → fault ≡ NotARun n → (board.code ≡ C) × IsSoFar events board.history)
    → IfSome o (λ left. (bytes : List ℕ) (e : Option Ending) → IsTrace bytes events e → IsRefusedBy C bytes keeps event left)
refused_by C keeps event events fault None board h l = tt
refused_by C keeps event events fault (Some left) board (same, wanted, at) l = λ bytes ending trace.
    let x = l at.0 at.1 in record {
      wanted = wanted;
      code = ap (λ (b : Seen). b.code) same ∙ x.0;
      events = events;
      ending = ending;
      trace = trace;
      so_far = subst (λ (h : List Machine.Event). IsSoFar events h) (sym (ap (λ (b : Seen). b.history) same)) x.1;
    }

pub left_of_trace : (C D : Code) (bytes : List ℕ) (keeps : Bool) (event : Option Event) (events : List Event) (ending : Option Ending) (o : Option Seen) → D ≡ C
    → IfSome o (λ left. (text : List ℕ) (e : Option Ending) → IsTrace text events e → IsRefusedBy D text keeps event left) → IsTrace bytes events ending
    → IfSome o (λ left. IsRefusedBy C bytes keeps event left)
left_of_trace C D bytes keeps event events ending None same h trace = tt
left_of_trace C D bytes keeps event events ending (Some left) same h trace = subst (λ (K : Code). IsRefusedBy K bytes keeps event left) same (h bytes ending trace)

-- and none is left for want of memory
pub none_left : (o : Option Seen) (P : Seen → Type 0) → o ≡ None → IfSome o P
none_left o P e = subst (λ (q : Option Seen). IfSome q P) (sym e) tt

pub for_memory : {T : Type 0} (r : Result T RefusedReplay) (Q : RefusedReplay → Type 0) → IsErrAnd r (λ x. (x.fault ≡ Memory) × (x.board ≡ None))
    → ((x : RefusedReplay) → x.fault ≡ Memory → x.board ≡ None → Q x) → IfErr r Q
for_memory (Ok x) Q h f = tt
for_memory (Err x) Q h f = f x h.0 h.1

-- all events, where another end is named
all_events : (C : Code) (bytes : List ℕ) (keeps : Bool) (event : Option Event) (events : List Event) (ending : Option Ending) (r : Report) (o : Option Seen)
    → IsTrace bytes events ending → r.history.items ≡ events → Reports C (length events) r → (IsSome o → keeps ≡ true) → IfSome o (λ board. Tells board r)
    → IfSome o (λ left. IsRefusedBy C bytes keeps event left)
all_events C bytes keeps event events ending r None trace history reports wanted tells = tt
all_events C bytes keeps event events ending r (Some b) trace history reports wanted tells = record {
  wanted = wanted refl;
  code = sym tells.code ∙ reports.tells.code ∙ reports.code;
  events = events;
  ending = ending;
  trace = trace;
  so_far = ([], ap (map event_view) (sym history) ∙ tells.history ∙ sym (append-nil b.history));
}

pub other_end : {T : Type 0} (C : Code) (bytes : List ℕ) (keeps : Bool) (events : List Event) (ending : Option Ending) (run : StoppedRun) (P : RefusedReplay → Type 0) (r : Result T RefusedReplay)
    → IsTrace bytes events ending → run.report.history.items ≡ events → Reports C (length events) run.report → IsStopped keeps run
    → ((refused : RefusedReplay) → P refused → refused.board ≡ run.board) → IfErr r P → IfErr r (λ refused. IfSome refused.board (λ left. IsRefusedBy C bytes keeps refused.event left))
other_end C bytes keeps events ending run P (Ok x) trace history reports stopped same h = tt
other_end C bytes keeps events ending run P (Err refused) trace history reports stopped same h =
    subst (λ (o : Option Seen). IfSome o (λ left. IsRefusedBy C bytes keeps refused.event left)) (sym (same refused h))
    (all_events C bytes keeps refused.event events ending run.report run.board trace history reports stopped.kept.0 stopped.tells)
