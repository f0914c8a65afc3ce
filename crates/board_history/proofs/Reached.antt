-- Each item is an entry of a body that runs open.
use Rattle.std.proofs.Common.{◌≡◌, inl, inr, ℕ, zero, suc, List, [], map, sym, ap, subst, Some, arith}
use Rattle.dataflow.specs.Facts.{Live, live_main, live_opened}
use Rattle.dataflow.specs.Laws.{Can}
use Rattle.dataflow.specs.Log.{Logged}
use Rattle.dataflow.specs.History.{log_of}
use Rattle.dataflow.specs.Machine.{Event, Run}
use Rattle.dataflow.specs.System.{Effect, In, Opening}
use Rattle.dataflow.proofs.Lists.{in_split, in_unmap}
use Rattle.dataflow.proofs.Runs.{run_settled}
use Rattle.dataflow.proofs.Settled.{can_of_comes}
use Rattle.dataflow.proofs.Steps.{run_follows}
use Rattle.board_history.proofs.Elements.{code_told}
use Rattle.board_history.proofs.Ended.{opens_is}
use Rattle.board_history.proofs.Marking.{item, status_is}
use Rattle.board_history.proofs.Replays.{run_replayed}
use Rattle.board_history.proofs.Rows.{no_row, row_item}
use Rattle.board_history.specs.Elements.{code_tests}
use Rattle.board_history.specs.Fields.{Does, Fields, Frame, Layout, Over, Row, row_of, task_of}
use Rattle.board_history.specs.Stands.{Stands}
use Rattle.board_history.specs.Layouts.{Reached, reached_inside, reached_script}
use Rattle.board_history.specs.Static.{opened, rests}
use Rattle.task_code.proofs.Kept.{code_laws}
use Rattle.task_code.proofs.Opens.{in_block, in_rest, opened as opened_by}
use Rattle.task_code.specs.Code.{Code, body}
use Rattle.task_code.specs.Effects.{Item, Main, Task, block}
use Rattle.task_code.specs.Machine.{CodeItem, CodeState}
use Rattle.task_code.specs.Places.{Place}
use Rattle.task_code.specs.System.{code_system}
use Rattle.task_code.specs.Whole.{IsCode}
use Rattle.values.specs.declared.key.Key.{Key}
use Rattle.values.specs.declared.value.Scalar.{Scalar}

module _ (C : Code) where
  -- the entry's body is one that runs open
  abbrev pub Held : Task → Type 0
  Held Main = Unit {0}
  Held (Item e p c) = (b : ℕ) × In e (body C b).entries × Reached C b

  script_holds : (e : Effect Task Place Key Scalar) → Can (code_system C) Main e → (o : Opening Task Place) → In o e.opens → (u : Task) → In u o.tasks → Held u
  script_holds e can o io u iu =
      let y = opens_is C Main can.answers e can.is in
      elim (in_split o (map (block C) (opened C Main y.0)) (rests C Main y.0) (subst (λ (l : List (Opening Task Place)). In o l) y.1 io)) [
        | inl g ↦ (let s = in_unmap (block C) o (opened C Main y.0) g in
            let same : s.0 ≡ (0, []) = elim s.1 [ inl q ↦ q | inr n ↦ absurd n ] in
            let h = in_block C s.0 o u (sym s.2) iu in
            subst Held (sym h.2) (0, subst (λ (b : ℕ). In h.0 (body C b).entries) (ap (λ (z : ℕ × _). z.0) same) h.1, reached_script))
        | inr g ↦ absurd g
      ]

  item_holds : (i c : ℕ) (p : _) (e : Effect Task Place Key Scalar) → Can (code_system C) (Item i p c) e → Held (Item i p c) → (o : Opening Task Place) → In o e.opens → (u : Task) → In u o.tasks → Held u
  item_holds i c p e can h o io u iu =
      elim (opened_by C i c p e can o io) [
        | inl g ↦ (let j = in_block C g.instance o u g.is iu in subst Held (sym j.2) (g.instance.0, j.1, reached_inside h.0 i g.instance.0 g.by.way h.2 h.1 g.by.is_way))
        | inr g ↦ subst Held (sym (in_rest C i c p o u g iu)) h
      ]

  opens_hold : (t : Task) (e : Effect Task Place Key Scalar) → Can (code_system C) t e → Held t → (o : Opening Task Place) → In o e.opens → (u : Task) → In u o.tasks → Held u
  opens_hold Main e can h = script_holds e can
  opens_hold (Item i p c) e can h = item_holds i c p e can h

  live_holds : (F : Task → Effect Task Place Key Scalar → Type 0) → ((t : Task) (e : Effect Task Place Key Scalar) → F t e → Can (code_system C) t e) → {t : Task} → Live (code_system C) F t → Held t
  live_holds F can live_main = tt
  live_holds F can (live_opened t u e o l f io iu) = opens_hold t e (can t e f) (live_holds F can l) o io u iu

  module _ (I : IsCode C) where
    -- the items of each state of a run
    pub item_held : (es : List Event) (s : CodeState) → Run (code_system C) es s → (i : CodeItem) → In i s.items → Held i.task
    item_held es s run i h =
        let follows = run_follows (code_system C) (code_laws C I) es s run in
        let settled = (run_settled (code_system C) (code_laws C I) follows.run).0 in
        live_holds (Logged (code_system C) (log_of (code_system C) es s run)) (λ t e f. can_of_comes (code_system C) (code_laws C I) (Logged (code_system C) (log_of (code_system C) es s run)) settled (settled.comes t e f)) (follows.items.waits i h).live

module _ (C : Code) (I : IsCode C) (L : Layout) (es : List Event) (F : Fields) (x : Stands C L es F) where
  -- the task of a row that is not over
  row_held : (m : ℕ) (r : Row) → row_of F.rows m ≡ Some r → (r.status ≡ Over → ⊥) → Held C (task_of F.frames r.job)
  row_held zero r h live = no_row F.rows r h
  row_held (suc b) r h live =
      let run = (run_replayed (code_system C) code_tests (code_told C) (code_laws C I) es x.state x.reached).0 in
      elim (status_is r.status) [
        | inl over ↦ absurd (live over)
        | inr y ↦ item_held C I es x.state run (item (suc b) (task_of F.frames r.job) y.runs) (subst (λ (is : List CodeItem). In (item (suc b) (task_of F.frames r.job) y.runs) is) x.items.items (row_item F.frames 1 F.rows b (suc b) r h y (omega arith)))
      ]

  -- an instance with an item is one of a body that runs open
  pub frame_reached : (n k e c : ℕ) (row : Row) → row_of F.rows n ≡ Some row → row.job ≡ Does k e c → (row.status ≡ Over → ⊥) → (f : Frame) → In e (body C f.body).entries → Reached C f.body
  frame_reached n k e c row there job live f ie =
      let h = subst (Held C) (ap (task_of F.frames) job) (row_held n row there live) in
      subst (Reached C) (I.entries_once h.0 f.body e h.1 ie) h.2
