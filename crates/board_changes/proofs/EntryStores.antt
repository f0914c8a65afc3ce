-- An entry's item ends that opens nothing.
use Rattle.std.proofs.Common.{◌≡◌, ◌∙◌, refl, sym, ap, subst, inl, ℕ, ◌+◌, Bool, true, false, List, [], ◌++◌, map, Option, Some, arith}
use Rattle.std.specs.Prelude.{IsSome, is_some, if◌then◌else◌}
use Rattle.dataflow.specs.System.{In, Opening}
use Rattle.dataflow.specs.Machine.{Event}
use Rattle.data_store.specs.Stores.{Store, at}
use Rattle.board_history.proofs.Frames.{Within, alike_same}
use Rattle.board_history.proofs.Reached.{frame_reached}
use Rattle.board_history.specs.Ending.{BecomesKnown, CellsAfter, FramesOpen, TakenOff, given_times, is_home, job_stores, leaving, with_live}
use Rattle.board_history.specs.Fields.{Counted, Does, Fields, Frame, Job, Layout, Over, Row, Whole, row_of, slot_at}
use Rattle.board_history.specs.Layouts.{Reached}
use Rattle.board_history.specs.Stands.{Stands}
use Rattle.task_code.specs.Code.{Code, body}
use Rattle.task_code.specs.Compute.{Computed, Elements}
use Rattle.task_code.specs.Effects.{Task}
use Rattle.task_code.specs.Places.{Place}
use Rattle.task_code.specs.Whole.{IsCode}
use Rattle.board_program.specs.Spots.{layout_of}
use Rattle.board_program.specs.Tables.{is_place}
use Rattle.board_data.specs.Ended.{Covers}
use Rattle.board_data.specs.Stored.{StoresIn}
use Rattle.board_data.specs.View.{cells_view}
use Rattle.board_instances.proofs.Opened.{stands_nested}
use Rattle.board_changes.proofs.After.{cells_after}
use Rattle.board_changes.proofs.Rights.{covers}
use Rattle.board_changes.proofs.Steps.{closes_same, gives_same, reads_are, with_none, writes_are}
use Rattle.board_changes.specs.Data.{MakesData}
use Rattle.board_changes.proofs.Becomes.{becomes}
use Rattle.board_changes.proofs.Known.{given}
use Rattle.board_changes.proofs.Told.{told_sound}
use Rattle.board_changes.specs.World.{CanStore, LetsGo, target_of, told_of, values_of}
use Rattle.board_changes.specs.declared.data_state.Change.{Change}

-- nothing is made
pub makes_none : (C : Code) (L : Layout) (fs : List (Option Frame)) (j : Job) (x : Computed) (s : Store) → MakesData C L fs fs j x [] s s
makes_none C L fs j x s = record { older = λ d y e. e; new = λ m v im iv h. absurd im; apart = λ m l v w d im il a b. absurd im; only = λ d y e. inl e }

-- no instance is opened
pub frames_same : (C : Code) (fs : List (Option Frame)) (around : Option ℕ) → FramesOpen C fs around [] fs
frames_same C fs around = record {
  fresh = λ m im. absurd im;
  keys = tt;
  new = λ m im. absurd im;
  old = λ k f h. h ∙ ap (λ n. Some (with_live n f)) (sym (same f.live (is_home around k)));
  only = λ k g h. inl (g, h);
}
  where
    same : (n : ℕ) (b : Bool) → n + (if b then 0 else 0) ≡ n
    same n true = omega arith
    same n false = omega arith

module _ (C : Code) (I : IsCode C) (es : List Event) (F : Fields) (x : Stands C (layout_of C) es F) (n k e c : ℕ) (row : Row) (there : row_of F.rows n ≡ Some row) (job : row.job ≡ Does k e c) (live : row.status ≡ Over → ⊥) where
  around : (f : Frame) × (slot_at F.frames k ≡ Some f) × In e (body C f.body).entries
  around = x.frames.there n k e c row there job live

  reached : Reached C around.0.body
  reached = frame_reached C I (layout_of C) es F x n k e c row there job live around.0 around.2

  within : Within F.frames F.frames
  within = record { there = λ i f h. (f, h, alike_same f); around = λ i j f h q. (let p = x.frames.inside i j f h q in (p.0, p.1)) }

  pub entry_stores : (computed : Computed) (os : List (Opening Task Place)) (target : Option ℕ) (values : Elements) (gs : List (Option Frame)) (s stored t : Store) (closed : List ℕ) → os ≡ [] → F.cells ≡ cells_view s.cells →
      StoresIn target values s stored → LetsGo C (Does k e c) F.frames gs stored t closed → ((d : ℕ) → (if is_place d target then values else []) ≡ job_stores C (layout_of C) F.frames (Does k e c) computed d) →
      CellsAfter C (layout_of C) F.frames F.frames (Does k e c) computed [] os F.cells (cells_view t.cells) × TakenOff gs F.frames (leaving (Does k e c) os)
  entry_stores computed os target values gs s stored t closed none cells stores goes told =
      subst (λ (l : List (Opening Task Place)). CellsAfter C (layout_of C) F.frames F.frames (Does k e c) computed [] l F.cells (cells_view t.cells) × TakenOff gs F.frames (leaving (Does k e c) l)) (sym none) (
        subst (λ (cs : List (Option Counted)). CellsAfter C (layout_of C) F.frames F.frames (Does k e c) computed [] [] cs (cells_view t.cells)) (sym cells)
            (cells_after C (layout_of C) F.frames F.frames (Does k e c) computed [] [] target values s stored stored stored t stores (makes_none C (layout_of C) F.frames (Does k e c) computed stored) (λ d. sym (with_none (at stored d)))
            (gives_same _ _ _ _ stored t (reads_are C I F.frames F.frames within k e c around.0 around.1 around.2 reached) (writes_are C I F.frames F.frames within k e c around.0 around.1 around.2 reached) goes.gives)
            (subst (λ (j : Job). Covers (λ d. given_times C (layout_of C) (λ y. y.reads) F.frames d j []) (λ d. given_times C (layout_of C) (λ y. y.writes) F.frames d j []) s) job (covers C I (layout_of C) es F x n row there live [] s cells))
            told (λ d h. (refl, refl))),
        goes.leaves (stands_nested C (layout_of C) es F x) (λ i z. let w : k ≡ i = cc in subst (λ (l : ℕ). IsSome (slot_at F.frames l)) w (ap is_some around.1)),
      )

  pub stores_become : (computed : Computed) (os : List (Opening Task Place)) (change : Change) (gs : List (Option Frame)) (s stored t : Store) (closed : List ℕ) → os ≡ [] → F.cells ≡ cells_view s.cells → CanStore change s →
      StoresIn (target_of change) (values_of change) s stored → LetsGo C (Does k e c) F.frames gs stored t closed → ((d : ℕ) → (if is_place d (target_of change) then values_of change else []) ≡ job_stores C (layout_of C) F.frames (Does k e c) computed d) →
      BecomesKnown C (layout_of C) (job_stores C (layout_of C) F.frames (Does k e c) computed) F.cells (cells_view t.cells) (told_of change ++ map Whole closed)
  stores_become computed os change gs s stored t closed none cells can stores goes told =
      let gives = gives_same _ _ _ _ stored t (reads_are C I F.frames F.frames within k e c around.0 around.1 around.2 reached) (writes_are C I F.frames F.frames within k e c around.0 around.1 around.2 reached) goes.gives in
      let cov = subst (λ (j : Job). Covers (λ d. given_times C (layout_of C) (λ y. y.reads) F.frames d j []) (λ d. given_times C (layout_of C) (λ y. y.writes) F.frames d j []) s) job (covers C I (layout_of C) es F x n row there live [] s cells) in
      let makes = makes_none C (layout_of C) F.frames (Does k e c) computed stored in
      let closes = closes_same _ _ stored closed (writes_are C I F.frames F.frames within k e c around.0 around.1 around.2 reached) goes.closes in
      subst (λ (cs : List (Option Counted)). BecomesKnown C (layout_of C) (job_stores C (layout_of C) F.frames (Does k e c) computed) cs (cells_view t.cells) (told_of change ++ map Whole closed)) (sym cells)
      (becomes C (layout_of C) F.frames F.frames (Does k e c) computed [] [] change s stored stored stored t can stores makes (λ d. sym (with_none (at stored d))) gives cov told closed closes
      (told_sound change (λ d. given_times C (layout_of C) (λ y. y.reads) F.frames d (Does k e c) []) (λ d. given_times C (layout_of C) (λ y. y.writes) F.frames d (Does k e c) []) s stored t can stores
      (given C (layout_of C) F.frames F.frames (Does k e c) computed [] [] (target_of change) (values_of change) s stored stored stored t stores makes (λ d. sym (with_none (at stored d))) gives cov) gives.nothing))
