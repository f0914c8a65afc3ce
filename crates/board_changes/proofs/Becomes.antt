-- All that becomes known at an End.
use Rattle.std.proofs.Common.{◌≡◌, ◌∙◌, refl, sym, subst, inl, inr, ℕ, true, List, [], ◌++◌, map, Option, option_map}
use Rattle.std.specs.Prelude.{if◌then◌else◌}
use Rattle.dataflow.specs.System.{In, Opening}
use Rattle.dataflow.proofs.Lists.{in_left, in_map, in_right, in_split, in_unmap}
use Rattle.data_store.specs.Data.{with_holds}
use Rattle.data_store.specs.Stores.{Store, at}
use Rattle.board_history.specs.Ending.{BecomesKnown, Instance, added_times, given_times, job_stores}
use Rattle.board_history.specs.Fields.{Frame, Job, Layout, Want, Whole}
use Rattle.board_history.specs.Needs.{is_known}
use Rattle.task_code.specs.Code.{Code}
use Rattle.task_code.specs.Compute.{Computed, Elements}
use Rattle.task_code.specs.Effects.{Task}
use Rattle.task_code.specs.Places.{Place}
use Rattle.board_program.specs.Tables.{is_place}
use Rattle.board_data.specs.Ended.{Covers}
use Rattle.board_data.specs.Holds.{Closes, GivesUp}
use Rattle.board_data.specs.Stored.{StoresIn}
use Rattle.board_data.specs.View.{cells_view}
use Rattle.board_changes.proofs.Known.{closed_all, closed_sound}
use Rattle.board_changes.proofs.Told.{inserted_told, put_told}
use Rattle.board_changes.specs.Data.{MakesData}
use Rattle.board_changes.specs.World.{CanStore, target_of, told_of, values_of}
use Rattle.board_changes.specs.declared.data_state.Change.{Change}

module _ (C : Code) (L : Layout) (fs hs : List (Option Frame)) (j : Job) (x : Computed) (ms : List Instance) (os : List (Opening Task Place)) (change : Change) (s stored made more t : Store) (can : CanStore change s)
    (stores : StoresIn (target_of change) (values_of change) s stored) (makes : MakesData C L fs hs j x ms stored made)
    (adds : (d : ℕ) → at more d ≡ option_map (with_holds (added_times C L (λ e. e.reads) hs d ms) (added_times C L (λ e. e.writes) hs d ms)) (at made d))
    (gives : GivesUp (λ d. given_times C L (λ e. e.reads) fs d j os) (λ d. given_times C L (λ e. e.writes) fs d j os) more t)
    (cov : Covers (λ d. given_times C L (λ e. e.reads) fs d j os) (λ d. given_times C L (λ e. e.writes) fs d j os) s)
    (told : (d : ℕ) → (if is_place d (target_of change) then values_of change else []) ≡ job_stores C L fs j x d)
    (closed : List ℕ) (closes : Closes (λ d. given_times C L (λ e. e.writes) fs d j os) more closed)
    (sound : (w : Want ℕ) → In w (told_of change) → is_known (cells_view t.cells) w ≡ true) where
  pub becomes : BecomesKnown C L (job_stores C L fs j x) (cells_view s.cells) (cells_view t.cells) (told_of change ++ map Whole closed)
  becomes = record {
    sound = λ w i. elim (in_split w (told_of change) (map Whole closed) i) [
      | inl k ↦ sound w k
      | inr k ↦ (let p = in_unmap (λ (d : ℕ). Whole d) w closed k in
          subst (λ (u : Want ℕ). is_known (cells_view t.cells) u ≡ true) p.2 (closed_sound C L fs hs j x ms os (target_of change) (values_of change) s stored made more t stores makes adds gives cov closed closes p.0 p.1))
    ];
    put = λ d c y ys h plain e. in_left (Whole d) (told_of change) (map Whole closed) (put_told change s can d c y h plain (subst (λ (zs : Elements). In y zs) (sym (told d ∙ e)) (inl refl)));
    inserted = λ d c k v h array i. in_left _ (told_of change) (map Whole closed) (inserted_told change s can d c k v h array (subst (λ (zs : Elements). In (k, v) zs) (sym (told d)) i));
    closed = λ d b c h g array some none. in_right (Whole d) (told_of change) (map Whole closed) (in_map (λ (n : ℕ). Whole n) d closed (closed_all C L fs hs j x ms os (target_of change) (values_of change) s stored made more t stores makes adds gives cov closed closes d b c h g array some none));
  }
