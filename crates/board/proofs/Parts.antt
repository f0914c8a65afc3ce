-- What an item does that ends well, as its change to instances and data.
use Rattle.std.proofs.Common.{◌≡◌, ℕ, false, List, [], refl, Option}
use Rattle.std.specs.Prelude.{if◌then◌else◌}
use Rattle.board_history.specs.Ending.{job_stores, printed}
use Rattle.board_history.specs.Fields.{Counted, Frame, Job}
use Rattle.board_history.proofs.Tests.{yes_no}
use Rattle.task_code.specs.Code.{Code}
use Rattle.task_code.specs.Compute.{Computed}
use Rattle.board_program.specs.Spots.{layout_of}
use Rattle.board_program.specs.Tables.{is_place}
use Rattle.board_effects.specs.Effects.{GoesWell, IsEffect}
use Rattle.board_effects.specs.declared.effect.Effect.{Effect}
use Rattle.board_effects.specs.declared.effect.Effect.TheVariants.{Fails, Inserts, Opens, Passes, Prints, InsertsElement, Stores}
use Rattle.board_changes.specs.World.{target_of, values_of}
use Rattle.board.specs.Changing.{change_of, line_list, line_of}
use Rattle.board.specs.Ending.{is_fault}
use Rattle.board.proofs.WorldEnded.{OpensAs}

-- one that is no fault goes well
pub goes_well : (C : Code) (fs : List (Option Frame)) (cs : List (Option Counted)) (j : Job) (x : Computed) (e : Effect) → is_fault e ≡ false → IsEffect C fs cs j x e → GoesWell C fs cs j x e
goes_well C fs cs j x (Fails f) n h = yes_no refl n
goes_well C fs cs j x (Stores d v) n h = h
goes_well C fs cs j x (InsertsElement d k v) n h = h
goes_well C fs cs j x (Inserts d es) n h = h
goes_well C fs cs j x (Prints v) n h = h
goes_well C fs cs j x Passes n h = h
goes_well C fs cs j x (Opens o) n h = h

-- it stores and opens the same
pub change_stores : (C : Code) (fs : List (Option Frame)) (cs : List (Option Counted)) (j : Job) (x : Computed) (e : Effect) → GoesWell C fs cs j x e → (d : ℕ) → (if is_place d (target_of (change_of e)) then values_of (change_of e) else []) ≡ job_stores C (layout_of C) fs j x d
change_stores C fs cs j x (Fails f) g d = g.stored d
change_stores C fs cs j x (Stores n v) g d = g.stored d
change_stores C fs cs j x (InsertsElement n k v) g d = g.stored d
change_stores C fs cs j x (Inserts n es) g d = g.stored d
change_stores C fs cs j x (Prints v) g d = g.stored d
change_stores C fs cs j x Passes g d = g.stored d
change_stores C fs cs j x (Opens o) g d = g.stored d

pub change_opens : (C : Code) (fs : List (Option Frame)) (cs : List (Option Counted)) (j : Job) (x : Computed) (e : Effect) → GoesWell C fs cs j x e → OpensAs C fs j x (change_of e)
change_opens C fs cs j x (Fails f) g = g.opens
change_opens C fs cs j x (Stores n v) g = g.opens
change_opens C fs cs j x (InsertsElement n k v) g = g.opens
change_opens C fs cs j x (Inserts n es) g = g.opens
change_opens C fs cs j x (Prints v) g = g.opens
change_opens C fs cs j x Passes g = g.opens
change_opens C fs cs j x (Opens o) g = g.opens

-- it prints the same
pub change_prints : (C : Code) (fs : List (Option Frame)) (cs : List (Option Counted)) (j : Job) (x : Computed) (e : Effect) → GoesWell C fs cs j x e → printed C j x ≡ line_list (line_of e)
change_prints C fs cs j x (Fails f) g = g.lines
change_prints C fs cs j x (Stores n v) g = g.lines
change_prints C fs cs j x (InsertsElement n k v) g = g.lines
change_prints C fs cs j x (Inserts n es) g = g.lines
change_prints C fs cs j x (Prints v) g = g.lines
change_prints C fs cs j x Passes g = g.lines
change_prints C fs cs j x (Opens o) g = g.lines
