-- An item that goes on is one of a loop.
use Rattle.std.proofs.Common.{◌≡◌, refl, true, false, List, Option}
use Rattle.board_history.specs.Ending.{job_kind}
use Rattle.board_history.specs.Fields.{Does, Frame, Job, Script, path_of, task_of}
use Rattle.board_history.specs.Static.{rests}
use Rattle.task_code.specs.Code.{Act, Assert, Call, Cell, Code, Control, Copy, Each, Fill, If, Print, InsertElement, Range, Read, Set, Wait, entry, kind_of, loop_of}
use Rattle.task_code.specs.Compute.{Computed}
use Rattle.task_code.specs.Effects.{is_some_list, rest}

false_true : {B : Type 0} → false ≡ true → B
false_true h = absurd (cc)

pub going_kind : (C : Code) (fs : List (Option Frame)) (j : Job) (x : Computed) → is_some_list (rests C (task_of fs j) x) ≡ true → job_kind C j ≡ Control
going_kind C fs Script x h = refl
going_kind C fs (Does k e c) x h = by (entry C e).act h
  where
    by : (a : Act) → is_some_list (rest (loop_of a) e (path_of fs k) c x) ≡ true → kind_of a ≡ Control
    by (Cell g) h = false_true h
    by Read h = refl
    by (Call b rs os) h = refl
    by (Set r g) h = false_true h
    by (Fill r es) h = false_true h
    by (Copy r) h = refl
    by (InsertElement r i g) h = refl
    by (Print g) h = false_true h
    by (Assert g) h = false_true h
    by (If g b d) h = refl
    by (Range lo hi st w) h = refl
    by (Each w) h = refl
    by (Wait hs b) h = refl
