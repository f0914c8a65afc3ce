-- The place where the statement of an item is blocked, computed from the fields of a board.
use Rattle.std.specs.Prelude.{ℕ, length, nat_lt, Bool, true, false, List, [], ◌∷◌, Option, Some, None, option_map, if◌then◌else◌}
use Rattle.std.specs.List.{list_all}
use Rattle.board_program.specs.Tables.{wanted_in}
use Rattle.board_data.specs.Wanted.{wanted_missed}
use Rattle.board_instances.specs.Names.{led_slot}
use Rattle.board_history.specs.Fields.{Counted, Does, Frame, Job, Row, Script, Want, is_over, path_of as path_in, slot_at}
use Rattle.task_code.specs.Code.{Act, Code, Header, Need, Wait, entry}
use Rattle.task_code.specs.Places as Places
use Rattle.task_code.specs.Runs.{counts}
use Rattle.paths.specs.declared.statements.StatementInstance.{StatementInstance}
use Rattle.board.specs.Blocked.{path_of}

-- a statement: its offset, and the path of its instance
pub record Place : Type 0 where
  pub at : ℕ
  pub path : List Places.Step

abbrev pub at_place : ℕ → List Places.Step → Place
at_place n p = record { at = n; path = p }

abbrev pub place_of : StatementInstance → Place
place_of s = at_place s.at (path_of s)

abbrev pub misses_none : List (Want ℕ) → Bool
misses_none [] = true
misses_none (w ∷ ws) = false

module _ (C : Code) (fs : List (Option Frame)) (cs : List (Option Counted)) where
  -- no input of the header is missing
  abbrev pub is_header_known : (k b : ℕ) → List Need → Bool
  is_header_known k b ns = list_all (λ n. misses_none (wanted_missed C cs (led_slot fs k) (wanted_in C b n))) ns

  -- the offset of the first header with a missing input
  abbrev pub first_unknown : (k b : ℕ) → List Header → Option ℕ
  first_unknown k b [] = None
  first_unknown k b (h ∷ hs) = if is_header_known k b h.needs then first_unknown k b hs else Some h.at

  -- the offset where a statement of this act is blocked
  abbrev pub blocked_offset : (k own : ℕ) → Act → Option ℕ
  blocked_offset k own (Wait hs b) = elim (slot_at fs k) [ None ↦ None | Some f ↦ first_unknown k f.body hs ]
  blocked_offset k own a = if counts a then Some own else None

  -- the blocked statement of a job, and of an item that is not over
  abbrev pub blocked_job : Job → Option Place
  blocked_job Script = None
  blocked_job (Does k e c) = if nat_lt e (length C.entries) then option_map (λ n. at_place n (path_in fs k)) (blocked_offset k (entry C e).at (entry C e).act) else None

  abbrev pub blocked_row : Row → Option Place
  blocked_row r = if is_over r.status then None else blocked_job r.job
