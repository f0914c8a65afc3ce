-- Instances as they are created, and their placement.
use Rattle.std.specs.Prelude.{◌≡◌, ℕ, suc, ◌+◌, ◌<◌, ◌^◌, List, [], ◌∷◌, ◌++◌, map, flat_map, length, replicate, Option, Some, None}
use Rattle.dataflow.specs.System.{Distinct, In}
use Rattle.board_history.specs.Ending.{Sets, new_row, with_live}
use Rattle.board_history.specs.Fields.{Absent, Does, Frame, Job, LiteralOf, Row, Slot, frame_up, slot_at}
use Rattle.task_code.specs.Code.{Body, Code, body}
use Rattle.task_code.specs.Places.{Step}
use Rattle.board_program.specs.declared.program.PassedArgument.{PassedArgument}
use Rattle.board_program.specs.declared.program.PassedArgument.TheVariants.{Fixed, Named}
use Rattle.board_instances.specs.Names.{slot_in}

-- the slot of a call argument, seen from an instance: that of a name, or the literal at its index
abbrev pub passed_slot : List (Option Frame) → (at call place : ℕ) → PassedArgument → Slot
passed_slot fs at call n Fixed = LiteralOf call n
passed_slot fs at call n (Named None) = Absent
passed_slot fs at call n (Named (Some s)) = slot_in (frame_up fs s.levels at) s.slot

abbrev pub passed_from : List (Option Frame) → (at call place : ℕ) → List PassedArgument → List Slot
passed_from fs at call n [] = []
passed_from fs at call n (x ∷ xs) = passed_slot fs at call n x ∷ passed_from fs at call (suc n) xs

-- an instance whose own data are not yet made, followed by the arguments of a call
abbrev pub unfilled : (parent : Option ℕ) (level depth : ℕ) (way : Option Step) (number : ℕ) → Body → List Slot → Frame
unfilled parent level depth way number b passed =
    record { parent = parent; level = level; depth = depth; way = way; body = number; live = length b.entries; slots = replicate (length b.makes) Absent ++ passed }

-- the number of steps that are added
abbrev pub steps_in : Option Step → ℕ
steps_in None = 0
steps_in (Some s) = 1

-- an instance of a body of the code, nested in an existing one
pub record IsInner (C : Code) (fs : List (Option Frame)) (at number : ℕ) (way : Option Step) (passed : List Slot) (f : Frame) : Type 0 where
  pub outer : Frame
  pub there : slot_at fs at ≡ Some outer
  pub within : number < length C.bodies
  pub is : f ≡ unfilled (Some at) (suc outer.level) (outer.depth + steps_in way) way number (body C number) passed

-- an instance that was placed: its key and its fields
pub record Put : Type 0 where
  pub key : ℕ
  pub frame : Frame

-- instances were placed, each under a fresh key of its own, and nothing else has changed
pub record PutIn (fs : List (Option Frame)) (puts : List Put) (gs : List (Option Frame)) : Type 0 where
  pub fresh : (p : Put) → In p puts → slot_at fs p.key ≡ None
  pub keys : Distinct (map (λ (p : Put). p.key) puts)
  pub there : (p : Put) → In p puts → slot_at gs p.key ≡ Some p.frame
  pub others : (k : ℕ) → ((p : Put) → In p puts → p.key ≡ k → ⊥) → slot_at gs k ≡ slot_at fs k

-- the jobs of their items, if all are of a body with these entries
abbrev pub put_jobs : List ℕ → List Put → List Job
put_jobs entries puts = flat_map (λ (p : Put). map (λ e. Does p.key e 0) entries) puts

-- the key of the last one
abbrev pub last_key : List Put → Option ℕ
last_key [] = None
last_key (p ∷ []) = Some p.key
last_key (p ∷ q ∷ ps) = last_key (q ∷ ps)

-- instances with these fields were placed, and a row for each of their items was appended
pub record ArePlaced (frames : List Frame) (entries : List ℕ) (fs gs : List (Option Frame)) (old new : List Row) (last : Option ℕ) : Type 0 where
  pub puts : List Put
  pub frames_are : map (λ (p : Put). p.frame) puts ≡ frames
  pub put_in : PutIn fs puts gs
  pub rows : new ≡ old ++ map new_row (put_jobs entries puts)
  pub last_is : last ≡ last_key puts

-- the live count of the instance around, if there is one, has grown by this number
abbrev pub WithMore : List (Option Frame) → (around : Option ℕ) → ℕ → List (Option Frame) → Type 0
WithMore fs None n gs = gs ≡ fs
WithMore fs (Some k) n gs = (f : Frame) → slot_at fs k ≡ Some f → f.live + n < 2 ^ 64 → Sets fs k (Some (with_live (f.live + n) f)) gs
