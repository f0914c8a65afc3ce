-- The properties of an item that ends.
use Rattle.std.specs.Prelude.{◌≡◌, ◌<◌, ℕ, suc, Bool, false, List, [], ◌∷◌, Option, Some, None, is_some, length, max, nat_lt}
use Rattle.std.specs.List.{AllZip, filter, flat_map}
use Rattle.dataflow.specs.Machine.{Fault as PureFault}
use Rattle.rules.specs.declared.input.Input.{Input}
use Rattle.smallvec.specs.SmallVec.{SmallVec}
use Rattle.board_history.specs.Fields.{Counted, Does, Frame, Job, step_before}
use Rattle.task_code.specs.Code.{Act, Code, Loop, body, entry, loop_of, stored_of}
use Rattle.task_code.specs.Compute.{Computed, Elements, EntryFault, Inserts}
use Rattle.task_code.specs.Effects.{instances, prints, steps_on}
use Rattle.task_code.specs.Places.{Step}
use Rattle.task_code.specs.View.{entry_view}
use Rattle.board_data.specs.View.{cells_view}
use Rattle.board_instances.specs.View.{frames_view, opening_frame}
use Rattle.board_instances.specs.declared.pending.PendingInstance.{PendingInstance}
use Rattle.board_instances.specs.declared.pending.PendingInstances.{PendingInstances}
use Rattle.paths.specs.declared.faults.Fault.{Fault}
use Rattle.board_effects.specs.Effects.{IsAtWork, IsEffect, IsStatementOf, kind_of_fault}
use Rattle.board_data.specs.Openings.{IsScript, IsSpare, long_needs}
use Rattle.board_effects.specs.Fits.{is_fault}
use Rattle.board_effects.specs.declared.effect.Effect.{Effect}
use Rattle.board_effects.specs.declared.effect.Effect.TheVariants.{Fails, Opens}
use Rattle.board_effects.specs.declared.effect.EndingItem.{EndingItem}

abbrev pub code_of : EndingItem → Code
code_of p = p.view.program.now

abbrev pub frames_of : EndingItem → List (Option Frame)
frames_of p = frames_view p.view.instances.now.slots

abbrev pub cells_of : EndingItem → List (Option Counted)
cells_of p = cells_view p.view.store.now.cells

abbrev pub job_of : EndingItem → Job
job_of p = Does p.view.at p.number p.chunk

abbrev pub act_of : EndingItem → Act
act_of p = (entry_view p.entry.now).act

-- a loop over this body
abbrev pub IsLoop : EndingItem → (body : ℕ) → Type 0
IsLoop p b = (w : Loop) × (loop_of (act_of p) ≡ Some w) × (w.body ≡ b)

-- its instance exists, and its entry and table are those of its number
abbrev pub IsEnded : EndingItem → Type 0
IsEnded p = IsAtWork (code_of p) (frames_of p) p.view.at p.number (entry_view p.entry.now) p.table.now

-- its effect if it computed this
abbrev pub Ends : EndingItem → Computed → Effect → Type 0
Ends p x e = IsEffect (code_of p) (frames_of p) (cells_of p) (job_of p) x e

-- this fault, at its own statement
pub record FailsWith (p : EndingItem) (f : PureFault EntryFault) (e : Effect) : Type 0 where
  pub fault : Fault
  pub is : e ≡ Fails fault
  pub kind_is : kind_of_fault fault.kind ≡ f
  pub met : IsStatementOf (code_of p) (frames_of p) (job_of p) fault.statement

-- an empty list with room for this number of inputs, and at least for two
abbrev pub spare_list : ℕ → SmallVec Input
spare_list n = record { items = []; capacity = max 2 n }

-- the number of inputs for which the item of an entry may wait, if more than two
abbrev pub long_need : Code → (entry : ℕ) → List ℕ
long_need C e = filter (nat_lt 2) (length (entry C e).needs ∷ [])

-- the numbers of inputs for which the items of all these instances may wait, if more than two
abbrev pub needs_of : Code → List PendingInstance → List ℕ
needs_of C list = flat_map (λ (o : PendingInstance). long_needs C (opening_frame o).body) list

-- it opens these instances of a body, with lists for the missing inputs of their items
pub record OpensList (p : EndingItem) (body : ℕ) (list : List PendingInstance) (goes_on : Bool) (e : Effect) : Type 0 where
  pub openings : PendingInstances
  pub is : e ≡ Opens openings
  pub body_is : openings.body ≡ body
  pub list_is : openings.list.items ≡ list
  pub value_is : openings.value ≡ p.table.now.value
  pub turn_is : openings.turn ≡ p.table.now.turn
  pub goes_is : openings.goes_on ≡ goes_on
  pub spare : AllZip IsSpare (needs_of (code_of p) list) openings.spare.items

-- it opens this one block, unless it is the item for the rest of a loop, and does nothing else
pub record OpensBlock (p : EndingItem) (x : Computed) (body : ℕ) (way : Option Step) : Type 0 where
  pub first : (q : List Step) → instances (act_of p) (entry_view p.entry.now).offset q 0 x ≡ (body, step_before way q) ∷ []
  pub later : (q : List Step) (c : ℕ) → instances (act_of p) (entry_view p.entry.now).offset q (suc c) x ≡ []
  pub steps : steps_on (act_of p) ≡ is_some way
  pub single : loop_of (act_of p) ≡ None
  pub stores : stored_of (entry_view p.entry.now).node (act_of p) ≡ []
  pub silent : prints (act_of p) x ≡ []
  pub computes : is_fault x ≡ false
  pub no_elements : (xs : Elements) → x ≡ Inserts xs → ⊥

-- the script's own instance alone, if its body has entries
pub record IsScriptList (C : Code) (list : List PendingInstance) : Type 0 where
  pub some : 0 < length (body C 0).entries → (o : PendingInstance) × (list ≡ o ∷ []) × IsScript C o
  pub none : length (body C 0).entries ≡ 0 → list ≡ []
