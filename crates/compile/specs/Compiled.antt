-- When a flow and code are those of the script of a text, and the properties of every run of the code.
use Rattle.std.specs.Prelude.{◌≡◌, ◌⊎◌, ℕ, Bool, ◌+◌, ◌*◌, ◌≤◌, List, length}
use Rattle.dataflow.specs.Events.{backs}
use Rattle.dataflow.specs.Machine.{Event}
use Rattle.dataflow.specs.System.{In}
use Rattle.language.specs.Core.{Core}
use Rattle.language.specs.Outcomes.{Clean}
use Rattle.language.specs.Resolved.{core}
use Rattle.language.specs.Table.{Table}
use Rattle.language.specs.Tree.{Tree}
use Rattle.flow.specs.Cells.{AreAmong, anchors_of}
use Rattle.flow.specs.Listed.{shown_of}
use Rattle.flow.specs.Shapes.{declared_of, kinds_of}
use Rattle.flow.specs.View.{core_of}
use Rattle.flow.specs.declared.script.Flow.{Flow}
use Rattle.lowering.specs.Listed.{shown}
use Rattle.lowering.specs.Nodes.{nodes_of}
use Rattle.wait_merge.specs.Merged.{IsMerged}
use Rattle.task_code.specs.Code.{Code}
use Rattle.task_code.specs.Effects.{Main}
use Rattle.task_code.specs.Exact.{IsExact}
use Rattle.task_code.specs.Machine.{CodeItem, CodeState, CodeStep, DataAreExact, DataAreKept, GoesOn, HasSteps, IsTidy, LeadsTo, Quiet, Run, SameEnd, run_log}
use Rattle.task_code.specs.Whole.{IsCode}
use Rattle.code_rules.specs.Emitted.{IsEmitted}
use Rattle.headline.specs.Headline.{Headline}
use Rattle.code_rules.specs.IsCodeOf.{IsCodeOf, Layout}
use Rattle.code_rules.specs.Laying.{Kinds}
use Rattle.code_rules.specs.NodesOnce.{NodesOnce}
use Rattle.code_laws.specs.Described.{DeclaredIn, KindsOf}
use Rattle.emit.specs.Marks.{marks_of}
use Rattle.headline.specs.Live.{IsBounded, IsLiveItem}
use Rattle.constant_fold.specs.Folded.{folded_tree}
use Rattle.compile.specs.Accepted.{IsAccepted}
use Rattle.values.specs.Limits.{max_entries}

-- the flow is that of the tree, by this table of its names: its core, which variables, inputs and outputs are arrays,
-- what a listing shows of it, the nodes and offsets of its cells, and no waits left to merge
pub record IsFlowFor {A : Type 0} (table : Table) (tree : Tree) (flow : Flow A) : Type 0 where
  pub core_is : core_of flow ≡ core table tree
  pub kinds : KindsOf (kinds_of flow) tree
  pub declared : DeclaredIn (declared_of flow) tree
  pub shows : shown_of flow ≡ shown tree
  pub cells : AreAmong (anchors_of flow) (nodes_of tree)
  pub merged : IsMerged flow

-- the text is read as a tree that is well typed and singly assigned, and the flow is that tree's
abbrev pub IsFlowOf : {A : Type 0} → List ℕ → Flow A → Type 0
IsFlowOf src flow = (table : Table) × (tree : Tree) × IsAccepted src table tree × IsFlowFor table tree flow

-- the flow is that of the fold of the text's tree
abbrev pub IsFoldedFlowOf : {A : Type 0} → List ℕ → Flow A → Type 0
IsFoldedFlowOf src flow = (table : Table) × (tree : Tree) × IsAccepted src table tree × IsFlowFor table (folded_tree tree) flow

-- the flow of some script, with its waits merged, folded or as it is written
pub record IsOfScript {A : Type 0} (flow : Flow A) : Type 0 where
  pub src : List ℕ
  pub is : IsFlowOf src flow ⊎ IsFoldedFlowOf src flow

-- the code is laid by the rules for the fold of the tree, with its waits merged: one body for each block, with an entry
-- for each call, each cell that has a datum and each statement that does something, and no others; each entry has
-- exactly the rights that it leads to
pub record IsLaidFor (table : Table) (tree : Tree) (code : Code) : Type 0 where
  pub kinds : List Kinds
  pub declared : List (ℕ × Bool)
  pub kinds_of : KindsOf kinds tree
  pub declared_in : DeclaredIn declared tree
  pub emitted : IsEmitted (core table (folded_tree tree)) kinds declared code

-- properties of every run of the code, over every list of events
pub record RunsGoOn (code : Code) : Type 0 where
  -- a run is never stuck: what runs can end, what is enabled can begin, and no value is stored twice
  pub goes_on : (events : List Event) (st : CodeState) → Run code events st → GoesOn code st
  -- the events that have a step
  pub steps : (events : List Event) (st : CodeState) → Run code events st → HasSteps code st
  -- no item exists twice: ended and remaining items all differ in entry, path or first turn
  pub once : (events : List Event) (st : CodeState) (run : Run code events st) → LeadsTo code (run_log code events st run) st
  -- all quiet runs end the same
  pub one_end : (events others : List Event) (st end : CodeState) → Run code events st → Run code others end → Quiet code st → Quiet code end → SameEnd code st end
  -- each datum that was created is present or free
  pub kept : (events : List Event) (st : CodeState) (run : Run code events st) → DataAreKept code st (run_log code events st run)
  -- no free datum has to be kept: each step can be taken so that all of them are removed, and then exactly the data
  -- that are not free are present
  pub can_be_tidy : (old : CodeState) (event : Event) (new : CodeState) → CodeStep code old event new → (tidy : CodeState) × CodeStep code old event tidy × IsTidy code tidy
  pub exact : (events : List Event) (st : CodeState) (run : Run code events st) → IsTidy code st → DataAreExact code st (run_log code events st run)
  -- at most two events for each item that was created and for each that was given back
  pub bound : (events : List Event) (st : CodeState) → Run code events st → length events + 2 ≤ 2 * st.next + 2 * backs events

-- properties of every run of a script that writes no key twice, in terms of what is live in the script
pub record RunsAreLive (s : Core) (code : Code) (l : Layout) : Type 0 where
  -- each item belongs to a live block, at the block's path
  pub live : (events : List Event) (st : CodeState) → Run code events st → (i : CodeItem) → In i st.items → (i.task ≡ Main) ⊎ IsLiveItem s code l i.task
  -- so there are at most two events for each item of live bodies and running loops, each counted once, for the item
  -- that opens the script, and for each item that was given back
  pub bound : (events : List Event) (st : CodeState) → Run code events st → IsBounded s code l events

-- the text is a script, and the code is that of its fold, laid by the rules: it is whole and not too long, its rights
-- are exact, and every run of it owes to the script as written what the headline states
pub record IsCompiled (src : List ℕ) (code : Code) : Type 0 where
  pub table : Table
  pub tree : Tree
  pub accepted : IsAccepted src table tree
  pub laid : IsLaidFor table tree code
  pub code_of : IsCodeOf (core table (folded_tree tree)) code
  pub whole : IsCode code
  pub exact : IsExact code
  pub nodes : NodesOnce code
  -- an entry that computes a cell or reads an element has number and offset of a node of the fold
  pub marks : AreAmong (marks_of code.entries) (nodes_of (folded_tree tree))
  pub few : length code.entries ≤ max_entries
  pub headline : Headline (core table tree) code
  pub runs : RunsGoOn code
  pub live : Clean (core table tree) → RunsAreLive (core table tree) code code_of.layout
