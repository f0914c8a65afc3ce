-- The views of answers and outcomes.
use Rattle.std.specs.Prelude.{List, [], ◌∷◌, map}
use Rattle.dataflow.specs.System as Flow
use Rattle.values.specs.declared.key.Key.{Key}
use Rattle.values.specs.declared.value.Scalar.{Scalar}
use Rattle.task_code.specs.Compute as Pure
use Rattle.board_work.specs.declared.answer.Answer.{Answer}
use Rattle.board_work.specs.declared.answer.Answer.TheVariants as Got
use Rattle.board_work.specs.declared.outcome.EntryFault.{EntryFault}
use Rattle.board_work.specs.declared.outcome.EntryFault.TheVariants as Fault
use Rattle.board_work.specs.declared.outcome.ControlResult.{ControlResult}
use Rattle.board_work.specs.declared.outcome.ControlResult.TheVariants as Comes

-- the answer to a need
abbrev pub answer_view : Answer → Flow.Answer Key Scalar
answer_view (Got.Found v) = Flow.Found v
answer_view Got.Missing = Flow.Missing
answer_view (Got.Content m) = Flow.Content (Pure.pairs m)

abbrev pub answers_view : List Answer → List (Flow.Answer Key Scalar)
answers_view xs = map answer_view xs

-- the fault of an entry
abbrev pub fault_view : EntryFault → Pure.EntryFault
fault_view (Fault.InOperation f) = Pure.InOperation f
fault_view Fault.NoElement = Pure.NoElement
fault_view Fault.TooDeep = Pure.TooDeep

-- the result of a control entry
abbrev pub computed_view : ControlResult → Pure.Computed
computed_view (Comes.Fails f) = Pure.Fails (fault_view f)
computed_view (Comes.Gives v) = Pure.Gives v
computed_view (Comes.Inserts m) = Pure.Inserts (Pure.pairs m)
computed_view (Comes.InsertsElement k v) = Pure.Inserts ((k, v) ∷ [])
computed_view (Comes.Takes b) = Pure.Takes b
computed_view (Comes.Counts r) = Pure.Turns (Pure.range_turns r.low r.step 0 r.count)
computed_view (Comes.Goes m) = Pure.Turns (Pure.pairs m)
computed_view Comes.Opens = Pure.Opens
