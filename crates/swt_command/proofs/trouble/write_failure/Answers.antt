use Rattle.std.proofs.Common.{◌∙◌, subst, ℕ, List, [], ◌∷◌, ◌++◌}
use Rattle.std.specs.Prelude.{codes}
use Rattle.std.specs.Fmt.{decimal}
use Rattle.swt_command.specs.Sinks.{Held, Writes, held}
use Rattle.swt_command.proofs.trouble.write_failure.Goals as goal

pub returns-in-BadLine : goal.returns-in-BadLine
returns-in-BadLine g c =
    let old : Held = held (g.E.Sink.taken c.args.err.now) (g.E.Sink.failures c.args.err.now) in
    let new : Held = held (g.E.Sink.taken c.write_parts-in-BadLine.new.sink) (g.E.Sink.failures c.write_parts-in-BadLine.new.sink) in
    let w : Writes c.write_parts-in-BadLine.result old ((codes "swt: T1 BadLine " ++ decimal c.in-BadLine.line) ++ 10 ∷ []) new =
    subst (λ (xs : List ℕ). Writes c.write_parts-in-BadLine.result old ((codes "swt: T1 BadLine " ++ xs) ++ 10 ∷ []) new)
    (c.as_bytes-in-BadLine.ensures.value ∙ c.format.ensures.text) c.write_parts-in-BadLine.ensures in
    rw c.in-BadLine.is w

pub returns-in-WrongEnd : goal.returns-in-WrongEnd
returns-in-WrongEnd g c =
    let old : Held = held (g.E.Sink.taken c.args.err.now) (g.E.Sink.failures c.args.err.now) in
    let new : Held = held (g.E.Sink.taken c.write_parts-in-WrongEnd.new.sink) (g.E.Sink.failures c.write_parts-in-WrongEnd.new.sink) in
    let w : Writes c.write_parts-in-WrongEnd.result old ((codes "swt: T3 WrongEnd " ++ decimal c.in-WrongEnd.line) ++ 10 ∷ []) new =
    subst (λ (xs : List ℕ). Writes c.write_parts-in-WrongEnd.result old ((codes "swt: T3 WrongEnd " ++ xs) ++ 10 ∷ []) new)
    (c.as_bytes-in-WrongEnd.ensures.value ∙ c.format-in-WrongEnd.ensures.text) c.write_parts-in-WrongEnd.ensures in
    rw c.in-WrongEnd.is w

pub returns-in-BadCount : goal.returns-in-BadCount
returns-in-BadCount g c = rw c.in-BadCount.is c.write_parts-in-BadCount.ensures

pub returns-in-NoThread : goal.returns-in-NoThread
returns-in-NoThread g c = rw c.in-NoThread.is c.write_parts-in-NoThread.ensures

pub returns-in-Stranger : goal.returns-in-Stranger
returns-in-Stranger g c = rw c.in-Stranger.is c.write_parts-in-Stranger.ensures
