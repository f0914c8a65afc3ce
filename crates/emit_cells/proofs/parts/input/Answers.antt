use Rattle.std.proofs.Common.{ap, sym, subst}
use Rattle.flow.specs.View.{name_view}
use Rattle.task_code.specs.Code as pure
use Rattle.task_code.specs.View as code_view
use Rattle.emit_cells.specs.Chunk.{NamePasses}
use Rattle.emit_cells.proofs.Calls.{pass_array}
use Rattle.emit_cells.proofs.parts.input.Goals as goal

pub returns-then-array : goal.returns-then-array
returns-then-array c all passed room =
    let x = name_view c.args.name in
    let a = pure.Named (code_view.name_view c.named.result) in
    subst (λ b. NamePasses c.args.inputs all b x a) (sym c.if-array.true) (pass_array c.args.inputs all x a (ap pure.Named (c.named.ensures room)))
