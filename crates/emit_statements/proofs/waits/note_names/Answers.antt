use Rattle.std.proofs.Common.{◌≡◌, ◌<◌, arith, length, get_or, subst, List}
use Rattle.std.proofs.lemmas.Grind.{common_steps}
use Rattle.std.proofs.lemmas.List.{take_all}
use Rattle.flow.specs.View.{awaited_view}
use Rattle.task_code.specs.View as code_view
use Rattle.code_rules.specs.Room.{AwaitedRoom}
use Rattle.emit_cells.specs.PlainNeeds.{Notes, need_named}
use Rattle.emit_cells.proofs.Keys.{notes_none}
use Rattle.flow.specs.declared.name.Name.{Name}
use Rattle.emit_statements.proofs.Merged.{blank_name, each_at, each_mapped, noted_more, there_at, waited}
use Rattle.emit_statements.proofs.waits.note_names.Goals as goal

pub loop-name-init : goal.loop-name-init
loop-name-init g c room = notes_none c.args.needs.now.keys

pub loop-name-preserved : goal.loop-name-preserved
loop-name-preserved g c room =
    let k = c.args.inputs in
    let ns = c.args.names.now.items in
    let i = c.loop-name.name-index in
    let xs = c.deref-name-items.result.now in
    let x = get_or xs i blank_name in
    let below : i < length ns = subst (λ (zs : List Name). i < length zs) c.deref-name-items.ensures.value c.loop-name-test.true in
    let is : x ≡ get_or ns i x = there_at ns xs i blank_name c.deref-name-items.ensures.value below in
    noted_more k ns i x c.args.needs.now.keys c.loop-name.needs.keys c.note_name.new.needs.keys (need_named (code_view.name_view c.awaited.result)) below is (c.loop-name.invariant room) c.in_ok-note_name.ensures
    (c.awaited.ensures (each_at (λ (n : Name). AwaitedRoom k (awaited_view n)) ns i x below is (each_mapped awaited_view (AwaitedRoom k) ns room)))

pub returns : goal.returns
returns g c room =
    let k = c.args.inputs in
    let ns = c.args.names.now.items in
    subst (λ (l : List Name). Notes c.args.needs.now.keys c.loop-name.needs.keys (waited k l)) (take_all c.loop-name.name-index ns (grind (arith, common_steps))) (c.loop-name.invariant room)
