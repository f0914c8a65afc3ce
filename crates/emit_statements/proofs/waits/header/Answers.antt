use Rattle.std.proofs.Common.{◌≡◌, ◌<◌, ◌∷◌, [], arith, length, get_or, map, ap, subst, List, ◌∙◌}
use Rattle.std.proofs.lemmas.Grind.{common_steps}
use Rattle.std.proofs.lemmas.List.{map-append, take_all}
use Rattle.flow.specs.View.{awaited_view}
use Rattle.flow.specs.declared.name.Name.{Name}
use Rattle.task_code.specs.View as code_view
use Rattle.code_rules.specs.Room.{AwaitedRoom}
use Rattle.emit_cells.specs.PlainNeeds.{need_named}
use Rattle.emit_cells.proofs.Keys.{need_is_named}
use Rattle.emit_statements.proofs.Merged.{blank_name, each_at, each_mapped, listed_waits, there_at, waited}
use Rattle.emit_statements.proofs.waits.header.Goals as goal

pub loop-name-init : goal.loop-name-init
loop-name-init g c room = ap (map code_view.need_view) c.in_ok-needs.ensures.items

pub loop-name-preserved : goal.loop-name-preserved
loop-name-preserved g c room =
    let k = c.args.inputs in
    let ns = c.args.names.now.items in
    let i = c.loop-name.name-index in
    let xs = c.deref-name-items.result.now in
    let x = get_or xs i blank_name in
    let below : i < length ns = subst (λ (zs : List Name). i < length zs) c.deref-name-items.ensures.value c.loop-name-test.true in
    let is : x ≡ get_or ns i x = there_at ns xs i blank_name c.deref-name-items.ensures.value below in
    listed_waits k ns i x (map code_view.need_view c.loop-name.needs.items) (map code_view.need_view c.push.new.self.items) (code_view.need_view c.need.result) below is (c.loop-name.invariant room)
    (c.need.ensures ∙ need_is_named c.new.result ∙ ap need_named c.new.ensures.name ∙ c.awaited.ensures (each_at (λ (n : Name). AwaitedRoom k (awaited_view n)) ns i x below is (each_mapped awaited_view (AwaitedRoom k) ns room)))
    (ap (map code_view.need_view) c.in_ok-push.ensures.items ∙ map-append code_view.need_view c.loop-name.needs.items (c.need.result ∷ []))

pub returns : goal.returns
returns g c room =
    let k = c.args.inputs in
    let ns = c.args.names.now.items in
    ap (λ l. record { at = c.args.at; needs = l }) (c.loop-name.invariant room ∙ ap (waited k) (take_all c.loop-name.name-index ns (grind (arith, common_steps))))
