use Rattle.std.proofs.Common.{◌≡◌, ◌<◌, ◌∷◌, ◌++◌, [], arith, length, get_or, map, ap, sym, ◌∙◌, List}
use Rattle.std.proofs.lemmas.Grind.{common_steps}
use Rattle.std.proofs.lemmas.List.{append-nil, map-append, take_all}
use Rattle.flow.specs.View.{awaited_view}
use Rattle.flow.specs.declared.statement.Header.{Header}
use Rattle.task_code.specs.View as code_view
use Rattle.code_rules.specs.Room.{AwaitedRoom, Each}
use Rattle.emit_statements.specs.Blocks.{inner_headers}
use Rattle.emit_statements.proofs.Merged.{each_at, headers_more}
use Rattle.emit_statements.proofs.waits.add_headers.Goals as goal

pub loop-merged-init : goal.loop-merged-init
loop-merged-init g c room = sym (append-nil (map code_view.header_view c.args.headers.now.items))

pub loop-merged-preserved : goal.loop-merged-preserved
loop-merged-preserved g c room =
    let A = g.row.A.Denot in
    let k = c.args.inputs in
    let hs = c.args.inner.now.items in
    let i = c.loop-merged.merged-index in
    let h = c.merged-item.result in
    let below : i < length hs = grind (arith, common_steps) in
    let is : h ≡ get_or hs i h = grind (arith, common_steps) in
    headers_more {A = A} k hs i h (map code_view.header_view c.args.headers.now.items) (map code_view.header_view c.loop-merged.headers.items) (map code_view.header_view c.push.new.self.items) (code_view.header_view c.in_ok-header.field-0) below is
    (c.loop-merged.invariant room) (c.in_ok-header.ensures (each_at (λ (x : Header A). Each (AwaitedRoom k) (map awaited_view x.names.items)) hs i h below is room))
    (ap (map code_view.header_view) c.in_ok-push.ensures.items ∙ map-append code_view.header_view c.loop-merged.headers.items (c.in_ok-header.field-0 ∷ []))

pub returns : goal.returns
returns g c room =
    let A = g.row.A.Denot in
    let k = c.args.inputs in
    let hs = c.args.inner.now.items in
    c.loop-merged.invariant room ∙ ap (λ (l : List (Header A)). map code_view.header_view c.args.headers.now.items ++ inner_headers {A = A} k l) (take_all c.loop-merged.merged-index hs (grind (arith, common_steps)))
