use Rattle.std.proofs.Common.{◌≡◌, sym, ap, ◌∙◌}
use Rattle.flow.specs.View.{block_view}
use Rattle.flow.specs.Names.{block_nodes}
use Rattle.flow.specs.Viewed.{owners_of, plus, times_as, times_within}
use Rattle.flow.proofs.Outwards.{owners_content, times_content}
use Rattle.flow.proofs.scopes.+times_within.Goals as goal

pub returns-in-Content : goal.returns-in-Content
returns-in-Content g t c =
    let A = g.row.A.Denot in
    let n = c.args.node in
    let os = owners_of {A = A} c.in-Content.outer.now in
    let inside = block_view {A = A} c.in-Content.content.now in
    c.times_within.ensures
    ∙ ap (λ z. times_within n z os) (c.and-more.ensures ∙ ap (plus c.args.before) c.times_in_block.ensures)
    ∙ sym (times_content n c.args.before inside os)
    ∙ ap (times_within n c.args.before) (sym (ap (owners_of {A = A}) c.in-Content.is ∙ owners_content {A = A} c.in-Content.content c.in-Content.outer))
