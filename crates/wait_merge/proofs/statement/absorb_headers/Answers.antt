use Rattle.std.proofs.Common.{◌≡◌, ◌∷◌, [], ◌++◌, List, ap, sym, ◌∙◌, true, false}
use Rattle.flow.specs.declared.statement.Header.{Header}
use Rattle.flow.specs.View.{action_view, block_view, waits_around}
use Rattle.language.specs.Core as core
use Rattle.wait_merge.specs.Merged.{Seen}
use Rattle.flow.specs.Cells.{action_anchors}
use Rattle.flow.specs.Listed.{Listed, action_listed}
use Rattle.flow.proofs.Anchors.{anchors_statement, wait_anchors}
use Rattle.wait_merge.proofs.Actions.{listed_statement, wait_listed, around_more, seen_statement, view_statement, view_waits}
use Rattle.wait_merge.proofs.Forms.{not_wait}
use Rattle.wait_merge.proofs.statement.absorb_headers.Goals as goal

pub returns-in-Wait-clause-core : goal.returns-in-Wait-clause-core
returns-in-Wait-clause-core g c =
    let A = g.row.A.Denot in
    let hs = c.args.inner.now.items in
    let h : Header A = record { at = c.args.only.at; node = c.args.only.node; names = c.in-Wait.names } in
    let b = block_view {A = A} c.in-Wait.innermost.value in
    ap (λ (ks : List (Header A)). waits_around ks b) (c.in_ok-append-in-Wait.ensures.items ∙ ap (λ (ks : List (Header A)). ks ++ c.in-Wait.behind.items) c.in_ok-push-in-Wait.ensures.items)
    ∙ around_more (hs ++ h ∷ []) c.in-Wait.behind.items b
    ∙ around_more hs (h ∷ []) (waits_around c.in-Wait.behind.items b)
    ∙ ap (λ (a : core.Action). waits_around hs (core.stmts (core.stmt h.at h.node a) core.no_stmts)) (sym (ap action_view c.in-Wait.is ∙ view_waits c.in-Wait.names c.in-Wait.behind c.in-Wait.innermost))
    ∙ ap (λ (s : core.Stmt). waits_around hs (core.stmts s core.no_stmts)) (sym (view_statement A c.args.only))

pub returns-in-Wait-clause-listed : goal.returns-in-Wait-clause-listed
returns-in-Wait-clause-listed g c =
    let A = g.row.A.Denot in
    sym (ap (λ (l : Listed). l.shown) (listed_statement A c.args.only ∙ ap action_listed c.in-Wait.is ∙ wait_listed c.in-Wait.names c.in-Wait.behind c.in-Wait.innermost))

pub returns-in-Wait-clause-cells : goal.returns-in-Wait-clause-cells
returns-in-Wait-clause-cells g c =
    let A = g.row.A.Denot in
    sym (anchors_statement A c.args.only ∙ ap action_anchors c.in-Wait.is ∙ wait_anchors c.in-Wait.names c.in-Wait.behind c.in-Wait.innermost)

pub returns : goal.returns
returns g c =
    let A = g.row.A.Denot in
    let lacks : false ≡ true = not_wait A c.args.only.action c.in_default.not-Wait ∙ ap (λ (s : Seen). s.wait) (sym (seen_statement A c.args.only)) ∙ c.requires in
    absurd (cc (lacks))
