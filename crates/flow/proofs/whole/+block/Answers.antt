use Rattle.std.proofs.Common.{rules, arith, List, ◌≡◌, ◌<◌, ◌+◌, length, true, false, get_or, drop, sym, ap, ◌∙◌}
use Rattle.std.proofs.lemmas.Grind.{common_steps}
use Rattle.flow.specs.declared.statement.Block.{Block, out-Block}
use Rattle.flow.specs.declared.statement.Statement.{Statement, out-Statement}
use Rattle.flow.specs.View.{action_view, block_view, block_of, statement_view, statements_view}
use Rattle.flow.specs.Tests.{fits, fits_inside, fits_stmt, headers_fit}
use Rattle.flow.specs.Viewed.{owners_of}
use Rattle.flow.proofs.Fits.{and_true, and_false, stmts_step, stmt_fits, waits_fit}
use Rattle.flow.specs.Whole.{Owner, in_content}
use Rattle.flow.proofs.Times.{view_wait}
use Rattle.flow.proofs.whole.+block.Goals as goal

pub are_blocks_fit-returns-then-are_headers_fit : goal.are_blocks_fit-returns-then-are_headers_fit
are_blocks_fit-returns-then-are_headers_fit g t c =
    let A = g.row.A.Denot in
    let os = owners_of {A = A} c.args.scopes.now in
    let fs = c.args.functions in
    let inside = block_view {A = A} c.in-Wait.content.value in
    let content : c.deref-then-are_headers_fit.result.now ≡ c.in-Wait.content.value = search rules in
    let first : headers_fit os c.in-Wait.inner.items ≡ true = sym c.are_headers_fit.ensures ∙ c.if-are_headers_fit.true in
    let wide : owners_of {A = g.row.A.Denot} c.within_wait-inside.result ≡ in_content (block_view {A = g.row.A.Denot} c.in-Wait.content.value) (owners_of {A = g.row.A.Denot} c.args.scopes.now) = search (rules, c.within_wait-inside.ensures) in
    c.is_block_fit-then-are_headers_fit.ensures ∙ ap (λ (zs : List Owner). fits zs fs (block_view {A = A} c.deref-then-are_headers_fit.result.now)) wide
    ∙ ap (λ (z : Block g.row.A.Denot). fits (in_content inside os) fs (block_view {A = A} z)) content
    ∙ sym (and_true (fits (in_content inside os) fs inside) first) ∙ sym (waits_fit {A = A} os fs c.in-Wait.inner.items inside)
    ∙ ap (fits_inside os fs) (sym (ap (action_view {A = A}) c.in-Wait.is ∙ view_wait c.in-Wait.names c.in-Wait.inner c.in-Wait.content))

pub are_blocks_fit-returns-else-are_headers_fit : goal.are_blocks_fit-returns-else-are_headers_fit
are_blocks_fit-returns-else-are_headers_fit g t c =
    let A = g.row.A.Denot in
    let os = owners_of {A = A} c.args.scopes.now in
    let fs = c.args.functions in
    let inside = block_view {A = A} c.in-Wait.content.value in
    let first : headers_fit os c.in-Wait.inner.items ≡ false = sym c.are_headers_fit.ensures ∙ c.if-are_headers_fit.false in
    c.if-are_headers_fit.false
    ∙ and_false (fits (in_content inside os) fs inside) first ∙ sym (waits_fit {A = A} os fs c.in-Wait.inner.items inside)
    ∙ ap (fits_inside os fs) (sym (ap (action_view {A = A}) c.in-Wait.is ∙ view_wait c.in-Wait.names c.in-Wait.inner c.in-Wait.content))

pub is_statement_fit-returns-then-is_fit : goal.is_statement_fit-returns-then-is_fit
is_statement_fit-returns-then-is_fit g t c =
    let A = g.row.A.Denot in
    let os = owners_of {A = A} c.args.scopes.now in
    let fs = c.args.functions in
    let act = action_view {A = A} (out-Statement A c.args.statement.now).action in
    c.are_blocks_fit.ensures ∙ sym (and_true (fits_inside os fs act) (sym c.is_fit.ensures ∙ c.if-is_fit.true)) ∙ sym (stmt_fits A os fs c.args.statement.now)

pub is_statement_fit-returns-else-is_fit : goal.is_statement_fit-returns-else-is_fit
is_statement_fit-returns-else-is_fit g t c =
    let A = g.row.A.Denot in
    let os = owners_of {A = A} c.args.scopes.now in
    let fs = c.args.functions in
    let act = action_view {A = A} (out-Statement A c.args.statement.now).action in
    c.if-is_fit.false ∙ and_false (fits_inside os fs act) (sym c.is_fit.ensures ∙ c.if-is_fit.false) ∙ sym (stmt_fits A os fs c.args.statement.now)

pub is_block_fit-returns-then-not-is_statement_fit : goal.is_block_fit-returns-then-not-is_statement_fit
is_block_fit-returns-then-not-is_statement_fit g t c =
    let A = g.row.A.Denot in
    let os = owners_of {A = A} c.args.scopes.now in
    let fs = c.args.functions in
    let ss = (out-Block A c.args.block.now).statements.items in
    let i = c.loop-statement.statement-index in
    let within : c.loop-statement.statement-index < length (out-Block g.row.A.Denot c.args.block.now).statements.items = grind (arith, common_steps) in
    let item : get_or (out-Block g.row.A.Denot c.args.block.now).statements.items c.loop-statement.statement-index c.statement-item.result ≡ c.statement-item.result = search rules in
    let own = ap (λ (z : Statement g.row.A.Denot). fits_stmt os fs (statement_view {A = g.row.A.Denot} z)) item ∙ sym c.is_statement_fit.ensures ∙ c.if-not-is_statement_fit.true in
    and_false (fits os fs (block_of (statements_view {A = A} (drop (i + 1) ss)))) own ∙ sym (c.loop-statement.invariant ∙ stmts_step A os fs ss i c.statement-item.result within)

pub is_block_fit-loop-statement-preserved : goal.is_block_fit-loop-statement-preserved
is_block_fit-loop-statement-preserved g t c =
    let A = g.row.A.Denot in
    let os = owners_of {A = A} c.args.scopes.now in
    let fs = c.args.functions in
    let ss = (out-Block A c.args.block.now).statements.items in
    let i = c.loop-statement.statement-index in
    let within : c.loop-statement.statement-index < length (out-Block g.row.A.Denot c.args.block.now).statements.items = grind (arith, common_steps) in
    let item : get_or (out-Block g.row.A.Denot c.args.block.now).statements.items c.loop-statement.statement-index c.statement-item.result ≡ c.statement-item.result = search rules in
    let own = ap (λ (z : Statement g.row.A.Denot). fits_stmt os fs (statement_view {A = g.row.A.Denot} z)) item ∙ sym c.is_statement_fit.ensures ∙ c.if-not-is_statement_fit.false in
    c.loop-statement.invariant ∙ stmts_step A os fs ss i c.statement-item.result within ∙ and_true (fits os fs (block_of (statements_view {A = A} (drop (i + 1) ss)))) own
