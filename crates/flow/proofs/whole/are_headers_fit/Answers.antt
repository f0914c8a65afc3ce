use Rattle.std.proofs.Common.{rules, arith, ◌≡◌, ◌<◌, ◌+◌, length, get_or, drop, sym, ap, ◌∙◌}
use Rattle.std.proofs.lemmas.Grind.{common_steps}
use Rattle.flow.specs.declared.statement.Header.{Header}
use Rattle.flow.specs.View.{names_view}
use Rattle.flow.specs.Tests.{are_declared, headers_fit}
use Rattle.flow.specs.Viewed.{owners_of}
use Rattle.flow.proofs.Fits.{and_true, and_false, headers_step}
use Rattle.flow.proofs.whole.are_headers_fit.Goals as goal

pub returns-then-not-are_names_fit : goal.returns-then-not-are_names_fit
returns-then-not-are_names_fit g c =
    let os = owners_of {A = g.row.A.Denot} c.args.scopes.now in
    let hs = c.args.headers.now.items in
    let i = c.loop-header.header-index in
    let within : c.loop-header.header-index < length c.args.headers.now.items = grind (arith, common_steps) in
    let item : get_or c.args.headers.now.items c.loop-header.header-index c.header-item.result ≡ c.header-item.result = search rules in
    let here = ap (λ (z : Header g.row.A.Denot). are_declared os (names_view z.names.items)) item ∙ sym c.are_names_fit.ensures ∙ c.if-not-are_names_fit.true in
    and_false (headers_fit os (drop (i + 1) hs)) here ∙ sym (c.loop-header.invariant ∙ headers_step os hs i c.header-item.result within)

pub loop-header-preserved : goal.loop-header-preserved
loop-header-preserved g c =
    let os = owners_of {A = g.row.A.Denot} c.args.scopes.now in
    let hs = c.args.headers.now.items in
    let i = c.loop-header.header-index in
    let within : c.loop-header.header-index < length c.args.headers.now.items = grind (arith, common_steps) in
    let item : get_or c.args.headers.now.items c.loop-header.header-index c.header-item.result ≡ c.header-item.result = search rules in
    let here = ap (λ (z : Header g.row.A.Denot). are_declared os (names_view z.names.items)) item ∙ sym c.are_names_fit.ensures ∙ c.if-not-are_names_fit.false in
    c.loop-header.invariant ∙ headers_step os hs i c.header-item.result within ∙ and_true (headers_fit os (drop (i + 1) hs)) here
