use Rattle.std.proofs.Common.{rules, ◌≡◌, length, [], ◌∷◌, refl, sym, ap, ◌∙◌}
use Rattle.std.specs.List.{list_all}
use Rattle.flow.specs.View.{core_of, function_view}
use Rattle.flow.specs.Tests.{fits, function_fits}
use Rattle.flow.specs.Whole.{script_owner}
use Rattle.flow.proofs.Fits.{and_true, and_false, length-map}
use Rattle.flow.proofs.Outwards.{owners_only}
use Rattle.flow.proofs.whole.is_script_fit.Goals as goal

pub returns-then-is_block_fit : goal.returns-then-is_block_fit
returns-then-is_block_fit g c =
    let A = g.row.A.Denot in
    let s = core_of {A = A} c.args.flow.now in
    let own : c.len-functions.result ≡ length c.args.flow.now.functions.items = search rules in
    let count = own ∙ sym (length-map (function_view {A = A}) c.args.flow.now.functions.items) in
    let body : c.is_block_fit.result ≡ fits (script_owner s ∷ []) (length s.functions) s.body =
    c.is_block_fit.ensures ∙ ap (λ os. fits os c.len-functions.result s.body) (owners_only {A = A} _ _ refl) ∙ ap (λ o. fits (o ∷ []) c.len-functions.result s.body) c.opened.ensures ∙ ap (λ n. fits (script_owner s ∷ []) n s.body) count in
    c.are_functions_fit.ensures ∙ ap (λ n. list_all (function_fits n) s.functions) count
    ∙ sym (and_true (list_all (function_fits (length s.functions)) s.functions) (sym body ∙ c.if-is_block_fit.true))

pub returns-else-is_block_fit : goal.returns-else-is_block_fit
returns-else-is_block_fit g c =
    let A = g.row.A.Denot in
    let s = core_of {A = A} c.args.flow.now in
    let own : c.len-functions.result ≡ length c.args.flow.now.functions.items = search rules in
    let count = own ∙ sym (length-map (function_view {A = A}) c.args.flow.now.functions.items) in
    let body : c.is_block_fit.result ≡ fits (script_owner s ∷ []) (length s.functions) s.body =
    c.is_block_fit.ensures ∙ ap (λ os. fits os c.len-functions.result s.body) (owners_only {A = A} _ _ refl) ∙ ap (λ o. fits (o ∷ []) c.len-functions.result s.body) c.opened.ensures ∙ ap (λ n. fits (script_owner s ∷ []) n s.body) count in
    c.if-is_block_fit.false ∙ and_false (list_all (function_fits (length s.functions)) s.functions) (sym body ∙ c.if-is_block_fit.false)
