use Rattle.std.proofs.Common.{◌≡◌, ◌++◌, ℕ, Bool, ap, ◌∙◌}
use Rattle.std.proofs.lemmas.Result.{on_ok_weaker}
use Rattle.syntax_trees.specs.View.{word_of, declarations_view, body_view}
use Rattle.types.specs.Typed.{table_of}
use Rattle.explain_warnings.specs.declared.name_use.NameUseKind.TheVariants.{Read}
use Rattle.explain_warnings.specs.Marks.{is_marked, uses_input}
use Rattle.explain_warnings.specs.Mentions.{function_mentions}
use Rattle.explain_warnings.specs.View.{uses_of}
use Rattle.explain_warnings.specs.Endless.{own_call}
use Rattle.explain_warnings.specs.Warnings.{uncalled, idle, endless, warnings_at}
use Rattle.explain_warnings.proofs.First.{four_appended}
use Rattle.explain_warnings.proofs.warning.function.Goals as goal

pub returns : goal.returns
returns g c =
    let f = c.args.function.now in
    let m = function_mentions (body_view f.body) in
    let inputs = declarations_view f.inputs in
    let used = uses_of c.args.uses.now in
    let mentioned : c.function_body.new.name_uses.items ≡ m = c.in_ok-function_body.ensures ∙ ap (λ l. l ++ m) c.new-name_uses.ensures.items in
    let marks : is_marked c.as_slice-2.result.now ≡ uses_input (table_of c.args.typed.now) Read m =
    λ i. λ k. (ap (λ l. is_marked l k) c.as_slice-2.ensures.value ∙ c.in_ok-read.ensures k
    ∙ ap (λ l. uses_input (table_of c.args.typed.now) Read l k) (c.as_slice.ensures.value ∙ mentioned)) i in
    on_ok_weaker c.write_all.result (λ adds. four_appended c.args.found.now.items (uncalled (used.called c.args.position) (word_of f.name))
    (idle (uses_input (table_of c.args.typed.now) Read m) 0 inputs) (endless (own_call (table_of c.args.typed.now) c.args.position (body_view f.body))) (warnings_at used m)
    c.uncalled.new.found.items c.idle_inputs.new.found.items c.endless.new.found.items c.write_all.new.found.items
    (c.in_ok-uncalled.ensures ∙ ap (λ (b : Bool). c.args.found.now.items ++ uncalled b (word_of f.name)) c.is_marked.ensures)
    (c.in_ok-idle_inputs.ensures ∙ ap (λ (r : ℕ → Bool). c.uncalled.new.found.items ++ idle r 0 inputs) marks)
    (c.in_ok-endless.ensures ∙ ap (λ at. c.idle_inputs.new.found.items ++ endless at) c.in_ok-own.ensures)
    (adds ∙ ap (λ l. c.endless.new.found.items ++ warnings_at used l) (c.as_slice-3.ensures.value ∙ mentioned))) c.write_all.ensures
