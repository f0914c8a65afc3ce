use Rattle.std.proofs.Common.{◌≡◌, ◌∙◌, ◌-◌, List, ap, map, sym, subst, get_or, length, ◌<◌, ◌≤◌, Some}
use Rattle.std.proofs.Math.ListN.{get_or-map}
use Rattle.std.proofs.lemmas.List.{length-map}
use Rattle.task_code.specs.declared.entry.Argument.{Argument as Passed}
use Rattle.task_code.specs.Code.{Argument, Named, argument_in}
use Rattle.task_code.specs.View.{argument_view, name_view}
use Rattle.ref_counting.specs.Passing.{Answers}
use Rattle.ref_counting.proofs.Handing.{some_at, before_all, behind_all}
use Rattle.ref_counting.proofs.call_names.argument_at.Goals as goal

pub returns-in-None : goal.returns-in-None
returns-in-None c =
    let xs : List Argument = map argument_view c.args.inputs.now.items in
    let ys : List Argument = map Named (map name_view c.args.outputs.now.items) in
    let n : length xs ≡ length c.deref.result.now = length-map c.args.inputs.now.items argument_view ∙ ap length (sym c.deref.ensures.value) in
    let m : c.len.result ≡ length xs = c.len.ensures ∙ sym c.deref.ensures.len ∙ sym n in
    behind_all xs ys c.args.place c.args.array c.output_at.result (subst (λ k. k ≤ c.args.place) (sym n) c.in-None.ensures.lookup.3)
    (subst (λ k. Answers c.output_at.result (λ r. argument_in ys (c.args.place - k) c.args.array ≡ Some (Named r))) m c.output_at.ensures)

pub returns-in-Some : goal.returns-in-Some
returns-in-Some c =
    let xs : List Argument = map argument_view c.args.inputs.now.items in
    let ys : List Argument = map Named (map name_view c.args.outputs.now.items) in
    let x : Passed = c.in-Some.found.now in
    let n : length xs ≡ length c.deref.result.now = length-map c.args.inputs.now.items argument_view ∙ ap length (sym c.deref.ensures.value) in
    let l : c.args.place < length xs = subst (λ m. c.args.place < m) (sym n) c.in-Some.ensures.lookup.3.0 in
    let is : get_or xs c.args.place (argument_view x) ≡ argument_view x =
    get_or-map argument_view c.args.inputs.now.items c.args.place x
    ∙ ap (λ zs. argument_view (get_or zs c.args.place x)) (sym c.deref.ensures.value)
    ∙ ap argument_view (sym c.in-Some.ensures.lookup.1) in
    before_all xs ys c.args.place c.args.array c.input.result l (some_at xs c.args.place c.args.array (argument_view x) c.input.result l is c.input.ensures)
