use Rattle.std.proofs.Common.{◌≡◌, ◌∙◌, List, ap, map, sym, subst, get_or, length, ◌<◌, ◌≤◌}
use Rattle.std.proofs.Math.ListN.{get_or-map}
use Rattle.std.proofs.lemmas.List.{length-map}
use Rattle.task_code.specs.declared.entry.Name.{Name}
use Rattle.task_code.specs.Code.{Argument, Named}
use Rattle.task_code.specs.View.{name_view}
use Rattle.ref_counting.proofs.Handing.{none_at, some_at}
use Rattle.ref_counting.proofs.call_names.output_at.Goals as goal

pub returns-in-None : goal.returns-in-None
returns-in-None c =
    let xs : List Argument = map Named (map name_view c.args.outputs.now.items) in
    let n : length xs ≡ length c.deref.result.now = length-map (map name_view c.args.outputs.now.items) Named ∙ length-map c.args.outputs.now.items name_view ∙ ap length (sym c.deref.ensures.value) in
    none_at xs c.args.place c.args.array (subst (λ m. m ≤ c.args.place) (sym n) c.in-None.ensures.lookup.3)

pub returns-in-Some : goal.returns-in-Some
returns-in-Some c =
    let xs : List Argument = map Named (map name_view c.args.outputs.now.items) in
    let x : Name = c.in-Some.found.now in
    let n : length xs ≡ length c.deref.result.now = length-map (map name_view c.args.outputs.now.items) Named ∙ length-map c.args.outputs.now.items name_view ∙ ap length (sym c.deref.ensures.value) in
    let is : get_or xs c.args.place (Named (name_view x)) ≡ Named (name_view x) =
    get_or-map Named (map name_view c.args.outputs.now.items) c.args.place (name_view x)
    ∙ ap Named (get_or-map name_view c.args.outputs.now.items c.args.place x)
    ∙ ap (λ ys. Named (name_view (get_or ys c.args.place x))) (sym c.deref.ensures.value)
    ∙ ap (λ y. Named (name_view y)) (sym c.in-Some.ensures.lookup.1) in
    some_at xs c.args.place c.args.array (Named (name_view x)) c.output.result (subst (λ m. c.args.place < m) (sym n) c.in-Some.ensures.lookup.3.0) is c.output.ensures
