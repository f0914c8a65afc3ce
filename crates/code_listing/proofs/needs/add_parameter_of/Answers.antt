use Rattle.std.proofs.Common.{arith, sym, ap, ◌∙◌, ◌≡◌, ◌++◌, [], ℕ, ◌+◌, ◌-◌, ◌<◌, length, List}
use Rattle.std.proofs.lemmas.List.{length-map}
use Rattle.flow.specs.declared.statement.Variable.{Variable}
use Rattle.task_code.specs.Code.{nth}
use Rattle.code_listing.specs.Labels.{names_of}
use Rattle.code_listing.proofs.Adding.{adds_same, nth_left, nth_right}
use Rattle.code_listing.proofs.needs.add_parameter_of.Goals as goal

pub returns-then-place-inputs : goal.returns-then-place-inputs
returns-then-place-inputs g c =
    let ins : List (List ℕ) = names_of {A = g.row.A.Denot} c.args.function.now.inputs.items in
    let outs : List (List ℕ) = names_of {A = g.row.A.Denot} c.args.function.now.outputs.items in
    let inside : c.args.place < length ins = rw length-map (omega (arith, c.if-place-inputs.true, c.len-inputs.ensures)) in
    let same = c.name_at.ensures ∙ ap (λ (zs : List (Variable g.row.A.Denot)). nth [] (names_of {A = g.row.A.Denot} zs) c.args.place) c.as_slice.ensures.value ∙ sym (nth_left [] ins outs c.args.place inside) in
    adds_same c.args.page.now c.add.new.self c.name_at.result.now (nth [] (ins ++ outs) c.args.place) same c.add.ensures

pub returns-else-place-inputs : goal.returns-else-place-inputs
returns-else-place-inputs g c =
    let ins : List (List ℕ) = names_of {A = g.row.A.Denot} c.args.function.now.inputs.items in
    let outs : List (List ℕ) = names_of {A = g.row.A.Denot} c.args.function.now.outputs.items in
    let left = c.args.place - c.len-inputs.result in
    let behind : length ins + left ≡ c.args.place = rw length-map (omega (arith, c.if-place-inputs.false, c.len-inputs.ensures)) in
    let same = c.name_at-else-place-inputs.ensures ∙ ap (λ (zs : List (Variable g.row.A.Denot)). nth [] (names_of {A = g.row.A.Denot} zs) left) c.as_slice-else-place-inputs.ensures.value ∙ sym (nth_right [] ins outs c.args.place left behind) in
    adds_same c.args.page.now c.add-else-place-inputs.new.self c.name_at-else-place-inputs.result.now (nth [] (ins ++ outs) c.args.place) same c.add-else-place-inputs.ensures
