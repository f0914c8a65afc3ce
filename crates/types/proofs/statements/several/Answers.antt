use Rattle.std.proofs.Common.{◌≡◌, ap, sym, ◌∙◌}
use Rattle.std.specs.Prelude.{Some}
use Rattle.syntax_trees.specs.View.{calling_of}
use Rattle.types.specs.Known.{around_of}
use Rattle.types.specs.Functions.{signatures_of}
use Rattle.types.specs.Names.{builtin_of}
use Rattle.types.proofs.steps.Calls.{judged, several_builtin}
use Rattle.types.proofs.statements.several.Goals as goal

pub returns-in_ok-base-in-Some : goal.returns-in_ok-base-in-Some
returns-in_ok-base-in-Some g c =
    let letters : c.as_slice.result.now ≡ c.args.call.now.name.text.items = cc (c.as_slice.ensures.value) in
    let named : builtin_of c.args.call.now.name.text.items ≡ Some c.in-Some.builtin = sym (ap builtin_of letters) ∙ sym c.builtin_of.ensures ∙ c.in-Some.is in
    judged _ c.same_type.result _ c.builtin_call.new.settled.items _ c.same_type.ensures
    (several_builtin (signatures_of c.args.functions.now) (around_of c.args.scope.now) (calling_of {A = g.row.A.Denot} c.args.call.now) _ _ c.called.new.settled.items _ c.in-Some.builtin _ _ c.in_ok-base-in-Some.base named (c.in_ok-target-in-Some.ensures c.args.settled.now.items) c.in_ok-called-in-Some.ensures c.in_ok-base-in-Some.ensures c.one_of.ensures)
