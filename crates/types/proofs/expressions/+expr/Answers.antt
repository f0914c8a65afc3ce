use Rattle.std.proofs.Common.{◌≡◌, ◌-◌, ◌+◌, ◌<◌, ◌≤◌, map, length, get_or, ap, sym, ◌∙◌, arith}
use Rattle.std.specs.Prelude.{None, Some}
use Rattle.std.proofs.lemmas.Grind.{common_steps}
use Rattle.std.proofs.lemmas.Result.{err_from_is_err_and}
use Rattle.syntax_trees.specs.View.{expression_view}
use Rattle.types.specs.Known.{type_of, signature_of}
use Rattle.types.specs.Names.{builtin_of}
use Rattle.types.proofs.steps.Steps.{count_view, view_first, first_list, single_list, chain_none, chain_first, chain_given, chain_rest, chain_all, call_unknown, call_refused, call_gives, builtin_refused, builtin_gives, texts_refused, texts_given, only_many, only_fails, only_then, arguments_few, arguments_done, arguments_refused, arguments_unfit, arguments_next, elements_done, elements_refused, elements_unlike, elements_next, further_few, further_left, further_untaken, further_unlike, further_next, some_at}
use Rattle.types.proofs.expressions.+expr.Goals as goal

-- CALLS

pub call-returns-in_err-signature-in-None : goal.call-returns-in_err-signature-in-None
call-returns-in_err-signature-in-None g t c =
    let letters : c.as_slice.result.now ≡ c.args.name.now.text.items = cc (c.as_slice.ensures.value) in
    let none : builtin_of c.args.name.now.text.items ≡ None = sym (ap builtin_of letters) ∙ sym c.builtin_of.ensures ∙ c.in-None.is in
    let len : length c.args.given.now.items ≡ c.len.result = omega arith in
    let many = count_view (expression_view {A = g.row.A.Denot}) c.args.given.now.items ∙ len in
    let p = err_from_is_err_and c.from_residual-in_err-signature-in-None.result c.from_residual-in_err-signature-in-None.ensures.1 in
    rw (p.1, p.2) (λ m. call_unknown _ _ _ _ _ _ c.len.result _ none many (c.in_err-signature-in-None.ensures m))

pub call-returns-in_err-arguments-in-None : goal.call-returns-in_err-arguments-in-None
call-returns-in_err-arguments-in-None g t c =
    let letters : c.as_slice.result.now ≡ c.args.name.now.text.items = cc (c.as_slice.ensures.value) in
    let none : builtin_of c.args.name.now.text.items ≡ None = sym (ap builtin_of letters) ∙ sym c.builtin_of.ensures ∙ c.in-None.is in
    let len : length c.args.given.now.items ≡ c.len.result = omega arith in
    let many = count_view (expression_view {A = g.row.A.Denot}) c.args.given.now.items ∙ len in
    let p = err_from_is_err_and c.from_residual-in_err-arguments-in-None.result c.from_residual-in_err-arguments-in-None.ensures.1 in
    rw (p.1, p.2) (λ m. call_refused _ _ _ _ _ _ c.len.result _ (signature_of c.in_ok-signature-in-None.signature.now) _ _ none many c.in_ok-signature-in-None.ensures (ap (map type_of) c.as_slice-in-None.ensures.value) (c.in_err-arguments-in-None.ensures m))

pub call-returns-in_ok-output-in-None : goal.call-returns-in_ok-output-in-None
call-returns-in_ok-output-in-None g t c =
    let letters : c.as_slice.result.now ≡ c.args.name.now.text.items = cc (c.as_slice.ensures.value) in
    let none : builtin_of c.args.name.now.text.items ≡ None = sym (ap builtin_of letters) ∙ sym c.builtin_of.ensures ∙ c.in-None.is in
    let len : length c.args.given.now.items ≡ c.len.result = omega arith in
    let many = count_view (expression_view {A = g.row.A.Denot}) c.args.given.now.items ∙ len in
    call_gives _ _ _ _ _ _ c.len.result _ (signature_of c.in_ok-signature-in-None.signature.now) _ _ _ _ none many c.in_ok-signature-in-None.ensures (ap (map type_of) c.as_slice-in-None.ensures.value) c.in_ok-arguments-in-None.ensures
    (ap (map type_of) c.as_slice-in-None-2.ensures.value) (c.in_ok-output-in-None.ensures c.arguments.new.settled.items)

pub call-returns-in_err-base-in-Some : goal.call-returns-in_err-base-in-Some
call-returns-in_err-base-in-Some g t c =
    let letters : c.as_slice.result.now ≡ c.args.name.now.text.items = cc (c.as_slice.ensures.value) in
    let named : builtin_of c.args.name.now.text.items ≡ Some c.in-Some.builtin = sym (ap builtin_of letters) ∙ sym c.builtin_of.ensures ∙ c.in-Some.is in
    let p = err_from_is_err_and c.from_residual-in_err-base-in-Some.result c.from_residual-in_err-base-in-Some.ensures.1 in
    rw (p.1, p.2) (λ m. builtin_refused _ _ _ _ _ _ c.called.new.settled.items c.in-Some.builtin _ named c.in_ok-called-in-Some.ensures (c.in_err-base-in-Some.ensures m))

pub call-returns-in_ok-base-in-Some : goal.call-returns-in_ok-base-in-Some
call-returns-in_ok-base-in-Some g t c =
    let letters : c.as_slice.result.now ≡ c.args.name.now.text.items = cc (c.as_slice.ensures.value) in
    let named : builtin_of c.args.name.now.text.items ≡ Some c.in-Some.builtin = sym (ap builtin_of letters) ∙ sym c.builtin_of.ensures ∙ c.in-Some.is in
    builtin_gives _ _ _ _ _ _ c.called.new.settled.items _ c.in-Some.builtin _ _ named c.in_ok-called-in-Some.ensures c.in_ok-base-in-Some.ensures c.one_of.ensures

pub builtin_call-returns-in_err-elements-in-Strcat : goal.builtin_call-returns-in_err-elements-in-Strcat
builtin_call-returns-in_err-elements-in-Strcat g t c =
    let p = err_from_is_err_and c.from_residual-in_err-elements-in-Strcat.result c.from_residual-in_err-elements-in-Strcat.ensures.1 in
    rw (p.1, p.2) (λ m. texts_refused _ _ _ _ _ (expression_view {A = g.row.A.Denot}) c.args.given.now.items c.as_slice.result.now _ c.in-Strcat.is c.as_slice.ensures.value
    (c.in_ok-_first-in-Strcat.ensures c.args.settled.now.items) (c.in_err-elements-in-Strcat.ensures m))

pub builtin_call-returns-in_ok-elements-in-Strcat : goal.builtin_call-returns-in_ok-elements-in-Strcat
builtin_call-returns-in_ok-elements-in-Strcat g t c =
    texts_given _ _ _ _ _ _ (expression_view {A = g.row.A.Denot}) c.args.given.now.items c.as_slice.result.now c.in-Strcat.is c.as_slice.ensures.value
    (c.in_ok-_first-in-Strcat.ensures c.args.settled.now.items) c.in_ok-elements-in-Strcat.ensures

-- CHAINS

pub chain-returns-in_default : goal.chain-returns-in_default
chain-returns-in_default g t c =
    let none : length c.args.operands.now.items ≤ 0 = grind (arith, common_steps) in
    λ m. chain_none _ _ _ _ _ (expression_view {A = g.row.A.Denot}) c.args.operands.now.items none

pub chain-returns-in_err-base : goal.chain-returns-in_err-base
chain-returns-in_err-base g t c =
    let all = first_list (expression_view {A = g.row.A.Denot}) c.args.operands.now.items c.deref.result.now c.in-Some.first.now c.deref.ensures.value c.in-Some.ensures.item.3.0 c.in-Some.ensures.item.1 in
    let p = err_from_is_err_and c.from_residual.result c.from_residual.ensures.1 in
    rw (p.1, p.2) (λ m. chain_first _ _ _ _ _ _ _ _ _ all (c.in_err-base.ensures m))

pub chain-returns-in_err-given : goal.chain-returns-in_err-given
chain-returns-in_err-given g t c =
    let all = first_list (expression_view {A = g.row.A.Denot}) c.args.operands.now.items c.deref.result.now c.in-Some.first.now c.deref.ensures.value c.in-Some.ensures.item.3.0 c.in-Some.ensures.item.1 in
    let p = err_from_is_err_and c.from_residual-in_err-given.result c.from_residual-in_err-given.ensures.1 in
    rw (p.1, p.2) (λ m. chain_given _ _ _ _ _ _ _ _ _ _ _ _ _ all c.in_ok-base.ensures (view_first g.row.A.Denot c.in-Some.first.now) c.as_slice.ensures.value (c.in_err-given.ensures c.expr.new.settled.items))

pub chain-returns-in_err-further : goal.chain-returns-in_err-further
chain-returns-in_err-further g t c =
    let all = first_list (expression_view {A = g.row.A.Denot}) c.args.operands.now.items c.deref.result.now c.in-Some.first.now c.deref.ensures.value c.in-Some.ensures.item.3.0 c.in-Some.ensures.item.1 in
    let p = err_from_is_err_and c.from_residual-in_err-further.result c.from_residual-in_err-further.ensures.1 in
    rw (p.1, p.2) (λ m. chain_rest _ _ _ _ _ _ _ _ _ _ _ _ _ _ _ all c.in_ok-base.ensures (view_first g.row.A.Denot c.in-Some.first.now) c.as_slice.ensures.value (c.in_ok-given.ensures c.expr.new.settled.items) c.as_slice-2.ensures.value (c.in_err-further.ensures m))

pub chain-returns : goal.chain-returns
chain-returns g t c =
    let all = first_list (expression_view {A = g.row.A.Denot}) c.args.operands.now.items c.deref.result.now c.in-Some.first.now c.deref.ensures.value c.in-Some.ensures.item.3.0 c.in-Some.ensures.item.1 in
    chain_all _ _ _ _ _ _ _ _ _ _ _ _ _ _ _ all c.in_ok-base.ensures (view_first g.row.A.Denot c.in-Some.first.now) c.as_slice.ensures.value (c.in_ok-given.ensures c.expr.new.settled.items) c.as_slice-2.ensures.value c.in_ok-further.ensures

pub further-returns-in_default : goal.further-returns-in_default
further-returns-in_default g t c =
    let below : c.loop-i.i < length c.args.operands.now.items = omega arith in
    let past : length c.args.operators.now ≤ c.loop-i.i - c.args.from = c.in_default.ensures.lookup.3 in
    λ m. c.loop-i.invariant.walks ∙ further_few _ _ _ _ _ _ (expression_view {A = g.row.A.Denot}) c.args.operands.now.items c.args.operators.now c.loop-i.i (c.loop-i.i - c.args.from) below past

pub further-returns-then-operators-saturating_sub : goal.further-returns-then-operators-saturating_sub
further-returns-then-operators-saturating_sub g t c =
    let past : length c.args.operands.now.items ≤ c.loop-i.i = omega arith in
    let below : c.loop-i.i - c.args.from < length c.args.operators.now = omega arith in
    λ m. c.loop-i.invariant.walks ∙ further_left _ _ _ _ _ _ (expression_view {A = g.row.A.Denot}) c.args.operands.now.items c.args.operators.now c.loop-i.i (c.loop-i.i - c.args.from) past below

pub further-returns-in_err-takes : goal.further-returns-in_err-takes
further-returns-in_err-takes g t c =
    let below : c.loop-i.i < length c.args.operands.now.items = omega arith in
    let it = some_at c.args.operands.now.items c.loop-i.i below in
    let p = err_from_is_err_and c.from_residual.result c.from_residual.ensures.1 in
    rw (p.1, p.2) (λ m. c.loop-i.invariant.walks ∙ further_untaken _ _ _ _ _ _ (expression_view {A = g.row.A.Denot}) c.args.operands.now.items c.args.operators.now c.loop-i.i (c.loop-i.i - c.args.from) it.0 c.in-Some.operator.now _
    below it.2 c.in-Some.ensures.lookup.3.0 c.in-Some.ensures.lookup.1 (c.in_err-takes.ensures c.loop-i.settled.items))

pub further-returns-in_err-expect : goal.further-returns-in_err-expect
further-returns-in_err-expect g t c =
    let below : c.loop-i.i < length c.args.operands.now.items = omega arith in
    let is : c.index-operand.result.now ≡ get_or c.args.operands.now.items c.loop-i.i c.index-operand.result.now = grind (arith, common_steps) in
    let p = err_from_is_err_and c.from_residual-in_err-expect.result c.from_residual-in_err-expect.ensures.1 in
    rw (p.1, p.2) (λ m. c.loop-i.invariant.walks ∙ further_unlike _ _ _ _ _ _ (expression_view {A = g.row.A.Denot}) c.args.operands.now.items c.args.operators.now c.loop-i.i (c.loop-i.i - c.args.from) c.index-operand.result.now c.in-Some.operator.now _
    below is c.in-Some.ensures.lookup.3.0 c.in-Some.ensures.lookup.1 (c.in_ok-takes.ensures c.loop-i.settled.items) (c.in_err-expect.ensures m))

pub further-loop-i-preserved : goal.further-loop-i-preserved
further-loop-i-preserved g t c =
    let below : c.loop-i.i < length c.args.operands.now.items = omega arith in
    let is : c.index-operand.result.now ≡ get_or c.args.operands.now.items c.loop-i.i c.index-operand.result.now = grind (arith, common_steps) in
    let after : c.args.from ≤ c.loop-i.i = c.loop-i.auto.i in
    let next : c.loop-i.i - c.args.from + 1 ≡ c.loop-i.i + 1 - c.args.from = omega arith in
    record {
      walks = c.loop-i.invariant.walks ∙ further_next _ _ _ _ _ _ _ _ (expression_view {A = g.row.A.Denot}) c.args.operands.now.items c.args.operators.now c.loop-i.i (c.loop-i.i - c.args.from) (c.loop-i.i + 1 - c.args.from) c.index-operand.result.now c.in-Some.operator.now
          below is c.in-Some.ensures.lookup.3.0 c.in-Some.ensures.lookup.1 (c.in_ok-takes.ensures c.loop-i.settled.items) c.in_ok-expect.ensures (view_first g.row.A.Denot c.index-operand.result.now) next;
      within = omega arith;
    }

-- ONE ARGUMENT

pub only-returns-then-len-ne1 : goal.only-returns-then-len-ne1
only-returns-then-len-ne1 g t c =
    let len : length c.args.given.now.items ≡ c.len.result = omega arith in
    let many = count_view (expression_view {A = g.row.A.Denot}) c.args.given.now.items ∙ len in
    λ m. only_many _ _ _ _ _ _ c.len.result many c.if-len-ne1.true

pub only-returns-in_err-found : goal.only-returns-in_err-found
only-returns-in_err-found g t c =
    let one : length c.args.given.now.items ≡ 1 = omega arith in
    let all = single_list (expression_view {A = g.row.A.Denot}) c.args.given.now.items c.deref.result.now c.in-Some.argument.now c.deref.ensures.value one c.in-Some.ensures.item.1 in
    let p = err_from_is_err_and c.from_residual.result c.from_residual.ensures.1 in
    rw (p.1, p.2) (λ m. only_fails _ _ _ _ _ _ _ _ all (c.in_err-found.ensures m))

pub only-returns-in_err-base : goal.only-returns-in_err-base
only-returns-in_err-base g t c =
    let one : length c.args.given.now.items ≡ 1 = omega arith in
    let all = single_list (expression_view {A = g.row.A.Denot}) c.args.given.now.items c.deref.result.now c.in-Some.argument.now c.deref.ensures.value one c.in-Some.ensures.item.1 in
    let p = err_from_is_err_and c.from_residual-in_err-base.result c.from_residual-in_err-base.ensures.1 in
    rw (p.1, p.2) (λ m. only_then _ _ _ _ _ _ _ _ _ _ all c.in_ok-found.ensures (c.in_err-base.ensures c.whole.new.settled.items))

pub only-returns : goal.only-returns
only-returns g t c =
    let one : length c.args.given.now.items ≡ 1 = omega arith in
    let all = single_list (expression_view {A = g.row.A.Denot}) c.args.given.now.items c.deref.result.now c.in-Some.argument.now c.deref.ensures.value one c.in-Some.ensures.item.1 in
    only_then _ _ _ _ _ _ _ _ _ _ all c.in_ok-found.ensures (c.in_ok-base.ensures c.whole.new.settled.items)

-- MANY ARGUMENTS

pub arguments-returns-in_default : goal.arguments-returns-in_default
arguments-returns-in_default g t c =
    let below : c.loop-i.i < length c.args.given.now.items = omega arith in
    let past : length c.args.inputs.now ≤ c.loop-i.i - c.args.from = c.in_default.ensures.lookup.3 in
    λ m. c.loop-i.invariant ∙ arguments_few _ _ _ _ (expression_view {A = g.row.A.Denot}) type_of c.args.given.now.items c.args.inputs.now c.loop-i.i (c.loop-i.i - c.args.from) below past

pub arguments-returns-in_err-found : goal.arguments-returns-in_err-found
arguments-returns-in_err-found g t c =
    let below : c.loop-i.i < length c.args.given.now.items = omega arith in
    let is : c.index-argument.result.now ≡ get_or c.args.given.now.items c.loop-i.i c.index-argument.result.now = grind (arith, common_steps) in
    let p = err_from_is_err_and c.from_residual.result c.from_residual.ensures.1 in
    rw (p.1, p.2) (λ m. c.loop-i.invariant ∙ arguments_refused _ _ _ _ (expression_view {A = g.row.A.Denot}) type_of c.args.given.now.items c.args.inputs.now c.loop-i.i (c.loop-i.i - c.args.from) c.index-argument.result.now c.in-Some.input.now _
    below is c.in-Some.ensures.lookup.3.0 c.in-Some.ensures.lookup.1 (c.in_err-found.ensures m))

pub arguments-returns-in_err-fits : goal.arguments-returns-in_err-fits
arguments-returns-in_err-fits g t c =
    let below : c.loop-i.i < length c.args.given.now.items = omega arith in
    let is : c.index-argument.result.now ≡ get_or c.args.given.now.items c.loop-i.i c.index-argument.result.now = grind (arith, common_steps) in
    let p = err_from_is_err_and c.from_residual-in_err-fits.result c.from_residual-in_err-fits.ensures.1 in
    rw (p.1, p.2) (λ m. c.loop-i.invariant ∙ arguments_unfit _ _ _ _ _ (expression_view {A = g.row.A.Denot}) type_of c.args.given.now.items c.args.inputs.now c.loop-i.i (c.loop-i.i - c.args.from) c.index-argument.result.now c.in-Some.input.now _ _
    below is c.in-Some.ensures.lookup.3.0 c.in-Some.ensures.lookup.1 c.in_ok-found.ensures (c.in_err-fits.ensures c.whole.new.settled.items))

pub arguments-loop-i-preserved : goal.arguments-loop-i-preserved
arguments-loop-i-preserved g t c =
    let below : c.loop-i.i < length c.args.given.now.items = omega arith in
    let is : c.index-argument.result.now ≡ get_or c.args.given.now.items c.loop-i.i c.index-argument.result.now = grind (arith, common_steps) in
    let after : c.args.from ≤ c.loop-i.i = c.loop-i.auto.i in
    let next : c.loop-i.i - c.args.from + 1 ≡ c.loop-i.i + 1 - c.args.from = omega arith in
    c.loop-i.invariant ∙ arguments_next _ _ _ _ _ (expression_view {A = g.row.A.Denot}) type_of c.args.given.now.items c.args.inputs.now c.loop-i.i (c.loop-i.i - c.args.from) (c.loop-i.i + 1 - c.args.from) c.index-argument.result.now c.in-Some.input.now _
    below is c.in-Some.ensures.lookup.3.0 c.in-Some.ensures.lookup.1 c.in_ok-found.ensures (c.in_ok-fits.ensures c.whole.new.settled.items) next

pub arguments-returns : goal.arguments-returns
arguments-returns g t c =
    let past : length c.args.given.now.items ≤ c.loop-i.i = omega arith in
    c.loop-i.invariant ∙ arguments_done _ _ _ _ (expression_view {A = g.row.A.Denot}) type_of c.args.given.now.items c.args.inputs.now c.loop-i.i (c.loop-i.i - c.args.from) past

-- ELEMENTS

pub elements-returns-in_err-found : goal.elements-returns-in_err-found
elements-returns-in_err-found g t c =
    let below : c.loop-i.i < length c.args.values.now.items = omega arith in
    let is : c.index-value.result.now ≡ get_or c.args.values.now.items c.loop-i.i c.index-value.result.now = grind (arith, common_steps) in
    let p = err_from_is_err_and c.from_residual.result c.from_residual.ensures.1 in
    rw (p.1, p.2) (λ m. c.loop-i.invariant ∙ elements_refused _ _ _ _ (expression_view {A = g.row.A.Denot}) c.args.values.now.items c.loop-i.i c.index-value.result.now _ below is (c.in_err-found.ensures m))

pub elements-returns-in_err-has_wanted : goal.elements-returns-in_err-has_wanted
elements-returns-in_err-has_wanted g t c =
    let below : c.loop-i.i < length c.args.values.now.items = omega arith in
    let is : c.index-value.result.now ≡ get_or c.args.values.now.items c.loop-i.i c.index-value.result.now = grind (arith, common_steps) in
    let p = err_from_is_err_and c.from_residual-in_err-has_wanted.result c.from_residual-in_err-has_wanted.ensures.1 in
    rw (p.1, p.2) (λ m. c.loop-i.invariant ∙ elements_unlike _ _ _ _ _ (expression_view {A = g.row.A.Denot}) c.args.values.now.items c.loop-i.i c.index-value.result.now _ _ _
    below is c.in_ok-found.ensures (view_first g.row.A.Denot c.index-value.result.now) (c.in_err-has_wanted.ensures c.whole.new.settled.items))

pub elements-loop-i-preserved : goal.elements-loop-i-preserved
elements-loop-i-preserved g t c =
    let below : c.loop-i.i < length c.args.values.now.items = omega arith in
    let is : c.index-value.result.now ≡ get_or c.args.values.now.items c.loop-i.i c.index-value.result.now = grind (arith, common_steps) in
    c.loop-i.invariant ∙ elements_next _ _ _ _ _ (expression_view {A = g.row.A.Denot}) c.args.values.now.items c.loop-i.i c.index-value.result.now _ _
    below is c.in_ok-found.ensures (view_first g.row.A.Denot c.index-value.result.now) (c.in_ok-has_wanted.ensures c.whole.new.settled.items)

pub elements-returns : goal.elements-returns
elements-returns g t c =
    let past : length c.args.values.now.items ≤ c.loop-i.i = omega arith in
    c.loop-i.invariant ∙ elements_done _ _ _ _ (expression_view {A = g.row.A.Denot}) c.args.values.now.items c.loop-i.i past
