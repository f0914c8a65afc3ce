use Rattle.explain_warnings.proofs.Guarding.{divides_itself, divides_inside}
use Rattle.explain_warnings.proofs.mistakes.guards.+divide.Goals as goal

pub form_divides-returns-then-divided_by : goal.form_divides-returns-then-divided_by
form_divides-returns-then-divided_by g t c =
    divides_itself c.args.name.now c.args.kind.now c.in-Chain.operators c.in-Chain.operands c.as_slice.result.now c.as_slice-in-Chain.result.now
    c.divided_by.result c.in-Chain.is c.as_slice.ensures.value c.as_slice-in-Chain.ensures.value c.divided_by.ensures c.if-divided_by.true

pub form_divides-returns-else-divided_by : goal.form_divides-returns-else-divided_by
form_divides-returns-else-divided_by g t c =
    divides_inside c.args.name.now c.args.kind.now c.in-Chain.operators c.in-Chain.operands c.as_slice.result.now c.as_slice-in-Chain.result.now
    c.divided_by.result c.some_divides-else-divided_by.result c.in-Chain.is c.as_slice.ensures.value c.as_slice-in-Chain.ensures.value
    c.divided_by.ensures c.if-divided_by.false c.some_divides-else-divided_by.ensures
