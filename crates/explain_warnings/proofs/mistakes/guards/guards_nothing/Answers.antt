use Rattle.explain_warnings.proofs.Guarding.{chain_idle}
use Rattle.explain_warnings.proofs.mistakes.guards.guards_nothing.Goals as goal

pub returns-in-Chain : goal.returns-in-Chain
returns-in-Chain g c =
    chain_idle c.args.kind.now c.in-Chain.operators c.in-Chain.operands c.as_slice.result.now c.as_slice-in-Chain.result.now
    c.chain_guards.result c.in-Chain.is c.as_slice.ensures.value c.as_slice-in-Chain.ensures.value c.chain_guards.ensures
