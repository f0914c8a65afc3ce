use Rattle.language.specs.Meaning.{Known}
use Rattle.meaning_invariants.proofs.Calling.{call_opening}
use Rattle.meaning_invariants.proofs.Turning.{seen_opening}
use Rattle.meaning_invariants.proofs.opened_laws.what_may_be_opened.Goals as goal

pub returns : goal.returns
returns c = record {
  calls = λ s n levels l ls arrays w far i x g st c f there calls found short at key ins outs none. call_opening s w.names (Known s n) levels l ls arrays far i x g short st c f there calls found at key ins outs none;
  turns = λ s n levels l ls arrays w offsets far i x g at node header c j b there chosen below block short at_is key ins outs variables.
      seen_opening s w offsets (Known s n) levels l ls arrays far i x g short at node header c j b there chosen below block at_is key ins outs variables;
}
