use Rattle.language.specs.Meaning.{Known}
use Rattle.meaning_outcomes.proofs.Clean.{clean_read}
use Rattle.meaning_outcomes.proofs.knowledge.Knowledge.is_clean.Goals as goal

pub returns : goal.returns
returns c = λ s h. clean_read (Known s c.args.self.now.rounds) c.args.self.now.fact_base h.placed.tree h.holds c.is_clean.result c.is_clean.ensures
