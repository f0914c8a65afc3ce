use Rattle.language_laws.proofs.Missing.{none_at_three}
use Rattle.language_laws.proofs.examples.an_element_that_nothing_writes_is_missing.Goals as goal

pub returns : goal.returns
returns c = (11, (2, none_at_three))
