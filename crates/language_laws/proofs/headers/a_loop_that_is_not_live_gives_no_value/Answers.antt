use Rattle.language_laws.proofs.HeaderScripts.{no_variable}
use Rattle.language_laws.proofs.headers.a_loop_that_is_not_live_gives_no_value.Goals as goal

pub returns : goal.returns
returns c = λ path v h. no_variable path v h
