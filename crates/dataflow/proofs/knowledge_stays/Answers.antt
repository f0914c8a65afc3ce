use Rattle.dataflow.specs.History.{log_of}
use Rattle.dataflow.proofs.Steps.{run_follows}
use Rattle.dataflow.proofs.Staying.{knows_later, knows_seen}
use Rattle.dataflow.proofs.knowledge_stays.Goals as goal

pub returns-clause-seen : goal.returns-clause-seen
returns-clause-seen g c = λ S es s run i h xs seen. knows_seen S es s run i h xs seen

pub returns-clause-stays : goal.returns-clause-stays
returns-clause-stays g c = λ S L es s run e new x n t xs k. knows_later S L s new (log_of S es s run) (run_follows S L es s run) e x n t xs k
