use Rattle.dataflow.specs.Names.{named_start}
use Rattle.dataflow.proofs.Naming.{forget_names, named_step}
use Rattle.dataflow.proofs.every_naming.Goals as goal

pub returns-clause-forgotten : goal.returns-clause-forgotten
returns-clause-forgotten g c = λ S es s x. forget_names S _ es (named_start S _) s x

pub returns-clause-found : goal.returns-clause-found
returns-clause-found g c = λ S L fresh is_fresh old was event new x. named_step S L _ fresh is_fresh old was event new x
