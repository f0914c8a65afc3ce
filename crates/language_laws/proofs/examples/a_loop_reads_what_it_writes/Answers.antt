use Rattle.language_laws.proofs.Printed.{four}
use Rattle.language_laws.proofs.examples.a_loop_reads_what_it_writes.Goals as goal

pub returns : goal.returns
returns c = four
