use Rattle.std.proofs.Common.{[], refl, arith}
use Rattle.task_code.proofs.Checked.{code_checked}
use Rattle.tests_codes.proofs.codes.empty.Goals as goal

pub of-requires-clause-whole : goal.of-requires-clause-whole
of-requires-clause-whole c = rw (c.new.ensures) (code_checked (record { entries = []; bodies = [] }) refl)

pub of-requires-clause-few : goal.of-requires-clause-few
of-requires-clause-few c = rw (c.new.ensures) (omega arith)
