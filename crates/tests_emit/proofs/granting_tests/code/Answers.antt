use Rattle.tests_emit.proofs.granting_tests.code.Goals as goal

-- src/granting_tests.rt: the entries have marks, whatever the bodies
pub granted-requires-clause-marks : goal.granted-requires-clause-marks
granted-requires-clause-marks c = c.in_ok-entries.ensures.marks c.in_ok-bodies.bodies.items
