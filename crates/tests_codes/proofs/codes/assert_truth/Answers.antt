use Rattle.std.proofs.Common.{refl}
use Rattle.tests_codes.proofs.codes.assert_truth.Goals as goal

pub returns : goal.returns
returns c = rw (c.in_ok-from_array.ensures.items, c.in_ok-from_array-2.ensures.items, c.new.ensures.items, c.asserting_first.ensures) refl
