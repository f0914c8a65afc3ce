use Rattle.std.proofs.Common.{arith}
use Rattle.tests_codes.proofs.WholeCodes.{asserts_whole}
use Rattle.tests_codes.proofs.codes.asserted_draft.Goals as goal

pub returns-clause-whole : goal.returns-clause-whole
returns-clause-whole c =
    rw (c.in_ok-push_body.ensures.ok, c.in_ok-push_entry-2.ensures.ok, c.in_ok-push_entry.ensures.ok, c.new-code.ensures, c.in_ok-set_truth.ensures, c.in_ok-assert_truth.ensures, c.in_ok-from_array.ensures.items, c.in_ok-from_array-2.ensures.items) (asserts_whole c.args.truth)

pub returns-clause-few : goal.returns-clause-few
returns-clause-few c = rw (c.in_ok-push_body.ensures.ok, c.in_ok-push_entry-2.ensures.ok, c.in_ok-push_entry.ensures.ok, c.new-code.ensures) (omega arith)
