use Rattle.std.proofs.Common.{arith}
use Rattle.tests_codes.proofs.WholeCodes.{prints_whole}
use Rattle.tests_codes.proofs.codes.printed_draft.Goals as goal

pub returns-clause-whole : goal.returns-clause-whole
returns-clause-whole c =
    rw (c.in_ok-push_body.ensures.ok, c.in_ok-push_entry.ensures.ok, c.new-code.ensures, c.new.ensures.items, c.printing.ensures, c.new-2.ensures.items, c.new-3.ensures.items, c.new-4.ensures.items, c.in_ok-from_array.ensures.items) (prints_whole c.in_ok-format.format)

pub returns-clause-few : goal.returns-clause-few
returns-clause-few c = rw (c.in_ok-push_body.ensures.ok, c.in_ok-push_entry.ensures.ok, c.new-code.ensures) (omega arith)
