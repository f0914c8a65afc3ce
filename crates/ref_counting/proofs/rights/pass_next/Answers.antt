use Rattle.std.proofs.Common.{sym}
use Rattle.std.proofs.lemmas.Option.{get_or_from_slice_get}
use Rattle.ref_counting.proofs.Closing.{steps_on}
use Rattle.ref_counting.proofs.rights.pass_next.Goals as goal

pub returns-in_ok-pass_on-in-Some : goal.returns-in_ok-pass_on-in-Some
returns-in_ok-pass_on-in-Some c =
    steps_on c.args.code.now c.args.index.now.homes c.args.index.now.openings c.requires.homes c.requires.openings c.in-Some.found.now c.args.next c.args.leads.now.keys c.pass_on.new.leads.keys
    c.requires.next
    (sym (get_or_from_slice_get c.args.leads.now.keys c.args.next c.in-Some.found.now c.in-Some.found.now (sym c.in-Some.ensures.key)))
    c.in_ok-pass_on-in-Some.ensures
