use Rattle.ref_counting.specs.Uses.{own_of}
use Rattle.ref_counting.proofs.Naming.{rights_found, seeds_within}
use Rattle.ref_counting.proofs.rights.names_led_to.Goals as goal

pub pass_all-requires-clause-within : goal.pass_all-requires-clause-within
pass_all-requires-clause-within c = seeds_within c.args.code.now c.args.right c.in_ok-leads.leads.keys c.in_ok-leads.leads.keys c.in_ok-leads.ensures

pub returns : goal.returns
returns c =
    rights_found c.args.code.now c.args.right c.in_ok-leads.leads.keys c.pass_all.new.leads.keys c.in_ok-leads.ensures
    c.in_ok-pass_all.ensures.kept (c.in_ok-pass_all.ensures.sound (own_of c.args.right)) c.in_ok-pass_all.ensures.within c.in_ok-pass_all.ensures.closed
    c.in_ok-pass_all.ensures.plain c.in_ok-pass_all.ensures.distinct
