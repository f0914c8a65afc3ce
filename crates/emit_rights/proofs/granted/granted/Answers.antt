use Rattle.std.proofs.Common.{sym, subst}
use Rattle.ref_counting.specs.Rights.{HasMarks}
use Rattle.emit_rights.specs.Granted.{laid_code}
use Rattle.emit_rights.proofs.Granting.{grants, granted_same, granted_rights, granted_emitted}
use Rattle.emit_rights.proofs.granted.granted.Goals as goal

pub rights-requires-clause-marks : goal.rights-requires-clause-marks
rights-requires-clause-marks c = subst HasMarks (sym c.new-laid.ensures) c.requires.marks

pub returns-clause-entries : goal.returns-clause-entries
returns-clause-entries c =
    granted_same (laid_code c.args.bodies.items c.args.entries.items) c.in_ok-code.code c.in_ok-found.found.reads.keys c.in_ok-found.found.writes.keys
    (grants c.args.bodies.items c.into_parts-bodies.result.0.items c.args.entries.items c.into_parts-bodies.result.1.items c.clear_rights.new.entries.items c.give_all.new.entries.items c.give_all-2.new.entries.items
    c.new-laid.result c.in_ok-code.code c.in_ok-found.found.reads.keys c.in_ok-found.found.writes.keys c.new-laid.ensures c.into_parts-bodies.ensures.bodies c.into_parts-bodies.ensures.entries
    c.clear_rights.ensures c.in_ok-give_all.ensures c.in_ok-give_all-2.ensures c.in_ok-code.ensures c.in_ok-found.ensures.reads c.in_ok-found.ensures.writes)

pub returns-clause-rights : goal.returns-clause-rights
returns-clause-rights c =
    granted_rights (laid_code c.args.bodies.items c.args.entries.items) c.in_ok-code.code c.in_ok-found.found.reads.keys c.in_ok-found.found.writes.keys
    (grants c.args.bodies.items c.into_parts-bodies.result.0.items c.args.entries.items c.into_parts-bodies.result.1.items c.clear_rights.new.entries.items c.give_all.new.entries.items c.give_all-2.new.entries.items
    c.new-laid.result c.in_ok-code.code c.in_ok-found.found.reads.keys c.in_ok-found.found.writes.keys c.new-laid.ensures c.into_parts-bodies.ensures.bodies c.into_parts-bodies.ensures.entries
    c.clear_rights.ensures c.in_ok-give_all.ensures c.in_ok-give_all-2.ensures c.in_ok-code.ensures c.in_ok-found.ensures.reads c.in_ok-found.ensures.writes)

pub returns-clause-emitted : goal.returns-clause-emitted
returns-clause-emitted c =
    granted_emitted (laid_code c.args.bodies.items c.args.entries.items) c.in_ok-code.code c.in_ok-found.found.reads.keys c.in_ok-found.found.writes.keys
    (grants c.args.bodies.items c.into_parts-bodies.result.0.items c.args.entries.items c.into_parts-bodies.result.1.items c.clear_rights.new.entries.items c.give_all.new.entries.items c.give_all-2.new.entries.items
    c.new-laid.result c.in_ok-code.code c.in_ok-found.found.reads.keys c.in_ok-found.found.writes.keys c.new-laid.ensures c.into_parts-bodies.ensures.bodies c.into_parts-bodies.ensures.entries
    c.clear_rights.ensures c.in_ok-give_all.ensures c.in_ok-give_all-2.ensures c.in_ok-code.ensures c.in_ok-found.ensures.reads c.in_ok-found.ensures.writes)
