use Rattle.meaning_openings.proofs.closing.close.Goals as goal

pub returns-clause-closed : goal.returns-clause-closed
returns-clause-closed c = λ q. c.in_ok-insert.ensures.updates.0 (q.instance, q.node)
