use Rattle.std.proofs.Common.{IsTrue, refl, rules}
use Rattle.workers.proofs.Prefixes.{prefix_in}
use Rattle.workers.proofs.audited_board.end_on_board.Goals as goal

pub end_begun-requires-clause-items : goal.end_begun-requires-clause-items
end_begun-requires-clause-items g c =
    let logged : IsTrue c.finished.inside.logged = search rules in
    c.requires.items c.finished.inside.done (prefix_in c.finished.inside.done c.finished.inside.front c.args.front.now (c.if-not-is_prefix_of.ensures refl) (c.finished.invariant logged))
