use Rattle.std.proofs.Common.{ℕ, ℤ, List, map, sym, ap, ◌∙◌, subst}
use Rattle.std.proofs.lemmas.Result.{IfOk-weaker}
use Rattle.work_queue.specs.declared.entry.Kind.{Kind as QueueKind}
use Rattle.board.specs.Inside.{seen_of}
use Rattle.board.specs.Ready.{AreReady}
use Rattle.board.proofs.Readies.{all_ready}
use Rattle.board.proofs.board.Board.ready_items.Goals as goal

pub returns : goal.returns
returns c =
    let all = all_ready c.self.inside c.self.invariant c.in_ok-listed.listed.items c.in_ok-listed.ensures.all c.in_ok-listed.ensures.in_order in
    rw (← c.self.view_is) (IfOk-weaker c.numbers_of.result _ _ (λ numbers is.
    subst (λ (ns : List ℕ). AreReady (seen_of c.self.inside) ns) (ap (map (λ (l : QueueKind × ℤ × ℕ). l.2)) (sym c.as_slice.ensures.value) ∙ sym is) all) c.numbers_of.ensures)
