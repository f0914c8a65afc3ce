use Rattle.std.proofs.Common.{rules, sym, ◌∙◌, subst}
use Rattle.board.specs.Board.{IsGoing, Seen}
use Rattle.board.proofs.Firsts.{if_none, if_some, next_none, next_some}
use Rattle.board.proofs.board.Board.next.Goals as goal

pub returns-clause-none : goal.returns-clause-none
returns-clause-none c =
    rw (← c.self.view_is) (if_none c.first.result (λ e going i ready kind.
    next_none c.self.inside c.self.invariant c.args.kind
    (sym c.first.ensures.first ∙ e) i ready kind))

pub returns-clause-some : goal.returns-clause-some
returns-clause-some c =
    let going : IsGoing c.args.self.now = search rules in
    let here = subst (λ (b : Seen). IsGoing b) (sym c.self.view_is) going in
    rw (← c.self.view_is) (if_some c.first.result c.first.ensures.foremost (λ n h.
    next_some c.self.inside c.self.invariant c.args.kind n
    h here))
