use Rattle.std.proofs.Common.{List, [], ◌∷◌, ◌++◌, ap, refl, subst, sym, ◌∙◌}
use Rattle.board.specs.Board.{IsItems}
use Rattle.board_work.specs.Assigned.{Assigned}
use Rattle.dataflow.specs.System.{In}
use Rattle.workers.specs.StartLog.{AreItems}
use Rattle.workers.specs.Threads.{AuditedState}
use Rattle.workers.proofs.Prefixes.{in_last, items_more}
use Rattle.workers.proofs.audited_board.AuditedBoard.log_start.Goals as goal

pub logged-begun-requires : goal.logged-begun-requires
logged-begun-requires g c =
    subst (λ (l : List Assigned). In c.args.work l) (sym (c.again.ensures ∙ c.if-not-add.ensures refl)) (in_last c.args.work c.again-front.result)

pub invariant_of-self : goal.invariant_of-self
invariant_of-self g c =
    let k = c.self.invariant in
    let here : IsItems c.self.inside.board c.args.work = subst (λ (d : AuditedState). IsItems d.board c.args.work) (sym c.self.view_is) c.requires in
    record {
      code = k.code;
      limit_is = k.limit_is;
      some = k.some;
      counted = k.counted;
      enabled_total_is = k.enabled_total_is;
      fits = k.fits;
      runs = k.runs;
      no_back = k.no_back;
      items = subst (λ (l : List Assigned). AreItems c.self.inside.board l) (sym (c.if-not-add.ensures refl ∙ ap (λ (l : List Assigned). l ++ c.args.work ∷ []) c.again-front.ensures)) (items_more c.self.inside.board c.self.inside.front c.args.work k.items here);
    }
