use Rattle.std.proofs.Common.{List, arith, ap, sym, subst, ◌∙◌, length, refl}
use Rattle.dataflow.specs.System.{In}
use Rattle.board_work.specs.Assigned.{Assigned}
use Rattle.workers.proofs.SharedFacts.{first}
use Rattle.workers.proofs.audited_board.AuditedBoard.new.Goals as goal

pub invariant_of-result : goal.invariant_of-result
invariant_of-result g c = record {
  code = c.requires.code.0;
  limit_is = c.requires.code.1;
  some = c.requires.some;
  counted = ap length c.requires.first.0 ∙ sym c.requires.empty.0;
  enabled_total_is = sym c.requires.empty.1;
  fits = omega arith;
  runs = first g.J.RunParams.code g.J.RunParams.engines g.J.RunParams.workers c.args.board c.requires.code.0 c.requires.first.0 c.requires.first.1;
  no_back = λ e. rw c.requires.first.0 refl;
  items = λ work h. absurd (subst (λ (log : List Assigned). In work log) c.named-log.ensures h);
}
