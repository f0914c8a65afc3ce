use Rattle.std.proofs.Common.{arith}
use Rattle.board_items.proofs.Learnt.{learnt_more, told_count}
use Rattle.board_items.proofs.items.Items.tell.Goals as goal

pub returns-then-all-capacity-clause-learnt : goal.returns-then-all-capacity-clause-learnt
returns-then-all-capacity-clause-learnt c = λ room known start h. learnt_more known start _ _ _ _ c.args.input.now h c.known.ensures.waiting c.known.ensures.listed

pub returns-then-all-capacity-clause-count : goal.returns-then-all-capacity-clause-count
returns-then-all-capacity-clause-count c = omega (arith, told_count c.args.input.now c.args.self.now.rules.waiting c.known.new.self.waiting c.args.self.now.woken.items c.known.new.out.items c.known.ensures.waiting c.known.ensures.listed, c.known.new.out.ok.0, c.args.self.now.woken.ok.0)
