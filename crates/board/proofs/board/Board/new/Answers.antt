use Rattle.std.proofs.Common.{refl, rules}
use Rattle.board.proofs.Own.{first_seen, first_sound}
use Rattle.board.proofs.board.Board.new.Goals as goal

pub invariant_of-result : goal.invariant_of-result
invariant_of-result c =
    first_sound (record { program = c.args.program; most_names = c.most_names.result; limit = c.args.limit; core = c.in_ok-new.field-0; history = c.new-2.result; known = c.new-3.result; answers = c.new-4.result }) c.most_names.ensures.whole c.most_names.ensures.names (c.in_ok-new.ensures.stand _) (search rules) (search rules) c.in_ok-new.ensures.newly c.in_ok-new.ensures.running

pub returns : goal.returns
returns c = first_seen c.args.program c.args.program c.args.limit c.new-2.result.items c.in_ok-new.field-0.items.newly.items refl (search rules) c.in_ok-new.ensures.newly
