use Rattle.std.proofs.Common.{sym, ◌∙◌, refl}
use Rattle.rules.specs.Inputs.{covers}
use Rattle.rules.specs.Many.{is_known}
use Rattle.rules.proofs.Marking.{left_marked, learnt_indexed, none_marked}
use Rattle.rules.proofs.many_inputs.InputIndex.learn.Goals as goal

pub returns-then-knows-clause-left : goal.returns-then-knows-clause-left
returns-then-knows-clause-left c =
    none_marked c.args.input.now c.args.inputs.now c.args.self.now c.requires (sym c.knows.ensures ∙ c.if-knows.true)

pub returns-clause-indexed : goal.returns-clause-indexed
returns-clause-indexed c =
    rw c.same.ensures (learnt_indexed c.args.input.now c.args.inputs.now c.args.self.now c.mark_all.new.self _ c.requires c.mark_all.ensures.marks c.mark_all.ensures.all refl)

pub returns-clause-left : goal.returns-clause-left
returns-clause-left c =
    let marks = c.mark_all.ensures.marks in
    left_marked (covers c.args.input.now) c.args.inputs.now (is_known c.args.self.now) (is_known c.mark_all.new.self) marks.kept marks.only c.mark_all.ensures.all
