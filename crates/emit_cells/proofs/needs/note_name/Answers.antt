use Rattle.std.proofs.Common.{[], ◌∷◌, sym, ap, subst, ◌∙◌, List}
use Rattle.task_code.specs.Code.{Need}
use Rattle.emit_cells.specs.declared.needs.PlainNeed.{PlainNeed}
use Rattle.emit_cells.specs.PlainNeeds.{need_of, need_named, Notes}
use Rattle.emit_cells.proofs.Keys.{noted_one, need_is_named}
use Rattle.emit_cells.proofs.needs.note_name.Goals as goal

pub returns : goal.returns
returns c =
    let w = c.new.result in
    let old = c.args.needs.now.keys in
    let one : Notes old c.insert.new.self.keys (need_of w ∷ []) = subst (λ (ks : List PlainNeed). Notes old ks (need_of w ∷ [])) (sym c.in_ok-insert.ensures.keys) (noted_one old w c.new.ensures.plain) in
    subst (λ (n : Need). Notes old c.insert.new.self.keys (n ∷ [])) (need_is_named w ∙ ap need_named c.new.ensures.name) one
