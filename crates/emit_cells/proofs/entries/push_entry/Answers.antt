use Rattle.std.proofs.Common.{map, ap, ◌++◌, ◌∷◌, [], ◌∙◌}
use Rattle.std.proofs.lemmas.List.{map-append}
use Rattle.task_code.specs.View as code_view
use Rattle.emit_cells.specs.Made.{made}
use Rattle.emit_cells.proofs.Marking.{marked_one}
use Rattle.emit_cells.proofs.entries.push_entry.Goals as goal

pub returns-clause-entry : goal.returns-clause-entry
returns-clause-entry c ns noted =
    ap (map code_view.entry_view) c.in_ok-push.ensures.items ∙ map-append code_view.entry_view c.args.entries.now.items (c.entry.result ∷ [])
    ∙ ap (λ e. map code_view.entry_view c.args.entries.now.items ++ e ∷ [])
    (c.entry.ensures ∙ ap (λ n. made c.args.standing c.args.shown n (code_view.act_view c.args.act)) (c.in_ok-needs.ensures ∙ noted.are))

pub returns-clause-marks : goal.returns-clause-marks
returns-clause-marks c =
    marked_one c.args.entries.now.items c.push.new.self.items (made c.args.standing c.args.shown (map code_view.need_view c.in_ok-needs.needs.items) (code_view.act_view c.args.act))
    (ap (map code_view.entry_view) c.in_ok-push.ensures.items ∙ map-append code_view.entry_view c.args.entries.now.items (c.entry.result ∷ [])
    ∙ ap (λ e. map code_view.entry_view c.args.entries.now.items ++ e ∷ []) c.entry.ensures)
