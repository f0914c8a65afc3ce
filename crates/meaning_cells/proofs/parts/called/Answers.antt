use Rattle.std.proofs.Common.{rules, ◌≡◌, ◌++◌, ◌∷◌, []}
use Rattle.language.specs.Parts.{part_calls}
use Rattle.flow.specs.View.{parts_view}
use Rattle.meaning_cells.specs.Listed.{calls_listed}
use Rattle.meaning_cells.proofs.Parting.{call_behind}
use Rattle.meaning_cells.proofs.parts.called.Goals as goal

pub returns : goal.returns
returns g c =
    let A = g.row.A.Denot in
    let pushed : c.push.new.self.items ≡ c.add_calls.new.calls.items ++ c.args.call ∷ [] = search rules in
    let inside : calls_listed {A = g.row.A.Denot} c.add_calls.new.calls.items ≡ part_calls (parts_view {A = g.row.A.Denot} c.args.parts.now) = search rules in
    call_behind {A = A} c.add_calls.new.calls.items c.push.new.self.items c.args.call c.args.parts.now pushed inside
