use Rattle.std.proofs.Common.{◌++◌, List, ap, ◌∙◌}
use Rattle.std.specs.Prelude.{option_map, option_to_list}
use Rattle.language.specs.Core as core
use Rattle.flow.specs.View.{outer_view}
use Rattle.meaning_cells.proofs.Parting.{step_behind}
use Rattle.meaning_cells.proofs.parts.bounds_of.Goals as goal

pub returns-in_ok-push-in-Some : goal.returns-in_ok-push-in-Some
returns-in_ok-push-in-Some g c =
    step_behind {A = g.row.A.Denot} c.in_ok-outers.outers.items c.push.new.self.items _ c.args.range.now.step c.in_ok-push-in-Some.ensures.items c.in-Some.is
    ∙ ap (λ (z : List core.Outer). z ++ option_to_list (option_map (outer_view {A = g.row.A.Denot}) c.args.range.now.step)) c.in_ok-outers.ensures
