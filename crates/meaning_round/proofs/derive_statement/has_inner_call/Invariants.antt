use Rattle.std.proofs.Common.{◌≡◌, ◌∷◌, [], drop}
use Rattle.flow.specs.View.{parts_view, outer_view}
use Rattle.language.specs.Parts.{part_calls, outer_parts}
use Rattle.meaning_steps.specs.News.{some_call}
use Rattle.meaning_round.proofs.derive_statement.has_inner_call.Given as goal

abbrev pub invariant-loop-part : goal.invariant-loop-part
invariant-loop-part g l =
    some_call (part_calls (outer_parts (outer_view l.outer ∷ []))) ≡ some_call (part_calls (parts_view (drop l.part-index l.outer.parts.items)))
