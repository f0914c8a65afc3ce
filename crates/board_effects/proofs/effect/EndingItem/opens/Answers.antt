use Rattle.std.proofs.Common.{◌≡◌, ◌∙◌, ◌++◌, ◌∷◌, [], refl, sym, ap, subst, arith, Option, Some, None}
use Rattle.std.specs.Prelude.{is_some, option_map}
use Rattle.std.proofs.lemmas.Bool.{and_left, and_right}
use Rattle.board_instances.specs.Openings.{passed_from}
use Rattle.board_instances.specs.Turns.{IsOpening}
use Rattle.board_instances.specs.View.{step_view}
use Rattle.paths.specs.declared.steps.Step.{Step}
use Rattle.board_effects.specs.Ended.{code_of, frames_of}
use Rattle.board_effects.proofs.Blocks.{block_opens, block_passes}
use Rattle.board_effects.proofs.Values.{ok_map}
use Rattle.board_effects.proofs.effect.EndingItem.opens.Goals as goal
use Rattle.board_effects.proofs.effect.EndingItem.opens.Goals.{else-is_step-via-then-is_step+else-is_too_deep, else-is_step-via-else-is_step}

same_step : (o : Option Step) → is_some (option_map step_view o) ≡ is_some o
same_step None = refl
same_step (Some s) = refl

pub returns-then-self-gt0 : goal.returns-then-self-gt0
returns-then-self-gt0 c = λ w x r. block_passes c.args.self w x c.args.body _ r c.args.self.chunk refl c.if-self-gt0.true

pub returns : goal.returns
returns c = λ w x r.
    ok_map _ _ c.opens_list.result
    (block_opens c.args.self w x c.args.body _ r c.push_block.new.list.items
    (λ some there. (let q = c.in_ok-push_block.ensures.added some there in (
      q.0,
      q.1 ∙ ap (λ l. l ++ q.0 ∷ []) c.in_ok-list.ensures.items,
      subst (λ l. IsOpening (code_of c.args.self) (frames_of c.args.self) c.args.self.view.at c.args.body (option_map step_view c.args.way) (passed_from (frames_of c.args.self) c.args.self.view.at c.args.self.number 0 l) None None q.0) c.as_slice.ensures.value q.2,
    )))
    (λ e. c.in_ok-push_block.ensures.none e ∙ c.in_ok-list.ensures.items)
    (omega (arith, c.if-self-gt0.false))
    (elim c.else-is_step.branch [
      | else-is_step-via-then-is_step+else-is_too_deep y ↦ and_right _ _ (sym (y.is_too_deep.ensures w) ∙ y.if-is_too_deep.false)
      | else-is_step-via-else-is_step y ↦ and_left _ _ (same_step c.args.way ∙ sym c.is_step.ensures ∙ y.if-is_step.false)
    ]))
    c.opens_list.ensures
