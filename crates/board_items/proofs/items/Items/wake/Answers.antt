use Rattle.std.proofs.Common.{◌≡◌, ◌∙◌, ◌-◌, ◌+◌, ◌≤◌, List, ℕ, ap, arith, false, true, get_or, length, refl, subst, take}
use Rattle.std.proofs.lemmas.List.{take_all}
use Rattle.board_data.specs.View.{cells_view}
use Rattle.board_instances.specs.View.{frames_view}
use Rattle.board_items.specs.Progress.{Progress}
use Rattle.board_items.proofs.Progress.{progress_same, woken_ok, woken_step}
use Rattle.board_items.proofs.items.Items.wake.Goals as goal

pub returns-in_err-wake_one-clause-succeeds : goal.returns-in_err-wake_one-clause-succeeds
returns-in_err-wake_one-clause-succeeds c = λ rows first number before queued left few can aged far short.
    absurd (cc (let f : false ≡ true = woken_ok c.args.board_view.program.now (frames_view c.args.board_view.instances.now.slots) (cells_view c.args.board_view.store.now.cells) rows first number before queued few c.args.self.now.woken.items can aged left c.loop-at.at c.loop-at.self c.index-number.result.now (omega (arith, c.args.self.now.woken.ok.0)) (c.index-number.ensures ∙ ap (λ v. get_or v.items c.loop-at.at c.index-number.result.now) c.loop-at.invariant.0) (c.loop-at.invariant.2 rows first number before queued left few can aged far short) _ short c.in_err-wake_one.ensures.succeeds in f))

pub loop-at-preserved : goal.loop-at-preserved
loop-at-preserved c = (
  c.wake_one.ensures.woken ∙ c.loop-at.invariant.0,
  c.wake_one.ensures.len ∙ c.loop-at.invariant.1,
  λ rows first number before queued left few can aged far short.
      woken_step c.args.board_view.program.now (frames_view c.args.board_view.instances.now.slots) (cells_view c.args.board_view.store.now.cells) rows first number before queued few c.args.self.now.woken.items can aged left c.loop-at.at c.loop-at.self c.index-number.result.now (omega (arith, c.args.self.now.woken.ok.0)) (c.index-number.ensures ∙ ap (λ v. get_or v.items c.loop-at.at c.index-number.result.now) c.loop-at.invariant.0) (c.loop-at.invariant.2 rows first number before queued left few can aged far short) c.wake_one.new.self short c.in_ok-wake_one.ensures.settles,
  c.wake_one.ensures.running ∙ c.loop-at.invariant.3,
)

pub returns-clause-progress : goal.returns-clause-progress
returns-clause-progress c = λ rows first number before queued left few can aged far short.
    progress_same c.args.board_view.program.now (frames_view c.args.board_view.instances.now.slots) (cells_view c.args.board_view.store.now.cells) rows first number before queued c.args.self.now.woken.items left c.loop-at.self _ refl refl refl refl refl
    (let past : length c.args.self.now.woken.items ≤ c.loop-at.at = omega (arith, c.args.self.now.woken.ok.0) in
    let none : (length c.args.self.now.woken.items - c.loop-at.at) + left ≡ left = omega arith in
    subst (λ (ms : List ℕ). Progress c.args.board_view.program.now (frames_view c.args.board_view.instances.now.slots) (cells_view c.args.board_view.store.now.cells) rows first number before queued ms left c.loop-at.self) (take_all c.loop-at.at c.args.self.now.woken.items past)
    (subst (λ (k : ℕ). Progress c.args.board_view.program.now (frames_view c.args.board_view.instances.now.slots) (cells_view c.args.board_view.store.now.cells) rows first number before queued (take c.loop-at.at c.args.self.now.woken.items) k c.loop-at.self) none
    (c.loop-at.invariant.2 rows first number before queued left few can aged far short)))
