use Rattle.std.proofs.Common.{◌≡◌, ◌∙◌, ◌-◌, ◌+◌, ◌++◌, List, ℕ, suc, append-nil, arith, false, true, refl, reverse, subst, sym}
use Rattle.std.specs.Prelude.{vec_len}
use Rattle.board_data.specs.View.{cells_view}
use Rattle.board_instances.specs.View.{frames_view}
use Rattle.board_items.specs.Ended.{numbers_behind}
use Rattle.board_items.specs.Progress.{Progress}
use Rattle.board_items.proofs.Progress.{new_ok, new_spare, new_step}
use Rattle.board_items.proofs.items.Items.place_new.Goals as goal

pub loop-at-init : goal.loop-at-init
loop-at-init c = (
  refl,
  refl,
  (λ rows number before queued start left few can early far.
      let z : 0 ≡ c.args.first - c.args.first = omega arith in
      let y : vec_len c.args.self.now.rows - c.args.first ≡ (vec_len c.args.self.now.rows - c.args.first) - 0 = omega arith in
      subst (λ (k : ℕ). Progress c.args.board_view.program.now (frames_view c.args.board_view.instances.now.slots) (cells_view c.args.board_view.store.now.cells) rows c.args.first number before queued (start ++ numbers_behind c.args.first k) (((vec_len c.args.self.now.rows - c.args.first) - k) + left) c.args.self.now) z
      (subst (λ (ms : List ℕ). Progress c.args.board_view.program.now (frames_view c.args.board_view.instances.now.slots) (cells_view c.args.board_view.store.now.cells) rows c.args.first number before queued ms (((vec_len c.args.self.now.rows - c.args.first) - 0) + left) c.args.self.now) (sym (append-nil start)) (subst (λ (n : ℕ). Progress c.args.board_view.program.now (frames_view c.args.board_view.instances.now.slots) (cells_view c.args.board_view.store.now.cells) rows c.args.first number before queued start (n + left) c.args.self.now) y far))),
  (λ rows number before queued start left few can early far spare. spare),
  omega arith,
  refl,
)

pub returns-in_err-place_one-clause-succeeds : goal.returns-in_err-place_one-clause-succeeds
returns-in_err-place_one-clause-succeeds c = λ rows number before queued start left few can early far spare.
    absurd (cc (let f : false ≡ true = new_ok c.args.board_view.program.now (frames_view c.args.board_view.instances.now.slots) (cells_view c.args.board_view.store.now.cells) rows c.args.first number before queued few start (vec_len c.args.self.now.rows - c.args.first) can early left (c.loop-at.at - c.args.first) c.loop-at.self (c.loop-at.at + 1) (omega arith) (omega arith) (c.loop-at.invariant.2 rows number before queued start left few can early far) _ c.loop-at.at (reverse c.loop-at.spare.items) refl (c.loop-at.invariant.3 rows number before queued start left few can early far spare) c.in_err-place_one.ensures.succeeds in f))

pub loop-at-preserved : goal.loop-at-preserved
loop-at-preserved c = (
  c.place_one.ensures.woken ∙ c.loop-at.invariant.0,
  c.place_one.ensures.len ∙ c.loop-at.invariant.1,
  (λ rows number before queued start left few can early far.
      let e : suc (c.loop-at.at - c.args.first) ≡ (c.loop-at.at + 1) - c.args.first = omega arith in
      subst (λ (k : ℕ). Progress c.args.board_view.program.now (frames_view c.args.board_view.instances.now.slots) (cells_view c.args.board_view.store.now.cells) rows c.args.first number before queued (start ++ numbers_behind c.args.first k) (((vec_len c.args.self.now.rows - c.args.first) - k) + left) c.place_one.new.self) e
      (new_step c.args.board_view.program.now (frames_view c.args.board_view.instances.now.slots) (cells_view c.args.board_view.store.now.cells) rows c.args.first number before queued few start (vec_len c.args.self.now.rows - c.args.first) can early left (c.loop-at.at - c.args.first) c.loop-at.self (c.loop-at.at + 1) (omega arith) (omega arith) (c.loop-at.invariant.2 rows number before queued start left few can early far) c.place_one.new.self c.in_ok-place_one.ensures.settles)),
  (λ rows number before queued start left few can early far spare.
      new_spare c.args.board_view.program.now (frames_view c.args.board_view.instances.now.slots) (cells_view c.args.board_view.store.now.cells) rows c.args.first number before queued few start (vec_len c.args.self.now.rows - c.args.first) can early left (c.loop-at.at - c.args.first) c.loop-at.self (c.loop-at.at + 1) (omega arith) (omega arith) (c.loop-at.invariant.2 rows number before queued start left few can early far) c.loop-at.at (reverse c.loop-at.spare.items) (reverse c.place_one.new.spare.items) refl (c.loop-at.invariant.3 rows number before queued start left few can early far spare) c.place_one.ensures.rest),
  omega arith,
  c.place_one.ensures.running ∙ c.loop-at.invariant.5,
)

pub returns-clause-progress : goal.returns-clause-progress
returns-clause-progress c = λ rows number before queued start left few can early far.
    let e : c.loop-at.at - c.args.first ≡ vec_len c.args.self.now.rows - c.args.first = omega (arith, c.loop-at.invariant.4) in
    let z : ((vec_len c.args.self.now.rows - c.args.first) - (vec_len c.args.self.now.rows - c.args.first)) + left ≡ left = omega arith in
    subst (λ (n : ℕ). Progress c.args.board_view.program.now (frames_view c.args.board_view.instances.now.slots) (cells_view c.args.board_view.store.now.cells) rows c.args.first number before queued (start ++ numbers_behind c.args.first (vec_len c.args.self.now.rows - c.args.first)) n c.loop-at.self) z
    (subst (λ (k : ℕ). Progress c.args.board_view.program.now (frames_view c.args.board_view.instances.now.slots) (cells_view c.args.board_view.store.now.cells) rows c.args.first number before queued (start ++ numbers_behind c.args.first k) (((vec_len c.args.self.now.rows - c.args.first) - k) + left) c.loop-at.self) e
    (c.loop-at.invariant.2 rows number before queued start left few can early far))
