use Rattle.std.proofs.Common.{◌≡◌, ◌-◌, rules, subst, sym, ap, arith, Some, None, IfSome, Option, ℕ}
use Rattle.board_history.specs.Ending.{Sets, TakenOff, with_live}
use Rattle.board_history.specs.Fields.{Frame, slot_at}
use Rattle.board_instances.specs.View.{frame_view, frames_view}
use Rattle.board_instances.proofs.Slots.{goes_off, gone_is, gone_sets, not_there, stays_there, view_is, view_there, written}
use Rattle.board_instances.proofs.instance.drop_instance.Goals as goal

pub returns-in_err-instance-clause-leaves : goal.returns-in_err-instance-clause-leaves
returns-in_err-instance-clause-leaves c = λ f h some gs off. not_there c.args.instances.now c.args.at f c.in_err-instance.ensures.value h

pub returns-then-instance-gt-LAST-clause-leaves : goal.returns-then-instance-gt-LAST-clause-leaves
returns-then-instance-gt-LAST-clause-leaves c = λ f h some gs off. (
    let m : f.live ≡ c.in_ok-instance.instance.now.live = ap (λ (x : Frame). x.live) (view_is c.args.instances.now c.args.at c.in_ok-instance.instance.now f c.in_ok-instance.ensures.value h)
    in stays_there _ _ gs c.args.at f h (omega (arith, m, c.if-instance-gt-LAST.true)) (written c.args.instances.now c.args.at (f.live - 1) c.in_ok-instance.instance.now _ c.in_ok-instance.ensures.value (ap (λ n. with_live (n - 1) (frame_view c.in_ok-instance.instance.now)) (sym m)) f h) off)

pub returns-clause-goes : goal.returns-clause-goes
returns-clause-goes c = around c.key.result (sym c.key.ensures)
  where
    around : (o : Option ℕ) → c.in_ok-gone.gone.parent ≡ o → IfSome o (λ outer. (x : Frame) × (slot_at (frames_view c.args.instances.now.slots) c.args.at ≡ Some x) × (x.parent ≡ Some outer) × Sets {X = Frame} (frames_view c.args.instances.now.slots) c.args.at None (frames_view c.try_remove.new.self.slots))
    around None e = search rules
    around (Some k) e = (frame_view c.in_ok-gone.gone, view_there c.args.instances.now c.args.at c.in_ok-gone.gone (gone_is c.args.instances.now c.args.at c.in_ok-instance.instance.now c.in_ok-instance.ensures.value c.in_ok-gone.gone c.in_ok-gone.ensures.value), e, gone_sets c.args.instances.now c.args.at c.in_ok-instance.instance.now c.in_ok-instance.ensures.value c.try_remove.new.self c.in_ok-gone.ensures.updates)

pub returns-clause-leaves : goal.returns-clause-leaves
returns-clause-leaves c = λ f h some gs off. (
    let e = view_is c.args.instances.now c.args.at c.in_ok-gone.gone f (gone_is c.args.instances.now c.args.at c.in_ok-instance.instance.now c.in_ok-instance.ensures.value c.in_ok-gone.gone c.in_ok-gone.ensures.value) h
    in let m : f.live ≡ c.in_ok-instance.instance.now.live = ap (λ (x : Frame). x.live) (view_is c.args.instances.now c.args.at c.in_ok-instance.instance.now f c.in_ok-instance.ensures.value h)
    in goes_off _ _ gs c.args.at f h some (omega (arith, m, c.if-instance-gt-LAST.false)) (gone_sets c.args.instances.now c.args.at c.in_ok-instance.instance.now c.in_ok-instance.ensures.value c.try_remove.new.self c.in_ok-gone.ensures.updates) (subst (λ (o : Option ℕ). TakenOff gs (frames_view c.try_remove.new.self.slots) o) (sym (ap (λ (x : Frame). x.parent) e)) (subst (λ (o : Option ℕ). TakenOff gs (frames_view c.try_remove.new.self.slots) o) c.key.ensures off)))
