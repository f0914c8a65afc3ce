use Rattle.std.proofs.Common.{◌≡◌, ◌+◌, ◌<◌, min, ap, ◌∙◌, arith}
use Rattle.board_history.specs.Ending.{with_live}
use Rattle.board_history.specs.Fields.{Frame}
use Rattle.board_instances.specs.View.{frame_view}
use Rattle.board_instances.proofs.Slots.{not_absent, not_there, view_is, written}
use Rattle.board_instances.proofs.instance.add_child.Goals as goal

pub returns-in-Some-clause-there : goal.returns-in-Some-clause-there
returns-in-Some-clause-there c = λ f h fits. written c.args.instances.now c.args.at (f.live + c.args.count) c.in-Some.instance.now _ c.in-Some.ensures.value (ap (λ n. with_live n (frame_view c.in-Some.instance.now)) (c.saturating_add-instance.ensures ∙ fitting f (view_is c.args.instances.now c.args.at c.in-Some.instance.now f c.in-Some.ensures.value h) fits)) f h
  where
    fitting : (f : Frame) → f ≡ frame_view c.in-Some.instance.now → f.live + c.args.count < 18446744073709551616 → min (c.in-Some.instance.now.live + c.args.count) 18446744073709551615 ≡ f.live + c.args.count
    fitting f e fits = let m : f.live ≡ c.in-Some.instance.now.live = ap (λ (x : Frame). x.live) e in omega (arith, m, fits)

pub returns-in-Some-clause-absent : goal.returns-in-Some-clause-absent
returns-in-Some-clause-absent c = λ h. not_absent c.args.instances.now c.args.at c.in-Some.instance.now c.in-Some.ensures.value h

pub returns-in_default-clause-there : goal.returns-in_default-clause-there
returns-in_default-clause-there c = λ f h fits. not_there c.args.instances.now c.args.at f c.in_default.ensures.value h
