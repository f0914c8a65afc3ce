-- Instances as they are made.
use Rattle.std.proofs.Common.{◌≡◌, ◌∙◌, sym, ap, ℕ, suc, ◌+◌, ◌<◌, List, ◌++◌, length, replicate, Option, Some, option_map, arith}
use Rattle.std.proofs.lemmas.List.{length-map}
use Rattle.slab.specs.Slab.{Slab, get}
use Rattle.board_history.specs.Fields.{Absent, Frame, Slot}
use Rattle.task_code.specs.Code.{Code, body}
use Rattle.task_code.specs.Code as Pure
use Rattle.task_code.specs.View.{body_view, variable_view}
use Rattle.task_code.specs.declared.code.Body.{Body}
use Rattle.board_instances.specs.Openings.{IsInner, steps_in, unfilled}
use Rattle.board_instances.specs.View.{frame_view, frames_view, step_view}
use Rattle.board_instances.specs.declared.instance.Instance.{Instance}
use Rattle.paths.specs.declared.steps.Step.{Step}
use Rattle.board_instances.proofs.Slots.{view_there}

-- an instance inside of one that is there, as it is made
pub inner_made : (C : Code) (s : Slab Instance) (at number : ℕ) (way : Option Step) (passed : List Slot) (b : Body) (outer : Instance) (i : Frame) → Some outer ≡ get s at → number < length C.bodies → body_view b ≡ body C number → i.parent ≡ Some at → i.level ≡ outer.level + 1 → i.depth ≡ outer.depth + steps_in (option_map step_view way) → i.way ≡ option_map step_view way → i.body ≡ number → i.live ≡ length b.entries.items → i.slots ≡ replicate (length b.makes.items) Absent ++ passed → IsInner C (frames_view s.slots) at number (option_map step_view way) passed i
inner_made C s at number way passed b outer i here within is p l d w n v x = record {
  outer = frame_view outer;
  there = view_there s at outer here;
  within = within;
  is = made;
}
  where
    more : i.level ≡ suc outer.level
    more = omega (arith, l)

    lives : i.live ≡ length (body C number).entries
    lives = v ∙ ap (λ (q : Pure.Body). length q.entries) is

    own : length b.makes.items ≡ length (body C number).makes
    own = sym (length-map b.makes.items variable_view) ∙ ap (λ (q : Pure.Body). length q.makes) is

    made : i ≡ unfilled (Some at) (suc outer.level) (outer.depth + steps_in (option_map step_view way)) (option_map step_view way) number (body C number) passed
    made = (let slots : i.slots ≡ replicate (length (body C number).makes) Absent ++ passed = x ∙ ap (λ k. replicate k Absent ++ passed) own in let e : record { parent = i.parent; level = i.level; depth = i.depth; way = i.way; body = i.body; live = i.live; slots = i.slots } ≡ unfilled (Some at) (suc outer.level) (outer.depth + steps_in (option_map step_view way)) (option_map step_view way) number (body C number) passed = cc (p, more, d, w, n, lives, slots) in e)
