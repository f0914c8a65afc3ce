use Rattle.std.proofs.Common.{◌≡◌, ◌-◌, true, false, sym, ◌∙◌, ap, refl, arith, length, suc, get_or}
use Rattle.std.specs.Bool.{OnTrue}
use Rattle.std.specs.VecDeque.{deque_len}
use Rattle.work_queue.specs.Order.{precedes}
use Rattle.work_queue.specs.Slots.{entry_in, IsBehind}
use Rattle.work_queue.proofs.Rising.{behind_last}
use Rattle.work_queue.proofs.slot.comes_last.Goals as goal

pub returns-in-Some : goal.returns-in-Some
returns-in-Some c =
    let last : precedes c.entry.result c.args.entry.now ≡ precedes (entry_in (get_or c.args.slots.now.items (deque_len c.args.slots.now - 1) c.in-Some.slot.now)) c.args.entry.now = ap (λ e. precedes e c.args.entry.now) (c.entry.ensures ∙ ap entry_in c.in-Some.ensures.lookup) in
    let some = c.in-Some.ensures.variant.0 refl in
    let long : length c.args.slots.now.items ≡ suc (deque_len c.args.slots.now - 1) = omega (arith, some, c.args.slots.now.ok.0) in
    elim c.precedes.result as (λ b. c.precedes.result ≡ b → OnTrue b (IsBehind c.args.entry.now c.args.slots.now.items)) [
      | true ↦ λ e. behind_last c.args.entry.now c.args.slots.now.items (deque_len c.args.slots.now - 1) c.in-Some.slot.now c.requires long (sym last ∙ sym c.precedes.ensures ∙ e)
      | false ↦ λ e. tt
    ] refl
