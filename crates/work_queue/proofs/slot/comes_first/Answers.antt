use Rattle.std.proofs.Common.{◌≡◌, true, false, sym, ◌∙◌, ap, refl, get_or}
use Rattle.std.specs.Bool.{OnTrue}
use Rattle.work_queue.specs.Order.{precedes}
use Rattle.work_queue.specs.Slots.{entry_in, IsAhead}
use Rattle.work_queue.proofs.Rising.{ahead_of_first}
use Rattle.work_queue.proofs.slot.comes_first.Goals as goal

pub returns-in-Some : goal.returns-in-Some
returns-in-Some c =
    let first : precedes c.args.entry.now c.entry.result ≡ precedes c.args.entry.now (entry_in (get_or c.args.slots.now.items 0 c.in-Some.slot.now)) = ap (λ e. precedes c.args.entry.now e) (c.entry.ensures ∙ ap entry_in c.in-Some.ensures.lookup) in
    elim c.precedes.result as (λ b. c.precedes.result ≡ b → OnTrue b (IsAhead c.args.entry.now c.args.slots.now.items)) [
      | true ↦ λ e. ahead_of_first c.args.entry.now c.args.slots.now.items c.in-Some.slot.now c.requires (sym first ∙ sym c.precedes.ensures ∙ e)
      | false ↦ λ e. tt
    ] refl
