use Rattle.std.proofs.Common.{◌≡◌, ◌∙◌, ℕ, ◌<◌, ◌∷◌, ◌++◌, [], List, length, get_or, take, map, subst, sym, ap, rules}
use Rattle.std.specs.List.{flat_map}
use Rattle.task_code.specs.declared.entry.Need.{Need}
use Rattle.task_code.specs.Code as pure
use Rattle.task_code.specs.Code.{needed}
use Rattle.task_code.specs.View.{need_view}
use Rattle.ref_counting.specs.Rights.{Adds}
use Rattle.ref_counting.specs.Uses.{OfThis}
use Rattle.ref_counting.proofs.Adding.{adds_more}
use Rattle.ref_counting.proofs.Closing.{map_next, flat_next}
use Rattle.ref_counting.proofs.uses.note_needs.Goals as goal

pub loop-need-preserved : goal.loop-need-preserved
loop-need-preserved c =
    let xs : List Need = c.args.needs.now.items in
    let i : ℕ = c.loop-need.need-index in
    let d : Need = c.need-item.result in
    let same : c.deref-need-items.result.now ≡ xs = c.deref-need-items.ensures.value in
    let within : i < length xs = search rules in
    let before : List pure.Need = map need_view (take i xs) in
    let here : pure.Need = need_view d in
    let is : d ≡ get_or xs i d = c.need-item.is ∙ ap (λ (ys : List Need). get_or ys i d) same in
    let both = adds_more c.args.number (flat_map needed before) (needed here) c.args.leads.now.keys c.loop-need.leads.keys c.note_need.new.leads.keys c.loop-need.invariant c.in_ok-note_need.ensures in
    subst (λ ns. Adds (OfThis c.args.number ns) c.args.leads.now.keys c.note_need.new.leads.keys)
    (sym (flat_next needed before here) ∙ ap (flat_map needed) (ap (λ (x : Need). before ++ need_view x ∷ []) is ∙ map_next need_view xs i d within)) both
