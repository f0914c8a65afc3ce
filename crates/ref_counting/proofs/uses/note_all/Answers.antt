use Rattle.std.proofs.Common.{◌≡◌, ◌∙◌, ℕ, ◌<◌, ◌∷◌, ◌++◌, [], List, length, get_or, take, map, subst, ap, rules, false}
use Rattle.task_code.specs.declared.entry.Name.{Name}
use Rattle.task_code.specs.declared.entry.Owned.TheVariants as Own
use Rattle.task_code.specs.View.{name_view}
use Rattle.ref_counting.specs.Rights.{Adds}
use Rattle.ref_counting.specs.Uses.{OfThis}
use Rattle.ref_counting.proofs.Adding.{adds_more}
use Rattle.ref_counting.proofs.Closing.{map_next}
use Rattle.ref_counting.proofs.uses.note_all.Goals as goal

pub loop-name-preserved : goal.loop-name-preserved
loop-name-preserved c =
    let xs : List Name = c.args.names.now.items in
    let i : ℕ = c.loop-name.name-index in
    let d : Name = record { up = 0; owned = Own.Local (record { node = 0; array = false }) } in
    let same : c.deref-name-items.result.now ≡ xs = c.deref-name-items.ensures.value in
    let within : i < length xs = search rules in
    let both = adds_more c.args.number (map name_view (take i xs)) (name_view (get_or c.deref-name-items.result.now i d) ∷ []) c.args.leads.now.keys c.loop-name.leads.keys c.note_one.new.leads.keys c.loop-name.invariant c.in_ok-note_one.ensures in
    subst (λ ns. Adds (OfThis c.args.number ns) c.args.leads.now.keys c.note_one.new.leads.keys)
    (ap (λ ys. map name_view (take i xs) ++ name_view (get_or ys i d) ∷ []) same ∙ map_next name_view xs i d within) both
