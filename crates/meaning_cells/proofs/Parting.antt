-- Calls among parts, listed one after another.
use Rattle.std.specs.Prelude.{◌≡◌, ℕ, ◌+◌, ◌<◌, ◌≤◌, ℤ, List, [], ◌∷◌, ◌++◌, length, drop, Option, Some, option_map, option_to_list, Vec, Box, refl}
use Rattle.std.specs.Borrow.{Bor}
use Rattle.std.proofs.Common.{rules, sym, ap, ◌∙◌, get_or}
use Rattle.std.proofs.lemmas.List.{append_assoc, append-nil, drop_all, drop_more, map-append}
use Rattle.language.specs.Core as core
use Rattle.language.specs.Core.{inner, calls}
use Rattle.language.specs.Parts.{part_calls, outer_parts}
use Rattle.flow.specs.declared.cell.Call.{Call}
use Rattle.flow.specs.declared.cell.OuterCell.{OuterCell}
use Rattle.flow.specs.declared.cell.CellPart.{CellPart}
use Rattle.flow.specs.declared.statement.Action.{the_lemmas}
use Rattle.flow.specs.declared.statement.Action.{Call as Made}
use Rattle.flow.specs.View.{action_view, call_view, outer_view, part_view, parts_view}
use Rattle.meaning_cells.specs.Listed.{calls_listed, outers_listed}

pub calls_append : (ps qs : List core.Part) → part_calls (ps ++ qs) ≡ part_calls ps ++ part_calls qs
calls_append [] qs = refl
calls_append (inner c ∷ ps) qs = calls_append ps qs
calls_append (calls c ∷ ps) qs = ap (λ (z : List core.Call). c ∷ z) (calls_append ps qs)

listed_append : {A : Type 0} (cs ds : List (Bor (Call A))) → calls_listed (cs ++ ds) ≡ calls_listed cs ++ calls_listed ds
listed_append [] ds = refl
listed_append (c ∷ cs) ds = ap (λ (z : List core.Call). call_view c.now ∷ z) (listed_append cs ds)

-- the calls of one part more
pub parts_more : {A : Type 0} (whole cs ds : List core.Call) (ps : List (CellPart A)) (i : ℕ) (p : CellPart A) → i < length ps → get_or ps i p ≡ p
    → whole ≡ cs ++ part_calls (parts_view (drop i ps)) → ds ≡ cs ++ part_calls (part_view p ∷ []) → whole ≡ ds ++ part_calls (parts_view (drop (i + 1) ps))
parts_more {A} whole cs ds ps i p l g e h =
    e ∙ ap (λ (z : List (CellPart A)). cs ++ part_calls (parts_view z)) (drop_more ps i p l ∙ ap (λ (z : CellPart A). z ∷ drop (i + 1) ps) g)
    ∙ ap (λ (z : List core.Call). cs ++ z) (calls_append (part_view p ∷ []) (parts_view (drop (i + 1) ps)))
    ∙ sym (append_assoc cs (part_calls (part_view p ∷ [])) (part_calls (parts_view (drop (i + 1) ps))))
    ∙ ap (λ (z : List core.Call). z ++ part_calls (parts_view (drop (i + 1) ps))) (sym h)

-- the calls of all parts
pub parts_end : {A : Type 0} (whole cs : List core.Call) (ps : List (CellPart A)) (i : ℕ) → length ps ≤ i → whole ≡ cs ++ part_calls (parts_view (drop i ps)) → cs ≡ whole
parts_end {A} whole cs ps i l e = sym (e ∙ ap (λ (z : List (CellPart A)). cs ++ part_calls (parts_view z)) (drop_all i ps l) ∙ append-nil cs)

-- the calls of one outermost cell more
pub outers_more : {A : Type 0} (whole cs ds : List core.Call) (os : List (Bor (OuterCell A))) (i : ℕ) (o : Bor (OuterCell A)) → i < length os → get_or os i o ≡ o
    → whole ≡ cs ++ part_calls (outer_parts (outers_listed (drop i os))) → ds ≡ cs ++ part_calls (parts_view o.now.parts.items) → whole ≡ ds ++ part_calls (outer_parts (outers_listed (drop (i + 1) os)))
outers_more {A} whole cs ds os i o l g e h =
    e ∙ ap (λ (z : List (Bor (OuterCell A))). cs ++ part_calls (outer_parts (outers_listed z))) (drop_more os i o l ∙ ap (λ (z : Bor (OuterCell A)). z ∷ drop (i + 1) os) g)
    ∙ ap (λ (z : List core.Call). cs ++ z) (calls_append (parts_view o.now.parts.items) (inner (outer_view o.now).cell ∷ outer_parts (outers_listed (drop (i + 1) os))))
    ∙ sym (append_assoc cs (part_calls (parts_view o.now.parts.items)) (part_calls (outer_parts (outers_listed (drop (i + 1) os)))))
    ∙ ap (λ (z : List core.Call). z ++ part_calls (outer_parts (outers_listed (drop (i + 1) os)))) (sym h)

-- an outermost cell behind others, where there is one
pub step_behind : {A : Type 0} (os ps : List (Bor (OuterCell A))) (o : Bor (OuterCell A)) (s : Option (OuterCell A)) → ps ≡ os ++ o ∷ [] → s ≡ Some o.now
    → outers_listed ps ≡ outers_listed os ++ option_to_list (option_map outer_view s)
step_behind {A} os ps o s e h =
    ap outers_listed e ∙ map-append (λ (z : Bor (OuterCell A)). outer_view z.now) os (o ∷ [])
    ∙ ap (λ (z : Option (OuterCell A)). outers_listed os ++ option_to_list (option_map outer_view z)) (sym h)

-- a call behind its parts
pub call_behind : {A : Type 0} (cs ds : List (Bor (Call A))) (c : Bor (Call A)) (ps : List (CellPart A)) → ds ≡ cs ++ c ∷ [] → calls_listed cs ≡ part_calls (parts_view ps)
    → calls_listed ds ≡ part_calls (parts_view ps ++ calls (call_view c.now) ∷ [])
call_behind cs ds c ps e h =
    ap calls_listed e ∙ listed_append cs (c ∷ [])
    ∙ ap (λ (z : List core.Call). z ++ call_view c.now ∷ []) h ∙ sym (calls_append (parts_view ps) (calls (call_view c.now) ∷ []))

pub view_call : {A : Type 0} → (p : ℤ) (ps : Vec (CellPart A) A) (c : Box (Call A) A) → action_view (Made p ps c) ≡ core.call_alone p (parts_view ps.items) (call_view c.value)
view_call p ps c = search (rules, the_lemmas)
