-- Parts have at most one entry each, where a layout agrees with them.
use Rattle.std.proofs.Common.{◌≡◌, ℕ, zero, suc, ◌+◌, ◌≤◌, ℤ, List, [], ◌∷◌, ◌++◌, length, map, length-append, refl, sym, subst, None, arith}
use Rattle.std.proofs.lemmas.List.{append-nil}
use Rattle.language.specs.Core.{Form, compute, read, Cell, Part, inner, Outer, Action}
use Rattle.language.specs.Parts.{parts}
use Rattle.language_laws.specs.TypedValues.{own_cell, own_parts}
use Rattle.task_code.specs.Code.{Code, Entry}
use Rattle.task_code.specs.View.{entry_view}
use Rattle.task_code.specs.declared.entry.Entry.{Entry as Made}
use Rattle.code_rules.specs.IsCodeOf.{Layout, PartAs, plain_literal, plain_name, a_cell, a_read, a_call, PartsAs, no_part, one_part}
use Rattle.code_rules.specs.Laying.{IndexesStand, Kinds, PlainAs, Suits, counted}
use Rattle.emit_cells.specs.Chunk.{Added}
use Rattle.emit_statements.specs.Doing.{action_of}
use Rattle.emit_statements.specs.Into.{OwnAdded}
use Rattle.emit_statements.specs.declared.own.ValueUse.{ValueUse}
use Rattle.emit_statements.specs.declared.own.ValueUse.TheVariants as Uses
use Rattle.emit_statements.proofs.Numbers.{long}

counted_long : (a n : ℕ) → length (counted a n) ≡ n
counted_long a zero = refl
counted_long a (suc n) = let h = counted_long (suc a) n in omega arith

part_few : {C : Code} {l : Layout} {k : ℕ} {all : List Part} {at : ℕ} {p : ℤ} {x : Part} {is : List ℕ} → PartAs C l k all at p x is → length is ≤ 1
part_few (plain_literal z) = omega arith
part_few (plain_name z) = omega arith
part_few (a_cell z n e) = omega arith
part_few (a_read z n i e) = omega arith
part_few (a_call c) = omega arith

parts_few : {C : Code} {l : Layout} {k : ℕ} {all : List Part} {at : ℕ} {p : ℤ} {xs : List Part} {is : List ℕ} → PartsAs C l k all at p xs is → length is ≤ length xs
parts_few no_part = omega arith
parts_few (one_part {x = x} {xs = xs} {is = is} {js = js} h hs e) =
    let a = part_few h in
    let b = parts_few hs in
    let d = length-append is js in
    subst (λ (z : List ℕ). length z ≤ length (x ∷ xs)) (sym e) (omega arith)

pub added_few : (fs : List Kinds) (k : ℕ) (all : List Part) (at : ℕ) (p : ℤ) (ps : List Part) (old new : List Made) → Added fs k all at p ps old new
    → (l : Layout) → PlainAs l None all → ((i : ℕ) → l.body_of i ≡ suc i) → IndexesStand all → length new ≤ length old + length ps
added_few fs k all at p ps old new added l plain bodies stand =
    let C : Code = record { entries = added.more; bodies = [] } in
    let h : PartsAs C l k all at p ps (counted 0 (length added.more)) = added.chunk.parts_as C [] [] (sym (append-nil added.more)) l plain bodies stand in
    let a = parts_few h in
    let b = counted_long 0 (length added.more) in
    let d = long old new added.more added.is in
    omega arith

-- a statement has one more entry, its own
pub one_longer : (old new : List Made) (e : Entry) → map entry_view new ≡ map entry_view old ++ e ∷ [] → length new ≡ suc (length old)
one_longer old new e is = let d = long old new (e ∷ []) is in omega arith

pub own_few : (fs : List Kinds) (k at node : ℕ) (p : ℤ) (a : Action) (old mid new : List Made) → Added fs k (own_parts a) at p (own_parts a) old mid → OwnAdded k at node a mid new → length (own_parts a) ≤ length (parts a)
    → (l : Layout) → Suits l a → IndexesStand (own_parts a) → length new ≤ length old + suc (length (parts a))
own_few fs k at node p a old mid new added own fewer l suits stand =
    let h = added_few fs k (own_parts a) at p (own_parts a) old mid added l suits.parts_plain suits.bodies stand in
    let d = one_longer mid new own.entry own.is in
    omega arith

own_fewer : (ps : List Part) (c : Cell) (f : Form) → length (ps ++ own_cell c f) ≤ length (ps ++ inner c ∷ [])
own_fewer ps c (compute e) = let a = length-append ps [] in let b = length-append ps (inner c ∷ []) in omega arith
own_fewer ps c (read a i) = omega arith

pub done_fewer : (d : ValueUse) (p : ℤ) (o : Outer) → length (own_parts (action_of d p o)) ≤ length (parts (action_of d p o))
done_fewer (Uses.Set x) p o = own_fewer o.parts o.cell o.cell.form
done_fewer (Uses.Fill a) p o = own_fewer o.parts o.cell o.cell.form
done_fewer Uses.Print p o = own_fewer o.parts o.cell o.cell.form
done_fewer Uses.Assert p o = own_fewer o.parts o.cell o.cell.form
