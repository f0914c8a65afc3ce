-- Whether a call stands among the parts of outermost cells.
use Rattle.std.specs.Prelude.{◌≡◌, ℕ, ◌+◌, ◌<◌, ◌≤◌, Bool, true, false, ◌||◌, List, [], ◌∷◌, ◌++◌, length, drop, refl}
use Rattle.std.proofs.Common.{sym, ap, ◌∙◌, get_or}
use Rattle.std.proofs.lemmas.List.{append_assoc, drop_more}
use Rattle.flow.specs.declared.cell.CellPart.{CellPart as Stands}
use Rattle.flow.specs.View.{part_view, parts_view}
use Rattle.language.specs.Core.{Cell, Call, Part, inner, calls, Outer}
use Rattle.language.specs.Parts.{part_calls, outer_parts}
use Rattle.meaning_steps.specs.News.{some_call}
use Rattle.meaning_cells.proofs.Ending.{drop_past}

some_append : (cs ds : List Call) → some_call (cs ++ ds) ≡ some_call cs || some_call ds
some_append [] ds = refl
some_append (c ∷ cs) ds = refl

calls_append : (ps qs : List Part) → part_calls (ps ++ qs) ≡ part_calls ps ++ part_calls qs
calls_append [] qs = refl
calls_append (inner c ∷ ps) qs = calls_append ps qs
calls_append (calls c ∷ ps) qs = ap (λ (z : List Call). c ∷ z) (calls_append ps qs)

some_parts : (ps qs : List Part) → some_call (part_calls (ps ++ qs)) ≡ some_call (part_calls ps) || some_call (part_calls qs)
some_parts ps qs = ap some_call (calls_append ps qs) ∙ some_append (part_calls ps) (part_calls qs)

or_false : (b : Bool) → b || false ≡ b
or_false true = refl
or_false false = refl

or_true : (b : Bool) → b || true ≡ true
or_true true = refl
or_true false = refl

pub inner_last : (ps : List Part) (c : Cell) → some_call (part_calls (ps ++ inner c ∷ [])) ≡ some_call (part_calls ps)
inner_last ps c = some_parts ps (inner c ∷ []) ∙ or_false (some_call (part_calls ps))

pub call_last : (ps : List Part) (c : Call) → true ≡ some_call (part_calls (ps ++ calls c ∷ []))
call_last ps c = sym (some_parts ps (calls c ∷ []) ∙ or_true (some_call (part_calls ps)))

pub some_outers : (o : Outer) (os : List Outer) → some_call (part_calls (outer_parts (o ∷ os))) ≡ some_call (part_calls (outer_parts (o ∷ []))) || some_call (part_calls (outer_parts os))
some_outers o os =
    ap (λ (z : List Part). some_call (part_calls z)) (sym (append_assoc o.parts (inner o.cell ∷ []) (outer_parts os)))
    ∙ some_parts (o.parts ++ inner o.cell ∷ []) (outer_parts os)

part_next : (A : Type 0) (ps : List (Stands A)) (i : ℕ) (d : Stands A) → i < length ps
    → some_call (part_calls (parts_view (drop i ps))) ≡ some_call (part_calls (part_view (get_or ps i d) ∷ [])) || some_call (part_calls (parts_view (drop (i + 1) ps)))
part_next A ps i d h =
    ap (λ (z : List (Stands A)). some_call (part_calls (parts_view z))) (drop_more ps i d h)
    ∙ some_parts (part_view (get_or ps i d) ∷ []) (parts_view (drop (i + 1) ps))

pub part_holds : (A : Type 0) (ps : List (Stands A)) (i : ℕ) (d : Stands A) (whole : Bool) → i < length ps → whole ≡ some_call (part_calls (parts_view (drop i ps)))
    → some_call (part_calls (part_view (get_or ps i d) ∷ [])) ≡ true → true ≡ whole
part_holds A ps i d whole h e f = sym (e ∙ part_next A ps i d h ∙ ap (λ (b : Bool). b || some_call (part_calls (parts_view (drop (i + 1) ps)))) f)

pub part_lacks : (A : Type 0) (ps : List (Stands A)) (i : ℕ) (d : Stands A) (whole : Bool) → i < length ps → whole ≡ some_call (part_calls (parts_view (drop i ps)))
    → some_call (part_calls (part_view (get_or ps i d) ∷ [])) ≡ false → whole ≡ some_call (part_calls (parts_view (drop (i + 1) ps)))
part_lacks A ps i d whole h e f = e ∙ part_next A ps i d h ∙ ap (λ (b : Bool). b || some_call (part_calls (parts_view (drop (i + 1) ps)))) f

pub parts_past : (A : Type 0) (ps : List (Stands A)) (i : ℕ) → length ps ≤ i → some_call (part_calls (parts_view (drop i ps))) ≡ false
parts_past A ps i h = ap (λ (z : List (Stands A)). some_call (part_calls (parts_view z))) (drop_past ps i h)
