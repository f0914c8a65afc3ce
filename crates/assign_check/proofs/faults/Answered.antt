-- The fault that is answered, of several lists one after another.
use Rattle.std.proofs.Common.{rules, ◌≡◌, ℕ, ◌+◌, ◌<◌, List, [], ◌∷◌, ◌++◌, map, take, drop, length, get_or, Vec, Global, refl, ap, ap₂, sym, ◌∙◌}
use Rattle.std.specs.Prelude.{Option}
use Rattle.std.proofs.Math.Seq.{take-append_seam}
use Rattle.std.proofs.lemmas.List.{drop_more, append-nil}
use Rattle.lexer.specs.declared.token.Span.{Span}
use Rattle.language.specs.Core.{Owned}
use Rattle.assign_check.specs.declared.outlining.outline.OutlineStep.{Declares, Splits, Repeats, Encloses, the_lemmas}
use Rattle.assign_check.specs.declared.outlining.outline.Declaration.{Declaration}
use Rattle.assign_check.specs.declared.outlining.outline.OutlineStep.{OutlineStep as Code}
use Rattle.assign_check.specs.Outline.{Outline, followed, Step, declares, splits, repeats, encloses, outlined}
use Rattle.assign_check.specs.View.{declared_view, step_view}
use Rattle.assign_check.specs.declared.fault.AssignFault.{AssignFault}
use Rattle.assign_check.specs.Faults.{earlier, first_among, way, step_way, way_faults, step_faults}

pub first_among-append : (best : Option AssignFault) (xs ys : List AssignFault) → first_among best (xs ++ ys) ≡ first_among (first_among best xs) ys
first_among-append best [] ys = refl
first_among-append best (x ∷ xs) ys = first_among-append (earlier best x) xs ys

-- BLOCKS

pub step_best : {X : Type 0} (view : X → Step) (l : Option ℕ) (total before after : Option AssignFault) (w v : List Owned) (xs : List X) (i : ℕ) (x : X)
    → total ≡ first_among before (way_faults l w (outlined (map view (drop i xs)))) → i < length xs → x ≡ get_or xs i x
    → v ≡ w ++ step_way l (view x) → after ≡ first_among before (step_faults l w (view x))
    → total ≡ first_among after (way_faults l v (outlined (map view (drop (i + 1) xs))))
step_best {X = X} view l total before after w v xs i x so_far below is moves adds =
    let rest = outlined (map view (drop (i + 1) xs)) in
    so_far
    ∙ ap (λ ys. first_among before (way_faults l w (outlined (map view ys)))) (drop_more xs i x below)
    ∙ ap (λ (y : X). first_among before (way_faults l w (followed (view y) rest))) (sym is)
    ∙ first_among-append before (step_faults l w (view x)) (way_faults l (w ++ step_way l (view x)) rest)
    ∙ ap (λ (b : Option AssignFault). first_among b (way_faults l (w ++ step_way l (view x)) rest)) (sym adds)
    ∙ ap (λ (u : List Owned). first_among after (way_faults l u rest)) (sym moves)

-- BRANCHES

kept : (w v : List Owned) (before : ℕ) → length w ≡ before → take before (w ++ v) ≡ w
kept w v before is = ap (λ (n : ℕ). take n (w ++ v)) (sym is) ∙ take-append_seam w v

pub split_best : (l : Option ℕ) (n : ℕ) (at : Span) (o p : Outline) (before : ℕ) (w w' v : List Owned) (b b' a : Option AssignFault) → length w ≡ before → w' ≡ w ++ way l o
    → b' ≡ first_among b (way_faults l w o) → v ≡ take before w' → a ≡ first_among b' (way_faults l v p) → a ≡ first_among b (step_faults l w (splits n at o p))
split_best l n at o p before w w' v b b' a long one_way one_best keeps other_best =
    other_best
    ∙ ap₂ (λ (z : Option AssignFault) (y : List Owned). first_among z (way_faults l y p)) one_best (keeps ∙ ap (take before) one_way ∙ kept w (way l o) before long)
    ∙ sym (first_among-append b (way_faults l w o) (way_faults l w p))

pub loop_way : (l : Option ℕ) (n : ℕ) (o : Outline) (before : ℕ) (w w' v : List Owned) (q : List Owned) → length w ≡ before → w' ≡ w ++ q → v ≡ take before w' → v ≡ w ++ step_way l (repeats n o)
loop_way l n o before w w' v q long goes keeps = keeps ∙ ap (take before) goes ∙ kept w q before long ∙ sym (append-nil w)

pub view-Repeats : (n : ℕ) (b : Vec Code Global) → step_view (Repeats n b) ≡ repeats n (outlined (map step_view b.items))
view-Repeats n b = search (rules, the_lemmas)

pub view-Splits : (n : ℕ) (at : Span) (b d : Vec Code Global) → step_view (Splits n at b d) ≡ splits n at (outlined (map step_view b.items)) (outlined (map step_view d.items))
view-Splits n at b d = search (rules, the_lemmas)

pub view-Declares : (d : Declaration) → step_view (Declares d) ≡ declares (declared_view d)
view-Declares d = search (rules, the_lemmas)

pub view-Encloses : (b : Vec Code Global) → step_view (Encloses b) ≡ encloses (outlined (map step_view b.items))
view-Encloses b = search (rules, the_lemmas)
