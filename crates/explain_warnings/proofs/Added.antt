-- Inputs and parts, one after another.
use Rattle.std.proofs.Common.{◌≡◌, ℕ, ◌<◌, ◌+◌, List, ◌++◌, map, drop, length, get_or, append_assoc, ap, sym, ◌∙◌}
use Rattle.std.specs.Prelude.{Bool}
use Rattle.std.proofs.lemmas.List.{drop_more}
use Rattle.language.specs.Table.{Table}
use Rattle.language.specs.Tree.{Declaration, Part}
use Rattle.explain_warnings.specs.declared.warning.Warning.{Warning}
use Rattle.explain_warnings.specs.Marks.{counted}
use Rattle.explain_warnings.specs.Warnings.{Uses, idle, idle_input, part_warnings, parts_warnings}

-- one more input
pub idle_more : {X : Type 0} (view : X → Declaration) (read : ℕ → Bool) (total front after : List Warning) (xs : List X) (i : ℕ) (x : X)
    → total ≡ front ++ idle read i (map view (drop i xs)) → i < length xs → x ≡ get_or xs i x → after ≡ front ++ idle_input (read i) (view x)
    → total ≡ after ++ idle read (i + 1) (map view (drop (i + 1) xs))
idle_more {X = X} view read total front after xs i x before below is adds =
    let rest = idle read (i + 1) (map view (drop (i + 1) xs)) in
    before
    ∙ ap (λ ys. front ++ idle read i (map view ys)) (drop_more xs i x below)
    ∙ ap (λ (y : X). front ++ (idle_input (read i) (view y) ++ rest)) (sym is)
    ∙ sym (append_assoc front (idle_input (read i) (view x)) rest)
    ∙ ap (λ (w : List Warning). w ++ rest) (sym adds)

-- one more part
pub parts_more : {X : Type 0} (view : X → Part) (t : Table) (u : Uses) (total front after : List Warning) (xs : List X) (j i next : ℕ) (x : X)
    → total ≡ front ++ parts_warnings t u i (map view (drop j xs)) → j < length xs → x ≡ get_or xs j x → after ≡ front ++ part_warnings t u i (view x)
    → next ≡ counted i (view x) → total ≡ after ++ parts_warnings t u next (map view (drop (j + 1) xs))
parts_more {X = X} view t u total front after xs j i next x before below is adds counts =
    let rest = parts_warnings t u (counted i (view x)) (map view (drop (j + 1) xs)) in
    before
    ∙ ap (λ ys. front ++ parts_warnings t u i (map view ys)) (drop_more xs j x below)
    ∙ ap (λ (y : X). front ++ (part_warnings t u i (view y) ++ parts_warnings t u (counted i (view y)) (map view (drop (j + 1) xs)))) (sym is)
    ∙ sym (append_assoc front (part_warnings t u i (view x)) rest)
    ∙ ap (λ (w : List Warning). w ++ rest) (sym adds)
    ∙ ap (λ (n : ℕ). after ++ parts_warnings t u n (map view (drop (j + 1) xs))) (sym counts)
