-- Statements and parts, one after another, with those that are kept.
use Rattle.std.proofs.Common.{◌≡◌, ℕ, ◌<◌, ◌≤◌, ◌+◌, List, ◌++◌, map, drop, length, get_or, append_assoc, ap, sym, ◌∙◌}
use Rattle.std.proofs.lemmas.List.{drop_more, drop_all, append-nil}
use Rattle.language.specs.Tree.{Part, Statement, statements_of}
use Rattle.explain_warnings.specs.declared.name_use.NameUse.{NameUse}
use Rattle.explain_warnings.specs.Repeats.{again, kept, repeats, part_again, part_kept, tree_repeats}

-- one more statement
pub repeats_more : {X : Type 0} (view : X → Statement) (total front after : List NameUse) (before next : List Statement) (xs : List X) (i : ℕ) (x : X)
    → total ≡ front ++ repeats before (statements_of (map view (drop i xs))) → i < length xs → x ≡ get_or xs i x
    → after ≡ front ++ again before (view x) → next ≡ kept before (view x) → total ≡ after ++ repeats next (statements_of (map view (drop (i + 1) xs)))
repeats_more {X = X} view total front after before next xs i x so_far below is adds keeps =
    let rest = repeats (kept before (view x)) (statements_of (map view (drop (i + 1) xs))) in
    so_far
    ∙ ap (λ ys. front ++ repeats before (statements_of (map view ys))) (drop_more xs i x below)
    ∙ ap (λ (y : X). front ++ (again before (view y) ++ repeats (kept before (view y)) (statements_of (map view (drop (i + 1) xs))))) (sym is)
    ∙ sym (append_assoc front (again before (view x)) rest)
    ∙ ap (λ (w : List NameUse). w ++ rest) (sym adds)
    ∙ ap (λ (bs : List Statement). after ++ repeats bs (statements_of (map view (drop (i + 1) xs)))) (sym keeps)

-- no statement is left
pub repeats_all : {X : Type 0} (view : X → Statement) (total front : List NameUse) (before : List Statement) (xs : List X) (i : ℕ)
    → total ≡ front ++ repeats before (statements_of (map view (drop i xs))) → length xs ≤ i → front ≡ total
repeats_all view total front before xs i so_far ended =
    sym (so_far ∙ ap (λ ys. front ++ repeats before (statements_of (map view ys))) (drop_all i xs ended) ∙ append-nil front)

-- one more part
pub tree_more : {X : Type 0} (view : X → Part) (total front after : List NameUse) (before next : List Statement) (xs : List X) (i : ℕ) (x : X)
    → total ≡ front ++ tree_repeats before (map view (drop i xs)) → i < length xs → x ≡ get_or xs i x
    → after ≡ front ++ part_again before (view x) → next ≡ part_kept before (view x) → total ≡ after ++ tree_repeats next (map view (drop (i + 1) xs))
tree_more {X = X} view total front after before next xs i x so_far below is adds keeps =
    let rest = tree_repeats (part_kept before (view x)) (map view (drop (i + 1) xs)) in
    so_far
    ∙ ap (λ ys. front ++ tree_repeats before (map view ys)) (drop_more xs i x below)
    ∙ ap (λ (y : X). front ++ (part_again before (view y) ++ tree_repeats (part_kept before (view y)) (map view (drop (i + 1) xs)))) (sym is)
    ∙ sym (append_assoc front (part_again before (view x)) rest)
    ∙ ap (λ (w : List NameUse). w ++ rest) (sym adds)
    ∙ ap (λ (bs : List Statement). after ++ tree_repeats bs (map view (drop (i + 1) xs))) (sym keeps)
