-- Marks that mentions make, one after another.
use Rattle.std.proofs.Common.{◌≡◌, ℕ, ◌<◌, ◌≤◌, ◌+◌, List, [], ◌∷◌, map, drop, get_or, length, refl, ap, sym, ◌∙◌}
use Rattle.std.specs.Prelude.{Bool, true, false, ◌||◌}
use Rattle.std.proofs.lemmas.List.{drop_more, drop_all}
use mathlib.Core.Path.{fun_ext}
use Rattle.language.specs.Table.{Table}
use Rattle.language.specs.Tree.{Part, Tree}
use Rattle.explain_warnings.specs.declared.name_use.NameUseKind.TheVariants as Is
use Rattle.explain_warnings.specs.Mentions.{part_mentions, tree_mentions}
use Rattle.explain_warnings.specs.Marks.{uses_local, calls_other, position_of, counted, is_called}
use Rattle.explain_warnings.specs.Warnings.{Uses, tree_warnings, warnings}

-- the first of three in front of the second
or_forward : (a b c : Bool) → (a || (b || c)) ≡ ((b || a) || c)
or_forward true true c = refl
or_forward true false c = refl
or_forward false true c = refl
or_forward false false c = refl

-- one more mention
pub marked_more : {X : Type 0} (uses : List X → ℕ → Bool) (one : X → ℕ → Bool) → ((y : X) (ys : List X) (k : ℕ) → uses (y ∷ ys) k ≡ (one y k || uses ys k))
    → (total before after : ℕ → Bool) (xs : List X) (i : ℕ) (d : X)
    → ((k : ℕ) → total k ≡ (before k || uses (drop i xs) k)) → i < length xs → ((k : ℕ) → after k ≡ (one (get_or xs i d) k || before k))
    → (k : ℕ) → total k ≡ (after k || uses (drop (i + 1) xs) k)
marked_more {X = X} uses one split total before after xs i d so_far below marks k =
    let rest = uses (drop (i + 1) xs) k in
    so_far k
    ∙ ap (λ ys. before k || uses ys k) (drop_more xs i d below)
    ∙ ap (λ (b : Bool). before k || b) (split (get_or xs i d) (drop (i + 1) xs) k)
    ∙ or_forward (before k) (one (get_or xs i d) k) rest
    ∙ ap (λ (b : Bool). b || rest) (sym (marks k))

or_none : (a : Bool) → (a || false) ≡ a
or_none true = refl
or_none false = refl

-- no mention is left
pub marked_all : {X : Type 0} (uses : List X → ℕ → Bool) → ((k : ℕ) → uses [] k ≡ false) → (total marks : ℕ → Bool) (xs : List X) (i : ℕ)
    → ((k : ℕ) → total k ≡ (marks k || uses (drop i xs) k)) → length xs ≤ i → (k : ℕ) → marks k ≡ total k
marked_all uses none total marks xs i so_far done k =
    sym (so_far k
    ∙ ap (λ ys. marks k || uses ys k) (drop_all i xs done)
    ∙ ap (λ (b : Bool). marks k || b) (none k)
    ∙ or_none (marks k))

or_assoc : (a b c : Bool) → (a || (b || c)) ≡ ((a || b) || c)
or_assoc true b c = refl
or_assoc false b c = refl

-- the calls of one more part
pub calls_more : {X : Type 0} (view : X → Part) (t : Table) (total before after : ℕ → Bool) (xs : List X) (j i next : ℕ) (x : X)
    → ((k : ℕ) → total k ≡ (before k || is_called t i (map view (drop j xs)) k)) → j < length xs → x ≡ get_or xs j x
    → ((k : ℕ) → after k ≡ (before k || calls_other t (position_of i (view x)) (part_mentions (view x)) k)) → next ≡ counted i (view x)
    → (k : ℕ) → total k ≡ (after k || is_called t next (map view (drop (j + 1) xs)) k)
calls_more {X = X} view t total before after xs j i next x so_far below is marks counts k =
    let rest = is_called t (counted i (view x)) (map view (drop (j + 1) xs)) k in
    so_far k
    ∙ ap (λ ys. before k || is_called t i (map view ys) k) (drop_more xs j x below)
    ∙ ap (λ (y : X). before k || (calls_other t (position_of i (view y)) (part_mentions (view y)) k || is_called t (counted i (view y)) (map view (drop (j + 1) xs)) k)) (sym is)
    ∙ or_assoc (before k) (calls_other t (position_of i (view x)) (part_mentions (view x)) k) rest
    ∙ ap (λ (b : Bool). b || rest) (sym (marks k))
    ∙ ap (λ (n : ℕ). after k || is_called t n (map view (drop (j + 1) xs)) k) (sym counts)

-- no part is left
pub calls_all : {X : Type 0} (view : X → Part) (t : Table) (total marks : ℕ → Bool) (xs : List X) (j i : ℕ)
    → ((k : ℕ) → total k ≡ (marks k || is_called t i (map view (drop j xs)) k)) → length xs ≤ j → (k : ℕ) → marks k ≡ total k
calls_all view t total marks xs j i so_far done k =
    sym (so_far k
    ∙ ap (λ ys. marks k || is_called t i (map view ys) k) (drop_all j xs done)
    ∙ or_none (marks k))

abbrev pub uses_by : (read written element_read called : ℕ → Bool) → Uses
uses_by read written element_read called = record { read = read; written = written; element_read = element_read; called = called }

-- the warnings by marks of the variables and functions in use
pub warned_by : (t : Table) (tree : Tree) (read written element_read called : ℕ → Bool)
    → ((k : ℕ) → read k ≡ uses_local t Is.Read (tree_mentions tree) k) → ((k : ℕ) → written k ≡ uses_local t Is.Written (tree_mentions tree) k)
    → ((k : ℕ) → element_read k ≡ uses_local t Is.ReadElement (tree_mentions tree) k) → ((k : ℕ) → called k ≡ is_called t 0 tree k)
    → tree_warnings t (uses_by read written element_read called) tree ≡ warnings t tree
warned_by t tree read written element_read called reads writes elements calls =
    ap (λ (f : ℕ → Bool). tree_warnings t (uses_by f written element_read called) tree) (fun_ext reads)
    ∙ ap (λ (f : ℕ → Bool). tree_warnings t (uses_by (uses_local t Is.Read (tree_mentions tree)) f element_read called) tree) (fun_ext writes)
    ∙ ap (λ (f : ℕ → Bool). tree_warnings t (uses_by (uses_local t Is.Read (tree_mentions tree)) (uses_local t Is.Written (tree_mentions tree)) f called) tree) (fun_ext elements)
    ∙ ap (λ (f : ℕ → Bool). tree_warnings t (uses_by (uses_local t Is.Read (tree_mentions tree)) (uses_local t Is.Written (tree_mentions tree)) (uses_local t Is.ReadElement (tree_mentions tree)) f) tree) (fun_ext calls)
