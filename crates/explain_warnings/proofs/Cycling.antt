-- Plain statements of a list, one after another, and the rows of bits that tell which of them waits for which.
use Rattle.std.proofs.Common.{◌≡◌, ◌≢◌, ℕ, ◌<◌, ◌≤◌, ◌+◌, List, [], ◌∷◌, ◌++◌, map, drop, length, get_or, refl, ap, sym, subst, ◌∙◌, arith, append_assoc, Some, inl, inr}
use Rattle.std.specs.Prelude.{◌⊎◌, Bool, true, false, nat_eq, nat_lt, nat_le, is_some, option_map, slice_get, if◌then◌else◌, ◌&&◌, ◌||◌}
use Rattle.std.specs.Borrow.{Bor}
use mathlib.Core.Path.{fun_ext}
use Rattle.std.proofs.lemmas.Bool.{eqb-true, eqb-false, leb-true, lt-ltb, le-ltb, ltb-true, ltb-false, cases_lt}
use Rattle.std.proofs.lemmas.List.{drop_more, drop_all, append-nil, length-append, length-map, get_or_append_left, get_or_push, get_or_past}
use Rattle.std.proofs.lemmas.Nat.Bits.{bit_at-zero}
use Rattle.std.proofs.lemmas.Option.{slice_get_past, slice_get-get_or, slice_get-map}
use Rattle.language.specs.Tree.{Part, import, function, single, Statement, Statements, no_statements, and_statement, Tree, statements_of}
use Rattle.syntax_trees.specs.View.{statement_view}
use Rattle.syntax_trees.specs.declared.tree.Stmt.{Stmt}
use Rattle.explain_warnings.specs.declared.name_use.NameUse.{NameUse}
use Rattle.explain_warnings.specs.Cycles.{target, kept, plain, part_kept, tree_plain, both_wait, awaits, opens_cycle, cycle_at, cycles_from}
use Rattle.explain_warnings.specs.View.{statements_in}
use Rattle.explain_warnings.specs.Ways.{leads, meets_first, bit_is_set, in_rows}

-- PLAIN STATEMENTS

-- one more statement
pub plain_more : {X : Type 0} (view : X → Statement) (total before next : List Statement) (xs : List X) (i : ℕ) (x : X)
    → total ≡ plain before (statements_of (map view (drop i xs))) → i < length xs → x ≡ get_or xs i x → next ≡ kept before (view x)
    → total ≡ plain next (statements_of (map view (drop (i + 1) xs)))
plain_more {X = X} view total before next xs i x so_far below is keeps =
    so_far
    ∙ ap (λ ys. plain before (statements_of (map view ys))) (drop_more xs i x below)
    ∙ ap (λ (y : X). plain (kept before (view y)) (statements_of (map view (drop (i + 1) xs)))) (sym is)
    ∙ ap (λ (bs : List Statement). plain bs (statements_of (map view (drop (i + 1) xs)))) (sym keeps)

-- no statement is left
pub plain_all : {X : Type 0} (view : X → Statement) (total before : List Statement) (xs : List X) (i : ℕ)
    → total ≡ plain before (statements_of (map view (drop i xs))) → length xs ≤ i → before ≡ total
plain_all view total before xs i so_far ended = sym (so_far ∙ ap (λ ys. plain before (statements_of (map view ys))) (drop_all i xs ended))

-- one more part
pub parts_more : {X : Type 0} (view : X → Part) (total before next : List Statement) (xs : List X) (i : ℕ) (x : X)
    → total ≡ tree_plain before (map view (drop i xs)) → i < length xs → x ≡ get_or xs i x → next ≡ part_kept before (view x)
    → total ≡ tree_plain next (map view (drop (i + 1) xs))
parts_more {X = X} view total before next xs i x so_far below is keeps =
    so_far
    ∙ ap (λ ys. tree_plain before (map view ys)) (drop_more xs i x below)
    ∙ ap (λ (y : X). tree_plain (part_kept before (view y)) (map view (drop (i + 1) xs))) (sym is)
    ∙ ap (λ (bs : List Statement). tree_plain bs (map view (drop (i + 1) xs))) (sym keeps)

-- no part is left
pub parts_all : {X : Type 0} (view : X → Part) (total before : List Statement) (xs : List X) (i : ℕ)
    → total ≡ tree_plain before (map view (drop i xs)) → length xs ≤ i → before ≡ total
parts_all view total before xs i so_far ended = sym (so_far ∙ ap (λ ys. tree_plain before (map view ys)) (drop_all i xs ended))

-- at most 64 statements are kept
kept_within : (before : List Statement) (s : Statement) → length before ≤ 64 → length (kept before s) ≤ 64
kept_within before s within = by (nat_le (length before) 63) refl (is_some (target s))
  where
    by : (few : Bool) → nat_le (length before) 63 ≡ few → (plainly : Bool) → length (if few && plainly then before ++ s ∷ [] else before) ≤ 64
    by true e true = omega (arith, length-append before (s ∷ []), leb-true (length before) 63 e)
    by true e false = within
    by false e plainly = within

pub plain_within : (before : List Statement) (ss : Statements) → length before ≤ 64 → length (plain before ss) ≤ 64
plain_within before no_statements within = within
plain_within before (and_statement s ss) within = plain_within (kept before s) ss (kept_within before s within)

part_within : (before : List Statement) (p : Part) → length before ≤ 64 → length (part_kept before p) ≤ 64
part_within before (import sp) within = within
part_within before (function f) within = within
part_within before (single s) within = kept_within before s within

pub parts_within : (before : List Statement) (tree : Tree) → length before ≤ 64 → length (tree_plain before tree) ≤ 64
parts_within before [] within = within
parts_within before (p ∷ ps) within = parts_within (part_kept before p) ps (part_within before p within)

pub statements_long : {A : Type 0} (xs : List (Bor (Stmt A))) → length (statements_in xs) ≡ length xs
statements_long {A = A} xs = length-map xs (λ (s : Bor (Stmt A)). statement_view s.now)

-- as many statements as their views
pub items_within : {A : Type 0} (xs : List (Bor (Stmt A))) (ss : List Statement) → statements_in xs ≡ ss → length ss ≤ 64 → length xs ≤ 64
items_within xs ss are within = subst (λ n. n ≤ 64) (ap length (sym are) ∙ statements_long xs) within

-- ROWS

-- the first n bits of a row are those of this property, and the others are not set
abbrev pub AreBits : (has : ℕ → Bool) (row n : ℕ) → Type 0
AreBits has row n = (k : ℕ) → bit_is_set row k ≡ (nat_lt k n && has k)

pub bits_none : (has : ℕ → Bool) → AreBits has 0 0
bits_none has k = ap (λ b. nat_eq b 1) (bit_at-zero k) ∙ sym (ap (λ b. b && has k) (le-ltb k 0 (omega arith)))

-- one more bit
bits_next : (has : ℕ → Bool) (n k : ℕ) → k ≢ n → (nat_lt k n && has k) ≡ (nat_lt k (n + 1) && has k)
bits_next has n k apart = ap (λ b. b && has k) (by (nat_lt k n) refl)
  where
    by : (less : Bool) → nat_lt k n ≡ less → nat_lt k n ≡ nat_lt k (n + 1)
    by true l = let m = ltb-true k n l in l ∙ sym (lt-ltb k (n + 1) (omega (arith, m)))
    by false l = let m = ltb-false k n l in l ∙ sym (le-ltb k (n + 1) (omega (arith, m, apart)))

bits_here : (has : ℕ → Bool) (n k : ℕ) (b : Bool) → k ≡ n → has n ≡ b → (nat_lt k (n + 1) && has k) ≡ b
bits_here has n k b is holds =
    ap (λ (c : Bool). c && has k) (lt-ltb k (n + 1) (omega (arith, is))) ∙ ap has is ∙ holds

bit_more : (has : ℕ → Bool) (row after n : ℕ) → AreBits has row n → has n ≡ true → ((k : ℕ) → bit_is_set after k ≡ (nat_eq k n || bit_is_set row k))
    → AreBits has after (n + 1)
bit_more has row after n so_far holds sets k = sets k ∙ by (nat_eq k n) refl
  where
    by : (same : Bool) → nat_eq k n ≡ same → (same || bit_is_set row k) ≡ (nat_lt k (n + 1) && has k)
    by true e = sym (bits_here has n k true (eqb-true k n e) holds)
    by false e = so_far k ∙ bits_next has n k (eqb-false k n e)

bit_less : (has : ℕ → Bool) (row n : ℕ) → AreBits has row n → has n ≡ false → AreBits has row (n + 1)
bit_less has row n so_far lacks k = by (nat_eq k n) refl
  where
    by : (same : Bool) → nat_eq k n ≡ same → bit_is_set row k ≡ (nat_lt k (n + 1) && has k)
    by true e =
        let at = eqb-true k n e in
        so_far k ∙ ap (λ b. b && has k) (le-ltb k n (omega (arith, at))) ∙ sym (bits_here has n k false at lacks)
    by false e = so_far k ∙ bits_next has n k (eqb-false k n e)

pub bit_next : (has : ℕ → Bool) (row after n : ℕ) (holds : Bool) → AreBits has row n → has n ≡ holds
    → ((k : ℕ) → bit_is_set after k ≡ ((holds && nat_eq k n) || bit_is_set row k)) → AreBits has after (n + 1)
bit_next has row after n true so_far is sets k = bit_more has row after n so_far is sets k
bit_next has row after n false so_far is sets k = sets k ∙ bit_less has row n so_far is k

-- no bit is left
pub bits_all : (s : Statement) (ss : List Statement) (row n : ℕ) → AreBits (λ k. both_wait (Some s) (slice_get ss k)) row n → length ss ≤ n
    → (k : ℕ) → bit_is_set row k ≡ both_wait (Some s) (slice_get ss k)
bits_all s ss row n so_far ended k = so_far k ∙ by (cases_lt k n)
  where
    by : ((k < n) ⊎ (n ≤ k)) → (nat_lt k n && both_wait (Some s) (slice_get ss k)) ≡ both_wait (Some s) (slice_get ss k)
    by (inl l) = ap (λ b. b && both_wait (Some s) (slice_get ss k)) (lt-ltb k n l)
    by (inr l) = ap (λ b. b && both_wait (Some s) (slice_get ss k)) (le-ltb k n l) ∙ sym (ap (both_wait (Some s)) (slice_get_past ss k (omega (arith, l, ended))))

-- the first n rows are those of the statements, and there are no others
abbrev pub AreRows : (ss : List Statement) (rows : List ℕ) (n : ℕ) → Type 0
AreRows ss rows n = (i k : ℕ) → in_rows rows i k ≡ (nat_lt i n && awaits ss i k)

pub rows_none : (ss : List Statement) → AreRows ss [] 0
rows_none ss i k = ap (λ r. bit_is_set r k) (get_or_past [] i 0 (omega arith)) ∙ ap (λ b. nat_eq b 1) (bit_at-zero k)
    ∙ sym (ap (λ b. b && awaits ss i k) (le-ltb i 0 (omega arith)))

-- one more row
pub row_more : (ss : List Statement) (rows : List ℕ) (n row : ℕ) (s : Statement) → AreRows ss rows n → length rows ≡ n → slice_get ss n ≡ Some s
    → ((k : ℕ) → bit_is_set row k ≡ both_wait (Some s) (slice_get ss k)) → AreRows ss (rows ++ row ∷ []) (n + 1)
row_more ss rows n row s so_far long is has i k = by (nat_eq i n) refl (nat_lt i n) refl
  where
    by : (same : Bool) → nat_eq i n ≡ same → (less : Bool) → nat_lt i n ≡ less → in_rows (rows ++ row ∷ []) i k ≡ (nat_lt i (n + 1) && awaits ss i k)
    by true e less l =
        let at = eqb-true i n e in
        ap (λ r. bit_is_set r k) (get_or_push rows row 0 i (omega (arith, long, at))) ∙ has k
        ∙ sym (bits_here (λ j. awaits ss j k) n i (both_wait (Some s) (slice_get ss k)) at (ap (λ o. both_wait o (slice_get ss k)) is))
    by false e true l =
        let below = ltb-true i n l in
        ap (λ r. bit_is_set r k) (get_or_append_left rows (row ∷ []) 0 i (omega (arith, below, long))) ∙ so_far i k
        ∙ bits_next (λ j. awaits ss j k) n i (eqb-false i n e)
    by false e false l =
        let above = ltb-false i n l in
        let apart : i ≢ n = eqb-false i n e in
        ap (λ r. bit_is_set r k) (get_or_past (rows ++ row ∷ []) i 0 (omega (arith, above, apart, long, length-append rows (row ∷ []))))
        ∙ ap (λ b. nat_eq b 1) (bit_at-zero k) ∙ sym (ap (λ b. b && awaits ss i k) (le-ltb i (n + 1) (omega (arith, above, apart))))

-- a statement at its place
pub statement_at : {A : Type 0} (xs : List (Bor (Stmt A))) (n : ℕ) (x : Bor (Stmt A)) → n < length xs → x ≡ get_or xs n x
    → slice_get (statements_in xs) n ≡ Some (statement_view x.now)
statement_at {A = A} xs n x below is =
    slice_get-map (λ (s : Bor (Stmt A)). statement_view s.now) xs n
    ∙ ap (option_map (λ (s : Bor (Stmt A)). statement_view s.now)) (slice_get-get_or xs n x below)
    ∙ ap (λ (s : Bor (Stmt A)). Some (statement_view s.now)) (sym is)

-- no row is left
pub rows_all : (ss : List Statement) (rows : List ℕ) (n : ℕ) → AreRows ss rows n → length ss ≤ n → in_rows rows ≡ awaits ss
rows_all ss rows n so_far ended = fun_ext (λ i. fun_ext (λ k. so_far i k ∙ by i k (cases_lt i n)))
  where
    by : (i k : ℕ) → ((i < n) ⊎ (n ≤ i)) → (nat_lt i n && awaits ss i k) ≡ awaits ss i k
    by i k (inl l) = ap (λ b. b && awaits ss i k) (lt-ltb i n l)
    by i k (inr l) = ap (λ b. b && awaits ss i k) (le-ltb i n l) ∙ sym (ap (λ o. both_wait o (slice_get ss k)) (slice_get_past ss i (omega (arith, l, ended))))

-- CYCLES

-- the first one of a cycle, by the rows of all ways
pub opens_by : (ss : List Statement) (rows closed : List ℕ) (i : ℕ) → in_rows rows ≡ awaits ss → in_rows closed ≡ leads (in_rows rows) (length rows)
    → length rows ≡ length ss → length closed ≡ length rows → meets_first (in_rows closed) (length closed) i ≡ opens_cycle ss i
opens_by ss rows closed i are led rows_long closed_long =
    ap (λ r. meets_first r (length closed) i) (led ∙ ap (λ r. leads r (length rows)) are ∙ ap (leads (awaits ss)) rows_long)
    ∙ ap (λ n. meets_first (leads (awaits ss) (length ss)) n i) (closed_long ∙ rows_long)

-- one more statement
pub cycles_more : {X : Type 0} (view : X → Statement) (ss : List Statement) (total front after : List NameUse) (xs : List X) (i : ℕ) (x : X)
    → total ≡ front ++ cycles_from ss i (map view (drop i xs)) → i < length xs → x ≡ get_or xs i x
    → after ≡ front ++ cycle_at (opens_cycle ss i) (view x) → total ≡ after ++ cycles_from ss (i + 1) (map view (drop (i + 1) xs))
cycles_more {X = X} view ss total front after xs i x so_far below is adds =
    let rest = cycles_from ss (i + 1) (map view (drop (i + 1) xs)) in
    so_far
    ∙ ap (λ ys. front ++ cycles_from ss i (map view ys)) (drop_more xs i x below)
    ∙ ap (λ (y : X). front ++ (cycle_at (opens_cycle ss i) (view y) ++ rest)) (sym is)
    ∙ sym (append_assoc front (cycle_at (opens_cycle ss i) (view x)) rest)
    ∙ ap (λ (w : List NameUse). w ++ rest) (sym adds)

-- no statement is left
pub cycles_all : {X : Type 0} (view : X → Statement) (ss : List Statement) (total front : List NameUse) (xs : List X) (i : ℕ)
    → total ≡ front ++ cycles_from ss i (map view (drop i xs)) → length xs ≤ i → front ≡ total
cycles_all view ss total front xs i so_far ended =
    sym (so_far ∙ ap (λ ys. front ++ cycles_from ss i (map view ys)) (drop_all i xs ended) ∙ append-nil front)
