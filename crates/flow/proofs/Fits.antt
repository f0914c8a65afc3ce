-- Names, parts and statements that fit, one after another.
use Rattle.std.specs.Prelude.{◌≡◌, ℕ, suc, ◌+◌, ◌<◌, Bool, true, false, ◌&&◌, List, [], ◌∷◌, ◌++◌, length, drop, map, refl}
use Rattle.std.specs.List.{list_all}
use Rattle.std.proofs.Common.{sym, ap, ◌∙◌, get_or}
use Rattle.std.proofs.lemmas.List.{drop_more}
use Rattle.flow.specs.declared.cell.CellPart.{CellPart}
use Rattle.flow.specs.declared.expression.Expr.{Expr}
use Rattle.flow.specs.declared.name.Name.{Name}
use Rattle.flow.specs.declared.script.Function.{Function}
use Rattle.flow.specs.declared.statement.Header.{Header}
use Rattle.flow.specs.declared.statement.Statement.{Statement, out-Statement}
use Rattle.flow.specs.View.{action_view, awaited_view, block_of, expr_view, exprs_view, function_view, name_view, names_view, part_view, parts_view, statement_view, statements_view, waits_around}
use Rattle.language.specs.Core as core
use Rattle.language.specs.declared.tree.Shape.{Shape}
use Rattle.language.specs.Parts.{outer_parts}
use Rattle.language.specs.Resolved.{awaited_as}
use Rattle.flow.specs.Names.{awaited_name, expr_names, exprs_names}
use Rattle.flow.specs.Tests.{are_declared, fits, fits_inside, fits_stmt, function_fits, headers_fit, is_declared, is_fit, part_fits, parts_fit}
use Rattle.flow.specs.Whole.{Owner, in_content}
use Rattle.flow.proofs.Times.{view_statement}

pub and_true : {a : Bool} (b : Bool) → a ≡ true → a && b ≡ b
and_true b h = ap (λ (z : Bool). z && b) h

pub and_false : {a : Bool} (b : Bool) → a ≡ false → false ≡ a && b
and_false b h = sym (ap (λ (z : Bool). z && b) h)

and_assoc : (a b c : Bool) → (a && b) && c ≡ a && (b && c)
and_assoc true b c = refl
and_assoc false b c = refl

all-append : {X : Type 0} (p : X → Bool) (xs ys : List X) → list_all p (xs ++ ys) ≡ list_all p xs && list_all p ys
all-append p [] ys = refl
all-append p (x ∷ xs) ys = ap (λ z. p x && z) (all-append p xs ys) ∙ sym (and_assoc (p x) (list_all p xs) (list_all p ys))

pub names_append : (os : List Owner) (xs ys : List core.Name) → are_declared os (xs ++ ys) ≡ are_declared os xs && are_declared os ys
names_append os xs ys = all-append (is_declared os) xs ys

pub parts_append : (os : List Owner) (fs : ℕ) (ps qs : List core.Part) → parts_fit os fs (ps ++ qs) ≡ parts_fit os fs ps && parts_fit os fs qs
parts_append os fs ps qs = all-append (part_fits os fs) ps qs

pub and_one : (a : Bool) → a && true ≡ a
and_one true = refl
and_one false = refl

pub one_part : (os : List Owner) (fs : ℕ) (p : core.Part) → parts_fit os fs (p ∷ []) ≡ part_fits os fs p
one_part os fs p = and_one (part_fits os fs p)

pub one_name : (os : List Owner) (x : core.Name) → are_declared os (x ∷ []) ≡ is_declared os x
one_name os x = and_one (is_declared os x)

-- an outermost cell stands behind its parts, and the next one behind it
pub outer_fits : (os : List Owner) (fs : ℕ) (o : core.Outer) → parts_fit os fs (outer_parts (o ∷ [])) ≡ parts_fit os fs o.parts && part_fits os fs (core.inner o.cell)
outer_fits os fs o = parts_append os fs o.parts (core.inner o.cell ∷ []) ∙ ap (λ z. parts_fit os fs o.parts && z) (one_part os fs (core.inner o.cell))

pub outers_fit : (os : List Owner) (fs : ℕ) (o : core.Outer) (more : List core.Outer)
    → parts_fit os fs (outer_parts (o ∷ more)) ≡ parts_fit os fs (outer_parts (o ∷ [])) && parts_fit os fs (outer_parts more)
outers_fit os fs o more =
    parts_append os fs o.parts (core.inner o.cell ∷ outer_parts more)
    ∙ sym (and_assoc (parts_fit os fs o.parts) (part_fits os fs (core.inner o.cell)) (parts_fit os fs (outer_parts more)))
    ∙ ap (λ z. z && parts_fit os fs (outer_parts more)) (sym (outer_fits os fs o))

-- STEPS

pub names_step : (os : List Owner) (xs : List Name) (i : ℕ) (d : Name) → i < length xs
    → are_declared os (names_view (drop i xs)) ≡ is_declared os (name_view (get_or xs i d)) && are_declared os (names_view (drop (i + 1) xs))
names_step os xs i d l = ap (λ z. are_declared os (names_view z)) (drop_more xs i d l)

pub exprs_step : (A : Type 0) (os : List Owner) (es : List (Expr A)) (i : ℕ) (d : Expr A) → i < length es
    → are_declared os (exprs_names (exprs_view (drop i es))) ≡ are_declared os (expr_names (expr_view (get_or es i d))) && are_declared os (exprs_names (exprs_view (drop (i + 1) es)))
exprs_step A os es i d l =
    ap (λ (z : List (Expr A)). are_declared os (exprs_names (exprs_view z))) (drop_more es i d l)
    ∙ names_append os (expr_names (expr_view (get_or es i d))) (exprs_names (exprs_view (drop (i + 1) es)))

pub parts_step : {A : Type 0} (os : List Owner) (fs : ℕ) (ps : List (CellPart A)) (i : ℕ) (d : CellPart A) → i < length ps
    → parts_fit os fs (parts_view (drop i ps)) ≡ part_fits os fs (part_view (get_or ps i d)) && parts_fit os fs (parts_view (drop (i + 1) ps))
parts_step os fs ps i d l = ap (λ z. parts_fit os fs (parts_view z)) (drop_more ps i d l)

pub stmts_step : (A : Type 0) (os : List Owner) (fs : ℕ) (ss : List (Statement A)) (i : ℕ) (d : Statement A) → i < length ss
    → fits os fs (block_of (statements_view (drop i ss))) ≡ fits_stmt os fs (statement_view (get_or ss i d)) && fits os fs (block_of (statements_view (drop (i + 1) ss)))
stmts_step A os fs ss i d l = ap (λ (z : List (Statement A)). fits os fs (block_of (statements_view z))) (drop_more ss i d l)

-- a statement by what it does
pub stmt_fits : (A : Type 0) (os : List Owner) (fs : ℕ) (s : Statement A)
    → fits_stmt os fs (statement_view s) ≡ is_fit os fs (action_view (out-Statement A s).action) && fits_inside os fs (action_view (out-Statement A s).action)
stmt_fits A os fs s = ap (fits_stmt os fs) (view_statement A s)

pub functions_step : (A : Type 0) (n : ℕ) (fs : List (Function A)) (i : ℕ) (d : Function A) → i < length fs
    → list_all (function_fits n) (map function_view (drop i fs)) ≡ function_fits n (function_view (get_or fs i d)) && list_all (function_fits n) (map function_view (drop (i + 1) fs))
functions_step A n fs i d l = ap (λ (z : List (Function A)). list_all (function_fits n) (map function_view z)) (drop_more fs i d l)

-- WAITS

shape_name : (s : Shape) (x : core.Name) → awaited_name (awaited_as s x) ≡ x
shape_name Shape.Scalar x = refl
shape_name (Shape.Array κ) x = refl

pub awaited_names : (xs : List Name) → map awaited_name (map awaited_view xs) ≡ names_view xs
awaited_names [] = refl
awaited_names (x ∷ xs) = ap (λ z. z ∷ map awaited_name (map awaited_view xs)) (shape_name x.shape (name_view x)) ∙ ap (λ z. name_view x ∷ z) (awaited_names xs)

pub headers_step : {A : Type 0} (os : List Owner) (hs : List (Header A)) (i : ℕ) (d : Header A) → i < length hs
    → headers_fit os (drop i hs) ≡ are_declared os (names_view (get_or hs i d).names.items) && headers_fit os (drop (i + 1) hs)
headers_step os hs i d l = ap (headers_fit os) (drop_more hs i d l)

-- a block that is one `wait` declares nothing
one_wait : {A : Type 0} (os : List Owner) (h : Header A) (hs : List (Header A)) (b : core.Block) → in_content (waits_around (h ∷ hs) b) os ≡ os
one_wait [] h hs b = refl
one_wait (o ∷ os) h hs b = refl

-- waits one in another fit where each waits for what is declared, and what is in the innermost fits
pub waits_fit : {A : Type 0} (os : List Owner) (fs : ℕ) (hs : List (Header A)) (b : core.Block)
    → fits (in_content (waits_around hs b) os) fs (waits_around hs b) ≡ headers_fit os hs && fits (in_content b os) fs b
waits_fit os fs [] b = refl
waits_fit {A} os fs (h ∷ hs) b =
    let around = waits_around hs b in
    let inner = fits (in_content around os) fs around in
    ap (λ z. fits z fs (waits_around (h ∷ hs) b)) (one_wait os h hs b)
    ∙ and_one ((are_declared os (map awaited_name (map awaited_view h.names.items)) && true) && inner)
    ∙ ap (λ z. z && inner) (and_one (are_declared os (map awaited_name (map awaited_view h.names.items))) ∙ ap (are_declared os) (awaited_names h.names.items))
    ∙ ap (λ z. are_declared os (names_view h.names.items) && z) (waits_fit os fs hs b)
    ∙ sym (and_assoc (are_declared os (names_view h.names.items)) (headers_fit os hs) (fits (in_content b os) fs b))

pub length-map : {X Y : Type 0} (f : X → Y) (xs : List X) → length (map f xs) ≡ length xs
length-map f [] = refl
length-map f (x ∷ xs) = ap (λ z. suc z) (length-map f xs)
