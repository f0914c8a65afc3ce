-- How often a number stands in lists one after another.
use Rattle.std.specs.Prelude.{◌≡◌, ℕ, zero, suc, ◌+◌, ◌<◌, ◌≤◌, Bool, true, false, cond, nat_eq, List, [], ◌∷◌, ◌++◌, length, drop, map, Vec, Box, refl}
use Rattle.std.specs.List.{flat_map}
use Rattle.std.proofs.Common.{rules, arith, sym, ap, ◌∙◌, get_or}
use Rattle.std.proofs.lemmas.List.{drop_more}
use Rattle.flow.specs.declared.cell.CellPart.{CellPart}
use Rattle.flow.specs.declared.name.Name.{Name}
use Rattle.flow.specs.declared.statement.Block.{Block}
use Rattle.flow.specs.declared.statement.Action.{Wait, the_lemmas}
use Rattle.flow.specs.declared.statement.Header.{Header}
use Rattle.flow.specs.declared.statement.Statement.{Statement, out-Statement}
use Rattle.flow.specs.View.{action_view, awaited_view, block_of, block_view, name_view, names_view, part_view, parts_view, statement_view, statements_view, waits_around}
use Rattle.language.specs.Core as core
use Rattle.language.specs.Parts.{outer_parts}
use Rattle.flow.specs.declared.declaring.Multiplicity.{Multiplicity}
use Rattle.flow.specs.Names.{action_nodes, block_nodes, here_nodes, part_nodes, stmt_nodes}
use Rattle.flow.specs.Viewed.{number_as, plus, times_as}
use Rattle.flow.specs.Whole.{times}

pub view_wait : {A : Type 0} → (ns : Vec Name A) (hs : Vec (Header A) A) (b : Box (Block A) A)
    → action_view (Wait ns hs b) ≡ core.wait (map awaited_view ns.items) (waits_around hs.items (block_view b.value))
view_wait ns hs b = search (rules, the_lemmas)

pub view_statement : (A : Type 0) → (s : Statement A) → statement_view s ≡ core.stmt (out-Statement A s).at (out-Statement A s).node (action_view (out-Statement A s).action)
view_statement A s = search (rules, the_lemmas)

pub times-append : (n : ℕ) (xs ys : List ℕ) → times n (xs ++ ys) ≡ times n xs + times n ys
times-append n [] ys = omega arith
times-append n (x ∷ xs) ys = by (nat_eq n x) (times-append n xs ys)
  where
    by : (b : Bool) → times n (xs ++ ys) ≡ times n xs + times n ys → cond b (suc (times n (xs ++ ys))) (times n (xs ++ ys)) ≡ cond b (suc (times n xs)) (times n xs) + times n ys
    by true h = omega arith
    by false h = h

often : (k : ℕ) → 2 ≤ k → number_as k ≡ Multiplicity.Often
often zero h = absurd (omega (arith, h))
often (suc zero) h = absurd (omega (arith, h))
often (suc (suc k)) h = refl

number_plus : (m k : ℕ) → number_as (m + k) ≡ plus (number_as m) (number_as k)
number_plus zero k = ap number_as (omega arith)
number_plus (suc zero) zero = refl
number_plus (suc zero) (suc zero) = refl
number_plus (suc zero) (suc (suc k)) = often (suc zero + suc (suc k)) (omega arith)
number_plus (suc (suc m)) zero = often (suc (suc m) + zero) (omega arith)
number_plus (suc (suc m)) (suc zero) = often (suc (suc m) + suc zero) (omega arith)
number_plus (suc (suc m)) (suc (suc k)) = often (suc (suc m) + suc (suc k)) (omega arith)

pub times_plus : (n : ℕ) (xs ys : List ℕ) → times_as n (xs ++ ys) ≡ plus (times_as n xs) (times_as n ys)
times_plus n xs ys = ap number_as (times-append n xs ys) ∙ number_plus (times n xs) (times n ys)

pub plus_never : (t : Multiplicity) → plus t Multiplicity.Never ≡ t
plus_never Multiplicity.Never = refl
plus_never Multiplicity.Once = refl
plus_never Multiplicity.Often = refl

plus_assoc : (a b c : Multiplicity) → plus (plus a b) c ≡ plus a (plus b c)
plus_assoc Multiplicity.Never b c = refl
plus_assoc Multiplicity.Once Multiplicity.Never c = refl
plus_assoc Multiplicity.Once Multiplicity.Once Multiplicity.Never = refl
plus_assoc Multiplicity.Once Multiplicity.Once Multiplicity.Once = refl
plus_assoc Multiplicity.Once Multiplicity.Once Multiplicity.Often = refl
plus_assoc Multiplicity.Once Multiplicity.Often Multiplicity.Never = refl
plus_assoc Multiplicity.Once Multiplicity.Often Multiplicity.Once = refl
plus_assoc Multiplicity.Once Multiplicity.Often Multiplicity.Often = refl
plus_assoc Multiplicity.Often Multiplicity.Never c = refl
plus_assoc Multiplicity.Often Multiplicity.Once Multiplicity.Never = refl
plus_assoc Multiplicity.Often Multiplicity.Once Multiplicity.Once = refl
plus_assoc Multiplicity.Often Multiplicity.Once Multiplicity.Often = refl
plus_assoc Multiplicity.Often Multiplicity.Often Multiplicity.Never = refl
plus_assoc Multiplicity.Often Multiplicity.Often Multiplicity.Once = refl
plus_assoc Multiplicity.Often Multiplicity.Often Multiplicity.Often = refl

-- what was counted, with what a next piece gives
pub one_more : (n : ℕ) (t : Multiplicity) (xs ys : List ℕ) → plus t (times_as n (xs ++ ys)) ≡ plus (plus t (times_as n xs)) (times_as n ys)
one_more n t xs ys = ap (plus t) (times_plus n xs ys) ∙ sym (plus_assoc t (times_as n xs) (times_as n ys))

pub parts_step : {A : Type 0} (ps : List (CellPart A)) (i : ℕ) (d : CellPart A) → i < length ps
    → flat_map part_nodes (parts_view (drop i ps)) ≡ part_nodes (part_view (get_or ps i d)) ++ flat_map part_nodes (parts_view (drop (i + 1) ps))
parts_step ps i d l = ap (λ z. flat_map part_nodes (parts_view z)) (drop_more ps i d l)

pub names_step : (xs : List Name) (i : ℕ) (d : Name) → i < length xs
    → flat_map here_nodes (names_view (drop i xs)) ≡ here_nodes (name_view (get_or xs i d)) ++ flat_map here_nodes (names_view (drop (i + 1) xs))
names_step xs i d l = ap (λ z. flat_map here_nodes (names_view z)) (drop_more xs i d l)

pub stmts_step : (A : Type 0) (ss : List (Statement A)) (i : ℕ) (d : Statement A) → i < length ss
    → block_nodes (block_of (statements_view (drop i ss))) ≡ action_nodes (action_view (out-Statement A (get_or ss i d)).action) ++ block_nodes (block_of (statements_view (drop (i + 1) ss)))
stmts_step A ss i d l =
    ap (λ (z : List (Statement A)). block_nodes (block_of (statements_view z))) (drop_more ss i d l)
    ∙ ap (λ (z : core.Stmt). stmt_nodes z ++ block_nodes (block_of (statements_view (drop (i + 1) ss)))) (view_statement A (get_or ss i d))

flat_append : (xs ys : List core.Part) → flat_map part_nodes (xs ++ ys) ≡ flat_map part_nodes xs ++ flat_map part_nodes ys
flat_append [] ys = refl
flat_append (x ∷ xs) ys = ap (λ z. part_nodes x ++ z) (flat_append xs ys) ∙ sym (append-assoc (part_nodes x) (flat_map part_nodes xs) (flat_map part_nodes ys))
  where
    append-assoc : (ks ms ns : List ℕ) → (ks ++ ms) ++ ns ≡ ks ++ (ms ++ ns)
    append-assoc [] ms ns = refl
    append-assoc (k ∷ ks) ms ns = ap (λ z. k ∷ z) (append-assoc ks ms ns)

-- an outermost cell stands behind its parts
pub outer_times : (n : ℕ) (o : core.Outer) → times_as n (flat_map part_nodes (outer_parts (o ∷ []))) ≡ plus (times_as n (flat_map part_nodes o.parts)) (times_as n (o.cell.node ∷ []))
outer_times n o = ap (times_as n) (flat_append o.parts (core.inner o.cell ∷ [])) ∙ times_plus n (flat_map part_nodes o.parts) (o.cell.node ∷ [])

pub outer_more : (n : ℕ) (o : core.Outer) (os : List core.Outer)
    → times_as n (flat_map part_nodes (outer_parts (o ∷ os))) ≡ plus (times_as n (flat_map part_nodes (outer_parts (o ∷ [])))) (times_as n (flat_map part_nodes (outer_parts os)))
outer_more n o os =
    ap (times_as n) (flat_append o.parts (core.inner o.cell ∷ outer_parts os))
    ∙ times_plus n (flat_map part_nodes o.parts) (o.cell.node ∷ flat_map part_nodes (outer_parts os))
    ∙ ap (plus (times_as n (flat_map part_nodes o.parts))) (times_plus n (o.cell.node ∷ []) (flat_map part_nodes (outer_parts os)))
    ∙ sym (plus_assoc (times_as n (flat_map part_nodes o.parts)) (times_as n (o.cell.node ∷ [])) (times_as n (flat_map part_nodes (outer_parts os))))
    ∙ ap (λ z. plus z (times_as n (flat_map part_nodes (outer_parts os)))) (sym (outer_times n o))
