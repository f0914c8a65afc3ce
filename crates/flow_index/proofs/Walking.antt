-- The statements of blocks inside others, one after another.
use Rattle.std.specs.Prelude.{◌≡◌, ℕ, zero, suc, ◌+◌, ◌<◌, List, [], ◌∷◌, ◌++◌, length, drop, map, option_map, Option, Vec, Box, refl}
use Rattle.std.proofs.Common.{rules, arith, sym, ap, ◌∙◌, get_or}
use Rattle.std.proofs.lemmas.List.{append_assoc, append-nil, drop_more}
use Rattle.flow.specs.declared.name.Name.{Name}
use Rattle.flow.specs.declared.statement.Block.{Block, out-Block}
use Rattle.flow.specs.declared.statement.Action.{Action, Choose, Each, Range, Wait, When, the_lemmas}
use Rattle.flow.specs.declared.cell.OuterCell.{OuterCell}
use Rattle.flow.specs.declared.statement.Header.{Header}
use Rattle.flow.specs.declared.statement.Range.{Range as Ranged}
use Rattle.flow.specs.declared.statement.Variable.{Variable}
use Rattle.flow.specs.declared.statement.Statement.{Statement, out-Statement}
use Rattle.flow.specs.declared.script.Function.{Function}
use Rattle.flow.specs.View.{action_view, awaited_view, block_of, block_view, function_view, name_view, outer_view, statement_view, statements_view, waits_around}
use Rattle.language.specs.Core as core
use Rattle.language.specs.Core.{Stmt}
use Rattle.language.specs.Parts.{block_list, blocks_below, blocks_inside, blocks_in, blocks_of, function_blocks, stmts_among, stmts_within}
use Rattle.flow_index.specs.Waits.{waits_inside}

pub view_wait : {A : Type 0} → (ns : Vec Name A) (hs : Vec (Header A) A) (b : Box (Block A) A)
    → action_view (Wait ns hs b) ≡ core.wait (map awaited_view ns.items) (waits_around hs.items (block_view b.value))
view_wait ns hs b = search (rules, the_lemmas)

pub view_choose : {A : Type 0} → (c : Box (OuterCell A) A) (b d : Box (Block A) A)
    → action_view (Choose c b d) ≡ core.choose (outer_view c.value) (block_view b.value) (block_view d.value)
view_choose c b d = search (rules, the_lemmas)

pub view_statement : (A : Type 0) → (s : Statement A) → statement_view s ≡ core.stmt (out-Statement A s).at (out-Statement A s).node (action_view (out-Statement A s).action)
view_statement A s = search (rules, the_lemmas)

pub view_block : (A : Type 0) → (b : Block A) → block_view b ≡ block_of (statements_view (out-Block A b).statements.items)
view_block A b = search (rules, the_lemmas)

pub among_joins : (bs cs : List core.Block) → stmts_among (bs ++ cs) ≡ stmts_among bs ++ stmts_among cs
among_joins [] cs = refl
among_joins (b ∷ bs) cs = ap (λ (z : List Stmt). block_list b ++ z) (among_joins bs cs) ∙ sym (append_assoc (block_list b) (stmts_among bs) (stmts_among cs))

pub list_of_block : (ss : List Stmt) → block_list (block_of ss) ≡ ss
list_of_block [] = refl
list_of_block (s ∷ ss) = ap (λ (z : List Stmt). s ∷ z) (list_of_block ss)

-- waits one in another, with nothing beside them, and what is inside of the innermost
pub waits_within : {A : Type 0} (hs : List (Header A)) (b : core.Block) → stmts_within (waits_around hs b) ≡ waits_inside hs b ++ stmts_within b
waits_within [] b = refl
waits_within (h ∷ hs) b =
    let x = core.stmt h.at h.node (core.wait (map awaited_view h.names.items) (waits_around hs b)) in
    ap (λ (z : List core.Block). x ∷ stmts_among z) (append-nil (blocks_of (waits_around hs b)))
    ∙ ap (λ (z : List Stmt). x ∷ z) (waits_within hs b)

-- what is inside of statements
abbrev pub below_of : (A : Type 0) → List (Statement A) → List Stmt
below_of A ss = stmts_among (blocks_below (block_of (statements_view ss)))

abbrev pub inside_of : (A : Type 0) → Statement A → List Stmt
inside_of A s = stmts_among (blocks_inside (action_view (out-Statement A s).action))

pub below_more : (A : Type 0) (s : Statement A) (ss : List (Statement A)) → below_of A (s ∷ ss) ≡ inside_of A s ++ below_of A ss
below_more A s ss =
    let rest = blocks_below (block_of (statements_view ss)) in
    ap (λ (z : Stmt). stmts_among (blocks_in z ++ rest)) (view_statement A s)
    ∙ among_joins (blocks_inside (action_view (out-Statement A s).action)) rest

-- what is inside of functions
abbrev pub functions_of : (A : Type 0) → List (Function A) → List Stmt
functions_of A fs = stmts_among (function_blocks (map function_view fs))

pub functions_more : (A : Type 0) (f : Function A) (fs : List (Function A)) → functions_of A (f ∷ fs) ≡ stmts_within (block_view f.body) ++ functions_of A fs
functions_more A f fs = among_joins (blocks_of (block_view f.body)) (function_blocks (map function_view fs))

-- waits one in another, with one more
pub waits_step : {A : Type 0} (ws : List (Header A)) (b : core.Block) (i : ℕ) (d : Header A) (whole before behind : List Stmt) → i < length ws → whole ≡ before ++ waits_inside (drop i ws) b
    → behind ≡ before ++ core.stmt (get_or ws i d).at (get_or ws i d).node (core.wait (map awaited_view (get_or ws i d).names.items) (waits_around (drop (i + 1) ws) b)) ∷ []
    → whole ≡ behind ++ waits_inside (drop (i + 1) ws) b
waits_step {A} ws b i d whole before behind l e f =
    let rest = drop (i + 1) ws in
    let h = get_or ws i d in
    e ∙ ap (λ (z : List (Header A)). before ++ waits_inside z b) (drop_more ws i d l)
    ∙ sym (append_assoc before (core.stmt h.at h.node (core.wait (map awaited_view h.names.items) (waits_around rest b)) ∷ []) (waits_inside rest b))
    ∙ ap (λ (z : List Stmt). z ++ waits_inside rest b) (sym f)

pub got_again : {X : Type 0} (xs : List X) (i : ℕ) (d : X) → i < length xs → get_or xs i (get_or xs i d) ≡ get_or xs i d
got_again [] i d l = absurd (omega (arith, l))
got_again (x ∷ xs) zero d l = refl
got_again (x ∷ xs) (suc i) d l = got_again xs i d (omega (arith, l))

-- a block's own statements, and what is inside of them
pub within_block : (A : Type 0) (b : Block A) → stmts_within (block_view b) ≡ block_list (block_view b) ++ below_of A (out-Block A b).statements.items
within_block A b = ap (λ (z : core.Block). block_list (block_view b) ++ stmts_among (blocks_below z)) (view_block A b)

pub listed_block : (A : Type 0) (b : Block A) → block_list (block_view b) ≡ statements_view (out-Block A b).statements.items
listed_block A b = ap block_list (view_block A b) ∙ list_of_block (statements_view (out-Block A b).statements.items)

-- WHAT A STATEMENT ADDS

pub inside_when : {A : Type 0} (c : Box (OuterCell A) A) (b : Box (Block A) A) → blocks_inside (action_view (When c b)) ≡ blocks_of (block_view b.value)
inside_when c b =
    let view : action_view (When c b) ≡ core.when (outer_view c.value) (block_view b.value) = search (rules, the_lemmas) in
    ap blocks_inside view

pub inside_range : {A : Type 0} (r : Box (Ranged A) A) (v : Variable A) (k : Option (Variable A)) (b : Box (Block A) A)
    → blocks_inside (action_view (Range r v k b)) ≡ blocks_of (block_view b.value)
inside_range {A} r v k b =
    let view : action_view (Range r v k b)
    ≡ core.range (outer_view r.value.low) (outer_view r.value.high) (option_map outer_view r.value.step) v.node (option_map (λ (x : Variable A). x.node) k) (block_view b.value) = search (rules, the_lemmas) in
    ap blocks_inside view

pub inside_each : {A : Type 0} (x : Name) (v : Variable A) (k : Option (Variable A)) (b : Box (Block A) A)
    → blocks_inside (action_view (Each x v k b)) ≡ blocks_of (block_view b.value)
inside_each {A} x v k b =
    let view : action_view (Each x v k b) ≡ core.each (name_view x) v.node (option_map (λ (y : Variable A). y.node) k) (block_view b.value) = search (rules, the_lemmas) in
    ap blocks_inside view

pub one_within : {A : Type 0} (a : Action A) (x b : Block A) (old made : List Stmt) → blocks_inside (action_view a) ≡ blocks_of (block_view b) → x ≡ b
    → made ≡ old ++ stmts_within (block_view x) → made ≡ old ++ stmts_among (blocks_inside (action_view a))
one_within a x b old made e q h =
    h ∙ ap (λ (z : Block _). old ++ stmts_within (block_view z)) q ∙ ap (λ (z : List core.Block). old ++ stmts_among z) (sym e)

pub two_within : {A : Type 0} (a : Action A) (c : Box (OuterCell A) A) (b d : Box (Block A) A) (x y : Block A) (old half made : List Stmt) → a ≡ Choose c b d → x ≡ b.value → y ≡ d.value
    → half ≡ old ++ stmts_within (block_view x) → made ≡ half ++ stmts_within (block_view y) → made ≡ old ++ stmts_among (blocks_inside (action_view a))
two_within {A} a c b d x y old half made e p q g h =
    let first = blocks_of (block_view b.value) in
    let second = blocks_of (block_view d.value) in
    h ∙ ap (λ (z : Block A). half ++ stmts_within (block_view z)) q
    ∙ ap (λ (z : List Stmt). z ++ stmts_among second) (g ∙ ap (λ (z : Block A). old ++ stmts_within (block_view z)) p)
    ∙ append_assoc old (stmts_among first) (stmts_among second)
    ∙ ap (λ (z : List Stmt). old ++ z) (sym (among_joins first second))
    ∙ ap (λ (z : core.Action). old ++ stmts_among (blocks_inside z)) (sym (ap (action_view {A = A}) e ∙ view_choose c b d))

pub wait_within : {A : Type 0} (a : Action A) (ns : Vec Name A) (hs : Vec (Header A) A) (b : Box (Block A) A) (ws : List (Header A)) (x y : Block A) (old half made : List Stmt) → a ≡ Wait ns hs b → ws ≡ hs.items → x ≡ b.value → y ≡ b.value
    → half ≡ old ++ waits_inside ws (block_view x) → made ≡ half ++ stmts_within (block_view y) → made ≡ old ++ stmts_among (blocks_inside (action_view a))
wait_within {A} a ns hs b ws x y old half made e r p q g h =
    let inside = block_view b.value in
    h ∙ ap (λ (z : Block A). half ++ stmts_within (block_view z)) q
    ∙ ap (λ (z : List Stmt). z ++ stmts_within inside) (g ∙ ap (λ (z : List (Header A)). old ++ waits_inside z (block_view x)) r ∙ ap (λ (z : Block A). old ++ waits_inside hs.items (block_view z)) p)
    ∙ append_assoc old (waits_inside hs.items inside) (stmts_within inside)
    ∙ ap (λ (z : List Stmt). old ++ z) (sym (waits_within hs.items inside))
    ∙ ap (λ (z : core.Action). old ++ stmts_among (blocks_inside z)) (sym (ap (action_view {A = A}) e ∙ view_wait ns hs b))
