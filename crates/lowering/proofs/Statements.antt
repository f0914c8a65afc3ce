-- Statements of a core, one after another.
use Rattle.std.proofs.Common.{◌≡◌, ℕ, List, [], ◌∷◌, ◌++◌, map, length, Option, Some, None, refl, sym, ap, ap₂, ◌∙◌, append_assoc}
use Rattle.std.proofs.lemmas.List.{length-map}
use Rattle.language.specs.declared.tree.Shape.{Shape}
use Rattle.language.specs.Tree as T
use Rattle.language.specs.Tree.{Node, Declaration, RightSide, Command, Statement, statement, statements_of, choice, choice_else, loop, waits, Body, body, Part, import, function, single, Tree}
use Rattle.language.specs.Table.{Table}
use Rattle.language.specs.Core.{Name, here, Action, declare, Stmt, stmt, Block, no_stmts, stmts, Function}
use Rattle.language.specs.Parts.{block_list}
use Rattle.language.specs.Resolved.{with_command, right_of, block_of, block_in, functions_of}
use Rattle.flow.specs.View as seen
use Rattle.lowering.specs.View.{command_alone, statement_alone, statements_among, own_statements}

-- a block is its statements
pub block_listed : (b : Block) → seen.block_of (block_list b) ≡ b
block_listed no_stmts = refl
block_listed (stmts s b) = ap (stmts s) (block_listed b)

-- a form of statement stands before what is behind it
command_first : (t : Table) (nd : Node) (c : Command) (b : Block) → block_list (with_command t nd c b) ≡ command_alone t nd c ++ block_list b
command_first t nd (T.declare d None) b = refl
command_first t nd (T.declare d (Some r)) b = refl
command_first t nd (T.assign w r) b = refl
command_first t nd (T.write w i e) b = refl
command_first t nd (T.assign_all ws c) b = refl
command_first t nd (T.calls p c) b = refl
command_first t nd (choice e d) b = refl
command_first t nd (choice_else e d other) b = refl
command_first t nd (loop v k o d) b = refl
command_first t nd (waits ws d) b = refl

pub statement_first : (t : Table) (s : Statement) (ss : List Statement) → statements_among t (s ∷ ss) ≡ statement_alone t s ++ statements_among t ss
statement_first t (statement nd c) ss = command_first t nd c (block_in t (statements_of ss))

pub part_first : (t : Table) (p : Part) (ps : Tree) → own_statements t (p ∷ ps) ≡ own_statements t (p ∷ []) ++ own_statements t ps
part_first t (import sp) ps = refl
part_first t (function f) ps = refl
part_first t (single (statement nd c)) ps = command_first t nd c _

pub function_first : (t : Table) (p : Part) (ps : Tree) → functions_of t (p ∷ ps) ≡ functions_of t (p ∷ []) ++ functions_of t ps
function_first t (import sp) ps = refl
function_first t (function f) ps = refl
function_first t (single s) ps = refl

-- WHAT WAS ADDED

-- one statement for a form
pub one_form : (t : Table) (nd : Node) (k k' : Command) (old now : List Stmt) (a b : Action) → k ≡ k' → command_alone t nd k' ≡ stmt nd.first.from nd.number b ∷ []
    → now ≡ old ++ stmt nd.first.from nd.number a ∷ [] → a ≡ b → now ≡ old ++ command_alone t nd k
one_form t nd k k' old now a b is alone adds does =
    adds ∙ ap (λ (y : Action). old ++ stmt nd.first.from nd.number y ∷ []) does ∙ sym (ap (λ (ys : List Stmt). old ++ ys) (ap (command_alone t nd) is ∙ alone))

-- a declaration, and then its right side
pub declared_with : (t : Table) (nd : Node) (d : Declaration) (r : RightSide) (o : Option RightSide) (old mid now : List Stmt) (v a : Action) (x : Name) (s : Shape)
    → o ≡ Some r → mid ≡ old ++ stmt nd.first.from nd.number v ∷ [] → v ≡ declare d.name.number
    → now ≡ mid ++ stmt nd.first.from nd.number a ∷ [] → a ≡ right_of t x s r → x ≡ here d.name.number → s ≡ d.shape
    → now ≡ old ++ command_alone t nd (T.declare d o)
declared_with t nd d r o old mid now v a x s some first variable second does name shape =
    second
    ∙ ap (λ (ys : List Stmt). ys ++ stmt nd.first.from nd.number a ∷ []) first
    ∙ append_assoc old (stmt nd.first.from nd.number v ∷ []) (stmt nd.first.from nd.number a ∷ [])
    ∙ ap₂ (λ (y z : Action). old ++ stmt nd.first.from nd.number y ∷ stmt nd.first.from nd.number z ∷ []) variable
    (does ∙ ap (λ (y : Name). right_of t y s r) name ∙ ap (λ (z : Shape). right_of t (here d.name.number) z r) shape)
    ∙ ap (λ (p : Option RightSide). old ++ command_alone t nd (T.declare d p)) (sym some)

-- the statements of a block, where none was there before
pub gathered : (b : Block) (start now : List Stmt) → start ≡ [] → now ≡ start ++ block_list b → seen.block_of now ≡ b
gathered b start now empty adds = ap seen.block_of (adds ∙ ap (λ (ys : List Stmt). ys ++ block_list b) empty) ∙ block_listed b

pub block_found : (t : Table) (n : ℕ) (ss : List Statement) (b : Body) (start now : List Stmt) → start ≡ [] → now ≡ start ++ statements_among t ss → b ≡ body n (statements_of ss)
    → seen.block_of now ≡ block_of t b
block_found t n ss b start now empty adds is = gathered (block_in t (statements_of ss)) start now empty adds ∙ ap (block_of t) (sym is)

-- FUNCTIONS

-- two lists are of one length where they are seen as one
pub same_count : {X Y Z : Type 0} (f : X → Z) (g : Y → Z) (xs : List X) (ys : List Y) → map f xs ≡ map g ys → length xs ≡ length ys
same_count f g xs ys same = sym (length-map xs f) ∙ ap length same ∙ length-map ys g

abbrev pub function_with : ℕ → ℕ → Block → Function
function_with i o b = record { inputs = i; outputs = o; body = b }

pub same_function : (i i' o o' : ℕ) (b b' : Block) → i ≡ i' → o ≡ o' → b ≡ b' → function_with i o b ≡ function_with i' o' b'
same_function i i' o o' b b' inputs outputs inside = ap (λ n. function_with n o b) inputs ∙ ap₂ (function_with i') outputs inside
