-- The blocks of a typed script stand in scopes.
use Rattle.std.specs.Prelude.{◌≡◌, ◌⊎◌, ℕ, zero, suc, ◌+◌, List, [], ◌∷◌, ◌++◌, map, Option, Some, None, length, slice_get, refl}
use Rattle.std.proofs.Common.{inl, inr, sym, ap, ◌∙◌, subst, arith}
use Rattle.language.specs.declared.tree.Base.{Base}
use Rattle.language.specs.declared.tree.Shape.{Shape}
use Rattle.language.specs.Tree as T
use Rattle.language.specs.Tree.{Word, Node, Declaration, Expression, RightSide, Over, Statement, statement, choice, choice_else, loop, waits, Body, body, Statements, no_statements, and_statement, Composite, Tree, import, function, single}
use Rattle.language.specs.Core.{Owned, input, output, here, Block, Function, Core}
use Rattle.language.specs.Members.{◌∈◌, first, later}
use Rattle.language.specs.Resolved.{refers, right_of, loop_action, block_of, block_in, with_statement, script_block, functions_of, core}
use Rattle.language.specs.Table.{Table}
use Rattle.language.specs.Scopes.{Typ, declared_type, Visible, Scope, deeper, own, Signature, signature_of, signatures}
use Rattle.language.specs.Typing as rules
use Rattle.language.specs.Typing.{LoopScope, StatementTyped, StatementsTyped, BodyTyped, Parameters, FunctionTyped, PartsTyped, WellTyped}
use Rattle.language.proofs.Members.{split_in, to_left, to_right}
use Rattle.language.proofs.Tested.{roles_of}
use Rattle.language_accepted.specs.Types.{DeclaredAs, statement_declarations, body_declarations, statements_declarations, tree_declarations}
use Rattle.language_accepted.proofs.Placed.{Loops, over_range, over_each}
use Rattle.code_laws.specs.Described.{is_array_shape}
use Rattle.code_laws.proofs.Scoping.{LoopSees, InScopes, scoped_end, scoped_declaration, scoped_plain, scoped_when, scoped_choose, scoped_loop, scoped_wait}
use Rattle.code_laws.proofs.Coming.{seen_as}
use Rattle.code_laws.proofs.Stating.{Plain, right_comes, write_comes, several_comes, called_comes, when_comes, choose_comes, loop_comes, wait_comes}

-- LOOPS

loops_body : (t : Table) (v : Word) (u : Option Word) (o : Over) (d : Block) → Loops (loop_action t v u o d) d
loops_body t v u (T.array w) d = over_each
loops_body t v u (T.range low high step) d = over_range

pub first_role : (t : Table) (v : Word) (u : Option Word) (o : Over) (d : Block) → v.number ∈ roles_of (loop_action t v u o d)
first_role t v None (T.array w) d = first
first_role t v (Some k) (T.array w) d = first
first_role t v None (T.range low high step) d = first
first_role t v (Some k) (T.range low high step) d = first

pub second_role : (t : Table) (v k : Word) (o : Over) (d : Block) → k.number ∈ roles_of (loop_action t v (Some k) o d)
second_role t v k (T.array w) d = later first
second_role t v k (T.range low high step) d = later first

loop_sees : {γ : Base} (t : Table) (v : Word) (u : Option Word) (o : Over) (d : Block) (g h : Scope) (b : Base) → LoopScope g v b u γ h → LoopSees g (loop_action t v u o d) h
loop_sees t v None o d g h b (rules.value_only (rules.fresh free)) x i = elim (split_in i) [
  | inl e ↦ inr (record { node = v.number; is = ap (λ (z : Visible). z.refers_to) e; role = first_role t v None o d; shape = ap (λ (z : Visible). is_array_shape z.type.shape) e })
  | inr j ↦ inl j
]
loop_sees t v (Some u) o d g h b (rules.with_key (rules.fresh free) (rules.fresh other)) x i = elim (split_in i) [
  | inl e ↦ inr (record { node = u.number; is = ap (λ (z : Visible). z.refers_to) e; role = second_role t v u o d; shape = ap (λ (z : Visible). is_array_shape z.type.shape) e })
  | inr j ↦ elim (split_in j) [
    | inl e ↦ inr (record { node = v.number; is = ap (λ (z : Visible). z.refers_to) e; role = first_role t v (Some u) o d; shape = ap (λ (z : Visible). is_array_shape z.type.shape) e })
    | inr l ↦ inl l
  ]
]

-- what is declared in part of a list
left_as : (type_of : ℕ → Typ) (xs ys : List Declaration) → DeclaredAs type_of (xs ++ ys) → DeclaredAs type_of xs
left_as type_of xs ys h d m = h d (to_left xs ys m)

right_as : (type_of : ℕ → Typ) (xs ys : List Declaration) → DeclaredAs type_of (xs ++ ys) → DeclaredAs type_of ys
right_as type_of xs ys h d m = h d (to_right xs ys m)

-- a function's body sees its outputs and inputs
pub data IsParameter (f : Signature) (v : Visible) : Type 0 where
  is_output : (j : ℕ) → v.refers_to ≡ record { up = 0; what = output j } → slice_get f.outputs j ≡ Some v.type → IsParameter f v
  is_input : (i : ℕ) → v.refers_to ≡ record { up = 0; what = input i } → slice_get f.inputs i ≡ Some v.type → IsParameter f v

module _ (fs : List Signature) (type_of : ℕ → Typ) where
  pub record FunctionScoped (among : List Signature) (i : ℕ) (f : Function) : Type 0 where
    pub signature : Signature
    pub there : slice_get among i ≡ Some signature
    pub inputs : length signature.inputs ≡ f.inputs
    pub outputs : length signature.outputs ≡ f.outputs
    pub scope : Scope
    pub body : InScopes fs type_of scope f.body
    pub parameters : (v : Visible) → v ∈ scope → IsParameter signature v

  pub record ScriptScoped (s : Core) : Type 0 where
    pub script : InScopes fs type_of [] s.body
    pub functions : (i : ℕ) (f : Function) → slice_get s.functions i ≡ Some f → FunctionScoped fs i f

  module _ (t : Table) where
    abbrev Scoped : Scope → Block → Type 0
    Scoped g b = InScopes fs type_of g b

    mutual
      body_scoped : (b : Body) (g : Scope) → DeclaredAs type_of (body_declarations b) → BodyTyped fs t g b → Scoped g (block_of t b)
      body_scoped (body from ss) g k (rules.in_braces h) = statements_scoped ss g k h

      statements_scoped : (ss : Statements) (g : Scope) → DeclaredAs type_of (statements_declarations ss) → StatementsTyped fs t g ss → Scoped g (block_in t ss)
      statements_scoped no_statements g k rules.no_more_statements = scoped_end
      statements_scoped (and_statement s ss) g k (rules.next_statement {h = h} one rest) =
          statement_scoped s g h (block_in t ss) (left_as type_of (statement_declarations s) (statements_declarations ss) k) one (statements_scoped ss h (right_as type_of (statement_declarations s) (statements_declarations ss) k) rest)

      statement_scoped : (s : Statement) (g h : Scope) (b : Block) → DeclaredAs type_of (statement_declarations s) → StatementTyped fs t g s h → Scoped h b → Scoped g (with_statement t s b)
      statement_scoped (statement nd (T.declare d None)) g h b k (rules.declaration (rules.fresh free)) behind =
          scoped_declaration {w = own d.name (declared_type d)} refl (k d first) behind
      statement_scoped (statement nd (T.declare d (Some r))) g h b k (rules.definition (rules.fresh free) typed) behind =
          let w = own d.name (declared_type d) in
          let q = right_comes fs t (w ∷ g) (here d.name.number) (record { variable = w; visible = first; is = refl; shape = refl }) typed in
          scoped_declaration {w = w} refl (k d first) (scoped_plain q.0 q.1 behind)
      statement_scoped (statement nd (T.assign w r)) g h b k (rules.assignment {τ = τ} refers typed) behind =
          let q = subst (λ (sh : Shape). Plain fs t g (right_of t (t.name_of w.number) sh r)) (sym refers.shaped) (right_comes fs t g (t.name_of w.number) (seen_as fs t g refers) typed) in
          scoped_plain q.0 q.1 behind
      statement_scoped (statement nd (T.write w i e)) g h b k (rules.element_write refers index right) behind =
          let q = write_comes fs t g (t.name_of w.number) (seen_as fs t g refers) index right in scoped_plain q.0 q.1 behind
      statement_scoped (statement nd (T.assign_all ws c)) g h b k typed behind =
          let q = several_comes fs t g nd ws c h typed in scoped_plain (q.0).0 (q.0).1 (subst (λ (z : Scope). Scoped z b) (sym q.1) behind)
      statement_scoped (statement nd (T.calls p c)) g h b k (rules.call_statement typed) behind =
          let q = called_comes fs t g p c.node.number typed in scoped_plain q.0 q.1 behind
      statement_scoped (statement nd (choice e d)) g h b k (rules.if_statement condition typed) behind =
          scoped_when (when_comes fs t g (block_of t d) condition) (body_scoped d (deeper g) k typed) behind
      statement_scoped (statement nd (choice_else e d f)) g h b k (rules.if_else_statement condition typed other) behind =
          scoped_choose (choose_comes fs t g (block_of t d) (block_of t f) condition) (body_scoped d (deeper g) (left_as type_of (body_declarations d) (body_declarations f) k) typed)
          (body_scoped f (deeper g) (right_as type_of (body_declarations d) (body_declarations f) k) other) behind
      statement_scoped (statement nd (loop v u o d)) g h b k (rules.loop_statement {h = inner} {β = β} source scope typed) behind =
          scoped_loop (loops_body t v u o (block_of t d)) (loop_comes fs t g v u o (block_of t d) source) (loop_sees t v u o (block_of t d) g inner β scope) (body_scoped d inner k typed) behind
      statement_scoped (statement nd (waits ws d)) g h b k (rules.wait_statement names typed) behind =
          scoped_wait (wait_comes fs t g (block_of t d) names) (body_scoped d g k typed) behind

    -- PARTS

    script_scoped : (ps : Tree) (names : List (List ℕ)) (g : Scope) → DeclaredAs type_of (tree_declarations ps) → PartsTyped fs t names g ps → Scoped g (script_block t ps)
    script_scoped [] names g k h = scoped_end
    script_scoped (import sp ∷ ps) names g k (rules.an_import h) = script_scoped ps names g k h
    script_scoped (function f ∷ ps) names g k (rules.a_function one h) = script_scoped ps (f.name.text ∷ names) g (right_as type_of (body_declarations f.body) (tree_declarations ps) k) h
    script_scoped (single s ∷ ps) names g k (rules.a_statement {h = h} one rest) =
        statement_scoped s g h (script_block t ps) (left_as type_of (statement_declarations s) (tree_declarations ps) k) one (script_scoped ps names h (right_as type_of (statement_declarations s) (tree_declarations ps) k) rest)

    length_types : (ds : List Declaration) → length (map declared_type ds) ≡ length ds
    length_types [] = refl
    length_types (d ∷ ds) = ap suc (length_types ds)

    -- the parameters so far, and those that follow
    parameter_of : (owned : ℕ → Owned) {g h : Scope} (i : ℕ) (ds : List Declaration) → Parameters owned g i ds h → (v : Visible) → v ∈ h
        → (v ∈ g) ⊎ ((j : ℕ) × (v.refers_to ≡ record { up = 0; what = owned (i + j) }) × (slice_get (map declared_type ds) j ≡ Some v.type))
    parameter_of owned i [] rules.no_more v m = inl m
    parameter_of owned i (d ∷ ds) (rules.one_parameter free p) v m = elim (parameter_of owned (suc i) ds p v m) [
      | inl j ↦ elim (split_in j) [
        | inl e ↦ inr (0, ap (λ (z : Visible). z.refers_to) e ∙ ap (λ (n : ℕ). record { up = 0; what = owned n }) (omega arith), sym (ap (λ (z : Visible). Some z.type) e))
        | inr l ↦ inl l
      ]
      | inr r ↦ inr (suc r.0, r.1 ∙ ap (λ (n : ℕ). record { up = 0; what = owned n }) (omega arith), r.2)
    ]

    a_parameter : (f : Composite) {g h : Scope} → Parameters output [] 0 f.outputs g → Parameters input g 0 f.inputs h → (v : Visible) → v ∈ h → IsParameter (signature_of f) v
    a_parameter f p q v m = elim (parameter_of input 0 f.inputs q v m) [
      | inr r ↦ is_input r.0 (r.1 ∙ ap (λ (n : ℕ). record { up = 0; what = input n }) (omega arith)) r.2
      | inl i ↦ elim (parameter_of output 0 f.outputs p v i) [
        | inr r ↦ is_output r.0 (r.1 ∙ ap (λ (n : ℕ). record { up = 0; what = output n }) (omega arith)) r.2
        | inl j ↦ elim j [ ]
      ]
    ]

    abbrev as_function : Composite → Function
    as_function f = record { inputs = length f.inputs; outputs = length f.outputs; body = block_of t f.body }

    function_scoped : (f : Composite) (names : List (List ℕ)) (sigs : List Signature) → DeclaredAs type_of (body_declarations f.body) → FunctionTyped fs t names f → FunctionScoped (signature_of f ∷ sigs) 0 (as_function f)
    function_scoped f names sigs k (rules.function_typed {g = g} {h = h} free other outs ins typed) = record {
      signature = signature_of f;
      there = refl;
      inputs = length_types f.inputs;
      outputs = length_types f.outputs;
      scope = h;
      body = body_scoped f.body h k typed;
      parameters = a_parameter f outs ins;
    }

    next_function : (c : Signature) (sigs : List Signature) (i : ℕ) (f : Function) → FunctionScoped sigs i f → FunctionScoped (c ∷ sigs) (suc i) f
    next_function c sigs i f r = record { signature = r.signature; there = r.there; inputs = r.inputs; outputs = r.outputs; scope = r.scope; body = r.body; parameters = r.parameters }

    same_function : {x y : Function} → Some x ≡ Some y → x ≡ y
    same_function h = cc

    functions_scoped : (ps : Tree) (names : List (List ℕ)) (g : Scope) → DeclaredAs type_of (tree_declarations ps) → PartsTyped fs t names g ps → (i : ℕ) (f : Function) → slice_get (functions_of t ps) i ≡ Some f → FunctionScoped (signatures ps) i f
    functions_scoped [] names g k h zero f e = absurd (cc (e))
    functions_scoped [] names g k h (suc i) f e = absurd (cc (e))
    functions_scoped (import sp ∷ ps) names g k (rules.an_import h) i f e = functions_scoped ps names g k h i f e
    functions_scoped (function c ∷ ps) names g k (rules.a_function one h) zero f e =
        subst (λ (z : Function). FunctionScoped (signature_of c ∷ signatures ps) 0 z) (same_function e) (function_scoped c names (signatures ps) (left_as type_of (body_declarations c.body) (tree_declarations ps) k) one)
    functions_scoped (function c ∷ ps) names g k (rules.a_function one h) (suc i) f e =
        next_function (signature_of c) (signatures ps) i f (functions_scoped ps (c.name.text ∷ names) g (right_as type_of (body_declarations c.body) (tree_declarations ps) k) h i f e)
    functions_scoped (single s ∷ ps) names g k (rules.a_statement {h = h} one rest) i f e = functions_scoped ps names h (right_as type_of (statement_declarations s) (tree_declarations ps) k) rest i f e

-- THE BLOCKS OF A SCRIPT STAND IN SCOPES
pub scopes_of : (type_of : ℕ → Typ) (t : Table) (tree : Tree) → DeclaredAs type_of (tree_declarations tree) → WellTyped tree t → ScriptScoped (signatures tree) type_of (core t tree)
scopes_of type_of t tree k h = record {
  script = script_scoped (signatures tree) type_of t tree [] [] k h;
  functions = functions_scoped (signatures tree) type_of t tree [] [] k h;
}
