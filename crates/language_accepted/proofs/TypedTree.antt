-- The core of each well typed script has types.
use Rattle.std.specs.Prelude.{◌≡◌, ◌⊎◌, ℕ, zero, suc, ◌+◌, ◌≤◌, List, [], ◌∷◌, map, Option, Some, length, slice_get, refl}
use Rattle.std.proofs.Common.{inl, inr, sym, ap, ◌∙◌, subst, arith}
use Rattle.language.specs.Tree.{Declaration, Composite, Tree}
use Rattle.language.specs.Core.{Owned, input, output, Name, Function}
use Rattle.language.specs.Members.{◌∈◌}
use Rattle.language.specs.Numbers.{numbers}
use Rattle.language.specs.Resolved.{block_of, script_block, functions_of, core}
use Rattle.language.specs.Scopes.{Typ, declared_type, Visible, Scope, Signature, signature_of, signatures}
use Rattle.language.specs.Table.{Table}
use Rattle.language.specs.Typing as rules
use Rattle.language.specs.Typing.{Parameters, FunctionTyped, PartsTyped, WellTyped}
use Rattle.language.proofs.Members.{split_in}
use Rattle.language.proofs.TreeNumbers.{times, distinct_few}
use Rattle.language_laws.proofs.TreeNodes.{declarations_numbers, body_numbers, tree_numbers}
use Rattle.language_accepted.specs.Placed.{Rise}
use Rattle.language_accepted.specs.Types.{no_signature, NameHas, BlockHas, no_statement, HasTypes, DeclaredAs, tree_declarations, statement_declarations, body_declarations}
use Rattle.language_accepted.proofs.Bodies.{length-map}
use Rattle.language_accepted.proofs.NodeTypes.{NodesTyped, always, joined, passed, all_passed, and_so, there_are}
use Rattle.language_accepted.proofs.Once.{rising_once}
use Rattle.language_accepted.proofs.TypedParts.{ScopeHas}
use Rattle.language_accepted.proofs.TypedStatements.{both_declared, body_typed, statement_typed}

-- PARAMETERS

-- a visible variable was visible before, or is one of these parameters
parameter_type : (owned : ℕ → Owned) {g h : Scope} (i : ℕ) (ds : List Declaration) → Parameters owned g i ds h → (v : Visible) → v ∈ h
    → (v ∈ g) ⊎ ((j : ℕ) × (v.refers_to ≡ record { up = 0; what = owned (i + j) }) × (slice_get (map declared_type ds) j ≡ Some v.type))
parameter_type owned i [] rules.no_more v m = inl m
parameter_type owned i (d ∷ ds) (rules.one_parameter free p) v m = elim (parameter_type owned (suc i) ds p v m) [
  | inl j ↦ elim (split_in j) [
    | inl e ↦ (let same : i ≡ i + 0 = omega arith in inr (0, ap (λ (z : Visible). z.refers_to) e ∙ ap (λ (n : ℕ). record { up = 0; what = owned n }) same, ap (λ (z : Visible). Some z.type) (sym e)))
    | inr l ↦ inl l
  ]
  | inr r ↦ (let same : suc i + r.0 ≡ i + suc r.0 = omega arith in inr (suc r.0, r.1 ∙ ap (λ (n : ℕ). record { up = 0; what = owned n }) same, r.2))
]

parameters_have : (fs : List Signature) (type_of : ℕ → Typ) (c : Composite) {g h : Scope} → Parameters output [] 0 c.outputs g → Parameters input g 0 c.inputs h → ScopeHas fs type_of (signature_of c) 0 h
parameters_have fs type_of c p q v m = elim (parameter_type input 0 c.inputs q v m) [
  | inr r ↦ (let same : 0 + r.0 ≡ r.0 = omega arith in subst (λ (x : Name). NameHas fs type_of (signature_of c) 0 x v.type) (sym (r.1 ∙ ap (λ (n : ℕ). record { up = 0; what = input n }) same)) (refl, r.2))
  | inl i ↦ elim (parameter_type output 0 c.outputs p v i) [
    | inr r ↦ (let same : 0 + r.0 ≡ r.0 = omega arith in subst (λ (x : Name). NameHas fs type_of (signature_of c) 0 x v.type) (sym (r.1 ∙ ap (λ (n : ℕ). record { up = 0; what = output n }) same)) (refl, r.2))
    | inl j ↦ elim j [ ]
  ]
]

-- PARTS

module _ (fs : List Signature) (t : Table) where
  -- the functions of these parts, by the signatures of these parts
  abbrev FunctionIn : List Signature → (ℕ → Typ) → ℕ → Function → Type 0
  FunctionIn ss type_of i f = (c : Signature) × (slice_get ss i ≡ Some c) × (length c.inputs ≡ f.inputs) × (length c.outputs ≡ f.outputs) × BlockHas fs type_of c 0 f.body

  abbrev PartsHave : Scope → Tree → (ℕ → Typ) → Type 0
  PartsHave g ps type_of = DeclaredAs type_of (tree_declarations ps) × (ScopeHas fs type_of no_signature 0 g → BlockHas fs type_of no_signature 0 (script_block t ps))
      × ((i : ℕ) (f : Function) → slice_get (functions_of t ps) i ≡ Some f → FunctionIn (signatures ps) type_of i f)

  abbrev as_function : Composite → Function
  as_function f = record { inputs = length f.inputs; outputs = length f.outputs; body = block_of t f.body }

  function_typed : {names : List (List ℕ)} (c : Composite) → FunctionTyped fs t names c → NodesTyped (body_numbers c.body) (λ type_of. DeclaredAs type_of (body_declarations c.body) × BlockHas fs type_of (signature_of c) 0 (block_of t c.body))
  function_typed c (rules.function_typed free other outs ins typed) = and_so (body_typed fs t (signature_of c) 0 typed) (λ type_of q. (q.0, q.1 (parameters_have fs type_of c outs ins)))

  one_more_function : (type_of : ℕ → Typ) (c : Composite) (ps : Tree) → BlockHas fs type_of (signature_of c) 0 (block_of t c.body)
      → ((i : ℕ) (f : Function) → slice_get (functions_of t ps) i ≡ Some f → FunctionIn (signatures ps) type_of i f)
      → (i : ℕ) (f : Function) → slice_get (as_function c ∷ functions_of t ps) i ≡ Some f → FunctionIn (signature_of c ∷ signatures ps) type_of i f
  one_more_function type_of c ps h rest zero f e =
      let same = some_same e in (
        signature_of c,
        refl,
        length-map declared_type c.inputs ∙ ap (λ (z : Function). z.inputs) same,
        length-map declared_type c.outputs ∙ ap (λ (z : Function). z.outputs) same,
        subst (λ (z : Function). BlockHas fs type_of (signature_of c) 0 z.body) same h,
      )
    where
      some_same : {x y : Function} → ◌≡◌ {A = Option Function} (Some x) (Some y) → x ≡ y
      some_same q = cc
  one_more_function type_of c ps h rest (suc i) f e = rest i f e

  parts_typed : {names : List (List ℕ)} {g : Scope} {ps : Tree} → PartsTyped fs t names g ps → NodesTyped (tree_numbers ps) (PartsHave g ps)
  parts_typed rules.no_parts = always (λ type_of. (λ d m. elim m [ ], λ s. no_statement, none_there))
    where
      none_there : {type_of : ℕ → Typ} (i : ℕ) (f : Function) → slice_get [] i ≡ Some f → FunctionIn [] type_of i f
      none_there zero f e = absurd (cc (e))
      none_there (suc i) f e = absurd (cc (e))
  parts_typed (rules.an_import h) = parts_typed h
  parts_typed (rules.a_function {f = c} {ps = ps} one rest) =
      passed c.node.number (all_passed (declarations_numbers c.outputs) (passed c.name.number (all_passed (declarations_numbers c.inputs)
      (and_so (joined (function_typed c one) (parts_typed rest)) (λ type_of q. (both_declared fs t no_signature type_of (body_declarations c.body) (tree_declarations ps) q.0.0 q.1.0, q.1.1, one_more_function type_of c ps q.0.1 q.1.2))))))
  parts_typed (rules.a_statement {s = st} {ps = ps} one rest) =
      and_so (joined (statement_typed fs t no_signature 0 one) (parts_typed rest)) (λ type_of q. (both_declared fs t no_signature type_of (statement_declarations st) (tree_declarations ps) q.0.0 q.1.0, λ s. (let r = q.0.1 s in r.1 (script_block t ps) (q.1.1 r.0)), q.1.2))

-- the core of a well typed script whose numbers rise has types
pub has_types : (t : Table) (tree : Tree) → Rise 0 (numbers tree) → WellTyped tree t → (type_of : ℕ → Typ) × HasTypes (signatures tree) type_of (core t tree) × DeclaredAs type_of (tree_declarations tree)
has_types t tree rise typed =
    let fs = signatures tree in
    let r = there_are (parts_typed fs t typed) few in (
      r.0,
      record {
        script = r.1.1 (λ v m. elim m [ ]);
        functions = λ i f e. (let q = r.1.2 i f e in record { signature = q.0; there = q.1; inputs = q.2; outputs = q.3; body = q.4 });
      },
      r.1.0,
    )
  where
    few : (n : ℕ) → times n (tree_numbers tree) ≤ 1
    few n = let a = distinct_few (0 ∷ tree_numbers tree) (rising_once tree rise) n in omega arith
