-- Five fields of WellFormed hold of singly assigned scripts alone: a well typed script breaks each of them.
use Rattle.std.specs.Prelude.{◌≡◌, ◌⊎◌, ℕ, Bool, not, pos, true, false, List, [], ◌∷◌, Some, slice_get, codes, refl}
use Rattle.std.proofs.Common.{inl, inr, sym, ap, ◌∙◌, arith}
use Rattle.values.specs.declared.key.Key.{Key}
use Rattle.language.specs.declared.tree.Base.TheVariants.{Int}
use Rattle.language.specs.Core.{Owned, local, input, output, Name, here, Cell, Call, Outer, Stmt, stmt, Action, assign, Block, Function, Core}
use Rattle.language_laws.specs.ExampleTrees.{word}
use Rattle.language.specs.Members.{◌∈◌, first, later}
use Rattle.language.specs.Numbered.{numbered}
use Rattle.language.specs.Parts.{block_list, script_blocks, script_stmts, cells, stmt_calls}
use Rattle.language.specs.Places.{Path, place}
use Rattle.language.specs.Resolved.{core}
use Rattle.language.specs.Scopes.{one_of, Visible, Scope, own, IsVisible, Signature, signatures, Refers, Calls, IsBuiltinName}
use Rattle.language.specs.Table as table
use Rattle.language.specs.Table.{Table, composite, Builtin}
use Rattle.language.specs.Tree.{Word}
use Rattle.language.specs.Typing as rules
use Rattle.language.specs.Typing.{WellTyped}
use Rattle.language.specs.WellFormed.{header_blocks, Declares, Uses, own as own_use, IsHidden, Role, range_value_role, WellFormed}
use Rattle.language.proofs.Members.{split_in}
use Rattle.language_accepted.specs.Assigning.{tree, names}
use Rattle.language.proofs.Tested.{every_in}
use Rattle.language_laws.proofs.TestedNames.{declares, declared_it}

pub is_numbered : tree ≡ numbered 1 tree
is_numbered = refl

abbrev fs : List Signature
fs = signatures tree

-- IT IS WELL TYPED

abbrev the_output : Visible
the_output = record { text = codes "o"; refers_to = record { up = 0; what = output 0 }; type = one_of Int }

abbrev the_input : Visible
the_input = record { text = codes "i"; refers_to = record { up = 0; what = input 0 }; type = one_of Int }

abbrev inner : Scope
inner = the_input ∷ the_output ∷ []

abbrev the_loop : Scope
the_loop = own (word 12 43 (codes "k")) (one_of Int) ∷ []

nothing_visible : (w : List ℕ) → ¬ IsVisible [] w
nothing_visible w v = elim v.1 [ ]

abbrev first_number : List ℕ → ℕ
first_number [] = 0
first_number (n ∷ ns) = n

input_fresh : ¬ IsVisible (the_output ∷ []) (codes "i")
input_fresh v = elim (split_in v.1) [
  | inl e ↦ (let q : ◌≡◌ {A = ℕ} 111 105 = ap first_number (sym (ap (λ (z : Visible). z.text) e) ∙ v.2) in absurd (omega arith))
  | inr i ↦ elim i [ ]
]

no_builtin : ¬ IsBuiltinName (codes "f")
no_builtin p = by p.0 p.1
  where
    by : (b : Builtin) → codes "f" ≡ table.builtin_text b → ⊥
    by table.strcat e = cc (e)
    by table.fromint e = cc (e)
    by table.toint e = cc (e)
    by table.size e = cc (e)
    by table.printf e = cc (e)
    by table.assert e = cc (e)

to_input : Refers inner names (word 6 19 (codes "i")) (one_of Int)
to_input = record { variable = the_input; visible = first; same = refl; typed = refl; named = refl; shaped = refl }

to_output : Refers inner names (word 9 26 (codes "o")) (one_of Int)
to_output = record { variable = the_output; visible = later first; same = refl; typed = refl; named = refl; shaped = refl }

to_loop : (w : Word) → w.text ≡ codes "k" → names.name_of w.number ≡ here 12 → Refers the_loop names w (one_of Int)
to_loop w e n = record { variable = own (word 12 43 (codes "k")) (one_of Int); visible = first; same = sym e; typed = refl; named = n; shaped = refl }

the_function : Signature
the_function = record { text = codes "f"; inputs = one_of Int ∷ []; outputs = one_of Int ∷ [] }

to_function : (w : Word) → w.text ≡ codes "f" → Calls fs names w the_function
unfolding the_function
to_function w e = record { place = 0; there = refl; same = sym e; named = refl }

pub well_typed : WellTyped tree names
unfolding the_function
well_typed =
    rules.a_function
    (rules.function_typed (λ m. elim m [ ]) no_builtin (rules.one_parameter (nothing_visible (codes "o")) rules.no_more) (rules.one_parameter input_fresh rules.no_more)
    (rules.in_braces (rules.next_statement (rules.assignment to_input (rules.of_scalar rules.of_number)) (rules.next_statement (rules.assignment to_output (rules.of_scalar rules.of_number)) rules.no_more_statements))))
    (rules.a_statement
    (rules.loop_statement (rules.of_range rules.of_number rules.of_number rules.no_step) (rules.value_only (rules.fresh (nothing_visible (codes "k"))))
    (rules.in_braces
    (rules.next_statement (rules.assignment (to_loop (word 16 56 (codes "k")) refl refl) (rules.of_scalar (rules.of_call (to_function (word 18 60 (codes "f")) refl) (rules.scalar_argument rules.of_number rules.no_argument) refl)))
    (rules.next_statement (rules.assignment (to_loop (word 21 66 (codes "k")) refl refl) (rules.of_scalar (rules.of_call (to_function (word 23 70 (codes "f")) refl) (rules.scalar_argument rules.of_number rules.no_argument) refl)))
    (rules.next_statement (rules.assignment (to_loop (word 26 76 (codes "k")) refl refl) (rules.of_scalar rules.of_number)) rules.no_more_statements)))))
    rules.no_parts)

-- ITS CORE BREAKS FIVE FIELDS

abbrev s : Core
s = core names tree

abbrev HeaderNames : Core → Type 0
HeaderNames s = (b c : Block) (at n : ℕ) (a : Action) (what : Owned) → b ∈ script_blocks s → stmt at n a ∈ block_list b → c ∈ header_blocks a → Uses c 0 what → Declares c what

abbrev FunctionNames : Core → Type 0
FunctionNames s = (i : ℕ) (f : Function) (up : ℕ) (what : Owned) → slice_get s.functions i ≡ Some f → Uses f.body up what → (up ≡ 0) × (Declares f.body what ⊎ ((j : ℕ) × (what ≡ output j)))

abbrev HiddenOnce : Core → Type 0
HiddenOnce s = (st st' : Stmt) (c c' : Call) (h : IsHidden s c) (h' : IsHidden s c') → st ∈ script_stmts s → st' ∈ script_stmts s → c ∈ stmt_calls st → c' ∈ stmt_calls st' → h.node ≡ h'.node → c ≡ c'

abbrev AssignApart : Core → Type 0
AssignApart s = (at n : ℕ) (x : Name) (o : Outer) (st : Stmt) (c : Cell) (path path' : Path) → stmt at n (assign x o) ∈ script_stmts s → st ∈ script_stmts s → c ∈ cells st → place s path x ≡ (path', c.node) → ⊥

abbrev RoleAssign : Core → Type 0
RoleAssign s = (at n : ℕ) (x : Name) (o : Outer) (st : Stmt) (y : ℕ) (r : Bool) (path path' : Path) → stmt at n (assign x o) ∈ script_stmts s → st ∈ script_stmts s → Role st y r → place s path x ≡ (path', y) → ⊥

no_block_declares : (b : Block) → b ∈ script_blocks s → Declares b (local 12) → ⊥
no_block_declares b m d = apart (declares b (local 12)) (declared_it b (local 12) d) (every_in (λ (b : Block). not (declares b (local 12))) (script_blocks s) refl m)
  where
    apart : (t : Bool) → t ≡ true → not t ≡ true → ⊥
    apart true h k = absurd (cc (k))
    apart false h k = absurd (cc (h))

-- a loop variable is assigned in the loop's body, which does not declare it
pub header_names : HeaderNames s → ⊥
header_names h = no_block_declares _ (later first) (h _ _ 35 11 _ (local 12) first first first (own_use first (inl first)))

-- an input is assigned
pub function_names : FunctionNames s → ⊥
function_names h = by (h 0 _ 0 (input 0) refl (own_use first (inl first))).1
  where
    no_local : {n : ℕ} → input 0 ≡ local n → ⊥
    no_local e = cc

    no_output : {j : ℕ} → input 0 ≡ output j → ⊥
    no_output e = cc

    by : {b : Block} → Declares b (input 0) ⊎ ((j : ℕ) × (input 0 ≡ output j)) → ⊥
    by (inl d) = no_local d.is
    by (inr r) = no_output r.1

abbrev called_at : ℕ → ℕ → Call
called_at n m = record { at = n; function = 0; inputs = here m ∷ []; outputs = here 12 ∷ [] }

-- two calls alone give their outputs to a loop variable, which no statement declares
pub hidden_once : HiddenOnce s → ⊥
hidden_once h =
    let a : IsHidden s (called_at 60 19) = record { node = 12; is = refl; undeclared = no_block_declares } in
    let b : IsHidden s (called_at 70 24) = record { node = 12; is = refl; undeclared = no_block_declares } in
    let e = h _ _ (called_at 60 19) (called_at 70 24) a b (later first) (later (later first)) first first refl in
    let q : ◌≡◌ {A = ℕ} 60 70 = ap (λ (c : Call). c.at) e in
    absurd (omega arith)

-- an assigned input is at the place of the argument's cell
pub assign_apart : AssignApart s → ⊥
assign_apart h = h 19 5 (record { up = 0; what = input 0 }) _ _ _ ((60, Key.Number (pos 0)) ∷ []) [] (later (later (later (later first)))) (later first) first refl

-- an assigned loop variable is at the place of the loop's variable
pub role_assign : RoleAssign s → ⊥
role_assign h = h 76 25 (here 12) _ _ 12 true [] [] (later (later (later first))) first range_value_role refl

-- so it is not well formed
pub not_formed : WellFormed (core names tree) → ⊥
not_formed w = role_assign (w.loops).role_assign
