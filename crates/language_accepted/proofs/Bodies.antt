-- The bodies of a typed script with numbers in reading order are placed, and each block lies in one of them.
use Rattle.std.specs.List.{flat_map}
use Rattle.std.specs.Prelude.{◌≡◌, ◌⊎◌, ℕ, zero, suc, ◌+◌, ◌<◌, List, [], ◌∷◌, ◌++◌, map, Option, Some, length, slice_get, refl}
use Rattle.std.proofs.Common.{inl, inr, sym, ap, ◌∙◌, subst, arith}
use Rattle.language.specs.Tree.{Declaration, Composite, Tree, import, function, single}
use Rattle.language.specs.Core.{Owned, input, output, Name, Stmt, stmt, Action, declare, call_alone, assign, fill, insert, print, assert, when, choose, range, each, wait, Block, no_stmts, stmts, Function, Core}
use Rattle.language.specs.Members.{◌∈◌, first, later}
use Rattle.language.specs.Numbers.{declaration_numbers, statement_numbers, body_numbers, composite_numbers, numbers}
use Rattle.language.specs.Parts.{block_list, blocks_of, blocks_below, blocks_in, blocks_inside, function_blocks, script_blocks}
use Rattle.language.specs.Resolved.{block_of, script_block, functions_of, core}
use Rattle.language.specs.Table.{Table}
use Rattle.language.specs.Scopes.{declared_type, Visible, Scope, Signature, signatures}
use Rattle.language.specs.Typing as rules
use Rattle.language.specs.Typing.{Parameters, FunctionTyped, PartsTyped, WellTyped}
use Rattle.language.proofs.Members.{split_in, either}
use Rattle.language_laws.specs.Scoped.{InScope, of_script, of_function, inside, in_wait}
use Rattle.language_accepted.specs.Placed.{Rise}
use Rattle.language_accepted.proofs.Rising.{last, rise_least, rise_front, rise_rest, last_append}
use Rattle.language_accepted.proofs.Placed.{Placed, placed_end}
use Rattle.language_accepted.proofs.Placing.{AreIn, body_placed, statement_placed, placed_from}
use Rattle.language_accepted.proofs.Everywhere.{IsParameter, BodyPlaced, AllPlaced}

-- PARAMETERS

parameter_of : (owned : ℕ → Owned) {g h : Scope} (i : ℕ) (ds : List Declaration) → Parameters owned g i ds h → (v : Visible) → v ∈ h
    → (v ∈ g) ⊎ ((j : ℕ) × (v.refers_to ≡ record { up = 0; what = owned j }) × (j < i + length ds))
parameter_of owned i [] rules.no_more v m = inl m
parameter_of owned i (d ∷ ds) (rules.one_parameter free p) v m = elim (parameter_of owned (suc i) ds p v m) [
  | inl j ↦ elim (split_in j) [ inl e ↦ inr (i, ap (λ (z : Visible). z.refers_to) e, omega arith) | inr l ↦ inl l ]
  | inr r ↦ (let l = r.2 in inr (r.0, r.1, omega arith))
]

a_parameter : (ins outs : List Declaration) (f : Function) → f.inputs ≡ length ins → f.outputs ≡ length outs → {g h : Scope} → Parameters output [] 0 outs g → Parameters input g 0 ins h
    → (v : Visible) → v ∈ h → IsParameter f v.refers_to
a_parameter ins outs f a b p q v m = elim (parameter_of input 0 ins q v m) [
  | inr r ↦ (let l = r.2 in record { near = ap (λ (z : Name). z.up) r.1; is = inr (r.0, ap (λ (z : Name). z.what) r.1, omega arith) })
  | inl i ↦ elim (parameter_of output 0 outs p v i) [
    | inr r ↦ (let l = r.2 in record { near = ap (λ (z : Name). z.up) r.1; is = inl (r.0, ap (λ (z : Name). z.what) r.1, omega arith) })
    | inl j ↦ elim j [ ]
  ]
]

parameters_in : (f : Function) (h : Scope) → ((v : Visible) → v ∈ h → IsParameter f v.refers_to) → AreIn f.inputs h
parameters_in f h p x s i e = by (ap (λ (z : Name). z.what) (sym s.is) ∙ e) (p s.variable s.visible).is
  where
    no_input : (j : ℕ) → output j ≡ input i → ⊥
    no_input j q = cc

    same_input : (j : ℕ) → input j ≡ input i → j ≡ i
    same_input j q = cc

    by : s.variable.refers_to.what ≡ input i → (((j : ℕ) × (s.variable.refers_to.what ≡ output j) × (j < f.outputs)) ⊎ ((j : ℕ) × (s.variable.refers_to.what ≡ input j) × (j < f.inputs))) → i < f.inputs
    by w (inl r) = absurd (no_input r.0 (sym r.1 ∙ w))
    by w (inr r) = let q = same_input r.0 (sym r.1 ∙ w) in let l = r.2 in omega arith

-- PARTS

module _ (fs : List Signature) (t : Table) where
  script_placed : (n : ℕ) (ps : Tree) (names : List (List ℕ)) (g : Scope) → Rise n (numbers ps) → AreIn 0 g → PartsTyped fs t names g ps → Placed fs 0 g (suc n) (script_block t ps) (suc (last n (numbers ps)))
  script_placed n [] names g r a h = placed_end (omega arith)
  script_placed n (import sp ∷ ps) names g r a (rules.an_import h) = script_placed n ps names g r a h
  script_placed n (function f ∷ ps) names g r a (rules.a_function one h) =
      let ms = composite_numbers f in
      let ks = numbers ps in
      let l = rise_least n ms (rise_front n ms ks r) in
      subst (λ (m : ℕ). Placed fs 0 g (suc n) (script_block t ps) (suc m)) (sym (last_append n ms ks))
      (placed_from fs t 0 g (suc n) (suc (last n ms)) (script_block t ps) (suc (last (last n ms) ks)) (omega arith) (script_placed (last n ms) ps (f.name.text ∷ names) g (rise_rest n ms ks r) a h))
  script_placed n (single s ∷ ps) names g r a (rules.a_statement {h = h} one rest) =
      let ms = statement_numbers s in
      let ks = numbers ps in
      statement_placed fs t 0 n s g h (script_block t ps) (suc (last n (ms ++ ks))) (rise_front n ms ks r) a one
      (λ c. subst (λ (m : ℕ). Placed fs 0 h (suc (last n ms)) (script_block t ps) (suc m)) (sym (last_append n ms ks)) (script_placed (last n ms) ps names h (rise_rest n ms ks r) c rest))

  abbrev as_function : Composite → Function
  as_function f = record { inputs = length f.inputs; outputs = length f.outputs; body = block_of t f.body }

  function_placed : (n : ℕ) (f : Composite) (names : List (List ℕ)) → Rise n (composite_numbers f) → FunctionTyped fs t names f → BodyPlaced fs (as_function f)
  function_placed n f names r (rules.function_typed {g = g} {h = h} free other outs ins typed) =
      let p = a_parameter f.inputs f.outputs (as_function f) refl refl outs ins in
      let ms = flat_map declaration_numbers f.outputs ++ f.name.number ∷ flat_map declaration_numbers f.inputs in
      record { scope = h; from = _; to = _; placed = body_placed fs t (length f.inputs) _ f.body h (rise_rest f.node.number ms (body_numbers f.body) r.1) (parameters_in (as_function f) h p) typed; parameters = p }

  functions_placed : (n : ℕ) (ps : Tree) (names : List (List ℕ)) (g : Scope) → Rise n (numbers ps) → PartsTyped fs t names g ps → (f : Function) → f ∈ functions_of t ps → BodyPlaced fs f
  functions_placed n [] names g r h f m = elim m [ ]
  functions_placed n (import sp ∷ ps) names g r (rules.an_import h) f m = functions_placed n ps names g r h f m
  functions_placed n (function c ∷ ps) names g r (rules.a_function one h) f m = elim (split_in m) [
    | inl e ↦ subst (BodyPlaced fs) (sym e) (function_placed n c names (rise_front n (composite_numbers c) (numbers ps) r) one)
    | inr i ↦ functions_placed (last n (composite_numbers c)) ps (c.name.text ∷ names) g (rise_rest n (composite_numbers c) (numbers ps) r) h f i
  ]
  functions_placed n (single s ∷ ps) names g r (rules.a_statement {h = h} one rest) f m = functions_placed (last n (statement_numbers s)) ps names h (rise_rest n (statement_numbers s) (numbers ps) r) rest f m

-- the bodies of a typed script whose numbers rise are placed
pub all_placed : (t : Table) (tree : Tree) → Rise 0 (numbers tree) → WellTyped tree t → AllPlaced (signatures tree) (core t tree)
all_placed t tree r h = record {
  from = 1;
  to = suc (last 0 (numbers tree));
  script = script_placed (signatures tree) t 0 tree [] [] r (λ x s. (let i = s.visible in elim i [ ])) h;
  functions = functions_placed (signatures tree) t 0 tree [] [] r h;
}

-- SIGNATURES

pub length-map : {X Y : Type 0} (f : X → Y) (xs : List X) → length (map f xs) ≡ length xs
length-map f [] = refl
length-map f (x ∷ xs) = ap suc (length-map f xs)

-- a function of the script has the counts of its signature
pub function_of : (t : Table) (ps : Tree) (i : ℕ) (c : Signature) → slice_get (signatures ps) i ≡ Some c
    → (f : Function) × (slice_get (functions_of t ps) i ≡ Some f) × (f.inputs ≡ length c.inputs) × (f.outputs ≡ length c.outputs)
function_of t [] zero c e = absurd (cc (e))
function_of t [] (suc i) c e = absurd (cc (e))
function_of t (import sp ∷ ps) i c e = function_of t ps i c e
function_of t (single s ∷ ps) i c e = function_of t ps i c e
function_of t (function g ∷ ps) zero c e =
    let q = some_same e in (
      record { inputs = length g.inputs; outputs = length g.outputs; body = block_of t g.body },
      refl,
      sym (length-map declared_type g.inputs) ∙ ap (λ (z : Signature). length z.inputs) q,
      sym (length-map declared_type g.outputs) ∙ ap (λ (z : Signature). length z.outputs) q,
    )
  where
    some_same : {x y : Signature} → ◌≡◌ {A = Option Signature} (Some x) (Some y) → x ≡ y
    some_same h = cc
function_of t (function g ∷ ps) (suc i) c e = function_of t ps i c e

-- BLOCKS

module _ (s : Core) where
  mutual
    scope_in : (k : ℕ) (w b : Block) → InScope s k w → ((st : Stmt) → st ∈ block_list b → st ∈ block_list w) → {c : Block} → c ∈ blocks_below b → InScope s k c
    scope_in k w no_stmts h f m = elim m [ ]
    scope_in k w (stmts st b) h f m = elim (either (blocks_in st) (blocks_below b) m) [ inl i ↦ stmt_scope k w st h (f st first) i | inr i ↦ scope_in k w b h (λ z j. f z (later j)) i ]

    stmt_scope : (k : ℕ) (w : Block) (st : Stmt) → InScope s k w → st ∈ block_list w → {c : Block} → c ∈ blocks_in st → InScope s k c
    stmt_scope k w (stmt at n a) h i m = action_scope k w at n a h i m

    action_scope : (k : ℕ) (w : Block) (at n : ℕ) (a : Action) → InScope s k w → stmt at n a ∈ block_list w → {c : Block} → c ∈ blocks_inside a → InScope s k c
    action_scope k w at n (declare v) h i m = elim m [ ]
    action_scope k w at n (call_alone p ps c) h i m = elim m [ ]
    action_scope k w at n (assign x e) h i m = elim m [ ]
    action_scope k w at n (fill a e) h i m = elim m [ ]
    action_scope k w at n (insert a j e) h i m = elim m [ ]
    action_scope k w at n (print p e) h i m = elim m [ ]
    action_scope k w at n (assert p e) h i m = elim m [ ]
    action_scope k w at n (when c b) h i {c = d} m = elim (split_in m) [
      | inl e ↦ subst (InScope s k) (sym e) (inside h i first)
      | inr j ↦ scope_in k b b (inside h i first) (λ z l. l) j
    ]
    action_scope k w at n (choose c b e) h i m = elim (either (b ∷ blocks_below b) (e ∷ blocks_below e) m) [
      | inl j ↦ elim (split_in j) [ inl q ↦ subst (InScope s k) (sym q) (inside h i first) | inr l ↦ scope_in k b b (inside h i first) (λ z o. o) l ]
      | inr j ↦ elim (split_in j) [ inl q ↦ subst (InScope s k) (sym q) (inside h i (later first)) | inr l ↦ scope_in k e e (inside h i (later first)) (λ z o. o) l ]
    ]
    action_scope k w at n (range lo hi st v u b) h i m = elim (split_in m) [
      | inl e ↦ subst (InScope s k) (sym e) (inside h i first)
      | inr j ↦ scope_in k b b (inside h i first) (λ z l. l) j
    ]
    action_scope k w at n (each a v u b) h i m = elim (split_in m) [
      | inl e ↦ subst (InScope s k) (sym e) (inside h i first)
      | inr j ↦ scope_in k b b (inside h i first) (λ z l. l) j
    ]
    action_scope k w at n (wait ns b) h i m = elim (split_in m) [
      | inl e ↦ subst (InScope s k) (sym e) (in_wait h i)
      | inr j ↦ scope_in k b b (in_wait h i) (λ z l. l) j
    ]

  body_scope : (k : ℕ) (b : Block) → InScope s k b → {c : Block} → c ∈ (b ∷ blocks_below b) → InScope s k c
  body_scope k b h m = elim (split_in m) [ inl e ↦ subst (InScope s k) (sym e) h | inr j ↦ scope_in k b b h (λ z l. l) j ]

  functions_scope : (fs : List Function) {c : Block} → c ∈ function_blocks fs → (i : ℕ) × (f : Function) × (slice_get fs i ≡ Some f) × (c ∈ (f.body ∷ blocks_below f.body))
  functions_scope [] m = elim m [ ]
  functions_scope (f ∷ fs) m = elim (either (f.body ∷ blocks_below f.body) (function_blocks fs) m) [
    | inl i ↦ (0, f, refl, i)
    | inr i ↦ (let r = functions_scope fs i in (suc r.0, r.1, r.2, r.3))
  ]

  -- each block of the script lies in a body
  pub scoped_block : {b : Block} → b ∈ script_blocks s → (k : ℕ) × InScope s k b
  scoped_block m = elim (either (blocks_of s.body) (function_blocks s.functions) m) [
    | inl i ↦ (0, body_scope 0 s.body of_script i)
    | inr i ↦ (let r = functions_scope s.functions i in (r.1.inputs, body_scope r.1.inputs r.1.body (of_function r.0 r.2) r.3))
  ]
