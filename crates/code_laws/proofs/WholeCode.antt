-- Laid code of an accepted script is whole.
use Rattle.std.proofs.Common.{◌≡◌, ◌⊎◌, inl, inr, ℕ, ◌+◌, ◌<◌, ◌≤◌, ℤ, Bool, true, false, List, [], ◌∷◌, ◌++◌, map, length, refl, sym, ap, ap₂, ◌∙◌, subst, Option, Some, None, arith}
use Rattle.std.specs.Prelude.{slice_get}
use Rattle.dataflow.specs.System.{In}
use Rattle.language.specs.Core as Co
use Rattle.language.specs.Core.{Owned, local, input, output, Name, Cell, Call, Part, inner, calls, Outer, Stmt, stmt, Action, declare, call_alone, range, each, Block, Function, Core}
use Rattle.language.specs.Members.{◌∈◌, first, later}
use Rattle.language.specs.Parts.{block_list, parts, part_cells, script_blocks, script_stmts, stmt_action}
use Rattle.language.specs.Scopes.{Typ, Signature}
use Rattle.language.specs.Single.{SinglyAssigned, IsSimple, IsNamed, Owns, declared_here, an_output, StmtWay, simple, range_way, each_way, an_input}
use Rattle.language.specs.WellFormed.{header_blocks}
use Rattle.language.proofs.Blocks.{among}
use Rattle.language.proofs.Tested.{flat, block_nodes, cell_nodes, roles_of, hidden_of, with_turn}
use Rattle.language.specs.Distinct.{distinct}
use Rattle.language_laws.proofs.OneAssign.{function_in}
use Rattle.language_laws.proofs.Ways.{times_of, times_two, block_way}
use Rattle.language_laws.specs.Scoped.{Scoped}
use Rattle.language_laws.specs.TypedValues.{own_parts}
use Rattle.task_code.specs.Code as code
use Rattle.task_code.specs.Code.{Variable, Local, Parameter, Argument, Named, Act, Loop, Way, InPlace, Through, Calling, Code, Entry, entry, body, ways, here, scalar, is_array_name, argument, call_at, loop_of, loop_variables, turn_variables, targets}
use Rattle.task_code.specs.Whole.{IsCode}
use Rattle.code_rules.specs.CodeNames.{owned_as, name_as}
use Rattle.code_rules.specs.Emitted.{HasRights}
use Rattle.code_rules.specs.IsCodeOf as of
use Rattle.code_rules.specs.IsCodeOf.{Layout, CallAs}
use Rattle.code_rules.specs.Laying.{Kinds}
use Rattle.code_rules.specs.Laid.{Stands, IsLaid}
use Rattle.code_rules.specs.NodesOnce.{TellsNode, NodesOnce}
use Rattle.language_accepted.proofs.Given.{no_target}
use Rattle.code_laws.specs.Described.{is_array_shape, kinds_of_signature}
use Rattle.code_laws.specs.Standing.{CallsAreFound, IsStanding}
use Rattle.code_laws.specs.Within.{IsWithin}
use Rattle.code_laws.proofs.Roles.{own_of, OwnOf, own_simple, own_branch, own_branches, own_range, own_each, own_wait, Role, role_of}
use Rattle.code_laws.proofs.Shapes.{home_in, body_within}
use Rattle.code_laws.proofs.WholeOpenings.{LoopsOver, over_range, over_each, LoopIn, OpensAs, opens_call, no_simple_loop, stmt_in, home_of, opener_within, loop_within, opens_as, loop_as}
use Rattle.code_laws.proofs.Scoping.{SeesAs, before, InScopes, Hidden, OutputsCome}
use Rattle.code_laws.proofs.Settling.{IsParameter, is_output, is_input, FunctionScoped, ScriptScoped}
use Rattle.code_laws.proofs.Lookup.{StmtAt, lookup}
use Rattle.code_laws.proofs.Arguments.{arg_at, get_right, get_unmap, get_in, get_one, out_at, inputs_length, comes_length, out_type}
use Rattle.code_laws.proofs.Led.{SeenAs, flag_is, parameter_is, CallKnown, call_known_of, handed, led, Settled}
use Rattle.code_laws.proofs.Bases.{Assigns, names, further_in, has_target, keeps_targets, base_written}
use Rattle.code_laws.proofs.Owners.{OwnerOf, Round, round, Assignable, of_local, of_output, assignable, OwnedScope, owned_scope, owner_at, role_given, named_target}
use Rattle.code_laws.proofs.Kept.{cell_node, hidden_node, declared_cell, declared_hidden, cell_hidden, role_cell, role_hidden, hidden_once}
use Rattle.code_laws.proofs.Aims.{alone, named_of, Calls, Assigned, Aims, at_cell, at_hidden, at_alone, at_own, aims}
use Rattle.code_laws.proofs.Singles.{stmt_way, no_two, positions, own_once, loop_tells, loop_calls}
use Rattle.std.proofs.lemmas.Option.{slice_get_within, same_Some}

only_in : {X : Type 0} {x y : X} → x ∈ (y ∷ []) → x ≡ y
only_in m = elim (Rattle.language.proofs.Members.split_in m) [ inl e ↦ e | inr i ↦ elim i [ ] ]

-- NAMES THAT ARE THE SAME

abbrev number_of : code.Owned → ℕ
number_of (Local v) = v.node
number_of (Parameter i b) = i

abbrev is_local : code.Owned → Bool
is_local (Local v) = true
is_local (Parameter i b) = false

local_by : (k : ℕ) (w : Owned) (n : ℕ) → owned_as k false w ≡ Local (scalar n) → w ≡ local n
local_by k (local m) n e = ap local (ap number_of e)
local_by k (input i) n e = absurd (let q : false ≡ true = ap is_local e in cc (q))
local_by k (output j) n e = absurd (let q : false ≡ true = ap is_local e in cc (q))

local_of : (k : ℕ) (x : Name) (n : ℕ) (r : code.Name) → r ≡ name_as k false x → r ≡ here (scalar n) → x.what ≡ local n
local_of k x n r e q = local_by k x.what n (ap (λ (z : code.Name). z.owned) (sym e ∙ q))

same_by : (s : Core) (single : SinglyAssigned s) (k : ℕ) (w w' : Owned) → owned_as k false w ≡ owned_as k false w' → Assignable s single w → Assignable s single w' → w ≡ w'
same_by s single k w w' e (of_local m) (of_local n) = ap local (ap number_of e)
same_by s single k w w' e (of_local m) (of_output j) = absurd (let q : true ≡ false = ap is_local e in cc (q))
same_by s single k w w' e (of_output i) (of_local n) = absurd (let q : false ≡ true = ap is_local e in cc (q))
same_by s single k w w' e (of_output i) (of_output j) = (let q : k + i ≡ k + j = ap number_of e in ap output (omega arith))

same_what : (s : Core) (single : SinglyAssigned s) (k : ℕ) (x x' : Name) (r : code.Name) → r ≡ name_as k false x → r ≡ name_as k false x' → Assignable s single x.what → Assignable s single x'.what → x.what ≡ x'.what
same_what s single k x x' r e e' a a' = same_by s single k x.what x'.what (ap (λ (z : code.Name). z.owned) (sym e ∙ e')) a a'

same_node : (m n : ℕ) (r : code.Name) → r ≡ here (scalar m) → r ≡ here (scalar n) → m ≡ n
same_node m n r e q = ap (λ (z : code.Name). number_of z.owned) (sym e ∙ q)

local_same : {m n : ℕ} → local m ≡ local n → m ≡ n
local_same h = cc

alone_same : {p p' : ℤ} {ps ps' : List Part} {c c' : Call} → call_alone p ps c ≡ call_alone p' ps' c' → c ≡ c'
alone_same h = cc

-- a way through a loop's statement counts nothing
range_none : {w : Owned} {at n m x : ℕ} {lo hi : Outer} {st : Option Outer} {y : Option ℕ} {b : Block} → StmtWay w (stmt at n (range lo hi st x y b)) m → m ≡ 0
range_none (simple z t) = absurd z
range_none range_way = refl

each_none : {w : Owned} {at n m x : ℕ} {a : Name} {y : Option ℕ} {b : Block} → StmtWay w (stmt at n (each a x y b)) m → m ≡ 0
each_none (simple z t) = absurd z
each_none each_way = refl

-- a variable of a loop
record LoopRole (st : Stmt) (b : Block) (v : Variable) : Type 0 where
  pub at : ℕ
  pub node : ℕ
  pub action : Action
  pub is : st ≡ stmt at node action
  pub header : b ∈ header_blocks action
  pub number : ℕ
  pub role : number ∈ roles_of action
  pub variable : v ≡ scalar number

turn_role : (x : ℕ) (y : Option ℕ) (v : Variable) → In v (scalar x ∷ turn_variables y) → (n : ℕ) × (n ∈ with_turn x y) × (v ≡ scalar n)
turn_role x None v (inl e) = (x, first, e)
turn_role x None v (inr z) = absurd z
turn_role x (Some t) v (inl e) = (x, first, e)
turn_role x (Some t) v (inr (inl e)) = (t, later first, e)
turn_role x (Some t) v (inr (inr z)) = absurd z

loop_role : {st : Stmt} {w : Loop} {b : Block} (v : Variable) → LoopsOver st w b → In v (loop_variables w) → LoopRole st b v
loop_role v (over_range {x = x} {y = y}) h = let r = turn_role x y v h in record { at = _; node = _; action = _; is = refl; header = first; number = r.0; role = r.1; variable = r.2 }
loop_role v (over_each {x = x} {y = y}) h = let r = turn_role x y v h in record { at = _; node = _; action = _; is = refl; header = first; number = r.0; role = r.1; variable = r.2 }

owns_local : (s : Core) {w : Owned} {o : Block} (n : ℕ) → Owns s w o → w ≡ local n → (at : ℕ) × (m : ℕ) × (stmt at m (declare n) ∈ script_stmts s)
owns_local s n (declared_here {at = at} {m = m} {n = n'} bs i) e = (at, m, subst (λ (x : ℕ). stmt at m (declare x) ∈ script_stmts s) (local_same e) (among (script_blocks s) bs i))
owns_local s n (an_output i j) e = absurd (cc (e))

module _ {s : Core} {fs : List Kinds} {ds : List (ℕ × Bool)} (C : Code) (l : Layout) (L : IsLaid s fs ds C l) (R : HasRights C) (found : CallsAreFound C) (scoped : Scoped s)
    (sigs : List Signature) (type_of : ℕ → Typ) (S : ScriptScoped sigs type_of s) (D : (n : ℕ) (b : Bool) → ◌∈◌ {X = ℕ × Bool} (n, b) ds → is_array_shape (type_of n).shape ≡ b) (kinds : fs ≡ map kinds_of_signature sigs) (single : SinglyAssigned s)
    (nodes : NodesOnce C) (once : distinct (0 ∷ flat block_nodes (script_blocks s)) ≡ true) where
  abbrev Block_of : ℕ → Block
  Block_of t = L.table.block_of t

  abbrev Aim : ℕ → Stmt → ℕ → code.Name → Type 0
  Aim t st j r = Aims C l L found scoped sigs type_of S D kinds single t st j r

  abbrev Given : ℕ → Stmt → code.Name → Type 0
  Given t st r = Assigned C l L found scoped sigs type_of S D kinds single t st r

  scope_at : (t : ℕ) → t < length C.bodies → OwnedScope s single sigs type_of S (Block_of t)
  scope_at t lt = owned_scope s single sigs type_of S (L.bodies t lt).scope

  aim : (t j : ℕ) (st : Stmt) (r : code.Name) → st ∈ block_list (Block_of t) → Role C l L.table (L.table.inputs_of t) st j → In j (body C t).entries → In r (entry C j).writes → is_array_name r ≡ false → Aim t st j r
  aim t j (stmt at n a) r m role h right one =
      let lt = body_within C t j h in
      aims C l L found scoped sigs type_of S D kinds single t (scope_at t lt) lt r one at n a j m role h (R.writes j r right)

  -- THREE KINDS
  record OwnCell (a : Action) (j : ℕ) (r : code.Name) : Type 0 where
    pub cell : Cell
    pub there : cell.node ∈ cell_nodes (part_cells (parts a))
    pub tells : TellsNode (entry C j).act
    pub node_is : (entry C j).node ≡ cell.node
    pub is : r ≡ here (scalar cell.node)

  record OwnCall (a : Action) (j : ℕ) (r : code.Name) : Type 0 where
    pub call : Call
    pub node : ℕ
    pub opened : ℕ
    pub there : calls call ∈ before a
    pub outputs : call.outputs ≡ Co.here node ∷ []
    pub is : r ≡ here (scalar node)
    pub calling : Calls C j call opened

  data How (k : ℕ) (st : Stmt) (j : ℕ) : Type 0 where
    by_call : {c : Call} {b : ℕ} (p : ℤ) (ps : List Part) → stmt_action st ≡ call_alone p ps c → Calls C j c b → How k st j
    by_itself : OwnOf C l L.table k st j → How k st j

  record Third (t : ℕ) (st : Stmt) (j : ℕ) (r : code.Name) : Type 0 where
    pub assigned : Given t st r
    pub how : How (L.table.inputs_of t) st j

  abbrev Sort : ℕ → ℕ → ℕ → Action → ℕ → code.Name → Type 0
  Sort t at n a j r = (OwnCell a j r ⊎ OwnCall a j r) ⊎ Third t (stmt at n a) j r

  sort : (t at n : ℕ) (a : Action) (j : ℕ) (r : code.Name) → Aim t (stmt at n a) j r → Sort t at n a j r
  sort t at n a j r (at_cell {c = c} m z q e) = inl (inl (record { cell = c; there = cell_node a m; tells = z; node_is = q; is = e }))
  sort t at n a j r (at_hidden {c = c} {n = m} {b = b} i y o e k) = inl (inr (record { call = c; node = m; opened = b; there = y; outputs = o; is = e; calling = k }))
  sort t at n a j r (at_alone p ps e k d) = inr (record { assigned = d; how = by_call p ps e k })
  sort t at n a j r (at_own o d) = inr (record { assigned = d; how = by_itself o })

  same_call : {j j' b b' : ℕ} {c c' : Call} → Calls C j c b → Calls C j' c' b' → c ≡ c' → j ≡ j'
  same_call {j} {j'} {b} {b'} k k' e = sym (found j b k.opens) ∙ (ap (λ (z : ℕ). call_at C z) (k.offset ∙ (ap (λ (z : Call). z.at) e ∙ sym k'.offset)) ∙ found j' b' k'.opens)

  -- what a statement assigns, its block does
  lift : {at n : ℕ} {a : Action} {b : Block} {w : Owned} → stmt at n a ∈ block_list b → Assigns false (alone (stmt at n a)) w → Assigns false b w
  lift {b = b} m (names d m' i e) = names false (subst (λ (z : Stmt). z ∈ block_list b) (sym (only_in m')) m) i e
  lift {b = b} m (further_in d m' i h) = further_in false (subst (λ (z : Stmt). z ∈ block_list b) (sym (only_in m')) m) i h

  round_of : {t at n : ℕ} {a : Action} {r : code.Name} → stmt at n a ∈ block_list (Block_of t) → (A : Given t (stmt at n a) r) → Round s single (Block_of t) A.name.what
  round_of m A = round s single A.owner (named_of (lift m A.assigns))

  -- a variable that is assigned is neither a cell nor the output of a call in an expression
  cell_third : {B : Type 0} {t at n at' n' j : ℕ} {a a' : Action} {r : code.Name} → stmt at n a ∈ script_stmts s → stmt at' n' a' ∈ block_list (Block_of t) → OwnCell a j r → Given t (stmt at' n' a') r → B
  cell_third {t = t} {r = r} m m' c A =
      let o = round_of m' A in
      let d = owns_local s c.cell.node o.owns (local_of (L.table.inputs_of t) A.name c.cell.node r A.is c.is) in
      declared_cell s once d.2 m first c.there

  call_third : {B : Type 0} {t at n at' n' j : ℕ} {a a' : Action} {r : code.Name} → stmt at n a ∈ script_stmts s → stmt at' n' a' ∈ block_list (Block_of t) → OwnCall a j r → Given t (stmt at' n' a') r → B
  call_third {t = t} {a = a} {r = r} m m' c A =
      let o = round_of m' A in
      let d = owns_local s c.node o.owns (local_of (L.table.inputs_of t) A.name c.node r A.is c.is) in
      declared_hidden s once d.2 m first (hidden_node a c.there c.outputs)

  -- TWO ENTRIES OF ONE BODY
  abbrev Pair : ℕ → Stmt → Stmt → ℕ → ℕ → code.Name → Type 0
  Pair t st st' j j' r = (j ≡ j') ⊎ (Third t st j r × Third t st' j' r)

  pair : (t at n at' n' j j' : ℕ) (a a' : Action) (r : code.Name) → In j (body C t).entries → In j' (body C t).entries → stmt at n a ∈ block_list (Block_of t) → stmt at' n' a' ∈ block_list (Block_of t) → stmt at n a ∈ script_stmts s → stmt at' n' a' ∈ script_stmts s
      → Sort t at n a j r → Sort t at' n' a' j' r → Pair t (stmt at n a) (stmt at' n' a') j j' r
  pair t at n at' n' j j' a a' r h h' m m' i i' (inl (inl c)) (inl (inl d)) = inl (nodes t t j j' h h' c.tells d.tells (c.node_is ∙ (same_node c.cell.node d.cell.node r c.is d.is ∙ sym d.node_is)))
  pair t at n at' n' j j' a a' r h h' m m' i i' (inl (inl c)) (inl (inr d)) =
      cell_hidden s once i i' c.there (subst (λ (x : ℕ). x ∈ hidden_of a') (same_node d.node c.cell.node r d.is c.is) (hidden_node a' d.there d.outputs))
  pair t at n at' n' j j' a a' r h h' m m' i i' (inl (inr c)) (inl (inl d)) =
      cell_hidden s once i' i d.there (subst (λ (x : ℕ). x ∈ hidden_of a) (same_node c.node d.cell.node r c.is d.is) (hidden_node a c.there c.outputs))
  pair t at n at' n' j j' a a' r h h' m m' i i' (inl (inr c)) (inl (inr d)) =
      inl (same_call c.calling d.calling (hidden_once s once i i' c.there d.there c.outputs (subst (λ (x : ℕ). d.call.outputs ≡ Co.here x ∷ []) (same_node d.node c.node r d.is c.is) d.outputs)))
  pair t at n at' n' j j' a a' r h h' m m' i i' (inl (inl c)) (inr d) = cell_third i m' c d.assigned
  pair t at n at' n' j j' a a' r h h' m m' i i' (inl (inr c)) (inr d) = call_third i m' c d.assigned
  pair t at n at' n' j j' a a' r h h' m m' i i' (inr c) (inl (inl d)) = cell_third i' m d c.assigned
  pair t at n at' n' j j' a a' r h h' m m' i i' (inr c) (inl (inr d)) = call_third i' m d c.assigned
  pair t at n at' n' j j' a a' r h h' m m' i i' (inr c) (inr d) = inr (c, d)

  own_alone : {B : Type 0} {k at n j : ℕ} {a : Action} {p : ℤ} {ps : List Part} {c : Call} → OwnOf C l L.table k (stmt at n a) j → a ≡ call_alone p ps c → B
  own_alone (own_simple z e q) h = absurd (subst of.IsSimple h z)
  own_alone (own_branch e m x) h = absurd (cc (h))
  own_alone (own_branches e m x u) h = absurd (cc (h))
  own_alone (own_range e m x) h = absurd (cc (h))
  own_alone (own_each e m x) h = absurd (cc (h))
  own_alone (own_wait w e x) h = absurd (cc (h))

  together : (t j j' at n : ℕ) (a : Action) (is : List ℕ) (vs : List Variable) → Rattle.code_rules.specs.Laid.StmtLaid C l L.table (L.table.inputs_of t) (stmt at n a) is vs → In j is → In j' is
      → How (L.table.inputs_of t) (stmt at n a) j → How (L.table.inputs_of t) (stmt at n a) j' → j ≡ j'
  together t j j' at n a is vs laid h h' (by_call p ps e k) (by_call p' ps' e' k') = same_call k k' (alone_same (sym e ∙ e'))
  together t j j' at n a is vs laid h h' (by_call p ps e k) (by_itself o) = own_alone o e
  together t j j' at n a is vs laid h h' (by_itself o) (by_call p ps e k) = own_alone o e
  together t j j' at n a is vs laid h h' (by_itself o) (by_itself o') = let q = own_once C l L.table laid in q.1 j h o ∙ sym (q.1 j' h' o')

  apart : {B : Type 0} {t at n at' n' : ℕ} {a a' : Action} {r : code.Name} → stmt at n a ∈ block_list (Block_of t) → stmt at' n' a' ∈ block_list (Block_of t) → Given t (stmt at n a) r → Given t (stmt at' n' a') r
      → ((w : Owned) (m m' : ℕ) → StmtWay w (stmt at n a) m → StmtWay w (stmt at' n' a') m' → (x : ℕ) × Rattle.language.specs.Single.Way w (Block_of t) x × (m + m' ≤ x)) → B
  apart {t = t} {at' = at'} {n' = n'} {a = a} {a' = a'} {r = r} m m' A A' two =
      let o = round_of m A in
      let o' = round_of m' A' in
      let same = same_what s single (L.table.inputs_of t) A.name A'.name r A.is A'.is (assignable s single o.owns) (assignable s single o'.owns) in
      let w = stmt_way s single a m A.owner A.assigns in
      let w' = stmt_way s single a' m' A'.owner A'.assigns in
      let z = two A.name.what w.0 w'.0 w.1 (subst (λ (x : Owned). StmtWay x (stmt at' n' a') w'.0) (sym same) w'.1) in
      let i = w.2 in
      let j = w'.2 in
      let q = z.2 in
      no_two s single o z.0 z.1 (omega arith)

  pub one_assigner : (t j j' : ℕ) (r : code.Name) → In j (body C t).entries → In j' (body C t).entries → In r (entry C j).writes → In r (entry C j').writes → is_array_name r ≡ false → j ≡ j'
  one_assigner t j j' r h h' right right' one = (let lt = body_within C t j h in elim (positions C l L.table (Block_of t) j j' (L.bodies t lt).stmts h h') [ inl x ↦ of_one lt x.st x.there x.laid x.one x.other | inr x ↦ of_two lt x.st x.st' x.there x.there' x.role x.role' x.two ])
    where
      of_one : t < length C.bodies → (st : Stmt) {is : List ℕ} {vs : List Variable} → st ∈ block_list (Block_of t) → Rattle.code_rules.specs.Laid.StmtLaid C l L.table (L.table.inputs_of t) st is vs → In j is → In j' is → j ≡ j'
      of_one lt (stmt at n a) {is} {vs} m laid i i' =
          let x = aim t j (stmt at n a) r m (role_of C l L.table laid i) h right one in
          let x' = aim t j' (stmt at n a) r m (role_of C l L.table laid i') h' right' one in
          let y = stmt_in C l L t lt m in
          elim (pair t at n at n j j' a a r h h' m m y y (sort t at n a j r x) (sort t at n a j' r x')) [
            | inl e ↦ e
            | inr p ↦ together t j j' at n a is vs laid i i' (p.0).how (p.1).how
          ]

      of_two : t < length C.bodies → (st st' : Stmt) → st ∈ block_list (Block_of t) → st' ∈ block_list (Block_of t) → Role C l L.table (L.table.inputs_of t) st j → Role C l L.table (L.table.inputs_of t) st' j'
          → ((w : Owned) (m m' : ℕ) → StmtWay w st m → StmtWay w st' m' → (x : ℕ) × Rattle.language.specs.Single.Way w (Block_of t) x × (m + m' ≤ x)) → j ≡ j'
      of_two lt (stmt at n a) (stmt at' n' a') m m' role role' two =
          let x = aim t j (stmt at n a) r m role h right one in
          let x' = aim t j' (stmt at' n' a') r m' role' h' right' one in
          elim (pair t at n at' n' j j' a a' r h h' m m' (stmt_in C l L t lt m) (stmt_in C l L t lt m') (sort t at n a j r x) (sort t at' n' a' j' r x')) [
            | inl e ↦ e
            | inr p ↦ apart m m' (p.0).assigned (p.1).assigned two
          ]

  -- LOOPS
  loop_by : (i : ℕ) {a : Act} {w : Loop} → (entry C i).act ≡ a → loop_of (entry C i).act ≡ Some w → loop_of a ≡ Some w
  loop_by i {w = w} e h = subst (λ (z : Act). loop_of z ≡ Some w) e h

  loop_own : {t at n i : ℕ} {a : Action} {r : code.Name} (w : Loop) → loop_of (entry C i).act ≡ Some w → stmt at n a ∈ block_list (Block_of t) → OwnOf C l L.table (L.table.inputs_of t) (stmt at n a) i → Given t (stmt at n a) r → ⊥
  loop_own {t} {i = i} {a = a} w h m (own_simple z e q) A = no_simple_loop l (L.table.inputs_of t) a w z (loop_by i e.act_is h)
  loop_own {i = i} w h m (own_branch e k x) A = let g = loop_by i e.act_is h in absurd (cc (g))
  loop_own {i = i} w h m (own_branches e k x u) A = let g = loop_by i e.act_is h in absurd (cc (g))
  loop_own {i = i} {a = a} w h m (own_range e k x) A = let y = stmt_way s single a m A.owner A.assigns in let z = range_none y.1 in let q = y.2 in absurd (omega arith)
  loop_own {i = i} {a = a} w h m (own_each e k x) A = let y = stmt_way s single a m A.owner A.assigns in let z = each_none y.1 in let q = y.2 in absurd (omega arith)
  loop_own {i = i} w h m (own_wait hd e x) A = let g = loop_by i e.act_is h in absurd (cc (g))

  pub arrays : (i : ℕ) (w : Loop) (r : code.Name) → loop_of (entry C i).act ≡ Some w → In r (entry C i).writes → is_array_name r ≡ false → ⊥
  arrays i w r e right one = (let o = home_of C l L i (loop_within C l L i w e) in let x = home_in C l L o.home i o.stands in by o.home (x.of).st (x.of).there (aim o.home i (x.of).st r (x.of).there x.role o.stands right one))
    where
      by : (t : ℕ) (st : Stmt) → st ∈ block_list (Block_of t) → Aim t st i r → ⊥
      by t st m (at_cell c z q y) = loop_tells (entry C i).act w e z
      by t st m (at_hidden {b = b} x y o q k) = loop_calls (entry C i).act w b e k.opens
      by t st m (at_alone {b = b} p ps q k A) = loop_calls (entry C i).act w b e k.opens
      by t (stmt at n a) m (at_own o A) = loop_own w e m o A

  not_array : (v : Variable) (n : ℕ) → v ≡ scalar n → is_array_name (here v) ≡ false
  not_array v n e = ap (λ (z : Variable). is_array_name (here z)) e

  -- a loop's variables are written by nothing else
  pub kept : (i : ℕ) (w : Loop) (v : Variable) (j : ℕ) → loop_of (entry C i).act ≡ Some w → In v (loop_variables w) → In j (body C w.body).entries → In (here v) (entry C j).writes → ⊥
  kept i w v j e iv h right =
      let o = home_of C l L i (loop_within C l L i w e) in
      let x = loop_as C l L o.home i w o.stands e in
      let y = loop_role v x.over iv in
      let lt = body_within C w.body j h in
      let u = home_in C l L w.body j h in
      by o.home o.within_code x y lt (u.of).st (u.of).there (aim w.body j (u.of).st (here v) (u.of).there u.role h right (not_array v y.number y.variable))
    where
      by : (t : ℕ) → t < length C.bodies → (x : LoopIn s C l L.table t i w) → (y : LoopRole x.st x.block v) → w.body < length C.bodies → (st : Stmt) → st ∈ block_list (Block_of w.body) → Aim w.body st j (here v) → ⊥
      by t tl x y lt (stmt at n a) m z =
          let loop : stmt y.at y.node y.action ∈ script_stmts s = stmt_in C l L t tl (subst (λ (q : Stmt). q ∈ block_list (Block_of t)) y.is x.there) in
          let inner_stmt = stmt_in C l L w.body lt m in
          let is : here v ≡ here (scalar y.number) = ap here y.variable in
          elim (sort w.body at n a j (here v) z) [
            | inl c ↦ elim c [
              | inl d ↦ role_cell s once loop inner_stmt (subst (λ (q : ℕ). q ∈ roles_of y.action) (same_node y.number d.cell.node (here v) is d.is) y.role) d.there
              | inr d ↦ role_hidden s once loop inner_stmt (subst (λ (q : ℕ). q ∈ roles_of y.action) (same_node y.number d.node (here v) is d.is) y.role) (hidden_node a d.there d.outputs)
            ]
            | inr d ↦ (let A = d.assigned in
                let what = local_of (L.table.inputs_of w.body) A.name y.number (here v) A.is is in
                let named : IsNamed (local y.number) x.block = subst (λ (q : Owned). IsNamed q x.block) what (subst (λ (q : Block). IsNamed A.name.what q) x.stands.block (named_of (lift m A.assigns))) in
                no_target s single (role_given s single y.action loop y.header y.role) (named_target named))
          ]

  -- OUTPUTS
  named_same : {x y : code.Name} → Named x ≡ Named y → x ≡ y
  named_same h = cc

  abbrev CallIn : Rattle.language.specs.Scopes.Scope → Action → Call → Type 0
  CallIn g a c = CallKnown C l L found scoped sigs type_of S D Assigns (keeps_targets s single) g a c

  record OutputOf (f : Function) (sig : Signature) (k : ℕ) : Type 0 where
    pub place : ℕ
    pub is : k ≡ f.inputs + place
    pub type : Typ
    pub typed : slice_get sig.outputs place ≡ Some type

  -- a scalar parameter that a called body writes is an output
  output_of : {b k : ℕ} {i : ℕ} {f : Function} {vs : List Variable} {o : code.Opener} (j : ℕ) (F : FunctionScoped sigs type_of sigs i f) → slice_get s.functions i ≡ Some f → Stands C l L.table f.inputs f.body vs o b → In j (body C b).entries
      → In (record { up = 0; owned = Parameter k false }) (entry C j).writes → OutputOf f F.signature k
  output_of {b} {k} {i} {f} j F fn st h right =
      by (led C l L found scoped sigs type_of S D Assigns (keeps_targets s single) targets (base_written C l L found scoped sigs type_of S D single kinds) b j F.scope q h (subst (λ (y : Block). InScopes sigs type_of F.scope y) (sym st.block) F.body) (R.writes j q right))
    where
      q : code.Name
      q = record { up = 0; owned = Parameter k false }

      local_parameter : {v : Variable} → Parameter k false ≡ Local v → ⊥
      local_parameter e = absurd (let z : false ≡ true = ap is_local e in cc (z))

      parameter : (z : SeenAs (L.table.inputs_of b) F.scope (λ d w. Assigns d (Block_of b) w) q) → IsParameter F.signature z.sees.variable → OutputOf f F.signature k
      parameter z (is_input x e ty) =
          absurd (no_target s single (an_input (function_in s.functions i f fn) (subst (λ (n : ℕ). x < n) F.inputs (slice_get_within F.signature.inputs x z.sees.variable.type ty)))
          (has_target (subst (λ (y : Name). Assigns z.flag f.body y.what) (z.sees.is ∙ e) (subst (λ (y : Block). Assigns z.flag y z.name.what) st.block z.kept))))
      parameter z (is_output x e ty) =
          let u = parameter_is (z.is ∙ ap₂ (λ (n : ℕ) (y : Name). name_as n z.flag y) st.inputs (z.sees.is ∙ e)) in
          record { place = x; is = u.0; type = z.sees.variable.type; typed = ty }

      by : Settled C l L found scoped sigs type_of S D Assigns b F.scope q → OutputOf f F.signature k
      by (inl d) = absurd (local_parameter (ap (λ (z : code.Name). z.owned) d.is))
      by (inr z) = parameter z (F.parameters z.sees.variable z.sees.visible)

  -- two outputs of one call are two variables
  outs_apart : {t at n : ℕ} {a : Action} {c : Call} {outs : List code.Name} (g : OwnedScope s single sigs type_of S (Block_of t)) (k : StmtAt sigs type_of g.scope (Block_of t) a) → stmt at n a ∈ block_list (Block_of t) → (known : CallIn k.scope a c) → of.OutputsAs C l (L.table.inputs_of t) c.outputs outs
      → (x y : ℕ) (r : code.Name) → slice_get outs x ≡ Some r → slice_get outs y ≡ Some r → is_array_name r ≡ false → x ≡ y
  outs_apart {t} {at} {n} {a} {c} g k m known os x y r e e' one = by known.outputs (out_at C l x r os e) (out_at C l y r os e')
    where
      kk : ℕ
      kk = L.table.inputs_of t

      by : ((calls c ∈ before a × Hidden c.outputs known.signature.outputs) ⊎ ((p : ℤ) × (ps : List Part) × (a ≡ call_alone p ps c) × OutputsCome k.scope c.outputs known.signature.outputs))
          → ((z : Name) × (f : Bool) × (slice_get c.outputs x ≡ Some z) × (r ≡ name_as (L.table.inputs_of t) f z)) → ((z : Name) × (f : Bool) × (slice_get c.outputs y ≡ Some z) × (r ≡ name_as (L.table.inputs_of t) f z)) → x ≡ y
      by (inl h) u v =
          (get_one (Co.here (h.1).node) u.0 x (subst (λ (xs : List Name). slice_get xs x ≡ Some u.0) (h.1).is u.2)).0
          ∙ sym (get_one (Co.here (h.1).node) v.0 y (subst (λ (xs : List Name). slice_get xs y ≡ Some v.0) (h.1).is v.2)).0
      by (inr h) u v =
          let p = out_type x u.0 h.3 u.2 in
          let p' = out_type y v.0 h.3 v.2 in
          let is : r ≡ name_as (L.table.inputs_of t) false u.0 = u.3 ∙ ap (λ (f : Bool). name_as (L.table.inputs_of t) f u.0) (flag_is (L.table.inputs_of t) u.1 false u.0 r u.3 one) in
          let is' : r ≡ name_as (L.table.inputs_of t) false v.0 = v.3 ∙ ap (λ (f : Bool). name_as (L.table.inputs_of t) f v.0) (flag_is (L.table.inputs_of t) v.1 false v.0 r v.3 one) in
          let m' : stmt at n (call_alone h.0 h.1 c) ∈ block_list (Block_of t) = subst (λ (z : Action). stmt at n z ∈ block_list (Block_of t)) h.2 m in
          let o = owner p.2 in
          let o' = owner p'.2 in
          let w = round s single o (named_of (names false m' (get_in c.outputs x u.0 u.2) refl)) in
          let w' = round s single o' (named_of (names false m' (get_in c.outputs y v.0 v.2) refl)) in
          let same = same_what s single (L.table.inputs_of t) u.0 v.0 r is is' (assignable s single w.owns) (assignable s single w'.owns) in
          let q = times_of u.0.what c.outputs in
          elim (times_two c.outputs q.1 x y u.0 v.0 u.2 v.2 refl (sym same)) [
            | inl z ↦ z
            | inr z ↦ (let f = block_way u.0.what (Block_of t) m' (simple {at = at} {n = n} {a = call_alone h.0 h.1 c} tt q.1) in let i = f.2 in no_two s single w f.0 f.1 (omega arith))
          ]
        where
          owner : {z : Name} {d : Bool} → SeesAs k.scope z d → OwnerOf s single (Block_of t) z.what
          owner z = subst (λ (y : Name). OwnerOf s single (Block_of t) y.what) (sym z.is) (owner_at s single sigs type_of S g k z.variable z.visible)

  pub outputs : (i b : ℕ) → In {X = Way × ℕ} (Calling, b) (ways (entry C i).act) → (j j' k k' : ℕ) (r : code.Name) → In j (body C b).entries → In j' (body C b).entries → In (record { up = 0; owned = Parameter k false }) (entry C j).writes
      → In (record { up = 0; owned = Parameter k' false }) (entry C j').writes → argument C (entry C i).offset k false ≡ Some (Named r) → argument C (entry C i).offset k' false ≡ Some (Named r) → k ≡ k'
  outputs i b way j j' k k' r h h' right right' e e' = (let o = home_of C l L i (opener_within C l L i (Calling, b) way) in let x = opens_as C l L scoped o.home i b Calling o.stands way in by o.home o.within_code Calling refl x.1)
    where
      of_call : (t at n at' : ℕ) (p : ℤ) (a : Action) (c : Call) (f : Function) {vs : List Variable} {o : code.Opener} → t < length C.bodies → stmt at n a ∈ block_list (Block_of t) → calls c ∈ own_parts a → CallAs C l (L.table.inputs_of t) (own_parts a) at' p c i → slice_get s.functions c.function ≡ Some f
          → Stands C l L.table f.inputs f.body vs o b → k ≡ k'
      of_call t at n at' p a c f lt m kc ca fn st =
          let g = scope_at t lt in
          let at_stmt = lookup sigs type_of g.scoped_in m in
          let known : CallIn at_stmt.scope a c = call_known_of C l L found scoped sigs type_of S D Assigns (keeps_targets s single) at_stmt.comes kc in
          let F = S.functions c.function f fn in
          let x = output_of j F fn st h right in
          let y = output_of j' F fn st h' right' in
          let counted : length ca.ins ≡ f.inputs = sym (inputs_length C l ca.inputs) ∙ (comes_length known.inputs ∙ (ap (λ (u : Signature). length u.inputs) (same_Some _ _ (sym known.there ∙ F.there)) ∙ F.inputs)) in
          let u = got ca counted k x.place x.is e in
          let v = got ca counted k' y.place y.is e' in
          let z = outs_apart g at_stmt m known ca.outputs x.place y.place r u.0 v.0 u.1 in
          x.is ∙ (ap (λ (q : ℕ). f.inputs + q) z ∙ sym y.is)
        where
          got : (ca : CallAs C l (L.table.inputs_of t) (own_parts a) at' p c i) → length ca.ins ≡ f.inputs → (kk place : ℕ) → kk ≡ f.inputs + place → argument C (entry C i).offset kk false ≡ Some (Named r) → (slice_get ca.outs place ≡ Some r) × (is_array_name r ≡ false)
          got ca counted kk place q ar =
              let w = arg_at (ca.ins ++ map Named ca.outs) kk false (Named r) (sym (handed C l L found scoped sigs type_of S D Assigns (keeps_targets s single) b ca way kk false) ∙ ar) in
              let e1 : kk ≡ length ca.ins + place = q ∙ ap (λ (x : ℕ). x + place) (sym counted) in
              let at_out : slice_get (map Named ca.outs) place ≡ Some (Named r) = sym (get_right ca.ins (map Named ca.outs) place) ∙ subst (λ (x : ℕ). slice_get (ca.ins ++ map Named ca.outs) x ≡ Some (Named r)) e1 w.0 in
              let y = get_unmap Named ca.outs place (Named r) at_out in
              (y.1 ∙ ap (λ (x : code.Name). Some x) (named_same y.2), w.1)

      by : (t : ℕ) → t < length C.bodies → {st : Stmt} (w : Way) → w ≡ Calling → OpensAs s C l L.table t i st w b → k ≡ k'
      by t lt w q (opens_call {st = u} {c = c} {f = f} at' p m kc ca fn st z) = of_stmt u m kc ca
        where
          of_stmt : (u : Stmt) → u ∈ block_list (Block_of t) → calls c ∈ own_of u → CallAs C l (L.table.inputs_of t) (own_of u) at' p c i → k ≡ k'
          of_stmt (stmt at n a) m kc ca = of_call t at n at' p a c f lt m kc ca fn st
      by t lt w q (Rattle.code_laws.proofs.WholeOpenings.opens_header vs v m c mk st) = absurd (cc (q))
      by t lt w q (Rattle.code_laws.proofs.WholeOpenings.opens_wait m hd st) = absurd (cc (q))

  -- LAID CODE IS WHOLE
  pub whole : IsStanding C → IsWithin C → IsCode C
  whole T W = record {
    script = T.script;
    script_reads = W.script_reads;
    script_writes = W.script_writes;
    shape = T.shape;
    there = T.there;
    needs = T.needs;
    stores = T.stores;
    fits = λ i w b h. record {
      opened = T.opened i w b h;
      reads = λ j r g right. W.reads i w b j r h g right;
      writes = λ j r g right. W.writes i w b j r h g right;
      inside = λ e v m right. T.inside i b v (subst (λ (z : Way). In {X = Way × ℕ} (z, b) (ways (entry C i).act)) e h) m right;
      outputs = λ e j j' k k' r g g' right right' a a'. outputs i b (subst (λ (z : Way). In {X = Way × ℕ} (z, b) (ways (entry C i).act)) e h) j j' k k' r g g' right right' a a';
    };
    loops = λ i w e. record {
      arrays = λ r right one. arrays i w r e right one;
      made = λ v m. T.made i w v e m;
      distinct = T.distinct i w e;
      kept = λ v j m h right. kept i w v j e m h right;
    };
    makes_once = T.makes_once;
    entries_once = T.entries_once;
    entries_distinct = T.entries_distinct;
    one_assigner = one_assigner;
  }
