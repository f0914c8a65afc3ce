-- The core of a typed script with numbers in reading order is scoped, and where it is singly assigned and no called name stands at the offset of another it is well formed.
use Rattle.std.specs.Prelude.{◌≡◌, ◌⊎◌, ℕ, zero, suc, ◌<◌, Bool, true, false, ◌&&◌, ◌||◌, List, [], ◌∷◌, Option, Some, length, nat_eq, nat_lt, slice_get, refl}
use Rattle.std.proofs.Common.{inl, inr, sym, ap, ap₂, ◌∙◌, subst, arith}
use Rattle.std.proofs.lemmas.Bool.{and_from}
use Rattle.language.specs.Core.{Owned, local, input, output, Name, Cell, Call, Part, inner, calls, Stmt, stmt, Action, each, wait, Block, Function, Core}
use Rattle.language.specs.Members.{◌∈◌, first, later}
use Rattle.language.specs.Numbers.{numbers}
use Rattle.language.specs.Parts.{block_list, script_blocks, script_stmts, part_cells, part_calls, parts, stmt_calls, stmt_action, by_name}
use Rattle.language.specs.Resolved.{core}
use Rattle.language.specs.Scopes.{Signature, signatures}
use Rattle.language.specs.Single.{an_input, SinglyAssigned}
use Rattle.language.specs.Table.{Table}
use Rattle.language.specs.Tree.{Tree}
use Rattle.language.specs.Typing.{WellTyped}
use Rattle.language.specs.WellFormed.{WellFormed, header_blocks}
use Rattle.language.proofs.Members.{split_in, to_left, to_right}
use Rattle.language.proofs.Tested.{has_in, self_eq, flat_in, every, every_in, among_split, declared_of, hidden_calls, hidden_of, name_nodes, local_node, may_be, may_be_target, target_nodes, stmt_targets, targets_fine, split_flat}
use Rattle.language.specs.Distinct.{distinct}
use Rattle.language_laws.proofs.TestedNames.{declared_by, all_declared, is_declared, named_fine, declares, used, is_here, here_and_declared, here_then_declared, declared_then_here, implies, block_names, headers_fine, waits_fine, output_below, is_output, function_name, function_fine, counts_of, call_fine, calls_fine, one_hidden, is_local, hidden_fine, Passes, kinds, well_formed}
use Rattle.language_laws.proofs.TreeCalls.{hidden, fills}
use Rattle.language_laws.proofs.TreeNodes.{nodes_once}
use Rattle.language_laws.proofs.TreeOffsets.{offsets_once}
use Rattle.language_laws.specs.Offsets.{tree_offsets}
use Rattle.language_laws.proofs.TreeStmts.{writers_once}
use Rattle.language_laws.specs.Scoped.{InScope, IsScoped, Scoped}
use Rattle.language_accepted.specs.Placed.{Rise}
use Rattle.language_accepted.proofs.Placed.{Sees, CallFits}
use Rattle.language_accepted.proofs.Given.{HasTarget, used_target, no_target}
use Rattle.language_accepted.proofs.Standing.{used_stands, declared_here}
use Rattle.language_accepted.proofs.Everywhere.{Stands, an_output, a_declared, a_given, IsParameter, AllPlaced, HeaderOk, StmtOk, block_ok, each_stmt_ok}
use Rattle.language_accepted.proofs.Bodies.{all_placed, function_of, scoped_block}
use Rattle.language_accepted.proofs.Once.{rising_once}

-- TESTS

every_of : {X : Type 0} (p : X → Bool) (xs : List X) → ((x : X) → x ∈ xs → p x ≡ true) → every p xs ≡ true
every_of p [] h = refl
every_of p (x ∷ xs) h = ap₂ (λ (a b : Bool). a && b) (h x first) (every_of p xs (λ y m. h y (later m)))

here_true : (n : ℕ) → n ≡ 0 → is_here n ≡ true
here_true n e = ap is_here e

implies_true : (a b : Bool) → b ≡ true → implies a b ≡ true
implies_true true b h = h
implies_true false b h = refl

below_true : (j n : ℕ) → j < n → nat_lt j n ≡ true
below_true j n h = grind (arith, h)

same_true : (m n : ℕ) → m ≡ n → nat_eq m n ≡ true
same_true m n e = subst (λ (z : ℕ). nat_eq m z ≡ true) e (self_eq m)

cell_part : (ps : List Part) (c : Cell) → c ∈ part_cells ps → inner c ∈ ps
cell_part [] c m = elim m [ ]
cell_part (inner d ∷ ps) c m = elim (split_in m) [ inl e ↦ subst (λ (z : Cell). inner c ∈ (inner z ∷ ps)) e first | inr i ↦ later (cell_part ps c i) ]
cell_part (calls d ∷ ps) c m = later (cell_part ps c m)

call_part : (ps : List Part) (c : Call) → c ∈ part_calls ps → calls c ∈ ps
call_part [] c m = elim m [ ]
call_part (inner d ∷ ps) c m = later (call_part ps c m)
call_part (calls d ∷ ps) c m = elim (split_in m) [ inl e ↦ subst (λ (z : Call). calls c ∈ (calls z ∷ ps)) e first | inr i ↦ later (call_part ps c i) ]

-- a call of a statement stands in an expression, or its outputs are the statement's targets
call_targets : (a : Action) (c : Call) → c ∈ part_calls (parts a) → (c ∈ hidden_calls a) ⊎ (c.outputs ≡ by_name a)
call_targets a c m = elim (kinds a c m) [ inl i ↦ inl i | inr o ↦ inr (sym (ap by_name o.is)) ]

hidden_local : (xs : List Name) (x : Name) → one_hidden xs ≡ true → x ∈ xs → (m : ℕ) × (x.what ≡ local m)
hidden_local [] x h m = elim m [ ]
hidden_local (y ∷ []) x h m = elim (split_in m) [ inl e ↦ (let r = by y.up y.what h in (r.0, ap (λ (z : Name). z.what) e ∙ r.1)) | inr i ↦ elim i [ ] ]
  where
    by : (up : ℕ) (what : Owned) → is_local up what ≡ true → (m : ℕ) × (what ≡ local m)
    by zero (local n) h = (n, refl)
    by zero (input i) h = absurd (cc (h))
    by zero (output j) h = absurd (cc (h))
    by (suc up) what h = absurd (cc (h))
hidden_local (y ∷ z ∷ xs) x h m = absurd (cc (h))

module _ (t : Table) (tree : Tree) (rise : Rise 0 (numbers tree)) (typed : WellTyped tree t) where
  abbrev s : Core
  s = core t tree

  abbrev fs : List Signature
  fs = signatures tree

  all : AllPlaced fs s
  all = all_placed t tree rise typed

  -- a statement of the script, in its block
  record Stood (st : Stmt) : Type 0 where
    inputs : ℕ
    block : Block
    scope : InScope s inputs block
    there : st ∈ block_list block
    ok : StmtOk fs s inputs block (stmt_action st)

  stood : (st : Stmt) → st ∈ script_stmts s → Stood st
  stood st m =
      let r = among_split (script_blocks s) m in
      let q = scoped_block s r.1 in
      record { inputs = q.0; block = r.0; scope = q.1; there = r.2; ok = each_stmt_ok fs s all q.1 st r.2 }

  -- a called function is there, with what the call has for it
  pub called : (k : ℕ) (c : Call) → CallFits fs k c → (f : Function) × (slice_get s.functions c.function ≡ Some f) × (length c.inputs ≡ f.inputs) × (length c.outputs ≡ f.outputs)
  called k c h = let r = function_of t tree c.function h.signature h.there in (r.0, r.1, h.inputs ∙ sym r.2, h.outputs ∙ sym r.3)

  pub call_of : (st : Stmt) (c : Call) → st ∈ script_stmts s → c ∈ stmt_calls st → (k : ℕ) × CallFits fs k c
  call_of (stmt at n a) c m i = let r = stood (stmt at n a) m in (r.inputs, r.ok.fits.inside (calls c) (call_part (parts a) c i))

  scoped_stmt : (k : ℕ) (b : Block) (st : Stmt) → InScope s k b → st ∈ block_list b → IsScoped k st
  scoped_stmt k b (stmt at n a) h i =
      let f = (each_stmt_ok fs s all h (stmt at n a) i).fits in
      record {
        in_cells = λ c m. f.inside (inner c) (cell_part (parts a) c m);
        in_inputs = λ c x m j. (f.inside (calls c) (call_part (parts a) c m)).given x j;
        in_outputs = λ c x m j. (f.inside (calls c) (call_part (parts a) c m)).taken x j;
        in_targets = λ x m. f.among x (f.named x m);
        in_elements = λ x m. f.among x (f.written x m);
      }

  -- THE CORE IS SCOPED
  pub scoped : Scoped s
  scoped = record {
    statements = scoped_stmt;
    loops = λ k b at n x a o c h i. (each_stmt_ok fs s all h (stmt at n (each a x o c)) i).fits.over a first;
    waits = λ k b at n ns c x h i m. (each_stmt_ok fs s all h (stmt at n (wait ns c)) i).fits.waits x m;
    calls = λ st c m i. (let q = call_of st c m i in let r = called q.0 c q.1 in (r.0, r.1, r.2));
  }

  module _ (single : SinglyAssigned s) where
    abbrev Target : Name → Type 0
    Target x = ((j : ℕ) × (x.what ≡ output j)) ⊎ ((n : ℕ) × (x.what ≡ local n) × (n ∈ all_declared s))

    -- a target is an output or is declared
    a_target : (st : Stmt) (x : Name) → st ∈ script_stmts s → (x ∈ by_name (stmt_action st)) → Target x
    a_target st x m i =
        let r = stood st m in
        let v = r.ok.fits.named x i in
        by r v.is (r.ok.known v.variable v.visible)
      where
        by : (r : Stood st) {y : Name} → x ≡ y → Stands s r.block y.what → Target x
        by r e (an_output j q) = inl (j, ap (λ (z : Name). z.what) e ∙ q)
        by r e (a_declared n q d) = inr (n, ap (λ (z : Name). z.what) e ∙ q, d)
        by r e (a_given d g j) = absurd (no_target s single g (record { block = r.block; inside = j; st = st; there = r.there; target = x; is = ap (λ (z : Name). z.what) e; of = inl i }))

    declared_target : {n : ℕ} → n ∈ all_declared s → n ∈ target_nodes s
    declared_target m = let r = split_flat declared_by (script_stmts s) m in later (flat_in stmt_targets (script_stmts s) r.1 (as_target r.0 r.2))
      where
        as_target : (st : Stmt) {n : ℕ} → n ∈ declared_by st → n ∈ stmt_targets st
        as_target (stmt at k a) i = to_left (declared_of a) (hidden_of a) i

    target_true : (x : Name) → Target x → (is_declared s x.what ≡ true) × (may_be s x.what ≡ true)
    target_true x (inl r) = (ap (is_declared s) r.1, ap (may_be s) r.1)
    target_true x (inr r) = (ap (is_declared s) r.1 ∙ has_in r.2, ap (may_be s) r.1 ∙ has_in (declared_target r.2))

    named_true : (st : Stmt) → st ∈ script_stmts s → named_fine s st ≡ true
    named_true (stmt at n a) m = every_of (λ (x : Name). is_declared s x.what) (by_name a) (λ x i. (target_true x (a_target (stmt at n a) x m i)).0)

    by_name_true : (st : Stmt) → st ∈ script_stmts s → every (may_be_target s) (by_name (stmt_action st)) ≡ true
    by_name_true st m = every_of (may_be_target s) (by_name (stmt_action st)) (λ x i. (target_true x (a_target st x m i)).1)

    -- the output of a call in an expression
    hidden_true : (at n : ℕ) (a : Action) (c : Call) → stmt at n a ∈ script_stmts s → c ∈ hidden_calls a → every (may_be_target s) c.outputs ≡ true
    hidden_true at n a c m i = every_of (may_be_target s) c.outputs (λ x j. (
        let r = hidden_local c.outputs x (every_in (λ (d : Call). one_hidden d.outputs) (hidden_calls a) (every_in hidden_fine (script_stmts s) (hidden t tree) m) i) j in
        let o : r.0 ∈ name_nodes c.outputs = flat_in (λ (y : Name). local_node y.what) c.outputs j (subst (λ (z : Owned). r.0 ∈ local_node z) (sym r.1) first) in
        let l : r.0 ∈ hidden_of a = flat_in (λ (d : Call). name_nodes d.outputs) (hidden_calls a) i o in
        let h : r.0 ∈ target_nodes s = later (flat_in stmt_targets (script_stmts s) m (to_right (declared_of a) (hidden_of a) l)) in
        ap (may_be s) r.1 ∙ has_in h))

    targets_true : (st : Stmt) → st ∈ script_stmts s → targets_fine s st ≡ true
    targets_true (stmt at n a) m = and_from _ _ (by_name_true (stmt at n a) m) (every_of (λ (c : Call). every (may_be_target s) c.outputs) (stmt_calls (stmt at n a)) (λ c i. elim (call_targets a c i) [
      | inl j ↦ hidden_true at n a c m j
      | inr e ↦ subst (λ (xs : List Name). every (may_be_target s) xs ≡ true) (sym e) (by_name_true (stmt at n a) m)
    ]))

    script_true : every (here_and_declared s.body) (used s.body) ≡ true
    script_true = every_of (here_and_declared s.body) (used s.body) (λ x m. elim (used_stands fs 0 all.script m) [
      | inl v ↦ (let i = v.visible in elim i [ ])
      | inr r ↦ and_from _ _ (here_true x.up r.0) r.1
    ])

    -- a header's block
    header_true : (k : ℕ) (c : Block) → HeaderOk fs s k c → block_names c ≡ true
    header_true k c h = every_of (here_then_declared c) (used c) (λ x m. elim (used_stands fs k h.ok.placed m) [
      | inl v ↦ by x m v x.up refl
      | inr r ↦ implies_true (is_here x.up) (declares c x.what) r.1
    ])
      where
        by : (x : Name) → x ∈ used c → Sees h.ok.scope x → (n : ℕ) → x.up ≡ n → implies (is_here x.up) (declares c x.what) ≡ true
        by x m v (suc n) e = ap (λ (z : ℕ). implies (is_here z) (declares c x.what)) e
        by x m v zero e =
            absurd (no_target s single (h.near v.variable v.visible (ap (λ (z : Name). z.up) (sym v.is) ∙ e)) (subst (λ (z : Name). HasTarget z.what c) v.is (used_target c m)))

    headers_true : (st : Stmt) → st ∈ script_stmts s → headers_fine st ≡ true
    headers_true (stmt at n a) m = let r = stood (stmt at n a) m in every_of block_names (header_blocks a) (λ c i. header_true r.inputs c (r.ok.headers c i))

    waits_true : (c : Block) → c ∈ script_blocks s → waits_fine c ≡ true
    waits_true c m =
        let q = scoped_block s m in
        let o = block_ok fs s all q.1 in
        every_of (declared_then_here c) (used c) (λ x i. by x (declares c x.what) refl (λ e. declared_here fs q.0 o.placed o.below i e))
      where
        by : (x : Name) (b : Bool) → declares c x.what ≡ b → (declares c x.what ≡ true → x.up ≡ 0) → implies (declares c x.what) (is_here x.up) ≡ true
        by x true e h = implies_true (declares c x.what) (is_here x.up) (here_true x.up (h e))
        by x false e h = ap (λ (z : Bool). implies z (is_here x.up)) e

    function_true : (f : Function) → f ∈ s.functions → function_fine f ≡ true
    function_true f m =
        let b = all.functions f m in
        every_of (function_name f) (used f.body) (λ x i. elim (used_stands fs f.inputs b.placed i) [
          | inl v ↦ parameter x i (subst (IsParameter f) (sym v.is) (b.parameters v.variable v.visible))
          | inr r ↦ and_from _ _ (here_true x.up r.0) (declared x.what r.1)
        ])
      where
        declared : (what : Owned) → declares f.body what ≡ true → ((declares f.body what || is_output what) && output_below f.outputs what) ≡ true
        declared (local n) h = and_from _ _ (ap (λ (z : Bool). z || false) h) refl
        declared (input i) h = absurd (cc (h))
        declared (output j) h = absurd (cc (h))

        outputs : (what : Owned) (j : ℕ) → what ≡ output j → j < f.outputs → ((declares f.body what || is_output what) && output_below f.outputs what) ≡ true
        outputs what j e l = subst (λ (z : Owned). ((declares f.body z || is_output z) && output_below f.outputs z) ≡ true) (sym e) (below_true j f.outputs l)

        parameter : (x : Name) → x ∈ used f.body → IsParameter f x → function_name f x ≡ true
        parameter x i p = elim p.is [
          | inl r ↦ and_from _ _ (here_true x.up p.near) (outputs x.what r.0 r.1 r.2)
          | inr r ↦ absurd (no_target s single (an_input m r.2) (subst (λ (z : Owned). HasTarget z f.body) r.1 (used_target f.body i)))
        ]

    calls_true : (st : Stmt) → st ∈ script_stmts s → calls_fine s st ≡ true
    calls_true st m = every_of (call_fine s) (stmt_calls st) (λ c i. (
        let q = call_of st c m i in
        let r = called q.0 c q.1 in
        subst (λ (o : Option Function). counts_of o c ≡ true) (sym r.1) (same_true (length c.outputs) r.0.outputs r.3)))

    module _ (offsets : distinct (tree_offsets tree) ≡ true) where
      passes : Passes s
      passes = record {
        nodes_once = nodes_once t tree (rising_once tree rise);
        writers_once = writers_once t tree (rising_once tree rise);
        offsets_once = offsets_once t tree offsets;
        targets = every_of (targets_fine s) (script_stmts s) targets_true;
        named = every_of (named_fine s) (script_stmts s) named_true;
        script_body = script_true;
        headers = every_of headers_fine (script_stmts s) headers_true;
        waits = every_of waits_fine (script_blocks s) waits_true;
        functions = every_of function_fine s.functions function_true;
        calls = every_of (calls_fine s) (script_stmts s) calls_true;
        hidden = hidden t tree;
        fills = fills t tree;
      }

      -- THE CORE IS WELL FORMED
      pub formed : WellFormed s
      formed = well_formed s passes
