-- Codes that are emitted for one tree, placed and well typed, are alike.
use Rattle.std.proofs.Common.{◌≡◌, inl, inr, ℕ, zero, suc, Bool, List, [], ◌∷◌, ◌++◌, map, length, refl, sym, ap, ◌∙◌, subst, Some, arith}
use Rattle.std.specs.Prelude.{slice_get}
use Rattle.std.specs.List.{flat_map}
use Rattle.dataflow.specs.System.{Distinct, In}
use Rattle.language.specs.Core as Co
use Rattle.language.specs.Core.{Name, here, Cell, Call, Part, inner, calls, Stmt, stmt, Action, call_alone, Block, Function, Core}
use Rattle.language.specs.Members.{◌∈◌, first, later}
use Rattle.language.specs.Parts.{blocks_below, blocks_inside, calls_among, cells, function_blocks, part_calls, part_cells, parts, script_blocks, script_stmts, stmt_calls}
use Rattle.language.specs.Resolved.{core}
use Rattle.language.specs.Scopes.{Typ, Scope, Signature, signatures}
use Rattle.language.specs.Table.{Table}
use Rattle.language.specs.Tree.{Tree}
use Rattle.language.specs.Typing.{WellTyped}
use Rattle.language.proofs.Members.{either, split_in, to_left, to_right}
use Rattle.language.proofs.Tested.{among_split}
use Rattle.language_laws.specs.TypedValues.{own_parts}
use Rattle.language_accepted.specs.Placed.{IsPlaced}
use Rattle.language_accepted.specs.Types.{Types}
use Rattle.language_accepted.proofs.Accepted.{placed_types}
use Rattle.language_accepted.proofs.Placed.{IsPlain, Loops, over_each, over_range}
use Rattle.task_code.specs.Code.{Code}
use Rattle.code_rules.specs.Emitted.{CallsOnce, CellsOnce, IsEmitted}
use Rattle.code_rules.specs.Laying.{Kinds}
use Rattle.code_laws.specs.Alike.{AreAlike}
use Rattle.code_laws.proofs.Accepted.{accepted_cells}
use Rattle.code_laws.proofs.IndexParts.{reads_stand}
use Rattle.code_laws.proofs.Layouts.{layout_of, layout_suits}
use Rattle.code_laws.proofs.Parts.{ArePinned, HasKinds}
use Rattle.code_laws.proofs.Codes.{alike, script_pinned}
use Rattle.code_laws.specs.Described.{DeclaredIn, KindsOf, is_array_shape, kinds_of_signature}
use Rattle.code_laws.proofs.AcceptedWhole.{declared_kinds}
use Rattle.code_laws.proofs.Arguments.{comes_length, get_map}
use Rattle.code_laws.proofs.Lookup.{call_comes, lookup}
use Rattle.code_laws.proofs.Offsets.{accepted_calls}
use Rattle.code_laws.proofs.WholeOpenings.{part_of_stmt}
use Rattle.code_laws.proofs.Scoping.{Hidden, InScopes, OutputsCome, no_output_comes, output_comes, scoped_choose, scoped_declaration, scoped_end, scoped_loop, scoped_plain, scoped_wait, scoped_when}
use Rattle.code_laws.proofs.Settling.{ScriptScoped, scopes_of}

-- MEMBERS

mapped : {X : Type 0} (f : X → ℕ) {x : X} {xs : List X} → x ∈ xs → In (f x) (map f xs)
mapped f first = inl refl
mapped f (later m) = inr (mapped f m)

-- what has a number of its own is told by it
told : {X : Type 0} (f : X → ℕ) {x y : X} {xs : List X} → Distinct (map f xs) → x ∈ xs → y ∈ xs → f x ≡ f y → x ≡ y
told f d first first e = refl
told f {xs = z ∷ zs} d first (later m) e = absurd (d.0 (subst (λ (n : ℕ). In n (map f zs)) (sym e) (mapped f m)))
told f {xs = z ∷ zs} d (later m) first e = absurd (d.0 (subst (λ (n : ℕ). In n (map f zs)) e (mapped f m)))
told f d (later m) (later n) e = told f d.1 m n e

cell_part : (ps : List Part) {c : Cell} → c ∈ part_cells ps → inner c ∈ ps
cell_part [] m = elim m [ ]
cell_part (inner d ∷ ps) first = first
cell_part (inner d ∷ ps) (later m) = later (cell_part ps m)
cell_part (calls d ∷ ps) m = later (cell_part ps m)

part_cell : (ps : List Part) {c : Cell} → inner c ∈ ps → c ∈ part_cells ps
part_cell [] m = elim m [ ]
part_cell (inner d ∷ ps) first = first
part_cell (inner d ∷ ps) (later m) = later (part_cell ps m)
part_cell (calls d ∷ ps) (later m) = part_cell ps m

call_part : (ps : List Part) {c : Call} → c ∈ part_calls ps → calls c ∈ ps
call_part [] m = elim m [ ]
call_part (inner d ∷ ps) m = later (call_part ps m)
call_part (calls d ∷ ps) first = first
call_part (calls d ∷ ps) (later m) = later (call_part ps m)

part_call : (ps : List Part) {c : Call} → calls c ∈ ps → c ∈ part_calls ps
part_call [] m = elim m [ ]
part_call (inner d ∷ ps) (later m) = part_call ps m
part_call (calls d ∷ ps) first = first
part_call (calls d ∷ ps) (later m) = later (part_call ps m)

own_cell : {at n : ℕ} (a : Action) {c : Cell} (sts : List Stmt) → stmt at n a ∈ sts → c ∈ part_cells (own_parts a) → c ∈ flat_map cells sts
own_cell a [] i m = elim i [ ]
own_cell a (st ∷ sts) first m = to_left (part_cells (parts a)) (flat_map cells sts) (part_cell (parts a) (part_of_stmt a (cell_part (own_parts a) m)))
own_cell a (st ∷ sts) (later i) m = to_right (cells st) (flat_map cells sts) (own_cell a sts i m)

own_call : {at n : ℕ} (a : Action) {c : Call} (sts : List Stmt) → stmt at n a ∈ sts → c ∈ part_calls (own_parts a) → c ∈ calls_among sts
own_call a [] i m = elim i [ ]
own_call a (st ∷ sts) first m = to_left (part_calls (parts a)) (calls_among sts) (part_call (parts a) (part_of_stmt a (call_part (own_parts a) m)))
own_call a (st ∷ sts) (later i) m = to_right (stmt_calls st) (calls_among sts) (own_call a sts i m)

-- EACH BLOCK HAS A SCOPE

module _ (sigs : List Signature) (type_of : ℕ → Typ) where
  record Scoped (b : Block) : Type 0 where
    scope : Scope
    within : InScopes sigs type_of scope b

  from : {g : Scope} {x d : Block} → InScopes sigs type_of g x → d ∈ (x ∷ blocks_below x) → (d ∈ blocks_below x → Scoped d) → Scoped d
  from {g} {x} {d} p m rec = elim (split_in m) [ inl e ↦ record { scope = g; within = subst (λ (z : Block). InScopes sigs type_of g z) (sym e) p } | inr j ↦ rec j ]

  plain_none : (a : Action) {d : Block} → IsPlain a → d ∈ blocks_inside a → Scoped d
  plain_none (Co.declare v) h m = absurd h
  plain_none (Co.call_alone p ps c) h m = elim m [ ]
  plain_none (Co.assign x e) h m = elim m [ ]
  plain_none (Co.fill x e) h m = elim m [ ]
  plain_none (Co.insert x i e) h m = elim m [ ]
  plain_none (Co.print p e) h m = elim m [ ]
  plain_none (Co.assert p e) h m = elim m [ ]
  plain_none (Co.when c b) h m = absurd h
  plain_none (Co.choose c b d) h m = absurd h
  plain_none (Co.range lo hi st v t b) h m = absurd h
  plain_none (Co.each a v t b) h m = absurd h
  plain_none (Co.wait ns b) h m = absurd h

  loop_inside : {a : Action} {d x : Block} → Loops a d → x ∈ blocks_inside a → x ∈ (d ∷ blocks_below d)
  loop_inside over_range m = m
  loop_inside over_each m = m

  below : {g : Scope} {b : Block} → InScopes sigs type_of g b → (d : Block) → d ∈ blocks_below b → Scoped d
  below scoped_end d m = elim m [ ]
  below (scoped_declaration e q p) d m = below p d m
  below (scoped_plain {a = a} {b = b} h f p) d m = elim (either (blocks_inside a) (blocks_below b) m) [ inl i ↦ plain_none a h i | inr j ↦ below p d j ]
  below (scoped_when {d = x} {b = b} f p q) d m = elim (either (x ∷ blocks_below x) (blocks_below b) m) [ inl i ↦ from p i (λ j. below p d j) | inr j ↦ below q d j ]
  below (scoped_choose {d = x} {e = y} {b = b} f p r q) d m =
      elim (either (x ∷ (blocks_below x ++ y ∷ blocks_below y)) (blocks_below b) m) [
        | inl i ↦ elim (either (x ∷ blocks_below x) (y ∷ blocks_below y) i) [ inl j ↦ from p j (λ k. below p d k) | inr j ↦ from r j (λ k. below r d k) ]
        | inr j ↦ below q d j
      ]
  below (scoped_loop {a = a} {d = x} {b = b} l f s p q) d m = elim (either (blocks_inside a) (blocks_below b) m) [ inl i ↦ from p (loop_inside l i) (λ j. below p d j) | inr j ↦ below q d j ]
  below (scoped_wait {d = x} {b = b} f p q) d m = elim (either (x ∷ blocks_below x) (blocks_below b) m) [ inl i ↦ from p i (λ j. below p d j) | inr j ↦ below q d j ]

  functions_scoped : (fs : List Function) → ((i : ℕ) (f : Function) → slice_get fs i ≡ Some f → Scoped f.body) → (d : Block) → d ∈ function_blocks fs → Scoped d
  functions_scoped [] h d m = elim m [ ]
  functions_scoped (f ∷ fs) h d m =
      elim (either (f.body ∷ blocks_below f.body) (function_blocks fs) m) [
        | inl i ↦ (let s = h 0 f refl in from s.within i (λ j. below s.within d j))
        | inr j ↦ functions_scoped fs (λ i g e. h (suc i) g e) d j
      ]

  module _ (s : Core) (scoped : ScriptScoped sigs type_of s) where
    block_scoped : (d : Block) → d ∈ script_blocks s → Scoped d
    block_scoped d m =
        elim (either (s.body ∷ blocks_below s.body) (function_blocks s.functions) m) [
          | inl i ↦ from scoped.script i (λ j. below scoped.script d j)
          | inr j ↦ functions_scoped s.functions (λ i f e. (let r = scoped.functions i f e in record { scope = r.scope; within = r.body })) d j
        ]

    -- THE KINDS OF CALLS

    at_place : {X : Type 0} (xs : List X) (ys : List Typ) (j : ℕ) (x : X) → length xs ≡ length ys → slice_get xs j ≡ Some x → (τ : Typ) × (slice_get ys j ≡ Some τ)
    at_place [] ys zero x l e = absurd (cc (e))
    at_place [] ys (suc j) x l e = absurd (cc (e))
    at_place (y ∷ xs) [] j x l e = absurd (cc (l))
    at_place (y ∷ xs) (τ ∷ ys) zero x l e = (τ, refl)
    at_place (y ∷ xs) (τ ∷ ys) (suc j) x l e = at_place xs ys j x (let z = l in omega arith) e

    outs_length : {g : Scope} {xs : List Name} {τs : List Typ} → OutputsCome g xs τs → length xs ≡ length τs
    outs_length no_output_comes = refl
    outs_length (output_comes q rest) = ap suc (outs_length rest)

    kinds_of : (c : Call) (f : Signature) → slice_get sigs c.function ≡ Some f → length c.inputs ≡ length f.inputs → length c.outputs ≡ length f.outputs → HasKinds (map kinds_of_signature sigs) c
    kinds_of c f there ins outs = record {
      kinds = kinds_of_signature f;
      is = get_map kinds_of_signature sigs c.function f there;
      inputs = λ j x e. (let r = at_place c.inputs f.inputs j x ins e in (is_array_shape r.0.shape, get_map (λ (τ : Typ). is_array_shape τ.shape) f.inputs j r.0 r.1));
      outputs = λ j x e. (let r = at_place c.outputs f.outputs j x outs e in (is_array_shape r.0.shape, get_map (λ (τ : Typ). is_array_shape τ.shape) f.outputs j r.0 r.1));
    }

    hidden_length : {xs : List Name} {τs : List Typ} → Hidden xs τs → length xs ≡ length τs
    hidden_length h = ap length h.is ∙ sym (ap length h.typed)

    stmt_kinds : (at n : ℕ) (a : Action) → stmt at n a ∈ script_stmts s → (c : Call) → c ∈ part_calls (own_parts a) → HasKinds (map kinds_of_signature sigs) c
    stmt_kinds at n a m c i =
        let b = among_split (script_blocks s) m in
        let d = block_scoped b.0 b.1 in
        let r = lookup sigs type_of d.within b.2 in
        elim (call_comes sigs type_of a r.comes (call_part (own_parts a) i)) [
          | inl h ↦ kinds_of c (h.1).signature (h.1).there (comes_length (h.1).inputs) (hidden_length (h.1).outputs)
          | inr h ↦ kinds_of c (h.comes).signature (h.comes).there (comes_length (h.comes).inputs) (outs_length (h.comes).outputs)
        ]

    stmt_pinned : CellsOnce s → CallsOnce s → (at n : ℕ) (a : Action) → stmt at n a ∈ script_stmts s → ArePinned (map kinds_of_signature sigs) (own_parts a)
    stmt_pinned cells_are calls_are at n a m = record {
      cells_once = λ c d i j e. told (λ (z : Cell). z.node) cells_are (own_cell a (script_stmts s) m i) (own_cell a (script_stmts s) m j) e;
      calls_once = λ c d i j e. told (λ (z : Call). z.at) calls_are (own_call a (script_stmts s) m i) (own_call a (script_stmts s) m j) e;
      kinds = λ c i. stmt_kinds at n a m c i;
    }

-- of one tree
pub codes_alike : (t : Table) (tree : Tree) (fs gs : List Kinds) (ds es : List (ℕ × Bool)) (C D : Code) → IsPlaced tree → WellTyped tree t → KindsOf fs tree → KindsOf gs tree → DeclaredIn ds tree → DeclaredIn es tree
    → IsEmitted (core t tree) fs ds C → IsEmitted (core t tree) gs es D → AreAlike C D
codes_alike t tree fs gs ds es C D place typed kinds kinds' declared declared' x y =
    let s = core t tree in
    let types : Types t tree = placed_types t tree place typed in
    let scoped = scopes_of types.type_of t tree types.declared typed in
    let cells_are = accepted_cells t tree place in
    let calls_are = accepted_calls t tree place in
    let shape = λ (n : ℕ). is_array_shape (types.type_of n).shape in
    let left = subst (λ (ks : List Kinds). IsEmitted s ks ds C) kinds x in
    let right = subst (λ (ks : List Kinds). IsEmitted s ks es D) kinds' y in
    let same = script_pinned s (map kinds_of_signature (signatures tree)) (layout_of s []) (layout_suits s [] cells_are) (reads_stand t tree) (stmt_pinned (signatures tree) types.type_of s scoped cells_are calls_are) shape left.laid right.laid
    (λ n b m. sym (declared_kinds types.type_of ds tree declared types.declared n b m)) (λ n b m. sym (declared_kinds types.type_of es tree declared' types.declared n b m)) in
    alike C D same.bodies same.entries left.rights right.rights
