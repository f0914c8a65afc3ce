-- The names and expressions of a typed core have room: places of parameters fit 64 bits, and an expression has not too many names.
use Rattle.std.specs.Prelude.{◌≡◌, ℕ, suc, ◌+◌, ◌*◌, ◌<◌, ◌≤◌, ◌^◌, List, [], ◌∷◌, ◌++◌, length, Some, None, slice_get, refl, sum_by}
use Rattle.std.proofs.Common.{arith}
use Rattle.std.proofs.lemmas.List.Sums.{sum_by-cons}
use Rattle.values.specs.Operators as op
use Rattle.language.specs.declared.tree.Base.{Base}
use Rattle.language.specs.Core.{Owned, local, input, output, Name, Expr, Exprs, literal, name, whole, operator, none, also, Form, Call, Part, inner, calls, Outer, Awaited, stmt, Action, declare, call_alone, assign, fill, insert, print, assert, when, choose, range, each, wait, Block, no_stmts, stmts, Function}
use Rattle.language.specs.Members.{◌∈◌, first, later}
use Rattle.language.specs.Numbered.{tree_size, part_size, declaration_size}
use Rattle.language.specs.Parts.{blocks_below, blocks_inside, blocks_of, function_blocks, parts, stmts_among}
use Rattle.language_accepted.specs.Placed.{IsPlaced}
use Rattle.language.specs.Resolved.{core, functions_of, script_block}
use Rattle.language.specs.Scopes.{Signature, Typ, signatures}
use Rattle.language.specs.Table.{Table}
use Rattle.language.specs.Tree.{Declaration, Tree, import, function, single}
use Rattle.language.specs.Typing.{WellTyped}
use Rattle.language_accepted.specs.Types.{no_signature, OwnedHas, NameHas, NamesHave, no_name, one_name, ExprHas, literal_has, name_has, operator_has, OperatorHas, sum_has, texts_have, product_has, compare_has, equal_has, unequal_has, all_has, any_has, not_has, negate_has, join_has, from_int_has, to_int_has, size_has, printf_has, assert_has, AllHave, none_left, one_more, EachHas, no_other, another, FormHas, computes, copies, lists, reads, CallHas, PartHas, PartsHave, OuterHas, OutersHave, AwaitedHas, awaits_one, awaits_many, BlockHas, a_statement, ActionHas, of_call, of_assign, of_fill, of_insert, of_when, of_choose, of_range, of_each, of_wait}
use Rattle.language_accepted.proofs.Accepted.{placed_types}
use Rattle.code_rules.specs.CodeNames.{wanted, wanted_all}
use Rattle.code_rules.specs.Room.{Each, OwnedRoom, NameRoom, ExprRoom, ExprsRoom, FormRoom, PartRoom, OuterRoom, AwaitedRoom, ActionRoom, BlockRoom, FunctionRoom, CoreRoom}
use Rattle.code_laws.proofs.Sizes.{names, all_names, form_names, part_weight, weight, append, stmts_weight, inside, within, front, among_append, weight_within}
use Rattle.std.proofs.lemmas.Option.{slice_get_within}

-- an expression waits for so many needs as it has names
mutual
  as_many : (k : ℕ) (e : Expr) → length (wanted k e) ≡ names e
  as_many k (literal v) = refl
  as_many k (name x) = refl
  as_many k (whole a) = refl
  as_many k (operator o es) = all_as_many k es

  all_as_many : (k : ℕ) (es : Exprs) → length (wanted_all k es) ≡ all_names es
  all_as_many k none = refl
  all_as_many k (also e es) =
      let a = as_many k e in
      let b = all_as_many k es in
      let c = longer (wanted k e) (wanted_all k es) in
      omega arith
    where
      longer : {X : Type 0} (xs ys : List X) → length (xs ++ ys) ≡ length xs + length ys
      longer [] ys = omega arith
      longer (x ∷ xs) ys = let q = longer xs ys in omega arith

module _ (fs : List Signature) (type_of : ℕ → Typ) (f : Signature) (k W : ℕ) (room : k + length f.outputs < 2 ^ 64) (light : W < 2 ^ 30) (several : length fs ≤ W) where
  owned_room : (depth up : ℕ) (what : Owned) (τ : Typ) → OwnedHas fs type_of f depth up what τ → OwnedRoom k what
  owned_room depth up (local n) τ h = tt
  owned_room depth up (input i) τ h = tt
  owned_room depth up (output j) τ h = let q = slice_get_within f.outputs j τ h.1 in omega arith

  name_room : (depth : ℕ) (x : Name) (τ : Typ) → NameHas fs type_of f depth x τ → OwnedRoom k x.what
  name_room depth x τ h = owned_room depth x.up x.what τ h

  names_room : {depth : ℕ} {xs : List Name} {τs : List Typ} → NamesHave fs type_of f depth xs τs → Each (NameRoom k) xs
  names_room no_name = tt
  names_room {depth} (one_name {x} {xs} {τ} h hs) = (name_room depth x τ h, names_room hs)

  mutual
    expr_room : {depth : ℕ} {e : Expr} {b : Base} → ExprHas fs type_of f depth e b → ExprRoom k e
    expr_room (literal_has h) = tt
    expr_room {depth} (name_has {x} {b} h) = name_room depth x _ h
    expr_room (operator_has h) = operands_room h

    operands_room : {depth : ℕ} {o : _} {es : Exprs} {b : Base} → OperatorHas fs type_of f depth o es b → ExprsRoom k es
    operands_room (sum_has h) = all_room h
    operands_room (texts_have h) = all_room h
    operands_room (product_has h) = all_room h
    operands_room (compare_has h) = all_room h
    operands_room (equal_has b h) = all_room h
    operands_room (unequal_has b h) = all_room h
    operands_room (all_has h) = all_room h
    operands_room (any_has h) = all_room h
    operands_room (not_has h) = all_room h
    operands_room (negate_has h) = all_room h
    operands_room (join_has h) = all_room h
    operands_room (from_int_has h) = all_room h
    operands_room (to_int_has h) = all_room h
    operands_room {depth} (size_has {a} κ b h) = (name_room depth a _ h, tt)
    operands_room (printf_has h) = each_room h
    operands_room (assert_has c m) = (expr_room c, (expr_room m, tt))

    all_room : {depth : ℕ} {es : Exprs} {b : Base} → AllHave fs type_of f depth es b → ExprsRoom k es
    all_room none_left = tt
    all_room (one_more h hs) = (expr_room h, all_room hs)

    each_room : {depth : ℕ} {es : Exprs} → EachHas fs type_of f depth es → ExprsRoom k es
    each_room no_other = tt
    each_room (another h hs) = (expr_room h, each_room hs)

  few : (e : Expr) → names e ≤ W → length (wanted k e) < 2 ^ 30
  few e le = let q = as_many k e in omega arith

  form_room : {depth : ℕ} {g : Form} {τ : Typ} → FormHas fs type_of f depth g τ → form_names g ≤ W → FormRoom k g
  form_room (computes {e} h) le = (expr_room h, few e le)
  form_room {depth} (copies {a} h) le = (name_room depth a _ h, few (whole a) le)
  form_room (lists {es} h) le = (all_room h, few (operator op.literal es) le)
  form_room {depth} (reads {a} κ h i) le = name_room depth a _ h

  -- a called function is one of the script's
  called_room : (depth : ℕ) (c : Call) → CallHas fs type_of f depth c → c.function + 1 < 2 ^ 32
  called_room depth c h = let q = slice_get_within fs c.function h.signature h.there in omega arith

  part_room : (depth : ℕ) (p : Part) → PartHas fs type_of f depth p → part_weight p ≤ W → PartRoom k p
  part_room depth (inner c) h le = form_room h.2 (omega arith)
  part_room depth (calls c) h le = (called_room depth c h, (names_room h.inputs, names_room h.outputs))

  parts_room : (depth : ℕ) (ps : List Part) → PartsHave fs type_of f depth ps → weight ps ≤ W → Each (PartRoom k) ps
  parts_room depth [] h le = tt
  parts_room depth (p ∷ ps) h le = (part_room depth p (h p first) (omega arith), parts_room depth ps (λ q m. h q (later m)) (omega arith))

  outer_room : (depth : ℕ) (o : Outer) (ps : List Part) → OuterHas fs type_of f depth o → weight (o.parts ++ inner o.cell ∷ ps) ≤ W → OuterRoom k o
  outer_room depth o ps h le =
      let a = append o.parts (inner o.cell ∷ ps) in
      (parts_room depth o.parts h.before (omega arith), form_room h.cell (omega arith))

  awaited_room : {depth : ℕ} {x : Awaited} → AwaitedHas fs type_of f depth x → AwaitedRoom k x
  awaited_room {depth} (awaits_one {x} b h) = name_room depth x _ h
  awaited_room {depth} (awaits_many {x} κ b h) = name_room depth x _ h

  all_awaited : (depth : ℕ) (xs : List Awaited) → ((x : Awaited) → x ∈ xs → AwaitedHas fs type_of f depth x) → Each (AwaitedRoom k) xs
  all_awaited depth [] h = tt
  all_awaited depth (x ∷ xs) h = (awaited_room (h x first), all_awaited depth xs (λ y m. h y (later m)))

  -- the outermost cell behind another one
  behind : (o : Outer) (ps : List Part) → weight ps ≤ weight (o.parts ++ inner o.cell ∷ ps)
  behind o ps = let a = append o.parts (inner o.cell ∷ ps) in omega arith

  mutual
    pub block_room : (depth : ℕ) (b : Block) → BlockHas fs type_of f depth b → inside b ≤ W → BlockRoom k b
    block_room depth no_stmts h le = tt
    block_room depth (stmts (stmt at n a) b) (a_statement os h hs) le =
        let s = front at n a b in
        (action_room depth a os h (omega arith) (omega arith), block_room depth b hs (omega arith))

    action_room : (depth : ℕ) (a : Action) → OutersHave fs type_of f depth a → ActionHas fs type_of f depth a → weight (parts a) ≤ W → stmts_weight (stmts_among (blocks_inside a)) ≤ W → ActionRoom k a
    action_room depth (declare v) os h le lb = tt
    action_room depth (call_alone p ps c) os (of_call hs h) le lb = let a = append ps (calls c ∷ []) in (parts_room depth ps hs (omega arith), (called_room depth c h, (names_room h.inputs, names_room h.outputs)))
    action_room depth (assign x o) os (of_assign h t) le lb = (name_room depth x _ h, outer_room depth o [] (os o first) le)
    action_room depth (fill x o) os (of_fill h t) le lb = (name_room depth x _ h, outer_room depth o [] (os o first) le)
    action_room depth (insert x i o) os (of_insert κ h t u) le lb =
        let q = behind i (o.parts ++ inner o.cell ∷ []) in
        (name_room depth x _ h, (outer_room depth i (o.parts ++ inner o.cell ∷ []) (os i first) le, outer_room depth o [] (os o (later first)) (omega arith)))
    action_room depth (print p o) os h le lb = outer_room depth o [] (os o first) le
    action_room depth (assert p o) os h le lb = outer_room depth o [] (os o first) le
    action_room depth (when c b) os (of_when t h) le lb = (outer_room depth c [] (os c first) le, (let z = within b in block_room (suc depth) b h (omega arith)))
    action_room depth (choose c b d) os (of_choose t h g) le lb =
        let q = among_append (b ∷ blocks_below b) (d ∷ blocks_below d) in
        (outer_room depth c [] (os c first) le, ((let z = within b in block_room (suc depth) b h (omega arith)), (let z = within d in block_room (suc depth) d g (omega arith))))
    action_room depth (range lo hi None x y b) os (of_range t u v h) le lb =
        let q = behind lo (hi.parts ++ inner hi.cell ∷ []) in
        (outer_room depth lo (hi.parts ++ inner hi.cell ∷ []) (os lo first) le, (outer_room depth hi [] (os hi (later first)) (omega arith), (tt, (let z = within b in block_room (suc depth) b h (omega arith)))))
    action_room depth (range lo hi (Some st) x y b) os (of_range t u v h) le lb =
        let q = behind lo (hi.parts ++ inner hi.cell ∷ (st.parts ++ inner st.cell ∷ [])) in
        let r = behind hi (st.parts ++ inner st.cell ∷ []) in (
          outer_room depth lo (hi.parts ++ inner hi.cell ∷ (st.parts ++ inner st.cell ∷ [])) (os lo first) le,
          (outer_room depth hi (st.parts ++ inner st.cell ∷ []) (os hi (later first)) (omega arith), (outer_room depth st [] (os st (later (later first))) (omega arith), (let z = within b in block_room (suc depth) b h (omega arith)))),
        )
    action_room depth (each x v y b) os (of_each κ h t u g) le lb = (name_room depth x _ h, (let z = within b in block_room (suc depth) b g (omega arith)))
    action_room depth (wait ns b) os (of_wait h g) le lb = (all_awaited depth ns h, (let z = within b in block_room depth b g (omega arith)))

-- FUNCTIONS

-- a function's body agrees with a signature of as many inputs and outputs
pub record HasBody (fs : List Signature) (type_of : ℕ → Typ) (f : Function) : Type 0 where
  pub signature : Signature
  pub outputs : length signature.outputs ≡ f.outputs
  pub body : BlockHas fs type_of signature 0 f.body

each_function : (fs : List Signature) (type_of : ℕ → Typ) (W : ℕ) → W < 2 ^ 30 → length fs ≤ W → (gs : List Function) → ((i : ℕ) (f : Function) → slice_get gs i ≡ Some f → HasBody fs type_of f)
    → ((f : Function) → f ∈ gs → f.inputs + f.outputs ≤ W) → stmts_weight (stmts_among (function_blocks gs)) ≤ W → Each FunctionRoom gs
each_function fs type_of W light several [] h few le = tt
each_function fs type_of W light several (f ∷ gs) h few le =
    let a = among_append (blocks_of f.body) (function_blocks gs) in
    let w = within f.body in
    let b = h 0 f refl in
    let p = few f first in
    let o = b.outputs in (
      block_room fs type_of b.signature f.inputs W (omega arith) light several 0 f.body b.body (omega arith),
      each_function fs type_of W light several gs (λ i g e. h (suc i) g e) (λ g m. few g (later m)) (omega arith),
    )

count : (ds : List Declaration) → sum_by declaration_size ds ≡ length ds
count [] = refl
count (d ∷ ds) = let s = sum_by-cons declaration_size d ds in let e = count ds in omega arith

-- the inputs and outputs of a function have numbers
parameters : (t : Table) (tree : Tree) (f : Function) → f ∈ functions_of t tree → f.inputs + f.outputs ≤ tree_size tree
parameters t [] f m = elim m [ ]
parameters t (import sp ∷ ps) f m = let r = parameters t ps f m in let s = sum_by-cons part_size (import sp) ps in omega arith
parameters t (single x ∷ ps) f m = let r = parameters t ps f m in let s = sum_by-cons part_size (single x) ps in omega arith
parameters t (function c ∷ ps) f m = by f m (sum_by-cons part_size (function c) ps) (λ g i. parameters t ps g i)
  where
    by : (g : Function) → g ∈ functions_of t (function c ∷ ps) → tree_size (function c ∷ ps) ≡ part_size (function c) + tree_size ps → ((h : Function) → h ∈ functions_of t ps → h.inputs + h.outputs ≤ tree_size ps)
        → g.inputs + g.outputs ≤ tree_size (function c ∷ ps)
    by g first s rec = let i = count c.inputs in let o = count c.outputs in omega arith
    by g (later m) s rec = let r = rec g m in omega arith

-- each function of the script has a number
functions : (tree : Tree) → length (signatures tree) ≤ tree_size tree
functions [] = omega arith
functions (import sp ∷ ps) = let r = functions ps in let s = sum_by-cons part_size (import sp) ps in omega arith
functions (single x ∷ ps) = let r = functions ps in let s = sum_by-cons part_size (single x) ps in omega arith
functions (function c ∷ ps) = let r = functions ps in let s = sum_by-cons part_size (function c) ps in omega arith

pub room_in : (t : Table) (tree : Tree) → IsPlaced tree → WellTyped tree t → 2 * tree_size tree < 2 ^ 30 → CoreRoom (core t tree)
room_in t tree p w light =
    let q = placed_types t tree p w in
    let W = 2 * tree_size tree in
    let several = functions tree in
    let all = weight_within t tree in
    let a = among_append (blocks_of (script_block t tree)) (function_blocks (functions_of t tree)) in
    let s = within (script_block t tree) in (
      block_room (signatures tree) q.type_of no_signature 0 W (omega arith) light (omega arith) 0 (script_block t tree) q.has.script (omega arith),
      each_function (signatures tree) q.type_of W light (omega arith) (functions_of t tree)
          (λ i f e. (let h = q.has.functions i f e in record { signature = h.signature; outputs = h.outputs; body = h.body }))
          (λ f m. (let p = parameters t tree f m in omega arith)) (omega arith),
    )
