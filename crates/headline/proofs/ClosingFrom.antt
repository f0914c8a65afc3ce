-- Where rights are exact, the items of a statement that is finished in the script are finished in the code, for any facts to which fed items come; but for the facts of a statement's own entry.
use Rattle.std.proofs.Common.{◌≡◌, ◌⊎◌, inl, inr, ℕ, zero, suc, ◌<◌, ◌≤◌, ◌+◌, Bool, true, false, List, [], ◌∷◌, ◌++◌, map, length, refl, sym, ap, ◌∙◌, subst, Option, Some, None, arith}
use Rattle.std.specs.Prelude.{pos, ℤ, slice_get, drop}
use Rattle.std.specs.List.{flat_map}
use Rattle.std.proofs.lemmas.Bool.{cases_eq}
use Rattle.dataflow.specs.System.{In, Opening}
use Rattle.dataflow.specs.Facts as Fa
use Rattle.dataflow.specs.Facts.{Live, live_main, live_opened, idle, done}
use Rattle.dataflow.proofs.Lists.{in_split, in_unmap}
use Rattle.values.specs.declared.key.Key.{Key}
use Rattle.values.specs.declared.value.Scalar.{Scalar}
use Rattle.values.specs.declared.value.Value.{Value}
use Rattle.language.specs.Core as Co
use Rattle.language.specs.Core.{Owned, local, input, output, Name, Cell, Call, Part, Outer, Awaited, Stmt, stmt, Action, declare, call_alone, assign, fill, insert, print, assert, when, choose, range, each, wait, Block, stmts, no_stmts, Function, Core}
use Rattle.language.specs.Facts.{value, element, Knowledge}
use Rattle.values.specs.declared.value.Value.TheVariants.{One}
use Rattle.language.specs.Parts.{script_stmts}
use Rattle.code_rules.specs.IsCodeOf.{Layout}
use Rattle.headline.proofs.HeaderWorks.{no_simple}
use Rattle.language.specs.Meaning.{IsTarget, Ready}
use Rattle.language.specs.Members.{◌∈◌, first}
use Rattle.language.specs.Openings.{Opens, Branches}
use Rattle.language.specs.Parts.{stmt_calls, block_list, blocks_below, script_blocks, targets, function_body, stmts_of, owners, call_at, input_name, output_name}
use Rattle.language.specs.Places.{Path, Place, place, place_of, max_path_steps}
use Rattle.language.specs.Single.{SinglyAssigned}
use Rattle.language.specs.WellFormed.{Declares, Uses, own, inside, in_wait, IsAlone, IsHidden, header_blocks, WellFormed}
use Rattle.language.proofs.Blocks.{header_inner, inner_below, below_below, inner_block, among_script}
use Rattle.language_laws.proofs.OneAssign.{found_below}
use Rattle.language_laws.proofs.Declared.{declared, live_block, header_of, output_found, output_in, place_here}
use Rattle.language.proofs.Members.{split_in, either}
use Rattle.task_code.specs.Code as code
use Rattle.task_code.specs.Code.{Variable, Local, Parameter, Header, Act, Way, InPlace, Through, Loop, Code, entry, body, ways, loop_of, targets as code_targets, stored_of, is_array_name, is_array_owned}
use Rattle.task_code.specs.Compute.{Computed, Opens as OpensIt, key_of}
use Rattle.task_code.specs.Effects.{Task, Item, block, effect_at, instances, turns_of, left_at, is_some_list, rest, rest_if, step_at}
use Rattle.task_code.specs.Places as CodePlaces
use Rattle.task_code.specs.Places.{Step, Datum, place_at}
use Rattle.task_code.specs.System.{code_system}
use Rattle.task_code.specs.Exact.{IsExact, Leads, itself, through}
use Rattle.task_code.specs.Whole.{IsCode}
use Rattle.task_code.proofs.Rights.{target_opens_none, target_no_loop}
use Rattle.task_code.proofs.Places.{spot_path, spot_variable}
use Rattle.headline.specs.Headline.{script_path, script_place}
use Rattle.headline.specs.Answered.{Reading}
use Rattle.headline.specs.Backs.{Backs}
use Rattle.headline.specs.Chains.{Answers, Chain, at_script, by_header, by_wait, by_call, Waited, one_ready, more_ready}
use Rattle.code_rules.specs.CodeNames.{owned_as, name_as, each_once, header}
use Rattle.language_laws.specs.Scoped.{IsIn, Scoped}
use Rattle.code_rules.specs.IsCodeOf.{own_expr, own_needs, simple_act, IsEntry, CallAs, PartAs, plain_literal, plain_name, a_cell, a_read, a_call, WaitAs, one_wait, merged, BodyAs, body_as, IsCodeOf}
use Rattle.headline.proofs.Backing.{element_known}
use Rattle.headline.proofs.Carries.{node_of}
use Rattle.headline.proofs.Exact.{IsArr, InPart, leads_in, part_leads, no_way, scalar_target}
use Rattle.headline.proofs.Hits.{IsArrayAt, right_kind}
use Rattle.headline.proofs.LiveBy.{TaskEffect, Feed, ReadyFed, header_fed, needs_fed, known_cell}
use Rattle.headline.proofs.WrittenFrom.{nothing_behind}
use Rattle.headline.proofs.WholeTo.{bound_place}
use Rattle.headline.proofs.Evaluate.{once_in, in_once}
use Rattle.language_laws.proofs.Sources.{index_in, right_in, InsertElement, FillElement}
use Rattle.language_laws.proofs.Declared.{stmt_in}
use Rattle.language.specs.Meaning.{in_block}
use Rattle.code_rules.specs.IsCodeOf.{seen}
use Rattle.code_rules.specs.CodeNames.{wanted}
use Rattle.task_code.specs.Code.{Need, Calling}
use Rattle.task_code.specs.Effects.{Main, stores, bound, chunk}
use Rattle.task_code.proofs.Rights.{in_gather}
use Rattle.headline.proofs.LiveTo.{call_of}
use Rattle.headline.proofs.Means.{chain_live, chain_body, chain_scope, covering_writes, means}
use Rattle.headline.proofs.Owner.{OwnerOf, owner_here, owner_output, owner_header, owner_wait, outputs_apart}
use Rattle.headline.proofs.Readings.{same_array}
use Rattle.headline.proofs.Rights.{only_one, fill_stored}
use Rattle.headline.proofs.Roles.{PartOf, OwnAs, own_simple, own_branch, own_branches, own_range, own_each, own_wait, find_role, parts_of}
use Rattle.headline.proofs.Targets.{uses_block, uses_is_target, NoneInside, none_inner, none_output, OnlyAt, only_declared, none_declared, only_output, only_header, only_wait}
use Rattle.headline.proofs.KeysOf.{key_as}
use Rattle.values.specs.Limits.{chunk_size}

-- NAMES BACK

below : (n m : ℕ) → (n < m) ⊎ ((z : ℕ) × (n ≡ m + z))
below n zero = inr (n, omega arith)
below zero (suc m) = inl (omega arith)
below (suc n) (suc m) = elim (below n m) [ inl z ↦ inl (omega arith) | inr z ↦ inr (z.0, (let y = z.1 in omega arith)) ]

input_same : {n m : ℕ} → input n ≡ input m → n ≡ m
input_same h = cc

-- the script's name of an array's name
owned_back : (k : ℕ) (o : code.Owned) → is_array_owned o ≡ true → (what : Owned) × (owned_as k true what ≡ o) × ((i : ℕ) → what ≡ input i → i < k)
owned_back k (Local v) h = (local v.node, (λ z. Local (record { node = v.node; array = sym h z })), λ i e. absurd (cc (e)))
owned_back k (Parameter i b) h =
    elim (below i k) [
      | inl lt ↦ (input i, (λ z. Parameter i (sym h z)), λ n e. (let q = input_same e in omega arith))
      | inr r ↦ (output r.0, (λ z. Parameter (sym (r.1) z) (sym h z)), λ n e. absurd (cc (e)))
    ]

name_back : (k : ℕ) (r : code.Name) → is_array_name r ≡ true → (x : Name) × (name_as k true x ≡ r) × IsIn k x
name_back k r h = (let o = owned_back k r.owned h in (record { up = r.up; what = o.0 }, (λ z. record { up = r.up; owned = o.1 z }), o.2))

owned_is : (a b : Owned) → (a ≡ b) ⊎ (a ≡ b → ⊥)
owned_is (local n) (local m) = elim (cases_eq n m) [ inl e ↦ inl (ap local e) | inr ne ↦ inr (λ e. ne (cc (e))) ]
owned_is (input n) (input m) = elim (cases_eq n m) [ inl e ↦ inl (ap input e) | inr ne ↦ inr (λ e. ne (cc (e))) ]
owned_is (output n) (output m) = elim (cases_eq n m) [ inl e ↦ inl (ap output e) | inr ne ↦ inr (λ e. ne (cc (e))) ]
owned_is (local n) (input m) = inr (λ e. absurd (cc (e)))
owned_is (local n) (output m) = inr (λ e. absurd (cc (e)))
owned_is (input n) (local m) = inr (λ e. absurd (cc (e)))
owned_is (input n) (output m) = inr (λ e. absurd (cc (e)))
owned_is (output n) (local m) = inr (λ e. absurd (cc (e)))
owned_is (output n) (input m) = inr (λ e. absurd (cc (e)))

find_output : (xs : List Name) (what : Owned) → ((j : ℕ) × (x : Name) × (slice_get xs j ≡ Some x) × (x.what ≡ what)) ⊎ (what ∈ owners xs → ⊥)
find_output [] what = inr (λ h. elim h [ ])
find_output (x ∷ xs) what =
    elim (owned_is x.what what) [
      | inl e ↦ inl (0, x, refl, e)
      | inr ne ↦ elim (find_output xs what) [
        | inl r ↦ inl (suc r.0, r.1, r.2, r.3)
        | inr z ↦ inr (λ h. elim (split_in h) [ inl e ↦ ne (sym e) | inr i ↦ z i ])
      ]
    ]

one_member : {A : Type 0} {x y : A} → In x (y ∷ []) → x ≡ y
one_member (inl e) = e
one_member (inr z) = absurd z

-- the place of a name lies at no longer path
short : (s : Core) (path : Path) (up : ℕ) (what : Owned) → length (place_of s path up what).0 ≤ length path
short s [] up (local n) = omega arith
short s [] up (input n) = omega arith
short s [] up (output n) = omega arith
short s (t ∷ path) (suc up) what = (let h = short s path up what in omega arith)
short s (t ∷ path) zero (local n) = omega arith
short s (t ∷ path) zero (input n) = (let x = input_name (call_at s t.0) n in let h = short s path x.up x.what in omega arith)
short s (t ∷ path) zero (output n) = (let x = output_name (call_at s t.0) n in let h = short s path x.up x.what in omega arith)

-- the rest of a loop stands for turns that are left
rest_in : (i : ℕ) (p : List Step) (c : ℕ) (x : Computed) (o : Opening Task CodePlaces.Place) (l : Option Loop) → In o (rest l i p c x) → (is_some_list (left_at (suc c) (turns_of x)) ≡ true) × (o ≡ record { makes = []; tasks = Item i p (suc c) ∷ [] }) × ((lp : Loop) × (l ≡ Some lp))
rest_in i p c x o None h = absurd h
rest_in i p c x o (Some lp) h = (let r = by (is_some_list (left_at (suc c) (turns_of x))) refl h in (r.0, r.1, (lp, refl)))
  where
    by : (b : Bool) → is_some_list (left_at (suc c) (turns_of x)) ≡ b → In o (rest_if b i p c) → (is_some_list (left_at (suc c) (turns_of x)) ≡ true) × (o ≡ record { makes = []; tasks = Item i p (suc c) ∷ [] })
    by true q (inl e) = (q, e)
    by true q (inr z) = absurd z
    by false q h = absurd h

drop_shorter : {X : Type 0} (n : ℕ) (xs : List X) → length (drop n xs) ≤ length xs
drop_shorter zero xs = omega arith
drop_shorter (suc n) [] = omega arith
drop_shorter (suc n) (x ∷ xs) = let h = drop_shorter n xs in omega arith

fewer_left : {X : Type 0} (c : ℕ) (xs : List X) → is_some_list (left_at (suc c) xs) ≡ true → length (left_at (suc c) xs) < length (left_at c xs)
fewer_left zero [] h = absurd (cc (h))
fewer_left zero (x ∷ xs) h = (let z = drop_shorter 63 xs in omega arith)
fewer_left (suc c) xs h = fewer_left c (drop chunk_size xs) h

-- an entry that opens bodies has a way to them
pub instance_way : (a : Act) (offset : ℕ) (p : List Step) (c : ℕ) (x : Computed) (q : ℕ × List Step) → In q (instances a offset p c x) → (y : Way × ℕ) × In y (ways a)
instance_way (code.Cell e) offset p c x q h = absurd h
instance_way code.Read offset p c x q h = absurd h
instance_way (code.Call b rs os) offset p c x q h = ((Calling, b), inl refl)
instance_way (code.Set r e) offset p c x q h = absurd h
instance_way (code.Fill r es) offset p c x q h = absurd h
instance_way (code.Copy r) offset p c x q h = absurd h
instance_way (code.InsertElement r j e) offset p c x q h = absurd h
instance_way (code.Print e) offset p c x q h = absurd h
instance_way (code.Assert e) offset p c x q h = absurd h
instance_way (code.If e b None) offset p c x q h = ((Through, b), inl refl)
instance_way (code.If e b (Some d)) offset p c x q h = ((Through, b), inl refl)
instance_way (code.Range l g st lp) offset p c x q h = ((Through, lp.body), inl refl)
instance_way (code.Each lp) offset p c x q h = ((Through, lp.body), inl refl)
instance_way (code.Wait hs b) offset p c x q h = ((InPlace, b), inl refl)

-- the values of the index and of the right side of an element that is written
pub record WrittenCells (K : Knowledge) (path : Path) (i o : Outer) (key : Key) (v : Scalar) : Type 0 where
  pub scalar : Scalar
  pub key_is : key_of scalar ≡ key
  pub index : K (value (path, i.cell.node) (One scalar))
  pub right : K (value (path, o.cell.node) (One v))

pub written_cells : (s : Core) (wf : WellFormed s) (K : Knowledge) (kn : Backs s K) {path : Path} {at n : ℕ} {x : Name} {i o : Outer} {key : Key} {v : Scalar} → stmt at n (insert x i o) ∈ script_stmts s → K (element (place s path x) key (path, n) v) → WrittenCells K path i o key v
written_cells s wf K kn {path} {at} {n} {x} {i} {o} {key} {v} there_is kv = elim (element_known (kn.backed _ kv) (kn.behind _ kv) refl) [ inl a ↦ absurd (other a) | inr a ↦ by_key a.0 a.1 a.2 ]
  where
    other : FillElement s K (place s path x) key (path, n) v → ⊥
    other a = wf.writers.fill_insert a.at n at a.array x i a.right o (subst (λ (z : ℕ). stmt a.at z (fill a.array a.right) ∈ script_stmts s) (ap (λ (z : Place). z.1) a.writer_is) (stmt_in s a.live)) there_is

    by_key : (a : InsertElement s K (place s path x) key (path, n) v) → K (value (a.path, a.index.cell.node) a.index_value) → K (value (a.path, a.right.cell.node) (One v)) → WrittenCells K path i o key v
    by_key a ki ko =
        let same = wf.writers.insert_once a.at n at a.array x a.index i a.right o (subst (λ (z : ℕ). stmt a.at z (insert a.array a.index a.right) ∈ script_stmts s) (ap (λ (z : Place). z.1) a.writer_is) (stmt_in s a.live)) there_is in
        let pq : a.path ≡ path = ap (λ (z : Place). z.0) a.writer_is in
        by (key_as a.is_key) (λ h. subst (λ (z : Path). K (value (z, i.cell.node) a.index_value)) pq (subst (λ (z : Outer). K (value (a.path, z.cell.node) a.index_value)) same.0 h)) ki
        (subst (λ (z : Path). K (value (z, o.cell.node) (One v))) pq (subst (λ (z : Outer). K (value (a.path, z.cell.node) (One v))) same.1 ko))
      where
        by : {u : Value} {key : Key} → (x : Scalar) × (u ≡ One x) × (key_of x ≡ key) → (K (value (a.path, a.index.cell.node) u) → K (value (path, i.cell.node) u)) → K (value (a.path, a.index.cell.node) u) → K (value (path, o.cell.node) (One v)) → WrittenCells K path i o key v
        by x f ki ko = record { scalar = x.0; key_is = x.2; index = subst (λ (z : Value). K (value (path, i.cell.node) z)) x.1 (f ki); right = ko }

-- a header's entry opens bodies
own_way : {C : Code} {l : Layout} {k j at n : ℕ} {a : Action} → OwnAs C l k (stmt at n a) j → Branches a → (y : Way × ℕ) × In y (ways (entry C j).act)
own_way (own_simple {a = a} z en nd) hb = absurd (no_simple a z hb)
own_way (own_branch {t = t} en mk ba) hb = ((Through, t), subst (λ (a : Act). In (Through, t) (ways a)) (sym en.act_is) (inl refl))
own_way (own_branches {t = t} en mk ba bb) hb = ((Through, t), subst (λ (a : Act). In (Through, t) (ways a)) (sym en.act_is) (inl refl))
own_way (own_range {t = t} en mk ba) hb = ((Through, t), subst (λ (a : Act). In (Through, t) (ways a)) (sym en.act_is) (inl refl))
own_way (own_each {t = t} en mk ba) hb = ((Through, t), subst (λ (a : Act). In (Through, t) (ways a)) (sym en.act_is) (inl refl))
own_way (own_wait wa en) hb = absurd hb

turn_write : (C : Code) (lp : Loop) (offset : ℕ) (p : List Step) (ts : List (Key × Scalar)) (q : List Step) (v : Variable) (key : Key) (u : Scalar) → v.array ≡ true → In (record { place = Datum q v; key = key; value = u }) (flat_map (bound lp offset p) ts) → ⊥
turn_write C lp offset p ts q v key u va i =
    let r = in_gather C (bound lp offset p) ts _ i in
    let z = bound_place lp offset p r.0 _ r.2 in
    let e : true ≡ false = sym va ∙ ap (λ (x : Variable). x.array) (spot_variable z.2) ∙ z.3 in
    absurd (cc (e))

-- an entry that opens bodies writes no array
way_writes : (C : Code) (a : Act) (node offset : ℕ) (p : List Step) (c : ℕ) (x : Computed) (y : Way × ℕ) → In y (ways a) → (q : List Step) (v : Variable) (key : Key) (u : Scalar) → v.array ≡ true → In (record { place = Datum q v; key = key; value = u }) (stores C a node offset p c x) → ⊥
way_writes C (code.Cell e) node offset p c x y h q v key u va i = h
way_writes C code.Read node offset p c x y h q v key u va i = h
way_writes C (code.Call b rs os) node offset p c x y h q v key u va i = i
way_writes C (code.Set r e) node offset p c x y h q v key u va i = h
way_writes C (code.Fill r es) node offset p c x y h q v key u va i = h
way_writes C (code.Copy r) node offset p c x y h q v key u va i = h
way_writes C (code.InsertElement r j e) node offset p c x y h q v key u va i = h
way_writes C (code.Print e) node offset p c x y h q v key u va i = h
way_writes C (code.Assert e) node offset p c x y h q v key u va i = h
way_writes C (code.If e b d) node offset p c x y h q v key u va i = i
way_writes C (code.Range l g st lp) node offset p c x y h q v key u va i = turn_write C lp offset p (chunk c (turns_of x)) q v key u va i
way_writes C (code.Each lp) node offset p c x y h q v key u va i = turn_write C lp offset p (chunk c (turns_of x)) q v key u va i
way_writes C (code.Wait hs b) node offset p c x y h q v key u va i = i

module _ (s : Core) (C : Code) (w : IsCodeOf s C) (K : Knowledge) (wf : WellFormed s) (kn : Backs s K) (I : IsCode C) (sc : Scoped s) where
  abbrev pub ReadsAs : ℕ → List Step → ℕ → Computed → Type 0
  ReadsAs j p c x = Reading (code_system C) (Answers s K) (Item j p c) (effect_at C j p c x)

  -- the elements that an item writes are known
  abbrev pub KnownWrites : ℕ → List Step → ℕ → Computed → Type 0
  KnownWrites j p c x = (q : List Step) (v : Variable) (key : Key) (y : Scalar) → v.array ≡ true → In (record { place = Datum q v; key = key; value = y }) (stores C (entry C j).act (entry C j).node (entry C j).offset p c x) → (u : Place) × K (element (script_place q v) key u y)

  -- a block that a header's item opens, as the script opens it
  pub record OpenedAs (j k : ℕ) (p : List Step) (a : Action) (vs : List Value) (q : ℕ × List Step) : Type 0 where
    pub number : ℕ
    pub key : Key
    pub content : Block
    pub way : In (Through, number) (ways (entry C j).act)
    pub stands : BodyAs C w.layout k content number
    pub opens : Opens a vs key content
    pub is : ◌≡◌ {A = ℕ × List Step} q (number, step_at (entry C j).offset key p)

  pub record HeaderFact (j k at : ℕ) (p : List Step) (a : Action) (vs : List Value) : Type 0 where
    pub computed : Computed
    pub offset_is : (entry C j).offset ≡ at
    pub fact : (c : ℕ) → ReadsAs j p c computed
    pub opens : (c : ℕ) (q : ℕ × List Step) → In q (instances (entry C j).act (entry C j).offset p c computed) → OpenedAs j k p a vs q

  -- all headers of merged waits are ready
  pub data AllReady (k : ℕ) (path : Path) : Stmt → List Header → Type 0 where
    last_ready : {at n : ℕ} {ns : List Awaited} {c : Block} {hs : List Header} → Ready s K path (wait ns c) [] → hs ≡ header k at ns ∷ [] → AllReady k path (stmt at n (wait ns c)) hs
    outer_ready : {at n : ℕ} {ns : List Awaited} {st : Stmt} {gs hs : List Header} → Ready s K path (wait ns (stmts st no_stmts)) [] → hs ≡ header k at ns ∷ gs → AllReady k path st gs → AllReady k path (stmt at n (wait ns (stmts st no_stmts))) hs

  -- what is still asked of the facts: an entry has its fact once the script knows what it works out
  pub record FactsFrom : Type 0 where
    pub filled : (p : List Step) (t k : ℕ) (b : Block) → Chain s C w.layout K p t k b → (j : ℕ) → In j (body C t).entries → (at n : ℕ) (x : Name) (o : Outer) (v : Value) → stmt at n (fill x o) ∈ block_list b
        → IsEntry (entry C j) at (pos 0) (own_needs w.layout k (fill x o)) (simple_act w.layout k (own_needs w.layout k (fill x o)) (fill x o)) → K (value (script_path p, o.cell.node) v) → (c : Computed) × ReadsAs j p 0 c × KnownWrites j p 0 c
    pub inserted : (p : List Step) (t k : ℕ) (b : Block) → Chain s C w.layout K p t k b → (j : ℕ) → In j (body C t).entries → (at n : ℕ) (x : Name) (i o : Outer) (key : Key) (v : Scalar) → stmt at n (insert x i o) ∈ block_list b
        → IsEntry (entry C j) at (pos 0) (own_needs w.layout k (insert x i o)) (simple_act w.layout k (own_needs w.layout k (insert x i o)) (insert x i o)) → K (element (place s (script_path p) x) key (script_path p, n) v) → (c : Computed) × ReadsAs j p 0 c × KnownWrites j p 0 c
    pub header : (p : List Step) (t k : ℕ) (b : Block) → Chain s C w.layout K p t k b → (j : ℕ) → In j (body C t).entries → (at n : ℕ) (a : Action) (vs : List Value) → stmt at n a ∈ block_list b → OwnAs C w.layout k (stmt at n a) j → Branches a
        → Ready s K (script_path p) a vs → ((key : Key) (c : Block) → Opens a vs key c → length (script_path p) < max_path_steps) → HeaderFact j k at p a vs
    pub waited : (p : List Step) (t k : ℕ) (b : Block) → Chain s C w.layout K p t k b → (j : ℕ) → In j (body C t).entries → (st : Stmt) (hs : List Header) (u : ℕ) → st ∈ block_list b → (entry C j).needs ≡ each_once (flat_map (λ h. h.needs) hs) → (entry C j).act ≡ code.Wait hs u
        → AllReady k (script_path p) st hs → ReadsAs j p 0 OpensIt
    pub called : (p : List Step) (t k : ℕ) (b : Block) → Chain s C w.layout K p t k b → (j : ℕ) → In j (body C t).entries → (c : Call) (all : List Part) (at : ℕ) (pr : ℤ) → CallAs C w.layout k all at pr c j → length (script_path p) < max_path_steps → ReadsAs j p 0 OpensIt

  -- what opens bodies writes no array
  pub no_writes : (j c : ℕ) (p : List Step) (x : Computed) → (y : Way × ℕ) × In y (ways (entry C j).act) → KnownWrites j p c x
  no_writes j c p x h q v key u va i = absurd (way_writes C (entry C j).act (entry C j).node (entry C j).offset p c x h.0 h.1 q v key u va i)

  -- what counts for the end of an array: facts whose writes to it are known
  pub record Ends (fd : Feed s C w K wf kn I sc) : Type 1 where
    pub Counted : List Step → Variable → Task → TaskEffect → Type 0
    pub main : (q : List Step) (v : Variable) → Counted q v Main (record { writes = []; lines = []; opens = block C (0, []) ∷ [] })
    pub counts : (q : List Step) (v : Variable) (j c : ℕ) (p : List Step) (x : Computed) → v.array ≡ true → Live (code_system C) fd.Fact (Item j p c) → fd.Fact (Item j p c) (effect_at C j p c x) → KnownWrites j p c x → Counted q v (Item j p c) (effect_at C j p c x)
    -- the right side of a whole array, once its value is known
    pub right : (p : List Step) (t k : ℕ) (b : Block) → Chain s C w.layout K p t k b → (j : ℕ) → In j (body C t).entries → (at n : ℕ) (x : Name) (o : Outer) (v : Value) → stmt at n (fill x o) ∈ block_list b → K (value (script_path p, o.cell.node) v) → (z : Need) → In z (wanted k (own_expr o)) → In z (entry C j).needs → fd.Fed p z

  module _ (fd : Feed s C w K wf kn I sc) (ends : Ends fd) (ex : IsExact C) (single : SinglyAssigned s) (ff : FactsFrom) (p0 : List Step) (v0 : Variable) (ar : IsArrayAt s C w K wf I sc v0) (db : Block) (dbs : db ∈ script_blocks s) (dd : Declares db (local v0.node)) where
    abbrev A : CodePlaces.Place
    A = Datum p0 v0

    abbrev Fin : Task → Type 0
    Fin u = Fa.Finished (code_system C) (ends.Counted p0 v0) (Datum p0 v0) u

    abbrev IsLive : Task → Type 0
    IsLive u = Live (code_system C) fd.Fact u

    pub record Every (p : List Step) (b : Block) (up : ℕ) (what : Owned) : Type 0 where
      pub place_is : place s (script_path p) (record { up = up; what = what }) ≡ script_place p0 v0
      pub only : OnlyAt s wf.names what b up
      pub none : NoneInside b what
      pub one : (u : ℕ) (y : Owned) → Uses b u y → place s (script_path p) (record { up = u; what = y }) ≡ script_place p0 v0 → y ≡ what
      pub far : (c : Block) → c ∈ blocks_below b → Declares c (local v0.node) → script_path p ≡ script_path p0 → ⊥
      pub owner : OwnerOf s single b what

    -- NO RIGHT
    record Hit (k j : ℕ) (p : List Step) : Type 0 where
      name : Name
      right : code.Name
      led : In right (entry C j).writes
      is : name_as k true name ≡ right
      scoped : IsIn k name
      arr : IsArr s C w wf I sc ex name
      place_is : place s (script_path p) name ≡ script_place p0 v0

    hit : {p : List Step} {t k : ℕ} {b : Block} (ch : Chain s C w.layout K p t k b) (j : ℕ) → In j (body C t).entries → In (Datum p0 v0) (map (place_at C p) (entry C j).writes) → Hit k j p
    hit {p} {k = k} ch j there h =
        let r = in_unmap (place_at C p) (Datum p0 v0) (entry C j).writes h in
        let kd = right_kind s C w K wf I sc (λ z. z.writes) (covering_writes s C w.layout K wf.names I sc) ch j there r.0 r.1 p0 v0 r.2 in
        let x = name_back k r.0 (kd.of_name ∙ ar.array) in
        let st = means s C w.layout K wf.names I sc (λ z. z.writes) (covering_writes s C w.layout K wf.names I sc) ch j there true x.0 (subst (λ (z : code.Name). In z (entry C j).writes) (sym x.1) r.1) x.2 in
        let sm = same_array s wf K st refl in
        let e : Datum sm.path sm.variable ≡ Datum p0 v0 = sym sm.is ∙ ap (λ (z : code.Name). place_at C p z) x.1 ∙ r.2 in
        let pl : place s (script_path p) x.0 ≡ script_place p0 v0 = sm.place_is ∙ (λ z. script_place (spot_path e z) (spot_variable e z)) in
        let node : (n : ℕ) → (x.0).what ≡ local n → n ≡ v0.node = λ n q. sym (node_of s (script_path p) (x.0).up n) ∙ ap (λ (o : Owned). (place_of s (script_path p) (x.0).up o).1) (sym q) ∙ ap (λ (z : Place). z.1) pl in
        record {
          name = x.0;
          right = r.0;
          led = r.1;
          is = x.1;
          scoped = x.2;
          arr = record { of_layout = λ n q. ap w.layout.array (node n q) ∙ ar.of_layout; declared = λ n q. (db, dbs, subst (λ (z : ℕ). Declares db (local z)) (sym (node n q)) dd) };
          place_is = pl;
        }

    pub in_script : {p : List Step} {t k : ℕ} {b : Block} → Chain s C w.layout K p t k b → b ∈ script_blocks s
    in_script ch = live_block s (chain_live s C w.layout K wf.names I sc ch)

    pub no_right : {p : List Step} {t k : ℕ} {b : Block} (ch : Chain s C w.layout K p t k b) (j : ℕ) → In j (body C t).entries → (st : Stmt) → st ∈ block_list b → InPart s C w wf I sc ex k st j → (up : ℕ) (what : Owned) → Every p b up what → (IsTarget what st → ⊥) → In (Datum p0 v0) (map (place_at C p) (entry C j).writes) → ⊥
    no_right {k = k} {b = b} ch j there st m role up what inv h i =
        let z = hit ch j there i in
        let us = leads_in s C w wf I sc ex (ex.writes j z.right z.led) k b st m (chain_scope s C w.layout K wf.names I sc ch) (in_script ch) role z.name z.is z.scoped z.arr in
        h (subst (λ (y : Owned). IsTarget y st) (inv.one (z.name).up (z.name).what (uses_block us m) z.place_is) (uses_is_target us))

    pub part_no_right : {p : List Step} {t k : ℕ} {b : Block} (ch : Chain s C w.layout K p t k b) (j : ℕ) → In j (body C t).entries → (st : Stmt) → st ∈ block_list b → PartOf C w.layout k st j → ((c : Call) → IsAlone st c → ⊥) → In (Datum p0 v0) (map (place_at C p) (entry C j).writes) → ⊥
    part_no_right {k = k} {b = b} ch j there st m po h i =
        let z = hit ch j there i in
        let a = part_leads s C w wf I sc ex (ex.writes j z.right z.led) k b st m (chain_scope s C w.layout K wf.names I sc ch) (in_script ch) po z.name z.is z.scoped z.arr in
        h a.call a.alone

    -- AN ITEM WITH ITS FACT
    abbrev AllFed : ℕ → List Step → Type 0
    AllFed j p = (z : Need) → In z (entry C j).needs → fd.Fed p z

    item_done : (j c : ℕ) (p : List Step) (x : Computed) → IsLive (Item j p c) → AllFed j p → ReadsAs j p c x → KnownWrites j p c x
        → ((q : ℕ × List Step) → In q (instances (entry C j).act (entry C j).offset p c x) → (i : ℕ) → In i (body C q.0).entries → IsLive (Item i q.1 0) → Fin (Item i q.1 0))
        → ((lp : Loop) → loop_of (entry C j).act ≡ Some lp → is_some_list (left_at (suc c) (turns_of x)) ≡ true → IsLive (Item j p (suc c)) → Fin (Item j p (suc c))) → Fin (Item j p c)
    item_done j c p x lv nd rd kw f g = done (ends.counts p0 v0 j c p x ar.array lv fact kw) (λ o u io iu. by o u io iu (live_opened (Item j p c) u (effect_at C j p c x) o lv fact io iu))
      where
        fact : fd.Fact (Item j p c) (effect_at C j p c x)
        fact = fd.yields j c p (effect_at C j p c x) lv nd rd

        in_block_tasks : (q : ℕ × List Step) (u : Task) → In u (map (λ (i : ℕ). Item i q.1 0) (body C q.0).entries) → In q (instances (entry C j).act (entry C j).offset p c x) → IsLive u → Fin u
        in_block_tasks q u iu h lu =
            let r = in_unmap (λ (i : ℕ). Item i q.1 0) u (body C q.0).entries iu in
            subst Fin r.2 (f q h r.0 r.1 (subst IsLive (sym r.2) lu))

        by : (o : Opening Task CodePlaces.Place) (u : Task) → In o (map (block C) (instances (entry C j).act (entry C j).offset p c x) ++ rest (loop_of (entry C j).act) j p c x) → In u o.tasks → IsLive u → Fin u
        by o u io iu lu =
            elim (in_split o (map (block C) (instances (entry C j).act (entry C j).offset p c x)) _ io) [
              | inl h ↦ (let r = in_unmap (block C) o (instances (entry C j).act (entry C j).offset p c x) h in in_block_tasks r.0 u (subst (λ (z : Opening Task CodePlaces.Place). In u z.tasks) (sym r.2) iu) r.1 lu)
              | inr h ↦ (let r = rest_in j p c x o (loop_of (entry C j).act) h in
                  let ue : u ≡ Item j p (suc c) = one (subst (λ (z : Opening Task CodePlaces.Place). In u z.tasks) r.1 iu) in
                  subst Fin (sym ue) (g r.2.0 r.2.1 r.0 (subst IsLive ue lu)))
            ]
          where
            one : {A : Type 0} {x y : A} → In x (y ∷ []) → x ≡ y
            one (inl e) = e
            one (inr z) = absurd z

    loop_done : (fuel j c : ℕ) (p : List Step) (x : Computed) → length (left_at c (turns_of x)) ≤ fuel → IsLive (Item j p c) → AllFed j p → ((c : ℕ) → ReadsAs j p c x) → ((c : ℕ) → KnownWrites j p c x)
        → ((c : ℕ) (q : ℕ × List Step) → In q (instances (entry C j).act (entry C j).offset p c x) → (i : ℕ) → In i (body C q.0).entries → IsLive (Item i q.1 0) → Fin (Item i q.1 0)) → Fin (Item j p c)
    loop_done zero j c p x le lv nd rd kw f = item_done j c p x lv nd (rd c) (kw c) (f c) (λ lp q h l. (let z = fewer_left c (turns_of x) h in absurd (omega arith)))
    loop_done (suc fuel) j c p x le lv nd rd kw f = item_done j c p x lv nd (rd c) (kw c) (f c) (λ lp q h l. loop_done fuel j (suc c) p x (let z = fewer_left c (turns_of x) h in omega arith) l nd rd kw f)

    -- THE NAME IN INNER BLOCKS
    no_longer : {p : List Step} {b : Block} {up : ℕ} {what : Owned} → Every p b up what → length (script_path p0) ≤ length (script_path p)
    no_longer {p} {b} {up} {what} inv =
        let h = short s (script_path p) up what in
        let e : length (place_of s (script_path p) up what).0 ≡ length (script_path p0) = ap (λ (z : Place). length z.0) inv.place_is in
        omega arith

    in_header_block : {p : List Step} {b c : Block} {up : ℕ} {what : Owned} {at n : ℕ} {a : Action} (key : Key) → b ∈ script_blocks s → Every p b up what → stmt at n a ∈ block_list b → c ∈ header_blocks a → Every (step_at at key p) c (suc up) what
    in_header_block {p} {b} {c} {up} {what} {at} {n} {a} key bs inv m h = record {
      place_is = inv.place_is;
      only = only_header s wf.names what bs inv.none m h inv.only;
      none = none_inner b inv.none m (header_inner a h);
      one = λ u y us e. one u y us e;
      far = λ d dm dc e. (let z = no_longer inv in let q : suc (length (script_path p)) ≡ length (script_path p0) = ap (λ (x : Path). length x) e in absurd (omega arith));
      owner = owner_header s single a m h inv.owner;
    }
      where
        one : (u : ℕ) (y : Owned) → Uses c u y → place s (script_path (step_at at key p)) (record { up = u; what = y }) ≡ script_place p0 v0 → y ≡ what
        one zero y us e =
            let d = wf.names.header_names b c at n a y bs m h us in
            let z = no_longer inv in
            let q : suc (length (script_path p)) ≡ length (script_path p0) = ap (λ (x : Place). length x.0) (ap (λ (o : Owned). place_of s (script_path (step_at at key p)) 0 o) (sym d.is) ∙ e) in
            absurd (omega arith)
        one (suc u) y us e = inv.one u y (inside m h us) e

    pub in_wait_block : {p : List Step} {b c : Block} {up : ℕ} {what : Owned} {at n : ℕ} {ns : List Awaited} → b ∈ script_blocks s → Every p b up what → stmt at n (wait ns c) ∈ block_list b → Every p c up what
    in_wait_block {p} {b} {c} {up} {what} {at} {n} {ns} bs inv m = record {
      place_is = inv.place_is;
      only = only_wait s wf.names what inv.none m inv.only;
      none = none_inner b inv.none m first;
      one = λ u y us e. elim (declared c y) [
        | inl d ↦ (let u0 = wf.names.wait_names c u y (inner_block s bs m first) us d in
            let q : (script_path p, d.node) ≡ script_place p0 v0 = sym (place_here s (script_path p) d.node) ∙ (λ z. place_of s (script_path p) (sym u0 z) (sym (d.is) z)) ∙ e in
            absurd (inv.far c (inner_below b m first) (subst (λ (o : Owned). Declares c o) (d.is ∙ ap (λ (z : Place). local z.1) q) d) (ap (λ (z : Place). z.0) q)))
        | inr nd ↦ inv.one u y (in_wait m us nd) e
      ];
      far = λ d dm dc e. inv.far d (below_below b (inner_below b m first) dm) dc e;
      owner = owner_wait s single m inv.owner;
    }

    -- what is to be shown of a statement that is finished
    abbrev pub Concl : Owned → List Step → Stmt → Type 0
    Concl what p st = (t k : ℕ) (b : Block) → Chain s C w.layout K p t k b → st ∈ block_list b → (up : ℕ) → Every p b up what → (j : ℕ) → In j (body C t).entries → IsLive (Item j p 0) → InPart s C w wf I sc ex k st j → Fin (Item j p 0)

    -- the items of a block whose statements are finished
    in_block_done : {p : List Step} {t k : ℕ} {b : Block} {what : Owned} (ch : Chain s C w.layout K p t k b) (up : ℕ) → Every p b up what → ((st : Stmt) → st ∈ block_list b → Concl what p st) → (j : ℕ) → In j (body C t).entries → IsLive (Item j p 0) → Fin (Item j p 0)
    in_block_done {p} {t} {k} {b} {what} ch up inv f j h lv = by (chain_body s C w.layout K wf.names I sc ch)
      where
        by : BodyAs C w.layout k b t → Fin (Item j p 0)
        by (body_as bl mk) = (let r = find_role C w.layout bl h in f r.st r.there t k b ch r.there up inv j h lv r.role)

    pub idle_item : {p : List Step} (j : ℕ) → (In (Datum p0 v0) (map (place_at C p) (entry C j).writes) → ⊥) → Fin (Item j p 0)
    idle_item j h = idle h

    pub header_done : {what : Owned} {p : List Step} {at n : ℕ} {a : Action} {vs : List Value} → Branches a → Ready s K (script_path p) a vs → ReadyFed s C w K wf kn I sc fd (script_path p) a → ((key : Key) (b : Block) → Opens a vs key b → length (script_path p) < max_path_steps)
        → ((key : Key) (b : Block) → Opens a vs key b → (st : Stmt) → st ∈ block_list b → Concl what (step_at at key p) st) → Concl what p (stmt at n a)
    header_done {what} {p} {at} {n} {a} {vs} hb r rf dp rec t k b ch m up inv j there lv (inl po) = idle_item j (part_no_right ch j there (stmt at n a) m po (λ c al. by a hb al.is))
      where
        by : {at' n' : ℕ} {pr : ℤ} {ps : List Part} {c : Call} (a : Action) → Branches a → stmt at n a ≡ stmt at' n' (call_alone pr ps c) → ⊥
        by (when o d) z e = absurd (cc (e))
        by (choose o d d') z e = absurd (cc (e))
        by (range o d f g h i) z e = absurd (cc (e))
        by (each o d f g) z e = absurd (cc (e))
        by (declare v) z e = absurd z
        by (call_alone x y z') z e = absurd z
        by (assign x y) z e = absurd z
        by (fill x y) z e = absurd z
        by (insert x y z') z e = absurd z
        by (print x y) z e = absurd z
        by (assert x y) z e = absurd z
        by (wait x y) z e = absurd z
    header_done {what} {p} {at} {n} {a} {vs} hb r rf dp rec t k b ch m up inv j there lv (inr ow) =
        loop_done (length (turns_of hf.computed)) j 0 p hf.computed (omega arith) lv (header_fed s C w K wf kn I sc fd ch j there at n a vs m ow hb r rf) hf.fact (λ c. no_writes j c p hf.computed (own_way ow hb)) (λ c q h i im li. by q (hf.opens c q h) i im li)
      where
        hf : HeaderFact j k at p a vs
        hf = ff.header p t k b ch j there at n a vs m ow hb r dp

        by : (q : ℕ × List Step) → OpenedAs j k p a vs q → (i : ℕ) → In i (body C q.0).entries → IsLive (Item i q.1 0) → Fin (Item i q.1 0)
        by q z i im li =
            let e : ◌≡◌ {A = ℕ × List Step} q (z.number, step_at at z.key p) = z.is ∙ ap (λ (y : ℕ). (z.number, step_at y z.key p)) hf.offset_is in
            subst (λ (y : ℕ × List Step). Fin (Item i y.1 0)) (sym e)
            (in_block_done (by_header j ch m there hf.offset_is z.way z.stands r z.opens (dp z.key z.content z.opens)) (suc up) (in_header_block z.key (in_script ch) inv m (header_of z.opens)) (λ st' m'. rec z.key z.content z.opens st' m') i
            (subst (λ (y : ℕ × List Step). In i (body C y.0).entries) e im) (subst (λ (y : ℕ × List Step). IsLive (Item i y.1 0)) e li))

    -- the content of waits, innermost of those merged
    pub record WaitEnd (what : Owned) (p : List Step) (k u up : ℕ) (st : Stmt) (hs : List Header) : Type 0 where
      pub content : Block
      pub waited : Waited s C w.layout K (script_path p) st content
      pub ready : AllReady k (script_path p) st hs
      pub stands : BodyAs C w.layout k content u
      pub fed : (t : ℕ) (b : Block) → Chain s C w.layout K p t k b → (j : ℕ) → In j (body C t).entries → ((z : Need) → In z (flat_map (λ h. h.needs) hs) → In z (entry C j).needs) → (z : Need) → In z (flat_map (λ h. h.needs) hs) → fd.Fed p z
      pub every : Every p content up what
      pub each_done : (st' : Stmt) → st' ∈ block_list content → Concl what p st'

    pub wait_done : {what : Owned} {p : List Step} (st : Stmt) {t k : ℕ} {b : Block} (ch : Chain s C w.layout K p t k b) → st ∈ block_list b → (j : ℕ) → In j (body C t).entries → IsLive (Item j p 0) → {hs : List Header} {u : ℕ} → (entry C j).needs ≡ each_once (flat_map (λ h. h.needs) hs) → (entry C j).act ≡ code.Wait hs u → (up : ℕ) → WaitEnd what p k u up st hs → Fin (Item j p 0)
    wait_done {what} {p} st {t} {k} {b} ch m j there lv {hs} {u} nq aq up z =
        item_done j 0 p OpensIt lv (λ y h. z.fed t b ch j there into y (once_in y _ (subst (λ (l : List Need). In y l) nq h))) (ff.waited p t k b ch j there st hs u m nq aq z.ready) (no_writes j 0 p OpensIt ((InPlace, u), subst (λ (a : Act). In (InPlace, u) (ways a)) (sym aq) (inl refl))) (λ q h i im li. by q (one (subst (λ (a : Act). In q (instances a (entry C j).offset p 0 OpensIt)) aq h)) i im li) (λ lp q h l. absurd (cc (h)))
      where
        into : (y : Need) → In y (flat_map (λ h. h.needs) hs) → In y (entry C j).needs
        into y h = subst (λ (l : List Need). In y l) (sym nq) (in_once y _ h)

        one : {A : Type 0} {x y : A} → In x (y ∷ []) → x ≡ y
        one (inl e) = e
        one (inr z) = absurd z

        by : (q : ℕ × List Step) → ◌≡◌ {A = ℕ × List Step} q (u, p) → (i : ℕ) → In i (body C q.0).entries → IsLive (Item i q.1 0) → Fin (Item i q.1 0)
        by q e i im li =
            subst (λ (y : ℕ × List Step). Fin (Item i y.1 0)) (sym e)
            (in_block_done (by_wait j ch m there (subst (λ (a : Act). In (InPlace, u) (ways a)) (sym aq) (inl refl)) z.stands z.waited) up z.every z.each_done i
            (subst (λ (y : ℕ × List Step). In i (body C y.0).entries) e im) (subst (λ (y : ℕ × List Step). IsLive (Item i y.1 0)) e li))

    -- SIMPLE STATEMENTS
    target_done : {p : List Step} (j : ℕ) (r : code.Name) (x : Computed) → IsLive (Item j p 0) → AllFed j p → ReadsAs j p 0 x → KnownWrites j p 0 x → In r (stored_of (entry C j).node (entry C j).act) → Fin (Item j p 0)
    target_done {p = p} j r x lv nd rd kw h =
        item_done j 0 p x lv nd rd kw (λ q g i im li. absurd (target_opens_none C (entry C j).act (entry C j).node (entry C j).offset p 0 x r q h g))
        (λ lp q g l. absurd (none_some (sym (target_no_loop C (entry C j).act (entry C j).node r h) ∙ q)))
      where
        none_some : {lp : Loop} → ◌≡◌ {A = Option Loop} None (Some lp) → ⊥
        none_some h = cc

    pub fill_done : {what : Owned} {p : List Step} {at n : ℕ} {x : Name} {o : Outer} {v : Value} → K (value (script_path p, o.cell.node) v) → Concl what p (stmt at n (fill x o))
    fill_done {at = at} {n = n} {x = x} {o = o} kv t k b ch m up inv j there lv (inl po) = idle_item j (part_no_right ch j there (stmt at n (fill x o)) m po (λ c al. (let e = al.is in absurd (cc (e)))))
    fill_done {what} {p} {at} {n} {x} {o} {v} kv t k b ch m up inv j there lv (inr (own_simple z en nd)) =
        let r = ff.filled p t k b ch j there at n x o v m en kv in
        target_done j (name_as k true x) r.0 lv (λ y h. ends.right p t k b ch j there at n x o v m kv y (once_in y _ (subst (λ (l : List Need). In y l) (en.needs_is ∙ ap each_once (nothing_behind s C w K wf kn I sc (wanted k (own_expr o)))) h)) h) r.1 r.2 (subst (λ (a : Act). In (name_as k true x) (stored_of (entry C j).node a)) (sym en.act_is) (fill_stored C w.layout I k (entry C j).node (own_needs w.layout k (fill x o)) x (own_expr o)))

    -- the index and the right side of an element that is written
    insert_fed : {p : List Step} {t k : ℕ} {b : Block} (ch : Chain s C w.layout K p t k b) (j : ℕ) (there : In j (body C t).entries) {at n : ℕ} {x : Name} {i o : Outer} {key : Key} {v : Scalar} → stmt at n (insert x i o) ∈ block_list b → (entry C j).needs ≡ own_needs w.layout k (insert x i o) → K (element (place s (script_path p) x) key (script_path p, n) v) → AllFed j p
    insert_fed {p} {t} {k} {b} ch j there {at} {n} {x} {i} {o} m q kv =
        let r = written_cells s wf K kn (stmt_in s (in_block (chain_live s C w.layout K wf.names I sc ch) m)) kv in
        needs_fed s C w K wf kn I sc fd ch j there (seen w.layout i.cell ∷ seen w.layout o.cell ∷ []) q (λ e h. elim (split_in h) [
          | inl z ↦ known_cell s C w K wf kn I sc fd ch j there i.cell m (index_in i o) r.index e z
          | inr h ↦ elim (split_in h) [ inl z ↦ known_cell s C w K wf kn I sc fd ch j there o.cell m (right_in i o) r.right e z | inr h ↦ elim h [ ] ]
        ])

    pub insert_done : {what : Owned} {p : List Step} {at n : ℕ} {x : Name} {i o : Outer} {key : Key} {v : Scalar} → K (element (place s (script_path p) x) key (script_path p, n) v) → Concl what p (stmt at n (insert x i o))
    insert_done {at = at} {n = n} {x = x} {i = i} {o = o} kv t k b ch m up inv j there lv (inl po) = idle_item j (part_no_right ch j there (stmt at n (insert x i o)) m po (λ c al. (let e = al.is in absurd (cc (e)))))
    insert_done {what} {p} {at} {n} {x} {i} {o} {key} {v} kv t k b ch m up inv j there lv (inr (own_simple z en nd)) =
        let r = ff.inserted p t k b ch j there at n x i o key v m en kv in
        target_done j (name_as k true x) r.0 lv (insert_fed ch j there m en.needs_is kv) r.1 r.2 (subst (λ (a : Act). In (name_as k true x) (stored_of (entry C j).node a)) (sym en.act_is) (inl refl))

    -- CALLS ALONE
    cell_no_right : {p : List Step} {t k : ℕ} {b : Block} (ch : Chain s C w.layout K p t k b) (j : ℕ) → In j (body C t).entries → (act : Act) → (entry C j).act ≡ act → ways act ≡ []
        → ((j : ℕ) → code_targets (record { node = (entry C j).node; at = 0; offset = 0; priority = pos 0; needs = []; act = act; reads = []; writes = [] }) ≡ code.here (code.scalar (entry C j).node) ∷ []) → In (Datum p0 v0) (map (place_at C p) (entry C j).writes) → ⊥
    cell_no_right {k = k} ch j there act e wz tz i = (let z = hit ch j there i in by (ex.writes j z.right z.led) z.name z.is e)
      where
        by : {j' : ℕ} {r : code.Name} → Leads C code_targets j' r → (x : Name) → name_as k true x ≡ r → (entry C j').act ≡ act → ⊥
        by (itself j' r h) x q e' = scalar_target s C w wf I sc ex k j' x r act e' (tz j') q h
        by (through j' j2 u wy r q2 wi ij lead nd sn) x q e' = no_way s C w wf I sc ex j' (wy, u) e' wz wi

    call_body : {what : Owned} {p : List Step} {at n : ℕ} {pr : ℤ} {ps : List Part} {c : Call} {t k : ℕ} {b : Block} (ch : Chain s C w.layout K p t k b) (m : stmt at n (call_alone pr ps c) ∈ block_list b) (cm : c ∈ stmt_calls (stmt at n (call_alone pr ps c))) (up : ℕ) → Every p b up what → (f : Function) → slice_get s.functions c.function ≡ Some f
        → (j : ℕ) (x : Name) → slice_get c.outputs j ≡ Some x → x.what ≡ what → Every (step_at c.at (Key.Number (pos 0)) p) f.body 0 (output j)
    call_body {what} {p} {at} {n} {pr} {ps} {c} {b = b} ch m cm up inv f fq j x e q = record {
      place_is = out_is ∙ (λ z. place_of s (script_path p) (up_is z) (q z)) ∙ inv.place_is;
      only = only_output s wf.names (output j) c.function f fq;
      none = none_output f.body j;
      one = one;
      far = λ d dm dc e. (let z = no_longer inv in let q : suc (length (script_path p)) ≡ length (script_path p0) = ap (λ (x : Path). length x) e in absurd (omega arith));
      owner = owner_output s single c.function f j fq (let h = found_below c.outputs j x e in let n = wf.names.call_count b (stmt at n (call_alone pr ps c)) c f (in_script ch) m cm fq in omega arith);
    }
      where
        inner_path : Path
        inner_path = (c.at, Key.Number (pos 0)) ∷ script_path p

        up_is : x.up ≡ up
        up_is = inv.only x.up (subst (λ (z : Owned). Uses b x.up z) q (own m (inl (output_in c.outputs j x e))))

        given : (j : ℕ) (x : Name) → slice_get c.outputs j ≡ Some x → place_of s ((c.at, Key.Number (pos 0)) ∷ script_path p) 0 (output j) ≡ place s (script_path p) x
        given j x e = ap (λ (z : Option Call). place s (script_path p) (output_name z j)) (wf.names.call_found b (stmt at n (call_alone pr ps c)) c (in_script ch) m cm) ∙ ap (λ (z : Name). place s (script_path p) z) (output_found c.outputs j x e)

        out_is : place_of s ((c.at, Key.Number (pos 0)) ∷ script_path p) 0 (output j) ≡ place s (script_path p) x
        out_is = given j x e

        one : (u : ℕ) (y : Owned) → Uses f.body u y → place_of s ((c.at, Key.Number (pos 0)) ∷ script_path p) u y ≡ script_place p0 v0 → y ≡ output j
        one u y us pe =
            let r = wf.names.function_names c.function f u y fq us in
            elim r.1 [
              | inl d ↦ (let z = no_longer inv in
                  let q : suc (length (script_path p)) ≡ length (script_path p0) = ap (λ (x : Place). length x.0) ((λ z. place_of s ((c.at, Key.Number (pos 0)) ∷ script_path p) (sym (r.0) z) (sym (d.is) z)) ∙ pe) in
                  absurd (omega arith))
              | inr o ↦ (let us' : Uses f.body 0 (output o.0) = subst (λ (z : Owned). Uses f.body 0 z) o.1 (subst (λ (z : ℕ). Uses f.body z y) r.0 us) in
                  let x' = wf.names.call_outputs b (stmt at n (call_alone pr ps c)) c f o.0 (in_script ch) m cm fq us' in
                  let pl : place s (script_path p) x'.0 ≡ script_place p0 v0 = sym (given o.0 x'.0 x'.1) ∙ (λ z. place_of s ((c.at, Key.Number (pos 0)) ∷ script_path p) (sym (r.0) z) (sym (o.1) z)) ∙ pe in
                  let w' : (x'.0).what ≡ what = inv.one (x'.0).up (x'.0).what (own m (inl (output_in c.outputs o.0 x'.0 x'.1))) pl in
                  o.1 ∙ ap output (outputs_apart s single inv.owner m o.0 j x'.0 x x'.1 e w' q))
            ]

    pub call_done : {what : Owned} {p : List Step} {at n : ℕ} {pr : ℤ} {ps : List Part} {c : Call} → length (script_path p) < max_path_steps
        → ((j : ℕ) (x : Name) (st : Stmt) → slice_get c.outputs j ≡ Some x → x.what ≡ what → st ∈ function_body s c.function → Concl (output j) (step_at c.at (Key.Number (pos 0)) p) st) → Concl what p (stmt at n (call_alone pr ps c))
    call_done dp rec t k b ch m up inv j there lv (inr (own_simple z en nd)) = absurd z
    call_done {what} {p} {at} {n} {pr} {ps} {c} dp rec t k b ch m up inv j there lv (inl po) = by po.as_part po.there po.in_stmt refl
      where
        alone : {c' : Call} → c ≡ c' → CallAs C w.layout k po.all po.at po.priority c' j → c' ∈ stmt_calls (stmt at n (call_alone pr ps c)) → Fin (Item j p 0)
        alone {c'} same ca cm = elim (find_output c.outputs what) [ inl r ↦ with_output r.0 r.1 r.2 r.3 | inr z ↦ idle_item j (no_right ch j there (stmt at n (call_alone pr ps c)) m (inl po) up what inv z) ]
          where
            ca' : CallAs C w.layout k po.all po.at po.priority c j
            ca' = subst (λ (y : Call). CallAs C w.layout k po.all po.at po.priority y j) (sym same) ca

            cm' : c ∈ stmt_calls (stmt at n (call_alone pr ps c))
            cm' = subst (λ (y : Call). y ∈ stmt_calls (stmt at n (call_alone pr ps c))) (sym same) cm

            g : (f : Function) × (slice_get s.functions c.function ≡ Some f) × (length c.inputs ≡ f.inputs)
            g = sc.calls (stmt at n (call_alone pr ps c)) c (among_script s (in_script ch) m) cm'

            with_output : (i : ℕ) (x : Name) → slice_get c.outputs i ≡ Some x → x.what ≡ what → Fin (Item j p 0)
            with_output i x e q = item_done j 0 p OpensIt lv (λ y h. absurd (subst (λ (l : List Need). In y l) (ca').is.needs_is h)) (ff.called p t k b ch j there c po.all po.at po.priority ca' dp)
                (no_writes j 0 p OpensIt ((Calling, w.layout.body_of c.function), subst (λ (a : Act). In (Calling, w.layout.body_of c.function) (ways a)) (sym (ca').is.act_is) (inl refl))) opened (λ lp y h l. absurd (cc (h)))
              where
                one : {A : Type 0} {x y : A} → In x (y ∷ []) → x ≡ y
                one (inl e) = e
                one (inr z) = absurd z

                opened : (u : ℕ × List Step) → In u (instances (entry C j).act (entry C j).offset p 0 OpensIt) → (i' : ℕ) → In i' (body C u.0).entries → IsLive (Item i' u.1 0) → Fin (Item i' u.1 0)
                opened u h i' im li =
                    let h' : In u ((w.layout.body_of c.function, step_at (entry C j).offset (Key.Number (pos 0)) p) ∷ []) = subst (λ (a : Act). In u (instances a (entry C j).offset p 0 OpensIt)) (ca').is.act_is h in
                    let ue : ◌≡◌ {A = ℕ × List Step} u (w.layout.body_of c.function, step_at c.at (Key.Number (pos 0)) p) = one h' ∙ ap (λ (y : ℕ). (w.layout.body_of c.function, step_at y (Key.Number (pos 0)) p)) (ca').offset_is in
                    subst (λ (y : ℕ × List Step). Fin (Item i' y.1 0)) (sym ue)
                    (in_block_done (by_call j ch m cm' there ca' po.cells_in g.1 g.2 (w.functions c.function g.0 g.1) dp) 0 (call_body ch m cm' up inv g.0 g.1 i x e q)
                    (λ st' m'. rec i x st' e q (subst (λ (o : Option Function). st' ∈ stmts_of o) (sym g.1) m')) i'
                    (subst (λ (y : ℕ × List Step). In i' (body C y.0).entries) ue im) (subst (λ (y : ℕ × List Step). IsLive (Item i' y.1 0)) ue li))

        hidden : (c' : Call) → po.part ≡ Co.calls c' → IsHidden s c' → In (Datum p0 v0) (map (place_at C p) (entry C j).writes) → ⊥
        hidden c' pe hd i =
            let z = hit ch j there i in
            let a = part_leads s C w wf I sc ex (ex.writes j z.right z.led) k b (stmt at n (call_alone pr ps c)) m (chain_scope s C w.layout K wf.names I sc ch) (in_script ch) po z.name z.is z.scoped z.arr in
            let same : a.call ≡ c' = calls_in (sym a.is_part ∙ pe) in
            let y : z.name ≡ Co.here hd.node = only_one (subst (λ (l : List Name). z.name ∈ l) (ap (λ (q : Call). q.outputs) same ∙ hd.is) a.out) in
            let d = (z.arr).declared hd.node (ap (λ (q : Name). q.what) y) in
            absurd (hd.undeclared d.0 d.1 d.2)
          where
            calls_in : {x y : Call} → Co.calls x ≡ Co.calls y → x ≡ y
            calls_in h = cc

        in_alone : {at' n' : ℕ} {pr' : ℤ} {ps' : List Part} {c' : Call} → stmt at n (call_alone pr ps c) ≡ stmt at' n' (call_alone pr' ps' c') → c ≡ c'
        in_alone h = cc

        by : {y : Part} {js : List ℕ} → PartAs C w.layout k po.all po.at po.priority y js → In j js → y ∈ parts_of (stmt at n (call_alone pr ps c)) → po.part ≡ y → Fin (Item j p 0)
        by (plain_literal z) i v pe = absurd i
        by (plain_name z) i v pe = absurd i
        by (a_cell {j = j'} z nd en) i v pe = idle_item j (cell_no_right ch j there _ (ap (λ (z : ℕ). (entry C z).act) (one_member i) ∙ en.act_is) refl (λ y. refl))
        by (a_read {j = j'} z nd ix en) i v pe = idle_item j (cell_no_right ch j there _ (ap (λ (z : ℕ). (entry C z).act) (one_member i) ∙ en.act_is) refl (λ y. refl))
        by (a_call {c = c'} {j = j'} ca) i v pe =
            let cm = call_of (stmt at n (call_alone pr ps c)) c' v in
            elim (wf.names.call_kinds b (stmt at n (call_alone pr ps c)) c' (in_script ch) m cm) [
              | inl al ↦ alone (in_alone al.is) (subst (λ (z : ℕ). CallAs C w.layout k po.all po.at po.priority c' z) (sym (one_member i)) ca) cm
              | inr hd ↦ idle_item j (hidden c' pe hd)
            ]

    -- THE INDUCTION
    pub no_branch : {k u at n : ℕ} {hs : List Header} {a : Action} → WaitAs C w.layout k (stmt at n a) hs u → Branches a → ⊥
    no_branch (one_wait ba q) hb = hb
    no_branch (merged wa q) hb = hb

    pub wait_not_alone : {at n at' n' : ℕ} {ns : List Awaited} {b : Block} {pr : ℤ} {ps : List Part} {c : Call} → stmt at n (wait ns b) ≡ stmt at' n' (call_alone pr ps c) → ⊥
    wait_not_alone h = absurd (cc (h))

    pub only_target : (st : Stmt) {what : Owned} → what ∈ (targets st ++ []) → IsTarget what st
    only_target st h = elim (either (targets st) [] h) [ inl i ↦ i | inr z ↦ elim z [ ] ]

    -- AT THE DECLARING BLOCK
    -- at the script's own path all names are of its block
    root_local : {p : List Step} {t k : ℕ} {b : Block} → Chain s C w.layout K p t k b → length p ≡ 0 → (u : ℕ) (y : Owned) → Uses b u y → (n : ℕ) × (y ≡ local n)
    root_local (at_script h) q u y us = (let d = (wf.names.script_names u y us).1 in (d.node, d.is))
    root_local (by_header j ch m i mk wy h r o dp) q u y us = absurd (omega arith)
    root_local (by_call j ch m n i ca cs f len h dp) q u y us = absurd (omega arith)
    root_local {p} (by_wait j ch m i wy h r) q u y us = by m r (λ u' us'. root_local ch q u' y us') u us
      where
        by : {b c : Block} {st : Stmt} → st ∈ block_list b → Waited s C w.layout K (script_path p) st c → ((u : ℕ) → Uses b u y → (n : ℕ) × (y ≡ local n)) → (u : ℕ) → Uses c u y → (n : ℕ) × (y ≡ local n)
        by {c = c} m (one_ready r) f u us = elim (declared c y) [ inl d ↦ (d.node, d.is) | inr nd ↦ f u (in_wait m us nd) ]
        by {c = c} m (more_ready {st = st'} r ws) f u us = by first ws (λ u' us'. elim (declared (stmts st' no_stmts) y) [ inl d ↦ (d.node, d.is) | inr nd ↦ f u' (in_wait m us' nd) ]) u us

    own_place : (p : List Step) (u : ℕ) (y : Owned) → (length p ≡ 0 → (n : ℕ) × (y ≡ local n)) → place_of s (script_path p) u y ≡ (script_path p, v0.node) → y ≡ local v0.node
    own_place [] u y f e = (let r = f refl in r.1 ∙ ap local (sym (node_of s [] u r.0) ∙ ap (λ (o : Owned). (place_of s [] u o).1) (sym r.1) ∙ ap (λ (z : Place). z.1) e))
    own_place (t ∷ p) (suc u) y f e = (let h = short s (script_path p) u y in let q : length (place_of s (script_path p) u y).0 ≡ suc (length (script_path p)) = ap (λ (z : Place). length z.0) e in absurd (omega arith))
    own_place (t ∷ p) zero (local n) f e = ap local (ap (λ (z : Place). z.1) e)
    own_place (t ∷ p) zero (input i) f e =
        let x = input_name (call_at s t.offset) i in
        let h = short s (script_path p) x.up x.what in
        let q : length (place_of s (script_path p) x.up x.what).0 ≡ suc (length (script_path p)) = ap (λ (z : Place). length z.0) e in
        absurd (omega arith)
    own_place (t ∷ p) zero (output i) f e =
        let x = output_name (call_at s t.offset) i in
        let h = short s (script_path p) x.up x.what in
        let q : length (place_of s (script_path p) x.up x.what).0 ≡ suc (length (script_path p)) = ap (λ (z : Place). length z.0) e in
        absurd (omega arith)

    pub block_done : {t k : ℕ} {b : Block} (ch : Chain s C w.layout K p0 t k b) → Declares b (local v0.node) → ((st : Stmt) → st ∈ block_list b → Concl (local v0.node) p0 st) → (j : ℕ) → In j (body C t).entries → IsLive (Item j p0 0) → Fin (Item j p0 0)
    block_done {b = b} ch d fs j h lv =
        in_block_done ch 0 (record {
          place_is = place_here s (script_path p0) v0.node;
          only = only_declared s wf.names (local v0.node) b (in_script ch) d;
          none = none_declared s wf.names (local v0.node) b (in_script ch) d;
          one = λ u y us e. own_place p0 u y (λ q. root_local ch q u y us) e;
          far = λ c cm dc e. none_declared s wf.names (local v0.node) b (in_script ch) d c cm dc;
          owner = owner_here s single (in_script ch) d;
        }) fs j h lv
