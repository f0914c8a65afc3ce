-- What the entries of headers work out by the script's answers, and which entries are a statement's.
use Rattle.std.proofs.Common.{◌≡◌, ◌⊎◌, inl, inr, ℕ, zero, suc, ◌<◌, ◌≤◌, ◌+◌, arith, Bool, true, false, List, [], ◌∷◌, ◌++◌, map, length, refl, sym, ap, ◌∙◌, subst, Option, Some, None, Ok}
use Rattle.std.specs.Prelude.{pos, ℤ, if◌then◌else◌, take, drop}
use Rattle.std.specs.List.{flat_map}
use Rattle.std.proofs.lemmas.Bool.{cases_eq}
use Rattle.dataflow.specs.System.{In, Found, Content}
use Rattle.dataflow.proofs.Lists.{in_left, in_right, in_split}
use Rattle.values.specs.declared.key.Key.{Key}
use Rattle.values.specs.declared.map.Element.{Element}
use Rattle.values.specs.declared.value.Scalar.{Scalar}
use Rattle.values.specs.declared.value.Scalar.TheVariants.{Number, Text, Truth}
use Rattle.values.specs.Ranges.{range_count, value_in}
use Rattle.values.specs.declared.value.Value.{Value}
use Rattle.values.specs.declared.value.Value.TheVariants.{One, Many}
use Rattle.language.specs.Core as Co
use Rattle.language.specs.Core.{Name, Expr, Cell, Call, Part, Outer, Awaited, Stmt, stmt, Action, when, choose, range, each, wait, Block, stmts, no_stmts, Function, Core}
use Rattle.language.specs.Facts.{Elements as Elements_, value, Knowledge, KnownAll, no_cell, next_cell}
use Rattle.language.specs.Meaning as Mn
use Rattle.language.specs.Meaning.{ValueUnder, LiveStmt, in_block, Ready, cells_known, source_closed, names_known, Come, scalar_known, array_closed}
use Rattle.language.specs.Members.{◌∈◌, first, later}
use Rattle.language.specs.Openings.{Branches, Bounds, bounds, Decides, one_way, two_ways, in_turns, Opens}
use Rattle.language.specs.Parts.{outer_cells, outer_parts, parts, part_cells, cells, stmt_calls, block_list}
use Rattle.language.specs.Places.{Path, place, max_path_steps}
use Rattle.language.specs.WellFormed.{WellFormed}
use Rattle.language.proofs.Members.{split_in, to_left, to_right, either}
use Rattle.task_code.specs.Code as code
use Rattle.task_code.specs.Code.{Need, Header, Act, If, Wait, Way, Code, Through, InPlace, Calling, Loop, entry, body, ways, loop_of}
use Rattle.task_code.specs.Compute.{Computed, Takes, Turns, Elements, elements, pairs, content, answer_at, in_key_order, ranged, range_turns, turns_or, compute, branched}
use Rattle.task_code.specs.Effects.{Item, effect_at, rest, left_at, chunk, is_some_list}
use Rattle.task_code.specs.Places.{Step, place_at}
use Rattle.task_code.specs.System.{answered, code_system}
use Rattle.task_code.specs.Whole.{IsCode}
use Rattle.headline.specs.Headline.{script_path}
use Rattle.headline.specs.Answered.{Reading}
use Rattle.headline.specs.Backs.{Backs}
use Rattle.headline.specs.Chains.{Answers, Chain}
use Rattle.code_rules.specs.CodeNames.{name_as, wanted, over, each_once, awaited_need}
use Rattle.language_laws.specs.Scoped.{IsIn, AreIn, AwaitedIn, Scoped}
use Rattle.code_rules.specs.IsCodeOf.{Layout, seen, own_needs, step_expr, IsSimple, IsEntry, CallAs, plain_literal, plain_name, a_cell, a_read, a_call, PartsAs, no_part, one_part, StmtAs, declares, calls_alone, simple, branch, branches, range_loop, array_loop, waits, WaitAs, one_wait, merged, BlockAs, no_stmt, one_stmt, BodyAs, body_as, IsCodeOf}
use Rattle.language_laws.specs.TypedValues.{own_outer, own_parts}
use Rattle.headline.proofs.Evaluate.{Got, Ans, AnsAll, once_in, in_once}
use Rattle.headline.proofs.Facts.{Known, known, fact_of, computes_so, has_answers, seen_value, not_too_deep}
use Rattle.headline.proofs.Means.{chain_live, chain_scope}
use Rattle.headline.proofs.Opening.{seen_scoped}
use Rattle.headline.proofs.Readings.{name_stands, to_code, IsSame, same_array, gives_all, all_in_order}
use Rattle.headline.proofs.Roles.{cell_among, among_cells, among_calls, part_of_stmt}
use Rattle.values.specs.Limits.{chunk_size}

-- LOOKING UP A STATEMENT'S ENTRIES

module _ (C : Code) (l : Layout) where
  pub record StmtFound (k : ℕ) (st : Stmt) (es : List ℕ) : Type 0 where
    pub numbers : List ℕ
    pub as_stmt : StmtAs C l k st numbers
    pub among : (j : ℕ) → In j numbers → In j es

  pub find_stmt : {k : ℕ} {b : Block} {es : List ℕ} {st : Stmt} → BlockAs C l k b es → st ∈ block_list b → StmtFound k st es
  find_stmt no_stmt h = elim h [ ]
  find_stmt (one_stmt {is = is} {js = js} a rest q) first = record { numbers = is; as_stmt = a; among = λ j h. subst (λ (z : List ℕ). In j z) (sym q) (in_left j is js h) }
  find_stmt (one_stmt {is = is} {js = js} a rest q) (later h) =
      let r = find_stmt rest h in
      record { numbers = r.numbers; as_stmt = r.as_stmt; among = λ j m. subst (λ (z : List ℕ). In j z) (sym q) (in_right j is js (r.among j m)) }

  pub record CallFound (k : ℕ) (st : Stmt) (c : Call) (es : List ℕ) : Type 0 where
    pub number : ℕ
    pub there : In number es
    pub all : List Part
    pub at : ℕ
    pub priority : ℤ
    pub as_call : CallAs C l k all at priority c number
    pub cells_in : (d : Cell) → d ∈ part_cells all → d ∈ cells st

  find_part : {k at : ℕ} {p : ℤ} {all xs : List Part} {js : List ℕ} (st : Stmt) (c : Call) → PartsAs C l k all at p xs js → Co.calls c ∈ xs → ((d : Cell) → d ∈ part_cells all → d ∈ cells st) → CallFound k st c js
  find_part st c no_part h g = elim h [ ]
  find_part {k} {at} {p} {all} st c (one_part {js = js} (a_call {c = d} {j = j} ca) rest q) h g =
      elim (split_in h) [
        | inl e ↦ record { number = j; there = subst (λ (z : List ℕ). In j z) (sym q) (inl refl); all = all; at = at; priority = p; as_call = subst (λ (z : Call). CallAs C l k all at p z j) (sym (calls_same e)) ca; cells_in = g }
        | inr m ↦ (let r = find_part st c rest m g in record { number = r.number; there = subst (λ (z : List ℕ). In r.number z) (sym q) (inr r.there); all = r.all; at = r.at; priority = r.priority; as_call = r.as_call; cells_in = r.cells_in })
      ]
    where
      calls_same : {x y : Call} → Co.calls x ≡ Co.calls y → x ≡ y
      calls_same h = cc
  find_part st c (one_part {is = is} {js = js} (plain_literal z) rest q) h g = elim (split_in h) [ inl e ↦ absurd (cc (e)) | inr m ↦ (let r = find_part st c rest m g in record { number = r.number; there = subst (λ (z : List ℕ). In r.number z) (sym q) r.there; all = r.all; at = r.at; priority = r.priority; as_call = r.as_call; cells_in = r.cells_in }) ]
  find_part st c (one_part (plain_name z) rest q) h g = elim (split_in h) [ inl e ↦ absurd (cc (e)) | inr m ↦ (let r = find_part st c rest m g in record { number = r.number; there = subst (λ (z : List ℕ). In r.number z) (sym q) r.there; all = r.all; at = r.at; priority = r.priority; as_call = r.as_call; cells_in = r.cells_in }) ]
  find_part st c (one_part (a_cell z n e') rest q) h g = elim (split_in h) [ inl e ↦ absurd (cc (e)) | inr m ↦ (let r = find_part st c rest m g in record { number = r.number; there = subst (λ (z : List ℕ). In r.number z) (sym q) (inr r.there); all = r.all; at = r.at; priority = r.priority; as_call = r.as_call; cells_in = r.cells_in }) ]
  find_part st c (one_part (a_read z n ix en) rest q) h g = elim (split_in h) [ inl e ↦ absurd (cc (e)) | inr m ↦ (let r = find_part st c rest m g in record { number = r.number; there = subst (λ (z : List ℕ). In r.number z) (sym q) (inr r.there); all = r.all; at = r.at; priority = r.priority; as_call = r.as_call; cells_in = r.cells_in }) ]

  pub cells_of : (at n : ℕ) (a : Action) (ps : List Part) → ((x : Part) → x ∈ ps → x ∈ parts a) → (d : Cell) → d ∈ part_cells ps → d ∈ cells (stmt at n a)
  cells_of at n a ps f d h = cell_among (parts a) (f (Co.inner d) (among_cells ps h))

  own_calls : (o : Outer) (c : Call) → Co.calls c ∈ (o.parts ++ Co.inner o.cell ∷ []) → Co.calls c ∈ own_outer o
  own_calls o c h = elim (either o.parts _ h) [ inl m ↦ to_left o.parts _ m | inr m ↦ elim (split_in m) [ inl e ↦ absurd (cc (e)) | inr z ↦ elim z [ ] ] ]

  simple_calls : (a : Action) → IsSimple a → (c : Call) → Co.calls c ∈ parts a → Co.calls c ∈ own_parts a
  simple_calls (Co.assign x o) z c h = own_calls o c h
  simple_calls (Co.fill x o) z c h = own_calls o c h
  simple_calls (Co.insert x i o) z c h = h
  simple_calls (Co.print x o) z c h = own_calls o c h
  simple_calls (Co.assert x o) z c h = own_calls o c h
  simple_calls (Co.declare v) z c h = absurd z
  simple_calls (Co.call_alone x y o) z c h = absurd z
  simple_calls (when o d) z c h = absurd z
  simple_calls (choose o d e) z c h = absurd z
  simple_calls (range o d e f g i) z c h = absurd z
  simple_calls (each o d e f) z c h = absurd z
  simple_calls (wait o d) z c h = absurd z

  widen : {k : ℕ} {st : Stmt} {c : Call} {is es : List ℕ} (j : ℕ) → es ≡ is ++ j ∷ [] → CallFound k st c is → CallFound k st c es
  widen {is = is} j q r = record { number = r.number; there = subst (λ (z : List ℕ). In r.number z) (sym q) (in_left r.number is (j ∷ []) r.there); all = r.all; at = r.at; priority = r.priority; as_call = r.as_call; cells_in = r.cells_in }

  -- the entry of a statement's call
  pub find_call : {k : ℕ} {st : Stmt} {es : List ℕ} (c : Call) → StmtAs C l k st es → c ∈ stmt_calls st → CallFound k st c es
  find_call c declares h = elim h [ ]
  find_call c (calls_alone {at = at} {n = n} {p = p} {ps = ps} {c = d} as') h = find_part (stmt at n (Co.call_alone p ps d)) c as' (among_calls _ h) (cells_of at n (Co.call_alone p ps d) _ (λ x m. m))
  find_call c (simple {at = at} {n = n} j {a = a} z op as' e nd q) h =
      widen j q (find_part (stmt at n a) c as' (simple_calls a z c (among_calls (parts a) h)) (cells_of at n a _ (λ x m. part_of_stmt a m)))
  find_call c (branch {at = at} {n = n} j {c = o} {b = b} as' e mk ba q) h = widen j q (find_part (stmt at n (when o b)) c as' (among_calls _ h) (cells_of at n (when o b) _ (λ x m. m)))
  find_call c (branches {at = at} {n = n} j {c = o} {b = b} {d = d} as' e mk ba bb q) h = widen j q (find_part (stmt at n (choose o b d)) c as' (among_calls _ h) (cells_of at n (choose o b d) _ (λ x m. m)))
  find_call c (range_loop {at = at} {n = n} {x = x} j {lo = lo} {hi = hi} {st = st} {y = y} {b = b} as' e mk ba q) h = widen j q (find_part (stmt at n (range lo hi st x y b)) c as' (among_calls _ h) (cells_of at n (range lo hi st x y b) _ (λ x m. m)))
  find_call c (array_loop j e mk ba q) h = elim h [ ]
  find_call c (waits j wa e q) h = elim h [ ]

-- CHUNKS

split_taken : {X : Type 0} (n : ℕ) (xs : List X) (x : X) → In x xs → In x (take n xs) ⊎ In x (drop n xs)
split_taken n [] x h = absurd h
split_taken zero (y ∷ xs) x h = inr h
split_taken (suc n) (y ∷ xs) x (inl e) = inl (inl e)
split_taken (suc n) (y ∷ xs) x (inr h) = elim (split_taken n xs x h) [ inl m ↦ inl (inr m) | inr m ↦ inr m ]

drop_shorter : {X : Type 0} (n : ℕ) (xs : List X) → length (drop n xs) ≤ length xs
drop_shorter zero xs = omega arith
drop_shorter (suc n) [] = omega arith
drop_shorter (suc n) (x ∷ xs) = let h = drop_shorter n xs in omega arith

drop_some : {X : Type 0} (m : ℕ) (x : X) (xs : List X) → length (drop (suc m) (x ∷ xs)) ≤ length xs
drop_some m x xs = drop_shorter m xs

pub in_some_chunk : {X : Type 0} (fuel : ℕ) (xs : List X) (x : X) → length xs ≤ fuel → In x xs → (c : ℕ) × In x (chunk c xs)
in_some_chunk fuel [] x h i = absurd i
in_some_chunk zero (y ∷ xs) x h i = absurd (omega arith)
in_some_chunk (suc fuel) (y ∷ xs) x h i =
    elim (split_taken chunk_size (y ∷ xs) x i) [
      | inl m ↦ (0, m)
      | inr m ↦ (let r = in_some_chunk fuel (drop chunk_size (y ∷ xs)) x (let z = drop_some 63 y xs in omega arith) m in (suc r.0, r.1))
    ]

pub some_of : {X : Type 0} (xs : List X) (x : X) → In x xs → is_some_list xs ≡ true
some_of [] x h = absurd h
some_of (y ∷ xs) x h = refl

pub none_taken : {X : Type 0} (n : ℕ) (xs : List X) (x : X) → In x (take n xs) → In x xs
none_taken zero xs x h = absurd h
none_taken (suc n) [] x h = absurd h
none_taken (suc n) (y ∷ xs) x h = elim h [ inl e ↦ inl e | inr m ↦ inr (none_taken n xs x m) ]

pub left_before : {X : Type 0} (c : ℕ) (xs : List X) → is_some_list (left_at c (drop chunk_size xs)) ≡ true → is_some_list (left_at c xs) ≡ true
left_before zero [] h = h
left_before zero (x ∷ xs) h = refl
left_before (suc c) xs h = left_before c (drop chunk_size xs) h

list_head : {X : Type 0} {x y : X} {xs ys : List X} → ◌≡◌ {A = List X} (x ∷ xs) (y ∷ ys) → x ≡ y
list_head h = cc

-- the key and the block of a branch
abbrev pub branch_key : Bool → Key
branch_key true = Key.Number (pos 0)
branch_key false = Key.Number (pos 1)

abbrev pub taken : Bool → Block → Block → Block
taken true b d = b
taken false b d = d

pub some_bounds : {x y : Bounds} → Some x ≡ Some y → x ≡ y
some_bounds h = cc

pub two_numbers : (l h : Value) (r : Bounds) → bounds (l ∷ h ∷ []) ≡ Some r → (l ≡ One (Number r.low)) × (h ≡ One (Number r.high)) × (r.step ≡ pos 1)
two_numbers (One (Number a)) (One (Number b)) r e = let q = some_bounds e in (ap (λ (z : Bounds). One (Number z.low)) q, ap (λ (z : Bounds). One (Number z.high)) q, sym (ap (λ (z : Bounds). z.step) q))
two_numbers (One (Number a)) (One (Text b)) r e = absurd (cc (e))
two_numbers (One (Number a)) (One (Truth b)) r e = absurd (cc (e))
two_numbers (One (Number a)) (Many b) r e = absurd (cc (e))
two_numbers (One (Text a)) h r e = absurd (cc (e))
two_numbers (One (Truth a)) h r e = absurd (cc (e))
two_numbers (Many a) h r e = absurd (cc (e))

pub three_numbers : (l h d : Value) (r : Bounds) → bounds (l ∷ h ∷ d ∷ []) ≡ Some r → (l ≡ One (Number r.low)) × (h ≡ One (Number r.high)) × (d ≡ One (Number r.step))
three_numbers (One (Number a)) (One (Number b)) (One (Number d)) r e = let q = some_bounds e in (ap (λ (z : Bounds). One (Number z.low)) q, ap (λ (z : Bounds). One (Number z.high)) q, ap (λ (z : Bounds). One (Number z.step)) q)
three_numbers (One (Number a)) (One (Number b)) (One (Text d)) r e = absurd (cc (e))
three_numbers (One (Number a)) (One (Number b)) (One (Truth d)) r e = absurd (cc (e))
three_numbers (One (Number a)) (One (Number b)) (Many d) r e = absurd (cc (e))
three_numbers (One (Number a)) (One (Text b)) d r e = absurd (cc (e))
three_numbers (One (Number a)) (One (Truth b)) d r e = absurd (cc (e))
three_numbers (One (Number a)) (Many b) d r e = absurd (cc (e))
three_numbers (One (Text a)) h d r e = absurd (cc (e))
three_numbers (One (Truth a)) h d r e = absurd (cc (e))
three_numbers (Many a) h d r e = absurd (cc (e))

pub outer_among : (os : List Outer) (o : Outer) → o ∈ os → Co.inner o.cell ∈ outer_parts os
outer_among [] o h = elim h [ ]
outer_among (x ∷ os) o first = to_right o.parts _ first
outer_among (x ∷ os) o (later h) = to_right x.parts _ (later (outer_among os o h))

-- the turn of a place
pub turn_there : (low step : ℤ) (m n i : ℕ) → m ≤ i → i < m + n → In (Key.Number (pos i), Number (value_in low step i)) (range_turns low step m n)
turn_there low step m zero i a b = absurd (omega arith)
turn_there low step m (suc n) i a b =
    elim (cases_eq i m) [
      | inl e ↦ inl (ap (λ (z : ℕ). (Key.Number (pos z), Number (value_in low step z))) e)
      | inr ne ↦ inr (turn_there low step (suc m) n i (later_place m i a ne) (omega arith))
    ]
  where
    later_place : (m i : ℕ) → m ≤ i → (i ≡ m → ⊥) → suc m ≤ i
    later_place m i a ne = grind arith

module _ (s : Core) (C : Code) (w : IsCodeOf s C) (K : Knowledge) (wf : WellFormed s) (kn : Backs s K) (I : IsCode C) (sc : Scoped s) where
  abbrev Chained : List Step → ℕ → ℕ → Block → Type 0
  Chained p t k b = Chain s C w.layout K p t k b

  module _ {p : List Step} {t k : ℕ} {b : Block} (ch : Chained p t k b) (j : ℕ) (there : In j (body C t).entries) where
    pub needs_answered : (es : List Expr) → (entry C j).needs ≡ each_once (flat_map (wanted k) es) → ((e : Expr) → e ∈ es → (n : Need) → In n (wanted k e) → (y : Got) × Ans s C K p n y) → (n : Need) → In n (entry C j).needs → (y : Got) × Ans s C K p n y
    needs_answered es q f n h = among es f (once_in n _ (subst (λ (l : List Need). In n l) q h))
      where
        among : (es : List Expr) → ((e : Expr) → e ∈ es → (n : Need) → In n (wanted k e) → (y : Got) × Ans s C K p n y) → In n (flat_map (wanted k) es) → (y : Got) × Ans s C K p n y
        among [] f h = absurd h
        among (e ∷ es) f h = elim (in_split n (wanted k e) (flat_map (wanted k) es) h) [ inl i ↦ f e first n i | inr i ↦ among es (λ e m. f e (later m)) i ]

    pub wanted_in : (es : List Expr) (e : Expr) → e ∈ es → (n : Need) → In n (wanted k e) → In n (each_once (flat_map (wanted k) es))
    wanted_in es e m n h = in_once n _ (among es m)
      where
        among : (es : List Expr) → e ∈ es → In n (flat_map (wanted k) es)
        among [] m = elim m [ ]
        among (x ∷ es) first = in_left n (wanted k x) _ h
        among (x ∷ es) (later m) = in_right n (wanted k x) _ (among es m)

    -- the cell of a header, as it is seen, and that it names what is in scope
    pub cell_seen : {at n : ℕ} {a : Action} (o : Cell) {u : Scalar} → stmt at n a ∈ block_list b → o ∈ cells (stmt at n a) → K (value (script_path p, o.node) (One u)) → ValueUnder s K (script_path p) (seen w.layout o) (Ok (One u)) × AreIn k (seen w.layout o)
    cell_seen {at} {n} {a} o m cm kv = (
      seen_value s C w K wf kn I sc o (in_block (chain_live s C w.layout K wf.names I sc ch) m) cm kv,
      seen_scoped k w.layout o ((sc.statements k b (stmt at n a) (chain_scope s C w.layout K wf.names I sc ch) m).in_cells o cm),
    )

    -- the answers to an item's inputs, and what it works out by them
    pub record Works (x : Computed) : Type 0 where
      pub answers : Known s C w K wf kn I sc ch j there
      pub computed : compute (entry C j).act (answered C p (entry C j).needs answers.answers) ≡ x

    -- a condition takes its branch
    pub branch_works : {at n : ℕ} {a : Action} (o : Outer) (d : Bool) {t' : ℕ} {u' : Option ℕ} → stmt at n a ∈ block_list b → o.cell ∈ cells (stmt at n a) → K (value (script_path p, o.cell.node) (One (Truth d)))
        → IsEntry (entry C j) at (pos 0) (each_once (flat_map (wanted k) (seen w.layout o.cell ∷ []))) (If (over k (each_once (flat_map (wanted k) (seen w.layout o.cell ∷ []))) (seen w.layout o.cell)) t' u') → Works (Takes d)
    branch_works o d m cm kv en =
        let vu = cell_seen o.cell m cm kv in
        let es = seen w.layout o.cell ∷ [] in
        let z = known s C w K wf kn I sc ch j there (needs_answered es en.needs_is (λ e i. elim (split_in i) [ inl q ↦ (λ n h. has_answers s C w K wf kn I sc ch j there vu.0 vu.1 (λ n h. subst (λ (l : List Need). In n l) (sym en.needs_is) (wanted_in es (seen w.layout o.cell) first n h)) n (subst (λ (x : Expr). In n (wanted k x)) q h)) | inr i ↦ elim i [ ] ])) in
        let ev = computes_so s C w K wf kn I sc ch j there z vu.0 vu.1 (each_once (flat_map (wanted k) es)) en.needs_is (λ n h. wanted_in es (seen w.layout o.cell) first n h) in
        record { answers = z; computed = ap (λ (a : Act). compute a (answered C p (entry C j).needs z.answers)) en.act_is ∙ ap branched ev }

    pub branch_takes : {at n : ℕ} {a : Action} (o : Outer) (d : Bool) {t' : ℕ} {u' : Option ℕ} → stmt at n a ∈ block_list b → o.cell ∈ cells (stmt at n a) → K (value (script_path p, o.cell.node) (One (Truth d)))
        → IsEntry (entry C j) at (pos 0) (each_once (flat_map (wanted k) (seen w.layout o.cell ∷ []))) (If (over k (each_once (flat_map (wanted k) (seen w.layout o.cell ∷ []))) (seen w.layout o.cell)) t' u')
        → length (script_path p) < max_path_steps → Reading (code_system C) (Answers s K) (Item j p 0) (effect_at C j p 0 (Takes d))
    branch_takes o d m cm kv en dp = (let z = branch_works o d m cm kv en in fact_of s C w K wf kn I sc ch j there z.answers 0 (Takes d) z.computed tt (not_too_deep _ p _ dp))

    pub condition_value : {a : Action} {o : Cell} {vs : List Value} {v : Value} → Ready s K (script_path p) a vs → outer_cells a ≡ o ∷ [] → vs ≡ v ∷ [] → ((ns : List Awaited) (c : Block) → a ≡ wait ns c → ⊥) → ((x : Name) (y : ℕ) (z : Option ℕ) (c : Block) → a ≡ each x y z c → ⊥) → K (value (script_path p, o.node) v)
    condition_value (cells_known ks d) q r f g = by ks q r
      where
        by : {cs : List Cell} {us : List Value} {o : Cell} {v : Value} → KnownAll K (script_path p) cs us → cs ≡ o ∷ [] → us ≡ v ∷ [] → K (value (script_path p, o.node) v)
        by no_cell q r = absurd (cc (q))
        by {o = o} {v = v} (next_cell {c = c} {v = u} kv more) q r =
            subst (λ (z : Value). K (value (script_path p, o.node) z)) (list_head r) (subst (λ (z : Cell). K (value (script_path p, z.node) u)) (list_head q) kv)
    condition_value (source_closed c es) q r f g = absurd (g _ _ _ _ refl)
    condition_value (names_known h) q r f g = absurd (f _ _ refl)

  -- WAITS
  pub ready_names : {path : Path} {a : Action} {vs : List Value} → Ready s K path a vs → (ns : List Awaited) (c : Block) → a ≡ wait ns c → (x : Awaited) → x ∈ ns → Come s K path x
  ready_names (cells_known ks d) ns c q x i = absurd (no_decision d q)
    where
      no_decision : {a : Action} {vs : List Value} → Decides a vs → a ≡ wait ns c → ⊥
      no_decision one_way q = cc
      no_decision two_ways q = cc
      no_decision (in_turns e g) q = cc
  ready_names (source_closed c' es) ns c q x i = absurd (cc (q))
  ready_names {path} (names_known {ns = ms} h) ns c q x i = h x (subst (λ (l : List Awaited). x ∈ l) (sym (wait_names q)) i)
    where
      wait_names : {xs ys : List Awaited} {d e : Block} → wait xs d ≡ wait ys e → xs ≡ ys
      wait_names h = cc

  pub come_answer : {p : List Step} {t k : ℕ} {b : Block} (ch : Chained p t k b) (j : ℕ) → In j (body C t).entries → (x : Awaited) → AwaitedIn k x → In (awaited_need k x) (entry C j).needs → Come s K (script_path p) x → (y : Got) × Ans s C K p (awaited_need k x) y
  come_answer ch j there (Co.scalar x) g m (scalar_known {v = v} h) = (Found v, (v, to_code s wf K kn C w.layout (name_stands s wf K kn C w.layout I sc ch j there false x _ g m (inl refl)) v h, refl))
  come_answer ch j there (Co.array x) g m (array_closed h) =
      let e = kn.listed _ h in
      (Content (pairs e.0), gives_all s wf K (same_array s wf K (name_stands s wf K kn C w.layout I sc ch j there true x _ g m (inl refl)) refl) h e.1)

  pub awaited_of : (k : ℕ) (ns : List Awaited) (n : Need) → In n (map (awaited_need k) ns) → (x : Awaited) × (x ∈ ns) × (n ≡ awaited_need k x)
  awaited_of k [] n h = absurd h
  awaited_of k (x ∷ ns) n (inl e) = (x, first, e)
  awaited_of k (x ∷ ns) n (inr h) = let r = awaited_of k ns n h in (r.0, later r.1, r.2)

  pub ready_source : {path : Path} {a : Name} {x : ℕ} {y : Option ℕ} {d : Block} {es : List Element} → Ready s K path (each a x y d) (Many es ∷ []) → Mn.Closed s K (place s path a) × Elements_ K (place s path a) es
  ready_source (cells_known ks d) = elim d [ ]
  ready_source (source_closed c el) = (c, el)

  -- what a loop over an array works out: all elements, in their order
  pub record EachTurns {p : List Step} {t k : ℕ} {b : Block} (ch : Chained p t k b) (j : ℕ) (there : In j (body C t).entries) (es : List Element) : Type 0 where
    pub answers : Known s C w K wf kn I sc ch j there
    pub turns : Elements
    pub computed : compute (entry C j).act (answered C p (entry C j).needs answers.answers) ≡ Turns turns
    pub all : elements turns ≡ es

  pub each_turns : {p : List Step} {t k : ℕ} {b : Block} (ch : Chained p t k b) (j : ℕ) (there : In j (body C t).entries) {at x t' : ℕ} {a : Name} {y : Option ℕ} {d : Block} {es : List Element}
      → IsIn k a → IsEntry (entry C j) at (pos 0) (own_needs w.layout k (each a x y d)) (code.Each (record { body = t'; value = x; turn = y })) → Ready s K (script_path p) (each a x y d) (Many es ∷ []) → EachTurns ch j there es
  each_turns {p} {t} {k} {b} ch j there {at} {x} {t'} {a} {y} {d} {es} g en r = by (answered C p (entry C j).needs z.answers) refl (subst (λ (l : List Need). AnsAll s C K p l (answered C p (entry C j).needs z.answers)) en.needs_is z.says)
    where
      src : Mn.Closed s K (place s (script_path p) a) × Elements_ K (place s (script_path p) a) es
      src = ready_source r

      need_in : In (code.Closed (name_as k true a)) (entry C j).needs
      need_in = subst (λ (l : List Need). In (code.Closed (name_as k true a)) l) (sym en.needs_is) (inl refl)

      is_same : IsSame s wf K (place_at C p (name_as k true a)) (place s (script_path p) a)
      is_same = same_array s wf K (name_stands s wf K kn C w.layout I sc ch j there true a _ g need_in (inl refl)) refl

      z : Known s C w K wf kn I sc ch j there
      z = known s C w K wf kn I sc ch j there (λ n' h. elim (subst (λ (l : List Need). In n' l) en.needs_is h) [ inl e ↦ subst (λ (u : Need). (y : Got) × Ans s C K p u y) (sym e) (Content (pairs es), gives_all s wf K is_same src.0 src.1) | inr u ↦ absurd u ])

      by : (ys : List Got) → answered C p (entry C j).needs z.answers ≡ ys → AnsAll s C K p (code.Closed (name_as k true a) ∷ []) ys → EachTurns ch j there es
      by [] e al = absurd al
      by (y' ∷ ys) e al =
          let o = all_in_order s wf K is_same src.0 src.1 al.0 in
          let order : (if in_key_order o.0 then o.0 else []) ≡ o.0 = ap (λ (c : Bool). if c then o.0 else []) o.3 in
          let comp : compute (entry C j).act (answered C p (entry C j).needs z.answers) ≡ Turns o.0 =
          ap (λ (act : Act). compute act (answered C p (entry C j).needs z.answers)) en.act_is ∙ ap (λ (l : List Got). Turns (content (answer_at l 0))) e ∙ ap (λ (u : Got). Turns (content (Some u))) o.1 ∙ ap Turns order in
          record { answers = z; turns = o.0; computed = comp; all = o.2 }

  pub ready_cells : {path : Path} {lo hi : Outer} {st : Option Outer} {x : ℕ} {y : Option ℕ} {d : Block} {vs : List Value} → Ready s K path (range lo hi st x y d) vs → KnownAll K path (outer_cells (range lo hi st x y d)) vs
  ready_cells (cells_known ks d) = ks

  pub known_two : {path : Path} {c d : Cell} {vs : List Value} → KnownAll K path (c ∷ d ∷ []) vs → (u : Value) × (v : Value) × (vs ≡ u ∷ v ∷ []) × K (value (path, c.node) u) × K (value (path, d.node) v)
  known_two (next_cell {v = u} a (next_cell {v = v} b no_cell)) = (u, v, refl, a, b)

  pub known_three : {path : Path} {c d e : Cell} {vs : List Value} → KnownAll K path (c ∷ d ∷ e ∷ []) vs → (u : Value) × (v : Value) × (x : Value) × (vs ≡ u ∷ v ∷ x ∷ []) × K (value (path, c.node) u) × K (value (path, d.node) v) × K (value (path, e.node) x)
  known_three (next_cell {v = u} a (next_cell {v = v} b (next_cell {v = x} c no_cell))) = (u, v, x, refl, a, b, c)

  -- the bounds of a range, as they are seen
  pub record RangeSeen (path : Path) (k : ℕ) (lo hi : Cell) (st : Option Outer) (r : Bounds) : Type 0 where
    pub low : ValueUnder s K path (seen w.layout lo) (Ok (One (Number r.low)))
    pub low_in : AreIn k (seen w.layout lo)
    pub high : ValueUnder s K path (seen w.layout hi) (Ok (One (Number r.high)))
    pub high_in : AreIn k (seen w.layout hi)
    pub step : ValueUnder s K path (step_expr w.layout k st) (Ok (One (Number r.step)))
    pub step_in : AreIn k (step_expr w.layout k st)

  pub range_seen : {p : List Step} {t k : ℕ} {b : Block} (ch : Chained p t k b) (j : ℕ) (there : In j (body C t).entries) {at n x : ℕ} {lo hi : Outer} (st : Option Outer) {y : Option ℕ} {d : Block} {vs : List Value} {rr : Bounds} → stmt at n (range lo hi st x y d) ∈ block_list b
      → KnownAll K (script_path p) (outer_cells (range lo hi st x y d)) vs → bounds vs ≡ Some rr → RangeSeen (script_path p) k lo.cell hi.cell st rr
  range_seen {p} ch j there {lo = lo} {hi = hi} None {rr = rr} m ka bq =
      let kk = known_two ka in
      let nn = two_numbers kk.0 kk.1 rr (ap bounds (sym kk.2) ∙ bq) in
      let vl = cell_seen ch j there lo.cell m (cell_among _ (outer_among (lo ∷ hi ∷ []) lo first)) (subst (λ (u : Value). K (value (script_path p, lo.cell.node) u)) nn.0 kk.3) in
      let vh = cell_seen ch j there hi.cell m (cell_among _ (outer_among (lo ∷ hi ∷ []) hi (later first))) (subst (λ (u : Value). K (value (script_path p, hi.cell.node) u)) nn.1 kk.4) in
      record { low = vl.0; low_in = vl.1; high = vh.0; high_in = vh.1; step = subst (λ (u : ℤ). ValueUnder s K (script_path p) (Co.literal (Number (pos 1))) (Ok (One (Number u)))) (sym nn.2) Mn.of_literal; step_in = tt }
  range_seen {p} ch j there {lo = lo} {hi = hi} (Some o) {rr = rr} m ka bq =
      let kk = known_three ka in
      let nn = three_numbers kk.0 kk.1 kk.2 rr (ap bounds (sym kk.3) ∙ bq) in
      let vl = cell_seen ch j there lo.cell m (cell_among _ (outer_among (lo ∷ hi ∷ o ∷ []) lo first)) (subst (λ (u : Value). K (value (script_path p, lo.cell.node) u)) nn.0 kk.4) in
      let vh = cell_seen ch j there hi.cell m (cell_among _ (outer_among (lo ∷ hi ∷ o ∷ []) hi (later first))) (subst (λ (u : Value). K (value (script_path p, hi.cell.node) u)) nn.1 kk.5) in
      let vo = cell_seen ch j there o.cell m (cell_among _ (outer_among (lo ∷ hi ∷ o ∷ []) o (later (later first)))) (subst (λ (u : Value). K (value (script_path p, o.cell.node) u)) nn.2 kk.6) in
      record { low = vl.0; low_in = vl.1; high = vh.0; high_in = vh.1; step = vo.0; step_in = vo.1 }

  -- what a range works out, once its bounds are known
  module _ {p : List Step} {t k : ℕ} {b : Block} (ch : Chained p t k b) (j : ℕ) (there : In j (body C t).entries) {at x t' : ℕ} (lo hi : Outer) (st : Option Outer) {y : Option ℕ} (d : Block) (ms : List Need) (mq : own_needs w.layout k (range lo hi st x y d) ≡ ms)
      (en : IsEntry (entry C j) at (pos 0) ms (code.Range (over k ms (seen w.layout lo.cell)) (over k ms (seen w.layout hi.cell)) (over k ms (step_expr w.layout k st)) (record { body = t'; value = x; turn = y }))) where
    pub range_works : {rr : Bounds} → RangeSeen (script_path p) k lo.cell hi.cell st rr → Works ch j there (turns_or (range_count rr.low rr.high rr.step) rr.low rr.step)
    range_works {rr} v =
        let es = seen w.layout lo.cell ∷ seen w.layout hi.cell ∷ step_expr w.layout k st ∷ [] in
        let nq : (entry C j).needs ≡ each_once (flat_map (wanted k) es) = en.needs_is ∙ sym mq in
        let sub : (e : Expr) → e ∈ es → (n : Need) → In n (wanted k e) → In n (entry C j).needs = λ e i n h. subst (λ (l : List Need). In n l) (sym nq) (wanted_in ch j there es e i n h) in
        let z = known s C w K wf kn I sc ch j there (needs_answered ch j there es nq (λ e i. elim (split_in i) [
          | inl q ↦ (λ n h. has_answers s C w K wf kn I sc ch j there v.low v.low_in (sub _ first) n (subst (λ (u : Expr). In n (wanted k u)) q h))
          | inr i ↦ elim (split_in i) [
            | inl q ↦ (λ n h. has_answers s C w K wf kn I sc ch j there v.high v.high_in (sub _ (later first)) n (subst (λ (u : Expr). In n (wanted k u)) q h))
            | inr i ↦ elim (split_in i) [
              | inl q ↦ (λ n h. has_answers s C w K wf kn I sc ch j there v.step v.step_in (sub _ (later (later first))) n (subst (λ (u : Expr). In n (wanted k u)) q h))
              | inr i ↦ elim i [ ]
            ]
          ]
        ])) in
        let into : (e : Expr) → e ∈ es → (n : Need) → In n (wanted k e) → In n ms = λ e i n h. subst (λ (l : List Need). In n l) mq (wanted_in ch j there es e i n h) in
        let el = computes_so s C w K wf kn I sc ch j there z v.low v.low_in ms en.needs_is (into _ first) in
        let eh = computes_so s C w K wf kn I sc ch j there z v.high v.high_in ms en.needs_is (into _ (later first)) in
        let e3 = computes_so s C w K wf kn I sc ch j there z v.step v.step_in ms en.needs_is (into _ (later (later first))) in
        record { answers = z; computed = ap (λ (act : Act). compute act (answered C p (entry C j).needs z.answers)) en.act_is ∙ (λ i. ranged (el i) (eh i) (e3 i)) }

  -- a turn of a loop
  abbrev pub IsLoop : Action → Type 0
  IsLoop (range lo hi st x y d) = Unit {0}
  IsLoop (each a x y d) = Unit {0}
  IsLoop _ = ⊥

  pub only_stmt : {b : Block} {st inner : Stmt} → st ∈ block_list b → b ≡ stmts inner no_stmts → st ≡ inner
  only_stmt {st = st} h q = elim (split_in (subst (λ (z : Block). st ∈ block_list z) q h)) [ inl e ↦ e | inr z ↦ elim z [ ] ]

  pub opens_no_wait : {k t' at n : ℕ} {gs : List Header} {a : Action} {vs : List Value} {key : Key} {c : Block} → WaitAs C w.layout k (stmt at n a) gs t' → Opens a vs key c → ⊥
  opens_no_wait (one_wait ba q) o = elim o [ ]
  opens_no_wait (merged wa q) o = elim o [ ]

  pub calls_no_wait : {k t' : ℕ} {gs : List Header} {st : Stmt} {c : Call} → WaitAs C w.layout k st gs t' → c ∈ stmt_calls st → ⊥
  calls_no_wait (one_wait ba q) m = elim m [ ]
  calls_no_wait (merged wa q) m = elim m [ ]

  pub found_body : {k t : ℕ} {b : Block} {st : Stmt} → BodyAs C w.layout k b t → st ∈ block_list b → StmtFound C w.layout k st (body C t).entries
  found_body (body_as bl mk) m = find_stmt C w.layout bl m

-- a simple statement opens no branch
pub no_simple : (a : Action) → IsSimple a → Branches a → ⊥
no_simple (Co.assign x o) z h = h
no_simple (Co.fill x o) z h = h
no_simple (Co.insert x i o) z h = h
no_simple (Co.print x o) z h = h
no_simple (Co.assert x o) z h = h
no_simple (Co.declare v) z h = z
no_simple (Co.call_alone x y o) z h = z
no_simple (when o d) z h = z
no_simple (choose o d e) z h = z
no_simple (range o d e f g i) z h = z
no_simple (each o d e f) z h = z
no_simple (wait o d) z h = z
