-- Code that is laid for a core whose nodes stand once is a table of it.
use Rattle.std.proofs.Common.{◌≡◌, ◌⊎◌, inl, inr, ℕ, zero, suc, ◌+◌, ◌≤◌, ◌<◌, Bool, true, false, List, [], ◌∷◌, ◌++◌, map, length, refl, sym, ap, ◌∙◌, subst, arith, Option, Some, append-nil}
use Rattle.std.specs.Prelude.{slice_get}
use Rattle.std.specs.List.{flat_map}
use Rattle.dataflow.specs.System.{In, Distinct}
use Rattle.language.specs.Core.{Cell, Stmt, stmt, Action, declare, Block, Function, Core}
use Rattle.language.specs.Members.{◌∈◌, first, later}
use Rattle.language.specs.Parts.{parts, part_cells, cells, block_list, blocks_of, function_blocks, script_blocks, script_stmts, stmt_action}
use Rattle.language.proofs.Blocks.{among_script}
use Rattle.language.proofs.Members.{either, split_in, to_left, to_right}
use Rattle.language_laws.specs.Scoped.{InScope, of_script, of_function}
use Rattle.language_laws.specs.TypedValues.{own_parts}
use Rattle.task_code.specs.Code as code
use Rattle.task_code.specs.Code.{Variable, Argument, Entry, Opener, Body, Code, ByMain, ByCalls, ByStep, ByWait, entry, body, blank_entry, blank_body, nth}
use Rattle.code_rules.specs.IsCodeOf.{Layout}
use Rattle.code_rules.specs.Emitted.{ReadsStand}
use Rattle.code_rules.specs.Laid.{StmtsLaid, BodyLaid, IsLaid}
use Rattle.code_rules.specs.Laying.{Kinds, Laying, bare, Suits, counted, IsCallOf, LaysScript, LaysFunctions, no_function, one_function}
use Rattle.code_laws.proofs.Counts.{total, total-append, total_member, hit, count, in_count, count_in, in_member, member_in, count_distinct}
use Rattle.code_laws.proofs.Adding.{nth_left, nth_right, nth_beyond}
use Rattle.code_laws.proofs.Layouts.{look, look_found, look_none, numbers, number_there, all_plains, all_count, cell_count, layout_of, layout_suits}
use Rattle.code_laws.proofs.Nodes.{declared_count, cells_count, other_count, own_count, NodesApart, cells_once, nodes_of}
use Rattle.code_laws.proofs.Rows.{Row, row, blank_row, length-map, block_rows, block_bodies, inner_rows, function_rows, function_count, first_rows, later_rows, all_rows, all_bodies, first_count}
use Rattle.code_laws.proofs.Numbering.{counted_below, counted_few, counted_has, row_count, all_numbered}
use Rattle.code_laws.proofs.Made.{made_count, all_made, all_listed}
use Rattle.code_laws.proofs.Moves.{Has, has_less}
use Rattle.code_laws.proofs.Tables.{nth-map, functions_grow, Sits, sits_left, sits_right, table_of, row_stands}
use Rattle.code_laws.proofs.Placed.{AllGood, all_both, all_one, sits_block, one_good, block_good}
use Rattle.code_laws.proofs.Origins.{Origin, is_declared, is_cell, is_other, AllOrigin, IsInner, AllInner, inner_both, block_origin, functions_origin}
use Rattle.code_laws.proofs.Fits.{all_fit}
use Rattle.std.proofs.lemmas.List.{length-append}

-- PLACES IN LISTS

pub nth_in : {X : Type 0} (d : X) (xs : List X) (i : ℕ) → i < length xs → nth d xs i ∈ xs
nth_in d [] i h = absurd (omega arith)
nth_in d (x ∷ xs) zero h = first
nth_in d (x ∷ xs) (suc i) h = later (nth_in d xs i (omega arith))

module _ {X : Type 0} (w : X → ℕ) (d : X) (nothing : w d ≡ 0) where
  -- what is at a place counts
  at_place : (xs : List X) (t : ℕ) → w (nth d xs t) ≤ total w xs
  at_place [] t = omega arith
  at_place (x ∷ xs) zero = omega arith
  at_place (x ∷ xs) (suc t) = let a = at_place xs t in omega arith

  -- where all comes to one, it is at one place
  one_place : (xs : List X) (t u : ℕ) → total w xs ≤ 1 → 1 ≤ w (nth d xs t) → 1 ≤ w (nth d xs u) → t ≡ u
  one_place [] t u h a b = absurd (omega arith)
  one_place (x ∷ xs) zero zero h a b = refl
  one_place (x ∷ xs) zero (suc u) h a b = let z = at_place xs u in absurd (omega arith)
  one_place (x ∷ xs) (suc t) zero h a b = let z = at_place xs t in absurd (omega arith)
  one_place (x ∷ xs) (suc t) (suc u) h a b = ap suc (one_place xs t u (omega arith) a b)

  -- and it is somewhere
  some_place : (xs : List X) → 1 ≤ total w xs → (t : ℕ) × (1 ≤ w (nth d xs t))
  some_place [] h = absurd (omega arith)
  some_place (x ∷ xs) h = by (w x) refl (λ l. some_place xs l)
    where
      by : (m : ℕ) → w x ≡ m → (1 ≤ total w xs → (t : ℕ) × (1 ≤ w (nth d xs t))) → (t : ℕ) × (1 ≤ w (nth d (x ∷ xs) t))
      by zero e rec = (let r = rec (omega arith) in (suc r.0, r.1))
      by (suc m) e rec = (zero, omega arith)

node_in : (v : Variable) (vs : List Variable) → In v vs → v.node ∈ nodes_of vs
node_in v [] h = absurd h
node_in v (x ∷ vs) (inl e) = subst (λ (z : Variable). v.node ∈ (z.node ∷ nodes_of vs)) e first
node_in v (x ∷ vs) (inr h) = later (node_in v vs h)

variables_distinct : (vs : List Variable) → ((n : ℕ) → count n (nodes_of vs) ≤ 1) → Distinct vs
variables_distinct [] h = tt
variables_distinct (v ∷ vs) h =
    (λ i. (let a = in_count (node_in v vs i) in let b = h v.node in let z = in_count {n = v.node} {xs = v.node ∷ []} first in absurd (omega arith)), variables_distinct vs (λ n. (let b = h n in omega arith)))

found : {X : Type 0} (xs : List X) (i : ℕ) → i < length xs → (x : X) × (slice_get xs i ≡ Some x)
found [] i h = absurd (omega arith)
found (x ∷ xs) zero h = (x, refl)
found (x ∷ xs) (suc i) h = found xs i (omega arith)

-- COUNTS OF NODES

parts_of_count : (n : ℕ) (sts : List Stmt) → total (own_count n) sts ≡ total (declared_count n) sts + (total (cells_count n) sts + total (other_count n) sts)
parts_of_count n [] = refl
parts_of_count n (stmt at m a ∷ sts) = let x = parts_of_count n sts in omega arith

cells_total : (n : ℕ) (sts : List Stmt) → cell_count n (flat_map cells sts) ≡ total (cells_count n) sts
cells_total n [] = refl
cells_total n (stmt at m a ∷ sts) =
    let x = cells_total n sts in
    let z = total-append (hit n) (map (λ (c : Cell). c.node) (part_cells (parts a))) (map (λ (c : Cell). c.node) (flat_map cells sts)) in
    let v : cell_count n (part_cells (parts a) ++ flat_map cells sts) ≡ count n (map (λ (c : Cell). c.node) (part_cells (parts a)) ++ map (λ (c : Cell). c.node) (flat_map cells sts)) = ap (count n) (cells-append (part_cells (parts a)) (flat_map cells sts)) in
    omega arith
  where
    cells-append : (cs ds : List Cell) → map (λ (c : Cell). c.node) (cs ++ ds) ≡ map (λ (c : Cell). c.node) cs ++ map (λ (c : Cell). c.node) ds
    cells-append [] ds = refl
    cells-append (c ∷ cs) ds = ap (λ zs. c.node ∷ zs) (cells-append cs ds)

-- ROWS OF FUNCTIONS

module _ (fs : List Kinds) (roots : ℕ) where
  abbrev IsFunctionRow : Row → Function → Type 0
  IsFunctionRow r f = (vs : List Variable) × (js : List ℕ) × (r ≡ row f.inputs f.body [] ByCalls vs js)

  function_row : {gs : List Function} {ds : List (ℕ × Bool)} {s t : Laying} {bs : List Body} (x : LaysFunctions fs roots gs ds s t bs) (i : ℕ) (f : Function) → slice_get gs i ≡ Some f → (i < length gs) × IsFunctionRow (nth blank_row (function_rows fs roots x) i) f
  function_row no_function zero f e = absurd (cc (e))
  function_row no_function (suc i) f e = absurd (cc (e))
  function_row (one_function {f = g} {gs = gs} {js = js} {vs = vs} x xs de be) zero f e = (omega arith, (vs, js, ap (λ (z : Function). row z.inputs z.body [] ByCalls vs js) (some_same e)))
    where
      some_same : {A : Type 0} {a b : A} → ◌≡◌ {A = Option A} (Some a) (Some b) → a ≡ b
      some_same h = cc
  function_row (one_function x xs de be) (suc i) f e = let r = function_row xs i f e in let z = r.0 in (omega arith, r.1)

module _ {c : Core} {fs : List Kinds} {ds : List (ℕ × Bool)} {C : Code} (L : LaysScript c fs ds C) (apart : NodesApart c) (reads : ReadsStand c) where
  abbrev roots : ℕ
  roots = suc (length c.functions)

  abbrev l : Layout
  l = layout_of c ds

  suits : (at n : ℕ) (a : Action) → stmt at n a ∈ script_stmts c → Suits l a
  suits = layout_suits c ds (cells_once c apart)

  abbrev whole : List Row
  whole = all_rows L

  body_is : (t : ℕ) → body C t ≡ (nth blank_row whole t).body
  body_is t = ap (λ (B : List Body). nth blank_body B t) (all_bodies L) ∙ nth-map (λ (r : Row). r.body) blank_row whole t

  body_count : length C.bodies ≡ length whole
  body_count = ap (λ (B : List Body). length B) (all_bodies L) ∙ length-map (λ (r : Row). r.body) whole

  -- WHAT IS LAID IS THERE
  has_last : Has C L.last
  has_last j h = sym (nth-map bare blank_entry C.entries j) ∙ ap (λ (E : List Entry). nth blank_entry E j) L.entries

  has_first : Has C L.first
  has_first = let g = functions_grow fs roots L.functions in has_less C L.first L.last g.0 g.1 has_last

  later_sits : Sits whole (roots + 0) (later_rows L)
  later_sits = record { before = first_rows L; after = []; is = ap (λ (z : List Row). first_rows L ++ z) (sym (append-nil (later_rows L))); at = (let a = first_count L in omega arith) }

  script_sits : Sits whole (roots + 0) (block_rows fs roots 0 L.script)
  script_sits = sits_left (block_rows fs roots 0 L.script) (inner_rows fs roots L.functions) later_sits

  functions_sit : Sits whole (roots + length L.first.bodies) (inner_rows fs roots L.functions)
  functions_sit =
      let a = ap (λ (B : List Body). length B) (block_bodies fs roots 0 L.script) in
      let b = length-map (λ (r : Row). r.body) (block_rows fs roots 0 L.script) in
      sits_right (roots + 0) (roots + length L.first.bodies) (block_rows fs roots 0 L.script) (inner_rows fs roots L.functions) later_sits (omega arith)

  abbrev AllIsGood : List Row → Type 0
  AllIsGood = AllGood c C l whole suits reads (all_bodies L)

  functions_good : {gs : List Function} {dd : List (ℕ × Bool)} {s t : Laying} {bs : List Body} (x : LaysFunctions fs roots gs dd s t bs) → Has C t → Sits whole (roots + length s.bodies) (inner_rows fs roots x)
      → ((b : Block) → b ∈ function_blocks gs → b ∈ script_blocks c) → ((i : ℕ) (f : Function) → slice_get gs i ≡ Some f → InScope c f.inputs f.body) → AllIsGood (function_rows fs roots x) × AllIsGood (inner_rows fs roots x)
  functions_good no_function h at i sc = (λ r j. elim j [ ], λ r j. elim j [ ])
  functions_good (one_function {f = f} {gs = gs} {s = s} {t = t} {u = u} {js = js} {vs = vs} x xs de be) h at i sc =
      let g = functions_grow fs roots xs in
      let hx = has_less C t u g.0 g.1 h in
      let a = sits_left (block_rows fs roots f.inputs x) (inner_rows fs roots xs) at in
      let a' = sits_block c C l whole suits reads (all_bodies L) fs roots f.inputs s t (block_rows fs roots f.inputs x) (inner_rows fs roots xs) (block_bodies fs roots f.inputs x) at in
      let m = i f.body first in
      let scope = sc 0 f refl in
      let rest = functions_good xs h a' (λ b j. i b (to_right (blocks_of f.body) (function_blocks gs) j)) (λ n q e. sc (suc n) q e) in
      let own = one_good c C l whole suits reads (all_bodies L) fs roots f.inputs x [] ByCalls hx a m scope in
      let inner = block_good c C l whole suits reads (all_bodies L) fs roots f.inputs x hx a f.body m scope (λ y j. j) in (
        all_both c C l whole suits reads (all_bodies L) (row f.inputs f.body [] ByCalls vs js ∷ []) (function_rows fs roots xs) (all_one c C l whole suits reads (all_bodies L) _ own) rest.0,
        all_both c C l whole suits reads (all_bodies L) (block_rows fs roots f.inputs x) (inner_rows fs roots xs) inner rest.1,
      )

  all_good : AllIsGood whole
  all_good =
      let both = all_both c C l whole suits reads (all_bodies L) in
      let f = functions_good L.functions has_last functions_sit (λ b j. to_right (blocks_of c.body) (function_blocks c.functions) j) (λ i f e. of_function i e) in
      let own = one_good c C l whole suits reads (all_bodies L) fs roots 0 L.script [] ByMain has_first script_sits first of_script in
      let inner = block_good c C l whole suits reads (all_bodies L) fs roots 0 L.script has_first script_sits c.body first of_script (λ y j. j) in
      both (first_rows L) (later_rows L)
      (both (row 0 c.body [] ByMain L.makes_are L.entries_are ∷ []) (function_rows fs roots L.functions) (all_one c C l whole suits reads (all_bodies L) _ own) f.0)
      (both (block_rows fs roots 0 L.script) (inner_rows fs roots L.functions) inner f.1)

  bodies : (t : ℕ) → t < length C.bodies → BodyLaid C l (table_of whole) c t
  bodies t h =
      let g = all_good (nth blank_row whole t) (nth_in blank_row whole t (let a = body_count in omega arith)) in
      record {
        own = g.own;
        stmts = subst (λ (b : Body). StmtsLaid C l (table_of whole) (nth blank_row whole t).inputs (block_list (nth blank_row whole t).block) b.entries g.own) (sym (body_is t)) g.stmts;
        makes = ap (λ (b : Body). b.makes) (body_is t) ∙ g.makes;
        there = g.there;
        scope = g.scope;
        suits = λ at n a i. suits at n a (among_script c g.there i);
      }

  -- EACH ENTRY STANDS ONCE
  entries_at : (t j : ℕ) → In j (body C t).entries → 1 ≤ count j (nth blank_row whole t).body.entries
  entries_at t j h = in_count (in_member j _ (subst (λ (b : Body). In j b.entries) (body_is t) h))

  row_few : (j : ℕ) → row_count j whole ≤ 1
  row_few j = let a = all_numbered L j in let b = counted_few j 0 (length C.entries) in omega arith

  entry_there : (t j : ℕ) → In j (body C t).entries → j < length C.entries
  entry_there t j h =
      let a = entries_at t j h in
      let b = at_place (λ (r : Row). count j r.body.entries) blank_row refl whole t in
      let d = all_numbered L j in
      let e = (counted_below j 0 (length C.entries) (count_in j (counted 0 (length C.entries)) (omega arith))).1 in
      omega arith

  entry_stands : (j : ℕ) → j < length C.entries → (t : ℕ) × In j (body C t).entries
  entry_stands j h =
      let a = counted_has j 0 (length C.entries) (omega arith) (omega arith) in
      let d = all_numbered L j in
      let p = some_place (λ (r : Row). count j r.body.entries) blank_row refl whole (omega arith) in
      (p.0, subst (λ (b : Body). In j b.entries) (sym (body_is p.0)) (member_in (count_in j (nth blank_row whole p.0).body.entries p.1)))

  entry_once : (t u j : ℕ) → In j (body C t).entries → In j (body C u).entries → t ≡ u
  entry_once t u j h g = one_place (λ (r : Row). count j r.body.entries) blank_row refl whole t u (row_few j) (entries_at t j h) (entries_at u j g)

  entries_distinct : (t : ℕ) → Distinct (body C t).entries
  entries_distinct t = subst (λ (b : Body). Distinct b.entries) (sym (body_is t)) (count_distinct (nth blank_row whole t).body.entries (λ j. (let a = at_place (λ (r : Row). count j r.body.entries) blank_row refl whole t in let b = row_few j in omega arith)))

  -- EACH VARIABLE IS DECLARED ONCE
  made_few : (n : ℕ) → made_count n whole ≤ 1
  made_few n = let a = all_made L n in let b = apart n in omega arith

  made_at : (t : ℕ) (v : Variable) → In v (body C t).makes → 1 ≤ count v.node (nodes_of (nth blank_row whole t).body.makes)
  made_at t v h = in_count (node_in v (nth blank_row whole t).body.makes (subst (λ (b : Body). In v b.makes) (body_is t) h))

  variable_once : (t u : ℕ) (v : Variable) → In v (body C t).makes → In v (body C u).makes → t ≡ u
  variable_once t u v h g = one_place (λ (r : Row). count v.node (nodes_of r.body.makes)) blank_row refl whole t u (made_few v.node) (made_at t v h) (made_at u v g)

  makes_distinct : (t : ℕ) → Distinct (body C t).makes
  makes_distinct t = subst (λ (b : Body). Distinct b.makes) (sym (body_is t)) (variables_distinct (nth blank_row whole t).body.makes (λ n. (let a = at_place (λ (r : Row). count n (nodes_of r.body.makes)) blank_row refl whole t in let b = made_few n in omega arith)))

  -- WHAT OPENS A BODY
  inner_rows_are : AllInner c ds (later_rows L)
  inner_rows_are =
      let sub = λ (q : ℕ × Bool) (i : q ∈ L.own_declared). subst (λ (z : List (ℕ × Bool)). q ∈ z) (sym L.declared) (to_left L.own_declared L.function_declared i) in
      let sub' = λ (q : ℕ × Bool) (i : q ∈ L.function_declared). subst (λ (z : List (ℕ × Bool)). q ∈ z) (sym L.declared) (to_right L.own_declared L.function_declared i) in
      inner_both c ds (block_rows fs roots 0 L.script) (inner_rows fs roots L.functions) (block_origin c ds fs roots 0 L.script sub c.body first (λ y j. j)).1
      (functions_origin c ds fs roots L.functions sub' (λ b j. to_right (blocks_of c.body) (function_blocks c.functions) j)).1

  first_origin : (r : Row) → r ∈ first_rows L → AllOrigin c ds r.body.makes
  first_origin r m =
      let sub = λ (q : ℕ × Bool) (i : q ∈ L.own_declared). subst (λ (z : List (ℕ × Bool)). q ∈ z) (sym L.declared) (to_left L.own_declared L.function_declared i) in
      let sub' = λ (q : ℕ × Bool) (i : q ∈ L.function_declared). subst (λ (z : List (ℕ × Bool)). q ∈ z) (sym L.declared) (to_right L.own_declared L.function_declared i) in
      elim (split_in m) [
        | inl e ↦ subst (λ (z : Row). AllOrigin c ds z.body.makes) (sym e) (block_origin c ds fs roots 0 L.script sub c.body first (λ y j. j)).0
        | inr i ↦ (functions_origin c ds fs roots L.functions sub' (λ b j. to_right (blocks_of c.body) (function_blocks c.functions) j)).0 r i
      ]

  below_or : (i n : ℕ) → (i < n) ⊎ ((m : ℕ) × (i ≡ n + m))
  below_or i zero = inr (i, omega arith)
  below_or zero (suc n) = inl (omega arith)
  below_or (suc i) (suc n) = elim (below_or i n) [ inl h ↦ inl (omega arith) | inr h ↦ inr (h.0, (let a = h.1 in omega arith)) ]

  -- the row of a function
  function_at : (i : ℕ) (f : Function) → slice_get c.functions i ≡ Some f → (suc i < length whole) × IsFunctionRow fs roots (nth blank_row whole (suc i)) f
  function_at i f e =
      let a = function_row fs roots L.functions i f e in
      let b = function_count fs roots L.functions in
      let d = length-append (function_rows fs roots L.functions) (later_rows L) in
      let z = a.0 in
      let q : nth blank_row (function_rows fs roots L.functions ++ later_rows L) i ≡ nth blank_row (function_rows fs roots L.functions) i = nth_left blank_row (function_rows fs roots L.functions) (later_rows L) i (omega arith) in
      (omega arith, (a.1.0, a.1.1, q ∙ a.1.2))

  -- the row at a number is the script's, a function's, or an inner one
  pub data Sort (t : ℕ) : Type 0 where
    of_the_script : t ≡ 0 → (nth blank_row whole t).body.opener ≡ ByMain → Sort t
    of_a_function : (i : ℕ) (f : Function) → t ≡ suc i → slice_get c.functions i ≡ Some f → (nth blank_row whole t).body.opener ≡ ByCalls → Sort t
    of_a_block : IsInner c ds (nth blank_row whole t).body.opener → Sort t

  sort_of : (t : ℕ) → t < length whole → Sort t
  sort_of zero h = of_the_script refl refl
  sort_of (suc i) h = by (below_or i (length (function_rows fs roots L.functions)))
    where
      by : (i < length (function_rows fs roots L.functions)) ⊎ ((m : ℕ) × (i ≡ length (function_rows fs roots L.functions) + m)) → Sort (suc i)
      by (inl l) =
          let b = function_count fs roots L.functions in
          let f = found c.functions i (omega arith) in
          let a = function_at i f.0 f.1 in
          of_a_function i f.0 refl f.1 (ap (λ (r : Row). r.body.opener) a.1.2)
      by (inr m) =
          let fr = function_rows fs roots L.functions in
          let q : nth blank_row (fr ++ later_rows L) i ≡ nth blank_row (later_rows L) m.0 = ap (nth blank_row (fr ++ later_rows L)) m.1 ∙ nth_right blank_row fr (later_rows L) m.0 in
          let d = length-append fr (later_rows L) in
          let e = m.1 in
          of_a_block (subst (λ (r : Row). IsInner c ds r.body.opener) (sym q) (inner_rows_are (nth blank_row (later_rows L) m.0) (nth_in blank_row (later_rows L) m.0 (omega arith))).opens)

  no_inner : (o : Opener) → IsInner c ds o → (o ≡ ByMain) ⊎ (o ≡ ByCalls) → ⊥
  no_inner (ByStep e) h (inl q) = cc (q)
  no_inner (ByStep e) h (inr q) = cc (q)
  no_inner (ByWait e) h (inl q) = cc (q)
  no_inner (ByWait e) h (inr q) = cc (q)
  no_inner ByMain h q = h
  no_inner ByCalls h q = h

  called_is : (t : ℕ) → t < length C.bodies → (body C t).opener ≡ ByCalls → (i : ℕ) × (f : Function) × (t ≡ suc i) × (slice_get c.functions i ≡ Some f)
  called_is t h e = by (sort_of t (let a = body_count in omega arith))
    where
      o : (nth blank_row whole t).body.opener ≡ ByCalls
      o = sym (ap (λ (b : Body). b.opener) (body_is t)) ∙ e

      by : Sort t → (i : ℕ) × (f : Function) × (t ≡ suc i) × (slice_get c.functions i ≡ Some f)
      by (of_the_script z q) = absurd (let y : ByMain ≡ ByCalls = sym q ∙ o in cc)
      by (of_a_function i f z g q) = (i, f, z, g)
      by (of_a_block q) = absurd (no_inner (nth blank_row whole t).body.opener q (inr o))

  started_is : (t : ℕ) → t < length C.bodies → (body C t).opener ≡ ByMain → t ≡ 0
  started_is t h e = by (sort_of t (let a = body_count in omega arith))
    where
      o : (nth blank_row whole t).body.opener ≡ ByMain
      o = sym (ap (λ (b : Body). b.opener) (body_is t)) ∙ e

      by : Sort t → t ≡ 0
      by (of_the_script z q) = z
      by (of_a_function i f z g q) = absurd (let y : ByCalls ≡ ByMain = sym q ∙ o in cc)
      by (of_a_block q) = absurd (no_inner (nth blank_row whole t).body.opener q (inl o))

  -- WHERE VARIABLES COME FROM
  origin : (t : ℕ) (v : Variable) → In v (body C t).makes → Origin c ds v
  origin t v h =
      let i = subst (λ (b : Body). In v b.makes) (body_is t) h in
      elim (beneath t) [
        | inl l ↦ elim (either (first_rows L) (later_rows L) (nth_in blank_row whole t l)) [ inl m ↦ first_origin (nth blank_row whole t) m v i | inr m ↦ (inner_rows_are (nth blank_row whole t) m).origin v i ]
        | inr l ↦ absurd (subst (λ (r : Row). In v r.body.makes) (nth_beyond blank_row whole t l) i)
      ]
    where
      beneath : (t : ℕ) → (t < length whole) ⊎ (length whole ≤ t)
      beneath t = elim (below_or t (length whole)) [ inl l ↦ inl l | inr m ↦ inr (let z = m.1 in omega arith) ]

  module _ (v : Variable) where
    -- a node is declared, of a cell, or another one, once
    one_sort : total (declared_count v.node) (script_stmts c) + (cell_count v.node (flat_map cells (script_stmts c)) + total (other_count v.node) (script_stmts c)) ≤ 1
    one_sort = let a = apart v.node in let b = parts_of_count v.node (script_stmts c) in let d = cells_total v.node (script_stmts c) in omega arith

    listed_once : count v.node (numbers ds) ≤ 1
    listed_once = let a = all_listed L v.node in let b = one_sort in omega arith

    plain_count : count v.node (numbers (all_plains (script_stmts c))) ≡ cell_count v.node (flat_map cells (script_stmts c))
    plain_count = all_count v.node (script_stmts c)

    plain_in : ◌∈◌ {X = ℕ × Bool} (v.node, false) (all_plains (script_stmts c)) → 1 ≤ cell_count v.node (flat_map cells (script_stmts c))
    plain_in m = let a = in_count (number_there m) in let b = plain_count in omega arith

    kind_is : Origin c ds v → v.array ≡ look v.node ds
    kind_is (is_declared m) = sym (look_found m listed_once)
    kind_is (is_cell e m) = e ∙ sym (look_none v.node ds (let a = all_listed L v.node in let b = plain_in m in let d = one_sort in omega arith))
    kind_is (is_other e m) = e ∙ sym (look_none v.node ds (let a = all_listed L v.node in let d = one_sort in omega arith))

    real_is : Origin c ds v → look v.node (all_plains (script_stmts c)) ≡ false
    real_is (is_declared m) = look_none v.node (all_plains (script_stmts c)) (let a = all_listed L v.node in let b = in_count (number_there m) in let d = one_sort in let e = plain_count in omega arith)
    real_is (is_cell e m) = look_found m (let b = plain_count in let d = one_sort in omega arith)
    real_is (is_other e m) = look_none v.node (all_plains (script_stmts c)) (let d = one_sort in let b = plain_count in omega arith)

    array_is : Origin c ds v → v.array ≡ true → ◌∈◌ {X = ℕ × Bool} (v.node, true) ds
    array_is (is_declared m) e = subst (λ (b : Bool). ◌∈◌ {X = ℕ × Bool} (v.node, b) ds) e m
    array_is (is_cell q m) e = absurd (let z : false ≡ true = sym q ∙ e in cc)
    array_is (is_other q m) e = absurd (let z : false ≡ true = sym q ∙ e in cc)

    scalar_is : Origin c ds v → v.array ≡ false → (at m : ℕ) → stmt at m (declare v.node) ∈ script_stmts c → ◌∈◌ {X = ℕ × Bool} (v.node, false) ds
    scalar_is (is_declared m) e at k i = subst (λ (b : Bool). ◌∈◌ {X = ℕ × Bool} (v.node, b) ds) e m
    scalar_is (is_cell q m) e at k i = absurd (let a = total_member (declared_count v.node) i in let z = in_count {n = v.node} {xs = v.node ∷ []} first in let b = plain_in m in let d = one_sort in omega arith)
    scalar_is (is_other q m) e at k i = absurd (let a = total_member (declared_count v.node) i in let z = in_count {n = v.node} {xs = v.node ∷ []} first in let d = one_sort in omega arith)

  -- CALLS
  call_fits : (j f : ℕ) (ins : List Argument) (outs : List code.Name) → (entry C j).act ≡ code.Call (suc f) ins outs → (st : Stmt) × st ∈ script_stmts c × IsCallOf fs (own_parts (stmt_action st)) (entry C j) f ins outs
  call_fits j f ins outs e = by (below_or j (length C.entries))
    where
      by : (j < length C.entries) ⊎ ((m : ℕ) × (j ≡ length C.entries + m)) → (st : Stmt) × st ∈ script_stmts c × IsCallOf fs (own_parts (stmt_action st)) (entry C j) f ins outs
      by (inl h) =
          let a = length-map bare C.entries in
          let i : bare (entry C j) ∈ L.last.entries = subst (λ (E : List Entry). bare (entry C j) ∈ E) L.entries (subst (λ (x : Entry). x ∈ map bare C.entries) (nth-map bare blank_entry C.entries j) (nth_in blank_entry (map bare C.entries) j (omega arith))) in
          let r = all_fit c l suits fs L (bare (entry C j)) f ins outs i e in
          (r.0, r.1, record { call = r.2.call; there = r.2.there; function = r.2.function; offset = r.2.offset; fits = r.2.fits })
      by (inr m) = absurd (let z = m.1 in let q : entry C j ≡ blank_entry = nth_beyond blank_entry C.entries j (omega arith) in no_call (sym (ap (λ (x : Entry). x.act) q) ∙ e))
        where
          no_call : blank_entry.act ≡ code.Call (suc f) ins outs → ⊥
          no_call h = cc (h)

  -- THE TABLE
  pub is_laid : IsLaid c fs ds C l
  is_laid = record {
    table = table_of whole;
    places = λ i. refl;
    script = row_stands l whole 0 0 c.body [] ByMain L.makes_are L.entries_are (all_bodies L) refl (omega arith);
    functions = λ i f e. (let a = function_at i f e in row_stands l whole (suc i) f.inputs f.body [] ByCalls a.1.0 a.1.1 (all_bodies L) a.1.2 a.0);
    bodies = bodies;
    called = called_is;
    started = started_is;
    there = entry_there;
    stands = entry_stands;
    once = entry_once;
    distinct = entries_distinct;
    made_once = variable_once;
    made_distinct = makes_distinct;
    fit = call_fits;
    arrays = λ t v i e. array_is v (origin t v i) e;
    scalars = λ t v at m i e h s. scalar_is v (origin t v i) e at m (among_script c (bodies t h).there s);
    kinds = λ t v i. kind_is v (origin t v i);
    real = λ t v i. real_is v (origin t v i);
  }
