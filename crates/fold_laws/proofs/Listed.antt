-- Cells, calls, blocks, statements and targets of what is the same.
use Rattle.std.specs.Prelude.{◌≡◌, ℕ, zero, suc, List, [], ◌∷◌, ◌++◌, map, Option, Some, slice_get, find, nat_eq, refl}
use Rattle.std.proofs.Common.{ap, subst, ◌∙◌}
use Rattle.std.proofs.lemmas.Option.{none-some, same_Some}
use Rattle.language.specs.Core.{Owned, local, input, output, Name, Call, Part, Outer, Stmt, Action, Block, Function, Core}
use Rattle.language.specs.Members.{◌∈◌, first, later}
use Rattle.language.specs.Parts.{outers, outer_cells, outer_parts, parts, part_cells, part_calls, cells, stmt_calls, block_list, blocks_below, blocks_in, blocks_inside, blocks_of, function_blocks, stmts_among, script_stmts, calls_among, call_at, input_name, output_name, stmts_of, function_body, targets, targets_of, targets_in}
use Rattle.language.specs.Places.{Path, place_of, place}
use Rattle.fold_laws.specs.Same.{Pairwise, no_pair, a_pair, SameCell, SamePart, same_inner, same_call, SameOuter, no_step, a_step, SameStmt, same_stmt, SameAction, same_declare, same_call_alone, same_assign, same_fill, same_insert, same_print, same_assert, same_when, same_choose, same_range, same_each, same_wait, SameBlock, same_end, same_next, SameFunction, SameCore}

-- LISTS

pub pairs_both : {X : Type 0} {R : X → X → Type 0} {xs ys us vs : List X} → Pairwise R xs ys → Pairwise R us vs → Pairwise R (xs ++ us) (ys ++ vs)
pairs_both no_pair k = k
pairs_both (a_pair h hs) k = a_pair h (pairs_both hs k)

-- a member has its like in the other list
pub record HasLike {X : Type 0} (R : X → X → Type 0) (x : X) (ys : List X) : Type 0 where
  pub like : X
  pub there : like ∈ ys
  pub same : R x like

pub like_of : {X : Type 0} {R : X → X → Type 0} {x : X} {xs ys : List X} → Pairwise R xs ys → x ∈ xs → HasLike R x ys
like_of no_pair i = elim i [ ]
like_of (a_pair h hs) first = record { like = _; there = first; same = h }
like_of (a_pair h hs) (later i) = let r = like_of hs i in record { like = r.like; there = later r.there; same = r.same }

-- CELLS AND CALLS

pub same_outers : {a b : Action} → SameAction a b → Pairwise SameOuter (outers a) (outers b)
same_outers same_declare = no_pair
same_outers (same_call_alone h) = no_pair
same_outers (same_assign h) = a_pair h no_pair
same_outers (same_fill h) = a_pair h no_pair
same_outers (same_insert h k) = a_pair h (a_pair k no_pair)
same_outers (same_print h) = a_pair h no_pair
same_outers (same_assert h) = a_pair h no_pair
same_outers (same_when h b) = a_pair h no_pair
same_outers (same_choose h b d) = a_pair h no_pair
same_outers (same_range h k no_step b) = a_pair h (a_pair k no_pair)
same_outers (same_range h k (a_step s) b) = a_pair h (a_pair k (a_pair s no_pair))
same_outers (same_each b) = no_pair
same_outers (same_wait b) = no_pair

cells_of_outers : {os ps : List Outer} → Pairwise SameOuter os ps → Pairwise SameCell (map (λ o. o.cell) os) (map (λ o. o.cell) ps)
cells_of_outers no_pair = no_pair
cells_of_outers (a_pair h hs) = a_pair h.cell (cells_of_outers hs)

pub same_outer_cells : {a b : Action} → SameAction a b → Pairwise SameCell (outer_cells a) (outer_cells b)
same_outer_cells h = cells_of_outers (same_outers h)

parts_of_outers : {os ps : List Outer} → Pairwise SameOuter os ps → Pairwise SamePart (outer_parts os) (outer_parts ps)
parts_of_outers no_pair = no_pair
parts_of_outers (a_pair h hs) = pairs_both h.parts (a_pair (same_inner h.cell) (parts_of_outers hs))

pub same_parts : {a b : Action} → SameAction a b → Pairwise SamePart (parts a) (parts b)
same_parts same_declare = no_pair
same_parts (same_call_alone h) = pairs_both h (a_pair same_call no_pair)
same_parts (same_assign h) = parts_of_outers (a_pair h no_pair)
same_parts (same_fill h) = parts_of_outers (a_pair h no_pair)
same_parts (same_insert h k) = parts_of_outers (a_pair h (a_pair k no_pair))
same_parts (same_print h) = parts_of_outers (a_pair h no_pair)
same_parts (same_assert h) = parts_of_outers (a_pair h no_pair)
same_parts (same_when h b) = parts_of_outers (a_pair h no_pair)
same_parts (same_choose h b d) = parts_of_outers (a_pair h no_pair)
same_parts (same_range h k no_step b) = parts_of_outers (a_pair h (a_pair k no_pair))
same_parts (same_range h k (a_step s) b) = parts_of_outers (a_pair h (a_pair k (a_pair s no_pair)))
same_parts (same_each b) = no_pair
same_parts (same_wait b) = no_pair

cells_of_parts : {ps qs : List Part} → Pairwise SamePart ps qs → Pairwise SameCell (part_cells ps) (part_cells qs)
cells_of_parts no_pair = no_pair
cells_of_parts (a_pair (same_inner h) hs) = a_pair h (cells_of_parts hs)
cells_of_parts (a_pair same_call hs) = cells_of_parts hs

calls_of_parts : {ps qs : List Part} → Pairwise SamePart ps qs → part_calls ps ≡ part_calls qs
calls_of_parts no_pair = refl
calls_of_parts (a_pair (same_inner h) hs) = calls_of_parts hs
calls_of_parts (a_pair (same_call {c}) hs) = ap (λ xs. c ∷ xs) (calls_of_parts hs)

pub same_cells : {s t : Stmt} → SameStmt s t → Pairwise SameCell (cells s) (cells t)
same_cells (same_stmt h) = cells_of_parts (same_parts h)

pub same_stmt_calls : {s t : Stmt} → SameStmt s t → stmt_calls s ≡ stmt_calls t
same_stmt_calls (same_stmt h) = calls_of_parts (same_parts h)

-- BLOCKS AND STATEMENTS

pub same_list : {b d : Block} → SameBlock b d → Pairwise SameStmt (block_list b) (block_list d)
same_list same_end = no_pair
same_list (same_next h b) = a_pair h (same_list b)

mutual
  same_below : {b d : Block} → SameBlock b d → Pairwise SameBlock (blocks_below b) (blocks_below d)
  same_below same_end = no_pair
  same_below (same_next h b) = pairs_both (same_in h) (same_below b)

  same_in : {s t : Stmt} → SameStmt s t → Pairwise SameBlock (blocks_in s) (blocks_in t)
  same_in (same_stmt h) = same_inside h

  same_inside : {a b : Action} → SameAction a b → Pairwise SameBlock (blocks_inside a) (blocks_inside b)
  same_inside same_declare = no_pair
  same_inside (same_call_alone h) = no_pair
  same_inside (same_assign h) = no_pair
  same_inside (same_fill h) = no_pair
  same_inside (same_insert h k) = no_pair
  same_inside (same_print h) = no_pair
  same_inside (same_assert h) = no_pair
  same_inside (same_when h b) = a_pair b (same_below b)
  same_inside (same_choose h b d) = a_pair b (pairs_both (same_below b) (a_pair d (same_below d)))
  same_inside (same_range h k s b) = a_pair b (same_below b)
  same_inside (same_each b) = a_pair b (same_below b)
  same_inside (same_wait b) = a_pair b (same_below b)

same_of : {b d : Block} → SameBlock b d → Pairwise SameBlock (blocks_of b) (blocks_of d)
same_of h = a_pair h (same_below h)

same_function_blocks : {fs gs : List Function} → Pairwise SameFunction fs gs → Pairwise SameBlock (function_blocks fs) (function_blocks gs)
same_function_blocks no_pair = no_pair
same_function_blocks (a_pair h hs) = pairs_both (same_of h.body) (same_function_blocks hs)

same_among : {bs ds : List Block} → Pairwise SameBlock bs ds → Pairwise SameStmt (stmts_among bs) (stmts_among ds)
same_among no_pair = no_pair
same_among (a_pair h hs) = pairs_both (same_list h) (same_among hs)

pub same_script_stmts : {c d : Core} → SameCore c d → Pairwise SameStmt (script_stmts c) (script_stmts d)
same_script_stmts h = same_among (pairs_both (same_of h.body) (same_function_blocks h.functions))

calls_of_stmts : {ss ts : List Stmt} → Pairwise SameStmt ss ts → calls_among ss ≡ calls_among ts
calls_of_stmts no_pair = refl
calls_of_stmts (a_pair {x = s} {y = t} {ys = ts} h hs) = ap (λ xs. stmt_calls s ++ xs) (calls_of_stmts hs) ∙ ap (λ xs. xs ++ calls_among ts) (same_stmt_calls h)

pub same_calls : {c d : Core} → SameCore c d → calls_among (script_stmts c) ≡ calls_among (script_stmts d)
same_calls h = calls_of_stmts (same_script_stmts h)

-- FUNCTIONS

pub record HasFunction (fs : List Function) (n : ℕ) (f : Function) : Type 0 where
  pub like : Function
  pub there : slice_get fs n ≡ Some like
  pub same : SameFunction f like

pub function_like : {fs gs : List Function} → Pairwise SameFunction fs gs → (n : ℕ) (f : Function) → slice_get fs n ≡ Some f → HasFunction gs n f
function_like no_pair n f is = absurd (none-some f is)
function_like (a_pair {x} {y} h hs) zero f is = record { like = y; there = refl; same = subst (λ z. SameFunction z y) (same_Some x f is) h }
function_like (a_pair h hs) (suc n) f is = let r = function_like hs n f is in record { like = r.like; there = r.there; same = r.same }

body_list : {fs gs : List Function} → Pairwise SameFunction fs gs → (n : ℕ) → Pairwise SameStmt (stmts_of (slice_get fs n)) (stmts_of (slice_get gs n))
body_list no_pair n = no_pair
body_list (a_pair h hs) zero = same_list h.body
body_list (a_pair h hs) (suc n) = body_list hs n

pub same_function_body : {c d : Core} → SameCore c d → (n : ℕ) → Pairwise SameStmt (function_body c n) (function_body d n)
same_function_body h n = body_list h.functions n

-- TARGETS

mutual
  pub same_targets : {s t : Stmt} → SameStmt s t → targets s ≡ targets t
  same_targets (same_stmt h) = same_targets_of h

  same_targets_of : {a b : Action} → SameAction a b → targets_of a ≡ targets_of b
  same_targets_of same_declare = refl
  same_targets_of (same_call_alone h) = refl
  same_targets_of (same_assign h) = refl
  same_targets_of (same_fill h) = refl
  same_targets_of (same_insert h k) = refl
  same_targets_of (same_print h) = refl
  same_targets_of (same_assert h) = refl
  same_targets_of (same_when h b) = same_targets_in b
  same_targets_of (same_choose {d = b'} {c = d} h b k) = ap (λ xs. xs ++ targets_in d) (same_targets_in b) ∙ ap (λ xs. targets_in b' ++ xs) (same_targets_in k)
  same_targets_of (same_range h k s b) = same_targets_in b
  same_targets_of (same_each b) = same_targets_in b
  same_targets_of (same_wait b) = same_targets_in b

  same_targets_in : {b d : Block} → SameBlock b d → targets_in b ≡ targets_in d
  same_targets_in same_end = refl
  same_targets_in (same_next {t} {b} h k) = ap (λ xs. xs ++ targets_in b) (same_targets h) ∙ ap (λ xs. targets t ++ xs) (same_targets_in k)

-- PLACES

module _ (c d : Core) (same : calls_among (script_stmts c) ≡ calls_among (script_stmts d)) where
  same_call_at : (at : ℕ) → call_at c at ≡ call_at d at
  same_call_at at = ap (λ xs. find (λ (x : Call). nat_eq x.at at) xs) same

  pub place_of_same : (path : Path) (up : ℕ) (x : Owned) → place_of c path up x ≡ place_of d path up x
  place_of_same [] up (local n) = refl
  place_of_same [] up (input i) = refl
  place_of_same [] up (output i) = refl
  place_of_same (step ∷ path) (suc up) x = place_of_same path up x
  place_of_same (step ∷ path) zero (local n) = refl
  place_of_same (step ∷ path) zero (input i) =
      let x = input_name (call_at c step.0) i in
      place_of_same path x.up x.what ∙ ap (λ (r : Option Call). place_of d path (input_name r i).up (input_name r i).what) (same_call_at step.0)
  place_of_same (step ∷ path) zero (output i) =
      let x = output_name (call_at c step.0) i in
      place_of_same path x.up x.what ∙ ap (λ (r : Option Call). place_of d path (output_name r i).up (output_name r i).what) (same_call_at step.0)

  pub place_same : (path : Path) (x : Name) → place c path x ≡ place d path x
  place_same path x = place_of_same path x.up x.what
