-- Where one of two cores that are the same but for expressions of literals is singly assigned, so is the other.
use Rattle.std.specs.Prelude.{◌≡◌, ◌⊎◌, ℕ, ◌<◌, List, Option, Some, refl}
use Rattle.std.proofs.Common.{inl, inr, subst}
use Rattle.values.specs.declared.value.Scalar.{Scalar}
use Rattle.language.specs.Core.{Owned, local, output, Name, Expr, Exprs, compute, Form, Outer, Awaited, scalar, Stmt, stmt, Action, declare, when, choose, range, each, wait, Block, Function, Core}
use Rattle.language.specs.Members.{◌∈◌}
use Rattle.language.specs.Parts.{block_list, blocks_below, blocks_in, blocks_inside, function_blocks, script_blocks, script_stmts, stmts_among, stmts_within, cells, stmt_action, by_name, by_element}
use Rattle.language.specs.Single.{Way, way_end, way_on, StmtWay, simple, taken, skipped, then_way, else_way, range_way, each_way, wait_way, IsNamed, IsWritten, Reads, an_operand, ReadsSome, the_first, a_later, IsRead, in_cell, in_wait, Owns, declared_here, an_output, Given, an_input, range_value, range_turn, each_value, each_key, LoopBody, of_range, of_each, SinglyAssigned}
use Rattle.fold_laws.specs.Same.{ComesTo, a_literal, an_operator, AllComeTo, no_operand, operand, SameExpr, same_literal, same_name, same_whole, same_operator, same_constant, SameExprs, same_none, same_also, Pairwise, no_pair, a_pair, SameForm, same_compute, SameStmt, same_stmt, SameAction, same_declare, same_call_alone, same_assign, same_fill, same_insert, same_print, same_assert, same_when, same_choose, same_range, same_each, same_wait, SameBlock, same_end, same_next, SameFunction, SameCore}
use Rattle.fold_laws.proofs.Listed.{pairs_both, like_of, same_cells, same_list, same_script_stmts}
use Rattle.fold_laws.proofs.Turned.{turned_block, turned_core}

-- BLOCKS

mutual
  same_below : {b d : Block} → SameBlock b d → Pairwise SameBlock (blocks_below b) (blocks_below d)
  same_below same_end = no_pair
  same_below (same_next h b) = pairs_both (same_in h) (same_below b)

  same_in : {s t : Stmt} → SameStmt s t → Pairwise SameBlock (blocks_in s) (blocks_in t)
  same_in (same_stmt h) = same_inside h

  same_inside : {a b : Action} → SameAction a b → Pairwise SameBlock (blocks_inside a) (blocks_inside b)
  same_inside same_declare = no_pair
  same_inside (same_call_alone h) = no_pair
  same_inside (same_assign h) = no_pair
  same_inside (same_fill h) = no_pair
  same_inside (same_insert h k) = no_pair
  same_inside (same_print h) = no_pair
  same_inside (same_assert h) = no_pair
  same_inside (same_when h b) = a_pair b (same_below b)
  same_inside (same_choose h b d) = a_pair b (pairs_both (same_below b) (a_pair d (same_below d)))
  same_inside (same_range h k s b) = a_pair b (same_below b)
  same_inside (same_each b) = a_pair b (same_below b)
  same_inside (same_wait b) = a_pair b (same_below b)

same_function_blocks : {fs gs : List Function} → Pairwise SameFunction fs gs → Pairwise SameBlock (function_blocks fs) (function_blocks gs)
same_function_blocks no_pair = no_pair
same_function_blocks (a_pair h hs) = pairs_both (a_pair h.body (same_below h.body)) (same_function_blocks hs)

same_blocks : {c d : Core} → SameCore c d → Pairwise SameBlock (script_blocks c) (script_blocks d)
same_blocks h = pairs_both (a_pair h.body (same_below h.body)) (same_function_blocks h.functions)

same_among : {bs ds : List Block} → Pairwise SameBlock bs ds → Pairwise SameStmt (stmts_among bs) (stmts_among ds)
same_among no_pair = no_pair
same_among (a_pair h hs) = pairs_both (same_list h) (same_among hs)

same_within : {b d : Block} → SameBlock b d → Pairwise SameStmt (stmts_within b) (stmts_within d)
same_within h = same_among (a_pair h (same_below h))

-- WAYS

mutual
  way_same : {b d : Block} {x : Owned} {n : ℕ} → SameBlock b d → Way x b n → Way x d n
  way_same same_end way_end = way_end
  way_same (same_next h k) (way_on w v e) = way_on (stmt_way_same h w) (way_same k v) e

  stmt_way_same : {s t : Stmt} {x : Owned} {n : ℕ} → SameStmt s t → StmtWay x s n → StmtWay x t n
  stmt_way_same (same_stmt h) w = action_way_same h w

  action_way_same : {a b : Action} {x : Owned} {at n m : ℕ} → SameAction a b → StmtWay x (stmt at n a) m → StmtWay x (stmt at n b) m
  action_way_same same_declare w = w
  action_way_same (same_call_alone h) (simple i t) = simple i t
  action_way_same (same_assign h) (simple i t) = simple i t
  action_way_same (same_fill h) (simple i t) = simple i t
  action_way_same (same_insert h k) (simple i t) = simple i t
  action_way_same (same_print h) (simple i t) = simple i t
  action_way_same (same_assert h) (simple i t) = simple i t
  action_way_same (same_when h k) (simple i t) = absurd i
  action_way_same (same_when h k) (taken w) = taken (way_same k w)
  action_way_same (same_when h k) skipped = skipped
  action_way_same (same_choose h k l) (simple i t) = absurd i
  action_way_same (same_choose h k l) (then_way w) = then_way (way_same k w)
  action_way_same (same_choose h k l) (else_way w) = else_way (way_same l w)
  action_way_same (same_range h k s b) (simple i t) = absurd i
  action_way_same (same_range h k s b) range_way = range_way
  action_way_same (same_each b) (simple i t) = absurd i
  action_way_same (same_each b) each_way = each_way
  action_way_same (same_wait b) (simple i t) = absurd i
  action_way_same (same_wait b) (wait_way w) = wait_way (way_same b w)

-- NAMES

by_name_same : {s t : Stmt} → SameStmt s t → by_name (stmt_action s) ≡ by_name (stmt_action t)
by_name_same (same_stmt same_declare) = refl
by_name_same (same_stmt (same_call_alone h)) = refl
by_name_same (same_stmt (same_assign h)) = refl
by_name_same (same_stmt (same_fill h)) = refl
by_name_same (same_stmt (same_insert h k)) = refl
by_name_same (same_stmt (same_print h)) = refl
by_name_same (same_stmt (same_assert h)) = refl
by_name_same (same_stmt (same_when h b)) = refl
by_name_same (same_stmt (same_choose h b d)) = refl
by_name_same (same_stmt (same_range h k s b)) = refl
by_name_same (same_stmt (same_each b)) = refl
by_name_same (same_stmt (same_wait b)) = refl

by_element_same : {s t : Stmt} → SameStmt s t → by_element (stmt_action s) ≡ by_element (stmt_action t)
by_element_same (same_stmt same_declare) = refl
by_element_same (same_stmt (same_call_alone h)) = refl
by_element_same (same_stmt (same_assign h)) = refl
by_element_same (same_stmt (same_fill h)) = refl
by_element_same (same_stmt (same_insert h k)) = refl
by_element_same (same_stmt (same_print h)) = refl
by_element_same (same_stmt (same_assert h)) = refl
by_element_same (same_stmt (same_when h b)) = refl
by_element_same (same_stmt (same_choose h b d)) = refl
by_element_same (same_stmt (same_range h k s b)) = refl
by_element_same (same_stmt (same_each b)) = refl
by_element_same (same_stmt (same_wait b)) = refl

named_same : {b d : Block} {x : Owned} → SameBlock b d → IsNamed x b → IsNamed x d
named_same h n = let r = like_of (same_within h) n.there in record { st = r.like; target = n.target; there = r.there; assigns = subst (λ xs. n.target ∈ xs) (by_name_same r.same) n.assigns; is = n.is }

written_same : {b d : Block} {x : Owned} → SameBlock b d → IsWritten x b → IsWritten x d
written_same h n = let r = like_of (same_within h) n.there in record { st = r.like; target = n.target; there = r.there; writes = subst (λ xs. n.target ∈ xs) (by_element_same r.same) n.writes; is = n.is }

-- READS

mutual
  no_reads : {e : Expr} {v : Scalar} {x : Owned} → ComesTo e v → Reads x e → ⊥
  no_reads a_literal r = elim r [ ]
  no_reads (an_operator h e) (an_operand r) = none_read h r

  none_read : {es : Exprs} {vs : List Scalar} {x : Owned} → AllComeTo es vs → ReadsSome x es → ⊥
  none_read no_operand r = elim r [ ]
  none_read (operand h hs) (the_first r) = no_reads h r
  none_read (operand h hs) (a_later r) = none_read hs r

mutual
  reads_same : {e d : Expr} {x : Owned} → SameExpr e d → Reads x e → Reads x d
  reads_same same_literal r = r
  reads_same same_name r = r
  reads_same same_whole r = r
  reads_same (same_operator h) (an_operand r) = an_operand (reads_some_same h r)
  reads_same (same_constant c k) r = absurd (no_reads c r)

  reads_some_same : {es ds : Exprs} {x : Owned} → SameExprs es ds → ReadsSome x es → ReadsSome x ds
  reads_some_same same_none r = r
  reads_some_same (same_also h hs) (the_first r) = the_first (reads_same h r)
  reads_some_same (same_also h hs) (a_later r) = a_later (reads_some_same hs r)

read_in_cell : {d : Block} {x : Owned} {s : Stmt} {n : ℕ} {e : Expr} {f : Form} → SameForm (compute e) f → s ∈ stmts_within d → record { node = n; form = f } ∈ cells s → Reads x e → IsRead x d
read_in_cell (same_compute h) i j r = in_cell i j (reads_same h r)

read_in_wait : {d e : Block} {x : Owned} {at n : ℕ} {ns : List Awaited} {s : Stmt} → SameStmt (stmt at n (wait ns e)) s → s ∈ stmts_within d → (y : Name) → scalar y ∈ ns → y.what ≡ x → IsRead x d
read_in_wait (same_stmt (same_wait h)) i y j e = in_wait i j e

read_same : {b d : Block} {x : Owned} → SameBlock b d → IsRead x b → IsRead x d
read_same h (in_cell i j r) = let s = like_of (same_within h) i in let c = like_of (same_cells s.same) j in read_in_cell {n = c.like.node} {f = c.like.form} c.same.form s.there c.there r
read_same h (in_wait {y = y} i j e) = let s = like_of (same_within h) i in read_in_wait s.same s.there y j e

-- DECLARING BLOCKS

record OwnsLike (s : Core) (x : Owned) (b : Block) : Type 0 where
  pub block : Block
  pub owns : Owns s x block
  pub same : SameBlock b block

record GivenLike (s : Core) (x : Owned) (b : Block) : Type 0 where
  pub block : Block
  pub given : Given s x block
  pub same : SameBlock b block

declared_like : {d : Core} {b e : Block} {at m n : ℕ} {s : Stmt} → SameBlock b e → e ∈ script_blocks d → SameStmt (stmt at m (declare n)) s → s ∈ block_list e → OwnsLike d (local n) b
declared_like h i (same_stmt same_declare) j = record { block = _; owns = declared_here i j; same = h }

owns_like : {c d : Core} {x : Owned} {b : Block} → SameCore c d → Owns c x b → OwnsLike d x b
owns_like h (declared_here i j) = let b = like_of (same_blocks h) i in let s = like_of (same_list b.same) j in declared_like b.same b.there s.same s.there
owns_like h (an_output {j = j} i below) = let f = like_of h.functions i in record { block = f.like.body; owns = an_output f.there (subst (λ n. j < n) f.same.outputs below); same = f.same.body }

range_value_like : {d : Core} {at n v : ℕ} {lo hi : Outer} {st : Option Outer} {k : Option ℕ} {b : Block} {s : Stmt} → SameStmt (stmt at n (range lo hi st v k b)) s → s ∈ script_stmts d → GivenLike d (local v) b
range_value_like (same_stmt (same_range x y z h)) i = record { block = _; given = range_value i; same = h }

range_turn_like : {d : Core} {at n v k : ℕ} {lo hi : Outer} {st : Option Outer} {b : Block} {s : Stmt} → SameStmt (stmt at n (range lo hi st v (Some k) b)) s → s ∈ script_stmts d → GivenLike d (local k) b
range_turn_like (same_stmt (same_range x y z h)) i = record { block = _; given = range_turn i; same = h }

each_value_like : {d : Core} {at n v : ℕ} {a : Name} {k : Option ℕ} {b : Block} {s : Stmt} → SameStmt (stmt at n (each a v k b)) s → s ∈ script_stmts d → GivenLike d (local v) b
each_value_like (same_stmt (same_each h)) i = record { block = _; given = each_value i; same = h }

each_key_like : {d : Core} {at n v k : ℕ} {a : Name} {b : Block} {s : Stmt} → SameStmt (stmt at n (each a v (Some k) b)) s → s ∈ script_stmts d → GivenLike d (local k) b
each_key_like (same_stmt (same_each h)) i = record { block = _; given = each_key i; same = h }

given_like : {c d : Core} {x : Owned} {b : Block} → SameCore c d → Given c x b → GivenLike d x b
given_like h (an_input {j = j} i below) = let f = like_of h.functions i in record { block = f.like.body; given = an_input f.there (subst (λ n. j < n) f.same.inputs below); same = f.same.body }
given_like h (range_value i) = let s = like_of (same_script_stmts h) i in range_value_like s.same s.there
given_like h (range_turn i) = let s = like_of (same_script_stmts h) i in range_turn_like s.same s.there
given_like h (each_value i) = let s = like_of (same_script_stmts h) i in each_value_like s.same s.there
given_like h (each_key i) = let s = like_of (same_script_stmts h) i in each_key_like s.same s.there

-- BLOCKS OF STATEMENTS

record LoopLike (b e : Block) : Type 0 where
  pub block : Block
  pub loop : LoopBody b block
  pub same : SameBlock e block

range_like : {d : Block} {at n v : ℕ} {lo hi : Outer} {st : Option Outer} {k : Option ℕ} {b : Block} {s : Stmt} → SameStmt (stmt at n (range lo hi st v k b)) s → s ∈ stmts_within d → LoopLike d b
range_like (same_stmt (same_range x y z h)) i = record { block = _; loop = of_range i; same = h }

each_like : {d : Block} {at n v : ℕ} {a : Name} {k : Option ℕ} {b : Block} {s : Stmt} → SameStmt (stmt at n (each a v k b)) s → s ∈ stmts_within d → LoopLike d b
each_like (same_stmt (same_each h)) i = record { block = _; loop = of_each i; same = h }

loop_like : {b d e : Block} → SameBlock b d → LoopBody b e → LoopLike d e
loop_like h (of_range i) = let s = like_of (same_within h) i in range_like s.same s.there
loop_like h (of_each i) = let s = like_of (same_within h) i in each_like s.same s.there

record ChoiceLike (b : Block) (at n : ℕ) (d e : Block) : Type 0 where
  pub condition : Outer
  pub yes_block : Block
  pub no_block : Block
  pub there : stmt at n (choose condition yes_block no_block) ∈ stmts_within b
  pub same_yes : SameBlock d yes_block
  pub same_no : SameBlock e no_block

choice_like : {b : Block} {at n : ℕ} {c : Outer} {d e : Block} {s : Stmt} → SameStmt (stmt at n (choose c d e)) s → s ∈ stmts_within b → ChoiceLike b at n d e
choice_like (same_stmt (same_choose x h k)) i = record { condition = _; yes_block = _; no_block = _; there = i; same_yes = h; same_no = k }

record WhenLike (b : Block) (at n : ℕ) (d : Block) : Type 0 where
  pub condition : Outer
  pub block : Block
  pub there : stmt at n (when condition block) ∈ stmts_within b
  pub same : SameBlock d block

when_like : {b : Block} {at n : ℕ} {c : Outer} {d : Block} {s : Stmt} → SameStmt (stmt at n (when c d)) s → s ∈ stmts_within b → WhenLike b at n d
when_like (same_stmt (same_when x h)) i = record { condition = _; block = _; there = i; same = h }

-- SINGLE ASSIGNMENT

module _ (c d : Core) (h : SameCore c d) (w : SinglyAssigned c) where
  back : SameCore d c
  back = turned_core h

  alike : (x : Owned) (b : Block) (at n : ℕ) (o : Outer) (f e : Block) (i j : ℕ) → Owns d x b → stmt at n (choose o f e) ∈ stmts_within b → Way x f i → Way x e j → i ≡ j
  alike x b at n o f e i j q m u v =
      let p = owns_like back q in
      let s = like_of (same_within p.same) m in
      let l = choice_like s.same s.there in
      w.alike x p.block at n l.condition l.yes_block l.no_block i j p.owns l.there (way_same l.same_yes u) (way_same l.same_no v)

  alone : (x : Owned) (b : Block) (at n : ℕ) (o : Outer) (e : Block) (i : ℕ) → Owns d x b → stmt at n (when o e) ∈ stmts_within b → Way x e i → i ≡ 0
  alone x b at n o e i q m u =
      let p = owns_like back q in
      let s = like_of (same_within p.same) m in
      let l = when_like s.same s.there in
      w.alone x p.block at n l.condition l.block i p.owns l.there (way_same l.same u)

  outside_loops : (x : Owned) (b e : Block) → Owns d x b ⊎ Given d x b → LoopBody b e → IsNamed x e → ⊥
  outside_loops x b e o l n = elim o [
    | inl q ↦ (let p = owns_like back q in let k = loop_like p.same l in w.outside_loops x p.block k.block (inl p.owns) k.loop (named_same k.same n))
    | inr q ↦ (let p = given_like back q in let k = loop_like p.same l in w.outside_loops x p.block k.block (inr p.given) k.loop (named_same k.same n))
  ]

  output_assigned : (f : Function) (j : ℕ) → f ∈ d.functions → j < f.outputs → IsNamed (output j) f.body ⊎ IsWritten (output j) f.body
  output_assigned f j i below =
      let g = like_of back.functions i in
      elim (w.output_assigned g.like j g.there (subst (λ n. j < n) g.same.outputs below)) [
        | inl n ↦ inl (named_same (turned_block g.same.body) n)
        | inr n ↦ inr (written_same (turned_block g.same.body) n)
      ]

  pub singly_assigned : SinglyAssigned d
  singly_assigned = record {
    once = λ x b n o u. (let p = owns_like back o in w.once x p.block n p.owns (way_same p.same u));
    given_once = λ x b n o u. (let p = given_like back o in w.given_once x p.block n p.given (way_same p.same u));
    alike = alike;
    alone = alone;
    assigned = λ x b o r. (let p = owns_like back o in named_same (turned_block p.same) (w.assigned x p.block p.owns (read_same p.same r)));
    outside_loops = outside_loops;
    one_form = λ x b o n u. (let p = owns_like back o in w.one_form x p.block p.owns (named_same p.same n) (written_same p.same u));
    given_form = λ x b o u. (let p = given_like back o in w.given_form x p.block p.given (written_same p.same u));
    output_assigned = output_assigned;
  }
