-- Of cores that are the same: what is live, closed, finished, ready and has a value in one is so in the other, where both know the same.
use Rattle.std.specs.Prelude.{◌≡◌, ℕ, List, Result}
use Rattle.std.proofs.Common.{sym, subst}
use Rattle.values.specs.declared.fault.OpFault.{OpFault}
use Rattle.values.specs.declared.key.Key.{Key}
use Rattle.values.specs.declared.map.Element.{Element}
use Rattle.values.specs.declared.value.Scalar.{Scalar}
use Rattle.values.specs.declared.value.Value.{Value}
use Rattle.language.specs.Core.{Owned, Name, Expr, Exprs, Form, Cell, Stmt, stmt, Action, declare, wait, Block, Core, Awaited}
use Rattle.language.specs.Facts.{Fault, Fact, value, element, Knowledge, OneWrite, OneWriter, Elements, KnownAll, no_cell, next_cell}
use Rattle.language.specs.Meaning.{Live, script, opened, waited, called, Closed, closed, Finished, no_target, value_known, write_known, body_finished, blocks_finished, content_finished, Ready, cells_known, source_closed, names_known, Come, scalar_known, array_closed, HasValue, stored, in_turn, ValueUnder, of_literal, of_name, of_array, of_operator, ValuesUnder, no_operand, operand, Gives, computed, faulty, found, missing, Comes, before, now, ComeAll, none_comes, next_comes, LiveStmt, in_block}
use Rattle.language.specs.Members.{◌∈◌, first, later}
use Rattle.language.specs.Openings.{Decides, one_way, two_ways, in_turns, Opens, then_alone, then_first, else_second, turn, item, InTurn, range_value, range_turn, each_value, each_key, Branches}
use Rattle.language.specs.Places.{Path, Place, place}
use Rattle.fold_laws.specs.Same.{SameExpr, same_literal, same_name, same_whole, same_operator, same_constant, SameExprs, same_none, same_also, Pairwise, no_pair, a_pair, SameForm, same_compute, same_read, SameCell, SameStmt, same_stmt, SameAction, same_declare, same_call_alone, same_assign, same_fill, same_insert, same_print, same_assert, same_when, same_choose, same_range, same_each, same_wait, SameBlock, SameCore}
use Rattle.fold_laws.proofs.Listed.{like_of, same_outer_cells, same_stmt_calls, same_list, function_like, same_function_body, same_calls, same_targets, place_same}
use Rattle.fold_laws.proofs.Turned.{turned_stmt, turned_action, turned_block, turned_all}
use Rattle.fold_laws.proofs.Valued.{has_it, no_other}

-- HEADERS

pub same_decides : {a b : Action} {vs : List Value} → Decides a vs → SameAction a b → Decides b vs
same_decides one_way (same_when h k) = one_way
same_decides two_ways (same_choose h k l) = two_ways
same_decides (in_turns e c) (same_range h k l m) = in_turns e c

-- what a header opens, its like opens the like of
pub record OpensLike (h : Action) (vs : List Value) (k : Key) (b : Block) : Type 0 where
  pub block : Block
  pub opens : Opens h vs k block
  pub same : SameBlock b block

pub same_opens : {a h : Action} {vs : List Value} {k : Key} {b : Block} → Opens a vs k b → SameAction a h → OpensLike h vs k b
same_opens then_alone (same_when h m) = record { block = _; opens = then_alone; same = m }
same_opens then_first (same_choose h m n) = record { block = _; opens = then_first; same = m }
same_opens else_second (same_choose h m n) = record { block = _; opens = else_second; same = n }
same_opens (turn e c i) (same_range h l m n) = record { block = _; opens = turn e c i; same = n }
same_opens (item i) (same_each m) = record { block = _; opens = item i; same = m }

pub same_turn : {a h : Action} {vs : List Value} {k : Key} {x : ℕ} {v : Scalar} → InTurn a vs k x v → SameAction a h → InTurn h vs k x v
same_turn (range_value e i) (same_range h l m n) = range_value e i
same_turn (range_turn e) (same_range h l m n) = range_turn e
same_turn (each_value i) (same_each m) = each_value i
same_turn (each_key e) (same_each m) = each_key e

pub same_branches : {a h : Action} → SameAction a h → Branches a → Branches h
same_branches same_declare b = b
same_branches (same_call_alone h) b = b
same_branches (same_assign h) b = b
same_branches (same_fill h) b = b
same_branches (same_insert h k) b = b
same_branches (same_print h) b = b
same_branches (same_assert h) b = b
same_branches (same_when h m) b = b
same_branches (same_choose h m n) b = b
same_branches (same_range h l m n) b = b
same_branches (same_each m) b = b
same_branches (same_wait m) b = b

-- STATEMENTS OF A KIND

pub record StmtLike (at n : ℕ) (a : Action) (ts : List Stmt) : Type 0 where
  pub action : Action
  pub there : stmt at n action ∈ ts
  pub same : SameAction a action

pub stmt_like : {at n : ℕ} {a : Action} {ss ts : List Stmt} → Pairwise SameStmt ss ts → stmt at n a ∈ ss → StmtLike at n a ts
stmt_like no_pair i = elim i [ ]
stmt_like (a_pair (same_stmt h) hs) first = record { action = _; there = first; same = h }
stmt_like (a_pair h hs) (later i) = let r = stmt_like hs i in record { action = r.action; there = later r.there; same = r.same }

record WaitLike (at n : ℕ) (ns : List Awaited) (b : Block) (ts : List Stmt) : Type 0 where
  pub content : Block
  pub there : stmt at n (wait ns content) ∈ ts
  pub same : SameBlock b content

wait_like : {at n : ℕ} {ns : List Awaited} {b : Block} {ss ts : List Stmt} → Pairwise SameStmt ss ts → stmt at n (wait ns b) ∈ ss → WaitLike at n ns b ts
wait_like no_pair i = elim i [ ]
wait_like (a_pair (same_stmt (same_wait h)) hs) first = record { content = _; there = first; same = h }
wait_like (a_pair h hs) (later i) = let r = wait_like hs i in record { content = r.content; there = later r.there; same = r.same }

declare_like : {at n v : ℕ} {ss ts : List Stmt} → Pairwise SameStmt ss ts → stmt at n (declare v) ∈ ss → stmt at n (declare v) ∈ ts
declare_like no_pair i = elim i [ ]
declare_like (a_pair (same_stmt same_declare) hs) first = first
declare_like (a_pair h hs) (later i) = later (declare_like hs i)

module _ (c d : Core) (same : SameCore c d) (K L : Knowledge) (to : (f : Fact) → K f → L f) (from : (f : Fact) → L f → K f) where
  pub place_is : (path : Path) (x : Name) → place c path x ≡ place d path x
  place_is path x = place_same c d (same_calls same) path x

  pub same_known : {path : Path} {cs ds : List Cell} {vs : List Value} → Pairwise SameCell cs ds → KnownAll K path cs vs → KnownAll L path ds vs
  same_known no_pair no_cell = no_cell
  same_known {path} (a_pair h hs) (next_cell {v} k ks) = next_cell (to _ (subst (λ n. K (value (path, n) v)) h.node k)) (same_known hs ks)

  pub same_elements : {a : Place} {es : List Element} → Elements K a es → Elements L a es
  same_elements x = record {
    in_order = x.in_order;
    written = λ k v i. (let z = x.written k v i in (z.0, to _ z.1));
    all = λ k w v f. x.all k w v (from _ f);
  }

  pub same_writer : {a : Place} → OneWriter K a → OneWriter L a
  same_writer o k w w' v v' x y = o k w w' v v' (from _ x) (from _ y)

  -- a block that is live has its like
  pub record LiveLike (path : Path) (b : Block) : Type 0 where
    pub block : Block
    pub live : Live d L path block
    pub same_block : SameBlock b block

  pub same_write : {a b : Place} {k : Key} {v : Scalar} → a ≡ b → OneWrite K a k v → OneWrite L b k v
  same_write {a} {b} {k} {v} is o = record { writer = o.writer; write = to _ (subst (λ p. K (element p k o.writer v)) is o.write); only = λ w u x. o.only w u (subst (λ p. K (element p k w u)) (sym is) (from _ x)) }

  mutual
    pub same_live : {path : Path} {b : Block} → Live c K path b → LiveLike path b
    same_live script = record { block = d.body; live = script; same_block = same.body }
    same_live (opened l i r o deep) =
        let x = same_live l in
        let t = stmt_like (same_list x.same_block) i in
        let y = same_opens o t.same in
        record { block = y.block; live = opened x.live t.there (same_ready r t.same) y.opens deep; same_block = y.same }
    same_live (waited l i r) =
        let x = same_live l in
        let t = wait_like (same_list x.same_block) i in
        record { block = t.content; live = waited x.live t.there (same_ready r (same_wait t.same)); same_block = t.same }
    same_live (called {c = k} l i m e deep) =
        let x = same_live l in
        let t = like_of (same_list x.same_block) i in
        let g = function_like same.functions _ _ e in
        record { block = g.like.body; live = called x.live t.there (subst (λ ks. k ∈ ks) (same_stmt_calls t.same) m) g.there deep; same_block = g.same.body }

    pub same_closed : {a : Place} → Closed c K a → Closed d L a
    same_closed (closed l m fs o) =
        let x = same_live l in
        closed x.live (declare_like (same_list x.same_block) m)
        (λ st i. (let s = like_of (turned_all (λ s t x. turned_stmt x) (same_list x.same_block)) i in same_finished (fs s.like s.there) (turned_stmt s.same)))
        (same_writer o)

    pub same_finished : {a : Owned} {path : Path} {st t : Stmt} → Finished c K a path st → SameStmt st t → Finished d L a path t
    same_finished {a} (no_target z) h = no_target (λ i. z (subst (λ xs. a ∈ xs) (sym (same_targets h)) i))
    same_finished {path} (value_known {v} k) (same_stmt (same_fill h)) = value_known (to _ (subst (λ n. K (value (path, n) v)) h.cell.node k))
    same_finished {path} (write_known {n} {x} {k} {v} w) (same_stmt (same_insert h j)) = write_known (to _ (subst (λ p. K (element p k (path, n) v)) (place_is path x) w))
    same_finished (body_finished {c = call} deep fs) (same_stmt (same_call_alone h)) =
        body_finished deep
        (λ j x st e t i. (let s = like_of (turned_all (λ s t x. turned_stmt x) (same_function_body same call.function)) i in same_finished (fs j x s.like e t s.there) (turned_stmt s.same)))
    same_finished (blocks_finished br r deep fs) (same_stmt h) =
        blocks_finished (same_branches h br) (same_ready r h)
        (λ k b o. (let y = same_opens o (turned_action h) in deep k y.block y.opens))
        (λ k b st o i. (let y = same_opens o (turned_action h) in let s = like_of (same_list y.same) i in same_finished (fs k y.block s.like y.opens s.there) (turned_stmt s.same)))
    same_finished (content_finished r fs) (same_stmt (same_wait m)) =
        content_finished (same_ready r (same_wait m))
        (λ st i. (let s = like_of (same_list (turned_block m)) i in same_finished (fs s.like s.there) (turned_stmt s.same)))

    pub same_ready : {path : Path} {a h : Action} {vs : List Value} → Ready c K path a vs → SameAction a h → Ready d L path h vs
    same_ready (cells_known ks e) s = cells_known (same_known (same_outer_cells s) ks) (same_decides e s)
    same_ready {path} (source_closed {a = x} {es} cl el) (same_each m) =
        source_closed (subst (λ p. Closed d L p) (place_is path x) (same_closed cl)) (subst (λ p. Elements L p es) (place_is path x) (same_elements el))
    same_ready (names_known cs) (same_wait m) = names_known (λ x i. same_come (cs x i))

    pub same_come : {path : Path} {x : Awaited} → Come c K path x → Come d L path x
    same_come {path} (scalar_known {x} {v} h) = scalar_known (subst (λ p. HasValue d L p v) (place_is path x) (same_has h))
    same_come {path} (array_closed {x} h) = array_closed (subst (λ p. Closed d L p) (place_is path x) (same_closed h))

    pub same_has : {p : Place} {v : Scalar} → HasValue c K p v → HasValue d L p v
    same_has (stored k) = stored (to _ k)
    same_has (in_turn l m r o t deep) =
        let x = same_live l in
        let u = stmt_like (same_list x.same_block) m in
        let y = same_opens o u.same in
        in_turn x.live u.there (same_ready r u.same) y.opens (same_turn t u.same) deep

  -- a statement of a live block
  pub record LiveStmtLike (path : Path) (st : Stmt) : Type 0 where
    pub like : Stmt
    pub live : LiveStmt d L path like
    pub same_stmt : SameStmt st like

  pub same_live_stmt : {path : Path} {st : Stmt} → LiveStmt c K path st → LiveStmtLike path st
  same_live_stmt (in_block l i) =
      let x = same_live l in
      let t = like_of (same_list x.same_block) i in
      record { like = t.like; live = in_block x.live t.there; same_stmt = t.same }

  pub record LiveAction (path : Path) (at n : ℕ) (a : Action) : Type 0 where
    pub action : Action
    pub live : LiveStmt d L path (stmt at n action)
    pub same_action : SameAction a action

  pub same_live_action : {path : Path} {at n : ℕ} {a : Action} → LiveStmt c K path (stmt at n a) → LiveAction path at n a
  same_live_action (in_block l i) =
      let x = same_live l in
      let t = stmt_like (same_list x.same_block) i in
      record { action = t.action; live = in_block x.live t.there; same_action = t.same }

  -- EXPRESSIONS AND CELLS

  mutual
    same_value : {path : Path} {e f : Expr} {r : Result Value OpFault} → SameExpr e f → ValueUnder c K path e r → ValueUnder d L path f r
    same_value same_literal of_literal = of_literal
    same_value {path} same_name (of_name {x} {v} h) = of_name (subst (λ p. HasValue d L p v) (place_is path x) (same_has h))
    same_value {path} same_whole (of_array {a} {es} cl el) =
        of_array (subst (λ p. Closed d L p) (place_is path a) (same_closed cl)) (subst (λ p. Elements L p es) (place_is path a) (same_elements el))
    same_value (same_operator h) (of_operator ws e) = of_operator (same_values h ws) e
    same_value {path} {f} (same_constant x y) w = subst (λ r. ValueUnder d L path f r) (sym (no_other c K path x w)) (has_it d L path y)

    same_values : {path : Path} {es fs : Exprs} {rs : List (Result Value OpFault)} → SameExprs es fs → ValuesUnder c K path es rs → ValuesUnder d L path fs rs
    same_values same_none no_operand = no_operand
    same_values (same_also h hs) (operand w ws) = operand (same_value h w) (same_values hs ws)

  pub same_gives : {path : Path} {f g : Form} {r : Result Value Fault} → Gives c K path f r → SameForm f g → Gives d L path g r
  same_gives (computed w) (same_compute h) = computed (same_value h w)
  same_gives (faulty w) (same_compute h) = faulty (same_value h w)
  same_gives {path} (found {a} k i o) same_read = found (to _ k) i (same_write (place_is path a) o)
  same_gives {path} (missing {a} {k} h i cl none) same_read =
      missing (to _ h) i (subst (λ p. Closed d L p) (place_is path a) (same_closed cl))
      (λ w v x. none w v (subst (λ p. K (element p k w v)) (sym (place_is path a)) (from _ x)))

  pub same_comes : {path : Path} {x y : Cell} {v : Value} → SameCell x y → Comes c K path x v → Comes d L path y v
  same_comes {path} {v} h (before k) = before (to _ (subst (λ n. K (value (path, n) v)) h.node k))
  same_comes h (now g) = now (same_gives g h.form)

  pub same_come_all : {path : Path} {xs ys : List Cell} {vs : List Value} → Pairwise SameCell xs ys → ComeAll c K path xs vs → ComeAll d L path ys vs
  same_come_all no_pair none_comes = none_comes
  same_come_all (a_pair h hs) (next_comes k ks) = next_comes (same_comes h k) (same_come_all hs ks)
