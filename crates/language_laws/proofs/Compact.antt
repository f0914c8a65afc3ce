-- What follows from all that is ever known follows after some round: so the meaning is closed under the rules.
use Rattle.std.specs.Prelude.{◌≡◌, ℕ, suc, ◌≤◌, List, ◌∷◌, slice_get, Some, Result, max}
use Rattle.std.proofs.Common.{inl, inr, arith}
use Rattle.values.specs.declared.fault.OpFault.{OpFault}
use Rattle.values.specs.declared.key.Key.{Key}
use Rattle.values.specs.declared.map.Element.{Element}
use Rattle.values.specs.declared.value.Scalar.{Scalar}
use Rattle.values.specs.declared.value.Value.{Value}
use Rattle.values.specs.Maps.{element as entry}
use Rattle.language.specs.Core.{Owned, output, Name, Expr, Exprs, Form, Cell, Awaited, Stmt, Action, Block, Core}
use Rattle.language.specs.Facts.{Fault, Fact, element, Knowledge, OneWriter, Elements, KnownAll, no_cell, next_cell}
use Rattle.language.specs.Meaning.{Live, script, opened, waited, called, Closed, closed, Finished, no_target, value_known, write_known, body_finished, blocks_finished, content_finished, Ready, cells_known, source_closed, names_known, Come, scalar_known, array_closed, HasValue, stored, in_turn, ValueUnder, of_literal, of_name, of_array, of_operator, ValuesUnder, no_operand, operand, Gives, computed, faulty, found, missing, Comes, before, now, ComeAll, none_comes, next_comes, LiveStmt, in_block, New, cell_value, cell_fault, assigned, filled, inserted, printed, bad_range, too_deep_header, too_deep_call, written_twice, Known, Meaning}
use Rattle.language.specs.Members.{◌∈◌}
use Rattle.language.specs.Openings.{Opens}
use Rattle.language.specs.Parts.{block_list, function_body}
use Rattle.language.specs.Places.{Path, Place}
use Rattle.language_laws.proofs.Growth.{Grows, keeps_all, keeps_live, keeps_closed, keeps_finished, keeps_ready, keeps_come, keeps_stmt}
use Rattle.language_laws.proofs.OneValue.{keeps_answer, keeps_answers}
use Rattle.language_laws.proofs.Rounds.{known_later}
use Rattle.language_laws.proofs.Stages.{bound_list, all_stmts, all_body, all_opened}

max_left : (n m : ℕ) → n ≤ max n m
max_left n m = omega arith

max_right : (n m : ℕ) → m ≤ max n m
max_right n m = omega arith

-- EACH THING

module _ (s : Core) (grow : (n m : ℕ) → n ≤ m → Grows s (Known s n) (Known s m)) where
  known_up : (n m : ℕ) (f : Fact) → n ≤ m → Known s n f → Known s m f
  known_up n m f h k = known_later s n m f h k

  all_round : {path : Path} {cs : List Cell} {vs : List Value} → KnownAll (Meaning s) path cs vs → (n : ℕ) × KnownAll (Known s n) path cs vs
  all_round no_cell = (0, no_cell)
  all_round (next_cell k ks) =
      let r = all_round ks in
      let n = max k.0 r.0 in
      (n, next_cell (known_up k.0 n _ (omega arith) k.1) (keeps_all s (Known s r.0) (Known s n) (grow r.0 n (omega arith)) r.1))

  elements_round : {a : Place} {es : List Element} → Elements (Meaning s) a es → (n : ℕ) × ((m : ℕ) → n ≤ m → Elements (Known s m) a es)
  elements_round {a} {es} x =
      let r = bound_list ℕ 0 max (λ n m. n ≤ m) max_left max_right (λ n (e : Element). (w : Place) × Known s n (element a e.key w e.value)) (λ e n m h k. (k.0, known_up n m _ h k.1)) es
      (λ e i. (let z = x.written e.key e.value i in (z.1.0, (z.0, z.1.1)))) in (
        r.0,
        λ m h. record {
          in_order = x.in_order;
          written = λ k v i. (let z = r.1 (entry k v) i in (z.0, known_up r.0 m _ h z.1));
          all = λ k w v f. x.all k w v (m, f);
        },
      )

  one_writer_round : {a : Place} (m : ℕ) → OneWriter (Meaning s) a → OneWriter (Known s m) a
  one_writer_round m o = λ k w w' v v' x y. o k w w' v v' (m, x) (m, y)

  finished_up : (a : Owned) (path : Path) (st : Stmt) (n m : ℕ) → n ≤ m → Finished s (Known s n) a path st → Finished s (Known s m) a path st
  finished_up a path st n m h k = keeps_finished s (Known s n) (Known s m) (grow n m h) k

  -- the stages are the rounds
  stmts_round : {a : Owned} {path : Path} (ss : List Stmt) → ((st : Stmt) → st ∈ ss → (n : ℕ) × Finished s (Known s n) a path st) → (n : ℕ) × ((st : Stmt) → st ∈ ss → Finished s (Known s n) a path st)
  stmts_round ss f = all_stmts ℕ 0 max (λ n m. n ≤ m) max_left max_right (λ n a path st. Finished s (Known s n) a path st) finished_up ss f

  names_round : {path : Path} (ns : List Awaited) → ((x : Awaited) → x ∈ ns → (n : ℕ) × Come s (Known s n) path x) → (n : ℕ) × ((x : Awaited) → x ∈ ns → Come s (Known s n) path x)
  names_round {path} ns f = bound_list ℕ 0 max (λ n m. n ≤ m) max_left max_right (λ n x. Come s (Known s n) path x) (λ x n m h k. keeps_come s (Known s n) (Known s m) (grow n m h) k) ns f

  body_round : {a : Owned} {path : Path} (os : List Name) (body : List Stmt) → ((j : ℕ) (x : Name) (st : Stmt) → slice_get os j ≡ Some x → x.what ≡ a → st ∈ body → (n : ℕ) × Finished s (Known s n) (output j) path st)
      → (n : ℕ) × ((j : ℕ) (x : Name) (st : Stmt) → slice_get os j ≡ Some x → x.what ≡ a → st ∈ body → Finished s (Known s n) (output j) path st)
  body_round os body f = all_body ℕ 0 max (λ n m. n ≤ m) max_left max_right (λ n a path st. Finished s (Known s n) a path st) finished_up os body f

  header_round : {K : Knowledge} {a : Owned} {path : Path} {at : ℕ} {header : Action} {vs : List Value} → Ready s K path header vs
      → ((k : Key) (b : Block) (st : Stmt) → Opens header vs k b → st ∈ block_list b → (n : ℕ) × Finished s (Known s n) a ((at, k) ∷ path) st)
      → (n : ℕ) × ((k : Key) (b : Block) (st : Stmt) → Opens header vs k b → st ∈ block_list b → Finished s (Known s n) a ((at, k) ∷ path) st)
  header_round r f = all_opened ℕ 0 max (λ n m. n ≤ m) max_left max_right (λ n a path st. Finished s (Known s n) a path st) finished_up r f

  mutual
    live_round : {path : Path} {b : Block} → Live s (Meaning s) path b → (n : ℕ) × Live s (Known s n) path b
    live_round script = (0, script)
    live_round (opened l i r o d) =
        let a = live_round l in
        let b = ready_round r in
        let n = max a.0 b.0 in
        (n, opened (keeps_live s (Known s a.0) (Known s n) (grow a.0 n (omega arith)) a.1) i (keeps_ready s (Known s b.0) (Known s n) (grow b.0 n (omega arith)) b.1) o d)
    live_round (waited l i r) =
        let a = live_round l in
        let b = ready_round r in
        let n = max a.0 b.0 in
        (n, waited (keeps_live s (Known s a.0) (Known s n) (grow a.0 n (omega arith)) a.1) i (keeps_ready s (Known s b.0) (Known s n) (grow b.0 n (omega arith)) b.1))
    live_round (called l i m e d) = let a = live_round l in (a.0, called a.1 i m e d)

    pub closed_round : {p : Place} → Closed s (Meaning s) p → (n : ℕ) × Closed s (Known s n) p
    closed_round (closed {b = b} l m fs o) =
        let a = live_round l in
        let r = stmts_round (block_list b) (λ st i. finished_round (fs st i)) in
        let n = max a.0 r.0 in
        (n, closed (keeps_live s (Known s a.0) (Known s n) (grow a.0 n (omega arith)) a.1) m (λ st i. keeps_finished s (Known s r.0) (Known s n) (grow r.0 n (omega arith)) (r.1 st i)) (one_writer_round n o))

    finished_round : {a : Owned} {path : Path} {st : Stmt} → Finished s (Meaning s) a path st → (n : ℕ) × Finished s (Known s n) a path st
    finished_round (no_target h) = (0, no_target h)
    finished_round (value_known k) = (k.0, value_known k.1)
    finished_round (write_known k) = (k.0, write_known k.1)
    finished_round (body_finished {c = c} d fs) =
        let r = body_round c.outputs (function_body s c.function) (λ j x st e t i. finished_round (fs j x st e t i)) in (r.0, body_finished d r.1)
    finished_round (blocks_finished h r d fs) =
        let a = ready_round r in
        let b = header_round r (λ k b st o i. finished_round (fs k b st o i)) in
        let n = max a.0 b.0 in (
          n,
          blocks_finished h (keeps_ready s (Known s a.0) (Known s n) (grow a.0 n (omega arith)) a.1) d
              (λ k c st o i. keeps_finished s (Known s b.0) (Known s n) (grow b.0 n (omega arith)) (b.1 k c st o i)),
        )
    finished_round (content_finished {b = b} r fs) =
        let a = ready_round r in
        let q = stmts_round (block_list b) (λ st i. finished_round (fs st i)) in
        let n = max a.0 q.0 in
        (n, content_finished (keeps_ready s (Known s a.0) (Known s n) (grow a.0 n (omega arith)) a.1) (λ st i. keeps_finished s (Known s q.0) (Known s n) (grow q.0 n (omega arith)) (q.1 st i)))

    pub ready_round : {path : Path} {h : Action} {vs : List Value} → Ready s (Meaning s) path h vs → (n : ℕ) × Ready s (Known s n) path h vs
    ready_round (cells_known ks d) = let r = all_round ks in (r.0, cells_known r.1 d)
    ready_round (source_closed c x) =
        let a = closed_round c in
        let b = elements_round x in
        let n = max a.0 b.0 in
        (n, source_closed (keeps_closed s (Known s a.0) (Known s n) (grow a.0 n (omega arith)) a.1) (b.1 n (omega arith)))
    ready_round (names_known {ns = ns} cs) = let r = names_round ns (λ x i. come_round (cs x i)) in (r.0, names_known r.1)

    come_round : {path : Path} {x : Awaited} → Come s (Meaning s) path x → (n : ℕ) × Come s (Known s n) path x
    come_round (scalar_known v) = let r = value_round v in (r.0, scalar_known r.1)
    come_round (array_closed c) = let r = closed_round c in (r.0, array_closed r.1)

    pub value_round : {p : Place} {v : Scalar} → HasValue s (Meaning s) p v → (n : ℕ) × HasValue s (Known s n) p v
    value_round (stored k) = (k.0, stored k.1)
    value_round (in_turn l m r o t d) =
        let a = live_round l in
        let b = ready_round r in
        let n = max a.0 b.0 in
        (n, in_turn (keeps_live s (Known s a.0) (Known s n) (grow a.0 n (omega arith)) a.1) m (keeps_ready s (Known s b.0) (Known s n) (grow b.0 n (omega arith)) b.1) o t d)

  stmt_round : {path : Path} {st : Stmt} → LiveStmt s (Meaning s) path st → (n : ℕ) × LiveStmt s (Known s n) path st
  stmt_round (in_block l i) = let r = live_round l in (r.0, in_block r.1 i)

  mutual
    answer_round : {path : Path} {e : Expr} {r : Result Value OpFault} → ValueUnder s (Meaning s) path e r → (n : ℕ) × ValueUnder s (Known s n) path e r
    answer_round of_literal = (0, of_literal)
    answer_round (of_name h) = let r = value_round h in (r.0, of_name r.1)
    answer_round (of_array c x) =
        let a = closed_round c in
        let b = elements_round x in
        let n = max a.0 b.0 in
        (n, of_array (keeps_closed s (Known s a.0) (Known s n) (grow a.0 n (omega arith)) a.1) (b.1 n (omega arith)))
    answer_round (of_operator es q) = let r = answers_round es in (r.0, of_operator r.1 q)

    answers_round : {path : Path} {es : Exprs} {rs : List (Result Value OpFault)} → ValuesUnder s (Meaning s) path es rs → (n : ℕ) × ValuesUnder s (Known s n) path es rs
    answers_round no_operand = (0, no_operand)
    answers_round (operand e es) =
        let a = answer_round e in
        let b = answers_round es in
        let n = max a.0 b.0 in
        (n, operand (keeps_answer s (Known s a.0) (Known s n) (grow a.0 n (omega arith)) a.1) (keeps_answers s (Known s b.0) (Known s n) (grow b.0 n (omega arith)) b.1))

  -- what a cell has by all that is ever known it has from some round on
  gives_round : {path : Path} {f : Form} {r : Result Value Fault} → Gives s (Meaning s) path f r → (n : ℕ) × ((m : ℕ) → n ≤ m → Gives s (Known s m) path f r)
  gives_round (computed e) = let a = answer_round e in (a.0, λ m h. computed (keeps_answer s (Known s a.0) (Known s m) (grow a.0 m h) a.1))
  gives_round (faulty e) = let a = answer_round e in (a.0, λ m h. faulty (keeps_answer s (Known s a.0) (Known s m) (grow a.0 m h) a.1))
  gives_round (found k i o) =
      let n = max k.0 (o.write).0 in
      (n, λ m h. found (known_up k.0 m _ (omega arith) k.1) i (record { writer = o.writer; write = known_up (o.write).0 m _ (omega arith) (o.write).1; only = λ w u x. o.only w u (m, x) }))
  gives_round (missing k i c x) =
      let a = closed_round c in
      let n = max k.0 a.0 in
      (n, λ m h. missing (known_up k.0 m _ (omega arith) k.1) i (keeps_closed s (Known s a.0) (Known s m) (grow a.0 m (omega arith)) a.1) (λ w v y. x w v (m, y)))

  comes_round : {path : Path} {c : Cell} {v : Value} → Comes s (Meaning s) path c v → (n : ℕ) × ((m : ℕ) → n ≤ m → Comes s (Known s m) path c v)
  comes_round (before k) = (k.0, λ m h. before (known_up k.0 m _ h k.1))
  comes_round (now g) = let r = gives_round g in (r.0, λ m h. now (r.1 m h))

  come_all_round : {path : Path} {cs : List Cell} {vs : List Value} → ComeAll s (Meaning s) path cs vs → (n : ℕ) × ((m : ℕ) → n ≤ m → ComeAll s (Known s m) path cs vs)
  come_all_round none_comes = (0, λ m h. none_comes)
  come_all_round (next_comes c cs) =
      let a = comes_round c in
      let b = come_all_round cs in
      (max a.0 b.0, λ m h. next_comes (a.1 m (omega arith)) (b.1 m (omega arith)))

  live_up : {path : Path} {st : Stmt} (n m : ℕ) → n ≤ m → LiveStmt s (Known s n) path st → LiveStmt s (Known s m) path st
  live_up n m h l = keeps_stmt s (Known s n) (Known s m) (grow n m h) l

  -- WHAT FOLLOWS FROM ALL THAT IS EVER KNOWN FOLLOWS AFTER SOME ROUND
  pub new_round : {f : Fact} → New s (Meaning s) f → (n : ℕ) × New s (Known s n) f
  new_round (cell_value h i g) = let a = stmt_round h in let b = gives_round g in let n = max a.0 b.0 in (n, cell_value (live_up a.0 n (omega arith) a.1) i (b.1 n (omega arith)))
  new_round (cell_fault h i g) = let a = stmt_round h in let b = gives_round g in let n = max a.0 b.0 in (n, cell_fault (live_up a.0 n (omega arith) a.1) i (b.1 n (omega arith)))
  new_round (assigned h x) = let a = stmt_round h in let b = comes_round x in let n = max a.0 b.0 in (n, assigned (live_up a.0 n (omega arith) a.1) (b.1 n (omega arith)))
  new_round (filled h x i) = let a = stmt_round h in let b = comes_round x in let n = max a.0 b.0 in (n, filled (live_up a.0 n (omega arith) a.1) (b.1 n (omega arith)) i)
  new_round (inserted h x i y) =
      let a = stmt_round h in
      let b = comes_round x in
      let c = comes_round y in
      let n = max a.0 (max b.0 c.0) in
      (n, inserted (live_up a.0 n (omega arith) a.1) (b.1 n (omega arith)) i (c.1 n (omega arith)))
  new_round (printed h x) = let a = stmt_round h in let b = comes_round x in let n = max a.0 b.0 in (n, printed (live_up a.0 n (omega arith) a.1) (b.1 n (omega arith)))
  new_round (bad_range h x e q) = let a = stmt_round h in let b = come_all_round x in let n = max a.0 b.0 in (n, bad_range (live_up a.0 n (omega arith) a.1) (b.1 n (omega arith)) e q)
  new_round (too_deep_header h (inl x) o e) = let a = stmt_round h in let b = come_all_round x in let n = max a.0 b.0 in (n, too_deep_header (live_up a.0 n (omega arith) a.1) (inl (b.1 n (omega arith))) o e)
  new_round (too_deep_header h (inr r) o e) =
      let a = stmt_round h in
      let b = ready_round r in
      let n = max a.0 b.0 in
      (n, too_deep_header (live_up a.0 n (omega arith) a.1) (inr (keeps_ready s (Known s b.0) (Known s n) (grow b.0 n (omega arith)) b.1)) o e)
  new_round (too_deep_call h i e) = let a = stmt_round h in (a.0, too_deep_call a.1 i e)
  new_round (written_twice h x y w) =
      let a = stmt_round h in
      let n = max a.0 (max x.0 y.0) in
      (n, written_twice (live_up a.0 n (omega arith) a.1) (known_up x.0 n _ (omega arith) x.1) (known_up y.0 n _ (omega arith) y.1) w)

  -- so the meaning is closed under the rules
  pub meaning_closed : (f : Fact) → New s (Meaning s) f → Meaning s f
  meaning_closed f h = let r = new_round h in (suc r.0, inr r.1)

  -- and what is live, closed and ready by it is so after some round
  pub live_meaning : {path : Path} {b : Block} → Live s (Meaning s) path b → (n : ℕ) × Live s (Known s n) path b
  live_meaning l = live_round l
