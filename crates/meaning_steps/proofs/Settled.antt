-- What is taken, is so and is settled is just what is live, closed and known of names.
use Rattle.std.specs.Prelude.{◌≡◌, ℕ, ◌<◌, pos, List, [], ◌∷◌, length, Some, slice_get}
use Rattle.values.specs.declared.key.Key.{Key}
use Rattle.values.specs.declared.value.Scalar.{Scalar}
use Rattle.values.specs.declared.value.Value.{Value}
use Rattle.language.specs.Core.{Owned, Awaited, scalar, array, Stmt, stmt, Call, Function, Action, wait, Block, Core}
use Rattle.language.specs.Facts.{Knowledge}
use Rattle.language.specs.Meaning.{Live, script, opened, waited, called, Closed, closed, Finished, no_target, value_known, write_known, body_finished, blocks_finished, content_finished, Ready, cells_known, source_closed, names_known, Come, scalar_known, array_closed, HasValue, stored, in_turn, LiveStmt, in_block}
use Rattle.language.specs.Members.{◌∈◌}
use Rattle.language.specs.Openings.{Opens, InTurn}
use Rattle.language.specs.Parts.{block_list, stmt_calls}
use Rattle.language.specs.Places.{Path, Place, max_path_steps}
use Rattle.meaning_steps.specs.Taken.{Taken, ComeBy, ReadyBy, by_cells, by_source, by_names, FinishedBy, no_target_by, value_by, write_by, body_by, blocks_by, content_by, IsSo, IsSettled, FollowsSo}

module _ (s : Core) (K : Knowledge) (T : Taken) (so : IsSo s K T) where
  pub come_so : {path : Path} (x : Awaited) → ComeBy s T path x → Come s K path x
  come_so (scalar x) h = scalar_known (so.has _ h.0 h.1)
  come_so (array x) h = array_closed (so.closed _ h)

  pub ready_so : {path : Path} {h : Action} {vs : List Value} → ReadyBy s K T path h vs → Ready s K path h vs
  ready_so (by_cells k d) = cells_known k d
  ready_so (by_source c es) = source_closed (so.closed _ c) es
  ready_so (by_names f) = names_known (λ x i. come_so x (f x i))

  pub finished_so : {a : Owned} {path : Path} {st : Stmt} → FinishedBy s K T a path st → Finished s K a path st
  finished_so (no_target_by h) = no_target h
  finished_so (value_by k) = value_known k
  finished_so (write_by k) = write_known k
  finished_so (body_by d fs) = body_finished d (λ j x st e t i. finished_so (fs j x st e t i))
  finished_so (blocks_by h r d fs) = blocks_finished h (ready_so r) d (λ k b st o i. finished_so (fs k b st o i))
  finished_so (content_by r fs) = content_finished (ready_so r) (λ st i. finished_so (fs st i))

module _ (s : Core) (K : Knowledge) (T : Taken) (all : IsSettled s K T) where
  mutual
    pub live_taken : {path : Path} {b : Block} → Live s K path b → (st : Stmt) → st ∈ block_list b → T.live path st
    live_taken script st i = all.script st i
    live_taken (opened l m r o d) st i = all.opened _ _ _ _ _ _ _ st (live_taken l _ m) (ready_taken r) o d i
    live_taken (waited l m r) st i = all.waited _ _ _ _ _ st (live_taken l _ m) (ready_taken r) i
    live_taken (called l m c e d) st i = all.called _ _ st _ _ (live_taken l _ m) c e d i

    pub closed_taken : {a : Place} → Closed s K a → T.closed a
    closed_taken (closed l m fs o) = all.closed _ _ _ _ _ l (λ st i. live_taken l st i) m (λ st i. finished_taken (fs st i)) o

    pub finished_taken : {a : Owned} {path : Path} {st : Stmt} → Finished s K a path st → FinishedBy s K T a path st
    finished_taken (no_target h) = no_target_by h
    finished_taken (value_known k) = value_by k
    finished_taken (write_known k) = write_by k
    finished_taken (body_finished d fs) = body_by d (λ j x st e t i. finished_taken (fs j x st e t i))
    finished_taken (blocks_finished h r d fs) = blocks_by h (ready_taken r) d (λ k b st o i. finished_taken (fs k b st o i))
    finished_taken (content_finished r fs) = content_by (ready_taken r) (λ st i. finished_taken (fs st i))

    pub ready_taken : {path : Path} {h : Action} {vs : List Value} → Ready s K path h vs → ReadyBy s K T path h vs
    ready_taken (cells_known k d) = by_cells k d
    ready_taken (source_closed c es) = by_source (closed_taken c) es
    ready_taken (names_known f) = by_names (λ x i. come_taken (f x i))

    pub come_taken : {path : Path} {x : Awaited} → Come s K path x → ComeBy s T path x
    come_taken (scalar_known h) = (_, has_taken h)
    come_taken (array_closed c) = closed_taken c

    pub has_taken : {p : Place} {v : Scalar} → HasValue s K p v → T.has p v
    has_taken (stored k) = all.stored _ _ k
    has_taken (in_turn l m r o t d) = all.in_turn _ _ _ _ _ _ _ _ _ (live_taken l _ m) (ready_taken r) o t d

  pub stmt_taken : {path : Path} {st : Stmt} → LiveStmt s K path st → T.live path st
  stmt_taken (in_block l i) = live_taken l _ i

-- each step from what is so is so
module _ (s : Core) (K : Knowledge) (T : Taken) (so : IsSo s K T) where
  by_opened : {path : Path} {at n : ℕ} {header : Action} {vs : List Value} {k : Key} {c : Block} {st : Stmt} → LiveStmt s K path (stmt at n header)
      → ReadyBy s K T path header vs → Opens header vs k c → length path < max_path_steps → st ∈ block_list c → LiveStmt s K ((at, k) ∷ path) st
  by_opened (in_block b m) r o d i = in_block (opened b m (ready_so s K T so r) o d) i

  by_waited : {path : Path} {at n : ℕ} {ns : List Awaited} {c : Block} {st : Stmt} → LiveStmt s K path (stmt at n (wait ns c))
      → ReadyBy s K T path (wait ns c) [] → st ∈ block_list c → LiveStmt s K path st
  by_waited (in_block b m) r i = in_block (waited b m (ready_so s K T so r)) i

  by_called : {path : Path} {caller st : Stmt} {c : Call} {f : Function} → LiveStmt s K path caller → c ∈ stmt_calls caller
      → slice_get s.functions c.function ≡ Some f → length path < max_path_steps → st ∈ block_list f.body → LiveStmt s K ((c.at, Key.Number (pos 0)) ∷ path) st
  by_called (in_block b m) j e d i = in_block (called b m j e d) i

  by_turn : {path : Path} {at n x : ℕ} {header : Action} {vs : List Value} {k : Key} {b : Block} {v : Scalar} → LiveStmt s K path (stmt at n header)
      → ReadyBy s K T path header vs → Opens header vs k b → InTurn header vs k x v → length path < max_path_steps → HasValue s K ((at, k) ∷ path, x) v
  by_turn (in_block b m) r o t d = in_turn b m (ready_so s K T so r) o t d

  -- WHAT FOLLOWS AT ONCE FROM WHAT IS SO IS SO
  pub follows_so : IsSo s K T → FollowsSo s K T
  follows_so so = record {
    opened = λ path at n header vs k c st l r o d i. by_opened (so.live path (stmt at n header) l) r o d i;
    waited = λ path at n ns c st l r i. by_waited (so.live path (stmt at n (wait ns c)) l) r i;
    called = λ path caller st c f l j e d i. by_called (so.live path caller l) j e d i;
    closed = λ path b at n m l i fs o. closed l i (λ st j. finished_so s K T so (fs st j)) o;
    in_turn = λ path at n x header vs k b v l r o t d. by_turn (so.live path (stmt at n header) l) r o t d;
  }
