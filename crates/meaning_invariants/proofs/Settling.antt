-- What a program takes is settled where all that is ready is open and all that is finished is closed; so it keeps all that is known.
use Rattle.std.specs.Prelude.{◌≡◌, ◌⊎◌, ℕ, ◌<◌, pos, Bool, true, false, List, [], ◌∷◌, length, Option, Some, None, slice_get, refl}
use Rattle.std.proofs.Common.{inl, inr, sym, ap, ◌∙◌, subst}
use Rattle.values.specs.declared.key.Key.{Key}
use Rattle.values.specs.declared.value.Scalar.{Scalar}
use Rattle.values.specs.declared.value.Value.{Value}
use Rattle.values.specs.declared.value.Value.TheVariants.{One, Many}
use Rattle.language.specs.Core.{local, Call, Awaited, Stmt, stmt, Action, declare, wait, Block, Function, Core}
use Rattle.language.specs.Facts.{Knowledge, OneWriter}
use Rattle.language.specs.Meaning.{HasValue, stored, Live, LiveStmt, Ready}
use Rattle.language.specs.Members.{◌∈◌}
use Rattle.language.specs.Openings.{Branches, InTurn, Opens, then_alone, then_first, else_second, turn, item}
use Rattle.language.specs.Parts.{block_list, script_blocks, stmt_calls}
use Rattle.language.specs.Places.{Path, Place, max_path_steps}
use Rattle.language.specs.WellFormed.{NamesFound}
use Rattle.language_laws.proofs.Declared.{live_block}
use Rattle.meaning_steps.specs.Kept.{Keeps, scalar_by}
use Rattle.meaning_steps.specs.Taken.{FinishedBy, IsSettled, ReadyBy}
use Rattle.meaning_steps.proofs.Settled.{closed_taken, live_taken, ready_so, ready_taken, stmt_taken}
use Rattle.meaning_facts.specs.declared.fact_base.FactBase.{FactBase}
use Rattle.meaning_facts.specs.Growing.{KeepsFacts}
use Rattle.meaning_facts.specs.Keeping.{kept_of, turn_at, IsPlaced}
use Rattle.meaning_facts.specs.Paths.{path_of}
use Rattle.meaning_facts.specs.Sighted.{closed_at, sight_of}
use Rattle.meaning_facts.proofs.Keeping.{by_located, one_instance}
use Rattle.meaning_cells.proofs.Readying.{HasChosen, ready_chosen}
use Rattle.meaning_invariants.specs.Active.{Active, active, Candidate, goal_of, HasBlock, HasIndexes, IsAllClosed, IsAllOpen, IsDeclared, IsListed, IsRight, taken_by}
use Rattle.meaning_invariants.specs.Never.{never_ends}
use Rattle.meaning_invariants.proofs.Apart as apart
use Rattle.meaning_invariants.proofs.Ending.{done_by}
use Rattle.meaning_invariants.proofs.Nevers.{never_finished}
use Rattle.meaning_invariants.proofs.EndedRight.{right_apart, right_so}
use Rattle.meaning_invariants.proofs.Sights.{sees, come_all, ready_names}

-- what opens blocks branches
pub opens_branches : {header : Action} {vs : List Value} {k : Key} {b : Block} → Opens header vs k b → Branches header
opens_branches then_alone = tt
opens_branches then_first = tt
opens_branches else_second = tt
opens_branches (turn p q l) = tt
opens_branches (item m) = tt

module _ (s : Core) (K : Knowledge) (l : FactBase) (ls : List Active) (levels : ℕ) (arrays : List Candidate) (names : NamesFound s) (placed : IsPlaced s l.instances) (keeps : KeepsFacts K l)
    (right : IsRight s K l ls) (open_all : IsAllOpen s K l ls) (close_all : IsAllClosed s levels l ls arrays) (indexes : HasIndexes s K)
    (one : (p : Place) (v u : Scalar) → HasValue s K p v → HasValue s K p u → v ≡ u) where
  abbrev At : ℕ → Path
  At i = path_of l.instances.all.items i

  -- the instance and the block that a header has opened
  record Opened (at n : ℕ) (header : Action) (vs : List Value) (k : Key) (b : Block) (path : Path) : Type 0 where
    parent : ℕ
    parent_is : At parent ≡ path
    listed : active parent (stmt at n header) ∈ ls
    choice : HasChosen (sight_of l parent) header vs
    ready : Ready s K (At parent) header vs
    block : HasBlock l ls parent at k b

  open_block : (at n : ℕ) (header : Action) (vs : List Value) (k : Key) (b : Block) (path : Path) → IsListed l ls path (stmt at n header) → ReadyBy s K (taken_by l ls) path header vs → Opens header vs k b
      → length path < max_path_steps → Opened at n header vs k b path
  open_block at n header vs k b path h ready o fits =
      let i = h.instance in
      let here : ReadyBy s K (taken_by l ls) (At i) header vs = subst (λ (z : Path). ReadyBy s K (taken_by l ls) z header vs) (sym h.path_is) ready in
      let short : length (At i) < max_path_steps = subst (λ (z : Path). length z < max_path_steps) (sym h.path_is) fits in
      let r = ready_chosen s K (taken_by l ls) (At i) (sight_of l i) (sees s K l ls placed keeps (right_apart s K l ls right) i h.within) header vs (opens_branches o) here in
      let so = ready_so s K (taken_by l ls) (right_so s K l ls keeps right) here in
      record {
        parent = h.instance;
        parent_is = h.path_is;
        listed = h.there;
        choice = r;
        ready = so;
        block = open_all.blocks i at n header r.choice vs k b h.there r.chosen_is so o short;
      }

  -- a statement of a block that is listed in an instance behind another
  list_behind : (i at : ℕ) (k : Key) (b : Block) (path : Path) → At i ≡ path → HasBlock l ls i at k b → (st : Stmt) → st ∈ block_list b → IsListed l ls ((at, k) ∷ path) st
  list_behind i at k b path e h st m =
      let c = placed.tree.opens i at k h.instance h.opened in
      record { instance = h.instance; within = c.within; there = h.listed st m; path_is = c.path_is ∙ ap (λ (z : Path). (at, k) ∷ z) e }

  opened : (path : Path) (at n : ℕ) (header : Action) (vs : List Value) (k : Key) (c : Block) (st : Stmt) → IsListed l ls path (stmt at n header) → ReadyBy s K (taken_by l ls) path header vs → Opens header vs k c
      → length path < max_path_steps → st ∈ block_list c → IsListed l ls ((at, k) ∷ path) st
  opened path at n header vs k c st h ready o fits m = let r = open_block at n header vs k c path h ready o fits in list_behind r.parent at k c path r.parent_is r.block st m

  waited : (path : Path) (at n : ℕ) (ns : List Awaited) (c : Block) (st : Stmt) → IsListed l ls path (stmt at n (wait ns c)) → ReadyBy s K (taken_by l ls) path (wait ns c) [] → st ∈ block_list c → IsListed l ls path st
  waited path at n ns c st h ready m =
      let come = come_all s l ls placed h.instance h.within ns (ready_names (subst (λ (z : Path). ReadyBy s K (taken_by l ls) z (wait ns c) []) (sym h.path_is) ready)) in
      record { instance = h.instance; within = h.within; there = open_all.waits h.instance at n ns c st h.there come m; path_is = h.path_is }

  called : (path : Path) (caller st : Stmt) (c : Call) (f : Function) → IsListed l ls path caller → c ∈ stmt_calls caller → slice_get s.functions c.function ≡ Some f → length path < max_path_steps → st ∈ block_list f.body
      → IsListed l ls ((c.at, Key.Number (pos 0)) ∷ path) st
  called path caller st c f h i e fits m =
      list_behind h.instance c.at (Key.Number (pos 0)) f.body path h.path_is (open_all.calls h.instance caller c f h.there i e (subst (λ (z : Path). length z < max_path_steps) (sym h.path_is) fits)) st m

  -- CLOSING

  -- what is taken of an instance
  closed_is : (i n : ℕ) → i < length l.instances.all.items → (kept_of l).closed (At i, n) ≡ closed_at l (record { instance = i; node = n })
  closed_is i n within = by_located l.instances placed.tree false (closed_at l) (record { instance = i; node = n }) (At i, n) (record { within = within; view_is = refl })

  -- the statements of a block that are listed at a path are listed in the one instance there
  listed_there : (i : ℕ) → i < length l.instances.all.items → (path : Path) → At i ≡ path → (st : Stmt) → IsListed l ls path st → active i st ∈ ls
  listed_there i within path e st h =
      let same : h.instance ≡ i = one_instance l.instances placed.tree h.instance i h.within within (h.path_is ∙ sym e) in
      subst (λ (z : ℕ). active z st ∈ ls) same h.there

  close_at : (i at m n : ℕ) (b : Block) → i < length l.instances.all.items → b ∈ script_blocks s → ((st : Stmt) → st ∈ block_list b → active i st ∈ ls) → stmt at m (declare n) ∈ block_list b
      → ((st : Stmt) → st ∈ block_list b → FinishedBy s K (taken_by l ls) (local n) (At i) st) → OneWriter K (At i, n) → closed_at l (record { instance = i; node = n }) ≡ true
  close_at i at m n b within inside listed declares fs writer = by d.listed (closed_at l (record { instance = i; node = n })) refl
    where
      d : IsDeclared s levels arrays i at m n
      d = close_all.declared i at m n (listed (stmt at m (declare n)) declares)

      same : b ≡ d.block
      same =
          names.one_block b d.block (local n) inside d.in_script
          (record { node = n; at = at; stmt_node = m; is = refl; there = declares }) (record { node = n; at = at; stmt_node = m; is = refl; there = d.there })

      fits : (st : Stmt) → st ∈ block_list d.block → FinishedBy s K (taken_by l ls) (local n) (At i) st
      fits = subst (λ (z : Block). (st : Stmt) → st ∈ block_list z → FinishedBy s K (taken_by l ls) (local n) (At i) st) same fs

      there : (st : Stmt) → st ∈ block_list d.block → active i st ∈ ls
      there = subst (λ (z : Block). (st : Stmt) → st ∈ block_list z → active i st ∈ ls) same listed

      by : (◌∈◌ {X = Candidate} (record { instance = i; node = n }, d.block) arrays) ⊎ (never_ends s levels (local n) d.block ≡ true) → (c : Bool) → closed_at l (record { instance = i; node = n }) ≡ c
          → closed_at l (record { instance = i; node = n }) ≡ true
      by (inl q) true e = e
      by (inl q) false e =
          absurd (close_all.ended (record { instance = i; node = n }) d.block q e
          (done_by s K l ls placed keeps right open_all indexes (goal_of (record { instance = i; node = n }) d.block) within there fits)
          (apart.one_all K l placed.tree keeps i within n writer))
      by (inr q) c e = absurd (never_finished s K (taken_by l ls) levels (local n) (At i) d.block q fits)

  closed : (path : Path) (b : Block) (at n m : ℕ) → Live s K path b → ((st : Stmt) → st ∈ block_list b → IsListed l ls path st) → stmt at m (declare n) ∈ block_list b
      → ((st : Stmt) → st ∈ block_list b → FinishedBy s K (taken_by l ls) (local n) path st) → OneWriter K (path, n) → (kept_of l).closed (path, n) ≡ true
  closed path b at n m live listed declares fs writer =
      let h = listed (stmt at m (declare n)) declares in
      let i = h.instance in
      let finished : (st : Stmt) → st ∈ block_list b → FinishedBy s K (taken_by l ls) (local n) (At i) st = λ st q. subst (λ (z : Path). FinishedBy s K (taken_by l ls) (local n) z st) (sym h.path_is) (fs st q) in
      let one_each : OneWriter K (At i, n) = subst (λ (z : Path). OneWriter K (z, n)) (sym h.path_is) writer in
      let is = close_at i at m n b h.within (live_block s live) (λ st q. listed_there i h.within path h.path_is st (listed st q)) declares finished one_each in
      subst (λ (z : Path). (kept_of l).closed (z, n) ≡ true) h.path_is (closed_is i n h.within ∙ is)

  -- TURNS

  turn_is : (path : Path) (at n x : ℕ) (header : Action) (vs : List Value) (k : Key) (b : Block) (v : Scalar) → IsListed l ls path (stmt at n header) → ReadyBy s K (taken_by l ls) path header vs → Opens header vs k b
      → InTurn header vs k x v → length path < max_path_steps → (kept_of l).turn ((at, k) ∷ path, x) ≡ Some v
  turn_is path at n x header vs k b v h ready o t fits =
      let r = open_block at n header vs k b path h ready o fits in
      let c = placed.tree.opens r.parent at k r.block.instance r.block.opened in
      let given = open_all.turns r.parent at n x r.block.instance header r.choice.choice vs k b v r.listed r.choice.chosen_is r.ready o t r.block.opened in
      let place : At r.block.instance ≡ (at, k) ∷ path = c.path_is ∙ ap (λ (z : Path). (at, k) ∷ z) r.parent_is in
      let found = by_located l.instances placed.tree None (turn_at l) (record { instance = r.block.instance; node = x }) (At r.block.instance, x) (record { within = c.within; view_is = refl }) in
      subst (λ (z : Path). (kept_of l).turn (z, x) ≡ Some v) place (found ∙ given)

  scalar_is : (p : Place) (o : Option Value) (v : Scalar) → (kept_of l).value p ≡ o → (kept_of l).turn p ≡ Some v → scalar_by o ((kept_of l).turn p) ≡ Some v
  scalar_is p (Some (One u)) v e q = ap (λ (z : Scalar). Some z) (one p u v (stored (keeps.value_so p (One u) e)) (right.turn p v q))
  scalar_is p (Some (Many es)) v e q = q
  scalar_is p None v e q = q

  -- ALL IS SETTLED
  pub settled : IsSettled s K (taken_by l ls)
  settled = record {
    script = λ st m. record { instance = 0; within = placed.tree.rooted; there = open_all.script st m; path_is = placed.tree.root_path };
    opened = opened;
    waited = waited;
    called = called;
    closed = closed;
    stored = λ p v k. ap (λ (z : Option Value). scalar_by z ((kept_of l).turn p)) (keeps.value_all p (One v) k);
    in_turn = λ path at n x header vs k b v h ready o t fits. scalar_is ((at, k) ∷ path, x) ((kept_of l).value ((at, k) ∷ path, x)) v refl (turn_is path at n x header vs k b v h ready o t fits);
  }

  -- what is kept is what is known
  pub keeps_all : Keeps s K (kept_of l)
  keeps_all = record {
    value_so = keeps.value_so;
    value_all = keeps.value_all;
    turn_so = right.turn;
    turn_all = λ path c at n x header vs k b v live m ready o t fits.
        turn_is path at n x header vs k b v (live_taken s K (taken_by l ls) settled live (stmt at n header) m) (ready_taken s K (taken_by l ls) settled ready) o t fits;
    closed_so = right.closed;
    closed_all = λ a c. closed_taken s K (taken_by l ls) settled c;
    write_so = keeps.write_so;
    write_all = keeps.write_all;
    write_once = keeps.write_once;
    written_so = keeps.written_so;
    written_all = keeps.written_all;
    lined_so = keeps.lined_so;
    faulted_so = keeps.faulted_so;
  }

  -- and what is live is listed
  pub listed_all : (path : Path) (st : Stmt) → LiveStmt s K path st → IsListed l ls path st
  listed_all path st live = stmt_taken s K (taken_by l ls) settled live
