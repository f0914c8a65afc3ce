-- The holds that new instances add to data fit, where as many names as all items can have fit.
use Rattle.std.proofs.Common.{◌≡◌, inl, inr, ◌∙◌, ℕ, suc, ◌+◌, ◌*◌, ◌<◌, ◌≤◌, Bool, not, List, [], ◌∷◌, map, length, refl, sym, ap, subst, arith, Option, Some, None}
use Rattle.std.specs.Prelude.{◌^◌, option_map}
use Rattle.std.specs.List.{filter, flat_map}
use Rattle.dataflow.specs.System.{In}
use Rattle.dataflow.specs.Machine.{Event}
use Rattle.dataflow.specs.Promises.{tasks_in_items}
use Rattle.dataflow.proofs.Lists.{in_unmap}
use Rattle.data_store.specs.Stores.{Store, at}
use Rattle.data_store.specs.declared.datum.Datum.{Datum as Cell}
use Rattle.board_history.specs.Counts.{holds, readers, times, writers}
use Rattle.board_history.specs.Elements.{code_tests}
use Rattle.board_history.specs.Ending.{Instance, IsOwn, added_times, held_times, home, slot_is}
use Rattle.board_history.specs.Fields.{Counted, DatumOf, Fields, Frame, Job, Status, Over, Ready, Row, Running, Slot, Waiting, item_before, items_from, slot_at, slot_for, task_of}
use Rattle.board_history.specs.Stands.{Stands}
use Rattle.board_history.specs.Static.{Hold, add_hold, counted_names, name_times, names_in, outer_holds, own_count}
use Rattle.board_history.proofs.Tests.{choose, none_some, some_same}
use Rattle.task_code.specs.Check.{is_declared}
use Rattle.task_code.specs.Code.{Code, Entry, Name, Variable, body, entry, here}
use Rattle.task_code.specs.Compute.{Computed}
use Rattle.task_code.specs.Effects.{Item, Main, Task}
use Rattle.task_code.specs.Machine.{CodeItem}
use Rattle.task_code.specs.Places.{Constant, Datum, Nowhere, Place, name_eq, place_at}
use Rattle.task_code.specs.System.{code_system, data_among, task_reads, task_writes}
use Rattle.task_code.specs.Whole.{IsCode}
use Rattle.board_program.specs.Spots.{layout_of}
use Rattle.board_data.specs.Holds.{Fit}
use Rattle.board_data.specs.View.{cell_view, cells_view}
use Rattle.board_data.proofs.Cells.{cell_there}
use Rattle.board_instances.specs.Made.{made_as}
use Rattle.board_instances.specs.Openings.{Put}
use Rattle.board_instances.specs.declared.pending.PendingInstances.{PendingInstances}
use Rattle.board_changes.proofs.Frames.{count}
use Rattle.board_changes.proofs.MadeData.{body_is, makes_data}
use Rattle.board_changes.specs.Blocks.{AreBlocks}
use Rattle.board_changes.specs.Data.{MakesData}
use Rattle.board.proofs.WorldEnded.{HoldsFit}
use Rattle.std.proofs.lemmas.List.{length-append}

-- sums
times_more : (n m : ℕ) → suc n * m ≡ m + n * m
times_more n m = grind arith

both_below : (x m y z : ℕ) → x ≤ m → y ≤ z → x + y ≤ m + z
both_below x m y z a b = omega arith

one_more : (n m x y : ℕ) → x ≤ m → y ≤ n * m → x + y ≤ suc n * m
one_more n m x y a b = subst (λ z. x + y ≤ z) (sym (times_more n m)) (both_below x m y (n * m) a b)

below_sum : (y z m : ℕ) → y ≤ z → y ≤ m + z
below_sum y z m b = omega arith

none_more : (n m y : ℕ) → y ≤ n * m → y ≤ suc n * m
none_more n m y b = subst (λ z. y ≤ z) (sym (times_more n m)) (below_sum y (n * m) m b)

map_length : {X Y : Type 0} (f : X → Y) (xs : List X) → length (map f xs) ≡ length xs
map_length f [] = refl
map_length f (x ∷ xs) = ap suc (map_length f xs)

filter_below : {X : Type 0} (p : X → Bool) (xs : List X) → length (filter p xs) ≤ length xs
filter_below p [] = omega arith
filter_below p (x ∷ xs) =
    let h = filter_below p xs in
    choose (λ l. length l ≤ suc (length xs)) (p x) (x ∷ filter p xs) (filter p xs) (λ t. omega arith) (λ f. omega arith)

flat_below : {X Y : Type 0} (f : X → List Y) (most : ℕ) → ((x : X) → length (f x) ≤ most) → (xs : List X) → length (flat_map f xs) ≤ length xs * most
flat_below f most each [] = omega arith
flat_below f most each (x ∷ xs) = subst (λ n. n ≤ suc (length xs) * most) (sym (length-append (f x) (flat_map f xs))) (one_more (length xs) most _ _ (each x) (flat_below f most each xs))

-- the holds of names, and how often one stands among them
abbrev total : List Hold → ℕ
total [] = 0
total (h ∷ hs) = h.count + total hs

total_add : (r : Name) (hs : List Hold) → total (add_hold r hs) ≡ suc (total hs)
total_add r [] = omega arith
total_add r (h ∷ hs) =
    let e = total_add r hs in
    choose (λ l. total l ≡ suc (h.count + total hs)) (name_eq r h.name) (record { name = h.name; count = suc h.count } ∷ hs) (h ∷ add_hold r hs) (λ t. omega arith) (λ f. omega arith)

total_names : (rs : List Name) → total (counted_names rs) ≡ length rs
total_names [] = refl
total_names (r ∷ rs) = total_add r (counted_names rs) ∙ ap suc (total_names rs)

held_below : (f : Name → Slot) (d : ℕ) (hs : List Hold) → held_times f d hs ≤ total hs
held_below f d [] = omega arith
held_below f d (h ∷ hs) =
    let e = held_below f d hs in
    choose (λ n. n + held_times f d hs ≤ h.count + total hs) (slot_is d (f h.name)) h.count 0 (λ t. omega arith) (λ g. omega arith)

names_below : (r : Name) (rs : List Name) → name_times r rs ≤ length rs
names_below r [] = omega arith
names_below r (x ∷ rs) =
    let e = names_below r rs in
    choose (λ n. n + name_times r rs ≤ suc (length rs)) (name_eq r x) 1 0 (λ t. omega arith) (λ g. omega arith)

below_both : (a b c : ℕ) → a ≤ b → b ≤ c → a ≤ c
below_both a b c h k = omega arith

module _ (C : Code) (most : ℕ) where
  -- what an instance adds, and a datum's first count
  module _ (rights : Entry → List Name) (each : (i : ℕ) → length (rights (entry C i)) ≤ most) where
    in_below : (b : ℕ) → length (names_in C rights b) ≤ length (body C b).entries * most
    in_below b = flat_below (λ i. rights (entry C i)) most each (body C b).entries

    outer_below : (f : Name → Slot) (d b : ℕ) → held_times f d (outer_holds C rights b) ≤ length (body C b).entries * most
    outer_below f d b =
        let kept : List Name = filter (λ r. not (is_declared C b r)) (names_in C rights b) in
        below_both _ (length (names_in C rights b)) _
        (below_both _ (length kept) _ (subst (λ n. held_times f d (counted_names kept) ≤ n) (total_names kept) (held_below f d (counted_names kept))) (filter_below (λ r. not (is_declared C b r)) (names_in C rights b)))
        (in_below b)

    own_below : (b : ℕ) (v : Variable) → own_count C rights b v ≤ length (body C b).entries * most
    own_below b v = below_both _ (length (names_in C rights b)) _ (names_below (here v) (names_in C rights b)) (in_below b)

    added_below : (hs : List (Option Frame)) (d b : ℕ) (ms : List Instance) → ((m : Instance) → In m ms → m.body ≡ b) → added_times C (layout_of C) rights hs d ms ≤ length ms * (length (body C b).entries * most)
    added_below hs d b [] one = omega arith
    added_below hs d b (m ∷ ms) one =
        one_more (length ms) (length (body C b).entries * most) _ _
        (subst (λ z. held_times (slot_for (layout_of C) hs m.key m.body) d (outer_holds C rights m.body) ≤ length (body C z).entries * most) (one m (inl refl)) (outer_below (slot_for (layout_of C) hs m.key m.body) d m.body))
        (added_below hs d b ms (λ l i. one l (inr i)))

  -- how often items name a place
  module _ (rights : Task → List Place) (each : (t : Task) → length (rights t) ≤ most) (a : Place) where
    times_below : (bs : List Place) → times (code_system C) code_tests a bs ≤ length bs
    times_below [] = omega arith
    times_below (b ∷ bs) =
        let e = times_below bs in
        choose (λ n. n + times (code_system C) code_tests a bs ≤ suc (length bs)) (code_tests.same_place a b) 1 0 (λ t. omega arith) (λ g. omega arith)

    abbrev held_by : List CodeItem → ℕ
    held_by is = holds (code_system C) code_tests rights a (tasks_in_items (code_system C) is)

    rows_below : (fs : List (Option Frame)) (k : ℕ) (rows : List Row) → held_by (items_from fs k rows) ≤ length rows * most
    rows_below fs k [] = omega arith
    rows_below fs k (r ∷ rs) = by (rows_below fs (suc k) rs) r.status
      where
        one : held_by (items_from fs (suc k) rs) ≤ length rs * most → times (code_system C) code_tests a (rights (task_of fs r.job)) + held_by (items_from fs (suc k) rs) ≤ suc (length rs) * most
        one rest = one_more (length rs) most _ _ (below_both _ (length (rights (task_of fs r.job))) _ (times_below (rights (task_of fs r.job))) (each (task_of fs r.job))) rest

        by : held_by (items_from fs (suc k) rs) ≤ length rs * most → (m : Status) → held_by (item_before k (task_of fs r.job) m (items_from fs (suc k) rs)) ≤ suc (length rs) * most
        by rest Waiting = one rest
        by rest Ready = one rest
        by rest (Running w) = one rest
        by rest Over = none_more (length rs) most _ rest

  among_below : (ds : List Place) → length (data_among ds) ≤ length ds
  among_below [] = omega arith
  among_below (Datum p v ∷ ds) = let h = among_below ds in omega arith
  among_below (Constant v ∷ ds) = let h = among_below ds in omega arith
  among_below (Nowhere ∷ ds) = let h = among_below ds in omega arith

  reads_below : ((i : ℕ) → length (entry C i).reads ≤ most) → (t : Task) → length (task_reads C t) ≤ most
  reads_below each Main = omega arith
  reads_below each (Item i p c) = below_both _ (length (entry C i).reads) _ (subst (λ n. length (data_among (map (place_at C p) (entry C i).reads)) ≤ n) (map_length (place_at C p) (entry C i).reads) (among_below (map (place_at C p) (entry C i).reads))) (each i)

  writes_below : ((i : ℕ) → length (entry C i).writes ≤ most) → (t : Task) → length (task_writes C t) ≤ most
  writes_below each Main = omega arith
  writes_below each (Item i p c) = subst (λ n. n ≤ most) (sym (map_length (place_at C p) (entry C i).writes)) (each i)

some_below : (m : Instance) (ms : List Instance) (z : ℕ) → In m ms → z ≤ length ms * z
some_below m [] z i = absurd i
some_below m (l ∷ ms) z i = subst (λ n. z ≤ n) (sym (times_more (length ms) z)) (more z (length ms * z))
  where
    more : (a b : ℕ) → a ≤ a + b
    more a b = omega arith

old_fits : (a b r x y : ℕ) → r ≤ a → y ≡ r → x ≤ b → a + (b + b) < 2 ^ 64 → y + x < 2 ^ 64
old_fits a b r x y h e k l = omega arith

new_fits : (a b r x y : ℕ) → r ≤ b → y ≡ r → x ≤ b → a + (b + b) < 2 ^ 64 → y + x < 2 ^ 64
new_fits a b r x y h e k l = omega arith

same_key : (k d : ℕ) → DatumOf k ≡ DatumOf d → k ≡ d
same_key k d h = cc

-- all names that items can have after the End are few enough
pub holds_fit : (C : Code) → IsCode C → (es : List Event) (F : Fields) → Stands C (layout_of C) es F → (j : Job) (x : Computed) (s : Store) → F.cells ≡ cells_view s.cells → (o : PendingInstances) → AreBlocks C F.frames j x o →
    (most : ℕ) → ((i : ℕ) → length (entry C i).reads ≤ most) → ((i : ℕ) → length (entry C i).writes ≤ most) →
    length F.rows * most + (length o.list.items * (length (body C o.body).entries * most) + length o.list.items * (length (body C o.body).entries * most)) < 2 ^ 64 → HoldsFit C F j s o
holds_fit C I es F st j x s cells o B most reads writes few hs rows stored more w stores d = by (at w.made d) refl
  where
    ms : List Instance
    ms = map (made_as F.frames (home j)) w.placed.puts

    a : ℕ
    a = length F.rows * most

    b : ℕ
    b = length o.list.items * (length (body C o.body).entries * most)

    counted : length ms ≡ length o.list.items
    counted = map_length (made_as F.frames (home j)) w.placed.puts ∙ sym (map_length (λ (p : Put). p.frame) w.placed.puts) ∙ ap length w.placed.frames_are ∙ count C j x o F.frames hs F.rows rows stored more B w

    of_body : (m : Instance) → In m ms → m.body ≡ o.body
    of_body m i = let q = in_unmap (made_as F.frames (home j)) m w.placed.puts i in ap (λ (z : Instance). z.body) (sym q.2) ∙ body_is C I j x o F.frames hs F.rows rows stored more B w q.0 q.1

    added : (rights : Entry → List Name) → ((i : ℕ) → length (rights (entry C i)) ≤ most) → added_times C (layout_of C) rights hs d ms ≤ b
    added rights each = subst (λ n. added_times C (layout_of C) rights hs d ms ≤ n * (length (body C o.body).entries * most)) counted (added_below C most rights each hs d o.body ms of_body)

    own : (rights : Entry → List Name) → ((i : ℕ) → length (rights (entry C i)) ≤ most) → (m : Instance) (v : Variable) → In m ms → own_count C rights m.body v ≤ b
    own rights each m v i =
        below_both _ (length (body C o.body).entries * most) _ (subst (λ z. own_count C rights m.body v ≤ length (body C z).entries * most) (of_body m i) (own_below C most rights each m.body v))
        (subst (λ n. length (body C o.body).entries * most ≤ n * (length (body C o.body).entries * most)) counted (some_below m ms (length (body C o.body).entries * most) i))

    held : (rights : Task → List Place) → ((t : Task) → length (rights t) ≤ most) → (p : Place) → holds (code_system C) code_tests rights p (tasks_in_items (code_system C) st.state.items) ≤ a
    held rights each p = subst (λ (is : List CodeItem). holds (code_system C) code_tests rights p (tasks_in_items (code_system C) is) ≤ a) st.items.items (rows_below C most rights each p F.frames 1 F.rows)

    makes : MakesData C (layout_of C) F.frames hs j x ms stored w.made
    makes = makes_data C I j x o F.frames hs F.rows rows stored more B w

    Fits : Option Cell → Type 0
    Fits c = Fit (added_times C (layout_of C) (λ y. y.reads) hs d ms) (added_times C (layout_of C) (λ y. y.writes) hs d ms) c

    -- one that was there
    was : (y : Cell) → at stored d ≡ Some y → (r : Option Cell) → at s d ≡ r → (y.reads + added_times C (layout_of C) (λ z. z.reads) hs d ms < 2 ^ 64) × (y.writes + added_times C (layout_of C) (λ z. z.writes) hs d ms < 2 ^ 64)
    was y e None q = none_some (sym (stores.nothing d q) ∙ e)
    was y e (Some z) q =
        let n = stores.there d z q in
        let same : record { content = n.0; reads = z.reads; writes = z.writes } ≡ y = some_same (sym n.1 ∙ e) in
        let seen : slot_at F.cells d ≡ Some (cell_view z) = ap (λ (cs : List (Option Counted)). slot_at cs d) cells ∙ cell_there s.cells d ∙ ap (option_map cell_view) q in
        let p = st.data_stand.only d (cell_view z) seen in
        let c = st.data_stand.there d p.0 p.1 in
        let is : c.0 ≡ cell_view z = some_same (sym c.1 ∙ seen) in (
          old_fits a b (readers (code_system C) code_tests st.state p.0) _ y.reads (held (task_reads C) (reads_below C most reads) p.0) (ap (λ (k : Cell). k.reads) (sym same) ∙ ap (λ (k : Counted). k.reads) (sym is) ∙ c.2.reads) (added (λ z. z.reads) reads) few,
          old_fits a b (writers (code_system C) code_tests st.state p.0) _ y.writes (held (task_writes C) (writes_below C most writes) p.0) (ap (λ (k : Cell). k.writes) (sym same) ∙ ap (λ (k : Counted). k.writes) (sym is) ∙ c.2.writes) (added (λ z. z.writes) writes) few,
        )

    -- a new one
    new : (y : Cell) → at w.made d ≡ Some y → (m : Instance) (v : Variable) → In m ms → IsOwn C (layout_of C) hs m v d → (y.reads + added_times C (layout_of C) (λ z. z.reads) hs d ms < 2 ^ 64) × (y.writes + added_times C (layout_of C) (λ z. z.writes) hs d ms < 2 ^ 64)
    new y e m v i o =
        let c = makes.new m v i o.declared o.named in
        let k : c.key ≡ d = same_key c.key d (sym c.leads ∙ o.leads) in
        let seen : slot_at (cells_view w.made.cells) d ≡ Some (cell_view y) = cell_there w.made.cells d ∙ ap (option_map cell_view) e in
        let is : cell_view y ≡ record { reads = own_count C (λ z. z.reads) m.body v; writes = own_count C (λ z. z.writes) m.body v; content = c.content } = some_same (sym seen ∙ ap (slot_at (cells_view w.made.cells)) (sym k) ∙ c.is) in (
          new_fits a b (own_count C (λ z. z.reads) m.body v) _ y.reads (own (λ z. z.reads) reads m v i) (ap (λ (k : Counted). k.reads) is) (added (λ z. z.reads) reads) few,
          new_fits a b (own_count C (λ z. z.writes) m.body v) _ y.writes (own (λ z. z.writes) writes m v i) (ap (λ (k : Counted). k.writes) is) (added (λ z. z.writes) writes) few,
        )

    by : (c : Option Cell) → at w.made d ≡ c → Fits c
    by None e = tt
    by (Some y) e = elim (makes.only d y e) [ inl q ↦ was y q (at s d) refl | inr q ↦ new y e q.0 q.1 q.2 q.3 ]
