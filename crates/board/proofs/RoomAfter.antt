-- Room for items once the world has changed.
use Rattle.std.proofs.Common.{◌≡◌, ◌∙◌, refl, sym, ap, ℕ, suc, ◌+◌, ◌*◌, ◌<◌, ◌≤◌, subst, if◌then◌else◌, vec_capacity, true, List, [], ◌∷◌, ◌++◌, append-nil, append_assoc, length, map, vec_len, Option, arith}
use Rattle.std.proofs.lemmas.List.{length-append, length-map, map-append}
use Rattle.data_store.specs.Stores.{Store}
use Rattle.board_history.specs.Ending.{job_kind, new_row}
use Rattle.board_history.specs.Fields.{Frame, Job, Row, Want}
use Rattle.board_history.specs.Marking.{kind_eq}
use Rattle.task_code.specs.Code.{Code, Control, Kind, Leaf, body}
use Rattle.board_program.specs.Tables.{run_as}
use Rattle.board_program.specs.declared.program.LocalVariable.{LocalVariable}
use Rattle.board_instances.specs.Openings.{Put, put_jobs}
use Rattle.board_instances.specs.View.{opening_frame, rows_view}
use Rattle.board_instances.specs.declared.pending.PendingInstance.{PendingInstance}
use Rattle.board_instances.specs.declared.pending.PendingInstances.{PendingInstances}
use Rattle.board_items.proofs.Apart.{placed_roomy}
use Rattle.board_items.specs.Room.{IsRoomy, IsRoomyFor, apart_in}
use Rattle.board_items.specs.declared.items.Items.{Items}
use Rattle.board_changes.specs.Filled.{AreFilled}
use Rattle.board_changes.specs.Opened.{AreOpened, going as going_jobs}
use Rattle.board_changes.specs.World.{Opening as Opened, Opens, WorldEnds, goes_on}
use Rattle.board_changes.specs.declared.instance_data.TurnSlots.{TurnSlots}
use Rattle.board_changes.specs.declared.data_state.Change.{Change}
use Rattle.board_changes.specs.declared.data_state.Change.TheVariants as Changes
use Rattle.board.specs.Room.{going, new_controls, new_leaves}
use Rattle.board.proofs.Apart.{apart_both, apart_control, apart_leaf}

pub filled_len : (own : List LocalVariable) (at : TurnSlots) (os ps : List PendingInstance) (s t : Store) → AreFilled own at os s ps t → length ps ≡ length os
filled_len own at [] [] s t f = refl
filled_len own at [] (p ∷ ps) s t f = absurd f
filled_len own at (o ∷ os) [] s t f = absurd f
filled_len own at (o ∷ os) (p ∷ ps) s t f = ap suc (filled_len own at os ps f.0 t f.2)

same_rows : (C : Code) (old new : Items) → IsRoomyFor C 0 0 old → rows_view new.rows.items ≡ rows_view old.rows.items → new.queue ≡ old.queue → new.apart ≡ old.apart → new.newly ≡ old.newly → IsRoomy C new
same_rows C old new r e q a n = placed_roomy C 0 0 old new [] r (e ∙ sym (append-nil (rows_view old.rows.items))) (omega arith) (omega arith) q a n

opened_len : (C : Code) (j : Job) (o : PendingInstances) (fs gs : List (Option Frame)) (old new : List Row) (s t : Store) (w : AreOpened C j o fs gs old new s t) → length w.placed.puts ≡ vec_len o.list
opened_len C j o fs gs old new s t w =
    sym (length-map w.placed.puts (λ (q : Put). q.frame)) ∙ ap length w.placed.frames_are ∙ length-map w.filled opening_frame ∙ filled_len _ _ o.list.items w.filled s w.made w.fills ∙ len o.list.ok.0
  where
    len : vec_len o.list ≡ length o.list.items → length o.list.items ≡ vec_len o.list
    len e = sym e

pub opened_rows : (C : Code) (j : Job) (o : PendingInstances) (fs gs : List (Option Frame)) (old new : List Row) (s t : Store) (w : Opens C j o fs gs old new s t) → new ≡ old ++ map new_row (put_jobs (body C o.body).entries w.opened.placed.puts ++ going_jobs j o.goes_on)
opened_rows C j o fs gs old new s t w =
    w.goes ∙ ap (λ (rs : List Row). rs ++ map new_row (going_jobs j o.goes_on)) w.opened.placed.rows
    ∙ append_assoc old (map new_row (put_jobs (body C o.body).entries w.opened.placed.puts)) (map new_row (going_jobs j o.goes_on))
    ∙ ap (λ (rs : List Row). old ++ rs) (sym (map-append new_row (put_jobs (body C o.body).entries w.opened.placed.puts) (going_jobs j o.goes_on)))

pub roomy_after : (C : Code) (j : Job) (x : Change) (fs gs : List (Option Frame)) (old new : Items) (s t : Store) (known : List (Want ℕ)) →
    WorldEnds C j x fs gs (rows_view old.rows.items) (rows_view new.rows.items) s t known → IsRoomyFor C (new_controls C x) (new_leaves C x) old → (goes_on x ≡ true → job_kind C j ≡ Control) →
    new.queue ≡ old.queue → new.apart ≡ old.apart → new.newly ≡ old.newly → IsRoomy C new
roomy_after C j x fs gs old new s t known w r kind q a n = by x w.changed.opens r kind
  where
    hs : List (Option Frame)
    hs = w.middle

    by : (x : Change) → Opened C j x fs hs (rows_view old.rows.items) (rows_view new.rows.items) w.changed.stored w.more → IsRoomyFor C (new_controls C x) (new_leaves C x) old → (goes_on x ≡ true → job_kind C j ≡ Control) → IsRoomy C new
    by Changes.Nothing h r kind = same_rows C old new r h.rows q a n
    by (Changes.Value d v) h r kind = same_rows C old new r h.rows q a n
    by (Changes.Element d k v) h r kind = same_rows C old new r h.rows q a n
    by (Changes.Elements d es) h r kind = same_rows C old new r h.rows q a n
    by (Changes.Opens o) h r kind =
        let es = (body C o.body).entries in
        let puts = h.opened.placed.puts in
        let len = opened_len C j o fs hs (rows_view old.rows.items) h.rows w.changed.stored w.more h.opened in
        let controls : apart_in C Control (map new_row (put_jobs es puts ++ going_jobs j o.goes_on)) ≤ run_as C Control es * vec_len o.list + going o.goes_on =
        bound (run_as C Control es) (length puts) (vec_len o.list) _ _ _ len (apart_both C Control es puts (going_jobs j o.goes_on)) (apart_control C j o.goes_on) in
        let leaves : apart_in C Leaf (map new_row (put_jobs es puts ++ going_jobs j o.goes_on)) ≤ run_as C Leaf es * vec_len o.list =
        none_more (run_as C Leaf es) (length puts) (vec_len o.list) _ _ len (apart_both C Leaf es puts (going_jobs j o.goes_on)) (apart_leaf C j o.goes_on kind) in
        placed_roomy C (new_controls C (Changes.Opens o)) (new_leaves C (Changes.Opens o)) old new (map new_row (put_jobs es puts ++ going_jobs j o.goes_on)) r
        (opened_rows C j o fs hs (rows_view old.rows.items) (rows_view new.rows.items) w.changed.stored w.more h) controls leaves q a n
      where
        bound : (k a b m g y : ℕ) → a ≡ b → m ≡ k * a + g → g ≤ y → m ≤ k * b + y
        bound k a b m g y e f h = omega (arith, f, h, ap (λ z. k * z) e)

        none_more : (k a b m g : ℕ) → a ≡ b → m ≡ k * a + g → g ≤ 0 → m ≤ k * b
        none_more k a b m g e f h = omega (arith, f, h, ap (λ z. k * z) e)

-- each new row is counted as of a kind
counted_both : (C : Code) (js : List Job) → length (map new_row js) ≡ apart_in C Control (map new_row js) + apart_in C Leaf (map new_row js)
counted_both C [] = refl
counted_both C (j ∷ js) = by (job_kind C j) (counted_both C js)
  where
    by : (k : Kind) → length (map new_row js) ≡ apart_in C Control (map new_row js) + apart_in C Leaf (map new_row js) → suc (length (map new_row js)) ≡ (if kind_eq Control k then 1 else 0) + apart_in C Control (map new_row js) + ((if kind_eq Leaf k then 1 else 0) + apart_in C Leaf (map new_row js))
    by Control a = omega (arith, a)
    by Leaf a = omega (arith, a)

-- so many rows come behind the old ones
pub new_count : (C : Code) (j : Job) (x : Change) (fs gs : List (Option Frame)) (old new : List Row) (s t : Store) (known : List (Want ℕ)) →
    WorldEnds C j x fs gs old new s t known → (goes_on x ≡ true → job_kind C j ≡ Control) → length new ≤ length old + (new_controls C x + new_leaves C x)
new_count C j x fs gs old new s t known w kind = by x w.changed.opens kind
  where
    none : (c : ℕ) → new ≡ old → length new ≤ length old + c
    none c e = let a = ap (λ (l : List Row). length l) e in omega (arith, a)

    by : (x : Change) → Opened C j x fs w.middle old new w.changed.stored w.more → (goes_on x ≡ true → job_kind C j ≡ Control) → length new ≤ length old + (new_controls C x + new_leaves C x)
    by Changes.Nothing h kind = none _ h.rows
    by (Changes.Value d v) h kind = none _ h.rows
    by (Changes.Element d k v) h kind = none _ h.rows
    by (Changes.Elements d es) h kind = none _ h.rows
    by (Changes.Opens o) h kind =
        let es = (body C o.body).entries in
        let puts = h.opened.placed.puts in
        let js = put_jobs es puts ++ going_jobs j o.goes_on in
        let len = opened_len C j o fs w.middle old h.rows w.changed.stored w.more h.opened in
        total (length new) (length old) (length (map new_row js)) (apart_in C Control (map new_row js)) (apart_in C Leaf (map new_row js)) (run_as C Control es * length puts) (run_as C Leaf es * length puts) (run_as C Control es * vec_len o.list) (run_as C Leaf es * vec_len o.list) (apart_in C Control (map new_row (going_jobs j o.goes_on))) (apart_in C Leaf (map new_row (going_jobs j o.goes_on))) (going o.goes_on)
        (ap (λ (l : List Row). length l) (opened_rows C j o fs w.middle old new w.changed.stored w.more h) ∙ length-append old (map new_row js)) (counted_both C js)
        (apart_both C Control es puts (going_jobs j o.goes_on)) (apart_both C Leaf es puts (going_jobs j o.goes_on)) (ap (λ z. run_as C Control es * z) len) (ap (λ z. run_as C Leaf es * z) len)
        (apart_control C j o.goes_on) (apart_leaf C j o.goes_on kind)
      where
        total : (n o l c f a b p q g i y : ℕ) → n ≡ o + l → l ≡ c + f → c ≡ a + g → f ≡ b + i → a ≡ p → b ≡ q → g ≤ y → i ≤ 0 → n ≤ o + (p + y + q)
        total n o l c f a b p q g i y e1 e2 e3 e4 e5 e6 h1 h2 = omega (arith, e1, e2, e3, e4, e5, e6, h1, h2)

-- the same room, where the list of those newly enabled has the same capacity
pub roomy_then : (C : Code) (j : Job) (x : Change) (fs gs : List (Option Frame)) (old new : Items) (s t : Store) (known : List (Want ℕ)) →
    WorldEnds C j x fs gs (rows_view old.rows.items) (rows_view new.rows.items) s t known → IsRoomyFor C (new_controls C x) (new_leaves C x) old → (goes_on x ≡ true → job_kind C j ≡ Control) →
    new.queue ≡ old.queue → new.apart ≡ old.apart → vec_capacity new.newly ≡ vec_capacity old.newly → IsRoomy C new
roomy_then C j x fs gs old new s t known w r kind q a n =
    roomy_after C j x fs gs (record { rows = old.rows; rules = old.rules; queue = old.queue; newly = new.newly; woken = old.woken; apart = old.apart; running = old.running }) new s t known w
    (record { controls_counted = r.controls_counted; leaves_counted = r.leaves_counted; controls_fit = r.controls_fit; leaves_fit = r.leaves_fit; noted = subst (λ k. 0 < k) (sym n) r.noted }) kind q a refl
