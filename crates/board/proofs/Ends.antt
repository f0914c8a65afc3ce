-- The last steps of the end of an item without fault.
use Rattle.std.proofs.Common.{◌≡◌, ◌∙◌, ℕ, ◌+◌, ◌-◌, ◌<◌, ◌≤◌, true, false, List, [], ◌∷◌, ◌++◌, length, refl, sym, ap, subst, arith, Option, None}
use Rattle.std.specs.Prelude.{IsOk, OnErr, OnOk, vec_capacity, vec_len}
use Rattle.std.specs.List.Sorted.{IsSorted}
use Rattle.std.specs.Ordering.{nat_cmp}
use Rattle.std.specs.declared.result.Result.{Result}
use Rattle.std.specs.declared.result.Result.TheVariants.{Ok, Err}
use Rattle.std.proofs.lemmas.List.Sorted.{IsNonDecreasingBy-from_sort}
use Rattle.dataflow.specs.System.{Answer}
use Rattle.dataflow.specs.Machine.{End, Event, SeesAll}
use Rattle.board_history.specs.Fields.{Job, task_of}
use Rattle.board_history.specs.Static.{computed_by}
use Rattle.task_code.specs.Code.{Code}
use Rattle.task_code.specs.System.{code_system, task_inputs}
use Rattle.task_code.specs.Whole.{IsCode}
use Rattle.values.specs.declared.key.Key.{Key}
use Rattle.values.specs.declared.value.Scalar.{Scalar}
use Rattle.board_data.specs.View.{cells_view}
use Rattle.board_effects.specs.Effects.{IsEffect}
use Rattle.board_effects.specs.declared.effect.Effect.{Effect}
use Rattle.board_instances.specs.View.{frames_view, rows_view}
use Rattle.board_items.proofs.Lists.{distinct_kept, distinct_moved}
use Rattle.board_items.specs.Ended.{AreSettled, AreShort}
use Rattle.board_items.specs.Progress.{CanFinish, all_to_settle, jobs_behind}
use Rattle.board_items.specs.Room.{AreSpare, IsRoomy}
use Rattle.board_items.specs.View.{queue_view, waiters_view}
use Rattle.board_changes.specs.Room.{TakesMore}
use Rattle.board_changes.specs.World.{spare_of}
use Rattle.board_changes.specs.declared.data_state.Change.{Change}
use Rattle.board.proofs.Assembled as A
use Rattle.board.proofs.Finishing.{are_short_from, can_finish, finished}
use Rattle.board.proofs.RoomAfter.{new_count, roomy_then}
use Rattle.board.proofs.SpareAfter.{spare_after}
use Rattle.board.specs.Changing.{change_of, line_of}
use Rattle.board.specs.Counted.{CanChange}
use Rattle.board.specs.Ending.{StaysSo, is_fault}
use Rattle.board.specs.History.{state_of}
use Rattle.board.specs.Inside.{Stand}
use Rattle.board.specs.Made.{CanNote, HasMade}
use Rattle.board.specs.Room.{HasRoomForItems, new_controls, new_leaves}
use Rattle.board.specs.Rows.{RunsOn}
use Rattle.board.specs.declared.state.BoardState.{BoardState}

-- what an item's end has come to before items are settled
pub record Made (C : Code) (n : ℕ) (j : Job) (e : Effect) (old room mid : BoardState) (first : ℕ) : Type 0 where
  pub same : StaysSo C old room
  pub items : HasRoomForItems C (new_controls C (change_of e)) (new_leaves C (change_of e)) old room
  pub takes : TakesMore (change_of e) room.data_state.store
  pub rows : room.items.rows.items ≡ old.items.rows.items
  pub frames : room.data_state.instances.slots ≡ old.data_state.instances.slots
  pub cells : cells_view room.data_state.store.cells ≡ cells_view old.data_state.store.cells
  pub can : CanChange C (frames_view old.data_state.instances.slots) (length old.items.rows.items) j (change_of e)
  pub made : HasMade C j (change_of e) (line_of e) room mid
  pub first_is : first ≡ length room.items.rows.items

rules_fit : (a b c d f g r : ℕ) → a ≤ g + c → c ≤ r → (m k : ℕ) → m + k ≡ r + f → k + b ≡ f → d ≡ g → b + (a - d) ≤ m
rules_fit a b c d f g r h1 h2 m k e1 e2 e3 = omega (arith, h1, h2, e1, e2, e3)

newly_fit : (a b c d f g p q k : ℕ) → a ≤ g + c → p + (f + c) ≤ q → k + b ≡ f → d ≡ g → b + (a - d) ≤ q
newly_fit a b c d f g p q k h1 h2 e2 e3 = omega (arith, h1, h2, e2, e3)

module _ (C : Code) (I : IsCode C) (es : List Event) (old room mid : BoardState) (s : Stand C es old) (free : old.fault ≡ None) (w n : ℕ) (j : Job) (runs : RunsOn (rows_view old.items.rows.items) w n j)
    (xs : List (Answer Key Scalar)) (sees : SeesAll (code_system C) (state_of C es) (task_inputs C (task_of (frames_view old.data_state.instances.slots) j)) xs) (e : Effect)
    (effect : IsEffect C (frames_view old.data_state.instances.slots) (cells_view old.data_state.store.cells) j (computed_by C (task_of (frames_view old.data_state.instances.slots) j) xs) e) (good : is_fault e ≡ false)
    (first : ℕ) (m : Made C n j e old room mid first) where
  abbrev stood : Stand C es room
  stood = A.stood C I es old room m.same s free w n j runs xs sees e effect good m.rows m.frames m.cells m.can

  note : CanNote room
  note = let a = m.items.woken in omega (arith, a)

  pub can : CanFinish C (frames_view mid.data_state.instances.slots) (cells_view mid.data_state.store.cells) n j first mid.items
  can =
      let kind = A.kind C I es old room m.same s free w n j runs xs sees e effect good m.rows m.frames m.cells m.can in
      let count : length mid.items.rows.items ≤ length room.items.rows.items + (new_controls C (change_of e) + new_leaves C (change_of e)) =
      lengths (new_count C j (change_of e) _ _ (rows_view room.items.rows.items) (rows_view mid.items.rows.items) _ _ m.made.news m.made.data_state kind) in
      let woken : vec_len mid.items.woken ≡ length mid.items.woken.items = mid.items.woken.ok.0 in
      can_finish C I es room mid stood (A.unfaulted C I es old room m.same s free w n j runs xs sees e effect good m.rows m.frames m.cells m.can) w n j
      (A.running C I es old room m.same s free w n j runs xs sees e effect good m.rows m.frames m.cells m.can) xs
      (A.seen C I es old room m.same s free w n j runs xs sees e effect good m.rows m.frames m.cells m.can) e
      (A.does C I es old room m.same s free w n j runs xs sees e effect good m.rows m.frames m.cells m.can) good
      (A.can_now C I es old room m.same s free w n j runs xs sees e effect good m.rows m.frames m.cells m.can) m.takes note m.made first m.first_is
      (roomy_then C j (change_of e) _ _ room.items mid.items _ _ m.made.news m.made.data_state (m.items.items s.kept.roomy) kind m.made.queue m.made.apart m.made.capacity)
      (rules_fit (length mid.items.rows.items) (length mid.items.woken.items) (new_controls C (change_of e) + new_leaves C (change_of e)) first (length room.items.rules.waiting) (length room.items.rows.items) room.items.rules.room count m.items.rules mid.items.rules.room (length mid.items.rules.waiting) (m.made.rules note) (ap (λ k. length mid.items.rules.waiting + k) (sym woken) ∙ m.made.count) m.first_is)
      (newly_fit (length mid.items.rows.items) (length mid.items.woken.items) (new_controls C (change_of e) + new_leaves C (change_of e)) first (length room.items.rules.waiting) (length room.items.rows.items) (vec_len room.items.newly) (vec_capacity mid.items.newly) (length mid.items.rules.waiting) count (subst (λ k. vec_len room.items.newly + (length room.items.rules.waiting + (new_controls C (change_of e) + new_leaves C (change_of e))) ≤ k) (sym m.made.capacity) m.items.newly) (ap (λ k. length mid.items.rules.waiting + k) (sym woken) ∙ m.made.count) m.first_is)
    where
      lengths : length (rows_view mid.items.rows.items) ≤ length (rows_view room.items.rows.items) + (new_controls C (change_of e) + new_leaves C (change_of e)) → length mid.items.rows.items ≤ length room.items.rows.items + (new_controls C (change_of e) + new_leaves C (change_of e))
      lengths h = let a = A.rows_len mid.items.rows.items in let b = A.rows_len room.items.rows.items in omega (arith, h, a, b)

  pub short : AreShort C (frames_view mid.data_state.instances.slots) (cells_view mid.data_state.store.cells) (rows_view mid.items.rows.items) first mid.items.woken.items
  short =
      are_short_from C I es room mid stood (A.unfaulted C I es old room m.same s free w n j runs xs sees e effect good m.rows m.frames m.cells m.can) w n j
      (A.running C I es old room m.same s free w n j runs xs sees e effect good m.rows m.frames m.cells m.can) xs
      (A.seen C I es old room m.same s free w n j runs xs sees e effect good m.rows m.frames m.cells m.can) e
      (A.does C I es old room m.same s free w n j runs xs sees e effect good m.rows m.frames m.cells m.can) good
      (A.can_now C I es old room m.same s free w n j runs xs sees e effect good m.rows m.frames m.cells m.can) m.takes note m.made first m.first_is

  pub spare : AreSpare C (jobs_behind first (rows_view mid.items.rows.items)) (spare_of (change_of e))
  spare =
      subst (λ (k : ℕ). AreSpare C (jobs_behind k (rows_view mid.items.rows.items)) (spare_of (change_of e))) (A.rows_len room.items.rows.items ∙ sym m.first_is)
      (spare_after C j (change_of e) _ _ (rows_view room.items.rows.items) (rows_view mid.items.rows.items) _ _ m.made.news m.made.data_state
      (A.has_spare C I es old room m.same s free w n j runs xs sees e effect good m.rows m.frames m.cells m.can))

  pub ended : (new : BoardState) → new.data_state ≡ mid.data_state → new.lines ≡ mid.lines → new.fault ≡ mid.fault →
      AreSettled C (frames_view mid.data_state.instances.slots) (cells_view mid.data_state.store.cells) (rows_view mid.items.rows.items) first n (waiters_view mid.items.rules.waiting) (queue_view mid.items.queue) (all_to_settle first mid.items) (rows_view new.items.rows.items) (waiters_view new.items.rules.waiting) (queue_view new.items.queue) new.items.newly.items →
      IsRoomy C new.items → new.items.running ≡ mid.items.running - 1 → IsSorted nat_cmp new.items.newly.items → Stand C (es ++ End w n ∷ []) new
  ended new data_state lines fault settled roomy running rising =
      finished C I es room mid stood (A.unfaulted C I es old room m.same s free w n j runs xs sees e effect good m.rows m.frames m.cells m.can) w n j
      (A.running C I es old room m.same s free w n j runs xs sees e effect good m.rows m.frames m.cells m.can) xs
      (A.seen C I es old room m.same s free w n j runs xs sees e effect good m.rows m.frames m.cells m.can) e
      (A.does C I es old room m.same s free w n j runs xs sees e effect good m.rows m.frames m.cells m.can) good
      (A.can_now C I es old room m.same s free w n j runs xs sees e effect good m.rows m.frames m.cells m.can) m.takes note m.made new first m.first_is data_state lines fault settled roomy running
      (A.rises_of new.items.newly.items (IsNonDecreasingBy-from_sort (λ k. k) new.items.newly.items rising)
      (distinct_moved _ new.items.newly.items settled.newly_are (distinct_kept _ (all_to_settle first mid.items) can.to_settle.once)))

pub ok_from : {X E : Type 0} {A : Type 0} (r : Result X E) → (IsOk r → A) → OnOk r A
ok_from (Ok x) f = f refl
ok_from (Err x) f = tt

pub err_from : {X E : Type 0} {A : Type 0} (r : Result X E) → ((IsOk r → ⊥) → A) → OnErr r A
err_from (Ok x) f = tt
err_from (Err x) f = f (λ h. absurd (cc))

pub on_ok : {X E : Type 0} {A B : Type 0} (r : Result X E) → (A → B) → OnOk r A → OnOk r B
on_ok (Ok x) f h = f h
on_ok (Err x) f h = tt

pub on_err : {X E : Type 0} {A B : Type 0} (r : Result X E) → (A → B) → OnErr r A → OnErr r B
on_err (Ok x) f h = tt
on_err (Err x) f h = f h

pub ok_take : {X E : Type 0} {A : Type 0} (r : Result X E) → IsOk r → OnOk r A → A
ok_take (Ok x) h a = a
ok_take (Err x) h a = absurd (cc)

pub no_ok : {B : Type 0} → false ≡ true → B
no_ok h = absurd (cc)

pub one_less : (a b c d : ℕ) → a ≡ b - 1 → b ≡ c → c ≡ d → 0 < d → a + 1 ≡ d
one_less a b c d e f g h = omega (arith, e, f, g, h)

pub pack : (C : Code) (n : ℕ) (j : Job) (e : Effect) (old room mid : BoardState) (first : ℕ) (x : Change) (l : Option Scalar) → x ≡ change_of e → l ≡ line_of e → StaysSo C old room → HasRoomForItems C (new_controls C x) (new_leaves C x) old room → TakesMore x room.data_state.store →
    room.items.rows.items ≡ old.items.rows.items → room.data_state.instances.slots ≡ old.data_state.instances.slots → cells_view room.data_state.store.cells ≡ cells_view old.data_state.store.cells →
    CanChange C (frames_view old.data_state.instances.slots) (length old.items.rows.items) j x → HasMade C j x l room mid → first ≡ length room.items.rows.items → Made C n j e old room mid first
pack C n j e old room mid first x l q r same items takes rows frames cells can made f =
    record {
      same = same;
      items = subst (λ (y : Change). HasRoomForItems C (new_controls C y) (new_leaves C y) old room) q items;
      takes = subst (λ (y : Change). TakesMore y room.data_state.store) q takes;
      rows = rows;
      frames = frames;
      cells = cells;
      can = subst (λ (y : Change). CanChange C (frames_view old.data_state.instances.slots) (length old.items.rows.items) j y) q can;
      made = subst (λ (y : Change). HasMade C j y (line_of e) room mid) q (subst (λ (k : Option Scalar). HasMade C j x k room mid) r made);
      first_is = f;
    }

pub same_spare : {x y : Change} → x ≡ y → spare_of x ≡ spare_of y
same_spare e = ap (λ (z : Change). spare_of z) e
