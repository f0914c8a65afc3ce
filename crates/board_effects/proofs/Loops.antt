-- What comes of the end of an item that opens turns of a loop.
use Rattle.std.proofs.Common.{◌≡◌, ◌∙◌, refl, sym, ap, subst, inl, inr, ℕ, suc, ◌<◌, ◌+◌, ◌*◌, min, nat_lt, Bool, true, false, ◌&&◌, List, [], ◌∷◌, map, length, Option, Some, IsSome, arith, rules}
use Rattle.std.specs.Prelude.{if◌then◌else◌, nat_le}
use Rattle.std.specs.List.{AllZip, filter}
use Rattle.std.proofs.lemmas.Bool.{and_left, and_right, cases_Bool}
use Rattle.dataflow.specs.Machine.{OfTask}
use Rattle.dataflow.specs.System.{In}
use Rattle.board_history.specs.Ending.{has_entries}
use Rattle.board_history.proofs.Tests.{none_some}
use Rattle.board_history.specs.Fields.{Frame, path_of, slot_at}
use Rattle.task_code.specs.View.{entry_view}
use Rattle.task_code.specs.Code.{Code, Entry, Loop, body, entry, loop_of}
use Rattle.task_code.specs.Compute.{Elements, TooDeep, Turns}
use Rattle.task_code.specs.Effects.{chunk, effect_at, instances, is_some_list, left_at, prints, rest, rest_if, step_at, steps_on}
use Rattle.task_code.specs.Places.{Step}
use Rattle.values.specs.Limits.{chunk_size, max_path_steps}
use Rattle.values.specs.declared.key.Key.{Key}
use Rattle.values.specs.declared.value.Scalar.{Scalar}
use Rattle.board_instances.specs.Made.{block_of}
use Rattle.board_instances.specs.Turns.{AddsTurns, IsTurn}
use Rattle.board_instances.specs.View.{opening_frame}
use Rattle.board_instances.specs.declared.pending.PendingInstance.{PendingInstance}
use Rattle.board_instances.proofs.Turned.{turns_blocks}
use Rattle.board_effects.specs.Effects.{GoesWell, GoesWrong}
use Rattle.board_effects.specs.Ended.{Ends, FailsWith, IsEnded, IsLoop, OpensList, act_of, cells_of, code_of, frames_of, job_of, needs_of}
use Rattle.board_data.specs.Openings.{IsOpened, IsOpenedBy, IsSpare}
use Rattle.board_effects.specs.declared.effect.Effect.{Effect}
use Rattle.board_effects.specs.declared.effect.Effect.TheVariants as To
use Rattle.board_effects.specs.declared.effect.EndingItem.{EndingItem}
use Rattle.board_effects.proofs.Acts.{bad, deep_long, good, loop_instances, loop_silent, loop_steps, loop_stores}
use Rattle.board_effects.proofs.Blocks.{deep_turns, own, stores_nothing}
use Rattle.board_effects.proofs.Chunks.{some_behind, some_chunk}
use Rattle.board_effects.proofs.Values.{fails_ends}

-- the blocks of one body all have entries, or none has
turns_kept : (C : Code) (b offset : ℕ) (p : List Step) (ts : Elements) → is_some_list (body C b).entries ≡ true → filter (has_entries C) (map (λ (t : Key × Scalar). (b, step_at offset t.0 p)) ts) ≡ map (λ (t : Key × Scalar). (b, step_at offset t.0 p)) ts
turns_kept C b offset p [] h = refl
turns_kept C b offset p (t ∷ ts) h =
    ap (λ m. if m then (b, step_at offset t.0 p) ∷ filter (has_entries C) (map (λ (t : Key × Scalar). (b, step_at offset t.0 p)) ts) else filter (has_entries C) (map (λ (t : Key × Scalar). (b, step_at offset t.0 p)) ts)) h
    ∙ ap (λ l. (b, step_at offset t.0 p) ∷ l) (turns_kept C b offset p ts h)

turns_dropped : (C : Code) (b offset : ℕ) (p : List Step) (ts : Elements) → is_some_list (body C b).entries ≡ false → filter (has_entries C) (map (λ (t : Key × Scalar). (b, step_at offset t.0 p)) ts) ≡ []
turns_dropped C b offset p [] h = refl
turns_dropped C b offset p (t ∷ ts) h =
    ap (λ m. if m then (b, step_at offset t.0 p) ∷ filter (has_entries C) (map (λ (t : Key × Scalar). (b, step_at offset t.0 p)) ts) else filter (has_entries C) (map (λ (t : Key × Scalar). (b, step_at offset t.0 p)) ts)) h
    ∙ turns_dropped C b offset p ts h

some_turns : (b offset : ℕ) (p : List Step) (ts : Elements) → is_some_list {X = ℕ × List Step} (map (λ (t : Key × Scalar). (b, step_at offset t.0 p)) ts) ≡ is_some_list ts
some_turns b offset p [] = refl
some_turns b offset p (t ∷ ts) = refl

some_rest : (m : Bool) (i : ℕ) (p : List Step) (c : ℕ) → is_some_list (rest_if m i p c) ≡ m
some_rest true i p c = refl
some_rest false i p c = refl

turn_in : (C : Code) (fs : List (Option Frame)) (k b offset : ℕ) (ts : Elements) (os : List PendingInstance) → AllZip (IsTurn C fs k b offset) ts os → (o : PendingInstance) → In o os → (t : Key × Scalar) × In t ts × IsTurn C fs k b offset t o
turn_in C fs k b offset [] [] x o m = absurd m
turn_in C fs k b offset [] (o' ∷ os) x o m = absurd x
turn_in C fs k b offset (t ∷ ts) [] x o m = absurd x
turn_in C fs k b offset (t ∷ ts) (o' ∷ os) x o (inl e) = (t, inl refl, subst (λ y. IsTurn C fs k b offset t y) (sym e) x.0)
turn_in C fs k b offset (t ∷ ts) (o' ∷ os) x o (inr m) = (let r = turn_in C fs k b offset ts os x.1 o m in (r.0, inr r.1, r.2))

module _ (p : EndingItem) (w : IsEnded p) (u : Loop) (ts : Elements) (is : loop_of (act_of p) ≡ Some u) where
  abbrev path : List Step
  path = path_of (frames_of p) p.view.at

  abbrev now : Entry
  now = entry (code_of p) p.number

  abbrev turns : Elements
  turns = chunk p.chunk ts

  -- the blocks are those of the turns of the chunk
  blocks_are : instances now.act now.offset path p.chunk (Turns ts) ≡ map (λ (t : Key × Scalar). (u.body, step_at now.offset t.0 path)) turns
  blocks_are = loop_instances now.act u now.offset path p.chunk (Turns ts) (own p w (λ e. loop_of e.act ≡ Some u) is)

  some_blocks : is_some_list (instances now.act now.offset path p.chunk (Turns ts)) ≡ is_some_list turns
  some_blocks = ap is_some_list blocks_are ∙ some_turns u.body now.offset path turns

  pub loop_deep : is_some_list turns ≡ true → nat_le max_path_steps (length path) ≡ true → GoesWrong (code_of p) (frames_of p) (cells_of p) (job_of p) (Turns ts) (OfTask TooDeep)
  loop_deep s h = bad (Turns ts) _ _ refl (deep_long now.act path _ h (own p w (λ e. steps_on e.act ≡ true) (loop_steps (act_of p) u is)) (some_blocks ∙ s))

  module _ (list : List PendingInstance) (added : 0 < length (body (code_of p) u.body).entries → IsSome (slot_at (frames_of p) p.view.at) → AddsTurns (code_of p) (frames_of p) p.view.at u.body (entry_view p.entry.now).offset turns [] list) (none : length (body (code_of p) u.body).entries ≡ 0 → list ≡ []) where
    is_there : IsSome (slot_at (frames_of p) p.view.at)
    is_there = subst (λ (o : Option Frame). IsSome o) (sym w.there) (search rules)

    -- one for each of them
    each_turn : 0 < length (body (code_of p) u.body).entries → AllZip (IsTurn (code_of p) (frames_of p) p.view.at u.body now.offset) turns list
    each_turn s = (let a = added s is_there in own p w (λ e. AllZip (IsTurn (code_of p) (frames_of p) p.view.at u.body e.offset) turns list) (subst (λ l. AllZip (IsTurn (code_of p) (frames_of p) p.view.at u.body (entry_view p.entry.now).offset) turns l) (sym a.new_is) a.each))

    all_blocks : (es : List ℕ) → (body (code_of p) u.body).entries ≡ es → map (block_of (frames_of p) (Some p.view.at)) (map opening_frame list) ≡ filter (has_entries (code_of p)) (map (λ (t : Key × Scalar). (u.body, step_at now.offset t.0 path)) turns)
    all_blocks [] e = ap (λ l. map (block_of (frames_of p) (Some p.view.at)) (map opening_frame l)) (none (ap length e)) ∙ sym (turns_dropped (code_of p) u.body now.offset path turns (ap is_some_list e))
    all_blocks (j ∷ js) e =
        turns_blocks (code_of p) (frames_of p) p.view.at u.body now.offset turns list (each_turn (subst (λ (es : List ℕ). 0 < length es) (sym e) (omega arith)))
        ∙ sym (turns_kept (code_of p) u.body now.offset path turns (ap is_some_list e))

    all_each : (es : List ℕ) → (body (code_of p) u.body).entries ≡ es → (o : PendingInstance) → In o list → IsOpened (code_of p) (frames_of p) (job_of p) (Turns ts) u.body o
    all_each [] e o m = absurd (subst (λ l. In o l) (none (ap length e)) m)
    all_each (j ∷ js) e o m =
        subst (λ l. IsOpenedBy (code_of p) (frames_of p) p.view.at p.number p.chunk (Turns ts) u.body l o) (sym (own p w (λ e. loop_of e.act ≡ Some u) is))
        (turn_in (code_of p) (frames_of p) p.view.at u.body now.offset turns list (each_turn (subst (λ (es : List ℕ). 0 < length es) (sym e) (omega arith))) o m)

    loop_well : (is_some_list turns && nat_le max_path_steps (length path)) ≡ false → (e : Effect) (q : OpensList p u.body list (is_some_list (left_at (suc p.chunk) ts)) e) → GoesWell (code_of p) (frames_of p) (cells_of p) (job_of p) (Turns ts) (To.Opens q.openings)
    loop_well h e q = record {
      good = (effect_at (code_of p) p.number path p.chunk (Turns ts), good (Turns ts) _ _ refl (deep_turns now.act path _ (is_some_list turns) some_blocks h));
      apart = λ y. absurd (cc y.inserts);
      computed = tt;
      leads = λ d h. none_some h;
      stored = stores_nothing p w (Turns ts) (loop_stores (act_of p) (entry_view p.entry.now).node u is);
      rises = refl;
      lines = own p w (λ e. prints e.act (Turns ts) ≡ []) (loop_silent (act_of p) (Turns ts) u is);
      opens = record {
        blocks = ap (λ l. map (block_of (frames_of p) (Some p.view.at)) (map opening_frame l)) q.list_is ∙ all_blocks (body (code_of p) u.body).entries refl ∙ sym (ap (filter (has_entries (code_of p))) blocks_are);
        each = λ o m. subst (λ n. IsOpened (code_of p) (frames_of p) (job_of p) (Turns ts) n o) (sym q.body_is) (all_each (body (code_of p) u.body).entries refl o (subst (λ l. In o l) q.list_is m));
        value_is = q.value_is ∙ w.table_is.value;
        turn_is = q.turn_is ∙ w.table_is.turn;
        goes_on = q.goes_is ∙ sym (ap (λ o. is_some_list (rest o p.number path p.chunk (Turns ts))) (own p w (λ e. loop_of e.act ≡ Some u) is) ∙ some_rest (is_some_list (left_at (suc p.chunk) ts)) p.number path p.chunk);
        spare = subst (λ l. AllZip IsSpare (needs_of (code_of p) l) q.openings.spare.items) (sym q.list_is) q.spare;
      };
    }

    pub loop_opens : (is_some_list turns && nat_le max_path_steps (length path)) ≡ false → (e : Effect) → OpensList p u.body list (is_some_list (left_at (suc p.chunk) ts)) e → Ends p (Turns ts) e
    loop_opens h e q = subst (λ y. Ends p (Turns ts) y) (sym q.is) (loop_well h e q)

lt_true : (a b : ℕ) → a < b → nat_lt a b ≡ true
lt_true a b h = grind (arith, h)

lt_from : (a b : ℕ) → nat_lt a b ≡ true → a < b
lt_from a b h = grind (arith, h)

-- it is over a chunk that begins and ends there
module _ (p : EndingItem) (w : IsEnded p) (b : ℕ) (l : IsLoop p b) (ts : Elements) (count first end : ℕ) (begins : first ≡ min (p.chunk * chunk_size) count) (ends : end ≡ min (p.chunk * chunk_size + chunk_size) count) (all : length ts ≡ count) where
  has_turns : is_some_list (chunk p.chunk ts) ≡ nat_lt (p.chunk * chunk_size) count
  has_turns = some_chunk p.chunk ts ∙ ap (λ n. nat_lt (p.chunk * chunk_size) n) all

  has_more : nat_lt end count ≡ is_some_list (left_at (suc p.chunk) ts)
  has_more = ap (λ n. nat_lt n count) ends ∙ least (p.chunk * chunk_size + chunk_size) count ∙ sym (some_behind p.chunk ts ∙ ap (λ n. nat_lt (p.chunk * chunk_size + chunk_size) n) all)
    where
      least : (m n : ℕ) → nat_lt (min m n) n ≡ nat_lt m n
      least m n = elim (cases_Bool (nat_lt m n)) [
        | inl t ↦ (let h = lt_from m n t in lt_true (min m n) n (omega (arith, h)) ∙ sym t)
        | inr f ↦ elim (cases_Bool (nat_lt (min m n) n)) [
          | inl t ↦ (let h = lt_from (min m n) n t in absurd (cc (sym f ∙ lt_true m n (omega (arith, h)))))
          | inr g ↦ g ∙ sym f
        ]
      ]

  pub chunk_deep : first < end → nat_le max_path_steps (length (path_of (frames_of p) p.view.at)) ≡ true → (e : Effect) → FailsWith p (OfTask TooDeep) e → Ends p (Turns ts) e
  chunk_deep h d e f = fails_ends p (Turns ts) (OfTask TooDeep) e (loop_deep p w l.0 ts l.1 (has_turns ∙ lt_true (p.chunk * chunk_size) count (here (p.chunk * chunk_size) count first end begins ends h)) d) f
    where
      here : (m n f e : ℕ) → f ≡ min m n → e ≡ min (m + chunk_size) n → f < e → m < n
      here m n f e q r h = omega (arith, q, r, h)

  not_deep : (first < end → nat_le max_path_steps (length (path_of (frames_of p) p.view.at)) ≡ false) → (is_some_list (chunk p.chunk ts) && nat_le max_path_steps (length (path_of (frames_of p) p.view.at))) ≡ false
  not_deep h = elim (cases_Bool (nat_lt (p.chunk * chunk_size) count)) [
    | inl t ↦ and_right _ _ (h (here (p.chunk * chunk_size) count first end begins ends (lt_from (p.chunk * chunk_size) count t)))
    | inr f ↦ and_left _ _ (has_turns ∙ f)
  ]
    where
      here : (m n f e : ℕ) → f ≡ min m n → e ≡ min (m + chunk_size) n → m < n → f < e
      here m n f e q r h = omega (arith, q, r, h)

  pub chunk_opens : (list : List PendingInstance) → (0 < length (body (code_of p) b).entries → IsSome (slot_at (frames_of p) p.view.at) → AddsTurns (code_of p) (frames_of p) p.view.at b (entry_view p.entry.now).offset (chunk p.chunk ts) [] list) → (length (body (code_of p) b).entries ≡ 0 → list ≡ []) → (first < end → nat_le max_path_steps (length (path_of (frames_of p) p.view.at)) ≡ false) → (e : Effect) → OpensList p b list (nat_lt end count) e → Ends p (Turns ts) e
  chunk_opens list added none h e q =
      loop_opens p w l.0 ts l.1 list
      (subst (λ n. 0 < length (body (code_of p) n).entries → IsSome (slot_at (frames_of p) p.view.at) → AddsTurns (code_of p) (frames_of p) p.view.at n (entry_view p.entry.now).offset (chunk p.chunk ts) [] list) (sym l.2) added)
      (subst (λ n. length (body (code_of p) n).entries ≡ 0 → list ≡ []) (sym l.2) none)
      (not_deep h) e
      (subst (λ n. OpensList p n list (is_some_list (left_at (suc p.chunk) ts)) e) (sym l.2) (subst (λ g. OpensList p b list g e) has_more q))
