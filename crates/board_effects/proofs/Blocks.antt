-- What comes of the end of an item that opens blocks.
use Rattle.std.proofs.Common.{◌≡◌, ◌∙◌, refl, sym, ap, subst, inl, inr, ℕ, zero, suc, ◌<◌, Bool, true, false, ◌&&◌, List, [], ◌∷◌, map, length, Option, Some, None, IsSome, arith, rules}
use Rattle.std.specs.Prelude.{if◌then◌else◌, is_some, nat_le}
use Rattle.std.specs.List.{AllZip, filter}
use Rattle.dataflow.specs.Machine.{OfTask}
use Rattle.dataflow.specs.System.{In}
use Rattle.board_history.specs.Ending.{has_entries, job_stores}
use Rattle.board_history.proofs.Tests.{none_some}
use Rattle.board_history.specs.Fields.{Frame, path_of, slot_at, step_before}
use Rattle.task_code.specs.View.{entry_view}
use Rattle.task_code.specs.Code.{Act, Entry, Expr, If, arguments, body, entry, loop_of, stored_of}
use Rattle.task_code.specs.Compute.{Computed, Elements, Inserts, Takes, TooDeep}
use Rattle.task_code.specs.Effects.{at_first, effect_at, instances, is_some_list, is_too_deep, prints, rest, steps_on}
use Rattle.task_code.specs.Places.{Step}
use Rattle.values.specs.Limits.{max_path_steps}
use Rattle.board_program.specs.Spots.{layout_of}
use Rattle.board_program.specs.Tables.{is_place, passed_in}
use Rattle.board_instances.specs.Made.{block_of}
use Rattle.board_instances.specs.Openings.{passed_from}
use Rattle.board_instances.specs.Turns.{IsOpening}
use Rattle.board_instances.specs.View.{opening_frame}
use Rattle.board_instances.specs.declared.pending.PendingInstance.{PendingInstance}
use Rattle.board_effects.specs.Effects.{GoesWell, GoesWrong}
use Rattle.board_effects.specs.Ended.{Ends, IsEnded, OpensBlock, OpensList, act_of, cells_of, code_of, frames_of, job_of, needs_of}
use Rattle.board_effects.specs.Fits.{is_fault}
use Rattle.board_data.specs.Openings.{IsOpened, IsOpenedBy, IsSpare, handed_over}
use Rattle.board_effects.specs.declared.effect.Effect.{Effect}
use Rattle.board_effects.specs.declared.effect.Effect.TheVariants as To
use Rattle.board_effects.specs.declared.effect.EndingItem.{EndingItem}
use Rattle.board_effects.proofs.Acts.{bad, deep_long, deep_none, deep_plain, deep_short, good}
use Rattle.board_effects.proofs.Ends.{nowhere, unstored}

-- a path is not too long where no step is taken, no block is opened, or it is short enough
pub deep_steps : (a : Act) (p : List Step) (ss : List (ℕ × List Step)) (m : Bool) → steps_on a ≡ m → (m && nat_le max_path_steps (length p)) ≡ false → is_too_deep a p ss ≡ false
deep_steps a p ss true e h = deep_short a p ss h
deep_steps a p ss false e h = deep_plain a p ss e

pub deep_turns : (a : Act) (p : List Step) (ss : List (ℕ × List Step)) (m : Bool) → is_some_list ss ≡ m → (m && nat_le max_path_steps (length p)) ≡ false → is_too_deep a p ss ≡ false
deep_turns a p ss true e h = deep_short a p ss h
deep_turns a p ss false e h = deep_none a p ss e

module _ (p : EndingItem) (w : IsEnded p) where
  abbrev pub path : List Step
  path = path_of (frames_of p) p.view.at

  abbrev pub now : Entry
  now = entry (code_of p) p.number

  pub own : (P : Entry → Type 0) → P (entry_view p.entry.now) → P now
  own P x = subst P w.entry_is x

  -- the offset of its blocks, as it was worked out
  pub offset_is : p.table.now.offset ≡ (entry_view p.entry.now).offset
  offset_is = w.table_is.offset ∙ sym (ap (λ (e : Entry). e.offset) w.entry_is)

  -- what a call hands over
  handed_is : passed_from (frames_of p) p.view.at p.number 0 p.table.now.arguments.items ≡ handed_over (code_of p) (frames_of p) p.view.at p.number
  handed_is =
      ap (passed_from (frames_of p) p.view.at p.number 0) w.table_is.arguments_are
      ∙ sym (ap (λ (o : Option Frame). elim o [ None ↦ [] | Some f ↦ passed_from (frames_of p) p.view.at p.number 0 (map (passed_in (code_of p) f.body) (arguments now.act)) ]) w.there)

  pub stores_nothing : (x : Computed) → stored_of (entry_view p.entry.now).node (act_of p) ≡ [] → (d : ℕ) → (if is_place d None then [] else []) ≡ job_stores (code_of p) (layout_of (code_of p)) (frames_of p) (job_of p) x d
  stores_nothing x e d = nowhere (is_place d None) ∙ sym (unstored (code_of p) (frames_of p) p.view.at p.number p.chunk _ _ w x (own (λ e. stored_of e.node e.act ≡ []) e) d)

  -- it opens nothing, and does nothing else
  pub idle_ends : (x : Computed) → instances now.act now.offset path p.chunk x ≡ [] → is_fault x ≡ false → loop_of (act_of p) ≡ None → stored_of (entry_view p.entry.now).node (act_of p) ≡ [] → prints (act_of p) x ≡ [] → ((xs : Elements) → x ≡ Inserts xs → ⊥) → Ends p x To.Passes
  idle_ends x none computes single stores silent no_elements = record {
    good = (effect_at (code_of p) p.number path p.chunk x, good x _ _ computes (deep_none now.act path _ (ap is_some_list none)));
    apart = λ q. no_elements q.elements q.inserts;
    computed = tt;
    leads = λ d h. none_some h;
    stored = stores_nothing x stores;
    rises = refl;
    lines = own (λ e. prints e.act x ≡ []) silent;
    opens = record {
      none = ap (filter (has_entries (code_of p))) none;
      ends = ap (λ o. rest o p.number path p.chunk x) (own (λ e. loop_of e.act ≡ None) single);
    };
  }

  no_block : (c : ℕ) → ◌≡◌ {A = List (ℕ × List Step)} (at_first c []) []
  no_block zero = refl
  no_block (suc c) = refl

  -- a condition that does not hold, without an `else`
  pub no_else : (e : Expr) (b : ℕ) → act_of p ≡ If e b None → Ends p (Takes false) To.Passes
  no_else e b is =
      idle_ends (Takes false)
      (own (λ e. instances e.act e.offset path p.chunk (Takes false) ≡ []) (ap (λ a. instances a (entry_view p.entry.now).offset path p.chunk (Takes false)) is ∙ no_block p.chunk))
      refl (ap loop_of is) (ap (stored_of (entry_view p.entry.now).node) is) (ap (λ a. prints a (Takes false)) is) (λ xs q. absurd (cc q))

  module _ (x : Computed) (b : ℕ) (way : Option Step) (r : OpensBlock p x b way) where
    -- an item that goes on opens no block
    passes : (n : ℕ) → p.chunk ≡ suc n → Ends p x To.Passes
    passes n e = idle_ends x (own (λ e. instances e.act e.offset path p.chunk x ≡ []) (ap (λ m. instances (act_of p) (entry_view p.entry.now).offset path m x) e ∙ r.later path n)) r.computes r.single r.stores r.silent r.no_elements

    pub block_passes : (n : ℕ) → p.chunk ≡ n → 0 < n → Ends p x To.Passes
    block_passes zero e h = absurd (omega (arith, h))
    block_passes (suc n) e h = passes n e

    first : p.chunk ≡ 0 → instances now.act now.offset path p.chunk x ≡ (b, step_before way path) ∷ []
    first e = own (λ e. instances e.act e.offset path p.chunk x ≡ (b, step_before way path) ∷ []) (ap (λ m. instances (act_of p) (entry_view p.entry.now).offset path m x) e ∙ r.first path)

    pub block_deep : p.chunk ≡ 0 → is_some way ≡ true → nat_le max_path_steps (length path) ≡ true → GoesWrong (code_of p) (frames_of p) (cells_of p) (job_of p) x (OfTask TooDeep)
    block_deep e s h = bad x _ _ r.computes (deep_long now.act path _ h (own (λ e. steps_on e.act ≡ is_some way) r.steps ∙ s) (ap is_some_list (first e)))

    module _ (list : List PendingInstance) (added : 0 < length (body (code_of p) b).entries → IsSome (slot_at (frames_of p) p.view.at) → (o : PendingInstance) × (list ≡ o ∷ []) × IsOpening (code_of p) (frames_of p) p.view.at b way (passed_from (frames_of p) p.view.at p.number 0 p.table.now.arguments.items) None None o) (none : length (body (code_of p) b).entries ≡ 0 → list ≡ []) where
      is_there : IsSome (slot_at (frames_of p) p.view.at)
      is_there = subst (λ (o : Option Frame). IsSome o) (sym w.there) (search rules)

      one_block : (es : List ℕ) → (body (code_of p) b).entries ≡ es → map (block_of (frames_of p) (Some p.view.at)) (map opening_frame list) ≡ filter (has_entries (code_of p)) ((b, step_before way path) ∷ [])
      one_block [] e = ap (λ l. map (block_of (frames_of p) (Some p.view.at)) (map opening_frame l)) (none (ap length e)) ∙ sym (ap (λ es. if is_some_list es then (b, step_before way path) ∷ [] else []) e)
      one_block (j ∷ js) e =
          let o = added (subst (λ (es : List ℕ). 0 < length es) (sym e) (omega arith)) is_there in
          ap (λ l. map (block_of (frames_of p) (Some p.view.at)) (map opening_frame l)) o.1
          ∙ ap (λ f. block_of (frames_of p) (Some p.view.at) f ∷ []) o.2.inner.is
          ∙ sym (ap (λ es. if is_some_list es then (b, step_before way path) ∷ [] else []) e)

      one_each : (es : List ℕ) → (body (code_of p) b).entries ≡ es → (o : PendingInstance) → In o list → IsOpened (code_of p) (frames_of p) (job_of p) x b o
      one_each [] e o m = absurd (subst (λ l. In o l) (none (ap length e)) m)
      one_each (j ∷ js) e o m = (let y = added (subst (λ (es : List ℕ). 0 < length es) (sym e) (omega arith)) is_there in
          elim (subst (λ l. In o l) y.1 m) [
            | inl s ↦ subst (λ l. IsOpenedBy (code_of p) (frames_of p) p.view.at p.number p.chunk x b l o) (sym (own (λ e. loop_of e.act ≡ None) r.single)) (way, subst (λ z. IsOpening (code_of p) (frames_of p) p.view.at b way (handed_over (code_of p) (frames_of p) p.view.at p.number) None None z) (sym s) (subst (λ h. IsOpening (code_of p) (frames_of p) p.view.at b way h None None y.0) handed_is y.2))
            | inr n ↦ absurd n
          ])

      block_well : p.chunk ≡ 0 → (is_some way && nat_le max_path_steps (length path)) ≡ false → (e : Effect) (q : OpensList p b list false e) → GoesWell (code_of p) (frames_of p) (cells_of p) (job_of p) x (To.Opens q.openings)
      block_well z h e q = record {
        good = (effect_at (code_of p) p.number path p.chunk x, good x _ _ r.computes (deep_steps now.act path _ (is_some way) (own (λ e. steps_on e.act ≡ is_some way) r.steps) h));
        apart = λ q. r.no_elements q.elements q.inserts;
        computed = tt;
        leads = λ d h. none_some h;
        stored = stores_nothing x r.stores;
        rises = refl;
        lines = own (λ e. prints e.act x ≡ []) r.silent;
        opens = record {
          blocks = ap (λ l. map (block_of (frames_of p) (Some p.view.at)) (map opening_frame l)) q.list_is ∙ one_block (body (code_of p) b).entries refl ∙ sym (ap (filter (has_entries (code_of p))) (first z));
          each = λ o m. subst (λ n. IsOpened (code_of p) (frames_of p) (job_of p) x n o) (sym q.body_is) (one_each (body (code_of p) b).entries refl o (subst (λ l. In o l) q.list_is m));
          value_is = q.value_is ∙ w.table_is.value;
          turn_is = q.turn_is ∙ w.table_is.turn;
          goes_on = q.goes_is ∙ sym (ap (λ o. is_some_list (rest o p.number path p.chunk x)) (own (λ e. loop_of e.act ≡ None) r.single));
          spare = subst (λ l. AllZip IsSpare (needs_of (code_of p) l) q.openings.spare.items) (sym q.list_is) q.spare;
        };
      }

      pub block_opens : p.chunk ≡ 0 → (is_some way && nat_le max_path_steps (length path)) ≡ false → (e : Effect) → OpensList p b list false e → Ends p x e
      block_opens z h e q = subst (λ y. Ends p x y) (sym q.is) (block_well z h e q)
