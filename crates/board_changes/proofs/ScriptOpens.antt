-- The opening of the script ends.
use Rattle.std.proofs.Common.{arith, ◌≡◌, ◌∙◌, refl, sym, ap, subst, inl, inr, ℕ, ◌*◌, List, [], ◌∷◌, length, map, Option, Some, None, option_map}
use Rattle.std.specs.List.{filter}
use Rattle.dataflow.specs.System.{In}
use Rattle.dataflow.specs.Machine.{Event}
use Rattle.dataflow.proofs.Lists.{in_map}
use Rattle.data_store.specs.Data.{with_holds}
use Rattle.data_store.specs.Stores.{Store, at}
use Rattle.board_history.proofs.Tests.{in_kept}
use Rattle.board_history.specs.Ending.{BecomesKnown, CellsAfter, Instance, TakenOff, added_times, given_times, has_entries, held_times, job_stores}
use Rattle.board_history.specs.Fields.{Counted, Job, Script, Slot, Whole, Fields, Frame, Over, Row, row_of, slot_for, task_of}
use Rattle.board_history.specs.Stands.{Stands}
use Rattle.board_history.specs.Static.{opened, outer_holds}
use Rattle.task_code.specs.Code.{Code, body, entry}
use Rattle.task_code.specs.Compute.{Computed}
use Rattle.task_code.specs.Places.{Step}
use Rattle.task_code.specs.Whole.{IsCode}
use Rattle.board_program.specs.Spots.{layout_of}
use Rattle.board_data.specs.Ended.{Covers}
use Rattle.board_data.specs.Holds.{Fit}
use Rattle.board_data.specs.Stored.{StoresIn}
use Rattle.board_data.specs.View.{cells_view}
use Rattle.board_instances.proofs.Opened.{stands_nested}
use Rattle.board_instances.specs.Made.{made_as}
use Rattle.board_instances.specs.Openings.{Put}
use Rattle.board_instances.specs.declared.pending.PendingInstances.{PendingInstances}
use Rattle.board_changes.proofs.After.{cells_after}
use Rattle.board_changes.proofs.Frames.{are_made, nested}
use Rattle.board_changes.proofs.MadeData.{body_is, makes_data}
use Rattle.board_history.proofs.EndedNames.{in_flat}
use Rattle.task_code.specs.Whole.{Declared}
use Rattle.task_code.specs.Code.{Entry, Name}
use Rattle.board_program.specs.Spots.{spot_in}
use Rattle.board_program.specs.Tables.{at_spot}
use Rattle.board_instances.specs.Names.{spot_slot}
use Rattle.board_changes.specs.World.{LetsGo}
use Rattle.board_changes.proofs.Outer.{held_none, outer_named}
use Rattle.board_changes.proofs.Rights.{covers}
use Rattle.board_changes.proofs.Steps.{adds_all, last_none, last_some}
use Rattle.board_changes.specs.Blocks.{AreBlocks}
use Rattle.board_changes.specs.Opened.{AreOpened, outer_of}
use Rattle.board_changes.proofs.Becomes.{becomes}
use Rattle.board_changes.specs.declared.data_state.Change.TheVariants as Changes

module _ (C : Code) (I : IsCode C) (es : List Event) (F : Fields) (x : Stands C (layout_of C) es F) (n : ℕ) (row : Row) (there : row_of F.rows n ≡ Some row) (job : row.job ≡ Script) (live : row.status ≡ Over → ⊥)
    (computed : Computed) (o : PendingInstances) (hs : List (Option Frame)) (rows : List Row) (s stored more : Store) (B : AreBlocks C F.frames Script computed o) (W : AreOpened C Script o F.frames hs F.rows rows stored more) where
  abbrev ms : List Instance
  ms = map (made_as F.frames None) W.placed.puts

  at_script : (m : Instance) → In m ms → m.body ≡ 0
  at_script m im =
      let made = are_made C Script computed o F.frames hs F.rows rows stored more B W in
      let block : In (m.body, m.path) (filter (has_entries C) (opened C (task_of F.frames Script) computed)) = subst (λ (l : List (ℕ × List Step)). In (m.body, m.path) l) made (in_map (λ (z : Instance). (z.body, z.path)) m ms im) in
      elim (in_kept (has_entries C) (m.body, m.path) (opened C (task_of F.frames Script) computed) block).0 [ inl e ↦ ap (λ (z : ℕ × List Step). z.0) e | inr n ↦ absurd n ]

  -- the script names only what it declares
  none_outside : (rights : Entry → List Name) → ((j : ℕ) (r : Name) → In j (body C 0).entries → In r (rights (entry C j)) → Declared C 0 r) → (f : Name → Slot) (d : ℕ) → held_times f d (outer_holds C rights 0) ≡ 0
  none_outside rights all f d = held_none f d (outer_holds C rights 0) (λ h i. let p = outer_named C rights 0 h i in let q = in_flat (λ j. rights (entry C j)) (body C 0).entries h.name p.0 in absurd (p.1 (all q.0 h.name q.1 q.2)))

  module _ (rights : Entry → List Name) (all : (j : ℕ) (r : Name) → In j (body C 0).entries → In r (rights (entry C j)) → Declared C 0 r) where
    none_added : (d : ℕ) (is : List Instance) → ((m : Instance) → In m is → In m ms) → added_times C (layout_of C) rights hs d is ≡ 0
    none_added d [] h = refl
    none_added d (m ∷ is) h =
        let one : held_times (slot_for (layout_of C) hs m.key m.body) d (outer_holds C rights m.body) ≡ 0 = ap (λ (z : ℕ). held_times (slot_for (layout_of C) hs m.key m.body) d (outer_holds C rights z)) (at_script m (h m (inl refl))) ∙ none_outside rights all (slot_for (layout_of C) hs m.key m.body) d in
        let more = none_added d is (λ l i. h l (inr i)) in
        omega (arith, one, more)

    outer_none : (q : Put) → In q W.placed.puts → (d : ℕ) → length o.list.items * outer_of C rights hs q.key o.body d ≡ added_times C (layout_of C) rights hs d ms
    outer_none q iq d =
        let b : o.body ≡ 0 = sym (body_is C I Script computed o F.frames hs F.rows rows stored more B W q iq) ∙ at_script (made_as F.frames None q) (in_map (made_as F.frames None) q W.placed.puts iq) in
        let z : outer_of C rights hs q.key o.body d ≡ 0 = ap (λ (z : ℕ). held_times (λ r. at_spot (spot_slot hs q.key) (spot_in C o.body r)) d (outer_holds C rights z)) b ∙ none_outside rights all (λ r. at_spot (spot_slot hs q.key) (spot_in C o.body r)) d in
        ap (λ k. length o.list.items * k) z ∙ times_zero (length o.list.items) ∙ sym (none_added d ms (λ m i. i))
      where
        times_zero : (n : ℕ) → n * 0 ≡ 0
        times_zero n = omega arith

  reads_none : (d : ℕ) → added_times C (layout_of C) (λ y. y.reads) hs d ms ≡ 0
  reads_none d = none_added (λ y. y.reads) I.script_reads d ms (λ m i. i)

  writes_none : (d : ℕ) → added_times C (layout_of C) (λ y. y.writes) hs d ms ≡ 0
  writes_none d = none_added (λ y. y.writes) I.script_writes d ms (λ m i. i)

  module _ (fit : (d : ℕ) → Fit (added_times C (layout_of C) (λ y. y.reads) hs d ms) (added_times C (layout_of C) (λ y. y.writes) hs d ms) (at W.made d)) where
    adds : (d : ℕ) → at more d ≡ option_map (with_holds (added_times C (layout_of C) (λ y. y.reads) hs d ms) (added_times C (layout_of C) (λ y. y.writes) hs d ms)) (at W.made d)
    adds = adds_all C hs o.body (length o.list.items) W.made more ms W.last W.holds
        (λ z. ap (map (made_as F.frames None)) (last_none W.placed.puts (sym W.placed.last_is ∙ z)))
        (λ i z d. let q = last_some W.placed.puts i (sym W.placed.last_is ∙ z) in
        subst (λ (l : ℕ). (length o.list.items * outer_of C (λ y. y.reads) hs l o.body d ≡ added_times C (layout_of C) (λ y. y.reads) hs d ms) × (length o.list.items * outer_of C (λ y. y.writes) hs l o.body d ≡ added_times C (layout_of C) (λ y. y.writes) hs d ms)) q.2
        (outer_none (λ y. y.reads) I.script_reads q.0 q.1 d, outer_none (λ y. y.writes) I.script_writes q.0 q.1 d))
        fit

    pub script_opens : (gs : List (Option Frame)) (t : Store) (closed : List ℕ) → LetsGo C Script hs gs more t closed → F.cells ≡ cells_view s.cells → StoresIn None [] s stored →
        CellsAfter C (layout_of C) F.frames hs Script computed ms [] F.cells (cells_view t.cells) × TakenOff gs hs None
        × BecomesKnown C (layout_of C) (job_stores C (layout_of C) F.frames Script computed) F.cells (cells_view t.cells) (map Whole closed)
    script_opens gs t closed goes cells stores =
        let cov = subst (λ (j : Job). Covers (λ d. given_times C (layout_of C) (λ y. y.reads) F.frames d j []) (λ d. given_times C (layout_of C) (λ y. y.writes) F.frames d j []) s) job (covers C I (layout_of C) es F x n row there live [] s cells) in
        let makes = makes_data C I Script computed o F.frames hs F.rows rows stored more B W in (
          subst (λ (cs : List (Option Counted)). CellsAfter C (layout_of C) F.frames hs Script computed ms [] cs (cells_view t.cells)) (sym cells)
              (cells_after C (layout_of C) F.frames hs Script computed ms [] None [] s stored W.made more t stores makes adds goes.gives cov (λ d. refl) (λ d h. (reads_none d, writes_none d))),
          goes.leaves (nested C Script computed o F.frames hs F.rows rows stored more B W tt (stands_nested C (layout_of C) es F x)) (λ k e. absurd (cc)),
          subst (λ (cs : List (Option Counted)). BecomesKnown C (layout_of C) (job_stores C (layout_of C) F.frames Script computed) cs (cells_view t.cells) (map Whole closed)) (sym cells)
              (becomes C (layout_of C) F.frames hs Script computed ms [] (Changes.Opens o) s stored W.made more t tt stores makes adds goes.gives cov (λ d. refl) closed goes.closes (λ w i. absurd i)),
        )
