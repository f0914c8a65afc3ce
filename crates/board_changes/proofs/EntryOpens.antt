-- An entry's item ends that opens instances.
use Rattle.std.proofs.Common.{◌≡◌, ◌⊎◌, ◌∙◌, refl, sym, ap, subst, inl, inr, ℕ, suc, ◌+◌, ◌*◌, ◌<◌, ◌^◌, Bool, true, false, List, [], ◌∷◌, length, map, Option, Some, None, option_map}
use Rattle.std.specs.Prelude.{IsSome, is_some, if◌then◌else◌}
use Rattle.std.specs.List.{filter}
use Rattle.dataflow.specs.System.{In, Opening}
use Rattle.dataflow.specs.Machine.{Event}
use Rattle.dataflow.proofs.Lists.{in_left, in_map, in_right, in_unmap}
use Rattle.data_store.specs.Data.{with_holds}
use Rattle.data_store.specs.Stores.{Store, at}
use Rattle.board_history.proofs.Frames.{Within, alike_live}
use Rattle.board_history.proofs.Reached.{frame_reached}
use Rattle.board_history.proofs.Tests.{in_kept}
use Rattle.board_history.specs.Ending.{BecomesKnown, CellsAfter, FramesOpen, Instance, NamesLead, TakenOff, added_times, given_times, has_entries, held_times, is_home, job_stores, leaving, outside, with_live}
use Rattle.board_history.specs.Fields.{Counted, Job, Whole, Does, Fields, Frame, Over, Row, path_of, row_of, slot_at, slot_for, task_of}
use Rattle.board_history.specs.Layouts.{Reached, reached_inside}
use Rattle.board_history.specs.Stands.{Stands}
use Rattle.board_history.specs.Static.{opened, outer_holds, rests}
use Rattle.task_code.specs.Code.{Code, Way, body, entry, ways}
use Rattle.task_code.specs.Compute.{Computed}
use Rattle.task_code.specs.Effects.{Task, is_some_list}
use Rattle.task_code.specs.Places.{Place, Step}
use Rattle.task_code.specs.Whole.{IsCode}
use Rattle.board_program.specs.Spots.{layout_of}
use Rattle.board_data.proofs.Cells.{cell_there}
use Rattle.board_data.specs.Ended.{Covers}
use Rattle.board_data.specs.Holds.{Closes, Fit, GivesUp}
use Rattle.board_data.specs.Stored.{StoresIn}
use Rattle.board_data.specs.View.{cell_view, cells_view}
use Rattle.board_instances.proofs.Opened.{stands_nested}
use Rattle.board_instances.specs.Made.{FitsAround, made_as}
use Rattle.board_instances.specs.Openings.{Put}
use Rattle.board_instances.specs.declared.pending.PendingInstances.{PendingInstances}
use Rattle.board_changes.proofs.After.{cells_after}
use Rattle.board_changes.proofs.Frames.{are_made, count, frames_open, nested}
use Rattle.board_changes.proofs.Leads.{all_lead}
use Rattle.board_changes.proofs.MadeData.{body_is, makes_data}
use Rattle.board_changes.proofs.Outer.{all_added, none_added, read_outside, ways_of, write_outside}
use Rattle.board_changes.proofs.Rights.{covers}
use Rattle.board_changes.proofs.Steps.{adds_all, closes_none, closes_same, gives_none, gives_same, last_none, last_some, outer_is, reads_are, writes_are}
use Rattle.board_changes.specs.Blocks.{AreBlocks}
use Rattle.board_changes.specs.Opened.{AreOpened, outer_of}
use Rattle.board_changes.proofs.Becomes.{becomes}
use Rattle.board_changes.specs.World.{Goes}
use Rattle.board_changes.specs.declared.data_state.Change.TheVariants as Changes

lengths : {X Y : Type 0} (f : X → Y) (xs : List X) → length (map f xs) ≡ length xs
lengths f [] = refl
lengths f (x ∷ xs) = ap suc (lengths f xs)

some_or_none : {X : Type 0} (xs : List X) → (xs ≡ []) ⊎ ((x : X) × In x xs)
some_or_none [] = inl refl
some_or_none (x ∷ xs) = inr (x, inl refl)

module _ (C : Code) (I : IsCode C) (es : List Event) (F : Fields) (x : Stands C (layout_of C) es F) (n k e c : ℕ) (row : Row) (there : row_of F.rows n ≡ Some row) (job : row.job ≡ Does k e c) (live : row.status ≡ Over → ⊥)
    (computed : Computed) (o : PendingInstances) (hs : List (Option Frame)) (rows : List Row) (s stored more : Store) (B : AreBlocks C F.frames (Does k e c) computed o) (W : AreOpened C (Does k e c) o F.frames hs F.rows rows stored more)
    (fits : FitsAround F.frames (Some k) (length o.list.items)) (few : (q : Put) → In q W.placed.puts → length q.frame.slots < 2 ^ 64) where
  abbrev ms : List Instance
  ms = map (made_as F.frames (Some k)) W.placed.puts

  around : (f : Frame) × (slot_at F.frames k ≡ Some f) × In e (body C f.body).entries
  around = x.frames.there n k e c row there job live

  reached : Reached C around.0.body
  reached = frame_reached C I (layout_of C) es F x n k e c row there job live around.0 around.2

  opens : FramesOpen C F.frames (Some k) ms hs
  opens = frames_open C (Does k e c) computed o F.frames hs F.rows rows stored more B W fits

  within : Within F.frames hs
  within = record {
    there = λ i f h. (with_live (f.live + (if is_home (Some k) i then length ms else 0)) f, opens.old i f h, alike_live (f.live + (if is_home (Some k) i then length ms else 0)) f);
    around = λ i j f h q. (let p = x.frames.inside i j f h q in (p.0, p.1));
  }

  leads : (m : Instance) → In m ms → NamesLead C (layout_of C) F.frames hs k e c m
  leads = all_lead C I es F x n k e c row there job live computed o hs F.rows rows stored more B W fits few

  one_body : (m : Instance) → In m ms → m.body ≡ o.body
  one_body m im = let q = in_unmap (made_as F.frames (Some k)) m W.placed.puts im in
      ap (λ (z : Instance). z.body) (sym q.2) ∙ body_is C I (Does k e c) computed o F.frames hs F.rows rows stored more B W q.0 q.1

  -- the way to the body that is opened
  way_of : (q : Put) → In q W.placed.puts → (w : Way) × In (w, o.body) (ways (entry C e).act)
  way_of q iq =
      let m = made_as F.frames (Some k) q in
      let im = in_map (made_as F.frames (Some k)) q W.placed.puts iq in
      let made = are_made C (Does k e c) computed o F.frames hs F.rows rows stored more B W in
      let block : In (m.body, m.path) (filter (has_entries C) (opened C (task_of F.frames (Does k e c)) computed)) = subst (λ (l : List (ℕ × List Step)). In (m.body, m.path) l) made (in_map (λ (z : Instance). (z.body, z.path)) m ms im) in
      let w = ways_of (entry C e).act (entry C e).offset (path_of F.frames k) c computed (m.body, m.path) (in_kept (has_entries C) (m.body, m.path) (opened C (task_of F.frames (Does k e c)) computed) block).0 in
      (w.0, subst (λ (z : ℕ). In (w.0, z) (ways (entry C e).act)) (one_body m im) w.1)

  count_is : length o.list.items ≡ length ms
  count_is =
      sym (count C (Does k e c) computed o F.frames hs F.rows rows stored more B W)
      ∙ sym (ap (λ (fs : List Frame). length fs) W.placed.frames_are) ∙ lengths (λ (p : Put). p.frame) W.placed.puts ∙ sym (lengths (made_as F.frames (Some k)) W.placed.puts)

  added_is : (q : Put) → In q W.placed.puts → (d : ℕ) →
      (length o.list.items * outer_of C (λ y. y.reads) hs q.key o.body d ≡ added_times C (layout_of C) (λ y. y.reads) hs d ms)
      × (length o.list.items * outer_of C (λ y. y.writes) hs q.key o.body d ≡ added_times C (layout_of C) (λ y. y.writes) hs d ms)
  added_is q iq d =
      let w = way_of q iq in
      let r = reached_inside around.0.body e o.body w.0 reached around.2 w.1 in
      let l = made_as F.frames (Some k) q in
      let il = in_map (made_as F.frames (Some k)) q W.placed.puts iq in
      let reads = outer_is C I o.body r hs q.key (λ y. y.reads) (λ y z i. in_left z y.reads y.writes i) d in
      let writes = outer_is C I o.body r hs q.key (λ y. y.writes) (λ y z i. in_right z y.reads y.writes i) d in (
        ap (λ z. length o.list.items * z) reads ∙ ap (λ z. z * held_times (slot_for (layout_of C) hs q.key o.body) d (outer_holds C (λ y. y.reads) o.body)) count_is ∙ sym (all_added C I es F x n k e c row there job live o.body w.0 w.1 hs ms one_body leads (λ y. y.reads) (read_outside C I es F x n k e c row there job live o.body w.0 w.1 hs ms one_body leads) d l il),
        ap (λ z. length o.list.items * z) writes ∙ ap (λ z. z * held_times (slot_for (layout_of C) hs q.key o.body) d (outer_holds C (λ y. y.writes) o.body)) count_is ∙ sym (all_added C I es F x n k e c row there job live o.body w.0 w.1 hs ms one_body leads (λ y. y.writes) (write_outside C I es F x n k e c row there job live o.body w.0 w.1 hs ms one_body leads) d l il),
      )

  module _ (cells : F.cells ≡ cells_view s.cells) where
    none : (d : ℕ) → at s d ≡ None → (added_times C (layout_of C) (λ y. y.reads) hs d ms ≡ 0) × (added_times C (layout_of C) (λ y. y.writes) hs d ms ≡ 0)
    none d h = elim (some_or_none W.placed.puts) [
      | inl z ↦ (let q : ms ≡ [] = ap (map (made_as F.frames (Some k))) z in
          (ap (λ (is : List Instance). added_times C (layout_of C) (λ y. y.reads) hs d is) q, ap (λ (is : List Instance). added_times C (layout_of C) (λ y. y.writes) hs d is) q))
      | inr q ↦ (let w = way_of q.0 q.1 in
          let no_cell : slot_at F.cells d ≡ None = ap (λ (cs : List (Option Counted)). slot_at cs d) cells ∙ cell_there s.cells d ∙ ap (option_map cell_view) h in (
            none_added C I es F x n k e c row there job live o.body w.0 w.1 hs ms one_body leads (λ y. y.reads) (read_outside C I es F x n k e c row there job live o.body w.0 w.1 hs ms one_body leads) d no_cell ms (λ m i. i),
            none_added C I es F x n k e c row there job live o.body w.0 w.1 hs ms one_body leads (λ y. y.writes) (write_outside C I es F x n k e c row there job live o.body w.0 w.1 hs ms one_body leads) d no_cell ms (λ m i. i),
          ))
    ]

  module _ (fit : (d : ℕ) → Fit (added_times C (layout_of C) (λ y. y.reads) hs d ms) (added_times C (layout_of C) (λ y. y.writes) hs d ms) (at W.made d)) where
    adds : (d : ℕ) → at more d ≡ option_map (with_holds (added_times C (layout_of C) (λ y. y.reads) hs d ms) (added_times C (layout_of C) (λ y. y.writes) hs d ms)) (at W.made d)
    adds = adds_all C hs o.body (length o.list.items) W.made more ms W.last W.holds
        (λ z. ap (map (made_as F.frames (Some k))) (last_none W.placed.puts (sym W.placed.last_is ∙ z)))
        (λ i z d. let q = last_some W.placed.puts i (sym W.placed.last_is ∙ z) in
        subst (λ (l : ℕ). (length o.list.items * outer_of C (λ y. y.reads) hs l o.body d ≡ added_times C (layout_of C) (λ y. y.reads) hs d ms) × (length o.list.items * outer_of C (λ y. y.writes) hs l o.body d ≡ added_times C (layout_of C) (λ y. y.writes) hs d ms)) q.2 (added_is q.0 q.1 d))
        fit

    module _ (gs : List (Option Frame)) (t : Store) (closed : List ℕ) (goes_on : Bool) (goes : Goes C goes_on (Does k e c) hs gs more t closed) where
      -- what is given up, and the instance that is left
      gone : (b : Bool) (os : List (Opening Task Place)) → b ≡ is_some_list os → Goes C b (Does k e c) hs gs more t closed →
          GivesUp (λ d. given_times C (layout_of C) (λ y. y.reads) F.frames d (Does k e c) os) (λ d. given_times C (layout_of C) (λ y. y.writes) F.frames d (Does k e c) os) more t × TakenOff gs hs (leaving (Does k e c) os)
      gone true [] q h = absurd (cc)
      gone false (p ∷ os) q h = absurd (cc)
      gone true (p ∷ os) q h = (subst (λ (u : Store). GivesUp (λ d. 0) (λ d. 0) more u) (sym h.1) (gives_none more), outside hs None refl (λ i. ap (λ (fs : List (Option Frame)). slot_at fs i) h.0))
      gone false [] q h = (
        gives_same _ _ _ _ more t (reads_are C I F.frames hs within k e c around.0 around.1 around.2 reached) (writes_are C I F.frames hs within k e c around.0 around.1 around.2 reached) h.gives,
        h.leaves (nested C (Does k e c) computed o F.frames hs F.rows rows stored more B W fits (stands_nested C (layout_of C) es F x)) (λ i z. let w : k ≡ i = cc in subst (λ (l : ℕ). IsSome (slot_at hs l)) w (ap is_some (opens.old k around.0 around.1))),
      )

      pub entry_opens : goes_on ≡ is_some_list (rests C (task_of F.frames (Does k e c)) computed) → F.cells ≡ cells_view s.cells → StoresIn None [] s stored → ((d : ℕ) → [] ≡ job_stores C (layout_of C) F.frames (Does k e c) computed d) →
          CellsAfter C (layout_of C) F.frames hs (Does k e c) computed ms (rests C (task_of F.frames (Does k e c)) computed) F.cells (cells_view t.cells)
          × TakenOff gs hs (leaving (Does k e c) (rests C (task_of F.frames (Does k e c)) computed))
      entry_opens q cells stores told =
          let g = gone goes_on (rests C (task_of F.frames (Does k e c)) computed) q goes in
          let cov = subst (λ (j : Job). Covers (λ d. given_times C (layout_of C) (λ y. y.reads) F.frames d j (rests C (task_of F.frames (Does k e c)) computed)) (λ d. given_times C (layout_of C) (λ y. y.writes) F.frames d j (rests C (task_of F.frames (Does k e c)) computed)) s) job (covers C I (layout_of C) es F x n row there live (rests C (task_of F.frames (Does k e c)) computed) s cells) in (
            subst (λ (cs : List (Option Counted)). CellsAfter C (layout_of C) F.frames hs (Does k e c) computed ms (rests C (task_of F.frames (Does k e c)) computed) cs (cells_view t.cells)) (sym cells)
                (cells_after C (layout_of C) F.frames hs (Does k e c) computed ms (rests C (task_of F.frames (Does k e c)) computed) None [] s stored W.made more t stores (makes_data C I (Does k e c) computed o F.frames hs F.rows rows stored more B W) adds g.0 cov told (none cells)),
            g.1,
          )

      -- the arrays that are closed
      shut : (b : Bool) (os : List (Opening Task Place)) → b ≡ is_some_list os → Goes C b (Does k e c) hs gs more t closed → Closes (λ d. given_times C (layout_of C) (λ y. y.writes) F.frames d (Does k e c) os) more closed
      shut true [] q h = absurd (cc)
      shut false (p ∷ os) q h = absurd (cc)
      shut true (p ∷ os) q h = subst (λ (ds : List ℕ). Closes (λ d. 0) more ds) (sym h.2) (closes_none more)
      shut false [] q h = closes_same _ _ more closed (writes_are C I F.frames hs within k e c around.0 around.1 around.2 reached) h.closes

      pub opens_become : goes_on ≡ is_some_list (rests C (task_of F.frames (Does k e c)) computed) → F.cells ≡ cells_view s.cells → StoresIn None [] s stored → ((d : ℕ) → [] ≡ job_stores C (layout_of C) F.frames (Does k e c) computed d) →
          BecomesKnown C (layout_of C) (job_stores C (layout_of C) F.frames (Does k e c) computed) F.cells (cells_view t.cells) (map Whole closed)
      opens_become q cells stores told =
          let os = rests C (task_of F.frames (Does k e c)) computed in
          let g = gone goes_on os q goes in
          let cov = subst (λ (j : Job). Covers (λ d. given_times C (layout_of C) (λ y. y.reads) F.frames d j os) (λ d. given_times C (layout_of C) (λ y. y.writes) F.frames d j os) s) job (covers C I (layout_of C) es F x n row there live os s cells) in
          subst (λ (cs : List (Option Counted)). BecomesKnown C (layout_of C) (job_stores C (layout_of C) F.frames (Does k e c) computed) cs (cells_view t.cells) (map Whole closed)) (sym cells)
          (becomes C (layout_of C) F.frames hs (Does k e c) computed ms os (Changes.Opens o) s stored W.made more t tt stores (makes_data C I (Does k e c) computed o F.frames hs F.rows rows stored more B W) adds g.0 cov told closed (shut goes_on os q goes) (λ w i. absurd i))
