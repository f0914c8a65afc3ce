-- The names of new instances lead where they should.
use Rattle.std.proofs.Common.{◌≡◌, ◌∙◌, refl, sym, ap, subst, inl, inr, ℕ, zero, suc, ◌<◌, ◌≤◌, ◌^◌, List, [], ◌∷◌, ◌++◌, length, map, replicate, take, Option, Some, None, arith}
use Rattle.std.proofs.lemmas.Bool.{cases_eq}
use Rattle.dataflow.specs.System.{In}
use Rattle.dataflow.specs.Machine.{Event}
use Rattle.dataflow.proofs.Lists.{in_unmap}
use Rattle.data_store.specs.Stores.{Store}
use Rattle.board_history.proofs.EndedNames.{flat_in}
use Rattle.board_history.proofs.Layouts.{names_lead}
use Rattle.board_history.proofs.Reached.{frame_reached}
use Rattle.board_history.proofs.Tests.{none_some, some_same}
use Rattle.board_history.specs.Ending.{Instance, NamesLead}
use Rattle.board_history.specs.Fields.{Absent, Does, Fields, Frame, Over, Row, Slot, row_of, slot_at}
use Rattle.board_history.specs.Layouts.{Passes, Reached}
use Rattle.board_history.specs.Stands.{Stands}
use Rattle.task_code.specs.Code.{Calling, Code, Name, arguments, body, entry, nth, ways}
use Rattle.task_code.specs.Compute.{Computed}
use Rattle.task_code.specs.Whole.{IsCode}
use Rattle.board_program.proofs.Laid.{is_layout, leads_somewhere}
use Rattle.board_program.specs.Spots.{layout_of, spot_in}
use Rattle.board_program.specs.Tables.{passed_in}
use Rattle.board_instances.proofs.Passed.{passes_over}
use Rattle.board_instances.proofs.Turned.{not_blank}
use Rattle.board_instances.specs.Made.{FitsAround, made_as}
use Rattle.board_instances.specs.Openings.{Put, passed_from}
use Rattle.board_instances.specs.Passing.{HandsOver}
use Rattle.board_instances.specs.View.{opening_frame}
use Rattle.board_instances.specs.declared.pending.PendingInstances.{PendingInstances}
use Rattle.board_changes.proofs.Cells.{own_count_of}
use Rattle.board_changes.proofs.Frames.{frames_open}
use Rattle.board_changes.proofs.MadeData.{body_is, one_of}
use Rattle.board_changes.specs.Blocks.{AreBlocks, handed}
use Rattle.board_changes.specs.Opened.{AreOpened}

-- lists of one length that agree at each place are the same
all_same : (xs ys : List Slot) → length xs ≡ length ys → ((i : ℕ) → nth Absent xs i ≡ nth Absent ys i) → xs ≡ ys
all_same [] [] l h = refl
all_same [] (y ∷ ys) l h = absurd (omega (arith, l))
all_same (x ∷ xs) [] l h = absurd (omega (arith, l))
all_same (x ∷ xs) (y ∷ ys) l h =
    let e : x ≡ y = h 0 in
    let r = all_same xs ys (omega (arith, l)) (λ i. h (suc i)) in
    λ i. e i ∷ r i

-- where the first so many have changed, the others stand behind them
tail_same : (n : ℕ) (xs ys zs : List Slot) → length xs ≡ length ys → ((i : ℕ) → n ≤ i → nth Absent xs i ≡ nth Absent ys i) → ys ≡ replicate n Absent ++ zs → xs ≡ take n xs ++ zs
tail_same zero xs ys zs l h e = all_same xs ys l (λ i. h i (omega arith)) ∙ e
tail_same (suc n) [] [] zs l h e = absurd (cc)
tail_same (suc n) [] (y ∷ ys) zs l h e = absurd (omega (arith, l))
tail_same (suc n) (x ∷ xs) [] zs l h e = absurd (omega (arith, l))
tail_same (suc n) (x ∷ xs) (y ∷ ys) zs l h e =
    let r : ys ≡ replicate n Absent ++ zs = cc in
    ap (λ (ws : List Slot). x ∷ ws) (tail_same n xs ys zs (omega (arith, l)) (λ i g. h (suc i) (omega (arith, g))) r)

taken : (n : ℕ) (xs : List Slot) → n ≤ length xs → length (take n xs) ≡ n
taken zero xs h = refl
taken (suc n) [] h = absurd (omega (arith, h))
taken (suc n) (x ∷ xs) h = ap suc (taken n xs (omega (arith, h)))

module _ (C : Code) (I : IsCode C) (es : List Event) (F : Fields) (x : Stands C (layout_of C) es F) (n k e c : ℕ) (row : Row) (there : row_of F.rows n ≡ Some row) (job : row.job ≡ Does k e c) (live : row.status ≡ Over → ⊥) (computed : Computed) (o : PendingInstances) (gs : List (Option Frame)) (old new : List Row) (s t : Store) (B : AreBlocks C F.frames (Does k e c) computed o) (W : AreOpened C (Does k e c) o F.frames gs old new s t) where
  around : (f : Frame) × (slot_at F.frames k ≡ Some f) × In e (body C f.body).entries
  around = x.frames.there n k e c row there job live

  reached : Reached C around.0.body
  reached = frame_reached C I (layout_of C) es F x n k e c row there job live around.0 around.2

  some_body : 0 < length C.bodies
  some_body = elim (cases_eq (length C.bodies) 0) [
    | inl z ↦ not_blank C around.0.body (omega (arith, z)) (some (body C around.0.body).entries around.2)
    | inr p ↦ omega (arith, p)
  ]
    where
      some : (is : List ℕ) → In e is → 0 < length is
      some [] i = absurd i
      some (i ∷ is) h = omega arith

  -- the item's own names lead somewhere
  own_leads : (r : Name) → In r ((entry C e).reads ++ (entry C e).writes) → spot_in C around.0.body r ≡ None → ⊥
  own_leads r i z =
      let p = leads_somewhere C I around.0.body r reached (flat_in (λ j. (entry C j).reads ++ (entry C j).writes) (body C around.0.body).entries e r around.2 i) in
      none_some (sym z ∙ p.1)

  handed_is : handed C F.frames (Does k e c) ≡ passed_from F.frames k e 0 (map (passed_in C around.0.body) (arguments (entry C e).act))
  handed_is = ap (λ (r : Option Frame). elim r [ None ↦ [] | Some f ↦ passed_from F.frames k e 0 (map (passed_in C f.body) (arguments (entry C e).act)) ]) around.1

  hands_over : (q : Put) → In q W.placed.puts → length q.frame.slots < 2 ^ 64 → In (Calling, q.frame.body) (ways (entry C e).act) → HandsOver C F.frames k e (made_as F.frames (Some k) q) q.frame
  hands_over q i few w =
      let u = one_of C I (Does k e c) computed o F.frames gs old new s t B W q i in
      let b = body_is C I (Does k e c) computed o F.frames gs old new s t B W q i in
      let m = length (body C o.body).makes in
      let slots = B.slots u.was u.is_in in
      let whole = tail_same m q.frame.slots (opening_frame u.was).slots (handed C F.frames (Does k e c)) u.count (λ z h. u.tail z (subst (λ y. y ≤ z) (sym (own_count_of C o.body)) h)) slots in
      let long : m ≤ length q.frame.slots = omega (arith, u.count, ap (λ (ys : List Slot). length ys) slots, lengths m) in
      let opened = (I.fits e Calling q.frame.body w).opened in
      record {
        outer = around.0;
        there = around.1;
        own = take m q.frame.slots;
        own_are = taken m q.frame.slots long ∙ ap (λ (z : ℕ). length (body C z).makes) (sym b);
        slots = whole ∙ ap (λ (zs : List Slot). take m q.frame.slots ++ zs) handed_is;
        few = few;
        function = opened.0;
        call = opened.1;
        leads = own_leads;
      }
    where
      lengths : (m : ℕ) → m ≤ length (replicate m Absent ++ handed C F.frames (Does k e c))
      lengths zero = omega arith
      lengths (suc m) = omega (arith, lengths m)

  module _ (fits : FitsAround F.frames (Some k) (length o.list.items)) (few : (q : Put) → In q W.placed.puts → length q.frame.slots < 2 ^ 64) where
    pub all_lead : (m : Instance) → In m (map (made_as F.frames (Some k)) W.placed.puts) → NamesLead C (layout_of C) F.frames gs k e c m
    all_lead m im =
        names_lead C I (layout_of C) (is_layout C I) es F x n k e c row there job live (map (made_as F.frames (Some k)) W.placed.puts) gs (frames_open C (Does k e c) computed o F.frames gs old new s t B W fits) m im (λ f h w. passes f h w (in_unmap (made_as F.frames (Some k)) m W.placed.puts im))
      where
        passes : (f : Frame) → slot_at gs m.key ≡ Some f → In (Calling, m.body) (ways (entry C e).act) → (q : Put) × In q W.placed.puts × (made_as F.frames (Some k) q ≡ m) → Passes C (layout_of C) F.frames k e c m f
        passes f h w q =
            let there_q : slot_at gs m.key ≡ Some q.0.frame = ap (λ (z : Instance). slot_at gs z.key) (sym q.2) ∙ W.placed.put_in.there q.0 q.1 in
            let same : q.0.frame ≡ f = some_same (sym there_q ∙ h) in
            subst (λ (g : Frame). Passes C (layout_of C) F.frames k e c m g) same
            (passes_over C F.frames k e c m q.0.frame some_body (subst (λ (z : Instance). HandsOver C F.frames k e z q.0.frame) q.2 (hands_over q.0 q.1 (few q.0 q.1) (subst (λ (z : Instance). In (Calling, z.body) (ways (entry C e).act)) (sym q.2) w))))
