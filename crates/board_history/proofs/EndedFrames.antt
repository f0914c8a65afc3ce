-- The instances of a board after an End without fault.
use Rattle.std.proofs.Common.{◌≡◌, ◌⊎◌, inl, inr, ℕ, zero, suc, ◌+◌, ◌*◌, ◌<◌, ◌≤◌, Bool, true, false, List, [], ◌∷◌, ◌++◌, map, length, refl, sym, ap, ◌∙◌, subst, Option, None, Some, if◌then◌else◌, arith}
use Rattle.std.specs.List.{filter}
use Rattle.std.specs.Prelude.{nat_eq}
use Rattle.std.proofs.lemmas.List.{map-append}
use Rattle.dataflow.specs.System.{In, Opening, tasks_of}
use Rattle.dataflow.specs.Machine.{Event}
use Rattle.dataflow.proofs.Lists.{in_map, in_split, in_unmap}
use Rattle.board_history.specs.Ending.{EndsTo, Instance, NewFrame, ended_rows, has_entries, home, is_home, is_one, jobs_after, leaving, level_inside, made_jobs, status_after, new_row, path_around, rest_jobs, with_live, TasksStay}
use Rattle.board_history.specs.Fields.{Does, Fields, Frame, Job, Layout, Status, Over, Ready, Row, Running, Script, Waiting, frames_in, is_of, is_over, level_of, path_from, path_of, row_of, rows_in, slot_at, step_before, task_of}
use Rattle.board_history.specs.Static.{opened, rests}
use Rattle.board_history.proofs.EndedBase.{Ending, computed, here, o, opens_are, own_row, row_there, task}
use Rattle.board_history.proofs.EndedItems.{one_in}
use Rattle.board_history.proofs.EndedRows.{ended_in, jobs_append, jobs_in, made_none, made_own, new_job, kept_over, of_home, of_is, rest_in_home, row_kept, row_to, rows_some, rows_zero}
use Rattle.board_history.proofs.Turns.{tasks_append}
use Rattle.board_history.proofs.Frames.{Alike, Lighter, Sound, Within, alike_live, frames_added, frames_zero, home_here, home_apart, level_same, lies, lies_home, one_if, path_none, path_same, path_step, taken_off}
use Rattle.board_history.proofs.Marking.{RowIs, live_status}
use Rattle.board_history.proofs.Next.{nat_same}
use Rattle.board_history.proofs.Rows.{row_by}
use Rattle.board_history.proofs.Tests.{choose, none_some, yes_no, some_same, in_kept}
use Rattle.task_code.specs.Code.{Code, Loop, body, entry, loop_of}
use Rattle.task_code.specs.Compute.{Computed}
use Rattle.task_code.specs.Effects.{Item, Main, Task, block, is_some_list, left_at, rest, rest_if, turns_of}
use Rattle.task_code.specs.Machine.{CodeState}
use Rattle.task_code.specs.Places.{Place, Step}
use Rattle.task_code.specs.Whole.{IsCode}

some_none : {A B : Type 0} {x : A} → ◌≡◌ {A = Option A} (Some x) None → B
some_none h = absurd (cc)

pub not_over : (m : Status) → is_over m ≡ false → m ≡ Over → ⊥
not_over m h e = yes_no (ap is_over e) h

over_or : (m : Status) → (is_over m ≡ false) ⊎ (m ≡ Over)
over_or Waiting = inl refl
over_or Ready = inl refl
over_or (Running w) = inl refl
over_or Over = inr refl

-- at most one item goes on with a loop
pub one_rest : (C : Code) (u : Task) (y : Computed) → length (rests C u y) ≤ 1
one_rest C Main y = omega arith
one_rest C (Item i p c) y = by (loop_of (entry C i).act)
  where
    of : (b : Bool) → length (rest_if b i p c) ≤ 1
    of true = omega arith
    of false = omega arith

    by : (l : Option Loop) → length (rest l i p c y) ≤ 1
    by None = omega arith
    by (Some w) = of (is_some_list (left_at (suc c) (turns_of y)))

times_if : (b : Bool) (n : ℕ) → (if b then n else 0) ≡ n * one_if b
times_if true n = omega arith
times_if false n = omega arith

some_length : {X : Type 0} (xs : List X) → is_some_list xs ≡ true → 0 < length xs
some_length [] h = yes_no h refl
some_length (x ∷ xs) h = omega arith

key_none : (around : Option ℕ) (k : ℕ) → (around ≡ Some k → ⊥) → one_if (is_home around k) ≡ 0
key_none None k ne = refl
key_none (Some j) k ne = home_apart j k (λ e. ne (ap Some (sym e)))

module _ (C : Code) (I : IsCode C) (L : Layout) (es : List Event) (F : Fields) (w n : ℕ) (t : CodeState) (G : Fields) (P : Ending C L es F w n t G) where
  abbrev j : Job
  j = P.row.job

  abbrev pub os : List (Opening Task Place)
  os = rests C (task C I L es F w n t G P) (computed C I L es F w n t G P)

  abbrev E : EndsTo C L F n P.row.job (computed C I L es F w n t G P) G
  E = P.to

  abbrev pub made : List Instance
  made = P.to.made

  abbrev pub fs : List (Option Frame)
  fs = F.frames

  abbrev pub hs : List (Option Frame)
  hs = P.to.middle

  abbrev pub gs : List (Option Frame)
  gs = G.frames

  abbrev jobs : List Job
  jobs = jobs_after C made j os

  abbrev R : ℕ → ℕ
  R k = rows_in k G.rows

  -- the item's own row, and its instance
  own : RowIs F.frames F.rows 1 (o C I L es F w n t G P).item
  own = row_there C I L es F w n t G P (o C I L es F w n t G P).item (here C I L es F w n t G P)

  own_at : (own.row ≡ P.row) × (suc own.at ≡ n)
  own_at = own_row C I L es F w n t G P own

  pub own_live : is_over P.row.status ≡ false
  own_live = ap (λ (r : Row). is_over r.status) (sym own_at.0) ∙ live_status own.row.status own.not_over

  pub own_frame : (k e c : ℕ) → j ≡ Does k e c → (f : Frame) × (slot_at fs k ≡ Some f) × In e (body C f.body).entries
  own_frame k e c h = P.x.frames.there n k e c P.row P.row_is h (not_over P.row.status own_live)

  around_there : (k : ℕ) → home j ≡ Some k → (f : Frame) × (slot_at fs k ≡ Some f)
  around_there k h = by j refl h
    where
      by : (i : Job) → j ≡ i → home i ≡ Some k → (f : Frame) × (slot_at fs k ≡ Some f)
      by Script e h = none_some h
      by (Does l e c) q h = (let p = own_frame l e c q in (p.0, subst (λ (m : ℕ). slot_at fs m ≡ Some p.0) (some_same h) p.1))

  -- no row or instance of a key that is not there
  free_rows : (k : ℕ) → slot_at fs k ≡ None → rows_in k F.rows ≡ 0
  free_rows k z = rows_zero k F.rows (λ i r h live of. let p = of_is k r.job of in let q = P.x.frames.there (suc i) k p.0 p.1 r h p.2 (not_over r.status live) in none_some (sym z ∙ q.1))

  free_frames : (k : ℕ) → slot_at fs k ≡ None → frames_in k fs ≡ 0
  free_frames k z = frames_zero k fs (λ i f h e. let q = P.x.frames.inside i k f h e in none_some (sym z ∙ q.1))

  -- those newly enabled were not over
  newly_live : (i m : ℕ) (r : Row) → row_of F.rows (suc i) ≡ Some r → m ≡ 1 + i → is_one m G.newly ≡ true → is_over r.status ≡ false
  newly_live i m r h e u =
      let q = P.to.newly.only m (one_in m G.newly u) in
      let at : suc i ≡ m = omega arith in
      let same : q.0 ≡ r = some_same (sym q.1 ∙ row_kept F.rows (map new_row jobs) m r (subst (λ (l : ℕ). row_of F.rows l ≡ Some r) at h)) in
      ap (λ (y : Row). is_over y.status) (sym same) ∙ ap is_over q.2

  rows_told : (k : ℕ) → R k + one_if (is_of k j) ≡ rows_in k F.rows + jobs_in k jobs
  rows_told k =
      ap (λ (rs : List Row). rows_in k rs + one_if (is_of k j)) P.to.rows
      ∙ ended_in n G.newly k 1 F.rows jobs newly_live own.at P.row (subst (λ (r : Row). row_of F.rows (suc own.at) ≡ Some r) own_at.0 own.there) (let e = own_at.1 in omega arith) own_live

  jobs_told : (k : ℕ) → jobs_in k jobs ≡ jobs_in k (made_jobs C made) + length os * one_if (is_home (home j) k)
  jobs_told k = jobs_append k (made_jobs C made) (rest_jobs j os) ∙ ap (λ (m : ℕ). jobs_in k (made_jobs C made) + m) (rest_in_home C k j os)

  -- keys of new instances
  abbrev keys : List ℕ
  keys = map (λ (m : Instance). m.key) made

  key_fresh : (k : ℕ) → In k keys → slot_at fs k ≡ None
  key_fresh k h = let m = in_unmap (λ (m : Instance). m.key) k made h in subst (λ (l : ℕ). slot_at fs l ≡ None) m.2 (P.to.opens.fresh m.0 m.1)

  key_new : (k : ℕ) → In k keys → (f : Frame) × (slot_at hs k ≡ Some f) × (f.parent ≡ home j)
  key_new k h =
      let m = in_unmap (λ (m : Instance). m.key) k made h in
      let p = P.to.opens.new m.0 m.1 in
      (p.0, subst (λ (l : ℕ). slot_at hs l ≡ Some p.0) m.2 p.1, p.2.parent)

  key_other : (i k : ℕ) → (In k keys → ⊥) → lies i (slot_at hs k) ≡ lies i (slot_at fs k)
  key_other i k ne = by (slot_at fs k) (slot_at hs k) refl refl
    where
      by : (a b : Option Frame) → slot_at fs k ≡ a → slot_at hs k ≡ b → lies i b ≡ lies i a
      by (Some f) b p q = ap (lies i) (sym q ∙ P.to.opens.old k f p) ∙ lies_home i (with_live (f.live + (if is_home (home j) k then length made else 0)) f) ∙ sym (lies_home i f)
      by None None p q = refl
      by None (Some g) p q =
          elim (P.to.opens.only k g q) [
            | inl h ↦ none_some (sym p ∙ h.1)
            | inr h ↦ absurd (ne (subst (λ (l : ℕ). In l keys) h.2 (in_map (λ (m : Instance). m.key) h.0 made h.1)))
          ]

  map_length : {X Y : Type 0} (f : X → Y) (xs : List X) → length (map f xs) ≡ length xs
  map_length f [] = refl
  map_length f (x ∷ xs) = let h = map_length f xs in omega arith

  frames_told : (i : ℕ) → frames_in i hs ≡ frames_in i fs + length made * one_if (is_home (home j) i)
  frames_told i =
      frames_added i (home j) fs keys hs P.to.opens.keys key_fresh key_new (key_other i)
      ∙ ap (λ (m : ℕ). frames_in i fs + m * one_if (is_home (home j) i)) (map_length (λ (m : Instance). m.key) made)

  -- what the item leaves
  leaving_told : (k : ℕ) → one_if (is_home (leaving j os) k) + length os * one_if (is_home (home j) k) ≡ one_if (is_home (home j) k)
  leaving_told k = by os (one_rest C (task C I L es F w n t G P) (computed C I L es F w n t G P))
    where
      by : (ps : List (Opening Task Place)) → length ps ≤ 1 → one_if (is_home (leaving j ps) k) + length ps * one_if (is_home (home j) k) ≡ one_if (is_home (home j) k)
      by [] l = omega arith
      by (p ∷ []) l = omega arith
      by (p ∷ q ∷ ps) l = absurd (omega arith)

  of_told : (k : ℕ) → one_if (is_of k j) ≡ one_if (is_home (home j) k)
  of_told k = ap one_if (of_home k j)

  -- a new instance is of a block that the item opens, and has entries
  pub made_block : (m : Instance) → In m made → In (m.body, m.path) (opened C (task C I L es F w n t G P) (computed C I L es F w n t G P)) × (is_some_list (body C m.body).entries ≡ true)
  made_block m i = in_kept (has_entries C) (m.body, m.path) (opened C (task C I L es F w n t G P) (computed C I L es F w n t G P)) (subst (λ (l : List (ℕ × List Step)). In (m.body, m.path) l) P.to.made_are (in_map (λ (m : Instance). (m.body, m.path)) m made i))

  made_entries : (m : Instance) → In m made → is_some_list (body C m.body).entries ≡ true
  made_entries m i = (made_block m i).1

  -- an instance before the item leaves its own
  middle_live : (k : ℕ) (f : Frame) → slot_at hs k ≡ Some f → (f.live ≡ (R k + frames_in k hs) + one_if (is_home (leaving j os) k)) × (0 < f.live)
  middle_live k f h =
      elim (P.to.opens.only k f h) [
        | inl q ↦ (let same : with_live (q.0.live + (if is_home (home j) k then length made else 0)) q.0 ≡ f = some_same (sym (P.to.opens.old k q.0 q.1) ∙ h) in
            let l = ap (λ (y : Frame). y.live) same in
            let a = P.x.frames.live k q.0 q.1 in
            let b = P.x.frames.kept k q.0 q.1 in
            let none = made_none C k made (λ m i e. none_some (sym (subst (λ (z : ℕ). slot_at fs z ≡ None) e (P.to.opens.fresh m i)) ∙ q.1)) in
            old f.live q.0.live (if is_home (home j) k then length made else 0) (length made) (one_if (is_home (home j) k)) (rows_in k F.rows) (frames_in k fs) (R k) (frames_in k hs) (one_if (is_home (leaving j os) k)) (length os) (one_if (is_of k j)) (jobs_in k jobs) (jobs_in k (made_jobs C made))
            l (times_if (is_home (home j) k) (length made)) a b (rows_told k) (jobs_told k) none (frames_told k) (leaving_told k) (of_told k))
        | inr q ↦ (let p = P.to.opens.new q.0 q.1 in
            let fr = subst (λ (z : ℕ). slot_at fs z ≡ None) q.2 (P.to.opens.fresh q.0 q.1) in
            let same : p.0 ≡ f = some_same (sym (subst (λ (z : ℕ). slot_at hs z ≡ Some p.0) q.2 p.1) ∙ h) in
            let l : f.live ≡ length (body C q.0.body).entries = ap (λ (y : Frame). y.live) (sym same) ∙ p.2.live in
            let own_jobs : jobs_in k (made_jobs C made) ≡ length (body C q.0.body).entries = subst (λ (z : ℕ). jobs_in z (made_jobs C made) ≡ length (body C q.0.body).entries) q.2 (made_own C made P.to.opens.keys q.0 q.1) in
            let apart = key_none (home j) k (λ e. let a = around_there k e in none_some (sym fr ∙ a.1)) in
            let some = some_length (body C q.0.body).entries (made_entries q.0 q.1) in
            new f.live (length (body C q.0.body).entries) (length made) (one_if (is_home (home j) k)) (rows_in k F.rows) (frames_in k fs) (R k) (frames_in k hs) (one_if (is_home (leaving j os) k)) (length os) (one_if (is_of k j)) (jobs_in k jobs) (jobs_in k (made_jobs C made))
            l some (free_rows k fr) (free_frames k fr) apart (rows_told k) (jobs_told k) own_jobs (frames_told k) (leaving_told k) (of_told k))
      ]
    where
      old : (live old_live more m h r0 f0 r f left ln of js mine : ℕ) → old_live + more ≡ live → more ≡ m * h → old_live ≡ r0 + f0 → 0 < old_live → r + of ≡ r0 + js → js ≡ mine + ln * h → mine ≡ 0 → f ≡ f0 + m * h → left + ln * h ≡ h → of ≡ h → (live ≡ (r + f) + left) × (0 < live)
      old live old_live more m h r0 f0 r f left ln of js mine a b c d e g z i k q = (grind arith, grind arith)

      new : (live en m h r0 f0 r f left ln of js mine : ℕ) → live ≡ en → 0 < en → r0 ≡ 0 → f0 ≡ 0 → h ≡ 0 → r + of ≡ r0 + js → js ≡ mine + ln * h → mine ≡ en → f ≡ f0 + m * h → left + ln * h ≡ h → of ≡ h → (live ≡ (r + f) + left) × (0 < live)
      new live en m h r0 f0 r f left ln of js mine a b c d e g z i k q l = (grind arith, grind arith)

  -- what was there is there
  pub old_there : (k : ℕ) (f : Frame) → slot_at fs k ≡ Some f → (g : Frame) × (slot_at hs k ≡ Some g) × Alike f g
  old_there k f h =
      (with_live (f.live + (if is_home (home j) k then length made else 0)) f, P.to.opens.old k f h, alike_live (f.live + (if is_home (home j) k then length made else 0)) f)

  pub within_old : Within fs hs
  within_old = record { there = old_there; around = λ k i f h e. (let p = P.x.frames.inside k i f h e in (p.0, p.1)) }

  level_told : (around : Option ℕ) (i : ℕ) (g : Frame) → around ≡ Some i → slot_at fs i ≡ Some g → level_inside fs around ≡ suc g.level
  level_told around i g e h = ap (level_inside fs) e ∙ ap (λ (x : Option Frame). suc (level_of x)) h

  middle_inside : (k i : ℕ) (f : Frame) → slot_at hs k ≡ Some f → f.parent ≡ Some i → (g : Frame) × (slot_at hs i ≡ Some g) × (f.level ≡ suc g.level)
  middle_inside k i f h e =
      elim (P.to.opens.only k f h) [
        | inl q ↦ old_inside q.0 q.1
        | inr q ↦ (let p = P.to.opens.new q.0 q.1 in new_inside q.0 p.0 p.2 (some_same (sym (subst (λ (z : ℕ). slot_at hs z ≡ Some p.0) q.2 p.1) ∙ h)))
      ]
    where
      inside_at : (a b : Frame) (l : ℕ) → slot_at fs i ≡ Some a → slot_at hs i ≡ Some b → Alike a b → l ≡ suc a.level → (g : Frame) × (slot_at hs i ≡ Some g) × (l ≡ suc g.level)
      inside_at a b l ia ib al e = (b, ib, e ∙ ap suc al.level)

      old_inside : (b : Frame) → slot_at fs k ≡ Some b → (g : Frame) × (slot_at hs i ≡ Some g) × (f.level ≡ suc g.level)
      old_inside b there = of (old_there k b there)
        where
          of : (g : Frame) × (slot_at hs k ≡ Some g) × Alike b g → (g : Frame) × (slot_at hs i ≡ Some g) × (f.level ≡ suc g.level)
          of g = by (some_same (sym g.1 ∙ h)) g.2
            where
              by : g.0 ≡ f → Alike b g.0 → (g : Frame) × (slot_at hs i ≡ Some g) × (f.level ≡ suc g.level)
              by same al =
                  let p = P.x.frames.inside k i b there (al.parent ∙ ap (λ (y : Frame). y.parent) same ∙ e) in
                  let u = old_there i p.0 p.1 in
                  inside_at p.0 u.0 f.level p.1 u.1 u.2 (ap (λ (y : Frame). y.level) (sym same) ∙ sym al.level ∙ p.2)

      new_inside : (m : Instance) (b : Frame) → NewFrame C fs (home j) m b → b ≡ f → (g : Frame) × (slot_at hs i ≡ Some g) × (f.level ≡ suc g.level)
      new_inside m b nb same =
          let a : home j ≡ Some i = sym nb.parent ∙ ap (λ (y : Frame). y.parent) same ∙ e in
          let g = around_there i a in
          let u = old_there i g.0 g.1 in
          inside_at g.0 u.0 f.level g.1 u.1 u.2 (ap (λ (y : Frame). y.level) (sym same) ∙ nb.level ∙ level_told (home j) i g.0 a g.1)

  middle_sound : Sound R (leaving j os) hs
  middle_sound = record { live = λ k f h. (middle_live k f h).0; inside = middle_inside; kept = λ k f h. (middle_live k f h).1 }

  pub lighter : Lighter R hs gs
  lighter = taken_off R gs hs (leaving j os) middle_sound P.to.leaves

  -- a row that is not over keeps its instance
  row_busy : (m k e c : ℕ) (r : Row) → row_of G.rows m ≡ Some r → is_over r.status ≡ false → r.job ≡ Does k e c → 0 < R k
  row_busy zero k e c r h live q = no_row G.rows h
    where
      no_row : (rows : List Row) → row_of rows zero ≡ Some r → 0 < R k
      no_row [] h = none_some h
      no_row (y ∷ rows) h = none_some h
  row_busy (suc i) k e c r h live q = rows_some k G.rows i r h live (ap (is_of k) q ∙ nat_same k)

  -- the path of a new instance
  pub new_path : (m : Instance) → In m made → path_of hs m.key ≡ m.path
  new_path m i =
      let p = P.to.opens.new m i in
      ap (λ (x : Option Frame). path_from hs (suc (level_of x)) (Some m.key)) p.1
      ∙ path_step hs p.0.level m.key p.0 p.1
      ∙ ap (λ (q : List Step). step_before p.0.way q) (ap (λ (x : Option ℕ). path_from hs p.0.level x) p.2.parent ∙ by (home j) refl p.0.level p.2.level)
      ∙ p.2.way
    where
      by : (x : Option ℕ) → home j ≡ x → (l : ℕ) → l ≡ level_inside fs x → path_from hs l x ≡ path_around fs x
      by None e l q = path_none hs l
      by (Some k) e l q =
          let a = around_there k e in
          ap (λ (z : ℕ). path_from hs z (Some k)) (q ∙ ap suc (level_same fs hs within_old k a.0 a.1)) ∙ sym (path_same fs hs within_old k a.0 a.1)

  -- an instance afterwards is one of these
  pub after_only : (k : ℕ) (g : Frame) → slot_at gs k ≡ Some g → (f : Frame) × (slot_at hs k ≡ Some f) × Alike g f
  after_only k g h = lighter.within.there k g h

  -- a live row afterwards: it was there, or is new
  pub record LiveRow (m : ℕ) (r : Row) : Type 0 where
    pub was : ((q : Row) × (row_of F.rows m ≡ Some q) × (q.status ≡ Over → ⊥) × (m ≡ n → ⊥) × (r.job ≡ q.job)) ⊎ (In r.job jobs × (length F.rows < m))

  pub live_row : (m : ℕ) (r : Row) → row_of G.rows m ≡ Some r → is_over r.status ≡ false → LiveRow m r
  live_row m r h live = by m (subst (λ (rs : List Row). row_of rs m ≡ Some r) P.to.rows h)
    where
      after : (i : ℕ) (q : Row) → r.status ≡ status_after n G.newly i q.status → (i ≡ n → ⊥) × ((is_one i G.newly ≡ true) ⊎ (is_over q.status ≡ false))
      after i q e =
          choose (λ (z : Status). r.status ≡ z → (i ≡ n → ⊥) × ((is_one i G.newly ≡ true) ⊎ (is_over q.status ≡ false))) (nat_eq i n) Over (if is_one i G.newly then Ready else q.status)
          (λ u g. absurd (not_over r.status live g))
          (λ u. choose (λ (z : Status). r.status ≡ z → (i ≡ n → ⊥) × ((is_one i G.newly ≡ true) ⊎ (is_over q.status ≡ false))) (is_one i G.newly) Ready q.status
          (λ v g. ((λ e. yes_no (subst (λ (l : ℕ). nat_eq i l ≡ true) e (nat_same i)) u), inl v))
          (λ v g. ((λ e. yes_no (subst (λ (l : ℕ). nat_eq i l ≡ true) e (nat_same i)) u), inr (ap is_over (sym g) ∙ live))))
          e

      by : (m : ℕ) → row_of (ended_rows F.rows n G.newly jobs) m ≡ Some r → LiveRow m r
      by zero h = no_row (ended_rows F.rows n G.newly jobs) h
        where
          no_row : (rows : List Row) → row_of rows zero ≡ Some r → LiveRow zero r
          no_row [] h = none_some h
          no_row (y ∷ rows) h = none_some h
      by (suc i) h =
          let q = row_by (status_after n G.newly) 1 (F.rows ++ map new_row jobs) i (suc i) r h (omega arith) in
          let a = after (suc i) q.0 q.3 in
          elim (new_job F.rows jobs i q.0 q.1) [
            | inl g ↦ record { was = inl (q.0, g, not_over q.0.status (elim a.1 [ inl u ↦ newly_live i (suc i) q.0 g (omega arith) u | inr v ↦ v ]), a.0, q.2) }
            | inr g ↦ record { was = inr (subst (λ (b : Job). In b jobs) (sym q.2) g.0, g.2) }
          ]

  -- a live row of another item is there afterwards
  pub old_row_after : (m : ℕ) (r : Row) → row_of F.rows m ≡ Some r → is_over r.status ≡ false → (m ≡ n → ⊥) → (q : Row) × (row_of G.rows m ≡ Some q) × (is_over q.status ≡ false) × (q.job ≡ r.job)
  old_row_after zero r h live ne = no_row F.rows h
    where
      no_row : (rows : List Row) → row_of rows zero ≡ Some r → (q : Row) × (row_of G.rows zero ≡ Some q) × (is_over q.status ≡ false) × (q.job ≡ r.job)
      no_row [] h = none_some h
      no_row (y ∷ rows) h = none_some h
  old_row_after (suc i) r h live ne =
      (record { job = r.job; status = status_after n G.newly (suc i) r.status }, subst (λ (rs : List Row). row_of rs (suc i) ≡ Some (record { job = r.job; status = status_after n G.newly (suc i) r.status })) (sym P.to.rows) (row_to (status_after n G.newly) 1 (F.rows ++ map new_row jobs) i (suc i) r (row_kept F.rows (map new_row jobs) (suc i) r h) (omega arith)), kept_over n G.newly (suc i) r.status ne (λ u. live) ∙ live, refl)

  pub frame_stays : (m k e c : ℕ) (r : Row) → row_of F.rows m ≡ Some r → is_over r.status ≡ false → (m ≡ n → ⊥) → r.job ≡ Does k e c → (g : Frame) × (slot_at gs k ≡ Some g)
  frame_stays m k e c r h live ne q =
      let a = old_row_after m r h live ne in
      let f = P.x.frames.there m k e c r h q (not_over r.status live) in
      let u = old_there k f.0 f.1 in
      lighter.busy k u.0 u.1 (row_busy m k e c a.0 a.1 a.2 (a.3 ∙ q))

  pub new_stays : (m : Instance) → In m made → (g : Frame) × (slot_at gs m.key ≡ Some g)
  new_stays m i =
      let p = P.to.opens.new m i in
      let fr = P.to.opens.fresh m i in
      let a = rows_told m.key in
      let b = jobs_told m.key in
      let c = made_own C made P.to.opens.keys m i in
      let d = some_length (body C m.body).entries (made_entries m i) in
      let e = of_told m.key in
      let g = key_none (home j) m.key (λ q. let z = around_there m.key q in none_some (sym fr ∙ z.1)) in
      lighter.busy m.key p.0 p.1 (more (R m.key) (one_if (is_of m.key j)) (one_if (is_home (home j) m.key)) (rows_in m.key F.rows) (jobs_in m.key jobs) (jobs_in m.key (made_jobs C made)) (length os) (length (body C m.body).entries) a b c d e g)
    where
      more : (r of h r0 js mine ln en : ℕ) → r + of ≡ r0 + js → js ≡ mine + ln * h → mine ≡ en → 0 < en → of ≡ h → h ≡ 0 → 0 < r
      more r of h r0 js mine ln en a b c d e g = grind arith

  -- the instance of an item that goes on with a loop stays
  pub home_stays : (k e c : ℕ) → j ≡ Does k e c → 0 < length os → (g : Frame) × (slot_at gs k ≡ Some g)
  home_stays k e c q some =
      let f = own_frame k e c q in
      let u = old_there k f.0 f.1 in
      let a = rows_told k in
      let b = jobs_told k in
      let one : one_if (is_home (home j) k) ≡ 1 = ap (λ (x : Job). one_if (is_home (home x) k)) q ∙ home_here k in
      let z = of_told k in
      let r = rows_some k F.rows own.at P.row (subst (λ (x : Row). row_of F.rows (suc own.at) ≡ Some x) own_at.0 own.there) own_live (ap (is_of k) q ∙ nat_same k) in
      lighter.busy k u.0 u.1 (more (R k) (one_if (is_of k j)) (one_if (is_home (home j) k)) (rows_in k F.rows) (jobs_in k jobs) (jobs_in k (made_jobs C made)) (length os) a b one z r some)
    where
      more : (r of h r0 js mine ln : ℕ) → r + of ≡ r0 + js → js ≡ mine + ln * h → h ≡ 1 → of ≡ h → 0 < r0 → 0 < ln → 0 < r
      more r of h r0 js mine ln a b c d e g = grind arith

  pub old_path : (k : ℕ) (f g : Frame) → slot_at fs k ≡ Some f → slot_at gs k ≡ Some g → path_of gs k ≡ path_of fs k
  old_path k f g h q = path_same gs hs lighter.within k g q ∙ sym (path_same fs hs within_old k f h)

  pub made_path : (m : Instance) → In m made → path_of gs m.key ≡ m.path
  made_path m i = let g = new_stays m i in path_same gs hs lighter.within m.key g.0 g.1 ∙ new_path m i

  -- tasks
  block_tasks : (m : Instance) → path_of gs m.key ≡ m.path → (xs : List ℕ) → map (task_of gs) (map (λ e. Does m.key e 0) xs) ≡ map (λ e. Item e m.path 0) xs
  block_tasks m p [] = refl
  block_tasks m p (x ∷ xs) = let r = block_tasks m p xs in λ i. Item x (p i) 0 ∷ r i

  made_tasks : (ms : List Instance) → ((m : Instance) → In m ms → path_of gs m.key ≡ m.path) → map (task_of gs) (made_jobs C ms) ≡ tasks_of (map (block C) (map (λ (m : Instance). (m.body, m.path)) ms))
  made_tasks [] h = refl
  made_tasks (m ∷ ms) h =
      map-append (task_of gs) (map (λ e. Does m.key e 0) (body C m.body).entries) (made_jobs C ms)
      ∙ (let a = block_tasks m (h m (inl refl)) (body C m.body).entries in let r = made_tasks ms (λ l i. h l (inr i)) in λ i. a i ++ r i)

  few_tasks : (ss : List (ℕ × List Step)) → tasks_of (map (block C) (filter (has_entries C) ss)) ≡ tasks_of (map (block C) ss)
  few_tasks [] = refl
  few_tasks (s ∷ ss) =
      choose (λ (l : List (ℕ × List Step)). tasks_of (map (block C) l) ≡ tasks_of (map (block C) (s ∷ ss))) (has_entries C s) (s ∷ filter (has_entries C) ss) (filter (has_entries C) ss)
      (λ u. ap (λ (l : List Task). (block C s).tasks ++ l) (few_tasks ss))
      (λ u. few_tasks ss ∙ sym (ap (λ (l : List ℕ). map (λ e. Item e s.1 0) l ++ tasks_of (map (block C) ss)) (none (body C s.0).entries u)))
    where
      none : (xs : List ℕ) → is_some_list xs ≡ false → xs ≡ []
      none [] h = refl
      none (x ∷ xs) h = yes_no refl h

  rest_tasks : (i : Job) (y : Computed) → ((k e c : ℕ) → i ≡ Does k e c → 0 < length (rests C (task_of fs i) y) → path_of gs k ≡ path_of fs k) → map (task_of gs) (rest_jobs i (rests C (task_of fs i) y)) ≡ tasks_of (rests C (task_of fs i) y)
  rest_tasks Script y h = refl
  rest_tasks (Does k e c) y h = by (loop_of (entry C e).act) (λ z. h k e c refl z)
    where
      of : (b : Bool) → (0 < length (rest_if b e (path_of fs k) c) → path_of gs k ≡ path_of fs k) → map (task_of gs) (map (λ p. Does k e (suc c)) (rest_if b e (path_of fs k) c)) ≡ tasks_of (rest_if b e (path_of fs k) c)
      of true h = ap (λ (p : List Step). Item e p (suc c) ∷ []) (h (omega arith))
      of false h = refl

      by : (l : Option Loop) → (0 < length (rest l e (path_of fs k) c y) → path_of gs k ≡ path_of fs k) → map (task_of gs) (map (λ p. Does k e (suc c)) (rest l e (path_of fs k) c y)) ≡ tasks_of (rest l e (path_of fs k) c y)
      by None h = refl
      by (Some w) h = of (is_some_list (left_at (suc c) (turns_of y))) h

  pub tasks_stay : TasksStay fs gs F.rows n jobs (tasks_of (o C I L es F w n t G P).effect.opens)
  tasks_stay = record {
    others = others;
    opened = map-append (task_of gs) (made_jobs C made) (rest_jobs j os)
        ∙ (λ i. made_part i ++ rest_part i)
        ∙ sym (tasks_append C (map (block C) (opened C (task C I L es F w n t G P) (computed C I L es F w n t G P))) os)
        ∙ ap tasks_of (sym (opens_are C I L es F w n t G P));
  }
    where
      others : (m : ℕ) (r : Row) → row_of F.rows m ≡ Some r → (r.status ≡ Over → ⊥) → (m ≡ n → ⊥) → task_of gs r.job ≡ task_of fs r.job
      others m r h live ne = by r.job refl
        where
          by : (i : Job) → r.job ≡ i → task_of gs i ≡ task_of fs i
          by Script q = refl
          by (Does k e c) q =
              let l = live_status r.status live in
              let f = P.x.frames.there m k e c r h q live in
              let g = frame_stays m k e c r h l ne q in
              ap (λ (p : List Step). Item e p c) (old_path k f.0 g.0 f.1 g.1)

      made_part : map (task_of gs) (made_jobs C made) ≡ tasks_of (map (block C) (opened C (task C I L es F w n t G P) (computed C I L es F w n t G P)))
      made_part = made_tasks made made_path ∙ ap (λ (l : List (ℕ × List Step)). tasks_of (map (block C) l)) P.to.made_are ∙ few_tasks (opened C (task C I L es F w n t G P) (computed C I L es F w n t G P))

      rest_part : map (task_of gs) (rest_jobs j os) ≡ tasks_of os
      rest_part = rest_tasks j (computed C I L es F w n t G P) (λ k e c q some. let f = own_frame k e c q in let g = home_stays k e c q some in old_path k f.0 g.0 f.1 g.1)

  -- a new job is an entry of a new instance, or goes on with the item's loop
  pub record NewJob (b : Job) : Type 0 where
    pub is : ((m : Instance) × (e : ℕ) × In m made × In e (body C m.body).entries × (b ≡ Does m.key e 0)) ⊎ ((k : ℕ) × (e : ℕ) × (c : ℕ) × (j ≡ Does k e c) × (b ≡ Does k e (suc c)) × (0 < length os))

  pub new_job_is : (b : Job) → In b jobs → NewJob b
  new_job_is b h =
      elim (in_split b (made_jobs C made) (rest_jobs j os) h) [ inl g ↦ made_job made (λ m i. i) g | inr g ↦ rest_job j os refl refl g ]
    where
      made_job : (ms : List Instance) → ((m : Instance) → In m ms → In m made) → In b (made_jobs C ms) → NewJob b
      made_job [] inn g = absurd g
      made_job (m ∷ ms) inn g =
          elim (in_split b (map (λ e. Does m.key e 0) (body C m.body).entries) (made_jobs C ms) g) [
            | inl q ↦ (let u = in_unmap (λ e. Does m.key e 0) b (body C m.body).entries q in record { is = inl (m, u.0, inn m (inl refl), u.1, sym u.2) })
            | inr q ↦ made_job ms (λ l i. inn l (inr i)) q
          ]

      rest_job : (i : Job) (ps : List (Opening Task Place)) → j ≡ i → os ≡ ps → In b (rest_jobs i ps) → NewJob b
      rest_job Script ps e f g = absurd g
      rest_job (Does k x c) [] e f g = absurd g
      rest_job (Does k x c) (p ∷ ps) e f g = record { is = inr (k, x, c, e, all (p ∷ ps) g, (let l = ap length f in omega arith)) }
        where
          all : (qs : List (Opening Task Place)) → In b (map (λ q. Does k x (suc c)) qs) → b ≡ Does k x (suc c)
          all [] g = absurd g
          all (q ∷ qs) g = elim g [ inl u ↦ u | inr u ↦ all qs u ]

  pub row_frame : (m k e c : ℕ) (r : Row) → row_of G.rows m ≡ Some r → r.job ≡ Does k e c → (r.status ≡ Over → ⊥) → (f : Frame) × (slot_at gs k ≡ Some f) × In e (body C f.body).entries
  row_frame m k e c r h q live = by (live_row m r h (live_status r.status live)).was
    where
      key_is : {a b x y u v : ℕ} → Does a x u ≡ Does b y v → (a ≡ b) × (x ≡ y)
      key_is h = (cc, cc)

      same_body : (f g : Frame) → slot_at fs k ≡ Some f → slot_at gs k ≡ Some g → f.body ≡ g.body
      same_body f g a b =
          let u = old_there k f a in
          let v = after_only k g b in
          let s : u.0 ≡ v.0 = some_same (sym u.1 ∙ v.1) in
          u.2.body ∙ ap (λ (y : Frame). y.body) s ∙ sym v.2.body

      by : ((q : Row) × (row_of F.rows m ≡ Some q) × (q.status ≡ Over → ⊥) × (m ≡ n → ⊥) × (r.job ≡ q.job)) ⊎ (In r.job jobs × (length F.rows < m)) → (f : Frame) × (slot_at gs k ≡ Some f) × In e (body C f.body).entries
      by (inl p) =
          let f = P.x.frames.there m k e c p.0 p.1 (sym p.4 ∙ q) p.2 in
          let g = frame_stays m k e c p.0 p.1 (live_status p.0.status p.2) p.3 (sym p.4 ∙ q) in
          (g.0, g.1, subst (λ (b : ℕ). In e (body C b).entries) (same_body f.0 g.0 f.1 g.1) f.2)
      by (inr p) =
          elim (new_job_is r.job p.0).is [
            | inl u ↦ (let a = key_is (sym q ∙ u.4) in
                let g = new_stays u.0 u.2 in
                let v = after_only u.0.key g.0 g.1 in
                let w = P.to.opens.new u.0 u.2 in
                let s : v.0 ≡ w.0 = some_same (sym v.1 ∙ w.1) in
                let b : u.0.body ≡ g.0.body = sym w.2.body_is ∙ ap (λ (y : Frame). y.body) (sym s) ∙ sym v.2.body in
                (g.0, subst (λ (z : ℕ). slot_at gs z ≡ Some g.0) (sym a.0) g.1, subst (λ (z : ℕ). In e (body C z).entries) b (subst (λ (z : ℕ). In z (body C u.0.body).entries) (sym a.1) u.3)))
            | inr u ↦ (let a = key_is (sym q ∙ u.4) in
                let f = own_frame u.0 u.1 u.2 u.3 in
                let g = home_stays u.0 u.1 u.2 u.3 u.5 in
                (g.0, subst (λ (z : ℕ). slot_at gs z ≡ Some g.0) (sym a.0) g.1, subst (λ (z : ℕ). In z (body C g.0.body).entries) (sym a.1) (subst (λ (b : ℕ). In u.1 (body C b).entries) (home_body u.0 f.0 g.0 f.1 g.1) f.2)))
          ]
        where
          home_body : (i : ℕ) (f g : Frame) → slot_at fs i ≡ Some f → slot_at gs i ≡ Some g → f.body ≡ g.body
          home_body i f g a b =
              let u = old_there i f a in
              let v = after_only i g b in
              let s : u.0 ≡ v.0 = some_same (sym u.1 ∙ v.1) in
              u.2.body ∙ ap (λ (y : Frame). y.body) s ∙ sym v.2.body

  -- what an instance afterwards was: one that was there, or a new one
  pub after_was : (k : ℕ) (g : Frame) → slot_at gs k ≡ Some g → ((f : Frame) × (slot_at fs k ≡ Some f) × Alike f g) ⊎ ((m : Instance) × (f : Frame) × In m made × (m.key ≡ k) × NewFrame C fs (home j) m f × Alike g f)
  after_was k g h =
      let v = after_only k g h in
      elim (P.to.opens.only k v.0 v.1) [
        | inl q ↦ (let u = old_there k q.0 q.1 in
            let s : u.0 ≡ v.0 = some_same (sym u.1 ∙ v.1) in
            inl (
              q.0,
              q.1,
              record {
                parent = u.2.parent ∙ ap (λ (y : Frame). y.parent) s ∙ sym v.2.parent;
                level = u.2.level ∙ ap (λ (y : Frame). y.level) s ∙ sym v.2.level;
                depth = u.2.depth ∙ ap (λ (y : Frame). y.depth) s ∙ sym v.2.depth;
                way = u.2.way ∙ ap (λ (y : Frame). y.way) s ∙ sym v.2.way;
                body = u.2.body ∙ ap (λ (y : Frame). y.body) s ∙ sym v.2.body;
                slots = u.2.slots ∙ ap (λ (y : Frame). y.slots) s ∙ sym v.2.slots;
              },
            ))
        | inr q ↦ (let w = P.to.opens.new q.0 q.1 in
            let s : w.0 ≡ v.0 = some_same (sym (subst (λ (z : ℕ). slot_at hs z ≡ Some w.0) q.2 w.1) ∙ v.1) in
            inr (q.0, v.0, q.1, q.2, subst (λ (y : Frame). NewFrame C fs (home j) q.0 y) s w.2, v.2))
      ]

  pub outermost_after : (k : ℕ) (g : Frame) → slot_at gs k ≡ Some g → g.parent ≡ None → (g.level ≡ 0) × (g.way ≡ None) × (g.body ≡ 0)
  outermost_after k g h e =
      elim (after_was k g h) [
        | inl q ↦ (let a = P.x.frames.outermost k q.0 q.1 (q.2.parent ∙ e) in (sym q.2.level ∙ a.0, sym q.2.way ∙ a.1, sym q.2.body ∙ a.2))
        | inr q ↦ (let none : home j ≡ None = sym q.4.parent ∙ sym q.5.parent ∙ e in
            let b = script_block q.0 (made_block q.0 q.2).0 none in
            (q.5.level ∙ q.4.level ∙ ap (level_inside fs) none, q.5.way ∙ no_way q.1.way (ap (λ (x : Option ℕ). step_before q.1.way (path_around fs x)) (sym none) ∙ q.4.way ∙ b.1), q.5.body ∙ q.4.body_is ∙ b.0))
      ]
    where
      no_way : (x : Option Step) → step_before x [] ≡ [] → x ≡ None
      no_way None h = refl
      no_way (Some y) h = absurd (cc)

      script_block : (m : Instance) → In (m.body, m.path) (opened C (task C I L es F w n t G P) (computed C I L es F w n t G P)) → home j ≡ None → (m.body ≡ 0) × (m.path ≡ [])
      script_block m i none = by j i none
        where
          by : (b : Job) → In (m.body, m.path) (opened C (task_of fs b) (computed C I L es F w n t G P)) → home b ≡ None → (m.body ≡ 0) × (m.path ≡ [])
          by Script i none = elim i [ inl q ↦ (ap (λ (z : ℕ × List Step). z.0) q, ap (λ (z : ℕ × List Step). z.1) q) | inr q ↦ absurd q ]
          by (Does k x c) i none = some_none none

  pub depth_after : (k : ℕ) (g : Frame) → slot_at gs k ≡ Some g → g.depth ≡ length (path_of gs k)
  depth_after k g h =
      elim (after_was k g h) [
        | inl q ↦ sym q.2.depth ∙ P.x.frames.depth k q.0 q.1 ∙ ap length (sym (old_path k q.0 g q.1 h))
        | inr q ↦ q.5.depth ∙ q.4.depth ∙ ap length (sym (subst (λ (z : ℕ). path_of gs z ≡ q.0.path) q.3 (made_path q.0 q.2)))
      ]

  pub live_after : (k : ℕ) (g : Frame) → slot_at gs k ≡ Some g → g.live ≡ rows_in k G.rows + frames_in k gs
  live_after k g h = let a = lighter.sound.live k g h in omega arith
