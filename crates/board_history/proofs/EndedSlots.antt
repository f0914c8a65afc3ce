-- The instances of a board stand for the new state after an End without fault.
use Rattle.std.proofs.Common.{◌≡◌, ◌⊎◌, inl, inr, ℕ, ◌+◌, ◌<◌, true, List, length, refl, sym, ap, ◌∙◌, subst, Option, Some, arith}
use Rattle.dataflow.specs.System.{In}
use Rattle.dataflow.specs.Machine.{Event}
use Rattle.board_history.specs.Ending.{Instance, jobs_after}
use Rattle.board_history.specs.Fields.{Does, Fields, Frame, Job, Layout, Over, Row, Slot, path_of, row_of, slot_at, slot_for}
use Rattle.board_history.specs.Stands.{FramesStand, SlotStands}
use Rattle.board_history.specs.Static.{names_in, own_count}
use Rattle.board_history.proofs.EndedBase.{Ending, bare_t}
use Rattle.board_history.proofs.EndedCells.{name_counted, names_after, old_cell_there, old_name, own_name}
use Rattle.board_history.proofs.EndedFrames.{after_only, depth_after, hs, lighter, live_after, live_row, made, made_path, new_job_is, not_over, old_path, old_there, outermost_after, own_live, row_frame, within_old, os}
use Rattle.board_history.proofs.EndedNames.{Resolved, flat_in, outer_reads, outer_writes, row_reads, row_writes, to_datum, to_literal}
use Rattle.board_history.proofs.Frames.{slot_same}
use Rattle.board_history.proofs.Marking.{live_status}
use Rattle.board_history.proofs.Static.{declared_of}
use Rattle.task_code.proofs.Places.{declared_at}
use Rattle.task_code.specs.Check.{is_declared}
use Rattle.task_code.specs.Code.{Code, Entry, Name, Variable, body, entry, here}
use Rattle.task_code.specs.Machine.{CodeState}
use Rattle.task_code.specs.Places.{Datum, Place, Step, place_at}
use Rattle.task_code.specs.Whole.{IsCode}
use Rattle.board_history.proofs.Tests.{some_same}

module _ (C : Code) (I : IsCode C) (L : Layout) (es : List Event) (F : Fields) (w n : ℕ) (t : CodeState) (G : Fields) (P : Ending C L es F w n t G) where
  abbrev names : List (ℕ × Place)
  names = P.x.names

  abbrev pub later : List (ℕ × Place)
  later = names_after C I L es F w n t G P

  abbrev fs : List (Option Frame)
  fs = F.frames

  abbrev j : Job
  j = P.row.job

  abbrev ms : List Instance
  ms = made C I L es F w n t G P

  abbrev mid : List (Option Frame)
  mid = hs C I L es F w n t G P

  -- what a name stands for before, it stands for afterwards
  pub resolved_stands : (x : Slot) (a : Place) → Resolved C names x a → SlotStands C t later x a
  resolved_stands x a (to_datum d q v p e i) =
      subst (λ (b : Place). SlotStands C t later x b) (sym e)
      (λ h. (d, p, old_name C I L es F w n t G P d (Datum q v) _ i (old_cell_there C I L es F w n t G P d (Datum q v) i ((bare_t C I L es F w n t G P).places (Datum q v) h))))
  resolved_stands x a (to_literal e k v p q l) = subst (λ (b : Place). SlotStands C t later x b) (sym q) (e, k, p, l)

  -- a datum of a new instance
  pub own_stands : (m : Instance) → In m ms → (r : Name) → is_declared C m.body r ≡ true → ((v : Variable) → r ≡ here v → 0 < own_count C (λ e. e.reads) m.body v + own_count C (λ e. e.writes) m.body v) → SlotStands C t later (slot_for L mid m.key m.body r) (place_at C m.path r)
  own_stands m i r h lt =
      let d = declared_of C m.body r.up r.owned h in
      let l = lt d.0 d.2 in
      let c = P.to.cells.new m d.0 i d.1 l in
      let at : place_at C m.path r ≡ Datum m.path d.0 = ap (place_at C m.path) d.2 ∙ declared_at C m.path d.0 in
      subst (λ (b : Place). SlotStands C t later (slot_for L mid m.key m.body r) b) (sym at)
      (λ g. (c.key, ap (λ (y : Name). slot_for L mid m.key m.body y) d.2 ∙ c.leads, own_name C I L es F w n t G P c.key m d.0 i (record { declared = d.1; named = l; leads = c.leads })))

  new_reads : (m : Instance) → In m ms → (b : ℕ) → In b (body C m.body).entries → (r : Name) → In r (entry C b).reads → SlotStands C t later (slot_for L mid m.key m.body r) (place_at C m.path r)
  new_reads m i b ib r ir =
      elim (outer_reads C I L es F w n t G P m i b ib r ir) [
        | inl h ↦ own_stands m i r h (λ v e. let k = name_counted (here v) (names_in C (λ e. e.reads) m.body) (flat_in (λ e. (entry C e).reads) (body C m.body).entries b (here v) ib (subst (λ (y : Name). In y (entry C b).reads) e ir)) in more (own_count C (λ e. e.reads) m.body v) (own_count C (λ e. e.writes) m.body v) k)
        | inr h ↦ resolved_stands (slot_for L mid m.key m.body r) (place_at C m.path r) h
      ]
    where
      more : (a b : ℕ) → 0 < a → 0 < a + b
      more a b h = omega arith

  new_writes : (m : Instance) → In m ms → (b : ℕ) → In b (body C m.body).entries → (r : Name) → In r (entry C b).writes → SlotStands C t later (slot_for L mid m.key m.body r) (place_at C m.path r)
  new_writes m i b ib r ir =
      elim (outer_writes C I L es F w n t G P m i b ib r ir) [
        | inl h ↦ own_stands m i r h (λ v e. let k = name_counted (here v) (names_in C (λ e. e.writes) m.body) (flat_in (λ e. (entry C e).writes) (body C m.body).entries b (here v) ib (subst (λ (y : Name). In y (entry C b).writes) e ir)) in more (own_count C (λ e. e.reads) m.body v) (own_count C (λ e. e.writes) m.body v) k)
        | inr h ↦ resolved_stands (slot_for L mid m.key m.body r) (place_at C m.path r) h
      ]
    where
      more : (a b : ℕ) → 0 < b → 0 < a + b
      more a b h = omega arith

  same_body : (k : ℕ) (f g : Frame) → slot_at fs k ≡ Some f → slot_at G.frames k ≡ Some g → f.body ≡ g.body
  same_body k f g a b =
      let u = old_there C I L es F w n t G P k f a in
      let v = after_only C I L es F w n t G P k g b in
      let s : u.0 ≡ v.0 = some_same (sym u.1 ∙ v.1) in
      u.2.body ∙ ap (λ (y : Frame). y.body) s ∙ sym v.2.body

  made_body : (m : Instance) → In m ms → (g : Frame) → slot_at G.frames m.key ≡ Some g → m.body ≡ g.body
  made_body m i g h =
      let v = after_only C I L es F w n t G P m.key g h in
      let p = P.to.opens.new m i in
      let s : p.0 ≡ v.0 = some_same (sym p.1 ∙ v.1) in
      sym p.2.body_is ∙ ap (λ (y : Frame). y.body) s ∙ sym v.2.body

  -- slots of an instance that was there, and of a new one
  pub old_slot : (k : ℕ) (f g : Frame) (r : Name) → slot_at fs k ≡ Some f → slot_at G.frames k ≡ Some g → slot_for L G.frames k g.body r ≡ slot_for L fs k f.body r
  old_slot k f g r a b =
      ap (λ (y : ℕ). slot_for L G.frames k y r) (sym (same_body k f g a b))
      ∙ slot_same G.frames mid (lighter C I L es F w n t G P).within L k f.body r g b
      ∙ sym (slot_same fs mid (within_old C I L es F w n t G P) L k f.body r f a)

  pub new_slot : (m : Instance) → In m ms → (g : Frame) (r : Name) → slot_at G.frames m.key ≡ Some g → slot_for L G.frames m.key g.body r ≡ slot_for L mid m.key m.body r
  new_slot m i g r h =
      ap (λ (y : ℕ). slot_for L G.frames m.key y r) (sym (made_body m i g h)) ∙ slot_same G.frames mid (lighter C I L es F w n t G P).within L m.key m.body r g h

  stands_at : (x y : Slot) (a b : Place) → x ≡ y → a ≡ b → SlotStands C t later y b → SlotStands C t later x a
  stands_at x y a b p q h = subst (λ (z : Place). SlotStands C t later x z) (sym q) (subst (λ (z : Slot). SlotStands C t later z b) (sym p) h)

  key_is : {a b x y u v : ℕ} → Does a x u ≡ Does b y v → (a ≡ b) × (x ≡ y)
  key_is h = (cc, cc)

  -- each right of a live row leads to its place
  module _ (rights : Entry → List Name)
      (old : (m k e c : ℕ) (r : Row) (f : Frame) → row_of F.rows m ≡ Some r → r.job ≡ Does k e c → (r.status ≡ Over → ⊥) → slot_at fs k ≡ Some f → (x : Name) → In x (rights (entry C e)) → Resolved C names (slot_for L fs k f.body x) (place_at C (path_of fs k) x))
      (new : (m : Instance) → In m ms → (b : ℕ) → In b (body C m.body).entries → (r : Name) → In r (rights (entry C b)) → SlotStands C t later (slot_for L mid m.key m.body r) (place_at C m.path r)) where
    rights_stand : (m k e c : ℕ) (r : Row) (f : Frame) → row_of G.rows m ≡ Some r → r.job ≡ Does k e c → (r.status ≡ Over → ⊥) → slot_at G.frames k ≡ Some f → (x : Name) → In x (rights (entry C e)) → SlotStands C t later (slot_for L G.frames k f.body x) (place_at C (path_of G.frames k) x)
    rights_stand m k e c r f h q live fr x ix = by (live_row C I L es F w n t G P m r h (live_status r.status live)).was
      where
        of_old : (i a b d : ℕ) (u : Row) → row_of F.rows i ≡ Some u → u.job ≡ Does a b d → (u.status ≡ Over → ⊥) → k ≡ a → e ≡ b → SlotStands C t later (slot_for L G.frames k f.body x) (place_at C (path_of G.frames k) x)
        of_old i a b d u hu qu lu ea eb =
            let g = P.x.frames.there i a b d u hu qu lu in
            let fa : slot_at G.frames a ≡ Some f = subst (λ (y : ℕ). slot_at G.frames y ≡ Some f) ea fr in
            let z = old i a b d u g.0 hu qu lu g.1 x (subst (λ (y : ℕ). In x (rights (entry C y))) eb ix) in
            stands_at (slot_for L G.frames k f.body x) (slot_for L fs a g.0.body x) (place_at C (path_of G.frames k) x) (place_at C (path_of fs a) x)
            (ap (λ (y : ℕ). slot_for L G.frames y f.body x) ea ∙ old_slot a g.0 f x g.1 fa)
            (ap (λ (y : ℕ). place_at C (path_of G.frames y) x) ea ∙ ap (λ (y : List Step). place_at C y x) (old_path C I L es F w n t G P a g.0 f g.1 fa))
            (resolved_stands (slot_for L fs a g.0.body x) (place_at C (path_of fs a) x) z)

        by : ((u : Row) × (row_of F.rows m ≡ Some u) × (u.status ≡ Over → ⊥) × (m ≡ n → ⊥) × (r.job ≡ u.job)) ⊎ (In r.job (jobs_after C ms j (os C I L es F w n t G P)) × (length F.rows < m)) → SlotStands C t later (slot_for L G.frames k f.body x) (place_at C (path_of G.frames k) x)
        by (inl p) = of_old m k e c p.0 p.1 (sym p.4 ∙ q) p.2 refl refl
        by (inr p) =
            elim (new_job_is C I L es F w n t G P r.job p.0).is [
              | inl u ↦ (let a = key_is (sym q ∙ u.4) in
                  let fa : slot_at G.frames u.0.key ≡ Some f = subst (λ (y : ℕ). slot_at G.frames y ≡ Some f) a.0 fr in
                  stands_at (slot_for L G.frames k f.body x) (slot_for L mid u.0.key u.0.body x) (place_at C (path_of G.frames k) x) (place_at C u.0.path x)
                  (ap (λ (y : ℕ). slot_for L G.frames y f.body x) a.0 ∙ new_slot u.0 u.2 f x fa)
                  (ap (λ (y : ℕ). place_at C (path_of G.frames y) x) a.0 ∙ ap (λ (y : List Step). place_at C y x) (made_path C I L es F w n t G P u.0 u.2))
                  (new u.0 u.2 u.1 u.3 x (subst (λ (y : ℕ). In x (rights (entry C y))) a.1 ix)))
              | inr u ↦ (let a = key_is (sym q ∙ u.4) in of_old n u.0 u.1 u.2 P.row P.row_is u.3 (not_over P.row.status (own_live C I L es F w n t G P)) a.0 a.1)
            ]

  -- instances afterwards
  pub frames_after : FramesStand C L G t later
  frames_after = record {
    there = λ m k e c r h q live. row_frame C I L es F w n t G P m k e c r h q live;
    outermost = outermost_after C I L es F w n t G P;
    inside = (lighter C I L es F w n t G P).sound.inside;
    depth = depth_after C I L es F w n t G P;
    live = live_after C I L es F w n t G P;
    kept = (lighter C I L es F w n t G P).sound.kept;
    reads = rights_stand (λ e. e.reads) (row_reads C I L es F w n t G P) new_reads;
    writes = rights_stand (λ e. e.writes) (row_writes C I L es F w n t G P) new_writes;
  }
