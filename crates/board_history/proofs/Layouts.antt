-- Names of new instances lead where they should.
use Rattle.std.proofs.Common.{◌≡◌, inl, inr, ℕ, suc, ◌+◌, ◌*◌, Bool, not, List, [], ◌∷◌, ◌++◌, length, refl, sym, ap, ◌∙◌, subst, Option, None, Some, if◌then◌else◌, arith}
use Rattle.std.specs.List.{filter}
use Rattle.std.proofs.lemmas.Bool.{not-true}
use Rattle.dataflow.specs.System.{In}
use Rattle.dataflow.specs.Machine.{Event}
use Rattle.dataflow.proofs.Lists.{in_left}
use Rattle.board_history.specs.Ending.{FramesOpen, Instance, NamesLead, added_times, held_times, is_home, job_slot, slot_is, with_live}
use Rattle.board_history.specs.Fields.{Absent, Does, Fields, Frame, Layout, LiteralOf, Over, Row, Slot, frame_up, row_of, slot_at, slot_for}
use Rattle.board_history.specs.Layouts.{IsLayout, Passes, Reached, all_names, parameter}
use Rattle.board_history.specs.Stands.{Stands}
use Rattle.board_history.specs.Static.{Hold, names_in, outer_holds}
use Rattle.board_history.proofs.EndedNames.{flat_in, hold_named, in_flat}
use Rattle.board_history.proofs.Reached.{frame_reached}
use Rattle.board_history.proofs.Frames.{Within, alike_live, slot_of, slot_same, up_step}
use Rattle.task_code.specs.Code.{Calling, Code, Entry, Fixed, InPlace, Name, Through, Way, argument, body, entry, nth, ways}
use Rattle.board_history.proofs.Tests.{yes_no, in_kept}
use Rattle.task_code.proofs.Decided.{declared_is}
use Rattle.task_code.specs.Check.{is_declared}
use Rattle.task_code.specs.Whole.{Declared, IsCode, Seen}
use Rattle.values.specs.declared.value.Scalar.{Scalar}

-- what is read is read or written
read_name : (C : Code) (b : ℕ) (r : Name) → In r (names_in C (λ e. e.reads) b) → In r (all_names C b)
read_name C b r h =
    let p = in_flat (λ j. (entry C j).reads) (body C b).entries r h in
    flat_in (λ j. (entry C j).reads ++ (entry C j).writes) (body C b).entries p.0 r p.1 (in_left r (entry C p.0).reads (entry C p.0).writes p.2)

module _ (C : Code) (I : IsCode C) (L : Layout) (laid : IsLayout C L) (es : List Event) (F : Fields) (x : Stands C L es F) (n k e c : ℕ) (row : Row) (there : row_of F.rows n ≡ Some row) (job : row.job ≡ Does k e c) (live : row.status ≡ Over → ⊥) (made : List Instance) (hs : List (Option Frame)) (opens : FramesOpen C F.frames (Some k) made hs) (m : Instance) (im : In m made) where
  home : (f : Frame) × (slot_at F.frames k ≡ Some f) × In e (body C f.body).entries
  home = x.frames.there n k e c row there job live

  -- its body is one that runs open
  home_reached : Reached C home.0.body
  home_reached = frame_reached C I L es F x n k e c row there job live home.0 home.2

  within : Within F.frames hs
  within = record {
    there = λ i f h. (with_live (f.live + (if is_home (Some k) i then length made else 0)) f, opens.old i f h, alike_live (f.live + (if is_home (Some k) i then length made else 0)) f);
    around = λ i j f h q. (let p = x.frames.inside i j f h q in (p.0, p.1));
  }

  own_slot : (s : Name) → job_slot C L F.frames (Does k e c) s ≡ slot_for L F.frames k home.0.body s
  own_slot s = ap (λ (o : Option Frame). elim o [ None ↦ Absent | Some f ↦ slot_for L F.frames k f.body s ]) home.1

  -- one instance further out is the item's own
  out : (f : Frame) → slot_at hs m.key ≡ Some f → f.parent ≡ Some k → (l i : ℕ) → slot_of (frame_up hs (suc l) m.key) i ≡ slot_of (frame_up hs l k) i
  out f h q l i =
      ap (λ (o : Option Frame). slot_of o i) (up_step hs l m.key f h)
      ∙ ap (λ (o : Option ℕ). slot_of (elim o [ None ↦ None | Some j ↦ frame_up hs l j ]) i) q

  further : (r s : Name) → L.levels m.body r ≡ suc (L.levels home.0.body s) → L.slot m.body r ≡ L.slot home.0.body s → slot_for L hs m.key m.body r ≡ job_slot C L F.frames (Does k e c) s
  further r s hl hi =
      let p = opens.new m im in
      (λ z. slot_of (frame_up hs (hl z) m.key) (hi z))
      ∙ out p.0 p.1 p.2.parent (L.levels home.0.body s) (L.slot home.0.body s)
      ∙ sym (slot_same F.frames hs within L k home.0.body s home.0 home.1)
      ∙ sym (own_slot s)

  inside : (r : Name) → L.levels m.body r ≡ 0 → slot_for L hs m.key m.body r ≡ nth Absent (opens.new m im).0.slots (L.slot m.body r)
  inside r h =
      let p = opens.new m im in
      ap (λ (l : ℕ). slot_of (frame_up hs l m.key) (L.slot m.body r)) h ∙ ap (λ (o : Option Frame). slot_of o (L.slot m.body r)) p.1

  pub names_lead : ((f : Frame) → slot_at hs m.key ≡ Some f → In (Calling, m.body) (ways (entry C e).act) → Passes C L F.frames k e c m f) → NamesLead C L F.frames hs k e c m
  names_lead passes = record { seen = seen; fixed = fixed }
    where
      seen : (w : Way) (r s : Name) → In (w, m.body) (ways (entry C e).act) → In r (all_names C m.body) → (Declared C m.body r → ⊥) → Seen C (entry C e).offset w r s → In s ((entry C e).reads ++ (entry C e).writes) → slot_for L hs m.key m.body r ≡ job_slot C L F.frames (Does k e c) s
      seen InPlace r s iw ir nd h is =
          let p = laid.wait e m.body home.0.body r home_reached home.2 iw ir nd in
          further r s (p.0 ∙ ap (λ (y : Name). suc (L.levels home.0.body y)) h) (p.1 ∙ ap (L.slot home.0.body) h)
      seen Through r s iw ir nd h is =
          let p = laid.step e m.body home.0.body s home_reached home.2 iw (subst (λ (y : Name). In y (all_names C m.body)) h ir) in
          further r s (ap (L.levels m.body) h ∙ p.0) (ap (L.slot m.body) h ∙ p.1)
      seen Calling r s iw ir nd h is =
          let q = opens.new m im in
          let inn : In (parameter h.0 h.1) (all_names C m.body) = subst (λ (y : Name). In y (all_names C m.body)) h.2 ir in
          ap (slot_for L hs m.key m.body) h.2
          ∙ inside (parameter h.0 h.1) (laid.call m.body h.0 h.1 (I.fits e Calling m.body iw).opened.0 inn)
          ∙ (passes q.0 q.1 iw).named h.0 h.1 s inn h.3 is

      fixed : (i : ℕ) (b : Bool) (v : Scalar) → In (Calling, m.body) (ways (entry C e).act) → In (parameter i b) (names_in C (λ x. x.reads) m.body) → argument C (entry C e).offset i b ≡ Some (Fixed v) → slot_for L hs m.key m.body (parameter i b) ≡ LiteralOf e i
      fixed i b v iw ir h =
          let q = opens.new m im in
          let inn = read_name C m.body (parameter i b) ir in
          inside (parameter i b) (laid.call m.body i b (I.fits e Calling m.body iw).opened.0 inn)
          ∙ (passes q.0 q.1 iw).fixed i b v inn h

held_same : (f g : Name → Slot) (d : ℕ) (hs : List Hold) → ((h : Hold) → In h hs → f h.name ≡ g h.name) → held_times f d hs ≡ held_times g d hs
held_same f g d [] same = refl
held_same f g d (h ∷ hs) same =
    let e = same h (inl refl) in
    let r = held_same f g d hs (λ y i. same y (inr i)) in
    λ z. (if slot_is d (e z) then h.count else 0) + r z

-- several new instances of one body, whose outer names lead to the same, add what one adds times their number
pub added_once : (C : Code) (L : Layout) (rights : Entry → List Name) (hs : List (Option Frame)) (d b : ℕ) (f : Name → Slot) (made : List Instance) → ((m : Instance) → In m made → m.body ≡ b) → ((m : Instance) (r : Name) → In m made → In r (names_in C rights b) → (Declared C b r → ⊥) → slot_for L hs m.key b r ≡ f r) → added_times C L rights hs d made ≡ length made * held_times f d (outer_holds C rights b)
added_once C L rights hs d b f [] one same = omega arith
added_once C L rights hs d b f (m ∷ ms) one same =
    let e = one m (inl refl) in
    let body_is : held_times (slot_for L hs m.key m.body) d (outer_holds C rights m.body) ≡ held_times (slot_for L hs m.key b) d (outer_holds C rights b) = λ z. held_times (slot_for L hs m.key (e z)) d (outer_holds C rights (e z)) in
    let names_are = held_same (slot_for L hs m.key b) f d (outer_holds C rights b) (λ h i. same m h.name (inl refl) (named h i).0 (named h i).1) in
    let ih = added_once C L rights hs d b f ms (λ l i. one l (inr i)) (λ l r i. same l r (inr i)) in
    step (length ms) (held_times f d (outer_holds C rights b)) _ _ (body_is ∙ names_are) ih
  where
    step : (n m x y : ℕ) → x ≡ m → y ≡ n * m → x + y ≡ suc n * m
    step n m x y e f = grind arith

    named : (h : Hold) → In h (outer_holds C rights b) → In h.name (names_in C rights b) × (Declared C b h.name → ⊥)
    named h i =
        let p = in_kept (λ r. not (is_declared C b r)) h.name (names_in C rights b) (hold_named (filter (λ r. not (is_declared C b r)) (names_in C rights b)) h i) in
        (p.0, λ y. yes_no (declared_is C b h.name y) (not-true (is_declared C b h.name) p.1))
