-- Slabs of instances: what stays when some are added or gone.
use Rattle.std.proofs.Common.{◌≡◌, ◌⊎◌, inl, inr, ℕ, zero, suc, ◌+◌, ◌*◌, ◌<◌, Bool, true, false, List, [], ◌∷◌, length, refl, sym, ap, ◌∙◌, subst, Option, None, Some, if◌then◌else◌, arith}
use Rattle.std.specs.Prelude.{nat_eq}
use Rattle.std.proofs.lemmas.Bool.{cases_eq}
use Rattle.dataflow.specs.System.{Distinct, In}
use Rattle.board_history.specs.Ending.{SameSlots, Sets, TakenOff, goes, is_home, outside, stays, with_live}
use Rattle.board_history.specs.Fields.{Absent, Does, Frame, Layout, Slot, frame_up, frames_in, level_of, lies_in, path_from, path_of, slot_at, slot_for, step_before, task_of}
use Rattle.board_history.proofs.Next.{nat_same, nat_sound}
use Rattle.board_history.proofs.Tests.{none_some, yes_no, some_same}
use Rattle.task_code.specs.Code.{Name, nth}
use Rattle.task_code.specs.Effects.{Item}
use Rattle.task_code.specs.Places.{Step}

-- the same instance, but for what is inside of it
pub record Alike (f g : Frame) : Type 0 where
  pub parent : f.parent ≡ g.parent
  pub level : f.level ≡ g.level
  pub depth : f.depth ≡ g.depth
  pub way : f.way ≡ g.way
  pub body : f.body ≡ g.body
  pub slots : f.slots ≡ g.slots

pub alike_live : (n : ℕ) (f : Frame) → Alike f (with_live n f)
alike_live n f = record { parent = refl; level = refl; depth = refl; way = refl; body = refl; slots = refl }

pub alike_same : (f : Frame) → Alike f f
alike_same f = record { parent = refl; level = refl; depth = refl; way = refl; body = refl; slots = refl }

-- each instance of the one is in the other, and so is the one around it
pub record Within (fs gs : List (Option Frame)) : Type 0 where
  pub there : (k : ℕ) (f : Frame) → slot_at fs k ≡ Some f → (g : Frame) × (slot_at gs k ≡ Some g) × Alike f g
  pub around : (k j : ℕ) (f : Frame) → slot_at fs k ≡ Some f → f.parent ≡ Some j → (g : Frame) × (slot_at fs j ≡ Some g)

pub path_none : (fs : List (Option Frame)) (n : ℕ) → path_from fs n None ≡ []
path_none fs zero = refl
path_none fs (suc n) = refl

-- a step further out
pub path_step : (fs : List (Option Frame)) (n k : ℕ) (f : Frame) → slot_at fs k ≡ Some f → path_from fs (suc n) (Some k) ≡ step_before f.way (path_from fs n f.parent)
path_step fs n k f h = ap (λ (o : Option Frame). elim o [ None ↦ [] | Some f ↦ step_before f.way (path_from fs n f.parent) ]) h

pub up_step : (fs : List (Option Frame)) (n k : ℕ) (f : Frame) → slot_at fs k ≡ Some f → frame_up fs (suc n) k ≡ elim f.parent [ None ↦ None | Some j ↦ frame_up fs n j ]
up_step fs n k f h = ap (λ (o : Option Frame). elim o [ None ↦ None | Some f ↦ elim f.parent [ None ↦ None | Some j ↦ frame_up fs n j ] ]) h

abbrev pub slot_of : Option Frame → ℕ → Slot
slot_of o i = elim o [ None ↦ Absent | Some f ↦ nth Absent f.slots i ]

module _ (fs gs : List (Option Frame)) (w : Within fs gs) where
  path_within : (n k : ℕ) (f : Frame) → slot_at fs k ≡ Some f → path_from fs n (Some k) ≡ path_from gs n (Some k)
  path_within zero k f h = refl
  path_within (suc n) k f h =
      let g = w.there k f h in
      path_step fs n k f h ∙ (λ i. step_before (g.2.way i) (by f.parent refl (λ j e. let p = w.around k j f h e in path_within n j p.0 p.1) i)) ∙ ap (λ (o : Option ℕ). step_before g.0.way (path_from gs n o)) g.2.parent ∙ sym (path_step gs n k g.0 g.1)
    where
      by : (o : Option ℕ) → f.parent ≡ o → ((j : ℕ) → f.parent ≡ Some j → path_from fs n (Some j) ≡ path_from gs n (Some j)) → path_from fs n o ≡ path_from gs n o
      by None e r = path_none fs n ∙ sym (path_none gs n)
      by (Some j) e r = r j e

  pub level_same : (k : ℕ) (f : Frame) → slot_at fs k ≡ Some f → level_of (slot_at fs k) ≡ level_of (slot_at gs k)
  level_same k f h = let g = w.there k f h in ap level_of h ∙ g.2.level ∙ sym (ap level_of g.1)

  -- its path, its task and its names' slots are the same in both
  pub path_same : (k : ℕ) (f : Frame) → slot_at fs k ≡ Some f → path_of fs k ≡ path_of gs k
  path_same k f h =
      path_within (suc (level_of (slot_at fs k))) k f h ∙ ap (λ (n : ℕ). path_from gs (suc n) (Some k)) (level_same k f h)

  up_within : (n k i : ℕ) (f : Frame) → slot_at fs k ≡ Some f → slot_of (frame_up fs n k) i ≡ slot_of (frame_up gs n k) i
  up_within zero k i f h =
      let g = w.there k f h in
      ap (λ (o : Option Frame). slot_of o i) h ∙ ap (λ (l : List Slot). nth Absent l i) g.2.slots ∙ sym (ap (λ (o : Option Frame). slot_of o i) g.1)
  up_within (suc n) k i f h =
      let g = w.there k f h in
      ap (λ (o : Option Frame). slot_of o i) (up_step fs n k f h)
      ∙ by f.parent refl (λ j e. let p = w.around k j f h e in up_within n j i p.0 p.1)
      ∙ ap (λ (o : Option ℕ). slot_of (elim o [ None ↦ None | Some j ↦ frame_up gs n j ]) i) g.2.parent
      ∙ sym (ap (λ (o : Option Frame). slot_of o i) (up_step gs n k g.0 g.1))
    where
      by : (o : Option ℕ) → f.parent ≡ o → ((j : ℕ) → f.parent ≡ Some j → slot_of (frame_up fs n j) i ≡ slot_of (frame_up gs n j) i) → slot_of (elim o [ None ↦ None | Some j ↦ frame_up fs n j ]) i ≡ slot_of (elim o [ None ↦ None | Some j ↦ frame_up gs n j ]) i
      by None e r = refl
      by (Some j) e r = r j e

  pub slot_same : (L : Layout) (k b : ℕ) (r : Name) (f : Frame) → slot_at fs k ≡ Some f → slot_for L fs k b r ≡ slot_for L gs k b r
  slot_same L k b r f h = up_within (L.levels b r) k (L.slot b r) f h

  pub task_same : (k e c : ℕ) (f : Frame) → slot_at fs k ≡ Some f → task_of fs (Does k e c) ≡ task_of gs (Does k e c)
  task_same k e c f h = ap (λ (p : List Step). Item e p c) (path_same k f h)

-- how many are inside of an instance
abbrev pub lies : ℕ → Option Frame → ℕ
lies j o = if lies_in j o then 1 else 0

abbrev tail_of : List (Option Frame) → List (Option Frame)
tail_of [] = []
tail_of (x ∷ xs) = xs

tail_at : (xs : List (Option Frame)) (k : ℕ) → slot_at (tail_of xs) k ≡ slot_at xs (suc k)
tail_at [] k = refl
tail_at (x ∷ xs) k = refl

frames_step : (j : ℕ) (xs : List (Option Frame)) → frames_in j xs ≡ lies j (slot_at xs 0) + frames_in j (tail_of xs)
frames_step j [] = omega arith
frames_step j (x ∷ xs) = refl

pub frames_equal : (j : ℕ) (fs gs : List (Option Frame)) → ((k : ℕ) → lies j (slot_at gs k) ≡ lies j (slot_at fs k)) → frames_in j gs ≡ frames_in j fs
frames_equal j [] [] h = refl
frames_equal j [] (y ∷ ys) h = (let a = h 0 in let r = frames_equal j [] ys (λ k. h (suc k)) in omega arith)
frames_equal j (x ∷ xs) [] h = (let a = h 0 in let r = frames_equal j xs [] (λ k. h (suc k)) in omega arith)
frames_equal j (x ∷ xs) (y ∷ ys) h = (let a = h 0 in let r = frames_equal j xs ys (λ k. h (suc k)) in omega arith)

pub frames_set : (j k : ℕ) (fs gs : List (Option Frame)) (v : Option Frame) → Sets fs k v gs → frames_in j gs + lies j (slot_at fs k) ≡ frames_in j fs + lies j v
frames_set j zero fs gs v s =
    let a = frames_step j fs in
    let b = frames_step j gs in
    let c = ap (lies j) s.here in
    let d = frames_equal j (tail_of fs) (tail_of gs) (λ k. ap (lies j) (tail_at gs k ∙ s.others (suc k) (λ q. omega arith) ∙ sym (tail_at fs k))) in
    omega arith
frames_set j (suc k) fs gs v s =
    let a = frames_step j fs in
    let b = frames_step j gs in
    let c = ap (lies j) (s.others 0 (λ q. omega arith)) in
    let e = ap (lies j) (tail_at fs k) in
    let d = frames_set j k (tail_of fs) (tail_of gs) v (record { here = tail_at gs k ∙ s.here; others = λ i ne. tail_at gs i ∙ s.others (suc i) (λ q. ne (omega arith)) ∙ sym (tail_at fs i) }) in
    omega arith

abbrev pub one_if : Bool → ℕ
one_if b = if b then 1 else 0

pub lies_home : (j : ℕ) (f : Frame) → lies j (Some f) ≡ one_if (is_home f.parent j)
lies_home j f = by f.parent
  where
    by : (o : Option ℕ) → (if elim o [ None ↦ false | Some i ↦ nat_eq i j ] then 1 else 0) ≡ one_if (is_home o j)
    by None = refl
    by (Some i) = refl

nat_apart : (a b : ℕ) → (a ≡ b → ⊥) → nat_eq a b ≡ false
nat_apart a b n = by (nat_eq a b) refl
  where
    by : (t : Bool) → nat_eq a b ≡ t → nat_eq a b ≡ false
    by true h = absurd (n (nat_sound a b h))
    by false h = h

pub home_here : (k : ℕ) → one_if (is_home (Some k) k) ≡ 1
home_here k = ap one_if (nat_same k)

-- one that is inside is counted
pub inside_counted : (j k : ℕ) (fs : List (Option Frame)) (f : Frame) → slot_at fs k ≡ Some f → f.parent ≡ Some j → 0 < frames_in j fs
inside_counted j k [] f h e = none_some h
inside_counted j zero (x ∷ xs) f h e =
    let d : lies j x ≡ 1 = ap (lies j) h ∙ lies_home j f ∙ ap (λ (o : Option ℕ). one_if (is_home o j)) e ∙ home_here j in
    omega arith
inside_counted j (suc k) (x ∷ xs) f h e = let r = inside_counted j k xs f h e in omega arith

pub home_apart : (k j : ℕ) → (j ≡ k → ⊥) → one_if (is_home (Some k) j) ≡ 0
home_apart k j n = ap one_if (nat_apart k j (λ e. n (sym e)))

-- what is to be kept of instances: R tells how many items each has, and one of them has one less than it counts
pub record Sound (R : ℕ → ℕ) (less : Option ℕ) (fs : List (Option Frame)) : Type 0 where
  pub live : (k : ℕ) (f : Frame) → slot_at fs k ≡ Some f → f.live ≡ (R k + frames_in k fs) + one_if (is_home less k)
  pub inside : (k j : ℕ) (f : Frame) → slot_at fs k ≡ Some f → f.parent ≡ Some j → (g : Frame) × (slot_at fs j ≡ Some g) × (f.level ≡ suc g.level)
  pub kept : (k : ℕ) (f : Frame) → slot_at fs k ≡ Some f → 0 < f.live

-- taking one off keeps them, and those with items stay
pub record Lighter (R : ℕ → ℕ) (fs gs : List (Option Frame)) : Type 0 where
  pub sound : Sound R None gs
  pub within : Within gs fs
  pub busy : (k : ℕ) (f : Frame) → slot_at fs k ≡ Some f → 0 < R k → (g : Frame) × (slot_at gs k ≡ Some g)

module _ (R : ℕ → ℕ) (gs : List (Option Frame)) where
  same_lighter : (fs : List (Option Frame)) → Sound R None fs → SameSlots fs gs → Lighter R fs gs
  same_lighter fs s h = record {
    sound = record {
      live = λ k f q. s.live k f (sym (h k) ∙ q) ∙ (let e = frames_equal k fs gs (λ i. ap (lies k) (h i)) in let t = e in ap (λ (n : ℕ). (R k + n) + one_if (is_home None k)) (sym t));
      inside = λ k j f q e. (let p = s.inside k j f (sym (h k) ∙ q) e in (p.0, h j ∙ p.1, p.2));
      kept = λ k f q. s.kept k f (sym (h k) ∙ q);
    };
    within = record { there = λ k f q. (f, sym (h k) ∙ q, alike_same f); around = λ k j f q e. (let p = s.inside k j f (sym (h k) ∙ q) e in (p.0, h j ∙ p.1)) };
    busy = λ k f q b. (f, h k ∙ q);
  }

none_inside : (j k : ℕ) (fs : List (Option Frame)) (f : Frame) → frames_in j fs ≡ 0 → slot_at fs k ≡ Some f → f.parent ≡ Some j → ⊥
none_inside j k fs f z h e = let p = inside_counted j k fs f h e in omega arith

module _ (R : ℕ → ℕ) (fs gs : List (Option Frame)) (k : ℕ) (f : Frame) (here : slot_at fs k ≡ Some f) (s : Sound R (Some k) fs) where
  -- one less is inside
  module _ (n : ℕ) (is : f.live ≡ suc (suc n)) (set : Sets fs k (Some (with_live (suc n) f)) gs) where
    fewer_frames : (j : ℕ) → frames_in j gs ≡ frames_in j fs
    fewer_frames j =
        let a = frames_set j k fs gs (Some (with_live (suc n) f)) set in
        let b = ap (lies j) here in
        let c = lies_home j f in
        let d = lies_home j (with_live (suc n) f) in
        omega arith

    fewer_slot : (j : ℕ) (g : Frame) → slot_at gs j ≡ Some g → (h : Frame) × (slot_at fs j ≡ Some h) × Alike g h
    fewer_slot j g q =
        elim (cases_eq j k) [
          | inl e ↦ (f, subst (λ (i : ℕ). slot_at fs i ≡ Some f) (sym e) here, subst (λ (y : Frame). Alike y f) (some_same (sym set.here ∙ subst (λ (i : ℕ). slot_at gs i ≡ Some g) e q)) (record { parent = refl; level = refl; depth = refl; way = refl; body = refl; slots = refl }))
          | inr ne ↦ (g, sym (set.others j ne) ∙ q, alike_same g)
        ]

    fewer_there : (j : ℕ) (g : Frame) → slot_at fs j ≡ Some g → (h : Frame) × (slot_at gs j ≡ Some h) × (h.level ≡ g.level)
    fewer_there j g q =
        elim (cases_eq j k) [
          | inl e ↦ (with_live (suc n) f, subst (λ (i : ℕ). slot_at gs i ≡ Some (with_live (suc n) f)) (sym e) set.here, ap (λ (y : Frame). y.level) (some_same (sym here ∙ subst (λ (i : ℕ). slot_at fs i ≡ Some g) e q)))
          | inr ne ↦ (g, set.others j ne ∙ q, refl)
        ]

    fewer_live : (j : ℕ) (g : Frame) → slot_at gs j ≡ Some g → (g.live ≡ (R j + frames_in j gs) + one_if (is_home None j)) × (0 < g.live)
    fewer_live j g q =
        elim (cases_eq j k) [
          | inl e ↦ (let l = ap (λ (y : Frame). y.live) (some_same (sym set.here ∙ subst (λ (i : ℕ). slot_at gs i ≡ Some g) e q)) in
              let a = s.live j f (subst (λ (i : ℕ). slot_at fs i ≡ Some f) (sym e) here) in
              let h = ap (λ (i : ℕ). one_if (is_home (Some k) i)) e ∙ home_here k in
              let fr = fewer_frames j in
              (omega arith, omega arith))
          | inr ne ↦ (let old = sym (set.others j ne) ∙ q in
              let a = s.live j g old in
              let h = home_apart k j ne in
              let fr = fewer_frames j in
              let p = s.kept j g old in
              (omega arith, p))
        ]

    fewer_inside : (j i : ℕ) (g : Frame) → slot_at gs j ≡ Some g → g.parent ≡ Some i → (h : Frame) × (slot_at gs i ≡ Some h) × (g.level ≡ suc h.level)
    fewer_inside j i g q e =
        let o = fewer_slot j g q in
        let p = s.inside j i o.0 o.1 (sym o.2.parent ∙ e) in
        let t = fewer_there i p.0 p.1 in
        (t.0, t.1, o.2.level ∙ p.2 ∙ ap suc (sym t.2))

    stays_lighter : Lighter R fs gs
    stays_lighter = record {
      sound = record { live = λ j g q. (fewer_live j g q).0; inside = fewer_inside; kept = λ j g q. (fewer_live j g q).1 };
      within = record { there = fewer_slot; around = λ j i g q e. (let p = fewer_inside j i g q e in (p.0, p.1)) };
      busy = λ j g q b. (let t = fewer_there j g q in (t.0, t.1));
    }

  -- it goes
  module _ (is : f.live ≡ 1) (set : Sets fs k None gs) where
    gone_frames : (j : ℕ) → frames_in j gs + one_if (is_home f.parent j) ≡ frames_in j fs
    gone_frames j =
        let a = frames_set j k fs gs None set in
        let b = ap (lies j) here in
        let c = lies_home j f in
        omega arith

    gone_key : (j : ℕ) (g : Frame) → slot_at gs j ≡ Some g → j ≡ k → ⊥
    gone_key j g q e = none_some (sym set.here ∙ subst (λ (i : ℕ). slot_at gs i ≡ Some g) e q)

    gone_old : (j : ℕ) (g : Frame) → slot_at gs j ≡ Some g → slot_at fs j ≡ Some g
    gone_old j g q = sym (set.others j (gone_key j g q)) ∙ q

    empty : (R k ≡ 0) × (frames_in k fs ≡ 0)
    empty =
        let a = s.live k f here in
        let h = home_here k in
        (omega arith, omega arith)

    gone_inside : (j i : ℕ) (g : Frame) → slot_at gs j ≡ Some g → g.parent ≡ Some i → (h : Frame) × (slot_at gs i ≡ Some h) × (g.level ≡ suc h.level)
    gone_inside j i g q e =
        let p = s.inside j i g (gone_old j g q) e in
        (p.0, set.others i (λ c. none_inside k j fs g empty.1 (gone_old j g q) (subst (λ (l : ℕ). g.parent ≡ Some l) c e)) ∙ p.1, p.2)

    gone_sound : Sound R f.parent gs
    gone_sound = record {
      live = λ j g q. (let a = s.live j g (gone_old j g q) in
          let h = home_apart k j (gone_key j g q) in
          let fr = gone_frames j in
          omega arith);
      inside = gone_inside;
      kept = λ j g q. s.kept j g (gone_old j g q);
    }

    gone_within : Within gs fs
    gone_within = record { there = λ j g q. (g, gone_old j g q, alike_same g); around = λ j i g q e. (let p = gone_inside j i g q e in (p.0, p.1)) }

    gone_busy : (j : ℕ) (g : Frame) → slot_at fs j ≡ Some g → 0 < R j → slot_at gs j ≡ Some g
    gone_busy j g q b = set.others j (λ e. let z = empty.0 in let r : R j ≡ R k = ap R e in omega arith) ∙ q

alike_then : (f g h : Frame) → Alike f g → Alike g h → Alike f h
alike_then f g h x y = record {
  parent = x.parent ∙ y.parent;
  level = x.level ∙ y.level;
  depth = x.depth ∙ y.depth;
  way = x.way ∙ y.way;
  body = x.body ∙ y.body;
  slots = x.slots ∙ y.slots;
}

within_then : (fs gs hs : List (Option Frame)) → Within fs gs → Within gs hs → Within fs hs
within_then fs gs hs x y = record {
  there = λ k f q. (let g = x.there k f q in let h = y.there k g.0 g.1 in (h.0, h.1, alike_then f g.0 h.0 g.2 h.2));
  around = x.around;
}

-- taking one off keeps instances sound
pub taken_off : (R : ℕ → ℕ) (gs fs : List (Option Frame)) (at : Option ℕ) → Sound R at fs → TakenOff gs fs at → Lighter R fs gs
taken_off R gs fs at s (outside _ _ e h) = same_lighter R gs fs (subst (λ (o : Option ℕ). Sound R o fs) e s) h
taken_off R gs fs at s (stays _ _ k n f e here is set) = stays_lighter R fs gs k f here (subst (λ (o : Option ℕ). Sound R o fs) e s) n is set
taken_off R gs fs at s (goes _ hs _ k f e here is set rest) =
    let sk = subst (λ (o : Option ℕ). Sound R o fs) e s in
    let ih = taken_off R gs hs f.parent (gone_sound R fs hs k f here sk is set) rest in
    record {
      sound = ih.sound;
      within = within_then gs hs fs ih.within (gone_within R fs hs k f here sk is set);
      busy = λ j g q b. ih.busy j g (gone_busy R fs hs k f here sk is set j g q b) b;
    }

abbrev cleared : List (Option Frame) → ℕ → List (Option Frame)
cleared [] k = []
cleared (x ∷ xs) zero = None ∷ xs
cleared (x ∷ xs) (suc k) = x ∷ cleared xs k

cleared_here : (xs : List (Option Frame)) (k : ℕ) → slot_at (cleared xs k) k ≡ None
cleared_here [] k = refl
cleared_here (x ∷ xs) zero = refl
cleared_here (x ∷ xs) (suc k) = cleared_here xs k

cleared_others : (xs : List (Option Frame)) (k j : ℕ) → (j ≡ k → ⊥) → slot_at (cleared xs k) j ≡ slot_at xs j
cleared_others [] k j ne = refl
cleared_others (x ∷ xs) zero zero ne = absurd (ne refl)
cleared_others (x ∷ xs) zero (suc j) ne = refl
cleared_others (x ∷ xs) (suc k) zero ne = refl
cleared_others (x ∷ xs) (suc k) (suc j) ne = cleared_others xs k j (λ e. ne (omega arith))

-- with new ones inside of one that was there
pub frames_added : (i : ℕ) (around : Option ℕ) (fs : List (Option Frame)) (ks : List ℕ) (gs : List (Option Frame)) → Distinct ks → ((k : ℕ) → In k ks → slot_at fs k ≡ None) → ((k : ℕ) → In k ks → (f : Frame) × (slot_at gs k ≡ Some f) × (f.parent ≡ around)) → ((k : ℕ) → (In k ks → ⊥) → lies i (slot_at gs k) ≡ lies i (slot_at fs k)) → frames_in i gs ≡ frames_in i fs + length ks * one_if (is_home around i)
frames_added i around fs [] gs d fresh new other = let r = frames_equal i fs gs (λ k. other k (λ h. h)) in omega arith
frames_added i around fs (k ∷ ks) gs d fresh new other =
    let p = new k (inl refl) in
    let set = frames_set i k gs (cleared gs k) None (record { here = cleared_here gs k; others = λ j ne. cleared_others gs k j ne }) in
    let one : lies i (slot_at gs k) ≡ one_if (is_home around i) = ap (lies i) p.1 ∙ lies_home i p.0 ∙ ap (λ (o : Option ℕ). one_if (is_home o i)) p.2 in
    let ih = frames_added i around fs ks (cleared gs k) d.1 (λ j h. fresh j (inr h)) (λ j h. let q = new j (inr h) in (q.0, cleared_others gs k j (λ e. d.0 (subst (λ (l : ℕ). In l ks) e h)) ∙ q.1, q.2)) rest in
    more (length ks) (one_if (is_home around i)) (frames_in i gs) (frames_in i (cleared gs k)) (frames_in i fs) (lies i (slot_at gs k)) set one ih
  where
    more : (n m g c f l : ℕ) → c + l ≡ g + 0 → l ≡ m → c ≡ f + n * m → g ≡ f + suc n * m
    more n m g c f l a b e = grind arith

    rest : (j : ℕ) → (In j ks → ⊥) → lies i (slot_at (cleared gs k) j) ≡ lies i (slot_at fs j)
    rest j ne =
        elim (cases_eq j k) [
          | inl e ↦ ap (lies i) (subst (λ (l : ℕ). slot_at (cleared gs k) l ≡ None) (sym e) (cleared_here gs k)) ∙ sym (ap (lies i) (subst (λ (l : ℕ). slot_at fs l ≡ None) (sym e) (fresh k (inl refl))))
          | inr ap_ ↦ ap (lies i) (cleared_others gs k j ap_) ∙ other j (λ h. elim h [ inl q ↦ ap_ q | inr g ↦ ne g ])
        ]

pub frames_zero : (j : ℕ) (fs : List (Option Frame)) → ((k : ℕ) (f : Frame) → slot_at fs k ≡ Some f → f.parent ≡ Some j → ⊥) → frames_in j fs ≡ 0
frames_zero j [] n = refl
frames_zero j (x ∷ xs) n =
    let r = frames_zero j xs (λ k f h e. n (suc k) f h e) in
    let z : lies j x ≡ 0 = by x (λ f h e. n 0 f h e) in
    omega arith
  where
    at : (f : Frame) → (f.parent ≡ Some j → ⊥) → one_if (is_home f.parent j) ≡ 0
    at f ne = go f.parent ne
      where
        go : (o : Option ℕ) → (o ≡ Some j → ⊥) → one_if (is_home o j) ≡ 0
        go None ne = refl
        go (Some i) ne = home_apart i j (λ e. ne (ap Some (sym e)))

    by : (x : Option Frame) → ((f : Frame) → x ≡ Some f → f.parent ≡ Some j → ⊥) → lies j x ≡ 0
    by None n = refl
    by (Some f) n = lies_home j f ∙ at f (λ e. n f refl e)
