-- Instances that were put in are those that an End makes.
use Rattle.std.proofs.Common.{◌≡◌, ◌∙◌, ◌⊎◌, inl, inr, refl, sym, ap, subst, ℕ, suc, ◌+◌, ◌<◌, List, [], ◌∷◌, ◌++◌, map, length, Option, Some, None, nat_eq, Bool, true, false, if◌then◌else◌, arith}
use Rattle.std.specs.List.{filter}
use Rattle.std.proofs.lemmas.List.{length-map}
use Rattle.std.proofs.lemmas.Bool.{cases_eq}
use Rattle.std.proofs.lemmas.Option.{same_Some}
use Rattle.dataflow.specs.Machine.{Event}
use Rattle.dataflow.specs.System.{Distinct, In}
use Rattle.dataflow.proofs.Lists.{in_map, in_unmap}
use Rattle.board_history.specs.Ending.{AreMade, FramesOpen, Instance, NewFrame, Sets, has_entries, is_home, level_inside, made_jobs, new_row, with_live}
use Rattle.board_history.specs.Fields.{Does, Fields, Frame, Layout, Row, Slot, level_of, path_of, slot_at, step_before}
use Rattle.board_history.specs.Stands.{Stands}
use Rattle.board_history.specs.Static.{opened}
use Rattle.board_history.proofs.Next.{nat_same, nat_sound}
use Rattle.task_code.specs.Code.{Code, body}
use Rattle.task_code.specs.Compute.{Computed}
use Rattle.task_code.specs.Effects.{Task}
use Rattle.task_code.specs.Places.{Step}
use Rattle.board_instances.specs.Made.{FitsAround, IsOpened, block_of, made_as, with_slots}
use Rattle.board_instances.specs.Nested.{IsNested}
use Rattle.board_instances.specs.Openings.{ArePlaced, IsInner, Put, WithMore, put_jobs, steps_in, unfilled}

none_some : {X B : Type 0} (o : Option X) (x : X) → o ≡ Some x → o ≡ None → B
none_some o x p q = absurd (cc (p, q))

-- where fields stand for a state, instances lie in one another
pub stands_nested : (C : Code) (L : Layout) (events : List Event) (F : Fields) → Stands C L events F → IsNested F.frames
stands_nested C L events F x = record { inside = x.frames.inside; kept = x.frames.kept }

-- instances as they are made
pub inner_opened : (C : Code) (fs : List (Option Frame)) (at number : ℕ) (way : Option Step) (passed xs : List Slot) (f : Frame) → ((g : Frame) → slot_at fs at ≡ Some g → g.depth ≡ length (path_of fs at)) → 0 < length (body C number).entries → IsInner C fs at number way passed f → IsOpened C fs (Some at) (with_slots xs f)
inner_opened C fs at number way passed xs f deep some x = subst (λ (g : Frame). IsOpened C fs (Some at) (with_slots xs g)) (sym x.is) (record {
  parent = refl;
  level = ap (λ (o : Option Frame). suc (level_of o)) (sym x.there);
  depth = ap (λ n. n + steps_in way) (deep x.outer x.there) ∙ more way (path_of fs at);
  live = refl;
  some = some;
})
  where
    more : (w : Option Step) (p : List Step) → length p + steps_in w ≡ length (step_before w p)
    more None p = omega arith
    more (Some s) p = omega arith

pub outermost_opened : (C : Code) (fs : List (Option Frame)) (xs : List Slot) → 0 < length (body C 0).entries → IsOpened C fs None (with_slots xs (unfilled None 0 0 None 0 (body C 0) []))
outermost_opened C fs xs some = record { parent = refl; level = refl; depth = refl; live = refl; some = some }

-- the key is one of those that were put in, or not
key_or : (puts : List Put) (k : ℕ) → ((p : Put) × In p puts × (p.key ≡ k)) ⊎ ((p : Put) → In p puts → p.key ≡ k → ⊥)
key_or [] k = inr (λ p h e. absurd h)
key_or (p ∷ ps) k = elim (cases_eq p.key k) [
  | inl same ↦ inl (p, inl refl, same)
  | inr apart ↦ elim (key_or ps k) [
    | inl x ↦ inl (x.0, inr x.1, x.2)
    | inr none ↦ inr (λ q h e. elim h [ inl same ↦ apart (ap (λ (r : Put). r.key) (sym same) ∙ e) | inr later ↦ none q later e ])
  ]
]

keys_same : (fs : List (Option Frame)) (around : Option ℕ) (puts : List Put) → map (λ (m : Instance). m.key) (map (made_as fs around) puts) ≡ map (λ (p : Put). p.key) puts
keys_same fs around [] = refl
keys_same fs around (p ∷ ps) = ap (λ ks. p.key ∷ ks) (keys_same fs around ps)

blocks_same : (fs : List (Option Frame)) (around : Option ℕ) (puts : List Put) → map (λ (m : Instance). (m.body, m.path)) (map (made_as fs around) puts) ≡ map (block_of fs around) (map (λ (p : Put). p.frame) puts)
blocks_same fs around [] = refl
blocks_same fs around (p ∷ ps) = ap (λ bs. block_of fs around p.frame ∷ bs) (blocks_same fs around ps)

jobs_same : (C : Code) (fs : List (Option Frame)) (around : Option ℕ) (entries : List ℕ) (puts : List Put) → ((p : Put) → In p puts → (body C p.frame.body).entries ≡ entries) → put_jobs entries puts ≡ made_jobs C (map (made_as fs around) puts)
jobs_same C fs around es [] h = refl
jobs_same C fs around es (p ∷ ps) h = ap (λ xs. map (λ e. Does p.key e 0) xs ++ put_jobs es ps) (sym (h p (inl refl))) ∙ ap (λ js. map (λ e. Does p.key e 0) (body C p.frame.body).entries ++ js) (jobs_same C fs around es ps (λ q i. h q (inr i)))

module _ (C : Code) (fs middle gs : List (Option Frame)) (around : Option ℕ) (frames : List Frame) (entries : List ℕ) (old new : List Row) (last : Option ℕ) (x : ArePlaced frames entries middle gs old new last) where
  abbrev pub made : List Instance
  made = map (made_as fs around) x.puts

  count : length made ≡ length frames
  count = length-map x.puts (made_as fs around) ∙ sym (length-map x.puts (λ (p : Put). p.frame)) ∙ ap length x.frames_are

  frame_in : (p : Put) → In p x.puts → In p.frame frames
  frame_in p h = subst (λ (xs : List Frame). In p.frame xs) x.frames_are (in_map (λ (p : Put). p.frame) p x.puts h)

  pub placed_made : (t : Task) (computed : Computed) → map (block_of fs around) frames ≡ filter (has_entries C) (opened C t computed) → AreMade C made t computed
  placed_made t computed h = blocks_same fs around x.puts ∙ ap (map (block_of fs around)) x.frames_are ∙ h

  pub placed_rows : ((f : Frame) → In f frames → (body C f.body).entries ≡ entries) → new ≡ old ++ map new_row (made_jobs C made)
  placed_rows h = x.rows ∙ ap (λ js. old ++ map new_row js) (jobs_same C fs around entries x.puts (λ p i. h p.frame (frame_in p i)))

apart_tests : (j k : ℕ) → (k ≡ j → ⊥) → nat_eq j k ≡ false
apart_tests j k apart = by (nat_eq j k) refl
  where
    by : (b : Bool) → nat_eq j k ≡ b → nat_eq j k ≡ false
    by true h = absurd (apart (sym (nat_sound j k h)))
    by false h = h

none_more : (m n : ℕ) (b : Bool) → b ≡ false → m ≡ m + (if b then n else 0)
none_more m n true e = absurd (cc (e))
none_more m n false e = omega arith

some_more : (m n : ℕ) (b : Bool) → b ≡ true → m + n ≡ m + (if b then n else 0)
some_more m n true e = refl
some_more m n false e = absurd (cc (e))

-- so many more are in the one around
more_old : (fs middle : List (Option Frame)) (around : Option ℕ) (n : ℕ) → FitsAround fs around n → WithMore fs around n middle → (k : ℕ) (f : Frame) → slot_at fs k ≡ Some f → slot_at middle k ≡ Some (with_live (f.live + (if is_home around k then n else 0)) f)
more_old fs middle None n fit more k f h = ap (λ (hs : List (Option Frame)). slot_at hs k) more ∙ h ∙ ap (λ m. Some (with_live m f)) (none_more f.live n false refl)
more_old fs middle (Some j) n fit more k f h = elim (cases_eq k j) [
  | inl same ↦ ap (slot_at middle) same ∙ sets.here ∙ ap (λ (g : Frame). Some (with_live (g.live + n) g)) (same_Some fit.0 f (sym fit.1 ∙ ap (slot_at fs) (sym same) ∙ h)) ∙ ap (λ m. Some (with_live m f)) (some_more f.live n (nat_eq j k) (ap (nat_eq j) same ∙ nat_same j))
  | inr apart ↦ sets.others k apart ∙ h ∙ ap (λ m. Some (with_live m f)) (none_more f.live n (nat_eq j k) (apart_tests j k apart))
]
  where
    sets : Sets fs j (Some (with_live (fit.0.live + n) fit.0)) middle
    sets = more fit.0 fit.1 fit.2

-- nothing else is there
more_none : (fs middle : List (Option Frame)) (around : Option ℕ) (n : ℕ) → FitsAround fs around n → WithMore fs around n middle → (k : ℕ) → slot_at middle k ≡ None → slot_at fs k ≡ None
more_none fs middle around n fit more k h = by (slot_at fs k) refl
  where
    by : (o : Option Frame) → slot_at fs k ≡ o → slot_at fs k ≡ None
    by None e = e
    by (Some f) e = none_some (slot_at middle k) (with_live (f.live + (if is_home around k then n else 0)) f) (more_old fs middle around n fit more k f e) h

more_some : (fs middle : List (Option Frame)) (around : Option ℕ) (n : ℕ) → FitsAround fs around n → WithMore fs around n middle → (k : ℕ) (g : Frame) → slot_at middle k ≡ Some g → (f : Frame) × (slot_at fs k ≡ Some f)
more_some fs middle None n fit more k g h = (g, sym (ap (λ (hs : List (Option Frame)). slot_at hs k) more) ∙ h)
more_some fs middle (Some j) n fit more k g h = elim (cases_eq k j) [
  | inl same ↦ (fit.0, ap (slot_at fs) same ∙ fit.1)
  | inr apart ↦ (g, sym ((more fit.0 fit.1 fit.2).others k apart) ∙ h)
]

-- the one around is there
around_there : (fs : List (Option Frame)) (n : ℕ) (around : Option ℕ) → FitsAround fs around n → (j : ℕ) → around ≡ Some j → (f : Frame) × (slot_at fs j ≡ Some f)
around_there fs n None fit j e = absurd (cc (e))
around_there fs n (Some k) fit j e = (fit.0, ap (slot_at fs) (sym (same_Some k j e)) ∙ fit.1)

module _ (C : Code) (fs middle gs : List (Option Frame)) (around : Option ℕ) (frames : List Frame) (entries : List ℕ) (old new : List Row) (last : Option ℕ) (all : (f : Frame) → In f frames → IsOpened C fs around f) (fit : FitsAround fs around (length frames)) (more : WithMore fs around (length frames) middle) (x : ArePlaced frames entries middle gs old new last) where
  abbrev those : List Instance
  those = map (made_as fs around) x.puts

  those_count : length those ≡ length frames
  those_count = count C fs middle gs around frames entries old new last x

  opened_put : (p : Put) → In p x.puts → IsOpened C fs around p.frame
  opened_put p h = all p.frame (frame_in C fs middle gs around frames entries old new last x p h)

  new_frame : (p : Put) → In p x.puts → NewFrame C fs around (made_as fs around p) p.frame
  new_frame p h = (let y = opened_put p h in record { parent = y.parent; level = y.level; way = refl; depth = y.depth; body_is = refl; live = y.live })

  kept_old : (k : ℕ) (f : Frame) → slot_at fs k ≡ Some f → slot_at gs k ≡ Some (with_live (f.live + (if is_home around k then length those else 0)) f)
  kept_old k f h = x.put_in.others k (λ p i e. none_some (slot_at middle k) _ there (sym (ap (slot_at middle) e) ∙ x.put_in.fresh p i)) ∙ there ∙ ap (λ n. Some (with_live (f.live + (if is_home around k then n else 0)) f)) (sym those_count)
    where
      there : slot_at middle k ≡ Some (with_live (f.live + (if is_home around k then length frames else 0)) f)
      there = more_old fs middle around (length frames) fit more k f h

  which : (k : ℕ) (g : Frame) → slot_at gs k ≡ Some g → ((f : Frame) × (slot_at fs k ≡ Some f)) ⊎ ((p : Put) × In p x.puts × (p.key ≡ k))
  which k g h = elim (key_or x.puts k) [
    | inl p ↦ inr p
    | inr none ↦ inl (more_some fs middle around (length frames) fit more k g (sym (x.put_in.others k none) ∙ h))
  ]

  pub placed_opens : FramesOpen C fs around those gs
  placed_opens = record {
    fresh = λ m h. (let p = in_unmap (made_as fs around) m x.puts h in more_none fs middle around (length frames) fit more m.key (subst (λ (n : Instance). slot_at middle n.key ≡ None) p.2 (x.put_in.fresh p.0 p.1)));
    keys = subst Distinct (sym (keys_same fs around x.puts)) x.put_in.keys;
    new = λ m h. (let p = in_unmap (made_as fs around) m x.puts h in (p.0.frame, subst (λ (n : Instance). slot_at gs n.key ≡ Some p.0.frame) p.2 (x.put_in.there p.0 p.1), subst (λ (n : Instance). NewFrame C fs around n p.0.frame) p.2 (new_frame p.0 p.1)));
    old = kept_old;
    only = λ k g h. elim (which k g h) [
      | inl f ↦ inl f
      | inr p ↦ inr (made_as fs around p.0, in_map (made_as fs around) p.0 x.puts p.1, p.2)
    ];
  }

  -- one that is there lies in another that is there
  pub placed_nested : IsNested fs → IsNested gs
  placed_nested nested = record {
    inside = λ k j g h e. elim (which k g h) [
      | inl f ↦ inside_old k j g h e f.0 f.1
      | inr p ↦ inside_new j g p.0.frame (same_Some p.0.frame g (sym (x.put_in.there p.0 p.1) ∙ ap (slot_at gs) p.2 ∙ h)) e (opened_put p.0 p.1)
    ];
    kept = λ k g h. elim (which k g h) [
      | inl f ↦ (let q = nested.kept k f.0 f.1 in let e = ap (λ (y : Frame). y.live) (same_Some _ g (sym (kept_old k f.0 f.1) ∙ h)) in at_least f.0.live _ g.live q e)
      | inr p ↦ subst (λ (y : Frame). 0 < y.live) (same_Some p.0.frame g (sym (x.put_in.there p.0 p.1) ∙ ap (slot_at gs) p.2 ∙ h)) (opened_put p.0 p.1).some
    ];
  }
    where
      at_least : (n m l : ℕ) → 0 < n → n + m ≡ l → 0 < l
      at_least n m l h e = omega (arith, h, e)

      inside_old : (k j : ℕ) (g : Frame) → slot_at gs k ≡ Some g → g.parent ≡ Some j → (f : Frame) → slot_at fs k ≡ Some f → (h : Frame) × (slot_at gs j ≡ Some h) × (g.level ≡ suc h.level)
      inside_old k j g h e f there = (
          let same = same_Some _ g (sym (kept_old k f there) ∙ h) in
          let q = nested.inside k j f there (ap (λ (y : Frame). y.parent) same ∙ e) in
          (with_live (q.0.live + (if is_home around j then length those else 0)) q.0, kept_old j q.0 q.1, sym (ap (λ (y : Frame). y.level) same) ∙ q.2))

      inside_new : (j : ℕ) (g F : Frame) → F ≡ g → g.parent ≡ Some j → IsOpened C fs around F → (h : Frame) × (slot_at gs j ≡ Some h) × (g.level ≡ suc h.level)
      inside_new j g F same e y = (
          let o : around ≡ Some j = sym y.parent ∙ ap (λ (z : Frame). z.parent) same ∙ e in
          let home = around_there fs (length frames) around fit j o in
          (with_live (home.0.live + (if is_home around j then length those else 0)) home.0, kept_old j home.0 home.1, sym (ap (λ (z : Frame). z.level) same) ∙ y.level ∙ ap (level_inside fs) o ∙ ap (λ (q : Option Frame). suc (level_of q)) home.1))
