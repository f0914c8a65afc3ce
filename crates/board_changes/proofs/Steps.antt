-- Each step of an End, in the words of what the fields come to.
use Rattle.std.proofs.Common.{◌≡◌, ◌∙◌, refl, sym, ap, subst, inl, inr, ℕ, ◌+◌, ◌*◌, ◌-◌, ◌≤◌, List, [], ◌∷◌, ◌++◌, not, Option, Some, None, option_map, arith}
use Rattle.std.specs.Prelude.{if◌then◌else◌}
use Rattle.std.specs.List.{filter}
use Rattle.dataflow.specs.System.{In}
use Rattle.data_store.specs.Data.{kept, with_holds}
use Rattle.data_store.specs.Stores.{Store, at}
use Rattle.data_store.specs.declared.datum.Datum.{Datum}
use Rattle.board_history.proofs.EndedNames.{flat_in, hold_named, in_flat}
use Rattle.board_history.proofs.Frames.{Within, slot_same}
use Rattle.board_history.proofs.Tests.{in_kept}
use Rattle.board_history.specs.Ending.{Instance, added_times, given_times, held_times, job_slot, named_times, slot_is}
use Rattle.board_history.specs.Fields.{Absent, Does, Frame, Slot, frame_up, slot_at, slot_for}
use Rattle.board_history.specs.Layouts.{Reached, all_names}
use Rattle.board_history.specs.Static.{Hold, names_in, outer_holds}
use Rattle.task_code.specs.Check.{is_declared}
use Rattle.task_code.specs.Code.{Code, Entry, Name, body, entry, nth}
use Rattle.task_code.specs.Whole.{IsCode}
use Rattle.board_program.proofs.Found.{home_found}
use Rattle.board_program.proofs.Laid.{leads_somewhere}
use Rattle.board_program.proofs.Slots.{reads_led, writes_led}
use Rattle.board_program.specs.Spots.{frame_slot, layout_of, levels_of, slot_of, spot_in}
use Rattle.board_program.specs.Tables.{at_spot, body_of, body_or_script, led_times, spots_in}
use Rattle.board_program.specs.declared.lexical_address.LexicalAddress.{LexicalAddress}
use Rattle.board_data.specs.Holds.{Closes, Fit, GivesUp, fewer}
use Rattle.board_instances.specs.Names.{slot_in, spot_slot}
use Rattle.board_instances.specs.Openings.{Put, last_key}
use Rattle.board_changes.specs.Opened.{AddsOuter, outer_of}
use Rattle.board_changes.specs.World.{reads_of, writes_of}

pub spot_same : (fs : List (Option Frame)) (k : ℕ) (s : LexicalAddress) → spot_slot fs k s ≡ frame_slot fs k s
spot_same fs k s = by (frame_up fs s.levels k)
  where
    by : (r : Option Frame) → slot_in r s.slot ≡ elim r [ None ↦ Absent | Some f ↦ nth Absent f.slots s.slot ]
    by None = refl
    by (Some f) = refl

held_same : (f g : Name → Slot) (d : ℕ) (hs : List Hold) → ((h : Hold) → In h hs → f h.name ≡ g h.name) → held_times f d hs ≡ held_times g d hs
held_same f g d [] same = refl
held_same f g d (h ∷ hs) same =
    let e = same h (inl refl) in
    let r = held_same f g d hs (λ y i. same y (inr i)) in
    λ z. (if slot_is d (e z) then h.count else 0) + r z

named_same : (f g : Name → Slot) (d : ℕ) (rs : List Name) → ((r : Name) → f r ≡ g r) → named_times f d rs ≡ named_times g d rs
named_same f g d [] same = refl
named_same f g d (r ∷ rs) same =
    let e = same r in
    let h = named_same f g d rs same in
    λ z. (if slot_is d (e z) then 1 else 0) + h z

-- the outer holds of a body that runs open, by its names
pub outer_is : (C : Code) → IsCode C → (b : ℕ) → Reached C b → (fs : List (Option Frame)) (k : ℕ) (rights : Entry → List Name) → ((e : Entry) (r : Name) → In r (rights e) → In r (e.reads ++ e.writes)) → (d : ℕ) →
    outer_of C rights fs k b d ≡ held_times (slot_for (layout_of C) fs k b) d (outer_holds C rights b)
outer_is C I b reached fs k rights right d =
    held_same (λ r. at_spot (spot_slot fs k) (spot_in C b r)) (slot_for (layout_of C) fs k b) d (outer_holds C rights b)
    (λ h i. stands h.name (some_name h.name (in_kept (λ r. not (is_declared C b r)) h.name (names_in C rights b) (hold_named (filter (λ r. not (is_declared C b r)) (names_in C rights b)) h i)).0))
  where
    some_name : (r : Name) → In r (names_in C rights b) → In r (all_names C b)
    some_name r h =
        let p = in_flat (λ j. rights (entry C j)) (body C b).entries r h in
        flat_in (λ j. (entry C j).reads ++ (entry C j).writes) (body C b).entries p.0 r p.1 (right (entry C p.0) r p.2)

    by_spot : (r : Name) (s : LexicalAddress) → spot_in C b r ≡ Some s → slot_for (layout_of C) fs k b r ≡ spot_slot fs k s
    by_spot r s e = (λ i. frame_slot fs k (record { levels = levels_of (e i); slot = slot_of (e i) })) ∙ sym (spot_same fs k s)

    stands : (r : Name) → In r (all_names C b) → at_spot (spot_slot fs k) (spot_in C b r) ≡ slot_for (layout_of C) fs k b r
    stands r h = let p = leads_somewhere C I b r reached h in ap (at_spot (spot_slot fs k)) p.1 ∙ sym (by_spot r p.0 p.1)

-- nothing is added
pub with_none : (r : Option Datum) → option_map (with_holds 0 0) r ≡ r
with_none None = refl
with_none (Some y) = ap Some (ap (λ k. record { content = y.content; reads = k; writes = y.writes + 0 }) (plus y.reads) ∙ ap (λ k. record { content = y.content; reads = y.reads; writes = k }) (plus y.writes))
  where
    plus : (n : ℕ) → n + 0 ≡ n
    plus n = omega arith

-- the last of some
pub last_none : (qs : List Put) → last_key qs ≡ None → qs ≡ []
last_none [] e = refl
last_none (q ∷ []) e = absurd (cc)
last_none (q ∷ r ∷ qs) e = let h = last_none (r ∷ qs) e in absurd (cc)

pub last_some : (qs : List Put) (k : ℕ) → last_key qs ≡ Some k → (q : Put) × In q qs × (q.key ≡ k)
last_some [] k e = absurd (cc)
last_some (q ∷ []) k e = (q, inl refl, cc)
last_some (q ∷ r ∷ qs) k e = let h = last_some (r ∷ qs) k e in (h.0, inr h.1, h.2)

-- outer holds are added
module _ (C : Code) (gs : List (Option Frame)) (b n : ℕ) (made more : Store) (ms : List Instance) where
  abbrev reads_added : ℕ → ℕ
  reads_added d = added_times C (layout_of C) (λ e. e.reads) gs d ms

  abbrev writes_added : ℕ → ℕ
  writes_added d = added_times C (layout_of C) (λ e. e.writes) gs d ms

  pub adds_all : (last : Option ℕ) → AddsOuter C gs b n last made more → (last ≡ None → ms ≡ []) →
      ((k : ℕ) → last ≡ Some k → (d : ℕ) → (n * outer_of C (λ e. e.reads) gs k b d ≡ reads_added d) × (n * outer_of C (λ e. e.writes) gs k b d ≡ writes_added d)) →
      ((d : ℕ) → Fit (reads_added d) (writes_added d) (at made d)) → (d : ℕ) → at more d ≡ option_map (with_holds (reads_added d) (writes_added d)) (at made d)
  adds_all None h none some fit d =
      ap (λ (s : Store). at s d) h ∙ sym (with_none (at made d))
      ∙ ap (λ (xs : List Instance). option_map (with_holds (added_times C (layout_of C) (λ e. e.reads) gs d xs) (added_times C (layout_of C) (λ e. e.writes) gs d xs)) (at made d)) (sym (none refl))
  adds_all (Some k) h none some fit d =
      let e = some k refl d in
      let f = subst (λ w. Fit (n * outer_of C (λ e. e.reads) gs k b d) w (at made d)) (sym e.1) (subst (λ r. Fit r (writes_added d) (at made d)) (sym e.0) (fit d)) in
      h d f ∙ ap (λ r. option_map (with_holds r (n * outer_of C (λ e. e.writes) gs k b d)) (at made d)) e.0 ∙ ap (λ w. option_map (with_holds (reads_added d) w) (at made d)) e.1

-- holds given up, by numbers that are the same
pub gives_same : (r u w v : ℕ → ℕ) (s t : Store) → ((d : ℕ) → r d ≡ u d) → ((d : ℕ) → w d ≡ v d) → GivesUp r w s t → GivesUp u v s t
gives_same r u w v s t e f g = record {
  there = λ d x h n a b. g.there d x h n (subst (λ k. k ≤ x.reads) (sym (e d)) a) (subst (λ k. k ≤ x.writes) (sym (f d)) b) ∙ ap (λ k. kept (fewer k (w d) x)) (e d) ∙ ap (λ k. kept (fewer (u d) k x)) (f d);
  nothing = g.nothing;
}

-- arrays closed, by numbers that are the same
pub closes_same : (w v : ℕ → ℕ) (s : Store) (closed : List ℕ) → ((d : ℕ) → w d ≡ v d) → Closes w s closed → Closes v s closed
closes_same w v s closed e h = record {
  all = λ d x q k p z. h.all d x q k p (e d ∙ z);
  only = λ d i. let y = h.only d i in (y.0, y.1, y.2, subst (λ k. y.0.writes ≤ k) (e d) y.3);
}

-- none is closed
pub closes_none : (s : Store) → Closes (λ d. 0) s []
closes_none s = record { all = λ d x q k p z. absurd (omega (arith, p, z)); only = λ d i. absurd i }

-- nothing is given up
pub gives_none : (s : Store) → GivesUp (λ d. 0) (λ d. 0) s s
gives_none s = record {
  there = λ d x e n r w. e ∙ sym (ap kept (ap (λ r. record { content = x.content; reads = r; writes = x.writes - 0 }) (less x.reads) ∙ ap (λ w. record { content = x.content; reads = x.reads; writes = w }) (less x.writes)) ∙ ap (λ b. if b then None else Some x) n);
  nothing = λ d e. e;
}
  where
    less : (a : ℕ) → a - 0 ≡ a
    less a = omega arith

-- what an item's rights come to by its table and by its names
module _ (C : Code) (I : IsCode C) (fs hs : List (Option Frame)) (within : Within fs hs) (k e c : ℕ) (f : Frame) (there : slot_at fs k ≡ Some f) (ie : In e (body C f.body).entries) (reached : Reached C f.body) where
  body_is : body_of C e ≡ f.body
  body_is = ap body_or_script (home_found C I f.body e ie)

  same : (r : Name) → slot_for (layout_of C) hs k f.body r ≡ job_slot C (layout_of C) fs (Does k e c) r
  same r = sym (slot_same fs hs within (layout_of C) k f.body r f there) ∙ sym (ap (λ (o : Option Frame). elim o [ None ↦ Absent | Some g ↦ slot_for (layout_of C) fs k g.body r ]) there)

  pub reads_are : (d : ℕ) → reads_of C hs (Does k e c) d ≡ given_times C (layout_of C) (λ y. y.reads) fs d (Does k e c) []
  reads_are d = ap (λ b. led_times (spot_slot hs k) d (spots_in C b (entry C e).reads)) body_is ∙ reads_led C I f.body reached hs k (spot_slot hs k) (spot_same hs k) e ie d ∙ named_same (slot_for (layout_of C) hs k f.body) (job_slot C (layout_of C) fs (Does k e c)) d (entry C e).reads same

  pub writes_are : (d : ℕ) → writes_of C hs (Does k e c) d ≡ given_times C (layout_of C) (λ y. y.writes) fs d (Does k e c) []
  writes_are d = ap (λ b. led_times (spot_slot hs k) d (spots_in C b (entry C e).writes)) body_is ∙ writes_led C I f.body reached hs k (spot_slot hs k) (spot_same hs k) e ie d ∙ named_same (slot_for (layout_of C) hs k f.body) (job_slot C (layout_of C) fs (Does k e c)) d (entry C e).writes same
