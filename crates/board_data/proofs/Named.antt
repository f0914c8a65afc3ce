-- Names by where they lead.
use Rattle.std.proofs.Common.{◌≡◌, ◌∙◌, refl, sym, ap, ℕ, zero, suc, ◌≤◌, ◌+◌, ◌^◌, List, [], ◌∷◌, ◌++◌, length, map, Option, Some, None, arith}
use Rattle.std.specs.Prelude.{if◌then◌else◌}
use Rattle.std.specs.List.{filter_map, flat_map}
use Rattle.board_program.specs.Spots.{layout_of, levels_of, slot_of, spot_in}
use Rattle.board_program.specs.Tables.{at_spot, spots_in, wanted_in}
use Rattle.board_program.specs.declared.lexical_address.LexicalAddress.{LexicalAddress}
use Rattle.board_instances.specs.Names.{led_slot, slot_in, spot_slot}
use Rattle.board_history.specs.Ending.{held_times, named_times, slot_is}
use Rattle.board_history.specs.Fields.{Absent, Counted, Does, Fields, Frame, Slot, frame_up, slot_at, slot_for}
use Rattle.board_history.specs.Needs.{array_missed, at_missed, element_missed, job_missed, missed, scalar_missed}
use Rattle.board_history.specs.Static.{Hold}
use Rattle.task_code.specs.Code.{At, AtKey, Closed, Code, Name, Need, Stored, entry, nth}
use Rattle.board_program.specs.Tables.{led_times}
use Rattle.board_data.specs.Wanted.{FewSlots, wanted_missed}

past : (xs : List Slot) (n : ℕ) → length xs ≤ n → nth Absent xs n ≡ Absent
past [] n h = refl
past (x ∷ xs) zero h = absurd (omega (arith, h))
past (x ∷ xs) (suc n) h = past xs n (omega (arith, h))

module _ (C : Code) (fs : List (Option Frame)) (k b : ℕ) (few : FewSlots fs) where
  by_frame : (o : Option Frame) (n : ℕ) → elim o [ None ↦ Absent | Some f ↦ nth Absent f.slots n ] ≡ slot_in o n
  by_frame None n = refl
  by_frame (Some f) n = refl

  nowhere : (o : Option Frame) → slot_at fs k ≡ o → elim o [ None ↦ Absent | Some f ↦ nth Absent f.slots (2 ^ 64) ] ≡ Absent
  nowhere None e = refl
  nowhere (Some f) e = past f.slots (2 ^ 64) (few k f e)

  by_spot : (o : Option LexicalAddress) → elim (frame_up fs (levels_of o) k) [ None ↦ Absent | Some f ↦ nth Absent f.slots (slot_of o) ] ≡ led_slot fs k o
  by_spot None = nowhere (slot_at fs k) refl
  by_spot (Some s) = by_frame (frame_up fs s.levels k) s.slot

  pub slot_by : (r : Name) → slot_for (layout_of C) fs k b r ≡ led_slot fs k (spot_in C b r)
  slot_by r = by_spot (spot_in C b r)

  at_led : (o : Option LexicalAddress) → at_spot (spot_slot fs k) o ≡ led_slot fs k o
  at_led None = refl
  at_led (Some s) = refl

  one_missed : (cs : List (Option Counted)) (n : Need) → wanted_missed C cs (led_slot fs k) (wanted_in C b n) ≡ missed C cs (slot_for (layout_of C) fs k b) n
  one_missed cs (Stored r) = ap (scalar_missed cs) (sym (slot_by r))
  one_missed cs (Closed r) = ap (array_missed cs) (sym (slot_by r))
  one_missed cs (At a r) = ap (λ x. at_missed C cs x (led_slot fs k (spot_in C b r))) (sym (slot_by a)) ∙ ap (at_missed C cs (slot_for (layout_of C) fs k b a)) (sym (slot_by r))
  one_missed cs (AtKey a i) = ap (λ x. element_missed cs x i) (sym (slot_by a))

  pub all_missed : (cs : List (Option Counted)) (ns : List Need) → flat_map (wanted_missed C cs (led_slot fs k)) (map (wanted_in C b) ns) ≡ flat_map (missed C cs (slot_for (layout_of C) fs k b)) ns
  all_missed cs [] = refl
  all_missed cs (n ∷ ns) = ap (λ x. x ++ flat_map (wanted_missed C cs (led_slot fs k)) (map (wanted_in C b) ns)) (one_missed cs n) ∙ ap (λ x. missed C cs (slot_for (layout_of C) fs k b) n ++ x) (all_missed cs ns)

  pub all_named : (d : ℕ) (rs : List Name) → led_times (spot_slot fs k) d (spots_in C b rs) ≡ named_times (slot_for (layout_of C) fs k b) d rs
  all_named d [] = refl
  all_named d (r ∷ rs) = by (spot_in C b r) (slot_by r) (all_named d rs)
    where
      by : (o : Option LexicalAddress) → slot_for (layout_of C) fs k b r ≡ led_slot fs k o → led_times (spot_slot fs k) d (spots_in C b rs) ≡ named_times (slot_for (layout_of C) fs k b) d rs → led_times (spot_slot fs k) d (Rattle.std.specs.List.cons_option o (spots_in C b rs)) ≡ named_times (slot_for (layout_of C) fs k b) d (r ∷ rs)
      by None e rest = rest ∙ none (named_times (slot_for (layout_of C) fs k b) d rs) ∙ ap (λ x. (if slot_is d x then 1 else 0) + named_times (slot_for (layout_of C) fs k b) d rs) (sym e)
        where
          none : (n : ℕ) → n ≡ 0 + n
          none n = omega arith
      by (Some s) e rest = ap (λ n. (if slot_is d (spot_slot fs k s) then 1 else 0) + n) rest ∙ ap (λ x. (if slot_is d x then 1 else 0) + named_times (slot_for (layout_of C) fs k b) d rs) (sym e)

  pub all_added : (d : ℕ) (hs : List Hold) → held_times (λ r. at_spot (spot_slot fs k) (spot_in C b r)) d hs ≡ held_times (slot_for (layout_of C) fs k b) d hs
  all_added d [] = refl
  all_added d (h ∷ hs) = ap (λ x. (if slot_is d x then h.count else 0) + held_times (λ r. at_spot (spot_slot fs k) (spot_in C b r)) d hs) (at_led (spot_in C b h.name) ∙ sym (slot_by h.name)) ∙ ap (λ n. (if slot_is d (slot_for (layout_of C) fs k b h.name) then h.count else 0) + n) (all_added d hs)

pub job_by : (C : Code) (F : Fields) (k e c : ℕ) (f : Frame) → FewSlots F.frames → slot_at F.frames k ≡ Some f → flat_map (wanted_missed C F.cells (led_slot F.frames k)) (map (wanted_in C f.body) (entry C e).needs) ≡ job_missed C (layout_of C) F (Does k e c)
job_by C F k e c f few at_k =
    all_missed C F.frames k f.body few F.cells (entry C e).needs
    ∙ sym (ap (λ (o : Option Frame). elim o [ None ↦ [] | Some g ↦ flat_map (missed C F.cells (slot_for (layout_of C) F.frames k g.body)) (entry C e).needs ]) at_k)
