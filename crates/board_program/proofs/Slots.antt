-- What names stand for by the layout, and by where they lead.
use Rattle.std.proofs.Common.{◌≡◌, ◌∙◌, refl, sym, ap, inl, inr, ℕ, ◌+◌, List, [], ◌∷◌, ◌++◌, Option, Some, not, arith}
use Rattle.std.specs.Prelude.{if◌then◌else◌}
use Rattle.std.specs.List.{cons_option, filter}
use Rattle.dataflow.specs.System.{In}
use Rattle.dataflow.proofs.Lists.{in_left, in_right}
use Rattle.board_history.proofs.EndedNames.{flat_in, hold_named, in_flat}
use Rattle.board_history.proofs.Tests.{in_kept}
use Rattle.board_history.specs.Ending.{held_times, named_times, slot_is, stored_by, stored_values}
use Rattle.board_history.specs.Fields.{Frame, Slot, slot_for}
use Rattle.board_history.specs.Layouts.{Reached, all_names}
use Rattle.board_history.specs.Static.{Hold, names_in, outer_holds}
use Rattle.task_code.specs.Check.{is_declared}
use Rattle.task_code.specs.Code.{Act, Assert, Call, Cell, Code, Copy, Each, Entry, Fill, If, Name, Print, InsertElement, Range, Read, Set, Wait, body, entry, stored_of, targets_of}
use Rattle.task_code.specs.Compute.{Computed, Elements}
use Rattle.task_code.specs.Whole.{IsCode}
use Rattle.board_program.proofs.Laid.{leads_somewhere}
use Rattle.board_program.specs.Spots.{frame_slot, layout_of, levels_of, slot_of, spot_in}
use Rattle.board_program.specs.Tables.{IsBodyTable, at_name, at_spot, first_spot, hold_times, led_times, spots_in}
use Rattle.board_program.specs.declared.program.BodyTable.{BodyTable}
use Rattle.board_program.specs.declared.lexical_address.LexicalAddress.{LexicalAddress}

plus : (n : ℕ) → 0 + n ≡ n
plus n = omega arith

held_same : (f g : Name → Slot) (d : ℕ) (hs : List Hold) → ((h : Hold) → In h hs → f h.name ≡ g h.name) → held_times f d hs ≡ held_times g d hs
held_same f g d [] same = refl
held_same f g d (h ∷ hs) same =
    let e = same h (inl refl) in
    let r = held_same f g d hs (λ y i. same y (inr i)) in
    λ z. (if slot_is d (e z) then h.count else 0) + r z

module _ (C : Code) (I : IsCode C) (b : ℕ) (reached : Reached C b) (fs : List (Option Frame)) (k : ℕ) (f : LexicalAddress → Slot) (same : (s : LexicalAddress) → f s ≡ frame_slot fs k s) where
  by_spot : (r : Name) (s : LexicalAddress) → spot_in C b r ≡ Some s → slot_for (layout_of C) fs k b r ≡ f s
  by_spot r s e = (λ i. frame_slot fs k (record { levels = levels_of (e i); slot = slot_of (e i) })) ∙ sym (same s)

  -- a name of the body
  name_stands : (r : Name) → In r (all_names C b) → at_name C b f r ≡ slot_for (layout_of C) fs k b r
  name_stands r h = let p = leads_somewhere C I b r reached h in ap (at_spot f) p.1 ∙ sym (by_spot r p.0 p.1)

  some_name : (rights : Entry → List Name) → ((e : Entry) (r : Name) → In r (rights e) → In r (e.reads ++ e.writes)) → (r : Name) → In r (names_in C rights b) → In r (all_names C b)
  some_name rights right r h =
      let p = in_flat (λ j. rights (entry C j)) (body C b).entries r h in
      flat_in (λ j. (entry C j).reads ++ (entry C j).writes) (body C b).entries p.0 r p.1 (right (entry C p.0) r p.2)

  outer_stands : (rights : Entry → List Name) → ((e : Entry) (r : Name) → In r (rights e) → In r (e.reads ++ e.writes)) → (d : ℕ) → held_times (at_name C b f) d (outer_holds C rights b) ≡ held_times (slot_for (layout_of C) fs k b) d (outer_holds C rights b)
  outer_stands rights right d =
      held_same (at_name C b f) (slot_for (layout_of C) fs k b) d (outer_holds C rights b) (λ h i. name_stands h.name (some_name rights right h.name (in_kept (λ r. not (is_declared C b r)) h.name (names_in C rights b) (hold_named (filter (λ r. not (is_declared C b r)) (names_in C rights b)) h i)).0))

  pub holds_read : (t : BodyTable) → IsBodyTable C b t → (d : ℕ) → hold_times f (λ x. x.reads) d t.outer.items ≡ held_times (slot_for (layout_of C) fs k b) d (outer_holds C (λ e. e.reads) b)
  holds_read t x d = x.reads f d ∙ outer_stands (λ e. e.reads) (λ e r h. in_left r e.reads e.writes h) d

  pub holds_written : (t : BodyTable) → IsBodyTable C b t → (d : ℕ) → hold_times f (λ x. x.writes) d t.outer.items ≡ held_times (slot_for (layout_of C) fs k b) d (outer_holds C (λ e. e.writes) b)
  holds_written t x d = x.writes f d ∙ outer_stands (λ e. e.writes) (λ e r h. in_right r e.reads e.writes h) d

  -- names, and the spots where they lead
  led_same : (d : ℕ) (rs : List Name) → ((r : Name) → In r rs → In r (all_names C b)) → led_times f d (spots_in C b rs) ≡ named_times (slot_for (layout_of C) fs k b) d rs
  led_same d [] all = refl
  led_same d (r ∷ rs) all =
      let p = leads_somewhere C I b r reached (all r (inl refl)) in
      let e = led_same d rs (λ y i. all y (inr i)) in
      ap (λ o. led_times f d (cons_option o (spots_in C b rs))) p.1
      ∙ (let q = sym (by_spot r p.0 p.1) in λ i. (if slot_is d (q i) then 1 else 0) + e i)

  pub reads_led : (i : ℕ) → In i (body C b).entries → (d : ℕ) → led_times f d (spots_in C b (entry C i).reads) ≡ named_times (slot_for (layout_of C) fs k b) d (entry C i).reads
  reads_led i ih d = led_same d (entry C i).reads (λ r h. flat_in (λ j. (entry C j).reads ++ (entry C j).writes) (body C b).entries i r ih (in_left r (entry C i).reads (entry C i).writes h))

  pub writes_led : (i : ℕ) → In i (body C b).entries → (d : ℕ) → led_times f d (spots_in C b (entry C i).writes) ≡ named_times (slot_for (layout_of C) fs k b) d (entry C i).writes
  writes_led i ih d = led_same d (entry C i).writes (λ r h. flat_in (λ j. (entry C j).reads ++ (entry C j).writes) (body C b).entries i r ih (in_right r (entry C i).reads (entry C i).writes h))

  -- what an entry stores into
  right : (xs : Elements) → xs ++ [] ≡ xs
  right [] = refl
  right (x ∷ xs) = ap (λ l. x ∷ l) (right xs)

  one_stored : (x : Computed) (d : ℕ) (r : Name) → In r (all_names C b) → stored_by (slot_for (layout_of C) fs k b) x d (r ∷ []) ≡ (if slot_is d (at_spot f (first_spot C b (r ∷ []))) then stored_values x else [])
  one_stored x d r h =
      right (if slot_is d (slot_for (layout_of C) fs k b r) then stored_values x else [])
      ∙ sym (ap (λ o. if slot_is d o then stored_values x else []) (name_stands r h))

  stored_by_act : (x : Computed) (d n : ℕ) (a : Act) → ((r : Name) → In r (targets_of n a) → In r (all_names C b)) → stored_by (slot_for (layout_of C) fs k b) x d (stored_of n a) ≡ (if slot_is d (at_spot f (first_spot C b (stored_of n a))) then stored_values x else [])
  stored_by_act x d n (Cell e) all = one_stored x d _ (all _ (inl refl))
  stored_by_act x d n Read all = one_stored x d _ (all _ (inl refl))
  stored_by_act x d n (Call c rs os) all = refl
  stored_by_act x d n (Set r e) all = one_stored x d r (all r (inl refl))
  stored_by_act x d n (Fill r es) all = one_stored x d r (all r (inl refl))
  stored_by_act x d n (Copy r) all = one_stored x d r (all r (inl refl))
  stored_by_act x d n (InsertElement r i e) all = one_stored x d r (all r (inl refl))
  stored_by_act x d n (Print e) all = refl
  stored_by_act x d n (Assert e) all = refl
  stored_by_act x d n (If e c m) all = refl
  stored_by_act x d n (Range l h st w) all = refl
  stored_by_act x d n (Each w) all = refl
  stored_by_act x d n (Wait hs c) all = refl

  pub stores_led : (i : ℕ) → In i (body C b).entries → (x : Computed) (d : ℕ) → stored_by (slot_for (layout_of C) fs k b) x d (stored_of (entry C i).node (entry C i).act) ≡ (if slot_is d (at_spot f (first_spot C b (stored_of (entry C i).node (entry C i).act))) then stored_values x else [])
  stores_led i ih x d = stored_by_act x d (entry C i).node (entry C i).act (λ r h. flat_in (λ j. (entry C j).reads ++ (entry C j).writes) (body C b).entries i r ih (in_right r (entry C i).reads (entry C i).writes (I.stores i r h)))
