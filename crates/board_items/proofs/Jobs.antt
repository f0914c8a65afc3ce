-- What jobs miss, and by whom they are run.
use Rattle.std.proofs.lemmas.Bool.Decides.{nat_tests}
use Rattle.std.proofs.Common.{◌≡◌, ◌∙◌, ℕ, zero, suc, ◌≤◌, Bool, true, false, IsTrue, List, [], ◌∷◌, ◌++◌, map, length, refl, sym, ap, subst, arith, append-nil, Option, Some, None}
use Rattle.std.specs.List.{AllZip, flat_map}
use Rattle.board_program.specs.Spots.{layout_of}
use Rattle.board_program.proofs.Found.{home_found}
use Rattle.dataflow.specs.System.{In}
use Rattle.task_code.specs.Whole.{IsCode}
use Rattle.board_program.specs.Tables.{body_of, body_or_script, wanted_in}
use Rattle.board_program.specs.declared.program.ResolvedNeed.{ResolvedNeed}
use Rattle.board_data.specs.Wanted.{FewSlots, is_nil, wanted_missed}
use Rattle.board_data.proofs.Named.{all_missed}
use Rattle.board_instances.specs.Names.{led_slot}
use Rattle.board_history.specs.Ending.{job_kind, job_priority}
use Rattle.board_history.specs.Fields.{Counted, Does, Frame, Job, Want, slot_at, slot_for}
use Rattle.board_history.specs.Needs.{missed}
use Rattle.task_code.specs.Code.{Code, Entry, blank_entry, body, entry, kind_of, nth}
use Rattle.work_queue.specs.declared.entry.Kind.TheVariants.{Leaf}
use Rattle.std.specs.Prelude.{filter, if◌then◌else◌, nat_lt, not, pos}
use Rattle.std.specs.Bool.{OnTrue}
use Rattle.rules.specs.declared.input.Input.{Input}
use Rattle.smallvec.specs.SmallVec.{SmallVec}
use Rattle.board_items.specs.Room.{AreListsFor, AreSpare}
use Rattle.board_items.specs.Ended.{IsSeen, first_needs, misses, misses_first}

nth_past : (xs : List Entry) (i : ℕ) → length xs ≤ i → nth blank_entry xs i ≡ blank_entry
nth_past [] i h = refl
nth_past (x ∷ xs) zero h = absurd (omega arith)
nth_past (x ∷ xs) (suc i) h = nth_past xs i (omega arith)

-- there is no such entry
pub kind_past : (C : Code) (k e c : ℕ) (j : Job) → j ≡ Does k e c → length C.entries ≤ e → Leaf ≡ job_kind C j
kind_past C k e c j q h = sym (ap (λ (x : Job). job_kind C x) q ∙ ap (λ (x : Entry). kind_of x.act) (nth_past C.entries e h))

pub priority_past : (C : Code) (k e c : ℕ) (j : Job) → j ≡ Does k e c → length C.entries ≤ e → pos 0 ≡ job_priority C j
priority_past C k e c j q h = sym (ap (job_priority C) q ∙ ap (λ (x : Entry). x.priority) (nth_past C.entries e h))

-- nothing is in a list, or something is
pub any_none : (xs : List (Want ℕ)) → false ≡ not (is_nil xs) → xs ≡ []
any_none [] h = refl
any_none (x ∷ xs) h = absurd (cc h)

pub any_some : (xs ys : List (Want ℕ)) → true ≡ not (is_nil xs) → false ≡ is_nil (xs ++ ys)
any_some [] ys h = absurd (cc h)
any_some (x ∷ xs) ys h = refl

module _ (C : Code) (fs : List (Option Frame)) (cs : List (Option Counted)) where
  misses_at : (k e c : ℕ) (f : Frame) → slot_at fs k ≡ Some f → misses C fs cs (Does k e c) ≡ flat_map (missed C cs (slot_for (layout_of C) fs k f.body)) (entry C e).needs
  misses_at k e c f h = ap (λ (x : Option Frame). elim x [ None ↦ [] | Some f ↦ flat_map (missed C cs (slot_for (layout_of C) fs k f.body)) (entry C e).needs ]) h

  pub misses_listed : (k e c : ℕ) (ws : List ResolvedNeed) → FewSlots fs → IsSeen C fs (Does k e c) → ws ≡ map (wanted_in C (body_of C e)) (entry C e).needs → flat_map (wanted_missed C cs (led_slot fs k)) ws ≡ misses C fs cs (Does k e c)
  misses_listed k e c ws few x q =
      ap (flat_map (wanted_missed C cs (led_slot fs k))) q
      ∙ ap (λ (b : ℕ). flat_map (wanted_missed C cs (led_slot fs k)) (map (wanted_in C b) (entry C e).needs)) x.2
      ∙ all_missed C fs k x.0.body few cs (entry C e).needs
      ∙ sym (misses_at k e c x.0 x.1)

  pub misses_past : (k e c : ℕ) → IsSeen C fs (Does k e c) → length C.entries ≤ e → misses C fs cs (Does k e c) ≡ []
  misses_past k e c x h = misses_at k e c x.0 x.1 ∙ ap (λ (y : Entry). flat_map (missed C cs (slot_for (layout_of C) fs k x.0.body)) y.needs) (nth_past C.entries e h)

  pub listed_past : (xs : List (Want ℕ)) (k e c : ℕ) (j : Job) → j ≡ Does k e c → IsSeen C fs j → length C.entries ≤ e → xs ≡ xs ++ misses C fs cs j
  listed_past xs k e c j q x h = sym (ap (λ ys. xs ++ ys) (ap (misses C fs cs) q ∙ misses_past k e c (subst (IsSeen C fs) q x) h) ∙ append-nil xs)

  pub missed_past : (k e c : ℕ) (j : Job) → j ≡ Does k e c → IsSeen C fs j → length C.entries ≤ e → misses C fs cs j ≡ []
  missed_past k e c j q x h = ap (misses C fs cs) q ∙ misses_past k e c (subst (IsSeen C fs) q x) h

  pub listed_there : (ws : List ResolvedNeed) (k e c : ℕ) (j : Job) → j ≡ Does k e c → FewSlots fs → IsSeen C fs j → ws ≡ map (wanted_in C (body_of C e)) (entry C e).needs → flat_map (wanted_missed C cs (led_slot fs k)) ws ≡ misses C fs cs j
  listed_there ws k e c j q few x t = misses_listed k e c ws few (subst (IsSeen C fs) q x) t ∙ sym (ap (misses C fs cs) q)

-- a test whether nothing is missed
pub nil_of : {X : Type 0} (xs : List X) → is_nil xs ≡ true → xs ≡ []
nil_of [] h = refl
nil_of (x ∷ xs) h = absurd (cc h)

pub true_none : (b : Bool) (xs ys : List (Want ℕ)) → b ≡ is_nil xs → xs ≡ ys → OnTrue b (ys ≡ [])
true_none true xs ys e q = sym q ∙ nil_of xs (sym e)
true_none false xs ys e q = tt

pub none_true : (b : Bool) (xs ys : List (Want ℕ)) → b ≡ is_nil xs → xs ≡ ys → ys ≡ [] → IsTrue b
none_true b xs ys e q z = e ∙ ap is_nil (q ∙ z)

-- new items
pub first_past : (C : Code) (k e c : ℕ) (j : Job) → j ≡ Does k e c → length C.entries ≤ e → 0 ≡ first_needs C j
first_past C k e c j q h = by c ∙ sym (ap (first_needs C) q)
  where
    by : (c : ℕ) → 0 ≡ first_needs C (Does k e c)
    by zero = sym (ap (λ (x : Entry). length x.needs) (nth_past C.entries e h))
    by (suc c) = refl

-- what a new item misses
module _ (C : Code) (fs : List (Option Frame)) (cs : List (Option Counted)) where
  pub new_past : (k e c : ℕ) (j : Job) → j ≡ Does k e c → IsSeen C fs j → length C.entries ≤ e → [] ≡ misses_first C fs cs j
  new_past k e zero j q x h = sym (ap (misses_first C fs cs) q ∙ misses_past C fs cs k e zero (subst (IsSeen C fs) q x) h)
  new_past k e (suc c) j q x h = sym (ap (misses_first C fs cs) q)

  pub new_there : (k e c : ℕ) (j : Job) (ws : List ResolvedNeed) → j ≡ Does k e c → c ≡ 0 → FewSlots fs → IsSeen C fs j → ws ≡ map (wanted_in C (body_of C e)) (entry C e).needs → flat_map (wanted_missed C cs (led_slot fs k)) ws ≡ misses_first C fs cs j
  new_there k e zero j ws q z few x t = misses_listed C fs cs k e zero ws few (subst (IsSeen C fs) q x) t ∙ sym (ap (misses_first C fs cs) q)
  new_there k e (suc c) j ws q z few x t = absurd (cc (z))

-- the lists for a new item and those behind it
pub spare_for : (C : Code) (j j' : Job) (js : List Job) (ls : List (SmallVec Input)) (n : ℕ) → j ≡ j' → n ≡ first_needs C j → AreSpare C (j' ∷ js) ls → AreListsFor (n ∷ map (first_needs C) js) ls
spare_for C j j' js ls n q e s = subst (λ (m : ℕ). AreListsFor (m ∷ map (first_needs C) js) ls) (sym (e ∙ ap (first_needs C) q)) s

-- the lists for those behind one that needs none
pub lists_behind : (n : ℕ) (ns : List ℕ) (ls : List (SmallVec Input)) → n ≤ 2 → AreListsFor (n ∷ ns) ls → AreListsFor ns ls
lists_behind n ns ls h s = subst (λ (b : Bool). AllZip (λ n (l : SmallVec Input). n ≤ l.capacity) (if b then n ∷ filter (nat_lt 2) ns else filter (nat_lt 2) ns) ls) (few n h) s
  where
    few : (n : ℕ) → n ≤ 2 → nat_lt 2 n ≡ false
    few n h = grind (arith, nat_tests)

-- an entry in an instance of the body that has it
pub seen_there : (C : Code) → IsCode C → (fs : List (Option Frame)) (k e c : ℕ) (f : Frame) → slot_at fs k ≡ Some f → In e (body C f.body).entries → IsSeen C fs (Does k e c)
seen_there C I fs k e c f h i = (f, h, ap body_or_script (home_found C I f.body e i))
