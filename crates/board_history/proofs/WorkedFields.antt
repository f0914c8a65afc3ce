-- Fields that stand for states of a worked script.
use Rattle.std.proofs.Common.{◌≡◌, ◌⊎◌, inl, inr, ℕ, zero, suc, ◌+◌, ◌<◌, Bool, true, false, List, [], ◌∷◌, refl, sym, ap, ◌∙◌, subst, Option, None, Some, if◌then◌else◌, arith}
use Rattle.std.specs.Ordering.{int_eq}
use Rattle.std.specs.Prelude.{ℤ, pos}
use Rattle.std.proofs.lemmas.Int.{ints}
use Rattle.dataflow.specs.System.{Distinct, In}
use Rattle.dataflow.specs.Machine.{Begin, End}
use Rattle.board_history.specs.Ending.{BecomesKnown, CellAfter, CellsAfter, EndsTo, FramesOpen, Instance, IsOwn, NewCell, NewFrame, NewlyAfter, QueueAfter, TakenOff, TurnsAfter, WaitsAfter, is_home, job_kind, job_priority, job_stores, missed_again, missed_first, outside, stays, turns_of_new, with_live}
use Rattle.board_history.specs.Fields.{AnElement, Counted, DatumOf, Does, Fields, Frame, Holding, Job, Over, Ready, Row, Running, Script, Unset, Waiter, Waiting, Want, Whole, row_of, slot_at, slot_for}
use Rattle.board_history.specs.Marking.{begun_fields, without}
use Rattle.board_history.specs.Stands.{Stands, first_fields}
use Rattle.board_history.specs.Worked.{AssignedStands, OpenedStands, assigned_fields, opened_fields, worked_frame, worked_layout}
use Rattle.board_history.proofs.Begun.{begun_stands}
use Rattle.board_history.proofs.EndedFields.{end_stands}
use Rattle.board_history.proofs.Standing.{first_stands}
use Rattle.board_history.proofs.Tests.{choose, none_some, yes_no, some_same}
use Rattle.board_history.specs.Needs.{is_array_content, is_known}
use Rattle.task_code.proofs.Checked.{code_checked}
use Rattle.task_code.specs.Code.{Code, Control, Kind, Leaf, Variable, body, here, scalar}
use Rattle.task_code.specs.Compute.{Computed, Elements, Gives, Opens}
use Rattle.task_code.specs.Whole.{IsCode}
use Rattle.task_code.specs.Worked.{used_before_assigned}
use Rattle.values.specs.Keys.{hash_of}
use Rattle.values.specs.declared.key.Key.{Key}
use Rattle.values.specs.declared.value.Scalar.{Scalar}
use Rattle.values.specs.declared.value.Scalar.TheVariants.{Number}

abbrev C : Code
C = used_before_assigned

checked : IsCode C
checked = code_checked C refl

-- the first item has begun
abbrev begun : Fields
begun = begun_fields first_fields 0 1

begun_stand : Stands C worked_layout (Begin 0 1 ∷ []) begun
begun_stand = begun_stands C checked worked_layout [] first_fields (first_stands C worked_layout) 0 1 _ refl

-- the instance that is made
abbrev made : Instance
made = record { key = 0; body = 0; path = [] }

in_made : (P : Instance → Type 0) → P made → (m : Instance) → In m (made ∷ []) → P m
in_made P h m i = elim i [ inl e ↦ subst P (sym e) h | inr g ↦ absurd g ]

no_script : {B : Type 0} {k e c : ℕ} → Script ≡ Does k e c → B
no_script h = absurd (cc)

opens : FramesOpen C [] None (made ∷ []) (Some worked_frame ∷ [])
opens = record {
  fresh = λ m i. refl;
  keys = ((λ h. h), tt);
  new = in_made (λ m. (f : Frame) × (slot_at (Some worked_frame ∷ []) m.key ≡ Some f) × NewFrame C [] None m f) (worked_frame, refl, record { parent = refl; level = refl; way = refl; depth = refl; body_is = refl; live = refl });
  old = λ k f h. none_some h;
  only = only_;
}
  where
    only_ : (k : ℕ) (g : Frame) → slot_at (Some worked_frame ∷ []) k ≡ Some g → ((f : Frame) × (slot_at [] k ≡ Some f)) ⊎ ((m : Instance) × In m (made ∷ []) × (m.key ≡ k))
    only_ zero g h = inr (made, inl refl, refl)
    only_ (suc k) g h = none_some h

-- its variables
abbrev x : Variable
x = scalar 1

abbrev y : Variable
y = scalar 2

in_makes : (P : Variable → Type 0) → P x → P y → (v : Variable) → In v (body C 0).makes → P v
in_makes P hx hy v i = elim i [ inl e ↦ subst P (sym e) hx | inr g ↦ elim g [ inl e ↦ subst P (sym e) hy | inr z ↦ absurd z ] ]

datum_is : {a b : ℕ} → DatumOf a ≡ DatumOf b → a ≡ b
datum_is h = cc

no_equal : {B : Type 0} (a b d : ℕ) → DatumOf a ≡ DatumOf d → DatumOf b ≡ DatumOf d → (a ≡ b → ⊥) → B
no_equal a b d h g ne = absurd (ne (datum_is h ∙ sym (datum_is g)))

own_x : IsOwn C worked_layout (Some worked_frame ∷ []) made x 0
own_x = record { declared = inl refl; named = omega arith; leads = refl }

own_y : IsOwn C worked_layout (Some worked_frame ∷ []) made y 1
own_y = record { declared = inr (inl refl); named = omega arith; leads = refl }

abbrev opened_cells : List (Option Counted)
opened_cells = opened_fields.cells

abbrev New : Instance → Variable → Type 0
New m v = NewCell C worked_layout [] (Some worked_frame ∷ []) Script Opens m v [] opened_cells

cells : CellsAfter C worked_layout [] (Some worked_frame ∷ []) Script Opens (made ∷ []) [] [] opened_cells
cells = record {
  old = λ d c h. none_some h;
  new = λ m v i iv lt. new m i v iv;
  apart = apart;
  only = only_;
}
  where
    of_x : New made x
    of_x = record { key = 0; leads = refl; fresh = refl; content = Unset; starts = refl; is = refl }

    of_y : New made y
    of_y = record { key = 1; leads = refl; fresh = refl; content = Unset; starts = refl; is = refl }

    new : (m : Instance) → In m (made ∷ []) → (v : Variable) → In v (body C m.body).makes → New m v
    new m i = in_made (λ m. (v : Variable) → In v (body C m.body).makes → New m v) (in_makes (New made) of_x of_y) m i

    one_key : (v w : Variable) (d : ℕ) → In v (body C 0).makes → In w (body C 0).makes → slot_for worked_layout (Some worked_frame ∷ []) 0 0 (here v) ≡ DatumOf d → slot_for worked_layout (Some worked_frame ∷ []) 0 0 (here w) ≡ DatumOf d → v ≡ w
    one_key v w d iv iw = in_makes (λ v. slot_for worked_layout (Some worked_frame ∷ []) 0 0 (here v) ≡ DatumOf d → slot_for worked_layout (Some worked_frame ∷ []) 0 0 (here w) ≡ DatumOf d → v ≡ w)
        (in_makes (λ w. DatumOf 0 ≡ DatumOf d → slot_for worked_layout (Some worked_frame ∷ []) 0 0 (here w) ≡ DatumOf d → x ≡ w) (λ h g. refl) (λ h g. no_equal 0 1 d h g (λ e. omega arith)) w iw)
        (in_makes (λ w. DatumOf 1 ≡ DatumOf d → slot_for worked_layout (Some worked_frame ∷ []) 0 0 (here w) ≡ DatumOf d → y ≡ w) (λ h g. no_equal 1 0 d h g (λ e. omega arith)) (λ h g. refl) w iw)
        v iv

    apart : (m l : Instance) (v w : Variable) (d : ℕ) → In m (made ∷ []) → In l (made ∷ []) → IsOwn C worked_layout (Some worked_frame ∷ []) m v d → IsOwn C worked_layout (Some worked_frame ∷ []) l w d → (m.key ≡ l.key) × (v ≡ w)
    apart m l v w d im il = in_made (λ m. IsOwn C worked_layout (Some worked_frame ∷ []) m v d → IsOwn C worked_layout (Some worked_frame ∷ []) l w d → (m.key ≡ l.key) × (v ≡ w))
        (in_made (λ l. IsOwn C worked_layout (Some worked_frame ∷ []) made v d → IsOwn C worked_layout (Some worked_frame ∷ []) l w d → (0 ≡ l.key) × (v ≡ w)) (λ a b. (refl, one_key v w d a.declared b.declared a.leads b.leads)) l il)
        m im

    only_ : (d : ℕ) (c : Counted) → slot_at opened_cells d ≡ Some c → ((b : Counted) × (slot_at [] d ≡ Some b)) ⊎ ((m : Instance) × (v : Variable) × In m (made ∷ []) × IsOwn C worked_layout (Some worked_frame ∷ []) m v d)
    only_ zero c h = inr (made, x, inl refl, own_x)
    only_ (suc zero) c h = inr (made, y, inl refl, own_y)
    only_ (suc (suc d)) c h = none_some h

-- the rows of the opened script
abbrev row_1 : Row
row_1 = record { job = Script; status = Running 0 }

abbrev wait_row : ℕ → Row
wait_row e = record { job = Does 0 e 0; status = Waiting }

abbrev opened_rows : List Row
opened_rows = row_1 ∷ wait_row 0 ∷ wait_row 1 ∷ wait_row 2 ∷ []

by_row : (P : ℕ → Row → Type 0) → P 1 row_1 → P 2 (wait_row 0) → P 3 (wait_row 1) → P 4 (wait_row 2) → (m : ℕ) (r : Row) → row_of opened_rows m ≡ Some r → P m r
by_row P a b c d zero r h = none_some h
by_row P a b c d (suc zero) r h = subst (P 1) (some_same h) a
by_row P a b c d (suc (suc zero)) r h = subst (P 2) (some_same h) b
by_row P a b c d (suc (suc (suc zero))) r h = subst (P 3) (some_same h) c
by_row P a b c d (suc (suc (suc (suc zero)))) r h = subst (P 4) (some_same h) d
by_row P a b c d (suc (suc (suc (suc (suc m))))) r h = none_some h

running_waits : {B : Type 0} {w : ℕ} → Running w ≡ Waiting → B
running_waits h = absurd (cc)

abbrev waiter_2 : Waiter
waiter_2 = record { item = 2; missing = Whole 1 ∷ [] }

abbrev waiter_4 : Waiter
waiter_4 = record { item = 4; missing = Whole 0 ∷ [] }

of_waiters : (P : Waiter → Type 0) → P waiter_2 → P waiter_4 → (w : Waiter) → In w opened_fields.waiting → P w
of_waiters P a b w i = elim i [ inl e ↦ subst P (sym e) a | inr g ↦ elim g [ inl e ↦ subst P (sym e) b | inr z ↦ absurd z ] ]

no_list : {X B : Type 0} {z : X} {zs : List X} → ◌≡◌ {A = List X} (z ∷ zs) [] → B
no_list h = absurd (cc)

waits : WaitsAfter C worked_layout begun opened_fields opened_rows []
waits = record {
  old = λ w i. absurd i;
  new = λ m r lt h. by_row (λ m r. 1 < m → (missed_first C worked_layout opened_fields r.job ≡ [] → ⊥) → In (record { item = m; missing = missed_first C worked_layout opened_fields r.job }) opened_fields.waiting)
      (λ lt ne. let z : ⊥ = omega arith in absurd z) (λ lt ne. inl refl) (λ lt ne. absurd (ne refl)) (λ lt ne. inr (inl refl)) m r h lt;
  only = of_waiters (λ w. (w.missing ≡ [] → ⊥) × (((v : Waiter) × In v [] × (v.item ≡ w.item) × (w.missing ≡ missed_again C worked_layout opened_fields opened_rows [] v)) ⊎ ((r : Row) × (1 < w.item) × (row_of opened_rows w.item ≡ Some r) × (w.missing ≡ missed_first C worked_layout opened_fields r.job))))
      ((λ h. no_list h), inr (wait_row 0, omega arith, refl, refl))
      ((λ h. no_list h), inr (wait_row 2, omega arith, refl, refl));
  once = ((λ h. elim h [ inl e ↦ (let z : ⊥ = omega arith in absurd z) | inr g ↦ absurd g ]), ((λ h. h), tt));
}

newly : NewlyAfter opened_fields opened_rows
newly = record {
  once = ((λ h. h), tt);
  all = by_row (λ m r. r.status ≡ Waiting → ((w : Waiter) → In w opened_fields.waiting → w.item ≡ m → ⊥) → In m (3 ∷ []))
      (λ q n. running_waits q) (λ q n. absurd (n waiter_2 (inl refl) refl)) (λ q n. inl refl) (λ q n. absurd (n waiter_4 (inr (inl refl)) refl));
  only = λ m i. elim i [
    | inl e ↦ subst (λ (m : ℕ). (r : Row) × (row_of opened_rows m ≡ Some r) × (r.status ≡ Waiting) × ((w : Waiter) → In w opened_fields.waiting → w.item ≡ m → ⊥)) (sym e)
        (wait_row 1, refl, refl, of_waiters (λ w. w.item ≡ 3 → ⊥) (λ h. let z : ⊥ = omega arith in z) (λ h. let z : ⊥ = omega arith in z))
    | inr g ↦ absurd g
  ];
}

turns : TurnsAfter begun opened_fields 1 Opens opened_rows
turns = record {
  others = λ m r h live ne. refl;
  new = λ m r lt h. by_row (λ m r. 1 < m → None ≡ turns_of_new Opens None r.job) (λ lt. refl) (λ lt. refl) (λ lt. refl) (λ lt. refl) m r h lt;
}

queue_none : (b : Bool) (m : ℕ) → In m (without 1 (if b then 1 ∷ [] else [])) → ⊥
queue_none true m h = h
queue_none false m h = h

zero_is : (z : ℤ) → int_eq (pos 0) z ≡ true → pos 0 ≡ z
zero_is z h = grind (arith, ints)

queue_one : (ns : List ℕ) (n : ℕ) (z : ℤ) (m : ℕ) → ns ≡ n ∷ [] → In m (if int_eq (pos 0) z then ns else []) → (m ≡ n) × (pos 0 ≡ z)
queue_one ns n z m e =
    choose (λ (l : List ℕ). In m l → (m ≡ n) × (pos 0 ≡ z)) (int_eq (pos 0) z) ns []
    (λ t h. (elim (subst (λ (l : List ℕ). In m l) e h) [ inl q ↦ q | inr g ↦ absurd g ], zero_is z t))
    (λ t h. absurd h)

queue_once : (n : ℕ) (z : ℤ) → Distinct (if int_eq (pos 0) z then n ∷ [] else [])
queue_once n z = choose (λ (l : List ℕ). Distinct l) (int_eq (pos 0) z) (n ∷ []) [] (λ t. ((λ h. h), tt)) (λ t. tt)

opened_now : (m : ℕ) (r : Row) → row_of opened_fields.rows m ≡ Some r → m ≡ 3 → r ≡ record { job = Does 0 1 0; status = Ready }
opened_now m r h e = sym (some_same (subst (λ (m : ℕ). row_of opened_fields.rows m ≡ Some r) e h))

queue : QueueAfter C begun opened_fields
queue = record {
  kept = kept;
  added = λ m r h i. elim i [
    | inl e ↦ subst (λ (r : Row). In m (opened_fields.queue (job_kind C r.job) (job_priority C r.job))) (sym (opened_now m r h e)) (inl e)
    | inr g ↦ absurd g
  ];
  only = only_;
  once = once_;
}
  where
    kept : (k : Kind) (z : ℤ) (m : ℕ) → In m (begun.queue k z) → In m (opened_fields.queue k z)
    kept Control z m h = absurd (queue_none (int_eq (pos 0) z) m h)
    kept Leaf z m h = absurd h

    only_ : (k : Kind) (z : ℤ) (m : ℕ) → In m (opened_fields.queue k z) → In m (begun.queue k z) ⊎ ((r : Row) × (row_of opened_fields.rows m ≡ Some r) × In m (3 ∷ []) × (job_kind C r.job ≡ k) × (job_priority C r.job ≡ z))
    only_ Control z m h = absurd h
    only_ Leaf z m h =
        let p = queue_one (3 ∷ []) 3 z m refl h in
        inr (record { job = Does 0 1 0; status = Ready }, subst (λ (m : ℕ). row_of opened_fields.rows m ≡ Some (record { job = Does 0 1 0; status = Ready })) (sym p.0) refl, inl p.0, refl, p.1)

    once_ : (k : Kind) (z : ℤ) → Distinct (opened_fields.queue k z)
    once_ Control z = tt
    once_ Leaf z = queue_once 3 z

opened_ends : EndsTo C worked_layout begun 1 Script Opens opened_fields
opened_ends = record {
  made = made ∷ [];
  made_are = refl;
  middle = Some worked_frame ∷ [];
  opens = opens;
  leads = λ k e c m q i. no_script q;
  leaves = outside (Some worked_frame ∷ []) None refl (λ k. refl);
  cells = cells;
  known = [];
  becomes = record { sound = λ w i. absurd i; put = λ d c z zs h. none_some h; inserted = λ d c k v h. none_some h; closed = λ d b c h. none_some h };
  waits = waits;
  newly = newly;
  turns = turns;
  rows = refl;
  queue = queue;
  lines = refl;
  running = refl;
  fault = refl;
}

pub opened_stand : OpenedStands
opened_stand = end_stands C checked worked_layout (Begin 0 1 ∷ []) begun begun_stand 0 1 _ refl refl row_1 refl [] tt opened_fields opened_ends

-- the item that stores y has begun
abbrev storing : Fields
storing = begun_fields opened_fields 1 3

storing_stand : Stands C worked_layout (Begin 0 1 ∷ End 0 1 ∷ Begin 1 3 ∷ []) storing
storing_stand = begun_stands C checked worked_layout (Begin 0 1 ∷ End 0 1 ∷ []) opened_fields opened_stand 1 3 _ refl

abbrev job : Job
job = Does 0 1 0

abbrev stored : Computed
stored = Gives (Number (pos 2))

no_instance : {B : Type 0} (m : Instance) → In m [] → B
no_instance m i = absurd i

abbrev assigned_frames : List (Option Frame)
assigned_frames = assigned_fields.frames

none_open : FramesOpen C storing.frames (Some 0) [] storing.frames
none_open = record {
  fresh = λ m i. no_instance m i;
  keys = tt;
  new = λ m i. no_instance m i;
  old = old;
  only = λ k g h. inl (g, h);
}
  where
    old : (k : ℕ) (f : Frame) → slot_at storing.frames k ≡ Some f → slot_at storing.frames k ≡ Some (with_live (f.live + (if is_home (Some 0) k then 0 else 0)) f)
    old zero f h = subst (λ (f : Frame). slot_at storing.frames 0 ≡ Some (with_live (f.live + 0) f)) (some_same h) refl
    old (suc k) f h = none_some h

frame_left : TakenOff assigned_frames storing.frames (Some 0)
frame_left = stays storing.frames (Some 0) 0 1 worked_frame refl refl refl (record { here = refl; others = others })
  where
    others : (k : ℕ) → (k ≡ 0 → ⊥) → slot_at assigned_frames k ≡ slot_at storing.frames k
    others zero ne = absurd (ne refl)
    others (suc k) ne = refl

abbrev Was : ℕ → Counted → Type 0
Was d c = CellAfter C worked_layout storing.frames storing.frames job stored [] [] d c (slot_at assigned_fields.cells d)

stored_cells : CellsAfter C worked_layout storing.frames storing.frames job stored [] [] storing.cells assigned_fields.cells
stored_cells = record {
  old = old;
  new = λ m v i. no_instance m i;
  apart = λ m l v w d i. no_instance m i;
  only = only_;
}
  where
    old : (d : ℕ) (c : Counted) → slot_at storing.cells d ≡ Some c → Was d c
    old zero c h = subst (Was 0) (some_same h) (record { reads = 1; writes = 1; content = Unset; reads_are = refl; writes_are = refl; stores = refl; is = refl })
    old (suc zero) c h = subst (Was 1) (some_same h) (record { reads = 1; writes = 0; content = Holding (Number (pos 2)); reads_are = refl; writes_are = refl; stores = refl; is = refl })
    old (suc (suc d)) c h = none_some h

    only_ : (d : ℕ) (c : Counted) → slot_at assigned_fields.cells d ≡ Some c → ((b : Counted) × (slot_at storing.cells d ≡ Some b)) ⊎ ((m : Instance) × (v : Variable) × In m [] × IsOwn C worked_layout storing.frames m v d)
    only_ zero c h = inl (record { reads = 1; writes = 1; content = Unset }, refl)
    only_ (suc zero) c h = inl (record { reads = 1; writes = 1; content = Unset }, refl)
    only_ (suc (suc d)) c h = none_some h

abbrev told : List (Want ℕ)
told = Whole 1 ∷ []

stored_known : BecomesKnown C worked_layout (job_stores C worked_layout storing.frames job stored) storing.cells assigned_fields.cells told
stored_known = record {
  sound = λ w i. elim i [ inl e ↦ subst (λ (w : Want ℕ). is_known assigned_fields.cells w ≡ true) (sym e) refl | inr g ↦ absurd g ];
  put = put;
  inserted = inserted;
  closed = closed;
}
  where
    put : (d : ℕ) (c : Counted) (z : Key × Scalar) (zs : Elements) → slot_at storing.cells d ≡ Some c → is_array_content c.content ≡ false → job_stores C worked_layout storing.frames job stored d ≡ z ∷ zs → In (Whole d) told
    put zero c z zs h a e = no_list (sym e)
    put (suc zero) c z zs h a e = inl refl
    put (suc (suc d)) c z zs h a e = none_some h

    scalar_cell : {B : Type 0} (d : ℕ) (c : Counted) → slot_at storing.cells d ≡ Some c → is_array_content c.content ≡ true → B
    scalar_cell zero c h a = yes_no a (ap (λ (c : Counted). is_array_content c.content) (sym (some_same h)))
    scalar_cell (suc zero) c h a = yes_no a (ap (λ (c : Counted). is_array_content c.content) (sym (some_same h)))
    scalar_cell (suc (suc d)) c h a = none_some h

    inserted : (d : ℕ) (c : Counted) (k : Key) (v : Scalar) → slot_at storing.cells d ≡ Some c → is_array_content c.content ≡ true → In (k, v) (job_stores C worked_layout storing.frames job stored d) → In (AnElement d (hash_of k)) told
    inserted d c k v h a i = scalar_cell d c h a

    closed : (d : ℕ) (b c : Counted) → slot_at storing.cells d ≡ Some b → slot_at assigned_fields.cells d ≡ Some c → is_array_content b.content ≡ true → 0 < b.writes → c.writes ≡ 0 → In (Whole d) told
    closed d b c h g a lt z = scalar_cell d b h a

-- the rows while y is stored
abbrev storing_rows : List Row
storing_rows = record { job = Script; status = Over } ∷ wait_row 0 ∷ record { job = Does 0 1 0; status = Running 1 } ∷ wait_row 2 ∷ []

by_storing : (P : ℕ → Row → Type 0) → P 1 (record { job = Script; status = Over }) → P 2 (wait_row 0) → P 3 (record { job = Does 0 1 0; status = Running 1 }) → P 4 (wait_row 2) → (m : ℕ) (r : Row) → row_of storing_rows m ≡ Some r → P m r
by_storing P a b c d zero r h = none_some h
by_storing P a b c d (suc zero) r h = subst (P 1) (some_same h) a
by_storing P a b c d (suc (suc zero)) r h = subst (P 2) (some_same h) b
by_storing P a b c d (suc (suc (suc zero))) r h = subst (P 3) (some_same h) c
by_storing P a b c d (suc (suc (suc (suc zero)))) r h = subst (P 4) (some_same h) d
by_storing P a b c d (suc (suc (suc (suc (suc m))))) r h = none_some h

of_waiter : (P : Waiter → Type 0) → P waiter_4 → (w : Waiter) → In w assigned_fields.waiting → P w
of_waiter P a w i = elim i [ inl e ↦ subst P (sym e) a | inr z ↦ absurd z ]

over_waits : {B : Type 0} → Over ≡ Waiting → B
over_waits h = absurd (cc)

stored_waits : WaitsAfter C worked_layout storing assigned_fields storing_rows told
stored_waits = record {
  old = of_waiters (λ w. (missed_again C worked_layout assigned_fields storing_rows told w ≡ [] → ⊥) → In (record { item = w.item; missing = missed_again C worked_layout assigned_fields storing_rows told w }) assigned_fields.waiting)
      (λ ne. absurd (ne refl)) (λ ne. inl refl);
  new = λ m r lt h. by_storing (λ m r. 4 < m → (missed_first C worked_layout assigned_fields r.job ≡ [] → ⊥) → In (record { item = m; missing = missed_first C worked_layout assigned_fields r.job }) assigned_fields.waiting)
      (λ lt ne. let z : ⊥ = omega arith in absurd z) (λ lt ne. let z : ⊥ = omega arith in absurd z) (λ lt ne. let z : ⊥ = omega arith in absurd z) (λ lt ne. let z : ⊥ = omega arith in absurd z) m r h lt;
  only = of_waiter (λ w. (w.missing ≡ [] → ⊥) × (((v : Waiter) × In v storing.waiting × (v.item ≡ w.item) × (w.missing ≡ missed_again C worked_layout assigned_fields storing_rows told v)) ⊎ ((r : Row) × (4 < w.item) × (row_of storing_rows w.item ≡ Some r) × (w.missing ≡ missed_first C worked_layout assigned_fields r.job))))
      ((λ h. no_list h), inl (waiter_4, inr (inl refl), refl, refl));
  once = ((λ h. h), tt);
}

stored_newly : NewlyAfter assigned_fields storing_rows
stored_newly = record {
  once = ((λ h. h), tt);
  all = by_storing (λ m r. r.status ≡ Waiting → ((w : Waiter) → In w assigned_fields.waiting → w.item ≡ m → ⊥) → In m (2 ∷ []))
      (λ q n. over_waits q) (λ q n. inl refl) (λ q n. running_waits q) (λ q n. absurd (n waiter_4 (inl refl) refl));
  only = λ m i. elim i [
    | inl e ↦ subst (λ (m : ℕ). (r : Row) × (row_of storing_rows m ≡ Some r) × (r.status ≡ Waiting) × ((w : Waiter) → In w assigned_fields.waiting → w.item ≡ m → ⊥)) (sym e)
        (wait_row 0, refl, refl, of_waiter (λ w. w.item ≡ 2 → ⊥) (λ h. let z : ⊥ = omega arith in z))
    | inr g ↦ absurd g
  ];
}

stored_turns : TurnsAfter storing assigned_fields 3 stored storing_rows
stored_turns = record {
  others = λ m r h live ne. refl;
  new = λ m r lt h. by_storing (λ m r. 4 < m → None ≡ turns_of_new stored None r.job) (λ lt. refl) (λ lt. refl) (λ lt. refl) (λ lt. refl) m r h lt;
}

three_gone : (b : Bool) (m : ℕ) → In m (without 3 (if b then 3 ∷ [] else [])) → ⊥
three_gone true m h = h
three_gone false m h = h

assigned_now : (m : ℕ) (r : Row) → row_of assigned_fields.rows m ≡ Some r → m ≡ 2 → r ≡ record { job = Does 0 0 0; status = Ready }
assigned_now m r h e = sym (some_same (subst (λ (m : ℕ). row_of assigned_fields.rows m ≡ Some r) e h))

stored_queue : QueueAfter C storing assigned_fields
stored_queue = record {
  kept = kept;
  added = λ m r h i. elim i [
    | inl e ↦ subst (λ (r : Row). In m (assigned_fields.queue (job_kind C r.job) (job_priority C r.job))) (sym (assigned_now m r h e)) (inl e)
    | inr g ↦ absurd g
  ];
  only = only_;
  once = once_;
}
  where
    kept : (k : Kind) (z : ℤ) (m : ℕ) → In m (storing.queue k z) → In m (assigned_fields.queue k z)
    kept Control z m h = absurd h
    kept Leaf z m h = absurd (three_gone (int_eq (pos 0) z) m h)

    only_ : (k : Kind) (z : ℤ) (m : ℕ) → In m (assigned_fields.queue k z) → In m (storing.queue k z) ⊎ ((r : Row) × (row_of assigned_fields.rows m ≡ Some r) × In m (2 ∷ []) × (job_kind C r.job ≡ k) × (job_priority C r.job ≡ z))
    only_ Control z m h = absurd h
    only_ Leaf z m h =
        let p = queue_one (2 ∷ []) 2 z m refl h in
        inr (record { job = Does 0 0 0; status = Ready }, subst (λ (m : ℕ). row_of assigned_fields.rows m ≡ Some (record { job = Does 0 0 0; status = Ready })) (sym p.0) refl, inl p.0, refl, p.1)

    once_ : (k : Kind) (z : ℤ) → Distinct (assigned_fields.queue k z)
    once_ Control z = tt
    once_ Leaf z = queue_once 2 z

stored_ends : EndsTo C worked_layout storing 3 job stored assigned_fields
stored_ends = record {
  made = [];
  made_are = refl;
  middle = storing.frames;
  opens = none_open;
  leads = λ k e c m q i. no_instance m i;
  leaves = frame_left;
  cells = stored_cells;
  known = told;
  becomes = stored_known;
  waits = stored_waits;
  newly = stored_newly;
  turns = stored_turns;
  rows = refl;
  queue = stored_queue;
  lines = refl;
  running = refl;
  fault = refl;
}

pub assigned_stand : AssignedStands
assigned_stand = end_stands C checked worked_layout (Begin 0 1 ∷ End 0 1 ∷ Begin 1 3 ∷ []) storing storing_stand 1 3 _ refl refl (record { job = Does 0 1 0; status = Running 1 }) refl [] tt assigned_fields stored_ends
