-- What the names of items stand for at an End: the item's own, and those of the instances that it makes.
use Rattle.std.proofs.Common.{◌≡◌, ◌⊎◌, inl, inr, ℕ, zero, suc, ◌+◌, Bool, true, false, List, [], ◌∷◌, ◌++◌, map, refl, sym, ap, ◌∙◌, subst, Option, None, Some, if◌then◌else◌, arith}
use Rattle.std.specs.List.{flat_map}
use Rattle.std.specs.Prelude.{nat_eq}
use Rattle.dataflow.specs.System.{Answer, Effect, Good, In, Opening}
use Rattle.dataflow.specs.Facts.{Made}
use Rattle.dataflow.specs.Laws.{Can}
use Rattle.dataflow.specs.Log.{Logged}
use Rattle.dataflow.specs.Machine.{Event}
use Rattle.dataflow.proofs.Lists.{in_left, in_map, in_right, in_split, in_unmap}
use Rattle.dataflow.proofs.Settled.{can_of_comes}
use Rattle.board_history.specs.Counts.{times}
use Rattle.board_history.specs.Elements.{code_tests}
use Rattle.board_history.specs.Ending.{Instance, job_slot, held_times, named_times, slot_is}
use Rattle.board_history.specs.Fields.{Absent, DatumOf, Does, Fields, Frame, Job, Layout, LiteralOf, Over, Row, Script, Slot, fixed_in, literal, path_of, row_of, slot_at, slot_for, task_of}
use Rattle.board_history.specs.Stands.{SlotStands}
use Rattle.board_history.specs.Static.{Hold, add_hold, counted_names, held_by, names_in, opened, rests}
use Rattle.board_history.proofs.Ended.{opens_is}
use Rattle.board_history.proofs.EndedBase.{Ending, can, computed, follows, log, o, opens_are, own_task, read_there, rests_none, s, settled, task, write_there}
use Rattle.board_history.proofs.EndedFrames.{hs, made, made_block, not_over, os, own_frame, own_live}
use Rattle.board_history.proofs.Marking.{item, status_is}
use Rattle.board_history.proofs.Rows.{row_item}
use Rattle.board_history.proofs.Next.{nat_same, nat_sound}
use Rattle.board_history.proofs.Tests.{choose, none_some, yes_no}
use Rattle.task_code.proofs.Decided.{declared_is}
use Rattle.task_code.proofs.Equal.{place_same, place_sound}
use Rattle.task_code.proofs.Kept.{code_laws}
use Rattle.task_code.proofs.Opens.{IsRest, OpensBlock, PathBy, found, in_block, in_rest, opened as opened_inv, seen_place}
use Rattle.task_code.proofs.Places.{argued}
use Rattle.task_code.specs.Check.{is_declared}
use Rattle.task_code.specs.Code.{Argument, Calling, Code, Fixed, InPlace, Name, Named, Through, Variable, Way, argument, argument_in, arguments, body, call_at, entry, is_array_name, ways}
use Rattle.task_code.specs.Compute.{Computed}
use Rattle.task_code.specs.Effects.{Item, Task, block, is_some_list}
use Rattle.task_code.specs.Machine.{CodeItem, CodeState}
use Rattle.task_code.specs.Places.{Constant, Datum, Nowhere, Place, Step, place_at, place_eq}
use Rattle.task_code.specs.System.{code_system, data_among, task_reads, task_writes}
use Rattle.task_code.specs.Whole.{Declared, Fixes, IsCode}
use Rattle.values.specs.Values.{same_truth}
use Rattle.values.specs.declared.key.Key.{Key}
use Rattle.values.specs.declared.value.Scalar.{Scalar}

-- a slot stands for a place that is there: its datum, by a name, or a literal
pub data Resolved (C : Code) (names : List (ℕ × Place)) (x : Slot) (a : Place) : Type 0 where
  to_datum : (d : ℕ) (q : List Step) (v : Variable) → x ≡ DatumOf d → a ≡ Datum q v → In (d, Datum q v) names → Resolved C names x a
  to_literal : (e k : ℕ) (v : Scalar) → x ≡ LiteralOf e k → a ≡ Constant v → literal C e k ≡ Some v → Resolved C names x a

abbrev pub resolved_at : (C : Code) (names : List (ℕ × Place)) (x y : Slot) (a b : Place) → x ≡ y → a ≡ b → Resolved C names x a → Resolved C names y b
resolved_at C names x y a b p q (to_datum d r v e f i) = to_datum d r v (sym p ∙ e) (sym q ∙ f) i
resolved_at C names x y a b p q (to_literal e k v f g l) = to_literal e k v (sym p ∙ f) (sym q ∙ g) l

not_datum : {B : Type 0} {v : Scalar} {q : List Step} {w : Variable} → Datum q w ≡ Constant v → B
not_datum h = absurd (cc)

not_nowhere : {B : Type 0} {q : List Step} {w : Variable} → Nowhere ≡ Datum q w → B
not_nowhere h = absurd (cc)

not_constant : {B : Type 0} {v : Scalar} {q : List Step} {w : Variable} → Constant v ≡ Datum q w → B
not_constant h = absurd (cc)

-- a right that is a datum
pub in_data : (q : List Step) (v : Variable) (ds : List Place) → In (Datum q v) ds → In (Datum q v) (data_among ds)
in_data q v [] h = absurd h
in_data q v (Datum p w ∷ ds) h = elim h [ inl e ↦ inl e | inr g ↦ inr (in_data q v ds g) ]
in_data q v (Constant c ∷ ds) h = elim h [ inl e ↦ not_datum e | inr g ↦ in_data q v ds g ]
in_data q v (Nowhere ∷ ds) h = elim h [ inl e ↦ inl e | inr g ↦ inr (in_data q v ds g) ]

in_nowhere : (ds : List Place) → In Nowhere ds → In Nowhere (data_among ds)
in_nowhere [] h = absurd h
in_nowhere (Datum p w ∷ ds) h = elim h [ inl e ↦ inl e | inr g ↦ inr (in_nowhere ds g) ]
in_nowhere (Constant c ∷ ds) h = elim h [ inl e ↦ absurd (cc (e)) | inr g ↦ in_nowhere ds g ]
in_nowhere (Nowhere ∷ ds) h = inl refl

-- a literal among arguments
fixed_told : (rs : List Argument) (k : ℕ) (b : Bool) (v : Scalar) → argument_in rs k b ≡ Some (Fixed v) → fixed_in rs k ≡ Some v
fixed_told [] k b v h = none_some h
fixed_told (Named x ∷ rs) zero b v h = by (same_truth (is_array_name x) b) h
  where
    by : (t : Bool) → ◌≡◌ {A = Option Argument} (elim t [ true ↦ Some (Named x) | false ↦ None ]) (Some (Fixed v)) → fixed_in (Named x ∷ rs) 0 ≡ Some v
    by true h = absurd (cc)
    by false h = none_some h
fixed_told (Fixed c ∷ rs) zero true v h = none_some h
fixed_told (Fixed c ∷ rs) zero false v h = let e : c ≡ v = cc in ap Some e
fixed_told (Named x ∷ rs) (suc k) b v h = fixed_told rs k b v h
fixed_told (Fixed c ∷ rs) (suc k) b v h = fixed_told rs k b v h

-- the names of holds
hold_added : (r : Name) (hs : List Hold) (h : Hold) → In h (add_hold r hs) → (h.name ≡ r) ⊎ ((g : Hold) × In g hs × (h.name ≡ g.name))
hold_added r [] h i = elim i [ inl e ↦ inl (ap (λ (y : Hold). y.name) e) | inr g ↦ absurd g ]
hold_added r (x ∷ hs) h i =
    choose (λ (l : List Hold). In h l → (h.name ≡ r) ⊎ ((g : Hold) × In g (x ∷ hs) × (h.name ≡ g.name))) _ (record { name = x.name; count = suc x.count } ∷ hs) (x ∷ add_hold r hs)
    (λ t j. elim j [ inl e ↦ inr (x, inl refl, ap (λ (y : Hold). y.name) e) | inr g ↦ inr (h, inr g, refl) ])
    (λ t j. elim j [
      | inl e ↦ inr (x, inl refl, ap (λ (y : Hold). y.name) e)
      | inr g ↦ elim (hold_added r hs h g) [ inl e ↦ inl e | inr p ↦ inr (p.0, inr p.1, p.2) ]
    ])
    i

pub hold_named : (rs : List Name) (h : Hold) → In h (counted_names rs) → In h.name rs
hold_named [] h i = absurd i
hold_named (r ∷ rs) h i =
    elim (hold_added r (counted_names rs) h i) [
      | inl e ↦ inl e
      | inr p ↦ inr (subst (λ (x : Name). In x rs) (sym p.2) (hold_named rs p.0 p.1))
    ]

pub in_flat : {A B : Type 0} (f : A → List B) (xs : List A) (y : B) → In y (flat_map f xs) → (x : A) × In x xs × In y (f x)
in_flat f [] y h = absurd h
in_flat {A} {B} f (x ∷ xs) y h = by (in_split y (f x) (flat_map f xs) h) (λ i. in_flat f xs y i)
  where
    by : In y (f x) ⊎ In y (flat_map f xs) → (In y (flat_map f xs) → (z : A) × In z xs × In y (f z)) → (z : A) × In z (x ∷ xs) × In y (f z)
    by (inl i) r = (x, inl refl, i)
    by (inr i) r = let q = r i in (q.0, inr q.1, q.2)

pub flat_in : {A B : Type 0} (f : A → List B) (xs : List A) (x : A) (y : B) → In x xs → In y (f x) → In y (flat_map f xs)
flat_in f [] x y h i = absurd h
flat_in {A} {B} f (z ∷ xs) x y h i =
    elim h [ inl e ↦ in_left y (f z) (flat_map f xs) (subst (λ (w : A). In y (f w)) e i) | inr g ↦ in_right y (f z) (flat_map f xs) (flat_in f xs x y g i) ]

-- both tests agree
same_bool : (a b : Bool) → (a ≡ true → b ≡ true) → (b ≡ true → a ≡ true) → a ≡ b
same_bool true b f g = sym (f refl)
same_bool false true f g = g refl
same_bool false false f g = refl

module _ (C : Code) (names : List (ℕ × Place)) (one_name : (n m : ℕ) (a : Place) → In (n, a) names → In (m, a) names → n ≡ m) (one_datum : (n : ℕ) (a b : Place) → In (n, a) names → In (n, b) names → a ≡ b) where
  -- a slot is a datum exactly where its place is
  pub slot_test : (d : ℕ) (a : Place) → In (d, a) names → (x : Slot) (b : Place) → Resolved C names x b → (q : List Step) (v : Variable) → a ≡ Datum q v → slot_is d x ≡ place_eq a b
  slot_test d a h x b (to_datum e r w p g i) q v z =
      ap (slot_is d) p ∙ same_bool (nat_eq d e) (place_eq a (Datum r w)) to from ∙ ap (place_eq a) (sym g)
    where
      to : nat_eq d e ≡ true → place_eq a (Datum r w) ≡ true
      to t = subst (λ (y : Place). place_eq a y ≡ true) (one_datum d a (Datum r w) h (subst (λ (l : ℕ). In (l, Datum r w) names) (sym (nat_sound d e t)) i)) (place_same a)

      from : place_eq a (Datum r w) ≡ true → nat_eq d e ≡ true
      from t = subst (λ (l : ℕ). nat_eq d l ≡ true) (one_name d e a h (subst (λ (y : Place). In (e, y) names) (sym (place_sound a (Datum r w) t)) i)) (nat_same d)
  slot_test d a h x b (to_literal e k c p g l) q v z =
      ap (slot_is d) p ∙ sym (ap (place_eq a) g ∙ ap (λ (y : Place). place_eq y (Constant c)) z)

  pub named_told : (d : ℕ) (q : List Step) (v : Variable) → In (d, Datum q v) names → (f : Name → Slot) (p : List Step) (rs : List Name) → ((r : Name) → In r rs → Resolved C names (f r) (place_at C p r)) → named_times f d rs ≡ times (code_system C) code_tests (Datum q v) (map (place_at C p) rs)
  named_told d q v h f p [] all = refl
  named_told d q v h f p (r ∷ rs) all =
      let e = slot_test d (Datum q v) h (f r) (place_at C p r) (all r (inl refl)) q v refl in
      let ih = named_told d q v h f p rs (λ x i. all x (inr i)) in
      λ i. (if e i then 1 else 0) + ih i

  pub held_told : (d : ℕ) (q : List Step) (v : Variable) → In (d, Datum q v) names → (f : Name → Slot) (p : List Step) (hs : List Hold) → ((x : Hold) → In x hs → Resolved C names (f x.name) (place_at C p x.name)) → held_times f d hs ≡ held_by C p (Datum q v) hs
  held_told d q v h f p [] all = refl
  held_told d q v h f p (x ∷ hs) all =
      let e = slot_test d (Datum q v) h (f x.name) (place_at C p x.name) (all x (inl refl)) q v refl in
      let ih = held_told d q v h f p hs (λ y i. all y (inr i)) in
      λ i. (if e i then x.count else 0) + ih i

-- what is made is a datum
datum_made : (C : Code) (I : IsCode C) (u : Task) (xs : List (Answer Key Scalar)) (e : Effect Task Place Key Scalar) → (code_system C).effect u xs ≡ Good e → (p : Opening Task Place) (a : Place) → In p e.opens → In a p.makes → (q : List Step) × (v : Variable) × (a ≡ Datum q v)
datum_made C I u xs e h p a i m =
    let y = opens_is C u xs e h in
    elim (in_split p (map (block C) (opened C u y.0)) (rests C u y.0) (subst (λ (l : List (Opening Task Place)). In p l) y.1 i)) [
      | inl g ↦ (let b = in_unmap (block C) p (opened C u y.0) g in
          let v = in_unmap (Datum b.0.1) a (body C b.0.0).makes (subst (λ (z : Opening Task Place). In a z.makes) (sym b.2) m) in
          (b.0.1, v.0, sym v.2))
      | inr g ↦ absurd (subst (λ (l : List Place). In a l) (rests_none C u y.0 p g) m)
    ]

-- the script's block
script_body : (C : Code) (fs : List (Option Frame)) (b : ℕ × List Step) (y : Computed) (x : Job) → x ≡ Script → In b (opened C (task_of fs x) y) → b.0 ≡ 0
script_body C fs b y x q h = of (subst (λ (z : Job). In b (opened C (task_of fs z) y)) q h)
  where
    of : In b ((0, []) ∷ []) → b.0 ≡ 0
    of h = elim h [ inl e ↦ ap (λ (z : ℕ × List Step). z.0) e | inr g ↦ absurd g ]

module _ (C : Code) (I : IsCode C) (L : Layout) (es : List Event) (F : Fields) (w n : ℕ) (t : CodeState) (G : Fields) (P : Ending C L es F w n t G) where
  abbrev fs : List (Option Frame)
  fs = F.frames

  abbrev names : List (ℕ × Place)
  names = P.x.names

  -- a datum has a path and a variable
  pub datum_only : (a : Place) → In a P.x.state.places → (q : List Step) × (v : Variable) × (a ≡ Datum q v)
  datum_only a h =
      let m : Made (code_system C) (Logged (code_system C) (log C I L es F w n t G P)) a = (follows C I L es F w n t G P).store.data_in a h in
      let st = settled C I L es F w n t G P in
      let c = can_of_comes (code_system C) (code_laws C I) (Logged (code_system C) (log C I L es F w n t G P)) st (st.comes m.task m.effect m.fact) in
      datum_made C I m.task c.answers m.effect c.is m.opening a m.opens m.makes

  no_place : {B : Type 0} (a : Place) → ((q : List Step) (v : Variable) → a ≡ Datum q v → ⊥) → In a P.x.state.places → B
  no_place a ne h = let p = datum_only a h in absurd (ne p.0 p.1 p.2)

  -- an item of a live row
  pub live_item : (m k e c : ℕ) (r : Row) → row_of F.rows m ≡ Some r → r.job ≡ Does k e c → (r.status ≡ Over → ⊥) → (i : CodeItem) × In i P.x.state.items × (i.task ≡ Item e (path_of fs k) c)
  live_item zero k e c r h q live = no_row F.rows h
    where
      no_row : (rows : List Row) → row_of rows zero ≡ Some r → (i : CodeItem) × In i P.x.state.items × (i.task ≡ Item e (path_of fs k) c)
      no_row [] h = none_some h
      no_row (y ∷ rows) h = none_some h
  live_item (suc b) k e c r h q live =
      elim (status_is r.status) [
        | inl over ↦ absurd (live over)
        | inr y ↦ (item (suc b) (task_of fs r.job) y.runs, subst (λ (is : List CodeItem). In (item (suc b) (task_of fs r.job) y.runs) is) P.x.items.items (row_item fs 1 F.rows b (suc b) r h y (omega arith)), ap (task_of fs) q)
      ]

  -- its names
  pub row_reads : (m k e c : ℕ) (r : Row) (f : Frame) → row_of F.rows m ≡ Some r → r.job ≡ Does k e c → (r.status ≡ Over → ⊥) → slot_at fs k ≡ Some f → (x : Name) → In x (entry C e).reads → Resolved C names (slot_for L fs k f.body x) (place_at C (path_of fs k) x)
  row_reads m k e c r f h q live fr x ix =
      by (place_at C (path_of fs k) x) refl (P.x.frames.reads m k e c r f h q live fr x ix)
    where
      i : (i : CodeItem) × In i P.x.state.items × (i.task ≡ Item e (path_of fs k) c)
      i = live_item m k e c r h q live

      right : (a : Place) → In a (task_reads C (Item e (path_of fs k) c)) → In a P.x.state.places
      right a g = read_there C I L es F w n t G P i.0 i.1 a (subst (λ (u : Task). In a (task_reads C u)) (sym i.2) g)

      by : (a : Place) → place_at C (path_of fs k) x ≡ a → SlotStands C P.x.state names (slot_for L fs k f.body x) a → Resolved C names (slot_for L fs k f.body x) (place_at C (path_of fs k) x)
      by (Datum p v) z g =
          let s = g (right (Datum p v) (in_data p v (map (place_at C (path_of fs k)) (entry C e).reads) (subst (λ (a : Place). In a (map (place_at C (path_of fs k)) (entry C e).reads)) z (in_map (place_at C (path_of fs k)) x (entry C e).reads ix)))) in
          to_datum s.0 p v s.1 z s.2
      by (Constant v) z g = to_literal g.0 g.1 v g.2 z g.3
      by Nowhere z g =
          no_place Nowhere (λ p v y. not_nowhere y) (right Nowhere (in_nowhere (map (place_at C (path_of fs k)) (entry C e).reads) (subst (λ (a : Place). In a (map (place_at C (path_of fs k)) (entry C e).reads)) z (in_map (place_at C (path_of fs k)) x (entry C e).reads ix))))

  pub row_writes : (m k e c : ℕ) (r : Row) (f : Frame) → row_of F.rows m ≡ Some r → r.job ≡ Does k e c → (r.status ≡ Over → ⊥) → slot_at fs k ≡ Some f → (x : Name) → In x (entry C e).writes → Resolved C names (slot_for L fs k f.body x) (place_at C (path_of fs k) x)
  row_writes m k e c r f h q live fr x ix =
      by (place_at C (path_of fs k) x) refl (P.x.frames.writes m k e c r f h q live fr x ix)
    where
      i : (i : CodeItem) × In i P.x.state.items × (i.task ≡ Item e (path_of fs k) c)
      i = live_item m k e c r h q live

      right : (a : Place) → place_at C (path_of fs k) x ≡ a → In a P.x.state.places
      right a z =
          write_there C I L es F w n t G P i.0 i.1 a (subst (λ (u : Task). In a (task_writes C u)) (sym i.2) (subst (λ (b : Place). In b (map (place_at C (path_of fs k)) (entry C e).writes)) z (in_map (place_at C (path_of fs k)) x (entry C e).writes ix)))

      by : (a : Place) → place_at C (path_of fs k) x ≡ a → SlotStands C P.x.state names (slot_for L fs k f.body x) a → Resolved C names (slot_for L fs k f.body x) (place_at C (path_of fs k) x)
      by (Datum p v) z g = let s = g (right (Datum p v) z) in to_datum s.0 p v s.1 z s.2
      by (Constant v) z g = no_place (Constant v) (λ p v e. not_constant e) (right (Constant v) z)
      by Nowhere z g = no_place Nowhere (λ p v e. not_nowhere e) (right Nowhere z)

  abbrev j : Job
  j = P.row.job

  -- the names of the item that ends
  pub own_reads : (k e c : ℕ) → j ≡ Does k e c → (x : Name) → In x (entry C e).reads → Resolved C names (job_slot C L fs (Does k e c) x) (place_at C (path_of fs k) x)
  own_reads k e c q x ix =
      let f = own_frame C I L es F w n t G P k e c q in
      resolved_at C names _ _ _ _ (sym (ap (λ (z : Option Frame). elim z [ None ↦ Absent | Some g ↦ slot_for L fs k g.body x ]) f.1)) refl
      (row_reads n k e c P.row f.0 P.row_is q (not_over P.row.status (own_live C I L es F w n t G P)) f.1 x ix)

  pub own_writes : (k e c : ℕ) → j ≡ Does k e c → (x : Name) → In x (entry C e).writes → Resolved C names (job_slot C L fs (Does k e c) x) (place_at C (path_of fs k) x)
  own_writes k e c q x ix =
      let f = own_frame C I L es F w n t G P k e c q in
      resolved_at C names _ _ _ _ (sym (ap (λ (z : Option Frame). elim z [ None ↦ Absent | Some g ↦ slot_for L fs k g.body x ]) f.1)) refl
      (row_writes n k e c P.row f.0 P.row_is q (not_over P.row.status (own_live C I L es F w n t G P)) f.1 x ix)

  -- how a new instance's block was opened
  pub record OpenedBy (k e c : ℕ) (m : Instance) : Type 0 where
    pub way : Way
    pub key : Key
    pub is_way : In (way, m.body) (ways (entry C e).act)
    pub path_is : PathBy way (entry C e).offset (path_of fs k) key m.path

  pub opened_by : (k e c : ℕ) → j ≡ Does k e c → (m : Instance) → In m (made C I L es F w n t G P) → OpenedBy k e c m
  opened_by k e c q m i = by (body C m.body).entries refl
    where
      b : In (m.body, m.path) (opened C (task C I L es F w n t G P) (computed C I L es F w n t G P)) × (is_some_list (body C m.body).entries ≡ true)
      b = made_block C I L es F w n t G P m i

      task_is : (o C I L es F w n t G P).item.task ≡ Item e (path_of fs k) c
      task_is = own_task C I L es F w n t G P ∙ ap (task_of fs) q

      cn : Can (code_system C) (Item e (path_of fs k) c) (o C I L es F w n t G P).effect
      cn = subst (λ (u : Task). Can (code_system C) u (o C I L es F w n t G P).effect) task_is (can C I L es F w n t G P)

      there : In (block C (m.body, m.path)) (o C I L es F w n t G P).effect.opens
      there = subst (λ (l : List (Opening Task Place)). In (block C (m.body, m.path)) l) (sym (opens_are C I L es F w n t G P)) (in_left (block C (m.body, m.path)) (map (block C) (opened C (task C I L es F w n t G P) (computed C I L es F w n t G P))) (os C I L es F w n t G P) (in_map (block C) (m.body, m.path) (opened C (task C I L es F w n t G P) (computed C I L es F w n t G P)) b.0))

      by : (xs : List ℕ) → (body C m.body).entries ≡ xs → OpenedBy k e c m
      by [] z = yes_no b.1 (ap is_some_list z)
      by (x ∷ xs) z = of (opened_inv C e c (path_of fs k) (o C I L es F w n t G P).effect cn (block C (m.body, m.path)) there)
        where
          first : In (Item x m.path 0) (block C (m.body, m.path)).tasks
          first = in_map (λ y. Item y m.path 0) x (body C m.body).entries (subst (λ (l : List ℕ). In x l) (sym z) (inl refl))

          of : OpensBlock C e (path_of fs k) c (found C cn) (block C (m.body, m.path)) ⊎ IsRest C e (path_of fs k) c (block C (m.body, m.path)) → OpenedBy k e c m
          of (inl u) =
              let g = in_block C u.instance (block C (m.body, m.path)) (Item x m.path 0) u.is first in
              let ex : x ≡ g.0 = cc (g.2) in
              let ep : m.path ≡ u.instance.1 = cc (g.2) in
              let eb : u.instance.0 ≡ m.body = I.entries_once u.instance.0 m.body g.0 g.1 (subst (λ (y : ℕ). In y (body C m.body).entries) ex (subst (λ (l : List ℕ). In x l) (sym z) (inl refl))) in
              record {
                way = u.by.way;
                key = u.by.key;
                is_way = subst (λ (y : ℕ). In (u.by.way, y) (ways (entry C e).act)) eb u.by.is_way;
                path_is = subst (λ (y : List Step). PathBy u.by.way (entry C e).offset (path_of fs k) u.by.key y) (sym ep) u.by.path_is;
              }
          of (inr u) =
              let g : Item x m.path 0 ≡ Item e (path_of fs k) (suc c) = in_rest C e c (path_of fs k) (block C (m.body, m.path)) (Item x m.path 0) u first in
              let h : 0 ≡ suc c = cc (g) in
              absurd (omega arith)

  -- a name of a new instance that is not its own
  pub outer_reads : (m : Instance) → In m (made C I L es F w n t G P) → (b : ℕ) → In b (body C m.body).entries → (r : Name) → In r (entry C b).reads → (is_declared C m.body r ≡ true) ⊎ Resolved C names (slot_for L (hs C I L es F w n t G P) m.key m.body r) (place_at C m.path r)
  outer_reads m i b ib r ir = by j refl
    where
      name_in : In r (names_in C (λ x. x.reads) m.body)
      name_in = flat_in (λ e. (entry C e).reads) (body C m.body).entries b r ib ir

      either_in : In r (names_in C (λ x. x.reads ++ x.writes) m.body)
      either_in = flat_in (λ e. (entry C e).reads ++ (entry C e).writes) (body C m.body).entries b r ib (in_left r (entry C b).reads (entry C b).writes ir)

      declared_or : (Declared C m.body r → ⊥) ⊎ (is_declared C m.body r ≡ true)
      declared_or = of (is_declared C m.body r) refl
        where
          of : (z : Bool) → is_declared C m.body r ≡ z → (Declared C m.body r → ⊥) ⊎ (is_declared C m.body r ≡ true)
          of true h = inr h
          of false h = inl (λ d. yes_no (declared_is C m.body r d) h)

      by : (x : Job) → j ≡ x → (is_declared C m.body r ≡ true) ⊎ Resolved C names (slot_for L (hs C I L es F w n t G P) m.key m.body r) (place_at C m.path r)
      by Script q =
          let z = made_block C I L es F w n t G P m i in
          let e = script_body C fs (m.body, m.path) (computed C I L es F w n t G P) j q z.0 in
          inl (subst (λ (y : ℕ). is_declared C y r ≡ true) (sym e) (declared_is C 0 r (I.script_reads b r (subst (λ (y : ℕ). In b (body C y).entries) e ib) ir)))
      by (Does k e c) q =
          let u = opened_by k e c q m i in
          let g = (I.fits e u.way m.body u.is_way).reads b r ib ir in
          elim declared_or [
            | inr d ↦ inl d
            | inl nd ↦ inr (elim g [
              | inl v ↦ elim v [
                | inl d ↦ absurd (nd d)
                | inr s ↦ resolved_at C names _ _ _ _ (sym ((P.to.leads k e c m q i).seen u.way r s.outside u.is_way either_in nd s.seen (in_left s.outside (entry C e).reads (entry C e).writes s.right))) (sym (seen_place C u.way (entry C e).offset (path_of fs k) u.key m.path r s.outside u.path_is s.seen)) (own_reads k e c q s.outside s.right)
              ]
              | inr f ↦ fixed_name k e c q u.way u.key u.is_way u.path_is f
            ])
          ]
        where
          fixed_name : (k e c : ℕ) → j ≡ Does k e c → (y : Way) (key : Key) → In (y, m.body) (ways (entry C e).act) → PathBy y (entry C e).offset (path_of fs k) key m.path → Fixes C (entry C e).offset y r → Resolved C names (slot_for L (hs C I L es F w n t G P) m.key m.body r) (place_at C m.path r)
          fixed_name k e c q InPlace key iw pb f = absurd f
          fixed_name k e c q Through key iw pb f = absurd f
          fixed_name k e c q Calling key iw pb f =
              let call : call_at C (entry C e).offset ≡ e = (I.fits e Calling m.body iw).opened.1 in
              let at : argument C (entry C e).offset f.0 f.1 ≡ argument_in (arguments (entry C e).act) f.0 f.1 = ap (λ (l : ℕ). argument_in (arguments (entry C l).act) f.0 f.1) call in
              to_literal e f.0 f.2
              (ap (λ (l : Name). slot_for L (hs C I L es F w n t G P) m.key m.body l) f.3 ∙ (P.to.leads k e c m q i).fixed f.0 f.1 f.2 iw (subst (λ (l : Name). In l (names_in C (λ x. x.reads) m.body)) f.3 name_in) f.4)
              ((λ z. place_at C (pb z) (f.3 z)) ∙ ap (argued C (path_of fs k)) f.4)
              (fixed_told (arguments (entry C e).act) f.0 f.1 f.2 (sym at ∙ f.4))

  pub outer_writes : (m : Instance) → In m (made C I L es F w n t G P) → (b : ℕ) → In b (body C m.body).entries → (r : Name) → In r (entry C b).writes → (is_declared C m.body r ≡ true) ⊎ Resolved C names (slot_for L (hs C I L es F w n t G P) m.key m.body r) (place_at C m.path r)
  outer_writes m i b ib r ir = by j refl
    where
      either_in : In r (names_in C (λ x. x.reads ++ x.writes) m.body)
      either_in = flat_in (λ e. (entry C e).reads ++ (entry C e).writes) (body C m.body).entries b r ib (in_right r (entry C b).reads (entry C b).writes ir)

      declared_or : (Declared C m.body r → ⊥) ⊎ (is_declared C m.body r ≡ true)
      declared_or = of (is_declared C m.body r) refl
        where
          of : (z : Bool) → is_declared C m.body r ≡ z → (Declared C m.body r → ⊥) ⊎ (is_declared C m.body r ≡ true)
          of true h = inr h
          of false h = inl (λ d. yes_no (declared_is C m.body r d) h)

      by : (x : Job) → j ≡ x → (is_declared C m.body r ≡ true) ⊎ Resolved C names (slot_for L (hs C I L es F w n t G P) m.key m.body r) (place_at C m.path r)
      by Script q =
          let z = made_block C I L es F w n t G P m i in
          let e = script_body C fs (m.body, m.path) (computed C I L es F w n t G P) j q z.0 in
          inl (subst (λ (y : ℕ). is_declared C y r ≡ true) (sym e) (declared_is C 0 r (I.script_writes b r (subst (λ (y : ℕ). In b (body C y).entries) e ib) ir)))
      by (Does k e c) q =
          let u = opened_by k e c q m i in
          let g = (I.fits e u.way m.body u.is_way).writes b r ib ir in
          elim declared_or [
            | inr d ↦ inl d
            | inl nd ↦ inr (elim g [
              | inl d ↦ absurd (nd d)
              | inr s ↦ resolved_at C names _ _ _ _ (sym ((P.to.leads k e c m q i).seen u.way r s.outside u.is_way either_in nd s.seen (in_right s.outside (entry C e).reads (entry C e).writes s.right))) (sym (seen_place C u.way (entry C e).offset (path_of fs k) u.key m.path r s.outside u.path_is s.seen)) (own_writes k e c q s.outside s.right)
            ])
          ]
