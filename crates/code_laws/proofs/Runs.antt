-- Codes that are alike have the same runs, the same quiet states and the same blocked statements.
use Rattle.std.proofs.Common.{◌≡◌, inl, inr, ℕ, zero, suc, Bool, List, [], ◌∷◌, ◌++◌, map, refl, sym, ap, ap₂, ◌∙◌, subst, Option, None, Some}
use Rattle.std.specs.List.{flat_map}
use Rattle.dataflow.specs.System.{In, Answer, Found, Missing, Content, Input, StoredScalar, ClosedArray, ElementOf, ElementAt, Effect, Opening, Outcome, Good, Bad}
use Rattle.dataflow.specs.Machine.{Event, Begin, End, Back, IsElementKnown, IsKnown, ClosedByRights, Free, LacksKey, HasContent, SeesElement, Sees, SeesAll, Leaves, After, Begins, Backs, Ends, Step, Steps, Quiet}
use Rattle.dataflow.proofs.Lists.{in_map, in_unmap}
use Rattle.values.specs.declared.key.Key.{Key}
use Rattle.values.specs.declared.value.Scalar.{Scalar}
use Rattle.task_code.specs.Code as code
use Rattle.task_code.specs.Code.{Act, Body, Code, Entry, Header, Local, Name, Need, Owned, Parameter, Named, Fixed, Argument, argument, body, entry, here, loop_of, scalar}
use Rattle.task_code.specs.Compute.{Computed, EntryFault, compute, key_of}
use Rattle.task_code.specs.Effects.{Item, Main, Task, block, effect_at, instances, inserted_at, is_too_deep, outcome_of, prints, rest, stored_at, stores}
use Rattle.task_code.specs.Machine.{CodeItem, CodeState}
use Rattle.task_code.specs.Places.{Constant, Datum, Nowhere, Place, place_at, resolve}
use Rattle.task_code.specs.Places as Places
use Rattle.task_code.specs.System.{answered, code_system, data_among, inputs_at, literal_at, literal_need, task_effect, task_inputs, task_reads, task_writes, with_answer}
use Rattle.code_laws.specs.Alike.{AreAlike, DoSame, OpensAtMark, StoresAtNode}
use Rattle.code_laws.proofs.Codes.{argument_same, body_same, same_at}

-- PLACES

module _ (C D : Code) (same : (at k : ℕ) (b : Bool) → argument C at k b ≡ argument D at k b) where
  resolve_same : (p : List Places.Step) (up : ℕ) (x : Owned) → resolve C p up x ≡ resolve D p up x
  resolve_same [] zero (Local v) = refl
  resolve_same [] zero (Parameter k b) = refl
  resolve_same [] (suc up) x = refl
  resolve_same (s ∷ p) zero (Local v) = refl
  resolve_same (s ∷ p) (suc up) x = resolve_same p up x
  resolve_same (s ∷ p) zero (Parameter k b) =
      ap (λ (o : Option Argument). elim o [ None ↦ Nowhere | Some a ↦ elim a [ Named r ↦ resolve C p r.up r.owned | Fixed v ↦ Constant v ] ]) (same s.offset k b) ∙ by (argument D s.offset k b) (λ r. resolve_same p r.up r.owned)
    where
      by : (o : Option Argument) → ((r : Name) → resolve C p r.up r.owned ≡ resolve D p r.up r.owned)
          → ◌≡◌ {A = Place} (elim o [ None ↦ Nowhere | Some a ↦ elim a [ Named r ↦ resolve C p r.up r.owned | Fixed v ↦ Constant v ] ]) (elim o [ None ↦ Nowhere | Some a ↦ elim a [ Named r ↦ resolve D p r.up r.owned | Fixed v ↦ Constant v ] ])
      by None h = refl
      by (Some (Named r)) h = h r
      by (Some (Fixed v)) h = refl

  place_same : (p : List Places.Step) (r : Name) → place_at C p r ≡ place_at D p r
  place_same p r = resolve_same p r.up r.owned

  pub input_same : (p : List Places.Step) (n : Need) → inputs_at C p n ≡ inputs_at D p n
  input_same p (code.Stored r) = ap (λ (z : Place). Rattle.task_code.specs.System.scalar_input z) (place_same p r)
  input_same p (code.Closed r) = ap (λ (z : Place). Rattle.task_code.specs.System.whole_input z) (place_same p r)
  input_same p (code.At a r) = ap₂ (λ (y z : Place). Rattle.task_code.specs.System.element_input y z) (place_same p a) (place_same p r)
  input_same p (code.AtKey a k) = ap (λ (z : Place). Rattle.task_code.specs.System.key_input z k) (place_same p a)

  all_inputs : (p : List Places.Step) (ns : List Need) → flat_map (inputs_at C p) ns ≡ flat_map (inputs_at D p) ns
  all_inputs p [] = refl
  all_inputs p (n ∷ ns) = ap₂ (λ (xs ys : List (Input Place Key)). xs ++ ys) (input_same p n) (all_inputs p ns)

  literal_same : (p : List Places.Step) (n : Need) → literal_need C p n ≡ literal_need D p n
  literal_same p (code.Stored r) = ap literal_at (place_same p r)
  literal_same p (code.Closed r) = refl
  literal_same p (code.At a r) = refl
  literal_same p (code.AtKey a k) = refl

  answers_same : (p : List Places.Step) (ns : List Need) (xs : List (Answer Key Scalar)) → answered C p ns xs ≡ answered D p ns xs
  answers_same p [] xs = refl
  answers_same p (n ∷ ns) xs =
      ap (λ (o : Option Scalar). with_answer o xs (λ ys. answered C p ns ys)) (literal_same p n) ∙ by (literal_need D p n) xs (λ ys. answers_same p ns ys)
    where
      by : (o : Option Scalar) (xs : List (Answer Key Scalar)) → ((ys : List (Answer Key Scalar)) → answered C p ns ys ≡ answered D p ns ys) → with_answer o xs (λ ys. answered C p ns ys) ≡ with_answer o xs (λ ys. answered D p ns ys)
      by (Some v) xs h = ap (λ zs. Found v ∷ zs) (h xs)
      by None [] h = refl
      by None (x ∷ xs) h = ap (λ zs. x ∷ zs) (h xs)

  -- what is stored, where node and offset count
  stores_same : (a : Act) (m n i j : ℕ) (p : List Places.Step) (c : ℕ) (x : Computed) → (StoresAtNode a → m ≡ n) → (OpensAtMark a → i ≡ j) → stores C a m i p c x ≡ stores D a n j p c x
  stores_same (code.Cell e) m n i j p c x h g = ap (λ (z : ℕ). stored_at (place_at C p (here (scalar z))) x) (h tt) ∙ ap (λ (z : Place). stored_at z x) (place_same p (here (scalar n)))
  stores_same code.Read m n i j p c x h g = ap (λ (z : ℕ). stored_at (place_at C p (here (scalar z))) x) (h tt) ∙ ap (λ (z : Place). stored_at z x) (place_same p (here (scalar n)))
  stores_same (code.Call b rs os) m n i j p c x h g = refl
  stores_same (code.Set r e) m n i j p c x h g = ap (λ (z : Place). stored_at z x) (place_same p r)
  stores_same (code.Fill r es) m n i j p c x h g = ap (λ (z : Place). inserted_at z x) (place_same p r)
  stores_same (code.Copy r) m n i j p c x h g = ap (λ (z : Place). inserted_at z x) (place_same p r)
  stores_same (code.InsertElement r k e) m n i j p c x h g = ap (λ (z : Place). inserted_at z x) (place_same p r)
  stores_same (code.Print e) m n i j p c x h g = refl
  stores_same (code.Assert e) m n i j p c x h g = refl
  stores_same (code.If e b d) m n i j p c x h g = refl
  stores_same (code.Range a b s w) m n i j p c x h g = ap (λ (z : ℕ). stores D (code.Range a b s w) n z p c x) (g tt)
  stores_same (code.Each w) m n i j p c x h g = ap (λ (z : ℕ). stores D (code.Each w) n z p c x) (g tt)
  stores_same (code.Wait hs b) m n i j p c x h g = refl

  instances_same : (a : Act) (i j : ℕ) (p : List Places.Step) (c : ℕ) (x : Computed) → (OpensAtMark a → i ≡ j) → instances a i p c x ≡ instances a j p c x
  instances_same (code.Cell e) i j p c x g = refl
  instances_same code.Read i j p c x g = refl
  instances_same (code.Call b rs os) i j p c x g = ap (λ (z : ℕ). instances (code.Call b rs os) z p c x) (g tt)
  instances_same (code.Set r e) i j p c x g = refl
  instances_same (code.Fill r es) i j p c x g = refl
  instances_same (code.Copy r) i j p c x g = refl
  instances_same (code.InsertElement r k e) i j p c x g = refl
  instances_same (code.Print e) i j p c x g = refl
  instances_same (code.Assert e) i j p c x g = refl
  instances_same (code.If e b d) i j p c x g = ap (λ (z : ℕ). instances (code.If e b d) z p c x) (g tt)
  instances_same (code.Range a b s w) i j p c x g = ap (λ (z : ℕ). instances (code.Range a b s w) z p c x) (g tt)
  instances_same (code.Each w) i j p c x g = ap (λ (z : ℕ). instances (code.Each w) z p c x) (g tt)
  instances_same (code.Wait hs b) i j p c x g = refl

  -- places that are no literals
  in_data : (a : Place) (ds : List Place) → In a (data_among ds) → In a ds
  in_data a [] h = h
  in_data a (Datum p v ∷ ds) h = elim h [ inl e ↦ inl e | inr i ↦ inr (in_data a ds i) ]
  in_data a (Constant v ∷ ds) h = inr (in_data a ds h)
  in_data a (Nowhere ∷ ds) h = elim h [ inl e ↦ inl e | inr i ↦ inr (in_data a ds i) ]

  -- no literal stands among them
  no_literal : (v : Scalar) (ds : List Place) → In (Constant v) (data_among ds) → ⊥
  no_literal v [] h = h
  no_literal v (Datum p w ∷ ds) h = elim h [ inl e ↦ absurd (cc (e)) | inr i ↦ no_literal v ds i ]
  no_literal v (Constant w ∷ ds) h = no_literal v ds h
  no_literal v (Nowhere ∷ ds) h = elim h [ inl e ↦ absurd (cc (e)) | inr i ↦ no_literal v ds i ]

  data_in : (a : Place) (ds : List Place) → In a ds → ((v : Scalar) → a ≡ Constant v → ⊥) → In a (data_among ds)
  data_in a [] h n = h
  data_in a (Datum p v ∷ ds) h n = elim h [ inl e ↦ inl e | inr i ↦ inr (data_in a ds i n) ]
  data_in a (Constant v ∷ ds) h n = elim h [ inl e ↦ absurd (n v e) | inr i ↦ data_in a ds i n ]
  data_in a (Nowhere ∷ ds) h n = elim h [ inl e ↦ inl e | inr i ↦ inr (data_in a ds i n) ]

  moved_name : (p : List Places.Step) (a : Place) (rs qs : List Name) → ((r : Name) → In r qs → In r rs) → In a (map (place_at D p) qs) → In a (map (place_at C p) rs)
  moved_name p a rs qs h i =
      let r = in_unmap (place_at D p) a qs i in
      subst (λ (z : Place). In z (map (place_at C p) rs)) (place_same p r.0 ∙ r.2) (in_map (place_at C p) r.0 rs (h r.0 r.1))

-- TASKS

-- tasks of one code that are as those of another
pub record SameTasks (C D : Code) : Type 0 where
  inputs : (t : Task) → task_inputs C t ≡ task_inputs D t
  effect : (t : Task) (xs : List (Answer Key Scalar)) → task_effect C t xs ≡ task_effect D t xs
  reads : (t : Task) (a : Place) → In a (task_reads D t) → In a (task_reads C t)
  writes : (t : Task) (a : Place) → In a (task_writes D t) → In a (task_writes C t)

module _ (C D : Code) (al : AreAlike C D) where
  abbrev arguments : (at k : ℕ) (b : Bool) → argument C at k b ≡ argument D at k b
  arguments = argument_same C D al.bodies al.entries

  abbrev entries : (i : ℕ) → DoSame (entry C i) (entry D i)
  entries = same_at C D al.bodies al.entries

  block_same : (s : ℕ × List Places.Step) → block C s ≡ block D s
  block_same s = ap (λ (b : Body). record { makes = map (Datum s.1) b.makes; tasks = map (λ j. Item j s.1 0) b.entries }) (body_same C D al.bodies al.entries s.0)

  blocks_same : (ss : List (ℕ × List Places.Step)) → map (block C) ss ≡ map (block D) ss
  blocks_same [] = refl
  blocks_same (s ∷ ss) = ap₂ (λ (x : Opening Task Place) (xs : List (Opening Task Place)). x ∷ xs) (block_same s) (blocks_same ss)

  effect_same : (i : ℕ) (p : List Places.Step) (c : ℕ) (x : Computed) → effect_at C i p c x ≡ effect_at D i p c x
  effect_same i p c x =
      let d = entries i in
      let e = entry C i in
      let f = entry D i in
      let stored : stores C e.act e.node e.offset p c x ≡ stores D f.act f.node f.offset p c x = stores_same C D arguments e.act e.node f.node e.offset f.offset p c x d.node d.offset ∙ ap (λ (a : Act). stores D a f.node f.offset p c x) d.act in
      let opened : map (block C) (instances e.act e.offset p c x) ++ rest (loop_of e.act) i p c x ≡ map (block D) (instances f.act f.offset p c x) ++ rest (loop_of f.act) i p c x =
      ap₂ (λ (xs ys : List (Opening Task Place)). xs ++ ys) (blocks_same (instances e.act e.offset p c x) ∙ ap (map (block D)) (instances_same C D arguments e.act e.offset f.offset p c x d.offset ∙ ap (λ (a : Act). instances a f.offset p c x) d.act)) (ap (λ (a : Act). rest (loop_of a) i p c x) d.act) in
      λ z. record { writes = stored z; lines = prints (d.act z) x; opens = opened z }

  task_effects : (t : Task) (xs : List (Answer Key Scalar)) → task_effect C t xs ≡ task_effect D t xs
  task_effects Main xs = ap (λ (o : Opening Task Place). Good (record { writes = []; lines = []; opens = o ∷ [] })) (block_same (0, []))
  task_effects (Item i p c) xs =
      let d = entries i in
      let e = entry C i in
      let f = entry D i in
      let x = compute e.act (answered C p e.needs xs) in
      let y = compute f.act (answered D p f.needs xs) in
      let same : x ≡ y = ap₂ (λ (a : Act) (ns : List Need). compute a (answered C p ns xs)) d.act d.needs ∙ ap (compute f.act) (answers_same C D arguments p f.needs xs) in
      let deep : is_too_deep e.act p (instances e.act e.offset p c x) ≡ is_too_deep f.act p (instances f.act f.offset p c x) =
      ap (λ (ss : List (ℕ × List Places.Step)). is_too_deep e.act p ss) (instances_same C D arguments e.act e.offset f.offset p c x d.offset) ∙ ap (λ (a : Act). is_too_deep a p (instances a f.offset p c x)) d.act in
      ap₂ (λ (b : Bool) (z : Effect Task Place Key Scalar). outcome_of x b z) deep (effect_same i p c x) ∙ ap (λ (z : Computed). outcome_of z (is_too_deep f.act p (instances f.act f.offset p c z)) (effect_at D i p c z)) same

  task_inputs_same : (t : Task) → task_inputs C t ≡ task_inputs D t
  task_inputs_same Main = refl
  task_inputs_same (Item i p c) = ap (λ (ns : List Need). flat_map (inputs_at C p) ns) (entries i).needs ∙ all_inputs C D arguments p (entry D i).needs

  reads_back : (t : Task) (a : Place) → In a (task_reads D t) → In a (task_reads C t)
  reads_back Main a h = h
  reads_back (Item i p c) a h =
      data_in C D arguments a (map (place_at C p) (entry C i).reads)
      (moved_name C D arguments p a (entry C i).reads (entry D i).reads (λ r m. ((al.rights i).reads r).1 m) (in_data C D arguments a (map (place_at D p) (entry D i).reads) h))
      (λ v e. no_literal C D arguments v (map (place_at D p) (entry D i).reads) (subst (λ (z : Place). In z (data_among (map (place_at D p) (entry D i).reads))) e h))

  writes_back : (t : Task) (a : Place) → In a (task_writes D t) → In a (task_writes C t)
  writes_back Main a h = h
  writes_back (Item i p c) a h = moved_name C D arguments p a (entry C i).writes (entry D i).writes (λ r m. ((al.rights i).writes r).1 m) h

  pub tasks_same : SameTasks C D
  tasks_same = record { inputs = task_inputs_same; effect = task_effects; reads = reads_back; writes = writes_back }

-- STEPS

module _ (C D : Code) (h : SameTasks C D) where
  closed_moves : {s : CodeState} {a : Place} → ClosedByRights (code_system C) s a → ClosedByRights (code_system D) s a
  closed_moves {a = a} c = record { there = c.there; nobody = λ i m w. c.nobody i m (h.writes i.task a w) }

  free_moves : {s : CodeState} {a : Place} → Free (code_system C) s a → Free (code_system D) s a
  free_moves {a = a} f = record { unread = λ i m r. f.unread i m (h.reads i.task a r); unwritten = λ i m w. f.unwritten i m (h.writes i.task a w) }

  element_moves : (s : CodeState) (a : Place) (k : Key) → IsElementKnown (code_system C) s a k → IsElementKnown (code_system D) s a k
  element_moves s a k (inl x) = inl x
  element_moves s a k (inr c) = inr (closed_moves c)

  pub known_moves : (s : CodeState) (n : Input Place Key) → IsKnown (code_system C) s n → IsKnown (code_system D) s n
  known_moves s (StoredScalar d) x = x
  known_moves s (ClosedArray a) x = closed_moves x
  known_moves s (ElementOf a k) x = element_moves s a k x
  known_moves s (ElementAt a d) x = (x.0, x.1, element_moves s a (key_of x.0) x.2)

  lacks_moves : {s : CodeState} {a : Place} {k : Key} → LacksKey (code_system C) s a k → LacksKey (code_system D) s a k
  lacks_moves x = record { closed = closed_moves x.closed; none = x.none }

  content_moves : {s : CodeState} {a : Place} {xs : List (Key × Scalar)} → HasContent (code_system C) s a xs → HasContent (code_system D) s a xs
  content_moves x = record { closed = closed_moves x.closed; in_order = x.in_order; all = x.all; only = x.only }

  sees_element : (s : CodeState) (a : Place) (k : Key) (x : Answer Key Scalar) → SeesElement (code_system C) s a k x → SeesElement (code_system D) s a k x
  sees_element s a k (Found v) x = x
  sees_element s a k Missing x = lacks_moves x
  sees_element s a k (Content xs) x = x

  sees_moves : (s : CodeState) (n : Input Place Key) (y : Answer Key Scalar) → Sees (code_system C) s n y → Sees (code_system D) s n y
  sees_moves s (StoredScalar d) y x = x
  sees_moves s (ClosedArray a) y x = (x.0, content_moves x.1, x.2)
  sees_moves s (ElementOf a k) y x = sees_element s a k y x
  sees_moves s (ElementAt a d) y x = (x.0, x.1, sees_element s a (key_of x.0) y x.2)

  all_seen : (s : CodeState) (ns : List (Input Place Key)) (xs : List (Answer Key Scalar)) → SeesAll (code_system C) s ns xs → SeesAll (code_system D) s ns xs
  all_seen s [] [] x = x
  all_seen s [] (y ∷ ys) x = x
  all_seen s (n ∷ ns) [] x = x
  all_seen s (n ∷ ns) (y ∷ ys) x = (sees_moves s n y x.0, all_seen s ns ys x.1)

  leaves_moves : {mid new : CodeState} → Leaves (code_system C) mid new → Leaves (code_system D) mid new
  leaves_moves l = record {
    items = l.items;
    next = l.next;
    lines = l.lines;
    fault = l.fault;
    no_new_place = l.no_new_place;
    stays = λ a m. elim (l.stays a m) [ inl i ↦ inl i | inr f ↦ inr (free_moves f) ];
    no_new_value = l.no_new_value;
    value_stays = λ w m. elim (l.value_stays w m) [ inl i ↦ inl i | inr f ↦ inr (free_moves f) ];
  }

  enabled_moves : (s : CodeState) (t : Task) → ((n : Input Place Key) → In n (task_inputs C t) → IsKnown (code_system C) s n) → (n : Input Place Key) → In n (task_inputs D t) → IsKnown (code_system D) s n
  enabled_moves s t e n m = known_moves s n (e n (subst (λ (ns : List (Input Place Key)). In n ns) (sym (h.inputs t)) m))

  after_moves : (old : CodeState) (t : Task) (others : List CodeItem) (r : Outcome Task Place Key Scalar EntryFault) (new : CodeState) → After (code_system C) old t others r new → After (code_system D) old t others r new
  after_moves old t others (Bad f) new x = leaves_moves x
  after_moves old t others (Good e) new (inl x) = inl (x.0, leaves_moves x.1)
  after_moves old t others (Good e) new (inr x) = inr (x.0, leaves_moves x.1)

  step_moves : (old : CodeState) (e : Event) (new : CodeState) → Step (code_system C) old e new → Step (code_system D) old e new
  step_moves old (Begin w n) new x = (x.0, begins x.1)
    where
      begins : Begins (code_system C) old w n new → Begins (code_system D) old w n new
      begins b = record { item = b.item; before = b.before; after = b.after; at = record { items = b.at.items; number_is = b.at.number_is }; idle = b.idle; enabled = enabled_moves old b.item.task b.enabled; result = leaves_moves b.result }
  step_moves old (Back w n) new x = (x.0, backs x.1)
    where
      backs : Backs (code_system C) old w n new → Backs (code_system D) old w n new
      backs b = record { item = b.item; before = b.before; after = b.after; at = record { items = b.at.items; number_is = b.at.number_is }; runs = b.runs; result = leaves_moves b.result }
  step_moves old (End w n) new x = (x.0, ends x.1)
    where
      ends : Ends (code_system C) old w n new → Ends (code_system D) old w n new
      ends b = record {
        item = b.item;
        before = b.before;
        after = b.after;
        at = record { items = b.at.items; number_is = b.at.number_is };
        runs = b.runs;
        answers = b.answers;
        known = subst (λ (ns : List (Input Place Key)). SeesAll (code_system D) old ns b.answers) (h.inputs b.item.task) (all_seen old (task_inputs C b.item.task) b.answers b.known);
        result = subst (λ (r : Outcome Task Place Key Scalar EntryFault). After (code_system D) old b.item.task (b.before ++ b.after) r new) (h.effect b.item.task b.answers)
            (after_moves old b.item.task (b.before ++ b.after) (task_effect C b.item.task b.answers) new b.result);
      }

  steps_move : (es : List Event) (old new : CodeState) → Steps (code_system C) old es new → Steps (code_system D) old es new
  steps_move [] old new x = x
  steps_move (e ∷ es) old new x = (x.0, step_moves old e x.0 x.1, steps_move es x.0 new x.2)

-- RUNS

-- the other way round
turned : (C D : Code) → AreAlike C D → SameTasks D C
turned C D al =
    let x = tasks_same C D al in
    record {
      inputs = λ t. sym (x.inputs t);
      effect = λ t xs. sym (x.effect t xs);
      reads = λ t a m. reads_on t a m;
      writes = λ t a m. writes_on t a m;
    }
  where
    arguments' : (at k : ℕ) (b : Bool) → argument D at k b ≡ argument C at k b
    arguments' at k b = sym (argument_same C D al.bodies al.entries at k b)

    reads_on : (t : Task) (a : Place) → In a (task_reads C t) → In a (task_reads D t)
    reads_on Main a h = h
    reads_on (Item i p c) a h =
        data_in D C arguments' a (map (place_at D p) (entry D i).reads)
        (moved_name D C arguments' p a (entry D i).reads (entry C i).reads (λ r m. ((al.rights i).reads r).0 m) (in_data D C arguments' a (map (place_at C p) (entry C i).reads) h))
        (λ v e. no_literal D C arguments' v (map (place_at C p) (entry C i).reads) (subst (λ (z : Place). In z (data_among (map (place_at C p) (entry C i).reads))) e h))

    writes_on : (t : Task) (a : Place) → In a (task_writes C t) → In a (task_writes D t)
    writes_on Main a h = h
    writes_on (Item i p c) a h = moved_name D C arguments' p a (entry D i).writes (entry C i).writes (λ r m. ((al.rights i).writes r).0 m) h

pub runs_alike : (C D : Code) → AreAlike C D → (es : List Event) (s : CodeState) → Steps (code_system C) (Rattle.dataflow.specs.Machine.start (code_system C)) es s → Steps (code_system D) (Rattle.dataflow.specs.Machine.start (code_system D)) es s
runs_alike C D al es s x = steps_move C D (tasks_same C D al) es (Rattle.dataflow.specs.Machine.start (code_system C)) s x

pub quiet_alike : (C D : Code) → AreAlike C D → (s : CodeState) → Quiet (code_system C) s → Quiet (code_system D) s
quiet_alike C D al s q = record {
  no_fault = q.no_fault;
  idle = q.idle;
  none_enabled = λ i m e. q.none_enabled i m (enabled_moves D C (turned C D al) s i.task e);
}
