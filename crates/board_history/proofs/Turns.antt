-- What the end of an item of code adds to the counts.
use Rattle.std.proofs.Common.{◌≡◌, inl, inr, ℕ, zero, suc, ◌+◌, ◌*◌, Bool, true, false, List, [], ◌∷◌, ◌++◌, map, length, refl, sym, ap, ◌∙◌, Option, None, Some, if◌then◌else◌, arith}
use Rattle.std.proofs.lemmas.Bool.{false_from_ne_true}
use Rattle.dataflow.specs.System.{In, Opening, tasks_of}
use Rattle.board_history.specs.Counts.{holds, times}
use Rattle.board_history.specs.Elements.{code_tests}
use Rattle.board_history.specs.Static.{Hold, blocks_hold, held_by, outer_holds, OpensHolds, TurnsHold}
use Rattle.board_history.proofs.Counts.{holds_append}
use Rattle.board_history.proofs.Static.{adds_holds}
use Rattle.task_code.proofs.Equal.{place_sound}
use Rattle.task_code.proofs.Places.{spot_path}
use Rattle.task_code.specs.Code.{Code, Local, Loop, Owned, Parameter, Variable, entry, loop_of}
use Rattle.task_code.specs.Compute.{Computed, Elements}
use Rattle.task_code.specs.Effects.{Item, Task, block, instances, is_some_list, left_at, rest, rest_if, step_at, turn_instances, turns_of}
use Rattle.task_code.specs.Places.{Datum, Place, Step, place_eq, resolve}
use Rattle.task_code.specs.System.{code_system, task_reads, task_writes}
use Rattle.values.specs.declared.key.Key.{Key}
use Rattle.values.specs.declared.value.Scalar.{Scalar}

module _ (C : Code) where
  pub tasks_append : (os ps : List (Opening Task Place)) → tasks_of (os ++ ps) ≡ tasks_of os ++ tasks_of ps
  tasks_append [] ps = refl
  tasks_append (o ∷ os) ps = ap (λ (ts : List Task). o.tasks ++ ts) (tasks_append os ps) ∙ sym (assoc o.tasks (tasks_of os) (tasks_of ps))
    where
      assoc : (xs ys zs : List Task) → (xs ++ ys) ++ zs ≡ xs ++ (ys ++ zs)
      assoc [] ys zs = refl
      assoc (x ∷ xs) ys zs = ap (λ (l : List Task). x ∷ l) (assoc xs ys zs)

  blocks_held : (rights : Task → List Place) (a : Place) (ss : List (ℕ × List Step)) → holds (code_system C) code_tests rights a (tasks_of (map (block C) ss)) ≡ blocks_hold C rights a ss
  blocks_held rights a [] = refl
  blocks_held rights a (s ∷ ss) =
      let r = blocks_held rights a ss in
      holds_append (code_system C) code_tests rights a (block C s).tasks (tasks_of (map (block C) ss)) ∙ ap (λ (n : ℕ). holds (code_system C) code_tests rights a (block C s).tasks + n) r

  if_rest : (rights : Task → List Place) (a : Place) (b : Bool) (i c : ℕ) (p : List Step) → rights (Item i p (suc c)) ≡ rights (Item i p c) → holds (code_system C) code_tests rights a (tasks_of (rest_if b i p c)) ≡ length (rest_if b i p c) * times (code_system C) code_tests a (rights (Item i p c))
  if_rest rights a true i c p same =
      let e : times (code_system C) code_tests a (rights (Item i p (suc c))) ≡ times (code_system C) code_tests a (rights (Item i p c)) = ap (λ (ds : List Place). times (code_system C) code_tests a ds) same in
      omega arith
  if_rest rights a false i c p same = omega arith

  pub rest_held : (rights : Task → List Place) (a : Place) (l : Option Loop) (i c : ℕ) (p : List Step) (x : Computed) → rights (Item i p (suc c)) ≡ rights (Item i p c) → holds (code_system C) code_tests rights a (tasks_of (rest l i p c x)) ≡ length (rest l i p c x) * times (code_system C) code_tests a (rights (Item i p c))
  rest_held rights a None i c p x same = omega arith
  rest_held rights a (Some w) i c p x same = if_rest rights a (is_some_list (left_at (suc c) (turns_of x))) i c p same

  pub all_held : (rights : Task → List Place) (a : Place) (ss : List (ℕ × List Step)) (os : List (Opening Task Place)) (n : ℕ) → holds (code_system C) code_tests rights a (tasks_of os) ≡ n → holds (code_system C) code_tests rights a (tasks_of (map (block C) ss ++ os)) ≡ blocks_hold C rights a ss + n
  all_held rights a ss os n h =
      let e : holds (code_system C) code_tests rights a (tasks_of (map (block C) ss ++ os)) ≡ holds (code_system C) code_tests rights a (tasks_of (map (block C) ss) ++ tasks_of os) = ap (λ (ts : List Task). holds (code_system C) code_tests rights a ts) (tasks_append (map (block C) ss) os) in
      let f = holds_append (code_system C) code_tests rights a (tasks_of (map (block C) ss)) (tasks_of os) in
      let g = blocks_held rights a ss in
      omega arith

  -- what the end of an item opens
  pub opens_holds : (i c : ℕ) (p : List Step) (x : Computed) → OpensHolds C i c p x
  opens_holds i c p x = record {
    reads = λ a. all_held (task_reads C) a (instances (entry C i).act (entry C i).offset p c x) (rest (loop_of (entry C i).act) i p c x) _ (rest_held (task_reads C) a (loop_of (entry C i).act) i c p x refl);
    writes = λ a. all_held (task_writes C) a (instances (entry C i).act (entry C i).offset p c x) (rest (loop_of (entry C i).act) i p c x) _ (rest_held (task_writes C) a (loop_of (entry C i).act) i c p x refl);
  }

  -- an outer name means the same in each turn
  same_test : (offset : ℕ) (p q : List Step) (v : Variable) (k l : Key) → (q ≡ step_at offset k p → ⊥) → (q ≡ step_at offset l p → ⊥) → (up : ℕ) (x : Owned) → place_eq (Datum q v) (resolve C (step_at offset k p) up x) ≡ place_eq (Datum q v) (resolve C (step_at offset l p) up x)
  same_test offset p q v k l nk nl zero (Local w) =
      false_from_ne_true (place_eq (Datum q v) (Datum (step_at offset k p) w)) (λ h. nk (spot_path (place_sound (Datum q v) (Datum (step_at offset k p) w) h)))
      ∙ sym (false_from_ne_true (place_eq (Datum q v) (Datum (step_at offset l p) w)) (λ h. nl (spot_path (place_sound (Datum q v) (Datum (step_at offset l p) w) h))))
  same_test offset p q v k l nk nl zero (Parameter n b) = refl
  same_test offset p q v k l nk nl (suc up) x = refl

  same_held : (offset : ℕ) (p q : List Step) (v : Variable) (k l : Key) → (q ≡ step_at offset k p → ⊥) → (q ≡ step_at offset l p → ⊥) → (hs : List Hold) → held_by C (step_at offset k p) (Datum q v) hs ≡ held_by C (step_at offset l p) (Datum q v) hs
  same_held offset p q v k l nk nl [] = refl
  same_held offset p q v k l nk nl (h ∷ hs) =
      let t = same_test offset p q v k l nk nl h.name.up h.name.owned in
      let r = same_held offset p q v k l nk nl hs in
      λ j. (if t j then h.count else 0) + r j

  module _ (w : Loop) (offset : ℕ) (p q : List Step) (v : Variable) (k : Key) (nk : q ≡ step_at offset k p → ⊥) where
    turns_read : (ts : Elements) → ((t : Key × Scalar) → In t ts → q ≡ step_at offset t.0 p → ⊥) → blocks_hold C (task_reads C) (Datum q v) (turn_instances w offset p ts) ≡ length ts * held_by C (step_at offset k p) (Datum q v) (outer_holds C (λ e. e.reads) w.body)
    turns_read [] n = omega arith
    turns_read (t ∷ ts) n =
        let r = turns_read ts (λ u i. n u (inr i)) in
        let here = (adds_holds C w.body (step_at offset t.0 p)).outer_reads q v (λ i e. n t (inl refl) e) ∙ same_held offset p q v t.0 k (n t (inl refl)) nk (outer_holds C (λ e. e.reads) w.body) in
        step (length ts) (held_by C (step_at offset k p) (Datum q v) (outer_holds C (λ e. e.reads) w.body)) _ _ here r
      where
        step : (n m x y : ℕ) → x ≡ m → y ≡ n * m → x + y ≡ suc n * m
        step n m x y e f = grind arith

    turns_written : (ts : Elements) → ((t : Key × Scalar) → In t ts → q ≡ step_at offset t.0 p → ⊥) → blocks_hold C (task_writes C) (Datum q v) (turn_instances w offset p ts) ≡ length ts * held_by C (step_at offset k p) (Datum q v) (outer_holds C (λ e. e.writes) w.body)
    turns_written [] n = omega arith
    turns_written (t ∷ ts) n =
        let r = turns_written ts (λ u i. n u (inr i)) in
        let here = (adds_holds C w.body (step_at offset t.0 p)).outer_writes q v (λ i e. n t (inl refl) e) ∙ same_held offset p q v t.0 k (n t (inl refl)) nk (outer_holds C (λ e. e.writes) w.body) in
        step (length ts) (held_by C (step_at offset k p) (Datum q v) (outer_holds C (λ e. e.writes) w.body)) _ _ here r
      where
        step : (n m x y : ℕ) → x ≡ m → y ≡ n * m → x + y ≡ suc n * m
        step n m x y e f = grind arith

    pub turns_hold : (ts : Elements) → ((t : Key × Scalar) → In t ts → q ≡ step_at offset t.0 p → ⊥) → TurnsHold C w offset p ts q v k
    turns_hold ts n = record { reads = turns_read ts n; writes = turns_written ts n }
