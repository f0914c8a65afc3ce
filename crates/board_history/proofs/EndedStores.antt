-- What an item stores, and where.
use Rattle.std.proofs.Common.{◌≡◌, ◌⊎◌, inl, inr, ℕ, Bool, true, false, ◌&&◌, List, [], ◌∷◌, map, refl, sym, ap, ◌∙◌, subst, Option, None, Some}
use Rattle.std.specs.List.{flat_map}
use Rattle.std.specs.Prelude.{Result, Ok, Err}
use Rattle.std.proofs.lemmas.Bool.{and_parts}
use Rattle.dataflow.specs.System.{Answer, Content, Found, In, Missing, Write}
use Rattle.dataflow.proofs.Lists.{in_map}
use Rattle.board_history.specs.Ending.{stored_values}
use Rattle.board_history.proofs.EndedNames.{flat_in}
use Rattle.board_history.proofs.Tests.{yes_no}
use Rattle.task_code.proofs.Rights.{in_gather}
use Rattle.task_code.specs.Code.{Act, Assert, Call, Cell, Code, Copy, Each, Fill, If, Loop, Name, Need, Print, InsertElement, Range, Read, Set, Wait, here, is_array_name, loop_of, scalar, stored_of}
use Rattle.task_code.specs.Compute.{Computed, Elements, Fails, Gives, Inserts, Opens, Takes, Turns, answer_at, compute, content, eval, evals, filled, given, key_scalar, insert_element, read}
use Rattle.task_code.specs.Effects.{bound, chunk, inserted_at, only, step_at, stored_at, stores, turn_bound, turns_of}
use Rattle.task_code.specs.Places.{Datum, Place, Step, place_at}
use Rattle.task_code.specs.Shape.{has_shape}
use Rattle.values.specs.Operators.{evaluated, literal}
use Rattle.values.specs.declared.fault.OpFault.{OpFault}
use Rattle.values.specs.declared.key.Key.{Key}
use Rattle.values.specs.declared.value.Scalar.{Scalar}
use Rattle.values.specs.declared.value.Value.{Value}

abbrev is_inserts : Computed → Bool
is_inserts (Inserts xs) = true
is_inserts _ = false

abbrev is_gives : Computed → Bool
is_gives (Gives v) = true
is_gives _ = false

-- a scalar that is stored
stored_told : (d : Place) (y : Computed) (w : Write Place Key Scalar) → is_inserts y ≡ false → In w (stored_at d y) → (w.place ≡ d) × In (w.key, w.value) (stored_values y)
stored_told d (Fails f) w n h = absurd h
stored_told d (Gives v) w n h = elim h [ inl p ↦ (ap (λ (z : Write Place Key Scalar). z.place) p, inl (ap (λ (z : Write Place Key Scalar). (z.key, z.value)) p)) | inr g ↦ absurd g ]
stored_told d (Inserts xs) w n h = absurd h
stored_told d (Takes b) w n h = absurd h
stored_told d (Turns ts) w n h = absurd h
stored_told d Opens w n h = absurd h

told_stored : (d : Place) (y : Computed) (w : Write Place Key Scalar) → is_inserts y ≡ false → w.place ≡ d → In (w.key, w.value) (stored_values y) → In w (stored_at d y)
told_stored d (Fails f) w n e h = absurd h
told_stored d (Gives v) w n e h = elim h [ inl p ↦ inl (λ i. record { place = e i; key = (p i).0; value = (p i).1 }) | inr g ↦ absurd g ]
told_stored d (Inserts xs) w n e h = yes_no refl n
told_stored d (Takes b) w n e h = absurd h
told_stored d (Turns ts) w n e h = absurd h
told_stored d Opens w n e h = absurd h

-- elements that are stored
inserted_told : (d : Place) (y : Computed) (w : Write Place Key Scalar) → In w (inserted_at d y) → (w.place ≡ d) × In (w.key, w.value) (stored_values y)
inserted_told d (Fails f) w h = absurd h
inserted_told d (Gives v) w h = absurd h
inserted_told d (Inserts xs) w h = inserted_inv_ w h
  where
    inserted_inv_ : (w : Write Place Key Scalar) → In w (map (λ (x : Key × Scalar). record { place = d; key = x.0; value = x.1 }) xs) → (w.place ≡ d) × In (w.key, w.value) xs
    inserted_inv_ w h = by xs h
      where
        by : (zs : Elements) → In w (map (λ (x : Key × Scalar). record { place = d; key = x.0; value = x.1 }) zs) → (w.place ≡ d) × In (w.key, w.value) zs
        by [] h = absurd h
        by (z ∷ zs) h =
            elim h [
              | inl p ↦ (ap (λ (y : Write Place Key Scalar). y.place) p, inl (ap (λ (y : Write Place Key Scalar). (y.key, y.value)) p))
              | inr g ↦ (let r = by zs g in (r.0, inr r.1))
            ]
inserted_told d (Takes b) w h = absurd h
inserted_told d (Turns ts) w h = absurd h
inserted_told d Opens w h = absurd h

told_inserted : (d : Place) (y : Computed) (w : Write Place Key Scalar) → is_gives y ≡ false → w.place ≡ d → In (w.key, w.value) (stored_values y) → In w (inserted_at d y)
told_inserted d (Fails f) w n e h = absurd h
told_inserted d (Gives v) w n e h = yes_no refl n
told_inserted d (Inserts xs) w n e h =
    let z : ◌≡◌ {A = Write Place Key Scalar} (record { place = d; key = w.key; value = w.value }) w = λ i. record { place = sym e i; key = w.key; value = w.value } in
    subst (λ (y : Write Place Key Scalar). In y (map (λ (x : Key × Scalar). record { place = d; key = x.0; value = x.1 }) xs)) z (in_map (λ (x : Key × Scalar). record { place = d; key = x.0; value = x.1 }) (w.key, w.value) xs h)
told_inserted d (Takes b) w n e h = absurd h
told_inserted d (Turns ts) w n e h = absurd h
told_inserted d Opens w n e h = absurd h

given_scalar : (r : Result Value OpFault) → is_inserts (given r) ≡ false
given_scalar (Ok v) = refl
given_scalar (Err f) = refl

read_scalar : (o : Option (Answer Key Scalar)) → is_inserts (read o) ≡ false
read_scalar None = refl
read_scalar (Some (Found v)) = refl
read_scalar (Some Missing) = refl
read_scalar (Some (Content xs)) = refl

filled_elements : (r : Result Value OpFault) → is_gives (filled r) ≡ false
filled_elements (Ok v) = refl
filled_elements (Err f) = refl

put_elements : (a b : Result Value OpFault) → is_gives (insert_element a b) ≡ false
put_elements (Err f) b = refl
put_elements (Ok i) (Err f) = refl
put_elements (Ok i) (Ok v) = refl

-- what a scalar is stored under
only_key : (y : Computed) (k : Key) (v : Scalar) → is_inserts y ≡ false → In (k, v) (stored_values y) → k ≡ only
only_key (Fails f) k v n h = absurd h
only_key (Gives u) k v n h = elim h [ inl p ↦ ap (λ (z : Key × Scalar). z.0) p | inr g ↦ absurd g ]
only_key (Inserts xs) k v n h = yes_no refl n
only_key (Takes b) k v n h = absurd h
only_key (Turns ts) k v n h = absurd h
only_key Opens k v n h = absurd h

not_scalar : {B : Type 0} (a b c : Bool) → a ≡ false → (a && b) ≡ true → B
not_scalar true b c h g = yes_no refl h
not_scalar false b c h g = yes_no g refl

pub scalar_key : (a : Act) (ns : List Need) (node : ℕ) (xs : List (Answer Key Scalar)) (r : Name) (k : Key) (v : Scalar) → has_shape a ns ≡ true → In r (stored_of node a) → is_array_name r ≡ false → In (k, v) (stored_values (compute a xs)) → k ≡ only
scalar_key (Cell e) ns node xs r k v sh i na h = only_key (given (eval xs e)) k v (given_scalar (eval xs e)) h
scalar_key Read ns node xs r k v sh i na h = only_key (read (answer_at xs 0)) k v (read_scalar (answer_at xs 0)) h
scalar_key (Call b rs os) ns node xs r k v sh i na h = absurd i
scalar_key (Set q e) ns node xs r k v sh i na h = only_key (given (eval xs e)) k v (given_scalar (eval xs e)) h
scalar_key (Fill q es) ns node xs r k v sh i na h =
    elim i [ inl p ↦ yes_no (and_parts (is_array_name q) _ sh).0 (ap is_array_name (sym p) ∙ na) | inr g ↦ absurd g ]
scalar_key (Copy q) ns node xs r k v sh i na h =
    elim i [ inl p ↦ yes_no (and_parts (is_array_name q) _ sh).0 (ap is_array_name (sym p) ∙ na) | inr g ↦ absurd g ]
scalar_key (InsertElement q x e) ns node xs r k v sh i na h =
    elim i [ inl p ↦ yes_no (and_parts (is_array_name q) _ sh).0 (ap is_array_name (sym p) ∙ na) | inr g ↦ absurd g ]
scalar_key (Print e) ns node xs r k v sh i na h = absurd i
scalar_key (Assert e) ns node xs r k v sh i na h = absurd i
scalar_key (If e b d) ns node xs r k v sh i na h = absurd i
scalar_key (Range l hh s w) ns node xs r k v sh i na h = absurd i
scalar_key (Each w) ns node xs r k v sh i na h = absurd i
scalar_key (Wait hs b) ns node xs r k v sh i na h = absurd i

module _ (C : Code) where
  -- a write is of what the item stores into its target, or of a loop's variable
  pub data Stored (a : Act) (node offset : ℕ) (p : List Step) (c : ℕ) (y : Computed) (w : Write Place Key Scalar) : Type 0 where
    into : (r : Name) → In r (stored_of node a) → w.place ≡ place_at C p r → In (w.key, w.value) (stored_values y) → Stored a node offset p c y w
    binds : (l : Loop) (t : Key × Scalar) → loop_of a ≡ Some l → In t (chunk c (turns_of y)) → In w (bound l offset p t) → Stored a node offset p c y w

  into_scalar : (a : Act) (node offset : ℕ) (p : List Step) (c : ℕ) (y : Computed) (w : Write Place Key Scalar) (r : Name) → In r (stored_of node a) → is_inserts y ≡ false → In w (stored_at (place_at C p r) y) → Stored a node offset p c y w
  into_scalar a node offset p c y w r i n h = let z = stored_told (place_at C p r) y w n h in into r i z.0 z.1

  into_array : (a : Act) (node offset : ℕ) (p : List Step) (c : ℕ) (y : Computed) (w : Write Place Key Scalar) (r : Name) → In r (stored_of node a) → In w (inserted_at (place_at C p r) y) → Stored a node offset p c y w
  into_array a node offset p c y w r i h = let z = inserted_told (place_at C p r) y w h in into r i z.0 z.1

  into_turn : (a : Act) (node offset : ℕ) (p : List Step) (c : ℕ) (y : Computed) (w : Write Place Key Scalar) (l : Loop) → loop_of a ≡ Some l → In w (flat_map (bound l offset p) (chunk c (turns_of y))) → Stored a node offset p c y w
  into_turn a node offset p c y w l e h = let z = in_gather C (bound l offset p) (chunk c (turns_of y)) w h in binds l z.0 e z.1 z.2

  pub stores_told : (a : Act) (node offset : ℕ) (p : List Step) (c : ℕ) (xs : List (Answer Key Scalar)) (w : Write Place Key Scalar) → In w (stores C a node offset p c (compute a xs)) → Stored a node offset p c (compute a xs) w
  stores_told (Cell e) node offset p c xs w h = into_scalar (Cell e) node offset p c (given (eval xs e)) w (here (scalar node)) (inl refl) (given_scalar (eval xs e)) h
  stores_told Read node offset p c xs w h = into_scalar Read node offset p c (read (answer_at xs 0)) w (here (scalar node)) (inl refl) (read_scalar (answer_at xs 0)) h
  stores_told (Call b rs os) node offset p c xs w h = absurd h
  stores_told (Set r e) node offset p c xs w h = into_scalar (Set r e) node offset p c (given (eval xs e)) w r (inl refl) (given_scalar (eval xs e)) h
  stores_told (Fill r es) node offset p c xs w h = into_array (Fill r es) node offset p c (filled (evaluated literal (evals xs es))) w r (inl refl) h
  stores_told (Copy r) node offset p c xs w h = into_array (Copy r) node offset p c (Inserts (content (answer_at xs 0))) w r (inl refl) h
  stores_told (InsertElement r i e) node offset p c xs w h = into_array (InsertElement r i e) node offset p c (insert_element (eval xs i) (eval xs e)) w r (inl refl) h
  stores_told (Print e) node offset p c xs w h = absurd h
  stores_told (Assert e) node offset p c xs w h = absurd h
  stores_told (If e b d) node offset p c xs w h = absurd h
  stores_told (Range l hh s v) node offset p c xs w h = into_turn (Range l hh s v) node offset p c (compute (Range l hh s v) xs) w v refl h
  stores_told (Each v) node offset p c xs w h = into_turn (Each v) node offset p c (compute (Each v) xs) w v refl h
  stores_told (Wait hs b) node offset p c xs w h = absurd h

  at_target : (p : List Step) (x r : Name) (w : Write Place Key Scalar) → r ≡ x → w.place ≡ place_at C p r → w.place ≡ place_at C p x
  at_target p x r w e h = h ∙ ap (place_at C p) e

  pub target_stored : (a : Act) (node offset : ℕ) (p : List Step) (c : ℕ) (xs : List (Answer Key Scalar)) (w : Write Place Key Scalar) (r : Name) → In r (stored_of node a) → w.place ≡ place_at C p r → In (w.key, w.value) (stored_values (compute a xs)) → In w (stores C a node offset p c (compute a xs))
  target_stored (Cell e) node offset p c xs w r i h g =
      elim i [ inl q ↦ told_stored (place_at C p (here (scalar node))) (given (eval xs e)) w (given_scalar (eval xs e)) (at_target p (here (scalar node)) r w q h) g | inr z ↦ absurd z ]
  target_stored Read node offset p c xs w r i h g =
      elim i [ inl q ↦ told_stored (place_at C p (here (scalar node))) (read (answer_at xs 0)) w (read_scalar (answer_at xs 0)) (at_target p (here (scalar node)) r w q h) g | inr z ↦ absurd z ]
  target_stored (Call b rs os) node offset p c xs w r i h g = absurd i
  target_stored (Set t e) node offset p c xs w r i h g =
      elim i [ inl q ↦ told_stored (place_at C p t) (given (eval xs e)) w (given_scalar (eval xs e)) (at_target p t r w q h) g | inr z ↦ absurd z ]
  target_stored (Fill t es) node offset p c xs w r i h g =
      elim i [ inl q ↦ told_inserted (place_at C p t) (filled (evaluated literal (evals xs es))) w (filled_elements (evaluated literal (evals xs es))) (at_target p t r w q h) g | inr z ↦ absurd z ]
  target_stored (Copy t) node offset p c xs w r i h g =
      elim i [ inl q ↦ told_inserted (place_at C p t) (Inserts (content (answer_at xs 0))) w refl (at_target p t r w q h) g | inr z ↦ absurd z ]
  target_stored (InsertElement t x e) node offset p c xs w r i h g =
      elim i [ inl q ↦ told_inserted (place_at C p t) (insert_element (eval xs x) (eval xs e)) w (put_elements (eval xs x) (eval xs e)) (at_target p t r w q h) g | inr z ↦ absurd z ]
  target_stored (Print e) node offset p c xs w r i h g = absurd i
  target_stored (Assert e) node offset p c xs w r i h g = absurd i
  target_stored (If e b d) node offset p c xs w r i h g = absurd i
  target_stored (Range l hh s v) node offset p c xs w r i h g = absurd i
  target_stored (Each v) node offset p c xs w r i h g = absurd i
  target_stored (Wait hs b) node offset p c xs w r i h g = absurd i

  pub turn_stored : (a : Act) (node offset : ℕ) (p : List Step) (c : ℕ) (y : Computed) (w : Write Place Key Scalar) (l : Loop) (t : Key × Scalar) → loop_of a ≡ Some l → In t (chunk c (turns_of y)) → In w (bound l offset p t) → In w (stores C a node offset p c y)
  turn_stored (Cell e) node offset p c y w l t q i h = absurd (cc)
  turn_stored Read node offset p c y w l t q i h = absurd (cc)
  turn_stored (Call b rs os) node offset p c y w l t q i h = absurd (cc)
  turn_stored (Set r e) node offset p c y w l t q i h = absurd (cc)
  turn_stored (Fill r es) node offset p c y w l t q i h = absurd (cc)
  turn_stored (Copy r) node offset p c y w l t q i h = absurd (cc)
  turn_stored (InsertElement r x e) node offset p c y w l t q i h = absurd (cc)
  turn_stored (Print e) node offset p c y w l t q i h = absurd (cc)
  turn_stored (Assert e) node offset p c y w l t q i h = absurd (cc)
  turn_stored (If e b d) node offset p c y w l t q i h = absurd (cc)
  turn_stored (Range lo hh s v) node offset p c y w l t q i h =
      let e : v ≡ l = cc in flat_in (bound v offset p) (chunk c (turns_of y)) t w i (subst (λ (z : Loop). In w (bound z offset p t)) (sym e) h)
  turn_stored (Each v) node offset p c y w l t q i h =
      let e : v ≡ l = cc in flat_in (bound v offset p) (chunk c (turns_of y)) t w i (subst (λ (z : Loop). In w (bound z offset p t)) (sym e) h)
  turn_stored (Wait hs b) node offset p c y w l t q i h = absurd (cc)

-- a turn's variables
pub record BoundIs (l : Loop) (offset : ℕ) (p : List Step) (t : Key × Scalar) (w : Write Place Key Scalar) : Type 0 where
  pub key : w.key ≡ only
  pub is : ((w.place ≡ Datum (step_at offset t.0 p) (scalar l.value)) × (w.value ≡ t.1)) ⊎ ((n : ℕ) × (l.turn ≡ Some n) × (w.place ≡ Datum (step_at offset t.0 p) (scalar n)) × (w.value ≡ key_scalar t.0))

pub bound_is : (l : Loop) (offset : ℕ) (p : List Step) (t : Key × Scalar) (w : Write Place Key Scalar) → In w (bound l offset p t) → BoundIs l offset p t w
bound_is l offset p t w (inl e) = record { key = ap (λ (y : Write Place Key Scalar). y.key) e; is = inl (ap (λ (y : Write Place Key Scalar). y.place) e, ap (λ (y : Write Place Key Scalar). y.value) e) }
bound_is l offset p t w (inr h) = by l.turn refl h
  where
    by : (o : Option ℕ) → l.turn ≡ o → In w (turn_bound o (step_at offset t.0 p) t.0) → BoundIs l offset p t w
    by None e h = absurd h
    by (Some n) e h =
        elim h [
          | inl q ↦ record { key = ap (λ (y : Write Place Key Scalar). y.key) q; is = inr (n, e, ap (λ (y : Write Place Key Scalar). y.place) q, ap (λ (y : Write Place Key Scalar). y.value) q) }
          | inr z ↦ absurd z
        ]

pub value_in_bound : (l : Loop) (offset : ℕ) (p : List Step) (t : Key × Scalar) → In (record { place = Datum (step_at offset t.0 p) (scalar l.value); key = only; value = t.1 }) (bound l offset p t)
value_in_bound l offset p t = inl refl

pub turn_in_bound : (l : Loop) (offset : ℕ) (p : List Step) (t : Key × Scalar) (n : ℕ) → l.turn ≡ Some n → In (record { place = Datum (step_at offset t.0 p) (scalar n); key = only; value = key_scalar t.0 }) (bound l offset p t)
turn_in_bound l offset p t n e = inr (subst (λ (o : Option ℕ). In (record { place = Datum (step_at offset t.0 p) (scalar n); key = only; value = key_scalar t.0 }) (turn_bound o (step_at offset t.0 p) t.0)) (sym e) (inl refl))
