-- What is equal is decided, and elements in order are told by their members.
use Rattle.std.proofs.Common.{◌≡◌, ◌⊎◌, inl, inr, ℕ, Bool, true, false, ◌&&◌, List, [], ◌∷◌, map, refl, sym, ap, ◌∙◌, subst, arith}
use Rattle.std.proofs.lemmas.Int.{ints}
use Rattle.std.specs.Prelude.{ℤ, nat_eq, ◌==◌}
use Rattle.dataflow.specs.System.{Distinct, In}
use Rattle.std.specs.List.{list_all}
use Rattle.std.specs.Ordering.{int_eq}
use Rattle.std.proofs.lemmas.Bool.{and_from, and_parts}
use Rattle.task_code.specs.Code.{Local, Name, Owned, Parameter, Variable}
use Rattle.task_code.specs.Compute.{Elements, in_key_order}
use Rattle.task_code.specs.Effects.{Item, Main, Task}
use Rattle.task_code.specs.Places.{Constant, Datum, Nowhere, Place, Step, name_eq, owned_eq, path_eq, place_eq, variable_eq}
use Rattle.values.specs.Keys.{key_below, same_key}
use Rattle.values.specs.Values.{same, same_truth}
use Rattle.values.specs.declared.key.Key.{Key}
use Rattle.values.specs.declared.value.Scalar.{Scalar}
use Rattle.values.specs.declared.value.Scalar.TheVariants.{Number, Text, Truth}
use Rattle.values.specs.declared.value.Value.TheVariants.{One}
use lib.Pointwise.{pointwise}
use Rattle.values.proofs.Keys.{key_below-irreflexive, key_below-trans, same_key-refl, same_key-eq}
use Rattle.dataflow.proofs.Lists.{in_map, in_unmap}

pub nat_sound : (a b : ℕ) → nat_eq a b ≡ true → a ≡ b
nat_sound a b h = grind arith

pub nat_same : (a : ℕ) → nat_eq a a ≡ true
nat_same a = grind arith

pub bool_sound : (a b : Bool) → same_truth a b ≡ true → a ≡ b
bool_sound true true h = refl
bool_sound true false h = sym h
bool_sound false true h = h
bool_sound false false h = refl

pub bool_same : (a : Bool) → same_truth a a ≡ true
bool_same true = refl
bool_same false = refl

key_sound : (a b : Key) → same_key a b ≡ true → a ≡ b
key_sound a b h = same_key-eq a b h

path_sound : (p q : List Step) → path_eq p q ≡ true → p ≡ q
path_sound [] [] h = refl
path_sound [] (t ∷ q) h = absurd (cc)
path_sound (s ∷ p) [] h = absurd (cc)
path_sound (s ∷ p) (t ∷ q) h =
    let x = and_parts (nat_eq s.offset t.offset) (same_key s.key t.key && path_eq p q) h in
    let y = and_parts (same_key s.key t.key) (path_eq p q) x.1 in
    let a = nat_sound s.offset t.offset x.0 in
    let b = key_sound s.key t.key y.0 in
    let c = path_sound p q y.1 in
    λ i. record { offset = a i; key = b i } ∷ c i

path_same : (p : List Step) → path_eq p p ≡ true
path_same [] = refl
path_same (s ∷ p) = and_from (nat_eq s.offset s.offset) _ (nat_same s.offset) (and_from (same_key s.key s.key) _ (same_key-refl s.key) (path_same p))

pub variable_sound : (v w : Variable) → variable_eq v w ≡ true → v ≡ w
variable_sound v w h =
    let x = and_parts (nat_eq v.node w.node) (same_truth v.array w.array) h in
    let a = nat_sound v.node w.node x.0 in
    let b = bool_sound v.array w.array x.1 in
    λ i. record { node = a i; array = b i }

pub variable_same : (v : Variable) → variable_eq v v ≡ true
variable_same v = and_from (nat_eq v.node v.node) _ (nat_same v.node) (bool_same v.array)

int_sound : (a b : ℤ) → int_eq a b ≡ true → a ≡ b
int_sound a b h = grind (arith, ints)

int_same : (a : ℤ) → int_eq a a ≡ true
int_same a = grind (arith, ints)

bytes_sound : (ms ns : List ℕ) → pointwise ◌==◌ ms ns ≡ true → ms ≡ ns
bytes_sound [] [] h = refl
bytes_sound [] (n ∷ ns) h = absurd (cc)
bytes_sound (m ∷ ms) [] h = absurd (cc)
bytes_sound (m ∷ ms) (n ∷ ns) h =
    let x = and_parts (m == n) (pointwise ◌==◌ ms ns) h in
    let a : m ≡ n = grind (arith, x.0) in
    let b = bytes_sound ms ns x.1 in
    λ i. a i ∷ b i

bytes_same : (ns : List ℕ) → pointwise ◌==◌ ns ns ≡ true
bytes_same [] = refl
bytes_same (n ∷ ns) = let a : (n == n) ≡ true = grind arith in and_from (n == n) _ a (bytes_same ns)

scalar_sound : (v w : Scalar) → same (One v) (One w) ≡ true → v ≡ w
scalar_sound (Number x) (Number y) h = ap Number (int_sound x y h)
scalar_sound (Text s) (Text t) h = ap Text (bytes_sound s t h)
scalar_sound (Truth a) (Truth b) h = ap Truth (bool_sound a b h)
scalar_sound (Number x) (Text t) h = absurd (cc)
scalar_sound (Number x) (Truth b) h = absurd (cc)
scalar_sound (Text s) (Number y) h = absurd (cc)
scalar_sound (Text s) (Truth b) h = absurd (cc)
scalar_sound (Truth a) (Number y) h = absurd (cc)
scalar_sound (Truth a) (Text t) h = absurd (cc)

scalar_same : (v : Scalar) → same (One v) (One v) ≡ true
scalar_same (Number x) = int_same x
scalar_same (Text s) = bytes_same s
scalar_same (Truth b) = bool_same b

pub place_sound : (a b : Place) → place_eq a b ≡ true → a ≡ b
place_sound (Datum p v) (Datum q w) h =
    let x = and_parts (path_eq p q) (variable_eq v w) h in
    let a = path_sound p q x.0 in
    let b = variable_sound v w x.1 in
    λ i. Datum (a i) (b i)
place_sound (Datum p v) Nowhere h = absurd (cc)
place_sound Nowhere (Datum q w) h = absurd (cc)
place_sound (Datum p v) (Constant w) h = absurd (cc)
place_sound (Constant v) (Datum q w) h = absurd (cc)
place_sound (Constant v) (Constant w) h = ap Constant (scalar_sound v w h)
place_sound (Constant v) Nowhere h = absurd (cc)
place_sound Nowhere (Constant w) h = absurd (cc)
place_sound Nowhere Nowhere h = refl

pub place_same : (a : Place) → place_eq a a ≡ true
place_same (Datum p v) = and_from (path_eq p p) _ (path_same p) (variable_same v)
place_same (Constant v) = scalar_same v
place_same Nowhere = refl

owned_sound : (x y : Owned) → owned_eq x y ≡ true → x ≡ y
owned_sound (Local v) (Local w) h = ap Local (variable_sound v w h)
owned_sound (Local v) (Parameter l d) h = absurd (cc)
owned_sound (Parameter k b) (Local w) h = absurd (cc)
owned_sound (Parameter k b) (Parameter l d) h =
    let x = and_parts (nat_eq k l) (same_truth b d) h in
    let a = nat_sound k l x.0 in
    let c = bool_sound b d x.1 in
    λ i. Parameter (a i) (c i)

owned_same : (x : Owned) → owned_eq x x ≡ true
owned_same (Local v) = variable_same v
owned_same (Parameter k b) = and_from (nat_eq k k) _ (nat_same k) (bool_same b)

pub name_sound : (r s : Name) → name_eq r s ≡ true → r ≡ s
name_sound r s h =
    let x = and_parts (nat_eq r.up s.up) (owned_eq r.owned s.owned) h in
    let a = nat_sound r.up s.up x.0 in
    let b = owned_sound r.owned s.owned x.1 in
    λ i. record { up = a i; owned = b i }

pub name_same : (r : Name) → name_eq r r ≡ true
name_same r = and_from (nat_eq r.up r.up) _ (nat_same r.up) (owned_same r.owned)

task_eq : Task → Task → Bool
task_eq Main Main = true
task_eq Main (Item j q d) = false
task_eq (Item i p c) Main = false
task_eq (Item i p c) (Item j q d) = nat_eq i j && (path_eq p q && nat_eq c d)

task_sound : (t u : Task) → task_eq t u ≡ true → t ≡ u
unfolding task_eq
task_sound Main Main h = refl
task_sound Main (Item j q d) h = absurd (cc)
task_sound (Item i p c) Main h = absurd (cc)
task_sound (Item i p c) (Item j q d) h =
    let x = and_parts (nat_eq i j) (path_eq p q && nat_eq c d) h in
    let y = and_parts (path_eq p q) (nat_eq c d) x.1 in
    let a = nat_sound i j x.0 in
    let b = path_sound p q y.0 in
    let e = nat_sound c d y.1 in
    λ k. Item (a k) (b k) (e k)

task_same : (t : Task) → task_eq t t ≡ true
unfolding task_eq
task_same Main = refl
task_same (Item i p c) = and_from (nat_eq i i) _ (nat_same i) (and_from (path_eq p p) _ (path_same p) (nat_same c))

-- a sound test decides
decide : {A : Type 0} (f : A → A → Bool) → ((a b : A) → f a b ≡ true → a ≡ b) → ((a : A) → f a a ≡ true) → (a b : A) → (a ≡ b) ⊎ (a ≡ b → ⊥)
decide {A} f sound same a b = by (f a b) refl
  where
    by : (t : Bool) → f a b ≡ t → (a ≡ b) ⊎ (a ≡ b → ⊥)
    by true h = inl (sound a b h)
    by false h = inr (λ e. (let n : true ≡ false = sym (subst (λ (x : A). f a x ≡ true) e (same a)) ∙ h in absurd (cc)))

pub task_is : (t u : Task) → (t ≡ u) ⊎ (t ≡ u → ⊥)
task_is = decide task_eq task_sound task_same

pub place_is : (a b : Place) → (a ≡ b) ⊎ (a ≡ b → ⊥)
place_is = decide place_eq place_sound place_same

pub key_is : (k l : Key) → (k ≡ l) ⊎ (k ≡ l → ⊥)
key_is = decide same_key key_sound same_key-refl

pub every_in : {X : Type 0} (f : X → Bool) (xs : List X) → list_all f xs ≡ true → (x : X) → In x xs → f x ≡ true
every_in f [] h x i = absurd i
every_in {X} f (y ∷ ys) h x i =
    let t = and_parts (f y) (list_all f ys) h in
    elim i [ inl p ↦ subst (λ (z : X). f z ≡ true) (sym p) t.0 | inr j ↦ every_in f ys t.1 x j ]

pub in_every : {X : Type 0} (f : X → Bool) (xs : List X) → ((x : X) → In x xs → f x ≡ true) → list_all f xs ≡ true
in_every f [] h = refl
in_every f (y ∷ ys) h = and_from (f y) (list_all f ys) (h y (inl refl)) (in_every f ys (λ x i. h x (inr i)))

-- rising keys
pub key_again : (a b c : Key) → key_below a b ≡ true → key_below b c ≡ true → key_below a c ≡ true
key_again a b c h k = key_below-trans a b c h k

key_not_below : (a : Key) → key_below a a ≡ true → ⊥
key_not_below a h = (let n : true ≡ false = sym h ∙ key_below-irreflexive a in absurd (cc))

pub rising_tail : (e : Key × Scalar) (es : Elements) → in_key_order (e ∷ es) ≡ true → in_key_order es ≡ true
rising_tail e [] h = refl
rising_tail e (x ∷ es) h = (and_parts (key_below e.0 x.0) (in_key_order (x ∷ es)) h).1

pub head_below : (e : Key × Scalar) (es : Elements) → in_key_order (e ∷ es) ≡ true → (x : Key × Scalar) → In x es → key_below e.0 x.0 ≡ true
head_below e [] h x i = absurd i
head_below e (y ∷ es) h x i =
    let t = and_parts (key_below e.0 y.0) (in_key_order (y ∷ es)) h in
    elim i [
      | inl p ↦ subst (λ (z : Key × Scalar). key_below e.0 z.0 ≡ true) (sym p) t.0
      | inr j ↦ key_again e.0 y.0 x.0 t.0 (head_below y es t.1 x j)
    ]

pub one_order : (xs ys : Elements) → in_key_order xs ≡ true → in_key_order ys ≡ true → ((p : Key × Scalar) → In p xs → In p ys) → ((p : Key × Scalar) → In p ys → In p xs) → xs ≡ ys
one_order [] [] h k f g = refl
one_order [] (y ∷ ys) h k f g = absurd (g y (inl refl))
one_order (x ∷ xs) [] h k f g = absurd (f x (inl refl))
one_order (x ∷ xs) (y ∷ ys) h k f g =
    let rest = one_order xs ys (rising_tail x xs h) (rising_tail y ys k) tail_in tail_back in
    λ i. equal i ∷ rest i
  where
    heads : (x ≡ y) ⊎ In x ys → (y ≡ x) ⊎ In y xs → x ≡ y
    heads (inl p) j = p
    heads (inr i) (inl p) = sym p
    heads (inr i) (inr j) = absurd (key_not_below x.0 (key_again x.0 y.0 x.0 (head_below x xs h y j) (head_below y ys k x i)))

    equal : x ≡ y
    equal = heads (f x (inl refl)) (g y (inl refl))

    tail_in : (p : Key × Scalar) → In p xs → In p ys
    tail_in p i =
        elim (f p (inr i)) [
          | inl q ↦ absurd (key_not_below x.0 (subst (λ (z : Key × Scalar). key_below x.0 z.0 ≡ true) (q ∙ sym equal) (head_below x xs h p i)))
          | inr j ↦ j
        ]

    tail_back : (p : Key × Scalar) → In p ys → In p xs
    tail_back p i =
        elim (g p (inr i)) [
          | inl q ↦ absurd (key_not_below y.0 (subst (λ (z : Key × Scalar). key_below y.0 z.0 ≡ true) (q ∙ equal) (head_below y ys k p i)))
          | inr j ↦ j
        ]

abbrev pub keys : Elements → List Key
keys xs = map (λ (x : Key × Scalar). x.0) xs

pub rising_distinct : (xs : Elements) → in_key_order xs ≡ true → Distinct (keys xs)
rising_distinct [] h = tt
rising_distinct (x ∷ xs) h =
    (λ i. (let y = in_unmap (λ (x : Key × Scalar). x.0) x.0 xs i in key_not_below x.0 (subst (λ (k : Key). key_below x.0 k ≡ true) y.2 (head_below x xs h y.0 y.1))), rising_distinct xs (rising_tail x xs h))

-- elements with different keys: a key has one value
pub key_once : (xs : Elements) → Distinct (keys xs) → (k : Key) (v w : Scalar) → In (k, v) xs → In (k, w) xs → v ≡ w
key_once [] d k v w i j = absurd i
key_once (x ∷ xs) d k v w i j = by (key_once xs d.1 k v w) i j
  where
    there : (u : Scalar) → ◌≡◌ {A = Key × Scalar} (k, w) x → In (k, u) xs → In x.0 (keys xs)
    there u q i = subst (λ (z : Key). In z (keys xs)) (ap (λ (y : Key × Scalar). y.0) q) (in_map (λ (x : Key × Scalar). x.0) (k, u) xs i)

    there' : (u : Scalar) → ◌≡◌ {A = Key × Scalar} (k, v) x → In (k, u) xs → In x.0 (keys xs)
    there' u q i = subst (λ (z : Key). In z (keys xs)) (ap (λ (y : Key × Scalar). y.0) q) (in_map (λ (x : Key × Scalar). x.0) (k, u) xs i)

    by : (In (k, v) xs → In (k, w) xs → v ≡ w) → In (k, v) (x ∷ xs) → In (k, w) (x ∷ xs) → v ≡ w
    by r (inl p) (inl q) = ap (λ (y : Key × Scalar). y.1) (p ∙ sym q)
    by r (inl p) (inr j) = absurd (d.0 (there' w p j))
    by r (inr i) (inl q) = absurd (d.0 (there v q i))
    by r (inr i) (inr j) = r i j
