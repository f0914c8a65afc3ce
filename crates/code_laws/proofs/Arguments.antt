-- What a call hands over, place by place.
use Rattle.std.proofs.Common.{◌≡◌, ◌⊎◌, inl, inr, ℕ, zero, suc, ◌+◌, Bool, true, false, List, [], ◌∷◌, ◌++◌, map, length, refl, sym, ap, subst, Option, Some, None, arith}
use Rattle.std.specs.Prelude.{slice_get}
use Rattle.std.proofs.lemmas.Option.{same_Some}
use Rattle.dataflow.specs.System.{In}
use Rattle.language.specs.Core.{Name, here, Cell, Part, inner}
use Rattle.language.specs.Members.{◌∈◌, first, later}
use Rattle.language.specs.Scopes.{Typ, Scope}
use Rattle.values.specs.Values.{same_truth}
use Rattle.task_code.specs.Code as code
use Rattle.task_code.specs.Code.{Argument, Named, Fixed, Code, is_array_name, argument_in}
use Rattle.task_code.proofs.Equal.{bool_sound, bool_same}
use Rattle.code_rules.specs.CodeNames.{name_as}
use Rattle.code_rules.specs.IsCodeOf.{Layout, InputAs, InputsAs, no_input, one_input, OutputsAs, no_output, one_output}
use Rattle.code_laws.specs.Described.{is_array_shape}
use Rattle.code_laws.proofs.Scoping.{SeesAs, InputsCome, no_input_comes, array_comes, cell_comes, OutputsCome, no_output_comes, output_comes}

-- an argument is of a kind: a literal is a scalar's
abbrev pub Kind : Argument → Bool → Type 0
Kind (Named r) d = is_array_name r ≡ d
Kind (Fixed v) d = d ≡ false

pub arg_at : (xs : List Argument) (k : ℕ) (d : Bool) (a : Argument) → argument_in xs k d ≡ Some a → (slice_get xs k ≡ Some a) × Kind a d
arg_at [] zero d a e = absurd (cc (e))
arg_at [] (suc k) d a e = absurd (cc (e))
arg_at (Named r ∷ xs) zero d a e = by (same_truth (is_array_name r) d) refl e
  where
    by : (c : Bool) → same_truth (is_array_name r) d ≡ c → ◌≡◌ {A = Option Argument} (elim c [ true ↦ Some (Named r) | false ↦ None ]) (Some a) → (◌≡◌ {A = Option Argument} (Some (Named r)) (Some a)) × Kind a d
    by true q e = (e, subst (λ (z : Argument). Kind z d) (same_Some _ _ e) (bool_sound (is_array_name r) d q))
    by false q e = absurd (cc (e))
arg_at (Fixed v ∷ xs) zero true a e = absurd (cc (e))
arg_at (Fixed v ∷ xs) zero false a e = (e, subst (λ (z : Argument). Kind z false) (same_Some _ _ e) refl)
arg_at (Named r ∷ xs) (suc k) d a e = arg_at xs k d a e
arg_at (Fixed v ∷ xs) (suc k) d a e = arg_at xs k d a e

pub arg_of : (xs : List Argument) (k : ℕ) (d : Bool) (a : Argument) → slice_get xs k ≡ Some a → Kind a d → argument_in xs k d ≡ Some a
arg_of [] zero d a e q = absurd (cc (e))
arg_of [] (suc k) d a e q = absurd (cc (e))
arg_of (Named r ∷ xs) zero d a e q =
    let same : Named r ≡ a = same_Some _ _ e in
    let kind : is_array_name r ≡ d = subst (λ (z : Argument). Kind z d) (sym same) q in
    let t : same_truth (is_array_name r) d ≡ true = subst (λ (z : Bool). same_truth (is_array_name r) z ≡ true) kind (bool_same (is_array_name r)) in
    subst (λ (c : Bool). ◌≡◌ {A = Option Argument} (elim c [ true ↦ Some (Named r) | false ↦ None ]) (Some a)) (sym t) e
arg_of (Fixed v ∷ xs) zero true a e q = absurd (let w : true ≡ false = subst (λ (z : Argument). Kind z true) (sym (same_Some _ _ e)) q in cc (w))
arg_of (Fixed v ∷ xs) zero false a e q = e
arg_of (Named r ∷ xs) (suc k) d a e q = arg_of xs k d a e q
arg_of (Fixed v ∷ xs) (suc k) d a e q = arg_of xs k d a e q

-- PLACES IN TWO LISTS

pub get_left : {X : Type 0} (xs ys : List X) (k : ℕ) (x : X) → slice_get xs k ≡ Some x → slice_get (xs ++ ys) k ≡ Some x
get_left [] ys zero x e = absurd (cc (e))
get_left [] ys (suc k) x e = absurd (cc (e))
get_left (y ∷ xs) ys zero x e = e
get_left (y ∷ xs) ys (suc k) x e = get_left xs ys k x e

pub get_right : {X : Type 0} (xs ys : List X) (j : ℕ) → slice_get (xs ++ ys) (length xs + j) ≡ slice_get ys j
get_right [] ys j = (let e : j ≡ 0 + j = omega arith in ap (λ (n : ℕ). slice_get ys n) (sym e))
get_right (x ∷ xs) ys j = (let e : suc (length xs + j) ≡ suc (length xs) + j = omega arith in subst (λ (n : ℕ). slice_get (x ∷ (xs ++ ys)) n ≡ slice_get ys j) e (get_right xs ys j))

pub get_map : {X Y : Type 0} (f : X → Y) (xs : List X) (k : ℕ) (x : X) → slice_get xs k ≡ Some x → slice_get (map f xs) k ≡ Some (f x)
get_map f [] zero x e = absurd (cc (e))
get_map f [] (suc k) x e = absurd (cc (e))
get_map f (y ∷ xs) zero x e = ap (λ z. Some (f z)) (same_Some _ _ e)
get_map f (y ∷ xs) (suc k) x e = get_map f xs k x e

pub get_unmap : {X Y : Type 0} (f : X → Y) (xs : List X) (k : ℕ) (y : Y) → slice_get (map f xs) k ≡ Some y → (x : X) × (slice_get xs k ≡ Some x) × (f x ≡ y)
get_unmap f [] zero y e = absurd (cc (e))
get_unmap f [] (suc k) y e = absurd (cc (e))
get_unmap f (x ∷ xs) zero y e = (x, refl, same_Some _ _ e)
get_unmap f (x ∷ xs) (suc k) y e = get_unmap f xs k y e

pub get_in : {X : Type 0} (xs : List X) (k : ℕ) (x : X) → slice_get xs k ≡ Some x → x ∈ xs
get_in [] zero x e = absurd (cc (e))
get_in [] (suc k) x e = absurd (cc (e))
get_in {X} (y ∷ xs) zero x e = subst (λ (z : X). z ∈ (y ∷ xs)) (same_Some _ _ e) first
get_in (y ∷ xs) (suc k) x e = later (get_in xs k x e)

pub get_some : {X : Type 0} (xs : List X) (x : X) → In x xs → (k : ℕ) × (slice_get xs k ≡ Some x)
get_some [] x h = absurd h
get_some {X} (y ∷ xs) x (inl e) = (0, ap (λ (z : X). Some z) (sym e))
get_some (y ∷ xs) x (inr h) = let r = get_some xs x h in (suc r.0, r.1)

-- the only place of a list of one
pub get_one : {X : Type 0} (y x : X) (k : ℕ) → slice_get (y ∷ []) k ≡ Some x → (k ≡ 0) × (y ≡ x)
get_one y x zero e = (refl, same_Some _ _ e)
get_one y x (suc zero) e = absurd (cc (e))
get_one y x (suc (suc k)) e = absurd (cc (e))

module _ (C : Code) (l : Layout) where
  pub out_at : {k : ℕ} (j : ℕ) (r : code.Name) {xs : List Name} {outs : List code.Name} → OutputsAs C l k xs outs → slice_get outs j ≡ Some r → (x : Name) × (d : Bool) × (slice_get xs j ≡ Some x) × (r ≡ name_as k d x)
  out_at zero r no_output e = absurd (cc (e))
  out_at (suc j) r no_output e = absurd (cc (e))
  out_at zero r (one_output d {x = x} os) e = (x, d, refl, sym (same_Some _ _ e))
  out_at (suc j) r (one_output d os) e = out_at j r os e

  pub out_of : {k : ℕ} (j : ℕ) (x : Name) {xs : List Name} {outs : List code.Name} → OutputsAs C l k xs outs → slice_get xs j ≡ Some x → (r : code.Name) × (slice_get outs j ≡ Some r)
  out_of zero x no_output e = absurd (cc (e))
  out_of (suc j) x no_output e = absurd (cc (e))
  out_of {k} zero x (one_output d {x = y} os) e = (name_as k d y, refl)
  out_of (suc j) x (one_output d os) e = out_of j x os e

  pub input_at : {k : ℕ} {all : List Part} {xs : List Name} {ins : List Argument} (i : ℕ) (a : Argument) → InputsAs C l k all xs ins → slice_get ins i ≡ Some a → (x : Name) × (slice_get xs i ≡ Some x) × InputAs C l k all x a
  input_at zero a no_input e = absurd (cc (e))
  input_at (suc i) a no_input e = absurd (cc (e))
  input_at {k} {all} zero a (one_input {x = x} one rest) e = (x, refl, subst (λ (z : Argument). InputAs C l k all x z) (same_Some _ _ e) one)
  input_at (suc i) a (one_input one rest) e = input_at i a rest e

  pub input_of : {k : ℕ} {all : List Part} {xs : List Name} {ins : List Argument} (i : ℕ) (x : Name) → InputsAs C l k all xs ins → slice_get xs i ≡ Some x → (a : Argument) × (slice_get ins i ≡ Some a)
  input_of zero x no_input e = absurd (cc (e))
  input_of (suc i) x no_input e = absurd (cc (e))
  input_of zero x (one_input {a = a} one rest) e = (a, refl)
  input_of (suc i) x (one_input one rest) e = input_of i x rest e

  pub inputs_length : {k : ℕ} {all : List Part} {xs : List Name} {ins : List Argument} → InputsAs C l k all xs ins → length xs ≡ length ins
  inputs_length no_input = refl
  inputs_length (one_input one rest) = ap suc (inputs_length rest)

-- an array's name, or a cell among the parts
abbrev pub InputComes : Scope → List Part → Name → Typ → Type 0
InputComes g all x τ = ((is_array_shape τ.shape ≡ true) × SeesAs g x true) ⊎ ((is_array_shape τ.shape ≡ false) × ((c : Cell) × (inner c ∈ all) × (x ≡ here c.node)))

pub come_at : {g : Scope} {all : List Part} {xs : List Name} {τs : List Typ} (i : ℕ) (τ : Typ) → InputsCome g all xs τs → slice_get τs i ≡ Some τ → (x : Name) × (slice_get xs i ≡ Some x) × InputComes g all x τ
come_at zero τ no_input_comes e = absurd (cc (e))
come_at (suc i) τ no_input_comes e = absurd (cc (e))
come_at {g} {all} zero τ (array_comes {x = x} q s rest) e = (x, refl, subst (λ (z : Typ). InputComes g all x z) (same_Some _ _ e) (inl (q, s)))
come_at {g} {all} zero τ (cell_comes {c = c} {x = x} q m n rest) e = (x, refl, subst (λ (z : Typ). InputComes g all x z) (same_Some _ _ e) (inr (q, (c, m, n))))
come_at (suc i) τ (array_comes q s rest) e = come_at i τ rest e
come_at (suc i) τ (cell_comes q m n rest) e = come_at i τ rest e

pub comes_length : {g : Scope} {all : List Part} {xs : List Name} {τs : List Typ} → InputsCome g all xs τs → length xs ≡ length τs
comes_length no_input_comes = refl
comes_length (array_comes q s rest) = ap suc (comes_length rest)
comes_length (cell_comes q m n rest) = ap suc (comes_length rest)

pub outs_at : {g : Scope} {xs : List Name} {τs : List Typ} (j : ℕ) (τ : Typ) → OutputsCome g xs τs → slice_get τs j ≡ Some τ → (x : Name) × (slice_get xs j ≡ Some x) × SeesAs g x (is_array_shape τ.shape)
outs_at zero τ no_output_comes e = absurd (cc (e))
outs_at (suc j) τ no_output_comes e = absurd (cc (e))
outs_at {g} zero τ (output_comes {x = x} s rest) e = (x, refl, subst (λ (z : Typ). SeesAs g x (is_array_shape z.shape)) (same_Some _ _ e) s)
outs_at (suc j) τ (output_comes s rest) e = outs_at j τ rest e

-- and the other way round: an output has a type
pub out_type : {g : Scope} {xs : List Name} {τs : List Typ} (j : ℕ) (x : Name) → OutputsCome g xs τs → slice_get xs j ≡ Some x → (τ : Typ) × (slice_get τs j ≡ Some τ) × SeesAs g x (is_array_shape τ.shape)
out_type zero x no_output_comes e = absurd (cc (e))
out_type (suc j) x no_output_comes e = absurd (cc (e))
out_type {g} zero x (output_comes {τ = τ} s rest) e = (τ, refl, subst (λ (z : Name). SeesAs g z (is_array_shape τ.shape)) (same_Some _ _ e) s)
out_type (suc j) x (output_comes s rest) e = out_type j x rest e
