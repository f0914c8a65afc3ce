-- What an entry computes from the script's answers is what the script's expression has, and back.
use Rattle.std.proofs.Common.{◌≡◌, ◌⊎◌, inl, inr, ℕ, suc, Bool, true, false, List, [], ◌∷◌, ◌++◌, refl, sym, ap, ◌∙◌, subst, Option, Some, None, Result, Ok}
use Rattle.std.specs.Prelude.{if◌then◌else◌}
use Rattle.std.specs.List.{flat_map}
use Rattle.dataflow.specs.System.{In, Input, Answer, Found, Content}
use Rattle.dataflow.proofs.Lists.{in_left, in_right}
use Rattle.values.specs.declared.fault.OpFault.{OpFault}
use Rattle.values.specs.declared.key.Key.{Key}
use Rattle.values.specs.declared.map.Element.{Element}
use Rattle.values.specs.declared.value.Scalar.{Scalar}
use Rattle.values.specs.declared.value.Value.{Value}
use Rattle.values.specs.declared.value.Value.TheVariants.{Many}
use Rattle.values.specs.Operators.{evaluated}
use Rattle.language.specs.Core.{Name, Expr, Exprs, literal, name, whole, operator, none, also, Core}
use Rattle.language.specs.Facts.{Knowledge, Elements}
use Rattle.language.specs.Meaning.{Closed, HasValue, ValueUnder, of_literal, of_name, of_array, of_operator, ValuesUnder, no_operand, operand}
use Rattle.language.specs.Places.{place}
use Rattle.task_code.specs.Code as code
use Rattle.task_code.specs.Code.{Need, Stored, At, AtKey, Code}
use Rattle.task_code.specs.Compute.{answer_at, answer_value, eval, evals, elements, key_of}
use Rattle.task_code.specs.Places.{Step, Datum, Constant, Nowhere, place_at, name_eq}
use Rattle.task_code.specs.Places as CodePlaces
use Rattle.task_code.specs.Shape.{is_same_plain}
use Rattle.task_code.specs.System.{with_answer, literal_at, scalar_input, whole_input, key_input, element_input, answered, inputs_at, code_system}
use Rattle.task_code.proofs.Equal.{name_sound, name_same}
use Rattle.headline.specs.Headline.{script_path}
use Rattle.headline.specs.Answered.{ReadAll}
use Rattle.headline.specs.Chains.{Has, HasElement, HasAll, Answers}
use Rattle.language_laws.specs.Scoped.{IsIn, AreIn, AllAreIn}
use Rattle.code_rules.specs.CodeNames.{name_as, wanted, wanted_all, each_once, without, place_in, over, all_over}

abbrev pub Got : Type 0
Got = Answer Key Scalar

-- an array is a datum
abbrev pub IsDatum : CodePlaces.Place → Type 0
IsDatum (Datum p v) = Unit {0}
IsDatum (Constant c) = ⊥
IsDatum Nowhere = ⊥

module _ (s : Core) (C : Code) (K : Knowledge) where
  -- the script's value of a place of the code, which may be a literal
  abbrev pub AsValue : CodePlaces.Place → Scalar → Type 0
  AsValue (Datum p v) x = Has s K (Datum p v) x
  AsValue (Constant c) x = c ≡ x
  AsValue Nowhere x = ⊥

  abbrev pub AsScalar : CodePlaces.Place → Got → Type 0
  AsScalar d y = (v : Scalar) × AsValue d v × (y ≡ Found v)

  abbrev Read : List (Input CodePlaces.Place Key) → List Got → Type 0
  Read is xs = ReadAll (code_system C) (Answers s K) is xs

  module _ (p : List Step) where
    -- what an answer to a need says
    abbrev pub Ans : Need → Got → Type 0
    Ans (Stored r) y = AsScalar (place_at C p r) y
    Ans (code.Closed r) y = HasAll s K (place_at C p r) y
    Ans (At a r) y = (v : Scalar) × AsValue (place_at C p r) v × HasElement s K (place_at C p a) (key_of v) y
    Ans (AtKey a k) y = HasElement s K (place_at C p a) k y

    abbrev pub AnsAll : List Need → List Got → Type 0
    AnsAll [] [] = Unit {0}
    AnsAll [] (y ∷ ys) = ⊥
    AnsAll (n ∷ ns) [] = ⊥
    AnsAll (n ∷ ns) (y ∷ ys) = Ans n y × AnsAll ns ys

    abbrev pub ArrayIsDatum : Need → Type 0
    ArrayIsDatum (Stored r) = Unit {0}
    ArrayIsDatum (code.Closed r) = IsDatum (place_at C p r)
    ArrayIsDatum (At a r) = IsDatum (place_at C p a)
    ArrayIsDatum (AtKey a k) = IsDatum (place_at C p a)

    abbrev pub ArraysAreData : List Need → Type 0
    ArraysAreData [] = Unit {0}
    ArraysAreData (n ∷ ns) = ArrayIsDatum n × ArraysAreData ns

  -- FROM THE INPUTS' ANSWERS TO THE NEEDS'

  record Taken (A : Got → Type 0) (o : Option Scalar) (is : List (Input CodePlaces.Place Key)) (xs : List Got) (f : List Got → List Got) : Type 0 where
    first : Got
    rest : List Got
    is_first : with_answer o xs f ≡ first ∷ f rest
    says : A first
    read : Read is rest

  take_scalar : (d : CodePlaces.Place) (is : List (Input CodePlaces.Place Key)) (xs : List Got) (f : List Got → List Got) → Read (scalar_input d ++ is) xs → Taken (AsScalar d) (literal_at d) is xs f
  take_scalar (Datum p v) is [] f g = absurd g
  take_scalar (Datum p v) is (x ∷ xs) f g = record { first = x; rest = xs; is_first = refl; says = g.0; read = g.1 }
  take_scalar (Constant c) is xs f g = record { first = Found c; rest = xs; is_first = refl; says = (c, refl, refl); read = g }
  take_scalar Nowhere is [] f g = absurd g
  take_scalar Nowhere is (x ∷ xs) f g = absurd g.0.1

  take_whole : (d : CodePlaces.Place) → IsDatum d → (is : List (Input CodePlaces.Place Key)) (xs : List Got) (f : List Got → List Got) → Read (whole_input d ++ is) xs → Taken (HasAll s K d) None is xs f
  take_whole (Datum p v) z is [] f g = absurd g
  take_whole (Datum p v) z is (x ∷ xs) f g = record { first = x; rest = xs; is_first = refl; says = g.0; read = g.1 }
  take_whole (Constant c) z is xs f g = absurd z
  take_whole Nowhere z is xs f g = absurd z

  take_key : (d : CodePlaces.Place) (k : Key) → IsDatum d → (is : List (Input CodePlaces.Place Key)) (xs : List Got) (f : List Got → List Got) → Read (key_input d k ++ is) xs → Taken (HasElement s K d k) None is xs f
  take_key (Datum p v) k z is [] f g = absurd g
  take_key (Datum p v) k z is (x ∷ xs) f g = record { first = x; rest = xs; is_first = refl; says = g.0; read = g.1 }
  take_key (Constant c) k z is xs f g = absurd z
  take_key Nowhere k z is xs f g = absurd z

  take_element : (a d : CodePlaces.Place) → IsDatum a → (is : List (Input CodePlaces.Place Key)) (xs : List Got) (f : List Got → List Got) → Read (element_input a d ++ is) xs
      → Taken (λ y. (v : Scalar) × AsValue d v × HasElement s K a (key_of v) y) None is xs f
  take_element (Datum p w) (Datum q v) z is [] f g = absurd g
  take_element (Datum p w) (Datum q v) z is (x ∷ xs) f g = record { first = x; rest = xs; is_first = refl; says = g.0; read = g.1 }
  take_element (Datum p w) (Constant c) z is [] f g = absurd g
  take_element (Datum p w) (Constant c) z is (x ∷ xs) f g = record { first = x; rest = xs; is_first = refl; says = (c, refl, g.0); read = g.1 }
  take_element (Datum p w) Nowhere z is [] f g = absurd g
  take_element (Datum p w) Nowhere z is (x ∷ xs) f g = absurd g.0.1
  take_element (Constant c) d z is xs f g = absurd z
  take_element Nowhere d z is xs f g = absurd z

  module _ (p : List Step) where
    took : (n : Need) (ns : List Need) (o : Option Scalar) (xs : List Got) → Taken (Ans p n) o (flat_map (inputs_at C p) ns) xs (λ ys. answered C p ns ys)
        → ((zs : List Got) → Read (flat_map (inputs_at C p) ns) zs → AnsAll p ns (answered C p ns zs)) → AnsAll p (n ∷ ns) (with_answer o xs (λ ys. answered C p ns ys))
    took n ns o xs t rec = subst (λ (l : List Got). AnsAll p (n ∷ ns) l) (sym t.is_first) (t.says, rec t.rest t.read)

    pub answers_of : (ns : List Need) → ArraysAreData p ns → (xs : List Got) → Read (flat_map (inputs_at C p) ns) xs → AnsAll p ns (answered C p ns xs)
    answers_of [] z [] g = tt
    answers_of [] z (x ∷ xs) g = absurd g
    answers_of (Stored r ∷ ns) z xs g = took (Stored r) ns _ xs (take_scalar (place_at C p r) _ xs (λ ys. answered C p ns ys) g) (answers_of ns z.1)
    answers_of (code.Closed r ∷ ns) z xs g = took (code.Closed r) ns _ xs (take_whole (place_at C p r) z.0 _ xs (λ ys. answered C p ns ys) g) (answers_of ns z.1)
    answers_of (At a r ∷ ns) z xs g = took (At a r) ns _ xs (take_element (place_at C p a) (place_at C p r) z.0 _ xs (λ ys. answered C p ns ys) g) (answers_of ns z.1)
    answers_of (AtKey a k ∷ ns) z xs g = took (AtKey a k) ns _ xs (take_key (place_at C p a) k z.0 _ xs (λ ys. answered C p ns ys) g) (answers_of ns z.1)

  -- FROM THE NEEDS' ANSWERS TO THE INPUTS'

  record Given (o : Option Scalar) (is js : List (Input CodePlaces.Place Key)) (y : Got) (ys : List Got) (f : List Got → List Got) : Type 0 where
    answers : List Got
    read : Read js answers
    back : with_answer o answers f ≡ y ∷ ys

  give_scalar : (d : CodePlaces.Place) (is : List (Input CodePlaces.Place Key)) (y : Got) (ys xs : List Got) (f : List Got → List Got) → AsScalar d y → Read is xs → f xs ≡ ys → Given (literal_at d) is (scalar_input d ++ is) y ys f
  give_scalar (Datum p v) is y ys xs f a r q = record { answers = y ∷ xs; read = (a, r); back = ap (λ (l : List Got). y ∷ l) q }
  give_scalar (Constant c) is y ys xs f a r q = record { answers = xs; read = r; back = (let e : Found c ≡ y = ap Found a.1 ∙ sym a.2 in λ i. e i ∷ q i) }
  give_scalar Nowhere is y ys xs f a r q = absurd a.1

  give_whole : (d : CodePlaces.Place) (is : List (Input CodePlaces.Place Key)) (y : Got) (ys xs : List Got) (f : List Got → List Got) → HasAll s K d y → Read is xs → f xs ≡ ys → Given None is (whole_input d ++ is) y ys f
  give_whole (Datum p v) is y ys xs f a r q = record { answers = y ∷ xs; read = (a, r); back = ap (λ (l : List Got). y ∷ l) q }
  give_whole (Constant c) is y ys xs f a r q = absurd a
  give_whole Nowhere is y ys xs f a r q = absurd a

  give_key : (d : CodePlaces.Place) (k : Key) (is : List (Input CodePlaces.Place Key)) (y : Got) (ys xs : List Got) (f : List Got → List Got) → HasElement s K d k y → Read is xs → f xs ≡ ys → Given None is (key_input d k ++ is) y ys f
  give_key (Datum p v) k is y ys xs f a r q = record { answers = y ∷ xs; read = (a, r); back = ap (λ (l : List Got). y ∷ l) q }
  give_key (Constant c) k is y ys xs f a r q = absurd a
  give_key Nowhere k is y ys xs f a r q = absurd a

  give_element : (a d : CodePlaces.Place) (is : List (Input CodePlaces.Place Key)) (y : Got) (ys xs : List Got) (f : List Got → List Got) → (v : Scalar) → AsValue d v → HasElement s K a (key_of v) y → Read is xs → f xs ≡ ys
      → Given None is (element_input a d ++ is) y ys f
  give_element (Datum p w) (Datum q v) is y ys xs f u h e r z = record { answers = y ∷ xs; read = ((u, h, e), r); back = ap (λ (l : List Got). y ∷ l) z }
  give_element (Datum p w) (Constant c) is y ys xs f u h e r z =
      record { answers = y ∷ xs; read = (subst (λ (t : Scalar). HasElement s K (Datum p w) (key_of t) y) (sym h) e, r); back = ap (λ (l : List Got). y ∷ l) z }
  give_element (Datum p w) Nowhere is y ys xs f u h e r z = absurd h
  give_element (Constant c) d is y ys xs f u h e r z = absurd e
  give_element Nowhere d is y ys xs f u h e r z = absurd e

  module _ (p : List Step) where
    pub record Inputs (ns : List Need) (ys : List Got) : Type 0 where
      pub answers : List Got
      pub read : Read (flat_map (inputs_at C p) ns) answers
      pub back : answered C p ns answers ≡ ys

    gave : {n : Need} {ns : List Need} {o : Option Scalar} {y : Got} {ys : List Got} → Given o (flat_map (inputs_at C p) ns) (flat_map (inputs_at C p) (n ∷ ns)) y ys (λ ys. answered C p ns ys)
        → ((xs : List Got) → answered C p (n ∷ ns) xs ≡ with_answer o xs (λ ys. answered C p ns ys)) → Inputs (n ∷ ns) (y ∷ ys)
    gave g e = record { answers = g.answers; read = g.read; back = e g.answers ∙ g.back }

    pub inputs_of : (ns : List Need) (ys : List Got) → AnsAll p ns ys → Inputs ns ys
    inputs_of [] [] a = record { answers = []; read = tt; back = refl }
    inputs_of [] (y ∷ ys) a = absurd a
    inputs_of (n ∷ ns) [] a = absurd a
    inputs_of (Stored r ∷ ns) (y ∷ ys) a =
        let i = inputs_of ns ys a.1 in gave (give_scalar (place_at C p r) _ y ys i.answers (λ ys. answered C p ns ys) a.0 i.read i.back) (λ xs. refl)
    inputs_of (code.Closed r ∷ ns) (y ∷ ys) a =
        let i = inputs_of ns ys a.1 in gave (give_whole (place_at C p r) _ y ys i.answers (λ ys. answered C p ns ys) a.0 i.read i.back) (λ xs. refl)
    inputs_of (At b r ∷ ns) (y ∷ ys) a =
        let i = inputs_of ns ys a.1 in gave (give_element (place_at C p b) (place_at C p r) _ y ys i.answers (λ ys. answered C p ns ys) a.0.0 a.0.1 a.0.2 i.read i.back) (λ xs. refl)
    inputs_of (AtKey b k ∷ ns) (y ∷ ys) a =
        let i = inputs_of ns ys a.1 in gave (give_key (place_at C p b) k _ y ys i.answers (λ ys. answered C p ns ys) a.0 i.read i.back) (λ xs. refl)

-- NEEDS IN A LIST

plain_sound : (n m : Need) → is_same_plain n m ≡ true → n ≡ m
plain_sound (Stored r) (Stored q) h = ap Stored (name_sound r q h)
plain_sound (code.Closed r) (code.Closed q) h = ap code.Closed (name_sound r q h)
plain_sound (Stored r) (code.Closed q) h = absurd (cc)
plain_sound (Stored r) (At a q) h = absurd (cc)
plain_sound (Stored r) (AtKey a k) h = absurd (cc)
plain_sound (code.Closed r) (Stored q) h = absurd (cc)
plain_sound (code.Closed r) (At a q) h = absurd (cc)
plain_sound (code.Closed r) (AtKey a k) h = absurd (cc)
plain_sound (At a r) m h = absurd (cc)
plain_sound (AtKey a k) m h = absurd (cc)

plain_self : (n : Need) → ((r : code.Name) → n ≡ Stored r → ⊥) → ((r : code.Name) → n ≡ code.Closed r → ⊥) → (is_same_plain n n ≡ true) ⊎ ((m : Need) → is_same_plain n m ≡ false)
plain_self (Stored r) f g = absurd (f r refl)
plain_self (code.Closed r) f g = absurd (g r refl)
plain_self (At a r) f g = inr (λ m. refl)
plain_self (AtKey a k) f g = inr (λ m. refl)

-- a need for a scalar or a whole array
pub data IsPlain : Need → Type 0 where
  a_scalar : {r : code.Name} → IsPlain (Stored r)
  an_array : {r : code.Name} → IsPlain (code.Closed r)

plain_same : {n : Need} → IsPlain n → is_same_plain n n ≡ true
plain_same (a_scalar {r = r}) = name_same r
plain_same (an_array {r = r}) = name_same r

pub without_in : (n m : Need) (ns : List Need) → In n (without m ns) → In n ns
without_in n m [] h = absurd h
without_in n m (x ∷ ns) h = by (is_same_plain m x) h (λ i. without_in n m ns i)
  where
    by : (b : Bool) → In n (if b then without m ns else x ∷ without m ns) → (In n (without m ns) → In n ns) → In n (x ∷ ns)
    by true h rec = inr (rec h)
    by false (inl e) rec = inl e
    by false (inr h) rec = inr (rec h)

pub once_in : (n : Need) (ns : List Need) → In n (each_once ns) → In n ns
once_in n [] h = absurd h
once_in n (m ∷ ns) (inl e) = inl e
once_in n (m ∷ ns) (inr h) = inr (once_in n ns (without_in n m (each_once ns) h))

pub in_without : (n m : Need) (ns : List Need) → In n ns → is_same_plain m n ≡ false → In n (without m ns)
in_without n m [] h q = absurd h
in_without n m (x ∷ ns) h q = by (is_same_plain m x) refl h (λ i. in_without n m ns i q)
  where
    by : (b : Bool) → is_same_plain m x ≡ b → In n (x ∷ ns) → (In n ns → In n (without m ns)) → In n (if b then without m ns else x ∷ without m ns)
    by true e (inl p) rec = (let z : true ≡ false = sym e ∙ ap (is_same_plain m) (sym p) ∙ q in absurd (cc (z)))
    by true e (inr i) rec = rec i
    by false e (inl p) rec = inl p
    by false e (inr i) rec = inr (rec i)

pub in_once : (n : Need) (ns : List Need) → In n ns → In n (each_once ns)
in_once n [] h = absurd h
in_once n (m ∷ ns) (inl e) = inl e
in_once n (m ∷ ns) (inr h) = by (is_same_plain m n) refl (in_once n ns h)
  where
    by : (b : Bool) → is_same_plain m n ≡ b → In n (each_once ns) → In n (m ∷ without m (each_once ns))
    by true e i = inl (sym (plain_sound m n e))
    by false e i = inr (in_without n m (each_once ns) i e)

module _ (s : Core) (C : Code) (K : Knowledge) (p : List Step) where
  pub record AnswerAt (n : Need) (ns : List Need) (ys : List Got) : Type 0 where
    pub answer : Got
    pub there : answer_at ys (place_in n ns) ≡ Some answer
    pub says : Ans s C K p n answer

  -- the answer to one of the needs
  pub answer_in : (n : Need) → IsPlain n → (ns : List Need) (ys : List Got) → AnsAll s C K p ns ys → In n ns → AnswerAt n ns ys
  answer_in n z [] ys a h = absurd h
  answer_in n z (m ∷ ns) [] a h = absurd a
  answer_in n z (m ∷ ns) (y ∷ ys) a h = by (is_same_plain n m) refl h (λ i. answer_in n z ns ys a.1 i)
    where
      by : (b : Bool) → is_same_plain n m ≡ b → In n (m ∷ ns) → (In n ns → AnswerAt n ns ys) → AnswerAt n (m ∷ ns) (y ∷ ys)
      by true e h rec = record {
        answer = y;
        there = ap (λ (b : Bool). answer_at (y ∷ ys) (if b then 0 else suc (place_in n ns))) e;
        says = subst (λ (t : Need). Ans s C K p t y) (sym (plain_sound n m e)) a.0;
      }
      by false e (inl q) rec = (let t : true ≡ false = sym (plain_same z) ∙ ap (is_same_plain n) q ∙ e in absurd (cc (t)))
      by false e (inr i) rec =
          let r = rec i in
          record { answer = r.answer; there = ap (λ (b : Bool). answer_at (y ∷ ys) (if b then 0 else suc (place_in n ns))) e ∙ r.there; says = r.says }

  module _ (k : ℕ) (ns : List Need) where
    -- what the answers say of the names in expressions
    pub record SaysScript : Type 0 where
      pub scalar : (x : Name) → IsIn k x → In (Stored (name_as k false x)) ns → (v : Scalar) → AsValue s C K (place_at C p (name_as k false x)) v → HasValue s K (place s (script_path p) x) v
      pub array : (x : Name) → IsIn k x → In (code.Closed (name_as k true x)) ns → (y : Got) → HasAll s K (place_at C p (name_as k true x)) y
          → (xs : List (Key × Scalar)) × (y ≡ Content xs) × Closed s K (place s (script_path p) x) × Elements K (place s (script_path p) x) (elements xs)

    -- and what the script says of them, of the answers
    pub record SaysCode : Type 0 where
      pub scalar : (x : Name) → IsIn k x → In (Stored (name_as k false x)) ns → (v : Scalar) → HasValue s K (place s (script_path p) x) v → (y : Got) → AsScalar s C K (place_at C p (name_as k false x)) y → y ≡ Found v
      pub array : (x : Name) → IsIn k x → In (code.Closed (name_as k true x)) ns → (es : List Element) → Closed s K (place s (script_path p) x) → Elements K (place s (script_path p) x) es → (y : Got) → HasAll s K (place_at C p (name_as k true x)) y
          → (xs : List (Key × Scalar)) × (y ≡ Content xs) × (elements xs ≡ es)

    module _ (ys : List Got) (a : AnsAll s C K p ns ys) where
      module _ (to : SaysScript) where
        mutual
          -- what an entry computes, the expression has
          pub computes : (e : Expr) → AreIn k e → ((n : Need) → In n (wanted k e) → In n ns) → ValueUnder s K (script_path p) e (eval ys (over k ns e))
          computes (literal v) g h = of_literal
          computes (name x) g h =
              let n = Stored (name_as k false x) in
              let i = h n (inl refl) in
              let r = answer_in n a_scalar ns ys a i in
              let v = r.says in
              subst (λ (o : Option Got). ValueUnder s K (script_path p) (name x) (Ok (answer_value o))) (sym (r.there ∙ ap Some v.2)) (of_name (to.scalar x g i v.0 v.1))
          computes (whole x) g h =
              let n = code.Closed (name_as k true x) in
              let i = h n (inl refl) in
              let r = answer_in n an_array ns ys a i in
              let t = to.array x g i r.answer r.says in
              subst (λ (o : Option Got). ValueUnder s K (script_path p) (whole x) (Ok (answer_value o))) (sym (r.there ∙ ap Some t.1)) (of_array t.2 t.3)
          computes (operator o es) g h = of_operator (compute_all es g h) refl

          pub compute_all : (es : Exprs) → AllAreIn k es → ((n : Need) → In n (wanted_all k es) → In n ns) → ValuesUnder s K (script_path p) es (evals ys (all_over k ns es))
          compute_all none g h = no_operand
          compute_all (also e es) g h =
              operand (computes e g.0 (λ n i. h n (in_left n (wanted k e) (wanted_all k es) i))) (compute_all es g.1 (λ n i. h n (in_right n (wanted k e) (wanted_all k es) i)))

      module _ (from : SaysCode) where
        mutual
          -- what the expression has, an entry computes
          pub computed : {e : Expr} {r : Result Value OpFault} → ValueUnder s K (script_path p) e r → AreIn k e → ((n : Need) → In n (wanted k e) → In n ns) → eval ys (over k ns e) ≡ r
          computed of_literal g h = refl
          computed (of_name {x = x} {v = v} u) g h =
              let n = Stored (name_as k false x) in
              let i = h n (inl refl) in
              let r = answer_in n a_scalar ns ys a i in
              ap (λ (o : Option Got). Ok (answer_value o)) (r.there ∙ ap Some (from.scalar x g i v u r.answer r.says))
          computed (of_array {a = x} {es = es} c u) g h =
              let n = code.Closed (name_as k true x) in
              let i = h n (inl refl) in
              let r = answer_in n an_array ns ys a i in
              let t = from.array x g i es c u r.answer r.says in
              ap (λ (o : Option Got). Ok (answer_value o)) (r.there ∙ ap Some t.1) ∙ ap (λ (l : List Element). Ok (Many l)) t.2
          computed (of_operator {o = o} us q) g h = ap (λ rs. evaluated o rs) (computed_all us g h) ∙ q

          pub computed_all : {es : Exprs} {rs : List (Result Value OpFault)} → ValuesUnder s K (script_path p) es rs → AllAreIn k es → ((n : Need) → In n (wanted_all k es) → In n ns) → evals ys (all_over k ns es) ≡ rs
          computed_all no_operand g h = refl
          computed_all (operand {e = e} {es = es} u us) g h =
              let x = computed u g.0 (λ n i. h n (in_left n (wanted k e) (wanted_all k es) i)) in
              let z = computed_all us g.1 (λ n i. h n (in_right n (wanted k e) (wanted_all k es) i)) in
              λ i. x i ∷ z i
