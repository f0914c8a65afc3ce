-- What items that waited miss still after an End without fault.
use Rattle.std.proofs.Common.{◌≡◌, ◌⊎◌, inl, inr, ℕ, Bool, true, false, not, List, [], ◌∷◌, ◌++◌, refl, sym, ap, ◌∙◌, subst, Option, None, Some}
use Rattle.std.specs.List.{flat_map, list_all, list_any}
use Rattle.std.proofs.lemmas.Grind.{flat_map-append}
use Rattle.std.proofs.lemmas.Bool.{not-true, or_cases, and_parts}
use Rattle.dataflow.specs.System.{In, Input}
use Rattle.dataflow.specs.Machine.{Event, Free}
use Rattle.board_history.specs.Elements.{code_tests}
use Rattle.board_history.specs.Fields.{AnElement, Fields, Layout, Slot, Want, Whole}
use Rattle.board_history.specs.Needs.{is_covered, still_missed}
use Rattle.board_history.specs.Replay.{is_closed, value_at}
use Rattle.board_history.specs.Stands.{AllStand, array_wanted, element_wanted, keyed_wanted, scalar_wanted, wanted}
use Rattle.board_history.proofs.Elements.{code_told}
use Rattle.board_history.proofs.EndedBase.{Ending}
use Rattle.board_history.proofs.EndedCells.{names_after}
use Rattle.board_history.proofs.EndedKnown.{array_unknown, closed_stays, covered_known, element_unknown, known_array, known_scalar, scalar_unknown, stays_later, value_stays_at}
use Rattle.board_history.proofs.EndedNames.{Resolved, to_datum, to_literal}
use Rattle.board_history.proofs.EndedWants.{no_element_input, scalar_place, none_left}
use Rattle.board_history.proofs.Tests.{choose, closed_sound, closed_told, yes_no}
use Rattle.task_code.proofs.Equal.{every_in}
use Rattle.task_code.specs.Code.{Act, Assert, At, AtKey, Call, Cell, Closed, Code, Copy, Each, Fill, Header, If, Name, Need, Print, InsertElement, Range, Read, Set, Stored, Variable, Wait, entry, is_array_name}
use Rattle.task_code.specs.Compute.{key_of}
use Rattle.task_code.specs.Effects.{only}
use Rattle.task_code.specs.Machine.{CodeState}
use Rattle.task_code.specs.Places.{Datum, Place, Step, place_at}
use Rattle.task_code.specs.Shape.{feeds, fits_kinds, has_shape, is_none, is_plain, is_same_plain, one_array, one_element}
use Rattle.task_code.specs.System.{code_system, element_input, inputs_at, key_input, scalar_input, whole_input}
use Rattle.task_code.specs.Whole.{IsCode}
use Rattle.values.specs.Keys.{hash_of}
use Rattle.values.specs.declared.key.Key.{Key}
use Rattle.values.specs.declared.value.Scalar.{Scalar}

-- needs are plain, or one element
same_plain : (m : Need) (xs : List Need) → list_any (is_same_plain m) xs ≡ true → is_plain m ≡ true
same_plain (Stored r) xs h = refl
same_plain (Closed r) xs h = refl
same_plain (At a r) [] h = yes_no h refl
same_plain (At a r) (x ∷ xs) h = same_plain (At a r) xs h
same_plain (AtKey a k) [] h = yes_no h refl
same_plain (AtKey a k) (x ∷ xs) h = same_plain (AtKey a k) xs h

every_plain : (f : Need → Bool) (xs : List Need) → ((x : Need) → f x ≡ true → is_plain x ≡ true) → list_all f xs ≡ true → (x : Need) → In x xs → is_plain x ≡ true
every_plain f xs h a x i = h x (every_in f xs a x i)

abbrev pub AllPlain : List Need → Type 0
AllPlain ns = (x : Need) → In x ns → is_plain x ≡ true

some_header : (m : Need) (hs : List Header) → list_any (λ h. list_any (is_same_plain m) h.needs) hs ≡ true → is_plain m ≡ true
some_header m [] h = yes_no h refl
some_header m (x ∷ hs) h =
    elim (or_cases (list_any (is_same_plain m) x.needs) (list_any (λ h. list_any (is_same_plain m) h.needs) hs) h) [ inl g ↦ same_plain m x.needs g | inr g ↦ some_header m hs g ]

fed_plain : (ns : List Need) (b : Bool) → feeds ns b ≡ true → AllPlain ns
fed_plain ns b h = every_in is_plain ns (and_parts (list_all is_plain ns) b h).0

array_plain : (ns : List Need) → one_array ns ≡ true → AllPlain ns
array_plain [] h x i = absurd i
array_plain (Closed r ∷ []) h x i = elim i [ inl p ↦ ap is_plain p | inr g ↦ absurd g ]
array_plain (Closed r ∷ m ∷ ns) h x i = yes_no h refl
array_plain (Stored r ∷ ns) h x i = yes_no h refl
array_plain (At a r ∷ ns) h x i = yes_no h refl
array_plain (AtKey a k ∷ ns) h x i = yes_no h refl

none_plain : (ns : List Need) → is_none ns ≡ true → AllPlain ns
none_plain [] h x i = absurd i
none_plain (m ∷ ns) h x i = yes_no h refl

-- one element and nothing else
pub data OneElement (ns : List Need) : Type 0 where
  at_name : (a r : Name) → ns ≡ At a r ∷ [] → OneElement ns
  at_key : (a : Name) (k : Key) → ns ≡ AtKey a k ∷ [] → OneElement ns

one_of_element : (ns : List Need) → one_element ns ≡ true → OneElement ns
one_of_element [] h = yes_no h refl
one_of_element (At a r ∷ []) h = at_name a r refl
one_of_element (AtKey a k ∷ []) h = at_key a k refl
one_of_element (At a r ∷ m ∷ ns) h = yes_no h refl
one_of_element (AtKey a k ∷ m ∷ ns) h = yes_no h refl
one_of_element (Stored r ∷ ns) h = yes_no h refl
one_of_element (Closed r ∷ ns) h = yes_no h refl

pub shapes : (a : Act) (ns : List Need) → has_shape a ns ≡ true → AllPlain ns ⊎ OneElement ns
shapes (Cell e) ns h = inl (fed_plain ns _ h)
shapes Read ns h = inr (one_of_element ns h)
shapes (Call b rs os) ns h = inl (none_plain ns h)
shapes (Set r e) ns h = inl (fed_plain ns _ (and_parts (not (is_array_name r)) _ h).1)
shapes (Fill r es) ns h = inl (fed_plain ns _ (and_parts (is_array_name r) _ h).1)
shapes (Copy r) ns h = inl (array_plain ns (and_parts (is_array_name r) _ h).1)
shapes (InsertElement r i e) ns h = inl (fed_plain ns _ (and_parts (is_array_name r) _ h).1)
shapes (Print e) ns h = inl (fed_plain ns _ h)
shapes (Assert e) ns h = inl (fed_plain ns _ h)
shapes (If e b d) ns h = inl (fed_plain ns _ h)
shapes (Range l hh s w) ns h = inl (fed_plain ns _ h)
shapes (Each w) ns h = inl (array_plain ns h)
shapes (Wait hs b) ns h = inl (every_plain (λ m. list_any (λ h. list_any (is_same_plain m) h.needs) hs) ns (λ m g. some_header m hs g) (and_parts (list_all (λ h. list_all (λ m. list_any (is_same_plain m) ns) h.needs) hs) _ h).1)

no_nil : {X B : Type 0} {x : X} {xs : List X} → ◌≡◌ {A = List X} (x ∷ xs) [] → B
no_nil h = absurd (cc)

module _ (C : Code) (I : IsCode C) (L : Layout) (es : List Event) (F : Fields) (w n : ℕ) (t : CodeState) (G : Fields) (P : Ending C L es F w n t G) where
  abbrev names : List (ℕ × Place)
  names = P.x.names

  abbrev later : List (ℕ × Place)
  later = names_after C I L es F w n t G P

  abbrev s : CodeState
  s = P.x.state

  abbrev known : List (Want ℕ)
  known = P.to.known

  -- what one need waits for before and after: nothing, or a datum as a whole, or an element
  pub data Waited (ps pt : List (Want Place)) : Type 0 where
    none : ps ≡ [] → pt ≡ [] → Waited ps pt
    whole : (d : ℕ) (a : Place) → In (d, a) names → In (d, a) later → ps ≡ Whole a ∷ [] → (is_covered known (Whole d) ≡ false → pt ≡ Whole a ∷ []) → Waited ps pt
    element : (d : ℕ) (a : Place) (k : ℕ) → In (d, a) names → In (d, a) later → ps ≡ AnElement a k ∷ [] → (is_covered known (AnElement d k) ≡ false → pt ≡ AnElement a k ∷ []) → Waited ps pt

  -- one of a plain need is known as soon as it is told
  pub data PlainWaited (ps pt : List (Want Place)) : Type 0 where
    nothing : ps ≡ [] → pt ≡ [] → PlainWaited ps pt
    one : (d : ℕ) (a : Place) → In (d, a) names → In (d, a) later → ps ≡ Whole a ∷ [] → (is_covered known (Whole d) ≡ false → pt ≡ Whole a ∷ []) → (is_covered known (Whole d) ≡ true → pt ≡ []) → PlainWaited ps pt

  abbrev closed_of : CodeState → Place → Bool
  closed_of x a = is_closed (code_system C) code_tests x a

  module _ (d : ℕ) (q : List Step) (v : Variable) (h : In (d, Datum q v) names) (nf : Free (code_system C) t (Datum q v) → ⊥) where
    there : In (d, Datum q v) later
    there = stays_later C I L es F w n t G P d q v h nf

    scalar_waited : v.array ≡ false → PlainWaited (scalar_wanted (value_at (code_system C) code_tests s.stored (Datum q v) only) (Datum q v) ++ []) (scalar_wanted (value_at (code_system C) code_tests t.stored (Datum q v) only) (Datum q v) ++ [])
    scalar_waited na = by (value_at (code_system C) code_tests s.stored (Datum q v) only) refl
      where
        by : (o : Option Scalar) → value_at (code_system C) code_tests s.stored (Datum q v) only ≡ o → PlainWaited (scalar_wanted (value_at (code_system C) code_tests s.stored (Datum q v) only) (Datum q v) ++ []) (scalar_wanted (value_at (code_system C) code_tests t.stored (Datum q v) only) (Datum q v) ++ [])
        by (Some u) e =
            nothing (ap (λ (o : Option Scalar). scalar_wanted o (Datum q v) ++ []) e) (ap (λ (o : Option Scalar). scalar_wanted o (Datum q v) ++ []) (value_stays_at C I L es F w n t G P d q v h nf only u e))
        by None e =
            one d (Datum q v) h there (ap (λ (o : Option Scalar). scalar_wanted o (Datum q v) ++ []) e)
            (λ nc. ap (λ (o : Option Scalar). scalar_wanted o (Datum q v) ++ []) (scalar_unknown C I L es F w n t G P d q v h nf na nc e))
            (λ c. of (value_at (code_system C) code_tests t.stored (Datum q v) only) (known_scalar C I L es F w n t G P d q v there na (covered_known C I L es F w n t G P d q v h nf c)))
          where
            of : (o : Option Scalar) → (o ≡ None → ⊥) → scalar_wanted o (Datum q v) ++ [] ≡ []
            of None ne = absurd (ne refl)
            of (Some u) ne = refl

    array_waited : v.array ≡ true → PlainWaited (array_wanted (closed_of s (Datum q v)) (Datum q v) ++ []) (array_wanted (closed_of t (Datum q v)) (Datum q v) ++ [])
    array_waited na = by (closed_of s (Datum q v)) refl
      where
        by : (b : Bool) → closed_of s (Datum q v) ≡ b → PlainWaited (array_wanted (closed_of s (Datum q v)) (Datum q v) ++ []) (array_wanted (closed_of t (Datum q v)) (Datum q v) ++ [])
        by true e =
            nothing (ap (λ (o : Bool). array_wanted o (Datum q v) ++ []) e) (ap (λ (o : Bool). array_wanted o (Datum q v) ++ []) (closed_told (code_system C) code_tests (code_told C) t (Datum q v) (closed_stays C I L es F w n t G P (Datum q v) nf (closed_sound (code_system C) code_tests (code_told C) s (Datum q v) e))))
        by false e =
            one d (Datum q v) h there (ap (λ (o : Bool). array_wanted o (Datum q v) ++ []) e)
            (λ nc. ap (λ (o : Bool). array_wanted o (Datum q v) ++ []) (array_unknown C I L es F w n t G P d q v h nf na nc e))
            (λ c. ap (λ (o : Bool). array_wanted o (Datum q v) ++ []) (known_array C I L es F w n t G P d q v there na (covered_known C I L es F w n t G P d q v h nf c)))

    element_waited : v.array ≡ true → (k : Key) → Waited (element_wanted (value_at (code_system C) code_tests s.stored (Datum q v) k) (closed_of s (Datum q v)) (Datum q v) (hash_of k) ++ []) (element_wanted (value_at (code_system C) code_tests t.stored (Datum q v) k) (closed_of t (Datum q v)) (Datum q v) (hash_of k) ++ [])
    element_waited na k = by (value_at (code_system C) code_tests s.stored (Datum q v) k) (closed_of s (Datum q v)) refl refl
      where
        some_none : (o : Option Scalar) (b : Bool) → b ≡ true → element_wanted o b (Datum q v) (hash_of k) ++ [] ≡ []
        some_none None true e = refl
        some_none None false e = yes_no e refl
        some_none (Some u) b e = refl

        by : (o : Option Scalar) (b : Bool) → value_at (code_system C) code_tests s.stored (Datum q v) k ≡ o → closed_of s (Datum q v) ≡ b → Waited (element_wanted (value_at (code_system C) code_tests s.stored (Datum q v) k) (closed_of s (Datum q v)) (Datum q v) (hash_of k) ++ []) (element_wanted (value_at (code_system C) code_tests t.stored (Datum q v) k) (closed_of t (Datum q v)) (Datum q v) (hash_of k) ++ [])
        by (Some u) b e c =
            none (ap (λ (o : Option Scalar). element_wanted o (closed_of s (Datum q v)) (Datum q v) (hash_of k) ++ []) e) (ap (λ (o : Option Scalar). element_wanted o (closed_of t (Datum q v)) (Datum q v) (hash_of k) ++ []) (value_stays_at C I L es F w n t G P d q v h nf k u e))
        by None true e c =
            none (some_none (value_at (code_system C) code_tests s.stored (Datum q v) k) (closed_of s (Datum q v)) c) (some_none (value_at (code_system C) code_tests t.stored (Datum q v) k) (closed_of t (Datum q v)) (closed_told (code_system C) code_tests (code_told C) t (Datum q v) (closed_stays C I L es F w n t G P (Datum q v) nf (closed_sound (code_system C) code_tests (code_told C) s (Datum q v) c))))
        by None false e c =
            element d (Datum q v) (hash_of k) h there (λ i. element_wanted (e i) (c i) (Datum q v) (hash_of k) ++ [])
            (λ nc. let z = element_unknown C I L es F w n t G P d q v h nf na k nc c e in λ i. element_wanted (z.0 i) (z.1 i) (Datum q v) (hash_of k) ++ [])

  -- the needs of an entry whose names stand for places
  module _ (e : ℕ) (p : List Step) (f : Name → Slot) (res : (r : Name) → In r (entry C e).reads → Resolved C names (f r) (place_at C p r)) (nf : (r : Name) → In r (entry C e).reads → (q : List Step) (v : Variable) → place_at C p r ≡ Datum q v → Free (code_system C) t (Datum q v) → ⊥) where
    abbrev part : CodeState → Need → List (Want Place)
    part x m = flat_map (wanted C x) (inputs_at C p m)

    stored_waited : (r : Name) → In r (entry C e).reads → is_array_name r ≡ false → Resolved C names (f r) (place_at C p r) → PlainWaited (part s (Stored r)) (part t (Stored r))
    stored_waited r ir na (to_datum d q v px pa i) =
        subst (λ (a : Place). PlainWaited (flat_map (wanted C s) (scalar_input a)) (flat_map (wanted C t) (scalar_input a))) (sym pa)
        (scalar_waited d q v i (nf r ir q v pa) (scalar_place C p r q v false na pa))
    stored_waited r ir na (to_literal x k v px pa l) =
        subst (λ (a : Place). PlainWaited (flat_map (wanted C s) (scalar_input a)) (flat_map (wanted C t) (scalar_input a))) (sym pa) (nothing refl refl)

    closed_waited : (r : Name) → In r (entry C e).reads → is_array_name r ≡ true → Resolved C names (f r) (place_at C p r) → PlainWaited (part s (Closed r)) (part t (Closed r))
    closed_waited r ir ar (to_datum d q v px pa i) =
        subst (λ (a : Place). PlainWaited (flat_map (wanted C s) (whole_input a)) (flat_map (wanted C t) (whole_input a))) (sym pa)
        (array_waited d q v i (nf r ir q v pa) (scalar_place C p r q v true ar pa))
    closed_waited r ir ar (to_literal x k v px pa l) =
        subst (λ (a : Place). PlainWaited (flat_map (wanted C s) (whole_input a)) (flat_map (wanted C t) (whole_input a))) (sym pa) (nothing refl refl)

    key_waited : (a : Name) (k : Key) → In a (entry C e).reads → is_array_name a ≡ true → Resolved C names (f a) (place_at C p a) → Waited (part s (AtKey a k)) (part t (AtKey a k))
    key_waited a k ia ar (to_datum d q v px pa i) =
        subst (λ (y : Place). Waited (flat_map (wanted C s) (key_input y k)) (flat_map (wanted C t) (key_input y k))) (sym pa)
        (element_waited d q v i (nf a ia q v pa) (scalar_place C p a q v true ar pa) k)
    key_waited a k ia ar (to_literal x m v px pa l) =
        subst (λ (y : Place). Waited (flat_map (wanted C s) (key_input y k)) (flat_map (wanted C t) (key_input y k))) (sym pa) (none refl refl)

    index_waited : (d : ℕ) (q : List Step) (v : Variable) → In (d, Datum q v) names → (Free (code_system C) t (Datum q v) → ⊥) → v.array ≡ true → (r : Name) → In r (entry C e).reads → is_array_name r ≡ false → Resolved C names (f r) (place_at C p r) → Waited (flat_map (wanted C s) (element_input (Datum q v) (place_at C p r))) (flat_map (wanted C t) (element_input (Datum q v) (place_at C p r)))
    index_waited d q v i nfa ar r ir na (to_datum x z u px pa g) =
        subst (λ (a : Place). Waited (flat_map (wanted C s) (element_input (Datum q v) a)) (flat_map (wanted C t) (element_input (Datum q v) a))) (sym pa)
        (by (value_at (code_system C) code_tests s.stored (Datum z u) only) refl)
      where
        nfi : Free (code_system C) t (Datum z u) → ⊥
        nfi = nf r ir z u pa

        by : (o : Option Scalar) → value_at (code_system C) code_tests s.stored (Datum z u) only ≡ o → Waited (keyed_wanted C s (Datum q v) (Datum z u) (value_at (code_system C) code_tests s.stored (Datum z u) only) ++ []) (keyed_wanted C t (Datum q v) (Datum z u) (value_at (code_system C) code_tests t.stored (Datum z u) only) ++ [])
        by None e =
            whole x (Datum z u) g (there x z u g nfi) (ap (λ (o : Option Scalar). keyed_wanted C s (Datum q v) (Datum z u) o ++ []) e)
            (λ nc. ap (λ (o : Option Scalar). keyed_wanted C t (Datum q v) (Datum z u) o ++ []) (scalar_unknown C I L es F w n t G P x z u g nfi (scalar_place C p r z u false na pa) nc e))
        by (Some y) e =
            subst (λ (o : Option Scalar). Waited (keyed_wanted C s (Datum q v) (Datum z u) o ++ []) (keyed_wanted C t (Datum q v) (Datum z u) (value_at (code_system C) code_tests t.stored (Datum z u) only) ++ [])) (sym e)
            (subst (λ (o : Option Scalar). Waited (keyed_wanted C s (Datum q v) (Datum z u) (Some y) ++ []) (keyed_wanted C t (Datum q v) (Datum z u) o ++ [])) (sym (value_stays_at C I L es F w n t G P x z u g nfi only y e))
            (element_waited d q v i nfa ar (key_of y)))
    index_waited d q v i nfa ar r ir na (to_literal x m u px pa l) =
        subst (λ (a : Place). Waited (flat_map (wanted C s) (element_input (Datum q v) a)) (flat_map (wanted C t) (element_input (Datum q v) a))) (sym pa)
        (element_waited d q v i nfa ar (key_of u))

    at_waited : (a r : Name) → In a (entry C e).reads → In r (entry C e).reads → is_array_name a ≡ true → is_array_name r ≡ false → Resolved C names (f a) (place_at C p a) → Waited (part s (At a r)) (part t (At a r))
    at_waited a r ia ir ar na (to_datum d q v px pa i) =
        subst (λ (y : Place). Waited (flat_map (wanted C s) (element_input y (place_at C p r))) (flat_map (wanted C t) (element_input y (place_at C p r)))) (sym pa)
        (index_waited d q v i (nf a ia q v pa) (scalar_place C p a q v true ar pa) r ir na (res r ir))
    at_waited a r ia ir ar na (to_literal x m v px pa l) =
        subst (λ (y : Place). Waited (flat_map (wanted C s) (element_input y (place_at C p r))) (flat_map (wanted C t) (element_input y (place_at C p r)))) (sym pa)
        (subst (λ (y : List (Input Place Key)). Waited (flat_map (wanted C s) y) (flat_map (wanted C t) y)) (sym (no_element_input v (place_at C p r))) (none refl refl))

    kinds : (m : Need) → In m (entry C e).needs → fits_kinds m ≡ true
    kinds m i = every_in fits_kinds (entry C e).needs (and_parts (list_all fits_kinds (entry C e).needs) _ (I.shape e)).0 m i

    plain_waited : (m : Need) → In m (entry C e).needs → is_plain m ≡ true → PlainWaited (part s m) (part t m)
    plain_waited (Stored r) i pl = let ir = I.needs e (Stored r) r i (inl refl) in stored_waited r ir (not-true (is_array_name r) (kinds (Stored r) i)) (res r ir)
    plain_waited (Closed r) i pl = let ir = I.needs e (Closed r) r i (inl refl) in closed_waited r ir (kinds (Closed r) i) (res r ir)
    plain_waited (At a r) i pl = yes_no pl refl
    plain_waited (AtKey a k) i pl = yes_no pl refl

    abbrev rest : CodeState → List Need → List (Want Place)
    rest x ns = flat_map (wanted C x) (flat_map (inputs_at C p) ns)

    -- what is still missed of plain needs
    pub plain_still : (ns : List Need) → ((m : Need) → In m ns → In m (entry C e).needs) → ((m : Need) → In m ns → is_plain m ≡ true) → (vs : List (Want ℕ)) → AllStand names vs (flat_map (wanted C s) (flat_map (inputs_at C p) ns)) → AllStand later (still_missed known vs) (flat_map (wanted C t) (flat_map (inputs_at C p) ns))
    plain_still [] inn pl [] h = tt
    plain_still [] inn pl (v ∷ vs) h = absurd h
    plain_still (m ∷ ns) inn pl vs h =
        subst (λ (l : List (Want Place)). AllStand later (still_missed known vs) l) (sym (flat_map-append (wanted C t) (inputs_at C p m) (flat_map (inputs_at C p) ns)))
        (by (plain_waited m (inn m (inl refl)) (pl m (inl refl))) vs (subst (λ (l : List (Want Place)). AllStand names vs l) (flat_map-append (wanted C s) (inputs_at C p m) (flat_map (inputs_at C p) ns)) h) (λ us g. plain_still ns (λ x i. inn x (inr i)) (λ x i. pl x (inr i)) us g))
      where
        first : (d : ℕ) (a : Place) (us : List (Want ℕ)) → In (d, a) names → In (d, a) later → (is_covered known (Whole d) ≡ false → part t m ≡ Whole a ∷ []) → (is_covered known (Whole d) ≡ true → part t m ≡ []) → AllStand later (still_missed known us) (rest t ns) → AllStand later (still_missed known (Whole d ∷ us)) (part t m ++ (rest t ns))
        first d a us i il nc yc ih =
            of (is_covered known (Whole d)) refl
          where
            of : (b : Bool) → is_covered known (Whole d) ≡ b → AllStand later (still_missed known (Whole d ∷ us)) (part t m ++ (rest t ns))
            of true c =
                choose (λ (l : List (Want ℕ)). AllStand later l (part t m ++ (rest t ns))) (not (is_covered known (Whole d))) (Whole d ∷ still_missed known us) (still_missed known us)
                (λ z. yes_no z (ap not c))
                (λ z. subst (λ (l : List (Want Place)). AllStand later (still_missed known us) (l ++ (rest t ns))) (sym (yc c)) ih)
            of false c =
                choose (λ (l : List (Want ℕ)). AllStand later l (part t m ++ (rest t ns))) (not (is_covered known (Whole d))) (Whole d ∷ still_missed known us) (still_missed known us)
                (λ z. subst (λ (l : List (Want Place)). AllStand later (Whole d ∷ still_missed known us) (l ++ (rest t ns))) (sym (nc c)) (il, ih))
                (λ z. yes_no (ap not c) z)

        by : PlainWaited (part s m) (part t m) → (vs : List (Want ℕ)) → AllStand names vs (part s m ++ (rest s ns)) → ((us : List (Want ℕ)) → AllStand names us (rest s ns) → AllStand later (still_missed known us) (rest t ns)) → AllStand later (still_missed known vs) (part t m ++ (rest t ns))
        by (nothing ps pt) vs h ih =
            subst (λ (l : List (Want Place)). AllStand later (still_missed known vs) (l ++ (rest t ns))) (sym pt) (ih vs (subst (λ (l : List (Want Place)). AllStand names vs (l ++ (rest s ns))) ps h))
        by (one d a i il ps nc yc) vs h ih = of vs (subst (λ (l : List (Want Place)). AllStand names vs (l ++ (rest s ns))) ps h)
          where
            of : (vs : List (Want ℕ)) → AllStand names vs (Whole a ∷ (rest s ns)) → AllStand later (still_missed known vs) (part t m ++ (rest t ns))
            of [] h = absurd h
            of (AnElement b k ∷ us) h = absurd h.0
            of (Whole b ∷ us) h =
                let same : d ≡ b = P.x.data_stand.naming.one_name d b a i h.0 in
                subst (λ (z : ℕ). AllStand later (still_missed known (Whole z ∷ us)) (part t m ++ (rest t ns))) same (first d a us i il nc yc (ih us h.1))

    -- and of one element
    one_still : (m : Need) → Waited (part s m) (part t m) → (vs : List (Want ℕ)) → AllStand names vs (part s m ++ []) → (still_missed known vs ≡ [] → ⊥) → AllStand later (still_missed known vs) (part t m ++ [])
    one_still m (none ps pt) vs h ne = of vs (subst (λ (l : List (Want Place)). AllStand names vs (l ++ [])) ps h) ne
      where
        of : (vs : List (Want ℕ)) → AllStand names vs [] → (still_missed known vs ≡ [] → ⊥) → AllStand later (still_missed known vs) (part t m ++ [])
        of [] h ne = absurd (ne refl)
        of (v ∷ vs) h ne = absurd h
    one_still m (whole d a i il ps nc) vs h ne = of vs (subst (λ (l : List (Want Place)). AllStand names vs (l ++ [])) ps h) ne
      where
        of : (vs : List (Want ℕ)) → AllStand names vs (Whole a ∷ []) → (still_missed known vs ≡ [] → ⊥) → AllStand later (still_missed known vs) (part t m ++ [])
        of [] h = absurd h
        of (AnElement b k ∷ us) h = absurd h.0
        of (Whole b ∷ u ∷ us) h = absurd h.1
        of (Whole b ∷ []) h =
            choose (λ (l : List (Want ℕ)). (l ≡ [] → ⊥) → AllStand later l (part t m ++ [])) (not (is_covered known (Whole b))) (Whole b ∷ []) []
            (λ z ne. let same : d ≡ b = P.x.data_stand.naming.one_name d b a i h.0 in
            subst (λ (l : List (Want Place)). AllStand later (Whole b ∷ []) (l ++ [])) (sym (nc (subst (λ (y : ℕ). is_covered known (Whole y) ≡ false) (sym same) (not-true (is_covered known (Whole b)) z)))) (subst (λ (y : ℕ). In (y, a) later) same il, tt))
            (λ z ne. absurd (ne refl))
    one_still m (element d a k i il ps nc) vs h ne = of vs (subst (λ (l : List (Want Place)). AllStand names vs (l ++ [])) ps h) ne
      where
        of : (vs : List (Want ℕ)) → AllStand names vs (AnElement a k ∷ []) → (still_missed known vs ≡ [] → ⊥) → AllStand later (still_missed known vs) (part t m ++ [])
        of [] h = absurd h
        of (Whole b ∷ us) h = absurd h.0
        of (AnElement b l ∷ u ∷ us) h = absurd h.1
        of (AnElement b l ∷ []) h =
            choose (λ (z : List (Want ℕ)). (z ≡ [] → ⊥) → AllStand later z (part t m ++ [])) (not (is_covered known (AnElement b l))) (AnElement b l ∷ []) []
            (λ z ne. let same : d ≡ b = P.x.data_stand.naming.one_name d b a i h.0.0 in
            let c : is_covered known (AnElement d k) ≡ false = (λ q. is_covered known (AnElement (same q) (sym h.0.1 q))) ∙ not-true (is_covered known (AnElement b l)) z in
            subst (λ (y : List (Want Place)). AllStand later (AnElement b l ∷ []) (y ++ [])) (sym (nc c)) ((subst (λ (y : ℕ). In (y, a) later) same il, h.0.1), tt))
            (λ z ne. absurd (ne refl))

    pub still_stand : (vs : List (Want ℕ)) → AllStand names vs (flat_map (wanted C s) (flat_map (inputs_at C p) (entry C e).needs)) → (still_missed known vs ≡ [] → ⊥) → AllStand later (still_missed known vs) (flat_map (wanted C t) (flat_map (inputs_at C p) (entry C e).needs))
    still_stand vs h ne = by (shapes (entry C e).act (entry C e).needs (and_parts (list_all fits_kinds (entry C e).needs) _ (I.shape e)).1)
      where
        single : (m : Need) → (entry C e).needs ≡ m ∷ [] → Waited (part s m) (part t m) → AllStand later (still_missed known vs) (flat_map (wanted C t) (flat_map (inputs_at C p) (entry C e).needs))
        single m q g =
            let fs_ = flat_map-append (wanted C s) (inputs_at C p m) [] in
            let ft = flat_map-append (wanted C t) (inputs_at C p m) [] in
            subst (λ (ns : List Need). AllStand later (still_missed known vs) (flat_map (wanted C t) (flat_map (inputs_at C p) ns))) (sym q)
            (subst (λ (l : List (Want Place)). AllStand later (still_missed known vs) l) (sym ft)
            (one_still m g vs (subst (λ (l : List (Want Place)). AllStand names vs l) fs_ (subst (λ (ns : List Need). AllStand names vs (flat_map (wanted C s) (flat_map (inputs_at C p) ns))) q h)) ne))

        by : AllPlain (entry C e).needs ⊎ OneElement (entry C e).needs → AllStand later (still_missed known vs) (flat_map (wanted C t) (flat_map (inputs_at C p) (entry C e).needs))
        by (inl pl) = plain_still (entry C e).needs (λ m i. i) pl vs h
        by (inr (at_name a r q)) =
            let i : In (At a r) (entry C e).needs = subst (λ (l : List Need). In (At a r) l) (sym q) (inl refl) in
            let k = and_parts (is_array_name a) (not (is_array_name r)) (kinds (At a r) i) in
            let ia = I.needs e (At a r) a i (inl refl) in
            single (At a r) q (at_waited a r ia (I.needs e (At a r) r i (inr (inl refl))) k.0 (not-true (is_array_name r) k.1) (res a ia))
        by (inr (at_key a k q)) =
            let i : In (AtKey a k) (entry C e).needs = subst (λ (l : List Need). In (AtKey a k) l) (sym q) (inl refl) in
            let ia = I.needs e (AtKey a k) a i (inl refl) in
            single (AtKey a k) q (key_waited a k ia (kinds (AtKey a k) i) (res a ia))

    nil_append : (xs ys : List (Want Place)) → xs ++ ys ≡ [] → xs ≡ []
    nil_append [] ys h = refl
    nil_append (x ∷ xs) ys h = no_nil h

    -- where nothing was missed, nothing is
    pub none_later : flat_map (wanted C s) (flat_map (inputs_at C p) (entry C e).needs) ≡ [] → flat_map (wanted C t) (flat_map (inputs_at C p) (entry C e).needs) ≡ []
    none_later z = by (shapes (entry C e).act (entry C e).needs (and_parts (list_all fits_kinds (entry C e).needs) _ (I.shape e)).1)
      where
        gone : (m : Need) → Waited (part s m) (part t m) → part s m ≡ [] → part t m ≡ []
        gone m (none ps pt) y = pt
        gone m (whole d a i il ps nc) y = no_nil (sym ps ∙ y)
        gone m (element d a k i il ps nc) y = no_nil (sym ps ∙ y)

        single : (m : Need) → (entry C e).needs ≡ m ∷ [] → Waited (part s m) (part t m) → flat_map (wanted C t) (flat_map (inputs_at C p) (entry C e).needs) ≡ []
        single m q g =
            let y : part s m ≡ [] = nil_append (part s m) [] (sym (flat_map-append (wanted C s) (inputs_at C p m) []) ∙ ap (λ (ns : List Need). flat_map (wanted C s) (flat_map (inputs_at C p) ns)) (sym q) ∙ z) in
            ap (λ (ns : List Need). flat_map (wanted C t) (flat_map (inputs_at C p) ns)) q ∙ flat_map-append (wanted C t) (inputs_at C p m) [] ∙ ap (λ (l : List (Want Place)). l ++ []) (gone m g y)

        by : AllPlain (entry C e).needs ⊎ OneElement (entry C e).needs → flat_map (wanted C t) (flat_map (inputs_at C p) (entry C e).needs) ≡ []
        by (inl pl) = none_left later (flat_map (wanted C t) (flat_map (inputs_at C p) (entry C e).needs)) (plain_still (entry C e).needs (λ m i. i) pl [] (subst (λ (l : List (Want Place)). AllStand names [] l) (sym z) tt))
        by (inr (at_name a r q)) =
            let i : In (At a r) (entry C e).needs = subst (λ (l : List Need). In (At a r) l) (sym q) (inl refl) in
            let k = and_parts (is_array_name a) (not (is_array_name r)) (kinds (At a r) i) in
            let ia = I.needs e (At a r) a i (inl refl) in
            single (At a r) q (at_waited a r ia (I.needs e (At a r) r i (inr (inl refl))) k.0 (not-true (is_array_name r) k.1) (res a ia))
        by (inr (at_key a k q)) =
            let i : In (AtKey a k) (entry C e).needs = subst (λ (l : List Need). In (AtKey a k) l) (sym q) (inl refl) in
            let ia = I.needs e (AtKey a k) a i (inl refl) in
            single (AtKey a k) q (key_waited a k ia (kinds (AtKey a k) i) (res a ia))
