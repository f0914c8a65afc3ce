-- A whole run of the code of `printf("hello");`, and two of one that writes a key twice.
use Rattle.std.proofs.Common.{◌≡◌, inl, inr, ℕ, List, [], ◌∷◌, ◌++◌, refl, sym, ap, subst, Option, None, Some, true, false}
use Rattle.std.proofs.Common.{arith}
use Rattle.std.specs.Prelude.{pos}
use Rattle.std.proofs.lemmas.Fmt.{decimal_digit}
use Rattle.dataflow.specs.System.{Answer, Effect, Found, Good, In, Input, StoredScalar, Write}
use Rattle.dataflow.specs.Machine.{Item as MachineItem, ElementTwice, Begin, End, Step as MachineStep, Enabled, Holds, IsKnown, SeesAll, Clashes, Leaves, ended, start}
use Rattle.values.specs.declared.key.Key.{Key}
use Rattle.values.specs.declared.key.Key.TheVariants.{Number as number_key}
use Rattle.values.specs.declared.value.Scalar.{Scalar}
use Rattle.values.specs.declared.value.Scalar.TheVariants.{Number, Text}
use Rattle.task_code.specs.Code.{Code, scalar}
use Rattle.task_code.specs.Places.{Place, Datum, place_array}
use Rattle.task_code.specs.Effects.{Task, Main, Item, block}
use Rattle.task_code.specs.System.{code_system}
use Rattle.task_code.specs.Machine.{CodeState}
use Rattle.task_code.specs.Worked.{hello, key_written_twice, used_before_assigned, HelloRuns, SecondWriteFaults, WaitsForAssignment}

-- an item with an offset
abbrev one : ℕ → Task → Option ℕ → MachineItem Task
one n t r = record { number = n; task = t; runs = r }

module _ (C : Code) where
  same_state : (s : CodeState) → Leaves (code_system C) s s
  same_state s = record {
    items = refl;
    next = refl;
    lines = refl;
    fault = refl;
    no_new_place = λ a i. i;
    stays = λ a i. inl i;
    no_new_value = λ w i. i;
    value_stays = λ w i. inl i;
  }

  abbrev begun : CodeState → ℕ → ℕ → Task → List (MachineItem Task) → List (MachineItem Task) → CodeState
  begun s w n t before after = record s { items = before ++ one n t (Some w) ∷ after }

  begins : (s : CodeState) (w n : ℕ) (t : Task) (before after : List (MachineItem Task)) → s.fault ≡ None → s.items ≡ before ++ one n t None ∷ after → Enabled (code_system C) s t → MachineStep (code_system C) s (Begin w n) (begun s w n t before after)
  begins s w n t before after none at enabled =
      (none, record { item = one n t None; before = before; after = after; at = record { items = at; number_is = refl }; idle = refl; enabled = enabled; result = same_state _ })

  -- an effect that writes no element that is there
  ends : (s : CodeState) (w n : ℕ) (t : Task) (before after : List (MachineItem Task)) (xs : List (Answer Key Scalar)) (e : Effect Task Place Key Scalar) → s.fault ≡ None → s.items ≡ before ++ one n t (Some w) ∷ after → SeesAll (code_system C) s ((code_system C).inputs t) xs → (code_system C).effect t xs ≡ Good e → (Clashes (code_system C) s e → ⊥) → MachineStep (code_system C) s (End w n) (ended (code_system C) s (before ++ after) e)
  ends s w n t before after xs e none at known is calm =
      (none, record { item = one n t (Some w); before = before; after = after; at = record { items = at; number_is = refl }; runs = refl; answers = xs; known = known; result = rw is (inr (calm, same_state _)) })

  -- and one that does
  faults : (s : CodeState) (w n : ℕ) (t : Task) (before after : List (MachineItem Task)) (xs : List (Answer Key Scalar)) (e : Effect Task Place Key Scalar) → s.fault ≡ None → s.items ≡ before ++ one n t (Some w) ∷ after → SeesAll (code_system C) s ((code_system C).inputs t) xs → (code_system C).effect t xs ≡ Good e → Clashes (code_system C) s e → MachineStep (code_system C) s (End w n) (record s { fault = Some (t, ElementTwice) })
  faults s w n t before after xs e none at known is clash =
      (none, record { item = one n t (Some w); before = before; after = after; at = record { items = at; number_is = refl }; runs = refl; answers = xs; known = known; result = rw is (inl (clash, same_state _)) })

  abbrev script : Effect Task Place Key Scalar
  script = record { writes = []; lines = []; opens = block C (0, []) ∷ [] }

  abbrev first : CodeState
  first = begun (start (code_system C)) 0 1 Main [] []

  abbrev opened : CodeState
  opened = ended (code_system C) first [] script

  first_step : MachineStep (code_system C) (start (code_system C)) (Begin 0 1) first
  first_step = begins (start (code_system C)) 0 1 Main [] [] refl refl (λ n i. absurd i)

  opening_step : MachineStep (code_system C) first (End 0 1) opened
  opening_step = ends first 0 1 Main [] [] [] script refl refl tt refl (λ x. x.5)

abbrev printed : Effect Task Place Key Scalar
printed = record { writes = []; lines = Text (104 ∷ 101 ∷ 108 ∷ 108 ∷ 111 ∷ []) ∷ []; opens = [] }

abbrev printing : CodeState
printing = begun hello (opened hello) 1 2 (Item 0 [] 0) [] []

pub hello_runs : HelloRuns
hello_runs = (
  ended (code_system hello) printing [] printed,
  (
    first hello,
    first_step hello,
    (
      opened hello,
      opening_step hello,
      (
        printing,
        begins hello (opened hello) 1 2 (Item 0 [] 0) [] [] refl refl (λ n i. absurd i),
        (ended (code_system hello) printing [] printed, ends hello printing 1 2 (Item 0 [] 0) [] [] [] printed refl refl tt refl (λ x. x.5), refl),
      ),
    ),
  ),
  record { no_fault = refl; idle = λ i h. absurd h; none_enabled = λ i h. absurd h },
  refl,
)

-- A[0] = 1 or 2
abbrev writes : ℕ → Effect Task Place Key Scalar
writes n = record { writes = record { place = Datum [] (record { node = 1; array = true }); key = number_key (pos 0); value = Number (pos n) } ∷ []; lines = []; opens = [] }

abbrev rest : List (MachineItem Task)
rest = one 4 (Item 2 [] 0) None ∷ one 5 (Item 3 [] 0) None ∷ []

abbrev early : List (MachineItem Task)
early = one 3 (Item 1 [] 0) None ∷ rest

abbrev late : List (MachineItem Task)
late = one 2 (Item 0 [] 0) None ∷ []

-- the item 2 first, then 3
abbrev a1 : CodeState
a1 = begun key_written_twice (opened key_written_twice) 1 2 (Item 0 [] 0) [] early

abbrev a2 : CodeState
a2 = ended (code_system key_written_twice) a1 early (writes 1)

abbrev a3 : CodeState
a3 = begun key_written_twice a2 1 3 (Item 1 [] 0) [] rest

-- the item 3 first, then 2
abbrev b1 : CodeState
b1 = begun key_written_twice (opened key_written_twice) 1 3 (Item 1 [] 0) late rest

abbrev b2 : CodeState
b2 = ended (code_system key_written_twice) b1 (late ++ rest) (writes 2)

abbrev b3 : CodeState
b3 = begun key_written_twice b2 1 2 (Item 0 [] 0) [] rest

clash : (n m : ℕ) (s : CodeState) → s.stored ≡ (writes n).writes → Clashes (code_system key_written_twice) s (writes m)
clash n m s e = (Datum [] (record { node = 1; array = true }), number_key (pos 0), Number (pos m), Number (pos n), refl, inl refl, rw e (inl refl))

pub second_write_faults : SecondWriteFaults
second_write_faults = (
  (
    record a3 { fault = Some (Item 1 [] 0, ElementTwice) },
    (
      first key_written_twice,
      first_step key_written_twice,
      (
        opened key_written_twice,
        opening_step key_written_twice,
        (
          a1,
          begins key_written_twice (opened key_written_twice) 1 2 (Item 0 [] 0) [] early refl refl (λ n i. absurd i),
          (
            a2,
            ends key_written_twice a1 1 2 (Item 0 [] 0) [] early [] (writes 1) refl refl tt refl (λ x. x.6),
            (
              a3,
              begins key_written_twice a2 1 3 (Item 1 [] 0) [] rest refl refl (λ n i. absurd i),
              (record a3 { fault = Some (Item 1 [] 0, ElementTwice) }, faults key_written_twice a3 1 3 (Item 1 [] 0) [] rest [] (writes 2) refl refl tt refl (clash 1 2 a3 refl), refl),
            ),
          ),
        ),
      ),
    ),
    refl,
  ),
  (
    record b3 { fault = Some (Item 0 [] 0, ElementTwice) },
    (
      first key_written_twice,
      first_step key_written_twice,
      (
        opened key_written_twice,
        opening_step key_written_twice,
        (
          b1,
          begins key_written_twice (opened key_written_twice) 1 3 (Item 1 [] 0) late rest refl refl (λ n i. absurd i),
          (
            b2,
            ends key_written_twice b1 1 3 (Item 1 [] 0) late rest [] (writes 2) refl refl tt refl (λ x. x.6),
            (
              b3,
              begins key_written_twice b2 1 2 (Item 0 [] 0) [] rest refl refl (λ n i. absurd i),
              (record b3 { fault = Some (Item 0 [] 0, ElementTwice) }, faults key_written_twice b3 1 2 (Item 0 [] 0) [] rest [] (writes 1) refl refl tt refl (clash 2 1 b3 refl), refl),
            ),
          ),
        ),
      ),
    ),
    refl,
  ),
)

-- the second script: its items are 2 for x = y + 1, 3 for y = 2, 4 for printf
abbrev x_place : Place
x_place = Datum [] (scalar 1)

abbrev y_place : Place
y_place = Datum [] (scalar 2)

abbrev stores : Place → ℕ → Effect Task Place Key Scalar
stores d n = record { writes = record { place = d; key = number_key (pos 0); value = Number (pos n) } ∷ []; lines = []; opens = [] }

abbrev prints_three : Effect Task Place Key Scalar
prints_three = record { writes = []; lines = Text (51 ∷ []) ∷ []; opens = [] }

abbrev sets_x : MachineItem Task
sets_x = one 2 (Item 0 [] 0) None

abbrev prints_x : MachineItem Task
prints_x = one 4 (Item 2 [] 0) None

abbrev c0 : CodeState
c0 = opened used_before_assigned

abbrev c1 : CodeState
c1 = begun used_before_assigned c0 1 3 (Item 1 [] 0) (sets_x ∷ []) (prints_x ∷ [])

abbrev c2 : CodeState
c2 = ended (code_system used_before_assigned) c1 (sets_x ∷ prints_x ∷ []) (stores y_place 2)

abbrev c3 : CodeState
c3 = begun used_before_assigned c2 1 2 (Item 0 [] 0) [] (prints_x ∷ [])

abbrev c4 : CodeState
c4 = ended (code_system used_before_assigned) c3 (prints_x ∷ []) (stores x_place 3)

abbrev c5 : CodeState
c5 = begun used_before_assigned c4 1 4 (Item 2 [] 0) [] []

abbrev c6 : CodeState
c6 = ended (code_system used_before_assigned) c5 [] prints_three

-- the one input of an item is known
one_known : (s : CodeState) (d : Place) (n : ℕ) (t : Task) → (code_system used_before_assigned).inputs t ≡ StoredScalar d ∷ [] → Holds (code_system used_before_assigned) s d (number_key (pos 0)) (Number (pos n)) → Enabled (code_system used_before_assigned) s t
one_known s d n t e h = λ i m. by i (subst (λ (is : List (Input Place Key)). In i is) e m)
  where
    by : (i : Input Place Key) → In i (StoredScalar d ∷ []) → IsKnown (code_system used_before_assigned) s i
    by i (inl p) = subst (λ (z : Input Place Key). IsKnown (code_system used_before_assigned) s z) (sym p) (Number (pos n), h)
    by i (inr x) = absurd x

scalar_clash : (a : Place) (k : Key) (v : Scalar) (n : ℕ) → place_array a ≡ true → In (record { place = a; key = k; value = v }) (stores x_place n).writes → ⊥
scalar_clash a k v n h i = elim i [ inl p ↦ (let q : a ≡ x_place = ap (λ (w : Write Place Key Scalar). w.place) p in let no : false ≡ true = subst (λ (z : Place). place_array z ≡ true) q h in absurd (cc)) | inr x ↦ x ]

-- 3 is printed as a digit
three_printed : (code_system used_before_assigned).effect (Item 2 [] 0) (Found (Number (pos 3)) ∷ []) ≡ Good prints_three
three_printed =
    ap (λ (l : List ℕ). Good (record { writes = []; lines = Text (l ++ []) ∷ []; opens = [] })) (decimal_digit 3 (omega arith))

pub waits_for_assignment : WaitsForAssignment
waits_for_assignment = (
  c0,
  (first used_before_assigned, first_step used_before_assigned, (c0, opening_step used_before_assigned, refl)),
  (λ h. (h (StoredScalar y_place) (inl refl)).1),
  (
    c6,
    (
      first used_before_assigned,
      first_step used_before_assigned,
      (
        c0,
        opening_step used_before_assigned,
        (
          c1,
          begins used_before_assigned c0 1 3 (Item 1 [] 0) (sets_x ∷ []) (prints_x ∷ []) refl refl (λ n i. absurd i),
          (
            c2,
            ends used_before_assigned c1 1 3 (Item 1 [] 0) (sets_x ∷ []) (prints_x ∷ []) [] (stores y_place 2) refl refl tt refl (λ x. x.6),
            (
              c3,
              begins used_before_assigned c2 1 2 (Item 0 [] 0) [] (prints_x ∷ []) refl refl (one_known c2 y_place 2 (Item 0 [] 0) refl (inl refl)),
              (
                c4,
                ends used_before_assigned c3 1 2 (Item 0 [] 0) [] (prints_x ∷ []) (Found (Number (pos 2)) ∷ []) (stores x_place 3) refl refl ((Number (pos 2), inl refl, refl), tt) refl (λ x. scalar_clash x.0 x.1 x.2 3 x.4 x.5),
                (
                  c5,
                  begins used_before_assigned c4 1 4 (Item 2 [] 0) [] [] refl refl (one_known c4 x_place 3 (Item 2 [] 0) refl (inl refl)),
                  (c6, ends used_before_assigned c5 1 4 (Item 2 [] 0) [] [] (Found (Number (pos 3)) ∷ []) prints_three refl refl ((Number (pos 3), inl refl, refl), tt) three_printed (λ x. x.5), refl),
                ),
              ),
            ),
          ),
        ),
      ),
    ),
    record { no_fault = refl; idle = λ i h. absurd h; none_enabled = λ i h. absurd h },
    refl,
  ),
)
