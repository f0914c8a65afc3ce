-- The arrays that lose their last holds for writing.
use Rattle.std.proofs.Common.{◌≡◌, ◌≢◌, ◌∙◌, refl, sym, ap, subst, inl, inr, ℕ, suc, ◌<◌, ◌≤◌, ◌+◌, ◌-◌, List, [], ◌∷◌, ◌++◌, length, drop, drop-cons, get_or, add-one, append_assoc, append-nil, Option, Some, None, Bool, true, false, ◌==◌, ◌&&◌, arith}
use Rattle.std.specs.Prelude.{if◌then◌else◌}
use Rattle.std.proofs.lemmas.Bool.{cases_eq, cases_Bool, eqb-true, eq-eqb}
use Rattle.board_program.specs.declared.lexical_address.LexicalAddress.{LexicalAddress}
use Rattle.board_instances.specs.Names.{datum_of}
use Rattle.dataflow.specs.System.{In}
use Rattle.dataflow.proofs.Lists.{in_left, in_right, in_split}
use Rattle.data_store.specs.Data.{is_spent, kept, without_write}
use Rattle.data_store.specs.Stores.{Store, at}
use Rattle.data_store.specs.declared.datum.Datum.{Datum}
use Rattle.board_history.specs.Ending.{slot_is}
use Rattle.board_history.specs.Fields.{Absent, DatumOf, LiteralOf, Slot}
use Rattle.board_data.specs.Data.{closes, is_keyed}
use Rattle.board_data.specs.Holds.{Closes, closing}
use Rattle.board_program.specs.Tables.{led_times}
use Rattle.board_data.proofs.Given.{give_step, kept_gone, kept_there, led_not, led_once, slot_elsewhere, slot_here, slot_nowhere, slot_stays, spent_zero}
use Rattle.board_data.proofs.Steps.{past}

module _ (f : LexicalAddress → Slot) where
  abbrev pub step : LexicalAddress → Store → Store
  step p s = give_step (λ (y : Datum). y.writes) without_write f p s

  -- the arrays that are closed, one after the other
  abbrev pub all_closing : List LexicalAddress → Store → List ℕ
  all_closing [] s = []
  all_closing (p ∷ ps) s = closing (datum_of (f p)) s ++ all_closing ps (step p s)

  some_none : (r : Option Datum) (x : Datum) → r ≡ Some x → r ≡ None → ⊥
  some_none r x s n = let e : Some x ≡ None = sym s ∙ n in absurd cc

  and_both : (p q : Bool) → (p && q) ≡ true → (p ≡ true) × (q ≡ true)
  and_both true q h = (refl, h)
  and_both false q h = absurd cc

  -- what one spot closes
  closed_one : (g : Slot) (s : Store) (d : ℕ) → In d (closing (datum_of g) s) → (slot_is d g ≡ true) × (closes (at s d) ≡ true)
  closed_one Absent s d i = absurd i
  closed_one (LiteralOf k n) s d i = absurd i
  closed_one (DatumOf k) s d i = elim (cases_Bool (closes (at s k))) [
    | inl t ↦ (let j : In d (k ∷ []) = subst (λ b. In d (if b then k ∷ [] else [])) t i in
        elim j [ inl e ↦ (eq-eqb d k e, ap (λ m. closes (at s m)) e ∙ t) | inr n ↦ absurd n ])
    | inr n ↦ absurd (subst (λ b. In d (if b then k ∷ [] else [])) n i)
  ]

  one_closed : (g : Slot) (s : Store) (d : ℕ) → slot_is d g ≡ true → closes (at s d) ≡ true → In d (closing (datum_of g) s)
  one_closed Absent s d t c = absurd cc
  one_closed (LiteralOf k n) s d t c = absurd cc
  one_closed (DatumOf k) s d t c =
      let e = eqb-true d k t in
      subst (λ b. In d (if b then k ∷ [] else [])) (sym (sym (ap (λ m. closes (at s m)) e) ∙ c)) (inl e)

  closes_is : (c : Option Datum) → closes c ≡ true → (x : Datum) × (c ≡ Some x) × (is_keyed (Some x) ≡ true) × (x.writes ≡ 1)
  closes_is None h = absurd cc
  closes_is (Some x) h = let p = and_both (is_keyed (Some x)) (x.writes == 1) h in (x, refl, p.0, eqb-true x.writes 1 p.1)

  is_closes : (c : Option Datum) (x : Datum) → c ≡ Some x → is_keyed (Some x) ≡ true → x.writes ≡ 1 → closes c ≡ true
  is_closes c x e k w = ap closes e ∙ ap (λ b. b && (x.writes == 1)) k ∙ ap (λ n. n == 1) w

  -- the datum after one spot, from the datum before
  module _ (p : LexicalAddress) (s : Store) (d : ℕ) where
    before : (y : Datum) → at (step p s) d ≡ Some y → (x : Datum) × (at s d ≡ Some x)
    before y e = by (at s d) refl
      where
        by : (c : Option Datum) → at s d ≡ c → (x : Datum) × (at s d ≡ Some x)
        by None q = absurd (some_none (at (step p s) d) y e (slot_nowhere (λ (z : Datum). z.writes) without_write (f p) s d q))
        by (Some x) q = (x, q)

  only_closed : (ps : List LexicalAddress) (s : Store) (d : ℕ) → In d (all_closing ps s) → (x : Datum) × (at s d ≡ Some x) × (is_keyed (Some x) ≡ true) × (x.writes ≤ led_times f d ps)
  only_closed [] s d i = absurd i
  only_closed (p ∷ ps) s d i = elim (in_split d (closing (datum_of (f p)) s) (all_closing ps (step p s)) i) [
    | inl now ↦ (let a = closed_one (f p) s d now in
        let b = closes_is (at s d) a.1 in
        (b.0, b.1, b.2, one_led b.0.writes (led_times f d ps) (led_times f d (p ∷ ps)) b.3 (led_once (λ (z : Datum). z.writes) without_write f p ps d a.0)))
    | inr later ↦ (let y = only_closed ps (step p s) d later in
        let x = before p s d y.0 y.1 in
        elim (cases_Bool (slot_is d (f p))) [
          | inr no_slot ↦ (let same : Some x.0 ≡ Some y.0 = sym x.1 ∙ sym (slot_elsewhere (λ (z : Datum). z.writes) without_write (f p) s d no_slot) ∙ y.1 in
              let e : x.0 ≡ y.0 = cc in
              (x.0, x.1, ap (λ z. is_keyed (Some z)) e ∙ y.2, subst (λ k. x.0.writes ≤ k) (sym (led_not (λ (z : Datum). z.writes) without_write f p ps d no_slot)) (subst (λ (z : Datum). z.writes ≤ led_times f d ps) (sym e) y.3)))
          | inl yes_slot ↦ elim (cases_eq x.0.writes 0) [
            | inl none ↦ (let same : Some x.0 ≡ Some y.0 = sym x.1 ∙ sym (slot_stays (λ (z : Datum). z.writes) without_write (f p) s d x.0 yes_slot x.1 none) ∙ y.1 in
                let e : x.0 ≡ y.0 = cc in
                (x.0, x.1, ap (λ z. is_keyed (Some z)) e ∙ y.2, no_led x.0.writes (led_times f d (p ∷ ps)) none))
            | inr some ↦ (let now = slot_here (λ (z : Datum). z.writes) without_write (f p) s d x.0 yes_slot x.1 (omega (arith, some)) in
                let e = kept_is (without_write x.0) y.0 (sym now ∙ y.1) in
                (x.0, x.1, ap (λ z. is_keyed (Some z)) e ∙ y.2, more_led x.0.writes y.0.writes (led_times f d ps) (led_times f d (p ∷ ps)) (ap (λ (z : Datum). z.writes) e) y.3 (led_once (λ (z : Datum). z.writes) without_write f p ps d yes_slot)))
          ]
        ])
  ]
    where
      one_led : (n k m : ℕ) → n ≡ 1 → m ≡ suc k → n ≤ m
      one_led n k m e h = omega (arith, e, h)

      more_led : (n b k m : ℕ) → n - 1 ≡ b → b ≤ k → m ≡ suc k → n ≤ m
      more_led n b k m e h g = omega (arith, e, h, g)

      kept_is : (x y : Datum) → kept x ≡ Some y → x ≡ y
      kept_is x y h = elim (cases_Bool (is_spent x)) [
        | inl t ↦ (let q : None ≡ Some y = sym (kept_gone x t) ∙ h in absurd cc)
        | inr g ↦ (let q : Some x ≡ Some y = sym (kept_there x g) ∙ h in cc)
      ]

      no_led : (n k : ℕ) → n ≡ 0 → n ≤ k
      no_led n k e = omega (arith, e)

  every_closed : (ps : List LexicalAddress) (s : Store) (d : ℕ) (x : Datum) → at s d ≡ Some x → is_keyed (Some x) ≡ true → 0 < x.writes → led_times f d ps ≡ x.writes → In d (all_closing ps s)
  every_closed [] s d x e k w l = absurd (omega (arith, w, l))
  every_closed (p ∷ ps) s d x e k w l = elim (cases_Bool (slot_is d (f p))) [
    | inr no_slot ↦ in_right d (closing (datum_of (f p)) s) (all_closing ps (step p s)) (every_closed ps (step p s) d x (slot_elsewhere (λ (z : Datum). z.writes) without_write (f p) s d no_slot ∙ e) k w (sym (led_not (λ (z : Datum). z.writes) without_write f p ps d no_slot) ∙ l))
    | inl yes_slot ↦ (let m = sym (led_once (λ (z : Datum). z.writes) without_write f p ps d yes_slot) ∙ l in
        elim (cases_eq x.writes 1) [
          | inl one ↦ in_left d (closing (datum_of (f p)) s) (all_closing ps (step p s)) (one_closed (f p) s d yes_slot (is_closes (at s d) x e k one))
          | inr more ↦ in_right d (closing (datum_of (f p)) s) (all_closing ps (step p s))
              (every_closed ps (step p s) d (without_write x) (slot_here (λ (z : Datum). z.writes) without_write (f p) s d x yes_slot e w ∙ kept_there (without_write x) (not_spent x more w)) k (some_left x.writes more w) (one_less x.writes (led_times f d ps) m))
        ])
  ]
    where
      some_left : (n : ℕ) → n ≢ 1 → 0 < n → 0 < n - 1
      some_left n h w = omega (arith, h, w)

      one_less : (n k : ℕ) → suc k ≡ n → k ≡ n - 1
      one_less n k h = omega (arith, h)

      not_spent : (x : Datum) → x.writes ≢ 1 → 0 < x.writes → is_spent (without_write x) ≡ false
      not_spent x h w = elim (cases_Bool (is_spent (without_write x))) [
        | inl t ↦ absurd (omega (arith, (spent_zero (without_write x) t).1, some_left x.writes h w))
        | inr g ↦ g
      ]

  pub closes_all : (ps : List LexicalAddress) (s : Store) → Closes (λ d. led_times f d ps) s (all_closing ps s)
  closes_all ps s = record {
    all = λ d x e k w l. every_closed ps s d x e k w l;
    only = λ d i. only_closed ps s d i;
  }

  -- one spot more
  pub next_closing : (xs : List LexicalAddress) (i : ℕ) (d : LexicalAddress) (s t : Store) (before now all : List ℕ) → i < length xs → before ++ all_closing (drop i xs) s ≡ all → t ≡ step (get_or xs i d) s → now ≡ before ++ closing (datum_of (f (get_or xs i d))) s → now ++ all_closing (drop (i + 1) xs) t ≡ all
  next_closing xs i d s t before now all h e n c =
      ap (λ u. now ++ all_closing (drop (i + 1) xs) u) n
      ∙ ap (λ ys. ys ++ all_closing (drop (i + 1) xs) (step (get_or xs i d) s)) c
      ∙ append_assoc before (closing (datum_of (f (get_or xs i d))) s) (all_closing (drop (i + 1) xs) (step (get_or xs i d) s))
      ∙ ap (λ k. before ++ (closing (datum_of (f (get_or xs i d))) s ++ all_closing (drop k xs) (step (get_or xs i d) s))) (add-one i)
      ∙ ap (λ ys. before ++ all_closing ys s) (sym (drop-cons xs i d h)) ∙ e

  pub last_closing : (xs : List LexicalAddress) (i : ℕ) (s : Store) (now all : List ℕ) → length xs ≤ i → now ++ all_closing (drop i xs) s ≡ all → now ≡ all
  last_closing xs i s now all h e = sym (append-nil now) ∙ ap (λ ys. now ++ all_closing ys s) (sym (past xs i h)) ∙ e
