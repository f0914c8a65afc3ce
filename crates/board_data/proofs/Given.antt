-- Holds that are given up, one after the other.
use Rattle.std.proofs.Common.{◌≡◌, ◌≢◌, ◌∙◌, refl, sym, ap, subst, inl, inr, ℕ, zero, suc, ◌<◌, ◌≤◌, ◌+◌, ◌-◌, List, [], ◌∷◌, Option, Some, None, Bool, true, false, ◌==◌, ◌&&◌, zero-add, arith}
use Rattle.std.specs.Prelude.{if◌then◌else◌, nat_eq}
use Rattle.std.proofs.lemmas.Bool.{cases_eq, cases_Bool, eqb-true, eq-eqb}
use Rattle.board_program.specs.declared.lexical_address.LexicalAddress.{LexicalAddress}
use Rattle.board_instances.specs.Names.{datum_of}
use Rattle.data_store.specs.Data.{is_spent, kept, without_read, without_write}
use Rattle.data_store.specs.Stores.{Store, at, datum, given_up, kept_after, or_none}
use Rattle.data_store.specs.declared.datum.Datum.{Datum}
use Rattle.board_history.specs.Ending.{slot_is}
use Rattle.board_history.specs.Fields.{Absent, DatumOf, LiteralOf, Slot}
use Rattle.board_data.specs.Holds.{GivesUp, fewer}
use Rattle.board_program.specs.Tables.{led_times}
use Rattle.board_data.proofs.Changes.{set_elsewhere, set_here, set_nowhere}
use Rattle.board_data.proofs.Steps.{one_by_one}

pub differ : (d k : ℕ) → nat_eq d k ≡ false → d ≢ k
differ d k f e = let q : true ≡ false = sym (eq-eqb d k e) ∙ f in absurd cc

pub kept_gone : (x : Datum) → is_spent x ≡ true → kept x ≡ None
kept_gone x h = ap (λ b. if b then None else Some x) h

pub kept_there : (x : Datum) → is_spent x ≡ false → kept x ≡ Some x
kept_there x h = ap (λ b. if b then None else Some x) h

-- one count
module _ (count : Datum → ℕ) (take : Datum → Datum) where
  abbrev pub call : ℕ → Store → Store
  call d s = if count (datum s d) == 0 then s else given_up d take s

  abbrev pub call_at : Option ℕ → Store → Store
  call_at None s = s
  call_at (Some d) s = call d s

  abbrev pub taken : ℕ → Datum → Datum
  taken zero x = x
  taken (suc m) x = taken m (take x)

  call_nowhere : (s : Store) (d k : ℕ) → at s d ≡ None → at (call k s) d ≡ None
  call_nowhere s d k e = by (count (datum s k) == 0)
    where
      by : (b : Bool) → at (if b then s else given_up k take s) d ≡ None
      by true = e
      by false = elim (cases_eq d k) [
        | inl same ↦ subst (λ j. at (given_up j take s) d ≡ None) same (ap (λ c. at (record s { cells = Rattle.std.specs.Prelude.slice_set s.cells d (kept_after take c) }) d) e ∙ set_nowhere s.cells d e)
        | inr other ↦ set_elsewhere s k d (kept_after take (at s k)) other ∙ e
      ]

  call_elsewhere : (s : Store) (d k : ℕ) → d ≢ k → at (call k s) d ≡ at s d
  call_elsewhere s d k n = by (count (datum s k) == 0)
    where
      by : (b : Bool) → at (if b then s else given_up k take s) d ≡ at s d
      by true = refl
      by false = set_elsewhere s k d (kept_after take (at s k)) n

  call_here : (s : Store) (d : ℕ) (x : Datum) → at s d ≡ Some x → 0 < count x → at (call d s) d ≡ kept (take x)
  call_here s d x e h =
      ap (λ b. at (if b then s else given_up d take s) d) (ap (λ c. count (or_none c) == 0) e ∙ some (count x) h)
      ∙ set_here s d x (kept_after take (at s d)) e ∙ ap (kept_after take) e
    where
      some : (n : ℕ) → 0 < n → (n == 0) ≡ false
      some n h = elim (cases_Bool (n == 0)) [ inl t ↦ absurd (omega (arith, h, eqb-true n 0 t)) | inr g ↦ g ]

  call_stays : (s : Store) (d : ℕ) (x : Datum) → at s d ≡ Some x → count x ≡ 0 → at (call d s) d ≡ at s d
  call_stays s d x e h = ap (λ b. at (if b then s else given_up d take s) d) (ap (λ c. count (or_none c) == 0) e ∙ ap (λ n. n == 0) h)

  pub slot_stays : (g : Slot) (s : Store) (d : ℕ) (x : Datum) → slot_is d g ≡ true → at s d ≡ Some x → count x ≡ 0 → at (call_at (datum_of g) s) d ≡ at s d
  slot_stays Absent s d x t e h = refl
  slot_stays (LiteralOf i k) s d x t e h = refl
  slot_stays (DatumOf k) s d x t e h = ap (λ j. at (call j s) d) (sym (eqb-true d k t)) ∙ call_stays s d x e h

  pub slot_elsewhere : (g : Slot) (s : Store) (d : ℕ) → slot_is d g ≡ false → at (call_at (datum_of g) s) d ≡ at s d
  slot_elsewhere Absent s d h = refl
  slot_elsewhere (LiteralOf i k) s d h = refl
  slot_elsewhere (DatumOf k) s d h = call_elsewhere s d k (differ d k h)

  pub slot_here : (g : Slot) (s : Store) (d : ℕ) (x : Datum) → slot_is d g ≡ true → at s d ≡ Some x → 0 < count x → at (call_at (datum_of g) s) d ≡ kept (take x)
  slot_here Absent s d x t e h = absurd cc
  slot_here (LiteralOf i k) s d x t e h = absurd cc
  slot_here (DatumOf k) s d x t e h = ap (λ j. at (call j s) d) (sym (eqb-true d k t)) ∙ call_here s d x e h

  pub slot_nowhere : (g : Slot) (s : Store) (d : ℕ) → at s d ≡ None → at (call_at (datum_of g) s) d ≡ None
  slot_nowhere Absent s d e = e
  slot_nowhere (LiteralOf i k) s d e = e
  slot_nowhere (DatumOf k) s d e = call_nowhere s d k e

  module _ (f : LexicalAddress → Slot) where
    abbrev pub give_step : LexicalAddress → Store → Store
    give_step p s = call_at (datum_of (f p)) s

    pub all_nowhere : (ps : List LexicalAddress) (s : Store) (d : ℕ) → at s d ≡ None → at (one_by_one give_step ps s) d ≡ None
    all_nowhere [] s d e = e
    all_nowhere (p ∷ ps) s d e = all_nowhere ps (give_step p s) d (slot_nowhere (f p) s d e)

    pub led_not : (p : LexicalAddress) (ps : List LexicalAddress) (d : ℕ) → slot_is d (f p) ≡ false → led_times f d (p ∷ ps) ≡ led_times f d ps
    led_not p ps d h = ap (λ b. (if b then 1 else 0) + led_times f d ps) h ∙ zero-add (led_times f d ps)

    pub led_once : (p : LexicalAddress) (ps : List LexicalAddress) (d : ℕ) → slot_is d (f p) ≡ true → led_times f d (p ∷ ps) ≡ suc (led_times f d ps)
    led_once p ps d h = ap (λ b. (if b then 1 else 0) + led_times f d ps) h ∙ one (led_times f d ps)
      where
        one : (n : ℕ) → 1 + n ≡ suc n
        one n = omega arith

    module _ (less : (x : Datum) → count (take x) ≡ count x - 1) (spent : (x : Datum) → is_spent x ≡ true → count x ≡ 0) where
      pub all_given : (ps : List LexicalAddress) (s : Store) (d : ℕ) (x : Datum) → at s d ≡ Some x → is_spent x ≡ false → led_times f d ps ≤ count x → at (one_by_one give_step ps s) d ≡ kept (taken (led_times f d ps) x)
      all_given [] s d x e n h = e ∙ sym (kept_there x n)
      all_given (p ∷ ps) s d x e n h = elim (cases_Bool (slot_is d (f p))) [
        | inr no_slot ↦ all_given ps (give_step p s) d x (slot_elsewhere (f p) s d no_slot ∙ e) n (subst (λ k. k ≤ count x) (led_not p ps d no_slot) h) ∙ ap (λ k. kept (taken k x)) (sym (led_not p ps d no_slot))
        | inl yes_slot ↦ (let m : suc (led_times f d ps) ≤ count x = subst (λ k. k ≤ count x) (led_once p ps d yes_slot) h in
            let now = slot_here (f p) s d x yes_slot e (omega (arith, m)) in
            elim (cases_Bool (is_spent (take x))) [
              | inl gone ↦ all_nowhere ps (give_step p s) d (now ∙ kept_gone (take x) gone) ∙ sym (ap (λ k. kept (taken k x)) (led_once p ps d yes_slot) ∙ ap (λ k. kept (taken k (take x))) (last (led_times f d ps) (count x) m (sym (less x) ∙ spent (take x) gone)) ∙ kept_gone (take x) gone)
              | inr more ↦ all_given ps (give_step p s) d (take x) (now ∙ kept_there (take x) more) more (fits (led_times f d ps) (count x) (count (take x)) m (less x)) ∙ ap (λ k. kept (taken k x)) (sym (led_once p ps d yes_slot))
            ])
      ]
        where
          last : (n c : ℕ) → suc n ≤ c → c - 1 ≡ 0 → n ≡ 0
          last n c m z = omega (arith, m, z)

          fits : (n c b : ℕ) → suc n ≤ c → b ≡ c - 1 → n ≤ b
          fits n c b m e = omega (arith, m, e)

-- the two counts of a datum
less_nothing : (n : ℕ) → n - 0 ≡ n
less_nothing n = omega arith

less_one : (n m : ℕ) → (n - 1) - m ≡ n - suc m
less_one n m = omega arith

taken_reads : (m : ℕ) (x : Datum) → taken (λ (y : Datum). y.reads) without_read m x ≡ fewer m 0 x
taken_reads zero x = sym (ap (λ k. record { content = x.content; reads = k; writes = x.writes - 0 }) (less_nothing x.reads) ∙ ap (λ k. record { content = x.content; reads = x.reads; writes = k }) (less_nothing x.writes))
taken_reads (suc m) x = taken_reads m (without_read x) ∙ ap (λ k. record { content = x.content; reads = k; writes = x.writes - 0 }) (less_one x.reads m)

taken_writes : (m : ℕ) (x : Datum) → taken (λ (y : Datum). y.writes) without_write m x ≡ fewer 0 m x
taken_writes zero x = sym (ap (λ k. record { content = x.content; reads = k; writes = x.writes - 0 }) (less_nothing x.reads) ∙ ap (λ k. record { content = x.content; reads = x.reads; writes = k }) (less_nothing x.writes))
taken_writes (suc m) x = taken_writes m (without_write x) ∙ ap (λ k. record { content = x.content; reads = x.reads - 0; writes = k }) (less_one x.writes m)

both_zero : (a b : ℕ) → ((a == 0) && (b == 0)) ≡ true → (a ≡ 0) × (b ≡ 0)
both_zero a b h = (eqb-true a 0 (left (a == 0) (b == 0) h), eqb-true b 0 (right (a == 0) (b == 0) h))
  where
    left : (p q : Bool) → (p && q) ≡ true → p ≡ true
    left true q h = refl
    left false q h = h

    right : (p q : Bool) → (p && q) ≡ true → q ≡ true
    right true q h = h
    right false q h = absurd cc

pub spent_zero : (x : Datum) → is_spent x ≡ true → (x.reads ≡ 0) × (x.writes ≡ 0)
spent_zero x h = both_zero x.reads x.writes h

zero_spent : (x : Datum) → x.reads ≡ 0 → x.writes ≡ 0 → is_spent x ≡ true
zero_spent x r w = ap (λ k. (k == 0) && (x.writes == 0)) r ∙ ap (λ k. (0 == 0) && (k == 0)) w

pub gives_reads : (f : LexicalAddress → Slot) (ps : List LexicalAddress) (s t : Store) → t ≡ one_by_one (give_step (λ (y : Datum). y.reads) without_read f) ps s → GivesUp (λ d. led_times f d ps) (λ d. 0) s t
gives_reads f ps s t e = record {
  there = λ d x h n r w. ap (λ u. at u d) e ∙ all_given (λ (y : Datum). y.reads) without_read f (λ y. refl) (λ y z. (spent_zero y z).0) ps s d x h n r ∙ ap kept (taken_reads (led_times f d ps) x);
  nothing = λ d h. ap (λ u. at u d) e ∙ all_nowhere (λ (y : Datum). y.reads) without_read f ps s d h;
}

pub gives_writes : (f : LexicalAddress → Slot) (ps : List LexicalAddress) (s t : Store) → t ≡ one_by_one (give_step (λ (y : Datum). y.writes) without_write f) ps s → GivesUp (λ d. 0) (λ d. led_times f d ps) s t
gives_writes f ps s t e = record {
  there = λ d x h n r w. ap (λ u. at u d) e ∙ all_given (λ (y : Datum). y.writes) without_write f (λ y. refl) (λ y z. (spent_zero y z).1) ps s d x h n w ∙ ap kept (taken_writes (led_times f d ps) x);
  nothing = λ d h. ap (λ u. at u d) e ∙ all_nowhere (λ (y : Datum). y.writes) without_write f ps s d h;
}

-- first those for writing, then those for reading
pub gives_both : (r w : ℕ → ℕ) (s m t : Store) → GivesUp (λ d. 0) w s m → GivesUp r (λ d. 0) m t → GivesUp r w s t
gives_both r w s m t a b = record {
  there = λ d x h n p q.
      let mid = a.there d x h n (omega arith) q in
      elim (cases_Bool (is_spent (fewer 0 (w d) x))) [
        | inl gone ↦ (let z = spent_zero (fewer 0 (w d) x) gone in
            b.nothing d (mid ∙ kept_gone (fewer 0 (w d) x) gone) ∙ sym (kept_gone (fewer (r d) (w d) x) (zero_spent (fewer (r d) (w d) x) (still x.reads (r d) z.0) z.1)))
        | inr more ↦ b.there d (fewer 0 (w d) x) (mid ∙ kept_there (fewer 0 (w d) x) more) more (same x.reads (r d) p) (omega arith)
            ∙ ap kept (ap (λ k. record { content = x.content; reads = k; writes = (x.writes - w d) - 0 }) (less_first x.reads (r d)) ∙ ap (λ k. record { content = x.content; reads = x.reads - r d; writes = k }) (less_nothing (x.writes - w d)))
      ];
  nothing = λ d h. b.nothing d (a.nothing d h);
}
  where
    still : (n k : ℕ) → n - 0 ≡ 0 → n - k ≡ 0
    still n k h = omega (arith, h)

    same : (n k : ℕ) → k ≤ n → k ≤ n - 0
    same n k h = omega (arith, h)

    less_first : (n k : ℕ) → (n - 0) - k ≡ n - k
    less_first n k = omega arith
