-- Holds that are added, one after the other.
use Rattle.std.proofs.Common.{◌≡◌, ◌≢◌, ◌∙◌, refl, sym, ap, subst, inl, inr, ℕ, ◌+◌, ◌*◌, List, [], ◌∷◌, option_map, Option, Some, None, Bool, true, false, add_assoc, arith}
use Rattle.std.specs.Prelude.{if◌then◌else◌, nat_eq}
use Rattle.std.proofs.lemmas.Bool.{cases_eq, eqb-true, eq-eqb}
use Rattle.board_program.specs.declared.program.Hold.{Hold}
use Rattle.board_program.specs.declared.lexical_address.LexicalAddress.{LexicalAddress}
use Rattle.board_instances.specs.Names.{datum_of}
use Rattle.data_store.specs.Data.{with_holds}
use Rattle.data_store.specs.Stores.{Store, at, changed}
use Rattle.data_store.specs.declared.datum.Datum.{Datum}
use Rattle.board_history.specs.Ending.{slot_is}
use Rattle.board_history.specs.Fields.{Absent, DatumOf, LiteralOf, Slot}
use Rattle.board_data.specs.Data.{fits, held}
use Rattle.board_program.specs.Tables.{hold_times}
use Rattle.board_data.specs.Holds.{Fit, held_at}
use Rattle.board_data.proofs.Changes.{set_elsewhere, set_here}
use Rattle.board_data.proofs.Steps.{one_by_one}

-- one datum
fits_by : (x : Datum) (r w : ℕ) → Fit r w (Some x) → fits (Some x) r w ≡ true
fits_by x r w h = grind (arith, h)

held_here : (s : Store) (d r w : ℕ) (x : Datum) → at s d ≡ Some x → Fit r w (Some x) → at (held d r w s) d ≡ Some (with_holds r w x)
held_here s d r w x e h =
    ap (λ b. at (if b then changed d (with_holds r w) s else s) d) (ap (λ c. fits c r w) e ∙ fits_by x r w h)
    ∙ set_here s d x (option_map (with_holds r w) (at s d)) e ∙ ap (option_map (with_holds r w)) e

held_nowhere : (s : Store) (d r w : ℕ) → at s d ≡ None → at (held d r w s) d ≡ None
held_nowhere s d r w e = ap (λ b. at (if b then changed d (with_holds r w) s else s) d) (ap (λ c. fits c r w) e) ∙ e

held_elsewhere : (s : Store) (d e r w : ℕ) → d ≢ e → at (held e r w s) d ≡ at s d
held_elsewhere s d e r w n = by (fits (at s e) r w)
  where
    by : (b : Bool) → at (if b then changed e (with_holds r w) s else s) d ≡ at s d
    by true = set_elsewhere s e d (option_map (with_holds r w) (at s e)) n
    by false = refl

-- the datum of a slot
no_more : (c : Option Datum) → option_map (with_holds 0 0) c ≡ c
no_more None = refl
no_more (Some x) = ap Some (grind arith)

-- what so many holds for a slot add to a datum
abbrev part : ℕ → Slot → ℕ → ℕ
part d g r = if slot_is d g then r else 0

abbrev plus : ℕ → ℕ → Option Datum → Option Datum
plus r w c = option_map (with_holds r w) c

by_slot : (g : Slot) (d r w : ℕ) (s : Store) (c : Option Datum) → at s d ≡ c → Fit (part d g r) (part d g w) c → at (held_at (datum_of g) r w s) d ≡ plus (part d g r) (part d g w) c
by_slot Absent d r w s c e h = e ∙ sym (no_more c)
by_slot (LiteralOf i k) d r w s c e h = e ∙ sym (no_more c)
by_slot (DatumOf k) d r w s c e h = elim (cases_eq d k) [
  | inl same ↦ (let t : nat_eq d k ≡ true = eq-eqb d k same in here k same t c e h)
  | inr other ↦ (let f : nat_eq d k ≡ false = differ (nat_eq d k) refl other in
      held_elsewhere s d k r w other ∙ e ∙ sym (ap (λ b. plus (if b then r else 0) (if b then w else 0) c) f ∙ no_more c))
]
  where
    differ : (b : Bool) → nat_eq d k ≡ b → d ≢ k → nat_eq d k ≡ false
    differ true t n = absurd (n (eqb-true d k t))
    differ false t n = t

    here : (k : ℕ) → d ≡ k → nat_eq d k ≡ true → (c : Option Datum) → at s d ≡ c → Fit (part d (DatumOf k) r) (part d (DatumOf k) w) c → at (held k r w s) d ≡ plus (part d (DatumOf k) r) (part d (DatumOf k) w) c
    here k same t None e h = ap (λ j. at (held j r w s) d) (sym same) ∙ held_nowhere s d r w e
    here k same t (Some x) e h =
        ap (λ j. at (held j r w s) d) (sym same)
        ∙ held_here s d r w x e (subst (λ b. Fit (if b then r else 0) (if b then w else 0) (Some x)) t h)
        ∙ ap (λ b. plus (if b then r else 0) (if b then w else 0) (Some x)) (sym t)

-- several additions come to one
two : (c : Option Datum) (a b m n : ℕ) → plus a b (plus m n c) ≡ plus (m + a) (n + b) c
two None a b m n = refl
two (Some x) a b m n = ap Some (ap (λ k. record { content = x.content; reads = k; writes = (x.writes + n) + b }) (add_assoc x.reads m a) ∙ ap (λ k. record { content = x.content; reads = x.reads + (m + a); writes = k }) (add_assoc x.writes n b))

fit_first : (c : Option Datum) (a b m n : ℕ) → Fit (m + a) (n + b) c → Fit m n c
fit_first None a b m n h = h
fit_first (Some x) a b m n h = (omega (arith, h.0), omega (arith, h.1))

fit_rest : (c : Option Datum) (a b m n : ℕ) → Fit (m + a) (n + b) c → Fit a b (plus m n c)
fit_rest None a b m n h = h
fit_rest (Some x) a b m n h = (omega (arith, h.0), omega (arith, h.1))

module _ (f : LexicalAddress → Slot) (r w : Hold → ℕ) where
  abbrev pub hold_step : Hold → Store → Store
  hold_step h s = held_at (datum_of (f h.spot)) (r h) (w h) s

  all_holds : (hs : List Hold) (d : ℕ) (s : Store) (c : Option Datum) → at s d ≡ c → Fit (hold_times f r d hs) (hold_times f w d hs) c → at (one_by_one hold_step hs s) d ≡ plus (hold_times f r d hs) (hold_times f w d hs) c
  all_holds [] d s c e h = e ∙ sym (no_more c)
  all_holds (x ∷ hs) d s c e h =
      let first = by_slot (f x.spot) d (r x) (w x) s c e (fit_first c (hold_times f r d hs) (hold_times f w d hs) _ _ h) in
      all_holds hs d (hold_step x s) _ first (fit_rest c (hold_times f r d hs) (hold_times f w d hs) _ _ h)
      ∙ two c (hold_times f r d hs) (hold_times f w d hs) _ _

-- a factor of each count is one of the whole
times_out : (f : LexicalAddress → Slot) (n : ℕ) (r : Hold → ℕ) (d : ℕ) (hs : List Hold) → hold_times f (λ h. n * r h) d hs ≡ n * hold_times f r d hs
times_out f n r d [] = omega arith
times_out f n r d (x ∷ hs) = ap (λ k. (if slot_is d (f x.spot) then n * r x else 0) + k) (times_out f n r d hs) ∙ by (slot_is d (f x.spot)) (hold_times f r d hs)
  where
    by : (b : Bool) (k : ℕ) → (if b then n * r x else 0) + n * k ≡ n * ((if b then r x else 0) + k)
    by true k = grind arith
    by false k = grind arith

-- so many times these holds are added
pub held_times : (f : LexicalAddress → Slot) (n : ℕ) (hs : List Hold) (s t : Store) → t ≡ one_by_one (hold_step f (λ h. n * h.reads) (λ h. n * h.writes)) hs s → (d : ℕ) → Fit (n * hold_times f (λ h. h.reads) d hs) (n * hold_times f (λ h. h.writes) d hs) (at s d) → at t d ≡ option_map (with_holds (n * hold_times f (λ h. h.reads) d hs) (n * hold_times f (λ h. h.writes) d hs)) (at s d)
held_times f n hs s t e d h =
    let R = times_out f n (λ h. h.reads) d hs in
    let W = times_out f n (λ h. h.writes) d hs in
    ap (λ u. at u d) e
    ∙ all_holds f (λ h. n * h.reads) (λ h. n * h.writes) hs d s (at s d) refl (subst (λ k. Fit k (hold_times f (λ h. n * h.writes) d hs) (at s d)) (sym R) (subst (λ k. Fit (n * hold_times f (λ h. h.reads) d hs) k (at s d)) (sym W) h))
    ∙ ap (λ k. plus k (hold_times f (λ h. n * h.writes) d hs) (at s d)) R ∙ ap (λ k. plus (n * hold_times f (λ h. h.reads) d hs) k (at s d)) W
