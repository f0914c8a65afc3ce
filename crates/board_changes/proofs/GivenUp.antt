-- What an item gives up, by lists that are the same.
use Rattle.std.proofs.Common.{◌≡◌, ◌∙◌, refl, sym, ap, subst, ℕ, ◌-◌, ◌+◌, ◌≤◌, length, List, [], ◌++◌, map, Option, Some, None, false, arith}
use Rattle.std.specs.Prelude.{IsSome, if◌then◌else◌}
use Rattle.data_store.specs.Data.{is_spent, kept}
use Rattle.data_store.specs.Stores.{Store}
use Rattle.data_store.specs.declared.datum.Datum.{Datum}
use Rattle.board_history.specs.Ending.{TakenOff, outside}
use Rattle.board_history.specs.Fields.{Does, Frame, Job, Script, Slot, Want, Whole, slot_at}
use Rattle.task_code.specs.Code.{Code, entry}
use Rattle.board_program.specs.Tables.{body_of, led_times, spots_in}
use Rattle.board_program.specs.declared.lexical_address.LexicalAddress.{LexicalAddress}
use Rattle.board_data.specs.Holds.{Closes, GivesUp, fewer}
use Rattle.board_instances.specs.Names.{spot_slot}
use Rattle.board_instances.specs.Nested.{IsNested}
use Rattle.board_changes.specs.World.{LetsGo}

pub given_up : (f : LexicalAddress → Slot) (ps qs rs ws : List LexicalAddress) (s t : Store) (old new : List (Want ℕ)) (base now told : List ℕ) → rs ≡ ps → ws ≡ qs → GivesUp (λ d. led_times f d rs) (λ d. led_times f d ws) s t → base ≡ [] →
    (added : List ℕ) × (now ≡ base ++ added) × (length added ≤ length ws) × Closes (λ d. led_times f d ws) s added → told ≡ now → new ≡ old ++ map Whole told →
    (closed : List ℕ) × GivesUp (λ d. led_times f d ps) (λ d. led_times f d qs) s t × Closes (λ d. led_times f d qs) s closed × (new ≡ old ++ map Whole closed)
given_up f ps qs rs ws s t old new base now told r w g b c same e = (
  c.0,
  subst (λ (xs : List LexicalAddress). GivesUp (λ d. led_times f d xs) (λ d. led_times f d qs) s t) r (subst (λ (xs : List LexicalAddress). GivesUp (λ d. led_times f d rs) (λ d. led_times f d xs) s t) w g),
  subst (λ (xs : List LexicalAddress). Closes (λ d. led_times f d xs) s c.0) w c.3,
  e ∙ ap (λ (ds : List ℕ). old ++ map Whole ds) (same ∙ c.1 ∙ ap (λ (ds : List ℕ). ds ++ c.0) b),
)

-- there is room to tell of what was closed
pub few_told : (ws qs : List LexicalAddress) (n m : ℕ) (base now told : List ℕ) (closes : List ℕ → Type 0) → ws ≡ qs → base ≡ [] → (added : List ℕ) × (now ≡ base ++ added) × (length added ≤ length ws) × closes added → told ≡ now → n + length qs ≤ m → n + length told ≤ m
few_told ws qs n m base now told closes w b c same h =
    by (length qs) (length ws) (length c.0) (length told) n m (ap (λ (xs : List LexicalAddress). length xs) w) c.2 (ap (λ (xs : List ℕ). length xs) (same ∙ c.1 ∙ ap (λ (xs : List ℕ). xs ++ c.0) b)) h
  where
    by : (q w a t n m : ℕ) → w ≡ q → a ≤ w → t ≡ a → n + q ≤ m → n + t ≤ m
    by q w a t n m e f g h = omega (arith, e, f, g, h)

-- an entry's item goes
pub entry_goes : (C : Code) (j : Job) (k e n : ℕ) → j ≡ Does k e n → (fs gs hs : List (Option Frame)) (s t : Store) (closed : List ℕ) → hs ≡ fs →
    GivesUp (λ d. led_times (spot_slot fs k) d (spots_in C (body_of C e) (entry C e).reads)) (λ d. led_times (spot_slot fs k) d (spots_in C (body_of C e) (entry C e).writes)) s t →
    Closes (λ d. led_times (spot_slot fs k) d (spots_in C (body_of C e) (entry C e).writes)) s closed →
    (IsNested hs → IsSome (slot_at hs k) → TakenOff gs hs (Some k)) → LetsGo C j fs gs s t closed
entry_goes C j k e n q fs gs hs s t closed same g c leaves = subst (λ (i : Job). LetsGo C i fs gs s t closed) (sym q) (record {
  gives = g;
  closes = c;
  leaves = λ nested there. subst (λ (xs : List (Option Frame)). TakenOff gs xs (Some k)) same (leaves (subst IsNested (sym same) nested) (subst (λ (xs : List (Option Frame)). IsSome (slot_at xs k)) (sym same) (there k refl)));
})

-- the script's item holds nothing and is in no instance
pub script_goes : (C : Code) (j : Job) → j ≡ Script → (fs : List (Option Frame)) (s : Store) → LetsGo C j fs fs s s []
script_goes C j q fs s = subst (λ (i : Job). LetsGo C i fs fs s s []) (sym q) (record {
  gives = record {
    there = λ d x e n r w. e ∙ sym (kept_same x n);
    nothing = λ d e. e;
  };
  closes = record { all = λ d x e k h z. absurd (omega (arith, h, z)); only = λ d i. absurd i };
  leaves = λ nested there. outside fs None refl (λ k. refl);
})
  where
    kept_same : (x : Datum) → is_spent x ≡ false → kept (fewer 0 0 x) ≡ Some x
    kept_same x n = ap kept (ap (λ r. record { content = x.content; reads = r; writes = x.writes - 0 }) (less x.reads) ∙ ap (λ w. record { content = x.content; reads = x.reads; writes = w }) (less x.writes)) ∙ ap (λ b. if b then None else Some x) n
      where
        less : (a : ℕ) → a - 0 ≡ a
        less a = omega arith
