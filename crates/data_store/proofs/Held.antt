-- Each call leaves a store in which somebody may yet read or write each datum, for callers: so a datum is freed exactly with its last hold.
use Rattle.std.proofs.Common.{◌≡◌, ◌∙◌, inl, inr, ℕ, ◌+◌, ◌==◌, ◌&&◌, true, false, cond, Option, Some, None, refl, sym, subst, arith}
use Rattle.std.specs.Prelude.{option_map}
use Rattle.std.proofs.lemmas.Bool.{cases_eq, cases_Bool, and_parts, eqb-true}
use Rattle.data_store.specs.declared.datum.Datum.{Datum}
use Rattle.data_store.specs.Data.{is_spent, kept, with_holds}
use Rattle.data_store.specs.Stores.{Store, at, empty, changed, given_up, kept_after, Adds}
use Rattle.data_store.specs.Held.{IsHeld, EachIsHeld}
use Rattle.data_store.proofs.Numbers.{at_changed, at_changed_other, at_given_up, at_given_up_other}

both_zero : (a b : ℕ) → a ≡ 0 → b ≡ 0 → ((a == 0) && (b == 0)) ≡ true
both_zero a b e f = rw (e, f) refl

-- more holds leave a datum held
pub more_holds : (reads writes : ℕ) (x : Datum) → is_spent x ≡ false → is_spent (with_holds reads writes x) ≡ false
more_holds reads writes x h = elim (cases_Bool (is_spent (with_holds reads writes x))) [
  | inl spent ↦
      let parts = and_parts (x.reads + reads == 0) (x.writes + writes == 0) spent in
      let r : x.reads + reads ≡ 0 = eqb-true (x.reads + reads) 0 parts.0 in
      let w : x.writes + writes ≡ 0 = eqb-true (x.writes + writes) 0 parts.1 in
      let e : true ≡ false = sym (both_zero x.reads x.writes (omega (arith, r)) (omega (arith, w))) ∙ h in
      absurd cc
  | inr held ↦ held
]

kept_held : (x : Datum) → IsHeld (kept x)
kept_held x = elim (is_spent x) as (λ b. is_spent x ≡ b → IsHeld (cond b None (Some x))) [
  | true ↦ λ e. tt
  | false ↦ λ e. e
] refl

changed_held : (f : Datum → Datum) → ((x : Datum) → is_spent x ≡ false → is_spent (f x) ≡ false) → (o : Option Datum) → IsHeld o → IsHeld (option_map f o)
changed_held f keeps None h = tt
changed_held f keeps (Some x) h = keeps x h

kept_after_held : (f : Datum → Datum) (o : Option Datum) → IsHeld (kept_after f o)
kept_after_held f None = tt
kept_after_held f (Some x) = kept_held (f x)

-- a store without data
pub empty_held : EachIsHeld empty
empty_held d = tt

-- a new datum that has a hold
pub added_held : (old : Store) (d : ℕ) (x : Datum) (new : Store) → Adds old d x new → is_spent x ≡ false → EachIsHeld old → EachIsHeld new
added_held old d x new a held h e = elim (cases_eq e d) [
  | inl here ↦ subst (λ k. IsHeld (at new k)) (sym here) (subst IsHeld (sym a.has) held)
  | inr differs ↦ subst IsHeld (sym (a.others e differs)) (h e)
]

-- a change that leaves a datum held, as each but the loss of a hold does
pub changed_each_held : (d : ℕ) (f : Datum → Datum) (s : Store) → ((x : Datum) → is_spent x ≡ false → is_spent (f x) ≡ false) → EachIsHeld s → EachIsHeld (changed d f s)
changed_each_held d f s keeps h e = elim (cases_eq e d) [
  | inl here ↦ subst (λ k. IsHeld (at (changed d f s) k)) (sym here) (subst IsHeld (sym (at_changed d f s)) (changed_held f keeps (at s d) (h d)))
  | inr differs ↦ subst IsHeld (sym (at_changed_other d e f s differs)) (h e)
]

-- the loss of a hold, which frees a datum that has none left
pub given_up_each_held : (d : ℕ) (f : Datum → Datum) (s : Store) → EachIsHeld s → EachIsHeld (given_up d f s)
given_up_each_held d f s h e = elim (cases_eq e d) [
  | inl here ↦ subst (λ k. IsHeld (at (given_up d f s) k)) (sym here) (subst IsHeld (sym (at_given_up d f s)) (kept_after_held f (at s d)))
  | inr differs ↦ subst IsHeld (sym (at_given_up_other d e f s differs)) (h e)
]
