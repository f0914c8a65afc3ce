-- A walk along a list, which takes notes out of it.
use Rattle.std.proofs.Common.{arith, ◌≡◌, ◌≢◌, ◌⊎◌, inl, inr, ℕ, ◌-◌, ◌<◌, ◌%◌, false, List, length, get_or, Option, None, sym, ap, subst, ◌∙◌, Contains}
use Rattle.std.proofs.lemmas.Bool.{cases_eq, cases_lt}
use Rattle.rules.specs.declared.subscribers.SlotNote.{SlotNote}
use Rattle.rules.specs.Waiting.{Waiting}
use Rattle.rules.specs.Places.{Noted, IsAllBut, IsNoted, IsAt, IsLast, no_slot, note_at, slot_needs}
use Rattle.rules.proofs.Noting.{true_false}

-- the slot is noted at the address, with a number below `end`
pub record IsBelow (end : ℕ) (notes : List SlotNote) (a k : ℕ) : Type 0 where
  pub number : ℕ
  pub below : number < end
  pub address : (note_at notes number).address ≡ a
  pub slot : (note_at notes number).slot ≡ k
  pub real : k ≢ no_slot

-- behind the last note of a list no slot is noted at its address
pub walk_start : (n : ℕ) (notes : List SlotNote) (a next k : ℕ) → IsLast n notes (a % n) next (length notes) → IsAt notes a k → IsBelow next notes a k
walk_start n notes a next k last at =
    elim (cases_lt at.number next) as (λ _. IsBelow next notes a k) [
      | inl below ↦ record { number = at.number; below = below; address = at.address; slot = at.slot; real = at.real }
      | inr above ↦ absurd (last.others at.number above at.below (λ q. at.real (sym at.slot ∙ q)) (ap (λ m. m % n) at.address))
    ]

-- what is noted below a note is noted by this one, or below the note that it leads to
pub walk_step : (old new : Noted) (a next k : ℕ) (x : SlotNote) → x ≡ note_at old.notes (next - 1) → 0 < next → (note_at old.notes (next - 1)).address % old.lists ≡ a % old.lists
    → IsLast old.lists old.notes (x.address % old.lists) x.earlier (next - 1) → IsAllBut old new (next - 1)
    → IsBelow next old.notes a k → ((x.address ≡ a) × (k ≡ x.slot)) ⊎ IsBelow x.earlier new.notes a k
walk_step old new a next k x same positive last link all b =
    elim (cases_eq b.number (next - 1)) as (λ _. ((x.address ≡ a) × (k ≡ x.slot)) ⊎ IsBelow x.earlier new.notes a k) [
      | inl e ↦
          let is : note_at old.notes b.number ≡ x = ap (note_at old.notes) e ∙ sym same in
          inl (sym (ap (λ m. m.address) is) ∙ b.address, sym b.slot ∙ ap (λ m. m.slot) is)
      | inr differs ↦ elim (cases_lt b.number x.earlier) as (λ _. ((x.address ≡ a) × (k ≡ x.slot)) ⊎ IsBelow x.earlier new.notes a k) [
        | inl below ↦ inr (record {
          number = b.number;
          below = below;
          address = all.addresses b.number ∙ b.address;
          slot = all.slots b.number differs ∙ b.slot;
          real = b.real;
        })
        | inr above ↦ absurd (link.others b.number above (omega (arith, b.below, differs, positive)) (λ q. b.real (sym b.slot ∙ q)) (ap (λ m. m % old.lists) b.address ∙ sym last ∙ ap (λ m. m.address % old.lists) (sym same)))
      ]
    ]

-- the note that it leads to is of the same list
pub walk_last : (old new : Noted) (a next : ℕ) (x : SlotNote) → x ≡ note_at old.notes (next - 1) → (note_at old.notes (next - 1)).address % old.lists ≡ a % old.lists
    → IsLast old.lists old.notes (x.address % old.lists) x.earlier (next - 1) → IsAllBut old new (next - 1)
    → 0 < x.earlier → (note_at new.notes (x.earlier - 1)).address % new.lists ≡ a % new.lists
walk_last old new a next x same last link all positive =
    subst (λ n. (note_at new.notes (x.earlier - 1)).address % n ≡ a % n) (sym all.lists)
    (ap (λ m. m % old.lists) (all.addresses (x.earlier - 1)) ∙ link.last positive ∙ ap (λ m. m.address % old.lists) same ∙ last)

-- where the item in its slot needs a note no more, all are found without it
pub noted_but : (old new : Noted) (number : ℕ) (slots : List (Option Waiting)) → IsAllBut old new number
    → slot_needs (note_at old.notes number).address (get_or slots (note_at old.notes number).slot None) ≡ false → IsNoted old slots → IsNoted new slots
noted_but old new number slots all lacks are k =
    elim (are k) [
      | inl stray ↦ inl (subst (λ s. Contains s k) (sym all.strays) stray)
      | inr noted ↦ inr (λ a need.
          let at = noted a need in
          elim (cases_eq at.number number) as (λ _. IsAt new.notes a k) [
            | inl e ↦
                let address : (note_at old.notes number).address ≡ a = subst (λ m. (note_at old.notes m).address ≡ a) e at.address in
                let slot : (note_at old.notes number).slot ≡ k = subst (λ m. (note_at old.notes m).slot ≡ k) e at.slot in
                let none : slot_needs a (get_or slots k None) ≡ false = subst (λ m. slot_needs m (get_or slots k None) ≡ false) address (subst (λ m. slot_needs (note_at old.notes number).address (get_or slots m None) ≡ false) slot lacks) in
                absurd (true_false (sym need ∙ none))
            | inr differs ↦ record {
              number = at.number;
              below = omega (arith, at.below, all.size);
              address = all.addresses at.number ∙ at.address;
              slot = all.slots at.number differs ∙ at.slot;
              real = at.real;
            }
          ])
    ]
