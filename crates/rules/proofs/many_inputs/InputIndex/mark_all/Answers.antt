use Rattle.std.proofs.Common.{arith, ◌≡◌, ◌⊎◌, inl, inr, ◌-◌, ◌<◌, ◌≤◌, ◌%◌, true, length, refl, sym, ap, subst, ◌∙◌}
use Rattle.rules.specs.Inputs.{covers}
use Rattle.rules.specs.Many.{input_at, is_known}
use Rattle.rules.specs.Places.{IsLast, address, note_at}
use Rattle.rules.proofs.Marking.{marks_none, marks_on}
use Rattle.rules.proofs.Noting.{covers_at}
use Rattle.rules.proofs.Splicing.{all_same}
use Rattle.rules.proofs.Walking.{IsBelow, walk_start, walk_step, walk_last}
use Rattle.rules.proofs.many_inputs.InputIndex.mark_all.Goals as goal

pub loop-next-init : goal.loop-next-init
loop-next-init c =
    let i = c.args.input.now in
    let index = c.args.self.now in
    let last = c.last-next.ensures in (
      marks_none i c.args.inputs.now index c.requires.left,
      λ k below hit. inr (walk_start index.places.lists index.places.notes (address i) c.last-next.result k (subst (λ a. IsLast index.places.lists index.places.notes (a % index.places.lists) c.last-next.result (length index.places.notes)) c.address.ensures last)
          (c.requires.noted k below (address i) (covers_at i (input_at c.args.inputs.now k) hit))),
      last.within,
      λ positive. last.last positive ∙ ap (λ a. a % index.places.lists) c.address.ensures,
    )

pub loop-next-preserved : goal.loop-next-preserved
loop-next-preserved c =
    let i = c.args.input.now in
    let is = c.args.inputs.now in
    let here = c.loop-next.invariant in
    let next = c.loop-next.next in
    let places = c.loop-next.self.places in
    let x = c.note-note.result in
    let positive : 0 < next = omega (arith, c.loop-next-test.true) in
    let same = c.note-note.ensures.same in
    let link = c.note-note.ensures.link in
    let none = all_same places places (next - 1) refl in
    let after = c.mark.new.self in
    let marks = c.mark.ensures.marks in (
      marks_on i is _ _ _ here.0 marks,
      λ k below hit. elim (here.1 k below hit) as (λ _. (is_known after k ≡ true) ⊎ IsBelow x.earlier after.places.notes (address i) k) [
        | inl known ↦ inl (marks.kept k known)
        | inr b ↦ elim (walk_step places places (address i) next k x same positive (here.3 positive) link none b) as (λ _. (is_known after k ≡ true) ⊎ IsBelow x.earlier after.places.notes (address i) k) [
          | inl met ↦ inl (subst (λ m. is_known after m ≡ true) (sym met.1) (c.mark.ensures.here (subst (λ m. m < length is) met.1 below) (subst (λ m. covers i (input_at is m) ≡ true) met.1 hit)))
          | inr rest ↦ inr (subst (λ p. IsBelow x.earlier p.notes (address i) k) (sym marks.places) rest)
        ]
      ],
      subst (λ p. x.earlier ≤ length p.notes) (sym marks.places) (omega (arith, link.within, here.2)),
      subst (λ p. 0 < x.earlier → (note_at p.notes (x.earlier - 1)).address % p.lists ≡ address i % p.lists) (sym marks.places) (walk_last places places (address i) next x same (here.3 positive) link none),
    )
