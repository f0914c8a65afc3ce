-- Notes in lists, and one note more.
use Rattle.std.proofs.Common.{arith, ◌≡◌, ◌≢◌, inl, inr, ℕ, ◌+◌, ◌-◌, ◌<◌, ◌≤◌, ◌%◌, List, [], ◌∷◌, ◌++◌, length, set, get_or, sym, ap, subst, ◌∙◌}
use Rattle.std.proofs.lemmas.Bool.{cases_eq, cases_lt}
use Rattle.std.proofs.lemmas.List.{get_or-set_same, get_or-set_other, get_or_append_left, length-set, length-append}
use Rattle.std.proofs.Math.Seq.{get_or-append_seam}
use Rattle.rules.specs.declared.subscribers.SlotNote.{SlotNote}
use Rattle.rules.specs.Places.{blank, no_slot, note_at, IsAt, IsLast, IsLinked}

-- one more
longer : (notes : List SlotNote) (x : SlotNote) → length (notes ++ x ∷ []) ≡ length notes + 1
longer notes x = length-append notes (x ∷ [])

note_before : (notes : List SlotNote) (x : SlotNote) (i : ℕ) → i < length notes → note_at (notes ++ x ∷ []) i ≡ note_at notes i
note_before notes x i below = get_or_append_left notes (x ∷ []) blank i below

note_last : (notes : List SlotNote) (x : SlotNote) → note_at (notes ++ x ∷ []) (length notes) ≡ x
note_last notes x = get_or-append_seam notes x [] blank

pub at_before : (notes : List SlotNote) (x : SlotNote) (a k : ℕ) → IsAt notes a k → IsAt (notes ++ x ∷ []) a k
at_before notes x a k here = record {
  number = here.number;
  below = omega (arith, longer notes x, here.below);
  address = ap (λ n. n.address) (note_before notes x here.number here.below) ∙ here.address;
  slot = ap (λ n. n.slot) (note_before notes x here.number here.below) ∙ here.slot;
  real = here.real;
}

pub at_last : (notes : List SlotNote) (x : SlotNote) → x.slot ≢ no_slot → IsAt (notes ++ x ∷ []) x.address x.slot
at_last notes x real = record {
  number = length notes;
  below = omega (arith, longer notes x);
  address = ap (λ n. n.address) (note_last notes x);
  slot = ap (λ n. n.slot) (note_last notes x);
  real = real;
}

last_before : (n : ℕ) (notes : List SlotNote) (x : SlotNote) (b c end : ℕ) → end ≤ length notes → IsLast n notes b c end → IsLast n (notes ++ x ∷ []) b c end
last_before n notes x b c end fits l = record {
  within = l.within;
  last = λ p. ap (λ m. m.address % n) (note_before notes x (c - 1) (omega (arith, p, fits, l.within))) ∙ l.last p;
  others = λ j from to real e. l.others j from to (λ q. real (ap (λ m. m.slot) (note_before notes x j (omega (arith, to, fits))) ∙ q)) (sym (ap (λ m. m.address % n) (note_before notes x j (omega (arith, to, fits)))) ∙ e);
}

module _ (heads : List ℕ) (notes : List SlotNote) (b : ℕ) (x : SlotNote) (below : b < length heads) (here : x.address % length heads ≡ b) (was : x.earlier ≡ get_or heads b 0) (old : IsLinked heads notes) where
  top_here : IsLast (length heads) (notes ++ x ∷ []) b (length notes + 1) (length (notes ++ x ∷ []))
  top_here = record {
    within = omega (arith, longer notes x);
    last = λ p. ap (λ m. m.address % length heads) (subst (λ m. note_at (notes ++ x ∷ []) m ≡ x) (omega arith) (note_last notes x)) ∙ here;
    others = λ j from to real e. absurd (omega (arith, from, to, longer notes x));
  }

  top_else : (a : ℕ) → a ≢ b → a < length heads → IsLast (length heads) (notes ++ x ∷ []) a (get_or heads a 0) (length (notes ++ x ∷ []))
  top_else a differs fits =
      let l = old.tops a fits in
      let before = last_before (length heads) notes x a (get_or heads a 0) (length notes) (omega arith) l in
      record {
        within = omega (arith, l.within, longer notes x);
        last = before.last;
        others = λ j from to real e. elim (cases_lt j (length notes)) [
          | inl within ↦ before.others j from within real e
          | inr past ↦
              let same : j ≡ length notes = omega (arith, past, to, longer notes x) in
              differs (sym e ∙ ap (λ m. m.address % length heads) (ap (note_at (notes ++ x ∷ [])) same ∙ note_last notes x) ∙ here)
        ];
      }

  tops_more : (a : ℕ) → a < length heads → IsLast (length heads) (notes ++ x ∷ []) a (get_or (set heads b (length notes + 1)) a 0) (length (notes ++ x ∷ []))
  tops_more a fits =
      elim (cases_eq a b) [
        | inl e ↦ rw e (rw (get_or-set_same heads b (length notes + 1) 0 below) top_here)
        | inr differs ↦ rw (get_or-set_other heads b a (length notes + 1) 0 differs) (top_else a differs fits)
      ]

  links_more : (i : ℕ) → i < length (notes ++ x ∷ []) → IsLast (length heads) (notes ++ x ∷ []) ((note_at (notes ++ x ∷ []) i).address % length heads) (note_at (notes ++ x ∷ []) i).earlier i
  links_more i fits =
      elim (cases_lt i (length notes)) [
        | inl within ↦ rw (note_before notes x i within) (last_before (length heads) notes x ((note_at notes i).address % length heads) (note_at notes i).earlier i (omega (arith, within)) (old.links i within))
        | inr past ↦
            let same : i ≡ length notes = omega (arith, past, fits, longer notes x) in
            rw same (rw (note_last notes x) (subst (λ c. IsLast (length heads) (notes ++ x ∷ []) (x.address % length heads) c (length notes)) (sym was)
            (subst (λ m. IsLast (length heads) (notes ++ x ∷ []) m (get_or heads b 0) (length notes)) (sym here) (last_before (length heads) notes x b (get_or heads b 0) (length notes) (omega arith) (old.tops b below)))))
      ]

  -- one note more at the end of its list
  pub linked_more : IsLinked (set heads b (length notes + 1)) (notes ++ x ∷ [])
  linked_more =
      let same : length (set heads b (length notes + 1)) ≡ length heads = length-set heads b (length notes + 1) in
      record {
        tops = λ a h. subst (λ m. IsLast m (notes ++ x ∷ []) a (get_or (set heads b (length notes + 1)) a 0) (length (notes ++ x ∷ []))) (sym same) (tops_more a (subst (λ m. a < m) same h));
        links = λ i h. subst (λ m. IsLast m (notes ++ x ∷ []) ((note_at (notes ++ x ∷ []) i).address % m) (note_at (notes ++ x ∷ []) i).earlier i) (sym same) (links_more i h);
        none = λ e. absurd (omega (arith, e, same, below));
      }
