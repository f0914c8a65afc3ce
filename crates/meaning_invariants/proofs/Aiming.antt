-- The tests for targets find just the targets.
use Rattle.std.specs.Prelude.{◌≡◌, Bool, true, ◌||◌, List, [], ◌∷◌, refl}
use Rattle.std.proofs.Common.{inl, inr, ap, subst}
use Rattle.std.proofs.lemmas.Bool.{eqb-true, eq-eqb}
use Rattle.language.specs.Core.{Owned, local, input, output, Name, Stmt, stmt, Action, declare, call_alone, assign, fill, insert, print, assert, when, choose, range, each, wait, Block, no_stmts, stmts}
use Rattle.language.specs.Members.{◌∈◌, first, later}
use Rattle.language.specs.Parts.{owners, targets, targets_of, targets_in}
use Rattle.language.proofs.Members.{to_left, to_right, either}
use Rattle.meaning_cells.specs.Targeted.{same_owned, names_owned, aims, aims_of, aims_in}
use Rattle.meaning_facts.proofs.Growing.{or_cases, or_right}

pub same_so : (x y : Owned) → same_owned x y ≡ true → x ≡ y
same_so (local m) (local n) h = ap local (eqb-true m n h)
same_so (input m) (input n) h = ap input (eqb-true m n h)
same_so (output m) (output n) h = ap output (eqb-true m n h)
same_so (local m) (input n) h = absurd (cc (h))
same_so (local m) (output n) h = absurd (cc (h))
same_so (input m) (local n) h = absurd (cc (h))
same_so (input m) (output n) h = absurd (cc (h))
same_so (output m) (local n) h = absurd (cc (h))
same_so (output m) (input n) h = absurd (cc (h))

same_itself : (x : Owned) → same_owned x x ≡ true
same_itself (local n) = eq-eqb n n refl
same_itself (input n) = eq-eqb n n refl
same_itself (output n) = eq-eqb n n refl

pub same_all : (x y : Owned) → x ≡ y → same_owned x y ≡ true
same_all x y e = subst (λ (z : Owned). same_owned x z ≡ true) e (same_itself x)

pub or_left : {a : Bool} (b : Bool) → a ≡ true → a || b ≡ true
or_left b h = ap (λ (z : Bool). z || b) h

one_so : (x y : Owned) → same_owned y x ≡ true → x ∈ (y ∷ [])
one_so x y h = subst (λ (z : Owned). z ∈ (y ∷ [])) (same_so y x h) first

one_all : (x y : Owned) → x ∈ (y ∷ []) → same_owned y x ≡ true
one_all x y first = same_itself x
one_all x y (later m) = elim m [ ]

named_so : (x : Owned) (ys : List Name) → names_owned x ys ≡ true → x ∈ owners ys
named_so x [] h = absurd (cc (h))
named_so x (y ∷ ys) h = elim (or_cases (same_owned y.what x) (names_owned x ys) h) [
  | inl q ↦ subst (λ (z : Owned). z ∈ (y.what ∷ owners ys)) (same_so y.what x q) first
  | inr q ↦ later (named_so x ys q)
]

named_all : (x : Owned) (ys : List Name) → x ∈ owners ys → names_owned x ys ≡ true
named_all x [] m = elim m [ ]
named_all x (y ∷ ys) m = elim (either (y.what ∷ []) (owners ys) m) [
  | inl q ↦ or_left (names_owned x ys) (one_all x y.what q)
  | inr q ↦ or_right (same_owned y.what x) (named_all x ys q)
]

mutual
  pub aims_so : (x : Owned) (st : Stmt) → aims x st ≡ true → x ∈ targets st
  aims_so x (stmt at n a) h = aimed_so x a h

  pub aimed_so : (x : Owned) (a : Action) → aims_of x a ≡ true → x ∈ targets_of a
  aimed_so x (declare v) h = absurd (cc (h))
  aimed_so x (call_alone p ps c) h = named_so x c.outputs h
  aimed_so x (assign y e) h = one_so x y.what h
  aimed_so x (fill y e) h = one_so x y.what h
  aimed_so x (insert y k e) h = one_so x y.what h
  aimed_so x (print p e) h = absurd (cc (h))
  aimed_so x (assert p e) h = absurd (cc (h))
  aimed_so x (when c b) h = block_so x b h
  aimed_so x (choose c b d) h = elim (or_cases (aims_in x b) (aims_in x d) h) [
    | inl q ↦ to_left (targets_in b) (targets_in d) (block_so x b q)
    | inr q ↦ to_right (targets_in b) (targets_in d) (block_so x d q)
  ]
  aimed_so x (range lo hi st v k b) h = block_so x b h
  aimed_so x (each a v k b) h = block_so x b h
  aimed_so x (wait ns b) h = block_so x b h

  block_so : (x : Owned) (b : Block) → aims_in x b ≡ true → x ∈ targets_in b
  block_so x no_stmts h = absurd (cc (h))
  block_so x (stmts s b) h = elim (or_cases (aims x s) (aims_in x b) h) [
    | inl q ↦ to_left (targets s) (targets_in b) (aims_so x s q)
    | inr q ↦ to_right (targets s) (targets_in b) (block_so x b q)
  ]

mutual
  pub aims_all : (x : Owned) (st : Stmt) → x ∈ targets st → aims x st ≡ true
  aims_all x (stmt at n a) m = aimed_all x a m

  pub aimed_all : (x : Owned) (a : Action) → x ∈ targets_of a → aims_of x a ≡ true
  aimed_all x (declare v) m = elim m [ ]
  aimed_all x (call_alone p ps c) m = named_all x c.outputs m
  aimed_all x (assign y e) m = one_all x y.what m
  aimed_all x (fill y e) m = one_all x y.what m
  aimed_all x (insert y k e) m = one_all x y.what m
  aimed_all x (print p e) m = elim m [ ]
  aimed_all x (assert p e) m = elim m [ ]
  aimed_all x (when c b) m = block_all x b m
  aimed_all x (choose c b d) m = elim (either (targets_in b) (targets_in d) m) [
    | inl q ↦ or_left (aims_in x d) (block_all x b q)
    | inr q ↦ or_right (aims_in x b) (block_all x d q)
  ]
  aimed_all x (range lo hi st v k b) m = block_all x b m
  aimed_all x (each a v k b) m = block_all x b m
  aimed_all x (wait ns b) m = block_all x b m

  block_all : (x : Owned) (b : Block) → x ∈ targets_in b → aims_in x b ≡ true
  block_all x no_stmts m = elim m [ ]
  block_all x (stmts s b) m = elim (either (targets s) (targets_in b) m) [
    | inl q ↦ or_left (aims_in x b) (aims_all x s q)
    | inr q ↦ or_right (aims x s) (block_all x b q)
  ]
