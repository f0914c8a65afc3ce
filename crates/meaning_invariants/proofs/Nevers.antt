-- A block in which a variable never ends is not finished for it.
use Rattle.std.specs.Prelude.{◌≡◌, ◌⊎◌, ℕ, zero, suc, ◌+◌, pos, Bool, true, false, ◌&&◌, List, [], ◌∷◌, Option, Some, None, slice_get, refl}
use Rattle.std.proofs.Common.{arith, inl, inr, sym, ap, ◌∙◌, subst}
use Rattle.values.specs.declared.key.Key.{Key}
use Rattle.values.specs.declared.value.Value.{Value}
use Rattle.language.specs.Core.{Owned, output, Name, Outer, Stmt, stmt, Action, call_alone, assign, choose, wait, Block, no_stmts, stmts, Function, Core}
use Rattle.language.specs.Facts.{Knowledge}
use Rattle.language.specs.Members.{◌∈◌, first, later}
use Rattle.language.specs.Openings.{Decides, two_ways, Opens, then_first, else_second}
use Rattle.language.specs.Parts.{block_list, function_body, stmts_of}
use Rattle.language.specs.Places.{Path}
use Rattle.meaning_steps.specs.Taken.{Taken, FinishedBy, no_target_by, body_by, blocks_by, content_by, ReadyBy, by_cells}
use Rattle.meaning_cells.specs.Targeted.{same_owned, names_owned, aims, aims_of, aims_in}
use Rattle.meaning_facts.proofs.Growing.{both, or_cases, or_right}
use Rattle.meaning_invariants.specs.Never.{some_output, never, never_by, never_in, never_within, never_called, never_ends}
use Rattle.meaning_invariants.proofs.Aiming.{aimed_so, or_left, same_so}

-- WHAT NEVER ENDS IS A TARGET

outputs_aim : (test : ℕ → Bool) (x : Owned) (j : ℕ) (ys : List Name) → some_output test x j ys ≡ true → names_owned x ys ≡ true
outputs_aim test x j [] h = absurd (cc (h))
outputs_aim test x j (y ∷ ys) h = elim (or_cases (same_owned y.what x && test j) (some_output test x (suc j) ys) h) [
  | inl q ↦ or_left (names_owned x ys) (both (same_owned y.what x) (test j) q).0
  | inr q ↦ or_right (same_owned y.what x) (outputs_aim test x (suc j) ys q)
]

module _ (f : ℕ → ℕ → Bool) where
  mutual
    never_aims : (x : Owned) (st : Stmt) → never f x st ≡ true → aims x st ≡ true
    never_aims x (stmt at n a) h = by_aims x a h

    by_aims : (x : Owned) (a : Action) → never_by f x a ≡ true → aims_of x a ≡ true
    by_aims x (assign y e) h = h
    by_aims x (call_alone p ps c) h = outputs_aim (f c.function) x 0 c.outputs h
    by_aims x (choose c b d) h = or_left (aims_in x d) (in_aims x b (both (never_in f x b) (never_in f x d) h).0)
    by_aims x (wait ns b) h = in_aims x b h
    by_aims x _ h = absurd (cc (h))

    in_aims : (x : Owned) (b : Block) → never_in f x b ≡ true → aims_in x b ≡ true
    in_aims x no_stmts h = absurd (cc (h))
    in_aims x (stmts s b) h = elim (or_cases (never f x s) (never_in f x b) h) [
      | inl q ↦ or_left (aims_in x b) (never_aims x s q)
      | inr q ↦ or_right (aims x s) (in_aims x b q)
    ]

-- the output of a call that never ends
record NeverOut (test : ℕ → Bool) (x : Owned) (j : ℕ) (ys : List Name) : Type 0 where
  index : ℕ
  name : Name
  there : slice_get ys index ≡ Some name
  what_is : name.what ≡ x
  never : test (j + index) ≡ true

never_output : (test : ℕ → Bool) (x : Owned) (j : ℕ) (ys : List Name) → some_output test x j ys ≡ true → NeverOut test x j ys
never_output test x j [] h = absurd (cc (h))
never_output test x j (y ∷ ys) h = elim (or_cases (same_owned y.what x && test j) (some_output test x (suc j) ys) h) [
  | inl q ↦
      let b = both (same_owned y.what x) (test j) q in
      let at : j ≡ j + 0 = omega arith in
      record { index = 0; name = y; there = refl; what_is = same_so y.what x b.0; never = sym (ap test at) ∙ b.1 }
  | inr q ↦
      let r = never_output test x (suc j) ys q in
      let at : suc j + r.index ≡ j + suc r.index = omega arith in
      record { index = suc r.index; name = r.name; there = r.there; what_is = r.what_is; never = sym (ap test at) ∙ r.never }
]

module _ (s : Core) (K : Knowledge) (T : Taken) where
  -- all statements of a block are finished
  abbrev AllBy : Owned → Path → List Stmt → Type 0
  AllBy x path ss = (st : Stmt) → st ∈ ss → FinishedBy s K T x path st

  -- the branch that is chosen is finished
  chosen_by : (x : Owned) (path : Path) (at : ℕ) (c : Outer) (b d : Block) (vs : List Value) → Decides (choose c b d) vs
      → ((k : Key) (e : Block) (st : Stmt) → Opens (choose c b d) vs k e → st ∈ block_list e → FinishedBy s K T x ((at, k) ∷ path) st)
      → AllBy x ((at, Key.Number (pos 0)) ∷ path) (block_list b) ⊎ AllBy x ((at, Key.Number (pos 1)) ∷ path) (block_list d)
  chosen_by x path at c b d vs (two_ways {t = true}) fs = inl (λ st m. fs (Key.Number (pos 0)) b st then_first m)
  chosen_by x path at c b d vs (two_ways {t = false}) fs = inr (λ st m. fs (Key.Number (pos 1)) d st else_second m)

  decided_by : {path : Path} {c : Outer} {b d : Block} {vs : List Value} → ReadyBy s K T path (choose c b d) vs → Decides (choose c b d) vs
  decided_by (by_cells k d) = d

  module _ (f : ℕ → ℕ → Bool) (called : (i j : ℕ) → f i j ≡ true → (path : Path) → AllBy (output j) path (function_body s i) → ⊥) where
    mutual
      not_finished : (x : Owned) (path : Path) (st : Stmt) → never f x st ≡ true → FinishedBy s K T x path st → ⊥
      not_finished x path (stmt at n a) h d = by_action x path at n a h d

      by_action : (x : Owned) (path : Path) (at n : ℕ) (a : Action) → never_by f x a ≡ true → FinishedBy s K T x path (stmt at n a) → ⊥
      by_action x path at n a h (no_target_by q) = q (aimed_so x a (by_aims f x a h))
      by_action x path at n (call_alone p ps c) h (body_by short fs) =
          let r = never_output (f c.function) x 0 c.outputs h in
          let place : 0 + r.index ≡ r.index = omega arith in
          called c.function r.index (sym (ap (f c.function) place) ∙ r.never) ((c.at, Key.Number (pos 0)) ∷ path) (λ st m. fs r.index r.name st r.there r.what_is m)
      by_action x path at n (choose c b d) h (blocks_by {vs = vs} branches ready short fs) =
          let q = both (never_in f x b) (never_in f x d) h in
          elim (chosen_by x path at c b d vs (decided_by ready) fs) [
            | inl g ↦ none_finished x ((at, Key.Number (pos 0)) ∷ path) b q.0 g
            | inr g ↦ none_finished x ((at, Key.Number (pos 1)) ∷ path) d q.1 g
          ]
      by_action x path at n (wait ns b) h (content_by ready fs) = none_finished x path b h fs
      by_action x path at n (wait ns b) h (blocks_by branches ready short fs) = elim branches [ ]
      by_action x path at n (assign y e) h (blocks_by branches ready short fs) = elim branches [ ]
      by_action x path at n (call_alone p ps c) h (blocks_by branches ready short fs) = elim branches [ ]
      by_action x path at n a h d = absurd (cc (h))

      none_finished : (x : Owned) (path : Path) (b : Block) → never_in f x b ≡ true → AllBy x path (block_list b) → ⊥
      none_finished x path no_stmts h fs = absurd (cc (h))
      none_finished x path (stmts st b) h fs = elim (or_cases (never f x st) (never_in f x b) h) [
        | inl q ↦ not_finished x path st q (fs st first)
        | inr q ↦ none_finished x path b q (λ y m. fs y (later m))
      ]

  -- FUNCTIONS
  called_never : (levels i j : ℕ) → never_called s levels i j ≡ true → (path : Path) → AllBy (output j) path (function_body s i) → ⊥
  called_never zero i j h path fs = absurd (cc (h))
  called_never (suc levels) i j h path fs = by (slice_get s.functions i) refl h (λ b e g. none_finished (never_called s levels) (λ k t q p w. called_never levels k t q p w) (output j) path b e g)
    where
      by : (o : Option Function) → slice_get s.functions i ≡ o → never_within (λ b k. never_in (never_called s levels) (output k) b) o j ≡ true
          → ((b : Block) → never_in (never_called s levels) (output j) b ≡ true → AllBy (output j) path (block_list b) → ⊥) → ⊥
      by (Some g) e q f = f g.body q (λ st m. fs st (subst (λ (z : Option Function). st ∈ stmts_of z) (sym e) m))
      by None e q f = absurd (cc (q))

  -- a variable that never ends in a block has it never finished
  pub never_finished : (levels : ℕ) (x : Owned) (path : Path) (b : Block) → never_ends s levels x b ≡ true → ((st : Stmt) → st ∈ block_list b → FinishedBy s K T x path st) → ⊥
  never_finished levels x path b h fs = none_finished (never_called s levels) (λ i j q p g. called_never levels i j q p g) x path b h fs
