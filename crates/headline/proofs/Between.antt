-- Knowledge between a round and the next, with some of the scalars that follow: it serves the lemmas from the script to the code, as long as no key has two writers in the round.
use Rattle.std.proofs.Common.{◌≡◌, ◌⊎◌, inl, inr, ℕ, suc, List, Result, Ok, refl, sym, ◌∙◌, subst, arith}
use Rattle.std.specs.Prelude.{◌≤◌}
use Rattle.values.specs.declared.key.Key.{Key}
use Rattle.values.specs.declared.map.Element.{Element}
use Rattle.values.specs.declared.value.Scalar.{Scalar}
use Rattle.values.specs.declared.value.Value.{Value}
use Rattle.values.specs.declared.value.Value.TheVariants.{One, Many}
use Rattle.language.specs.Core.{Form, Cell, Stmt, Core}
use Rattle.language.specs.Facts.{Fault, Fact, value, element, a_number, a_text, Knowledge, OneWriter}
use Rattle.language.specs.Meaning.{New, cell_value, cell_fault, assigned, filled, inserted, printed, bad_range, too_deep_header, too_deep_call, written_twice, LiveStmt, Gives, Comes, before, now, ComeAll, none_comes, next_comes, HasValue, Known}
use Rattle.language.specs.Members.{◌∈◌}
use Rattle.language.specs.Parts.{cells}
use Rattle.language.specs.Places.{Path, Place}
use Rattle.language.specs.Single.{SinglyAssigned}
use Rattle.language.specs.WellFormed.{WellFormed}
use Rattle.language_laws.proofs.Ever as Ever
use Rattle.language_laws.proofs.Growth.{Grows, keeps_stmt, keeps_ready}
use Rattle.language_laws.proofs.Hinge.{grows}
use Rattle.language_laws.proofs.Keeps.{keeps_gives, keeps_comes, keeps_new}
use Rattle.language_laws.proofs.Listed.{listed}
use Rattle.language_laws.proofs.OneValue.{OneEach, scalar_same}
use Rattle.language_laws.proofs.Rounds.{Sound, From, came, known_later, later_of}
use Rattle.language_laws.proofs.Sources.{IsFull, known_full, outer_in, index_in, right_in}
use Rattle.headline.specs.Backs.{RightKnown, Backs}

value_is : {p q : Place} {v u : Value} → value p v ≡ value q u → v ≡ u
value_is h = cc

one_many : {A : Type 0} {x : Scalar} {y : List Element} → One x ≡ Many y → A
one_many h = absurd (cc (h))

-- scalars that follow from a round
abbrev pub NewScalar : Core → ℕ → Knowledge
NewScalar s n f = (p : Place) × (u : Scalar) × (f ≡ value p (One u)) × New s (Known s n) f

module _ (s : Core) (wf : WellFormed s) (single : SinglyAssigned s) (n : ℕ) (H : Knowledge) (low : (f : Fact) → Known s n f → H f) (split : (f : Fact) → H f → Known s n f ⊎ NewScalar s n f) where
  pub element_half : {a : Place} {k : Key} {w : Place} {v : Scalar} → H (element a k w v) → Known s n (element a k w v)
  element_half h = elim (split _ h) [ inl k ↦ k | inr z ↦ absurd (cc (z.2)) ]

  pub up : (f : Fact) → H f → Known s (suc n) f
  up f h = elim (split f h) [ inl k ↦ inl k | inr z ↦ inr z.3 ]

  pub grows_half : (r : ℕ) → r ≤ n → Grows s (Known s r) H
  grows_half r h = record { more = λ f k. low f (known_later s r n f h k); stays = λ a c k u v g. (Ever.grow s wf single r n h).stays a c k u v (element_half g) }

  pub full : IsFull s H
  full path at m x c v i h =
      elim (split _ h) [
        | inl f ↦ (let r = known_full s wf.cells n path at m x c v i f in (r.0, r.1, λ k u j. low _ (r.2 k u j)))
        | inr z ↦ (let r = known_full s wf.cells (suc n) path at m x c v i (inr z.3) in one_many (sym (value_is z.2) ∙ r.1))
      ]

  here : n ≤ n
  here = omega arith

  one_each : OneEach s H
  one_each = let o = (Ever.sound s wf single (suc n)).one_each in record {
    one_value = λ p v u h k. o.one_value p v u (up _ h) (up _ k);
    one_element = λ a k w v u h g. o.one_element a k w v u (up _ h) (up _ g);
    no_loop_value = λ st x r path v m role h. o.no_loop_value st x r path v m role (up _ h);
  }

  from_half : {a : Place} {k : Key} {u : Place} {v : Scalar} → From s (Known s n) (Known s n) a k u v → From s H H a k u v
  from_half (inl e) = inl (record { path = e.path; at = e.at; node = e.node; array = e.array; right = e.right; elements = e.elements; live = keeps_stmt s (Known s n) H (grows_half n here) e.live; known = low _ e.known; there = e.there; array_is = e.array_is; writer_is = e.writer_is })
  from_half (inr e) = inr (record { path = e.path; at = e.at; node = e.node; array = e.array; index = e.index; right = e.right; index_value = e.index_value; live = keeps_stmt s (Known s n) H (grows_half n here) e.live; known_index = low _ e.known_index; is_key = e.is_key; known = low _ e.known; array_is = e.array_is; writer_is = e.writer_is })

  pub sound : Sound s H
  sound = record { one_each = one_each; wrote = λ a k u v h. from_half ((Ever.sound s wf single n).wrote a k u v (element_half h)) }

  one_scalar : (p : Place) (v u : Scalar) → HasValue s H p v → HasValue s H p u → v ≡ u
  one_scalar = scalar_same s wf.names wf.loops H one_each (later_of s wf.names wf.cells wf.loops wf.writers H H full sound sound (λ f k. k))

  -- nothing is taken back in the next round
  pub grows_next : Grows s H (Known s (suc n))
  grows_next = grows s wf.names H (Known s (suc n)) (later_of s wf.names wf.cells wf.loops wf.writers H (Known s (suc n)) full sound (Ever.sound s wf single (suc n)) up)

  module _ (clean : (a : Place) → OneWriter (Known s n) a) where
    pub clean_half : (a : Place) → OneWriter H a
    clean_half a k w w' v v' h g = clean a k w w' v v' (element_half h) (element_half g)

    -- what follows in an earlier round, or in this one, follows from the half round, with the values behind it
    module _ (r : ℕ) (h : r ≤ n) (P : Value → Type 0) (one : (u : Scalar) → P (One u))
        (right : (path : Path) (st : Stmt) (c : Cell) (v : Value) → LiveStmt s (Known s r) path st → c ∈ cells st → Comes s (Known s r) path c v → P v → H (value (path, c.node) v)) where
      stmt : {path : Path} {st : Stmt} → LiveStmt s (Known s r) path st → LiveStmt s H path st
      stmt l = keeps_stmt s (Known s r) H (grows_half r h) l

      gives : {path : Path} {f : Form} {v : Result Value Fault} → Gives s (Known s r) path f v → Gives s H path f v
      gives g = keeps_gives s (Known s r) H (grows_half r h) clean_half g

      comes : {path : Path} {c : Cell} {v : Value} → Comes s (Known s r) path c v → Comes s H path c v
      comes g = keeps_comes s (Known s r) H (grows_half r h) clean_half g

      come_all : {path : Path} {cs : List Cell} {vs : List Value} → ComeAll s (Known s r) path cs vs → ComeAll s H path cs vs
      come_all none_comes = none_comes
      come_all (next_comes g gs) = next_comes (comes g) (come_all gs)

      kept : {f : Fact} → New s (Known s r) f → ((p : Place) (v : Value) → f ≡ value p v → P v) → (x : New s H f) × RightKnown s H x
      kept (assigned {c = c} l g) q = (assigned (stmt l) (comes g), right _ _ _ _ l (outer_in c.parts c.cell) g (q _ _ refl))
      kept (inserted {i = i} {c = c} l g a_number m) q = (inserted (stmt l) (comes g) a_number (comes m), (right _ _ _ _ l (index_in i c) g (one _), right _ _ _ _ l (right_in i c) m (one _)))
      kept (inserted {i = i} {c = c} l g a_text m) q = (inserted (stmt l) (comes g) a_text (comes m), (right _ _ _ _ l (index_in i c) g (one _), right _ _ _ _ l (right_in i c) m (one _)))
      kept (printed {c = c} l g) q = (printed (stmt l) (comes g), right _ _ _ _ l (outer_in c.parts c.cell) g (one _))
      kept (filled l g i) q = (filled (stmt l) (comes g) i, tt)
      kept (cell_value l i g) q = (cell_value (stmt l) i (gives g), tt)
      kept (cell_fault l i g) q = (cell_fault (stmt l) i (gives g), tt)
      kept (bad_range l g e z) q = (bad_range (stmt l) (come_all g) e z, tt)
      kept (too_deep_header l (inl x) e z) q = (too_deep_header (stmt l) (inl (come_all x)) e z, tt)
      kept (too_deep_header l (inr x) e z) q = (too_deep_header (stmt l) (inr (keeps_ready s (Known s r) H (grows_half r h) x)) e z, tt)
      kept (too_deep_call l i e) q = (too_deep_call (stmt l) i e, tt)
      kept (written_twice l a b e) q = (written_twice (stmt l) ((grows_half r h).more _ a) ((grows_half r h).more _ b) e, tt)

    -- of earlier rounds the values behind are known
    earlier : (r : ℕ) → suc r ≤ n → {path : Path} {st : Stmt} {c : Cell} {v : Value} → LiveStmt s (Known s r) path st → c ∈ cells st → Comes s (Known s r) path c v → H (value (path, c.node) v)
    earlier r h l i (before k) = low _ (known_later s r n _ (omega arith) k)
    earlier r h l i (now g) = low _ (known_later s (suc r) n _ h (inr (cell_value l i g)))

    pub kept_earlier : (r : ℕ) → suc r ≤ n → {f : Fact} → New s (Known s r) f → (x : New s H f) × RightKnown s H x
    kept_earlier r h x = kept r (omega arith) (λ v. Unit {0}) (λ u. tt) (λ path st c v l i g z. earlier r h l i g) x (λ p v e. tt)

    -- knowledge after some rounds: the values behind are known
    pub kept_known : (f : Fact) → Known s n f → (x : New s H f) × RightKnown s H x
    kept_known f k = (let c = came s n f k in kept_earlier c.round c.below c.new)

    -- knowledge after some rounds has what is behind it
    pub backs_known : ((f : Fact) → H f → Known s n f) → Backs s H
    backs_known back = record { backed = λ f h. (kept_known f (back f h)).0; behind = λ f h. (kept_known f (back f h)).1; one_scalar = one_scalar; listed = listed s wf H full sound }

    -- where the scalars of cells that follow in this round are known
    module _ (cell : (path : Path) (st : Stmt) (c : Cell) (u : Scalar) → LiveStmt s (Known s n) path st → c ∈ cells st → Gives s (Known s n) path c.form (Ok (One u)) → H (value (path, c.node) (One u))) where
      at_once : {path : Path} {st : Stmt} {c : Cell} {v : Value} → LiveStmt s (Known s n) path st → c ∈ cells st → Comes s (Known s n) path c v → ((u : Scalar) × (v ≡ One u)) → H (value (path, c.node) v)
      at_once l i (before k) z = low _ k
      at_once {path} {st} {c} {v} l i (now g) z =
          subst (λ (y : Value). H (value (path, c.node) y)) (sym z.1) (cell path st c z.0 l i (subst (λ (y : Value). Gives s (Known s n) path c.form (Ok y)) z.1 g))

      kept_now : {f : Fact} → New s (Known s n) f → ((p : Place) (v : Value) → f ≡ value p v → (u : Scalar) × (v ≡ One u)) → (x : New s H f) × RightKnown s H x
      kept_now x q = kept n here (λ v. (u : Scalar) × (v ≡ One u)) (λ u. (u, refl)) (λ path st c v l i g z. at_once l i g z) x q

      both : (f : Fact) → H f → (x : New s H f) × RightKnown s H x
      both f h = elim (split f h) [ inl k ↦ kept_known f k | inr z ↦ kept_now z.3 (λ p v e. (z.1, value_is (sym e ∙ z.2))) ]

      pub backs_half : Backs s H
      backs_half = record { backed = λ f k. (both f k).0; behind = λ f k. (both f k).1; one_scalar = one_scalar; listed = listed s wf H full sound }

      -- what the round adds to an array, and its scalars, follow with the values behind them
      pub element_after : {a : Place} {k : Key} {w : Place} {v : Scalar} → Known s (suc n) (element a k w v) → (x : New s H (element a k w v)) × RightKnown s H x
      element_after (inl k) = kept_known _ k
      element_after (inr x) = kept_now x (λ p v e. absurd (cc (e)))

      pub scalar_after : {p : Place} {u : Scalar} → Known s (suc n) (value p (One u)) → (x : New s H (value p (One u))) × RightKnown s H x
      scalar_after (inl k) = kept_known _ k
      scalar_after {p} {u} (inr x) = kept_now x (λ p' v e. (u, sym (value_is e)))

    -- and so does each fact
    pub fact_after : (f : Fact) → Known s (suc n) f → New s H f
    fact_after f (inl k) = (kept_known f k).0
    fact_after f (inr x) = keeps_new s (Known s n) H (grows_half n here) clean_half x
