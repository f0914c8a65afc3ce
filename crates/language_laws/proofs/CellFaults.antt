-- A cell has one value or one fault, where no statement has its number.
use Rattle.std.specs.Prelude.{◌≡◌, ◌≢◌, ◌⊎◌, ℕ, Result, Ok, Err, refl}
use Rattle.std.proofs.Common.{inl, inr, sym, ap, ◌∙◌, subst}
use Rattle.values.specs.declared.value.Value.{Value}
use Rattle.language.specs.Core.{Cell, Stmt, Core}
use Rattle.language.specs.Facts.{Fault, Fact, value, fault, Knowledge}
use Rattle.language.specs.Meaning.{Gives, LiveStmt, New, cell_value, cell_fault, assigned, filled, inserted, printed, bad_range, too_deep_header, too_deep_call, written_twice, Known, Meaning}
use Rattle.language.specs.Members.{◌∈◌}
use Rattle.language.specs.Parts.{stmt_at, stmt_node, script_stmts, cells}
use Rattle.language.specs.Places.{Path, Place}
use Rattle.language.specs.Single.{SinglyAssigned}
use Rattle.language.specs.WellFormed.{WellFormed}
use Rattle.language_laws.proofs.Declared.{stmt_in}
use Rattle.language_laws.proofs.Rounds.{Came, came}
use Rattle.language_laws.proofs.Sources.{cell_gives}
use Rattle.language_laws.proofs.Whole.{one_gives}

-- a fault is a cell's
pub record CellFault (s : Core) (K : Knowledge) (f : Fault) (at : ℕ) (p : Place) : Type 0 where
  pub path : Path
  pub st : Stmt
  pub cell : Cell
  pub live : LiveStmt s K path st
  pub there : cell ∈ cells st
  pub gives : Gives s K path cell.form (Err f)
  pub is : p ≡ (path, cell.node)
  pub at_is : at ≡ stmt_at st

-- a fault is a statement's
pub record StmtFault (s : Core) (K : Knowledge) (p : Place) : Type 0 where
  pub path : Path
  pub st : Stmt
  pub live : LiveStmt s K path st
  pub is : p ≡ (path, stmt_node st)

fault_parts : {f g : Fault} {at at' : ℕ} {p q : Place} → fault f at p ≡ fault g at' q → (f ≡ g) × (at ≡ at') × (p ≡ q)
fault_parts h = (cc (h), cc (h), cc (h))

pub fault_view : {s : Core} {K : Knowledge} {x : Fact} {f : Fault} {at : ℕ} {p : Place} → New s K x → x ≡ fault f at p → CellFault s K f at p ⊎ StmtFault s K p
fault_view {s} {K} (cell_fault {path = path} {st = st} {c = c} h i g) q =
    let r = fault_parts q in
    inl (record { path = path; st = st; cell = c; live = h; there = i; gives = subst (λ (z : Fault). Gives s K path c.form (Err z)) r.0 g; is = sym r.2; at_is = sym r.1 })
fault_view (bad_range h g e z) q = inr (record { path = _; st = _; live = h; is = sym (fault_parts q).2 })
fault_view (too_deep_header h g e z) q = inr (record { path = _; st = _; live = h; is = sym (fault_parts q).2 })
fault_view (too_deep_call h i e) q = inr (record { path = _; st = _; live = h; is = sym (fault_parts q).2 })
fault_view (written_twice h y z e) q = inr (record { path = _; st = _; live = h; is = sym (fault_parts q).2 })
fault_view (cell_value h i g) q = absurd (cc (q))
fault_view (assigned h g) q = absurd (cc (q))
fault_view (filled h g i) q = absurd (cc (q))
fault_view (inserted h g k m) q = absurd (cc (q))
fault_view (printed h g) q = absurd (cc (q))

ok_err : {v : Value} {f : Fault} → ◌≡◌ {A = Result Value Fault} (Ok v) (Err f) → ⊥
ok_err h = absurd (cc (h))

err_same : {f g : Fault} → ◌≡◌ {A = Result Value Fault} (Err f) (Err g) → f ≡ g
err_same h = cc

module _ (s : Core) (w : WellFormed s) (single : SinglyAssigned s) (st : Stmt) (c : Cell) (m : st ∈ script_stmts s) (i : c ∈ cells st)
    (apart : (x : Stmt) → x ∈ script_stmts s → stmt_node x ≢ c.node) (path : Path) where
  -- a fault at a cell's place is what that cell gives
  at_cell : (f : Fault) (at : ℕ) → Meaning s (fault f at (path, c.node)) → (n : ℕ) × Gives s (Known s n) path c.form (Err f) × (at ≡ stmt_at st)
  at_cell f at h = by (came s h.0 _ h.1)
    where
      here : (n : ℕ) → (CellFault s (Known s n) f at (path, c.node) ⊎ StmtFault s (Known s n) (path, c.node)) → (n : ℕ) × Gives s (Known s n) path c.form (Err f) × (at ≡ stmt_at st)
      here n (inl e) =
          let same = (w.cells).cell_once e.st st e.cell c (stmt_in s e.live) m e.there i (sym (ap (λ (z : Place). z.1) e.is)) in
          (n, subst (λ (z : Path). Gives s (Known s n) z c.form (Err f)) (sym (ap (λ (z : Place). z.0) e.is)) (subst (λ (z : Cell). Gives s (Known s n) e.path z.form (Err f)) same.1 e.gives), e.at_is ∙ ap stmt_at same.0)
      here n (inr e) = absurd (apart e.st (stmt_in s e.live) (sym (ap (λ (z : Place). z.1) e.is)))

      by : Came s h.0 (fault f at (path, c.node)) → (n : ℕ) × Gives s (Known s n) path c.form (Err f) × (at ≡ stmt_at st)
      by a = here a.round (fault_view a.new refl)

  pub not_both : (v : Value) (f : Fault) (at : ℕ) → Meaning s (value (path, c.node) v) → Meaning s (fault f at (path, c.node)) → ⊥
  not_both v f at h k =
      let a = came s h.0 _ h.1 in
      let b = at_cell f at k in
      ok_err (one_gives s w single a.round b.0 (cell_gives s w.cells (Known s a.round) m i a.new).1 b.1)

  pub one_fault : (f g : Fault) (at at' : ℕ) → Meaning s (fault f at (path, c.node)) → Meaning s (fault g at' (path, c.node)) → (f ≡ g) × (at ≡ at')
  one_fault f g at at' h k =
      let a = at_cell f at h in
      let b = at_cell g at' k in
      (err_same (one_gives s w single a.0 b.0 a.1 b.1), a.2 ∙ sym b.2)
