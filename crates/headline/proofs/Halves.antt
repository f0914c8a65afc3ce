-- Half a round, and the parts of it: the cells that follow come before what is assigned by them.
use Rattle.std.proofs.Common.{◌≡◌, ◌⊎◌, inl, inr, ℕ, suc, Ok, refl, sym, subst, arith}
use Rattle.std.specs.Prelude.{◌≤◌}
use Rattle.values.specs.declared.key.Key.{Key}
use Rattle.values.specs.declared.value.Scalar.{Scalar}
use Rattle.values.specs.declared.value.Value.TheVariants.{One}
use Rattle.language.specs.Core.{Cell, Stmt, Core}
use Rattle.language.specs.Facts.{Fact, value, element, Knowledge, OneWriter}
use Rattle.language.specs.Meaning.{New, cell_value, LiveStmt, Gives, Known}
use Rattle.language.specs.Members.{◌∈◌}
use Rattle.language.specs.Parts.{cells}
use Rattle.language.specs.Places.{Path, Place}
use Rattle.language.specs.Single.{SinglyAssigned}
use Rattle.language.specs.WellFormed.{WellFormed}
use Rattle.language_laws.proofs.Growth.{Grows}
use Rattle.headline.specs.Backs.{RightKnown, Backs}
use Rattle.headline.specs.Halves.{Half}
use Rattle.headline.proofs.Between as Be
use Rattle.headline.proofs.Next.{Follows}
use Rattle.code_rules.specs.IsCodeOf.{IsCodeOf}
use Rattle.language_laws.proofs.Hinge.{grows}
use Rattle.language_laws.proofs.Rounds.{later_of}
use Rattle.language_laws.proofs.Sources.{IsFull}
use Rattle.language_laws.specs.Scoped.{Scoped}
use Rattle.task_code.specs.Code.{Code}
use Rattle.task_code.specs.Machine.{CleanCode}
use Rattle.task_code.specs.Whole.{IsCode}

-- the scalar of a cell that follows from a round
pub record NewCell (s : Core) (n : ℕ) (f : Fact) : Type 0 where
  pub path : Path
  pub st : Stmt
  pub cell : Cell
  pub scalar : Scalar
  pub live : LiveStmt s (Known s n) path st
  pub there : cell ∈ cells st
  pub gives : Gives s (Known s n) path cell.form (Ok (One scalar))
  pub is : f ≡ value (path, cell.node) (One scalar)

-- what is known after a round, and the scalars of cells that follow
abbrev pub Cells : Core → ℕ → Knowledge
Cells s n f = Known s n f ⊎ NewCell s n f

module _ (s : Core) (wf : WellFormed s) (single : SinglyAssigned s) (n : ℕ) where
  half_cell : (path : Path) (st : Stmt) (c : Cell) (u : Scalar) → LiveStmt s (Known s n) path st → c ∈ cells st → Gives s (Known s n) path c.form (Ok (One u)) → Half s n (value (path, c.node) (One u))
  half_cell path st c u l i g = inr ((path, c.node), u, refl, cell_value l i g)

  pub grows_half : (r : ℕ) → r ≤ n → Grows s (Known s r) (Half s n)
  grows_half r h = Be.grows_half s wf single n (Half s n) (λ f k. inl k) (λ f h. h) r h

  cells_split : (f : Fact) → Cells s n f → Known s n f ⊎ Be.NewScalar s n f
  cells_split f (inl k) = inl k
  cells_split f (inr z) = inr ((z.path, z.cell.node), z.scalar, z.is, subst (λ (y : Fact). New s (Known s n) y) (sym z.is) (cell_value z.live z.there z.gives))

  new_cell : (path : Path) (st : Stmt) (c : Cell) (u : Scalar) → LiveStmt s (Known s n) path st → c ∈ cells st → Gives s (Known s n) path c.form (Ok (One u)) → Cells s n (value (path, c.node) (One u))
  new_cell path st c u l i g = inr (record { path = path; st = st; cell = c; scalar = u; live = l; there = i; gives = g; is = refl })

  pub cells_full : IsFull s (λ f. Cells s n f)
  cells_full = Be.full s wf single n (λ f. Cells s n f) (λ f k. inl k) cells_split

  pub half_full : IsFull s (Half s n)
  half_full = Be.full s wf single n (Half s n) (λ f k. inl k) (λ f h. h)

  cells_up : (f : Fact) → Cells s n f → Known s (suc n) f
  cells_up = Be.up s wf single n (λ f. Cells s n f) (λ f k. inl k) cells_split

  half_up : (f : Fact) → Half s n f → Known s (suc n) f
  half_up = Be.up s wf single n (Half s n) (λ f k. inl k) (λ f h. h)

  cells_half : (f : Fact) → Cells s n f → Half s n f
  cells_half f h = cells_split f h

  grows_cells : Grows s (λ f. Cells s n f) (Half s n)
  grows_cells = grows s wf.names (λ f. Cells s n f) (Half s n) (later_of s wf.names wf.cells wf.loops wf.writers (λ f. Cells s n f) (Half s n) cells_full (Be.sound s wf single n (λ f. Cells s n f) (λ f k. inl k) cells_split) (Be.sound s wf single n (Half s n) (λ f k. inl k) (λ f h. h)) cells_half)

  module _ (clean : (a : Place) → OneWriter (Known s n) a) where
    pub clean_half : (a : Place) → OneWriter (Half s n) a
    clean_half a = Be.clean_half s wf single n (Half s n) (λ f k. inl k) (λ f h. h) clean a

    pub cells_backs : Backs s (λ f. Cells s n f)
    cells_backs = Be.backs_half s wf single n (λ f. Cells s n f) (λ f k. inl k) cells_split clean new_cell

    pub known_backs : Backs s (Known s n)
    known_backs = Be.backs_known s wf single n (Known s n) (λ f k. k) (λ f k. inl k) clean (λ f k. k)

    pub half_backs : Backs s (Half s n)
    half_backs = Be.backs_half s wf single n (Half s n) (λ f k. inl k) (λ f h. h) clean half_cell

    -- what a round adds to an array follows from the half round
    pub element_backed : {a : Place} {k : Key} {w : Place} {v : Scalar} → Known s (suc n) (element a k w v) → (x : New s (Half s n) (element a k w v)) × RightKnown s (Half s n) x
    element_backed h = Be.element_after s wf single n (Half s n) (λ f k. inl k) (λ f h. h) clean half_cell h

-- EACH FOLLOWS FROM THE ONE BEFORE
module _ (s : Core) (C : Code) (w : IsCodeOf s C) (wf : WellFormed s) (I : IsCode C) (sc : Scoped s) (clean_code : CleanCode C) (single : SinglyAssigned s) (n : ℕ) (clean : (a : Place) → OneWriter (Known s n) a) where
  abbrev Follow : Knowledge → Knowledge → Type 0
  Follow K' K = Follows s C w wf I sc clean_code K' K

  known_kept : (f : Fact) → Known s n f → (x : New s (Known s n) f) × RightKnown s (Known s n) x
  known_kept f k = Be.kept_known s wf single n (Known s n) (λ f k. k) (λ f k. inl k) clean f k

  -- the value of a cell has nothing behind it
  moved_cell : (f : Fact) → NewCell s n f → (x : New s (Known s n) f) × RightKnown s (Known s n) x
  moved_cell f z = subst (λ (y : Fact). (x : New s (Known s n) y) × RightKnown s (Known s n) x) (sym z.is) (cell_value z.live z.there z.gives, tt)

  cells_kept : (f : Fact) → Cells s n f → (x : New s (Known s n) f) × RightKnown s (Known s n) x
  cells_kept f (inl k) = known_kept f k
  cells_kept f (inr z) = moved_cell f z

  pub cells_follow : Follow (Known s n) (λ f. Cells s n f)
  cells_follow = record {
    grows = Be.grows_half s wf single n (λ f. Cells s n f) (λ f k. inl k) (cells_split s wf single n) n (omega arith);
    news = λ f h. (cells_kept f h).0;
    scalars = λ p u h. cells_kept _ h;
    elements = λ a k u x h. cells_kept _ h;
  }

  -- what the next round knows follows from the cells
  module _ (K : Knowledge) (up : (f : Fact) → K f → Known s (suc n) f) (g : Grows s (λ f. Cells s n f) K) where
    follow_cells : Follow (λ f. Cells s n f) K
    follow_cells = record {
      grows = g;
      news = λ f h. Be.fact_after s wf single n (λ f. Cells s n f) (λ f k. inl k) (cells_split s wf single n) clean f (up f h);
      scalars = λ p u h. Be.scalar_after s wf single n (λ f. Cells s n f) (λ f k. inl k) (cells_split s wf single n) clean (new_cell s wf single n) (up _ h);
      elements = λ a k u x h. Be.element_after s wf single n (λ f. Cells s n f) (λ f k. inl k) (cells_split s wf single n) clean (new_cell s wf single n) (up _ h);
    }

  pub half_follows : Follow (λ f. Cells s n f) (Half s n)
  half_follows = follow_cells (Half s n) (half_up s wf single n) (grows_cells s wf single n)

  pub known_follows : Follow (λ f. Cells s n f) (Known s (suc n))
  known_follows = follow_cells (Known s (suc n)) (λ f h. h) (Be.grows_next s wf single n (λ f. Cells s n f) (λ f k. inl k) (cells_split s wf single n))
