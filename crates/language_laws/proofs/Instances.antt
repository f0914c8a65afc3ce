-- Where values, elements and lines lie: at live instances of blocks.
use Rattle.std.specs.Prelude.{◌⊎◌, ℕ, zero, suc, ◌≤◌, [], ◌∷◌, length, refl}
use Rattle.std.proofs.Common.{inl, inr, sym, subst, arith}
use Rattle.values.specs.declared.value.Scalar.{Scalar}
use Rattle.values.specs.declared.value.Value.{Value}
use Rattle.language.specs.Core.{Owned, local, input, output, Stmt, Block, Core}
use Rattle.language.specs.Facts.{value, Knowledge}
use Rattle.language.specs.Meaning.{Live, script, opened, waited, called, LiveStmt, in_block, HasValue, stored, in_turn, Known, Meaning}
use Rattle.language.specs.Parts.{call_at, input_name, output_name}
use Rattle.language.specs.Places.{Path, Place, Step, place_of, max_path_steps}
use Rattle.language.specs.Single.{SinglyAssigned}
use Rattle.language.specs.WellFormed.{WellFormed}
use Rattle.language_laws.proofs.Ever.{grow_meaning}
use Rattle.language_laws.proofs.Growth.{keeps_live}
use Rattle.language_laws.proofs.Rounds.{Came, came}
use Rattle.language_laws.proofs.Sources.{CellValue, AssignValue, value_view}

-- some block is live at a path
abbrev IsLive : Core → Knowledge → Path → Type 0
IsLive s K path = (b : Block) × Live s K path b

-- where a block is live, so is one at the path without its innermost step
pub outward : {s : Core} {K : Knowledge} {t : Step} {path : Path} {b : Block} → Live s K (t ∷ path) b → IsLive s K path
outward (opened l m r o d) = (_, l)
outward (waited l m r) = outward l
outward (called l m i e d) = (_, l)

-- no live path is longer than a path may be
pub path_bound : {s : Core} {K : Knowledge} {path : Path} {b : Block} → Live s K path b → length path ≤ max_path_steps
path_bound script = omega arith
path_bound (opened l m r o d) = omega arith
path_bound (waited l m r) = path_bound l
path_bound (called l m i e d) = omega arith

-- a name's datum lies at a live instance
pub place_live : (s : Core) {K : Knowledge} (path : Path) (up : ℕ) (what : Owned) → IsLive s K path → IsLive s K (place_of s path up what).0
place_live s [] up (local n) l = l
place_live s [] up (input i) l = l
place_live s [] up (output i) l = l
place_live s (step ∷ path) (suc up) what l = place_live s path up what (outward l.1)
place_live s (step ∷ path) zero (local n) l = l
place_live s (step ∷ path) zero (input i) l = let x = input_name (call_at s step.0) i in place_live s path x.up x.what (outward l.1)
place_live s (step ∷ path) zero (output i) l = let x = output_name (call_at s step.0) i in place_live s path x.up x.what (outward l.1)

stmt_live : {s : Core} {K : Knowledge} {path : Path} {st : Stmt} → LiveStmt s K path st → IsLive s K path
stmt_live (in_block l i) = (_, l)

module _ (s : Core) (w : WellFormed s) (single : SinglyAssigned s) where
  up : (n : ℕ) {path : Path} → IsLive s (Known s n) path → IsLive s (Meaning s) path
  up n l = (l.0, keeps_live s (Known s n) (Meaning s) (grow_meaning s w single n) l.1)

  -- a value that is known is at a live instance
  pub value_live : (p : Place) (v : Value) → Meaning s (value p v) → IsLive s (Meaning s) p.0
  value_live p v f = by (value_view c.new refl)
    where
      c : Came s f.0 (value p v)
      c = came s f.0 (value p v) f.1

      by : (CellValue s (Known s c.round) p v ⊎ AssignValue s (Known s c.round) p v) → IsLive s (Meaning s) p.0
      by (inl e) = subst (λ (z : Place). IsLive s (Meaning s) z.0) (sym e.is) (up c.round (stmt_live e.live))
      by (inr e) = subst (λ (z : Place). IsLive s (Meaning s) z.0) (sym e.is) (up c.round (place_live s e.path e.target.up e.target.what (stmt_live e.live)))

  -- SO IS EACH SCALAR, LOOP VARIABLES AMONG THEM
  pub scalar_live : (p : Place) (v : Scalar) → HasValue s (Meaning s) p v → IsLive s (Meaning s) p.0
  scalar_live p v (stored k) = value_live p _ k
  scalar_live p v (in_turn l m r o t d) = (_, opened l m r o d)
