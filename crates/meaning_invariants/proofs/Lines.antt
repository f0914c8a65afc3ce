-- After each round of an accepted script a writer has one line.
use Rattle.std.specs.Prelude.{◌≡◌, ℕ, suc, ◌≤◌, ℤ, List, refl}
use Rattle.std.proofs.Common.{inr, ap, subst, arith}
use Rattle.values.specs.declared.value.Scalar.{Scalar}
use Rattle.values.specs.declared.value.Value.{Value}
use Rattle.values.specs.declared.value.Value.TheVariants.{One}
use Rattle.language.specs.Core.{Outer, stmt, print, Core}
use Rattle.language.specs.Facts.{Fact, value, line, Knowledge}
use Rattle.language.specs.Meaning.{Comes, before, now, LiveStmt, New, cell_value, cell_fault, assigned, filled, inserted, printed, bad_range, too_deep_header, too_deep_call, written_twice, Known}
use Rattle.language.specs.Members.{◌∈◌}
use Rattle.language.specs.Parts.{script_stmts}
use Rattle.language.specs.Places.{Path, Place}
use Rattle.language.specs.Single.{SinglyAssigned}
use Rattle.language.specs.WellFormed.{WellFormed}
use Rattle.language_laws.proofs.Declared.{stmt_in}
use Rattle.language_laws.proofs.Ever as law
use Rattle.language_laws.proofs.Rounds.{came, known_later}
use Rattle.language_laws.proofs.Sources.{outer_in}
use Rattle.meaning_steps.specs.News.{NodesTell}
use Rattle.meaning_invariants.proofs.Adding.{OneLine}

-- a line is of a print of the script
record Source (s : Core) (K : Knowledge) (p : Place) (bytes : List ℕ) : Type 0 where
  at : ℕ
  node : ℕ
  priority : ℤ
  cell : Outer
  path : Path
  live : LiveStmt s K path (stmt at node (print priority cell))
  comes : Comes s K path cell.cell (One (Scalar.Text bytes))
  is : (path, node) ≡ p

source_of : {s : Core} {K : Knowledge} {f : Fact} {p : Place} {bytes : List ℕ} → New s K f → f ≡ line p bytes → Source s K p bytes
source_of {s} {K} {f} {p} {bytes} (printed {path = path} {at = at} {n = n} {p = z} {c = c} {bytes = bits} h g) q =
    let e : bits ≡ bytes = cc (q) in
    let i : (path, n) ≡ p = cc (q) in
    record { at = at; node = n; priority = z; cell = c; path = path; live = h; comes = subst (λ (b : List ℕ). Comes s K path c.cell (One (Scalar.Text b))) e g; is = i }
source_of (cell_value h i g) q = absurd (cc (q))
source_of (cell_fault h i g) q = absurd (cc (q))
source_of (assigned h g) q = absurd (cc (q))
source_of (filled h g i) q = absurd (cc (q))
source_of (inserted h g k m) q = absurd (cc (q))
source_of (bad_range h g e z) q = absurd (cc (q))
source_of (too_deep_header h g e z) q = absurd (cc (q))
source_of (too_deep_call h i e) q = absurd (cc (q))
source_of (written_twice h y z e) q = absurd (cc (q))

module _ (s : Core) (w : WellFormed s) (single : SinglyAssigned s) (nodes : NodesTell s) (n : ℕ) where
  -- with the value of its cell
  record HasText (p : Place) (bytes : List ℕ) : Type 0 where
    at : ℕ
    priority : ℤ
    cell : Outer
    there : stmt at p.1 (print priority cell) ∈ script_stmts s
    known : Known s n (value (p.0, cell.cell.node) (One (Scalar.Text bytes)))

  known_text : (r : ℕ) → suc r ≤ n → {q : Path} {at m : ℕ} {z : ℤ} {d : Outer} {v : Value} → LiveStmt s (Known s r) q (stmt at m (print z d)) → Comes s (Known s r) q d.cell v
      → Known s n (value (q, d.cell.node) v)
  known_text r b {q} {d = d} {v = v} l (before k) = known_later s r n (value (q, d.cell.node) v) (omega (arith, b)) k
  known_text r b {q} {d = d} {v = v} l (now g) = known_later s (suc r) n (value (q, d.cell.node) v) b (inr (cell_value l (outer_in d.parts d.cell) g))

  text_of : (p : Place) (bytes : List ℕ) → Known s n (line p bytes) → HasText p bytes
  text_of p bytes k =
      let a = came s n (line p bytes) k in
      let b = a.below in
      let t = source_of a.new refl in
      let known : Known s n (value (t.path, t.cell.cell.node) (One (Scalar.Text bytes))) = known_text a.round (omega (arith, b)) t.live t.comes in
      let ep : t.path ≡ p.0 = ap (λ (z : Place). z.0) t.is in
      let en : t.node ≡ p.1 = ap (λ (z : Place). z.1) t.is in
      record {
        at = t.at;
        priority = t.priority;
        cell = t.cell;
        there = subst (λ (z : ℕ). stmt t.at z (print t.priority t.cell) ∈ script_stmts s) en (stmt_in s t.live);
        known = subst (λ (z : Path). Known s n (value (z, t.cell.cell.node) (One (Scalar.Text bytes)))) ep known;
      }

  text_same : {b c : List ℕ} → One (Scalar.Text b) ≡ One (Scalar.Text c) → b ≡ c
  text_same h = cc

  pub one_line : OneLine (Known s n)
  one_line p b c x y =
      let t = text_of p b x in
      let u = text_of p c y in
      let same : u.cell ≡ t.cell = nodes.one_line u.at t.at p.1 u.priority t.priority u.cell t.cell u.there t.there in
      let here : Known s n (value (p.0, t.cell.cell.node) (One (Scalar.Text c))) = subst (λ (z : Outer). Known s n (value (p.0, z.cell.node) (One (Scalar.Text c)))) same u.known in
      text_same (((law.sound s w single n).one_each).one_value (p.0, t.cell.cell.node) (One (Scalar.Text b)) (One (Scalar.Text c)) t.known here)
