-- What a script prints, where its one printing statement stands in a known place: that line and nothing else.
use Rattle.std.specs.Prelude.{◌≡◌, ◌⊎◌, ℕ, suc, ℤ, Bool, true, false, ◌&&◌, List, [], ◌∷◌, ◌++◌, refl}
use Rattle.std.specs.List.{list_all}
use Rattle.std.proofs.Common.{inl, inr, sym, ap, ◌∙◌, subst}
use Rattle.std.proofs.lemmas.List.Sorted.{IsPermutation-refl}
use Rattle.std.proofs.lemmas.Bool.{and_parts}
use Rattle.values.specs.declared.value.Scalar.TheVariants.{Text}
use Rattle.values.specs.declared.value.Value.{Value}
use Rattle.values.specs.declared.value.Value.TheVariants.{One}
use Rattle.language.specs.Core.{Outer, Stmt, stmt, Action, print, Block, Core}
use Rattle.language.specs.Facts.{Fact, value, line, Knowledge}
use Rattle.language.specs.Meaning.{Live, script, opened, waited, called, Comes, before, now, LiveStmt, in_block, New, cell_value, cell_fault, assigned, filled, inserted, printed, bad_range, too_deep_header, too_deep_call, written_twice, Known, Meaning}
use Rattle.language.specs.Members.{◌∈◌, first, later}
use Rattle.language.specs.Outcomes.{Written, Lines}
use Rattle.language.specs.Parts.{block_list, blocks_below, function_blocks, stmts_among, script_stmts, stmt_action}
use Rattle.language.specs.Places.{Path, Place}
use Rattle.language.specs.Single.{SinglyAssigned}
use Rattle.language.specs.WellFormed.{WellFormed}
use Rattle.language.proofs.Blocks.{inner_blocks, header_inner, inner_below, below_below, functions_below, body_block, among}
use Rattle.language.proofs.Members.{to_left, to_right, either}
use Rattle.language_laws.proofs.Declared.{header_of}
use Rattle.language_laws.proofs.Ever.{one_value}
use Rattle.language_laws.proofs.Flat.{Flat, flat_stmt}
use Rattle.language_laws.proofs.Rounds.{came}
use Rattle.language_laws.proofs.Sources.{outer_in}

-- PRINTING STATEMENTS

-- a printing statement's node and outermost cell
abbrev pub Printer : Type 0
Printer = ℕ × Outer

abbrev printer_of : ℕ → Action → List Printer
printer_of n (print p c) = (n, c) ∷ []
printer_of n _ = []

abbrev pub printers : List Stmt → List Printer
printers [] = []
printers (stmt at n a ∷ ss) = printer_of n a ++ printers ss

pub printer_in : (ss : List Stmt) {at n : ℕ} {p : ℤ} {c : Outer} → stmt at n (print p c) ∈ ss → ◌∈◌ {X = Printer} (n, c) (printers ss)
printer_in [] m = elim m [ ]
printer_in (stmt at n (print p c) ∷ ss) first = first
printer_in (stmt at n a ∷ ss) (later m) = to_right (printer_of n a) (printers ss) (printer_in ss m)

-- where the printing statements of a script stand: at its own path
abbrev pub PrintsAt : Core → List Printer → Type 0
PrintsAt s ps = (m at n : ℕ) (path : Path) (p : ℤ) (c : Outer) → LiveStmt s (Known s m) path (stmt at n (print p c)) → (path ≡ []) × ◌∈◌ {X = Printer} (n, c) ps

-- of a script without branches, loops and composite calls
pub flat_prints : (s : Core) → Flat s → PrintsAt s (printers (script_stmts s))
flat_prints s flat m at n path p c l = let r = flat_stmt s flat l in (r.0, printer_in (script_stmts s) r.1)

-- the blocks of a script but its own
abbrev pub other_blocks : Core → List Block
other_blocks s = blocks_below s.body ++ function_blocks s.functions

inner_other : (s : Core) {path : Path} {b c : Block} {at n : ℕ} {a : Action} → ((path ≡ []) × (b ≡ s.body)) ⊎ (b ∈ other_blocks s) → stmt at n a ∈ block_list b → c ∈ inner_blocks a → c ∈ other_blocks s
inner_other s {c = c} {at = at} {n = n} {a = a} (inl r) m h = to_left (blocks_below s.body) (function_blocks s.functions) (inner_below s.body (subst (λ (z : Block). stmt at n a ∈ block_list z) r.1 m) h)
inner_other s {b = b} (inr o) m h =
    let k = inner_below b m h in
    elim (either (blocks_below s.body) (function_blocks s.functions) o) [
      | inl i ↦ to_left (blocks_below s.body) (function_blocks s.functions) (below_below s.body i k)
      | inr i ↦ to_right (blocks_below s.body) (function_blocks s.functions) (functions_below s.functions i k)
    ]

-- a live block is the script's own at its own path, or another
pub main_or_other : (s : Core) {K : Knowledge} {path : Path} {b : Block} → Live s K path b → ((path ≡ []) × (b ≡ s.body)) ⊎ (b ∈ other_blocks s)
main_or_other s script = inl (refl, refl)
main_or_other s (opened {c = c} {header = a} l m r o d) = inr (inner_other s (main_or_other s l) m (header_inner a (header_of o)))
main_or_other s (waited l m r) = inr (inner_other s (main_or_other s l) m first)
main_or_other s (called {f = f} {c = c} l m i e d) = inr (to_right (blocks_below s.body) (function_blocks s.functions) (body_block s.functions c.function f e))

abbrev pub is_quiet : Action → Bool
is_quiet (print p c) = false
is_quiet _ = true

all_of : (p : Stmt → Bool) (ss : List Stmt) {st : Stmt} → list_all p ss ≡ true → st ∈ ss → p st ≡ true
all_of p [] h m = elim m [ ]
all_of p (s ∷ ss) h first = (and_parts (p s) (list_all p ss) h).0
all_of p (s ∷ ss) h (later m) = all_of p ss (and_parts (p s) (list_all p ss) h).1 m

-- of a script whose other blocks print nothing
pub main_prints : (s : Core) → list_all (λ st. is_quiet (stmt_action st)) (stmts_among (other_blocks s)) ≡ true → PrintsAt s (printers (block_list s.body))
main_prints s quiet m at n path p c (in_block {b = b} l i) =
    elim (main_or_other s l) [
      | inl r ↦ (r.0, printer_in (block_list s.body) (subst (λ (z : Block). stmt at n (print p c) ∈ block_list z) r.1 i))
      | inr o ↦ (let q = all_of (λ st. is_quiet (stmt_action st)) (stmts_among (other_blocks s)) quiet (among (other_blocks s) o i) in absurd (cc (q)))
    ]

-- LINES

line_parts : {w u : Place} {b c : List ℕ} → line w b ≡ line u c → (w ≡ u) × (b ≡ c)
line_parts h = (cc (h), cc (h))

text_same : {b c : List ℕ} → One (Text b) ≡ One (Text c) → b ≡ c
text_same h = cc

-- a line is a printing statement's, with its text
record PrintedBy (s : Core) (w : Place) (bytes : List ℕ) : Type 0 where
  round : ℕ
  at : ℕ
  node : ℕ
  path : Path
  priority : ℤ
  cell : Outer
  live : LiveStmt s (Known s round) path (stmt at node (print priority cell))
  text : Meaning s (value (path, cell.cell.node) (One (Text bytes)))
  writer : w ≡ (path, node)

pair_parts : {n m : ℕ} {c d : Outer} → ◌≡◌ {A = Printer} (n, c) (m, d) → (n ≡ m) × (c ≡ d)
pair_parts h = (ap (λ (z : Printer). z.0) h, ap (λ (z : Printer). z.1) h)

one_in : {X : Type 0} {x y : X} → x ∈ (y ∷ []) → x ≡ y
one_in first = refl
one_in (later m) = elim m [ ]

comes_known : {s : Core} (r : ℕ) {path : Path} {at n : ℕ} {p : ℤ} {c : Outer} {v : Value} → LiveStmt s (Known s r) path (stmt at n (print p c)) → Comes s (Known s r) path c.cell v → Meaning s (value (path, c.cell.node) v)
comes_known r l (before k) = (r, k)
comes_known r {c = c} l (now g) = (suc r, inr (cell_value l (outer_in c.parts c.cell) g))

printed_by : {s : Core} {w : Place} {bytes : List ℕ} (r : ℕ) {f : Fact} → New s (Known s r) f → f ≡ line w bytes → PrintedBy s w bytes
printed_by {s} r (printed {path = path} {at = at} {n = n} {p = p} {c = c} {bytes = b} l x) q =
    let e = line_parts q in
    record { round = r; at = at; node = n; path = path; priority = p; cell = c; live = l; text = subst (λ (z : List ℕ). Meaning s (value (path, c.cell.node) (One (Text z)))) e.1 (comes_known r l x); writer = sym e.0 }
printed_by r (cell_value h i g) q = absurd (cc (q))
printed_by r (cell_fault h i g) q = absurd (cc (q))
printed_by r (assigned h g) q = absurd (cc (q))
printed_by r (filled h g i) q = absurd (cc (q))
printed_by r (inserted h g k m) q = absurd (cc (q))
printed_by r (bad_range h g e z) q = absurd (cc (q))
printed_by r (too_deep_header h g e z) q = absurd (cc (q))
printed_by r (too_deep_call h i e) q = absurd (cc (q))
printed_by r (written_twice h y z e) q = absurd (cc (q))

printed_from : {s : Core} {w : Place} {bytes : List ℕ} → Meaning s (line w bytes) → PrintedBy s w bytes
printed_from {s} {w} {bytes} f = let c = came s f.0 (line w bytes) f.1 in printed_by c.round c.new refl

-- A SCRIPT WITH ONE PRINTING STATEMENT PRINTS ITS LINE AND NOTHING ELSE
pub one_line : (s : Core) → WellFormed s → SinglyAssigned s → (n : ℕ) (c : Outer) → PrintsAt s ((n, c) ∷ []) → (bytes : List ℕ) → Meaning s (line ([], n) bytes) → Lines (Meaning s) (bytes ∷ [])
one_line s w single n c only bytes f = record {
  listing = (([], n), bytes) ∷ [];
  once = (λ b m. elim m [ ], tt);
  known = λ u b m. (let e = written_parts (one_in m) in subst (λ (z : Place). Meaning s (line z b)) (sym e.0) (subst (λ (z : List ℕ). Meaning s (line ([], n) z)) (sym e.1) f));
  all = λ u b g. same u b g;
  permuted = IsPermutation-refl (bytes ∷ []);
}
  where
    written_parts : {u v : Place} {b d : List ℕ} → ◌≡◌ {A = Written} (u, b) (v, d) → (u ≡ v) × (b ≡ d)
    written_parts h = (ap (λ (z : Written). z.0) h, ap (λ (z : Written). z.1) h)

    text_at : {u : Place} {b : List ℕ} → PrintedBy s u b → (u ≡ ([], n)) × Meaning s (value ([], c.cell.node) (One (Text b)))
    text_at {u} {b} p =
        let r = only p.round p.at p.node p.path p.priority p.cell p.live in
        let e = pair_parts (one_in r.1) in (
          p.writer ∙ (λ i. (r.0 i, e.0 i)),
          subst (λ (z : Path). Meaning s (value (z, c.cell.node) (One (Text b)))) r.0 (subst (λ (z : Outer). Meaning s (value (p.path, z.cell.node) (One (Text b)))) e.1 p.text),
        )

    same : (u : Place) (b : List ℕ) → Meaning s (line u b) → ◌∈◌ {X = Written} (u, b) ((([], n), bytes) ∷ [])
    same u b g =
        let a = text_at (printed_from g) in
        let d = text_at (printed_from f) in
        let e = text_same (one_value s w single ([], c.cell.node) (One (Text b)) (One (Text bytes)) a.1 d.1) in
        subst (λ (z : Written). ◌∈◌ {X = Written} z ((([], n), bytes) ∷ [])) (λ i. (sym a.0 i, sym e i)) first
