-- In the core of a script whose called names and headers stand apart, headers have offsets of their own, which are no call's.
use Rattle.std.specs.Prelude.{◌≡◌, ◌⊎◌, ℕ, Bool, true, false, List, [], ◌∷◌, ◌++◌, nat_eq, find, Option, Some, None, if◌then◌else◌, refl}
use Rattle.std.proofs.Common.{inl, inr, sym, ap, ◌∙◌, subst}
use Rattle.std.proofs.lemmas.Bool.{cases_Bool, eqb-true}
use Rattle.std.proofs.lemmas.List.{append_assoc}
use Rattle.language.specs.Core.{Action, when, choose, range, each, Call, Core, Stmt, stmt}
use Rattle.language.specs.Members.{◌∈◌, first, later}
use Rattle.language.specs.Openings.{Branches}
use Rattle.language.specs.Parts.{call_at, calls_among, part_calls, parts, script_stmts, stmt_action, stmt_at, stmt_calls}
use Rattle.language.specs.Resolved.{core}
use Rattle.language.specs.Table.{Table}
use Rattle.language.specs.Tree.{Tree}
use Rattle.language.proofs.Members.{either, split_in, to_left, to_right}
use Rattle.language.proofs.Tested.{distinct_apart, distinct_right, flat, flat_in, flat_once}
use Rattle.language.specs.Distinct.{distinct}
use Rattle.language_laws.proofs.TestedNames.{offset}
use Rattle.language_laws.proofs.TreeOffsets.{branch_offset, stmt_offsets, stmts_once}
use Rattle.language_accepted.specs.Placed.{IsPlaced}
use Rattle.meaning_invariants.specs.Opened.{OffsetsApart}

-- a call that is found by its offset is one of a statement
record Found (at : ℕ) (ss : List Stmt) : Type 0 where
  st : Stmt
  c : Call
  there : st ∈ ss
  call_there : c ∈ stmt_calls st
  at_is : c.at ≡ at

record FoundIn (at : ℕ) (cs : List Call) : Type 0 where
  c : Call
  there : c ∈ cs
  at_is : c.at ≡ at

found_in : (at : ℕ) (cs : List Call) (c : Call) → find (λ x. nat_eq x.at at) cs ≡ Some c → FoundIn at cs
found_in at [] c e = absurd (cc (e))
found_in at (x ∷ cs) c e = elim (cases_Bool (nat_eq x.at at)) [
  | inl same ↦ record { c = x; there = first; at_is = eqb-true x.at at same }
  | inr other ↦
      let r = found_in at cs c (sym (ap (λ (b : Bool). if b then Some x else find (λ x. nat_eq x.at at) cs) other) ∙ e) in
      record { c = r.c; there = later r.there; at_is = r.at_is }
]

of_stmts : (at : ℕ) (ss : List Stmt) (c : Call) → c ∈ calls_among ss → c.at ≡ at → Found at ss
of_stmts at [] c m e = elim m [ ]
of_stmts at (st ∷ ss) c m e = elim (either (stmt_calls st) (calls_among ss) m) [
  | inl i ↦ record { st = st; c = c; there = first; call_there = i; at_is = e }
  | inr i ↦ let r = of_stmts at ss c i e in record { st = r.st; c = r.c; there = later r.there; call_there = r.call_there; at_is = r.at_is }
]

-- the offset of a header, and that of a call
own_offset : (at : ℕ) (a : Action) → Branches a → at ∈ branch_offset at a
own_offset at (when c b) h = first
own_offset at (choose c b d) h = first
own_offset at (range lo hi st v k b) h = first
own_offset at (each a v k b) h = first
own_offset at _ h = elim h [ ]

header_offset : (x : Stmt) → Branches (stmt_action x) → stmt_at x ∈ stmt_offsets x
header_offset (stmt at n a) h = to_left (branch_offset at a) (flat offset (part_calls (parts a))) (own_offset at a h)

call_offset : (x : Stmt) (c : Call) → c ∈ stmt_calls x → c.at ∈ flat offset (stmt_calls x)
call_offset x c m = flat_in offset (stmt_calls x) m first

in_offsets : (x : Stmt) (n : ℕ) → n ∈ flat offset (stmt_calls x) → n ∈ stmt_offsets x
in_offsets (stmt at m a) n i = to_right (branch_offset at a) (flat offset (part_calls (parts a))) i

-- what is of one member in two parts does not stand once
clash : {X : Type 0} (f : X → List ℕ) {x : X} {n : ℕ} (ms ks : List ℕ) (xs : List X) → distinct (flat f xs) ≡ true → x ∈ xs → f x ≡ ms ++ ks → n ∈ ms → n ∈ ks → ⊥
clash f ms ks [] h m e i j = elim m [ ]
clash f ms ks (x ∷ xs) h first e i j =
    distinct_apart ms (ks ++ flat f xs) (subst (λ (z : List ℕ). distinct z ≡ true) (ap (λ (z : List ℕ). z ++ flat f xs) e ∙ append_assoc ms ks (flat f xs)) h) i (to_left ks (flat f xs) j)
clash f ms ks (x ∷ xs) h (later m) e i j = clash f ms ks xs (distinct_right (f x) (flat f xs) h) m e i j

-- one statement is no header and call at one offset
not_both : (x : Stmt) (ss : List Stmt) → distinct (flat stmt_offsets ss) ≡ true → x ∈ ss → Branches (stmt_action x) → stmt_at x ∈ flat offset (stmt_calls x) → ⊥
not_both (stmt at n a) ss h k b m = clash stmt_offsets (branch_offset at a) (flat offset (part_calls (parts a))) ss h k refl (own_offset at a b) m

module _ (t : Table) (tree : Tree) (once : distinct (flat stmt_offsets (script_stmts (core t tree))) ≡ true) where
  headers : (x y : Stmt) → x ∈ script_stmts (core t tree) → y ∈ script_stmts (core t tree) → Branches (stmt_action x) → Branches (stmt_action y) → stmt_at x ≡ stmt_at y → x ≡ y
  headers x y m k b d e =
      flat_once stmt_offsets (script_stmts (core t tree)) once m k (header_offset x b) (subst (λ (n : ℕ). n ∈ stmt_offsets y) (sym e) (header_offset y d))

  no_call : (x : Stmt) → x ∈ script_stmts (core t tree) → Branches (stmt_action x) → call_at (core t tree) (stmt_at x) ≡ None
  no_call x m b = by (call_at (core t tree) (stmt_at x)) refl
    where
      by : (o : Option Call) → call_at (core t tree) (stmt_at x) ≡ o → call_at (core t tree) (stmt_at x) ≡ None
      by None e = e
      by (Some c) e =
          let f = found_in (stmt_at x) (calls_among (script_stmts (core t tree))) c e in
          let r = of_stmts (stmt_at x) (script_stmts (core t tree)) f.c f.there f.at_is in
          let here : stmt_at x ∈ flat offset (stmt_calls r.st) = subst (λ (n : ℕ). n ∈ flat offset (stmt_calls r.st)) r.at_is (call_offset r.st r.c r.call_there) in
          let same : x ≡ r.st = flat_once stmt_offsets (script_stmts (core t tree)) once m r.there (header_offset x b) (in_offsets r.st (stmt_at x) here) in
          let own : stmt_at x ∈ flat offset (stmt_calls x) = subst (λ (z : Stmt). stmt_at x ∈ flat offset (stmt_calls z)) (sym same) here in
          absurd (not_both x (script_stmts (core t tree)) once m b own)

-- HEADERS HAVE OFFSETS OF THEIR OWN
pub offsets_apart : (t : Table) (tree : Tree) → IsPlaced tree → OffsetsApart (core t tree)
offsets_apart t tree placed =
    let once = stmts_once t tree placed.apart in
    record { headers = headers t tree once; no_call = no_call t tree once }
