-- A statement that told nothing tells nothing still, where more is known and nothing has come of what it read.
use Rattle.std.specs.Prelude.{◌≡◌, ℕ, Bool, true, false, ◌&&◌, List, [], ◌∷◌, ◌++◌, length, nat_le, map, Option, Some, None, Result, Ok, Err, refl}
use Rattle.std.proofs.Common.{sym, ap, ◌∙◌, subst}
use Rattle.paths.specs.declared.faults.FaultKind.{FaultKind}
use Rattle.values.specs.declared.fault.OpFault.{OpFault}
use Rattle.values.specs.declared.key.Key.{Key}
use Rattle.values.specs.declared.map.Element.{Element}
use Rattle.values.specs.declared.value.Scalar.{Scalar}
use Rattle.values.specs.declared.value.Value.{Value}
use Rattle.values.specs.declared.value.Value.TheVariants.{One, Many}
use Rattle.values.specs.Keys.{value_key}
use Rattle.language.specs.Core as core
use Rattle.language.specs.Core.{Cell, Outer, Action, Name, Expr, Exprs, literal, name, whole, operator, none, also, Form, compute, read, stmt, inner, calls, declare, call_alone, assign, fill, insert, print, assert, when, choose, range, each, wait}
use Rattle.language.specs.Facts.{Fault, operation, element_twice, too_deep, Fact, value, line, fault}
use Rattle.language.specs.Members.{◌∈◌, first, later}
use Rattle.language.specs.Openings.{bounds}
use Rattle.language.specs.Parts.{outers, outer_cells, outer_parts, parts, part_cells, stmt_calls}
use Rattle.language.specs.Places.{Path, max_path_steps}
use Rattle.language.proofs.Members.{to_left, to_right}
use Rattle.meaning_steps.specs.Environment.{Come, Outcome, outcome, as_outcome, element_come, element_under, many_come, one_come, operated, read_come, with_come, worked, worked_all}
use Rattle.meaning_steps.specs.Kept.{is_there, several_in}
use Rattle.meaning_steps.specs.News.{bad_by, branch_by, cell_by, come_by, comes_all, count_of, deep_by, key_in, one_in, printed_told, some_call, some_item, some_turn, text_in, unless, with_value}
use Rattle.meaning_facts.specs.declared.facts.Place.{Place}
use Rattle.meaning_facts.specs.declared.fact_base.FactBase.{FactBase}
use Rattle.meaning_facts.specs.Keeping.{has_kind, kind_of}
use Rattle.meaning_facts.specs.Sighted.{closed_at, scalar_at, sight_of}
use Rattle.meaning_facts.specs.Store.{elements_from, is_written_in, value_at, writes_at, writes_under}
use Rattle.meaning_invariants.specs.Held.{HasPlaces}
use Rattle.meaning_round.specs.declared.site.LiveStatement.{LiveStatement}
use Rattle.meaning_round.specs.Faults.{sight_at, past_at, path_at, deep_news, each_news, fault_news}
use Rattle.meaning_round.specs.declared.worklist.WakeEvent.{WakeEvent}
use Rattle.meaning_round.specs.More.{KnowsMore}
use Rattle.meaning_round.specs.Reads.{at, cell_reads, cells_reads, elements_reads, element_reads, expr_reads, exprs_reads, filled_reads, form_reads, here, inserted_reads, key_reads, lies, own_reads, put_reads, site_reads, under, unknown, unless_known, IsSame}
use Rattle.meaning_round.specs.Told.{assigned_news, branch_news, calls_news, cell_news, cells_news, comes_at, element_by, element_news, elements_news, filled_news, inserted_news, lies_at, own_news, range_news, site_news}

-- LISTS

left_empty : {X : Type 0} (xs ys : List X) → xs ++ ys ≡ [] → xs ≡ []
left_empty [] ys e = refl
left_empty (x ∷ xs) ys e = absurd (cc (e))

right_empty : {X : Type 0} (xs ys : List X) → xs ++ ys ≡ [] → ys ≡ []
right_empty [] ys e = e
right_empty (x ∷ xs) ys e = absurd (cc (e))

both_empty : {X : Type 0} (xs ys : List X) → xs ≡ [] → ys ≡ [] → xs ++ ys ≡ []
both_empty {X = X} xs ys e f = ap (λ (z : List X). z ++ ys) e ∙ f

-- an outermost cell is one of the cells
now_in : (ps : List core.Part) (c : Cell) (qs : List core.Part) → c ∈ part_cells (ps ++ inner c ∷ qs)
now_in [] c qs = first
now_in (inner d ∷ ps) c qs = later (now_in ps c qs)
now_in (calls d ∷ ps) c qs = now_in ps c qs

past_in : (ps : List core.Part) (d : Cell) (qs : List core.Part) (c : Cell) → c ∈ part_cells qs → c ∈ part_cells (ps ++ inner d ∷ qs)
past_in [] d qs c i = later i
past_in (inner b ∷ ps) d qs c i = later (past_in ps d qs c i)
past_in (calls b ∷ ps) d qs c i = past_in ps d qs c i

outer_in : (os : List Outer) (o : Outer) → o ∈ os → o.cell ∈ part_cells (outer_parts os)
outer_in [] o i = elim i [ ]
outer_in (x ∷ os) o first = now_in x.parts x.cell (outer_parts os)
outer_in (x ∷ os) o (later i) = past_in x.parts x.cell (outer_parts os) o.cell (outer_in os o i)

module _ (l m : FactBase) (more : KnowsMore l m) (t : LiveStatement) (placed : HasPlaces l.instances.all.items t.instance) where
  abbrev Quiet : List WakeEvent → Type 0
  Quiet es = (e : WakeEvent) → e ∈ es → IsSame l m e

  quiet_left : (xs ys : List WakeEvent) → Quiet (xs ++ ys) → Quiet xs
  quiet_left xs ys q e i = q e (to_left xs ys i)

  quiet_right : (xs ys : List WakeEvent) → Quiet (xs ++ ys) → Quiet ys
  quiet_right xs ys q e i = q e (to_right xs ys i)

  -- WHAT IS SEEN

  lies_same : (x : Name) → lies m t.instance x ≡ lies l t.instance x
  lies_same x = more.spots t.instance x placed.within

  value_same : (p : Place) → Quiet (unknown (value_at l.facts p) p) → value_at m.facts p ≡ value_at l.facts p
  value_same p q = by (value_at l.facts p) refl q
    where
      by : (o : Option Value) → value_at l.facts p ≡ o → Quiet (unknown o p) → value_at m.facts p ≡ value_at l.facts p
      by (Some v) e q = more.values p v e ∙ sym e
      by None e q = (q (at p) first).value refl

  scalar_same : (x : Name) → Quiet (unknown (value_at l.facts (lies l t.instance x)) (lies l t.instance x)) → scalar_at m (lies m t.instance x) ≡ scalar_at l (lies l t.instance x)
  scalar_same x q =
      ap (λ (p : Place). scalar_at m p) (lies_same x)
      ∙ more.scalars (lies l t.instance x) (placed.names x) (value_same (lies l t.instance x) q)

  -- the elements of an array, where it is closed
  abbrev elements_at : FactBase → Place → List Element
  elements_at k p = elements_from [] (writes_at k.facts p)

  elements_same : (p : Place) → IsSame l m (at p) → closed_at l p ≡ true → elements_at m p ≡ elements_at l p
  elements_same p s e = ap (elements_from []) (s.elements refl e)

  many_same : (p : Place) → IsSame l m (at p) → many_come (closed_at m p) (elements_at m p) ≡ many_come (closed_at l p) (elements_at l p)
  many_same p s = ap (λ (b : Bool). many_come b (elements_at m p)) (s.closed refl) ∙ by (closed_at l p) refl
    where
      by : (b : Bool) → closed_at l p ≡ b → many_come b (elements_at m p) ≡ many_come b (elements_at l p)
      by true e = ap (many_come true) (elements_same p s e)
      by false e = refl

  mutual
    worked_same : (e : Expr) → Quiet (expr_reads l t.instance e) → worked (sight_of m t.instance) e ≡ worked (sight_of l t.instance) e
    worked_same (literal v) q = refl
    worked_same (name x) q = ap one_come (scalar_same x q)
    worked_same (whole a) q =
        ap (λ (p : Place). many_come (closed_at m p) (elements_at m p)) (lies_same a) ∙ many_same (lies l t.instance a) (q (at (lies l t.instance a)) first)
    worked_same (operator o es) q = ap (operated o) (all_same es q)

    all_same : (es : Exprs) → Quiet (exprs_reads l t.instance es) → worked_all (sight_of m t.instance) es ≡ worked_all (sight_of l t.instance) es
    all_same none q = refl
    all_same (also e es) q =
        ap (λ (z : Come). with_come z (worked_all (sight_of m t.instance) es)) (worked_same e (quiet_left (expr_reads l t.instance e) (exprs_reads l t.instance es) q))
        ∙ ap (with_come (worked (sight_of l t.instance) e)) (all_same es (quiet_right (expr_reads l t.instance e) (exprs_reads l t.instance es) q))

  element_same : (a : Name) (o : Option Key) → Quiet (key_reads (lies l t.instance a) o) → element_under (sight_of m t.instance) a o ≡ element_under (sight_of l t.instance) a o
  element_same a None q = refl
  element_same a (Some k) q =
      let p = lies l t.instance a in
      ap (λ (z : Place). element_come (writes_under (writes_at m.facts z) k) (closed_at m z)) (lies_same a)
      ∙ ap (λ (z : List Scalar). element_come z (closed_at m (lies l t.instance a))) ((q (under p k) first).writes k refl)
      ∙ ap (λ (b : Bool). element_come (writes_under (writes_at l.facts (lies l t.instance a)) k) b) ((q (at p) (later first)).closed refl)

  outcome_same : (f : Form) → Quiet (form_reads l t.instance f) → outcome (sight_of m t.instance) f ≡ outcome (sight_of l t.instance) f
  outcome_same (compute e) q = ap as_outcome (worked_same e q)
  outcome_same (read a n) q = by (value_at l.facts (here t.instance n)) refl q
    where
      by : (o : Option Value) → value_at l.facts (here t.instance n) ≡ o → Quiet (element_reads (lies l t.instance a) (here t.instance n) o)
          → read_come (sight_of m t.instance) a (value_at m.facts (here t.instance n)) ≡ read_come (sight_of l t.instance) a (value_at l.facts (here t.instance n))
      by (Some v) e q =
          ap (read_come (sight_of m t.instance) a) (more.values (here t.instance n) v e) ∙ element_same a (value_key v) q ∙ sym (ap (read_come (sight_of l t.instance) a) e)
      by None e q =
          ap (read_come (sight_of m t.instance) a) ((q (at (here t.instance n)) first).value refl ∙ e) ∙ sym (ap (read_come (sight_of l t.instance) a) e)

  -- WHAT IS KNOWN

  faulted_stays : (f : Fault) (offset n : ℕ) → (past_at l t).faulted f offset n ≡ true → (past_at m t).faulted f offset n ≡ true
  faulted_stays f offset n e = by (kind_of f) e
    where
      by : (o : Option FaultKind) → has_kind l.facts o offset (here t.instance n) ≡ true → has_kind m.facts o offset (here t.instance n) ≡ true
      by (Some kind) e = more.faults (record { kind = kind; at = offset; place = here t.instance n }) e
      by None e = absurd (cc (e))

  deep_same : (past_at m t).deep ≡ (past_at l t).deep
  deep_same = ap (λ (z : Path). nat_le max_path_steps (length z)) (more.grows.path_same t.instance placed.within)

  -- what is told unless it is known
  known_in : (b : Bool) (x : Fact) → unless b x ≡ [] → b ≡ true
  known_in true x e = refl
  known_in false x e = absurd (cc (e))

  unless_true : (b : Bool) (x : Fact) → b ≡ true → unless b x ≡ []
  unless_true b x e = ap (λ (z : Bool). unless z x) e

  fault_still : (f : Fault) (n : ℕ) → fault_news l t f n ≡ [] → fault_news m t f n ≡ []
  fault_still f n e =
      unless_true ((past_at m t).faulted f t.at n) (fault f t.at (path_at m t, n))
      (faulted_stays f t.at n (known_in ((past_at l t).faulted f t.at n) (fault f t.at (path_at l t, n)) e))

  deep_by_still : (b : Bool) → deep_by (past_at l t) (path_at l t) t.at t.node b ≡ [] → deep_by (past_at m t) (path_at m t) t.at t.node b ≡ []
  deep_by_still true e = fault_still too_deep t.node e
  deep_by_still false e = refl

  deep_still : (opens : Bool) → deep_news l t opens ≡ [] → deep_news m t opens ≡ []
  deep_still opens e =
      ap (λ (b : Bool). deep_by (past_at m t) (path_at m t) t.at t.node (b && opens)) deep_same ∙ deep_by_still ((past_at l t).deep && opens) e

  -- CELLS

  -- a cell that tells nothing still, and has the same value as it had
  record IsStill (c : Cell) : Type 0 where
    silent : cell_news m t c ≡ []
    comes_then : comes_at l t c ≡ value_at l.facts (here t.instance c.node)
    comes_now : comes_at m t c ≡ value_at l.facts (here t.instance c.node)

  outcome_still : (n : ℕ) (r : Outcome) → cell_by (past_at l t) (path_at l t) t.at n None r ≡ [] → (cell_by (past_at m t) (path_at m t) t.at n None r ≡ []) × (come_by None r ≡ None)
  outcome_still n (Some (Ok v)) e = absurd (cc (e))
  outcome_still n (Some (Err f)) e = (fault_still f n e, refl)
  outcome_still n None e = (refl, refl)

  cell_still : (c : Cell) → Quiet (cell_reads l t c) → cell_news l t c ≡ [] → IsStill c
  cell_still c q e = by (value_at l.facts (here t.instance c.node)) refl q
    where
      by : (o : Option Value) → value_at l.facts (here t.instance c.node) ≡ o → Quiet (unless_known o (here t.instance c.node) (form_reads l t.instance c.form)) → IsStill c
      by (Some v) f q =
          let now = more.values (here t.instance c.node) v f in
          record {
            silent = ap (λ (o : Option Value). cell_by (past_at m t) (path_at m t) t.at c.node o (outcome (sight_at m t) c.form)) now;
            comes_then = ap (λ (o : Option Value). come_by o (outcome (sight_at l t) c.form)) f ∙ sym f;
            comes_now = ap (λ (o : Option Value). come_by o (outcome (sight_at m t) c.form)) now ∙ sym f;
          }
      by None f q =
          let now : value_at m.facts (here t.instance c.node) ≡ None = (q (at (here t.instance c.node)) first).value refl ∙ f in
          let same = outcome_same c.form (λ d i. q d (later i)) in
          let was = outcome_still c.node (outcome (sight_at l t) c.form)
          (subst (λ (o : Option Value). cell_by (past_at l t) (path_at l t) t.at c.node o (outcome (sight_at l t) c.form) ≡ []) f e) in
          record {
            silent = ap (λ (o : Option Value). cell_by (past_at m t) (path_at m t) t.at c.node o (outcome (sight_at m t) c.form)) now
                ∙ ap (λ (r : Outcome). cell_by (past_at m t) (path_at m t) t.at c.node None r) same ∙ was.0;
            comes_then = ap (λ (o : Option Value). come_by o (outcome (sight_at l t) c.form)) f ∙ was.1 ∙ sym f;
            comes_now = ap (λ (o : Option Value). come_by o (outcome (sight_at m t) c.form)) now ∙ ap (λ (r : Outcome). come_by None r) same ∙ was.1 ∙ sym f;
          }

  abbrev AreStill : List Cell → Type 0
  AreStill cs = (c : Cell) → c ∈ cs → IsStill c

  cells_still : (cs : List Cell) → Quiet (cells_reads l t cs) → cells_news l t cs ≡ [] → AreStill cs
  cells_still [] q e c i = elim i [ ]
  cells_still (c ∷ cs) q e d first = cell_still c (quiet_left (cell_reads l t c) (cells_reads l t cs) q) (left_empty (cell_news l t c) (cells_news l t cs) e)
  cells_still (c ∷ cs) q e d (later i) = cells_still cs (quiet_right (cell_reads l t c) (cells_reads l t cs) q) (right_empty (cell_news l t c) (cells_news l t cs) e) d i

  cells_silent : (cs : List Cell) → AreStill cs → cells_news m t cs ≡ []
  cells_silent [] s = refl
  cells_silent (c ∷ cs) s = both_empty (cell_news m t c) (cells_news m t cs) (s c first).silent (cells_silent cs (λ d i. s d (later i)))

  comes_same : (c : Cell) → IsStill c → comes_at m t c ≡ comes_at l t c
  comes_same c s = s.comes_now ∙ sym s.comes_then

  all_come : (cs : List Cell) → AreStill cs → comes_all (sight_at m t) cs ≡ comes_all (sight_at l t) cs
  all_come [] s = refl
  all_come (c ∷ cs) s =
      ap (λ (o : Option Value). with_value o (comes_all (sight_at m t) cs)) (comes_same c (s c first))
      ∙ ap (λ (z : Option (List Value)). with_value (comes_at l t c) z) (all_come cs (λ d i. s d (later i)))

  -- WHAT IS DONE WITH THEIR VALUES

  valued_stays : (x : Name) → (past_at l t).valued x ≡ true → (past_at m t).valued x ≡ true
  valued_stays x e = ap (λ (p : Place). is_there (value_at m.facts p)) (lies_same x) ∙ by (value_at l.facts (lies l t.instance x)) refl e
    where
      by : (o : Option Value) → value_at l.facts (lies l t.instance x) ≡ o → is_there o ≡ true → is_there (value_at m.facts (lies l t.instance x)) ≡ true
      by (Some v) f e = ap is_there (more.values (lies l t.instance x) v f)
      by None f e = absurd (cc (e))

  assigned_still : (x : Name) (o : Option Value) → assigned_news l t x o ≡ [] → assigned_news m t x o ≡ []
  assigned_still x None e = refl
  assigned_still x (Some v) e = unless_true ((past_at m t).valued x) (value (lies_at m t x) v) (valued_stays x (known_in ((past_at l t).valued x) (value (lies_at l t x) v) e))

  printed_still : (o : Option (List ℕ)) → printed_told (past_at l t) (path_at l t) t.node o ≡ [] → printed_told (past_at m t) (path_at m t) t.node o ≡ []
  printed_still None e = refl
  printed_still (Some bytes) e =
      unless_true ((past_at m t).lined t.node) (line (path_at m t, t.node) bytes) (more.lines (here t.instance t.node) (known_in ((past_at l t).lined t.node) (line (path_at l t, t.node) bytes) e))

  written_stays : (a : Name) (k : Key) → (past_at l t).written a k t.node ≡ true → (past_at m t).written a k t.node ≡ true
  written_stays a k e =
      ap (λ (p : Place). is_written_in (writes_at m.facts p) k (here t.instance t.node)) (lies_same a) ∙ more.written (lies l t.instance a) k (here t.instance t.node) e

  twice_same : (a : Name) (k : Key) → IsSame l m (under (lies l t.instance a) k) → (past_at m t).twice a k ≡ (past_at l t).twice a k
  twice_same a k s = ap (λ (p : Place). several_in (writes_under (writes_at m.facts p) k)) (lies_same a) ∙ ap several_in (s.writes k refl)

  element_still : (a : Name) (k : Key) (v : Scalar) → IsSame l m (under (lies l t.instance a) k) → element_news l t a k v ≡ [] → element_news m t a k v ≡ []
  element_still a k v s e = by ((past_at l t).written a k t.node) ((past_at l t).twice a k) refl refl e
    where
      both : (w b : Bool) → (past_at m t).written a k t.node ≡ w → (past_at m t).twice a k ≡ b → element_by m t (lies_at m t a) k v w b ≡ [] → element_news m t a k v ≡ []
      both w b f g h =
          ap (λ (z : Bool). element_by m t (lies_at m t a) k v z ((past_at m t).twice a k)) f ∙ ap (λ (z : Bool). element_by m t (lies_at m t a) k v w z) g ∙ h

      by : (w b : Bool) → (past_at l t).written a k t.node ≡ w → (past_at l t).twice a k ≡ b → element_by l t (lies_at l t a) k v w b ≡ [] → element_news m t a k v ≡ []
      by false b f g e = absurd (cc (e))
      by true true f g e = both true true (written_stays a k f) (twice_same a k s ∙ g) (fault_still element_twice t.node e)
      by true false f g e = both true false (written_stays a k f) (twice_same a k s ∙ g) refl

  elements_still : (a : Name) (es : List Element) → Quiet (elements_reads (lies l t.instance a) es) → elements_news l t a es ≡ [] → elements_news m t a es ≡ []
  elements_still a [] q e = refl
  elements_still a (x ∷ es) q e =
      both_empty (element_news m t a x.key x.value) (elements_news m t a es)
      (element_still a x.key x.value (q (under (lies l t.instance a) x.key) first) (left_empty (element_news l t a x.key x.value) (elements_news l t a es) e))
      (elements_still a es (λ d i. q d (later i)) (right_empty (element_news l t a x.key x.value) (elements_news l t a es) e))

  filled_still : (a : Name) (o : Option Value) → Quiet (filled_reads (lies l t.instance a) o) → filled_news l t a o ≡ [] → filled_news m t a o ≡ []
  filled_still a (Some (Many es)) q e = elements_still a es q e
  filled_still a (Some (One v)) q e = refl
  filled_still a None q e = refl

  put_still : (a : Name) (o : Option Key) (v : Option Scalar) → Quiet (put_reads (lies l t.instance a) o) → inserted_news l t a o v ≡ [] → inserted_news m t a o v ≡ []
  put_still a (Some k) (Some v) q e = element_still a k v (q (under (lies l t.instance a) k) first) e
  put_still a (Some k) None q e = refl
  put_still a None v q e = refl

  inserted_still : (a : Name) (o : Option Value) (v : Option Scalar) → Quiet (inserted_reads (lies l t.instance a) o) → inserted_news l t a (key_in o) v ≡ [] → inserted_news m t a (key_in o) v ≡ []
  inserted_still a (Some u) v q e = put_still a (value_key u) v q e
  inserted_still a None v q e = refl

  branch_still : (o : Option Value) (other : Bool) → branch_news l t o other ≡ [] → branch_news m t o other ≡ []
  branch_still (Some v) other e = deep_still (branch_by (v ∷ []) other) e
  branch_still None other e = refl

  bad_still : (r : Option (Result ℕ OpFault)) → bad_by (past_at l t) (path_at l t) t.at t.node r ≡ [] → bad_by (past_at m t) (path_at m t) t.at t.node r ≡ []
  bad_still (Some (Err f)) e = fault_still (operation f) t.node e
  bad_still (Some (Ok n)) e = refl
  bad_still None e = refl

  range_still : (o : Option (List Value)) → range_news l t o ≡ [] → range_news m t o ≡ []
  range_still (Some vs) e =
      both_empty (bad_by (past_at m t) (path_at m t) t.at t.node (count_of (bounds vs))) (deep_news m t (some_turn (count_of (bounds vs))))
      (bad_still (count_of (bounds vs)) (left_empty (bad_by (past_at l t) (path_at l t) t.at t.node (count_of (bounds vs))) (deep_news l t (some_turn (count_of (bounds vs)))) e))
      (deep_still (some_turn (count_of (bounds vs))) (right_empty (bad_by (past_at l t) (path_at l t) t.at t.node (count_of (bounds vs))) (deep_news l t (some_turn (count_of (bounds vs)))) e))
  range_still None e = refl

  each_still : (p : Place) → IsSame l m (at p) → each_news l t (closed_at l p) (elements_at l p) ≡ [] → each_news m t (closed_at m p) (elements_at m p) ≡ []
  each_still p s e = ap (λ (b : Bool). each_news m t b (elements_at m p)) (s.closed refl) ∙ by (closed_at l p) refl e
    where
      by : (b : Bool) → closed_at l p ≡ b → each_news l t b (elements_at l p) ≡ [] → each_news m t b (elements_at m p) ≡ []
      by true f e = ap (λ (es : List Element). each_news m t true es) (elements_same p s f) ∙ deep_still (some_item (elements_at l p)) e
      by false f e = refl

  -- the outermost cells of a statement
  module _ (a : Action) (still : AreStill (part_cells (outer_parts (outers a)))) where
    outer_same : (o : Outer) → o ∈ outers a → comes_at m t o.cell ≡ comes_at l t o.cell
    outer_same o i = comes_same o.cell (still o.cell (outer_in (outers a) o i))

    outer_was : (o : Outer) → o ∈ outers a → comes_at l t o.cell ≡ value_at l.facts (here t.instance o.cell.node)
    outer_was o i = (still o.cell (outer_in (outers a) o i)).comes_then

    cells_of : (os : List Outer) → ((o : Outer) → o ∈ os → o ∈ outers a) → AreStill (map (λ o. o.cell) os)
    cells_of [] f c i = elim i [ ]
    cells_of (o ∷ os) f c first = still o.cell (outer_in (outers a) o (f o first))
    cells_of (o ∷ os) f c (later i) = cells_of os (λ x j. f x (later j)) c i

    ranged : comes_all (sight_at m t) (outer_cells a) ≡ comes_all (sight_at l t) (outer_cells a)
    ranged = all_come (outer_cells a) (cells_of (outers a) (λ o i. i))

  own_still : (a : Action) → AreStill (part_cells (outer_parts (outers a))) → Quiet (own_reads l t a) → own_news l t a ≡ [] → own_news m t a ≡ []
  own_still (declare v) s q e = refl
  own_still (call_alone p ps c) s q e = refl
  own_still (assign x o) s q e = ap (assigned_news m t x) (outer_same (assign x o) s o first) ∙ assigned_still x (comes_at l t o.cell) e
  own_still (fill x o) s q e =
      let was = outer_was (fill x o) s o first in
      ap (filled_news m t x) (outer_same (fill x o) s o first)
      ∙ filled_still x (comes_at l t o.cell) (subst (λ (z : Option Value). Quiet (filled_reads (lies l t.instance x) z)) (sym was) q) e
  own_still (insert x i o) s q e =
      let was = outer_was (insert x i o) s i first in
      ap (λ (z : Option Value). inserted_news m t x (key_in z) (one_in (comes_at m t o.cell))) (outer_same (insert x i o) s i first)
      ∙ ap (λ (z : Option Value). inserted_news m t x (key_in (comes_at l t i.cell)) (one_in z)) (outer_same (insert x i o) s o (later first))
      ∙ inserted_still x (comes_at l t i.cell) (one_in (comes_at l t o.cell)) (subst (λ (z : Option Value). Quiet (inserted_reads (lies l t.instance x) z)) (sym was) q) e
  own_still (print p o) s q e = ap (λ (z : Option Value). printed_told (past_at m t) (path_at m t) t.node (text_in z)) (outer_same (print p o) s o first) ∙ printed_still (text_in (comes_at l t o.cell)) e
  own_still (assert p o) s q e = refl
  own_still (when o b) s q e = ap (λ (z : Option Value). branch_news m t z false) (outer_same (when o b) s o first) ∙ branch_still (comes_at l t o.cell) false e
  own_still (choose o b d) s q e = ap (λ (z : Option Value). branch_news m t z true) (outer_same (choose o b d) s o first) ∙ branch_still (comes_at l t o.cell) true e
  own_still (range lo hi st x n b) s q e = ap (range_news m t) (ranged (range lo hi st x n b) s) ∙ range_still (comes_all (sight_at l t) (outer_cells (range lo hi st x n b))) e
  own_still (each a x n b) s q e =
      ap (λ (p : Place). each_news m t (closed_at m p) (elements_at m p)) (lies_same a) ∙ each_still (lies l t.instance a) (q (at (lies l t.instance a)) first) e
  own_still (wait ns b) s q e = refl

  -- of a call those are among its parts
  outers_of : (a : Action) → AreStill (part_cells (parts a)) → AreStill (part_cells (outer_parts (outers a)))
  outers_of (declare v) s d i = s d i
  outers_of (call_alone p ps c) s d i = elim i [ ]
  outers_of (assign x o) s d i = s d i
  outers_of (fill x o) s d i = s d i
  outers_of (insert x k o) s d i = s d i
  outers_of (print p o) s d i = s d i
  outers_of (assert p o) s d i = s d i
  outers_of (when o b) s d i = s d i
  outers_of (choose o b e) s d i = s d i
  outers_of (range lo hi st x n b) s d i = s d i
  outers_of (each a x n b) s d i = s d i
  outers_of (wait ns b) s d i = s d i

  pub silence_stays : (a : Action) → site_news l t a ≡ [] → Quiet (site_reads l t a) → site_news m t a ≡ []
  silence_stays a e q =
      let cs = part_cells (parts a) in
      let rest = own_news l t a ++ calls_news l t (stmt t.at t.node a) in
      let f = right_empty (cells_news l t cs) rest e in
      let s = cells_still cs (quiet_left (cells_reads l t cs) (own_reads l t a) q) (left_empty (cells_news l t cs) rest e) in
      both_empty (cells_news m t cs) (own_news m t a ++ calls_news m t (stmt t.at t.node a)) (cells_silent cs s)
      (both_empty (own_news m t a) (calls_news m t (stmt t.at t.node a))
      (own_still a (outers_of a s) (quiet_right (cells_reads l t cs) (own_reads l t a) q) (left_empty (own_news l t a) (calls_news l t (stmt t.at t.node a)) f))
      (deep_still (some_call (stmt_calls (stmt t.at t.node a))) (right_empty (own_news l t a) (calls_news l t (stmt t.at t.node a)) f)))
