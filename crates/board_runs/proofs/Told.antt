-- A report is told by its code and its events.
use Rattle.std.proofs.Common.{◌≡◌, ◌∙◌, sym, ap, subst, refl, ℕ, ◌<◌, List, map, Option, Some, None, arith}
use Rattle.std.proofs.lemmas.List.{ext_get_or}
use Rattle.dataflow.specs.Machine.{Event}
use Rattle.dataflow.specs.Machine as Machine
use Rattle.dataflow.proofs.Determined.{run_determined}
use Rattle.task_code.specs.Code.{Code, entry}
use Rattle.task_code.specs.Compute as Pure
use Rattle.task_code.specs.Effects.{Item, Task}
use Rattle.task_code.specs.Machine.{CodeState, Quiet, Run}
use Rattle.task_code.specs.Places.{Step}
use Rattle.task_code.specs.System.{code_system}
use Rattle.task_code.specs.View.{event_view}
use Rattle.task_code.specs.Whole.{IsCode}
use Rattle.task_code.proofs.Kept.{code_laws}
use Rattle.values.specs.declared.fault.OpFault.TheVariants as Op
use Rattle.paths.specs.declared.faults.Fault.{Fault}
use Rattle.paths.specs.declared.faults.FaultKind.{FaultKind}
use Rattle.paths.specs.declared.faults.FaultKind.TheVariants as Kind
use Rattle.paths.specs.declared.statements.StatementInstance.{StatementInstance}
use Rattle.board.specs.Blocked.{AreBlocked, IsFaultOf, path_of}
use Rattle.board.specs.Board.{Seen}
use Rattle.board_effects.specs.Effects.{kind_of_fault}
use Rattle.board.specs.View.{path_view}
use Rattle.board_runs.specs.declared.report.End.{End}
use Rattle.board_runs.specs.declared.report.End.TheVariants as Ends
use Rattle.board_runs.specs.declared.report.Report.{Report}
use Rattle.board_runs.specs.Report.{AreBlockedAt, AreTallies, EndsAs, Reports, line_bytes}
use Rattle.board_runs.specs.Same.{SameEnd, SameReport, place_view}
use Rattle.board_runs.proofs.Alike.{blocked_too, quiet_too}
use Rattle.board_runs.proofs.Ordered.{AreAmong, one_listing, unreversed}
use Rattle.values.specs.Limits.{max_threads}

-- tallies of the same events
same_tallies : (es : List Event) (xs ys : List ℕ) → AreTallies es xs → AreTallies es ys → xs ≡ ys
same_tallies es xs ys x y = ext_get_or 0 xs ys (x.workers ∙ sym y.workers) (λ w l. (let below : w < max_threads = omega (arith, l, x.workers) in x.each w below ∙ sym (y.each w below)))

-- faults are told by what they stand for
kind_back : Machine.Fault Pure.EntryFault → FaultKind
kind_back (Machine.OfTask (Pure.InOperation Op.Overflow)) = Kind.Overflow
kind_back (Machine.OfTask (Pure.InOperation Op.DivideByZero)) = Kind.DivideByZero
kind_back (Machine.OfTask (Pure.InOperation Op.BadStep)) = Kind.BadStep
kind_back (Machine.OfTask (Pure.InOperation Op.NotANumber)) = Kind.NotANumber
kind_back (Machine.OfTask (Pure.InOperation Op.AssertFailed)) = Kind.AssertFailed
kind_back (Machine.OfTask (Pure.InOperation Op.Memory)) = Kind.Overflow
kind_back (Machine.OfTask Pure.NoElement) = Kind.NoElement
kind_back (Machine.OfTask Pure.TooDeep) = Kind.TooDeep
kind_back Machine.ElementTwice = Kind.ElementTwice

kind_same : (k : FaultKind) → kind_back (kind_of_fault k) ≡ k
unfolding kind_back
kind_same Kind.Overflow = refl
kind_same Kind.DivideByZero = refl
kind_same Kind.NoElement = refl
kind_same Kind.ElementTwice = refl
kind_same Kind.BadStep = refl
kind_same Kind.TooDeep = refl
kind_same Kind.NotANumber = refl
kind_same Kind.AssertFailed = refl

same_kind : (f g : FaultKind) → kind_of_fault f ≡ kind_of_fault g → f ≡ g
same_kind f g e = sym (kind_same f) ∙ ap kind_back e ∙ kind_same g

fault_parts : (t u : Task) (f g : Machine.Fault Pure.EntryFault) → ◌≡◌ {A = Option (Task × Machine.Fault Pure.EntryFault)} (Some (t, f)) (Some (u, g)) → (t ≡ u) × (f ≡ g)
fault_parts t u f g e = (let p : ◌≡◌ {A = Task × Machine.Fault Pure.EntryFault} (t, f) (u, g) = cc in (ap (λ q. q.0) p, ap (λ q. q.1) p))

item_parts : (m n c d : ℕ) (p q : List Step) → Item m p c ≡ Item n q d → (m ≡ n) × (p ≡ q)
item_parts m n c d p q e = (cc, cc)

-- the same fault stands in both states
one_fault : (C : Code) (s t : CodeState) → s.fault ≡ t.fault → (f g : Fault) → IsFaultOf C s f → IsFaultOf C t g → (f.kind ≡ g.kind) × (place_view f.statement ≡ place_view g.statement)
one_fault C s t same f g a b =
    let e = fault_parts (Item a.number (path_of f.statement) a.chunk) (Item b.number (path_of g.statement) b.chunk) (kind_of_fault f.kind) (kind_of_fault g.kind) (sym a.is ∙ same ∙ b.is) in
    let i = item_parts a.number b.number a.chunk b.chunk (path_of f.statement) (path_of g.statement) e.0 in
    let at : f.statement.at ≡ g.statement.at = a.stands ∙ ap (λ n. (entry C n).at) i.0 ∙ sym b.stands in
    let path = unreversed (path_view f.statement.path.items) (path_view g.statement.path.items) i.1 in
    (same_kind f.kind g.kind e.1, λ k. (at k, path k))

-- a board of this code, in this state, after these events
abbrev here : Code → CodeState → List Event → ℕ → List ℕ → Seen
here C s es limit newly = record { code = C; limit = limit; state = s; history = es; newly = newly }

-- a state with a fault has one
met : (C : Code) (s : CodeState) (f : Fault) → IsFaultOf C s f → s.fault ≡ None → ⊥
met C s f a none = (let e = sym a.is ∙ none in absurd (cc (e)))

module _ (C : Code) (whole : IsCode C) (es : List Event) (s t : CodeState) (x : Run C es s) (y : Run C es t) (l m : ℕ) (v w : List ℕ) where
  same_fault : s.fault ≡ t.fault
  same_fault = (run_determined (code_system C) (code_laws C whole) es s t x y).same.fault

  same_ends : (e f : End) → EndsAs (here C s es l v) e → EndsAs (here C t es m w) f → SameEnd e f
  same_ends (Ends.Fault f) (Ends.Fault g) a b = one_fault C s t same_fault f g a b
  same_ends (Ends.Fault f) Ends.Quiet a b = met C s f a (same_fault ∙ b.no_fault)
  same_ends (Ends.Fault f) Ends.Limit a b = met C s f a (same_fault ∙ b.0)
  same_ends Ends.Quiet (Ends.Fault g) a b = met C t g b (sym same_fault ∙ a.no_fault)
  same_ends Ends.Quiet Ends.Quiet a b = tt
  same_ends Ends.Quiet Ends.Limit a b = b.1 (quiet_too C whole es s t x y a)
  same_ends Ends.Limit (Ends.Fault g) a b = met C t g b (sym same_fault ∙ a.0)
  same_ends Ends.Limit Ends.Quiet a b = a.1 (quiet_too C whole es t s y x b)
  same_ends Ends.Limit Ends.Limit a b = tt

-- where both states are quiet, the blocked statements of the one are those of the other
among : (C : Code) (whole : IsCode C) (es : List Event) (s t : CodeState) → Run C es s → Run C es t → Quiet C s → (xs ys : List StatementInstance) → AreBlocked C s xs → AreBlocked C t ys → AreAmong xs ys
among C whole es s t x y q xs ys a b v i =
    let u = b.all v.at (path_of v) (blocked_too C whole es s t x y q v.at (path_of v) (a.only v i)) in
    let path = unreversed (path_view u.0.path.items) (path_view v.path.items) u.3 in
    (u.0, u.1, λ k. (u.2 k, path k))

same_blocked : (C : Code) (whole : IsCode C) (es : List Event) (s t : CodeState) → Run C es s → Run C es t → (l m : ℕ) (v w : List ℕ) (e f : End) (xs ys : List StatementInstance)
    → SameEnd e f → EndsAs (here C s es l v) e → EndsAs (here C t es m w) f → AreBlockedAt (here C s es l v) e xs → AreBlockedAt (here C t es m w) f ys → map place_view xs ≡ map place_view ys
same_blocked C whole es s t x y l m v w (Ends.Fault f) (Ends.Fault g) xs ys same p q a b = ap (λ zs. map place_view zs) (a ∙ sym b)
same_blocked C whole es s t x y l m v w (Ends.Fault f) Ends.Quiet xs ys same p q a b = absurd same
same_blocked C whole es s t x y l m v w (Ends.Fault f) Ends.Limit xs ys same p q a b = absurd same
same_blocked C whole es s t x y l m v w Ends.Quiet (Ends.Fault g) xs ys same p q a b = absurd same
same_blocked C whole es s t x y l m v w Ends.Quiet Ends.Quiet xs ys same p q a b = one_listing xs ys a.order b.order (among C whole es s t x y p xs ys a b) (among C whole es t s y x q ys xs b a)
same_blocked C whole es s t x y l m v w Ends.Quiet Ends.Limit xs ys same p q a b = absurd same
same_blocked C whole es s t x y l m v w Ends.Limit (Ends.Fault g) xs ys same p q a b = absurd same
same_blocked C whole es s t x y l m v w Ends.Limit Ends.Quiet xs ys same p q a b = absurd same
same_blocked C whole es s t x y l m v w Ends.Limit Ends.Limit xs ys same p q a b = ap (λ zs. map place_view zs) (a ∙ sym b)

-- two reports of one list of events
pub told : (C : Code) → IsCode C → (limit other : ℕ) (r s : Report) → Reports C limit r → Reports C other s → r.history.items ≡ s.history.items → SameReport r s
told C whole limit other r s p q same =
    let es = p.board.history in
    let events : q.board.history ≡ es = sym q.tells.history ∙ ap (λ hs. map event_view hs) (sym same) ∙ p.tells.history in
    let y : Run C es q.board.state = subst (λ (hs : List Event). Run C hs q.board.state) events q.run in
    let first : EndsAs (here C p.board.state es p.board.limit p.board.newly) r.end = subst (λ (D : Code). EndsAs (here D p.board.state es p.board.limit p.board.newly) r.end) p.code p.tells.end in
    let second : EndsAs (here C q.board.state es q.board.limit q.board.newly) s.end =
    subst (λ (hs : List Event). EndsAs (here C q.board.state hs q.board.limit q.board.newly) s.end) events
    (subst (λ (D : Code). EndsAs (here D q.board.state q.board.history q.board.limit q.board.newly) s.end) q.code q.tells.end) in
    let ends = same_ends C whole es p.board.state q.board.state p.run y p.board.limit q.board.limit p.board.newly q.board.newly r.end s.end first second in
    let left : AreBlockedAt (here C p.board.state es p.board.limit p.board.newly) r.end r.blocked.items = subst (λ (D : Code). AreBlockedAt (here D p.board.state es p.board.limit p.board.newly) r.end r.blocked.items) p.code p.tells.blocked in
    let right : AreBlockedAt (here C q.board.state es q.board.limit q.board.newly) s.end s.blocked.items =
    subst (λ (hs : List Event). AreBlockedAt (here C q.board.state hs q.board.limit q.board.newly) s.end s.blocked.items) events
    (subst (λ (D : Code). AreBlockedAt (here D q.board.state q.board.history q.board.limit q.board.newly) s.end s.blocked.items) q.code q.tells.blocked) in
    record {
      code = p.tells.code ∙ p.code ∙ sym q.code ∙ sym q.tells.code;
      history = same;
      lines = p.tells.lines ∙ ap (λ ls. map line_bytes ls) (run_determined (code_system C) (code_laws C whole) es p.board.state q.board.state p.run y).same.lines ∙ sym q.tells.lines;
      end = ends;
      blocked = same_blocked C whole es p.board.state q.board.state p.run y p.board.limit q.board.limit p.board.newly q.board.newly r.end s.end r.blocked.items s.blocked.items ends first second left right;
      tallies = same_tallies es r.tallies s.tallies p.tells.tallies (subst (λ (hs : List Event). AreTallies hs s.tallies) events q.tells.tallies);
    }
