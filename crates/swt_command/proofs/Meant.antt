-- What is told of a script, against the script.
use Rattle.std.proofs.Common.{◌≡◌, ◌∙◌, sym, ap, refl, inl, inr, ◌⊎◌, ℕ, ◌≤◌, Bool, true, false, ◌&&◌, List, [], ◌∷◌, map, subst}
use Rattle.std.specs.Prelude.{IsSorted, nat_eq, nat_lt, reverse}
use Rattle.std.specs.Cmp.Lexicographic.{slice_cmp}
use Rattle.std.specs.Ordering.{nat_cmp}
use Rattle.std.proofs.lemmas.Bool.{and_from, or_cases, and_parts}
use Rattle.language.specs.Core.{Core}
use Rattle.language.specs.Facts as Facts
use Rattle.language.specs.Meaning.{Known}
use Rattle.language.specs.Outcomes.{Blocked, Faults, Lines}
use Rattle.language.specs.Places.{Path}
use Rattle.task_code.specs.Places as Places
use Rattle.task_code.proofs.Checked.{true_or}
use Rattle.headline.specs.Headline.{script_fault, script_path}
use Rattle.code_rules.proofs.Members.{from_in, to_in}
use Rattle.board.specs.Blocked.{InTextOrder, comes_before, path_of}
use Rattle.board.specs.View.{path_view}
use Rattle.board_effects.specs.Effects.{kind_of_fault}
use Rattle.paths.specs.declared.faults.Fault.{Fault}
use Rattle.paths.specs.declared.faults.FaultKind.{FaultKind}
use Rattle.paths.specs.declared.faults.FaultKind.TheVariants as Kind
use Rattle.paths.specs.declared.statements.StatementInstance.{StatementInstance}
use Rattle.paths.specs.declared.steps.Step.{Step}
use Rattle.paths.specs.Order.{fault_below, fault_number, path_below, same_path, same_statement, statement_below}
use Rattle.paths.proofs.Orders.{path_order}
use Rattle.meaning_facts.specs.Kinds.{kind_view}
use Rattle.meaning_facts.specs.Paths as meant
use Rattle.meaning_outcomes.specs.declared.knowledge.Knowledge.{Knowledge}
use Rattle.meaning_outcomes.specs.Known.{IsKnowledgeOf}
use Rattle.meaning_outcomes.specs.Lists.{IsInOrder}
use Rattle.meaning_outcomes.specs.Read.{AreBlocked, AreFaults}
use Rattle.meaning_outcomes.specs.Read as read
use Rattle.meaning_outcomes.proofs.Steps.{turned}
use Rattle.swt_command.specs.declared.meaning_summary.MeaningSummary.{MeaningSummary}
use Rattle.swt_command.specs.Means.{AreEnough, AreKnown, InFaultOrder, IsTold, behind_it, fault_before}

-- a path's steps, as the script's
pairs : (p : List Step) → script_path (path_view p) ≡ map meant.step_view p
pairs [] = refl
pairs (x ∷ p) = ap (λ (zs : Path). (x.offset, x.key) ∷ zs) (pairs p)

path_is : (b : StatementInstance) → script_path (path_of b) ≡ read.path_of b
path_is b = turned (λ (s : Places.Step). (s.offset, s.key)) (path_view b.path.items) ∙ ap (λ (zs : Path). reverse zs) (pairs b.path.items)

same_paths : (p q : List Step) → same_path p q ≡ true → reverse (path_view p) ≡ reverse (path_view q)
same_paths p q h = ap (λ (z : List Step). reverse (path_view z)) (path_order.is p q h)

-- STATEMENTS

before_of : (a b : StatementInstance) → statement_below a b ≡ true → comes_before a b
before_of a b h = by (or_cases (path_below a.path.items b.path.items) (same_path a.path.items b.path.items && nat_lt a.at b.at) h)
  where
    by : (path_below a.path.items b.path.items ≡ true) ⊎ ((same_path a.path.items b.path.items && nat_lt a.at b.at) ≡ true) → comes_before a b
    by (inl l) = inl l
    by (inr m) = let r = and_parts (same_path a.path.items b.path.items) (nat_lt a.at b.at) m in inr (same_paths a.path.items b.path.items r.0, r.1)

in_order : (bs : List StatementInstance) → IsInOrder statement_below bs → InTextOrder bs
in_order [] o = tt
in_order (b ∷ bs) o = (λ d h. before_of b d (o.0 d (from_in d bs h)), in_order bs o.1)

-- FAULTS

same_kind : (k : FaultKind) → script_fault (kind_of_fault k) ≡ kind_view k
same_kind Kind.Overflow = refl
same_kind Kind.DivideByZero = refl
same_kind Kind.NoElement = refl
same_kind Kind.ElementTwice = refl
same_kind Kind.BadStep = refl
same_kind Kind.TooDeep = refl
same_kind Kind.NotANumber = refl
same_kind Kind.AssertFailed = refl

fault_before_of : (f g : Fault) → fault_below f g ≡ true → fault_before f g
fault_before_of f g h = by (or_cases (statement_below f.statement g.statement) (same_statement f.statement g.statement && nat_lt (fault_number f.kind) (fault_number g.kind)) h)
  where
    by_place : comes_before f.statement g.statement → fault_before f g
    by_place (inl l) = inl l
    by_place (inr m) = inr (m.0, true_or (nat_lt f.statement.at g.statement.at) _ (inl m.1))

    by : (statement_below f.statement g.statement ≡ true) ⊎ ((same_statement f.statement g.statement && nat_lt (fault_number f.kind) (fault_number g.kind)) ≡ true) → fault_before f g
    by (inl l) = by_place (before_of f.statement g.statement l)
    by (inr m) =
        let r = and_parts (same_statement f.statement g.statement) (nat_lt (fault_number f.kind) (fault_number g.kind)) m in
        let w = and_parts (same_path f.statement.path.items g.statement.path.items) (nat_eq f.statement.at g.statement.at) r.0 in
        inr (same_paths f.statement.path.items g.statement.path.items w.0, true_or (nat_lt f.statement.at g.statement.at) _ (inr (and_from (nat_eq f.statement.at g.statement.at) _ w.1 r.1)))

faults_in_order : (fs : List Fault) → IsInOrder fault_below fs → InFaultOrder fs
faults_in_order [] o = tt
faults_in_order (f ∷ fs) o = (λ d h. fault_before_of f d (o.0 d (from_in d fs h)), faults_in_order fs o.1)

-- WHAT IS TOLD

enough_of : (s : Core) (k : Knowledge) (limit : ℕ) → IsKnowledgeOf s k → k.rounds ≤ limit → (k.finished ≡ false → k.rounds ≡ limit) → (enough : Bool) → k.finished ≡ enough → AreEnough s k.rounds limit enough
enough_of s k limit o within exact true e = (o.finished e, within)
enough_of s k limit o within exact false e = (o.unfinished e, exact e)

known_of : (s : Core) (n : ℕ) (lines : List (List ℕ)) (blocked : List StatementInstance) (faults : List Fault) → Lines (Known s n) lines → IsSorted (slice_cmp nat_cmp) lines
    → AreBlocked s (Known s n) blocked → AreFaults (Known s n) faults → AreKnown s n lines blocked faults
known_of s n lines blocked faults are sorted lb lf = record {
  lines_are = are;
  lines_in_order = sorted;
  blocked_in_order = in_order blocked lb.order;
  each_blocked = λ b i. subst (λ (path : Path). Blocked s (Known s n) b.at path) (sym (path_is b)) (lb.each b (from_in b blocked i));
  all_blocked = λ at path h. (let c = lb.all at path h in (c.0, to_in c.1, c.2, path_is c.0 ∙ c.3));
  faults_in_order = faults_in_order faults lf.order;
  each_fault = λ f i. subst (λ (kind : Facts.Fault). Faults (Known s n) kind f.statement.at (script_path (path_of f.statement))) (sym (same_kind f.kind))
      (subst (λ (path : Path). Faults (Known s n) (kind_view f.kind) f.statement.at path) (sym (path_is f.statement)) (lf.each f (from_in f faults i)));
  all_faults = λ kind at path h. (let c = lf.all kind at path h in (c.0, to_in c.1, same_kind (c.0).kind ∙ c.2, c.3, path_is (c.0).statement ∙ c.4));
}

pub told_is : (s : Core) (k : Knowledge) (limit : ℕ) (t : MeaningSummary) → IsKnowledgeOf s k → k.rounds ≤ limit → (k.finished ≡ false → k.rounds ≡ limit) → Lines (Known s k.rounds) t.lines.items
    → IsSorted (slice_cmp nat_cmp) t.lines.items → AreBlocked s (Known s k.rounds) t.blocked.items → AreFaults (Known s k.rounds) t.faults.items → k.finished ≡ t.enough → IsTold s limit t
told_is s k limit t o within exact are sorted lb lf enough = record {
  rounds = k.rounds;
  are_enough = enough_of s k limit o within exact t.enough enough;
  are_known = known_of s k.rounds t.lines.items t.blocked.items t.faults.items are sorted lb lf;
}
