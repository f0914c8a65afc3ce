-- What a settled state knows, and what it knows after the next round.
use Rattle.std.proofs.Common.{◌≡◌, ℕ, suc, ◌<◌, Bool, true, false, List, [], ◌∷◌, ◌++◌, length, map, take, refl, sym, ap, ◌∙◌, subst, inl, inr}
use Rattle.std.specs.Prelude.{◌↔◌, ◌⊎◌, nat_eq}
use Rattle.std.proofs.lemmas.Bool.{eq-eqb, eqb-true}
use Rattle.std.proofs.lemmas.List.{nil_from_length}
use Rattle.language.specs.Core.{Core, Action, Stmt, stmt}
use Rattle.language.specs.Facts as script
use Rattle.language.specs.Meaning.{Known, IsFinished, LiveStmt}
use Rattle.language.specs.Members.{◌∈◌, first, later}
use Rattle.language.specs.Outcomes.{Blocked, Stuck as IsStuck}
use Rattle.language.specs.Parts.{block_list, stmt_at}
use Rattle.language.specs.Places.{Path}
use Rattle.language.specs.Reads.{Reads}
use Rattle.language.specs.Resolved.{core}
use Rattle.language.specs.Single.{SinglyAssigned}
use Rattle.language.specs.Table.{Table}
use Rattle.language.specs.Tree.{Tree}
use Rattle.language.specs.Typing.{WellTyped}
use Rattle.language.proofs.Members.{either, split_in, to_left, to_right}
use Rattle.language_laws.proofs.Whole.{one_scalar_known}
use Rattle.language_accepted.proofs.Accepted.{accepted_formed}
use Rattle.meaning_steps.specs.Kept.{past_by, sight_by, Keeps}
use Rattle.meaning_steps.proofs.Seen as seen
use Rattle.meaning_facts.specs.declared.facts.Fact.{Fact}
use Rattle.meaning_facts.specs.declared.facts.Facts.{Facts}
use Rattle.meaning_facts.specs.declared.fact_base.FactBase.{FactBase}
use Rattle.meaning_facts.specs.Fresh.{IsFresh}
use Rattle.meaning_facts.specs.Growing.{fact_view, with_facts}
use Rattle.meaning_facts.specs.Keeping.{kept_of, IsPlaced}
use Rattle.meaning_facts.specs.Paths.{path_of}
use Rattle.meaning_invariants.specs.Held.{AreAdded, AreInside, Holds}
use Rattle.meaning_invariants.proofs.Fresh as fresh
use Rattle.meaning_invariants.specs.Active.{Active, active, Candidate}
use Rattle.meaning_invariants.specs.Listed.{all_active, declares}
use Rattle.meaning_outcomes.specs.Stuck.{is_stuck_in}
use Rattle.meaning_outcomes.proofs.Exact.{stuck_exact}
use Rattle.meaning_openings.proofs.Entering.{here_declares}
use Rattle.meaning_round.specs.declared.state.RoundState.{RoundState}
use Rattle.meaning_round.specs.Going.{IsBetween, StandsBetween}
use Rattle.meaning_round.specs.Made.{arrays_of, declares_here, tasks_of, telling_of, waiting_of}
use Rattle.meaning_round.specs.Hearing.{AreHeard}
use Rattle.meaning_round.specs.Standing.{actives_news, HavePlaces, IsAfter}
use Rattle.meaning_round.specs.Viewed.{facts_view}
use Rattle.meaning_facts.proofs.Keeping.{name_located}
use Rattle.meaning_round.proofs.Going.{nothing_told, round_goes}
use Rattle.meaning_round.proofs.Heard.{heard_first}
use Rattle.meaning_round.proofs.Listed.{not_both}
use Rattle.meaning_round.proofs.Round.{told_so}
use Rattle.meaning_outcomes.specs.declared.knowledge.Knowledge.{Knowledge}
use Rattle.meaning_outcomes.specs.declared.knowledge.BlockedId.{BlockedId}
use Rattle.meaning_outcomes.specs.Known.{stuck_among, stuck_if, stuck_path, AreStuck, IsKnowledgeOf}
use Rattle.meaning_outcomes.proofs.Starting.{starts}

-- WHAT IS BLOCKED

abbrev stuck_of : Active → BlockedId
stuck_of a = record { instance = a.instance; at = stmt_at a.statement }

-- one of them is found to be blocked
record IsFound (l : FactBase) (ls : List Active) (b : BlockedId) : Type 0 where
  one : Active
  there : one ∈ ls
  found : is_stuck_in l one.instance one.statement ≡ true
  is : b ≡ stuck_of one

found_in : (l : FactBase) (ls : List Active) (b : BlockedId) → b ∈ stuck_among l ls → IsFound l ls b
found_in l [] b i = elim i [ ]
found_in l (a ∷ ls) b i = elim (either (stuck_if (is_stuck_in l a.instance a.statement) a) (stuck_among l ls) i) [
  | inl j ↦ here (is_stuck_in l a.instance a.statement) refl j
  | inr j ↦ (let r = found_in l ls b j in record { one = r.one; there = later r.there; found = r.found; is = r.is })
]
  where
    here : (t : Bool) → is_stuck_in l a.instance a.statement ≡ t → b ∈ stuck_if t a → IsFound l (a ∷ ls) b
    here true e j = elim (split_in j) [ inl q ↦ record { one = a; there = first; found = e; is = q } | inr k ↦ elim k [ ] ]
    here false e j = elim j [ ]

to_found : (l : FactBase) (ls : List Active) (a : Active) → a ∈ ls → is_stuck_in l a.instance a.statement ≡ true → stuck_of a ∈ stuck_among l ls
to_found l [] a i h = elim i [ ]
to_found l (c ∷ ls) a i h = elim (split_in i) [
  | inl q ↦ to_left (stuck_if (is_stuck_in l c.instance c.statement) c) (stuck_among l ls) (here (is_stuck_in l c.instance c.statement) (ap (λ (z : Active). is_stuck_in l z.instance z.statement) (sym q) ∙ h) q)
  | inr j ↦ to_right (stuck_if (is_stuck_in l c.instance c.statement) c) (stuck_among l ls) (to_found l ls a j h)
]
  where
    here : (t : Bool) → t ≡ true → a ≡ c → stuck_of a ∈ stuck_if t c
    here true e q = subst (λ (z : Active). stuck_of z ∈ (stuck_of c ∷ [])) (sym q) first
    here false e q = absurd (cc (e))

-- what asking leaves, and what learning does
pub record IsAsking {A : Type 0} (old new : RoundState A) : Type 0 where
  pub heard : HavePlaces old.fact_base.instances.all.items (tasks_of old) → AreHeard old.fact_base (tasks_of old) old.worklist [] → AreHeard old.fact_base (tasks_of old) new.worklist []
  pub fact_base : new.fact_base ≡ old.fact_base
  pub tasks : tasks_of new ≡ tasks_of old
  pub arrays : arrays_of new ≡ arrays_of old
  pub waiting : waiting_of new ≡ waiting_of old
  pub passed : new.passed ≡ old.passed

pub record IsLearning {A : Type 0} (old new : RoundState A) (news : List Fact) : Type 0 where
  pub facts : AreAdded old.fact_base.facts news new.fact_base.facts
  pub heard : AreHeard old.fact_base (tasks_of old) old.worklist [] → AreHeard new.fact_base (tasks_of old) new.worklist []
  pub instances : new.fact_base.instances ≡ old.fact_base.instances
  pub closed : new.fact_base.closed ≡ old.fact_base.closed
  pub tasks : tasks_of new ≡ tasks_of old
  pub arrays : arrays_of new ≡ arrays_of old
  pub waiting : waiting_of new ≡ waiting_of old
  pub passed : new.passed ≡ old.passed

module _ (bytes : List ℕ) (t : Table) (tree : Tree) (r : Reads bytes tree) (w : WellTyped tree t) (single : SinglyAssigned (core t tree)) where
  abbrev s : Core
  s = core t tree

  module _ (n : ℕ) (l : FactBase) (ls telling : List Active) (after : IsAfter s n l ls telling) (holds : Holds (Known s n) l) where
    blocked_so : (i : ℕ) (st : Stmt) → i < length l.instances.all.items → LiveStmt s (Known s n) (path_of l.instances.all.items i) st → is_stuck_in l i st ≡ true
        → Blocked s (Known s n) (stmt_at st) (path_of l.instances.all.items i)
    blocked_so i (stmt at m a) within live e = (m, a, (stuck_exact bytes t tree r w single n l after.placed after.keeps holds i within at m a live).0 e)

    pub are_stuck : AreStuck s n l (stuck_among l ls)
    are_stuck = record {
      each = λ b i. (
          let x = found_in l ls b i in
          subst (λ (z : BlockedId). Blocked s (Known s n) z.at (stuck_path l z)) (sym x.is)
          (blocked_so x.one.instance x.one.statement (after.live.within x.one x.there) (after.live.so x.one x.there) x.found)
          );
      all = λ at path x. (
          let st = stmt at x.0 x.1 in
          let h = after.live.all path st x.2.live in
          let one = active h.instance st in
          let live = subst (λ (p : Path). LiveStmt s (Known s n) p st) (sym h.path_is) x.2.live in
          let stuck = subst (λ (p : Path). IsStuck s (Known s n) p at x.0 x.1) (sym h.path_is) x.2 in
          let found = (stuck_exact bytes t tree r w single n l after.placed after.keeps holds h.instance h.within at x.0 x.1 live).1 stuck in
          (stuck_of one, to_found l ls one h.there found, refl, h.path_is)
          );
    }

    -- WHETHER A ROUND ADDS SOMETHING

    abbrev IsRound : List Fact → Type 0
    IsRound news = (f : script.Fact) → Known s (suc n) f ↔ (Known s n f ⊎ (f ∈ facts_view l.instances.all.items news))

    told_new : (f : script.Fact) → f ∈ actives_news l telling → Known s n f → ⊥
    told_new f i =
        let x = told_so s l after.placed (Known s n) ls telling after.live f i in
        let one = one_scalar_known s (accepted_formed bytes t tree r w single) single n in
        fresh.news_fresh s (Known s n) x.path (sight_by s (kept_of l) x.path) (past_by s (kept_of l) x.path)
        (seen.sees s (Known s n) (kept_of l) after.keeps one x.path) (seen.recalls s (Known s n) (kept_of l) after.keeps one x.path)
        (fresh.recalls_all s (Known s n) l after.placed.tree holds x.path) x.st f x.told

    pub finished_so : (news : List Fact) → IsRound news → news ≡ [] → IsFinished s n
    finished_so news round e = nothing_told s n l news round e

    pub unfinished_so : (news : List Fact) → IsRound news → facts_view l.instances.all.items news ≡ actives_news l telling → (news ≡ [] → ⊥) → IsFinished s n → ⊥
    unfinished_so [] round told some fin = some refl
    unfinished_so (x ∷ xs) round told some fin =
        let f = fact_view l.instances.all.items x in
        let there : f ∈ facts_view l.instances.all.items (x ∷ xs) = first in
        told_new f (subst (λ (fs : List script.Fact). f ∈ fs) told there) (fin f ((round f).1 (inr there)))

    -- the knowledge that is made of it
    pub is_known : (k : Knowledge) → k.rounds ≡ n → k.fact_base ≡ l → k.stuck.items ≡ stuck_among l ls → (k.finished ≡ true → IsFinished s n) → (k.finished ≡ false → IsFinished s n → ⊥) → IsKnowledgeOf s k
    is_known k rounds fact_base stuck fin unfin =
        let stuck_here : AreStuck s n l k.stuck.items = subst (λ (z : List BlockedId). AreStuck s n l z) (sym stuck) are_stuck in
        record {
          placed = subst (λ (z : FactBase). IsPlaced s z.instances) (sym fact_base) after.placed;
          holds = subst (λ (z : FactBase). Holds (Known s k.rounds) z) (sym fact_base) (subst (λ (z : ℕ). Holds (Known s z) l) (sym rounds) holds);
          keeps = subst (λ (z : FactBase). Keeps s (Known s k.rounds) (kept_of z)) (sym fact_base) (subst (λ (z : ℕ). Keeps s (Known s z) (kept_of l)) (sym rounds) after.keeps);
          stuck = subst (λ (z : FactBase). AreStuck s k.rounds z k.stuck.items) (sym fact_base) (subst (λ (z : ℕ). AreStuck s z l k.stuck.items) (sym rounds) stuck_here);
          finished = λ e. subst (λ (z : ℕ). IsFinished s z) (sym rounds) (fin e);
          unfinished = λ e f. unfin e (subst (λ (z : ℕ). IsFinished s z) rounds f);
        }

  -- THE NEXT ROUND

  all_places : {A : Type 0} (n : ℕ) (old : RoundState A) → IsAfter s n old.fact_base (tasks_of old) (telling_of old) → HavePlaces old.fact_base.instances.all.items (tasks_of old)
  all_places n old after a i =
      let within = after.live.within a i in
      record { within = within; names = λ x. (name_located s old.fact_base after.placed a.instance within x).within }

  -- of a settled state, behind what it tells and what it learns of that
  pub next_between : {A : Type 0} (n : ℕ) (old asked new : RoundState A) (news : List Fact) → IsBetween s n old → IsAfter s n old.fact_base (tasks_of old) (telling_of old)
      → (HavePlaces old.fact_base.instances.all.items (telling_of old) → AreInside old.fact_base.instances.all.items news)
      → ((f : script.Fact) → Known s (suc n) f ↔ (Known s n f ⊎ (f ∈ facts_view old.fact_base.instances.all.items news)))
      → IsAsking old asked → IsLearning asked new news → IsBetween s (suc n) new
  next_between n old asked new news h after inside round asks learns =
      let added : AreAdded old.fact_base.facts news new.fact_base.facts = subst (λ (z : FactBase). AreAdded z.facts news new.fact_base.facts) asks.fact_base learns.facts in
      let go = round_goes bytes t tree r w single n old.fact_base (tasks_of old) (arrays_of old) (take old.passed (tasks_of old)) (waiting_of old) (telling_of old) news new.fact_base.facts h.stands after inside added round in
      let instances : new.fact_base.instances ≡ old.fact_base.instances = learns.instances ∙ ap (λ (z : FactBase). z.instances) asks.fact_base in
      let closed : new.fact_base.closed ≡ old.fact_base.closed = learns.closed ∙ ap (λ (z : FactBase). z.closed) asks.fact_base in
      let same : with_facts old.fact_base new.fact_base.facts ≡ new.fact_base = λ i. record { facts = new.fact_base.facts; instances = (sym instances) i; closed = (sym closed) i } in
      let tasks : tasks_of new ≡ tasks_of old = learns.tasks ∙ asks.tasks in
      let go_learned = subst (λ (z : FactBase). StandsBetween s (suc n) z (tasks_of old) (arrays_of old) (take old.passed (tasks_of old)) (waiting_of old)) same go in
      let go_waiting = subst (λ (z : List Active). StandsBetween s (suc n) new.fact_base (tasks_of old) (arrays_of old) (take old.passed (tasks_of old)) z) (sym (learns.waiting ∙ asks.waiting)) go_learned in
      let go_passed = subst (λ (z : ℕ). StandsBetween s (suc n) new.fact_base (tasks_of old) (arrays_of old) (take z (tasks_of old)) (waiting_of new)) (sym (learns.passed ∙ asks.passed)) go_waiting in
      let go_arrays = subst (λ (z : List Candidate). StandsBetween s (suc n) new.fact_base (tasks_of old) z (take new.passed (tasks_of old)) (waiting_of new)) (sym (learns.arrays ∙ asks.arrays)) go_passed in
      let heard = asks.heard (all_places n old after) h.heard in
      let asked_heard = subst (λ (z : FactBase). AreHeard z (tasks_of old) asked.worklist []) (sym asks.fact_base) heard in
      let learned_heard = learns.heard (subst (λ (z : List Active). AreHeard asked.fact_base z asked.worklist []) (sym asks.tasks) asked_heard) in
      record {
        stands = subst (λ (z : List Active). StandsBetween s (suc n) new.fact_base z (arrays_of new) (take new.passed z) (waiting_of new)) (sym tasks) go_arrays;
        heard = subst (λ (z : List Active). AreHeard new.fact_base z new.worklist []) (sym learns.tasks) learned_heard;
      }

-- by the same that is learned and live
pub same_stuck : (l m : FactBase) (ls ms : List Active) → l ≡ m → ls ≡ ms → stuck_among l ls ≡ stuck_among m ms
same_stuck l m ls ms e f = ap (λ (z : FactBase). stuck_among z ls) e ∙ ap (stuck_among m) f

-- WHETHER A LIST IS EMPTY

pub empty_so : {X : Type 0} (xs : List X) (b : Bool) → b ≡ nat_eq (length xs) 0 → b ≡ true → xs ≡ []
empty_so xs b e f = nil_from_length xs (eqb-true (length xs) 0 (sym e ∙ f))

pub not_empty : {X : Type 0} (xs : List X) (b : Bool) → b ≡ nat_eq (length xs) 0 → b ≡ false → xs ≡ [] → ⊥
not_empty xs b e f q = not_both (sym (e ∙ eq-eqb (length xs) 0 (ap length q)) ∙ f)

-- THE FIRST ROUND

pub starts_between : {A : Type 0} (c : Core) (state : RoundState A) → IsFresh state.fact_base → tasks_of state ≡ all_active 0 (block_list c.body) → state.worklist.fresh ≡ 0 → state.passed ≡ 0
    → waiting_of state ≡ [] → arrays_of state ≡ declares_here 0 c.body (block_list c.body) → IsBetween c 0 state
starts_between c state new tasks unasked passed waiting arrays =
    let all = all_active 0 (block_list c.body) in
    let start = starts c state.fact_base new in
    let go_arrays = subst (λ (z : List Candidate). StandsBetween c 0 state.fact_base all z [] []) (sym (arrays ∙ here_declares c 0 c.body (block_list c.body))) start in
    let go_waiting = subst (λ (z : List Active). StandsBetween c 0 state.fact_base all (arrays_of state) [] z) (sym waiting) go_arrays in
    let go_passed = subst (λ (z : ℕ). StandsBetween c 0 state.fact_base all (arrays_of state) (take z all) (waiting_of state)) (sym passed) go_waiting in
    record {
      stands = subst (λ (z : List Active). StandsBetween c 0 state.fact_base z (arrays_of state) (take state.passed z) (waiting_of state)) (sym tasks) go_passed;
      heard = heard_first state.fact_base (tasks_of state) state.worklist unasked;
    }
