-- What is opened and closed by turns.
use Rattle.std.specs.Prelude.{◌≡◌, ◌⊎◌, ℕ, ◌<◌, ◌≤◌, Bool, true, false, List, [], ◌∷◌, ◌++◌, length, map, take, is_some, refl}
use Rattle.std.specs.HashSet.{contains}
use Rattle.std.proofs.Common.{inl, inr, sym, ap, ◌∙◌, subst, arith}
use Rattle.std.proofs.lemmas.Bool.{cases_lt}
use Rattle.language.specs.Core.{Block, Core, Name, local}
use Rattle.language.specs.Meaning.{Known}
use Rattle.language.specs.Members.{◌∈◌}
use Rattle.language.specs.Places.{Path, Place, place}
use Rattle.language.specs.Single.{SinglyAssigned}
use Rattle.language.specs.WellFormed.{WellFormed}
use Rattle.meaning_steps.specs.Environment.{Sight}
use Rattle.meaning_facts.specs.declared.facts.Facts.{Facts}
use Rattle.meaning_facts.specs.declared.facts.Place.{Place as Spot}
use Rattle.meaning_facts.specs.declared.fact_base.FactBase.{FactBase}
use Rattle.meaning_cells.specs.Ending.{IsDone}
use Rattle.meaning_facts.specs.Keeping.{same_fault, IsPlaced}
use Rattle.meaning_facts.specs.Paths.{path_of}
use Rattle.meaning_facts.specs.Sighted.{closed_at}
use Rattle.meaning_facts.specs.Store.{is_written_in, line_at, same_pair, spot, value_at, writes_at, writes_under}
use Rattle.meaning_facts.proofs.Keeping.{name_located, one_instance}
use Rattle.meaning_invariants.specs.Active.{Active, Candidate, goal_of}
use Rattle.meaning_invariants.specs.Opened.{ArePassed, GoesOn, IsSoFar, IsUnready, OffsetsApart}
use Rattle.meaning_round.specs.Going.{IsBetween, StandsBetween}
use Rattle.meaning_round.specs.Hearing.{numbers_of, AreHeard}
use Rattle.meaning_round.specs.Made.{arrays_of, picks, tasks_of, telling_of, waiting_of}
use Rattle.meaning_round.specs.More.{KnowsMore}
use Rattle.meaning_round.specs.Reads.{IsSame}
use Rattle.meaning_round.specs.Standing.{IsAfter}
use Rattle.meaning_round.specs.declared.state.RoundState.{RoundState}
use Rattle.meaning_round.specs.declared.worklist.WakeEvent.{WakeEvent}
use Rattle.meaning_round.specs.declared.worklist.Worklist.{Worklist}
use Rattle.meaning_round.proofs.Going.{passed_same, settled_after}
use Rattle.meaning_round.proofs.Heard.{heard_opened, heard_tells}
use Rattle.meaning_openings.specs.Opening.{IsGood, IsMore, IsStep}
use Rattle.meaning_openings.specs.Closing.{AllStaySo, AreEnded}

-- WHERE MORE IS OPEN

-- as many instances, where each has one behind it
longer_by : (n m : ℕ) → ((i : ℕ) → i < n → i < m) → n ≤ m
longer_by n m f = elim (cases_lt m n) [ inl b ↦ absurd (omega (arith, f m b)) | inr b ↦ b ]

place_is : (p q : Spot) → p.instance ≡ q.instance → p.node ≡ q.node → p ≡ q
place_is p q e f = λ i. record { instance = e i; node = f i }

-- a name lies where it did, in instances that stand where they did
module _ (s : Core) (l m : FactBase) (ls ms : List Active) (a : IsPlaced s l.instances) (b : IsPlaced s m.instances) (g : GoesOn l ls m ms) where
  spot_same : (i : ℕ) (x : Name) → i < length l.instances.all.items → spot m.instances.all.items i x ≡ spot l.instances.all.items i x
  spot_same i x h =
      let old = name_located s l a i h x in
      let new = name_located s m b i (g.within i h) x in
      let p = spot l.instances.all.items i x in
      let q = spot m.instances.all.items i x in
      let same : ◌≡◌ {A = Place} (path_of m.instances.all.items (spot m.instances.all.items i x).instance, (spot m.instances.all.items i x).node)
      (path_of l.instances.all.items (spot l.instances.all.items i x).instance, (spot l.instances.all.items i x).node) =
      new.view_is ∙ ap (λ (z : Path). place s z x) (g.path_same i h) ∙ sym old.view_is in
      place_is (spot m.instances.all.items i x) (spot l.instances.all.items i x)
      (one_instance m.instances b.tree (spot m.instances.all.items i x).instance (spot l.instances.all.items i x).instance new.within (g.within (spot l.instances.all.items i x).instance old.within)
      (ap (λ (z : Place). z.0) same ∙ sym (g.path_same (spot l.instances.all.items i x).instance old.within)))
      (ap (λ (z : Place). z.1) same)

  pub more_by_going : m.facts ≡ l.facts → KnowsMore l m
  more_by_going e = record {
    grows = record { longer = longer_by (length l.instances.all.items) (length m.instances.all.items) g.within; path_same = g.path_same };
    spots = spot_same;
    scalars = λ p h f. ap (λ (z : Sight). z.scalar (record { up = 0; what = local p.node })) (g.sight_same p.instance h);
    values = λ p v h. ap (λ (z : Facts). value_at z p) e ∙ h;
    lines = λ p h. ap (λ (z : Facts). is_some (line_at z p)) e ∙ h;
    written = λ p k w h. ap (λ (z : Facts). is_written_in (writes_at z p) k w) e ∙ h;
    faults = λ f h. ap (λ (z : Facts). contains same_fault z.faults f) e ∙ h;
  }

-- where nothing is learned nothing comes
same_by_going : (l m : FactBase) → m.facts ≡ l.facts → m.closed ≡ l.closed → (e : WakeEvent) → IsSame l m e
same_by_going l m f c e = record {
  value = λ z. ap (λ (k : Facts). value_at k e.place) f;
  closed = λ z. ap (λ k. contains same_pair k (e.place.instance, e.place.node)) c;
  elements = λ z b. ap (λ (k : Facts). writes_at k e.place) f;
  writes = λ key z. ap (λ (k : Facts). writes_under (writes_at k e.place) key) f;
}

-- what a state stands at where all is open that is ready
pub record IsOpened {A : Type 0} (s : Core) (n : ℕ) (state : RoundState A) : Type 0 where
  pub stands : StandsBetween s n state.fact_base (tasks_of state) (arrays_of state) (tasks_of state) (waiting_of state)
  pub heard : AreHeard state.fact_base (tasks_of state) state.worklist []
  pub unready : (a : Active) → a ∈ waiting_of state → IsUnready state.fact_base a

module _ {A : Type 0} (s : Core) (n : ℕ) (old new : RoundState A) where
  pub opened_stands : IsBetween s n old → IsStep s n old new → ArePassed s (Known s n) new.fact_base (tasks_of new) (tasks_of new) (waiting_of new)
      → ((a : Active) → a ∈ waiting_of new → a ∈ tasks_of new) → ((a : Active) → a ∈ waiting_of new → IsUnready new.fact_base a) → IsMore old new → IsOpened s n new
  opened_stands h step passed live unready more =
      let known = more_by_going s old.fact_base new.fact_base (tasks_of old) (tasks_of new) h.stands.good.placed step.so.placed step.goes more.facts in
      let heard = heard_opened old.fact_base new.fact_base (tasks_of old) more.more old.worklist known (same_by_going old.fact_base new.fact_base more.facts more.closed) h.heard in
      record {
        stands = record { good = step.so; passed_so = passed; waiting_live = live };
        heard = subst (λ (z : Worklist). AreHeard new.fact_base (tasks_of new) z []) (sym more.worklist)
            (subst (λ (z : List Active). AreHeard new.fact_base z old.worklist []) (sym more.tasks) heard);
        unready = unready;
      }

-- WHERE MORE IS CLOSED

-- the same with other closed arrays
abbrev closed_of : FactBase → FactBase → FactBase
closed_of l m = record { facts = l.facts; instances = l.instances; closed = m.closed }

of_closed : (l m : FactBase) → m.facts ≡ l.facts → m.instances ≡ l.instances → closed_of l m ≡ m
of_closed l m e f = λ i. record { facts = sym e i; instances = sym f i; closed = m.closed }

passed_closed : (s : Core) (n : ℕ) (l m : FactBase) (ls ps ws : List Active) → m.facts ≡ l.facts → m.instances ≡ l.instances → ArePassed s (Known s n) l ls ps ws → ArePassed s (Known s n) m ls ps ws
passed_closed s n l m ls ps ws e f h =
    subst (λ (z : FactBase). ArePassed s (Known s n) z ls ps ws) (of_closed l m e f) (passed_same s (Known s n) l (closed_of l m) ls ps ws h)

take_all : {X : Type 0} (xs : List X) (k : ℕ) → k ≡ length xs → take k xs ≡ xs
take_all [] k e = ap (λ (z : ℕ). take z []) e
take_all (x ∷ xs) k e = ap (λ (z : ℕ). take z (x ∷ xs)) e ∙ ap (λ (z : List _). x ∷ z) (take_all xs (length xs) refl)

-- what closing leaves
pub record IsClosing {A : Type 0} (old new : RoundState A) : Type 0 where
  pub tasks : tasks_of new ≡ tasks_of old
  pub waiting : waiting_of new ≡ waiting_of old
  pub arrays : arrays_of new ≡ arrays_of old
  pub passed : new.passed ≡ old.passed
  pub facts : new.fact_base.facts ≡ old.fact_base.facts
  pub instances : new.fact_base.instances ≡ old.fact_base.instances
  pub heard : AreHeard old.fact_base (tasks_of old) old.worklist [] → AreHeard new.fact_base (tasks_of old) new.worklist []

module _ {A : Type 0} (s : Core) (n : ℕ) (old new : RoundState A) (c : IsClosing old new) (h : IsOpened s n old) where
  abbrev Here : List Active → List Candidate → List Active → List Active → Type 0
  Here ls arrays passed waiting = StandsBetween s n new.fact_base ls arrays passed waiting

  stands_closed : AllStaySo s (arrays_of old) old.fact_base new.fact_base → Here (tasks_of old) (arrays_of old) (tasks_of old) (waiting_of old)
  stands_closed so = record {
    good = so n (tasks_of old) h.stands.good;
    passed_so = passed_closed s n old.fact_base new.fact_base (tasks_of old) (tasks_of old) (waiting_of old) c.facts c.instances h.stands.passed_so;
    waiting_live = h.stands.waiting_live;
  }

  heard_closed : AreHeard new.fact_base (tasks_of new) new.worklist []
  heard_closed = subst (λ (z : List Active). AreHeard new.fact_base z new.worklist []) (sym c.tasks) (c.heard h.heard)

  pub closed_between : old.passed ≡ length (tasks_of old) → AllStaySo s (arrays_of old) old.fact_base new.fact_base → IsBetween s n new
  closed_between all so =
      let whole : take new.passed (tasks_of new) ≡ tasks_of old = ap (take new.passed) c.tasks ∙ take_all (tasks_of old) new.passed (c.passed ∙ all) in
      record {
        stands = subst (λ (z : List Active). Here z (arrays_of new) (take new.passed (tasks_of new)) (waiting_of new)) (sym c.tasks)
            (subst (λ (z : List Candidate). Here (tasks_of old) z (take new.passed (tasks_of new)) (waiting_of new)) (sym c.arrays)
            (subst (λ (z : List Active). Here (tasks_of old) (arrays_of old) z (waiting_of new)) (sym whole)
            (subst (λ (z : List Active). Here (tasks_of old) (arrays_of old) (tasks_of old) z) (sym c.waiting) (stands_closed so))));
        heard = heard_closed;
      }

  pub closed_after : WellFormed s → SinglyAssigned s → OffsetsApart s → new.fact_base ≡ old.fact_base → AreEnded s old.fact_base (arrays_of old)
      → IsAfter s n new.fact_base (tasks_of new) (telling_of new)
  closed_after w single offsets same ended =
      let heard = subst (λ (z : FactBase). AreHeard z (tasks_of old) new.worklist []) same (c.heard h.heard) in
      let telling = picks (tasks_of old) (numbers_of new.worklist (length (tasks_of old))) in
      let after = settled_after s w single n offsets old.fact_base (tasks_of old) (arrays_of old) (waiting_of old) telling h.stands
      (heard_tells old.fact_base (tasks_of old) new.worklist heard) h.unready
      (λ p b i still ends one. ended (p, b) i still (record { ended = ends; one = one })) in
      subst (λ (z : List Active). IsAfter s n new.fact_base z (picks z (numbers_of new.worklist (length z)))) (sym c.tasks)
      (subst (λ (z : FactBase). IsAfter s n z (tasks_of old) telling) (sym same) after)

-- FROM TURN TO TURN

-- where one state stands between rounds, so does the other
abbrev pub StaysBetween : {A : Type 0} → Core → RoundState A → RoundState A → Type 0
StaysBetween of_flow old new = (s : Core) (n : ℕ) → s ≡ of_flow → WellFormed s → SinglyAssigned s → OffsetsApart s → IsBetween s n old → IsBetween s n new

-- and it is that after so many rounds
abbrev pub EndsAfter : {A : Type 0} → Core → RoundState A → RoundState A → Type 0
EndsAfter of_flow old new = (s : Core) (n : ℕ) → s ≡ of_flow → WellFormed s → SinglyAssigned s → OffsetsApart s → IsBetween s n old
    → IsBetween s n new × IsAfter s n new.fact_base (tasks_of new) (telling_of new)

-- all is opened that is ready
abbrev pub OpensAll : {A : Type 0} → Core → RoundState A → RoundState A → Type 0
OpensAll of_flow old new = (s : Core) (n : ℕ) → s ≡ of_flow → WellFormed s → OffsetsApart s → IsGood s n old
    → ArePassed s (Known s n) old.fact_base (tasks_of old) (take old.passed (tasks_of old)) (waiting_of old)
    → ((a : Active) → a ∈ waiting_of old → a ∈ tasks_of old)
    → IsStep s n old new × ArePassed s (Known s n) new.fact_base (tasks_of new) (tasks_of new) (waiting_of new)
    × ((a : Active) → a ∈ waiting_of new → a ∈ tasks_of new) × ((a : Active) → a ∈ waiting_of new → IsUnready new.fact_base a)

module _ {A : Type 0} (of_first of_old of_mid : Core) (first old mid new : RoundState A) (same : of_old ≡ of_first) (still : of_mid ≡ of_old)
    (stays : StaysBetween of_first first old) (opens : OpensAll of_old old mid) (more : IsMore old mid) (passed : mid.passed ≡ length (tasks_of mid)) (closing : IsClosing mid new) where
  turn_opens : (s : Core) (n : ℕ) → s ≡ of_first → WellFormed s → SinglyAssigned s → OffsetsApart s → IsBetween s n first → IsOpened s n mid
  turn_opens s n e w single apart h =
      let b = stays s n e w single apart h in
      let x = opens s n (e ∙ sym same) w apart b.stands.good b.stands.passed_so b.stands.waiting_live in
      opened_stands s n old mid b x.0 x.1 x.2 x.3 more

  pub turn_between : AllStaySo of_mid (arrays_of mid) mid.fact_base new.fact_base → StaysBetween of_first first new
  turn_between so s n e w single apart h =
      closed_between s n mid new closing (turn_opens s n e w single apart h) passed
      (subst (λ (z : Core). AllStaySo z (arrays_of mid) mid.fact_base new.fact_base) (still ∙ same ∙ sym e) so)

  pub turn_after : AllStaySo of_mid (arrays_of mid) mid.fact_base new.fact_base → new.fact_base ≡ mid.fact_base → AreEnded of_mid mid.fact_base (arrays_of mid) → EndsAfter of_first first new
  turn_after so fact_base ended s n e w single apart h = (
    turn_between so s n e w single apart h,
    closed_after s n mid new closing (turn_opens s n e w single apart h) w single apart fact_base
        (subst (λ (z : Core). AreEnded z mid.fact_base (arrays_of mid)) (still ∙ same ∙ sym e) ended),
  )
