-- What was opened and closed so far is so where one array more is closed, whose block is done.
use Rattle.std.specs.Prelude.{◌≡◌, ◌⊎◌, ℕ, Bool, true, List, cond}
use Rattle.std.proofs.Common.{inl, inr, sym, ap, ◌∙◌, subst}
use Rattle.std.proofs.lemmas.Bool.{cases_Bool}
use Rattle.language.specs.Core.{Block, Core}
use Rattle.language.specs.Facts.{Knowledge}
use Rattle.language.specs.Meaning.{closed}
use Rattle.language.specs.Members.{◌∈◌}
use Rattle.meaning_steps.proofs.Settled.{finished_so}
use Rattle.meaning_facts.specs.declared.facts.Place.{Place as Spot}
use Rattle.meaning_facts.specs.declared.fact_base.FactBase.{FactBase}
use Rattle.meaning_cells.specs.Ending.{IsDone}
use Rattle.meaning_facts.specs.Growing.{KeepsFacts}
use Rattle.meaning_facts.specs.Sighted.{closed_at}
use Rattle.meaning_facts.specs.Indexed.{one_writer_in}
use Rattle.meaning_facts.specs.Store.{same_place, writes_at}
use Rattle.meaning_facts.proofs.Adding.{same_place-eq}
use Rattle.meaning_invariants.specs.Held.{Holds}
use Rattle.meaning_invariants.specs.Active.{Active, Candidate, goal_of, HasBlock, taken_by}
use Rattle.meaning_invariants.proofs.Apart as apart
use Rattle.meaning_invariants.proofs.Finishing.{finished}
use Rattle.meaning_invariants.proofs.EndedRight.{right_apart, right_so}
use Rattle.meaning_invariants.specs.Opened.{AreCalled, ArePassed, IsClosedSo, IsOpened, nothing, branches, content, IsSoFar}
use Rattle.meaning_invariants.proofs.Right.{is_right}

-- the same with the closed arrays of another
abbrev closed_of : FactBase → FactBase → FactBase
closed_of l m = record { facts = l.facts; instances = l.instances; closed = m.closed }

of_closed : (l m : FactBase) → m.facts ≡ l.facts → m.instances ≡ l.instances → closed_of l m ≡ m
of_closed l m e f = λ i. record { facts = sym e i; instances = sym f i; closed = m.closed }

module _ (s : Core) (K : Knowledge) (levels : ℕ) (l : FactBase) (ls : List Active) (arrays : List Candidate) (far : IsSoFar s K levels l ls arrays) where
  -- what is done closes
  pub now_closed : (p : Spot) (b : Block) → ◌∈◌ {X = Candidate} (p, b) arrays → IsDone s l (goal_of p b) → one_writer_in (writes_at l.facts p) ≡ true → IsClosedSo s K l p
  now_closed p b there ended one =
      let c = far.candidates p b there in
      let right = is_right s K levels l ls arrays far in
      let keeps = far.holds.keeps in
      let so = right_so s K l ls keeps right in
      record {
        within = c.within;
        so = closed c.live c.there (λ st m. finished_so s K (taken_by l ls) so (finished s K l ls far.placed keeps (right_apart s K l ls right) (goal_of p b) ended c.within st m))
            (apart.one_so K l far.placed.tree keeps p.instance c.within p.node one);
      }

  keeps_still : (m : FactBase) → KeepsFacts K (closed_of l m)
  keeps_still m =
      let k = far.holds.keeps in
      record {
        value_so = k.value_so;
        value_all = k.value_all;
        write_so = k.write_so;
        write_all = k.write_all;
        write_once = k.write_once;
        written_so = k.written_so;
        written_all = k.written_all;
        lined_so = k.lined_so;
        faulted_so = k.faulted_so;
        writers = k.writers;
      }

  holds_still : (m : FactBase) → Holds K (closed_of l m)
  holds_still m = record {
    keeps = keeps_still m;
    within = far.holds.within;
    line_so = far.holds.line_so;
    line_all = far.holds.line_all;
    fault_so = far.holds.fault_so;
    fault_all = far.holds.fault_all;
  }

  closed_still : (m : FactBase) (q : Spot) → IsClosedSo s K l q → IsClosedSo s K (closed_of l m) q
  closed_still m q c = record { within = c.within; so = c.so }

  closed_now : (m : FactBase) (p : Spot) → IsClosedSo s K l p → ((q : Spot) → closed_at m q ≡ cond (same_place p q) true (closed_at l q)) → (q : Spot) → closed_at m q ≡ true → IsClosedSo s K l q
  closed_now m p c more q e = elim (cases_Bool (same_place p q)) [
    | inl same ↦ subst (λ (z : Spot). IsClosedSo s K l z) (same_place-eq p q same) c
    | inr other ↦ far.closed q (sym (more q ∙ ap (λ (z : Bool). cond z true (closed_at l q)) other) ∙ e)
  ]

  -- all is so with one array more
  pub closes : (m : FactBase) → m.facts ≡ l.facts → m.instances ≡ l.instances → (p : Spot) → IsClosedSo s K l p → ((q : Spot) → closed_at m q ≡ cond (same_place p q) true (closed_at l q))
      → IsSoFar s K levels m ls arrays
  closes m e f p c more =
      subst (λ (z : FactBase). IsSoFar s K levels z ls arrays) (of_closed l m e f)
      (record {
        holds = holds_still m;
        placed = far.placed;
        live = λ a i. record { within = (far.live a i).within; so = (far.live a i).so };
        closed = λ q h. closed_still m q (closed_now m p c more q h);
        origins = far.origins;
        script = far.script;
        declared = far.declared;
        candidates = λ q b i. (let d = far.candidates q b i in record { within = d.within; live = d.live; at = d.at; node = d.node; there = d.there });
      })

-- WHAT WAS PASSED STAYS SO

module _ (s : Core) (K : Knowledge) (l m : FactBase) (ls : List Active) where
  block_still : (i at : ℕ) (k : _) (b : Block) → HasBlock l ls i at k b → HasBlock (closed_of l m) ls i at k b
  block_still i at k b h = record { instance = h.instance; opened = h.opened; listed = h.listed }

  called_still : (a : Active) → AreCalled s l ls a → AreCalled s (closed_of l m) ls a
  called_still a h = λ c f i e short. block_still a.instance c.at _ f.body (h c f i e short)

  opened_still : (a : Active) → IsOpened s K l ls a → IsOpened s K (closed_of l m) ls a
  opened_still a (nothing x y) = nothing x y
  opened_still a (branches r h f) = branches r h (λ k b o short. block_still a.instance _ k b (f k b o short))
  opened_still a (content ns b e f) = content ns b e f

  pub passed_still : m.facts ≡ l.facts → m.instances ≡ l.instances → (ps ws : List Active) → ArePassed s K l ls ps ws → ArePassed s K m ls ps ws
  passed_still e f ps ws passed =
      subst (λ (z : FactBase). ArePassed s K z ls ps ws) (of_closed l m e f)
      (record {
        called = λ a i. called_still a (passed.called a i);
        opened = λ a i. by a (passed.opened a i);
      })
    where
      by : (a : Active) → IsOpened s K l ls a ⊎ (a ∈ ws) → IsOpened s K (closed_of l m) ls a ⊎ (a ∈ ws)
      by a (inl h) = inl (opened_still a h)
      by a (inr h) = inr h
