-- From one round to the next.
use Rattle.std.specs.Prelude.{◌≡◌, ◌↔◌, ◌⊎◌, ℕ, suc, true, false, List, []}
use Rattle.std.proofs.Common.{inl, inr, subst, arith}
use Rattle.values.specs.declared.key.Key.{Key}
use Rattle.language.specs.Core.{Core, Block}
use Rattle.language.specs.Facts as script
use Rattle.language.specs.Facts.{Knowledge}
use Rattle.language.specs.Meaning.{Known, IsFinished}
use Rattle.language.specs.Members.{◌∈◌}
use Rattle.language.specs.Reads.{Reads}
use Rattle.language.specs.Resolved.{core}
use Rattle.language.specs.Single.{SinglyAssigned}
use Rattle.language.specs.Table.{Table}
use Rattle.language.specs.Tree.{Tree}
use Rattle.language.specs.Typing.{WellTyped}
use Rattle.language.specs.WellFormed.{WellFormed}
use Rattle.language_accepted.proofs.Accepted.{accepted_formed}
use Rattle.meaning_steps.proofs.Nodes.{accepted_nodes}
use Rattle.meaning_facts.specs.declared.facts.Fact.{Fact}
use Rattle.meaning_facts.specs.declared.facts.Facts.{Facts}
use Rattle.meaning_facts.specs.declared.fact_base.FactBase.{FactBase}
use Rattle.meaning_facts.specs.Growing.{with_facts}
use Rattle.meaning_facts.proofs.Keeping.{name_located}
use Rattle.meaning_invariants.specs.Held.{AreAdded, AreInside, Holds}
use Rattle.meaning_invariants.proofs.Rounds as held
use Rattle.meaning_invariants.specs.Active.{Active, HasBlock}
use Rattle.meaning_invariants.specs.Opened.{ArePassed, IsOpened, nothing, branches, content}
use Rattle.meaning_invariants.specs.Opened.{IsUnready, OffsetsApart}
use Rattle.meaning_invariants.proofs.Final.{all_open}
use Rattle.meaning_invariants.proofs.Right.{is_right}
use Rattle.meaning_invariants.proofs.Learning.{passed_later, so_far_later}
use Rattle.meaning_invariants.specs.Active.{Candidate, goal_of, IsAllClosed}
use Rattle.meaning_invariants.proofs.Indexes.{has_indexes}
use Rattle.meaning_invariants.proofs.Settling as settling
use Rattle.language_laws.proofs.Hinge.{grows}
use Rattle.language_laws.proofs.Whole.{later_known, one_scalar_known}
use Rattle.meaning_facts.specs.declared.facts.Place.{Place as Spot}
use Rattle.meaning_cells.specs.Ending.{IsDone}
use Rattle.meaning_facts.specs.Sighted.{closed_at}
use Rattle.meaning_facts.specs.Indexed.{one_writer_in}
use Rattle.meaning_facts.specs.Store.{writes_at}
use Rattle.meaning_round.specs.Going.{IsTelling, StandsBetween}
use Rattle.meaning_round.specs.Standing.{HavePlaces, IsAfter}
use Rattle.meaning_round.specs.Viewed.{facts_view}

-- WHAT WAS PASSED, BY THE SAME INSTANCES

module _ (s : Core) (K : Knowledge) (l : FactBase) (d : FactBase) (ls : List Active) where
  abbrev other : FactBase
  other = record { facts = d.facts; instances = l.instances; closed = d.closed }

  block_same : {i at : ℕ} {k : Key} {b : Block} → HasBlock l ls i at k b → HasBlock other ls i at k b
  block_same h = record { instance = h.instance; opened = h.opened; listed = h.listed }

  opened_same : (a : Active) → IsOpened s K l ls a → IsOpened s K other ls a
  opened_same a (nothing g w) = nothing g w
  opened_same a (branches r b o) = branches r b (λ k d p q. block_same (o k d p q))
  opened_same a (content ns b e g) = content ns b e g

  pub passed_same : (ps ws : List Active) → ArePassed s K l ls ps ws → ArePassed s K other ls ps ws
  passed_same ps ws h = record {
    called = λ a i d g x y z. block_same (h.called a i d g x y z);
    opened = λ a i. elim (h.opened a i) [ inl o ↦ inl (opened_same a o) | inr w ↦ inr w ];
  }

-- WHAT IS HELD AFTER THE NEXT ROUND

places_of : (s : Core) (n : ℕ) (l : FactBase) (ls telling : List Active) → IsAfter s n l ls telling → HavePlaces l.instances.all.items telling
places_of s n l ls telling h a i =
    let within = h.live.within a (h.live.among a i) in
    record { within = within; names = λ x. (name_located s l h.placed a.instance within x).within }

pub held_next : (bytes : List ℕ) (t : Table) (tree : Tree) → Reads bytes tree → WellTyped tree t → SinglyAssigned (core t tree)
    → (n : ℕ) (l : FactBase) (ls telling : List Active) (news : List Fact) (k : Facts) → IsAfter (core t tree) n l ls telling → Holds (Known (core t tree) n) l
    → (HavePlaces l.instances.all.items telling → AreInside l.instances.all.items news) → AreAdded l.facts news k
    → ((f : script.Fact) → Known (core t tree) (suc n) f ↔ (Known (core t tree) n f ⊎ (f ∈ facts_view l.instances.all.items news)))
    → Holds (Known (core t tree) (suc n)) (with_facts l k)
held_next bytes t tree r w single n l ls telling news k after holds inside added round =
    let s = core t tree in
    held.round_held s (accepted_formed bytes t tree r w single) single (accepted_nodes bytes t tree r) n l news k after.placed.tree holds added
    (inside (places_of s n l ls telling after)).each round

-- BETWEEN ROUNDS

module _ (s : Core) (w : WellFormed s) (single : SinglyAssigned s) (n : ℕ) where
  -- where all is open and closed, what is kept is what is known
  pub settled_after : OffsetsApart s → (l : FactBase) (ls : List Active) (arrays : List Candidate) (waiting telling : List Active) → StandsBetween s n l ls arrays ls waiting → IsTelling l ls telling
      → ((a : Active) → a ∈ waiting → IsUnready l a) → ((p : Spot) (b : Block) → ◌∈◌ {X = Candidate} (p, b) arrays → closed_at l p ≡ false → IsDone s l (goal_of p b) → one_writer_in (writes_at l.facts p) ≡ true → ⊥)
      → IsAfter s n l ls telling
  settled_after offsets l ls arrays waiting telling h tells unready ended =
      let right = is_right s (Known s n) 0 l ls arrays h.good in
      let open_all = all_open s w.names offsets (Known s n) (later_known s w single n n (omega arith)) 0 l ls arrays h.good waiting h.passed_so unready in
      let close_all : IsAllClosed s 0 l ls arrays = record { declared = h.good.declared; ended = ended } in
      let keeps = h.good.holds.keeps in
      let indexes = has_indexes s w single n in
      let one = one_scalar_known s w single n in
      record {
        keeps = settling.keeps_all s (Known s n) l ls 0 arrays w.names h.good.placed keeps right open_all close_all indexes one;
        placed = h.good.placed;
        live = record {
          within = right.within;
          so = right.live;
          all = λ path st live. settling.listed_all s (Known s n) l ls 0 arrays w.names h.good.placed keeps right open_all close_all indexes one path st live;
          among = tells.among;
          quiet = tells.quiet;
        };
      }

  -- facts that are held after the next round lead there
  pub between_next : (l : FactBase) (ls : List Active) (arrays : List Candidate) (passed waiting : List Active) (k : Facts) → StandsBetween s n l ls arrays passed waiting
      → Holds (Known s (suc n)) (with_facts l k) → StandsBetween s (suc n) (with_facts l k) ls arrays passed waiting
  between_next l ls arrays passed waiting k h holds =
      let grown = grows s w.names (Known s n) (Known s (suc n)) (later_known s w single n (suc n) (omega arith)) in
      record {
        good = so_far_later s (Known s n) (Known s (suc n)) grown 0 l k ls arrays h.good holds;
        passed_so = passed_later s (Known s n) (Known s (suc n)) grown 0 l k ls [] passed waiting h.passed_so;
        waiting_live = h.waiting_live;
      }

-- the next round of an accepted script
pub round_goes : (bytes : List ℕ) (t : Table) (tree : Tree) → Reads bytes tree → WellTyped tree t → SinglyAssigned (core t tree)
    → (n : ℕ) (l : FactBase) (ls : List Active) (arrays : List Candidate) (passed waiting telling : List Active) (news : List Fact) (k : Facts)
    → StandsBetween (core t tree) n l ls arrays passed waiting → IsAfter (core t tree) n l ls telling
    → (HavePlaces l.instances.all.items telling → AreInside l.instances.all.items news) → AreAdded l.facts news k
    → ((f : script.Fact) → Known (core t tree) (suc n) f ↔ (Known (core t tree) n f ⊎ (f ∈ facts_view l.instances.all.items news)))
    → StandsBetween (core t tree) (suc n) (with_facts l k) ls arrays passed waiting
round_goes bytes t tree r w single n l ls arrays passed waiting telling news k h after inside added round =
    between_next (core t tree) (accepted_formed bytes t tree r w single) single n l ls arrays passed waiting k h
    (held_next bytes t tree r w single n l ls telling news k after h.good.holds inside added round)

-- a script is finished just where nothing is told
pub nothing_told : (s : Core) (n : ℕ) (l : FactBase) (news : List Fact) → ((f : script.Fact) → Known s (suc n) f ↔ (Known s n f ⊎ (f ∈ facts_view l.instances.all.items news))) → news ≡ [] → IsFinished s n
nothing_told s n l news round e f k = elim ((round f).0 k) [ inl old ↦ old | inr i ↦ absurd (none (subst (λ (z : List Fact). f ∈ facts_view l.instances.all.items z) e i)) ]
  where
    none : f ∈ facts_view l.instances.all.items [] → ⊥
    none i = elim i [ ]
