-- One array after another is closed.
use Rattle.std.specs.Prelude.{◌≡◌, ◌⊎◌, ℕ, ◌<◌, ◌≤◌, ◌+◌, Bool, true, false, List, [], ◌∷◌, ◌++◌, length, map, take, cond, is_some, nat_eq, Option, refl}
use Rattle.std.specs.HashSet.{contains}
use Rattle.std.proofs.Common.{inl, inr, sym, ap, ◌∙◌, subst, get_or, arith}
use Rattle.std.proofs.lemmas.Bool.{cases_Bool, eq-eqb, eqb-true}
use Rattle.std.proofs.lemmas.List.{map-append, take_more}
use Rattle.language.specs.Core.{Core}
use Rattle.language.specs.Meaning.{Known}
use Rattle.values.specs.declared.value.Value.{Value}
use Rattle.language.specs.Members.{◌∈◌, first}
use Rattle.language.proofs.Members.{either, split_in, to_left, to_right}
use Rattle.meaning_steps.specs.Kept.{scalar_by}
use Rattle.meaning_facts.specs.declared.facts.Facts.{Facts}
use Rattle.meaning_facts.specs.declared.instances.Instances.{Instances}
use Rattle.meaning_facts.specs.declared.facts.Place.{Place as Spot}
use Rattle.meaning_facts.specs.declared.fact_base.FactBase.{FactBase}
use Rattle.meaning_facts.specs.Sighted.{closed_at}
use Rattle.meaning_facts.specs.Keeping.{same_fault}
use Rattle.meaning_facts.specs.Paths.{path_of}
use Rattle.meaning_facts.specs.Store.{is_written_in, line_at, same_place, spot, value_at, variable_in, variables_of, writes_at, writes_under}
use Rattle.meaning_facts.proofs.Adding.{same_place-eq}
use Rattle.meaning_invariants.specs.Active.{Active, Candidate}
use Rattle.meaning_invariants.proofs.Closing.{closes, now_closed}
use Rattle.meaning_round.specs.declared.state.LiveArray.{LiveArray}
use Rattle.meaning_round.specs.declared.worklist.WakeEvent.{WakeEvent}
use Rattle.meaning_round.specs.declared.worklist.Worklist.{Worklist}
use Rattle.meaning_round.specs.Hearing.{AreHeard, AreWoken}
use Rattle.meaning_round.specs.Made.{candidate_of}
use Rattle.meaning_round.specs.More.{KnowsMore}
use Rattle.meaning_round.specs.Reads.{at, IsSame}
use Rattle.meaning_round.proofs.Heard.{heard_woken, more_woken, none_woken}
use Rattle.meaning_round.proofs.Listed.{mapped_in, nth_in}
use Rattle.meaning_openings.specs.Closing.{AllStaySo, AreEnded, IsEnded, IsTried, IsToClose, StaysSo}

-- ONE ARRAY

nothing_closes : (s : Core) (c : Candidate) (l : FactBase) → StaysSo s c l l
nothing_closes s c l n ls cs i far = far

one_closes : (s : Core) (c : Candidate) (l m : FactBase) → IsToClose s l c → m.facts ≡ l.facts → m.instances ≡ l.instances
    → ((q : Spot) → closed_at m q ≡ cond (same_place c.0 q) true (closed_at l q)) → StaysSo s c l m
one_closes s c l m t e f more n ls cs i far = closes s (Known s n) 0 l ls cs far m e f c.0 (now_closed s (Known s n) 0 l ls cs far c.0 c.1 i t.ended t.one) more

-- what is closed has not to be closed, and what has not to be is ended
pub closed_ends : (s : Core) (l : FactBase) (c : Candidate) → closed_at l c.0 ≡ true → IsEnded s l c
closed_ends s l c e g t = let z : true ≡ false = sym e ∙ g in absurd (cc (z))

pub open_ends : (s : Core) (l : FactBase) (c : Candidate) → (IsToClose s l c → ⊥) → IsEnded s l c
open_ends s l c never g t = never t

pub looked_still : (s : Core) (c : Candidate) (l : FactBase) (was : List Spot) → IsEnded s l c → IsTried s c l l was was
looked_still s c l was ends = record { so = nothing_closes s c l; others = λ q. inr refl; kept = λ q i. i; ended = λ e. (e, refl, ends) }

pub looked_closed : (s : Core) (c : Candidate) (l m : FactBase) (was now : List Spot) → IsToClose s l c → m.facts ≡ l.facts → m.instances ≡ l.instances
    → ((q : Spot) → closed_at m q ≡ cond (same_place c.0 q) true (closed_at l q)) → now ≡ was ++ c.0 ∷ [] → IsTried s c l m was now
looked_closed s c l m was now t e f more pushed = record {
  so = one_closes s c l m t e f more;
  others = λ q. elim (cases_Bool (same_place c.0 q)) [
    | inl same ↦ inl (subst (λ (z : List Spot). q ∈ z) (sym pushed) (to_right was (c.0 ∷ []) (subst (λ (z : Spot). z ∈ (c.0 ∷ [])) (same_place-eq c.0 q same) first)))
    | inr other ↦ inr (more q ∙ ap (λ (b : Bool). cond b true (closed_at l q)) other)
  ];
  kept = λ q i. subst (λ (z : List Spot). q ∈ z) (sym pushed) (to_left was (c.0 ∷ []) i);
  ended = λ z. absurd (some_closed was c.0 (sym pushed ∙ z));
}
  where
    some_closed : (xs : List Spot) (x : Spot) → xs ++ x ∷ [] ≡ [] → ⊥
    some_closed [] x e = absurd (cc (e))
    some_closed (y ∷ ys) x e = absurd (cc (e))

-- ONE AFTER ANOTHER

-- the first so many of these arrays were looked at, and these were closed
pub record AreLookedAt {A : Type 0} (s : Core) (all : List (LiveArray A)) (k : ℕ) (initial l : FactBase) (closed : List Spot) : Type 0 where
  pub facts : l.facts ≡ initial.facts
  pub instances : l.instances ≡ initial.instances
  pub so : AllStaySo s (map candidate_of all) initial l
  pub others : (q : Spot) → (q ∈ closed) ⊎ (closed_at l q ≡ closed_at initial q)
  pub ended : closed ≡ [] → (l ≡ initial) × AreEnded s initial (map candidate_of (take k all))

pub none_looked_at : {A : Type 0} (s : Core) (all : List (LiveArray A)) (l : FactBase) (closed : List Spot) → AreLookedAt s all 0 l l closed
none_looked_at s all l closed = record {
  facts = refl;
  instances = refl;
  so = λ n ls far. far;
  others = λ q. inr refl;
  ended = λ e. (refl, λ c i. elim i [ ]);
}

module _ {A : Type 0} (s : Core) (all : List (LiveArray A)) (k : ℕ) (d : LiveArray A) (within : k < length all) where
  there : ◌∈◌ {X = Candidate} (candidate_of (get_or all k d)) (map candidate_of all)
  there = mapped_in candidate_of all (nth_in all k d within)

  taken : map candidate_of (take (k + 1) all) ≡ map candidate_of (take k all) ++ candidate_of (get_or all k d) ∷ []
  taken = ap (map candidate_of) (take_more all k d within) ∙ map-append candidate_of (take k all) (get_or all k d ∷ [])

  one_more_ends : (l : FactBase) → AreEnded s l (map candidate_of (take k all)) → IsEnded s l (candidate_of (get_or all k d)) → AreEnded s l (map candidate_of (take (k + 1) all))
  one_more_ends l before now c i = elim (either (map candidate_of (take k all)) (candidate_of (get_or all k d) ∷ []) (subst (λ (z : List Candidate). ◌∈◌ {X = Candidate} c z) taken i)) [
    | inl j ↦ before c j
    | inr j ↦ elim (split_in j) [ inl e ↦ subst (λ (z : Candidate). IsEnded s l z) (sym e) now | inr o ↦ elim o [ ] ]
  ]

  pub one_more_looked_at : (initial l m : FactBase) (was now : List Spot) → AreLookedAt s all k initial l was → m.facts ≡ l.facts → m.instances ≡ l.instances
      → IsTried s (candidate_of (get_or all k d)) l m was now → AreLookedAt s all (k + 1) initial m now
  one_more_looked_at initial l m was now h e f x = record {
    facts = e ∙ h.facts;
    instances = f ∙ h.instances;
    so = λ n ls far. x.so n ls (map candidate_of all) there (h.so n ls far);
    others = λ q. elim (x.others q) [ inl i ↦ inl i | inr same ↦ elim (h.others q) [ inl i ↦ inl (x.kept q i) | inr was ↦ inr (same ∙ was) ] ];
    ended = λ z. (
        let this = x.ended z in
        let before = h.ended this.0 in
        (this.1 ∙ before.0, one_more_ends initial before.1 (subst (λ (y : FactBase). IsEnded s y (candidate_of (get_or all k d))) before.0 this.2))
        );
  }

-- WHO IS WOKEN

-- where arrays are closed, more is known
more_closed : (l m : FactBase) → m.facts ≡ l.facts → m.instances ≡ l.instances → KnowsMore l m
more_closed l m e f = record {
  grows = record { longer = subst (λ (z : Instances). length l.instances.all.items ≤ length z.all.items) (sym f) (omega arith); path_same = λ i b. ap (λ (z : Instances). path_of z.all.items i) f };
  spots = λ i x b. ap (λ (z : Instances). spot z.all.items i x) f;
  scalars = λ p b v. ap (λ (z : Option Value). scalar_by z (variable_in (variables_of m.instances.all.items p.instance) p.node)) v
      ∙ ap (λ (z : Instances). scalar_by (value_at l.facts p) (variable_in (variables_of z.all.items p.instance) p.node)) f;
  values = λ p v h. ap (λ (z : Facts). value_at z p) e ∙ h;
  lines = λ p h. ap (λ (z : Facts). is_some (line_at z p)) e ∙ h;
  written = λ p k w h. ap (λ (z : Facts). is_written_in (writes_at z p) k w) e ∙ h;
  faults = λ g h. ap (λ (z : Facts). contains same_fault z.faults g) e ∙ h;
}

-- at the place of each array that was closed something comes, and nothing elsewhere
closed_or_same : (l m : FactBase) (closed : List Spot) → m.facts ≡ l.facts → ((q : Spot) → (q ∈ closed) ⊎ (closed_at m q ≡ closed_at l q)) → (e : WakeEvent) → (e ∈ map at closed) ⊎ IsSame l m e
closed_or_same l m closed f others e = elim (others e.place) [
  | inl i ↦ elim (cases_Bool (nat_eq e.hash 0)) [
    | inl whole ↦ inl (subst (λ (z : WakeEvent). z ∈ map at closed) (λ j. record { place = e.place; hash = sym (eqb-true e.hash 0 whole) j }) (mapped_in at closed i))
    | inr marked ↦ inr (same (λ z. absurd (not_zero z marked)))
  ]
  | inr c ↦ inr (same (λ z. c))
]
  where
    not_zero : e.hash ≡ 0 → nat_eq e.hash 0 ≡ false → ⊥
    not_zero z marked = let h : true ≡ false = sym (eq-eqb e.hash 0 z) ∙ marked in absurd (cc (h))

    same : (e.hash ≡ 0 → closed_at m e.place ≡ closed_at l e.place) → IsSame l m e
    same c = record {
      value = λ z. ap (λ (k : Facts). value_at k e.place) f;
      closed = c;
      elements = λ z b. ap (λ (k : Facts). writes_at k e.place) f;
      writes = λ key z. ap (λ (k : Facts). writes_under (writes_at k e.place) key) f;
    }

pub heard_closed : (l m : FactBase) (ls : List Active) (old new : Worklist) (closed : List Spot) → m.facts ≡ l.facts → m.instances ≡ l.instances
    → ((q : Spot) → (q ∈ closed) ⊎ (closed_at m q ≡ closed_at l q)) → AreWoken old new (map at closed) → AreHeard l ls old [] → AreHeard m ls new []
heard_closed l m ls old new closed e f others woken h = heard_woken l m ls old new (map at closed) woken (more_closed l m e f) (closed_or_same l m closed e others) h

-- one after another
pub next_woken : (old mid new : Worklist) (closed : List Spot) (k : ℕ) (d : Spot) → k < length closed → AreWoken old mid (map at (take k closed)) → AreWoken mid new (at (get_or closed k d) ∷ []) → AreWoken old new (map at (take (k + 1) closed))
next_woken old mid new closed k d within a b =
    subst (λ (z : List WakeEvent). AreWoken old new z) (sym (ap (map at) (take_more closed k d within) ∙ map-append at (take k closed) (get_or closed k d ∷ [])))
    (more_woken old mid new (map at (take k closed)) (at (get_or closed k d) ∷ []) a b)
