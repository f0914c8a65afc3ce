-- Who may have something left to tell, as more is known and those are woken who have read what comes.
use Rattle.std.specs.Prelude.{◌≡◌, ◌⊎◌, ℕ, zero, suc, ◌+◌, ◌-◌, ◌<◌, ◌≤◌, Bool, true, false, ◌||◌, List, [], ◌∷◌, ◌++◌, length, nat_eq, Option, Some, None, option_to_list, slice_get, refl}
use Rattle.std.specs.HashMap.{get}
use Rattle.std.specs.HashSet.{contains}
use Rattle.std.proofs.Common.{inl, inr, sym, ap, ◌∙◌, subst, arith}
use Rattle.std.proofs.lemmas.Bool.{cases_lt, eq-eqb}
use Rattle.std.proofs.lemmas.Option.{same_Some, slice_get_within}
use Rattle.language.specs.Members.{◌∈◌, first, later}
use Rattle.language.specs.Parts.{stmt_action}
use Rattle.language.proofs.Members.{either, split_in, to_left, to_right}
use Rattle.meaning_facts.specs.declared.facts.Fact.{Fact}
use Rattle.meaning_facts.specs.declared.facts.Facts.{Facts}
use Rattle.meaning_facts.specs.declared.fact_base.FactBase.{FactBase}
use Rattle.meaning_facts.specs.Added.{IsAdded}
use Rattle.meaning_facts.specs.Growing.{with_facts}
use Rattle.meaning_invariants.specs.Active.{Active}
use Rattle.meaning_round.specs.declared.worklist.WakeEvent.{WakeEvent}
use Rattle.meaning_round.specs.declared.worklist.Worklist.{Worklist}
use Rattle.meaning_round.specs.Going.{IsTelling}
use Rattle.meaning_round.specs.Hearing.{active_reads, comes_with, counted, event_key, is_asleep, is_called, is_in, numbers_of, same_event, AreHeard, AreWoken, FallsAsleep, IsAwake, Sleeps}
use Rattle.meaning_round.specs.Made.{picks}
use Rattle.meaning_round.specs.More.{KnowsMore}
use Rattle.meaning_round.specs.Reads.{IsSame}
use Rattle.meaning_round.specs.Standing.{active_news, site_of, HavePlaces}
use Rattle.meaning_round.proofs.Lasting.{comes_or_same, more_and_more, more_by_one, more_same, same_and_same, same_self}
use Rattle.meaning_round.proofs.Still.{silence_stays}

-- LISTS

pub got_in : {X : Type 0} (k : ℕ) (xs : List X) (x : X) → slice_get xs k ≡ Some x → x ∈ xs
got_in k [] x e = absurd (cc (e))
got_in {X = X} zero (y ∷ ys) x e = subst (λ (z : X). z ∈ (y ∷ ys)) (same_Some _ _ e) first
got_in (suc k) (y ∷ ys) x e = later (got_in k ys x e)

-- where it stands
record StandsAt {X : Type 0} (xs : List X) (x : X) : Type 0 where
  number : ℕ
  is : slice_get xs number ≡ Some x

stands_at : {X : Type 0} (xs : List X) (x : X) → x ∈ xs → StandsAt xs x
stands_at [] x i = elim i [ ]
stands_at (y ∷ ys) x first = record { number = 0; is = refl }
stands_at (y ∷ ys) x (later i) = let s = stands_at ys x i in record { number = suc s.number; is = s.is }

-- of a longer list it stands there, or behind
got_before : {X : Type 0} (xs ys : List X) (k : ℕ) (x : X) → slice_get (xs ++ ys) k ≡ Some x → (slice_get xs k ≡ Some x) ⊎ (length xs ≤ k)
got_before [] ys k x e = inr (omega arith)
got_before (y ∷ xs) ys zero x e = inl e
got_before (y ∷ xs) ys (suc k) x e = elim (got_before xs ys k x e) [ inl f ↦ inl f | inr h ↦ inr (omega (arith, h)) ]

picked_in : (ls : List Active) (ks : List ℕ) (a : Active) → a ∈ picks ls ks → a ∈ ls
picked_in ls [] a i = elim i [ ]
picked_in ls (k ∷ ks) a i = by (slice_get ls k) refl (λ j. picked_in ls ks a j) i
  where
    by : (o : Option Active) → slice_get ls k ≡ o → (a ∈ picks ls ks → a ∈ ls) → a ∈ (option_to_list o ++ picks ls ks) → a ∈ ls
    by (Some b) e rec i = elim (split_in i) [ inl q ↦ subst (λ (z : Active). z ∈ ls) (sym q) (got_in k ls b e) | inr j ↦ rec j ]
    by None e rec i = rec i

pick_in : (ls : List Active) (ks : List ℕ) (k : ℕ) (a : Active) → k ∈ ks → slice_get ls k ≡ Some a → a ∈ picks ls ks
pick_in ls [] k a i e = elim i [ ]
pick_in ls (j ∷ ks) k a first e = subst (λ (o : Option Active). a ∈ (option_to_list o ++ picks ls ks)) (sym e) first
pick_in ls (j ∷ ks) k a (later i) e = to_right (option_to_list (slice_get ls j)) (picks ls ks) (pick_in ls ks k a i e)

counted_in : (n more k : ℕ) → n ≤ k → k < n + more → k ∈ counted n more
counted_in n zero k b l = absurd (omega (arith, b, l))
counted_in n (suc more) k b l = elim (cases_lt n k) [
  | inl below ↦ later (counted_in (suc n) more k (omega (arith, below)) (omega (arith, l)))
  | inr above ↦ (let e : n ≡ k = omega (arith, b, above) in subst (λ (z : ℕ). z ∈ counted n (suc more)) e first)
]

asked_of : (t : Worklist) (count k : ℕ) → k < count → IsAwake t k → k ∈ numbers_of t count
asked_of t count k l (inl i) = to_left t.awake.items (counted t.fresh (count - t.fresh)) i
asked_of t count k l (inr b) = to_right t.awake.items (counted t.fresh (count - t.fresh)) (counted_in t.fresh (count - t.fresh) k b (omega (arith, l, b)))

-- WHO SLEEPS

sleeps_later : (l m : FactBase) (t u : Worklist) (k : ℕ) (a : Active) (s : Sleeps l t k a) → KnowsMore l m → ((e : WakeEvent) → e ∈ active_reads s.earlier a → IsSame l m e)
    → ((e : WakeEvent) → is_called t e k ≡ true → is_called u e k ≡ true) → Sleeps m u k a
sleeps_later l m t u k a s more same called = record {
  earlier = s.earlier;
  more = more_and_more s.earlier l m s.more more;
  placed = s.placed;
  silent = s.silent;
  same = λ e i. same_and_same s.earlier l m e (s.same e i) (same e i);
  called = λ e i. called e (s.called e i);
}

-- who sleeps tells nothing
sleeps_silent : (l : FactBase) (t : Worklist) (k : ℕ) (a : Active) → Sleeps l t k a → active_news l a ≡ []
sleeps_silent l t k a s = silence_stays s.earlier l s.more (site_of a) s.placed (stmt_action a.statement) s.silent s.same

-- AS MORE IS LIVE AND KNOWN

-- at first nobody was asked
pub heard_first : (l : FactBase) (ls : List Active) (t : Worklist) → t.fresh ≡ 0 → AreHeard l ls t []
heard_first l ls t e = record { fresh = omega (arith, e); each = λ k a f. inl (inr (omega (arith, e))) }

-- more is live
pub heard_opened : (l m : FactBase) (ls more : List Active) (t : Worklist) → KnowsMore l m → ((e : WakeEvent) → IsSame l m e) → AreHeard l ls t [] → AreHeard m (ls ++ more) t []
heard_opened l m ls more t knows same h = record {
  fresh = let f = h.fresh in let e : length (ls ++ more) ≡ length ls + length more = length_both ls in omega (arith, f, e);
  each = λ k a e. elim (got_before ls more k a e) [
    | inl f ↦ elim (h.each k a f) [
      | inl awake ↦ inl awake
      | inr rest ↦ elim rest [
        | inl i ↦ inr (inl i)
        | inr x ↦ inr (inr (x.0, sleeps_later l m t t k a x.1 knows (λ d i. same d) (λ d c. c)))
      ]
    ]
    | inr b ↦ (let f = h.fresh in inl (inr (omega (arith, f, b))))
  ];
}
  where
    length_both : (xs : List Active) → length (xs ++ more) ≡ length xs + length more
    length_both [] = omega arith
    length_both (x ∷ xs) = let e = length_both xs in omega (arith, e)

no_one : {k : ℕ} → k ∈ [] → ⊥
no_one i = elim i [ ]

-- something has come, and those were woken who have read it
pub heard_woken : (l m : FactBase) (ls : List Active) (old new : Worklist) (events : List WakeEvent) → AreWoken old new events → KnowsMore l m → ((e : WakeEvent) → (e ∈ events) ⊎ IsSame l m e)
    → AreHeard l ls old [] → AreHeard m ls new []
heard_woken l m ls old new events woken more comes h = record { fresh = subst (λ (z : ℕ). z ≤ length ls) (sym woken.fresh) h.fresh; each = each }
  where
    same_called : (k : ℕ) (e : WakeEvent) → is_called new e k ≡ is_called old e k
    same_called k e = ap (λ c. is_in (get same_event c (event_key e)) k) woken.called

    still : (k : ℕ) (a : Active) → is_asleep new k ≡ true → Sleeps l old k a → Sleeps m new k a
    still k a sleeps s =
        sleeps_later l m old new k a s more
        (λ e i. elim (comes e) [
          | inr q ↦ q
          | inl j ↦ (let z : true ≡ false = sym (s.called e i) ∙ woken.quiet e j k sleeps in absurd (cc (z)))
        ])
        (λ e c. same_called k e ∙ c)

    each : (k : ℕ) (a : Active) → slice_get ls k ≡ Some a → IsAwake new k ⊎ ((k ∈ []) ⊎ ((is_asleep new k ≡ true) × Sleeps m new k a))
    each k a e = elim (h.each k a e) [
      | inl awake ↦ elim awake [ inl i ↦ inl (inl (woken.awake k i)) | inr b ↦ inl (inr (subst (λ (z : ℕ). z ≤ k) (sym woken.fresh) b)) ]
      | inr rest ↦ elim rest [
        | inl i ↦ absurd (no_one i)
        | inr x ↦ elim (woken.woken k x.0) [ inl sleeps ↦ inr (inr (sleeps, still k a sleeps x.1)) | inr i ↦ inl (inl i) ]
      ]
    ]

-- one fact more is known
pub heard_learned : (l : FactBase) (ls : List Active) (old new : Worklist) (f : Fact) (k : Facts) → AreWoken old new (comes_with l f) → IsAdded l.facts f k → AreHeard l ls old [] → AreHeard (with_facts l k) ls new []
heard_learned l ls old new f k woken added h = heard_woken l (with_facts l k) ls old new (comes_with l f) woken (more_by_one l f k added) (λ e. comes_or_same l k f added e) h

-- none or some are woken
pub none_woken : (t : Worklist) → AreWoken t t []
none_woken t = record { fresh = refl; called = refl; asleep = λ k e. e; quiet = λ e i. absurd (none e i); woken = λ k e. inl e; awake = λ k i. i }
  where
    none : (e : WakeEvent) → e ∈ [] → ⊥
    none e i = elim i [ ]

pub more_woken : (t u v : Worklist) (es ds : List WakeEvent) → AreWoken t u es → AreWoken u v ds → AreWoken t v (es ++ ds)
more_woken t u v es ds a b = record {
  fresh = b.fresh ∙ a.fresh;
  called = b.called ∙ a.called;
  asleep = λ k e. a.asleep k (b.asleep k e);
  quiet = λ e i k s. elim (either es ds i) [
    | inl j ↦ a.quiet e j k (b.asleep k s)
    | inr j ↦ sym (ap (λ c. is_in (get same_event c (event_key e)) k) a.called) ∙ b.quiet e j k s
  ];
  woken = λ k e. elim (a.woken k e) [ inl s ↦ b.woken k s | inr i ↦ inr (b.awake k i) ];
  awake = λ k i. b.awake k (a.awake k i);
}

-- AS THEY ARE ASKED

module _ (l : FactBase) (ls : List Active) where
  -- all who are awake are asked now
  pub heard_taken : (old new : Worklist) (asked : List ℕ) → asked ≡ numbers_of old (length ls) → new.fresh ≡ length ls → new.asleep ≡ old.asleep → new.called ≡ old.called
      → AreHeard l ls old [] → AreHeard l ls new asked
  heard_taken old new asked numbers fresh asleep called h = record {
    fresh = omega (arith, fresh);
    each = λ k a e. elim (h.each k a e) [
      | inl awake ↦ inr (inl (subst (λ (z : List ℕ). k ∈ z) (sym numbers) (asked_of old (length ls) k (slice_get_within ls k a e) awake)))
      | inr rest ↦ elim rest [
        | inl i ↦ absurd (no_one i)
        | inr x ↦ inr (inr (
          ap (λ s. contains nat_eq s k) asleep ∙ x.0,
          sleeps_later l l old new k a x.1 (more_same l) (λ d i. same_self l d)
              (λ d c. ap (λ z. is_in (get same_event z (event_key d)) k) called ∙ c),
        ))
      ]
    ];
  }

  -- one who told something stays awake
  pub heard_kept : (old new : Worklist) (n : ℕ) (asked : List ℕ) → new.awake.items ≡ old.awake.items ++ n ∷ [] → new.fresh ≡ old.fresh → new.asleep ≡ old.asleep → new.called ≡ old.called
      → AreHeard l ls old (n ∷ asked) → AreHeard l ls new asked
  heard_kept old new n asked awake fresh asleep called h = record {
    fresh = subst (λ (z : ℕ). z ≤ length ls) (sym fresh) h.fresh;
    each = λ k a e. elim (h.each k a e) [
      | inl w ↦ elim w [
        | inl i ↦ inl (inl (subst (λ (z : List ℕ). k ∈ z) (sym awake) (to_left old.awake.items (n ∷ []) i)))
        | inr b ↦ inl (inr (subst (λ (z : ℕ). z ≤ k) (sym fresh) b))
      ]
      | inr rest ↦ elim rest [
        | inl i ↦ elim (split_in i) [
          | inl q ↦ inl (inl (subst (λ (z : List ℕ). k ∈ z) (sym awake) (to_right old.awake.items (n ∷ []) (subst (λ (z : ℕ). z ∈ (n ∷ [])) (sym q) first))))
          | inr j ↦ inr (inl j)
        ]
        | inr x ↦ inr (inr (
          ap (λ s. contains nat_eq s k) asleep ∙ x.0,
          sleeps_later l l old new k a x.1 (more_same l) (λ d i. same_self l d)
              (λ d c. ap (λ z. is_in (get same_event z (event_key d)) k) called ∙ c),
        ))
      ]
    ];
  }

  -- one who told nothing sleeps
  pub heard_asleep : (old new : Worklist) (n : ℕ) (asked : List ℕ) (b : Active) (events : List WakeEvent) → HavePlaces l.instances.all.items ls → slice_get ls n ≡ Some b → active_news l b ≡ []
      → events ≡ active_reads l b → FallsAsleep old new n events → AreHeard l ls old (n ∷ asked) → AreHeard l ls new asked
  heard_asleep old new n asked b events places there silent reads falls h = record {
    fresh = subst (λ (z : ℕ). z ≤ length ls) (sym falls.fresh) h.fresh;
    each = λ k a e. elim (h.each k a e) [
      | inl w ↦ elim w [
        | inl i ↦ inl (inl (subst (λ (z : List ℕ). k ∈ z) (sym falls.awake) i))
        | inr b ↦ inl (inr (subst (λ (z : ℕ). z ≤ k) (sym falls.fresh) b))
      ]
      | inr rest ↦ elim rest [
        | inl i ↦ elim (split_in i) [ inl q ↦ inr (inr (now k a q e)) | inr j ↦ inr (inl j) ]
        | inr x ↦ inr (inr (
          falls.asleep k ∙ or_true (nat_eq n k) (is_asleep old k) x.0,
          sleeps_later l l old new k a x.1 (more_same l) (λ d i. same_self l d) (λ d c. falls.still d k c),
        ))
      ]
    ];
  }
    where
      or_true : (x y : Bool) → y ≡ true → x || y ≡ true
      or_true true y e = refl
      or_true false y e = e

      or_first : (x y : Bool) → x ≡ true → x || y ≡ true
      or_first true y e = refl
      or_first false y e = absurd (cc (e))

      one : Sleeps l new n b
      one = record {
        earlier = l;
        more = more_same l;
        placed = places b (got_in n ls b there);
        silent = silent;
        same = λ d i. same_self l d;
        called = λ d i. falls.called d (subst (λ (z : List WakeEvent). d ∈ z) (sym reads) i);
      }

      now : (k : ℕ) (a : Active) → k ≡ n → slice_get ls k ≡ Some a → (is_asleep new k ≡ true) × Sleeps l new k a
      now k a q e =
          let is : a ≡ b = same_Some _ _ (sym e ∙ ap (slice_get ls) q ∙ there) in (
            falls.asleep k ∙ or_first (nat_eq n k) (is_asleep old k) (eq-eqb n k (sym q)),
            subst (λ (z : ℕ). Sleeps l new z a) (sym q) (subst (λ (z : Active). Sleeps l new n z) (sym is) one),
          )

  -- nobody has that number
  pub heard_nobody : (t : Worklist) (n : ℕ) (asked : List ℕ) → slice_get ls n ≡ None → AreHeard l ls t (n ∷ asked) → AreHeard l ls t asked
  heard_nobody t n asked none h = record {
    fresh = h.fresh;
    each = λ k a e. elim (h.each k a e) [
      | inl w ↦ inl w
      | inr rest ↦ elim rest [
        | inl i ↦ elim (split_in i) [ inl q ↦ absurd (nobody k a q e) | inr j ↦ inr (inl j) ]
        | inr x ↦ inr (inr x)
      ]
    ];
  }
    where
      nobody : (k : ℕ) (a : Active) → k ≡ n → slice_get ls k ≡ Some a → ⊥
      nobody k a q e = let z : Some a ≡ None = sym e ∙ ap (slice_get ls) q ∙ none in absurd (cc (z))

  -- what is not among those who are asked tells nothing
  pub heard_tells : (t : Worklist) → AreHeard l ls t [] → IsTelling l ls (picks ls (numbers_of t (length ls)))
  heard_tells t h = record {
    among = λ a i. picked_in ls (numbers_of t (length ls)) a i;
    quiet = λ a i. (
        let s = stands_at ls a i in
        elim (h.each s.number a s.is) [
          | inl awake ↦ inl (pick_in ls (numbers_of t (length ls)) s.number a (asked_of t (length ls) s.number (slice_get_within ls s.number a s.is) awake) s.is)
          | inr rest ↦ elim rest [ inl j ↦ absurd (no_one j) | inr x ↦ inr (sleeps_silent l t s.number a x.1) ]
        ]
        );
  }
