-- Who is called at events, as one more is, and as those who sleep are woken.
use Rattle.std.specs.Prelude.{◌≡◌, ◌⊎◌, ℕ, ◌+◌, ◌<◌, Bool, true, false, ◌&&◌, ◌||◌, List, [], ◌∷◌, ◌++◌, length, nat_eq, take, Option, Some, None, cond, is_some, suc, ◌-◌, ◌≤◌, refl}
use Rattle.std.specs.HashMap.{get}
use Rattle.std.specs.List.{list_any}
use Rattle.std.specs.HashSet.{HashSet, contains}
use Rattle.std.proofs.Common.{inl, inr, sym, ap, ◌∙◌, subst, get_or, arith}
use Rattle.std.proofs.lemmas.Bool.{cases_Bool, eq-eqb, eqb-true, and_from, or_left, or_right}
use Rattle.std.proofs.lemmas.List.{append_assoc, append-nil, take_more}
use Rattle.language.specs.Members.{◌∈◌}
use Rattle.language.proofs.Members.{either, split_in}
use Rattle.meaning_round.specs.declared.worklist.WakeEvent.{WakeEvent}
use Rattle.meaning_round.specs.declared.worklist.Worklist.{Worklist}
use Rattle.meaning_round.specs.Hearing.{counted, event_key, is_asleep, is_called, is_in, same_event, AreWoken, FallsAsleep}

-- TESTS

both : (a b : Bool) → a && b ≡ true → (a ≡ true) × (b ≡ true)
both true b h = (refl, h)
both false b h = absurd (cc (h))

number_self : (n : ℕ) → nat_eq n n ≡ true
number_self n = eq-eqb n n refl

event_self : (p : ℕ × ℕ × ℕ) → same_event p p ≡ true
event_self p = and_from (nat_eq p.0 p.0 && nat_eq p.1 p.1) (nat_eq p.2 p.2) (and_from (nat_eq p.0 p.0) (nat_eq p.1 p.1) (number_self p.0) (number_self p.1)) (number_self p.2)

event_same : (p q : ℕ × ℕ × ℕ) → same_event p q ≡ true → p ≡ q
event_same p q h =
    let b = both (nat_eq p.0 q.0 && nat_eq p.1 q.1) (nat_eq p.2 q.2) h in
    let c = both (nat_eq p.0 q.0) (nat_eq p.1 q.1) b.0 in
    λ i. (eqb-true p.0 q.0 c.0 i, eqb-true p.1 q.1 c.1 i, eqb-true p.2 q.2 b.1 i)

-- ONE MORE IS CALLED

-- the first so many events are
pub record AreCalled (old new : Worklist) (number : ℕ) (events : List WakeEvent) : Type 0 where
  pub fresh : new.fresh ≡ old.fresh
  pub awake : new.awake.items ≡ old.awake.items
  pub asleep : new.asleep ≡ old.asleep
  pub still : (e : WakeEvent) (k : ℕ) → is_called old e k ≡ true → is_called new e k ≡ true
  pub called : (e : WakeEvent) → e ∈ events → is_called new e number ≡ true

pub none_called : (t : Worklist) (number : ℕ) (es : List WakeEvent) → AreCalled t t number (take 0 es)
none_called t number [] = record { fresh = refl; awake = refl; asleep = refl; still = λ e k c. c; called = λ e i. elim i [ ] }
none_called t number (x ∷ es) = record { fresh = refl; awake = refl; asleep = refl; still = λ e k c. c; called = λ e i. elim i [ ] }

pub next_called : (old mid new : Worklist) (number : ℕ) (es : List WakeEvent) (i : ℕ) (d : WakeEvent) → i < length es
    → ((e : WakeEvent) (k : ℕ) → is_called new e k ≡ (same_event (event_key (get_or es i d)) (event_key e) && nat_eq number k) || is_called mid e k) → new.fresh ≡ mid.fresh → new.awake.items ≡ mid.awake.items → new.asleep ≡ mid.asleep
    → AreCalled old mid number (take i es) → AreCalled old new number (take (i + 1) es)
next_called old mid new number es i d h calls fresh awake asleep a = record {
  fresh = fresh ∙ a.fresh;
  awake = awake ∙ a.awake;
  asleep = asleep ∙ a.asleep;
  still = λ e k c. kept e k (a.still e k c);
  called = λ e m. elim (either (take i es) (get_or es i d ∷ []) (subst (λ (z : List WakeEvent). e ∈ z) (take_more es i d h) m)) [
    | inl j ↦ kept e number (a.called e j)
    | inr j ↦ now e (alone e (get_or es i d) j)
  ];
}
  where
    alone : (e x : WakeEvent) → e ∈ (x ∷ []) → e ≡ x
    alone e x m = elim (split_in m) [ inl q ↦ q | inr j ↦ elim j [ ] ]

    kept : (e : WakeEvent) (k : ℕ) → is_called mid e k ≡ true → is_called new e k ≡ true
    kept e k c = calls e k ∙ or_right (same_event (event_key (get_or es i d)) (event_key e) && nat_eq number k) (is_called mid e k) c

    now : (e : WakeEvent) → e ≡ get_or es i d → is_called new e number ≡ true
    now e q =
        calls e number
        ∙ or_left (same_event (event_key (get_or es i d)) (event_key e) && nat_eq number number) (is_called mid e number)
        (and_from (same_event (event_key (get_or es i d)) (event_key e)) (nat_eq number number)
        (ap (λ (z : WakeEvent). same_event (event_key (get_or es i d)) (event_key z)) q ∙ event_self (event_key (get_or es i d))) (number_self number))

pub all_asleep : (old mid new : Worklist) (number : ℕ) (events : List WakeEvent) → AreCalled old mid number events → new.fresh ≡ mid.fresh → new.awake.items ≡ mid.awake.items → new.called ≡ mid.called
    → ((k : ℕ) → is_asleep new k ≡ cond (nat_eq number k) true (is_asleep mid k)) → FallsAsleep old new number events
all_asleep old mid new number events a fresh awake called asleep = record {
  fresh = fresh ∙ a.fresh;
  awake = awake ∙ a.awake;
  asleep = λ k. asleep k ∙ or_cond (nat_eq number k) (is_asleep mid k) ∙ ap (λ s. nat_eq number k || contains nat_eq s k) a.asleep;
  still = λ e k c. same e k ∙ a.still e k c;
  called = λ e i. same e number ∙ a.called e i;
}
  where
    or_cond : (a b : Bool) → cond a true b ≡ a || b
    or_cond true b = refl
    or_cond false b = refl

    same : (e : WakeEvent) (k : ℕ) → is_called new e k ≡ is_called mid e k
    same e k = ap (λ c. is_in (get same_event c (event_key e)) k) called

-- one more on a list that is there
pub one_more : {S : Type 0} (f : ℕ × ℕ × ℕ → Option (HashSet ℕ S)) (p q : ℕ × ℕ × ℕ) (old new : HashSet ℕ S) (number k : ℕ) (o : Option (HashSet ℕ S)) → f p ≡ Some old
    → o ≡ cond (same_event p q) (Some new) (f q) → contains nat_eq new k ≡ cond (nat_eq number k) true (contains nat_eq old k)
    → is_in o k ≡ (same_event p q && nat_eq number k) || is_in (f q) k
one_more f p q old new number k o there put more = elim (cases_Bool (same_event p q)) [
  | inl same ↦ (
      let here : f q ≡ Some old = subst (λ z. f z ≡ Some old) (event_same p q same) there in
      ap (λ z. is_in z k) (put ∙ ap (λ (b : Bool). cond b (Some new) (f q)) same) ∙ more ∙ or_here (nat_eq number k) (contains nat_eq old k)
      ∙ ap (λ z. nat_eq number k || is_in z k) (sym here) ∙ ap (λ (b : Bool). (b && nat_eq number k) || is_in (f q) k) (sym same)
      )
  | inr other ↦
      ap (λ z. is_in z k) (put ∙ ap (λ (b : Bool). cond b (Some new) (f q)) other) ∙ ap (λ (b : Bool). (b && nat_eq number k) || is_in (f q) k) (sym other)
]
  where
    or_here : (a b : Bool) → cond a true b ≡ a || b
    or_here true b = refl
    or_here false b = refl

-- an empty list where there was none
pub none_more : {S : Type 0} (f : ℕ × ℕ × ℕ → Option (HashSet ℕ S)) (p q : ℕ × ℕ × ℕ) (new : HashSet ℕ S) (k : ℕ) (o : Option (HashSet ℕ S)) → f p ≡ None
    → o ≡ cond (same_event p q) (Some new) (f q) → contains nat_eq new k ≡ false → is_in o k ≡ is_in (f q) k
none_more f p q new k o none put empty = elim (cases_Bool (same_event p q)) [
  | inl same ↦ (
      let here : f q ≡ None = subst (λ z. f z ≡ None) (event_same p q same) none in
      ap (λ z. is_in z k) (put ∙ ap (λ (b : Bool). cond b (Some new) (f q)) same) ∙ empty ∙ ap (λ z. is_in z k) (sym here)
      )
  | inr other ↦ ap (λ z. is_in z k) (put ∙ ap (λ (b : Bool). cond b (Some new) (f q)) other)
]

-- THOSE ARE WOKEN

-- nobody is called at an event
pub nobody_woken : (t : Worklist) (e : WakeEvent) → ((k : ℕ) → is_called t e k ≡ false) → AreWoken t t (e ∷ [])
nobody_woken t e none = record {
  fresh = refl;
  called = refl;
  asleep = λ k s. s;
  quiet = λ d i k s. elim (split_in i) [ inl q ↦ ap (λ (z : WakeEvent). is_called t z k) q ∙ none k | inr j ↦ elim j [ ] ];
  woken = λ k s. inl s;
  awake = λ k i. i;
}

pub those_woken : (old new : Worklist) (e : WakeEvent) → new.fresh ≡ old.fresh → new.called ≡ old.called → ((k : ℕ) → is_asleep new k ≡ true → is_asleep old k ≡ true)
    → ((k : ℕ) → is_asleep new k ≡ true → is_called old e k ≡ false) → ((k : ℕ) → is_asleep old k ≡ true → (is_asleep new k ≡ true) ⊎ (k ∈ new.awake.items))
    → ((k : ℕ) → k ∈ old.awake.items → k ∈ new.awake.items) → AreWoken old new (e ∷ [])
those_woken old new e fresh called fewer others woken still = record {
  fresh = fresh;
  called = called;
  asleep = fewer;
  quiet = λ d i k s. elim (split_in i) [ inl q ↦ ap (λ (z : WakeEvent). is_called old z k) q ∙ others k s | inr j ↦ elim j [ ] ];
  woken = woken;
  awake = still;
}

-- of these some are left to be woken, of those who slept
pub record AreWaking {S T : Type 0} (numbers : HashSet ℕ T) (left : List ℕ) (was now : HashSet ℕ S) (before awake : List ℕ) : Type 0 where
  pub fewer : (k : ℕ) → contains nat_eq now k ≡ true → contains nat_eq was k ≡ true
  pub others : (k : ℕ) → contains nat_eq now k ≡ true → contains nat_eq numbers k ≡ true → list_any (nat_eq k) left ≡ true
  pub woken : (k : ℕ) → contains nat_eq was k ≡ true → (contains nat_eq now k ≡ true) ⊎ (k ∈ awake)
  pub still : (k : ℕ) → k ∈ before → k ∈ awake

pub all_waking : {S T : Type 0} (numbers : HashSet ℕ T) (left : List ℕ) (was : HashSet ℕ S) (awake : List ℕ) → ((k : ℕ) → contains nat_eq numbers k ≡ true → list_any (nat_eq k) left ≡ true) → AreWaking numbers left was was awake awake
all_waking numbers left was awake f = record { fewer = λ k e. e; others = λ k e c. f k c; woken = λ k e. inl e; still = λ k i. i }

pub next_waking : {S T : Type 0} (numbers : HashSet ℕ T) (x : ℕ) (left : List ℕ) (was old new : HashSet ℕ S) (before mid awake : List ℕ) → ((k : ℕ) → contains nat_eq new k ≡ cond (nat_eq x k) false (contains nat_eq old k))
    → (contains nat_eq old x ≡ true → x ∈ awake) → ((k : ℕ) → k ∈ mid → k ∈ awake) → AreWaking numbers (x ∷ left) was old before mid → AreWaking numbers left was new before awake
next_waking numbers x left was old new before mid awake less wakes keeps h = record {
  fewer = λ k e. h.fewer k (stays (nat_eq x k) (contains nat_eq old k) (sym (less k) ∙ e));
  others = λ k e c. past k (other (nat_eq x k) (contains nat_eq old k) (sym (less k) ∙ e)) (h.others k (stays (nat_eq x k) (contains nat_eq old k) (sym (less k) ∙ e)) c);
  woken = λ k e. elim (h.woken k e) [
    | inl s ↦ elim (cases_Bool (nat_eq x k)) [
      | inl same ↦ (let q : x ≡ k = eqb-true x k same in inr (subst (λ (z : ℕ). z ∈ awake) q (wakes (subst (λ (z : ℕ). contains nat_eq old z ≡ true) (sym q) s))))
      | inr differs ↦ inl (less k ∙ ap (λ (b : Bool). cond b false (contains nat_eq old k)) differs ∙ s)
    ]
    | inr i ↦ inr (keeps k i)
  ];
  still = λ k i. keeps k (h.still k i);
}
  where
    stays : (a b : Bool) → cond a false b ≡ true → b ≡ true
    stays true b e = absurd (cc (e))
    stays false b e = e

    other : (a b : Bool) → cond a false b ≡ true → a ≡ false
    other true b e = absurd (cc (e))
    other false b e = refl

    past : (k : ℕ) → nat_eq x k ≡ false → list_any (nat_eq k) (x ∷ left) ≡ true → list_any (nat_eq k) left ≡ true
    past k differs e = elim (cases_Bool (nat_eq k x)) [
      | inl same ↦ (let z : true ≡ false = sym (eq-eqb x k (sym (eqb-true k x same))) ∙ differs in absurd (cc (z)))
      | inr lacks ↦ ap (λ (b : Bool). b || list_any (nat_eq k) left) (sym lacks) ∙ e
    ]

pub none_left : {S T : Type 0} (numbers : HashSet ℕ T) (left : List ℕ) (was now : HashSet ℕ S) (before awake : List ℕ) → left ≡ [] → AreWaking numbers left was now before awake
    → (k : ℕ) → contains nat_eq now k ≡ true → contains nat_eq numbers k ≡ false
none_left numbers left was now before awake e h k s = elim (cases_Bool (contains nat_eq numbers k)) [
  | inr lacks ↦ lacks
  | inl has ↦ (let z : false ≡ true = ap (λ (xs : List ℕ). list_any (nat_eq k) xs) (sym e) ∙ h.others k s has in absurd (cc (z)))
]

-- NUMBERS THAT WERE NOT ASKED

pub counted_next : (xs ys whole : List ℕ) (n count : ℕ) → n < count → ys ≡ xs ++ n ∷ [] → xs ++ counted n (count - n) ≡ whole → ys ++ counted (n + 1) (count - (n + 1)) ≡ whole
counted_next xs ys whole n count below pushed e =
    let left : count - n ≡ suc (count - (n + 1)) = omega (arith, below) in
    let next : suc n ≡ n + 1 = omega arith in
    ap (λ (z : List ℕ). z ++ counted (n + 1) (count - (n + 1))) pushed
    ∙ append_assoc xs (n ∷ []) (counted (n + 1) (count - (n + 1)))
    ∙ ap (λ (m : ℕ). xs ++ n ∷ counted m (count - (n + 1))) (sym next)
    ∙ ap (λ (m : ℕ). xs ++ counted n m) (sym left)
    ∙ e

pub counted_all : (xs whole : List ℕ) (n count : ℕ) → count ≤ n → xs ++ counted n (count - n) ≡ whole → xs ≡ whole
counted_all xs whole n count past e =
    let none : count - n ≡ 0 = omega (arith, past) in
    sym (append-nil xs) ∙ ap (λ (m : ℕ). xs ++ counted n m) (sym none) ∙ e

pub none_of : {X : Type 0} (o : Option X) → is_some o ≡ false → o ≡ None
none_of (Some x) h = absurd (cc (h))
none_of None h = refl
