-- What was learned keeps one fact more.
use Rattle.std.specs.Prelude.{◌≡◌, ◌⊎◌, ℕ, ◌<◌, Bool, true, false, ◌&&◌, ◌||◌, List, [], ◌∷◌, ◌++◌, length, map, nat_eq, is_some, Option, Some, None, if◌then◌else◌, refl}
use Rattle.std.specs.HashSet.{contains}
use Rattle.std.proofs.Common.{rules, inl, inr, sym, ap, ◌∙◌, subst}
use Rattle.std.proofs.lemmas.Bool.{cases_Bool, eqb-true, eq-eqb}
use Rattle.std.proofs.lemmas.Option.{none-some}
use denote.Enum.Bare.{sameb, same_true}
use Rattle.values.specs.declared.fault.OpFault.TheVariants as Op
use Rattle.values.specs.declared.key.Key.{Key}
use Rattle.values.specs.declared.value.Scalar.{Scalar}
use Rattle.values.specs.declared.value.Value.{Value}
use Rattle.values.specs.Keys.{same_key}
use Rattle.values.proofs.Keys.{same_key-eq, same_key-refl}
use Rattle.language.specs.Facts as script
use Rattle.language.specs.Facts.{Fault, operation, no_element, element_twice, too_deep, Knowledge}
use Rattle.language.specs.Members.{◌∈◌, first, later}
use Rattle.language.specs.Places.{Place}
use Rattle.language.proofs.Members.{split_in, to_left, to_right, either}
use Rattle.meaning_steps.specs.Kept.{AreApart}
use Rattle.meaning_steps.specs.Kept.{Write as KeptWrite}
use Rattle.meaning_facts.specs.declared.facts.Fact.{Fact}
use Rattle.meaning_facts.specs.declared.facts.Fact.TheVariants as Is
use Rattle.meaning_facts.specs.declared.facts.FaultFact.{FaultFact}
use Rattle.paths.specs.contracts.faults.FaultKind as kinds
use Rattle.paths.specs.declared.faults.FaultKind.{FaultKind}
use Rattle.paths.specs.declared.faults.FaultKind.TheVariants as Kind
use Rattle.meaning_facts.specs.declared.facts.Facts.{Facts}
use Rattle.meaning_facts.specs.declared.facts.Place.{Place as Spot}
use Rattle.meaning_facts.specs.declared.facts.Write.{Write}
use Rattle.meaning_facts.specs.declared.instances.Instance.{Instance}
use Rattle.meaning_facts.specs.declared.instances.Instances.{Instances}
use Rattle.meaning_facts.specs.declared.fact_base.FactBase.{FactBase}
use Rattle.meaning_facts.specs.Added.{first_of, with_write, IsAdded}
use Rattle.meaning_facts.specs.Growing.{fact_view, IsWithin, With, IsAgreed, KeepsFacts, with_facts}
use Rattle.meaning_facts.specs.Keeping.{by_place, in_instance, fault_at, has_kind, kept_of, kind_of, place_view, write_view, same_fault}
use Rattle.meaning_facts.specs.Kinds.{kind_view}
use Rattle.meaning_facts.specs.Paths.{at_path, IsTree}
use Rattle.meaning_facts.specs.Store.{same_place, value_at, line_at, writes_at, is_written_in}
use Rattle.meaning_facts.proofs.Adding.{same_place-eq}
use Rattle.meaning_facts.proofs.Keeping.{at_path_of, found_there, one_instance}

-- LOOK-UPS

-- an instance at a path of which something holds
pub record At (t : Instances) (q : Place) (P : Spot → Type 0) : Type 0 where
  pub instance : ℕ
  pub found : at_path t q.0 ≡ Some instance
  pub holds : P (record { instance = instance; node = q.1 })

module _ (t : Instances) {X : Type 0} (P : X → Type 0) (x : X) (f : Spot → X) (q : Place) where
  pub looked : (P x → ⊥) → P (by_place t x f q) → At t q (λ p. P (f p))
  looked n h = by (at_path t q.0) refl h
    where
      by : (o : Option ℕ) → at_path t q.0 ≡ o → P (in_instance x f o q.1) → At t q (λ p. P (f p))
      by (Some i) e k = record { instance = i; found = e; holds = k }
      by None e k = absurd (n k)

  pub look : At t q (λ p. P (f p)) → P (by_place t x f q)
  look a = subst (λ (o : Option ℕ). P (in_instance x f o q.1)) (sym a.found) a.holds

-- the place that is found there
pub spot_view : (t : Instances) → IsTree t → (q : Place) (i : ℕ) → at_path t q.0 ≡ Some i → place_view t.all.items (record { instance = i; node = q.1 }) ≡ q
spot_view t h q i e = λ j. ((found_there t h q.0 i e).1 j, q.1)

pub at_view : (t : Instances) → IsTree t → (p : Spot) → p.instance < length t.all.items → at_path t (place_view t.all.items p).0 ≡ Some p.instance
at_view t h p l = at_path_of t h p.instance l

-- ONE VALUE MORE

pub put_value : {X : Type 0} (p q : Spot) (o : Option X) (v w : X) → (if same_place p q then first_of o v else o) ≡ Some w → (o ≡ Some w) ⊎ ((p ≡ q) × (v ≡ w))
put_value p q (Some u) v w h = elim (cases_Bool (same_place p q)) [ inl same ↦ inl (rw same at h) | inr other ↦ inl (rw other at h) ]
put_value p q None v w h = elim (cases_Bool (same_place p q)) [
  | inl same ↦ let e : Some v ≡ Some w = rw same at h in inr (same_place-eq p q same, cc (e))
  | inr other ↦ inl (rw other at h)
]

pub value_stays : {X : Type 0} (p q : Spot) (o : Option X) (v w : X) → o ≡ Some w → (if same_place p q then first_of o v else o) ≡ Some w
value_stays p q o v w e = elim (cases_Bool (same_place p q)) [
  | inl same ↦ rw same (ap (λ z. first_of z v) e)
  | inr other ↦ rw other e
]

pub place_same : (p : Spot) → same_place p p ≡ true
place_same p = rw (eq-eqb p.instance p.instance refl) (rw (eq-eqb p.node p.node refl) refl)

pub value_there : {X : Type 0} (p : Spot) (o : Option X) (v : X) → ((u : X) → o ≡ Some u → u ≡ v) → (if same_place p p then first_of o v else o) ≡ Some v
value_there p (Some u) v f = rw (place_same p) (ap Some (f u refl))
value_there p None v f = rw (place_same p) refl

-- a test of what is there
pub put_some : {X : Type 0} (p q : Spot) (o : Option X) (v : X) → is_some (if same_place p q then first_of o v else o) ≡ true → (is_some o ≡ true) ⊎ (p ≡ q)
put_some p q (Some u) v h = inl refl
put_some p q None v h = elim (cases_Bool (same_place p q)) [ inl same ↦ inr (same_place-eq p q same) | inr other ↦ inl (rw other at h) ]

-- ONE WRITE MORE

pub both : (a b : Bool) → a && b ≡ true → (a ≡ true) × (b ≡ true)
both true b h = (refl, h)
both false b h = absurd (cc (h))

pub or_cases : (a b : Bool) → a || b ≡ true → (a ≡ true) ⊎ (b ≡ true)
or_cases true b h = inl refl
or_cases false b h = inr h

pub or_right : (a : Bool) {b : Bool} → b ≡ true → a || b ≡ true
or_right true h = refl
or_right false h = h

-- the write of a key by a writer
pub record Found (ws : List Write) (k : Key) (p : Spot) : Type 0 where
  pub write : Write
  pub there : write ∈ ws
  pub key_is : write.key ≡ k
  pub writer_is : write.writer ≡ p

pub found_write : (ws : List Write) (k : Key) (p : Spot) → is_written_in ws k p ≡ true → Found ws k p
found_write [] k p h = absurd (cc (h))
found_write (w ∷ ws) k p h = elim (or_cases (same_key w.key k && same_place w.writer p) (is_written_in ws k p) h) [
  | inl e ↦ let b = both (same_key w.key k) (same_place w.writer p) e in record { write = w; there = first; key_is = same_key-eq w.key k b.0; writer_is = same_place-eq w.writer p b.1 }
  | inr e ↦ let r = found_write ws k p e in record { write = r.write; there = later r.there; key_is = r.key_is; writer_is = r.writer_is }
]

pub written_there : (ws : List Write) (w : Write) → w ∈ ws → is_written_in ws w.key w.writer ≡ true
written_there ws w (first {xs = xs}) = rw (same_key-refl w.key) (rw (place_same w.writer) refl)
written_there ws w (later {y = y} {xs = xs} m) = or_right (same_key y.key w.key && same_place y.writer w.writer) (written_there xs w m)

pub from_with : (ws : List Write) (w x : Write) → x ∈ with_write ws w → (x ∈ ws) ⊎ (x ≡ w)
from_with ws w x m = elim (cases_Bool (is_written_in ws w.key w.writer)) [
  | inl old ↦ inl (rw old at m)
  | inr new ↦ elim (either ws (w ∷ []) (rw new at m)) [ inl i ↦ inl i | inr i ↦ elim (split_in i) [ inl q ↦ inr q | inr j ↦ elim j [ ] ] ]
]

pub to_with : (ws : List Write) (w x : Write) → x ∈ ws → x ∈ with_write ws w
to_with ws w x m = elim (cases_Bool (is_written_in ws w.key w.writer)) [
  | inl old ↦ rw old m
  | inr new ↦ rw new (to_left ws (w ∷ []) m)
]

-- the write itself, or one of its key and writer
pub itself : (ws : List Write) (w : Write) → Found (with_write ws w) w.key w.writer
itself ws w = elim (cases_Bool (is_written_in ws w.key w.writer)) [
  | inl old ↦ let r = found_write ws w.key w.writer old in record { write = r.write; there = to_with ws w r.write r.there; key_is = r.key_is; writer_is = r.writer_is }
  | inr new ↦ record { write = w; there = rw new (to_right ws (w ∷ []) first); key_is = refl; writer_is = refl }
]

pub in_views : (ns : List Instance) (ws : List Write) (w : Write) → w ∈ ws → write_view ns w ∈ map (write_view ns) ws
in_views ns ws w (first {xs = xs}) = first
in_views ns ws w (later {xs = xs} m) = later (in_views ns xs w m)

-- a write that is seen
pub record Seen (ns : List Instance) (ws : List Write) (x : KeptWrite) : Type 0 where
  pub write : Write
  pub there : write ∈ ws
  pub is : x ≡ write_view ns write

pub of_views : (ns : List Instance) (ws : List Write) (x : KeptWrite) → x ∈ map (write_view ns) ws → Seen ns ws x
of_views ns [] x m = elim m [ ]
of_views ns (w ∷ ws) x m = elim (split_in m) [
  | inl q ↦ record { write = w; there = first; is = q }
  | inr i ↦ let r = of_views ns ws x i in record { write = r.write; there = later r.there; is = r.is }
]

pub spot_same : (t : Instances) → IsTree t → (p q : Spot) → p.instance < length t.all.items → q.instance < length t.all.items → place_view t.all.items p ≡ place_view t.all.items q → p ≡ q
spot_same t h p q a b e =
    let i : p.instance ≡ q.instance = one_instance t h p.instance q.instance a b (ap (λ (z : Place). z.0) e) in
    let n : p.node ≡ q.node = ap (λ (z : Place). z.1) e in
    λ j. record { instance = i j; node = n j }

pub apart_behind : (t : Instances) → IsTree t → (w : Write) → w.writer.instance < length t.all.items → (us : List Write) → is_written_in us w.key w.writer ≡ false
    → ((x : Write) → x ∈ us → x.writer.instance < length t.all.items) → AreApart (map (write_view t.all.items) us) → AreApart (map (write_view t.all.items) (us ++ w ∷ []))
apart_behind t h w l [] e f b = (λ u i q r. elim i [ ], tt)
apart_behind t h w l (x ∷ us) e f b = (head, apart_behind t h w l us (or_none (same_key x.key w.key && same_place x.writer w.writer) (is_written_in us w.key w.writer) e).1 (λ y i. f y (later i)) b.1)
  where
    or_none : (a c : Bool) → a || c ≡ false → (a ≡ false) × (c ≡ false)
    or_none true c q = absurd (cc (q))
    or_none false c q = (refl, q)

    clash : w.key ≡ x.key → place_view t.all.items w.writer ≡ place_view t.all.items x.writer → ⊥
    clash q r =
        let writer : w.writer ≡ x.writer = spot_same t h w.writer x.writer l (f x first) r in
        let there : is_written_in (x ∷ us) w.key w.writer ≡ true = subst (λ (k : Key). is_written_in (x ∷ us) k w.writer ≡ true) (sym q) (subst (λ (z : Spot). is_written_in (x ∷ us) x.key z ≡ true) (sym writer) (written_there (x ∷ us) x first)) in
        let no_way : false ≡ true = sym e ∙ there in
        absurd (cc (no_way))

    head : (u : KeptWrite) → u ∈ map (write_view t.all.items) (us ++ w ∷ []) → u.key ≡ x.key → u.writer ≡ place_view t.all.items x.writer → ⊥
    head u i q r =
        let s = of_views t.all.items (us ++ w ∷ []) u i in
        elim (either us (w ∷ []) s.there) [
          | inl j ↦ b.0 u (subst (λ (z : KeptWrite). z ∈ map (write_view t.all.items) us) (sym s.is) (in_views t.all.items us s.write j)) q r
          | inr j ↦ elim (split_in j) [
            | inl m ↦
                let is : u ≡ write_view t.all.items w = s.is ∙ ap (write_view t.all.items) m in
                clash (sym (ap (λ (z : KeptWrite). z.key) is) ∙ q) (sym (ap (λ (z : KeptWrite). z.writer) is) ∙ r)
            | inr m ↦ elim m [ ]
          ]
        ]

pub apart_with : (t : Instances) → IsTree t → (ws : List Write) (w : Write) → ((x : Write) → x ∈ ws → x.writer.instance < length t.all.items) → w.writer.instance < length t.all.items
    → AreApart (map (write_view t.all.items) ws) → AreApart (map (write_view t.all.items) (with_write ws w))
apart_with t h ws w f l a = elim (cases_Bool (is_written_in ws w.key w.writer)) [
  | inl old ↦ rw old a
  | inr new ↦ rw new (apart_behind t h w l ws new f a)
]

-- a write more at a place
abbrev pub grown : Spot → Spot → List Write → Write → List Write
grown a q ws w = if same_place a q then with_write ws w else ws

pub from_grown : (a q : Spot) (ws : List Write) (w x : Write) → x ∈ grown a q ws w → (x ∈ ws) ⊎ ((a ≡ q) × (x ≡ w))
from_grown a q ws w x m = elim (cases_Bool (same_place a q)) [
  | inl same ↦ elim (from_with ws w x (rw same at m)) [ inl i ↦ inl i | inr e ↦ inr (same_place-eq a q same, e) ]
  | inr other ↦ inl (rw other at m)
]

pub to_grown : (a q : Spot) (ws : List Write) (w x : Write) → x ∈ ws → x ∈ grown a q ws w
to_grown a q ws w x m = elim (cases_Bool (same_place a q)) [
  | inl same ↦ rw same (to_with ws w x m)
  | inr other ↦ rw other m
]

pub grown_itself : (a : Spot) (ws : List Write) (w : Write) → Found (grown a a ws w) w.key w.writer
grown_itself a ws w = rw (place_same a) (itself ws w)

-- FAULTS

-- the kind of a fault that is known
pub record KnownKind (k : Facts) (f : Fault) (at : ℕ) (p : Spot) : Type 0 where
  pub kind : FaultKind
  pub is : kind_of f ≡ Some kind
  pub known : contains same_fault k.faults (record { kind = kind; at = at; place = p }) ≡ true

pub has_known : (k : Facts) (f : Fault) (at : ℕ) (p : Spot) → fault_at k f at p ≡ true → KnownKind k f at p
has_known k f at p h = by (kind_of f) refl h
  where
    by : (o : Option FaultKind) → kind_of f ≡ o → has_kind k o at p ≡ true → KnownKind k f at p
    by (Some kind) e q = record { kind = kind; is = e; known = q }
    by None e q = absurd (cc (q))

pub fault_eq : (f g : FaultFact) → same_fault f g ≡ true → f ≡ g
fault_eq f g e =
    let b = both (sameb kinds.the_type f.kind g.kind) (nat_eq f.at g.at && same_place f.place g.place) e in
    let d = both (nat_eq f.at g.at) (same_place f.place g.place) b.1 in
    let kind : f.kind ≡ g.kind = same_true kinds.the_type (search rules) f.kind g.kind b.0 in
    λ i. record { kind = kind i; at = eqb-true f.at g.at d.0 i; place = same_place-eq f.place g.place d.1 i }

pub kind_back : (f : Fault) (kind : FaultKind) → kind_of f ≡ Some kind → kind_view kind ≡ f
kind_back (operation Op.Overflow) kind e = let q : Kind.Overflow ≡ kind = cc (e) in ap kind_view (sym q)
kind_back (operation Op.DivideByZero) kind e = let q : Kind.DivideByZero ≡ kind = cc (e) in ap kind_view (sym q)
kind_back (operation Op.BadStep) kind e = let q : Kind.BadStep ≡ kind = cc (e) in ap kind_view (sym q)
kind_back (operation Op.NotANumber) kind e = let q : Kind.NotANumber ≡ kind = cc (e) in ap kind_view (sym q)
kind_back (operation Op.AssertFailed) kind e = let q : Kind.AssertFailed ≡ kind = cc (e) in ap kind_view (sym q)
kind_back (operation Op.Memory) kind e = absurd (cc (e))
kind_back no_element kind e = let q : Kind.NoElement ≡ kind = cc (e) in ap kind_view (sym q)
kind_back element_twice kind e = let q : Kind.ElementTwice ≡ kind = cc (e) in ap kind_view (sym q)
kind_back too_deep kind e = let q : Kind.TooDeep ≡ kind = cc (e) in ap kind_view (sym q)

-- WHAT IS UNCHANGED

pub in_same : {X : Type 0} (x : X) (f g : Spot → X) → ((p : Spot) → f p ≡ g p) → (o : Option ℕ) (n : ℕ) → in_instance x f o n ≡ in_instance x g o n
in_same x f g e (Some i) n = e (record { instance = i; node = n })
in_same x f g e None n = refl

pub same_by : (t : Instances) {X : Type 0} (x : X) (f g : Spot → X) → ((p : Spot) → f p ≡ g p) → (q : Place) → by_place t x f q ≡ by_place t x g q
same_by t x f g e q = in_same x f g e (at_path t q.0) q.1

pub false_true : false ≡ true → ⊥
false_true e = absurd (cc (e))

module _ (l : FactBase) (k : Facts) where
  pub same_value : ((p : Spot) → value_at k p ≡ value_at l.facts p) → (q : Place) → (kept_of (with_facts l k)).value q ≡ (kept_of l).value q
  same_value e q = same_by l.instances None (value_at k) (value_at l.facts) e q

  pub same_writes : ((p : Spot) → writes_at k p ≡ writes_at l.facts p) → (q : Place) → (kept_of (with_facts l k)).writes q ≡ (kept_of l).writes q
  same_writes e q = same_by l.instances [] (λ p. map (write_view l.instances.all.items) (writes_at k p)) (λ p. map (write_view l.instances.all.items) (writes_at l.facts p)) (λ p. ap (map (write_view l.instances.all.items)) (e p)) q

  pub same_written : ((p : Spot) → writes_at k p ≡ writes_at l.facts p) → (a : Place) (key : Key) (w : Place) → (kept_of (with_facts l k)).written a key w ≡ (kept_of l).written a key w
  same_written e a key w =
      same_by l.instances false (λ p. by_place l.instances false (is_written_in (writes_at k p) key) w) (λ p. by_place l.instances false (is_written_in (writes_at l.facts p) key) w)
      (λ p. ap (λ (z : List Write). by_place l.instances false (is_written_in z key) w) (e p)) a

  pub same_lined : ((p : Spot) → line_at k p ≡ line_at l.facts p) → (q : Place) → (kept_of (with_facts l k)).lined q ≡ (kept_of l).lined q
  same_lined e q = same_by l.instances false (λ p. is_some (line_at k p)) (λ p. is_some (line_at l.facts p)) (λ p. ap is_some (e p)) q

  pub same_faulted : ((g : FaultFact) → contains same_fault k.faults g ≡ contains same_fault l.facts.faults g) → (f : Fault) (at : ℕ) (q : Place) → (kept_of (with_facts l k)).faulted f at q ≡ (kept_of l).faulted f at q
  same_faulted e f at q = same_by l.instances false (fault_at k f at) (fault_at l.facts f at) (λ p. by (kind_of f) p) q
    where
      by : (o : Option FaultKind) (p : Spot) → has_kind k o at p ≡ has_kind l.facts o at p
      by (Some kind) p = e (record { kind = kind; at = at; place = p })
      by None p = refl

-- ONE FACT MORE

module _ (K : Knowledge) (l : FactBase) (k : Facts) (h : IsTree l.instances) (c : KeepsFacts K l) where
  pub value_more : (p : Spot) (v : Value) → p.instance < length l.instances.all.items → IsAdded l.facts (Is.Value p v) k
      → IsAgreed (With K (script.value (place_view l.instances.all.items p) v)) → KeepsFacts (With K (script.value (place_view l.instances.all.items p) v)) (with_facts l k)
  value_more p v b a g = record {
    value_so = so;
    value_all = all;
    write_so = λ q w i. inl (c.write_so q w (subst (λ (z : List KeptWrite). w ∈ z) (same_writes l k a.writes q) i));
    write_all = λ q key w u x. elim x [ inl y ↦ subst (λ (z : List KeptWrite). record { key = key; writer = w; value = u } ∈ z) (sym (same_writes l k a.writes q)) (c.write_all q key w u y) | inr e ↦ absurd (cc (e)) ];
    write_once = λ q. subst AreApart (sym (same_writes l k a.writes q)) (c.write_once q);
    written_so = λ q key w e. (let r = c.written_so q key w (sym (same_written l k a.writes q key w) ∙ e) in (r.0, inl r.1));
    written_all = λ q key w u x. elim x [ inl y ↦ same_written l k a.writes q key w ∙ c.written_all q key w u y | inr e ↦ absurd (cc (e)) ];
    lined_so = λ q e. (let r = c.lined_so q (sym (same_lined l k a.lines q) ∙ e) in (r.0, inl r.1));
    faulted_so = λ f at q e. inl (c.faulted_so f at q (sym (same_faulted l k a.faults f at q) ∙ e));
    writers = λ q w i. c.writers q w (subst (λ (z : List Write). w ∈ z) (a.writes q) i);
  }
    where
      so : (q : Place) (u : Value) → (kept_of (with_facts l k)).value q ≡ Some u → With K (script.value (place_view l.instances.all.items p) v) (script.value q u)
      so q u e =
          let s = looked l.instances (λ (o : Option Value). o ≡ Some u) None (value_at k) q (none-some u) e in
          elim (put_value p (record { instance = s.instance; node = q.1 }) (value_at l.facts (record { instance = s.instance; node = q.1 })) v u (sym (a.values (record { instance = s.instance; node = q.1 })) ∙ s.holds)) [
            | inl old ↦ inl (c.value_so q u (look l.instances (λ (o : Option Value). o ≡ Some u) None (value_at l.facts) q (record { instance = s.instance; found = s.found; holds = old })))
            | inr new ↦
                let place_is : place_view l.instances.all.items p ≡ q = ap (place_view l.instances.all.items) new.0 ∙ spot_view l.instances h q s.instance s.found in
                inr (λ i. script.value (sym place_is i) (sym new.1 i))
          ]

      new_there : (kept_of (with_facts l k)).value (place_view l.instances.all.items p) ≡ Some v
      new_there = look l.instances (λ (o : Option Value). o ≡ Some v) None (value_at k) (place_view l.instances.all.items p) (record {
        instance = p.instance;
        found = at_view l.instances h p b;
        holds = a.values p ∙ value_there p (value_at l.facts p) v (λ u e. g.values (place_view l.instances.all.items p) u v
            (inl (c.value_so (place_view l.instances.all.items p) u (look l.instances (λ (o : Option Value). o ≡ Some u) None (value_at l.facts) (place_view l.instances.all.items p) (record { instance = p.instance; found = at_view l.instances h p b; holds = e }))))
            (inr refl));
      })

      all : (q : Place) (u : Value) → With K (script.value (place_view l.instances.all.items p) v) (script.value q u) → (kept_of (with_facts l k)).value q ≡ Some u
      all q u (inl y) =
          let s = looked l.instances (λ (o : Option Value). o ≡ Some u) None (value_at l.facts) q (none-some u) (c.value_all q u y) in
          look l.instances (λ (o : Option Value). o ≡ Some u) None (value_at k) q (record {
            instance = s.instance;
            found = s.found;
            holds = a.values (record { instance = s.instance; node = q.1 }) ∙ value_stays p (record { instance = s.instance; node = q.1 }) (value_at l.facts (record { instance = s.instance; node = q.1 })) v u s.holds;
          })
      all q u (inr e) =
          let place_is : q ≡ place_view l.instances.all.items p = cc (e) in
          let value_is : u ≡ v = cc (e) in
          ap (kept_of (with_facts l k)).value place_is ∙ new_there ∙ ap Some (sym value_is)

  pub line_more : (p : Spot) (bytes : List ℕ) → p.instance < length l.instances.all.items → IsAdded l.facts (Is.Line p bytes) k
      → KeepsFacts (With K (script.line (place_view l.instances.all.items p) bytes)) (with_facts l k)
  line_more p bytes b a = record {
    value_so = λ q u e. inl (c.value_so q u (sym (same_value l k a.values q) ∙ e));
    value_all = λ q u x. elim x [ inl y ↦ same_value l k a.values q ∙ c.value_all q u y | inr e ↦ absurd (cc (e)) ];
    write_so = λ q w i. inl (c.write_so q w (subst (λ (z : List KeptWrite). w ∈ z) (same_writes l k a.writes q) i));
    write_all = λ q key w u x. elim x [ inl y ↦ subst (λ (z : List KeptWrite). record { key = key; writer = w; value = u } ∈ z) (sym (same_writes l k a.writes q)) (c.write_all q key w u y) | inr e ↦ absurd (cc (e)) ];
    write_once = λ q. subst AreApart (sym (same_writes l k a.writes q)) (c.write_once q);
    written_so = λ q key w e. (let r = c.written_so q key w (sym (same_written l k a.writes q key w) ∙ e) in (r.0, inl r.1));
    written_all = λ q key w u x. elim x [ inl y ↦ same_written l k a.writes q key w ∙ c.written_all q key w u y | inr e ↦ absurd (cc (e)) ];
    lined_so = so;
    faulted_so = λ f at q e. inl (c.faulted_so f at q (sym (same_faulted l k a.faults f at q) ∙ e));
    writers = λ q w i. c.writers q w (subst (λ (z : List Write). w ∈ z) (a.writes q) i);
  }
    where
      so : (q : Place) → (kept_of (with_facts l k)).lined q ≡ true → (bits : List ℕ) × With K (script.line (place_view l.instances.all.items p) bytes) (script.line q bits)
      so q e =
          let s = looked l.instances (λ (o : Bool). o ≡ true) false (λ x. is_some (line_at k x)) q false_true e in
          elim (put_some p (record { instance = s.instance; node = q.1 }) (line_at l.facts (record { instance = s.instance; node = q.1 })) bytes (sym (ap is_some (a.lines (record { instance = s.instance; node = q.1 }))) ∙ s.holds)) [
            | inl old ↦
                let r = c.lined_so q (look l.instances (λ (o : Bool). o ≡ true) false (λ x. is_some (line_at l.facts x)) q (record { instance = s.instance; found = s.found; holds = old })) in
                (r.0, inl r.1)
            | inr new ↦
                let place_is : place_view l.instances.all.items p ≡ q = ap (place_view l.instances.all.items) new ∙ spot_view l.instances h q s.instance s.found in
                (bytes, inr (ap (λ (z : Place). script.line z bytes) (sym place_is)))
          ]

  pub fault_more : (g : FaultFact) → g.place.instance < length l.instances.all.items → IsAdded l.facts (Is.Fault g) k
      → KeepsFacts (With K (script.fault (kind_view g.kind) g.at (place_view l.instances.all.items g.place))) (with_facts l k)
  fault_more g b a = record {
    value_so = λ q u e. inl (c.value_so q u (sym (same_value l k a.values q) ∙ e));
    value_all = λ q u x. elim x [ inl y ↦ same_value l k a.values q ∙ c.value_all q u y | inr e ↦ absurd (cc (e)) ];
    write_so = λ q w i. inl (c.write_so q w (subst (λ (z : List KeptWrite). w ∈ z) (same_writes l k a.writes q) i));
    write_all = λ q key w u x. elim x [ inl y ↦ subst (λ (z : List KeptWrite). record { key = key; writer = w; value = u } ∈ z) (sym (same_writes l k a.writes q)) (c.write_all q key w u y) | inr e ↦ absurd (cc (e)) ];
    write_once = λ q. subst AreApart (sym (same_writes l k a.writes q)) (c.write_once q);
    written_so = λ q key w e. (let r = c.written_so q key w (sym (same_written l k a.writes q key w) ∙ e) in (r.0, inl r.1));
    written_all = λ q key w u x. elim x [ inl y ↦ same_written l k a.writes q key w ∙ c.written_all q key w u y | inr e ↦ absurd (cc (e)) ];
    lined_so = λ q e. (let r = c.lined_so q (sym (same_lined l k a.lines q) ∙ e) in (r.0, inl r.1));
    faulted_so = so;
    writers = λ q w i. c.writers q w (subst (λ (z : List Write). w ∈ z) (a.writes q) i);
  }
    where
      so : (f : Fault) (at : ℕ) (q : Place) → (kept_of (with_facts l k)).faulted f at q ≡ true → With K (script.fault (kind_view g.kind) g.at (place_view l.instances.all.items g.place)) (script.fault f at q)
      so f at q e =
          let s = looked l.instances (λ (o : Bool). o ≡ true) false (fault_at k f at) q false_true e in
          let r = has_known k f at (record { instance = s.instance; node = q.1 }) s.holds in
          elim (cases_Bool (same_fault g (record { kind = r.kind; at = at; place = record { instance = s.instance; node = q.1 } }))) [
            | inl same ↦
                let is : g ≡ record { kind = r.kind; at = at; place = record { instance = s.instance; node = q.1 } } = fault_eq g (record { kind = r.kind; at = at; place = record { instance = s.instance; node = q.1 } }) same in
                let view : script.fault (kind_view g.kind) g.at (place_view l.instances.all.items g.place) ≡ script.fault (kind_view r.kind) at (place_view l.instances.all.items (record { instance = s.instance; node = q.1 })) =
                ap (λ (z : FaultFact). script.fault (kind_view z.kind) z.at (place_view l.instances.all.items z.place)) is in
                inr (sym (view ∙ (λ i. script.fault (kind_back f r.kind r.is i) at (spot_view l.instances h q s.instance s.found i))))
            | inr other ↦
                let before : contains same_fault l.facts.faults (record { kind = r.kind; at = at; place = record { instance = s.instance; node = q.1 } }) ≡ true =
                sym (a.faults (record { kind = r.kind; at = at; place = record { instance = s.instance; node = q.1 } }) ∙ ap (λ (z : Bool). if z then true else contains same_fault l.facts.faults (record { kind = r.kind; at = at; place = record { instance = s.instance; node = q.1 } })) other) ∙ r.known in
                inl (c.faulted_so f at q (look l.instances (λ (o : Bool). o ≡ true) false (fault_at l.facts f at) q (record {
                  instance = s.instance;
                  found = s.found;
                  holds = ap (λ (z : Option FaultKind). has_kind l.facts z at (record { instance = s.instance; node = q.1 })) r.is ∙ before;
                })))
          ]

  -- ONE WRITE MORE

  module _ (a : Spot) (w : Write) (b : a.instance < length l.instances.all.items) (d : w.writer.instance < length l.instances.all.items) (added : IsAdded l.facts (Is.Element a w) k)
      (g : IsAgreed (With K (script.element (place_view l.instances.all.items a) w.key (place_view l.instances.all.items w.writer) w.value))) where
    abbrev pub Now : script.Fact → Type 0
    Now f = With K (script.element (place_view l.instances.all.items a) w.key (place_view l.instances.all.items w.writer) w.value) f

    abbrev pub views : List Write → List KeptWrite
    views ws = map (write_view l.instances.all.items) ws

    pub element_so : (q : Place) (x : KeptWrite) → x ∈ (kept_of (with_facts l k)).writes q → Now (script.element q x.key x.writer x.value)
    element_so q x i =
        let s = looked l.instances (λ (ws : List KeptWrite). x ∈ ws) [] (λ p. views (writes_at k p)) q (λ j. elim j [ ]) i in
        let r = of_views l.instances.all.items (grown a (record { instance = s.instance; node = q.1 }) (writes_at l.facts (record { instance = s.instance; node = q.1 })) w) x
        (subst (λ (z : List Write). x ∈ views z) (added.writes (record { instance = s.instance; node = q.1 })) s.holds) in
        elim (from_grown a (record { instance = s.instance; node = q.1 }) (writes_at l.facts (record { instance = s.instance; node = q.1 })) w r.write r.there) [
          | inl old ↦
              inl (c.write_so q x (look l.instances (λ (ws : List KeptWrite). x ∈ ws) [] (λ z. views (writes_at l.facts z)) q (record {
                instance = s.instance;
                found = s.found;
                holds = subst (λ (z : KeptWrite). z ∈ views (writes_at l.facts (record { instance = s.instance; node = q.1 }))) (sym r.is) (in_views l.instances.all.items (writes_at l.facts (record { instance = s.instance; node = q.1 })) r.write old);
              })))
          | inr new ↦
              let place_is : place_view l.instances.all.items a ≡ q = ap (place_view l.instances.all.items) new.0 ∙ spot_view l.instances h q s.instance s.found in
              let write_is : x ≡ write_view l.instances.all.items w = r.is ∙ ap (write_view l.instances.all.items) new.1 in
              inr (λ i. script.element (sym place_is i) (write_is i).key (write_is i).writer (write_is i).value)
        ]

    pub found_now : Found (grown a a (writes_at l.facts a) w) w.key w.writer
    found_now = grown_itself a (writes_at l.facts a) w

    pub view_now : write_view l.instances.all.items found_now.write ∈ (kept_of (with_facts l k)).writes (place_view l.instances.all.items a)
    view_now =
        look l.instances (λ (ws : List KeptWrite). write_view l.instances.all.items found_now.write ∈ ws) [] (λ p. views (writes_at k p)) (place_view l.instances.all.items a) (record {
          instance = a.instance;
          found = at_view l.instances h a b;
          holds = subst (λ (z : List Write). write_view l.instances.all.items found_now.write ∈ views z) (sym (added.writes a)) (in_views l.instances.all.items (grown a a (writes_at l.facts a) w) found_now.write found_now.there);
        })

    pub value_now : found_now.write.value ≡ w.value
    value_now =
        g.writes (place_view l.instances.all.items a) w.key (place_view l.instances.all.items w.writer) found_now.write.value w.value
        (subst (λ (z : Key). Now (script.element (place_view l.instances.all.items a) z (place_view l.instances.all.items w.writer) found_now.write.value)) found_now.key_is
        (subst (λ (z : Spot). Now (script.element (place_view l.instances.all.items a) found_now.write.key (place_view l.instances.all.items z) found_now.write.value)) found_now.writer_is
        (element_so (place_view l.instances.all.items a) (write_view l.instances.all.items found_now.write) view_now)))
        (inr refl)

    pub same_now : write_view l.instances.all.items found_now.write ≡ write_view l.instances.all.items w
    same_now = λ i. record { key = found_now.key_is i; writer = place_view l.instances.all.items (found_now.writer_is i); value = value_now i }

    pub element_all : (q : Place) (key : Key) (u : Place) (v : Scalar) → Now (script.element q key u v) → record { key = key; writer = u; value = v } ∈ (kept_of (with_facts l k)).writes q
    element_all q key u v (inl y) =
        let s = looked l.instances (λ (ws : List KeptWrite). record { key = key; writer = u; value = v } ∈ ws) [] (λ p. views (writes_at l.facts p)) q (λ j. elim j [ ]) (c.write_all q key u v y) in
        let r = of_views l.instances.all.items (writes_at l.facts (record { instance = s.instance; node = q.1 })) (record { key = key; writer = u; value = v }) s.holds in
        look l.instances (λ (ws : List KeptWrite). record { key = key; writer = u; value = v } ∈ ws) [] (λ p. views (writes_at k p)) q (record {
          instance = s.instance;
          found = s.found;
          holds = subst (λ (z : List Write). record { key = key; writer = u; value = v } ∈ views z) (sym (added.writes (record { instance = s.instance; node = q.1 })))
              (subst (λ (z : KeptWrite). z ∈ views (grown a (record { instance = s.instance; node = q.1 }) (writes_at l.facts (record { instance = s.instance; node = q.1 })) w)) (sym r.is)
              (in_views l.instances.all.items (grown a (record { instance = s.instance; node = q.1 }) (writes_at l.facts (record { instance = s.instance; node = q.1 })) w) r.write
              (to_grown a (record { instance = s.instance; node = q.1 }) (writes_at l.facts (record { instance = s.instance; node = q.1 })) w r.write r.there)));
        })
    element_all q key u v (inr e) =
        let place_is : q ≡ place_view l.instances.all.items a = cc (e) in
        let key_is : key ≡ w.key = cc (e) in
        let writer_is : u ≡ place_view l.instances.all.items w.writer = cc (e) in
        let value_is : v ≡ w.value = cc (e) in
        subst (λ (z : Place). record { key = key; writer = u; value = v } ∈ (kept_of (with_facts l k)).writes z) (sym place_is)
        (subst (λ (z : KeptWrite). z ∈ (kept_of (with_facts l k)).writes (place_view l.instances.all.items a)) (same_now ∙ sym (λ i. record { key = key_is i; writer = writer_is i; value = value_is i })) view_now)

    pub element_once : (q : Place) → AreApart ((kept_of (with_facts l k)).writes q)
    element_once q = by (at_path l.instances q.0) (c.write_once q)
      where
        by : (o : Option ℕ) → AreApart (in_instance [] (λ p. map (write_view l.instances.all.items) (writes_at l.facts p)) o q.1) → AreApart (in_instance [] (λ p. map (write_view l.instances.all.items) (writes_at k p)) o q.1)
        by None f = tt
        by (Some i) f =
            subst (λ (z : List Write). AreApart (map (write_view l.instances.all.items) z)) (sym (added.writes (record { instance = i; node = q.1 })))
            (elim (cases_Bool (same_place a (record { instance = i; node = q.1 }))) [
              | inl same ↦ rw same (apart_with l.instances h (writes_at l.facts (record { instance = i; node = q.1 })) w (c.writers (record { instance = i; node = q.1 })) d f)
              | inr other ↦ rw other f
            ])

    pub writer_within : (q : Spot) (x : Write) → x ∈ writes_at k q → x.writer.instance < length l.instances.all.items
    writer_within q x i = elim (from_grown a q (writes_at l.facts q) w x (subst (λ (z : List Write). x ∈ z) (added.writes q) i)) [
      | inl old ↦ c.writers q x old
      | inr new ↦ subst (λ (z : Write). z.writer.instance < length l.instances.all.items) (sym new.1) d
    ]

    pub writer_so : (q : Place) (key : Key) (u : Place) → (kept_of (with_facts l k)).written q key u ≡ true → (v : Scalar) × Now (script.element q key u v)
    writer_so q key u e =
        let s = looked l.instances (λ (o : Bool). o ≡ true) false (λ p. by_place l.instances false (is_written_in (writes_at k p) key) u) q false_true e in
        let r = looked l.instances (λ (o : Bool). o ≡ true) false (is_written_in (writes_at k (record { instance = s.instance; node = q.1 })) key) u false_true s.holds in
        let f = found_write (writes_at k (record { instance = s.instance; node = q.1 })) key (record { instance = r.instance; node = u.1 }) r.holds in
        let there = look l.instances (λ (ws : List KeptWrite). write_view l.instances.all.items f.write ∈ ws) [] (λ p. views (writes_at k p)) q
        (record { instance = s.instance; found = s.found; holds = in_views l.instances.all.items (writes_at k (record { instance = s.instance; node = q.1 })) f.write f.there }) in
        let writer_is : place_view l.instances.all.items f.write.writer ≡ u = ap (place_view l.instances.all.items) f.writer_is ∙ spot_view l.instances h u r.instance r.found in (
          f.write.value,
          subst (λ (z : Key). Now (script.element q z u f.write.value)) f.key_is (subst (λ (z : Place). Now (script.element q f.write.key z f.write.value)) writer_is (element_so q (write_view l.instances.all.items f.write) there)),
        )

    pub writer_all : (q : Place) (key : Key) (u : Place) (v : Scalar) → Now (script.element q key u v) → (kept_of (with_facts l k)).written q key u ≡ true
    writer_all q key u v x =
        let s = looked l.instances (λ (ws : List KeptWrite). record { key = key; writer = u; value = v } ∈ ws) [] (λ p. views (writes_at k p)) q (λ j. elim j [ ]) (element_all q key u v x) in
        let r = of_views l.instances.all.items (writes_at k (record { instance = s.instance; node = q.1 })) (record { key = key; writer = u; value = v }) s.holds in
        let key_is : key ≡ r.write.key = ap (λ (z : KeptWrite). z.key) r.is in
        let writer_is : u ≡ place_view l.instances.all.items r.write.writer = ap (λ (z : KeptWrite). z.writer) r.is in
        let inside = look l.instances (λ (o : Bool). o ≡ true) false (is_written_in (writes_at k (record { instance = s.instance; node = q.1 })) r.write.key) (place_view l.instances.all.items r.write.writer) (record {
          instance = r.write.writer.instance;
          found = at_view l.instances h r.write.writer (writer_within (record { instance = s.instance; node = q.1 }) r.write r.there);
          holds = written_there (writes_at k (record { instance = s.instance; node = q.1 })) r.write r.there;
        }) in
        look l.instances (λ (o : Bool). o ≡ true) false (λ p. by_place l.instances false (is_written_in (writes_at k p) key) u) q (record {
          instance = s.instance;
          found = s.found;
          holds = subst (λ (z : Key). by_place l.instances false (is_written_in (writes_at k (record { instance = s.instance; node = q.1 })) z) u ≡ true) (sym key_is)
              (subst (λ (z : Place). by_place l.instances false (is_written_in (writes_at k (record { instance = s.instance; node = q.1 })) r.write.key) z ≡ true) (sym writer_is) inside);
        })

    pub write_more : KeepsFacts (With K (script.element (place_view l.instances.all.items a) w.key (place_view l.instances.all.items w.writer) w.value)) (with_facts l k)
    write_more = record {
      value_so = λ q u e. inl (c.value_so q u (sym (same_value l k added.values q) ∙ e));
      value_all = λ q u x. elim x [ inl y ↦ same_value l k added.values q ∙ c.value_all q u y | inr e ↦ absurd (cc (e)) ];
      write_so = element_so;
      write_all = element_all;
      write_once = element_once;
      written_so = writer_so;
      written_all = writer_all;
      lined_so = λ q e. (let r = c.lined_so q (sym (same_lined l k added.lines q) ∙ e) in (r.0, inl r.1));
      faulted_so = λ f at q e. inl (c.faulted_so f at q (sym (same_faulted l k added.faults f at q) ∙ e));
      writers = writer_within;
    }

  pub fact_more : (f : Fact) → IsAdded l.facts f k → IsWithin l.instances.all.items f → IsAgreed (With K (fact_view l.instances.all.items f)) → KeepsFacts (With K (fact_view l.instances.all.items f)) (with_facts l k)
  fact_more (Is.Value p v) a b g = value_more p v b a g
  fact_more (Is.Element p w) a b g = write_more p w b.0 b.1 a g
  fact_more (Is.Line p t) a b g = line_more p t b a
  fact_more (Is.Fault f) a b g = fault_more f b a
