-- Writes under a key.
use Rattle.std.specs.Prelude.{◌≡◌, Bool, true, false, List, [], ◌∷◌, map, if◌then◌else◌, refl}
use Rattle.std.proofs.Common.{inl, inr, sym, ap, ◌∙◌}
use Rattle.std.proofs.lemmas.Bool.{false_from_ne_true}
use Rattle.values.specs.declared.key.Key.{Key}
use Rattle.values.specs.declared.map.Element.{Element}
use Rattle.values.specs.declared.value.Scalar.{Scalar}
use Rattle.values.specs.Keys.{same_key}
use Rattle.values.proofs.Keys.{same_key-refl, same_key-eq}
use Rattle.language.specs.Members.{◌∈◌, first, later}
use Rattle.language.proofs.Members.{split_in}
use Rattle.meaning_steps.specs.Kept.{Write, AreApart, values_under, element_of, some_in, several_in}

true_false : true ≡ false → ⊥
true_false h = absurd (cc (h))

pub in_map : {w : Write} (ws : List Write) → w ∈ ws → element_of w ∈ map element_of ws
in_map [] m = elim m [ ]
in_map (x ∷ ws) first = first
in_map (x ∷ ws) (later m) = later (in_map ws m)

pub of_map : {e : Element} (ws : List Write) → e ∈ map element_of ws → (w : Write) × (w ∈ ws) × (e ≡ element_of w)
of_map [] m = elim m [ ]
of_map (x ∷ ws) m = elim (split_in m) [ inl e ↦ (x, first, e) | inr j ↦ (let r = of_map ws j in (r.0, later r.1, r.2)) ]

head_under : (w : Write) (ws : List Write) (k : Key) → same_key w.key k ≡ true → values_under (w ∷ ws) k ≡ w.value ∷ values_under ws k
head_under w ws k h = ap (λ (b : Bool). if b then w.value ∷ values_under ws k else values_under ws k) h

tail_under : (w : Write) (ws : List Write) (k : Key) → same_key w.key k ≡ false → values_under (w ∷ ws) k ≡ values_under ws k
tail_under w ws k h = ap (λ (b : Bool). if b then w.value ∷ values_under ws k else values_under ws k) h

-- a write of another key is none of this one
other_key : (w u : Write) (k : Key) → same_key w.key k ≡ false → u.key ≡ k → u ≡ w → ⊥
other_key w u k h e q = true_false (sym (ap (λ (z : Key). same_key z k) (ap (λ (z : Write). z.key) (sym q) ∙ e) ∙ same_key-refl k) ∙ h)

-- a writer of a key other than the first stands behind it
behind : (w u : Write) (ws : List Write) (k : Key) → same_key w.key k ≡ false → u.key ≡ k → u ∈ (w ∷ ws) → u ∈ ws
behind w u ws k h e m = elim (split_in m) [ inl q ↦ absurd (other_key w u k h e q) | inr r ↦ r ]

pub some_all : (ws : List Write) (k : Key) (u : Write) → u ∈ ws → u.key ≡ k → some_in (values_under ws k) ≡ true
some_all [] k u m e = elim m [ ]
some_all (w ∷ ws) k u m e = by (same_key w.key k) refl (λ r. some_all ws k u r e)
  where
    by : (b : Bool) → same_key w.key k ≡ b → (u ∈ ws → some_in (values_under ws k) ≡ true) → some_in (values_under (w ∷ ws) k) ≡ true
    by true h rec = ap some_in (head_under w ws k h)
    by false h rec = ap some_in (tail_under w ws k h) ∙ rec (behind w u ws k h e m)

pub some_so : (ws : List Write) (k : Key) → some_in (values_under ws k) ≡ true → (u : Write) × (u ∈ ws) × (u.key ≡ k)
some_so [] k h = absurd (true_false (sym h))
some_so (w ∷ ws) k h = by (same_key w.key k) refl (λ r. some_so ws k r)
  where
    by : (b : Bool) → same_key w.key k ≡ b → (some_in (values_under ws k) ≡ true → (u : Write) × (u ∈ ws) × (u.key ≡ k)) → (u : Write) × (u ∈ (w ∷ ws)) × (u.key ≡ k)
    by true e rec = (w, first, same_key-eq w.key k e)
    by false e rec = let r = rec (sym (ap some_in (tail_under w ws k e)) ∙ h) in (r.0, later r.1, r.2)

pub none_so : (ws : List Write) (k : Key) → values_under ws k ≡ [] → (u : Write) → u ∈ ws → u.key ≡ k → ⊥
none_so ws k h u m e = true_false (sym (some_all ws k u m e) ∙ ap some_in h)

nothing : (vs : List Scalar) → some_in vs ≡ false → vs ≡ []
nothing [] h = refl
nothing (v ∷ vs) h = absurd (true_false h)

pub none_all : (ws : List Write) (k : Key) → ((u : Write) → u ∈ ws → u.key ≡ k → ⊥) → values_under ws k ≡ []
none_all ws k h = nothing (values_under ws k) (false_from_ne_true (some_in (values_under ws k)) (λ e. (let r = some_so ws k e in h r.0 r.1 r.2)))

-- the one write of a key
pub record OneOf (ws : List Write) (k : Key) (v : Scalar) : Type 0 where
  pub is : Write
  pub there : is ∈ ws
  pub key_is : is.key ≡ k
  pub value_is : is.value ≡ v
  pub only : (u : Write) → u ∈ ws → u.key ≡ k → u ≡ is

pub one_so : (ws : List Write) (k : Key) (v : Scalar) → values_under ws k ≡ v ∷ [] → OneOf ws k v
one_so [] k v h = absurd (cc (h))
one_so (w ∷ ws) k v h = by (same_key w.key k) refl (λ r. one_so ws k v r)
  where
    by : (b : Bool) → same_key w.key k ≡ b → (values_under ws k ≡ v ∷ [] → OneOf ws k v) → OneOf (w ∷ ws) k v
    by true e rec =
        let q : w.value ∷ values_under ws k ≡ v ∷ [] = sym (head_under w ws k e) ∙ h in
        let rest : values_under ws k ≡ [] = cc in
        let same : w.value ≡ v = cc in
        record {
          is = w;
          there = first;
          key_is = same_key-eq w.key k e;
          value_is = same;
          only = λ u m i. elim (split_in m) [ inl p ↦ p | inr r ↦ absurd (none_so ws k rest u r i) ];
        }
    by false e rec =
        let r = rec (sym (tail_under w ws k e) ∙ h) in
        record {
          is = r.is;
          there = later r.there;
          key_is = r.key_is;
          value_is = r.value_is;
          only = λ u m i. r.only u (behind w u ws k e i m) i;
        }

-- where all writes of a key have one writer, it has one value
pub one_all : (ws : List Write) (k : Key) (x : Write) → AreApart ws → x ∈ ws → x.key ≡ k → ((u : Write) → u ∈ ws → u.key ≡ k → u.writer ≡ x.writer) → values_under ws k ≡ x.value ∷ []
one_all [] k x apart m e only = elim m [ ]
one_all (w ∷ ws) k x apart m e only = by (same_key w.key k) refl (λ r. one_all ws k x apart.1 r e (λ u i. only u (later i)))
  where
    none_left : w.key ≡ k → (u : Write) → u ∈ ws → u.key ≡ k → ⊥
    none_left q u i p = apart.0 u i (p ∙ sym q) (only u (later i) p ∙ sym (only w first q))

    by : (b : Bool) → same_key w.key k ≡ b → (x ∈ ws → values_under ws k ≡ x.value ∷ []) → values_under (w ∷ ws) k ≡ x.value ∷ []
    by true h rec =
        let q = same_key-eq w.key k h in
        let here : x ≡ w = elim (split_in m) [ inl p ↦ p | inr r ↦ absurd (none_left q x r e) ] in
        head_under w ws k h ∙ ap (λ (z : List Scalar). w.value ∷ z) (none_all ws k (none_left q)) ∙ ap (λ (z : Write). z.value ∷ []) (sym here)
    by false h rec = tail_under w ws k h ∙ rec (behind w x ws k h e m)

-- two writes of a key, by two writers
pub record TwoOf (ws : List Write) (k : Key) : Type 0 where
  pub one : Write
  pub other : Write
  pub one_there : one ∈ ws
  pub other_there : other ∈ ws
  pub one_key : one.key ≡ k
  pub other_key : other.key ≡ k
  pub apart : one.writer ≡ other.writer → ⊥

pub two_so : (ws : List Write) (k : Key) → AreApart ws → several_in (values_under ws k) ≡ true → TwoOf ws k
two_so [] k apart h = absurd (true_false (sym h))
two_so (w ∷ ws) k apart h = by (same_key w.key k) refl (λ r. two_so ws k apart.1 r)
  where
    by : (b : Bool) → same_key w.key k ≡ b → (several_in (values_under ws k) ≡ true → TwoOf ws k) → TwoOf (w ∷ ws) k
    by true e rec =
        let r = some_so ws k (sym (ap several_in (head_under w ws k e)) ∙ h) in
        record {
          one = w;
          other = r.0;
          one_there = first;
          other_there = later r.1;
          one_key = same_key-eq w.key k e;
          other_key = r.2;
          apart = λ q. apart.0 r.0 r.1 (r.2 ∙ sym (same_key-eq w.key k e)) (sym q);
        }
    by false e rec =
        let r = rec (sym (ap several_in (tail_under w ws k e)) ∙ h) in
        record {
          one = r.one;
          other = r.other;
          one_there = later r.one_there;
          other_there = later r.other_there;
          one_key = r.one_key;
          other_key = r.other_key;
          apart = r.apart;
        }

pub two_all : (ws : List Write) (k : Key) (x y : Write) → x ∈ ws → y ∈ ws → x.key ≡ k → y.key ≡ k → (x.writer ≡ y.writer → ⊥) → several_in (values_under ws k) ≡ true
two_all [] k x y m i e f h = elim m [ ]
two_all (w ∷ ws) k x y m i e f h = by (same_key w.key k) refl (λ r q. two_all ws k x y r q e f h)
  where
    another : some_in (values_under ws k) ≡ true
    another = elim (split_in m) [
      | inl p ↦ elim (split_in i) [
        | inl q ↦ absurd (h (ap (λ (z : Write). z.writer) (p ∙ sym q)))
        | inr r ↦ some_all ws k y r f
      ]
      | inr r ↦ some_all ws k x r e
    ]

    by : (b : Bool) → same_key w.key k ≡ b → (x ∈ ws → y ∈ ws → several_in (values_under ws k) ≡ true) → several_in (values_under (w ∷ ws) k) ≡ true
    by true q rec = ap several_in (head_under w ws k q) ∙ another
    by false q rec = ap several_in (tail_under w ws k q) ∙ rec (behind w x ws k q e m) (behind w y ws k q f i)

-- one writer writes one value under a key
pub same_value : (ws : List Write) → AreApart ws → (x y : Write) → x ∈ ws → y ∈ ws → x.key ≡ y.key → x.writer ≡ y.writer → x.value ≡ y.value
same_value [] apart x y m i e q = elim m [ ]
same_value (w ∷ ws) apart x y m i e q = elim (split_in m) [
  | inl p ↦ elim (split_in i) [
    | inl r ↦ ap (λ (z : Write). z.value) (p ∙ sym r)
    | inr r ↦ absurd (apart.0 y r (sym e ∙ ap (λ (z : Write). z.key) p) (sym q ∙ ap (λ (z : Write). z.writer) p))
  ]
  | inr j ↦ elim (split_in i) [
    | inl r ↦ absurd (apart.0 x j (e ∙ ap (λ (z : Write). z.key) r) (q ∙ ap (λ (z : Write). z.writer) r))
    | inr r ↦ same_value ws apart.1 x y j r e q
  ]
]
