-- What the place of the first write of a key says of all writes, and what becomes of it where one more comes.
use Rattle.std.specs.Prelude.{◌≡◌, ℕ, suc, ◌<◌, Bool, true, false, not, ◌&&◌, ◌||◌, List, [], ◌∷◌, ◌++◌, length, drop, Option, Some, None, if◌then◌else◌, refl}
use Rattle.std.specs.Cmp.Lexicographic.{nat_list_eq_equiv}
use Rattle.std.proofs.Common.{sym, ap, ◌∙◌, arith, get_or, subst, inl, inr}
use Rattle.std.proofs.lemmas.Bool.{cases_Bool}
use Rattle.std.proofs.lemmas.Cmp.{int_eq_equiv}
use Rattle.values.specs.declared.key.Key.{Key}
use Rattle.values.specs.declared.key.Key.TheVariants.{Number, Text}
use Rattle.values.specs.declared.value.Scalar.{Scalar}
use Rattle.values.specs.Keys.{same_key}
use Rattle.values.proofs.Keys.{same_key-eq}
use Rattle.meaning_facts.specs.declared.facts.Place.{Place}
use Rattle.meaning_facts.specs.declared.facts.Write.{Write}
use Rattle.meaning_facts.specs.declared.first_writes.FirstWrite.{FirstWrite}
use Rattle.meaning_facts.specs.declared.first_writes.FirstWrites.{FirstWrites}
use Rattle.meaning_facts.specs.Indexed.{again, first_at, first_in, has_key_in, one_further, one_writer_in, IsIndexed}
use Rattle.meaning_facts.specs.Store.{is_written_in, same_place, writes_under}

-- the first of all, where another one comes, or none
abbrev alone : Bool → FirstWrite
alone b = record { at = 0; is_several = b }

abbrev behind : FirstWrite → FirstWrite
behind f = record { at = suc f.at; is_several = f.is_several }

-- BEFORE THE FIRST

further_none : (o : Option FirstWrite) → one_further o ≡ None → o ≡ None
further_none (Some f) e = absurd (cc (e))
further_none None e = refl

pub first_none : (ws : List Write) (k : Key) → first_in ws k ≡ None → has_key_in ws k ≡ false
first_none [] k e = refl
first_none (w ∷ ws) k e = by (same_key w.key k) (first_none ws k) e
  where
    by : (b : Bool) → (first_in ws k ≡ None → has_key_in ws k ≡ false) → (if b then Some (alone (has_key_in ws k)) else one_further (first_in ws k)) ≡ None
        → b || has_key_in ws k ≡ false
    by true r h = absurd (cc (h))
    by false r h = r (further_none (first_in ws k) h)

first_some : (ws : List Write) (k : Key) (f : FirstWrite) → first_in ws k ≡ Some f → has_key_in ws k ≡ true
first_some [] k f e = absurd (cc (e))
first_some (w ∷ ws) k f e = by (same_key w.key k) (first_some ws k) e
  where
    further : (o : Option FirstWrite) → ((g : FirstWrite) → o ≡ Some g → has_key_in ws k ≡ true) → one_further o ≡ Some f → has_key_in ws k ≡ true
    further (Some g) r h = r g refl
    further None r h = absurd (cc (h))

    by : (b : Bool) → ((g : FirstWrite) → first_in ws k ≡ Some g → has_key_in ws k ≡ true) → (if b then Some (alone (has_key_in ws k)) else one_further (first_in ws k)) ≡ Some f
        → b || has_key_in ws k ≡ true
    by true r h = refl
    by false r h = further (first_in ws k) r h

pub none_under : (ws : List Write) (k : Key) → has_key_in ws k ≡ false → writes_under ws k ≡ []
none_under [] k h = refl
none_under (w ∷ ws) k h = by (same_key w.key k) (none_under ws k) h
  where
    by : (b : Bool) → (has_key_in ws k ≡ false → writes_under ws k ≡ []) → b || has_key_in ws k ≡ false → (if b then w.value ∷ writes_under ws k else writes_under ws k) ≡ []
    by true r e = absurd (cc (e))
    by false r e = r e

pub none_written : (ws : List Write) (k : Key) (p : Place) → has_key_in ws k ≡ false → is_written_in ws k p ≡ false
none_written [] k p h = refl
none_written (w ∷ ws) k p h = by (same_key w.key k) (none_written ws k p) h
  where
    by : (b : Bool) → (has_key_in ws k ≡ false → is_written_in ws k p ≡ false) → b || has_key_in ws k ≡ false → (b && same_place w.writer p) || is_written_in ws k p ≡ false
    by true r e = absurd (cc (e))
    by false r e = r e

some_under : (ws : List Write) (k : Key) → has_key_in ws k ≡ true → (v : Scalar) × (vs : List Scalar) × (writes_under ws k ≡ v ∷ vs)
some_under [] k h = absurd (cc (h))
some_under (w ∷ ws) k h = by (same_key w.key k) (some_under ws k) h
  where
    by : (b : Bool) → (has_key_in ws k ≡ true → (v : Scalar) × (vs : List Scalar) × (writes_under ws k ≡ v ∷ vs)) → b || has_key_in ws k ≡ true
        → (v : Scalar) × (vs : List Scalar) × ((if b then w.value ∷ writes_under ws k else writes_under ws k) ≡ v ∷ vs)
    by true r e = (w.value, writes_under ws k, refl)
    by false r e = r e

-- THE FIRST

-- what the first write of a key says of all
pub record IsFirst (ws : List Write) (k : Key) (f : FirstWrite) : Type 0 where
  pub within : f.at < length ws
  pub several : f.is_several ≡ has_key_in (drop (suc f.at) ws) k
  pub under : (d : Write) → writes_under ws k ≡ (get_or ws f.at d).value ∷ writes_under (drop (suc f.at) ws) k
  pub written : (p : Place) (d : Write) → is_written_in ws k p ≡ same_place (get_or ws f.at d).writer p || is_written_in (drop (suc f.at) ws) k p

first_here : (w : Write) (ws : List Write) (k : Key) → same_key w.key k ≡ true → IsFirst (w ∷ ws) k (alone (has_key_in ws k))
first_here w ws k e = record {
  within = omega arith;
  several = refl;
  under = λ d. ap (λ (b : Bool). if b then w.value ∷ writes_under ws k else writes_under ws k) e;
  written = λ p d. ap (λ (b : Bool). (b && same_place w.writer p) || is_written_in ws k p) e;
}

first_behind : (w : Write) (ws : List Write) (k : Key) (f : FirstWrite) → same_key w.key k ≡ false → IsFirst ws k f → IsFirst (w ∷ ws) k (behind f)
first_behind w ws k f e h = record {
  within = let l = h.within in omega (arith, l);
  several = h.several;
  under = λ d. ap (λ (b : Bool). if b then w.value ∷ writes_under ws k else writes_under ws k) e ∙ h.under d;
  written = λ p d. ap (λ (b : Bool). (b && same_place w.writer p) || is_written_in ws k p) e ∙ h.written p d;
}

pub first_is : (ws : List Write) (k : Key) (f : FirstWrite) → first_in ws k ≡ Some f → IsFirst ws k f
first_is [] k f e = absurd (cc (e))
first_is (w ∷ ws) k f e = by (same_key w.key k) refl (first_is ws k) e
  where
    further : (o : Option FirstWrite) → ((g : FirstWrite) → o ≡ Some g → IsFirst ws k g) → same_key w.key k ≡ false → one_further o ≡ Some f → IsFirst (w ∷ ws) k f
    further (Some g) r q h = let e : behind g ≡ f = cc (h) in subst (λ (z : FirstWrite). IsFirst (w ∷ ws) k z) e (first_behind w ws k g q (r g refl))
    further None r q h = absurd (cc (h))

    by : (b : Bool) → same_key w.key k ≡ b → ((g : FirstWrite) → first_in ws k ≡ Some g → IsFirst ws k g)
        → (if b then Some (alone (has_key_in ws k)) else one_further (first_in ws k)) ≡ Some f → IsFirst (w ∷ ws) k f
    by true q r h = let e : alone (has_key_in ws k) ≡ f = cc (h) in subst (λ (z : FirstWrite). IsFirst (w ∷ ws) k z) e (first_here w ws k q)
    by false q r h = further (first_in ws k) r q h

pub one_under : (ws : List Write) (k : Key) (f : FirstWrite) (d : Write) → first_in ws k ≡ Some f → f.is_several ≡ false → writes_under ws k ≡ (get_or ws f.at d).value ∷ []
one_under ws k f d e n =
    let h = first_is ws k f e in
    h.under d ∙ ap (λ (z : List Scalar). (get_or ws f.at d).value ∷ z) (none_under (drop (suc f.at) ws) k (sym h.several ∙ n))

pub two_under : (ws : List Write) (k : Key) (f : FirstWrite) → first_in ws k ≡ Some f → f.is_several ≡ true → (u : Scalar) × (v : Scalar) × (vs : List Scalar) × (writes_under ws k ≡ u ∷ v ∷ vs)
two_under ws k f e n =
    let h = first_is ws k f e in
    let r = some_under (drop (suc f.at) ws) k (sym h.several ∙ n) in
    by ws h.within h.under r.0 r.1 r.2
  where
    by : (zs : List Write) → f.at < length zs → ((d : Write) → writes_under ws k ≡ (get_or ws f.at d).value ∷ writes_under (drop (suc f.at) ws) k) → (v : Scalar) (vs : List Scalar)
        → writes_under (drop (suc f.at) ws) k ≡ v ∷ vs → (u : Scalar) × (v : Scalar) × (vs : List Scalar) × (writes_under ws k ≡ u ∷ v ∷ vs)
    by [] l g v vs q = absurd (omega (arith, l))
    by (d ∷ zs) l g v vs q = ((get_or ws f.at d).value, v, vs, g d ∙ ap (λ (z : List Scalar). (get_or ws f.at d).value ∷ z) q)

pub one_written : (ws : List Write) (k : Key) (f : FirstWrite) (d : Write) (p : Place) → first_in ws k ≡ Some f → f.is_several ≡ false → is_written_in ws k p ≡ same_place (get_or ws f.at d).writer p
one_written ws k f d p e n =
    let h = first_is ws k f e in
    h.written p d ∙ ap (λ (b : Bool). same_place (get_or ws f.at d).writer p || b) (none_written (drop (suc f.at) ws) k p (sym h.several ∙ n)) ∙ or_false (same_place (get_or ws f.at d).writer p)
  where
    or_false : (b : Bool) → b || false ≡ b
    or_false true = refl
    or_false false = refl

-- ONE MORE

key_sym : (a b : Key) → same_key a b ≡ same_key b a
key_sym (Number a) (Number b) = int_eq_equiv.symm a b
key_sym (Number a) (Text b) = refl
key_sym (Text a) (Number b) = refl
key_sym (Text a) (Text b) = nat_list_eq_equiv.symm a b

has_more : (ws : List Write) (w : Write) (k : Key) → has_key_in (ws ++ w ∷ []) k ≡ same_key w.key k || has_key_in ws k
has_more [] w k = refl
has_more (x ∷ ws) w k = ap (λ (b : Bool). same_key x.key k || b) (has_more ws w k) ∙ turned (same_key x.key k) (same_key w.key k) (has_key_in ws k)
  where
    turned : (a b c : Bool) → a || (b || c) ≡ b || (a || c)
    turned true true c = refl
    turned true false c = refl
    turned false true c = refl
    turned false false c = refl

further_again : (n : ℕ) (o : Option FirstWrite) → one_further (Some (again n o)) ≡ Some (again (suc n) (one_further o))
further_again n (Some f) = refl
further_again n None = refl

more_same : (ws : List Write) (w : Write) (k : Key) → same_key w.key k ≡ true → first_in (ws ++ w ∷ []) k ≡ Some (again (length ws) (first_in ws k))
more_same [] w k e = ap (λ (b : Bool). if b then Some (alone false) else None) e
more_same (x ∷ ws) w k e = by (same_key x.key k) (has_more ws w k ∙ ap (λ (b : Bool). b || has_key_in ws k) e) (more_same ws w k e)
  where
    by : (b : Bool) → has_key_in (ws ++ w ∷ []) k ≡ true → first_in (ws ++ w ∷ []) k ≡ Some (again (length ws) (first_in ws k))
        → (if b then Some (alone (has_key_in (ws ++ w ∷ []) k)) else one_further (first_in (ws ++ w ∷ []) k))
        ≡ Some (again (suc (length ws)) (if b then Some (alone (has_key_in ws k)) else one_further (first_in ws k)))
    by true h r = ap (λ (z : Bool). Some (alone z)) h
    by false h r = ap one_further r ∙ further_again (length ws) (first_in ws k)

more_other : (ws : List Write) (w : Write) (k : Key) → same_key w.key k ≡ false → first_in (ws ++ w ∷ []) k ≡ first_in ws k
more_other [] w k e = ap (λ (b : Bool). if b then Some (alone false) else None) e
more_other (x ∷ ws) w k e = by (same_key x.key k) (has_more ws w k ∙ ap (λ (b : Bool). b || has_key_in ws k) e) (more_other ws w k e)
  where
    by : (b : Bool) → has_key_in (ws ++ w ∷ []) k ≡ has_key_in ws k → first_in (ws ++ w ∷ []) k ≡ first_in ws k
        → (if b then Some (alone (has_key_in (ws ++ w ∷ []) k)) else one_further (first_in (ws ++ w ∷ []) k))
        ≡ (if b then Some (alone (has_key_in ws k)) else one_further (first_in ws k))
    by true h r = ap (λ (z : Bool). Some (alone z)) h
    by false h r = ap one_further r

first_more : (ws : List Write) (w : Write) (k : Key) → first_in (ws ++ w ∷ []) k ≡ (if same_key w.key k then Some (again (length ws) (first_in ws w.key)) else first_in ws k)
first_more ws w k = elim (cases_Bool (same_key w.key k)) [
  | inl same ↦ rw same (more_same ws w k same ∙ ap (λ (j : Key). Some (again (length ws) (first_in ws j))) (sym (same_key-eq w.key k same)))
  | inr other ↦ rw other (more_other ws w k other)
]

apart_more : (ws : List Write) (w : Write) → one_writer_in (ws ++ w ∷ []) ≡ one_writer_in ws && not (has_key_in ws w.key)
apart_more [] w = refl
apart_more (x ∷ ws) w =
    ap (λ (b : Bool). not b && one_writer_in (ws ++ w ∷ [])) (has_more ws w x.key)
    ∙ ap (λ (b : Bool). not (same_key w.key x.key || has_key_in ws x.key) && b) (apart_more ws w)
    ∙ ap (λ (b : Bool). not (b || has_key_in ws x.key) && (one_writer_in ws && not (has_key_in ws w.key))) (key_sym w.key x.key)
    ∙ turned (same_key x.key w.key) (has_key_in ws x.key) (one_writer_in ws) (has_key_in ws w.key)
  where
    turned : (a b c d : Bool) → not (a || b) && (c && not d) ≡ (not b && c) && not (a || d)
    turned true true c d = refl
    turned true false true d = refl
    turned true false false d = refl
    turned false true c d = refl
    turned false false c d = refl

again_several : (ws : List Write) (k : Key) (n : ℕ) → (again n (first_in ws k)).is_several ≡ has_key_in ws k
again_several ws k n = by (first_in ws k) refl
  where
    by : (o : Option FirstWrite) → first_in ws k ≡ o → (again n o).is_several ≡ has_key_in ws k
    by (Some f) e = sym (first_some ws k f e)
    by None e = sym (first_none ws k e)

pub indexed_more : (ws : List Write) (w : Write) (fs gs : FirstWrites) (b : Bool) (f : FirstWrite) → IsIndexed ws fs b → f ≡ again (length ws) (first_at fs w.key)
    → ((k : Key) → first_at gs k ≡ (if same_key w.key k then Some f else first_at fs k)) → IsIndexed (ws ++ w ∷ []) gs (b && not f.is_several)
indexed_more ws w fs gs b f h e put =
    let is : f ≡ again (length ws) (first_in ws w.key) = e ∙ ap (again (length ws)) (h.firsts w.key) in record {
      firsts = λ k. put k ∙ ap (λ (z : FirstWrite). if same_key w.key k then Some z else first_at fs k) is
          ∙ ap (λ (z : Option FirstWrite). if same_key w.key k then Some (again (length ws) (first_in ws w.key)) else z) (h.firsts k) ∙ sym (first_more ws w k);
      apart = ap (λ (z : FirstWrite). b && not z.is_several) is ∙ ap (λ (z : Bool). b && not z) (again_several ws w.key (length ws)) ∙ ap (λ (z : Bool). z && not (has_key_in ws w.key)) h.apart ∙ sym (apart_more ws w);
    }
