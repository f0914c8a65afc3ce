-- The order of keys.
use Rattle.std.proofs.Common.{◌≡◌, ◌∙◌, sym, ap, arith, true, false, refl, List, ℕ, Ordering, Less, Equal, Greater}
use Rattle.std.specs.Cmp.Lexicographic.{slice_cmp, nat_list_cmp_total, nat_list_eq_equiv, bytes_decides, texts_ties}
use Rattle.std.specs.Ordering.{ordering_reverse, is_eq, is_lt, nat_cmp}
use Rattle.std.proofs.lemmas.Cmp.{tied_itself}
use Rattle.std.proofs.lemmas.Int.{ints}
use Rattle.values.specs.declared.key.Key.{Key}
use Rattle.values.specs.declared.key.Key.TheVariants.{Number, Text}
use Rattle.values.specs.Keys.{key_below, same_key}

is_less : (o : Ordering) → is_lt o ≡ true → o ≡ Less
is_less Less e = refl
is_less Equal e = absurd (cc (e))
is_less Greater e = absurd (cc (e))

-- what differs and is not less is more
is_more : (o : Ordering) → is_eq o ≡ false → is_lt o ≡ false → is_lt (ordering_reverse o) ≡ true
is_more Less e f = absurd (cc (f))
is_more Equal e f = absurd (cc (e))
is_more Greater e f = refl

less_differs : (o : Ordering) → is_lt o ≡ true → is_eq o ≡ false
less_differs Less e = refl
less_differs Equal e = absurd (cc (e))
less_differs Greater e = refl

less_back : (o : Ordering) → is_lt o ≡ true → is_lt (ordering_reverse o) ≡ false
less_back Less e = refl
less_back Equal e = absurd (cc (e))
less_back Greater e = absurd (cc (e))

texts_back : (a b : List ℕ) → is_lt (ordering_reverse (slice_cmp nat_cmp a b)) ≡ is_lt (slice_cmp nat_cmp b a)
texts_back a b = ap is_lt (sym (nat_list_cmp_total.antisymm b a))

pub same_key-refl : (a : Key) → same_key a a ≡ true
same_key-refl (Number a) = grind (arith, ints)
same_key-refl (Text a) = nat_list_eq_equiv.refl a

-- keys that are the same are equal
pub same_key-eq : (a b : Key) → same_key a b ≡ true → a ≡ b
same_key-eq (Number a) (Number b) e = grind (arith, ints)
same_key-eq (Number a) (Text b) e = absurd (cc (e))
same_key-eq (Text a) (Number b) e = absurd (cc (e))
same_key-eq (Text a) (Text b) e = ap Text ((bytes_decides a b).0 e)

pub same_key-other : (a b : Key) → same_key a b ≡ false → same_key b a ≡ false
same_key-other (Number a) (Number b) e = grind (arith, ints)
same_key-other (Number a) (Text b) e = refl
same_key-other (Text a) (Number b) e = refl
same_key-other (Text a) (Text b) e = nat_list_eq_equiv.symm b a ∙ e

pub key_below-irreflexive : (a : Key) → key_below a a ≡ false
key_below-irreflexive (Number a) = grind (arith, ints)
key_below-irreflexive (Text a) = ap is_lt (tied_itself nat_list_cmp_total a)

pub key_below-trans : (a b c : Key) → key_below a b ≡ true → key_below b c ≡ true → key_below a c ≡ true
key_below-trans (Number a) (Number b) (Number c) p q = grind (arith, ints)
key_below-trans (Number a) (Text b) (Number c) p q = absurd (cc (q))
key_below-trans (Number a) b (Text c) p q = refl
key_below-trans (Text a) (Number b) c p q = absurd (cc (p))
key_below-trans (Text a) (Text b) (Number c) p q = absurd (cc (q))
key_below-trans (Text a) (Text b) (Text c) p q = ap is_lt (nat_list_cmp_total.trans a b c (is_less _ p) (is_less _ q))

-- of two keys that differ one is below the other
pub key_below-other : (a b : Key) → same_key a b ≡ false → key_below a b ≡ false → key_below b a ≡ true
key_below-other (Number a) (Number b) e f = grind (arith, ints)
key_below-other (Number a) (Text b) e f = absurd (cc (f))
key_below-other (Text a) (Number b) e f = refl
key_below-other (Text a) (Text b) e f = sym (texts_back a b) ∙ is_more _ (sym (texts_ties a b) ∙ e) f

-- a key below another differs from it
pub below_differs : (a b : Key) → key_below a b ≡ true → same_key a b ≡ false
below_differs (Number a) (Number b) p = grind (arith, ints)
below_differs (Number a) (Text b) p = refl
below_differs (Text a) (Number b) p = absurd (cc (p))
below_differs (Text a) (Text b) p = texts_ties a b ∙ less_differs _ p

pub above_differs : (a b : Key) → key_below b a ≡ true → same_key a b ≡ false
above_differs a b p = same_key-other b a (below_differs b a p)

pub key_below-asymmetric : (a b : Key) → key_below a b ≡ true → key_below b a ≡ false
key_below-asymmetric (Number a) (Number b) p = grind (arith, ints)
key_below-asymmetric (Number a) (Text b) p = refl
key_below-asymmetric (Text a) (Number b) p = absurd (cc (p))
key_below-asymmetric (Text a) (Text b) p = sym (texts_back a b) ∙ less_back _ p
