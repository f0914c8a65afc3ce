-- What a header chooses is what it opens.
use Rattle.std.specs.Prelude.{◌≡◌, ℕ, ◌<◌, pos, Bool, true, false, List, [], ◌∷◌, Option, Some, None, Result, Ok, Err, refl}
use Rattle.std.proofs.Common.{sym, ap, ◌∙◌, subst, arith}
use Rattle.values.specs.declared.fault.OpFault.{OpFault}
use Rattle.values.specs.declared.key.Key.{Key}
use Rattle.values.specs.declared.value.Scalar.TheVariants.{Number, Truth, Text}
use Rattle.values.specs.declared.value.Value.{Value}
use Rattle.values.specs.declared.value.Value.TheVariants.{One, Many}
use Rattle.values.specs.Ranges.{range_count}
use Rattle.language.specs.Core.{Outer, Action, when, choose, range, Block}
use Rattle.language.specs.Openings.{Bounds, bounds, Decides, one_way, two_ways, in_turns, Opens, then_alone, then_first, else_second, turn, item}
use Rattle.meaning_cells.specs.Chosen.{Chosen, nothing, branch, turns, count_in, key_in, block_in, truth_in, when_by, choose_by, turns_by, turns_of, chosen_by, OpensAt}

truth_is : (vs : List Value) (t : Bool) → truth_in vs ≡ Some t → vs ≡ One (Truth t) ∷ []
truth_is [] t e = absurd (cc (e))
truth_is (One (Truth b) ∷ []) t e = let q : b ≡ t = cc (e) in ap (λ (z : Bool). One (Truth z) ∷ []) q
truth_is (One (Truth b) ∷ v ∷ vs) t e = absurd (cc (e))
truth_is (One (Number z) ∷ vs) t e = absurd (cc (e))
truth_is (One (Text z) ∷ vs) t e = absurd (cc (e))
truth_is (Many es ∷ vs) t e = absurd (cc (e))

same_chosen : (c d : Chosen) → Some c ≡ Some d → c ≡ d
same_chosen c d e = cc (e)

-- what a header opens is what it has chosen
pub opens_all : (a : Action) (vs : List Value) (c : Chosen) (k : Key) (b : Block) → chosen_by a vs ≡ Some c → Opens a vs k b → OpensAt a c k b
opens_all a vs c k b e (then_alone {c = o} {b = b'}) = subst (λ (z : Chosen). OpensAt (when o b') z (Key.Number (pos 0)) b') (same_chosen (branch (pos 0)) c e) (record { index = 0; below = omega arith; key_is = refl; block_is = refl })
opens_all a vs c k b e (then_first {c = o} {b = b'} {d = d}) = subst (λ (z : Chosen). OpensAt (choose o b' d) z (Key.Number (pos 0)) b') (same_chosen (branch (pos 0)) c e) (record { index = 0; below = omega arith; key_is = refl; block_is = refl })
opens_all a vs c k b e (else_second {c = o} {b = b'} {d = d}) = subst (λ (z : Chosen). OpensAt (choose o b' d) z (Key.Number (pos 1)) d) (same_chosen (branch (pos 1)) c e) (record { index = 0; below = omega arith; key_is = refl; block_is = refl })
opens_all a vs c k b e (turn {lo = lo} {hi = hi} {st = st} {x = x} {t = t} {b = b'} {r = r} {n = n} {i = i} p q l) =
    let is : turns_of (bounds vs) ≡ Some (turns r.low r.step n) = ap turns_of p ∙ ap (turns_by r) q in
    subst (λ (z : Chosen). OpensAt (range lo hi st x t b') z (Key.Number (pos i)) b') (same_chosen (turns r.low r.step n) c (sym is ∙ e)) (record { index = i; below = l; key_is = refl; block_is = refl })
opens_all a vs c k b e (item m) = absurd (cc (e))

when_so : (o : Outer) (b : Block) (t : Option Bool) (vs : List Value) → truth_in vs ≡ t → (c : Chosen) → when_by t ≡ Some c → (i : ℕ) → i < count_in c → Opens (when o b) vs (key_in c i) b
when_so o b (Some true) vs q c e i l =
    let is : branch (pos 0) ≡ c = same_chosen (branch (pos 0)) c e in
    subst (λ (z : Chosen). Opens (when o b) vs (key_in z i) b) is (subst (λ (z : List Value). Opens (when o b) z (Key.Number (pos 0)) b) (sym (truth_is vs true q)) then_alone)
when_so o b (Some false) vs q c e i l = let is : nothing ≡ c = same_chosen nothing c e in let none : i < 0 = subst (λ (z : Chosen). i < count_in z) (sym is) l in absurd (omega arith)
when_so o b None vs q c e i l = absurd (cc (e))

choose_so : (o : Outer) (b d : Block) (t : Option Bool) (vs : List Value) → truth_in vs ≡ t → (c : Chosen) → choose_by t ≡ Some c → (i : ℕ) → i < count_in c → (x : Block) → block_in (choose o b d) c ≡ Some x → Opens (choose o b d) vs (key_in c i) x
choose_so o b d (Some true) vs q c e i l x y =
    let is : branch (pos 0) ≡ c = same_chosen (branch (pos 0)) c e in
    let block : Some b ≡ Some x = ap (block_in (choose o b d)) is ∙ y in
    let same : b ≡ x = cc (block) in
    subst (λ (z : Chosen). Opens (choose o b d) vs (key_in z i) x) is (subst (λ (z : Block). Opens (choose o b d) vs (Key.Number (pos 0)) z) same (subst (λ (z : List Value). Opens (choose o b d) z (Key.Number (pos 0)) b) (sym (truth_is vs true q)) then_first))
choose_so o b d (Some false) vs q c e i l x y =
    let is : branch (pos 1) ≡ c = same_chosen (branch (pos 1)) c e in
    let block : Some d ≡ Some x = ap (block_in (choose o b d)) is ∙ y in
    let same : d ≡ x = cc (block) in
    subst (λ (z : Chosen). Opens (choose o b d) vs (key_in z i) x) is (subst (λ (z : Block). Opens (choose o b d) vs (Key.Number (pos 1)) z) same (subst (λ (z : List Value). Opens (choose o b d) z (Key.Number (pos 1)) d) (sym (truth_is vs false q)) else_second))
choose_so o b d None vs q c e i l x y = absurd (cc (e))

range_so : (lo hi : Outer) (st : Option Outer) (x : ℕ) (t : Option ℕ) (b : Block) (vs : List Value) (o : Option Bounds) → bounds vs ≡ o → (c : Chosen) → turns_of o ≡ Some c → (i : ℕ) → i < count_in c → Opens (range lo hi st x t b) vs (key_in c i) b
range_so lo hi st x t b vs None p c e i l = absurd (cc (e))
range_so lo hi st x t b vs (Some r) p c e i l = by (range_count r.low r.high r.step) refl e
  where
    by : (n : Result ℕ OpFault) → range_count r.low r.high r.step ≡ n → turns_by r n ≡ Some c → Opens (range lo hi st x t b) vs (key_in c i) b
    by (Ok n) q f =
        let is : turns r.low r.step n ≡ c = same_chosen (turns r.low r.step n) c f in
        let below : i < n = subst (λ (z : Chosen). i < count_in z) (sym is) l in
        subst (λ (z : Chosen). Opens (range lo hi st x t b) vs (key_in z i) b) is (turn p q below)
    by (Err f) q g = absurd (cc (g))

-- and what it has chosen it opens
pub opens_so : (a : Action) (vs : List Value) (c : Chosen) → chosen_by a vs ≡ Some c → (i : ℕ) → i < count_in c → (x : Block) → block_in a c ≡ Some x → Opens a vs (key_in c i) x
opens_so (when o b) vs c e i l x y = let same : b ≡ x = cc (y) in subst (λ (z : Block). Opens (when o b) vs (key_in c i) z) same (when_so o b (truth_in vs) vs refl c e i l)
opens_so (choose o b d) vs c e i l x y = choose_so o b d (truth_in vs) vs refl c e i l x y
opens_so (range lo hi st n t b) vs c e i l x y = let same : b ≡ x = cc (y) in subst (λ (z : Block). Opens (range lo hi st n t b) vs (key_in c i) z) same (range_so lo hi st n t b vs (bounds vs) refl c e i l)
opens_so _ vs c e i l x y = absurd (cc (e))

-- WHERE A CHOICE IS DECIDED

pub decided : (a : Action) (vs : List Value) → Decides a vs → (c : Chosen) × (chosen_by a vs ≡ Some c)
decided a vs (one_way {t = true}) = (branch (pos 0), refl)
decided a vs (one_way {t = false}) = (nothing, refl)
decided a vs (two_ways {t = true}) = (branch (pos 0), refl)
decided a vs (two_ways {t = false}) = (branch (pos 1), refl)
decided a vs (in_turns {r = r} {n = n} p q) = (turns r.low r.step n, ap turns_of p ∙ ap (turns_by r) q)

truth_decided : (o : Option Bool) → (c : Chosen) → when_by o ≡ Some c → (t : Bool) × (o ≡ Some t)
truth_decided (Some t) c e = (t, refl)
truth_decided None c e = absurd (cc (e))

choice_decided : (o : Option Bool) → (c : Chosen) → choose_by o ≡ Some c → (t : Bool) × (o ≡ Some t)
choice_decided (Some t) c e = (t, refl)
choice_decided None c e = absurd (cc (e))

pub decides : (a : Action) (vs : List Value) (c : Chosen) → chosen_by a vs ≡ Some c → Decides a vs
decides (when o b) vs c e = let r = truth_decided (truth_in vs) c e in subst (λ (z : List Value). Decides (when o b) z) (sym (truth_is vs r.0 r.1)) one_way
decides (choose o b d) vs c e = let r = choice_decided (truth_in vs) c e in subst (λ (z : List Value). Decides (choose o b d) z) (sym (truth_is vs r.0 r.1)) two_ways
decides (range lo hi st x t b) vs c e = by (bounds vs) refl e
  where
    counted : (r : Bounds) → bounds vs ≡ Some r → (n : Result ℕ OpFault) → range_count r.low r.high r.step ≡ n → turns_by r n ≡ Some c → Decides (range lo hi st x t b) vs
    counted r p (Ok n) q f = in_turns p q
    counted r p (Err f) q g = absurd (cc (g))

    by : (o : Option Bounds) → bounds vs ≡ o → turns_of o ≡ Some c → Decides (range lo hi st x t b) vs
    by (Some r) p f = counted r p (range_count r.low r.high r.step) refl f
    by None p f = absurd (cc (f))
decides _ vs c e = absurd (cc (e))
