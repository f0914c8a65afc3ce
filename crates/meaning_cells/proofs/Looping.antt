-- What a loop opens, and what its variable is there.
use Rattle.std.specs.Prelude.{◌≡◌, ℕ, zero, suc, ◌<◌, List, [], ◌∷◌, length, Option, Some, None, Result, Ok, Err, slice_get, refl}
use Rattle.std.proofs.Common.{sym, ap, subst, arith}
use Rattle.values.specs.declared.fault.OpFault.{OpFault}
use Rattle.values.specs.declared.key.Key.{Key}
use Rattle.values.specs.declared.map.Element.{Element}
use Rattle.values.specs.declared.value.Value.{Value}
use Rattle.values.specs.declared.value.Value.TheVariants.{Many}
use Rattle.values.specs.Ranges.{range_count}
use Rattle.language.specs.Core.{Name, Outer, range, each, Block}
use Rattle.language.specs.Members.{◌∈◌, first, later}
use Rattle.language.specs.Openings.{Bounds, bounds, Opens, item, InTurn, range_value, each_value}
use Rattle.meaning_cells.specs.Chosen.{Chosen, turns, items, key_in, value_at_turn, item_key, item_value, turns_by, turns_of, chosen_by, OpensAt}

-- an element stands at a number
pub record IsAt (e : Element) (es : List Element) : Type 0 where
  pub index : ℕ
  pub below : index < length es
  pub there : slice_get es index ≡ Some e

pub at_number : (e : Element) (es : List Element) → e ∈ es → IsAt e es
at_number e es first = record { index = 0; below = omega arith; there = refl }
at_number e es (later {xs = rest} m) =
    let r = at_number e rest m in
    let below : suc r.index < suc (length rest) = omega (arith, r.below) in
    record { index = suc r.index; below = below; there = r.there }

-- and what stands at a number is an element
pub record HasAt (es : List Element) (i : ℕ) : Type 0 where
  pub found : Element
  pub there : slice_get es i ≡ Some found
  pub among : found ∈ es

pub has_at : (es : List Element) (i : ℕ) → i < length es → HasAt es i
has_at [] i l = absurd (omega (arith, l))
has_at (e ∷ es) zero l = record { found = e; there = refl; among = first }
has_at (e ∷ es) (suc i) l =
    let r = has_at es i (omega (arith, l)) in
    record { found = r.found; there = r.there; among = later r.among }

pub each_all : (a : Name) (x : ℕ) (t : Option ℕ) (b : Block) (es : List Element) (k : Key) (d : Block) → Opens (each a x t b) (Many es ∷ []) k d → OpensAt (each a x t b) (items es) k d
each_all a x t b es k d (item {k = key} {v = v} m) =
    let r = at_number (record { key = key; value = v }) es m in
    record { index = r.index; below = r.below; key_is = ap item_key r.there; block_is = refl }

pub each_so : (a : Name) (x : ℕ) (t : Option ℕ) (b : Block) (es : List Element) (i : ℕ) → i < length es → Opens (each a x t b) (Many es ∷ []) (key_in (items es) i) b
each_so a x t b es i l =
    let r = has_at es i l in
    subst (λ (z : Option Element). Opens (each a x t b) (Many es ∷ []) (item_key z) b) (sym r.there) (item {v = r.found.value} r.among)

pub each_turn : (a : Name) (x : ℕ) (t : Option ℕ) (b : Block) (es : List Element) (i : ℕ) → i < length es → InTurn (each a x t b) (Many es ∷ []) (key_in (items es) i) x (value_at_turn (items es) i)
each_turn a x t b es i l =
    let r = has_at es i l in
    subst (λ (z : Option Element). InTurn (each a x t b) (Many es ∷ []) (item_key z) x (item_value z)) (sym r.there) (each_value {v = r.found.value} r.among)

pub range_turn_so : (lo hi : Outer) (st : Option Outer) (x : ℕ) (t : Option ℕ) (b : Block) (vs : List Value) (c : Chosen) → chosen_by (range lo hi st x t b) vs ≡ Some c → (i : ℕ)
    → InTurn (range lo hi st x t b) vs (key_in c i) x (value_at_turn c i)
range_turn_so lo hi st x t b vs c e i = by (bounds vs) refl e
  where
    counted : (r : Bounds) → bounds vs ≡ Some r → (n : Result ℕ OpFault) → turns_by r n ≡ Some c → InTurn (range lo hi st x t b) vs (key_in c i) x (value_at_turn c i)
    counted r p (Ok n) f =
        let is : turns r.low r.step n ≡ c = cc (f) in
        subst (λ (z : Chosen). InTurn (range lo hi st x t b) vs (key_in z i) x (value_at_turn z i)) is (range_value p refl)
    counted r p (Err f) g = absurd (cc (g))

    by : (o : Option Bounds) → bounds vs ≡ o → turns_of o ≡ Some c → InTurn (range lo hi st x t b) vs (key_in c i) x (value_at_turn c i)
    by (Some r) p f = counted r p (range_count r.low r.high r.step) f
    by None p f = absurd (cc (f))
