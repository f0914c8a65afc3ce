-- The places of bodies.
use Rattle.std.proofs.Common.{arith, ◌≡◌, Bool, cond, nat_eq, sym, ap, ◌∙◌, refl, subst, ℕ, zero, suc, ◌+◌, ◌<◌, List, [], ◌∷◌, ◌++◌, length, drop, get_or, append_assoc, append-nil, ◌≤◌, slice_get, Some, min}
use Rattle.std.specs.Prelude.{take}
use Rattle.std.proofs.lemmas.List.{length-take, get_or-take}
use Rattle.std.proofs.lemmas.Option.{slice_get-get_or}
use Rattle.code_listing.specs.declared.source_map.BodyKind.TheVariants as Of
use Rattle.std.proofs.Math.Dec.{eqb-zero-suc, eqb-suc-zero, eqb-suc-suc}
use Rattle.std.proofs.Math.ListN.{set}
use Rattle.std.proofs.lemmas.List.{drop_all, drop_more}
use Rattle.task_code.specs.Code.{Code, nth}
use Rattle.code_listing.specs.declared.source_map.BodyInfo.{BodyInfo}
use Rattle.code_listing.specs.declared.bodies.BodyPosition.{BodyPosition}
use Rattle.code_listing.specs.Order.{Made, bodies_made, body_made, entries_made, entry_made, maker_among, numbered, numbers_of, place_among, position}
use Rattle.code_listing.specs.declared.text_buffer.TextBuffer.{TextBuffer}
use Rattle.code_listing.specs.Buffers.{Adds, Leaves}
use Rattle.code_listing.specs.Listing.{Labels, bodies_text, body_text}
use Rattle.code_listing.proofs.Adding.{leaves_less, leaves_none}

-- a number was put
pub nth_put : (d v : ℕ) (xs : List ℕ) (n k : ℕ) → n < length xs → nth d (set xs n v) k ≡ cond (nat_eq n k) v (nth d xs k)
nth_put d v [] n k below = absurd (omega (arith, below))
nth_put d v (x ∷ xs) zero zero below = refl
nth_put d v (x ∷ xs) zero (suc k) below = ap (λ (b : Bool). cond b v (nth d xs k)) (sym (eqb-zero-suc k))
nth_put d v (x ∷ xs) (suc n) zero below = ap (λ (b : Bool). cond b v x) (sym (eqb-suc-zero n))
nth_put d v (x ∷ xs) (suc n) (suc k) below = nth_put d v xs n k (omega (arith, below)) ∙ ap (λ (b : Bool). cond b v (nth d xs k)) (sym (eqb-suc-suc n k))

-- a 0 was added
pub nth_zero : (xs : List ℕ) (k : ℕ) → nth 0 (xs ++ 0 ∷ []) k ≡ nth 0 xs k
nth_zero [] zero = refl
nth_zero [] (suc k) = refl
nth_zero (x ∷ xs) zero = refl
nth_zero (x ∷ xs) (suc k) = nth_zero xs k

pub place_step : (ps : List BodyPosition) (k b before after whole : ℕ) (p : BodyPosition) → k < length ps → get_or ps k p ≡ p
    → place_among before k (drop k ps) b ≡ whole → after ≡ cond (nat_eq p.body b) k before → place_among after (k + 1) (drop (k + 1) ps) b ≡ whole
place_step ps k b before after whole p l item h e =
    let rest = drop (k + 1) ps in
    let more : drop k ps ≡ p ∷ rest = drop_more ps k p l ∙ ap (λ (z : BodyPosition). z ∷ rest) item in
    ap (λ (z : ℕ). place_among z (k + 1) rest b) e ∙ subst (λ (z : List BodyPosition). place_among before k z b ≡ whole) more h

pub numbered_step : (is : List BodyInfo) (k : ℕ) (i : BodyInfo) (old new whole : List BodyPosition) → k < length is → get_or is k i ≡ i
    → old ++ numbered k (drop k is) ≡ whole → new ≡ old ++ position i k ∷ [] → new ++ numbered (k + 1) (drop (k + 1) is) ≡ whole
numbered_step is k i old new whole l item h e =
    let rest = drop (k + 1) is in
    let more : drop k is ≡ i ∷ rest = drop_more is k i l ∙ ap (λ (z : BodyInfo). z ∷ rest) item in
    ap (λ (z : List BodyPosition). z ++ numbered (k + 1) rest) e ∙ append_assoc old (position i k ∷ []) (numbered (k + 1) rest) ∙ subst (λ (z : List BodyInfo). old ++ numbered k z ≡ whole) more h

-- one more of the bodies that have numbers
pub position_step : (is : List BodyInfo) (most k : ℕ) (old new whole : List BodyPosition) → k < length is → k < most
    → old ++ numbered k (drop k (take most is)) ≡ whole → ((i : BodyInfo) → slice_get is k ≡ Some i → new ≡ old ++ position i k ∷ []) → new ++ numbered (k + 1) (drop (k + 1) (take most is)) ≡ whole
position_step is most k old new whole l m h f =
    let none : BodyInfo = record { from = 0; what = Of.Script; function = 0 } in
    let i = get_or is k none in
    let there : slice_get is k ≡ Some i = slice_get-get_or is k none l in
    let many : length (take most is) ≡ min most (length is) = length-take most is in
    let short : k < length (take most is) = omega (arith, l, m, many) in
    let same : get_or (take most is) k i ≡ i = get_or-take most is k i m ∙ got_again is k none l in
    numbered_step (take most is) k i old new whole short same h (f i there)
  where
    got_again : (xs : List BodyInfo) (k : ℕ) (d : BodyInfo) → k < length xs → get_or xs k (get_or xs k d) ≡ get_or xs k d
    got_again [] k d l = absurd (omega (arith, l))
    got_again (x ∷ xs) zero d l = refl
    got_again (x ∷ xs) (suc k) d l = got_again xs k d (omega (arith, l))

-- no more bodies
pub positions_end : (is : List BodyInfo) (most k : ℕ) (old whole : List BodyPosition) → min most (length is) ≤ k → old ++ numbered k (drop k (take most is)) ≡ whole → old ≡ whole
positions_end is most k old whole l h =
    let many : length (take most is) ≡ min most (length is) = length-take most is in
    let none : drop k (take most is) ≡ [] = drop_all k (take most is) (omega (arith, l, many)) in
    sym (append-nil old) ∙ subst (λ (z : List BodyInfo). old ++ numbered k z ≡ whole) none h

-- VALUES WITHOUT A NAME

made_joins : (before : ℕ) (xs ys : List Made) (n : ℕ) → maker_among before (xs ++ ys) n ≡ maker_among (maker_among before xs n) ys n
made_joins before [] ys n = refl
made_joins before (x ∷ xs) ys n = made_joins (cond (nat_eq x.node n) x.number before) xs ys n

pub entries_step : (C : Code) (is : List ℕ) (k d n before after whole : ℕ) → k < length is → maker_among before (entries_made C k (drop k is)) n ≡ whole
    → after ≡ maker_among before (entry_made C (k + 1) (get_or is k d)) n → maker_among after (entries_made C (k + 1) (drop (k + 1) is)) n ≡ whole
entries_step C is k d n before after whole l h e =
    let rest = entries_made C (k + 1) (drop (k + 1) is) in
    let more = subst (λ (z : List ℕ). maker_among before (entries_made C k z) n ≡ whole) (drop_more is k d l) h in
    ap (λ (z : ℕ). maker_among z rest n) e ∙ sym (made_joins before (entry_made C (k + 1) (get_or is k d)) rest n) ∙ more

pub bodies_step : (C : Code) (ps : List BodyPosition) (k n before after whole : ℕ) (p : BodyPosition) → k < length ps → get_or ps k p ≡ p → maker_among before (bodies_made C (drop k ps)) n ≡ whole
    → after ≡ maker_among before (body_made C p.body) n → maker_among after (bodies_made C (drop (k + 1) ps)) n ≡ whole
bodies_step C ps k n before after whole p l item h e =
    let rest = bodies_made C (drop (k + 1) ps) in
    let first : drop k ps ≡ p ∷ drop (k + 1) ps = drop_more ps k p l ∙ ap (λ (z : BodyPosition). z ∷ drop (k + 1) ps) item in
    let more = subst (λ (z : List BodyPosition). maker_among before (bodies_made C z) n ≡ whole) first h in
    ap (λ (z : ℕ). maker_among z rest n) e ∙ sym (made_joins before (body_made C p.body) rest n) ∙ more

-- THE TEXT

pub text_step : (C : Code) (infos : List BodyInfo) (labels : Labels) (places : List ℕ) (a b c : TextBuffer) (whole : List ℕ) (ps : List BodyPosition) (k : ℕ) (d : BodyPosition) → k < length ps
    → Leaves a b whole (bodies_text C infos labels places k (numbers_of (drop k ps))) → Adds b c (body_text C infos labels places k (get_or ps k d).body)
    → Leaves a c whole (bodies_text C infos labels places (k + 1) (numbers_of (drop (k + 1) ps)))
text_step C infos labels places a b c whole ps k d l h e =
    let more = subst (λ (z : List BodyPosition). Leaves a b whole (bodies_text C infos labels places k (numbers_of z))) (drop_more ps k d l) h in
    leaves_less a b c whole (body_text C infos labels places k (get_or ps k d).body) (bodies_text C infos labels places (k + 1) (numbers_of (drop (k + 1) ps))) more e

pub text_end : (C : Code) (infos : List BodyInfo) (labels : Labels) (places : List ℕ) (a b : TextBuffer) (whole : List ℕ) (rest : List BodyPosition) (k : ℕ) → rest ≡ []
    → Leaves a b whole (bodies_text C infos labels places k (numbers_of rest)) → Adds a b whole
text_end C infos labels places a b whole rest k none h =
    leaves_none a b whole (subst (λ (z : List BodyPosition). Leaves a b whole (bodies_text C infos labels places k (numbers_of z))) none h)
