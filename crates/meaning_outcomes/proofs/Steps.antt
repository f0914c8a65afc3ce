-- Steps of loops that list one thing after another.
use Rattle.std.specs.Prelude.{◌≡◌, ℕ, suc, ◌+◌, ◌<◌, List, [], ◌∷◌, ◌++◌, length, map, reverse, take, refl}
use Rattle.std.proofs.Common.{sym, ap, ◌∙◌, arith, get_or}
use Rattle.std.proofs.lemmas.List.{map-append, append_assoc, append-nil, reverse-append, reverse-reverse, take_more}
use Rattle.meaning_facts.specs.declared.fact_base.FactBase.{FactBase}
use Rattle.meaning_invariants.specs.Active.{Active}
use Rattle.meaning_outcomes.specs.Stuck.{is_stuck_in}
use Rattle.meaning_round.specs.declared.state.LiveTask.{LiveTask}
use Rattle.meaning_round.specs.Standing.{active_of}
use Rattle.meaning_outcomes.specs.declared.knowledge.BlockedId.{BlockedId}
use Rattle.meaning_outcomes.specs.Known.{stuck_among, stuck_if}

-- one more that is told as the next one is
pub map_next : {X Y Z : Type 0} (f : X → Z) (g : Y → Z) (xs new : List X) (ys : List Y) (i : ℕ) (x : X) (d : Y) → i < length ys → map f xs ≡ map g (take i ys) → f x ≡ g (get_or ys i d) → new ≡ xs ++ x ∷ []
    → map f new ≡ map g (take (i + 1) ys)
map_next {X} {Y} {Z} f g xs new ys i x d l m p n =
    ap (λ (zs : List X). map f zs) n ∙ map-append f xs (x ∷ []) ∙ ap (λ (zs : List Z). zs ++ f x ∷ []) m ∙ ap (λ (z : Z). map g (take i ys) ++ z ∷ []) p
    ∙ sym (map-append g (take i ys) (get_or ys i d ∷ [])) ∙ ap (λ (zs : List Y). map g zs) (sym (take_more ys i d l))

abbrev stuck_one : FactBase → Active → List BlockedId
stuck_one l a = stuck_if (is_stuck_in l a.instance a.statement) a

stuck_append : (l : FactBase) (xs bs : List Active) → stuck_among l (xs ++ bs) ≡ stuck_among l xs ++ stuck_among l bs
stuck_append l [] bs = refl
stuck_append l (a ∷ xs) bs = ap (λ (z : List BlockedId). stuck_one l a ++ z) (stuck_append l xs bs) ∙ sym (append_assoc (stuck_one l a) (stuck_among l xs) (stuck_among l bs))

pub stuck_step : {A : Type 0} (l : FactBase) (ts : List (LiveTask A)) (i : ℕ) (d : LiveTask A) (ys zs : List BlockedId) → i < length ts
    → ys ≡ stuck_among l (map active_of (take i ts)) → zs ≡ ys ++ stuck_if (is_stuck_in l (active_of (get_or ts i d)).instance (active_of (get_or ts i d)).statement) (active_of (get_or ts i d))
    → zs ≡ stuck_among l (map active_of (take (i + 1) ts))
stuck_step {A} l ts i d ys zs h e f =
    f ∙ ap (λ (z : List BlockedId). z ++ stuck_one l (active_of (get_or ts i d))) e
    ∙ ap (λ (z : List BlockedId). stuck_among l (map active_of (take i ts)) ++ z) (sym (append-nil (stuck_one l (active_of (get_or ts i d)))))
    ∙ sym (stuck_append l (map active_of (take i ts)) (active_of (get_or ts i d) ∷ []))
    ∙ ap (λ (z : List Active). stuck_among l z) (sym (map-append active_of (take i ts) (get_or ts i d ∷ [])) ∙ ap (λ (z : List (LiveTask A)). map active_of z) (sym (take_more ts i d h)))

-- LISTS THAT ARE TURNED ROUND

pub turned : {X Y : Type 0} (f : X → Y) (xs : List X) → map f (reverse xs) ≡ reverse (map f xs)
turned f [] = refl
turned f (x ∷ xs) = ap (map f) (reverse-append (x ∷ []) xs) ∙ map-append f (reverse xs) (x ∷ []) ∙ ap (λ ys. ys ++ f x ∷ []) (turned f xs) ∙ sym (reverse-append (f x ∷ []) (map f xs))

pub turned_back : {X Y : Type 0} (f : X → Y) (xs ys : List X) (zs : List Y) → ys ≡ reverse xs → map f xs ≡ zs → reverse (map f ys) ≡ zs
turned_back f xs ys zs e h = ap (λ z. reverse (map f z)) e ∙ ap reverse (turned f xs) ∙ reverse-reverse (map f xs) ∙ h
