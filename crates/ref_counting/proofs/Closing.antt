-- Leads are passed on one after another, until all are.
use Rattle.std.proofs.Common.{◌≡◌, ◌⊎◌, inl, inr, ℕ, zero, suc, ◌<◌, ◌≤◌, ◌+◌, List, [], ◌∷◌, ◌++◌, take, length, map, append-nil, append_assoc, get_or, refl, sym, ap, subst, ◌∙◌, arith}
use Rattle.std.specs.List.{flat_map}
use Rattle.std.proofs.lemmas.List.{map_push}
use Rattle.std.proofs.Math.Seq.{take-suc}
use Rattle.dataflow.specs.System.{In}
use Rattle.dataflow.proofs.Lists.{in_split}
use Rattle.task_code.specs.Code.{Code, Entry, Name}
use Rattle.ref_counting.specs.declared.entry_name.EntryName.{EntryName}
use Rattle.ref_counting.specs.declared.openings.BodyOpening.{BodyOpening}
use Rattle.ref_counting.specs.Leads.{name_of}
use Rattle.ref_counting.specs.Openings.{AreHomes, AreOpenings}
use Rattle.ref_counting.specs.Rights.{Adds, AllLead, AllWithin, ByHomes, IsClosed, Passes, StepsOn}
use Rattle.ref_counting.specs.Rows.{row}
use Rattle.ref_counting.proofs.Adding.{passes_home, home_passes, passed_led, passed_within}
use Rattle.ref_counting.proofs.Growing.{still_has, still_plain, old_or_new}

-- one more of a list's beginning
pub take_next : {X : Type 0} (xs : List X) (i : ℕ) (d : X) → i < length xs → take i xs ++ get_or xs i d ∷ [] ≡ take (i + 1) xs
take_next xs i d h = let next : i + 1 ≡ suc i = omega arith in sym (ap (λ n. take n xs) next ∙ take-suc xs i d h)

-- what holds of a list's beginning and of the next member
pub all_next : {X : Type 0} (P : X → Type 0) (xs : List X) (i : ℕ) (d : X) → i < length xs → ((x : X) → In x (take i xs) → P x) → P (get_or xs i d) → (x : X) → In x (take (i + 1) xs) → P x
all_next P xs i d h before here x t = elim (in_split x (take i xs) (get_or xs i d ∷ []) (subst (λ ys. In x ys) (sym (take_next xs i d h)) t)) [
  | inl u ↦ before x u
  | inr u ↦ elim u [ inl e ↦ subst P (sym e) here | inr f ↦ absurd f ]
]

pub map_next : {X Y : Type 0} (f : X → Y) (xs : List X) (i : ℕ) (d : X) → i < length xs → map f (take i xs) ++ f (get_or xs i d) ∷ [] ≡ map f (take (i + 1) xs)
map_next f xs i d h = sym (map_push f (take i xs) (get_or xs i d)) ∙ ap (map f) (take_next xs i d h)

pub flat_next : {X Y : Type 0} (f : X → List Y) (xs : List X) (x : X) → flat_map f (xs ++ x ∷ []) ≡ flat_map f xs ++ f x
flat_next f [] x = append-nil (f x)
flat_next f (y ∷ ys) x = ap (λ zs. f y ++ zs) (flat_next f ys x) ∙ sym (append_assoc (f y) (flat_map f ys) (f x))

-- the members of a list's beginning
pub in_take : {X : Type 0} (x : X) (xs more : List X) (n : ℕ) (d : X) → n < length xs → In x (take (n + 1) (xs ++ more)) → In x (take n xs) ⊎ (x ≡ get_or xs n d)
in_take x [] more n d h t = absurd (omega arith)
in_take x (y ∷ ys) more zero d h t = here t
  where
    here : In x (take 1 (y ∷ ys ++ more)) → In x [] ⊎ (x ≡ y)
    here (inl e) = inr e
    here (inr f) = absurd f
in_take x (y ∷ ys) more (suc n) d h t = elim (split (subst (λ k. In x (take k (y ∷ ys ++ more))) shift t)) [ inl e ↦ inl (inl e) | inr u ↦ elim (in_take x ys more n d (omega arith) u) [ inl v ↦ inl (inr v) | inr e ↦ inr e ] ]
  where
    shift : suc n + 1 ≡ suc (n + 1)
    shift = omega arith

    split : In x (take (suc (n + 1)) (y ∷ ys ++ more)) → (x ≡ y) ⊎ In x (take (n + 1) (ys ++ more))
    split u = u

pub take_past : {X : Type 0} (x : X) (xs : List X) (n : ℕ) → length xs ≤ n → In x xs → In x (take n xs)
take_past x [] n h t = absurd t
take_past x (y ∷ ys) zero h t = absurd (omega arith)
take_past x (y ∷ ys) (suc n) h (inl e) = inl e
take_past x (y ∷ ys) (suc n) h (inr t) = inr (take_past x ys n (omega arith) t)

pub at_in : {X : Type 0} (xs : List X) (n : ℕ) (d : X) → n < length xs → In (get_or xs n d) xs
at_in [] n d h = absurd (omega arith)
at_in (y ∷ ys) zero d h = inl refl
at_in (y ∷ ys) (suc n) d h = inr (at_in ys n d (omega arith))

module _ (C : Code) (hs : List (List ℕ)) (os : List (List BodyOpening)) (H : AreHomes C hs) (O : AreOpenings C os) (lead : EntryName) (old new : List EntryName) (there : In lead old)
    (adds : Adds (ByHomes C os (name_of lead) (row hs lead.entry)) old new) where
  pub still_within : AllWithin C old → AllWithin C new
  still_within W l t = elim (old_or_new l adds.grows t) [ inl u ↦ W l u | inr p ↦ passed_within C lead.entry (name_of lead) l.entry (name_of l) (home_passes C hs os H O lead.entry (name_of lead) l.entry (name_of l) p) ]

  pub still_led : (own : Entry → List Name) → AllLead C own old → AllLead C own new
  still_led own L l t = elim (old_or_new l adds.grows t) [ inl u ↦ L l u | inr p ↦ passed_led C own lead.entry (name_of lead) l.entry (name_of l) (L lead there) (home_passes C hs os H O lead.entry (name_of lead) l.entry (name_of l) p) ]

  pub one_closed : (n : ℕ) (d : EntryName) → n < length old → lead ≡ get_or old n d → AllWithin C old → IsClosed C (take n old) old → IsClosed C (take (n + 1) new) new
  one_closed n d h is W before l t i r p = elim (in_take l old adds.grows.more n d h (subst (λ ls. In l (take (n + 1) ls)) adds.grows.is t)) [
    | inl u ↦ still_has adds.grows (before l u i r p)
    | inr e ↦ adds.all i r (passes_home C hs os H O lead.entry (name_of lead) (W lead there) i r (subst (λ (m : EntryName). Passes C m.entry (name_of m) i r) (e ∙ sym is) p))
  ]

pub all_closed : (C : Code) (ls : List EntryName) (n : ℕ) → length ls ≤ n → IsClosed C (take n ls) ls → IsClosed C ls ls
all_closed C ls n h before l t = before l (take_past l ls n h t)

pub none_closed : (C : Code) (ls : List EntryName) → IsClosed C (take 0 ls) ls
none_closed C ls l t = absurd t

module _ (C : Code) (hs : List (List ℕ)) (os : List (List BodyOpening)) (H : AreHomes C hs) (O : AreOpenings C os) where
  pub steps_on : (lead : EntryName) (n : ℕ) (old new : List EntryName) → n < length old → lead ≡ get_or old n lead → Adds (ByHomes C os (name_of lead) (row hs lead.entry)) old new → StepsOn C n old new
  steps_on lead n old new h is adds =
      let there : In lead old = subst (λ (l : EntryName). In l old) (sym is) (at_in old n lead h) in
      record {
        kept = λ i r t. still_has adds.grows t;
        within = still_within C hs os H O lead old new there adds;
        plain = still_plain adds.grows;
        sound = still_led C hs os H O lead old new there adds;
        closed = λ W before. one_closed C hs os H O lead old new there adds n lead h is W before;
      }
