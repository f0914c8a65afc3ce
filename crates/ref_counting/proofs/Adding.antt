-- Leads that are added.
use Rattle.std.proofs.Common.{◌≡◌, ◌⊎◌, inl, inr, ℕ, zero, suc, ◌<◌, ◌+◌, List, [], ◌∷◌, ◌++◌, length, Option, Some, None, refl, sym, ap, subst, ◌∙◌, arith}
use Rattle.dataflow.specs.System.{In}
use Rattle.dataflow.proofs.Lists.{in_left, in_right, in_split}
use Rattle.task_code.specs.declared.entry.Name.{Name as Used}
use Rattle.task_code.specs.Code.{Body, Code, Entry, Name, Way, blank_body, blank_entry, body, entry, nth, ways}
use Rattle.task_code.specs.Exact.{Leads, through}
use Rattle.task_code.specs.View.{name_view}
use Rattle.ref_counting.specs.declared.entry_name.EntryName.{EntryName}
use Rattle.ref_counting.specs.declared.openings.BodyOpening.{BodyOpening}
use Rattle.ref_counting.specs.Leads.{Grows, Has, IsThis}
use Rattle.ref_counting.specs.Openings.{AreHomes, AreOpenings, Noted, way_of}
use Rattle.ref_counting.specs.Passing.{Answers, Sees}
use Rattle.ref_counting.specs.Rights.{Adds, ByHomes, ByOpening, ByOpenings, Passes}
use Rattle.ref_counting.specs.Rows.{row}
use Rattle.ref_counting.specs.Uses.{OfThis, UsesBelow}
use Rattle.ref_counting.proofs.Noting.{below_or_at, opener_there}
use Rattle.ref_counting.proofs.Growing.{grows_not, grows_on, still_has}

pub adds_nothing : (P : ℕ → Name → Type 0) (a : List EntryName) → ((i : ℕ) (r : Name) → P i r → ⊥) → Adds P a a
adds_nothing P a h = record { grows = grows_not a; all = λ i r p. absurd (h i r p) }

pub adds_as : (P Q : ℕ → Name → Type 0) (a b : List EntryName) → ((i : ℕ) (r : Name) → P i r → Q i r) → ((i : ℕ) (r : Name) → Q i r → P i r) → Adds P a b → Adds Q a b
adds_as P Q a b f g h = record { grows = grows_on f (grows_not a) h.grows; all = λ i r q. h.all i r (g i r q) }

pub adds_both : (P Q R : ℕ → Name → Type 0) (a b c : List EntryName) → ((i : ℕ) (r : Name) → P i r → R i r) → ((i : ℕ) (r : Name) → Q i r → R i r) → ((i : ℕ) (r : Name) → R i r → P i r ⊎ Q i r) → Adds P a b → Adds Q b c → Adds R a c
adds_both P Q R a b c f g split x y = record { grows = grows_on g (grows_on f (grows_not a) x.grows) y.grows; all = all }
  where
    all : (i : ℕ) (r : Name) → R i r → Has c i r
    all i r t = elim (split i r t) [ inl p ↦ still_has y.grows (x.all i r p) | inr q ↦ y.all i r q ]

-- a name is put where an answer has it
pub adds_answer : (e : ℕ) (P : Name → Type 0) (answer : Option Used) (x : Used) (a b : List EntryName) → Answers answer P → answer ≡ Some x → Has b e (name_view x) → Grows (IsThis e (name_view x)) a b → Adds (λ i r. (i ≡ e) × P r) a b
adds_answer e P answer x a b h is there grows = record { grows = grows_on only (grows_not a) grows; all = all }
  where
    only : (i : ℕ) (r : Name) → IsThis e (name_view x) i r → (i ≡ e) × P r
    only i r t = (t.0, subst P (sym t.1) (h.such x is))

    all : (i : ℕ) (r : Name) → (i ≡ e) × P r → Has b i r
    all i r t =
        let found = h.all r t.1 in
        let same : found.0 ≡ x = some_same (sym found.1 ∙ is) in
        subst (λ j. Has b j r) (sym t.0) (subst (λ n. Has b e n) (ap name_view (sym same) ∙ found.2) there)
      where
        some_same : {y z : Used} → ◌≡◌ {A = Option Used} (Some y) (Some z) → y ≡ z
        some_same h = cc

pub adds_no_answer : (e : ℕ) (P : Name → Type 0) (answer : Option Used) (a : List EntryName) → Answers answer P → answer ≡ None → Adds (λ i r. (i ≡ e) × P r) a a
adds_no_answer e P answer a h is = adds_nothing (λ i r. (i ≡ e) × P r) a (λ i r t. (let found = h.all r t.1 in let no_one : ◌≡◌ {A = Option Used} None (Some found.0) = sym is ∙ found.1 in absurd (cc)))

-- OPENINGS AND HOMES

module _ (C : Code) (b : ℕ) (q : Name) where
  pub no_opening : (a : List EntryName) → Adds (ByOpenings C b q []) a a
  no_opening a = adds_nothing (ByOpenings C b q []) a (λ i r t. t.1)

  pub next_opening : (os : List BodyOpening) (o : BodyOpening) (x y z : List EntryName) → Adds (ByOpenings C b q os) x y → Adds (ByOpening C b q o) y z → Adds (ByOpenings C b q (os ++ o ∷ [])) x z
  next_opening os o x y z f g = adds_both (ByOpenings C b q os) (ByOpening C b q o) (ByOpenings C b q (os ++ o ∷ [])) x y z
      (λ i r t. (t.0, in_left t.0 os (o ∷ []) t.1, t.2))
      (λ i r t. (o, in_right o os (o ∷ []) (inl refl), t))
      (λ i r t. elim (in_split t.0 os (o ∷ []) t.1) [ inl u ↦ inl (t.0, u, t.2) | inr u ↦ elim u [ inl e ↦ inr (subst (λ p. ByOpening C b q p i r) e t.2) | inr f ↦ absurd f ] ])
      f g

module _ (C : Code) (os : List (List BodyOpening)) (q : Name) where
  pub no_home_left : (a : List EntryName) → Adds (ByHomes C os q []) a a
  no_home_left a = adds_nothing (ByHomes C os q []) a (λ i r t. t.1)

  pub next_home_left : (bs : List ℕ) (b : ℕ) (x y z : List EntryName) → Adds (ByHomes C os q bs) x y → Adds (ByOpenings C b q (row os b)) y z → Adds (ByHomes C os q (bs ++ b ∷ [])) x z
  next_home_left bs b x y z f g = adds_both (ByHomes C os q bs) (ByOpenings C b q (row os b)) (ByHomes C os q (bs ++ b ∷ [])) x y z
      (λ i r t. (t.0, in_left t.0 bs (b ∷ []) t.1, t.2))
      (λ i r t. (b, in_right b bs (b ∷ []) (inl refl), t))
      (λ i r t. elim (in_split t.0 bs (b ∷ []) t.1) [ inl u ↦ inl (t.0, u, t.2) | inr u ↦ elim u [ inl e ↦ inr (subst (λ c. ByOpenings C c q (row os c) i r) e t.2) | inr f ↦ absurd f ] ])
      f g

-- a body past the last has no entries
pub body_there : (C : Code) (j b : ℕ) → In j (body C b).entries → b < length C.bodies
body_there C j b t = by C.bodies b t
  where
    by : (bs : List Body) (k : ℕ) → In j (nth blank_body bs k).entries → k < length bs
    by [] k t = absurd t
    by (x ∷ xs) zero t = omega arith
    by (x ∷ xs) (suc k) t = let l : k < length xs = by xs k t in omega arith

-- PASSING ON

module _ (C : Code) (hs : List (List ℕ)) (os : List (List BodyOpening)) (H : AreHomes C hs) (O : AreOpenings C os) where
  pub passes_home : (j : ℕ) (q : Name) → j < length C.entries → (i : ℕ) (r : Name) → Passes C j q i r → ByHomes C os q (row hs j) i r
  passes_home j q h i r p =
      let l : p.block < length C.bodies = body_there C j p.block p.stands in
      let n : Noted i p.way (row os p.block) = O.all i p.block p.way (opener_there C p.way i p.block p.opens) l p.opens in
      (p.block, H.all j p.block l (record { opener = i; way = p.way; opens = p.opens }) h p.stands, (n.opening, n.there, (sym n.of, subst (λ k. Sees C k (way_of n.opening.way) p.block q r) (sym n.of) (subst (λ w. Sees C i w p.block q r) (sym n.by) p.sees))))

  pub home_passes : (j : ℕ) (q : Name) (i : ℕ) (r : Name) → ByHomes C os q (row hs j) i r → Passes C j q i r
  home_passes j q i r t =
      let b : ℕ = t.0 in
      let o : BodyOpening = t.2.0 in
      let e : i ≡ o.entry = t.2.2.0 in
      subst (λ k. Passes C j q k r) (sym e) (record { block = b; way = way_of o.way; opens = O.only b o t.2.1; stands = H.only j b t.1; sees = t.2.2.1 })

-- what is passed on is led to
pub passed_led : (C : Code) (own : Entry → List Name) (j : ℕ) (q : Name) (i : ℕ) (r : Name) → Leads C own j q → Passes C j q i r → Leads C own i r
passed_led C own j q i r l p = through i j p.block p.way r q p.opens p.stands l p.sees.outer p.sees.seen

pub passed_within : (C : Code) (j : ℕ) (q : Name) (i : ℕ) (r : Name) → Passes C j q i r → i < length C.entries
passed_within C j q i r p = opener_there C p.way i p.block p.opens

-- NAMES OF ONE ENTRY

pub adds_one : (n : ℕ) (q : Name) (a b : List EntryName) → Has b n q → Grows (IsThis n q) a b → Adds (OfThis n (q ∷ [])) a b
adds_one n q a b there grows = record { grows = grows_on (λ i r t. (t.0, inl t.1)) (grows_not a) grows; all = all }
  where
    all : (i : ℕ) (r : Name) → OfThis n (q ∷ []) i r → Has b i r
    all i r t = elim (t.1) [ inl e ↦ subst (λ j. Has b j r) (sym t.0) (subst (λ x. Has b n x) (sym e) there) | inr f ↦ absurd f ]

pub adds_none_of : (n : ℕ) (a : List EntryName) → Adds (OfThis n []) a a
adds_none_of n a = adds_nothing (OfThis n []) a (λ i r t. t.1)

pub adds_more : (n : ℕ) (xs ys : List Name) (a b c : List EntryName) → Adds (OfThis n xs) a b → Adds (OfThis n ys) b c → Adds (OfThis n (xs ++ ys)) a c
adds_more n xs ys a b c f g = adds_both (OfThis n xs) (OfThis n ys) (OfThis n (xs ++ ys)) a b c
    (λ i r t. (t.0, in_left r xs ys t.1))
    (λ i r t. (t.0, in_right r xs ys t.1))
    (λ i r t. elim (in_split r xs ys t.1) [ inl u ↦ inl (t.0, u) | inr u ↦ inr (t.0, u) ])
    f g

module _ (C : Code) (own : Entry → List Name) where
  pub no_uses : (a : List EntryName) → Adds (UsesBelow C own 0) a a
  no_uses a = adds_nothing (UsesBelow C own 0) a (λ i r t. (let l : i < 0 = t.0 in absurd (omega arith)))

  pub more_uses : (n : ℕ) (a b c : List EntryName) → Adds (UsesBelow C own n) a b → Adds (OfThis n (own (entry C n))) b c → Adds (UsesBelow C own (n + 1)) a c
  more_uses n a b c f g = adds_both (UsesBelow C own n) (OfThis n (own (entry C n))) (UsesBelow C own (n + 1)) a b c
      (λ i r t. (let l : i < n = t.0 in (omega arith, t.1)))
      (λ i r t. (let e : i ≡ n = t.0 in (omega arith, subst (λ k. In r (own (entry C k))) (sym e) t.1)))
      (λ i r t. elim (below_or_at i n t.0) [ inl u ↦ inl (u, t.1) | inr e ↦ inr (e, subst (λ k. In r (own (entry C k))) e t.1) ])
      f g
