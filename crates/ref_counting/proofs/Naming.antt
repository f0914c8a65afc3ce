-- The names that leads have of an entry, and that they are its rights.
use Rattle.std.proofs.Common.{◌≡◌, inl, inr, ℕ, suc, zero, ◌<◌, Bool, true, false, List, [], ◌∷◌, length, nat_eq, eq-eqb, refl, sym, ap, subst, ◌∙◌, arith}
use Rattle.std.proofs.lemmas.Bool.{eqb-true}
use Rattle.dataflow.specs.System.{Distinct, In}
use Rattle.task_code.specs.Code.{Code, Entry, Name, blank_entry, entry, nth}
use Rattle.task_code.specs.Exact.{Leads, itself, through}
use Rattle.ref_counting.specs.declared.entry_name.EntryName.{EntryName}
use Rattle.ref_counting.specs.declared.uses.RightKind.{RightKind}
use Rattle.ref_counting.specs.declared.uses.RightKind.TheVariants.{Read, Write}
use Rattle.ref_counting.specs.Leads.{AllPlain, Has, name_of, names_of}
use Rattle.ref_counting.specs.Rights.{Adds, AllLead, AllWithin, AreRights, IsClosed, Passes}
use Rattle.ref_counting.specs.Uses.{UsesBelow, own_of}
use Rattle.ref_counting.proofs.Growing.{none_plain, old_or_new, plain_same, still_plain}

has_later : (l : EntryName) {ls : List EntryName} {i : ℕ} {r : Name} → Has ls i r → Has (l ∷ ls) i r
has_later l h = record { lead = h.lead; there = inr h.there; of = h.of; to = h.to }

pub names_in : (ls : List EntryName) (i : ℕ) (r : Name) → In r (names_of ls i) → Has ls i r
names_in [] i r t = absurd t
names_in (l ∷ ls) i r t = by (nat_eq l.entry i) refl (names_in ls i r) t
  where
    by : (b : Bool) → nat_eq l.entry i ≡ b → (In r (names_of ls i) → Has ls i r) → In r (elim b [ true ↦ name_of l ∷ names_of ls i | false ↦ names_of ls i ]) → Has (l ∷ ls) i r
    by true e rest (inl s) = record { lead = l; there = inl refl; of = eqb-true l.entry i e; to = sym s }
    by true e rest (inr u) = has_later l (rest u)
    by false e rest u = has_later l (rest u)

pub has_names : (ls : List EntryName) (i : ℕ) (r : Name) → Has ls i r → In r (names_of ls i)
has_names ls i r h = by ls h.there
  where
    more : (l : EntryName) (ms : List EntryName) → In r (names_of ms i) → In r (names_of (l ∷ ms) i)
    more l ms u = at (nat_eq l.entry i)
      where
        at : (b : Bool) → In r (elim b [ true ↦ name_of l ∷ names_of ms i | false ↦ names_of ms i ])
        at true = inr u
        at false = u

    by : (ms : List EntryName) → In h.lead ms → In r (names_of ms i)
    by [] t = absurd t
    by (l ∷ ms) (inl e) =
        let own : l.entry ≡ i = ap (λ (m : EntryName). m.entry) (sym e) ∙ h.of in
        let is : r ≡ name_of l = sym h.to ∙ ap name_of e in
        subst (λ b. In r (elim b [ true ↦ name_of l ∷ names_of ms i | false ↦ names_of ms i ])) (sym (eq-eqb l.entry i own)) (inl is)
    by (l ∷ ms) (inr t) = more l ms (by ms t)

pub names_once : (ls : List EntryName) → AllPlain ls → Distinct ls → (i : ℕ) → Distinct (names_of ls i)
names_once [] P D i = tt
names_once (l ∷ ls) P D i = by (nat_eq l.entry i) refl (names_once ls (λ m t. P m (inr t)) D.1 i)
  where
    fresh : l.entry ≡ i → In (name_of l) (names_of ls i) → ⊥
    fresh e t =
        let g = names_in ls i (name_of l) t in
        D.0 (subst (λ m. In m ls) (plain_same g.lead l (P g.lead (inr g.there)) (P l (inl refl)) (g.of ∙ sym e) g.to) g.there)

    by : (b : Bool) → nat_eq l.entry i ≡ b → Distinct (names_of ls i) → Distinct (elim b [ true ↦ name_of l ∷ names_of ls i | false ↦ names_of ls i ])
    by true e rest = (fresh (eqb-true l.entry i e), rest)
    by false e rest = rest

module _ (C : Code) (right : RightKind) (seeds leads : List EntryName) (uses : Adds (UsesBelow C (own_of right) (length C.entries)) [] seeds) where
  pub seeds_within : AllWithin C seeds
  seeds_within l t = elim (old_or_new l uses.grows t) [ inl u ↦ absurd u | inr q ↦ q.0 ]

  pub seeds_lead : AllLead C (own_of right) seeds
  seeds_lead l t = elim (old_or_new l uses.grows t) [ inl u ↦ absurd u | inr q ↦ itself l.entry (name_of l) q.1 ]

  -- an entry past the last uses nothing
  used_there : (i : ℕ) (r : Name) → In r (own_of right (entry C i)) → i < length C.entries
  used_there i r t = by right C.entries i t
    where
      by : (d : RightKind) (es : List Entry) (k : ℕ) → In r (own_of d (nth blank_entry es k)) → k < length es
      by Read [] k t = absurd t
      by Write [] k t = absurd t
      by d (x ∷ xs) zero t = omega arith
      by d (x ∷ xs) (suc k) t = let l : k < length xs = by d xs k t in omega arith

  module _ (kept : (i : ℕ) (r : Name) → Has seeds i r → Has leads i r) (sound : AllLead C (own_of right) seeds → AllLead C (own_of right) leads) (within : AllWithin C leads) (closed : IsClosed C leads leads)
      (plain : AllPlain seeds → AllPlain leads) (distinct : Distinct leads) where
    led_has : (i : ℕ) (r : Name) → Leads C (own_of right) i r → Has leads i r
    led_has i r (itself _ _ h) = kept i r (uses.all i r (used_there i r h, h))
    led_has i r (through _ j b w _ q opens stands l outer seen) =
        let g = led_has j q l in
        closed g.lead g.there i r (subst (λ k. Passes C k (name_of g.lead) i r) (sym g.of) (subst (λ s. Passes C j s i r) (sym g.to) (record { block = b; way = w; opens = opens; stands = stands; sees = record { outer = outer; seen = seen } })))

    pub rights_found : AreRights C (own_of right) leads
    rights_found = record {
      sound = λ i r t. (let g = names_in leads i r t in subst (λ k. Leads C (own_of right) k r) g.of (subst (λ s. Leads C (own_of right) g.lead.entry s) g.to (sound seeds_lead g.lead g.there)));
      complete = λ i r l. has_names leads i r (led_has i r l);
      once = names_once leads (plain (still_plain uses.grows none_plain)) distinct;
      within = within;
    }
