-- A list of leads as more are put behind it.
use Rattle.std.proofs.Common.{◌≡◌, ◌⊎◌, ℕ, Bool, true, false, ◌&&◌, List, [], ◌∷◌, ◌++◌, refl, sym, ap, subst, ◌∙◌, if◌then◌else◌, append_assoc, append-nil, inl, inr}
use Rattle.std.specs.List.{list_any}
use Rattle.std.proofs.Math.Bool.{beq}
use Rattle.std.proofs.Math.Dec.{eqb}
use Rattle.std.proofs.lemmas.Bool.{and_from, eqb-true, and_parts}
use Rattle.std.proofs.lemmas.Bool.Decides.{eqb_tells}
use Rattle.indexmap.specs.IndexSet.{insert_key}
use Rattle.dataflow.specs.System.{In}
use Rattle.dataflow.proofs.Lists.{in_left, in_split}
use Rattle.task_code.specs.Code.{Local, Name, Parameter, Variable}
use Rattle.ref_counting.specs.declared.entry_name.EntryName.{EntryName}
use Rattle.ref_counting.proofs.Keys.{same_flag}
use Rattle.ref_counting.specs.Leads.{AllPlain, Grows, Has, IsPlain, IsThis, name_of}

-- leads are the same where all their fields are
abbrev pub same_fields : EntryName → EntryName → Bool
same_fields a b = eqb a.entry b.entry && (eqb a.up b.up && (beq a.local b.local && (eqb a.node b.node && (eqb a.place b.place && beq a.array b.array))))

pub same_lead : (a b : EntryName) → same_fields a b ≡ true → a ≡ b
same_lead a b h =
    let x = and_parts (eqb a.entry b.entry) _ h in
    let y = and_parts (eqb a.up b.up) _ x.1 in
    let z = and_parts (beq a.local b.local) _ y.1 in
    let w = and_parts (eqb a.node b.node) _ z.1 in
    let q = and_parts (eqb a.place b.place) _ w.1 in
    let e : a.entry ≡ b.entry = eqb-true a.entry b.entry x.0 in
    let u : a.up ≡ b.up = eqb-true a.up b.up y.0 in
    let l : a.local ≡ b.local = same_flag a.local b.local z.0 in
    let n : a.node ≡ b.node = eqb-true a.node b.node w.0 in
    let p : a.place ≡ b.place = eqb-true a.place b.place q.0 in
    let r : a.array ≡ b.array = same_flag a.array b.array q.1 in
    λ i. record { entry = e i; up = u i; local = l i; node = n i; place = p i; array = r i }

-- GROWTH

pub grows_not : {P : ℕ → Name → Type 0} (ls : List EntryName) → Grows P ls ls
grows_not ls = record { more = []; is = sym (append-nil ls); each = λ l h. absurd h; plain = λ l h. absurd h }

pub put_grows : (ls : List EntryName) (l : EntryName) (i : ℕ) (r : Name) → l.entry ≡ i → name_of l ≡ r → IsPlain l → Grows (IsThis i r) ls (insert_key same_fields ls l)
put_grows ls l i r e n p = by (list_any (same_fields l) ls)
  where
    plain : AllPlain (l ∷ [])
    plain m (inl s) = subst IsPlain (sym s) p
    plain m (inr h) = absurd h

    each : (m : EntryName) → In m (l ∷ []) → IsThis i r m.entry (name_of m)
    each m (inl s) = (ap (λ (x : EntryName). x.entry) s ∙ e, ap name_of s ∙ n)
    each m (inr h) = absurd h

    by : (b : Bool) → Grows (IsThis i r) ls (if b then ls else ls ++ l ∷ [])
    by true = grows_not ls
    by false = record { more = l ∷ []; is = refl; each = each; plain = plain }

pub grows_on : {P Q : ℕ → Name → Type 0} {a b c : List EntryName} → ((i : ℕ) (r : Name) → Q i r → P i r) → Grows P a b → Grows Q b c → Grows P a c
grows_on {P} {Q} {a} {b} {c} weaken g h = record { more = g.more ++ h.more; is = h.is ∙ ap (λ x. x ++ h.more) g.is ∙ append_assoc a g.more h.more; each = each; plain = plain }
  where
    plain : AllPlain (g.more ++ h.more)
    plain l t = elim (in_split l g.more h.more t) [ inl q ↦ g.plain l q | inr q ↦ h.plain l q ]

    each : (l : EntryName) → In l (g.more ++ h.more) → P l.entry (name_of l)
    each l t = elim (in_split l g.more h.more t) [ inl q ↦ g.each l q | inr q ↦ weaken l.entry (name_of l) (h.each l q) ]

pub still_in : {P : ℕ → Name → Type 0} {a b : List EntryName} (l : EntryName) → Grows P a b → In l a → In l b
still_in {P} {a} {b} l g t = subst (In l) (sym g.is) (in_left l a g.more t)

pub still_has : {P : ℕ → Name → Type 0} {a b : List EntryName} {i : ℕ} {r : Name} → Grows P a b → Has a i r → Has b i r
still_has g h = record { lead = h.lead; there = still_in h.lead g h.there; of = h.of; to = h.to }

-- each lead is old or such
pub old_or_new : {P : ℕ → Name → Type 0} {a b : List EntryName} (l : EntryName) → Grows P a b → In l b → In l a ⊎ P l.entry (name_of l)
old_or_new {P} {a} {b} l g t = elim (in_split l a g.more (subst (In l) g.is t)) [ inl q ↦ inl q | inr q ↦ inr (g.each l q) ]

-- PLAIN LEADS

pub none_plain : AllPlain []
none_plain l t = absurd t

pub still_plain : {P : ℕ → Name → Type 0} {a b : List EntryName} → Grows P a b → AllPlain a → AllPlain b
still_plain {P} {a} {b} g h l t = elim (in_split l a g.more (subst (In l) g.is t)) [ inl q ↦ h l q | inr q ↦ g.plain l q ]

eqb_self : (n : ℕ) → eqb n n ≡ true
eqb_self n = elim (eqb_tells n n) [ inl q ↦ q.0 | inr q ↦ absurd (q.1 refl) ]

beq_self : (b : Bool) → beq b b ≡ true
beq_self true = refl
beq_self false = refl

pub same_self : (l : EntryName) → same_fields l l ≡ true
same_self l =
    and_from _ _ (eqb_self l.entry) (and_from _ _ (eqb_self l.up) (and_from _ _ (beq_self l.local) (and_from _ _ (eqb_self l.node) (and_from _ _ (eqb_self l.place) (beq_self l.array)))))

-- the name of a lead, where it is known whether that is a variable's
abbrev pub named : Bool → EntryName → Name
named b l = record { up = l.up; owned = if b then Local (record { node = l.node; array = l.array }) else Parameter l.place l.array }

-- plain leads of one entry to one name are the same
pub plain_same : (a b : EntryName) → IsPlain a → IsPlain b → a.entry ≡ b.entry → name_of a ≡ name_of b → a ≡ b
plain_same a b p q e n = by a.local b.local refl refl
  where
    at : {x y : Bool} → a.local ≡ x → b.local ≡ y → named x a ≡ named y b
    at la lb = ap (λ x. named x a) (sym la) ∙ n ∙ ap (λ y. named y b) lb

    same_variable : {v w : Variable} → Local v ≡ Local w → v ≡ w
    same_variable h = cc (h)

    same_place : {i j : ℕ} {x y : Bool} → Parameter i x ≡ Parameter j y → i ≡ j
    same_place h = cc (h)

    same_kind : {i j : ℕ} {x y : Bool} → Parameter i x ≡ Parameter j y → x ≡ y
    same_kind h = cc (h)

    all : a.up ≡ b.up → a.local ≡ b.local → a.node ≡ b.node → a.place ≡ b.place → a.array ≡ b.array → a ≡ b
    all u l m k r = λ i. record { entry = e i; up = u i; local = l i; node = m i; place = k i; array = r i }

    by : (x y : Bool) → a.local ≡ x → b.local ≡ y → a ≡ b
    by true true la lb =
        let v = same_variable (ap (λ (m : Name). m.owned) (at la lb)) in
        all (ap (λ (m : Name). m.up) (at la lb)) (la ∙ sym lb) (ap (λ (w : Variable). w.node) v) (p.0 la ∙ sym (q.0 lb)) (ap (λ (w : Variable). w.array) v)
    by false false la lb =
        let o : Parameter a.place a.array ≡ Parameter b.place b.array = ap (λ (m : Name). m.owned) (at la lb) in
        all (ap (λ (m : Name). m.up) (at la lb)) (la ∙ sym lb) (p.1 la ∙ sym (q.1 lb)) (same_place o) (same_kind o)
    by true false la lb =
        let o : Local (record { node = a.node; array = a.array }) ≡ Parameter b.place b.array = ap (λ (m : Name). m.owned) (at la lb) in
        absurd (cc (o))
    by false true la lb =
        let o : Parameter a.place a.array ≡ Local (record { node = b.node; array = b.array }) = ap (λ (m : Name). m.owned) (at la lb) in
        absurd (cc (o))
