-- Entries lead to the same names whatever rights they have.
use Rattle.std.proofs.Common.{◌≡◌, refl, sym, ap, ◌∙◌, subst, ℕ, zero, suc, Bool, true, false, List, [], ◌∷◌, map}
use Rattle.std.specs.Prelude.{nat_eq}
use Rattle.dataflow.specs.System.{In}
use Rattle.task_code.specs.Code.{Act, Cell, Read, Call, Set, Fill, Copy, InsertElement, Print, Assert, If, Range, Each, Wait, Entry, Body, Code, Name, Argument, Way, InPlace, Through, Calling, blank_entry, nth, entry, call_from, call_at, arguments, argument_in, argument, ways}
use Rattle.task_code.specs.Exact.{Leads, itself, through}
use Rattle.task_code.specs.Whole.{Seen, Declared}
use Rattle.code_rules.specs.Laying.{bare}

abbrev pub bare_code : Code → Code
bare_code C = record { entries = map bare C.entries; bodies = C.bodies }

-- the call at an offset is the same
call_step : (e : Entry) (a : Act) (i at : ℕ) (ds es : List Entry) → call_from (suc i) ds at ≡ call_from (suc i) es at
    → call_from i (bare (record e { act = a }) ∷ ds) at ≡ call_from i (record e { act = a } ∷ es) at
call_step e (Cell x) i at ds es h = h
call_step e Read i at ds es h = h
call_step e (Call b ins outs) i at ds es h = ap (λ (n : ℕ). elim (nat_eq e.offset at) [ true ↦ i | false ↦ n ]) h
call_step e (Set r x) i at ds es h = h
call_step e (Fill r xs) i at ds es h = h
call_step e (Copy r) i at ds es h = h
call_step e (InsertElement r x y) i at ds es h = h
call_step e (Print x) i at ds es h = h
call_step e (Assert x) i at ds es h = h
call_step e (If x b d) i at ds es h = h
call_step e (Range l u s w) i at ds es h = h
call_step e (Each w) i at ds es h = h
call_step e (Wait hs b) i at ds es h = h

call_same : (i : ℕ) (es : List Entry) (at : ℕ) → call_from i (map bare es) at ≡ call_from i es at
call_same i [] at = refl
call_same i (e ∷ es) at = call_step e e.act i at (map bare es) es (call_same (suc i) es at)

pub nth_same : (es : List Entry) (i : ℕ) → nth blank_entry (map bare es) i ≡ bare (nth blank_entry es i)
nth_same [] i = refl
nth_same (e ∷ es) zero = refl
nth_same (e ∷ es) (suc i) = nth_same es i

module _ (C : Code) where
  entry_same : (i : ℕ) → entry (bare_code C) i ≡ bare (entry C i)
  entry_same i = nth_same C.entries i

  mark_same : (i : ℕ) → (entry (bare_code C) i).offset ≡ (entry C i).offset
  mark_same i = ap (λ e. e.offset) (entry_same i)

  opens_same : (i : ℕ) → ways (entry (bare_code C) i).act ≡ ways (entry C i).act
  opens_same i = ap (λ e. ways e.act) (entry_same i)

  argument_same : (at k : ℕ) (b : Bool) → argument (bare_code C) at k b ≡ argument C at k b
  argument_same at k b =
      ap (λ n. argument_in (arguments (entry (bare_code C) n).act) k b) (call_same 0 C.entries at)
      ∙ ap (λ (xs : List Argument). argument_in xs k b) (ap (λ e. arguments e.act) (entry_same (call_at C at)))

  seen_in : (m n : ℕ) (w : Way) (r s : Name) → m ≡ n → Seen (bare_code C) m w r s → Seen C n w r s
  seen_in m n InPlace r s q h = h
  seen_in m n Through r s q h = h
  seen_in m n Calling r s q h = (h.0, h.1, h.2, ap (λ at. argument C at h.0 h.1) (sym q) ∙ sym (argument_same m h.0 h.1) ∙ h.3)

  seen_out : (m n : ℕ) (w : Way) (r s : Name) → m ≡ n → Seen C n w r s → Seen (bare_code C) m w r s
  seen_out m n InPlace r s q h = h
  seen_out m n Through r s q h = h
  seen_out m n Calling r s q h = (h.0, h.1, h.2, argument_same m h.0 h.1 ∙ ap (λ at. argument C at h.0 h.1) q ∙ h.3)

  declared_in : (b : ℕ) (r : Name) → Declared (bare_code C) b r → Declared C b r
  declared_in b r d = record { variable = d.variable; is = d.is; made = d.made }

  declared_out : (b : ℕ) (r : Name) → Declared C b r → Declared (bare_code C) b r
  declared_out b r d = record { variable = d.variable; is = d.is; made = d.made }

  -- what the code leads to without rights, and what it leads to with them
  module _ (own : Entry → List Name) (own_same : (e : Entry) → own (bare e) ≡ own e) where
    uses_same : (i : ℕ) → own (entry (bare_code C) i) ≡ own (entry C i)
    uses_same i = ap own (entry_same i) ∙ own_same (entry C i)

    pub leads_in : (i : ℕ) (r : Name) → Leads (bare_code C) own i r → Leads C own i r
    leads_in i r (itself _ _ h) = itself i r (subst (λ (ns : List Name). In r ns) (uses_same i) h)
    leads_in i r (through _ j b w _ q o s l lacks seen) =
        through i j b w r q (subst (λ (ws : List (Way × ℕ)). In (w, b) ws) (opens_same i) o) s (leads_in j q l) (λ d. lacks (declared_out b q d)) (seen_in (entry (bare_code C) i).offset (entry C i).offset w q r (mark_same i) seen)

    pub leads_out : (i : ℕ) (r : Name) → Leads C own i r → Leads (bare_code C) own i r
    leads_out i r (itself _ _ h) = itself i r (subst (λ (ns : List Name). In r ns) (sym (uses_same i)) h)
    leads_out i r (through _ j b w _ q o s l lacks seen) =
        through i j b w r q (subst (λ (ws : List (Way × ℕ)). In (w, b) ws) (sym (opens_same i)) o) s (leads_out j q l) (λ d. lacks (declared_in b q d)) (seen_out (entry (bare_code C) i).offset (entry C i).offset w q r (mark_same i) seen)

same_code : (es ds : List Entry) (bs cs : List Body) → es ≡ ds → bs ≡ cs → ◌≡◌ {A = Code} (record { entries = es; bodies = bs }) (record { entries = ds; bodies = cs })
same_code es ds bs cs p q = ap (λ xs. record { entries = xs; bodies = bs }) p ∙ ap (λ ys. record { entries = ds; bodies = ys }) q

-- codes that are the same but for rights lead to the same
module _ (C D : Code) (p : map bare C.entries ≡ map bare D.entries) (q : C.bodies ≡ D.bodies) (own : Entry → List Name) (own_same : (e : Entry) → own (bare e) ≡ own e) where
  pub leads_too : (i : ℕ) (r : Name) → Leads C own i r → Leads D own i r
  leads_too i r l = leads_in D own own_same i r (subst (λ (B : Code). Leads B own i r) (same_code (map bare C.entries) (map bare D.entries) C.bodies D.bodies p q) (leads_out C own own_same i r l))
