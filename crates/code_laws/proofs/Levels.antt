-- How deep a body that is reached lies in that of its function, and which body declares what an entry may write.
use Rattle.std.proofs.Common.{◌≡◌, ◌⊎◌, inl, inr, ℕ, suc, ◌<◌, Bool, refl, sym, ap, ap₂, ◌∙◌, subst, arith}
use Rattle.std.proofs.lemmas.Option.{same_Some}
use Rattle.dataflow.specs.System.{In}
use Rattle.task_code.specs.Code.{Variable, Owned, Local, Parameter, Name, Named, Code, Way, InPlace, Through, Calling, Opener, ByMain, ByWait, ByStep, ByCalls, arguments, call_at, entry, body, here, is_array_name}
use Rattle.task_code.specs.Whole.{IsCode, OpenedBy, Declared, SeenFrom, Seen}
use Rattle.code_laws.specs.Sources.{Reached, at_start, by_entry}
use Rattle.code_laws.proofs.Arguments.{arg_at}

-- LEVELS

-- a called body begins anew
abbrev pub way_level : Way → ℕ → ℕ
way_level InPlace n = suc n
way_level Through n = suc n
way_level Calling n = 0

-- each other one lies one further in
pub step_deeper : (w : Way) (n : ℕ) → (w ≡ Calling → ⊥) → n < way_level w n
step_deeper InPlace n h = omega arith
step_deeper Through n h = omega arith
step_deeper Calling n h = absurd (h refl)

abbrev pub level : {C : Code} {b : ℕ} → Reached C b → ℕ
level at_start = 0
level (by_entry i w x h p) = way_level w (level x)

-- two ways into one body
data Same (w : Way) (i : ℕ) (v : Way) (j : ℕ) : Type 0 where
  both_call : w ≡ Calling → v ≡ Calling → Same w i v j
  same_entry : w ≡ v → i ≡ j → Same w i v j

wait_same : {i j : ℕ} → ByWait i ≡ ByWait j → i ≡ j
wait_same h = cc

step_same : {i j : ℕ} → ByStep i ≡ ByStep j → i ≡ j
step_same h = cc

same_opener : (C : Code) (i j : ℕ) (w v : Way) (o : Opener) → OpenedBy C i w o → OpenedBy C j v o → Same w i v j
same_opener C i j InPlace InPlace o h g = same_entry refl (wait_same (sym h ∙ g))
same_opener C i j Through Through o h g = same_entry refl (step_same (sym h ∙ g))
same_opener C i j Calling Calling o h g = both_call refl refl
same_opener C i j InPlace Through o h g = (let q : ByWait i ≡ ByStep j = sym h ∙ g in absurd (cc (q)))
same_opener C i j Through InPlace o h g = (let q : ByStep i ≡ ByWait j = sym h ∙ g in absurd (cc (q)))
same_opener C i j InPlace Calling o h g = (let q : ByWait i ≡ ByCalls = sym h ∙ g.0 in absurd (cc (q)))
same_opener C i j Through Calling o h g = (let q : ByStep i ≡ ByCalls = sym h ∙ g.0 in absurd (cc (q)))
same_opener C i j Calling InPlace o h g = (let q : ByCalls ≡ ByWait j = sym h.0 ∙ g in absurd (cc (q)))
same_opener C i j Calling Through o h g = (let q : ByCalls ≡ ByStep j = sym h.0 ∙ g in absurd (cc (q)))

not_main : {A : Type 0} (C : Code) (i : ℕ) (w : Way) (o : Opener) → OpenedBy C i w o → o ≡ ByMain → A
not_main C i InPlace o h e = (let q : ByWait i ≡ ByMain = sym h ∙ e in absurd (cc (q)))
not_main C i Through o h e = (let q : ByStep i ≡ ByMain = sym h ∙ e in absurd (cc (q)))
not_main C i Calling o h e = (let q : ByCalls ≡ ByMain = sym h.0 ∙ e in absurd (cc (q)))

-- NAMES

pub local_same : {v w : Variable} → Local v ≡ Local w → v ≡ w
local_same h = cc

no_local : {A : Type 0} {k : ℕ} {b : Bool} {v : Variable} → Parameter k b ≡ Local v → A
no_local h = absurd (cc (h))

pub named_same : {r q : Name} → Named r ≡ Named q → r ≡ q
named_same h = cc

-- the same variable, or the same parameter, but for whether it is an array
abbrev pub SameSlot : Owned → Owned → Type 0
SameSlot (Local v) (Local w) = v.node ≡ w.node
SameSlot (Parameter k b) (Parameter k' b') = k ≡ k'
SameSlot (Local v) (Parameter k b) = ⊥
SameSlot (Parameter k b) (Local v) = ⊥

module _ (C : Code) (I : IsCode C) where
  pub level_same : {b d : ℕ} (x : Reached C b) (y : Reached C d) → b ≡ d → level x ≡ level y
  level_same at_start at_start e = refl
  level_same at_start (by_entry {d = d} j v y g q) e = not_main C j v (body C d).opener (I.fits j v d q).opened (subst (λ (n : ℕ). (body C n).opener ≡ ByMain) e I.script)
  level_same (by_entry {d = d} i w x h p) at_start e = not_main C i w (body C d).opener (I.fits i w d p).opened (subst (λ (n : ℕ). (body C n).opener ≡ ByMain) (sym e) I.script)
  level_same (by_entry {b = b} {d = d} i w x h p) (by_entry {b = b'} {d = d'} j v y g q) e =
      by (same_opener C i j w v (body C d).opener (I.fits i w d p).opened (subst (λ (n : ℕ). OpenedBy C j v (body C n).opener) (sym e) (I.fits j v d' q).opened)) (λ z. level_same x y z)
    where
      by : Same w i v j → (b ≡ b' → level x ≡ level y) → way_level w (level x) ≡ way_level v (level y)
      by (both_call r s) rec = ap (λ (z : Way). way_level z (level x)) r ∙ sym (ap (λ (z : Way). way_level z (level y)) s)
      by (same_entry r s) rec = ap₂ way_level r (rec (I.entries_once b b' i h (subst (λ (n : ℕ). In n (body C b').entries) (sym s) g)))

  -- a variable is made in this body, and named without a step, or further out
  pub record Declarer (t n up : ℕ) (v : Variable) : Type 0 where
    pub home : ℕ
    pub reached : Reached C home
    pub made : In v (body C home).makes
    pub far : ((home ≡ t) × (up ≡ 0)) ⊎ (level reached < n)

  further : {u t up up' : ℕ} {v : Variable} (x : Reached C u) (m : ℕ) → level x < m → Declarer u (level x) up v → Declarer t m up' v
  further {u} {t} {up} x m l d = record { home = d.home; reached = d.reached; made = d.made; far = inr (by d.far) }
    where
      by : ((d.home ≡ u) × (up ≡ 0)) ⊎ (level d.reached < level x) → level d.reached < m
      by (inl e) = (let q = level_same d.reached x e.0 in omega arith)
      by (inr k) = omega arith

  declared_here : {t : ℕ} (x : Reached C t) (r : Name) (v : Variable) → Declared C t r → r.owned ≡ Local v → Declarer t (level x) r.up v
  declared_here {t} x r v d e =
      let same : d.variable ≡ v = local_same (sym (ap (λ (z : Name). z.owned) d.is) ∙ e) in
      record { home = t; reached = x; made = subst (λ (z : Variable). In z (body C t).makes) same d.made; far = inl (refl, ap (λ (z : Name). z.up) d.is) }

  seen_further : {u t : ℕ} (offset : ℕ) (w : Way) (x : Reached C u) (r q : Name) (v : Variable) → Seen C offset w r q → r.owned ≡ Local v → (q.owned ≡ Local v → Declarer u (level x) q.up v) → Declarer t (way_level w (level x)) r.up v
  seen_further offset InPlace x r q v s e rec = further x (suc (level x)) (omega arith) (rec (sym (ap (λ (z : Name). z.owned) s) ∙ e))
  seen_further offset Through x r q v s e rec = further x (suc (level x)) (omega arith) (rec (sym (ap (λ (z : Name). z.owned) s) ∙ e))
  seen_further offset Calling x r q v s e rec = no_local (sym (ap (λ (z : Name). z.owned) s.2) ∙ e)

  pub declarer : {t : ℕ} (x : Reached C t) (j : ℕ) (r : Name) (v : Variable) → In j (body C t).entries → In r (entry C j).writes → r.owned ≡ Local v → Declarer t (level x) r.up v
  declarer at_start j r v h right e = declared_here at_start r v (I.script_writes j r h right) e
  declarer (by_entry {b = b} {d = t} i w x g p) j r v h right e = by ((I.fits i w t p).writes j r h right) (λ q k z. declarer x i q v g k z)
    where
      by : Declared C t r ⊎ SeenFrom C (λ z. z.writes) i w r → ((q : Name) → In q (entry C i).writes → q.owned ≡ Local v → Declarer b (level x) q.up v) → Declarer t (way_level w (level x)) r.up v
      by (inl d) rec = declared_here (by_entry i w x g p) r v d e
      by (inr s) rec = seen_further (entry C i).offset w x r s.outside v s.seen e (λ z. rec s.outside s.right z)

  -- a variable of the node is the same one, wherever it is made
  module _ (K : (t u : ℕ) (v w : Variable) → In v (body C t).makes → In w (body C u).makes → v.node ≡ w.node → v ≡ w) where
    -- a body further in makes no variable that is made here or further out
    pub apart : {A : Type 0} {t u : ℕ} (x : Reached C t) (y : Reached C u) (v w : Variable) → In v (body C t).makes → In w (body C u).makes → v.node ≡ w.node → level x < level y → A
    apart {t = t} {u = u} x y v w iv iw e l =
        let same = K t u v w iv iw e in
        let body_same = I.makes_once t u v iv (subst (λ (z : Variable). In z (body C u).makes) (sym same) iw) in
        let q = level_same x y body_same in
        absurd (omega arith)

    -- what is made in a body, its entries name without a step
    pub same_here : {t : ℕ} (x : Reached C t) (j : ℕ) (q : Name) (v : Variable) → In j (body C t).entries → In q (entry C j).writes → SameSlot (Local v) q.owned → In v (body C t).makes → q ≡ here v
    same_here {t} x j q v h right slot iv = by q.owned refl slot
      where
        of_declarer : (w : Variable) → q.owned ≡ Local w → v.node ≡ w.node → (d : Declarer t (level x) q.up w) → ((d.home ≡ t) × (q.up ≡ 0)) ⊎ (level d.reached < level x) → q ≡ here v
        of_declarer w e n d (inl f) = ap₂ (λ (u : ℕ) (o : Owned). record { up = u; owned = o }) f.1 (e ∙ ap Local (sym (K t d.home v w iv d.made n)))
        of_declarer w e n d (inr l) = apart d.reached x w v d.made iv (sym n) l

        by : (o : Owned) → q.owned ≡ o → SameSlot (Local v) o → q ≡ here v
        by (Local w) e n = (let d = declarer x j q w h right e in of_declarer w e n d d.far)
        by (Parameter k b) e n = absurd n

    slot_of : (r : Name) (v : Variable) (o : Owned) → r ≡ here v → SameSlot r.owned o → SameSlot (Local v) o
    slot_of r v o e s = subst (λ (z : Name). SameSlot z.owned o) e s

    swapped : (o p : Owned) → SameSlot o p → SameSlot p o
    swapped (Local v) (Local w) s = sym s
    swapped (Parameter k b) (Parameter k' b') s = sym s
    swapped (Local v) (Parameter k b) s = absurd s
    swapped (Parameter k b) (Local v) s = absurd s

    parameter_slot : (r q : Name) (k k' : ℕ) (b b' : Bool) → r ≡ record { up = 0; owned = Parameter k b } → q ≡ record { up = 0; owned = Parameter k' b' } → SameSlot r.owned q.owned → k ≡ k'
    parameter_slot r q k k' b b' e f s = subst (λ (z : Name). SameSlot (Parameter k b) z.owned) f (subst (λ (z : Name). SameSlot z.owned q.owned) e s)

    seen_slot : (offset : ℕ) (w : Way) (r q o p : Name) → Seen C offset w r o → Seen C offset w q p → SameSlot r.owned q.owned → (SameSlot o.owned p.owned → o ≡ p) → r ≡ q
    seen_slot offset InPlace r q o p s z e rec = s ∙ (rec (subst (λ (y : Name). SameSlot o.owned y.owned) z (subst (λ (y : Name). SameSlot y.owned q.owned) s e)) ∙ sym z)
    seen_slot offset Through r q o p s z e rec =
        let same = rec (subst (λ (y : Name). SameSlot o.owned y.owned) z (subst (λ (y : Name). SameSlot y.owned q.owned) s e)) in
        s ∙ (ap (λ (y : Name). record { up = suc y.up; owned = y.owned }) same ∙ sym z)
    seen_slot offset Calling r q o p s z e rec =
        let k = parameter_slot r q s.0 z.0 s.1 z.1 s.2 z.2 e in
        let a = arg_at (arguments (entry C (call_at C offset)).act) s.0 s.1 (Named o) s.3 in
        let c = arg_at (arguments (entry C (call_at C offset)).act) z.0 z.1 (Named p) z.3 in
        let same : o ≡ p = named_same (same_Some _ _ (sym a.0 ∙ (ap (λ (n : ℕ). Rattle.std.specs.Prelude.slice_get (arguments (entry C (call_at C offset)).act) n) k ∙ c.0))) in
        let flag : s.1 ≡ z.1 = sym a.1 ∙ (ap is_array_name same ∙ c.1) in
        s.2 ∙ (ap₂ (λ (n : ℕ) (b : Bool). record { up = 0; owned = Parameter n b }) k flag ∙ sym z.2)

    -- two names of one variable or parameter, which entries of one body may write, are the same
    pub unique : {t : ℕ} (x : Reached C t) (i j : ℕ) (r q : Name) → In i (body C t).entries → In j (body C t).entries → In r (entry C i).writes → In q (entry C j).writes → SameSlot r.owned q.owned → r ≡ q
    unique at_start i j r q h g right other s =
        let d = I.script_writes i r h right in
        d.is ∙ sym (same_here at_start j q d.variable g other (slot_of r d.variable q.owned d.is s) d.made)
    unique (by_entry {b = b} {d = t} e w x c p) i j r q h g right other s = by ((I.fits e w t p).writes i r h right) ((I.fits e w t p).writes j q g other) (λ o u k l z. unique x e e o u c c k l z)
      where
        y : Reached C t
        y = by_entry e w x c p

        by : Declared C t r ⊎ SeenFrom C (λ z. z.writes) e w r → Declared C t q ⊎ SeenFrom C (λ z. z.writes) e w q → ((o u : Name) → In o (entry C e).writes → In u (entry C e).writes → SameSlot o.owned u.owned → o ≡ u) → r ≡ q
        by (inl d) f rec = d.is ∙ sym (same_here y j q d.variable g other (slot_of r d.variable q.owned d.is s) d.made)
        by (inr z) (inl d) rec = same_here y i r d.variable h right (slot_of q d.variable r.owned d.is (swapped r.owned q.owned s)) d.made ∙ sym d.is
        by (inr z) (inr u) rec = seen_slot (entry C e).offset w r q z.outside u.outside z.seen u.seen s (λ k. rec z.outside u.outside z.right u.right k)
