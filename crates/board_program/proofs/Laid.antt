-- The names of the bodies that runs open lead somewhere, and so that new instances find them.
use Rattle.std.proofs.Common.{◌≡◌, ◌⊎◌, ◌∙◌, refl, sym, ap, subst, inl, inr, ℕ, zero, suc, ◌+◌, ◌-◌, ◌<◌, ◌≤◌, Bool, true, false, List, [], ◌∷◌, ◌++◌, length, Option, Some, None, arith}
use Rattle.std.specs.Prelude.{◌^◌, min, if◌then◌else◌}
use Rattle.std.proofs.lemmas.Bool.{cases_lt}
use Rattle.dataflow.proofs.Decide.{distinct_within}
use Rattle.dataflow.proofs.Lists.{in_left, in_right, in_split}
use Rattle.dataflow.specs.System.{Distinct, In}
use Rattle.board_history.proofs.EndedNames.{flat_in, in_flat}
use Rattle.board_history.proofs.Tests.{none_some}
use Rattle.board_history.specs.Layouts.{IsLayout, Reached, all_names, outward, parameter, reached_inside, reached_script}
use Rattle.task_code.proofs.Equal.{variable_same, variable_sound}
use Rattle.task_code.specs.Code.{Body, ByCalls, ByMain, ByStep, ByWait, Calling, Code, InPlace, Local, Name, Need, Opener, Owned, Parameter, Through, Variable, Way, body, entry, here, needed, ways}
use Rattle.task_code.specs.Places.{variable_eq}
use Rattle.task_code.specs.Whole.{Declared, Fixes, IsCode, Seen, SeenFrom}
use Rattle.board_program.proofs.Found.{found_to, home_found, outward_from}
use Rattle.board_program.proofs.Spots.{blank}
use Rattle.board_program.specs.Spots.{around, at_home, found_or, further, go_out, homes_of, layout_of, parameter_slot, levels_of, own_if, place_from, slot_of, spot_from, spot_in}
use Rattle.board_program.specs.declared.lexical_address.LexicalAddress.{LexicalAddress}

-- places
place_of : (v : Variable) (n : ℕ) (ws : List Variable) → In v ws → (k : ℕ) × (place_from n v ws ≡ Some k) × (k < n + length ws)
place_of v n [] h = absurd h
place_of v n (w ∷ ws) (inl e) = (n, ap (λ (b : Bool). if b then Some n else place_from (suc n) v ws) (subst (λ (y : Variable). variable_eq y v ≡ true) e (variable_same v)), omega arith)
place_of v n (w ∷ ws) (inr h) = by (variable_eq w v) refl (place_of v (suc n) ws h)
  where
    by : (b : Bool) → variable_eq w v ≡ b → (k : ℕ) × (place_from (suc n) v ws ≡ Some k) × (k < suc n + length ws) → (k : ℕ) × (place_from n v (w ∷ ws) ≡ Some k) × (k < n + suc (length ws))
    by true e p = (n, ap (λ (b : Bool). if b then Some n else place_from (suc n) v ws) e, omega arith)
    by false e p = (p.0, ap (λ (b : Bool). if b then Some n else place_from (suc n) v ws) e ∙ p.1, (let h = p.2 in omega (arith, h)))

place_in : (v : Variable) (n : ℕ) (ws : List Variable) (k : ℕ) → place_from n v ws ≡ Some k → In v ws
place_in v n [] k h = none_some h
place_in v n (w ∷ ws) k h = by (place_in v (suc n) ws k) (variable_eq w v) refl
  where
    by : (place_from (suc n) v ws ≡ Some k → In v ws) → (b : Bool) → variable_eq w v ≡ b → In v (w ∷ ws)
    by r true e = inl (sym (variable_sound w v e))
    by r false e = inr (r (sym (ap (λ (b : Bool). if b then Some n else place_from (suc n) v ws) e) ∙ h))

abbrev upto : ℕ → List ℕ
upto zero = []
upto (suc n) = n ∷ upto n

upto_length : (n : ℕ) → length (upto n) ≡ n
upto_length zero = refl
upto_length (suc n) = ap suc (upto_length n)

in_upto : (n k : ℕ) → k < n → In k (upto n)
in_upto zero k h = absurd (omega (arith, h))
in_upto (suc n) k h = elim (cases_lt k n) [ inl l ↦ inr (in_upto n k l) | inr g ↦ inl (omega (arith, h, g)) ]

-- bodies around one another
abbrev IsRoot : Opener → Type 0
IsRoot o = (o ≡ ByMain) ⊎ (o ≡ ByCalls)

abbrev Within : ℕ → Opener → Type 0
Within i o = (o ≡ ByWait i) ⊎ (o ≡ ByStep i)

no_root : {B : Type 0} (i : ℕ) (o : Opener) → IsRoot o → Within i o → B
no_root i o (inl p) (inl q) = (let e : ByMain ≡ ByWait i = sym p ∙ q in absurd (cc))
no_root i o (inl p) (inr q) = (let e : ByMain ≡ ByStep i = sym p ∙ q in absurd (cc))
no_root i o (inr p) (inl q) = (let e : ByCalls ≡ ByWait i = sym p ∙ q in absurd (cc))
no_root i o (inr p) (inr q) = (let e : ByCalls ≡ ByStep i = sym p ∙ q in absurd (cc))

one_entry : (i j : ℕ) (o : Opener) → Within i o → Within j o → i ≡ j
one_entry i j o (inl p) (inl q) = (let e : ByWait i ≡ ByWait j = sym p ∙ q in cc)
one_entry i j o (inl p) (inr q) = (let e : ByWait i ≡ ByStep j = sym p ∙ q in absurd (cc))
one_entry i j o (inr p) (inl q) = (let e : ByStep i ≡ ByWait j = sym p ∙ q in absurd (cc))
one_entry i j o (inr p) (inr q) = (let e : ByStep i ≡ ByStep j = sym p ∙ q in cc)

some_found : (o : Option ℕ) (t : LexicalAddress) → (s : LexicalAddress) × (found_or o (Some t) ≡ Some s)
some_found None t = (t, refl)
some_found (Some n) t = (record { levels = 0; slot = n }, refl)

module _ (C : Code) where
  data Nested : ℕ → List ℕ → Type 0 where
    nest_root : (b : ℕ) → IsRoot (body C b).opener → Nested b (b ∷ [])
    nest_in : (b c i : ℕ) (cs : List ℕ) → Within i (body C b).opener → In i (body C c).entries → Nested c cs → Nested b (b ∷ cs)

  -- a body that has an entry, or an opener, is there
  there_in : (b i : ℕ) → In i (body C b).entries → b < length C.bodies
  there_in b i h = elim (cases_lt b (length C.bodies)) [
    | inl l ↦ l
    | inr g ↦ absurd (subst (λ (y : Body). In i y.entries) (blank C.bodies b g) h)
  ]

  there_opened : (b : ℕ) → ((body C b).opener ≡ ByMain → ⊥) → b < length C.bodies
  there_opened b n = elim (cases_lt b (length C.bodies)) [
    | inl l ↦ l
    | inr g ↦ absurd (n (ap (λ (y : Body). y.opener) (blank C.bodies b g)))
  ]

  there_made : (b : ℕ) (v : Variable) → In v (body C b).makes → b < length C.bodies
  there_made b v h = elim (cases_lt b (length C.bodies)) [
    | inl l ↦ l
    | inr g ↦ absurd (subst (λ (y : Body). In v y.makes) (blank C.bodies b g) h)
  ]

  -- a name of a body is one of its entries'
  record NameOf (b : ℕ) (r : Name) : Type 0 where
    pub by : ℕ
    pub there : In by (body C b).entries
    pub is : In r (entry C by).reads ⊎ In r (entry C by).writes

  name_of : (b : ℕ) (r : Name) → In r (all_names C b) → NameOf b r
  name_of b r h =
      let p = in_flat (λ j. (entry C j).reads ++ (entry C j).writes) (body C b).entries r h in
      record { by = p.0; there = p.1; is = in_split r (entry C p.0).reads (entry C p.0).writes p.2 }

  of_reads : (b i : ℕ) (r : Name) → In i (body C b).entries → In r (entry C i).reads → In r (all_names C b)
  of_reads b i r h g = flat_in (λ j. (entry C j).reads ++ (entry C j).writes) (body C b).entries i r h (in_left r (entry C i).reads (entry C i).writes g)

  of_writes : (b i : ℕ) (r : Name) → In i (body C b).entries → In r (entry C i).writes → In r (all_names C b)
  of_writes b i r h g = flat_in (λ j. (entry C j).reads ++ (entry C j).writes) (body C b).entries i r h (in_right r (entry C i).reads (entry C i).writes g)

  -- it is declared, or is a name of the body around, or a literal
  record Outside (i c : ℕ) (w : Way) (r : Name) : Type 0 where
    pub outside : Name
    pub seen : Seen C (entry C i).offset w r outside
    pub named : In outside (all_names C c)

  module _ (I : IsCode C) where
    covered : (i c b : ℕ) (w : Way) (r : Name) → In i (body C c).entries → In (w, b) (ways (entry C i).act) → In r (all_names C b) → (Declared C b r ⊎ Outside i c w r) ⊎ Fixes C (entry C i).offset w r
    covered i c b w r ih iw h = by (name_of b r h)
      where
        seen_read : SeenFrom C (λ e. e.reads) i w r → Outside i c w r
        seen_read s = record { outside = s.outside; seen = s.seen; named = of_reads c i s.outside ih s.right }

        seen_written : SeenFrom C (λ e. e.writes) i w r → Outside i c w r
        seen_written s = record { outside = s.outside; seen = s.seen; named = of_writes c i s.outside ih s.right }

        by : NameOf b r → (Declared C b r ⊎ Outside i c w r) ⊎ Fixes C (entry C i).offset w r
        by n = elim n.is [
          | inl g ↦ elim ((I.fits i w b iw).reads n.by r n.there g) [
            | inl x ↦ elim x [ inl d ↦ inl (inl d) | inr s ↦ inl (inr (seen_read s)) ]
            | inr f ↦ inr f
          ]
          | inr g ↦ elim ((I.fits i w b iw).writes n.by r n.there g) [ inl d ↦ inl (inl d) | inr s ↦ inl (inr (seen_written s)) ]
        ]

    -- the bodies around one are different, so that there are no more than all
    same_length : {b : ℕ} {cs ds : List ℕ} → Nested b cs → Nested b ds → length cs ≡ length ds
    same_length (nest_root b r) (nest_root _ q) = refl
    same_length (nest_root b r) (nest_in _ c i ds w h n) = no_root i (body C b).opener r w
    same_length (nest_in b c i cs w h n) (nest_root _ r) = no_root i (body C b).opener r w
    same_length (nest_in b c i cs w h n) (nest_in _ d j ds x g m) =
        let e = one_entry j i (body C b).opener x w in
        let same = I.entries_once d c i (subst (λ k. In k (body C d).entries) e g) h in
        ap suc (same_length n (subst (λ k. Nested k ds) same m))

    record Shorter (d : ℕ) (cs : List ℕ) : Type 0 where
      pub around_it : List ℕ
      pub nested : Nested d around_it
      pub length_is : length around_it ≤ length cs

    in_chain : {b : ℕ} {cs : List ℕ} → Nested b cs → (d : ℕ) → In d cs → Shorter d cs
    in_chain (nest_root b r) d (inl e) = record { around_it = b ∷ []; nested = subst (λ k. Nested k (b ∷ [])) (sym e) (nest_root b r); length_is = omega arith }
    in_chain (nest_root b r) d (inr h) = absurd h
    in_chain (nest_in b c i cs w h n) d (inl e) = record { around_it = b ∷ cs; nested = subst (λ k. Nested k (b ∷ cs)) (sym e) (nest_in b c i cs w h n); length_is = omega arith }
    in_chain (nest_in b c i cs w h n) d (inr g) = let p = in_chain n d g in record { around_it = p.around_it; nested = p.nested; length_is = (let l = p.length_is in omega (arith, l)) }

    chain_distinct : {b : ℕ} {cs : List ℕ} → Nested b cs → Distinct cs
    chain_distinct (nest_root b r) = (λ h. h, tt)
    chain_distinct (nest_in b c i cs w h n) = (λ m. no_again (in_chain n b m), chain_distinct n)
      where
        no_again : Shorter b cs → ⊥
        no_again p = (let e = same_length (nest_in b c i cs w h n) p.nested in let l = p.length_is in omega (arith, e, l))

    chain_below : {b : ℕ} {cs : List ℕ} → Nested b cs → b < length C.bodies → (d : ℕ) → In d cs → d < length C.bodies
    chain_below (nest_root b r) l d (inl e) = subst (λ k. k < length C.bodies) (sym e) l
    chain_below (nest_root b r) l d (inr h) = absurd h
    chain_below (nest_in b c i cs w h n) l d (inl e) = subst (λ k. k < length C.bodies) (sym e) l
    chain_below (nest_in b c i cs w h n) l d (inr g) = chain_below n (there_in c i h) d g

    chain_fits : {b : ℕ} {cs : List ℕ} → Nested b cs → b < length C.bodies → length cs ≤ length C.bodies
    chain_fits {cs = cs} n l = subst (λ k. length cs ≤ k) (upto_length (length C.bodies)) (distinct_within cs (upto (length C.bodies)) (chain_distinct n) (λ d i. in_upto (length C.bodies) d (chain_below n l d i)))

    -- where names lead
    abbrev Leads : ℕ → ℕ → Name → Type 0
    Leads m b r = (s : LexicalAddress) × (spot_from C (homes_of C) m b r.up r.owned ≡ Some s)

    own_found : (m b : ℕ) (v : Variable) → In v (body C b).makes → (k : ℕ) × (k < length (body C b).makes) × (place_from 0 v (body C b).makes ≡ Some k) × (spot_from C (homes_of C) (suc m) b 0 (Local v) ≡ Some (record { levels = 0; slot = k }))
    own_found m b v h =
        let p = place_of v 0 (body C b).makes h in
        (p.0, (let l = p.2 in omega (arith, l)), p.1, ap (λ (o : Option ℕ). found_or o (around (go_out (homes_of C) (body C b).opener 0) (λ c n. spot_from C (homes_of C) m c n (Local v)))) p.1)

    declared_found : (m b : ℕ) (r : Name) → Declared C b r → Leads (suc m) b r
    declared_found m b r d =
        let p = own_found m b d.variable d.made in
        (record { levels = 0; slot = p.0 }, subst (λ (y : Name). spot_from C (homes_of C) (suc m) b y.up y.owned ≡ Some (record { levels = 0; slot = p.0 })) (sym d.is) p.3)

    parameter_found : (m b k : ℕ) (a : Bool) → (body C b).opener ≡ ByCalls → spot_from C (homes_of C) (suc m) b 0 (Parameter k a) ≡ Some (record { levels = 0; slot = min (length (body C b).makes + k) (2 ^ 64 - 1) })
    parameter_found m b k a e =
        ap (λ (o : Opener). found_or (parameter_slot (length (body C b).makes) k o) (around (go_out (homes_of C) (body C b).opener 0) (λ c n. spot_from C (homes_of C) m c n (Parameter k a)))) e

    further_found : (m b up c k : ℕ) (x : Owned) → go_out (homes_of C) (body C b).opener up ≡ Some (c, k) → (t : LexicalAddress) → spot_from C (homes_of C) m c k x ≡ Some t → (s : LexicalAddress) × (spot_from C (homes_of C) (suc m) b up x ≡ Some s)
    further_found m b up c k x g t h =
        let p = some_found (own_if up (body C b) x) (record { levels = 1 + t.levels; slot = t.slot }) in
        (p.0, ap (λ r. found_or (own_if up (body C b) x) (around r (λ c n. spot_from C (homes_of C) m c n x))) g ∙ ap (λ r. found_or (own_if up (body C b) x) (further 1 r)) h ∙ p.1)

    wait_out : (b c i up : ℕ) → (body C b).opener ≡ ByWait i → In i (body C c).entries → go_out (homes_of C) (body C b).opener up ≡ Some (c, up)
    wait_out b c i up e h = ap (λ (o : Opener). go_out (homes_of C) o up) e ∙ ap (λ o. at_home o up) (home_found C I c i h)

    step_out : (b c i up : ℕ) → (body C b).opener ≡ ByStep i → In i (body C c).entries → go_out (homes_of C) (body C b).opener (suc up) ≡ Some (c, up)
    step_out b c i up e h = ap (λ (o : Opener). go_out (homes_of C) o (suc up)) e ∙ ap (λ o. at_home o up) (home_found C I c i h)

    record Found (b : ℕ) : Type 0 where
      pub around_it : List ℕ
      pub nested : Nested b around_it
      pub leads : (r : Name) → In r (all_names C b) → Leads (length around_it) b r

    opened_found : (c i b : ℕ) (w : Way) → In i (body C c).entries → In (w, b) (ways (entry C i).act) → Found c → Found b
    opened_found c i b InPlace ih iw p = record { around_it = b ∷ p.around_it; nested = nest_in b c i p.around_it (inl opener) ih p.nested; leads = λ r h. by r (covered i c b InPlace r ih iw h) }
      where
        opener : (body C b).opener ≡ ByWait i
        opener = (I.fits i InPlace b iw).opened

        by : (r : Name) → (Declared C b r ⊎ Outside i c InPlace r) ⊎ ⊥ → Leads (suc (length p.around_it)) b r
        by r (inl (inl d)) = declared_found (length p.around_it) b r d
        by r (inl (inr o)) =
            let q = p.leads o.outside o.named in
            further_found (length p.around_it) b r.up c r.up r.owned (wait_out b c i r.up opener ih) q.0 (subst (λ (y : Name). spot_from C (homes_of C) (length p.around_it) c y.up y.owned ≡ Some q.0) (sym o.seen) q.1)
        by r (inr f) = absurd f
    opened_found c i b Through ih iw p = record { around_it = b ∷ p.around_it; nested = nest_in b c i p.around_it (inr opener) ih p.nested; leads = λ r h. by r (covered i c b Through r ih iw h) }
      where
        opener : (body C b).opener ≡ ByStep i
        opener = (I.fits i Through b iw).opened

        by : (r : Name) → (Declared C b r ⊎ Outside i c Through r) ⊎ ⊥ → Leads (suc (length p.around_it)) b r
        by r (inl (inl d)) = declared_found (length p.around_it) b r d
        by r (inl (inr o)) =
            let q = p.leads o.outside o.named in
            subst (λ (y : Name). Leads (suc (length p.around_it)) b y) (sym o.seen) (further_found (length p.around_it) b (suc o.outside.up) c o.outside.up o.outside.owned (step_out b c i o.outside.up opener ih) q.0 q.1)
        by r (inr f) = absurd f
    opened_found c i b Calling ih iw p = record { around_it = b ∷ []; nested = nest_root b (inr opener); leads = λ r h. by r (covered i c b Calling r ih iw h) }
      where
        opener : (body C b).opener ≡ ByCalls
        opener = (I.fits i Calling b iw).opened.0

        found : (r : Name) (k : ℕ) (a : Bool) → r ≡ parameter k a → Leads 1 b r
        found r k a e = subst (λ (y : Name). Leads 1 b y) (sym e) (_, parameter_found 0 b k a opener)

        by : (r : Name) → (Declared C b r ⊎ Outside i c Calling r) ⊎ Fixes C (entry C i).offset Calling r → Leads 1 b r
        by r (inl (inl d)) = declared_found 0 b r d
        by r (inl (inr o)) = found r o.seen.0 o.seen.1 o.seen.2
        by r (inr f) = found r f.0 f.1 f.3

    script_declares : (r : Name) → In r (all_names C 0) → Declared C 0 r
    script_declares r h =
        let n = name_of 0 r h in
        elim n.is [ inl g ↦ I.script_reads n.by r n.there g | inr g ↦ I.script_writes n.by r n.there g ]

    reached_found : {b : ℕ} → Reached C b → Found b
    reached_found reached_script = record { around_it = 0 ∷ []; nested = nest_root 0 (inl I.script); leads = λ r h. declared_found 0 0 r (script_declares r h) }
    reached_found (reached_inside c i b w rc ih iw) = opened_found c i b w ih iw (reached_found rc)

    -- each name of a body that runs open leads somewhere
    pub leads_somewhere : (b : ℕ) (r : Name) → Reached C b → In r (all_names C b) → (s : LexicalAddress) × (spot_in C b r ≡ Some s)
    leads_somewhere b r reached h =
        let p = reached_found reached in
        let n = name_of b r h in
        let q = p.leads r h in
        (q.0, found_to C (homes_of C) r.owned (length p.around_it) (length C.bodies) b r.up q.0 (chain_fits p.nested (there_in b n.by n.there)) q.1)

    pub need_leads : (b i : ℕ) (n : Need) (r : Name) → Reached C b → In i (body C b).entries → In n (entry C i).needs → In r (needed n) → (s : LexicalAddress) × (spot_in C b r ≡ Some s)
    need_leads b i n r reached ih hn hr = leads_somewhere b r reached (of_reads b i r ih (I.needs i n r hn hr))

    -- a body's own names
    pub own_leads : (b : ℕ) (v : Variable) → In v (body C b).makes → (k : ℕ) × (k < length (body C b).makes) × (place_from 0 v (body C b).makes ≡ Some k) × (spot_in C b (here v) ≡ Some (record { levels = 0; slot = k }))
    own_leads b v h = by (length C.bodies) refl (there_made b v h)
      where
        by : (n : ℕ) → n ≡ length C.bodies → b < length C.bodies → (k : ℕ) × (k < length (body C b).makes) × (place_from 0 v (body C b).makes ≡ Some k) × (spot_in C b (here v) ≡ Some (record { levels = 0; slot = k }))
        by zero e l = absurd (omega (arith, e, l))
        by (suc n) e l = (let p = own_found n b v h in (p.0, p.1, p.2, ap (λ m. spot_from C (homes_of C) m b 0 (Local v)) (sym e) ∙ p.3))

    pub parameter_leads : (b k : ℕ) (a : Bool) → (body C b).opener ≡ ByCalls → spot_in C b (parameter k a) ≡ Some (record { levels = 0; slot = min (length (body C b).makes + k) (2 ^ 64 - 1) })
    parameter_leads b k a e = by (length C.bodies) refl (there_opened b no_main)
      where
        no_main : (body C b).opener ≡ ByMain → ⊥
        no_main f = (let g : ByCalls ≡ ByMain = sym e ∙ f in absurd (cc))

        by : (n : ℕ) → n ≡ length C.bodies → b < length C.bodies → spot_in C b (parameter k a) ≡ Some (record { levels = 0; slot = min (length (body C b).makes + k) (2 ^ 64 - 1) })
        by zero q l = absurd (omega (arith, q, l))
        by (suc n) q l = ap (λ m. spot_from C (homes_of C) m b 0 (Parameter k a)) (sym q) ∙ parameter_found n b k a e

    -- the layout
    none_own : (b i up : ℕ) (x : Owned) → (body C b).opener ≡ ByWait i → (Declared C b (record { up = up; owned = x }) → ⊥) → own_if up (body C b) x ≡ None
    none_own b i (suc up) x e n = refl
    none_own b i zero (Parameter k a) e n = ap (parameter_slot (length (body C b).makes) k) e
    none_own b i zero (Local v) e n = by (place_from 0 v (body C b).makes) refl
      where
        by : (o : Option ℕ) → place_from 0 v (body C b).makes ≡ o → place_from 0 v (body C b).makes ≡ None
        by None q = q
        by (Some k) q = absurd (n (record { variable = v; is = refl; made = place_in v 0 (body C b).makes k q }))

    laid_out : (b c up k : ℕ) (x : Owned) → own_if up (body C b) x ≡ None → go_out (homes_of C) (body C b).opener up ≡ Some (c, k) → (s : LexicalAddress) → spot_in C b (record { up = up; owned = x }) ≡ Some s → ((layout_of C).levels b (record { up = up; owned = x }) ≡ suc ((layout_of C).levels c (record { up = k; owned = x }))) × ((layout_of C).slot b (record { up = up; owned = x }) ≡ (layout_of C).slot c (record { up = k; owned = x }))
    laid_out b c up k x o g s h =
        let p = outward_from C (homes_of C) x (length C.bodies) b up c k s o g h in (
          ap levels_of h ∙ p.levels ∙ ap suc (sym (ap levels_of p.found)),
          ap slot_of h ∙ p.slot ∙ sym (ap slot_of p.found),
        )

    pub is_layout : IsLayout C (layout_of C)
    is_layout = record {
      wait = λ i b c r reached ih iw ir n.
          (let s = leads_somewhere b r (reached_inside c i b InPlace reached ih iw) ir in
          let e : (body C b).opener ≡ ByWait i = (I.fits i InPlace b iw).opened in
          laid_out b c r.up r.up r.owned (none_own b i r.up r.owned e n) (wait_out b c i r.up e ih) s.0 s.1);
      step = λ i b c r reached ih iw ir.
          (let s = leads_somewhere b (outward r) (reached_inside c i b Through reached ih iw) ir in
          let e : (body C b).opener ≡ ByStep i = (I.fits i Through b iw).opened in
          laid_out b c (suc r.up) r.up r.owned refl (step_out b c i r.up e ih) s.0 s.1);
      call = λ b n a e ir. ap levels_of (parameter_leads b n a e);
    }
