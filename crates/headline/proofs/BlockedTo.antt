-- A statement that is blocked in the code's meaning is blocked in the script's; where the script has no fault, and all that the script's answers yield is in the code's meaning.
use Rattle.std.proofs.Common.{◌≡◌, inl, inr, ℕ, true, false, List, [], ◌∷◌, map, refl, sym, ap, ◌∙◌, subst, Some}
use Rattle.std.specs.List.{flat_map}
use Rattle.dataflow.specs.System.{In, Effect, Input}
use Rattle.dataflow.specs.Facts.{Ever, EverGiven}
use Rattle.dataflow.proofs.Lists.{in_left, in_right}
use Rattle.values.specs.declared.key.Key.{Key}
use Rattle.values.specs.declared.value.Scalar.{Scalar}
use Rattle.language.specs.Core as Co
use Rattle.language.specs.Core.{Expr, Awaited, Stmt, stmt, Action, wait, Block, stmts, no_stmts, Core}
use Rattle.language.specs.Facts.{Fault, Knowledge}
use Rattle.language.specs.Meaning as Mn
use Rattle.language.specs.Meaning.{in_block, Ready, names_known, waited}
use Rattle.language.specs.Members.{◌∈◌, first, later}
use Rattle.language.specs.Outcomes.{Blocked, Faults, OwnFact, Counts}
use Rattle.language.specs.Parts.{block_list}
use Rattle.language.specs.Places.{Path}
use Rattle.language.specs.Single.{SinglyAssigned}
use Rattle.language.specs.WellFormed.{WellFormed}
use Rattle.language_laws.specs.Scoped.{AwaitedIn, InScope, in_wait, Scoped}
use Rattle.language_laws.specs.TypedValues.{TypedValues}
use Rattle.task_code.specs.Code.{Need, Header, Act, Loop, Code, entry, body, loop_of}
use Rattle.task_code.specs.Effects.{Task, Item}
use Rattle.task_code.specs.Exact.{IsExact}
use Rattle.task_code.specs.Places as CodePlaces
use Rattle.task_code.specs.Places.{Step}
use Rattle.task_code.specs.Runs.{counts, FirstUnknown, IsBlockedAt, EverBlocked}
use Rattle.task_code.specs.System.{code_system}
use Rattle.task_code.specs.Whole.{IsCode}
use Rattle.code_rules.specs.CodeNames.{awaited_need}
use Rattle.headline.specs.Headline.{script_path}
use Rattle.code_rules.specs.IsCodeOf.{Layout, own_expr, own_needs, fill_act, simple_act, IsSimple, PartAs, plain_literal, plain_name, a_cell, a_read, a_call, WaitAs, one_wait, merged, BodyAs, body_as, IsCodeOf}
use Rattle.code_rules.specs.NodesOnce.{NodesOnce}
use Rattle.headline.specs.Chains.{Chain}
use Rattle.headline.specs.Inclusions.{Facts}
use Rattle.headline.specs.Knows.{Knows}
use Rattle.headline.proofs.Backing.{backs}
use Rattle.headline.proofs.BlockedFacts.{item_parts, HasReading, simple_reading, header_reading}
use Rattle.headline.proofs.BlockedInputs.{Alive, alive_of, header_ever, come_back}
use Rattle.headline.proofs.Evaluate.{in_once}
use Rattle.headline.proofs.HeaderWorks.{ready_names}
use Rattle.headline.proofs.LiveTo.{ItemLive, live_to, in_one}
use Rattle.headline.proofs.Means.{chain_live, chain_body, chain_scope}
use Rattle.headline.proofs.Roles.{PartOf, OwnAs, own_simple, own_branch, own_branches, own_range, own_each, own_wait, RoleIn, find_role}
use Rattle.headline.proofs.WholeTo.{first_chunk}

-- a simple statement counts, is no loop, and is blocked at its own offset
simple_counts : (a : Action) → IsSimple a → Counts a
simple_counts (Co.assign x o) z = tt
simple_counts (Co.fill x o) z = tt
simple_counts (Co.insert x i o) z = tt
simple_counts (Co.print x o) z = tt
simple_counts (Co.assert x o) z = tt
simple_counts (Co.declare v) z = absurd z
simple_counts (Co.call_alone x y o) z = absurd z
simple_counts (Co.when o d) z = absurd z
simple_counts (Co.choose o d e) z = absurd z
simple_counts (Co.range o d e f g l) z = absurd z
simple_counts (Co.each o d e f) z = absurd z
simple_counts (Co.wait o d) z = absurd z

module _ (C : Code) (P : Input CodePlaces.Place Key → Type 0) (l : Layout) (k : ℕ) (p : List Step) (own at : ℕ) where
  -- what is asked of a simple act
  abbrev Plain : Act → Type 0
  Plain a = (IsBlockedAt C P p a own at → at ≡ own) × ((lp : Loop) → loop_of a ≡ Some lp → ⊥)

  plain_fill : (ns : List Need) (x : Co.Name) (e : Expr) → Plain (fill_act l k ns x e)
  plain_fill ns x (Co.whole b) = (λ h. h, λ lp q. absurd (cc (q)))
  plain_fill ns x (Co.literal v) = (λ h. h, λ lp q. absurd (cc (q)))
  plain_fill ns x (Co.name y) = (λ h. h, λ lp q. absurd (cc (q)))
  plain_fill ns x (Co.operator o es) = (λ h. h, λ lp q. absurd (cc (q)))

  simple_plain : (a : Action) → IsSimple a → Plain (simple_act l k (own_needs l k a) a)
  simple_plain (Co.assign x o) z = (λ h. h, λ lp q. absurd (cc (q)))
  simple_plain (Co.fill x o) z = plain_fill (own_needs l k (Co.fill x o)) x (own_expr o)
  simple_plain (Co.insert x i o) z = (λ h. h, λ lp q. absurd (cc (q)))
  simple_plain (Co.print x o) z = (λ h. h, λ lp q. absurd (cc (q)))
  simple_plain (Co.assert x o) z = (λ h. h, λ lp q. absurd (cc (q)))
  simple_plain (Co.declare v) z = absurd z
  simple_plain (Co.call_alone x y o) z = absurd z
  simple_plain (Co.when o d) z = absurd z
  simple_plain (Co.choose o d e) z = absurd z
  simple_plain (Co.range o d e f g m) z = absurd z
  simple_plain (Co.each o d e f) z = absurd z
  simple_plain (Co.wait o d) z = absurd z

module _ (s : Core) (C : Code) (w : IsCodeOf s C) (K : Knowledge) (wf : WellFormed s) (kn : Knows s K) (I : IsCode C) (sc : Scoped s) (ty : TypedValues s K) (nodes : NodesOnce C) (ex : IsExact C) (single : SinglyAssigned s)
    (back : (t : Task) (e : Effect Task CodePlaces.Place Key Scalar) → Facts s C K t e → Ever (code_system C) t e) (sound : (f : Fault) (at : ℕ) (path : Path) → Faults K f at path → ⊥) where
  -- a live statement without its own fact is blocked, as there are no faults
  stuck : {path : Path} {b : Block} {at n : ℕ} {a : Action} → Mn.Live s K path b → stmt at n a ∈ block_list b → Counts a → (OwnFact s K path n a → ⊥) → Blocked s K at path
  stuck {path} {at = at} {n = n} {a = a} lv m co nf =
      (n, a, record { live = in_block lv m; counts = co; no_fact = nf; no_fault = λ f h. sound f at path (n, h); no_cell_fault = λ c f i h. sound f at path (c.node, h) })

  module _ {p : List Step} {t k : ℕ} {b : Block} (ch : Chain s C w.layout K p t k b) (i c : ℕ) (there : In i (body C t).entries) (live : Alive s C w K wf kn I sc ty nodes ex single back (Item i p c))
      (never : (e : Effect Task CodePlaces.Place Key Scalar) → Ever (code_system C) (Item i p c) e → ⊥) where
    abbrev Known : Input CodePlaces.Place Key → Type 0
    Known x = EverGiven (code_system C) x

    abbrev IsStuck : ℕ → Type 0
    IsStuck at = Blocked s K at (script_path p)

    none : HasReading s C w K wf kn I sc ty nodes sound ch i there c → ⊥
    none r = never r.0 (back (Item i p c) r.0 (record { live = live; reading = r.1 }))

    none_first : ((lp : Loop) → loop_of (entry C i).act ≡ Some lp → ⊥) → HasReading s C w K wf kn I sc ty nodes sound ch i there 0 → ⊥
    none_first nl r =
        elim (first_chunk s C w K wf kn I sc ty (Item i p c) live i c p refl) [
          | inl z ↦ none (subst (λ (u : ℕ). HasReading s C w K wf kn I sc ty nodes sound ch i there u) (sym z) r)
          | inr z ↦ nl z.0 z.1
        ]

    -- WAITS: the outermost of those that were merged that waits for something unknown
    content_live : {at n : ℕ} {ns : List Awaited} {d bb : Block} → Mn.Live s K (script_path p) bb → stmt at n (wait ns d) ∈ block_list bb → Ready s K (script_path p) (wait ns d) [] → Mn.Live s K (script_path p) d
    content_live lv m r = waited lv m r

    waits_at : {st : Stmt} {hs : List Header} {t' at : ℕ} {bb : Block} → WaitAs C w.layout k st hs t' → InScope s k bb → st ∈ block_list bb → Mn.Live s K (script_path p) bb → ((n : Need) → In n (flat_map (λ h. h.needs) hs) → In n (entry C i).needs) → FirstUnknown C Known p hs at → IsStuck at
    waits_at {at = at'} {bb = bb} (one_wait {at = at} {n = n} {ns = ns} {b = d} ba q) g m lv sub h =
        elim (subst (λ (l : List Header). FirstUnknown C Known p l at') q h) [
          | inl u ↦ subst IsStuck (sym u.1) (stuck lv m tt (λ r. u.0 (header_ever s C w K wf kn I sc ty nodes ex single back ch i c there live at ns (λ x j. sc.waits k bb at n ns d x g m j)
              (λ y j. sub y (subst (λ (l : List Header). In y (flat_map (λ h. h.needs) l)) (sym q) (in_left y (map (awaited_need k) ns) [] j))) (ready_names s C w K wf (backs s K kn) I sc r.1 ns d refl))))
          | inr u ↦ absurd u.1
        ]
    waits_at {at = at'} {bb = bb} (merged {at = at} {n = n} {ns = ns} {st = st'} {gs = gs} wa q) g m lv sub h =
        elim (subst (λ (l : List Header). FirstUnknown C Known p l at') q h) [
          | inl u ↦ subst IsStuck (sym u.1) (stuck lv m tt (λ r. u.0 (header_ever s C w K wf kn I sc ty nodes ex single back ch i c there live at ns awaited own_sub (ready_names s C w K wf (backs s K kn) I sc r.1 ns (stmts st' no_stmts) refl))))
          | inr u ↦ waits_at wa (in_wait g m) first (content_live lv m (names_known (λ x j. come_back s C w K wf kn I sc ty nodes ex single back ch i c there live x (awaited x j) (own_sub (awaited_need k x) (need_of ns x j)) (λ z y. u.0 (awaited_need k x) z (need_of ns x j) y))))
              (λ y j. sub y (subst (λ (l : List Header). In y (flat_map (λ h. h.needs) l)) (sym q) (in_right y (map (awaited_need k) ns) (flat_map (λ h. h.needs) gs) j))) u.1
        ]
      where
        awaited : (x : Awaited) → x ∈ ns → AwaitedIn k x
        awaited x j = sc.waits k bb at n ns (stmts st' no_stmts) x g m j

        own_sub : (y : Need) → In y (map (awaited_need k) ns) → In y (entry C i).needs
        own_sub y j = sub y (subst (λ (l : List Header). In y (flat_map (λ h. h.needs) l)) (sym q) (in_left y (map (awaited_need k) ns) (flat_map (λ h. h.needs) gs) j))

        need_of : (zs : List Awaited) (x : Awaited) → x ∈ zs → In (awaited_need k x) (map (awaited_need k) zs)
        need_of [] x h = elim h [ ]
        need_of (y ∷ zs) x first = inl refl
        need_of (y ∷ zs) x (later h) = inr (need_of zs x h)

    -- THE STATEMENT WHOSE OWN ENTRY IT IS
    abbrev Stands : Act → ℕ → ℕ → Type 0
    Stands a own at = IsBlockedAt C Known p a own at

    alive_block : Mn.Live s K (script_path p) b
    alive_block = chain_live s C w.layout K wf.names I sc ch

    own_stuck : (at : ℕ) (st : Stmt) → st ∈ block_list b → OwnAs C w.layout k st i → Stands (entry C i).act (entry C i).at at → IsStuck at
    own_stuck at st m (own_simple {at = at'} {n = n} {a = a} z en nd) h =
        let pl = simple_plain C Known w.layout k p (entry C i).at at a z in
        subst IsStuck (sym (pl.0 (subst (λ (x : Act). Stands x (entry C i).at at) en.act_is h) ∙ en.at_is))
        (stuck alive_block m (simple_counts a z) (λ o. none_first (λ lp q. pl.1 lp (sym (ap loop_of en.act_is) ∙ q)) (simple_reading s C w K wf kn I sc ty nodes sound ch i there at' n a z m en nd o)))
    own_stuck at st m (own_branch {at = at'} {n = n} {c = o} {b = d} en mk ba) h =
        subst IsStuck (sym (subst (λ (x : Act). Stands x (entry C i).at at) en.act_is h ∙ en.at_is)) (stuck alive_block m tt (λ r. none (header_reading s C w K wf kn I sc ty nodes sound ch i there at' n (Co.when o d) m (own_branch en mk ba) tt r c)))
    own_stuck at st m (own_branches {at = at'} {n = n} {c = o} {b = d} {d = d'} en mk ba bb) h =
        subst IsStuck (sym (subst (λ (x : Act). Stands x (entry C i).at at) en.act_is h ∙ en.at_is))
        (stuck alive_block m tt (λ r. none (header_reading s C w K wf kn I sc ty nodes sound ch i there at' n (Co.choose o d d') m (own_branches en mk ba bb) tt r c)))
    own_stuck at st m (own_range {at = at'} {n = n} {x = x} {lo = lo} {hi = hi} {st = st'} {y = y} {b = d} en mk ba) h =
        subst IsStuck (sym (subst (λ (x : Act). Stands x (entry C i).at at) en.act_is h ∙ en.at_is))
        (stuck alive_block m tt (λ r. none (header_reading s C w K wf kn I sc ty nodes sound ch i there at' n (Co.range lo hi st' x y d) m (own_range en mk ba) tt r c)))
    own_stuck at st m (own_each {at = at'} {n = n} {x = x} {a = a} {y = y} {b = d} en mk ba) h =
        subst IsStuck (sym (subst (λ (x : Act). Stands x (entry C i).at at) en.act_is h ∙ en.at_is))
        (stuck alive_block m tt (λ r. none (header_reading s C w K wf kn I sc ty nodes sound ch i there at' n (Co.each a x y d) m (own_each en mk ba) tt r c)))
    own_stuck at st m (own_wait wa en) h =
        waits_at wa (chain_scope s C w.layout K wf.names I sc ch) m alive_block (λ y j. subst (λ (l : List Need). In y l) (sym en.needs_is) (in_once y _ j)) (subst (λ (x : Act). Stands x (entry C i).at at) en.act_is h)

    -- a part's entry does not count
    no_count : {a : Act} → (entry C i).act ≡ a → counts a ≡ false → counts (entry C i).act ≡ true → ⊥
    no_count q z h = (let e : true ≡ false = sym h ∙ ap counts q ∙ z in absurd (cc (e)))

    part_counts : (st : Stmt) → PartOf C w.layout k st i → counts (entry C i).act ≡ true → ⊥
    part_counts st po h = by po.as_part po.there
      where
        by : {x : Co.Part} {js : List ℕ} → PartAs C w.layout k po.all po.at po.priority x js → In i js → ⊥
        by (plain_literal z) j = j
        by (plain_name z) j = j
        by (a_cell {j = j'} z nd en) j = no_count (ap (λ (u : ℕ). (entry C u).act) (in_one i j' j) ∙ en.act_is) refl h
        by (a_read {j = j'} z nd ix en) j = no_count (ap (λ (u : ℕ). (entry C u).act) (in_one i j' j) ∙ en.act_is) refl h
        by (a_call {j = j'} ca) j = no_count (ap (λ (u : ℕ). (entry C u).act) (in_one i j' j) ∙ ca.is.act_is) refl h

    item_stuck : (at : ℕ) → counts (entry C i).act ≡ true → Stands (entry C i).act (entry C i).at at → IsStuck at
    item_stuck at co h = by_body (chain_body s C w.layout K wf.names I sc ch)
      where
        by_role : RoleIn C w.layout k b i → IsStuck at
        by_role r = elim r.role [ inl po ↦ absurd (part_counts r.st po co) | inr ow ↦ own_stuck at r.st r.there ow h ]

        by_body : BodyAs C w.layout k b t → IsStuck at
        by_body (body_as bl mk) = by_role (find_role C w.layout bl there)

  -- BLOCKED IN THE CODE, BLOCKED IN THE SCRIPT
  pub blocked_to : (at : ℕ) (path : List Step) → EverBlocked C at path → Blocked s K at (script_path path)
  blocked_to at path x = elim (live_to s C w K wf kn I sc ty alive) [ inl q ↦ absurd (cc (q)) | inr y ↦ by y ]
    where
      alive : Alive s C w K wf kn I sc ty nodes ex single back (Item x.number path x.chunk)
      alive = alive_of s C w K wf kn I sc ty nodes ex single back x.round x.live

      by : ItemLive s C w K wf kn I sc ty (Item x.number path x.chunk) → Blocked s K at (script_path path)
      by y =
          let q = item_parts y.is in
          subst (λ (z : List Step). Blocked s K at (script_path z)) q.1
          (item_stuck y.chain y.number y.chunk y.there (subst (λ (z : Task). Alive s C w K wf kn I sc ty nodes ex single back z) (sym y.is) alive) (λ e h. x.never e (subst (λ (z : Task). Ever (code_system C) z e) y.is h))
          at (subst (λ (z : ℕ). counts (entry C z).act ≡ true) (sym q.0) x.counted)
          (subst (λ (z : List Step). IsBlockedAt C (EverGiven (code_system C)) z (entry C y.number).act (entry C y.number).at at) (sym q.1)
          (subst (λ (z : ℕ). IsBlockedAt C (EverGiven (code_system C)) path (entry C z).act (entry C z).at at) (sym q.0) x.stands)))
