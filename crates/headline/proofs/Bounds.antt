-- Of a script that writes no key twice, each item of a run is live in the script, and a run has at most two events for each item of live bodies and loops, none of them twice, and for each that is given back.
use Rattle.std.proofs.lemmas.List.{length-map, length-drop}
use Rattle.std.proofs.lemmas.List.Concat.{length-flat_map}
use Rattle.std.proofs.lemmas.List.Sums.{sum_by-cons}
use Rattle.std.proofs.Common.{◌≡◌, ◌⊎◌, inl, inr, ℕ, zero, suc, ◌+◌, ◌-◌, ◌*◌, ◌<◌, ◌≤◌, arith, Bool, true, false, List, [], ◌∷◌, ◌++◌, length, map, refl, sym, ap, ◌∙◌, subst, Option, Some, None, length-append}
use Rattle.std.specs.Prelude.{drop}
use Rattle.std.specs.List.{flat_map, sum_by}
use Rattle.dataflow.specs.Events.{backs}
use Rattle.dataflow.specs.Facts as Fa
use Rattle.dataflow.specs.Facts.{Live, live_main, live_opened}
use Rattle.dataflow.specs.History.{log_of}
use Rattle.dataflow.specs.Laws.{Can}
use Rattle.dataflow.specs.Machine.{Event}
use Rattle.dataflow.specs.System.{In, Effect, Opening}
use Rattle.dataflow.proofs.Bound.{events_bound}
use Rattle.dataflow.proofs.Decide.{distinct_within}
use Rattle.dataflow.proofs.Frozen.{live_grows}
use Rattle.dataflow.proofs.Headline.{agrees_with}
use Rattle.dataflow.proofs.Lists.{in_left, in_right, in_map, in_unmap, in_split}
use Rattle.dataflow.proofs.Steps.{run_follows}
use Rattle.values.specs.declared.key.Key.{Key}
use Rattle.values.specs.declared.value.Scalar.{Scalar}
use Rattle.language.specs.Core.{Core}
use Rattle.language.specs.Meaning.{Meaning}
use Rattle.language.specs.Single.{SinglyAssigned}
use Rattle.language.specs.WellFormed.{WellFormed}
use Rattle.language_laws.specs.Scoped.{Scoped}
use Rattle.language_laws.specs.TypedValues.{TypedValues}
use Rattle.task_code.specs.Code.{Code, Loop, body, entry, loop_of}
use Rattle.task_code.specs.Compute.{compute}
use Rattle.task_code.specs.Count.{items_in, rest_from, rests_of}
use Rattle.task_code.specs.Effects.{Task, Main, Item, block, instances, is_some_list, left_at, rest, rest_if, turns_of}
use Rattle.task_code.specs.Exact.{IsExact}
use Rattle.task_code.specs.Machine.{CodeItem, CodeState, Run}
use Rattle.task_code.specs.Places.{Step, Place}
use Rattle.task_code.specs.System.{answered, code_system}
use Rattle.task_code.specs.Whole.{IsCode}
use Rattle.task_code.proofs.Counted.{gather_in}
use Rattle.task_code.proofs.Kept.{code_laws}
use Rattle.task_code.proofs.Opens as Op
use Rattle.task_code.proofs.Opens.{effect_is, found}
use Rattle.fold_laws.specs.Same.{SameCore}
use Rattle.code_rules.specs.IsCodeOf.{IsCodeOf}
use Rattle.code_rules.specs.NodesOnce.{NodesOnce}
use Rattle.headline.specs.Answered.{Reading}
use Rattle.headline.specs.Chains.{Answers}
use Rattle.headline.specs.Inclusions.{Facts}
use Rattle.headline.specs.Knows.{Knows}
use Rattle.headline.proofs.LiveTo.{Fact, ItemLive, live_to, good_in, in_one}
use Rattle.headline.proofs.RunsWithin.{within}
use Rattle.headline.proofs.Transfer.{live_reading, reading_valid}
use Rattle.headline.proofs.Within.{clean_code}
use Rattle.headline.specs.Live.{AreLiveBodies, AreLiveLoops, IsBounded, IsLiveBody, IsLiveItem, IsLiveLoop}
use Rattle.headline.proofs.Loops.{live_body, live_loop}
use Rattle.headline.proofs.Once.{Instance, Looped, Put, IsRest, among, in_rests, item_parts, put, rest_items}
use Rattle.values.specs.Limits.{chunk_size}

-- LISTS

sum_same : {A : Type 0} (f g : A → ℕ) → ((x : A) → f x ≡ g x) → (xs : List A) → sum_by f xs ≡ sum_by g xs
sum_same f g h [] = refl
sum_same f g h (x ∷ xs) = sum_by-cons f x xs ∙ (λ i. h x i + sum_same f g h xs i) ∙ sym (sum_by-cons g x xs)

one_more : (n m : ℕ) → n ≡ m → suc n ≡ 1 + m
one_more n m h = omega arith

-- what is left before a chunk is behind the chunks before it
left_long : {X : Type 0} (c : ℕ) (xs : List X) → is_some_list (left_at c xs) ≡ true → chunk_size * c < length xs
left_long zero [] h = absurd (cc)
left_long zero (x ∷ xs) h = omega arith
left_long (suc c) xs h = let l = left_long c (drop chunk_size xs) h in let d = length-drop chunk_size xs in omega arith

left_some : {X : Type 0} (c : ℕ) (xs : List X) → is_some_list (left_at c xs) ≡ true → (x : X) × In x xs
left_some c [] h = let l = left_long c [] h in absurd (omega arith)
left_some c (x ∷ xs) h = (x, inl refl)

few_rests : (c m : ℕ) → chunk_size * suc c < m → suc c ≤ rests_of m
few_rests c m h = grind arith

length_rests : (i : ℕ) (p : List Step) (k : ℕ) → length (rest_from i p k) ≡ k
length_rests i p zero = refl
length_rests i p (suc k) = let h = length_rests i p k in omega arith

-- THE ITEMS THAT ARE COUNTED

module _ (C : Code) where
  abbrev block_items : Instance → List Task
  block_items s = map (λ j. Item j s.1 0) (body C s.0).entries

  module _ (bodies : List Instance) (loops : List Looped) where
    abbrev all_items : List Task
    all_items = Main ∷ (flat_map block_items bodies ++ flat_map rest_items loops)

    items_counted : length all_items ≡ items_in C bodies loops
    items_counted =
        let a = length-flat_map block_items bodies in
        let b = length-flat_map rest_items loops in
        let x = sum_same (λ s. length (block_items s)) (λ s. length (body C s.0).entries) (λ s. length-map (body C s.0).entries (λ j. Item j s.1 0)) bodies in
        let y = sum_same (λ l. length (rest_items l)) (λ l. rests_of l.2) (λ l. length_rests l.0 l.1 (rests_of l.2)) loops in
        one_more (length (flat_map block_items bodies ++ flat_map rest_items loops)) _ (length-append (flat_map block_items bodies) (flat_map rest_items loops) ∙ (λ i. (a ∙ x) i + (b ∙ y) i))

    -- one of these items
    abbrev IsOf : Task → Type 0
    IsOf u = (u ≡ Main) ⊎ (((b : Instance) × In b bodies × In u (block_items b)) ⊎ IsRest u loops)

    counted : (u : Task) → IsOf u → In u all_items
    counted u (inl q) = inl q
    counted u (inr (inl x)) = inr (in_left u (flat_map block_items bodies) (flat_map rest_items loops) (gather_in block_items bodies x.0 u x.1 x.2))
    counted u (inr (inr x)) = inr (in_right u (flat_map block_items bodies) (flat_map rest_items loops) (gather_in rest_items loops x.loop u x.there x.of_it))

few_events : (e n m k b : ℕ) → e + 2 ≤ 2 * n + 2 * b → n ≡ suc m → m ≤ k → e ≤ 2 * (k + b)
few_events e n m k b h q l = omega arith

module _ (script s : Core) (same : SameCore script s) (C : Code) (w : IsCodeOf s C) (wf : WellFormed s) (kn : Knows s (Meaning s)) (I : IsCode C) (sc : Scoped s) (ty : TypedValues s (Meaning s)) where
  abbrev Alive : Task → Type 0
  Alive t = Live (code_system C) (Reading (code_system C) (Answers s (Meaning s))) t

  abbrev FactOf : Task → Effect Task Place Key Scalar → Type 0
  FactOf t e = Fact s C w (Meaning s) wf kn I sc ty t e

  -- the item of a loop that left the rest of its turns to another one
  record Before (i c : ℕ) (p : List Step) : Type 0 where
    effect : Effect Task Place Key Scalar
    live : Alive (Item i p c)
    fact : FactOf (Item i p c) effect
    loop : Loop
    loops : loop_of (entry C i).act ≡ Some loop
    left : is_some_list (left_at (suc c) (turns_of (compute (entry C i).act (answered C p (entry C i).needs fact.answers)))) ≡ true

  rest_before : (j d : ℕ) (q : List Step) (e : Effect Task Place Key Scalar) (lv : Alive (Item j q d)) (f : FactOf (Item j q d) e) (o : Opening Task Place) (u : Task)
      → In o (map (block C) (instances (entry C j).act (entry C j).offset q d (compute (entry C j).act (answered C q (entry C j).needs f.answers)))) ⊎ In o (rest (loop_of (entry C j).act) j q d (compute (entry C j).act (answered C q (entry C j).needs f.answers)))
      → In u o.tasks → (i c : ℕ) (p : List Step) → u ≡ Item i p (suc c) → Before i c p
  rest_before j d q e lv f o u (inl g) iu i c p same =
      let r = in_unmap (block C) o (instances (entry C j).act (entry C j).offset q d (compute (entry C j).act (answered C q (entry C j).needs f.answers))) g in
      let m = Op.in_block C r.0 o u (sym r.2) iu in
      let z : suc c ≡ 0 = (item_parts (sym same ∙ m.2)).2 in
      absurd (omega arith)
  rest_before j d q e lv f o u (inr g) iu i c p same = by (loop_of (entry C j).act) refl g
    where
      by : (k : Option Loop) → loop_of (entry C j).act ≡ k → In o (rest k j q d (compute (entry C j).act (answered C q (entry C j).needs f.answers))) → Before i c p
      by None z h = absurd h
      by (Some lp) z h = by_left (is_some_list (left_at (suc d) (turns_of (compute (entry C j).act (answered C q (entry C j).needs f.answers))))) refl h
        where
          by_left : (b : Bool) → is_some_list (left_at (suc d) (turns_of (compute (entry C j).act (answered C q (entry C j).needs f.answers)))) ≡ b → In o (rest_if b j q d) → Before i c p
          by_left false y h = absurd h
          by_left true y h =
              let oq : o ≡ record { makes = []; tasks = Item j q (suc d) ∷ [] } = in_one o _ h in
              let uq : u ≡ Item j q (suc d) = in_one u _ (subst (λ (x : Opening Task Place). In u x.tasks) oq iu) in
              let parts = item_parts (sym uq ∙ same) in
              let cq : d ≡ c = (let n = parts.2 in omega arith) in
              let b : Before j d q = record { effect = e; live = lv; fact = f; loop = lp; loops = z; left = y } in
              subst (λ (n : ℕ). Before n c p) parts.0 (subst (λ (r : List Step). Before j c r) parts.1 (subst (λ (n : ℕ). Before j n q) cq b))

  before : (u : Task) → Alive u → (i c : ℕ) (p : List Step) → u ≡ Item i p (suc c) → Before i c p
  before u live_main i c p q = absurd (cc (q))
  before u (live_opened t u' e o lv f io iu) i c p q = by t lv f
    where
      by : (t : Task) → Alive t → FactOf t e → Before i c p
      by Main lv f =
          let io' : In o (block C (0, []) ∷ []) = subst (λ (x : Effect Task Place Key Scalar). In o x.opens) (sym (good_in f.is)) io in
          let m = Op.in_block C (0, []) o u' (in_one o _ io') iu in
          let z : suc c ≡ 0 = (item_parts (sym q ∙ m.2)).2 in
          absurd (omega arith)
      by (Item j r d) lv f =
          let can : Can (code_system C) (Item j r d) e = record { answers = f.answers; is = f.is; valid = reading_valid (code_system C) (code_laws C I) (Answers s (Meaning s)) lv } in
          let io' = subst (λ (x : Effect Task Place Key Scalar). In o x.opens) (sym (effect_is C j d r e can)) io in
          rest_before j d r e lv f o u' (in_split o (map (block C) (instances (entry C j).act (entry C j).offset r d (found C can))) (rest (loop_of (entry C j).act) j r d (found C can)) io') iu i c p q

  -- BODIES AND LOOPS FOR ITEMS

  -- live bodies and loops, none twice, that have all of these items
  record Covers (ts : List Task) : Type 0 where
    bodies : List Instance
    loops : List Looped
    live_bodies : AreLiveBodies script C w.layout bodies
    live_loops : AreLiveLoops script C w.layout loops
    has : (u : Task) → In u ts → IsOf C bodies loops u

  -- with an item of one more body
  with_body : (ts : List Task) → Covers ts → (b : Instance) → IsLiveBody script C w.layout b.0 b.1 → (u : Task) → In u (block_items C b) → Covers (u ∷ ts)
  with_body ts r b live u m = by (among b r.bodies)
    where
      same_body : (v : Task) → v ≡ u → In v (block_items C b)
      same_body v q = subst (λ (z : Task). In z (block_items C b)) (sym q) m

      more : (v : Task) → IsOf C r.bodies r.loops v → IsOf C (b ∷ r.bodies) r.loops v
      more v (inl q) = inl q
      more v (inr (inl x)) = inr (inl (x.0, inr x.1, x.2))
      more v (inr (inr x)) = inr (inr x)

      by : (In b r.bodies ⊎ (In b r.bodies → ⊥)) → Covers (u ∷ ts)
      by (inl i) = record {
        bodies = r.bodies;
        loops = r.loops;
        live_bodies = r.live_bodies;
        live_loops = r.live_loops;
        has = λ v h. elim h [ inl q ↦ inr (inl (b, i, same_body v q)) | inr j ↦ r.has v j ];
      }
      by (inr n) = record {
        bodies = b ∷ r.bodies;
        loops = r.loops;
        live_bodies = record {
          once = (n, (r.live_bodies).once);
          each = λ c h. elim h [ inl q ↦ subst (λ (z : Instance). IsLiveBody script C w.layout z.0 z.1) (sym q) live | inr j ↦ (r.live_bodies).each c j ];
        };
        live_loops = r.live_loops;
        has = λ v h. elim h [ inl q ↦ inr (inl (b, inl refl, same_body v q)) | inr j ↦ more v (r.has v j) ];
      }

  -- with an item of one more loop
  with_loop : (ts : List Task) → Covers ts → (l : Looped) → IsLiveLoop script C w.layout l.0 l.1 l.2 → (u : Task) → In u (rest_items l) → Covers (u ∷ ts)
  with_loop ts r l live u m =
      let x = put l r.loops in
      record {
        bodies = r.bodies;
        loops = x.after;
        live_bodies = r.live_bodies;
        live_loops = record {
          once = x.once (r.live_loops).once;
          each = λ k h. elim (x.from k h) [ inl q ↦ subst (λ (z : Looped). IsLiveLoop script C w.layout z.0 z.1 z.2) (sym q) live | inr j ↦ (r.live_loops).each k j ];
        };
        has = λ v h. elim h [ inl q ↦ inr (inr (x.has v (subst (λ (z : Task). In z (rest_items l)) (sym q) m))) | inr j ↦ more x v (r.has v j) ];
      }
    where
      more : (x : Put l r.loops) (v : Task) → IsOf C r.bodies r.loops v → IsOf C r.bodies x.after v
      more x v (inl q) = inl q
      more x v (inr (inl y)) = inr (inl y)
      more x v (inr (inr y)) = inr (inr (x.keeps v y))

  with_item : (ts : List Task) → Covers ts → (u : Task) → Alive u → (x : ItemLive s C w (Meaning s) wf kn I sc ty u) → (n : ℕ) → x.chunk ≡ n → Covers (u ∷ ts)
  with_item ts r u lv x zero q =
      let here : Item x.number x.path 0 ≡ u = ap (λ (n : ℕ). Item x.number x.path n) (sym q) ∙ x.is in
      let there = in_map (λ j. Item j x.path 0) x.number (body C x.body_number).entries x.there in
      with_body ts r (x.body_number, x.path) (live_body script s same C w wf kn I sc ty x.chain x.number x.there) u
      (subst (λ (z : Task). In z (block_items C (x.body_number, x.path))) here there)
  with_item ts r u lv x (suc c) q =
      let here : Item x.number x.path (suc c) ≡ u = ap (λ (n : ℕ). Item x.number x.path n) (sym q) ∙ x.is in
      let b = before u lv x.number c x.path (sym here) in
      let turns = turns_of (compute (entry C x.number).act (answered C x.path (entry C x.number).needs (b.fact).answers)) in
      let one = left_some (suc c) turns b.left in
      let loop = live_loop script s same C w wf kn I sc ty x.chain x.number c x.there b.effect b.fact b.loop b.loops one.0 one.1 in
      let there = in_rests x.number x.path c (rests_of (length turns)) (few_rests c (length turns) (left_long (suc c) turns b.left)) in
      with_loop ts r (x.number, x.path, length turns) loop u (subst (λ (z : Task). In z (rest_from x.number x.path (rests_of (length turns)))) here there)

  covers : (ts : List Task) → ((t : Task) → In t ts → Alive t) → Covers ts
  covers [] h = record {
    bodies = [];
    loops = [];
    live_bodies = record { once = tt; each = λ b z. absurd z };
    live_loops = record { once = tt; each = λ l z. absurd z };
    has = λ u z. absurd z;
  }
  covers (t ∷ ts) h = with_one (h t (inl refl)) (covers ts (λ u i. h u (inr i)))
    where
      with_one : Alive t → Covers ts → Covers (t ∷ ts)
      with_one lv r = elim (live_to s C w (Meaning s) wf kn I sc ty lv) [ inl q ↦ with_main q r | inr x ↦ with_item ts r t lv x x.chunk refl ]
        where
          with_main : t ≡ Main → Covers ts → Covers (t ∷ ts)
          with_main q r = record {
            bodies = r.bodies;
            loops = r.loops;
            live_bodies = r.live_bodies;
            live_loops = r.live_loops;
            has = λ v h. elim h [ inl e ↦ inl (e ∙ q) | inr j ↦ r.has v j ];
          }

  -- RUNS
  module _ (nodes : NodesOnce C) (ex : IsExact C) (single : SinglyAssigned s) where
    alive : (n : ℕ) {t : Task} → Live (code_system C) (Fa.Known (code_system C) n) t → Alive t
    alive n l =
        live_reading (code_system C) (code_laws C I) (Answers s (Meaning s))
        (live_grows (code_system C) (Fa.Known (code_system C) n) (Facts s C (Meaning s)) (within s C w wf kn I sc ty nodes ex single n) l)

    live_item : {u : Task} → ItemLive s C w (Meaning s) wf kn I sc ty u → IsLiveItem script C w.layout u
    live_item x = record { number = x.number; path = x.path; chunk = x.chunk; is = sym x.is; body_number = x.body_number; there = x.there; live = live_body script s same C w wf kn I sc ty x.chain x.number x.there }

    pub run_live : (events : List Event) (st : CodeState) → Run C events st → (i : CodeItem) → In i st.items → (i.task ≡ Main) ⊎ IsLiveItem script C w.layout i.task
    run_live events st run i m =
        let a = agrees_with (code_system C) (code_laws C I) st (log_of (code_system C) events st run) (run_follows (code_system C) (code_laws C I) events st run) (clean_code s C w (Meaning s) wf kn I sc ty nodes ex single) in
        elim (live_to s C w (Meaning s) wf kn I sc ty (alive a.round (a.items i m))) [ inl q ↦ inl q | inr x ↦ inr (live_item x) ]

    pub run_bound : (events : List Event) (st : CodeState) → Run C events st → IsBounded script C w.layout events
    run_bound events st run =
        let a = agrees_with (code_system C) (code_laws C I) st (log_of (code_system C) events st run) (run_follows (code_system C) (code_laws C I) events st run) (clean_code s C w (Meaning s) wf kn I sc ty nodes ex single) in
        let r = covers a.made (λ t i. alive a.round (a.made_live t i)) in
        let d = distinct_within a.made (all_items C r.bodies r.loops) a.made_once (λ t i. counted C r.bodies r.loops t (r.has t i)) in
        record {
          bodies = r.bodies;
          loops = r.loops;
          live_bodies = r.live_bodies;
          live_loops = r.live_loops;
          few = subst (λ (n : ℕ). length events ≤ 2 * (n + backs events)) (items_counted C r.bodies r.loops) (few_events (length events) st.next (length a.made) (length (all_items C r.bodies r.loops)) (backs events) (events_bound (code_system C) events st run) a.made_all d);
        }
