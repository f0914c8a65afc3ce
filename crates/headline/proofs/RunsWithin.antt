-- Every run of a clean script's code: what it stores, closes, prints and reports is the script's.
use Rattle.std.proofs.Common.{◌≡◌, ◌⊎◌, inl, inr, ℕ, Bool, true, false, List, [], ◌∷◌, map, refl, sym, ap, ◌∙◌, subst, Some}
use Rattle.dataflow.specs.System.{In, Distinct, Outcome}
use Rattle.dataflow.specs.Facts as Fa
use Rattle.dataflow.specs.Facts.{Live, live_main, live_opened, Ever, Faulty, Comes, Written}
use Rattle.dataflow.specs.Laws.{Can}
use Rattle.dataflow.specs.Machine.{Fault as MachineFault, OfTask}
use Rattle.dataflow.specs.Promises.{Agrees as AgreesWith, lines_of, tasks_in_log}
use Rattle.dataflow.proofs.Frozen.{finished_grows, made_grows}
use Rattle.dataflow.proofs.Lists.{in_map, in_split}
use Rattle.dataflow.proofs.Settled.{comes_grows}
use Rattle.values.specs.declared.key.Key.{Key}
use Rattle.values.specs.declared.value.Scalar.{Scalar}
use Rattle.values.specs.declared.value.Scalar.TheVariants.{Text}
use Rattle.language.specs.Core.{Core}
use Rattle.language.specs.Facts.{line}
use Rattle.language.specs.Meaning.{Meaning}
use Rattle.language.specs.Outcomes.{OnceEach}
use Rattle.language.specs.Places.{Place}
use Rattle.language.specs.Single.{SinglyAssigned}
use Rattle.language.specs.WellFormed.{WellFormed}
use Rattle.language_laws.specs.Scoped.{Scoped}
use Rattle.language_laws.specs.TypedValues.{TypedValues}
use Rattle.task_code.specs.Code as code
use Rattle.task_code.specs.Code.{Variable, Act, Code, Loop, entry, loop_of}
use Rattle.task_code.specs.Compute as Compute
use Rattle.task_code.specs.Compute.{Computed, EntryFault}
use Rattle.task_code.specs.Effects.{Task, Main, Item, prints}
use Rattle.task_code.specs.Exact.{IsExact}
use Rattle.task_code.specs.Machine.{CodeState}
use Rattle.task_code.specs.Places.{Step, Datum}
use Rattle.task_code.specs.Places as CodePlaces
use Rattle.task_code.specs.System.{answered, code_system}
use Rattle.task_code.specs.Whole.{IsCode}
use Rattle.task_code.proofs.Kept.{code_laws}
use Rattle.task_code.proofs.Opens.{effect_is}
use Rattle.headline.specs.Headline.{script_path, script_place, IsMeant, IsMeantIn, IsMeantFault, Agrees}
use Rattle.code_rules.specs.IsCodeOf.{IsCodeOf}
use Rattle.code_rules.specs.NodesOnce.{TellsNode, NodesOnce}
use Rattle.headline.specs.Answered.{Reading, IsRight}
use Rattle.headline.specs.Chains.{Answers}
use Rattle.headline.specs.Inclusions.{Facts, FaultsTo}
use Rattle.headline.specs.Inclusions as In_
use Rattle.headline.specs.Knows.{Knows}
use Rattle.headline.proofs.ClosingTo.{closed_to}
use Rattle.headline.proofs.Listing.{TaskEffect, LogFacts, text, writer, its_lines, listing, Prints, its_printed, printed_by, once_append, listing_texts, all_texts}
use Rattle.headline.proofs.LinesOf.{lines_to}
use Rattle.headline.proofs.LiveTo.{ItemLive, live_to, good_in}
use Rattle.headline.proofs.Transfer.{shown_one, shown_grounded, shown_writer, reading_valid}
use Rattle.headline.proofs.WholeTo.{written_to, arrays_once, first_chunk}
use Rattle.headline.proofs.Within.{script_right, ever_in}
use Rattle.headline.proofs.WrittenFrom.{path_same}

-- a printing act is no loop, and tells its node; it prints once
prints_tells : (a : Act) (x : Computed) (v : Scalar) → In v (prints a x) → TellsNode a × ((lp : Loop) → loop_of a ≡ Some lp → ⊥)
prints_tells (code.Print e) x v h = (tt, λ lp q. absurd (cc (q)))
prints_tells (code.Cell e) x v h = absurd h
prints_tells code.Read x v h = absurd h
prints_tells (code.Call b rs os) x v h = absurd h
prints_tells (code.Set r e) x v h = absurd h
prints_tells (code.Fill r es) x v h = absurd h
prints_tells (code.Copy r) x v h = absurd h
prints_tells (code.InsertElement r i e) x v h = absurd h
prints_tells (code.Assert e) x v h = absurd h
prints_tells (code.If e b d) x v h = absurd h
prints_tells (code.Range l g s w) x v h = absurd h
prints_tells (code.Each w) x v h = absurd h
prints_tells (code.Wait hs b) x v h = absurd h

prints_once : (a : Act) (x : Computed) (q : Place) → OnceEach (map (λ (u : Scalar). (q, text u)) (prints a x))
prints_once (code.Print e) (Compute.Gives v) q = (λ t m. elim m [ ], tt)
prints_once (code.Print e) (Compute.Fails f) q = tt
prints_once (code.Print e) (Compute.Inserts xs) q = tt
prints_once (code.Print e) (Compute.Takes b) q = tt
prints_once (code.Print e) (Compute.Turns ts) q = tt
prints_once (code.Print e) Compute.Opens q = tt
prints_once (code.Cell e) x q = tt
prints_once code.Read x q = tt
prints_once (code.Call b rs os) x q = tt
prints_once (code.Set r e) x q = tt
prints_once (code.Fill r es) x q = tt
prints_once (code.Copy r) x q = tt
prints_once (code.InsertElement r i e) x q = tt
prints_once (code.Assert e) x q = tt
prints_once (code.If e b d) x q = tt
prints_once (code.Range l g s w) x q = tt
prints_once (code.Each w) x q = tt
prints_once (code.Wait hs b) x q = tt

module _ (s : Core) (C : Code) (w : IsCodeOf s C) (wf : WellFormed s) (kn : Knows s (Meaning s)) (I : IsCode C) (sc : Scoped s) (ty : TypedValues s (Meaning s)) (nodes : NodesOnce C) (ex : IsExact C) (single : SinglyAssigned s) where
  abbrev pub Its : Task → TaskEffect → Type 0
  Its t e = Facts s C (Meaning s) t e

  right : IsRight (code_system C) (Answers s (Meaning s))
  right = script_right s C w (Meaning s) wf kn I sc ty nodes ex single

  pub within : (n : ℕ) (t : Task) (e : TaskEffect) → Fa.Known (code_system C) n t e → Its t e
  within n t e h = ever_in s C w (Meaning s) wf kn I sc ty nodes ex single t e (record { round = n; known = h })

  -- what comes in the code's meaning comes of what the script's answers yield
  pub comes_in : (n : ℕ) {t : Task} {r : Outcome Task CodePlaces.Place Key Scalar EntryFault} → Comes (code_system C) (Fa.Known (code_system C) n) t r → Comes (code_system C) Its t r
  comes_in n c = comes_grows (code_system C) (code_laws C I) (Fa.Known (code_system C) n) Its (within n) (shown_grounded (code_system C) (code_laws C I) (Answers s (Meaning s)) right.one) (shown_one (code_system C) (code_laws C I) (Answers s (Meaning s)) right.one)
      (shown_writer (code_system C) (code_laws C I) (Answers s (Meaning s)) right.one right.arrays) c

  closed_in : (n : ℕ) (p : List Step) (v : Variable) → v.array ≡ true → Fa.Closed (code_system C) (Fa.Known (code_system C) n) (Datum p v) → Fa.Closed (code_system C) Its (Datum p v)
  closed_in n p v va c = record {
    made = made_grows (code_system C) (Fa.Known (code_system C) n) Its (within n) c.made;
    finished = λ u i. finished_grows (code_system C) (Fa.Known (code_system C) n) Its (within n) (c.finished u i);
    one_writer = arrays_once s C w (Meaning s) wf kn I sc ty nodes p v va;
  }

  stored_is : (a : CodePlaces.Place) (k : Key) (x : Scalar) → Written (code_system C) Its a k x → IsMeant s a k x
  stored_is a k x wr =
      let r = written_to s C w (Meaning s) wf kn I sc ty a k x wr in
      subst (λ (d : CodePlaces.Place). IsMeant s d k x) (sym r.2) (by (script_place r.0 r.1) (r.1).array r.3)
    where
      by : (at : Place) (b : Bool) → In_.Knows s C (Meaning s) b at k x → IsMeantIn s b at k x
      by at false h = h.1
      by at true h = h

  -- LINES
  record Printer (t : Task) (e : TaskEffect) : Type 0 where
    item : ItemLive s C w (Meaning s) wf kn I sc ty t
    live : Live (code_system C) (Reading (code_system C) (Answers s (Meaning s))) (Item item.number item.path item.chunk)
    computed : Computed
    lines_are : prints (entry C item.number).act computed ≡ e.lines

  printer : (t : Task) (e : TaskEffect) → Its t e → (e.lines ≡ []) ⊎ Printer t e
  printer t e f = elim (live_to s C w (Meaning s) wf kn I sc ty f.live) [ inl q ↦ inl (main_case q) | inr x ↦ inr (item_case x) ]
    where
      main_case : t ≡ Main → e.lines ≡ []
      main_case q = sym (ap (λ (x : TaskEffect). x.lines) (good_in (ap (λ (z : Task). (code_system C).effect z f.reading.answers) (sym q) ∙ f.reading.is)))

      item_case : ItemLive s C w (Meaning s) wf kn I sc ty t → Printer t e
      item_case x =
          let lv = subst (λ (z : Task). Live (code_system C) (Reading (code_system C) (Answers s (Meaning s))) z) (sym x.is) f.live in
          let g = subst (λ (z : Task). Reading (code_system C) (Answers s (Meaning s)) z e) (sym x.is) f.reading in
          let can : Can (code_system C) (Item x.number x.path x.chunk) e = record { answers = g.answers; is = g.is; valid = reading_valid (code_system C) (code_laws C I) (Answers s (Meaning s)) lv } in
          record { item = x; live = lv; computed = Compute.compute (entry C x.number).act (answered C x.path (entry C x.number).needs g.answers); lines_are = ap (λ (z : TaskEffect). z.lines) (effect_is C x.number x.chunk x.path e can) }

  abbrev pub AllIts : LogFacts → Type 0
  AllIts fs = (t : Task) (e : TaskEffect) → In (t, e) fs → Its t e

  -- a fact that prints, by its item
  record Line (t : Task) : Type 0 where
    item : ItemLive s C w (Meaning s) wf kn I sc ty t
    chunk_is : item.chunk ≡ 0
    tells : TellsNode (entry C item.number).act

  line_of : (t : Task) (e : TaskEffect) (v : Scalar) → Its t e → In v e.lines → Line t
  line_of t e v f h =
      elim (printer t e f) [
        | inl q ↦ absurd (subst (λ (l : List Scalar). In v l) q h)
        | inr r ↦ (let g = prints_tells (entry C (r.item).number).act r.computed v (subst (λ (l : List Scalar). In v l) (sym r.lines_are) h) in
            record { item = r.item; chunk_is = elim (first_chunk s C w (Meaning s) wf kn I sc ty _ r.live (r.item).number (r.item).chunk (r.item).path refl) [ inl e ↦ e | inr l ↦ absurd (g.1 l.0 l.1) ]; tells = g.0 })
      ]

  same_task : (t u : Task) → Line t → Line u → writer C t ≡ writer C u → t ≡ u
  same_task t u a b h =
      let e : ◌≡◌ {A = Place} (script_path (a.item).path, (entry C (a.item).number).node) (script_path (b.item).path, (entry C (b.item).number).node) = ap (writer C) (a.item).is ∙ h ∙ sym (ap (writer C) (b.item).is) in
      let ep = path_same (a.item).path (b.item).path (ap (λ (z : Place). z.0) e) in
      let en = nodes (a.item).body_number (b.item).body_number (a.item).number (b.item).number (a.item).there (b.item).there a.tells b.tells (ap (λ (z : Place). z.1) e) in
      sym (a.item).is ∙ (λ i. Item (en i) (ep i) ((a.chunk_is ∙ sym b.chunk_is) i)) ∙ (b.item).is

  once_its : (t : Task) (e : TaskEffect) → Its t e → OnceEach (its_lines C (t, e))
  once_its t e f =
      elim (printer t e f) [
        | inl q ↦ subst (λ (l : List Scalar). OnceEach (map (λ (u : Scalar). (writer C t, text u)) l)) (sym q) tt
        | inr r ↦ subst (λ (l : List Scalar). OnceEach (map (λ (u : Scalar). (writer C t, text u)) l)) r.lines_are (prints_once (entry C (r.item).number).act r.computed (writer C t))
      ]

  pub once_listing : (fs : LogFacts) → Distinct (tasks_in_log (code_system C) fs) → AllIts fs → OnceEach (listing C fs)
  once_listing [] d h = tt
  once_listing (x ∷ fs) d h =
      once_append C (listing C fs) (its_lines C x) (once_listing fs d.1 (λ t e i. h t e (inr i))) (once_its x.0 x.1 (h x.0 x.1 (inl refl))) apart_from
    where
      apart_from : (p : Place) (t u : List ℕ) → Prints C p t (listing C fs) → Prints C p u (its_lines C x) → ⊥
      apart_from p t u i j =
          let a = printed_by C fs p t i in
          let b = its_printed C x (x ∷ []) (inl refl) p u x.1.lines (λ v k. k) j in
          let bt : b.task ≡ x.0 = elim b.there [ inl q ↦ ap (λ (y : Task × TaskEffect). y.0) q | inr n ↦ absurd n ] in
          let be : b.effect ≡ x.1 = elim b.there [ inl q ↦ ap (λ (y : Task × TaskEffect). y.1) q | inr n ↦ absurd n ] in
          let ca = line_of a.task a.effect a.value (h a.task a.effect (inr a.there)) a.prints in
          let cb = line_of x.0 x.1 b.value (h x.0 x.1 (inl refl)) (subst (λ (y : TaskEffect). In b.value y.lines) be b.prints) in
          let same : a.task ≡ x.0 = same_task a.task x.0 ca cb (sym a.place_is ∙ b.place_is ∙ ap (writer C) bt) in
          d.0 (subst (λ (y : Task). In y (tasks_in_log (code_system C) fs)) same (in_map (λ (y : Task × TaskEffect). y.0) (a.task, a.effect) fs a.there))

  -- a line that is printed is the script's
  its_line : (t : Task) (e : TaskEffect) (v : Scalar) → Its t e → In v e.lines → (bytes : List ℕ) × (v ≡ Text bytes) × Meaning s (line (writer C t) bytes)
  its_line t e v f h =
      let l = line_of t e v f h in
      let f' = subst (λ (z : Task). Its z e) (sym (l.item).is) f in
      let r = lines_to s C w (Meaning s) wf kn I sc ty (l.item).number (l.item).chunk (l.item).path e v f' h in
      (r.0, r.1, subst (λ (z : Task). Meaning s (line (writer C z) r.0)) (l.item).is r.2)

  pub listing_known : (fs : LogFacts) → AllIts fs → (p : Place) (x : List ℕ) → Prints C p x (listing C fs) → Meaning s (line p x)
  listing_known fs h p x m =
      let a = printed_by C fs p x m in
      let r = its_line a.task a.effect a.value (h a.task a.effect a.there) a.prints in
      let xq : r.0 ≡ x = sym (ap text r.1) ∙ sym a.text_is in
      subst (λ (z : Place). Meaning s (line z x)) (sym a.place_is) (subst (λ (z : List ℕ). Meaning s (line (writer C a.task) z)) xq r.2)

  in_lines : (v : Scalar) (fs : LogFacts) → In v (lines_of (code_system C) fs) → (t : Task) × (e : TaskEffect) × In (t, e) fs × In v e.lines
  in_lines v [] h = absurd h
  in_lines v (x ∷ fs) h =
      elim (in_split v (lines_of (code_system C) fs) x.1.lines h) [
        | inl i ↦ (let r = in_lines v fs i in (r.0, r.1, inr r.2, r.3))
        | inr i ↦ (x.0, x.1, inl refl, i)
      ]

  pub line_text : (fs : LogFacts) → AllIts fs → (v : Scalar) → In v (lines_of (code_system C) fs) → (bytes : List ℕ) × (v ≡ Text bytes)
  line_text fs h v i = (let r = in_lines v fs i in let z = its_line r.0 r.1 v (h r.0 r.1 r.2) r.3 in (z.0, z.1))

  -- THE STATES OF A RUN
  pub run_agrees : FaultsTo s C (Meaning s) → (st : CodeState) → AgreesWith (code_system C) st → Agrees s C st
  run_agrees faults st a = record {
    stored = λ x h. (let z = a.stored x h in stored_is x.place x.key x.value (record { task = z.task; effect = z.effect; fact = within a.round z.task z.effect z.fact; write = z.write }));
    closed = λ path v arr c. closed_to s C w (Meaning s) wf kn I sc ty path v arr (closed_in a.round path v arr (a.closed (Datum path v) c));
    printed = map text st.lines;
    printed_is = all_texts C st.lines (λ y i. line_text a.lines.facts its y (subst (λ (l : List Scalar). In y l) a.lines.is i));
    lines = record {
      listing = listing C a.lines.facts;
      once = once_listing a.lines.facts a.lines.once its;
      known = listing_known a.lines.facts its;
      is = listing_texts C a.lines.facts ∙ ap (λ (l : List Scalar). map text l) (sym a.lines.is);
    };
    fault = λ t f q. (let r = a.fault t f q in subst (λ (z : MachineFault EntryFault). IsMeantFault s C t z) (sym r.1) (fault_is t r.0 r.2));
  }
    where
      its : AllIts a.lines.facts
      its t e i = (let f = a.lines.known t e i in within f.round t e f.known)

      fault_is : (t : Task) (f : EntryFault) → Faulty (code_system C) t f → IsMeantFault s C t (OfTask f)
      fault_is Main f z = (let q = z.comes.is in absurd (cc (q)))
      fault_is (Item i p c) f z = faults i c p f (comes_in z.round z.comes)
