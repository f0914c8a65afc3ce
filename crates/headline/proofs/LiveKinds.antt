-- What the inputs of live items are, by the code alone: the names of a live item's reads mean data of their kinds, that stand for no plain cell.
use Rattle.std.proofs.Common.{◌≡◌, ◌⊎◌, inl, inr, ℕ, suc, List, [], ◌∷◌, refl, sym, ap, ◌∙◌, subst}
use Rattle.dataflow.specs.System.{In, Opening}
use Rattle.dataflow.specs.Facts.{Live, live_main, live_opened}
use Rattle.dataflow.specs.Laws.{Can}
use Rattle.language.specs.Core as Co
use Rattle.language.specs.Core.{Stmt, stmt, Block, Core}
use Rattle.language.specs.Facts.{Knowledge}
use Rattle.language.specs.Meaning as Mn
use Rattle.language.specs.Members.{◌∈◌, first, later}
use Rattle.language.specs.Parts.{block_list, script_blocks}
use Rattle.language.specs.WellFormed.{WellFormed}
use Rattle.language.proofs.Blocks.{inner_block, function_block, among_script}
use Rattle.language_laws.proofs.Declared.{live_block}
use Rattle.language_laws.specs.Scoped.{Scoped}
use Rattle.values.specs.declared.key.Key.{Key}
use Rattle.task_code.specs.Code as code
use Rattle.task_code.specs.Code.{Variable, Act, Header, Way, InPlace, Through, Calling, Code, entry, body, ways}
use Rattle.task_code.specs.Effects.{Task, Main, Item, block}
use Rattle.task_code.specs.Places as CodePlaces
use Rattle.task_code.specs.Places.{Step, Datum, Constant, place_at}
use Rattle.task_code.specs.System.{code_system}
use Rattle.task_code.specs.Whole.{Declared, SeenFrom, Fixes, IsCode}
use Rattle.task_code.proofs.Opens.{PathBy, opened, in_block, in_rest, seen_place}
use Rattle.task_code.proofs.Places.{argued, not_constant}
use Rattle.code_rules.specs.IsCodeOf.{PartAs, plain_literal, plain_name, a_cell, a_read, a_call, WaitAs, one_wait, merged, BodyAs, body_as, IsCodeOf}
use Rattle.headline.proofs.Exact.{simple_no_ways}
use Rattle.headline.proofs.Hits.{Kind, Kinds, declared_kind, outside_kind}
use Rattle.headline.proofs.LiveBy.{TaskEffect}
use Rattle.headline.proofs.LiveTo.{good_in, in_one, call_of}
use Rattle.headline.proofs.Means.{covering_reads}
use Rattle.headline.proofs.Roles.{PartOf, OwnAs, own_simple, own_branch, own_branches, own_range, own_each, own_wait, find_role, parts_of}

way_in : {x y : Way × ℕ} → In x (y ∷ []) → x.1 ≡ y.1
way_in (inl e) = ap (λ (z : Way × ℕ). z.1) e
way_in (inr z) = absurd z

module _ (s : Core) (C : Code) (w : IsCodeOf s C) (K : Knowledge) (wf : WellFormed s) (I : IsCode C) (sc : Scoped s) where
  -- a body that stands for a block of the script
  pub record Standing (u : ℕ) : Type 0 where
    pub inputs : ℕ
    pub block_of : Block
    pub stands : BodyAs C w.layout inputs block_of u
    pub in_script : block_of ∈ script_blocks s

  moved : {t u : ℕ} → u ≡ t → Standing t → Standing u
  moved e h = subst (λ (z : ℕ). Standing z) (sym e) h

  stands_as : {k u : ℕ} {b : Block} → BodyAs C w.layout k b u → b ∈ script_blocks s → Standing u
  stands_as {k} {u} {b} ba m = record { inputs = k; block_of = b; stands = ba; in_script = m }

  wait_body : {k t : ℕ} {st : Stmt} {hs : List Header} {b : Block} → WaitAs C w.layout k st hs t → b ∈ script_blocks s → st ∈ block_list b → Standing t
  wait_body (one_wait ba q) bs m = stands_as ba (inner_block s bs m first)
  wait_body (merged wa q) bs m = wait_body wa (inner_block s bs m first) first

  -- what an entry of such a body opens is such a body
  own_body : {k j : ℕ} {st : Stmt} {b : Block} → b ∈ script_blocks s → st ∈ block_list b → OwnAs C w.layout k st j → (y : Way × ℕ) → In y (ways (entry C j).act) → Standing y.1
  own_body {k} bs m (own_simple {a = a} z en nd) y h = absurd (simple_no_ways C w.layout k a z y (subst (λ (x : Act). In y (ways x)) en.act_is h))
  own_body bs m (own_branch en mk ba) y h = moved (way_in (subst (λ (x : Act). In y (ways x)) en.act_is h)) (stands_as ba (inner_block s bs m first))
  own_body bs m (own_branches en mk ba bb) y h =
      elim (subst (λ (x : Act). In y (ways x)) en.act_is h) [
        | inl e ↦ moved (ap (λ (z : Way × ℕ). z.1) e) (stands_as ba (inner_block s bs m first))
        | inr i ↦ moved (way_in i) (stands_as bb (inner_block s bs m (later first)))
      ]
  own_body bs m (own_range en mk ba) y h = moved (way_in (subst (λ (x : Act). In y (ways x)) en.act_is h)) (stands_as ba (inner_block s bs m first))
  own_body bs m (own_each en mk ba) y h = moved (way_in (subst (λ (x : Act). In y (ways x)) en.act_is h)) (stands_as ba (inner_block s bs m first))
  own_body bs m (own_wait wa en) y h = moved (way_in (subst (λ (x : Act). In y (ways x)) en.act_is h)) (wait_body wa bs m)

  no_way : (j : ℕ) {act : Act} (y : Way × ℕ) → (entry C j).act ≡ act → ways act ≡ [] → In y (ways (entry C j).act) → ⊥
  no_way j y e z h = subst (λ (l : List (Way × ℕ)). In y l) (ap ways e ∙ z) h

  one_number : {x y : ℕ} → In x (y ∷ []) → x ≡ y
  one_number (inl e) = e
  one_number (inr z) = absurd z

  part_body : {k j : ℕ} {st : Stmt} {b : Block} → b ∈ script_blocks s → st ∈ block_list b → PartOf C w.layout k st j → (y : Way × ℕ) → In y (ways (entry C j).act) → Standing y.1
  part_body {k} {j} {st} bs m po y h = by po.as_part po.there po.in_stmt
    where
      by : {x : Co.Part} {js : List ℕ} → PartAs C w.layout k po.all po.at po.priority x js → In j js → x ∈ parts_of st → Standing y.1
      by (plain_literal z) n v = absurd n
      by (plain_name z) n v = absurd n
      by (a_cell {j = j'} z nd en) n v = absurd (no_way j y (ap (λ (z : ℕ). (entry C z).act) (one_number n) ∙ en.act_is) refl h)
      by (a_read {j = j'} z nd ix en) n v = absurd (no_way j y (ap (λ (z : ℕ). (entry C z).act) (one_number n) ∙ en.act_is) refl h)
      by (a_call {c = c} {j = j'} ca) n v =
          let f = sc.calls st c (among_script s bs m) (call_of st c v) in
          moved (way_in (subst (λ (x : Act). In y (ways x)) (ap (λ (z : ℕ). (entry C z).act) (one_number n) ∙ ca.is.act_is) h)) (stands_as (w.functions c.function f.0 f.1) (function_block s c.function f.0 f.1))

  opens_standing : {t : ℕ} (j : ℕ) → Standing t → In j (body C t).entries → (y : Way × ℕ) → In y (ways (entry C j).act) → Standing y.1
  opens_standing {t} j x i y h = by x.stands
    where
      by : BodyAs C w.layout x.inputs x.block_of t → Standing y.1
      by (body_as bl mk) = (let r = find_role C w.layout bl i in elim r.role [ inl po ↦ part_body x.in_script r.there po y h | inr ow ↦ own_body x.in_script r.there ow y h ])

  -- AN ITEM OF SUCH A BODY, whose reads mean data of their kinds
  abbrev pub ReadKinds : List Step → ℕ → Type 0
  ReadKinds p j = Kinds s C w K wf I sc (λ e. e.reads) (covering_reads s C w.layout K wf.names I sc) p j

  pub record StandingItem (t : Task) : Type 0 where
    pub number : ℕ
    pub chunk : ℕ
    pub path : List Step
    pub is : t ≡ Item number path chunk
    pub body_number : ℕ
    pub standing : Standing body_number
    pub there : In number (body C body_number).entries
    pub kinds : ReadKinds path number

  not_fixed : (offset : ℕ) (p q : List Step) (key : Key) (wy : Way) (r : code.Name) → PathBy wy offset p key q → Fixes C offset wy r → (d : List Step) (v : Variable) → place_at C q r ≡ Datum d v → ⊥
  not_fixed offset p q key InPlace r pb fx d v e = fx
  not_fixed offset p q key Through r pb fx d v e = fx
  not_fixed offset p q key Calling r pb fx d v e =
      let place_is : place_at C q r ≡ Constant fx.2 = (λ i. place_at C (pb i) (fx.3 i)) ∙ ap (argued C p) fx.4 in
      not_constant (sym place_is ∙ e)

  kinds_below : {u : ℕ} (p q : List Step) (key : Key) (j : ℕ) (wy : Way) → In (wy, u) (ways (entry C j).act) → PathBy wy (entry C j).offset p key q → Standing u → ReadKinds p j → (i : ℕ) → In i (body C u).entries → ReadKinds q i
  kinds_below {u} p q key j wy wi pb sd rec i im r rm d v e = by ((I.fits j wy u wi).reads i r im rm)
    where
      by : ((Declared C u r ⊎ SeenFrom C (λ e. e.reads) j wy r) ⊎ Fixes C (entry C j).offset wy r) → Kind s C w K wf I sc r v
      by (inl (inl dc)) = declared_kind s C w K wf I sc sd.stands q r dc d v e
      by (inl (inr sf)) = outside_kind s C w K wf I sc (λ e. e.reads) (covering_reads s C w.layout K wf.names I sc) q p j wy r sf (seen_place C wy (entry C j).offset p key q r sf.outside pb sf.seen) rec d v e
      by (inr fx) = absurd (not_fixed (entry C j).offset p q key wy r pb fx d v e)

  module _ (F : Task → TaskEffect → Type 0) (can : (t : Task) (e : TaskEffect) → Live (code_system C) F t → F t e → Can (code_system C) t e) where
    script_item : {t u : Task} (e : TaskEffect) (o : Opening Task CodePlaces.Place) → t ≡ Main → Can (code_system C) t e → In o e.opens → In u o.tasks → StandingItem u
    script_item {t} {u} e o q c io iu =
        let io' : In o (block C (0, []) ∷ []) = subst (λ (x : TaskEffect). In o x.opens) (sym (good_in (ap (λ (z : Task). (code_system C).effect z c.answers) (sym q) ∙ c.is))) io in
        let r = in_block C (0, []) o u (in_one o _ io') iu in
        let lv : Mn.Live s K [] s.body = Mn.script in
        record { number = r.0; chunk = 0; path = []; is = r.2; body_number = 0; standing = stands_as w.script (live_block s lv); there = r.1; kinds = λ x xm d v e. declared_kind s C w K wf I sc w.script [] x (I.script_reads r.0 x r.1 xm) d v e }

    opened_item : {t u : Task} (e : TaskEffect) (o : Opening Task CodePlaces.Place) → StandingItem t → Can (code_system C) t e → In o e.opens → In u o.tasks → StandingItem u
    opened_item {t} {u} e o x c io iu =
        elim (opened C x.number x.chunk x.path e (subst (λ (z : Task). Can (code_system C) z e) x.is c) o io) [
          | inl ob ↦ (let r = in_block C ob.instance o u ob.is iu in
              let sd = opens_standing x.number x.standing x.there (ob.by.way, ob.instance.0) ob.by.is_way in
              record { number = r.0; chunk = 0; path = ob.instance.1; is = r.2; body_number = ob.instance.0; standing = sd; there = r.1; kinds = kinds_below x.path ob.instance.1 ob.by.key x.number ob.by.way ob.by.is_way ob.by.path_is sd x.kinds r.0 r.1 })
          | inr rs ↦ record { number = x.number; chunk = suc x.chunk; path = x.path; is = in_rest C x.number x.chunk x.path o u rs iu; body_number = x.body_number; standing = x.standing; there = x.there; kinds = x.kinds }
        ]

    pub live_item : {t : Task} → Live (code_system C) F t → (t ≡ Main) ⊎ StandingItem t
    live_item live_main = inl refl
    live_item (live_opened t u e o lv f io iu) = inr (elim (live_item lv) [ inl q ↦ script_item e o q (can t e lv f) io iu | inr x ↦ opened_item e o x (can t e lv f) io iu ])
