-- What a block has as a target, an entry of its body may write, or a body inside it makes.
use Rattle.std.proofs.Common.{◌≡◌, ◌⊎◌, inl, inr, ℕ, zero, suc, ◌<◌, ◌≤◌, Bool, true, false, List, [], ◌∷◌, ◌++◌, refl, sym, ap, ◌∙◌, subst, arith}
use Rattle.dataflow.specs.System.{In}
use Rattle.dataflow.proofs.Lists.{in_left, in_right}
use Rattle.language.specs.Core as Co
use Rattle.language.specs.Core.{Owned, local, input, output, Name, Call, Part, calls, Stmt, Action, declare, call_alone, assign, fill, insert, print, assert, when, choose, range, each, wait, Block, no_stmts, stmts, Core}
use Rattle.language.specs.Members.{◌∈◌, first}
use Rattle.language.specs.Parts.{block_list, owners, targets, targets_of, targets_in}
use Rattle.language.proofs.Members.{split_in, either, to_right}
use Rattle.task_code.specs.Code as code
use Rattle.task_code.specs.Code.{Variable, Local, Header, Act, Need, Code, Way, InPlace, Through, Calling, Opener, entry, body, targets_of as targets_by, ways}
use Rattle.task_code.specs.Whole.{IsCode, Declared, SeenFrom, Seen}
use Rattle.code_rules.specs.CodeNames.{owned_as, name_as}
use Rattle.code_rules.specs.IsCodeOf.{Layout, own_expr, own_needs, fill_act, simple_act, CallAs, OutputsAs, no_output, one_output, PartAs, a_call, PartsAs, no_part, one_part}
use Rattle.code_rules.specs.Laying.{Kinds, Headers, one_header, more_headers}
use Rattle.code_rules.specs.Laid.{Stands, StmtLaid, declares_laid, call_laid, simple_laid, branch_laid, branches_laid, range_laid, each_laid, wait_laid, StmtsLaid, none_laid, one_laid, IsLaid}
use Rattle.code_laws.proofs.CodeOf.{block_weight, stmt_weight}
use Rattle.code_laws.proofs.MadeWhole.{calls_same}
use Rattle.code_laws.specs.Sources.{Reached, by_entry}
use Rattle.code_laws.proofs.Levels.{way_level, step_deeper, level, local_same}

-- a name that is a variable's in code is one in the core
pub local_of : (k : ℕ) (b : Bool) (o : Owned) (v : Variable) → owned_as k b o ≡ Local v → (n : ℕ) × (o ≡ local n) × (v ≡ record { node = n; array = b })
local_of k b (local n) v e = (n, refl, sym (local_same e))
local_of k b (input i) v e = absurd (cc (e))
local_of k b (output j) v e = absurd (cc (e))

-- the entry of a call among parts
pub record CallAt (C : Code) (l : Layout) (k : ℕ) (all : List Part) (at : ℕ) (p : Rattle.std.specs.Prelude.ℤ) (c : Call) (es : List ℕ) : Type 0 where
  pub number : ℕ
  pub there : In number es
  pub call_as : CallAs C l k all at p c number

module _ (C : Code) (l : Layout) where
  call_in : {k at : ℕ} {p : Rattle.std.specs.Prelude.ℤ} {all : List Part} {x : Part} {is : List ℕ} {c : Call} → PartAs C l k all at p x is → calls c ≡ x → CallAt C l k all at p c is
  call_in (Rattle.code_rules.specs.IsCodeOf.plain_literal h) e = absurd (cc (e))
  call_in (Rattle.code_rules.specs.IsCodeOf.plain_name h) e = absurd (cc (e))
  call_in (Rattle.code_rules.specs.IsCodeOf.a_cell h q n) e = absurd (cc (e))
  call_in (Rattle.code_rules.specs.IsCodeOf.a_read h q x n) e = absurd (cc (e))
  call_in {k} {at} {p} {all} (a_call {j = j} ca) e = record { number = j; there = inl refl; call_as = subst (λ (z : Call). CallAs C l k all at p z j) (sym (calls_same e)) ca }

  more_in : {k at : ℕ} {p : Rattle.std.specs.Prelude.ℤ} {all : List Part} {c : Call} {is es : List ℕ} → ((j : ℕ) → In j is → In j es) → CallAt C l k all at p c is → CallAt C l k all at p c es
  more_in f r = record { number = r.number; there = f r.number r.there; call_as = r.call_as }

  pub call_among : {k at : ℕ} {p : Rattle.std.specs.Prelude.ℤ} {all xs : List Part} {es : List ℕ} {c : Call} → PartsAs C l k all at p xs es → calls c ∈ xs → CallAt C l k all at p c es
  call_among no_part m = elim m [ ]
  call_among (one_part {is = is} {js = js} {ks = ks} x rest e) m = elim (split_in m) [
    | inl q ↦ more_in (λ j h. subst (λ (z : List ℕ). In j z) (sym e) (in_left j is js h)) (call_in x q)
    | inr i ↦ more_in (λ j h. subst (λ (z : List ℕ). In j z) (sym e) (in_right j is js h)) (call_among rest i)
  ]

  -- an output of a call is one of its entry's
  pub output_named : {k : ℕ} {xs : List Name} {ys : List code.Name} (o : Owned) → OutputsAs C l k xs ys → o ∈ owners xs → (b : Bool) × (r : code.Name) × In r ys × (r.owned ≡ owned_as k b o)
  output_named o no_output m = elim m [ ]
  output_named {k} o (one_output b {x = x} rest) m = elim (split_in m) [
    | inl e ↦ (b, name_as k b x, inl refl, ap (λ (z : Owned). owned_as k b z) (sym e))
    | inr i ↦ (let r = output_named o rest i in (r.0, r.1, inr r.2, r.3))
  ]

module _ {s : Core} {fs : List Kinds} {ds : List (ℕ × Bool)} (C : Code) (l : Layout) (L : IsLaid s fs ds C l) (I : IsCode C) where
  abbrev T : Rattle.code_rules.specs.Laid.Table
  T = L.table

  -- an entry of the body may write it
  pub record Writes (t k : ℕ) (o : Owned) : Type 0 where
    pub number : ℕ
    pub there : In number (body C t).entries
    pub name : code.Name
    pub flag : Bool
    pub right : In name (entry C number).writes
    pub is : name.owned ≡ owned_as k flag o

  -- a body further in makes it
  pub record Inside (n : ℕ) (o : Owned) : Type 0 where
    pub home : ℕ
    pub reached : Reached C home
    pub deeper : n < level reached
    pub node : ℕ
    pub flag : Bool
    pub is : o ≡ local node
    pub made : In (record { node = node; array = flag }) (body C home).makes

  abbrev pub Held : ℕ → ℕ → ℕ → Owned → Type 0
  Held t n k o = Writes t k o ⊎ Inside n o

  seen_owned : (offset : ℕ) (w : Way) (r q : code.Name) → (w ≡ Calling → ⊥) → Seen C offset w r q → q.owned ≡ r.owned
  seen_owned offset InPlace r q f s = sym (ap (λ (z : code.Name). z.owned) s)
  seen_owned offset Through r q f s = sym (ap (λ (z : code.Name). z.owned) s)
  seen_owned offset Calling r q f s = absurd (f refl)

  -- what a body that an entry opens holds, the entry's body does
  lift : {t d k : ℕ} {o : Owned} (x : Reached C t) (i : ℕ) (w : Way) → In i (body C t).entries → In {X = Way × ℕ} (w, d) (ways (entry C i).act) → (w ≡ Calling → ⊥) → Held d (way_level w (level x)) k o → Held t (level x) k o
  lift x i w h p f (inr z) =
      let a = step_deeper w (level x) f in
      let b = z.deeper in
      inr (record { home = z.home; reached = z.reached; deeper = omega arith; node = z.node; flag = z.flag; is = z.is; made = z.made })
  lift {t} {d} {k} {o} x i w h p f (inl z) = by ((I.fits i w d p).writes z.number z.name z.there z.right)
    where
      by : Declared C d z.name ⊎ SeenFrom C (λ e. e.writes) i w z.name → Held t (level x) k o
      by (inl y) =
          let v = local_of k z.flag o y.variable (sym z.is ∙ ap (λ (q : code.Name). q.owned) y.is) in
          inr (record { home = d; reached = by_entry i w x h p; deeper = step_deeper w (level x) f; node = v.0; flag = z.flag; is = v.1; made = subst (λ (q : Variable). In q (body C d).makes) v.2 y.made })
      by (inr y) = inl (record { number = i; there = h; name = y.outside; flag = z.flag; right = y.right; is = seen_owned (entry C i).offset w z.name y.outside f y.seen ∙ z.is })

  -- an entry of the body that stores into it
  stored : {t k m : ℕ} {a : Act} (j : ℕ) (o : Owned) (r : code.Name) (b : Bool) → In j (body C t).entries → (entry C j).act ≡ a → In r (targets_by (entry C j).node a) → r.owned ≡ owned_as k b o → Held t m k o
  stored j o r b h e i is = inl (record { number = j; there = h; name = r; flag = b; right = I.stores j r (subst (λ (z : Act). In r (targets_by (entry C j).node z)) (sym e) i); is = is })

  fill_target : (k n : ℕ) (ms : List Need) (x : Name) (e : Co.Expr) → In (name_as k true x) (targets_by n (fill_act l k ms x e))
  fill_target k n ms x (Co.whole y) = inl refl
  fill_target k n ms x (Co.literal y) = inl refl
  fill_target k n ms x (Co.name y) = inl refl
  fill_target k n ms x (Co.operator y es) = inl refl

  only_owner : (k : ℕ) (b : Bool) {o p : Owned} → o ∈ (p ∷ []) → owned_as k b p ≡ owned_as k b o
  only_owner k b m = elim (split_in m) [ inl e ↦ ap (λ (z : Owned). owned_as k b z) (sym e) | inr i ↦ elim i [ ] ]

  simple_held : {t k m : ℕ} (j : ℕ) (a : Action) (o : Owned) → Rattle.code_rules.specs.IsCodeOf.IsSimple a → In j (body C t).entries → (entry C j).act ≡ simple_act l k (own_needs l k a) a → o ∈ targets_of a → Held t m k o
  simple_held {k = k} j (assign x e) o z h q i = stored j o (name_as k false x) false h q (inl refl) (only_owner k false i)
  simple_held {k = k} j (fill x e) o z h q i = stored j o (name_as k true x) true h q (fill_target k (entry C j).node (own_needs l k (fill x e)) x (own_expr e)) (only_owner k true i)
  simple_held {k = k} j (insert x y e) o z h q i = stored j o (name_as k true x) true h q (inl refl) (only_owner k true i)
  simple_held j (print p e) o z h q i = elim i [ ]
  simple_held j (assert p e) o z h q i = elim i [ ]
  simple_held j (declare v) o z h q i = absurd z
  simple_held j (call_alone p ps c) o z h q i = absurd z
  simple_held j (when c b) o z h q i = absurd z
  simple_held j (choose c b d) o z h q i = absurd z
  simple_held j (range lo hi st v k b) o z h q i = absurd z
  simple_held j (each x v k b) o z h q i = absurd z
  simple_held j (wait ns b) o z h q i = absurd z

  call_held : {t k m at : ℕ} {p : Rattle.std.specs.Prelude.ℤ} {all : List Part} {es : List ℕ} (c : Call) (o : Owned) → ((j : ℕ) → In j es → In j (body C t).entries) → CallAt C l k all at p c es → o ∈ owners c.outputs → Held t m k o
  call_held c o f r i =
      let q = output_named C l o (r.call_as).outputs i in
      stored r.number o q.1 q.0 (f r.number r.there) ((r.call_as).is).act_is q.2 q.3

  -- the content of waits
  headers_target : {k : ℕ} {st : Stmt} {hs : List Header} {b : Block} {o : Owned} → Headers k st hs b → o ∈ targets st → o ∈ targets_in b
  headers_target (one_header lone e) i = i
  headers_target (more_headers {st = st} hd e) i = elim (either (targets st) [] i) [ inl j ↦ headers_target hd j | inr j ↦ elim j [ ] ]

  headers_weight : {k : ℕ} {st : Stmt} {hs : List Header} {b : Block} → Headers k st hs b → block_weight b < stmt_weight st
  headers_weight (one_header lone e) = omega arith
  headers_weight (more_headers hd e) = (let r = headers_weight hd in omega arith)

  -- WHAT A BODY HOLDS

  -- each body of fewer statements
  abbrev Smaller : ℕ → Type 0
  Smaller m = (t k : ℕ) (b : Block) (vs : List Variable) (w : Opener) (x : Reached C t) (o : Owned) → block_weight b < m → Stands C l T k b vs w t → o ∈ targets_in b → Held t (level x) k o

  opened : {t d k : ℕ} {b : Block} {vs : List Variable} {u : Opener} {a : Act} (m j : ℕ) → Smaller m → (x : Reached C t) (w : Way) (o : Owned) → In j (body C t).entries → (entry C j).act ≡ a → In {X = Way × ℕ} (w, d) (ways a) → (w ≡ Calling → ⊥)
      → block_weight b < m → Stands C l T k b vs u d → o ∈ targets_in b → Held t (level x) k o
  opened {d = d} {k = k} {b = b} {vs = vs} {u = u} m j rec x w o h q i f l st n =
      let p = subst (λ (z : Act). In {X = Way × ℕ} (w, d) (ways z)) (sym q) i in
      lift x j w h p f (rec d k b vs u (by_entry j w x h p) o l st n)

  through_no : Through ≡ Calling → ⊥
  through_no e = absurd (cc (e))

  in_place_no : InPlace ≡ Calling → ⊥
  in_place_no e = absurd (cc (e))

  own_last : (t j : ℕ) {es : List ℕ} (is : List ℕ) → es ≡ is ++ j ∷ [] → ((i : ℕ) → In i es → In i (body C t).entries) → In j (body C t).entries
  own_last t j is e f = f j (subst (λ (z : List ℕ). In j z) (sym e) (in_right j is (j ∷ []) (inl refl)))

  stmt_held : (m : ℕ) → Smaller m → {t k : ℕ} {st : Stmt} {es : List ℕ} {vs : List Variable} (x : Reached C t) (o : Owned) → stmt_weight st ≤ m → ((i : ℕ) → In i es → In i (body C t).entries) → StmtLaid C l T k st es vs → o ∈ targets st → Held t (level x) k o
  stmt_held m rec {t} x o w f (declares_laid b) i = elim i [ ]
  stmt_held m rec {t} x o w f (call_laid {ps = ps} {c = c} as') i = call_held c o f (call_among C l as' (to_right ps (calls c ∷ []) first)) i
  stmt_held m rec {t} x o w f (simple_laid j {a = a} {is = is} z as' en q e) i = simple_held j a o z (own_last t j is e f) en.act_is i
  stmt_held m rec {t} x o w f (branch_laid j {is = is} as' en mk st e) i = opened m j rec x Through o (own_last t j is e f) en.act_is (inl refl) through_no (omega arith) st i
  stmt_held m rec {t} x o w f (branches_laid j {b = b} {d = d} {is = is} as' en mk st su e) i = elim (either (targets_in b) (targets_in d) i) [
    | inl n ↦ opened m j rec x Through o (own_last t j is e f) en.act_is (inl refl) through_no (omega arith) st n
    | inr n ↦ opened m j rec x Through o (own_last t j is e f) en.act_is (inr (inl refl)) through_no (omega arith) su n
  ]
  stmt_held m rec {t} x o w f (range_laid j {is = is} as' en mk st e) i = opened m j rec x Through o (own_last t j is e f) en.act_is (inl refl) through_no (omega arith) st i
  stmt_held m rec {t} x o w f (each_laid j en mk st e) i = opened m j rec x Through o (own_last t j [] e f) en.act_is (inl refl) through_no (omega arith) st i
  stmt_held m rec {t} x o w f (wait_laid j hd en st e) i = (let n = headers_weight hd in opened m j rec x InPlace o (own_last t j [] e f) en.act_is (inl refl) in_place_no (omega arith) st (headers_target hd i))

  block_held : (m : ℕ) → Smaller m → {t k : ℕ} {es : List ℕ} {vs : List Variable} (b : Block) (x : Reached C t) (o : Owned) → block_weight b ≤ m → ((i : ℕ) → In i es → In i (body C t).entries) → StmtsLaid C l T k (block_list b) es vs → o ∈ targets_in b → Held t (level x) k o
  block_held m rec no_stmts x o w f none_laid i = elim i [ ]
  block_held m rec (stmts st b) x o w f (one_laid {is = is} {js = js} one rest e q) i = elim (either (targets st) (targets_in b) i) [
    | inl n ↦ stmt_held m rec x o (omega arith) (λ j h. f j (subst (λ (z : List ℕ). In j z) (sym e) (in_left j is js h))) one n
    | inr n ↦ block_held m rec b x o (omega arith) (λ j h. f j (subst (λ (z : List ℕ). In j z) (sym e) (in_right j is js h))) rest n
  ]

  body_held : (m : ℕ) → Smaller m
  body_held zero t k b vs u x o w st i = absurd (omega arith)
  body_held (suc m) t k b vs u x o w st i =
      block_held m (body_held m) b x o (omega arith) (λ j h. h)
      (subst (λ (q : ℕ). StmtsLaid C l T q (block_list b) (body C t).entries (L.bodies t st.within).own) st.inputs
      (subst (λ (z : Block). StmtsLaid C l T (T.inputs_of t) (block_list z) (body C t).entries (L.bodies t st.within).own) st.block (L.bodies t st.within).stmts)) i

  -- WHAT IS A TARGET IN THE BLOCK THAT A BODY STANDS FOR
  pub held : {t k : ℕ} {b : Block} {vs : List Variable} {u : Opener} (x : Reached C t) (o : Owned) → Stands C l T k b vs u t → o ∈ targets_in b → Held t (level x) k o
  held {t} {k} {b} {vs} {u} x o st i = body_held (suc (block_weight b)) t k b vs u x o (omega arith) st i
