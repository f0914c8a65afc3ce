-- What laid code with exact rights keeps, whatever its names.
use Rattle.std.proofs.Common.{◌≡◌, inl, inr, ℕ, Bool, List, [], ◌∷◌, ◌++◌, refl, sym, ap, ◌∙◌, subst, Some, None}
use Rattle.dataflow.specs.System.{In, Distinct}
use Rattle.dataflow.proofs.Lists.{in_left, in_right}
use Rattle.language.specs.Core.{Stmt, Core}
use Rattle.task_code.specs.Code as code
use Rattle.task_code.specs.Code.{Variable, Name, Need, Loop, Act, Wait, Way, InPlace, Through, Calling, Code, Header, ByCalls, ByStep, ByWait, entry, body, here, ways, targets, targets_of, needed, loop_of, loop_variables}
use Rattle.task_code.specs.Exact.{Leads, itself, through}
use Rattle.task_code.specs.Whole.{OpenedBy, Seen}
use Rattle.language_laws.specs.Scoped.{Scoped}
use Rattle.code_rules.specs.Emitted.{HasRights}
use Rattle.code_rules.specs.IsCodeOf.{Layout}
use Rattle.code_rules.specs.Laying.{Kinds}
use Rattle.code_rules.specs.Laid.{IsLaid}
use Rattle.code_laws.specs.Standing.{CallsAreFound, IsStanding}
use Rattle.code_laws.proofs.Shapes.{shapes}
use Rattle.code_laws.proofs.WholeOpenings.{OpensAs, opens_header, opens_wait, opens_call, home_of, opener_within, loop_within, opens_as, loop_as}

pub distinct_left : {X : Type 0} (xs ys : List X) → Distinct (xs ++ ys) → Distinct xs
distinct_left [] ys h = tt
distinct_left (x ∷ xs) ys h = (λ i. h.0 (in_left x xs ys i), distinct_left xs ys h.1)

pub distinct_between : {X A : Type 0} (xs ys : List X) (x : X) → Distinct (xs ++ ys) → In x xs → In x ys → A
distinct_between [] ys x h i j = absurd i
distinct_between {X} (y ∷ xs) ys x h (inl e) j = absurd (h.0 (subst (λ (z : X). In z (xs ++ ys)) e (in_right x xs ys j)))
distinct_between (y ∷ xs) ys x h (inr i) j = distinct_between xs ys x h.1 i j

pub in_needed : (r : Name) (n : Need) (ns : List Need) → In n ns → In r (needed n) → In r (Rattle.std.specs.List.flat_map needed ns)
in_needed r n [] h i = absurd h
in_needed r n (m ∷ ns) (inl e) i = in_left r (needed m) _ (subst (λ (z : Need). In r (needed z)) e i)
in_needed r n (m ∷ ns) (inr h) i = in_right r (needed m) _ (in_needed r n ns h i)

way_is : {v w : Way} {b c : ℕ} → ◌≡◌ {A = Way × ℕ} (v, b) (w, c) → v ≡ w
way_is e = ap (λ (z : Way × ℕ). z.0) e

-- what opens a body in its place is a wait
wait_only : (a : Act) (b : ℕ) → In (InPlace, b) (ways a) → (hs : List Header) × (a ≡ Wait hs b)
wait_only (code.Cell e) b h = absurd h
wait_only code.Read b h = absurd h
wait_only (code.Call c is os) b (inl e) = let q = way_is e in absurd (cc (q))
wait_only (code.Call c is os) b (inr z) = absurd z
wait_only (code.Set r e) b h = absurd h
wait_only (code.Fill r es) b h = absurd h
wait_only (code.Copy r) b h = absurd h
wait_only (code.InsertElement r i e) b h = absurd h
wait_only (code.Print e) b h = absurd h
wait_only (code.Assert e) b h = absurd h
wait_only (code.If e c None) b (inl q) = let q' = way_is q in absurd (cc (q'))
wait_only (code.If e c None) b (inr z) = absurd z
wait_only (code.If e c (Some d)) b (inl q) = let q' = way_is q in absurd (cc (q'))
wait_only (code.If e c (Some d)) b (inr (inl q)) = let q' = way_is q in absurd (cc (q'))
wait_only (code.If e c (Some d)) b (inr (inr z)) = absurd z
wait_only (code.Range x h s w) b (inl q) = let q' = way_is q in absurd (cc (q'))
wait_only (code.Range x h s w) b (inr z) = absurd z
wait_only (code.Each w) b (inl q) = let q' = way_is q in absurd (cc (q'))
wait_only (code.Each w) b (inr z) = absurd z
wait_only (code.Wait hs c) b (inl q) = (hs, ap (λ (z : ℕ). Wait hs z) (sym (ap (λ (z : Way × ℕ). z.1) q)))
wait_only (code.Wait hs c) b (inr z) = absurd z

-- a wait stores nothing that its body declares
inside_wait : (C : Code) (i b : ℕ) (v : Variable) (hs : List Header) (r : Name) → (entry C i).act ≡ Wait hs b → In v (body C b).makes → r ≡ here v → Leads C targets i r → ⊥
inside_wait C i b v hs r e m q (itself j p h) = absurd (subst (λ (a : Act). In r (targets_of (entry C i).node a)) e h)
inside_wait C i b v hs r e m q (through k j c w p inner h g x d s) = by (subst (λ (a : Act). In {X = Way × ℕ} (w, c) (ways a)) e h)
  where
    by : In {X = Way × ℕ} (w, c) ((InPlace, b) ∷ []) → ⊥
    by (inr z) = z
    by (inl o) =
        let same : c ≡ b = ap (λ (z : Way × ℕ). z.1) o in
        let seen : inner ≡ r = subst (λ (z : Way). Seen C (entry C i).offset z inner r) (way_is o) s in
        d (record { variable = v; is = seen ∙ q; made = subst (λ (z : ℕ). In v (body C z).makes) (sym same) m })

module _ {s : Core} {fs : List Kinds} {ds : List (ℕ × Bool)} (C : Code) (l : Layout) (L : IsLaid s fs ds C l) (R : HasRights C) (found : CallsAreFound C) (scoped : Scoped s) where
  opened : (i : ℕ) (w : Way) (b : ℕ) → In (w, b) (ways (entry C i).act) → OpenedBy C i w (body C b).opener
  opened i w b h = let r = home_of C l L i (opener_within C l L i (w, b) h) in by w h (opens_as C l L scoped r.home i b w r.stands h).1
    where
      by : {t : ℕ} {st : Stmt} (w : Way) → In (w, b) (ways (entry C i).act) → OpensAs s C l L.table t i st w b → OpenedBy C i w (body C b).opener
      by Through h (opens_header vs v m c e s) = s.opener
      by InPlace h (opens_wait m x s) = s.opener
      by Calling h (opens_call at p m k a f s q) = (s.opener, found i b h)

  made : (i : ℕ) (w : Loop) (v : Variable) → loop_of (entry C i).act ≡ Some w → In v (loop_variables w) → In v (body C w.body).makes
  made i w v e m =
      let r = home_of C l L i (loop_within C l L i w e) in
      let x = loop_as C l L r.home i w r.stands e in
      let b = L.bodies w.body x.stands.within in
      subst (λ (z : List Variable). In v z) (sym b.makes) (in_left v (L.table.variables_of w.body) b.own (subst (λ (z : List Variable). In v z) (sym x.stands.variables) m))

  distinct : (i : ℕ) (w : Loop) → loop_of (entry C i).act ≡ Some w → Distinct (loop_variables w)
  distinct i w e =
      let r = home_of C l L i (loop_within C l L i w e) in
      let x = loop_as C l L r.home i w r.stands e in
      let b = L.bodies w.body x.stands.within in
      distinct_left (loop_variables w) b.own (subst (λ (z : List Variable). Distinct (z ++ b.own)) x.stands.variables (subst (λ (z : List Variable). Distinct z) b.makes (L.made_distinct w.body)))

  inside : (i b : ℕ) (v : Variable) → In (InPlace, b) (ways (entry C i).act) → In v (body C b).makes → In (here v) (entry C i).writes → ⊥
  inside i b v h m g = let r = wait_only (entry C i).act b h in inside_wait C i b v r.0 (here v) r.1 m refl (R.writes i (here v) g)

  -- LAID CODE STANDS
  pub standing : IsStanding C
  standing = record {
    script = L.script.opener;
    shape = shapes C l L;
    there = L.there;
    needs = λ i n r h g. R.all_reads i r (itself i r (in_needed r n (entry C i).needs h g));
    stores = λ i r h. R.all_writes i r (itself i r h);
    opened = opened;
    inside = inside;
    made = made;
    distinct = distinct;
    makes_once = L.made_once;
    entries_once = L.once;
    entries_distinct = L.distinct;
  }
