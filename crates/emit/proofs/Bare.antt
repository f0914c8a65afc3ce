-- Rights are free: what is laid is laid too where each entry loses its rights.
use Rattle.std.proofs.Common.{◌≡◌, inl, inr, ℕ, zero, suc, ℤ, Bool, List, [], ◌∷◌, ◌++◌, map, length, refl, sym, ap, ap₂, ◌∙◌, subst}
use Rattle.std.proofs.lemmas.List.{length-map, map-append}
use Rattle.dataflow.specs.System.{In}
use Rattle.language.specs.Core.{Name, Part, Block, Stmt, Function}
use Rattle.task_code.specs.Code as code
use Rattle.task_code.specs.Code.{Act, Argument, Body, ByStep, ByWait, Code, Entry, If, Need, Opener, Variable, blank_entry, entry, nth}
use Rattle.code_rules.specs.IsCodeOf.{Layout, IsEntry, InputAs, of_literal, of_name, of_datum, of_array, InputsAs, no_input, one_input, OutputsAs, no_output, one_output, IndexAs, at_literal, at_name, at_datum, PartAs, plain_literal, plain_name, a_cell, a_read, a_call, PartsAs, no_part, one_part}
use Rattle.code_rules.specs.Laying.{CallsFit, Kinds, Laying, LaysBlock, LaysFunctions, LaysParts, LaysStmt, array_loop, bare, branch, branches, calls_alone, counted, declares, no_function, no_statement, one_function, one_statement, range_loop, simple, waits, with_bodies, with_entry}

abbrev pub bared : Laying → Laying
bared s = record { entries = map bare s.entries; bodies = s.bodies }

-- ENTRIES

entry-bare : {e : Entry} {at : ℕ} {p : ℤ} {ns : List Need} {a : Act} → IsEntry e at p ns a → IsEntry (bare e) at p ns a
entry-bare h = record { at_is = h.at_is; priority_is = h.priority_is; needs_is = h.needs_is; act_is = h.act_is }

nth-bare : (es : List Entry) (j : ℕ) → nth blank_entry (map bare es) j ≡ bare (nth blank_entry es j)
nth-bare [] j = refl
nth-bare (e ∷ es) zero = refl
nth-bare (e ∷ es) (suc j) = nth-bare es j

moved : (C D : Code) {at : ℕ} {p : ℤ} {ns : List Need} {a : Act} (j : ℕ) → entry D j ≡ bare (entry C j) → IsEntry (entry C j) at p ns a → IsEntry (entry D j) at p ns a
moved C D {at} {p} {ns} {a} j same h = subst (λ (e : Entry). IsEntry e at p ns a) (sym same) (entry-bare h)

-- PARTS

outputs-bare : {C D : Code} {l : Layout} {k : ℕ} {xs : List Name} {ys : List code.Name} → OutputsAs C l k xs ys → OutputsAs D l k xs ys
outputs-bare no_output = no_output
outputs-bare (one_output b hs) = one_output b (outputs-bare hs)

module _ {C D : Code} {l : Layout} {k : ℕ} {all : List Part} where
  input-bare : {x : Name} {a : Argument} → InputAs C l k all x a → InputAs D l k all x a
  input-bare (of_literal m h) = of_literal m h
  input-bare (of_name m h) = of_name m h
  input-bare (of_datum m h) = of_datum m h
  input-bare of_array = of_array

  inputs-bare : {xs : List Name} {ys : List Argument} → InputsAs C l k all xs ys → InputsAs D l k all xs ys
  inputs-bare no_input = no_input
  inputs-bare (one_input h hs) = one_input (input-bare h) (inputs-bare hs)

  index-bare : {a : Name} {i : ℕ} {n : Need} → IndexAs C l k all a i n → IndexAs D l k all a i n
  index-bare (at_literal m h) = at_literal m h
  index-bare (at_name m h) = at_name m h
  index-bare (at_datum m h) = at_datum m h

  part-bare : {at : ℕ} {p : ℤ} {x : Part} {is : List ℕ} → ((j : ℕ) → entry D j ≡ bare (entry C j)) → PartAs C l k all at p x is → PartAs D l k all at p x is
  part-bare same (plain_literal z) = plain_literal z
  part-bare same (plain_name z) = plain_name z
  part-bare same (a_cell {j = j} z nd en) = a_cell z (ap (λ (e : Entry). e.node) (same j) ∙ nd) (moved C D j (same j) en)
  part-bare same (a_read {j = j} z nd ix en) = a_read z (ap (λ (e : Entry). e.node) (same j) ∙ nd) (index-bare ix) (moved C D j (same j) en)
  part-bare same (a_call {j = j} ca) = a_call (record { ins = ca.ins; outs = ca.outs; is = moved C D j (same j) ca.is; offset_is = ap (λ (e : Entry). e.offset) (same j) ∙ ca.offset_is; inputs = inputs-bare ca.inputs; outputs = outputs-bare ca.outputs })

  parts-bare : {at : ℕ} {p : ℤ} {xs : List Part} {is : List ℕ} → ((j : ℕ) → entry D j ≡ bare (entry C j)) → PartsAs C l k all at p xs is → PartsAs D l k all at p xs is
  parts-bare same no_part = no_part
  parts-bare same (one_part x xs e) = one_part (part-bare same x) (parts-bare same xs) e

in-bare : (e : Entry) (es : List Entry) → In e (map bare es) → (d : Entry) × (In d es) × (e ≡ bare d)
in-bare e [] h = absurd h
in-bare e (d ∷ es) (inl q) = (d, inl refl, q)
in-bare e (d ∷ es) (inr h) = let x = in-bare e es h in (x.0, inr x.1, x.2)

fit-bare : {fs : List Kinds} {all : List Part} (es : List Entry) → CallsFit fs all es → CallsFit fs all (map bare es)
fit-bare es fit e f ins outs i is =
    let x = in-bare e es i in
    let y = fit x.0 f ins outs x.1 (sym (ap (λ (z : Entry). z.act) x.2) ∙ is) in
    record { call = y.call; there = y.there; function = y.function; offset = ap (λ (z : Entry). z.offset) x.2 ∙ y.offset; fits = y.fits }

pub lays-parts-bare : {fs : List Kinds} {k : ℕ} {all : List Part} {at : ℕ} {p : ℤ} {s t : Laying} {es : List ℕ} → LaysParts fs k all at p s t es → LaysParts fs k all at p (bared s) (bared t) es
lays-parts-bare {s = s} {t = t} lp = record {
  more = map bare lp.more;
  entries = ap (map bare) lp.entries ∙ map-append bare s.entries lp.more;
  bodies = lp.bodies;
  numbers = lp.numbers ∙ ap₂ counted (sym (length-map s.entries bare)) (sym (length-map lp.more bare));
  fit = fit-bare lp.more lp.fit;
  parts_as = λ l plain body stand. parts-bare (λ j. nth-bare t.entries j) (lp.parts_as l plain body stand);
}

-- STATEMENTS AND BLOCKS

added-bare : (u w : Laying) (e : Entry) → w ≡ with_entry u e → bared w ≡ with_entry (bared u) (bare e)
added-bare u w e is = ap bared is ∙ ap (λ (es : List Entry). record { entries = es; bodies = u.bodies }) (map-append bare u.entries (e ∷ []))

opened-bare : (u w : Laying) (e : Entry) (bs cs : List Body) → w ≡ with_bodies (with_entry u e) bs → bs ≡ cs → bared w ≡ with_bodies (with_entry (bared u) (bare e)) cs
opened-bare u w e bs cs is same = ap bared is ∙ ap₂ (λ (es : List Entry) (b : List Body). record { entries = es; bodies = u.bodies ++ b }) (map-append bare u.entries (e ∷ [])) same

step-bare : (u : Laying) (vs : List Variable) (js : List ℕ) → ◌≡◌ {A = List Body} (record { opener = ByStep (length u.entries); makes = vs; entries = js } ∷ []) (record { opener = ByStep (length (map bare u.entries)); makes = vs; entries = js } ∷ [])
step-bare u vs js = ap (λ (n : ℕ). record { opener = ByStep n; makes = vs; entries = js } ∷ []) (sym (length-map u.entries bare))

last-bare : (u : Laying) (is es : List ℕ) → es ≡ is ++ length u.entries ∷ [] → es ≡ is ++ length (map bare u.entries) ∷ []
last-bare u is es e = e ∙ ap (λ (n : ℕ). is ++ n ∷ []) (sym (length-map u.entries bare))

module _ (fs : List Kinds) (roots k : ℕ) where
  mutual
    stmt-bare : {st : Stmt} {ds : List (ℕ × Bool)} {s t : Laying} {es : List ℕ} {vs : List Variable} → LaysStmt fs roots k st ds s t es vs → LaysStmt fs roots k st ds (bared s) (bared t) es vs
    stmt-bare (declares b) = declares b
    stmt-bare (calls_alone lp) = calls_alone (lays-parts-bare lp)
    stmt-bare (simple e {t = t} {u = u} {es = es} {is = is} sim lp ow nd ue ee) = simple (bare e) sim (lays-parts-bare lp) (λ l suits. entry-bare (ow l suits)) nd (added-bare t u e ue) (last-bare t is es ee)
    stmt-bare (branch e {u = u} {w = w} {es = es} {is = is} {js = js} {vs = vs} lp bl ow mk we ee) =
        branch (bare e) (lays-parts-bare lp) (block-bare bl) (λ l suits. entry-bare (ow l suits)) mk (opened-bare u w e _ _ we (step-bare u vs js)) (last-bare u is es ee)
    stmt-bare (branches e {v = v} {w = w} {es = es} {is = is} {js = js} {ks = ks} {vs = vs} {ws = ws} lp bl dl de ow mk we ee) =
        branches (bare e) (lays-parts-bare lp) (block-bare bl) (block-bare dl) de (λ l suits. entry-bare (ow l suits)) mk
        (opened-bare v w e _ _ we (ap (λ (n : ℕ). record { opener = ByStep n; makes = vs; entries = js } ∷ record { opener = ByStep n; makes = ws; entries = ks } ∷ []) (sym (length-map v.entries bare)))) (last-bare v is es ee)
    stmt-bare (range_loop e {u = u} {w = w} {es = es} {is = is} {js = js} {vs = vs} lp bl ow mk we ee) =
        range_loop (bare e) (lays-parts-bare lp) (block-bare bl) (λ l suits. entry-bare (ow l suits)) mk (opened-bare u w e _ _ we (step-bare u _ js)) (last-bare u is es ee)
    stmt-bare (array_loop e {u = u} {w = w} {es = es} {js = js} {vs = vs} bl ow mk we ee) =
        array_loop (bare e) (block-bare bl) (λ l suits. entry-bare (ow l suits)) mk (opened-bare u w e _ _ we (step-bare u _ js)) (last-bare u [] es ee)
    stmt-bare (waits e {u = u} {w = w} {es = es} {js = js} {vs = vs} hd bl en we ee) =
        waits (bare e) hd (block-bare bl) (entry-bare en.0, en.1)
        (opened-bare u w e _ _ we (ap (λ (n : ℕ). record { opener = ByWait n; makes = vs; entries = js } ∷ []) (sym (length-map u.entries bare)))) (last-bare u [] es ee)

    pub block-bare : {b : Block} {ds : List (ℕ × Bool)} {s t : Laying} {es : List ℕ} {vs : List Variable} → LaysBlock fs roots k b ds s t es vs → LaysBlock fs roots k b ds (bared s) (bared t) es vs
    block-bare no_statement = no_statement
    block-bare (one_statement x xs de ee me) = one_statement (stmt-bare x) (block-bare xs) de ee me

pub functions-bare : {fs : List Kinds} {roots : ℕ} {gs : List Function} {ds : List (ℕ × Bool)} {s t : Laying} {bs : List Body} → LaysFunctions fs roots gs ds s t bs → LaysFunctions fs roots gs ds (bared s) (bared t) bs
functions-bare no_function = no_function
functions-bare {fs} {roots} (one_function {f = f} x xs de be) = one_function (block-bare fs roots f.inputs x) (functions-bare xs) de be
