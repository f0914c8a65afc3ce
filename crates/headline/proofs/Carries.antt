-- The entry of a statement that may write its targets, and that it has the right to.
use Rattle.std.proofs.Common.{◌≡◌, ◌⊎◌, inl, inr, ℕ, zero, suc, Bool, true, false, List, [], ◌∷◌, ◌++◌, refl, sym, ap, subst}
use Rattle.std.specs.Prelude.{ℤ}
use Rattle.dataflow.specs.System.{In}
use Rattle.dataflow.proofs.Lists.{in_right}
use Rattle.language.specs.Core.{Owned, local, Name, Cell, Call, Part, Awaited, Stmt, stmt, Action, declare, call_alone, assign, fill, insert, print, assert, when, choose, range, each, wait, Block, Core}
use Rattle.language.specs.Meaning.{IsTarget}
use Rattle.language.specs.Members.{◌∈◌, first, later}
use Rattle.language.specs.Parts.{part_cells, cells}
use Rattle.language.specs.Places.{Path, place_of}
use Rattle.language.specs.WellFormed.{IsOwnTarget, header_blocks, Declares, Uses}
use Rattle.task_code.specs.Code as code
use Rattle.task_code.specs.Code.{Variable, Header, Act, Way, InPlace, Through, Code, entry, body, ways}
use Rattle.task_code.specs.Whole.{IsCode}
use Rattle.code_rules.specs.CodeNames.{name_as}
use Rattle.code_rules.specs.IsCodeOf.{Layout, own_expr, own_needs, fill_act, CallAs, StmtAs, declares, calls_alone, simple, branch, branches, range_loop, array_loop, waits, BodyAs}
use Rattle.headline.proofs.HeaderWorks.{find_call}
use Rattle.headline.proofs.Rights.{target_right, fill_target, step_right, both, output_right, alone_call, only_one, right_of, IsArray}
use Rattle.headline.proofs.Roles.{OwnAs, own_simple, own_branch, own_branches, own_range, own_each, own_wait}
use Rattle.headline.proofs.Targets.{UsesIn, own_target, in_header, in_content}

-- the node of a place of a variable is its own
pub node_of : (s : Core) (path : Path) (up n : ℕ) → (place_of s path up (local n)).1 ≡ n
node_of s [] up n = refl
node_of s (t ∷ path) zero n = refl
node_of s (t ∷ path) (suc up) n = node_of s path up n

module _ (C : Code) (l : Layout) where
  -- a statement's own entry, or that of a call alone
  pub data Carries (k : ℕ) (i : ℕ) : Stmt → Type 0 where
    by_own : {st : Stmt} → OwnAs C l k st i → Carries k i st
    by_alone : {at n : ℕ} {p : ℤ} {ps : List Part} {c : Call} {all : List Part} {at' : ℕ} {pr : ℤ} → CallAs C l k all at' pr c i → ((d : Cell) → d ∈ part_cells all → d ∈ cells (stmt at n (call_alone p ps c))) → Carries k i (stmt at n (call_alone p ps c))

  pub record Carrier (k : ℕ) (st : Stmt) (es : List ℕ) : Type 0 where
    pub number : ℕ
    pub there : In number es
    pub carries : Carries k number st

  last_in : (j : ℕ) (is es : List ℕ) → es ≡ is ++ j ∷ [] → In j es
  last_in j is es q = subst (λ (u : List ℕ). In j u) (sym q) (in_right j is (j ∷ []) (inl refl))

  pub carrier : {k : ℕ} {st : Stmt} {es : List ℕ} → StmtAs C l k st es → Carrier k st es ⊎ ((what : Owned) → IsTarget what st → ⊥)
  carrier declares = inr (λ what m. elim m [ ])
  carrier (calls_alone {at = at} {n = n} {p = p} {ps = ps} {c = c} as') =
      let f = find_call C l c (calls_alone {at = at} {n = n} as') (alone_call at n p ps c) in
      inl (record { number = f.number; there = f.there; carries = by_alone f.as_call f.cells_in })
  carrier {es = es} (simple j {is = is} z op as' en nd q) = inl (record { number = j; there = last_in j is es q; carries = by_own (own_simple z en nd) })
  carrier {es = es} (branch j {is = is} as' en mk ba q) = inl (record { number = j; there = last_in j is es q; carries = by_own (own_branch en mk ba) })
  carrier {es = es} (branches j {is = is} as' en mk ba bb q) = inl (record { number = j; there = last_in j is es q; carries = by_own (own_branches en mk ba bb) })
  carrier {es = es} (range_loop j {is = is} as' en mk ba q) = inl (record { number = j; there = last_in j is es q; carries = by_own (own_range en mk ba) })
  carrier {es = es} (array_loop j en mk ba q) = inl (record { number = j; there = last_in j [] es q; carries = by_own (own_each en mk ba) })
  carrier {es = es} (waits j wa en q) = inl (record { number = j; there = last_in j [] es q; carries = by_own (own_wait wa en) })

  module _ (I : IsCode C) where
    abbrev pub RightTo : ℕ → ℕ → ℕ → Owned → Type 0
    RightTo k i up what = (d : Bool) × In (name_as k d (record { up = up; what = what })) (entry C i).writes

    own_right_to : {k i at n up : ℕ} {what : Owned} {a : Action} → OwnAs C l k (stmt at n a) i → IsOwnTarget (record { up = up; what = what }) a → RightTo k i up what
    own_right_to {k} {i} (own_simple {a = assign y o} z en nd) (inl m) = (false, target_right C l I k i false _ en.act_is (inl (ap (name_as k false) (only_one m))))
    own_right_to (own_simple {a = assign y o} z en nd) (inr m) = elim m [ ]
    own_right_to {k} {i} {up = up} {what = what} (own_simple {a = fill y o} z en nd) (inl m) =
        (true, target_right C l I k i true _ en.act_is (subst (λ (u : Name). In (name_as k true u) (code.targets_of (entry C i).node (fill_act l k (own_needs l k (fill y o)) y (own_expr o)))) (sym (only_one m)) (fill_target C l I k (entry C i).node (own_needs l k (fill y o)) y (own_expr o))))
    own_right_to (own_simple {a = fill y o} z en nd) (inr m) = elim m [ ]
    own_right_to (own_simple {a = insert y j o} z en nd) (inl m) = elim m [ ]
    own_right_to {k} {i} (own_simple {a = insert y j o} z en nd) (inr m) = (true, target_right C l I k i true _ en.act_is (inl (ap (name_as k true) (only_one m))))
    own_right_to (own_simple {a = print p o} z en nd) h = elim h [ inl m ↦ elim m [ ] | inr m ↦ elim m [ ] ]
    own_right_to (own_simple {a = assert p o} z en nd) h = elim h [ inl m ↦ elim m [ ] | inr m ↦ elim m [ ] ]
    own_right_to (own_simple {a = declare v} z en nd) h = absurd z
    own_right_to (own_simple {a = call_alone p ps c} z en nd) h = absurd z
    own_right_to (own_simple {a = when o d} z en nd) h = absurd z
    own_right_to (own_simple {a = choose o d e} z en nd) h = absurd z
    own_right_to (own_simple {a = range o d e f g i} z en nd) h = absurd z
    own_right_to (own_simple {a = each o d e f} z en nd) h = absurd z
    own_right_to (own_simple {a = wait o d} z en nd) h = absurd z
    own_right_to (own_branch en mk ba) h = elim h [ inl m ↦ elim m [ ] | inr m ↦ elim m [ ] ]
    own_right_to (own_branches en mk ba bb) h = elim h [ inl m ↦ elim m [ ] | inr m ↦ elim m [ ] ]
    own_right_to (own_range en mk ba) h = elim h [ inl m ↦ elim m [ ] | inr m ↦ elim m [ ] ]
    own_right_to (own_each en mk ba) h = elim h [ inl m ↦ elim m [ ] | inr m ↦ elim m [ ] ]
    own_right_to (own_wait wa en) h = elim h [ inl m ↦ elim m [ ] | inr m ↦ elim m [ ] ]

    through_right : (i : ℕ) {k u up : ℕ} {what : Owned} {c : Block} {act : Act} → (entry C i).act ≡ act → In (Through, u) (ways act) → BodyAs C l k c u → IsArray C l I what → Uses c (suc up) what → RightTo k i up what
    through_right i {k} {u} {up} {what} e wy ba arr us = step_right C l I k i u (subst (λ (z : Act). In (Through, u) (ways z)) (sym e) wy) up what (right_of C l I ba us arr)

    header_right_to : {k i at n up : ℕ} {what : Owned} {a : Action} {c : Block} → OwnAs C l k (stmt at n a) i → c ∈ header_blocks a → IsArray C l I what → Uses c (suc up) what → RightTo k i up what
    header_right_to (own_simple {a = assign y o} z en nd) m arr us = elim m [ ]
    header_right_to (own_simple {a = fill y o} z en nd) m arr us = elim m [ ]
    header_right_to (own_simple {a = insert y j o} z en nd) m arr us = elim m [ ]
    header_right_to (own_simple {a = print p o} z en nd) m arr us = elim m [ ]
    header_right_to (own_simple {a = assert p o} z en nd) m arr us = elim m [ ]
    header_right_to (own_simple {a = declare v} z en nd) m arr us = absurd z
    header_right_to (own_simple {a = call_alone p ps c} z en nd) m arr us = absurd z
    header_right_to (own_simple {a = when o d} z en nd) m arr us = absurd z
    header_right_to (own_simple {a = choose o d e} z en nd) m arr us = absurd z
    header_right_to (own_simple {a = range o d e f g i} z en nd) m arr us = absurd z
    header_right_to (own_simple {a = each o d e f} z en nd) m arr us = absurd z
    header_right_to (own_simple {a = wait o d} z en nd) m arr us = absurd z
    header_right_to {i = i} {up = up} {what = what} (own_branch en mk ba) m arr us = through_right i en.act_is (inl refl) ba arr (subst (λ (z : Block). Uses z (suc up) what) (only_one m) us)
    header_right_to {i = i} {up = up} {what = what} (own_branches en mk ba bb) first arr us = through_right i en.act_is (inl refl) ba arr us
    header_right_to {i = i} {up = up} {what = what} (own_branches en mk ba bb) (later m) arr us = through_right i en.act_is (inr (inl refl)) bb arr (subst (λ (z : Block). Uses z (suc up) what) (only_one m) us)
    header_right_to {i = i} {up = up} {what = what} (own_range en mk ba) m arr us = through_right i en.act_is (inl refl) ba arr (subst (λ (z : Block). Uses z (suc up) what) (only_one m) us)
    header_right_to {i = i} {up = up} {what = what} (own_each en mk ba) m arr us = through_right i en.act_is (inl refl) ba arr (subst (λ (z : Block). Uses z (suc up) what) (only_one m) us)
    header_right_to (own_wait wa en) m arr us = elim m [ ]

    wait_right_to : {k i at n up : ℕ} {what : Owned} {ns : List Awaited} {c : Block} → OwnAs C l k (stmt at n (wait ns c)) i → Uses c up what → (Declares c what → ⊥) → IsArray C l I what → RightTo k i up what
    wait_right_to (own_simple z en nd) us un arr = absurd z
    wait_right_to {k} {i} {at} {n} {up} {what} {ns} {c} (own_wait {t = t} {hs = hs} wa en) us un arr =
        let r = (both C l I us arr).1 k t at n ns hs wa un in
        let wy : In (InPlace, t) (ways (entry C i).act) = subst (λ (z : Act). In (InPlace, t) (ways z)) (sym en.act_is) (inl refl) in
        elim ((I.fits i InPlace t wy).writes r.has.number _ r.has.there r.has.right) [
          | inl d ↦ absurd (r.undeclared d)
          | inr sf ↦ (r.has.kind, subst (λ (z : code.Name). In z (entry C i).writes) (sym sf.seen) sf.right)
        ]

    -- THE ENTRY THAT CARRIES A STATEMENT MAY WRITE ITS TARGETS
    pub carries_right : {k i up : ℕ} {what : Owned} {st : Stmt} → Carries k i st → UsesIn st up what → IsArray C l I what → RightTo k i up what
    carries_right (by_own ow) (own_target h) arr = own_right_to ow h
    carries_right (by_own ow) (in_header m us) arr = header_right_to ow m arr us
    carries_right (by_own ow) (in_content us un) arr = wait_right_to ow us un arr
    carries_right {k} {i} (by_alone ca cs) (own_target (inl m)) arr = (let r = output_right C l I ca.outputs m in (r.0, target_right C l I k i r.0 _ ca.is.act_is r.1))
    carries_right (by_alone ca cs) (own_target (inr m)) arr = elim m [ ]
    carries_right (by_alone ca cs) (in_header m us) arr = elim m [ ]
