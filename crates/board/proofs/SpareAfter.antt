-- Lists for what new items miss, once the world has changed.
use Rattle.std.proofs.Common.{◌≡◌, ◌∙◌, refl, sym, ap, subst, inl, inr, ℕ, ◌≤◌, Bool, true, false, List, [], ◌∷◌, ◌++◌, append_assoc, length, map, Option, arith}
use Rattle.std.specs.List.{AllZip, filter, flat_map}
use Rattle.std.specs.Prelude.{nat_lt}
use Rattle.std.proofs.lemmas.List.{length-map, map-append}
use Rattle.std.proofs.lemmas.List.Elements.{filter-append}
use Rattle.dataflow.specs.System.{In}
use Rattle.data_store.specs.Stores.{Store}
use Rattle.board_history.specs.Ending.{new_row}
use Rattle.board_history.specs.Fields.{Does, Frame, Job, Row, Script, Want}
use Rattle.rules.specs.declared.input.Input.{Input}
use Rattle.smallvec.specs.SmallVec.{SmallVec}
use Rattle.task_code.specs.Code.{Code, body, entry}
use Rattle.board_data.specs.Openings.{IsSpare, long_needs}
use Rattle.board_instances.specs.Openings.{Put, put_jobs}
use Rattle.board_instances.specs.View.{opening_frame}
use Rattle.board_instances.specs.declared.pending.PendingInstance.{PendingInstance}
use Rattle.board_instances.specs.declared.pending.PendingInstances.{PendingInstances}
use Rattle.board_items.specs.Ended.{first_needs}
use Rattle.board_items.specs.Progress.{jobs_behind}
use Rattle.board_items.specs.Room.{AreSpare}
use Rattle.board_changes.specs.Opened.{going as going_jobs}
use Rattle.board_changes.specs.World.{Opening as Opened, WorldEnds, spare_of}
use Rattle.board_changes.specs.declared.data_state.Change.{Change}
use Rattle.board_changes.specs.declared.data_state.Change.TheVariants as Changes
use Rattle.board.proofs.RoomAfter.{filled_len, opened_rows}

jobs_are : (js : List Job) → map (λ (r : Row). r.job) (map new_row js) ≡ js
jobs_are [] = refl
jobs_are (j ∷ js) = ap (λ (l : List Job). j ∷ l) (jobs_are js)

behind_are : (rows : List Row) (js : List Job) → jobs_behind (length rows) (rows ++ map new_row js) ≡ js
behind_are [] js = jobs_are js
behind_are (r ∷ rows) js = behind_are rows js

behind_none : (rows : List Row) → jobs_behind (length rows) rows ≡ []
behind_none [] = refl
behind_none (r ∷ rows) = behind_none rows

spare_fits : (ns : List ℕ) (ls : List (SmallVec Input)) → AllZip IsSpare ns ls → AllZip (λ n (l : SmallVec Input). n ≤ l.capacity) ns ls
spare_fits [] [] h = tt
spare_fits [] (l ∷ ls) h = absurd h
spare_fits (n ∷ ns) [] h = absurd h
spare_fits (n ∷ ns) (l ∷ ls) h = (omega (arith, h.0.room), spare_fits ns ls h.1)

module _ (C : Code) where
  abbrev long : List Job → List ℕ
  long js = filter (nat_lt 2) (map (first_needs C) js)

  abbrev long_entries : List ℕ → List ℕ
  long_entries es = filter (nat_lt 2) (map (λ e. length (entry C e).needs) es)

  entry_needs : (k : ℕ) (es : List ℕ) → map (first_needs C) (map (λ e. Does k e 0) es) ≡ map (λ e. length (entry C e).needs) es
  entry_needs k [] = refl
  entry_needs k (e ∷ es) = ap (λ (l : List ℕ). length (entry C e).needs ∷ l) (entry_needs k es)

  long_both : (xs ys : List Job) → long (xs ++ ys) ≡ long xs ++ long ys
  long_both xs ys = ap (filter (nat_lt 2)) (map-append (first_needs C) xs ys) ∙ filter-append (nat_lt 2) (map (first_needs C) xs) (map (first_needs C) ys)

  long_put : (es : List ℕ) (puts : List Put) (rest : List Job) → long rest ≡ [] → long (put_jobs es puts ++ rest) ≡ flat_map (λ (p : Put). long_entries es) puts
  long_put es [] rest h = h
  long_put es (p ∷ puts) rest h =
      ap long (append_assoc (map (λ e. Does p.key e 0) es) (put_jobs es puts) rest)
      ∙ long_both (map (λ e. Does p.key e 0) es) (put_jobs es puts ++ rest)
      ∙ ap (λ (l : List ℕ). filter (nat_lt 2) l ++ long (put_jobs es puts ++ rest)) (entry_needs p.key es)
      ∙ ap (λ (l : List ℕ). long_entries es ++ l) (long_put es puts rest h)

  long_going : (j : Job) (b : Bool) → long (going_jobs j b) ≡ []
  long_going Script b = refl
  long_going (Does k e c) true = refl
  long_going (Does k e c) false = refl

  same_long : (b : ℕ) (puts : List Put) (os : List PendingInstance) → length puts ≡ length os → ((o : PendingInstance) → In o os → (opening_frame o).body ≡ b) → flat_map (λ (p : Put). long_entries (body C b).entries) puts ≡ flat_map (λ (o : PendingInstance). long_needs C (opening_frame o).body) os
  same_long b [] [] n h = refl
  same_long b [] (o ∷ os) n h = absurd (omega (arith, n))
  same_long b (p ∷ puts) [] n h = absurd (omega (arith, n))
  same_long b (p ∷ puts) (o ∷ os) n h =
      ap (λ (l : List ℕ). long_entries (body C b).entries ++ l) (same_long b puts os (omega (arith, n)) (λ q i. h q (inr i)))
      ∙ ap (λ (m : ℕ). long_needs C m ++ flat_map (λ (q : PendingInstance). long_needs C (opening_frame q).body) os) (sym (h o (inl refl)))

-- what is asked of what a change opens
abbrev pub HasSpare : Code → PendingInstances → Type 0
HasSpare C o = ((y : PendingInstance) → In y o.list.items → (opening_frame y).body ≡ o.body) × AllZip IsSpare (flat_map (λ (y : PendingInstance). long_needs C (opening_frame y).body) o.list.items) o.spare.items

pub spare_after : (C : Code) (j : Job) (x : Change) (fs gs : List (Option Frame)) (old new : List Row) (s t : Store) (known : List (Want ℕ)) → WorldEnds C j x fs gs old new s t known →
    ((o : PendingInstances) → x ≡ Changes.Opens o → ((y : PendingInstance) → In y o.list.items → (opening_frame y).body ≡ o.body) × AllZip IsSpare (flat_map (λ (y : PendingInstance). long_needs C (opening_frame y).body) o.list.items) o.spare.items) →
    AreSpare C (jobs_behind (length old) new) (spare_of x)
spare_after C j x fs gs old new s t known w has = by x w.changed.opens has
  where
    none : new ≡ old → AreSpare C (jobs_behind (length old) new) []
    none e = subst (λ (js : List Job). AreSpare C js []) (sym (ap (λ (rs : List Row). jobs_behind (length old) rs) e ∙ behind_none old)) tt

    by : (x : Change) → Opened C j x fs w.middle old new w.changed.stored w.more → ((o : PendingInstances) → x ≡ Changes.Opens o → HasSpare C o) → AreSpare C (jobs_behind (length old) new) (spare_of x)
    by Changes.Nothing h has = none h.rows
    by (Changes.Value d v) h has = none h.rows
    by (Changes.Element d k v) h has = none h.rows
    by (Changes.Elements d es) h has = none h.rows
    by (Changes.Opens o) h has =
        let es = (body C o.body).entries in
        let p = h.opened.placed in
        let len : length p.puts ≡ length o.list.items = sym (length-map p.puts (λ (q : Put). q.frame)) ∙ ap length p.frames_are ∙ length-map h.opened.filled opening_frame ∙ filled_len _ _ o.list.items h.opened.filled w.changed.stored h.opened.made h.opened.fills in
        let y = has o refl in
        let ns : long C (put_jobs es p.puts ++ going_jobs j o.goes_on) ≡ flat_map (λ (q : PendingInstance). long_needs C (opening_frame q).body) o.list.items = long_put C es p.puts (going_jobs j o.goes_on) (long_going C j o.goes_on) ∙ same_long C o.body p.puts o.list.items len y.0 in
        subst (λ (js : List Job). AreSpare C js o.spare.items) (sym (ap (λ (rs : List Row). jobs_behind (length old) rs) (opened_rows C j o fs w.middle old new w.changed.stored w.more h) ∙ behind_are old (put_jobs es p.puts ++ going_jobs j o.goes_on)))
        (subst (λ (zs : List ℕ). AllZip (λ n (l : SmallVec Input). n ≤ l.capacity) zs o.spare.items) (sym ns) (spare_fits _ o.spare.items y.1))
