-- Instances come among the others, one after the other, with their items.
use Rattle.std.proofs.Common.{◌≡◌, ◌∙◌, inl, inr, refl, sym, ap, subst, ℕ, suc, ◌+◌, ◌*◌, ◌≤◌, List, [], ◌∷◌, ◌++◌, map, length, Option, Some, None, arith}
use Rattle.std.proofs.lemmas.List.{append-nil, append_assoc, map-append}
use Rattle.dataflow.specs.System.{Distinct, In}
use Rattle.dataflow.proofs.Lists.{distinct_append, in_left, in_right, in_split, in_unmap}
use Rattle.board_history.specs.Ending.{Sets, new_row}
use Rattle.board_history.specs.Fields.{Does, Frame, Row, slot_at}
use Rattle.board_instances.specs.Openings.{ArePlaced, Put, PutIn, last_key, put_jobs}
use Rattle.board_instances.specs.View.{new_item, row_view, rows_view}
use Rattle.board_instances.specs.declared.item.ItemRecord.{ItemRecord}

none_some : {X B : Type 0} (o : Option X) (x : X) → o ≡ Some x → o ≡ None → B
none_some o x p q = absurd (cc (p, q))

abbrev pub one_put : ℕ → Frame → List Put
one_put k f = record { key = k; frame = f } ∷ []

-- nothing is put in
pub put_none : (fs : List (Option Frame)) → PutIn fs [] fs
put_none fs = record { fresh = λ p h. absurd h; keys = tt; there = λ p h. absurd h; others = λ k h. refl }

-- one more is put in
module _ (fs gs hs : List (Option Frame)) (puts : List Put) (k : ℕ) (f : Frame) (x : PutIn fs puts gs) (e : slot_at gs k ≡ None) (s : Sets gs k (Some f) hs) where
  new_key : (p : Put) → In p puts → p.key ≡ k → ⊥
  new_key p h same = none_some (slot_at gs k) p.frame (sym (ap (slot_at gs) same) ∙ x.there p h) e

  was_none : slot_at fs k ≡ None
  was_none = sym (x.others k new_key) ∙ e

  pub put_more : PutIn fs (puts ++ one_put k f) hs
  put_more = record {
    fresh = λ p h. elim (in_split p puts (one_put k f) h) [ inl u ↦ x.fresh p u | inr v ↦ at_new (λ (q : Put). slot_at fs q.key ≡ None) p v was_none ];
    keys = subst Distinct (sym (map-append (λ (p : Put). p.key) puts (one_put k f))) (distinct_append (map (λ (p : Put). p.key) puts) (k ∷ []) x.keys ((λ h. absurd h), tt) apart);
    there = λ p h. elim (in_split p puts (one_put k f) h) [ inl u ↦ s.others p.key (new_key p u) ∙ x.there p u | inr v ↦ at_new (λ (q : Put). slot_at hs q.key ≡ Some q.frame) p v s.here ];
    others = λ j h. s.others j (λ same. h (record { key = k; frame = f }) (here_new puts) (sym same)) ∙ x.others j (λ p u. h p (in_left p puts (one_put k f) u));
  }
    where
      at_new : (P : Put → Type 0) (p : Put) → In p (one_put k f) → P (record { key = k; frame = f }) → P p
      at_new P p h y = elim h [ inl same ↦ subst P (sym same) y | inr none ↦ absurd none ]

      here_new : (ps : List Put) → In (record { key = k; frame = f }) (ps ++ one_put k f)
      here_new ps = in_right (record { key = k; frame = f }) ps (one_put k f) (inl refl)

      apart : (j : ℕ) → In j (map (λ (p : Put). p.key) puts) → In j (k ∷ []) → ⊥
      apart j u v = (let p = in_unmap (λ (p : Put). p.key) j puts u in elim v [ inl same ↦ new_key p.0 p.1 (p.2 ∙ same) | inr none ↦ absurd none ])

-- the rows of new items
pub rows_new : (items : List ItemRecord) (k : ℕ) (entries : List ℕ) → rows_view (items ++ map (new_item k) entries) ≡ rows_view items ++ map new_row (map (λ e. Does k e 0) entries)
rows_new [] k [] = refl
rows_new [] k (e ∷ es) = ap (λ (rs : List Row). new_row (Does k e 0) ∷ rs) (rows_new [] k es)
rows_new (i ∷ is) k es = ap (λ rs. row_view i ∷ rs) (rows_new is k es)

jobs_more : (entries : List ℕ) (puts : List Put) (k : ℕ) (f : Frame) → put_jobs entries (puts ++ one_put k f) ≡ put_jobs entries puts ++ map (λ e. Does k e 0) entries
jobs_more es [] k f = append-nil (map (λ e. Does k e 0) es)
jobs_more es (p ∷ ps) k f = ap (λ js. map (λ e. Does p.key e 0) es ++ js) (jobs_more es ps k f) ∙ sym (append_assoc (map (λ e. Does p.key e 0) es) (put_jobs es ps) (map (λ e. Does k e 0) es))

last_more : (puts : List Put) (k : ℕ) (f : Frame) → Some k ≡ last_key (puts ++ one_put k f)
last_more [] k f = refl
last_more (p ∷ []) k f = refl
last_more (p ∷ q ∷ ps) k f = last_more (q ∷ ps) k f

-- none is placed yet
pub placed_none : (entries : List ℕ) (fs : List (Option Frame)) (rows : List Row) → ArePlaced [] entries fs fs rows rows None
placed_none es fs rows = record { puts = []; frames_are = refl; put_in = put_none fs; rows = sym (append-nil rows); last_is = refl }

-- one more is placed
pub placed_more : (frames : List Frame) (entries : List ℕ) (fs gs hs : List (Option Frame)) (old : List Row) (items added : List ItemRecord) (last : Option ℕ) (k : ℕ) (f : Frame) → ArePlaced frames entries fs gs old (rows_view items) last → slot_at gs k ≡ None → Sets gs k (Some f) hs → added ≡ items ++ map (new_item k) entries → ArePlaced (frames ++ f ∷ []) entries fs hs old (rows_view added) (Some k)
placed_more frames es fs gs hs old items added last k f x e s is = record {
  puts = x.puts ++ one_put k f;
  frames_are = map-append (λ (p : Put). p.frame) x.puts (one_put k f) ∙ ap (λ ys. ys ++ f ∷ []) x.frames_are;
  put_in = put_more fs gs hs x.puts k f x.put_in e s;
  rows = ap rows_view is ∙ rows_new items k es ∙ ap (λ rs. rs ++ map new_row (map (λ e. Does k e 0) es)) x.rows ∙ append_assoc old (map new_row (put_jobs es x.puts)) (map new_row (map (λ e. Does k e 0) es)) ∙ ap (λ js. old ++ js) (sym (ap (map new_row) (jobs_more es x.puts k f) ∙ map-append new_row (put_jobs es x.puts) (map (λ e. Does k e 0) es)));
  last_is = last_more x.puts k f;
}

-- the frames that are placed, and those that are left
pub frames_more : {X : Type 0} (v : X → Frame) (frames : List Frame) (left rest whole : List X) (x : X) → left ≡ x ∷ rest → frames ++ map v left ≡ map v whole → (frames ++ v x ∷ []) ++ map v rest ≡ map v whole
frames_more v frames left rest whole x e h = append_assoc frames (v x ∷ []) (map v rest) ∙ ap (λ ys. frames ++ ys) (sym (ap (map v) e)) ∙ h

-- there is room for those that are left
pub room_more : {X : Type 0} (before left : List X) (x : X) (len now cap then : ℕ) → before ≡ x ∷ left → len + length before ≤ cap → now ≡ len + 1 → cap ≤ then → now + length left ≤ then
room_more before left x len now cap then e a b c = (let l : length before ≡ suc (length left) = ap length e in omega (arith, l, a, b, c))

-- the items of all of these are those of one and of the others
all_items : {X : Type 0} (before left : List X) (x : X) (n : ℕ) → before ≡ x ∷ left → length before * n ≡ n + length left * n
all_items before left x n e = ap (λ k. k * n) (ap length e) ∙ one (length left) n
  where
    one : (k n : ℕ) → suc k * n ≡ n + k * n
    one k n = grind arith

pub items_more : {X : Type 0} (before left : List X) (x : X) (n len now cap then : ℕ) → before ≡ x ∷ left → len + length before * n ≤ cap → now ≡ len + n → cap ≤ then → now + length left * n ≤ then
items_more before left x n len now cap then e a b c = (let l : length before * n ≡ n + length left * n = all_items before left x n e in omega (arith, l, a, b, c))

-- there is room for the first of them
pub room_one : {X : Type 0} (before left : List X) (x : X) (len cap : ℕ) → before ≡ x ∷ left → len + length before ≤ cap → len + 1 ≤ cap
room_one before left x len cap e a = (let l : length before ≡ suc (length left) = ap length e in omega (arith, l, a))

pub items_one : {X : Type 0} (before left : List X) (x : X) (n len cap : ℕ) → before ≡ x ∷ left → len + length before * n ≤ cap → len + n ≤ cap
items_one before left x n len cap e a = (let l : length before * n ≡ n + length left * n = all_items before left x n e in omega (arith, l, a))
