-- All items that can begin, as the queue lists them.
use Rattle.std.proofs.Common.{◌≡◌, ◌⊎◌, inl, inr, ℕ, suc, ◌+◌, ◌<◌, true, false, List, [], ◌∷◌, ◌++◌, map, refl, sym, ap, ◌∙◌, subst, arith}
use Rattle.std.specs.Prelude.{ℤ, IsPermutation, int_lt, slice_index_or}
use Rattle.std.proofs.lemmas.List.Sorted.{IsPermutation-map}
use Rattle.std.proofs.lemmas.List.{map-append}
use Rattle.dataflow.specs.System.{Distinct, In}
use Rattle.dataflow.proofs.Lists.{distinct_append, in_left, in_map, in_right, in_split, in_unmap}
use Rattle.task_code.specs.Code.{Control, Kind, Leaf}
use Rattle.task_code.specs.Machine.{CodeItem}
use Rattle.task_code.specs.System.{task_kind, task_priority}
use Rattle.work_queue.specs.Both.{of}
use Rattle.work_queue.specs.Entries.{IsListedInOrder, entry_of, listed}
use Rattle.work_queue.specs.Order.{precedes}
use Rattle.work_queue.specs.declared.entry.QueueEntry.{QueueEntry}
use Rattle.work_queue.proofs.OrderLaws.{no_later, precedes_order}
use Rattle.board_items.specs.View.{numbers_at}
use Rattle.board_items.proofs.Lists.{distinct_moved, in_back, in_moved}
use Rattle.board.specs.Inside.{IsSound, seen_of}
use Rattle.board.specs.Ready.{AreReady, InOrder, IsReady, Precedes}
use Rattle.board.specs.declared.board.Board.TheInside.{Inside}
use Rattle.board.proofs.Firsts.{Stood, behind_once, in_queue, is_before, not_again, once_each, one_item, stood}

abbrev Listed : Type 0
Listed = Kind × ℤ × ℕ

-- in a list in order each is before those behind it, or the same
behind : (x : Listed) (xs : List Listed) → IsListedInOrder (x ∷ xs) → IsListedInOrder xs
behind x xs s = λ k d l h.
    let e : suc k + 1 ≡ suc (k + 1) = omega arith in
    subst (λ (n : ℕ). precedes (entry_of (slice_index_or (x ∷ xs) n d)) (entry_of (slice_index_or xs k d)) ≡ false) e (s (suc k) d (omega arith) (omega arith))

no_later_in : (x : Listed) (xs : List Listed) → IsListedInOrder (x ∷ xs) → (y : Listed) → In y xs → precedes (entry_of y) (entry_of x) ≡ false
no_later_in x [] s y h = absurd h
no_later_in x (z ∷ zs) s y (inl e) = subst (λ (l : Listed). precedes (entry_of l) (entry_of x) ≡ false) (sym e) (s 0 x (omega arith) (omega arith))
no_later_in x (z ∷ zs) s y (inr h) = precedes_order.chain (entry_of y) (entry_of z) (entry_of x) (no_later_in z zs (behind x (z ∷ zs) s) y h) (s 0 x (omega arith) (omega arith))

module _ (a : Inside) (s : IsSound a) where
  -- the item that a listed one stands for
  record Shown (l : Listed) : Type 0 where
    item : CodeItem
    ready : IsReady (seen_of a) item
    priority_is : task_priority a.program item.task ≡ l.1
    number_is : item.number ≡ l.2

  -- the items that listed ones stand for
  record Items (ls : List Listed) : Type 0 where
    items : List CodeItem
    ready : (i : CodeItem) → In i items → IsReady (seen_of a) i
    from : (i : CodeItem) → In i items → (l : Listed) × In l ls × (task_priority a.program i.task ≡ l.1) × (i.number ≡ l.2)
    order : InOrder (seen_of a) items
    numbers_are : map (λ (l : Listed). l.2) ls ≡ map (λ (i : CodeItem). i.number) items

  items_of : (ls : List Listed) → IsListedInOrder ls → Distinct (map (λ (l : Listed). l.2) ls) → ((l : Listed) → In l ls → Shown l) → Items ls
  items_of [] o d f = record { items = []; ready = λ i h. absurd h; from = λ i h. absurd h; order = tt; numbers_are = refl }
  items_of (l ∷ ls) o d f = more (f l (inl refl)) (items_of ls (behind l ls o) d.1 (λ m h. f m (inr h)))
    where
      first : (x : Shown l) (r : Items ls) (j : CodeItem) → In j r.items → Precedes (seen_of a) x.item j
      first x r j h =
          let m = r.from j h in
          let n = no_later (entry_of l) (entry_of m.0) (no_later_in l ls o m.0 m.1) in
          let apart : l.2 ≡ (m.0).2 → ⊥ = λ e. d.0 (subst (λ (k : ℕ). In k (map (λ (y : Listed). y.2) ls)) (sym e) (in_map (λ (y : Listed). y.2) m.0 ls m.1)) in
          let b = is_before l.1 (m.0).1 l.2 (m.0).2 n apart in
          subst (λ (z : ℤ). (int_lt (task_priority a.program j.task) z ≡ true) ⊎ ((z ≡ task_priority a.program j.task) × (x.item.number < j.number))) (sym x.priority_is)
          (subst (λ (z : ℤ). (int_lt z l.1 ≡ true) ⊎ ((l.1 ≡ z) × (x.item.number < j.number))) (sym m.2)
          (subst (λ (k : ℕ). (int_lt (m.0).1 l.1 ≡ true) ⊎ ((l.1 ≡ (m.0).1) × (k < j.number))) (sym x.number_is)
          (subst (λ (k : ℕ). (int_lt (m.0).1 l.1 ≡ true) ⊎ ((l.1 ≡ (m.0).1) × (l.2 < k))) (sym m.3) b)))

      more : Shown l → Items ls → Items (l ∷ ls)
      more x r =
          record {
            items = x.item ∷ r.items;
            ready = λ i h. elim h [ inl e ↦ subst (λ (j : CodeItem). IsReady (seen_of a) j) (sym e) x.ready | inr g ↦ r.ready i g ];
            from = λ i h. elim h [
              | inl e ↦ (l, inl refl, ap (λ (j : CodeItem). task_priority a.program j.task) e ∙ x.priority_is, ap (λ (j : CodeItem). j.number) e ∙ x.number_is)
              | inr g ↦ (let m = r.from i g in (m.0, inr m.1, m.2, m.3))
            ];
            order = (λ j h. first x r j h, r.order);
            numbers_are = λ z. sym x.number_is z ∷ r.numbers_are z;
          }

  abbrev all : List Listed
  all = map (listed Control) a.core.items.queue.control.entries ++ map (listed Leaf) a.core.items.queue.leaf.entries

  shown_in : (k : Kind) (l : Listed) → In l (map (listed k) (of k a.core.items.queue).entries) → (e : QueueEntry) × Stood a s k e.priority e.no × (e.priority ≡ l.1) × (e.no ≡ l.2)
  shown_in k l h =
      let u = in_unmap (listed k) l (of k a.core.items.queue).entries h in
      (u.0, stood a s k u.0 u.1, ap (λ (y : Listed). y.1) u.2, ap (λ (y : Listed). y.2) u.2)

  shown : (l : Listed) → In l all → Shown l
  shown l h =
      elim (in_split l (map (listed Control) a.core.items.queue.control.entries) (map (listed Leaf) a.core.items.queue.leaf.entries) h) [
        | inl g ↦ on Control (shown_in Control l g)
        | inr g ↦ on Leaf (shown_in Leaf l g)
      ]
    where
      on : (k : Kind) → (e : QueueEntry) × Stood a s k e.priority e.no × (e.priority ≡ l.1) × (e.no ≡ l.2) → Shown l
      on k x = record { item = x.1.item; ready = x.1.ready; priority_is = x.1.priority_is ∙ x.2; number_is = x.1.number_is ∙ x.3 }

  -- each that can begin is listed
  into : (i : CodeItem) → IsReady (seen_of a) i → (l : Listed) × In l all × (l.2 ≡ i.number)
  into i r = by (task_kind a.program i.task) refl
    where
      by : (k : Kind) → task_kind a.program i.task ≡ k → (l : Listed) × In l all × (l.2 ≡ i.number)
      by Control h = (
        listed Control (record { priority = task_priority a.program i.task; no = i.number }),
        in_left (listed Control (record { priority = task_priority a.program i.task; no = i.number })) (map (listed Control) a.core.items.queue.control.entries) (map (listed Leaf) a.core.items.queue.leaf.entries)
            (in_map (listed Control) (record { priority = task_priority a.program i.task; no = i.number }) a.core.items.queue.control.entries (in_queue a s Control i r h)),
        refl,
      )
      by Leaf h = (
        listed Leaf (record { priority = task_priority a.program i.task; no = i.number }),
        in_right (listed Leaf (record { priority = task_priority a.program i.task; no = i.number })) (map (listed Control) a.core.items.queue.control.entries) (map (listed Leaf) a.core.items.queue.leaf.entries)
            (in_map (listed Leaf) (record { priority = task_priority a.program i.task; no = i.number }) a.core.items.queue.leaf.entries (in_queue a s Leaf i r h)),
        refl,
      )

  -- each number is listed once
  entry_named : (k : Kind) (n : ℕ) (ys : List QueueEntry) → In n (map (λ (l : Listed). l.2) (map (listed k) ys)) → (e : QueueEntry) × In e ys × (e.no ≡ n)
  entry_named k n ys h =
      let l = in_unmap (λ (l : Listed). l.2) n (map (listed k) ys) h in
      let e = in_unmap (listed k) l.0 ys l.1 in
      (e.0, e.1, ap (λ (y : Listed). y.2) e.2 ∙ l.2)

  once : (k : Kind) (ys : List QueueEntry) → ((z : ℤ) → Distinct (numbers_at z ys)) → ((e : QueueEntry) → In e ys → Stood a s k e.priority e.no) → Distinct (map (λ (l : Listed). l.2) (map (listed k) ys))
  once k [] d f = tt
  once k (y ∷ ys) d f = (
    (λ h.
        let e = entry_named k y.no ys h in
        let u = f e.0 (inr e.1) in
        let v = f y (inl refl) in
        let same = one_item a s u.item v.item u.ready v.ready (u.number_is ∙ e.2 ∙ sym v.number_is) in
        not_again y ys (d y.priority) e.0 e.1 e.2 (sym u.priority_is ∙ ap (λ (i : CodeItem). task_priority a.program i.task) same ∙ v.priority_is)),
    once k ys (λ z. behind_once z y ys (d z)) (λ e h. f e (inr h)),
  )

  kinds_differ : Control ≡ Leaf → ⊥
  kinds_differ e = absurd (cc)

  all_once : Distinct (map (λ (l : Listed). l.2) all)
  all_once =
      subst (λ (ns : List ℕ). Distinct ns) (sym (map-append (λ (l : Listed). l.2) (map (listed Control) a.core.items.queue.control.entries) (map (listed Leaf) a.core.items.queue.leaf.entries)))
      (distinct_append (map (λ (l : Listed). l.2) (map (listed Control) a.core.items.queue.control.entries)) (map (λ (l : Listed). l.2) (map (listed Leaf) a.core.items.queue.leaf.entries))
      (once Control a.core.items.queue.control.entries (λ z. once_each a s Control z) (λ e h. stood a s Control e h))
      (once Leaf a.core.items.queue.leaf.entries (λ z. once_each a s Leaf z) (λ e h. stood a s Leaf e h))
      (λ n c l.
      let d = entry_named Control n a.core.items.queue.control.entries c in
      let e = entry_named Leaf n a.core.items.queue.leaf.entries l in
      let u = stood a s Control d.0 d.1 in
      let v = stood a s Leaf e.0 e.1 in
      let same = one_item a s u.item v.item u.ready v.ready (u.number_is ∙ d.2 ∙ sym e.2 ∙ sym v.number_is) in
      kinds_differ (sym u.kind_is ∙ ap (λ (i : CodeItem). task_kind a.program i.task) same ∙ v.kind_is)))

  pub all_ready : (ls : List Listed) → IsPermutation (map (listed Control) a.core.items.queue.control.entries ++ map (listed Leaf) a.core.items.queue.leaf.entries) ls → IsListedInOrder ls → AreReady (seen_of a) (map (λ (l : Listed). l.2) ls)
  all_ready ls p o =
      let r = items_of ls o (distinct_moved (map (λ (l : Listed). l.2) all) (map (λ (l : Listed). l.2) ls) (IsPermutation-map (λ (l : Listed). l.2) all ls p) all_once) (λ l h. shown l (in_back all ls l p h)) in
      record {
        items = r.items;
        all = λ i ready.
            let l = into i ready in
            let n : In i.number (map (λ (j : CodeItem). j.number) r.items) = subst (λ (ns : List ℕ). In i.number ns) r.numbers_are (subst (λ (k : ℕ). In k (map (λ (y : Listed). y.2) ls)) l.2 (in_map (λ (y : Listed). y.2) l.0 ls (in_moved all ls l.0 p l.1))) in
            let j = in_unmap (λ (j : CodeItem). j.number) i.number r.items n in
            subst (λ (y : CodeItem). In y r.items) (one_item a s j.0 i (r.ready j.0 j.1) ready j.2) j.1;
        ready = r.ready;
        order = r.order;
        numbers_are = r.numbers_are;
      }
