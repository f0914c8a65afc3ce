-- The blocked statements of a quiet state are those of the code's meaning.
use Rattle.std.proofs.Common.{◌≡◌, ◌⊎◌, inl, inr, ℕ, Bool, true, List, [], ◌∷◌, refl, sym, ap, subst}
use Rattle.std.specs.List.{list_all, list_any}
use Rattle.std.proofs.lemmas.Bool.{or_cases, and_parts}
use Rattle.dataflow.specs.System.{In, Input}
use Rattle.dataflow.specs.Facts.{Live, Known, Ever, EverGiven}
use Rattle.dataflow.specs.Machine.{IsKnown}
use Rattle.dataflow.specs.Promises.{Complete}
use Rattle.dataflow.proofs.Lists.{in_unmap}
use Rattle.values.specs.declared.key.Key.{Key}
use Rattle.task_code.specs.Code.{Need, Stored, Closed, At, AtKey, Header, Act, Cell, Read, Call, Set, Fill, Copy, InsertElement, Print, Assert, If, Range, Each, Wait, Code, entry}
use Rattle.task_code.specs.Places.{Step, Place}
use Rattle.task_code.specs.Shape.{fits_kinds, has_headers, has_shape, is_same_plain}
use Rattle.task_code.specs.Effects.{Task, Item}
use Rattle.task_code.specs.System.{inputs_at, code_system}
use Rattle.task_code.specs.Whole.{IsCode}
use Rattle.task_code.specs.Machine.{CodeItem, CodeState}
use Rattle.task_code.specs.Runs.{IsHeaderKnown, FirstUnknown, IsBlockedAt, Blocked, EverBlocked}
use Rattle.task_code.proofs.Equal.{every_in, name_sound}
use Rattle.task_code.proofs.Counted.{gather_in}

any_in : {X : Type 0} (f : X → Bool) (xs : List X) → list_any f xs ≡ true → (x : X) × In x xs × (f x ≡ true)
any_in f [] h = absurd (cc)
any_in {X} f (y ∷ ys) h = by (or_cases (f y) (list_any f ys) h) (any_in f ys)
  where
    by : (f y ≡ true) ⊎ (list_any f ys ≡ true) → (list_any f ys ≡ true → (x : X) × In x ys × (f x ≡ true)) → (x : X) × In x (y ∷ ys) × (f x ≡ true)
    by (inl p) r = (y, inl refl, p)
    by (inr q) r = (let x = r q in (x.0, inr x.1, x.2))

plain_sound : (n m : Need) → is_same_plain n m ≡ true → n ≡ m
plain_sound (Stored r) (Stored s) h = ap Stored (name_sound r s h)
plain_sound (Closed r) (Closed s) h = ap Closed (name_sound r s h)
plain_sound (Stored r) (Closed s) h = absurd (cc)
plain_sound (Stored r) (At a s) h = absurd (cc)
plain_sound (Stored r) (AtKey a k) h = absurd (cc)
plain_sound (Closed r) (Stored s) h = absurd (cc)
plain_sound (Closed r) (At a s) h = absurd (cc)
plain_sound (Closed r) (AtKey a k) h = absurd (cc)
plain_sound (At a r) m h = absurd (cc)
plain_sound (AtKey a k) m h = absurd (cc)

-- what the headers wait for, the wait needs
header_needs : (hs : List Header) (ns : List Need) → has_headers hs ns ≡ true → (h : Header) (n : Need) → In h hs → In n h.needs → In n ns
header_needs hs ns t h n ih i =
    let x = and_parts (list_all (λ h. list_all (λ n. list_any (is_same_plain n) ns) h.needs) hs) _ t in
    let y = every_in (λ h. list_all (λ n. list_any (is_same_plain n) ns) h.needs) hs x.0 h ih in
    let z = any_in (is_same_plain n) ns (every_in (λ n. list_any (is_same_plain n) ns) h.needs y n i) in
    subst (λ (m : Need). In m ns) (sym (plain_sound n z.0 z.2)) z.1

module _ (C : Code) where
  -- two readings of what is known that agree on the headers' needs
  header_same : (P Q : Input Place Key → Type 0) (p : List Step) (h : Header) → ((n : Need) (i : Input Place Key) → In n h.needs → In i (inputs_at C p n) → P i → Q i) → IsHeaderKnown C P p h → IsHeaderKnown C Q p h
  header_same P Q p h f k = λ n i a b. f n i a b (k n i a b)

  first_same : (P Q : Input Place Key → Type 0) (p : List Step) (hs : List Header) (at : ℕ) → ((h : Header) (n : Need) (i : Input Place Key) → In h hs → In n h.needs → In i (inputs_at C p n) → P i → Q i) → ((h : Header) (n : Need) (i : Input Place Key) → In h hs → In n h.needs → In i (inputs_at C p n) → Q i → P i) → FirstUnknown C P p hs at → FirstUnknown C Q p hs at
  first_same P Q p [] at f g x = x
  first_same P Q p (h ∷ hs) at f g x =
      elim x [
        | inl y ↦ inl ((λ k. y.0 (header_same Q P p h (λ n i a b. g h n i (inl refl) a b) k)), y.1)
        | inr y ↦ inr (header_same P Q p h (λ n i a b. f h n i (inl refl) a b) y.0, first_same P Q p hs at (λ h n i a b c. f h n i (inr a) b c) (λ h n i a b c. g h n i (inr a) b c) y.1)
      ]

  stands_same : (P Q : Input Place Key → Type 0) (p : List Step) (a : Act) (ns : List Need) (own at : ℕ) → has_shape a ns ≡ true → ((n : Need) (i : Input Place Key) → In n ns → In i (inputs_at C p n) → P i → Q i) → ((n : Need) (i : Input Place Key) → In n ns → In i (inputs_at C p n) → Q i → P i) → IsBlockedAt C P p a own at → IsBlockedAt C Q p a own at
  stands_same P Q p (Wait hs b) ns own at shape f g x =
      first_same P Q p hs at (λ h n i a b c. f n i (header_needs hs ns shape h n a b) c) (λ h n i a b c. g n i (header_needs hs ns shape h n a b) c) x
  stands_same P Q p (Cell e) ns own at shape f g x = x
  stands_same P Q p Read ns own at shape f g x = x
  stands_same P Q p (Call b rs os) ns own at shape f g x = x
  stands_same P Q p (Set r e) ns own at shape f g x = x
  stands_same P Q p (Fill r es) ns own at shape f g x = x
  stands_same P Q p (Copy r) ns own at shape f g x = x
  stands_same P Q p (InsertElement r i e) ns own at shape f g x = x
  stands_same P Q p (Print e) ns own at shape f g x = x
  stands_same P Q p (Assert e) ns own at shape f g x = x
  stands_same P Q p (If e b d) ns own at shape f g x = x
  stands_same P Q p (Range l h s w) ns own at shape f g x = x
  stands_same P Q p (Each w) ns own at shape f g x = x

  module _ (I : IsCode C) (s : CodeState) (full : Complete (code_system C) s) where
    shape : (i : ℕ) → has_shape (entry C i).act (entry C i).needs ≡ true
    shape i = (and_parts (list_all fits_kinds (entry C i).needs) _ (I.shape i)).1

    module _ (item : CodeItem) (there : In item s.items) (i c : ℕ) (p : List Step) (is : item.task ≡ Item i p c) where
      input_there : (n : Need) (x : Input Place Key) → In n (entry C i).needs → In x (inputs_at C p n) → In x ((code_system C).inputs item.task)
      input_there n x h g = subst (λ (t : Task). In x ((code_system C).inputs t)) (sym is) (gather_in (inputs_at C p) (entry C i).needs n x h g)

      to_ever : (n : Need) (x : Input Place Key) → In n (entry C i).needs → In x (inputs_at C p n) → IsKnown (code_system C) s x → EverGiven (code_system C) x
      to_ever n x h g k = full.blocked_known item x there (input_there n x h g) k

      from_ever : (n : Need) (x : Input Place Key) → In n (entry C i).needs → In x (inputs_at C p n) → EverGiven (code_system C) x → IsKnown (code_system C) s x
      from_ever n x h g k = full.blocked_unknown item x there (input_there n x h g) k

    pub ever_blocked : (at : ℕ) (path : List Step) → Blocked C s at path → EverBlocked C at path
    ever_blocked at path b =
        let l = full.blocked_live b.item b.there in
        record {
          round = l.0;
          number = b.number;
          chunk = b.chunk;
          live = subst (λ (t : Task). Live (code_system C) (Known (code_system C) l.0) t) b.is l.1;
          never = λ e x. full.blocked_never b.item b.there e (subst (λ (t : Task). Ever (code_system C) t e) (sym b.is) x);
          counted = b.counted;
          stands = stands_same (IsKnown (code_system C) s) (EverGiven (code_system C)) path (entry C b.number).act (entry C b.number).needs (entry C b.number).at at (shape b.number) (to_ever b.item b.there b.number b.chunk path b.is) (from_ever b.item b.there b.number b.chunk path b.is) b.stands;
        }

    pub blocked_here : (at : ℕ) (path : List Step) → EverBlocked C at path → Blocked C s at path
    blocked_here at path b =
        let h = full.blocked_all b.round (Item b.number path b.chunk) b.live b.never in
        let x = in_unmap (λ (i : CodeItem). i.task) (Item b.number path b.chunk) s.items h in
        record {
          item = x.0;
          there = x.1;
          number = b.number;
          chunk = b.chunk;
          is = x.2;
          counted = b.counted;
          stands = stands_same (EverGiven (code_system C)) (IsKnown (code_system C) s) path (entry C b.number).act (entry C b.number).needs (entry C b.number).at at (shape b.number) (from_ever x.0 x.1 b.number b.chunk path x.2) (to_ever x.0 x.1 b.number b.chunk path x.2) b.stands;
        }
