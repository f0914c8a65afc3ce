-- Where one more round adds nothing, what is known is all that the script means.
use Rattle.std.specs.Prelude.{◌↔◌}
use Rattle.std.proofs.Common.{◌≡◌, subst, inl, inr, ◌⊎◌, ℕ, zero, suc, ◌≤◌, List, arith, Result}
use Rattle.dataflow.proofs.Ever.{either_way}
use Rattle.values.specs.declared.key.Key.{Key}
use Rattle.values.specs.declared.value.Scalar.{Scalar}
use Rattle.values.specs.declared.value.Value.{Value}
use Rattle.language.specs.Core.{Form, Cell, Core, Action, declare, call_alone, assign, fill, insert, print, assert, when, choose, range, each, wait}
use Rattle.language.specs.Facts.{Fault, Fact, Knowledge, OneWrite}
use Rattle.language.specs.Meaning.{Gives, computed, faulty, found, missing, Comes, before, now, ComeAll, none_comes, next_comes, New, cell_value, cell_fault, assigned, filled, inserted, printed, bad_range, too_deep_header, too_deep_call, written_twice, Known, Meaning, IsFinished}
use Rattle.language.specs.Outcomes.{Blocked, Faults, Lines, OwnFact}
use Rattle.language.specs.Places.{Path, Place}
use Rattle.language_laws.proofs.Growth.{Grows, keeps_closed, keeps_ready, keeps_stmt}
use Rattle.language_laws.proofs.OneValue.{keeps_answer}
use Rattle.language_laws.proofs.Rounds.{known_later}

-- THE SAME KNOWLEDGE

-- each knows what the other does
pub record Same (K L : Knowledge) : Type 0 where
  pub more : (f : Fact) → K f → L f
  pub back : (f : Fact) → L f → K f

pub other_way : (K L : Knowledge) → Same K L → Same L K
other_way K L e = record { more = e.back; back = e.more }

module _ (s : Core) (K L : Knowledge) (e : Same K L) where
  grow : Grows s K L
  grow = record { more = e.more; stays = λ a c k w v f. e.back _ f }

  same_write : {a : Place} {k : Key} {v : Scalar} → OneWrite K a k v → OneWrite L a k v
  same_write o = record { writer = o.writer; write = e.more _ o.write; only = λ w u f. o.only w u (e.back _ f) }

  same_gives : {path : Path} {f : Form} {r : Result Value Fault} → Gives s K path f r → Gives s L path f r
  same_gives (computed x) = computed (keeps_answer s K L grow x)
  same_gives (faulty x) = faulty (keeps_answer s K L grow x)
  same_gives (found h i o) = found (e.more _ h) i (same_write o)
  same_gives (missing h i c n) = missing (e.more _ h) i (keeps_closed s K L grow c) (λ w v f. n w v (e.back _ f))

  same_comes : {path : Path} {c : Cell} {v : Value} → Comes s K path c v → Comes s L path c v
  same_comes (before k) = before (e.more _ k)
  same_comes (now h) = now (same_gives h)

  same_come_all : {path : Path} {cs : List Cell} {vs : List Value} → ComeAll s K path cs vs → ComeAll s L path cs vs
  same_come_all none_comes = none_comes
  same_come_all (next_comes h hs) = next_comes (same_comes h) (same_come_all hs)

  same_new : {f : Fact} → New s K f → New s L f
  same_new (cell_value h i x) = cell_value (keeps_stmt s K L grow h) i (same_gives x)
  same_new (cell_fault h i x) = cell_fault (keeps_stmt s K L grow h) i (same_gives x)
  same_new (assigned h x) = assigned (keeps_stmt s K L grow h) (same_comes x)
  same_new (filled h x i) = filled (keeps_stmt s K L grow h) (same_comes x) i
  same_new (inserted h x i y) = inserted (keeps_stmt s K L grow h) (same_comes x) i (same_comes y)
  same_new (printed h x) = printed (keeps_stmt s K L grow h) (same_comes x)
  same_new (bad_range h x b q) = bad_range (keeps_stmt s K L grow h) (same_come_all x) b q
  same_new (too_deep_header h (inl x) o d) = too_deep_header (keeps_stmt s K L grow h) (inl (same_come_all x)) o d
  same_new (too_deep_header h (inr r) o d) = too_deep_header (keeps_stmt s K L grow h) (inr (keeps_ready s K L grow r)) o d
  same_new (too_deep_call h i d) = too_deep_call (keeps_stmt s K L grow h) i d
  same_new (written_twice h x y n) = written_twice (keeps_stmt s K L grow h) (e.more _ x) (e.more _ y) n

  same_own : (path : Path) (n : ℕ) (a : Action) → OwnFact s K path n a → OwnFact s L path n a
  same_own path n (declare v) h = h
  same_own path n (call_alone p ps c) h = h
  same_own path n (assign x c) h = (h.0, e.more _ h.1)
  same_own path n (fill a c) h = (h.0, e.more _ h.1)
  same_own path n (insert a i c) h = (h.0, h.1, e.more _ h.2)
  same_own path n (print p c) h = (h.0, e.more _ h.1)
  same_own path n (assert p c) h = e.more _ h
  same_own path n (when c b) h = (h.0, keeps_ready s K L grow h.1)
  same_own path n (choose c b d) h = (h.0, keeps_ready s K L grow h.1)
  same_own path n (range lo hi st x t b) h = (h.0, keeps_ready s K L grow h.1)
  same_own path n (each a x t b) h = (h.0, keeps_ready s K L grow h.1)
  same_own path n (wait ns b) h = (h.0, keeps_ready s K L grow h.1)

pub same_lines : (K L : Knowledge) → Same K L → (lines : List (List ℕ)) → Lines K lines → Lines L lines
same_lines K L e lines x = record { listing = x.listing; once = x.once; known = λ w b i. e.more _ (x.known w b i); all = λ w b k. x.all w b (e.back _ k); permuted = x.permuted }

pub same_blocked : (s : Core) (K L : Knowledge) → Same K L → (at : ℕ) (path : Path) → Blocked s K at path → Blocked s L at path
same_blocked s K L e at path (n, a, x) = (
  n,
  a,
  record {
    live = keeps_stmt s K L (grow s K L e) x.live;
    counts = x.counts;
    no_fact = λ o. x.no_fact (same_own s L K (other_way K L e) path n a o);
    no_fault = λ f k. x.no_fault f (e.back _ k);
    no_cell_fault = λ c f i k. x.no_cell_fault c f i (e.back _ k);
  },
)

pub same_faults : (K L : Knowledge) → Same K L → (f : Fault) (at : ℕ) (path : Path) → Faults K f at path → Faults L f at path
same_faults K L e f at path (n, k) = (n, e.more _ k)

-- ROUNDS THAT WERE ENOUGH

below_or_same : (m n : ℕ) → m ≤ n → (suc m ≤ n) ⊎ (m ≡ n)
below_or_same m n l = grind arith

module _ (s : Core) (n : ℕ) (finished : IsFinished s n) where
  never_more : (m : ℕ) (f : Fact) → Known s m f → Known s n f
  never_more zero f k = absurd k
  never_more (suc m) f k = by (never_more m) (either_way n m) k
    where
      least : ((suc m ≤ n) ⊎ (m ≡ n)) → New s (Known s m) f → Known s n f
      least (inl l) new = known_later s (suc m) n f l (inr new)
      least (inr e) new = finished f (inr (subst (λ (k : ℕ). New s (Known s k) f) e new))

      by : ((g : Fact) → Known s m g → Known s n g) → ((n ≤ m) ⊎ (m ≤ n)) → Known s (suc m) f → Known s n f
      by rec h (inl k) = rec f k
      by rec (inl l) (inr new) = finished f (inr (same_new s (Known s m) (Known s n) (record { more = rec; back = λ g k. known_later s n m g l k }) new))
      by rec (inr l) (inr new) = least (below_or_same m n l) new

  pub enough : Same (Known s n) (Meaning s)
  enough = record { more = λ f k. (n, k); back = λ f k. never_more k.0 f k.1 }

pub enough_is_meant : (s : Core) (n : ℕ) → IsFinished s n → (f : Fact) → Meaning s f ↔ Known s n f
enough_is_meant s n finished f = let e = enough s n finished in (e.back f, e.more f)
