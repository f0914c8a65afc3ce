-- Where no key has two writers, what follows is kept as knowledge grows; so the meaning is the least knowledge that is closed under the rules.
use Rattle.std.specs.Prelude.{List, Result}
use Rattle.std.proofs.Common.{inl, inr}
use Rattle.values.specs.declared.key.Key.{Key}
use Rattle.values.specs.declared.value.Scalar.{Scalar}
use Rattle.values.specs.declared.value.Value.{Value}
use Rattle.language.specs.Core.{Form, Cell, Core}
use Rattle.language.specs.Facts.{Fault, Fact, Knowledge, OneWrite, OneWriter}
use Rattle.language.specs.Meaning.{Gives, computed, faulty, found, missing, Comes, before, now, ComeAll, none_comes, next_comes, New, cell_value, cell_fault, assigned, filled, inserted, printed, bad_range, too_deep_header, too_deep_call, written_twice}
use Rattle.language.specs.Places.{Path, Place}
use Rattle.language_laws.proofs.Growth.{Grows, keeps_closed, keeps_ready, keeps_stmt}
use Rattle.language_laws.proofs.OneValue.{keeps_answer}

module _ (s : Core) (K K' : Knowledge) (g : Grows s K K') (clean : (a : Place) → OneWriter K' a) where
  keeps_write : {a : Place} {k : Key} {v : Scalar} → OneWrite K a k v → OneWrite K' a k v
  keeps_write {a} {k} {v} o = record { writer = o.writer; write = g.more _ o.write; only = λ u x f. clean a k u o.writer x v f (g.more _ o.write) }

  pub keeps_gives : {path : Path} {f : Form} {r : Result Value Fault} → Gives s K path f r → Gives s K' path f r
  keeps_gives (computed e) = computed (keeps_answer s K K' g e)
  keeps_gives (faulty e) = faulty (keeps_answer s K K' g e)
  keeps_gives (found h i o) = found (g.more _ h) i (keeps_write o)
  keeps_gives (missing h i c n) = missing (g.more _ h) i (keeps_closed s K K' g c) (λ u v f. n u v (g.stays _ c _ u v f))

  pub keeps_comes : {path : Path} {c : Cell} {v : Value} → Comes s K path c v → Comes s K' path c v
  keeps_comes (before k) = before (g.more _ k)
  keeps_comes (now h) = now (keeps_gives h)

  keeps_come_all : {path : Path} {cs : List Cell} {vs : List Value} → ComeAll s K path cs vs → ComeAll s K' path cs vs
  keeps_come_all none_comes = none_comes
  keeps_come_all (next_comes h hs) = next_comes (keeps_comes h) (keeps_come_all hs)

  -- what a round adds follows from later knowledge too
  pub keeps_new : {f : Fact} → New s K f → New s K' f
  keeps_new (cell_value h i x) = cell_value (keeps_stmt s K K' g h) i (keeps_gives x)
  keeps_new (cell_fault h i x) = cell_fault (keeps_stmt s K K' g h) i (keeps_gives x)
  keeps_new (assigned h x) = assigned (keeps_stmt s K K' g h) (keeps_comes x)
  keeps_new (filled h x i) = filled (keeps_stmt s K K' g h) (keeps_comes x) i
  keeps_new (inserted h x i y) = inserted (keeps_stmt s K K' g h) (keeps_comes x) i (keeps_comes y)
  keeps_new (printed h x) = printed (keeps_stmt s K K' g h) (keeps_comes x)
  keeps_new (bad_range h x e q) = bad_range (keeps_stmt s K K' g h) (keeps_come_all x) e q
  keeps_new (too_deep_header h (inl x) o e) = too_deep_header (keeps_stmt s K K' g h) (inl (keeps_come_all x)) o e
  keeps_new (too_deep_header h (inr r) o e) = too_deep_header (keeps_stmt s K K' g h) (inr (keeps_ready s K K' g r)) o e
  keeps_new (too_deep_call h i e) = too_deep_call (keeps_stmt s K K' g h) i e
  keeps_new (written_twice h x y n) = written_twice (keeps_stmt s K K' g h) (g.more _ x) (g.more _ y) n
