-- How many rows are placed, and that there is room for one more.
use Rattle.std.proofs.Common.{◌≡◌, ◌∙◌, sym, ap, refl, ℕ, suc, ◌+◌, ◌*◌, ◌++◌, List, [], ◌∷◌, length, length-append, map, Option, arith}
use Rattle.std.proofs.lemmas.List.{length-map}
use Rattle.board_history.specs.Ending.{new_row}
use Rattle.board_history.specs.Fields.{Does, Frame}
use Rattle.board_instances.specs.Openings.{ArePlaced, Put, put_jobs}
use Rattle.board_instances.specs.View.{rows_view}
use Rattle.board_instances.specs.declared.item.ItemRecord.{ItemRecord}
use Rattle.board_instances.specs.declared.pending.PendingInstance.{PendingInstance}
use Rattle.board_instances.specs.View.{opening_frame}

jobs_len : (es : List ℕ) (ps : List Put) → length (put_jobs es ps) ≡ length ps * length es
jobs_len es [] = omega arith
jobs_len es (p ∷ ps) = by (length ps) (length es) (length (put_jobs es ps)) (length (map (λ e. Does p.key e 0) es)) (length (map (λ e. Does p.key e 0) es ++ put_jobs es ps)) (jobs_len es ps) (length-map es (λ e. Does p.key e 0)) (length-append (map (λ e. Does p.key e 0) es) (put_jobs es ps))
  where
    by : (n k j m r : ℕ) → j ≡ n * k → m ≡ k → r ≡ m + j → r ≡ suc n * k
    by n k j m r a b c = omega (arith, a, b, c)

pub placed_len : (os : List PendingInstance) (es : List ℕ) (fs gs : List (Option Frame)) (old new : List ItemRecord) (last : Option ℕ) → ArePlaced (map opening_frame os) es fs gs (rows_view old) (rows_view new) last → length new ≡ length old + length os * length es
placed_len os es fs gs old new last p =
    by (length old) (length new) (length os) (length es) (length p.puts) (length (put_jobs es p.puts)) (length (map new_row (put_jobs es p.puts))) (length (rows_view old)) (length (rows_view new))
    (jobs_len es p.puts) (length-map (put_jobs es p.puts) new_row)
    (sym (length-map p.puts (λ (q : Put). q.frame)) ∙ ap length p.frames_are ∙ length-map os opening_frame)
    (rows_len old) (rows_len new)
    (ap length p.rows ∙ length-append (rows_view old) (map new_row (put_jobs es p.puts)))
  where
    rows_len : (xs : List ItemRecord) → length (rows_view xs) ≡ length xs
    rows_len [] = refl
    rows_len (x ∷ xs) = ap suc (rows_len xs)

    by : (a b n k m j r x y : ℕ) → j ≡ m * k → r ≡ j → m ≡ n → x ≡ a → y ≡ b → y ≡ x + r → b ≡ a + n * k
    by a b n k m j r x y h1 h2 h3 h4 h5 h6 = omega (arith, h1, h2, h4, h5, h6, ap (λ z. z * k) h3)
