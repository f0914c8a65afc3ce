-- What all that is ever known gives of a stored scalar or a whole array, some round gives; and a task that is live by it is live after some round.
use Rattle.std.proofs.Common.{ℕ, ◌≤◌, max, refl, arith}
use Rattle.dataflow.specs.System.{In, StoredScalar, ClosedArray, Content, Opening, System}
use Rattle.dataflow.specs.Facts.{Live, live_main, live_opened, Finished, idle, done, Written, OneWriter, HasValue, IsContent, Known, Ever, EverGiven}
use Rattle.dataflow.specs.Laws.{Laws}
use Rattle.dataflow.proofs.Frozen.{live_grows, finished_grows, written_grows}
use Rattle.dataflow.proofs.Ever.{bound, known_later, known_ever}

below_max : (n m : ℕ) → n ≤ max n m
below_max n m = omega arith

above_max : (n m : ℕ) → m ≤ max n m
above_max n m = omega arith

module _ {T D K V E : Type 0} (S : System T D K V E) (L : Laws S) where
  pub live_round : {t : T} → Live S (Ever S) t → (n : ℕ) × Live S (Known S n) t
  live_round live_main = (0, live_main)
  live_round (live_opened t u e o l f io iu) =
      let r = live_round l in
      let n = max r.0 f.round in
      (n, live_opened t u e o (live_grows S (Known S r.0) (Known S n) (known_later S L r.0 n (below_max r.0 f.round)) r.1) (known_later S L f.round n (above_max r.0 f.round) t e f.known) io iu)

  finished_later : (a : D) (n m : ℕ) → n ≤ m → {t : T} → Finished S (Known S n) a t → Finished S (Known S m) a t
  finished_later a n m h f = finished_grows S (Known S n) (Known S m) (known_later S L n m h) f

  finished_round : (a : D) → {t : T} → Finished S (Ever S) a t → (n : ℕ) × Finished S (Known S n) a t
  finished_round a (idle h) = (0, idle h)
  finished_round a (done {t = t} {e = e} f c) =
      let r = bound (λ (n : ℕ) (o : Opening T D). (u : T) → In u o.tasks → Finished S (Known S n) a u) (λ n m o h x u i. finished_later a n m h (x u i)) e.opens
      (λ o io. bound (λ n u. Finished S (Known S n) a u) (λ n m u h x. finished_later a n m h x) o.tasks (λ u iu. finished_round a (c o u io iu))) in
      let n = max r.0 f.round in
      (n, done (known_later S L f.round n (above_max r.0 f.round) t e f.known) (λ o u io iu. finished_later a r.0 n (below_max r.0 f.round) (r.1 o io u iu)))

  one_writer_then : (n : ℕ) (a : D) → OneWriter S (Ever S) a → OneWriter S (Known S n) a
  one_writer_then n a one k v u x y = one k v u (written_grows S (Known S n) (Ever S) (known_ever S L n) x) (written_grows S (Known S n) (Ever S) (known_ever S L n) y)

  -- a stored scalar
  pub scalar_given : (d : D) (v : V) → HasValue S (Ever S) d S.only v → EverGiven S (StoredScalar d)
  scalar_given d v x =
      let w = x.written in
      record {
        round = w.fact.round;
        answer = _;
        gives = (
          v,
          record {
            written = record { task = w.task; effect = w.effect; fact = w.fact.known; write = w.write };
            one_writer = λ u y. x.one_writer u (written_grows S (Known S w.fact.round) (Ever S) (known_ever S L w.fact.round) y);
          },
          refl,
        );
      }

  -- a whole array
  pub array_given : (a : D) (xs : _) → IsContent S (Ever S) a xs → EverGiven S (ClosedArray a)
  array_given a xs x =
      let m = x.closed.made in
      let f = bound (λ n u. Finished S (Known S n) a u) (λ n k u h z. finished_later a n k h z) m.opening.tasks (λ u i. finished_round a (x.closed.finished u i)) in
      let r = bound (λ n p. Written S (Known S n) a p.0 p.1) (λ n m p h w. written_grows S (Known S n) (Known S m) (known_later S L n m h) w) xs
      (λ p i. (let w = x.only p.0 p.1 i in (w.fact.round, record { task = w.task; effect = w.effect; fact = w.fact.known; write = w.write }))) in
      let c = max f.0 m.fact.round in
      let n = max c r.0 in
      record {
        round = n;
        answer = Content xs;
        gives = (
          xs,
          record {
            closed = record {
              made = record { task = m.task; effect = m.effect; opening = m.opening; fact = known_later S L m.fact.round n (omega arith) m.task m.effect m.fact.known; opens = m.opens; makes = m.makes };
              finished = λ u i. finished_later a f.0 n (omega arith) (f.1 u i);
              one_writer = one_writer_then n a x.closed.one_writer;
            };
            in_order = x.in_order;
            all = λ k v w. x.all k v (written_grows S (Known S n) (Ever S) (known_ever S L n) w);
            only = λ k v i. written_grows S (Known S r.0) (Known S n) (known_later S L r.0 n (above_max c r.0)) (r.1 (k, v) i);
          },
          refl,
        );
      }
