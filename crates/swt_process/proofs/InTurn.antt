-- Files that are checked one after another.
use Rattle.std.proofs.Common.{◌≡◌, ◌∙◌, sym, ap, refl, inl, inr, subst, ℕ, zero, suc, ◌+◌, ◌<◌, List, [], ◌∷◌, ◌++◌, length, get_or, take, map, reverse, arith, length-append, Result, Ok, Err, Option, Some}
use Rattle.std.proofs.lemmas.List.{take_more}
use Rattle.host.specs.Events.{Event, Link, Read, changes, links, reads}
use Rattle.swt_arguments.specs.declared.line.Line.TheVariants.{Check}
use Rattle.swt_status.specs.Statuses.{number_of}
use Rattle.swt_status.specs.Verdicts.{Verdict}
use Rattle.swt_status.specs.declared.status.Status.{Status}
use Rattle.swt_status.specs.declared.status.Status.TheVariants as Ends
use Rattle.swt_status.specs.declared.stop.CommandStop.{CommandStop}
use Rattle.swt_status.specs.declared.failure.CommandFailure.{CommandFailure}
use Rattle.swt_command.specs.Checks.{Checks, HasVerdict, IsSaid, StopsBy, after}
use Rattle.swt_command.specs.Files.{Files, name_at, source_of}
use Rattle.swt_command.specs.Owes.{Says, status_of}
use Rattle.swt_command.specs.Sinks.{Held, held}
use Rattle.swt_command.proofs.Checking.{SoFar, name_here}
use Rattle.swt_command.proofs.Checking as Checking
use Rattle.swt_process.specs.Each.{ChecksEach, IsChecked, number_by}
use Rattle.swt_process.specs.Ends.{Ran}
use Rattle.swt_process.specs.Places.{name_of}
use Rattle.swt_process.specs.Reads.{AreRead, EndsReading, HasRead}
use Rattle.swt_process.proofs.Reading.{none_read, read_next}
use Rattle.swt_process.proofs.Unchanged.{none_given, none_replaced, none_unsafe}

-- IN TURN

source_here : (files : Files) (file : Option (List ℕ)) (place : ℕ) (src : List ℕ) → source_of files place ≡ Some src → source_of (files ++ file ∷ []) place ≡ Some src
source_here [] file zero src e = absurd (cc (e))
source_here [] file (suc place) src e = absurd (cc (e))
source_here (f ∷ files) file zero src e = e
source_here (f ∷ files) file (suc place) src e = source_here files file place src e

source_last : (files : Files) (file : Option (List ℕ)) → source_of (files ++ file ∷ []) (length files) ≡ file
source_last [] file = refl
source_last (f ∷ files) file = source_last files file

has_verdict : (files : Files) (file : Option (List ℕ)) (place : ℕ) (v : Verdict) → HasVerdict files place v → HasVerdict (files ++ file ∷ []) place v
has_verdict files file place v h = (h.0, source_here files file place h.0 h.1, h.2)

-- what was said of the first files stands where there is one more
so_far : (names : List (List ℕ)) (files : Files) (file : Option (List ℕ)) (place : ℕ) (status : Status) (out new : Held) → SoFar names files place status out new → SoFar names (files ++ file ∷ []) place status out new
so_far names files file place status out new s = record {
  verdicts = s.verdicts;
  count = s.count;
  judged = record { verdicts = λ p v e. has_verdict files file p v (s.judged.verdicts p v e); printed = s.judged.printed };
  status_is = s.status_is;
}

-- the files before this place were read, and have their lines
pub record Judging (names : List (List ℕ)) (rs : List Read) (place : ℕ) (status : Status) (out new : Held) : Type 0 where
  pub files : Files
  pub count : length files ≡ place
  pub read : AreRead (Check names) (take place names) files (reverse rs)
  pub judged : SoFar names files place status out new

pub at_first : (names : List (List ℕ)) (rs : List Read) (out : Held) → rs ≡ [] → Judging names rs 0 Ends.Done out out
at_first names rs out e = record { files = []; count = refl; read = none_read (Check names) rs e; judged = Checking.at_first names [] out }

said_last : (name : List ℕ) (files : Files) (file : Option (List ℕ)) (v : Verdict) (out new : Held) → IsSaid name (file ∷ []) 0 v out new → IsSaid name (files ++ file ∷ []) (length files) v out new
said_last name files file v out new s = ((s.0.0, source_last files file ∙ s.0.1, s.0.2), s.1)

pub at_next : (names : List (List ℕ)) (before now : List Read) (place : ℕ) (status : Status) (v : Verdict) (d name : List ℕ) (out mid new : Held) → Judging names before place status out mid
    → place < length names → name ≡ get_or names place d → IsChecked name before now (Ok v) mid new → Judging names now (place + 1) (after v status) out new
at_next names before now place status v d name out mid new j l n c =
    let r = c.0 in let files = j.files ++ r.bytes ∷ [] in
    let named : r.name ≡ get_or names place d = c.2 ∙ n in
    let taken : take place names ++ r.name ∷ [] ≡ take (place + 1) names = ap (λ (m : List ℕ). take place names ++ m ∷ []) named ∙ sym (take_more names place d l) in
    let read : AreRead (Check names) (take (place + 1) names) files (reverse now) =
    subst (λ (rs : List Read). AreRead (Check names) (take (place + 1) names) files (reverse rs)) (sym c.1)
    (subst (λ (ns : List (List ℕ)). AreRead (Check names) ns files (reverse (r ∷ before))) taken (read_next (Check names) (take place names) j.files before r j.read c.3)) in
    let here : name ≡ name_at names place = n ∙ name_here names place d l in
    let said : IsSaid (name_at names place) files place v mid new =
    subst (λ (k : ℕ). IsSaid (name_at names place) files k v mid new) j.count (said_last (name_at names place) j.files r.bytes v mid new (subst (λ (m : List ℕ). IsSaid m (r.bytes ∷ []) 0 v mid new) here c.4)) in
    record {
      files = files;
      count = rw length-append (omega (arith, j.count));
      read = read;
      judged = Checking.at_next names files place status v out mid new (so_far names j.files r.bytes place status out mid j.judged) l said;
    }

pub at_stop : (names : List (List ℕ)) (before now : List Read) (place : ℕ) (status : Status) (trouble : CommandFailure) (d name : List ℕ) (out mid new : Held) → Judging names before place status out mid
    → place < length names → name ≡ get_or names place d → IsChecked name before now (Err trouble) mid new → ChecksEach names now (Err (record { place = place; trouble = trouble })) out new
at_stop names before now place status trouble d name out mid new j l n c =
    let r = c.0 in let files = j.files ++ r.bytes ∷ [] in
    let here : name ≡ name_at names place = n ∙ name_here names place d l in
    let last : source_of files place ≡ r.bytes = subst (λ (k : ℕ). source_of files k ≡ r.bytes) j.count (source_last j.files r.bytes) in
    let stops : StopsBy (name_at names place) (source_of files place) trouble mid new =
    subst (λ (b : Option (List ℕ)). StopsBy (name_at names place) b trouble mid new) (sym last) (subst (λ (m : List ℕ). StopsBy m r.bytes trouble mid new) here c.4) in
    let ends : EndsReading names files (number_by trouble) now = record {
      earlier = j.files;
      before = before;
      last = r;
      files_are = refl;
      reads_are = c.1;
      name_is = c.2 ∙ here ∙ ap (λ (k : ℕ). name_at names k) (sym j.count);
      read = subst (λ (k : ℕ). AreRead (Check names) (take k names) j.files (reverse before)) (sym j.count) j.read;
      enough = c.3;
    } in
    (files, ends, Checking.at_stop names files place status trouble out mid new (so_far names j.files r.bytes place status out mid j.judged) l stops)

-- HOW IT ENDS

-- a check that has done so with each file, and said why it stopped, was done as its line is to be
pub check_ran : (names : List (List ℕ)) (h : List Event) (ended : Result Status CommandStop) (out new err err_new : Held) (number : ℕ) → ChecksEach names (reads h) ended out new → Says (Check names) ended err err_new
    → number ≡ number_of (status_of ended) → links h ≡ [] → changes h ≡ [] → Ran (Check names) h out new err err_new number
check_ran names h ended out new err err_new number c s n l e = record {
  files = files ended c;
  read = read ended c n;
  asked = ap (λ (ks : List Link). map name_of ks) l;
  safe = none_unsafe [] h e;
  unchanged = λ z. e;
  did = record {
    number = number;
    failures = 0;
    mid = err_new;
    owes = record { ended = ended; does = (checks ended c, ap (λ bs. held bs 0) (none_given h e)); says = s; number_is = n };
    closes = inl (refl, refl, (λ z. inl (none_given h e)), (λ z. none_replaced h e));
  };
}
  where
    files : (ended : Result Status CommandStop) → ChecksEach names (reads h) ended out new → Files
    files (Ok status) c = c.0
    files (Err stop) c = c.0

    checks : (ended : Result Status CommandStop) (c : ChecksEach names (reads h) ended out new) → Checks names (files ended c) ended out new
    checks (Ok status) c = c.2
    checks (Err stop) c = c.2

    read : (ended : Result Status CommandStop) (c : ChecksEach names (reads h) ended out new) → number ≡ number_of (status_of ended) → HasRead (Check names) (files ended c) number (reads h)
    read (Ok status) c n = inl c.1
    read (Err stop) c n = inr (subst (λ (k : ℕ). EndsReading names c.0 k (reads h)) (sym n) c.1)
