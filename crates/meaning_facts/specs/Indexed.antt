-- The writes of an array, and the index of the first write of each key.
use Rattle.std.specs.Prelude.{◌≡◌, ℕ, suc, Bool, true, false, not, ◌&&◌, ◌||◌, List, [], ◌∷◌, Option, Some, None, if◌then◌else◌}
use Rattle.std.specs.HashMap.{get}
use Rattle.std.specs.Ordering.{int_eq}
use Rattle.std.specs.Str.{bytes_eq}
use Rattle.values.specs.declared.key.Key.{Key}
use Rattle.values.specs.declared.key.Key.TheVariants.{Number, Text}
use Rattle.values.specs.Keys.{same_key}
use Rattle.meaning_facts.specs.declared.facts.Write.{Write}
use Rattle.meaning_facts.specs.declared.first_writes.FirstWrite.{FirstWrite}
use Rattle.meaning_facts.specs.declared.first_writes.FirstWrites.{FirstWrites}

abbrev pub has_key_in : List Write → Key → Bool
has_key_in [] k = false
has_key_in (w ∷ ws) k = same_key w.key k || has_key_in ws k

abbrev pub one_writer_in : List Write → Bool
one_writer_in [] = true
one_writer_in (w ∷ ws) = not (has_key_in ws w.key) && one_writer_in ws

-- the same write, after one more is prepended
abbrev pub one_further : Option FirstWrite → Option FirstWrite
one_further (Some f) = Some (record { at = suc f.at; is_several = f.is_several })
one_further None = None

-- the index of the first write of a key, and whether a later write has the key too
abbrev pub first_in : List Write → Key → Option FirstWrite
first_in [] k = None
first_in (w ∷ ws) k = if same_key w.key k then Some (record { at = 0; is_several = has_key_in ws k }) else one_further (first_in ws k)

-- the entry of a key after one more write at index n
abbrev pub again : ℕ → Option FirstWrite → FirstWrite
again n (Some f) = record { at = f.at; is_several = true }
again n None = record { at = n; is_several = false }

-- the recorded entry of a key
abbrev pub first_at : FirstWrites → Key → Option FirstWrite
first_at fs (Number n) = get int_eq fs.numbers n
first_at fs (Text bytes) = get bytes_eq fs.texts bytes

-- the index has the first write of each key, and the flag whether no two writes have the same key
pub record IsIndexed (ws : List Write) (fs : FirstWrites) (is_apart : Bool) : Type 0 where
  pub firsts : (k : Key) → first_at fs k ≡ first_in ws k
  pub apart : is_apart ≡ one_writer_in ws
