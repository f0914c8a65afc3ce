-- Texts that are buffered for a sink.
use Rattle.std.specs.Prelude.{◌≡◌, ℕ, List, ◌++◌}

-- a first part of the text was taken, and the rest is pending
pub record OnPage (old now page text : List ℕ) : Type 0 where
  pub gone : List ℕ
  pub taken : now ≡ old ++ gone
  pub text_is : gone ++ page ≡ text
