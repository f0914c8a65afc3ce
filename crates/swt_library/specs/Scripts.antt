-- What a compiled script shows.
use Rattle.std.specs.Prelude.{ℕ, List}
use Rattle.task_code.specs.Code.{Code}

-- the code of a script, and the text of its listing
pub record ListedCode : Type 0 where
  pub program : Code
  pub text : List ℕ
