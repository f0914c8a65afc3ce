-- When a text is read as a tree. States docs/LANGUAGE.md: Grammar.
use Rattle.std.specs.Prelude.{◌≡◌, ℕ, ◌≤◌, List, map, length, Ok}
use Rattle.lexer.specs.Items.{Lexeme}
use Rattle.lexer.specs.Tokens.{Tokens}
use Rattle.language.specs.Tree.{Tree}
use Rattle.language.specs.Grammar.{IsScript}
use Rattle.language.specs.Numbered.{numbered}
use Rattle.values.specs.Limits.{max_source, max_nesting}

pub record Reads (bytes : List ℕ) (tree : Tree) : Type 0 where
  -- it is not too long (docs/LANGUAGE.md, Grammar)
  pub short : length bytes ≤ max_source
  -- it consists of tokens up to its end, without a fault
  pub tokens : List Lexeme
  pub lexed : Tokens bytes (map Ok tokens)
  -- the tokens are a script that is not nested too deep
  pub parsed : Tree
  pub is_script : IsScript max_nesting tokens parsed
  -- the tree is that script, numbered in reading order
  pub is_numbered : tree ≡ numbered 1 parsed
