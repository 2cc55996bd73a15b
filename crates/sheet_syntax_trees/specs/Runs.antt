-- The runs of bytes that scanning knows.
use Rattle.std.specs.Prelude.{ℕ, Bool}
use Rattle.sheet_syntax_trees.specs.declared.bytes.Run.{Run}
use Rattle.sheet_syntax_trees.specs.declared.bytes.Run.TheVariants.{Word, Digits, Comment}
use Rattle.sheet_syntax_trees.specs.Bytes.{is_digit, is_in_word, is_in_comment}

-- whether a byte goes on with such a run
abbrev pub goes_on : Run → ℕ → Bool
goes_on Word = is_in_word
goes_on Digits = is_digit
goes_on Comment = is_in_comment
