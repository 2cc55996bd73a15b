use Rattle.sheet_syntax_trees.specs.Bytes.{is_in_word}
use Rattle.sheet_syntax_trees.proofs.RunLemmas.{run_ascii, in_word_ascii}
use Rattle.sheet_syntax_trees.proofs.scan.scan_front.Goals as goal

pub scan_word-requires : goal.scan_word-requires
scan_word-requires c = λ i. rw (c.split_at.ensures.front, c.run_length.ensures.value) (run_ascii is_in_word in_word_ascii c.args.rest.now i)
