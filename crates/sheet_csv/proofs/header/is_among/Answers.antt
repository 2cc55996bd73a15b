use Rattle.std.proofs.Common.{◌∙◌, Bor, List, ℕ}
use Rattle.std.specs.Prelude.{bytes_eq}
use Rattle.sheet_csv.proofs.HeaderLemmas.{any_mapped}
use Rattle.sheet_csv.proofs.header.is_among.Goals as goal

pub returns : goal.returns
returns c = c.is_one_of.ensures ∙ any_mapped (λ t. bytes_eq t c.args.text.now) (λ (t : Bor (List ℕ)). t.now) c.args.texts.now
