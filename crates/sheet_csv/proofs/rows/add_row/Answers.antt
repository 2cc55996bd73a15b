use Rattle.std.proofs.Common.{◌∙◌, ◌+◌, ap, sym}
use Rattle.sheet_csv.proofs.rows.add_row.Goals as goal

pub returns-in-None : goal.returns-in-None
returns-in-None c = (sym c.in_ok-values.ensures ∙ c.in-None.is, ap (λ n. n + 1) c.len.ensures)
