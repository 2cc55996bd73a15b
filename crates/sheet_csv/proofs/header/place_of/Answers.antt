use Rattle.std.proofs.Common.{◌∙◌, ap, length}
use Rattle.std.specs.Prelude.{unwrap_or}
use Rattle.sheet_csv.proofs.HeaderLemmas.{place_mapped}
use Rattle.sheet_csv.proofs.header.place_of.Goals as goal

pub returns : goal.returns
returns c =
    c.unwrap_or.ensures ∙ ap (λ o. unwrap_or o (length c.args.header.now)) c.first_place.ensures ∙ place_mapped c.args.name.now c.args.header.now
