-- Results that are kept from one request to the next.
use Rattle.std.specs.Prelude.{List, []}
use Rattle.sheet_meaning.specs.Support.{Cell}

-- of the formula cells whose results are kept after a request, those whose results are kept for the next one: none yet
abbrev pub kept_between : List Cell → List Cell
kept_between kept = []
