-- How many bytes the printed texts of some definitions have.
use Rattle.std.specs.Prelude.{◌≡◌}
use Rattle.sheet_define_data.specs.Examples.{courses, workshop}
use Rattle.sheet_define_data.specs.Club.{club}
use Rattle.sheet_define_data.specs.Printing.{printed_size}

-- the two examples and the club
abbrev pub ExampleLengths : Type 0
ExampleLengths = (printed_size courses ≡ 440) × (printed_size workshop ≡ 615) × (printed_size club ≡ 1653)
