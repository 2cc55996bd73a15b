-- The examples, printed.
use Rattle.std.proofs.Common.{◌≡◌, refl}
use denote.Hole.Carrier.{hidden}
use Rattle.std.specs.Fmt.{digits}
use Rattle.sheet_syntax_trees.specs.declared.tree.Tree.TheBlock.{hidden-the_row-Tree-0, hidden-the_row-Tree-1}
use Rattle.sheet_define_data.specs.declared.statement.Statement.TheBlock.{hidden-the_row-Statement-0}
use Rattle.sheet_define_data.specs.Printing.{definition_text}
use Rattle.sheet_define_data.specs.Examples.{courses, courses_text, workshop, workshop_text}
use Rattle.sheet_define_data.specs.Club.{ClubIsPrinted}

pub courses_are_printed : definition_text courses ≡ courses_text
unfolding hidden digits hidden-the_row-Tree-0 hidden-the_row-Tree-1 hidden-the_row-Statement-0
courses_are_printed = refl

pub workshop_is_printed : definition_text workshop ≡ workshop_text
unfolding hidden digits hidden-the_row-Tree-0 hidden-the_row-Tree-1 hidden-the_row-Statement-0
workshop_is_printed = refl

pub club_is_printed : ClubIsPrinted
unfolding hidden digits hidden-the_row-Tree-0 hidden-the_row-Tree-1 hidden-the_row-Statement-0
club_is_printed = refl
