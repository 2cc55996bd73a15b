use Rattle.sheet_syntax_print.proofs.Back.{given_back}
use Rattle.sheet_syntax_print.proofs.formula.print_formula.Goals as goal

pub returns-clause-reads_back : goal.returns-clause-reads_back
returns-clause-reads_back c = given_back _ c.text_of.result c.args.tree.now c.text_of.ensures
