use Rattle.sheet_define_readback.proofs.Whole.{given_back}
use Rattle.sheet_define_print.proofs.definition.print_definition.Goals as goal

pub returns-clause-reads_back : goal.returns-clause-reads_back
returns-clause-reads_back c = given_back _ c.text_of.result c.args.definition.now c.text_of.ensures
