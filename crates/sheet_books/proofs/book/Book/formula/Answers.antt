use Rattle.std.proofs.Common.{rules}
use Rattle.sheet_books.proofs.Having.{Found, found}
use Rattle.sheet_books.proofs.book.Book.formula.Goals as goal

pub at-requires : goal.at-requires
at-requires c =
    let there : Found c.self.inside.contents.columns c.self.inside.contents.formulas c.args.column =
    found _ _ _ c.self.invariant.typed.formulas (search rules) in
    search rules

pub unreachable-requires : goal.unreachable-requires
unreachable-requires c =
    let there : Found c.self.inside.contents.columns c.self.inside.contents.formulas c.args.column =
    found _ _ _ c.self.invariant.typed.formulas (search rules) in
    search rules

pub returns-clause-typed : goal.returns-clause-typed
returns-clause-typed c k is =
    let there : Found c.self.inside.contents.columns c.self.inside.contents.formulas c.args.column =
    found _ _ _ c.self.invariant.typed.formulas (search rules) in
    search rules
