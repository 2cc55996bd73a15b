use Rattle.std.proofs.Common.{sym}
use Rattle.sheet_meaning.specs.Statements.{target_object, make}
use Rattle.plain_procedures.specs.Points.{as_point}
use Rattle.plain_procedures.proofs.Going.{same_end, goes_on}
use Rattle.plain_procedures.proofs.statements.create.Goals as goal

pub returns : goal.returns
returns c =
    let s = c.args.schema.now in
    let p = as_point c.args.point in
    let t = c.args.target.now in
    same_end c.make.result
    (sym (goes_on s (target_object s p c.args.number t) p (λ o q. make s t.column o q) c.in_ok-object.object c.in_ok-object.point c.in_ok-object.ensures))
    c.make.ensures
