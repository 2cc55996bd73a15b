use Rattle.std.proofs.Common.{◌≡◌, subst}
use Rattle.std.specs.Prelude.{IfOk}
use Rattle.sheet_state_references.proofs.Between.{between}
use Rattle.sheet_state_references.proofs.references.References.to.Goals as goal

pub returns : goal.returns
returns c = subst (λ l. IfOk c.between.result (λ found. found.items ≡ l)) (between c.args.object c.args.self.now) c.between.ensures
