use Rattle.std.proofs.Common.{subst, refl}
use Rattle.std.specs.Prelude.{bytes_eq}
use Rattle.std.specs.List.{IsDistinct}
use Rattle.sheet_callers.proofs.IndexLemmas.{distinct-images}
use Rattle.sheet_callers.proofs.index.Index.len.Goals as goal

pub returns-clause-differ : goal.returns-clause-differ
returns-clause-differ c =
    subst (IsDistinct bytes_eq) c.self.view_is (distinct-images _ (λ t. t.items) bytes_eq (λ a b. refl) c.self.inside.texts.keys c.len.ensures.unique)
