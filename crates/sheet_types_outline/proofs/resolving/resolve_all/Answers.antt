use Rattle.std.proofs.Common.{◌≡◌, ◌+◌, ◌++◌, ◌∷◌, ◌∙◌, map, drop, sym, ap, subst, append_assoc, Ok}
use Rattle.sheet_columns.specs.Contents.{holds_objects}
use Rattle.sheet_types_outline.specs.Columns.{objects_at, objects_in, AreFitting}
use Rattle.sheet_types_outline.specs.Orderly.{IsUnsignedAt}
use Rattle.sheet_types_outline.specs.Resolving.{resolve, nothing_resolved}
use Rattle.sheet_types_outline.specs.declared.resolving.Resolved.{Resolved}
use Rattle.sheet_types_outline.specs.Steps.{in_turn}
use Rattle.sheet_types_outline.proofs.StepLemmas.{drop_item, turned}
use Rattle.sheet_types_outline.proofs.ResolvingLemmas.{AreUnsigned, all_unsigned, counted, grows}
use Rattle.sheet_types_outline.proofs.resolving.resolve_all.Goals as goal

pub loop-declaration-init : goal.loop-declaration-init
loop-declaration-init c =
    let start : c.in_ok-known.known ≡ nothing_resolved = c.in_ok-known.ensures in
    record {
      turns = ap (λ s. in_turn (resolve c.args.columns.now) s c.args.declarations.now) start;
      unsigned = all_unsigned 1 c.args.declarations.now c.requires.orderly;
      sorts = ap (λ (s : Resolved). map holds_objects s.contents ++ objects_in c.args.declarations.now) start ∙ sym c.requires.sorts;
      fitting = subst (λ (s : Resolved). AreFitting s.contents) (sym start) (tt, tt);
    }

pub resolve-requires-clause-counted : goal.resolve-requires-clause-counted
resolve-requires-clause-counted c =
    let ds = c.args.declarations.now in
    let i = c.loop-declaration.declaration-index in
    let x = c.declaration-item.result in
    let split : drop i ds ≡ x ∷ drop (i + 1) ds = drop_item ds i x c.loop-declaration-test.true c.declaration-item.is in
    let old = c.loop-declaration.known in
    counted c.args.columns.now old.contents x (drop (i + 1) ds) (ap (λ es. map holds_objects old.contents ++ objects_in es) (sym split)
    ∙ c.loop-declaration.invariant.sorts)

pub loop-declaration-preserved : goal.loop-declaration-preserved
loop-declaration-preserved c =
    let ds = c.args.declarations.now in
    let i = c.loop-declaration.declaration-index in
    let x = c.declaration-item.result in
    let old = c.loop-declaration.known in
    let new = c.resolve.new.self in
    let rest = drop (i + 1) ds in
    let split : drop i ds ≡ x ∷ rest = drop_item ds i x c.loop-declaration-test.true c.declaration-item.is in
    let told : resolve c.args.columns.now old x ≡ Ok new = c.in-Ok.ensures in
    let unsigned : IsUnsignedAt x × AreUnsigned rest = subst AreUnsigned split c.loop-declaration.invariant.unsigned in
    let g = grows c.args.columns.now old new x c.loop-declaration.invariant.fitting told in
    record {
      turns = turned (resolve c.args.columns.now) old new x rest _ (ap (in_turn (resolve c.args.columns.now) old) (sym split)
          ∙ c.loop-declaration.invariant.turns) told;
      unsigned = unsigned.1;
      sorts = ap (λ bs. bs ++ objects_in rest) g.sorts ∙ append_assoc (map holds_objects old.contents) (objects_at x) (objects_in rest)
          ∙ ap (λ es. map holds_objects old.contents ++ objects_in es) (sym split) ∙ c.loop-declaration.invariant.sorts;
      fitting = g.fitting;
    }
