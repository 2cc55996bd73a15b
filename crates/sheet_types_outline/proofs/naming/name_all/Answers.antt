use Rattle.std.proofs.Common.{◌≡◌, ◌+◌, ◌++◌, ◌∷◌, ◌∙◌, map, drop, length, sym, ap, subst, append_assoc, Ok}
use Rattle.sheet_types_outline.specs.Columns.{is_object_node, objects_at, objects_in}
use Rattle.sheet_types_outline.specs.Orderly.{IsOrderlyAt, IsOrderlyFrom, count_behind}
use Rattle.sheet_types_outline.specs.Naming.{name_declaration}
use Rattle.sheet_types_outline.specs.Steps.{in_turn}
use Rattle.sheet_types_outline.proofs.StepLemmas.{drop_item, turned, turn_refused}
use Rattle.sheet_types_outline.proofs.NamingLemmas.{goes_on}
use Rattle.sheet_types_outline.proofs.naming.name_all.Goals as goal

pub returns-in-Err-clause-named : goal.returns-in-Err-clause-named
returns-in-Err-clause-named c =
    let ds = c.args.declarations.now in
    let i = c.loop-declaration.declaration-index in
    let x = c.declaration-item.result in
    let split : drop i ds ≡ x ∷ drop (i + 1) ds = drop_item ds i x c.loop-declaration-test.true c.declaration-item.is in
    turn_refused name_declaration c.loop-declaration.named _ x (drop (i + 1) ds) _ c.in-Err.refusal
    (ap (in_turn name_declaration c.loop-declaration.named) (sym split) ∙ c.loop-declaration.invariant.turns) c.in-Err.ensures

pub loop-declaration-preserved : goal.loop-declaration-preserved
loop-declaration-preserved c =
    let ds = c.args.declarations.now in
    let i = c.loop-declaration.declaration-index in
    let x = c.declaration-item.result in
    let old = c.loop-declaration.named in
    let new = c.name_declaration.new.self in
    let rest = drop (i + 1) ds in
    let split : drop i ds ≡ x ∷ rest = drop_item ds i x c.loop-declaration-test.true c.declaration-item.is in
    let told : name_declaration old x ≡ Ok new = c.in-Ok.ensures in
    let orderly : IsOrderlyAt (length old.opened) x × IsOrderlyFrom (count_behind (length old.opened) x) rest =
    subst (IsOrderlyFrom (length old.opened)) split c.loop-declaration.invariant.orderly in
    let g = goes_on old new x c.loop-declaration.invariant.objects orderly.0 told in
    record {
      turns = turned name_declaration old new x rest _ (ap (in_turn name_declaration old) (sym split) ∙ c.loop-declaration.invariant.turns) told;
      objects = g.objects;
      orderly = subst (λ n. IsOrderlyFrom n rest) (sym g.count) orderly.1;
      sorts = ap (λ bs. bs ++ objects_in rest) g.sorts ∙ append_assoc (map is_object_node old.columns) (objects_at x) (objects_in rest)
          ∙ ap (λ es. map is_object_node old.columns ++ objects_in es) (sym split) ∙ c.loop-declaration.invariant.sorts;
    }
