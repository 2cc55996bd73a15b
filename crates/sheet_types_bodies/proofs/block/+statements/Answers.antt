use Rattle.std.proofs.Common.{Ok, [], length, refl, rules, subst, sym, take, ◌++◌, ◌∙◌, ◌∷◌, ◌≡◌}
use Rattle.sheet_types_bodies.proofs.Blocks.{all_stay, begins_then, same_stay, statement-For, statement-If, statement-IfElse, statement_goes_on}
use Rattle.sheet_types_bodies.proofs.Blocks.{statement_stops, statements_end}
use Rattle.sheet_types_bodies.proofs.Made.{either_refused, either_told, for_refused, for_told, gone, guarded_refused, guarded_told, if_refused, if_told}
use Rattle.sheet_types_bodies.proofs.Made.{with_same}
use Rattle.sheet_types_bodies.proofs.Steps.{passed_on, seen_plainly}
use Rattle.sheet_types_bodies.specs.Calls.{here, made_block, made_guarded, made_with}
use Rattle.sheet_types_bodies.specs.Statements.{formula_of, guarded_block, in_block}
use Rattle.sheet_columns.specs.Statements.{statements_in}
use Rattle.sheet_types_formulas.specs.Typing.{typed}
use Rattle.sheet_values.specs.declared.value.Kind.TheVariants as kind
use Rattle.sheet_types_bodies.proofs.block.+statements.Goals as goal

pub statement-returns-in-Set-clause-front : goal.statement-returns-in-Set-clause-front
statement-returns-in-Set-clause-front t c = all_stay c.change_statement.result c.args.variables.now.items

pub statement-returns-in-Add-clause-front : goal.statement-returns-in-Add-clause-front
statement-returns-in-Add-clause-front t c = all_stay c.change_statement-in-Add.result c.args.variables.now.items

pub statement-returns-in-Remove-clause-front : goal.statement-returns-in-Remove-clause-front
statement-returns-in-Remove-clause-front t c = all_stay c.change_statement-in-Remove.result c.args.variables.now.items

pub statement-returns-in-Delete-clause-front : goal.statement-returns-in-Delete-clause-front
statement-returns-in-Delete-clause-front t c = all_stay c.delete_statement.result c.args.variables.now.items

pub statement-returns-in-Check-clause-front : goal.statement-returns-in-Check-clause-front
statement-returns-in-Check-clause-front t c = all_stay c.check_statement.result c.args.variables.now.items

pub statement-returns-in-Reply-clause-front : goal.statement-returns-in-Reply-clause-front
statement-returns-in-Reply-clause-front t c = all_stay c.reply_statement.result c.args.variables.now.items

pub statement-returns-in-If : goal.statement-returns-in-If
statement-returns-in-If t c = record {
  told = rw (c.in-If.is, statement-If, sym c.as_slice-in-If.ensures) c.if_statement.ensures.told;
  front = same_stay c.if_statement.result c.args.variables.now.items c.if_statement.new.variables.items c.if_statement.ensures.same;
}

pub statement-returns-in-IfElse : goal.statement-returns-in-IfElse
statement-returns-in-IfElse t c = record {
  told = rw (c.in-IfElse.is, statement-IfElse, sym c.as_slice-in-IfElse.ensures, sym c.as_slice-in-IfElse-2.ensures) c.if_else_statement.ensures.told;
  front = same_stay c.if_else_statement.result c.args.variables.now.items c.if_else_statement.new.variables.items c.if_else_statement.ensures.same;
}

pub statement-returns-in-For : goal.statement-returns-in-For
statement-returns-in-For t c = record {
  told = rw (c.in-For.is, statement-For, sym c.as_slice-in-For.ensures) c.for_statement.ensures.told;
  front = same_stay c.for_statement.result c.args.variables.now.items c.for_statement.new.variables.items c.for_statement.ensures.same;
}

pub guarded-returns-in_err-condition-clause-told : goal.guarded-returns-in_err-condition-clause-told
guarded-returns-in_err-condition-clause-told t c =
    let s = c.args.sheet.now in
    passed_on c.in_err-condition.field-0.0 (formula_of kind.Truth c.args.condition.now (here s c.as_slice.result.now)) _ made_guarded c.from_residual.result
    c.from_residual.ensures.1 c.in_err-condition.ensures
    (λ h. guarded_refused s c.as_slice.result.now c.args.variables.now.items c.args.condition.now c.args.body.now c.args.number c.in_err-condition.field-0.0
    c.as_slice.ensures.value h)

pub guarded-returns-clause-told : goal.guarded-returns-clause-told
guarded-returns-clause-told t c =
    let s = c.args.sheet.now in
    let e = c.args.condition.now in
    let is : formula_of kind.Truth e (here s c.args.variables.now.items) ≡ Ok c.in_ok-condition.condition =
    subst (λ us. formula_of kind.Truth e (here s us) ≡ Ok c.in_ok-condition.condition) c.as_slice.ensures.value c.in_ok-condition.ensures in
    rw c.with_block.ensures (guarded_told s c.args.variables.now.items e c.args.body.now c.args.number c.in_ok-condition.condition c.block-body.result is
    c.block-body.ensures.told)

pub guarded-returns-clause-same : goal.guarded-returns-clause-same
guarded-returns-clause-same t c = rw c.with_block.ensures (with_same c.block-body.result _ _ _ (λ h. h) c.block-body.ensures.same)

pub if_statement-returns-in_err-both-clause-told : goal.if_statement-returns-in_err-both-clause-told
if_statement-returns-in_err-both-clause-told t c =
    let s = c.args.sheet.now in
    let vs = c.args.variables.now.items in
    let told = guarded_block c.args.condition.now c.args.body.now (here s vs) c.in_ok-first.first in
    passed_on c.in_err-both.field-0.0 told _ (made_with s c.guarded.new.variables.items) c.from_residual-in_err-both.result
    c.from_residual-in_err-both.ensures.1 (seen_plainly c.in_err-both.field-0.0 made_guarded told c.in_err-both.ensures.told)
    (if_refused s vs c.args.condition.now c.args.body.now c.args.number c.in_ok-first.first c.in_ok-first.ensures c.in_err-both.field-0.0)

pub if_statement-returns-clause-told : goal.if_statement-returns-clause-told
if_statement-returns-clause-told t c =
    rw c.without_else.ensures
    (if_told c.args.sheet.now c.args.variables.now.items c.args.condition.now c.args.body.now c.args.number c.in_ok-first.first c.in_ok-first.ensures
    c.guarded.new.variables.items c.in_ok-both.both c.in_ok-both.ensures.told c.in_ok-both.ensures.same)

pub if_else_statement-returns-in_err-both-clause-told : goal.if_else_statement-returns-in_err-both-clause-told
if_else_statement-returns-in_err-both-clause-told t c =
    let s = c.args.sheet.now in
    let vs = c.args.variables.now.items in
    let told = guarded_block c.args.condition.now c.args.body.now (here s vs) c.in_ok-first.first in
    passed_on c.in_err-both.field-0.0 told _ (made_with s c.guarded.new.variables.items) c.from_residual-in_err-both.result
    c.from_residual-in_err-both.ensures.1 (seen_plainly c.in_err-both.field-0.0 made_guarded told c.in_err-both.ensures.told)
    (either_refused s vs c.args.condition.now c.args.body.now c.args.number c.in_ok-first.first c.in_ok-first.ensures c.args.otherwise.now
    c.in_err-both.field-0.0)

pub if_else_statement-returns-clause-told : goal.if_else_statement-returns-clause-told
if_else_statement-returns-clause-told t c =
    rw c.either.ensures
    (either_told c.args.sheet.now c.args.variables.now.items c.args.condition.now c.args.body.now c.args.number c.in_ok-first.first c.in_ok-first.ensures
    c.args.otherwise.now c.guarded.new.variables.items c.block-otherwise.new.variables.items c.in_ok-both.both c.block-otherwise.result
    c.in_ok-both.ensures.told c.in_ok-both.ensures.same c.block-otherwise.ensures.told c.block-otherwise.ensures.same)

pub if_else_statement-returns-clause-same : goal.if_else_statement-returns-clause-same
if_else_statement-returns-clause-same t c =
    rw c.either.ensures
    (with_same c.block-otherwise.result _ (c.block-otherwise.new.variables.items ≡ c.guarded.new.variables.items)
    (c.block-otherwise.new.variables.items ≡ c.args.variables.now.items)
    (λ h. h ∙ c.in_ok-both.ensures.same) c.block-otherwise.ensures.same)

pub for_statement-returns-in_err-source-clause-told : goal.for_statement-returns-in_err-source-clause-told
for_statement-returns-in_err-source-clause-told t c =
    let s = c.args.sheet.now in
    let vs = c.args.variables.now.items in
    passed_on c.in_err-source.field-0.0 (typed c.args.source.now (here s c.as_slice.result.now)) _ (made_with s c.reserve.new.self.items)
    c.from_residual-in_err-source.result
    c.from_residual-in_err-source.ensures.1 c.in_err-source.ensures
    (for_refused s vs c.args.source.now c.args.body.now c.args.number c.in_ok-first.first c.in_ok-first.ensures c.args.name.now c.as_slice.result.now
    c.in_err-source.field-0.0
    (c.as_slice.ensures.value ∙ c.reserve.ensures.items))

pub for_statement-returns-clause-told : goal.for_statement-returns-clause-told
for_statement-returns-clause-told t c =
    let s = c.args.sheet.now in
    let vs = c.args.variables.now.items in
    let e = c.args.source.now in
    let is : typed e (here s vs) ≡ Ok c.in_ok-source.source =
    subst (λ us. typed e (here s us) ≡ Ok c.in_ok-source.source) (c.as_slice.ensures.value ∙ c.reserve.ensures.items) c.in_ok-source.ensures in
    let one : c.push_reserved.new.self.items ≡ vs ++ record { name = c.args.name.now; kind = c.in_ok-source.source.kind } ∷ [] =
    rw (c.push_reserved.ensures.items, c.reserve.ensures.items, c.in_ok-name.ensures) refl in
    let cut : c.truncate.new.self.items ≡ take (length vs) c.block-body.new.variables.items = search rules in
    rw c.repeated.ensures
    (for_told s vs e c.args.body.now c.args.number c.in_ok-first.first c.in_ok-first.ensures
    c.args.name.now c.push_reserved.new.self.items c.block-body.new.variables.items c.truncate.new.self.items c.in_ok-source.source c.block-body.result
    is one c.block-body.ensures.told c.block-body.ensures.same cut)

pub for_statement-returns-clause-same : goal.for_statement-returns-clause-same
for_statement-returns-clause-same t c =
    let s = c.args.sheet.now in
    let vs = c.args.variables.now.items in
    let mid = c.push_reserved.new.self.items in
    let after = c.block-body.new.variables.items in
    let new = c.truncate.new.self.items in
    let one : c.push_reserved.new.self.items ≡ vs ++ record { name = c.args.name.now; kind = c.in_ok-source.source.kind } ∷ [] =
    rw (c.push_reserved.ensures.items, c.reserve.ensures.items, c.in_ok-name.ensures) refl in
    let cut : c.truncate.new.self.items ≡ take (length vs) c.block-body.new.variables.items = search rules in
    rw c.repeated.ensures
    (with_same c.block-body.result _ (c.block-body.new.variables.items ≡ c.push_reserved.new.self.items)
    (c.truncate.new.self.items ≡ c.args.variables.now.items)
    (λ h. gone s vs c.args.source.now c.args.body.now c.args.number c.in_ok-first.first c.in_ok-first.ensures
    (record { name = c.args.name.now; kind = c.in_ok-source.source.kind }) mid after new one cut h)
    c.block-body.ensures.same)

pub block-returns-in_err-block-clause-told : goal.block-returns-in_err-block-clause-told
block-returns-in_err-block-clause-told t c =
    let told = in_block c.args.written.now (here c.args.sheet.now c.args.variables.now.items) c.args.number in
    passed_on c.in_err-block.field-0.0 told told made_block c.from_residual.result
    c.from_residual.ensures.1 (seen_plainly c.in_err-block.field-0.0 made_block told c.in_err-block.ensures.told) (λ h. h)

pub in_order-loop-one-preserved : goal.in_order-loop-one-preserved
in_order-loop-one-preserved t c =
    let vs = c.args.variables.now.items in
    let s = c.args.sheet.now in (
      statement_goes_on c.args.written.now c.loop-one.one-index (here s c.loop-one.variables.items) c.loop-one.next (statements_in c.loop-one.statements)
          (in_block c.args.written.now (here s vs) c.args.number) c.loop-one.invariant.0
          c.one-item.result (made_with s c.statement.new.variables.items c.in-Ok.step) _ c.loop-one-test.true c.one-item.is c.in-Ok.ensures.told (search rules),
      begins_then vs c.loop-one.variables.items c.statement.new.variables.items c.loop-one.invariant.1 c.in-Ok.ensures.front,
    )

pub in_order-returns-in-Err-clause-told : goal.in_order-returns-in-Err-clause-told
in_order-returns-in-Err-clause-told t c =
    let vs = c.args.variables.now.items in
    let s = c.args.sheet.now in
    statement_stops c.args.written.now c.loop-one.one-index (here s c.loop-one.variables.items) c.loop-one.next (statements_in c.loop-one.statements)
    (in_block c.args.written.now (here s vs) c.args.number) c.loop-one.invariant.0
    (made_with s c.statement.new.variables.items) made_block c.one-item.result c.in-Err.refusal c.loop-one-test.true c.one-item.is c.in-Err.ensures.told

pub in_order-returns-clause-told : goal.in_order-returns-clause-told
in_order-returns-clause-told t c =
    let s = c.args.sheet.now in
    statements_end c.args.written.now c.loop-one.one-index (here s c.loop-one.variables.items) c.loop-one.next (statements_in c.loop-one.statements)
    (in_block c.args.written.now (here s c.args.variables.now.items) c.args.number) c.loop-one.invariant.0
    c.loop-one-test.false
