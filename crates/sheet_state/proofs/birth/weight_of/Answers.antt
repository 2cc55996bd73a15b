use Rattle.std.proofs.Common.{◌≡◌, ◌<◌, ◌+◌, ◌∙◌, sym, ap, arith, length, take, length-append}
use Rattle.std.specs.Option.{option_to_list}
use Rattle.std.proofs.lemmas.List.{take_all}
use Rattle.std.proofs.lemmas.List.Elements.{filter_map-append}
use Rattle.std.proofs.lemmas.Option.{slice_get_within}
use Rattle.sheet_columns.specs.Tree.{root}
use Rattle.sheet_meaning.specs.WellFormed.{StateColumn, state_columns}
use Rattle.sheet_state.specs.Births.{formula_columns, firsts, state_at, formula_at}
use Rattle.sheet_state.specs.Stored.{schema_of}
use Rattle.sheet_state.proofs.Births.{states_more, formulas_more, got_at, none_yet}
use Rattle.sheet_state.proofs.birth.weight_of.Goals as goal

pub loop-k-init : goal.loop-k-init
loop-k-init c =
    let none = none_yet c.args.columns.now c.count-k-end.ensures.tree.first c.args.above in
    let no_states = ap length none.0 in
    let no_formulas = ap length none.2 in
    record {
      cells = omega arith;
      values = sym (ap (λ ks. length (firsts ks)) none.0);
      few_cells = omega arith;
      few_values = omega arith;
    }

pub loop-k-preserved : goal.loop-k-preserved
loop-k-preserved c =
    let nodes = c.args.columns.now in
    let above = c.args.above in
    let k = c.loop-k.k in
    let lt : k < length nodes = omega (arith, c.count-k-end.ensures.count, c.loop-k-test.true) in
    let at = got_at nodes k lt in
    let i = c.loop-k.invariant in
    let w = c.weight_at-weight.ensures in
    let states = states_more nodes above k at.0 at.1 in
    let formulas = formulas_more nodes above k at.0 at.1 in
    let s = ap length states ∙ length-append (state_columns (schema_of (take k nodes)) above) (option_to_list (state_at nodes above k)) in
    let f = ap length formulas ∙ length-append (formula_columns (take k nodes) above) (option_to_list (formula_at nodes above k)) in
    let v =
    ap (λ ks. length (firsts ks)) states
    ∙ ap length (filter_map-append (λ (k : StateColumn). k.first) (state_columns (schema_of (take k nodes)) above) (option_to_list (state_at nodes above k)))
    ∙ length-append (firsts (state_columns (schema_of (take k nodes)) above)) (firsts (option_to_list (state_at nodes above k))) in
    record {
      cells = omega (arith, i.cells, w.cells, s, f);
      values = omega (arith, i.values, w.values, v);
      few_cells = omega (arith, i.few_cells, w.few_cells);
      few_values = omega (arith, i.few_values, w.few_values);
    }

pub returns : goal.returns
returns c =
    let nodes = c.args.columns.now in
    let all : take c.loop-k.k nodes ≡ nodes = take_all c.loop-k.k nodes (omega (arith, c.count-k-end.ensures.count, c.loop-k-test.false)) in
    let i = c.loop-k.invariant in
    let few = c.count-k-end.ensures.tree.few in
    let some = slice_get_within nodes 0 root c.count-k-end.ensures.tree.first in
    record {
      cells = i.cells ∙ ap (λ ns. length (state_columns (schema_of ns) c.args.above) + length (formula_columns ns c.args.above)) all;
      values = i.values ∙ ap (λ ns. length (firsts (state_columns (schema_of ns) c.args.above))) all;
      few_cells = omega (arith, i.few_cells, c.count-k-end.ensures.count, c.loop-k.auto.k-end);
      few_values = omega (arith, i.few_values, c.count-k-end.ensures.count, c.loop-k.auto.k-end);
      tree = c.count-k-end.ensures.tree;
    }
