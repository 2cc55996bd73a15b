use Rattle.std.proofs.Common.{◌≡◌, ◌<◌, ◌∙◌, length, sym, ap, subst, arith}
use Rattle.std.specs.Prelude.{option_map}
use Rattle.sheet_columns.specs.Tree.{column_of}
use Rattle.sheet_columns.specs.Contents.{holds_objects, with_column}
use Rattle.sheet_types_outline.specs.Columns.{AreAlike, AreFitting}
use Rattle.sheet_types_outline.specs.Outlines.{filled}
use Rattle.sheet_types_outline.proofs.FillLemmas.{last_alike, last_counted, front_alike, filled_last, front_fitting, last_fitting, filled_nothing, no_items}
use Rattle.sheet_types_outline.proofs.contents.fill.Goals as goal

pub prove-unreachable-requires : goal.prove-unreachable-requires
prove-unreachable-requires c =
    let alike = subst (AreAlike c.loop-content.columns) c.in-Some.ensures.items c.loop-content.invariant.alike in
    let lt : length c.pop.new.self.items < length c.loop-content.columns = last_counted c.loop-content.columns c.pop.new.self.items c.in-Some.content alike in
    let long = c.pop.new.self.ok.0 in
    omega arith

pub set-requires-clause-alike : goal.set-requires-clause-alike
set-requires-clause-alike c =
    let columns = c.loop-content.columns in
    let items = c.pop.new.self.items in
    let alike = subst (AreAlike columns) c.in-Some.ensures.items c.loop-content.invariant.alike in
    let long = c.pop.new.self.ok.0 in
    let place : c.len-in-Some.result ≡ length items = omega arith in
    ap (λ k. option_map holds_objects (column_of columns k)) place ∙ last_alike columns items c.in-Some.content alike

pub set-requires-clause-fitting : goal.set-requires-clause-fitting
set-requires-clause-fitting c =
    last_fitting c.pop.new.self.items c.in-Some.content (subst AreFitting c.in-Some.ensures.items c.loop-content.invariant.fitting)

pub loop-content-preserved : goal.loop-content-preserved
loop-content-preserved c =
    let columns = c.loop-content.columns in
    let items = c.pop.new.self.items in
    let x = c.in-Some.content in
    let alike = subst (AreAlike columns) c.in-Some.ensures.items c.loop-content.invariant.alike in
    let long = c.pop.new.self.ok.0 in
    let place : c.len-in-Some.result ≡ length items = omega arith in
    let changed : c.set.new.self ≡ with_column columns (length items) x = c.set.ensures ∙ ap (λ k. with_column columns k x) place in
    record {
      filled = ap (λ ns. filled ns items) changed ∙ filled_last columns items x alike ∙ ap (filled columns) (sym c.in-Some.ensures.items)
          ∙ c.loop-content.invariant.filled;
      alike = subst (λ ns. AreAlike ns items) (sym changed) (front_alike columns items x alike);
      fitting = front_fitting items x (subst AreFitting c.in-Some.ensures.items c.loop-content.invariant.fitting);
    }

pub returns : goal.returns
returns c =
    let columns = c.loop-content.columns in
    let ok = c.loop-content.contents.ok.0 in
    let empty = c.in_default.ensures.cases.0 in
    let none : length c.loop-content.contents.items ≡ 0 = omega arith in
    sym (filled_nothing columns) ∙ ap (filled columns) (sym (no_items c.loop-content.contents.items none)) ∙ c.loop-content.invariant.filled
