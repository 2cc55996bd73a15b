use Rattle.std.proofs.Common.{◌-◌, ◌+◌, ◌∙◌, sym, ap, subst, arith}
use Rattle.sheet_callers.specs.Callers.{Caller, caller_at}
use Rattle.sheet_callers.specs.Judging.{IsNext}
use Rattle.sheet_callers.specs.Keeping.{keeping, KeepsLast}
use Rattle.sheet_callers.proofs.CallerLemmas.{keeping_is, same_images, same_length, all_set, all_at}
use Rattle.sheet_callers.proofs.CallerLemmas.{operator_set, next_is_there, next_of, next_after, present, place_of}
use Rattle.sheet_callers.proofs.NumberLemmas.{keeps_last}
use Rattle.sheet_callers.proofs.callers.Callers.keep.Goals as goal

pub invariant_of-self : goal.invariant_of-self
invariant_of-self c =
    let cs = c.self.inside.accounts.items in
    let k = c.args.caller - 1 in
    let old = c.index_mut.result.now in
    let value = c.index_mut.ensures.value in
    let next = subst (λ x. IsNext (caller_at x c.args.caller) c.args.number) (sym c.self.view_is) c.requires in
    let some = place_of cs c.args.caller (next_is_there (caller_at cs c.args.caller) c.args.number next) in
    let at = present cs k old some value in
    let same = same_length cs k c.keep.new.self in
    let kept = c.keep.ensures in
    let new_last = keeps_last old c.args.number c.args.line.items c.args.answer (all_at KeepsLast cs k old c.self.invariant.numbers at)
    (next_of cs c.args.caller old c.args.number next value) in
    record {
      keys_are = c.self.invariant.keys_are ∙ sym (same_images (λ (x : Caller). x.key) cs k old c.keep.new.self value (ap (λ (x : Caller). x.key) kept));
      names_are = c.self.invariant.names_are ∙ sym (same_images (λ (x : Caller). x.name) cs k old c.keep.new.self value (ap (λ (x : Caller). x.name) kept));
      operator = operator_set cs k old c.keep.new.self value (ap (λ (x : Caller). x.name) kept) (ap (λ (x : Caller). x.object) kept) some
          c.self.invariant.operator;
      numbers = all_set KeepsLast cs k c.keep.new.self c.self.invariant.numbers (subst KeepsLast (sym kept) new_last);
      few = omega (arith, c.self.invariant.few, same);
    }

pub returns-clause-kept : goal.returns-clause-kept
returns-clause-kept c =
    let next = subst (λ x. IsNext (caller_at x c.args.caller) c.args.number) (sym c.self.view_is) c.requires in
    keeping_is c.self.inside.accounts.items c.args.caller c.index_mut.result.now c.keep.new.self c.args.number c.args.line.items c.args.answer
    (next_is_there (caller_at c.self.inside.accounts.items c.args.caller) c.args.number next) c.index_mut.ensures.value c.keep.ensures
    ∙ ap (λ cs. keeping cs c.args.caller c.args.number c.args.line.items c.args.answer) c.self.view_is

pub returns-clause-next : goal.returns-clause-next
returns-clause-next c =
    let cs = c.self.inside.accounts.items in
    let next = subst (λ x. IsNext (caller_at x c.args.caller) c.args.number) (sym c.self.view_is) c.requires in
    let there = next_is_there (caller_at cs c.args.caller) c.args.number next in
    let kept = keeping_is cs c.args.caller c.index_mut.result.now c.keep.new.self c.args.number c.args.line.items c.args.answer
    there c.index_mut.ensures.value c.keep.ensures in
    subst (λ x. IsNext (caller_at x c.args.caller) (c.args.number + 1)) (sym kept)
    (next_after cs c.args.caller c.args.number c.args.line.items c.args.answer there)
