use Rattle.std.proofs.Common.{◌∙◌, sym, ap, subst}
use Rattle.std.specs.Prelude.{map}
use Rattle.std.specs.List.{AllByRecursion}
use Rattle.sheet_state.specs.Stored.{IsMoment}
use Rattle.sheet_state.specs.Places.{IsListed}
use Rattle.sheet_state.specs.Rows.{moment, IsSound}
use Rattle.sheet_state.proofs.state.State.forget.Goals as goal

pub purge-requires-clause-listed : goal.purge-requires-clause-listed
purge-requires-clause-listed c = c.settle.ensures.listed c.self.inside.references c.self.invariant.3

pub invariant_of-self : goal.invariant_of-self
invariant_of-self c = (
  c.settle.ensures.sound,
  subst (AllByRecursion IsSound) (sym c.settle.ensures.earlier) tt,
  c.self.invariant.2,
  c.purge.ensures,
  subst (AllByRecursion (IsListed _)) (sym c.settle.ensures.earlier) tt,
)

pub returns-clause-state : goal.returns-clause-state
returns-clause-state c = c.settle.ensures.present ∙ ap (λ w. w.present) c.self.view_is

pub returns-clause-kept : goal.returns-clause-kept
returns-clause-kept c = λ nodes kept. record {
  present = subst (IsMoment nodes) (sym (c.settle.ensures.present ∙ ap (λ w. w.present) c.self.view_is)) kept.present;
  earlier = subst (λ ts. AllByRecursion (IsMoment nodes) (map moment ts)) (sym c.settle.ensures.earlier) tt;
}
