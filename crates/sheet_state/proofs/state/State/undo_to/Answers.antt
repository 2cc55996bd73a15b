use Rattle.std.proofs.Common.{◌≡◌, ◌∙◌, sym, ap, subst, Some, take, [], ◌∷◌, ◌++◌}
use Rattle.std.specs.Prelude.{map, slice_get}
use Rattle.std.specs.List.{AllByRecursion}
use Rattle.std.proofs.lemmas.List.{take-map, map-append}
use Rattle.sheet_state.specs.Stored.{IsMoment}
use Rattle.sheet_state.specs.Rows.{moment}
use Rattle.sheet_state.proofs.Back.{all_push, all_take, all_get, get_map}
use Rattle.sheet_state.proofs.state.State.undo_to.Goals as goal

left : (c : goal.After-undo_to) → map moment c.undo_to.new.self.earlier ≡ take c.args.mark.place c.args.self.now.earlier
left c =
    ap (map moment) c.undo_to.ensures.earlier
    ∙ sym (take-map moment c.args.mark.place c.self.inside.tables.earlier)
    ∙ ap (λ v. take c.args.mark.place v.earlier) c.self.view_is

pub returns-clause-earlier : goal.returns-clause-earlier
returns-clause-earlier c = left c

pub returns-clause-kept : goal.returns-clause-kept
returns-clause-kept c = λ nodes kept.
    let all = all_push (IsMoment nodes) c.args.self.now.earlier c.args.self.now.present kept.earlier kept.present in
    record {
      present = all_get (IsMoment nodes) (c.args.self.now.earlier ++ c.args.self.now.present ∷ []) c.args.mark.place (moment c.undo_to.new.self.present) all
          (subst (λ v. slice_get (v.earlier ++ v.present ∷ []) c.args.mark.place ≡ Some (moment c.undo_to.new.self.present)) c.self.view_is
          (ap (λ l. slice_get l c.args.mark.place) (sym (map-append moment c.self.inside.tables.earlier (c.self.inside.tables.present ∷ [])))
          ∙ get_map moment (c.self.inside.tables.earlier ++ c.self.inside.tables.present ∷ []) c.args.mark.place c.undo_to.new.self.present
          c.undo_to.ensures.present));
      earlier = subst (AllByRecursion (IsMoment nodes)) (sym (left c)) (all_take (IsMoment nodes) c.args.self.now.earlier c.args.mark.place kept.earlier);
    }
