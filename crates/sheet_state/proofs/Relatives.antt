-- What stands under an object has a greater number.
use Rattle.std.proofs.Common.{◌≡◌, subst, ℕ, ◌<◌, List, arith, Some}
use Rattle.sheet_columns.specs.declared.tree.Node.{Node}
use Rattle.sheet_state_rows.specs.Rows.{Table}
use Rattle.sheet_meaning.specs.WellFormed.{IsUnder}
use Rattle.sheet_meaning.specs.declared.workbook.LiveObject.{LiveObject}
use Rattle.sheet_meaning.proofs.Members.{IsIn}
use Rattle.sheet_state_references.specs.Below.{Descends}
use Rattle.sheet_state.specs.Stored.{book, IsMoment}
use Rattle.sheet_state.specs.Rows.{objects_in, state_of, moment, IsSound}
use Rattle.sheet_state.proofs.Underneath.{all_in, up_child}

module _ (nodes : List Node) (t : Table) (sound : IsSound t) (m : IsMoment nodes (moment t)) where
  abbrev xs : List LiveObject
  xs = objects_in t.objects

  pub lower : (x : LiveObject) (p : ℕ) → IsIn x xs → x.parent ≡ Some p → p < x.number
  lower x p i e = (subst (IsUnder (book nodes (state_of t)) x) e
      (all_in (λ (y : LiveObject). IsUnder (book nodes (state_of t)) y y.parent) xs x m.well_formed.under i)).0

  -- what stands under an object has a greater number
  pub descends : Descends t.extents
  descends p n u =
      let k = up_child t sound p n u in
      let less = lower k.object p k.is_there k.parent in
      let same = k.number in
      omega arith
