use Rattle.std.proofs.Common.{◌≡◌, sym, ◌∙◌, subst, rules}
use Rattle.std.specs.Prelude.{OnOk}
use Rattle.sheet_values.specs.Sorted.{IsRising}
use Rattle.sheet_values.proofs.Merging.{insert_rising}
use Rattle.sheet_columns.specs.Cells.{Cell, is_cell}
use Rattle.sheet_procs_touched.specs.Touched.{cell_cmp, Adds}
use Rattle.sheet_procs_touched.proofs.Adding.{one_added}
use Rattle.sheet_procs_touched.proofs.Rising.{cell_total, keys_insert}
use Rattle.sheet_procs_touched.proofs.touched.Touched.add.Goals as goal
use Rattle.sheet_procs_touched.proofs.touched.Touched.add.Goals.{in-Ok, in-Err}

pub invariant_of-self : goal.invariant_of-self
invariant_of-self c =
    elim c.match-insert.branch [
      | in-Ok w ↦
          subst (IsRising cell_cmp) (sym (w.in-Ok.ensures.keys ∙ keys_insert (c.args.object, c.args.column) c.self.inside.cells.keys))
          (insert_rising cell_cmp cell_total (c.args.object, c.args.column) c.self.inside.cells.keys c.self.invariant)
      | in-Err w ↦ let same : c.insert.new.self.keys ≡ c.self.inside.cells.keys = search rules in subst (IsRising cell_cmp) (sym same) c.self.invariant
    ]

pub returns-clause-ok : goal.returns-clause-ok
returns-clause-ok c =
    let x : Cell = (c.args.object, c.args.column) in
    elim c.match-insert.branch [
      | in-Ok w ↦
          subst (λ r. OnOk r (Adds (is_cell x) c.args.self.now c.insert.new.self.keys)) (sym w.result-is)
          (subst (λ l. Adds (is_cell x) l c.insert.new.self.keys) c.self.view_is
          (one_added x c.self.inside.cells.keys c.insert.new.self.keys w.in-Ok.ensures.keys))
      | in-Err w ↦ subst (λ r. OnOk r (Adds (is_cell x) c.args.self.now c.insert.new.self.keys)) (sym w.result-is) tt
    ]
