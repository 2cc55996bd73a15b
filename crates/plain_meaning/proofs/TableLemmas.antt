-- Tables, and what they tell.
use Rattle.std.proofs.Common.{◌≡◌, refl, sym, ap, ◌∙◌, ℕ, suc, ◌+◌, List, [], ◌∷◌, length, arith}
use Rattle.std.specs.Prelude.{map, ◌==◌, ◌&&◌, if◌then◌else◌}
use Rattle.std.proofs.Math.Path.{fun_ext}
use Rattle.sheet_values.specs.declared.value.Value.{Value}
use Rattle.sheet_columns.specs.declared.fault.Place.{Place}
use Rattle.sheet_columns.specs.declared.formula.Core.{Core}
use Rattle.sheet_meaning.specs.declared.workbook.Workbook.{Workbook}
use Rattle.sheet_meaning.specs.Run.{Outcome, none}
use Rattle.sheet_meaning.specs.Formula.{World, Variables, run}
use Rattle.sheet_meaning.specs.Workbook.{FormulaCell, formula_cells, world}
use Rattle.sheet_meaning.specs.Rounds.{Table, outcome_in, world_at, table, rounds, run_cell, settled_world}
use Rattle.plain_lists.specs.declared.lookup.WorkedCell.{WorkedCell}
use Rattle.plain_lists.specs.Told.{told, scene}
use Rattle.std.specs.Prelude.{None, option_and_then}
use Rattle.sheet_columns.specs.declared.tree.Node.{Node}
use Rattle.sheet_columns.specs.Tree.{IsTree, above_of}
use Rattle.plain_meaning.specs.declared.rounds.CellRun.{CellRun}
use Rattle.plain_meaning.specs.Tables.{beside, cells_with, settled_cells, cell_run, cell_runs, worked, unworked}
use Rattle.plain_meaning.proofs.Loops.{map_map}

told_beside : (fs : List FormulaCell) (t : Table) (o c : ℕ) → told (beside fs t) o c ≡ outcome_in fs t o c
told_beside [] t o c = refl
told_beside (f ∷ fs) [] o c = refl
told_beside (f ∷ fs) (x ∷ t) o c = ap (λ r. if f.object == o && f.column == c then x else r) (told_beside fs t o c)

-- the cells beside a table tell the table
pub same_world : (w : Workbook) (t : Table) → scene w.state (cells_with w t) ≡ world_at w t
same_world w t = ap (world w) (fun_ext (λ o. fun_ext (λ c. told_beside (formula_cells w) t o c)))

beside_map : (g : FormulaCell → Outcome (List Value)) (fs : List FormulaCell) →
    map (λ (f : FormulaCell). record { object = f.object; column = f.column; outcome = g f }) fs ≡ beside fs (map g fs)
beside_map g [] = refl
beside_map g (f ∷ fs) = ap (λ (l : List WorkedCell). record { object = f.object; column = f.column; outcome = g f } ∷ l) (beside_map g fs)

-- the first table, and each further one
pub first_cells : (w : Workbook) (u : World) (runs : List CellRun) → runs ≡ cell_runs w u → map unworked runs ≡ cells_with w (table w 0)
first_cells w u runs e = ap (map unworked) e ∙ map_map unworked (cell_run u) (formula_cells w) ∙ beside_map (λ f. none) (formula_cells w)

pub more_cells : (w : Workbook) (k : ℕ) (cells : List WorkedCell) (runs : List CellRun) → cells ≡ cells_with w (table w k) →
    runs ≡ cell_runs w (scene w.state cells) → map worked runs ≡ cells_with w (table w (k + 1))
more_cells w k cells runs so_far e =
    let one : suc k ≡ k + 1 = omega arith in
    ap (map worked) (e ∙ ap (cell_runs w) (ap (scene w.state) so_far ∙ same_world w (table w k)))
    ∙ map_map worked (cell_run (world_at w (table w k))) (formula_cells w)
    ∙ beside_map (λ f. (run_cell (world_at w (table w k)) f).outcome) (formula_cells w)
    ∙ ap (λ j. cells_with w (table w j)) one

length_map : {A B : Type 0} (f : A → B) (xs : List A) → length (map f xs) ≡ length xs
length_map f [] = refl
length_map f (x ∷ xs) = ap suc (length_map f xs)

-- there are as many cells as rounds
pub as_many : (w : Workbook) (u : World) (runs : List CellRun) → runs ≡ cell_runs w u → length runs ≡ rounds w
as_many w u runs e = ap length e ∙ length_map (cell_run u) (formula_cells w)

-- a formula over the cells' meanings
pub settled_value : (w : Workbook) (cells : List WorkedCell) (e : Core) (p : Place) (v : Variables) → cells ≡ settled_cells w →
    run e (scene w.state cells) p v ≡ run e (settled_world w) p v
settled_value w cells e p v same = ap (λ u. run e u p v) (ap (scene w.state) same ∙ same_world w (table w (rounds w)))

-- the root stands under no column
pub root_above : (nodes : List Node) (c : ℕ) → IsTree nodes → c ≡ 0 → None ≡ above_of nodes c
root_above nodes c tree e = sym (ap (above_of nodes) e ∙ ap (option_and_then (λ (n : Node). n.above)) tree.first)

-- the formula cells, worked out once more over their meanings
pub settled_again : (w : Workbook) (cells read : List WorkedCell) → cells ≡ settled_cells w → read ≡ cells →
    cell_runs w (scene w.state read) ≡ cell_runs w (settled_world w)
settled_again w cells read e same = ap (cell_runs w) (ap (scene w.state) (same ∙ e) ∙ same_world w (table w (rounds w)))
