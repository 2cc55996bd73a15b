-- What is reached from uses, worked out from the runs of the formula cells.
use Rattle.std.proofs.Common.{◌≡◌, refl, ap, ◌∙◌, ℕ, zero, suc, ◌+◌, true, false, List, [], ◌∷◌, ◌++◌, length, arith}
use Rattle.std.specs.Prelude.{map, ◌==◌, ◌&&◌, if◌then◌else◌, Some}
use Rattle.std.specs.List.{flat_map, filter_map}
use Rattle.std.proofs.Math.Path.{fun_ext}
use Rattle.sheet_columns.specs.declared.item.Item.TheVariants.{Live}
use Rattle.sheet_meaning.specs.declared.run.Use.{Use}
use Rattle.sheet_meaning.specs.declared.workbook.Workbook.{Workbook}
use Rattle.sheet_meaning.specs.Workbook.{FormulaCell, formula_cells}
use Rattle.sheet_meaning.specs.Rounds.{item_in, cell_in, rounds, run_cell, settled_world}
use Rattle.sheet_meaning.specs.Support.{Cell, with_cells, in_order, cell_at, uses_of, uses_at, cells_read, items_read, spread, reached, support}
use Rattle.plain_meaning.specs.declared.rounds.CellRun.{CellRun}
use Rattle.plain_meaning.specs.Tables.{cell_run, settled_runs}
use Rattle.plain_meaning.specs.Reached.{uses_in, cells_in, items_in, spread_by, reached_by, support_by}
use Rattle.plain_meaning.proofs.TableLemmas.{as_many}

-- one more time
pub spread_more : (reads : Cell → List Cell) (k : ℕ) (start cells read next : List Cell) → cells ≡ spread_by reads k start → read ≡ flat_map reads cells →
    next ≡ with_cells cells read → next ≡ spread_by reads (k + 1) start
spread_more reads k start cells read next so_far more with =
    let one : suc k ≡ k + 1 = omega arith in
    with
    ∙ ap (with_cells cells) more
    ∙ ap (λ (l : List Cell). with_cells l (flat_map reads l)) so_far
    ∙ ap (λ j. spread_by reads j start) one

module _ (w : Workbook) where
  uses_found : (fs : List FormulaCell) (x : Cell) → uses_in (map (cell_run (settled_world w)) fs) x ≡ uses_of w (cell_at fs x)
  uses_found [] x = refl
  uses_found (f ∷ fs) x =
      elim (f.object == x.0 && f.column == x.1)
      as (λ b. (if b then (run_cell (settled_world w) f).uses else uses_in (map (cell_run (settled_world w)) fs) x) ≡ uses_of w
      (if b then Some f else cell_at fs x)) [
        | true ↦ refl
        | false ↦ uses_found fs x
      ]

  module _ (runs : List CellRun) (e : runs ≡ settled_runs w) where
    uses_same : (x : Cell) → uses_in runs x ≡ uses_at w x
    uses_same x = ap (λ r. uses_in r x) e ∙ uses_found (formula_cells w) x

    cells_same : cells_in runs ≡ cells_read w
    cells_same = fun_ext (λ x. ap (filter_map cell_in) (uses_same x))

    items_same : items_in runs ≡ items_read w
    items_same = fun_ext (λ x. ap (λ us. Live x.0 ∷ filter_map item_in us) (uses_same x))

    spread_same : (k : ℕ) (cells : List Cell) → spread_by (cells_read w) k cells ≡ spread w k cells
    spread_same zero cells = refl
    spread_same (suc k) cells = ap (λ (l : List Cell). with_cells l (flat_map (cells_read w) l)) (spread_same k cells)

    pub reached_same : (us : List Use) → reached_by runs us ≡ reached w us
    reached_same us =
        let start = with_cells [] (filter_map cell_in us) in
        let many : length runs + 1 ≡ suc (rounds w) = omega (arith, as_many w (settled_world w) runs e) in
        ap (λ reads. spread_by reads (length runs + 1) start) cells_same
        ∙ ap (λ k. spread_by (cells_read w) k start) many
        ∙ spread_same (suc (rounds w)) start

    pub support_same : (us : List Use) → support_by runs us ≡ support w us
    support_same us =
        ap (λ items. in_order (filter_map item_in us ++ flat_map items (reached_by runs us))) items_same
        ∙ ap (λ cells. in_order (filter_map item_in us ++ flat_map (items_read w) cells)) (reached_same us)
