-- The first touched cell that is unfilled is the first of all.
use Rattle.std.proofs.Common.{◌≡◌, sym, ap, ◌∙◌, Bool, true, false, List, ◌∷◌, length, Some}
use Rattle.std.specs.Prelude.{◌==◌, not, filter, find, if◌then◌else◌}
use Rattle.std.specs.Cmp.Derive.{both_true as both_are}
use Rattle.sheet_values.specs.Sorted.{IsRising, contains}
use Rattle.sheet_values.proofs.Merging.{filter_rising}
use Rattle.sheet_columns.specs.Cells.{Cell}
use Rattle.sheet_meaning.specs.WellFormed.{one_cells, unfilled, IsWellFormed}
use Rattle.sheet_meaning.specs.Workbook.{set_in}
use Rattle.sheet_meaning.specs.declared.workbook.Workbook.{Workbook}
use Rattle.sheet_meaning.proofs.Cells.{has_in, in_has}
use Rattle.sheet_procs_touched.specs.Touched.{cell_cmp, is_open, Covers}
use Rattle.sheet_procs_touched.proofs.Covering.{open_is}
use Rattle.sheet_procs_touched.proofs.OneCells.{all_in_order}
use Rattle.sheet_procs_touched.proofs.Rising.{cell_total, both_ways, from_has, to_has, same_rising, head, find_head, filter_in, in_filter}

module _ (w : Workbook) (formed : IsWellFormed w) (cells : List Cell) (rising : IsRising cell_cmp cells) (covers : Covers w cells) where
  abbrev lacks : Cell → Bool
  lacks x = not (length (set_in w.state.cells x.0 x.1) == 1)

  same_cells : filter lacks (one_cells w) ≡ filter (is_open w) cells
  same_cells =
      same_rising (filter lacks (one_cells w)) (filter (is_open w) cells)
      (filter_rising cell_cmp cell_total lacks (one_cells w) (all_in_order w.schema w.state.objects formed.rising))
      (filter_rising cell_cmp cell_total (is_open w) cells rising)
      (λ x. both_ways _ _ (there x) (back x))
    where
      there : (x : Cell) → contains cell_cmp x (filter lacks (one_cells w)) ≡ true → contains cell_cmp x (filter (is_open w) cells) ≡ true
      there x h =
          let f = filter_in lacks (one_cells w) x (from_has x (filter lacks (one_cells w)) h) in
          let here : is_open w x ≡ true = both_are (in_has (one_cells w) x f.0) f.1 in
          to_has x (filter (is_open w) cells) (in_filter (is_open w) cells x (from_has x cells (covers x here)) here)

      back : (x : Cell) → contains cell_cmp x (filter (is_open w) cells) ≡ true → contains cell_cmp x (filter lacks (one_cells w)) ≡ true
      back x h =
          let f = filter_in (is_open w) cells x (from_has x (filter (is_open w) cells) h) in
          let o = open_is w x f.1 in
          to_has x (filter lacks (one_cells w)) (in_filter lacks (one_cells w) x (has_in (one_cells w) x o.0) o.1)

  pub first_found : find (is_open w) cells ≡ unfilled w
  first_found = find_head (is_open w) cells ∙ ap head (sym same_cells) ∙ sym (find_head lacks (one_cells w))

-- the first of some, one after another
pub found_here : (w : Workbook) (x : Cell) (xs : List Cell) → is_open w x ≡ true → find (is_open w) (x ∷ xs) ≡ Some x
found_here w x xs e = ap (λ b. if b then Some x else find (is_open w) xs) e

pub found_later : (w : Workbook) (x : Cell) (xs : List Cell) → is_open w x ≡ false → find (is_open w) (x ∷ xs) ≡ find (is_open w) xs
found_later w x xs e = ap (λ b. if b then Some x else find (is_open w) xs) e
