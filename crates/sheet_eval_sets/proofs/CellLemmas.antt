-- Cells of a list, one after another.
use Rattle.std.proofs.Common.{◌≡◌, sym, ap, ◌∙◌, ℕ, ◌+◌, List, drop, Some}
use Rattle.std.specs.Prelude.{slice_get}
use Rattle.sheet_columns.specs.Cells.{Cell, with_cell, with_cells}
use Rattle.sheet_eval_sets.proofs.Cutting.{cut_at}

-- the cells of a list, from a place on
pub cells_more : (all cells : List Cell) (k : ℕ) {whole next : List Cell} {x : Cell} → slice_get cells k ≡ Some x → with_cells all (drop k cells) ≡ whole
    → next ≡ with_cell all x → with_cells next (drop (k + 1) cells) ≡ whole
cells_more all cells k {whole} {next} {x} at h e =
    ap (λ a. with_cells a (drop (k + 1) cells)) e ∙ ap (with_cells all) (sym (cut_at cells k x at)) ∙ h
