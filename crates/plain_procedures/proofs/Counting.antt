-- What is counted is what the definitions count.
use Rattle.std.proofs.Common.{◌≡◌, refl, sym, ap, ◌∙◌, ℕ, ◌+◌, true, false, List, [], ◌∷◌, length}
use Rattle.std.specs.Prelude.{map, filter, find, not, ◌==◌, cond}
use Rattle.std.specs.List.{flat_map}
use Rattle.std.proofs.Math.Path.{fun_ext}
use Rattle.sheet_meaning.specs.declared.workbook.LiveObject.{LiveObject}
use Rattle.sheet_meaning.specs.declared.workbook.Workbook.{Workbook}
use Rattle.sheet_meaning.specs.Workbook.{set_in}
use Rattle.sheet_meaning.specs.WellFormed as meant
use Rattle.plain_procedures.specs.declared.changes.StateColumn.{StateColumn}
use Rattle.plain_procedures.specs.Columns.{brief}
use Rattle.plain_procedures.specs.Counts.{all_pairs, one_pairs}
use Rattle.std.proofs.Common.{◌<◌, get_or, take}
use Rattle.std.proofs.lemmas.List.Sums.{fold_more}
use Rattle.sheet_meaning.specs.Formula.{World}
use Rattle.sheet_meaning.specs.declared.workbook.StoredCell.{StoredCell}
use Rattle.plain_meaning.specs.declared.rounds.CellRun.{CellRun}
use Rattle.plain_meaning.specs.Tables.{cell_runs}
use Rattle.plain_meaning.proofs.TableLemmas.{as_many}
use Rattle.plain_meaning.proofs.Loops.{map_map}

filter_brief : (xs : List meant.StateColumn) → filter (λ (k : StateColumn). k.one) (map brief xs) ≡ map brief (filter (λ (k : meant.StateColumn). k.one) xs)
filter_brief [] = refl
filter_brief (x ∷ xs) =
    elim x.one as (λ b. cond b (brief x ∷ filter (λ (k : StateColumn). k.one) (map brief xs)) (filter (λ (k : StateColumn). k.one) (map brief xs)) ≡ map brief
    (cond b (x ∷ filter (λ (k : meant.StateColumn). k.one) xs) (filter (λ (k : meant.StateColumn). k.one) xs))) [
      | true ↦ ap (λ l. brief x ∷ l) (filter_brief xs)
      | false ↦ filter_brief xs
    ]

module _ (w : Workbook) where
  pub state_cells_same : flat_map (all_pairs w.schema) w.state.objects ≡ meant.state_cells w
  state_cells_same =
      ap (λ f. flat_map f w.state.objects)
      (fun_ext (λ (x : LiveObject). map_map (λ (k : StateColumn). (x.number, k.number)) brief (meant.state_columns w.schema x.column)))

  pub one_cells_same : flat_map (one_pairs w.schema) w.state.objects ≡ meant.one_cells w
  one_cells_same =
      ap (λ f. flat_map f w.state.objects)
      (fun_ext (λ (x : LiveObject).
      ap (map (λ (k : StateColumn). (x.number, k.number))) (filter_brief (meant.state_columns w.schema x.column))
      ∙ map_map (λ (k : StateColumn). (x.number, k.number)) brief (filter (λ (k : meant.StateColumn). k.one) (meant.state_columns w.schema x.column))))

  pub found_same : (cells : List StoredCell) (objects : List LiveObject) (read among : List (ℕ × ℕ)) → objects ≡ w.state.objects →
      among ≡ flat_map (one_pairs w.schema) objects → read ≡ among → cells ≡ w.state.cells →
      find (λ (x : ℕ × ℕ). not (length (set_in cells x.0 x.1) == 1)) read ≡ meant.unfilled w
  found_same cells objects read among os these same cs =
      ap (λ l. find (λ (x : ℕ × ℕ). not (length (set_in cells x.0 x.1) == 1)) l) (same ∙ these ∙ ap (λ l. flat_map (one_pairs w.schema) l) os ∙ one_cells_same)
      ∙ ap (λ l. find (λ (x : ℕ × ℕ). not (length (set_in l x.0 x.1) == 1)) (meant.one_cells w)) cs

  pub counts_same : (u : World) (objects : List LiveObject) (cells read : List (ℕ × ℕ)) (runs ran : List CellRun) → objects ≡ w.state.objects →
      cells ≡ flat_map (all_pairs w.schema) objects → read ≡ cells → runs ≡ cell_runs w u → ran ≡ runs → length read + length ran ≡ meant.cell_count w
  counts_same u objects cells read runs ran os these same rs again =
      ap (λ l. length l + length ran) (same ∙ these ∙ ap (λ l. flat_map (all_pairs w.schema) l) os ∙ state_cells_same)
      ∙ ap (λ n. length (meant.state_cells w) + n) (ap length again ∙ as_many w u runs rs)

-- one more cell's values
pub values_more : (cells : List StoredCell) (i total count : ℕ) (x : StoredCell) → i < length cells → x ≡ get_or cells i x →
    total ≡ meant.stored_values (take i cells) → count ≡ length x.set → total + count ≡ meant.stored_values (take (i + 1) cells)
values_more cells i total count x lt e so_far is =
    ap (λ n. total + n) is
    ∙ ap (λ (y : StoredCell). total + length y.set) e
    ∙ ap (λ n. n + length (get_or cells i x).set) so_far
    ∙ sym (fold_more (λ n (y : StoredCell). n + length y.set) 0 cells i x lt)
