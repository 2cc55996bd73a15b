-- The state columns under an object column, one by one.
use Rattle.std.proofs.Common.{◌≡◌, refl, sym, ap, ◌∙◌, ℕ, zero, suc, ◌+◌, ◌<◌, true, false, List, [], ◌∷◌, ◌++◌, length, drop, arith}
use Rattle.std.specs.Prelude.{map, filter, not, Option, Some, None, slice_get, option_and_then, option_map, if◌then◌else◌}
use Rattle.std.specs.List.{filter_map, cons_option, enumerate_from}
use Rattle.std.specs.Option.{option_to_list}
use Rattle.std.proofs.lemmas.List.{append_assoc}
use Rattle.sheet_columns.specs.declared.tree.Node.{Node}
use Rattle.sheet_columns.specs.Tree.{is_number}
use Rattle.sheet_meaning.specs.WellFormed as meant
use Rattle.plain_procedures.specs.declared.changes.StateColumn.{StateColumn}
use Rattle.sheet_meaning.specs.Changes.{has_number, family, without, without_object}
use Rattle.sheet_meaning.specs.declared.workbook.Schema.{Schema}
use Rattle.sheet_meaning.specs.declared.workbook.State.{State}
use Rattle.sheet_meaning.specs.declared.workbook.LiveObject.{LiveObject}
use Rattle.sheet_meaning.specs.declared.workbook.StoredCell.{StoredCell}
use Rattle.sheet_meaning.specs.Start.{start_state}
use Rattle.plain_procedures.specs.Columns.{brief, column_at, columns_under, new_cell, cells_left, made_with}
use Rattle.plain_meaning.proofs.Loops.{map_map}

abbrev pub state_column : ℕ → ℕ × Node → Option meant.StateColumn
state_column c x = if is_number c x.1.above then meant.as_state x.0 x.1.column else None

-- the state columns among those from a number on
abbrev pub columns_from : List Node → ℕ → ℕ → List Node → List StateColumn
columns_from nodes c k rest = map brief (filter_map (state_column c) (enumerate_from k rest))

pub node_at : (nodes : List Node) (k : ℕ) → k < length nodes → (n : Node) × (slice_get nodes k ≡ Some n) × (drop k nodes ≡ n ∷ drop (k + 1) nodes)
node_at [] k lt = absurd (omega (arith, lt))
node_at (n ∷ nodes) zero lt = (n, refl, refl)
node_at (n ∷ nodes) (suc k) lt =
    let rest = node_at nodes k (omega (arith, lt)) in
    let one : suc k + 1 ≡ suc (k + 1) = omega arith in
    (rest.0, rest.1, rest.2 ∙ ap (λ j. rest.0 ∷ drop j (n ∷ nodes)) (sym one))

one_listed : (o : Option meant.StateColumn) (rest : List meant.StateColumn) → map brief (cons_option o rest) ≡ map brief (option_to_list o) ++ map brief rest
one_listed None rest = refl
one_listed (Some k) rest = refl

one_column : (nodes : List Node) (c k : ℕ) (n : Node) → slice_get nodes k ≡ Some n → column_at nodes c k ≡ map brief (option_to_list (state_column c (k, n)))
one_column nodes c k n at =
    ap (λ o. if is_number c (option_and_then (λ (m : Node). m.above) o)
    then map brief (option_to_list (option_and_then (meant.as_state k) (option_map (λ (m : Node). m.column) o))) else []) at
    ∙ elim (is_number c n.above)
    as (λ b. (if b then map brief (option_to_list (meant.as_state k n.column)) else []) ≡ map brief
    (option_to_list (if b then meant.as_state k n.column else None))) [ true ↦ refl | false ↦ refl ]

pub columns_step : (nodes : List Node) (c k : ℕ) (ys zs whole : List StateColumn) → k < length nodes → ys ++ columns_from nodes c k (drop k nodes) ≡ whole →
    zs ≡ ys ++ column_at nodes c k → zs ++ columns_from nodes c (k + 1) (drop (k + 1) nodes) ≡ whole
columns_step nodes c k ys zs whole lt so_far more =
    let here = node_at nodes k lt in
    let rest = columns_from nodes c (k + 1) (drop (k + 1) nodes) in
    ap (λ l. l ++ rest) (more ∙ ap (λ l. ys ++ l) (one_column nodes c k here.0 here.1))
    ∙ append_assoc ys (map brief (option_to_list (state_column c (k, here.0)))) rest
    ∙ ap (λ l. ys ++ l) (sym (one_listed (state_column c (k, here.0)) (filter_map (state_column c) (enumerate_from (k + 1) (drop (k + 1) nodes)))))
    ∙ ap (λ l. ys ++ columns_from nodes c k l) (sym here.2)
    ∙ so_far

-- a state with a new object
pub object_made : (schema : Schema) (s : State) (c parent next : ℕ) (objects copy all : List LiveObject) (cells old stored : List StoredCell)
    (under columns : List StateColumn) → under ≡ columns → columns ≡ columns_under schema.columns c → stored ≡ s.cells → old ≡ stored →
    cells ≡ old ++ map (new_cell s.next) under → all ≡ s.objects → copy ≡ all →
    objects ≡ copy ++ record { number = s.next; column = c; parent = Some parent } ∷ [] →
    record { objects = objects; cells = cells; next = next } ≡ made_with schema s c parent next
object_made schema s c parent next objects copy all cells old stored under columns same these sc os made so copied new =
    ap (λ (l : List LiveObject). let t : State = record { objects = l; cells = cells; next = next } in t)
    (new ∙ ap (λ (l : List LiveObject). l ++ record { number = s.next; column = c; parent = Some parent } ∷ []) (copied ∙ so))
    ∙ ap (λ (l : List StoredCell). let t : State = record {
      objects = s.objects ++ record { number = s.next; column = c; parent = Some parent } ∷ [];
      cells = l;
      next = next;
    } in t)
    (made
    ∙ ap (λ l. l ++ map (new_cell s.next) under) (os ∙ sc)
    ∙ ap (λ l. s.cells ++ map (new_cell s.next) l) (same ∙ these)
    ∙ ap (λ l. s.cells ++ l) (map_map (new_cell s.next) brief (meant.state_columns schema c)))

abbrev the_root : LiveObject
the_root = record { number = 0; column = 0; parent = None }

-- the state at the start
pub root_alone : (schema : Schema) (objects none : List LiveObject) (cells empty : List StoredCell) (under columns : List StateColumn) → under ≡ columns →
    columns ≡ columns_under schema.columns 0 → empty ≡ [] → cells ≡ empty ++ map (new_cell 0) under → none ≡ [] → objects ≡ none ++ the_root ∷ [] →
    record { objects = objects; cells = cells; next = 1 } ≡ start_state schema
root_alone schema objects none cells empty under columns same these no_cells made no_objects new =
    ap (λ (l : List LiveObject). let t : State = record { objects = l; cells = cells; next = 1 } in
    t) (new ∙ ap (λ (l : List LiveObject). l ++ the_root ∷ []) no_objects)
    ∙ ap (λ (l : List StoredCell). let t : State = record { objects = the_root ∷ []; cells = l; next = 1 } in t)
    (made
    ∙ ap (λ l. l ++ map (new_cell 0) under) no_cells
    ∙ ap (map (new_cell 0)) (same ∙ these)
    ∙ map_map (new_cell 0) brief (meant.state_columns schema 0))

-- a state without an object and those below it
pub object_gone : (s : State) (o : ℕ) (ns gone : List ℕ) (objects all : List LiveObject) (cells stored : List StoredCell) → ns ≡ gone → all ≡ s.objects →
    gone ≡ family all o → objects ≡ filter (λ x. not (has_number ns x.number)) all → stored ≡ s.cells → cells ≡ cells_left ns stored →
    record { objects = objects; cells = cells; next = s.next } ≡ without_object s o
object_gone s o ns gone objects all cells stored same so these left sc kept =
    let is : ns ≡ family s.objects o = same ∙ these ∙ ap (λ l. family l o) so in
    ap (λ (l : List LiveObject). let t : State = record { objects = l; cells = cells; next = s.next } in t)
    (left ∙ ap (filter (λ x. not (has_number ns x.number))) so)
    ∙ ap (λ (l : List StoredCell). let t : State = record { objects = filter (λ x. not (has_number ns x.number)) s.objects; cells = l; next = s.next } in t)
    (kept ∙ ap (cells_left ns) sc)
    ∙ ap (λ ms. without s ms) is
