-- Edits of rows, each with what takes it back.
use Rattle.std.specs.Prelude.{ℕ, ◌-◌, ◌<◌, List, [], ◌∷◌, ◌++◌, length, take, slice_set}
use Rattle.sheet_state_rows.specs.Rows.{Table, with_objects, with_cells, with_extents, with_counters, set_row, parted}
use Rattle.sheet_state_rows.specs.declared.edit.Edit.{Edit}
use Rattle.sheet_state_rows.specs.declared.edit.Edit.TheVariants.{Begun, ObjectAdded, ObjectReplaced, CellAdded, CellReplaced, ExtentAdded, ExtentReplaced, ExtentJoined}

-- all but the last
abbrev pub front : {A : Type 0} → List A → List A
front xs = take (length xs - 1) xs

-- the table before an edit, from the one after it
abbrev pub undone : Edit → Table → Table
undone (Begun n) t = with_counters t n
undone ObjectAdded t = with_objects t (front t.objects)
undone (ObjectReplaced k row) t = with_objects t (slice_set t.objects k row)
undone CellAdded t = with_cells t (front t.cells)
undone (CellReplaced k row) t = with_cells t (slice_set t.cells k row)
undone ExtentAdded t = with_extents t (front t.extents)
undone (ExtentReplaced k row) t = with_extents t (slice_set t.extents k row)
undone (ExtentJoined k n) t = with_extents t (slice_set t.extents k (parted n (set_row t.extents k)))

-- the edit can be taken back
abbrev pub CanUndo : Edit → Table → Type 0
CanUndo (Begun n) t = Unit {0}
CanUndo ObjectAdded t = 0 < length t.objects
CanUndo (ObjectReplaced k row) t = k < length t.objects
CanUndo CellAdded t = 0 < length t.cells
CanUndo (CellReplaced k row) t = k < length t.cells
CanUndo ExtentAdded t = 0 < length t.extents
CanUndo (ExtentReplaced k row) t = k < length t.extents
CanUndo (ExtentJoined k n) t = k < length t.extents

-- all edits can be taken back, the latest first
abbrev pub CanUndoAll : List Edit → Table → Type 0
CanUndoAll [] t = Unit {0}
CanUndoAll (e ∷ older) t = CanUndo e t × CanUndoAll older (undone e t)

-- how many changes begin with an edit
abbrev pub begins : Edit → ℕ
begins (Begun n) = 1
begins ObjectAdded = 0
begins (ObjectReplaced k row) = 0
begins CellAdded = 0
begins (CellReplaced k row) = 0
begins ExtentAdded = 0
begins (ExtentReplaced k row) = 0
begins (ExtentJoined k n) = 0

-- where a change begins, its table stands behind the earlier ones
abbrev pub marked : Edit → Table → List Table → List Table
marked (Begun n) t ts = ts ++ t ∷ []
marked ObjectAdded t ts = ts
marked (ObjectReplaced k row) t ts = ts
marked CellAdded t ts = ts
marked (CellReplaced k row) t ts = ts
marked ExtentAdded t ts = ts
marked (ExtentReplaced k row) t ts = ts
marked (ExtentJoined k n) t ts = ts

-- the tables where changes began, the earliest first, from the edits, the latest first
abbrev pub past : List Edit → Table → List Table
past [] t = []
past (e ∷ older) t = marked e (undone e t) (past older (undone e t))
