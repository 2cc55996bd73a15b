-- The way back from edits.
use Rattle.std.proofs.Common.{◌≡◌, refl, sym, ap, ◌∙◌, subst, ℕ, ◌+◌, ◌-◌, ◌<◌, ◌≤◌, zero, suc, List, [], ◌∷◌, ◌++◌, length, take, get_or, arith, Some, false}
use Rattle.std.specs.Prelude.{slice_set, slice_get, reverse}
use Rattle.std.proofs.lemmas.List.{set-set, set-get_or, take-take, take_all, length_push, take_at, reverse-append}
use Rattle.sheet_values.specs.Order.{value_cmp}
use Rattle.sheet_values.specs.OrderLaws.{value_total}
use Rattle.sheet_values.specs.Sets.{contains}
use Rattle.sheet_values.specs.declared.value.Value.{Value}
use Rattle.sheet_values.specs.declared.value.Value.TheVariants.{Object}
use Rattle.sheet_values.proofs.Removing.{insert_removed}
use Rattle.sheet_state_rows.specs.Rows.{Table, with_counters, set_row, joined, parted}
use Rattle.sheet_state_rows.specs.declared.row.SetRow.{SetRow}
use Rattle.sheet_state_rows.specs.Undoing.{undone, CanUndo, CanUndoAll, begins, marked, past}
use Rattle.sheet_state_rows.specs.declared.row.Counters.{Counters}
use Rattle.sheet_state_rows.specs.declared.edit.Edit.{Edit}
use Rattle.sheet_state_rows.specs.declared.edit.Edit.TheVariants.{Begun, ObjectAdded, ObjectReplaced, CellAdded, CellReplaced, ExtentAdded, ExtentReplaced}
use Rattle.sheet_state_rows.specs.declared.edit.Edit.TheVariants.{ExtentJoined}

-- what was replaced goes back to its place
pub set_back : {A : Type 0} (xs : List A) (k : ℕ) (x y : A) → k < length xs → x ≡ get_or xs k x → slice_set (slice_set xs k y) k x ≡ xs
set_back xs k x y lt e = set-set xs k y x ∙ ap (λ z. slice_set xs k z) e ∙ set-get_or xs k x

-- an object that joined is parted again
pub join_back : (xs : List SetRow) (k n : ℕ) → k < length xs → contains (Object n) (set_row xs k).set ≡ false →
    slice_set (slice_set xs k (joined n (set_row xs k))) k (parted n (set_row (slice_set xs k (joined n (set_row xs k))) k)) ≡ xs
join_back xs k n lt none =
    let r = set_row xs k in
    ap (λ (q : SetRow). slice_set (slice_set xs k (joined n r)) k (parted n q)) (set_there xs k (joined n r) lt)
    ∙ set-set xs k (joined n r) (parted n (joined n r))
    ∙ ap (λ (l : List Value). slice_set xs k (record r { set = l })) (insert_removed value_cmp value_total r.set (Object n) none)
    ∙ set-get_or xs k (record { object = 0; column = 0; live = false; set = [] })
  where
    set_there : (ys : List SetRow) (j : ℕ) (q : SetRow) → j < length ys → set_row (slice_set ys j q) j ≡ q
    set_there [] j q lt = absurd (omega arith)
    set_there (y ∷ ys) zero q lt = refl
    set_there (y ∷ ys) (suc j) q lt = set_there ys j q (omega arith)

-- counters are set back where a change began, so later ones don't matter
pub past_counters : (es : List Edit) (t : Table) (n : Counters) → past es (with_counters t n) ≡ past es t
past_counters [] t n = refl
past_counters (Begun m ∷ es) t n = refl
past_counters (ObjectAdded ∷ es) t n = past_counters es _ n
past_counters (ObjectReplaced k row ∷ es) t n = past_counters es _ n
past_counters (CellAdded ∷ es) t n = past_counters es _ n
past_counters (CellReplaced k row ∷ es) t n = past_counters es _ n
past_counters (ExtentAdded ∷ es) t n = past_counters es _ n
past_counters (ExtentReplaced k row ∷ es) t n = past_counters es _ n
past_counters (ExtentJoined k m ∷ es) t n = past_counters es _ n

pub undo_counters : (es : List Edit) (t : Table) (n : Counters) → CanUndoAll es t → CanUndoAll es (with_counters t n)
undo_counters [] t n h = tt
undo_counters (Begun m ∷ es) t n h = h
undo_counters (ObjectAdded ∷ es) t n h = (h.0, undo_counters es _ n h.1)
undo_counters (ObjectReplaced k row ∷ es) t n h = (h.0, undo_counters es _ n h.1)
undo_counters (CellAdded ∷ es) t n h = (h.0, undo_counters es _ n h.1)
undo_counters (CellReplaced k row ∷ es) t n h = (h.0, undo_counters es _ n h.1)
undo_counters (ExtentAdded ∷ es) t n h = (h.0, undo_counters es _ n h.1)
undo_counters (ExtentReplaced k row ∷ es) t n h = (h.0, undo_counters es _ n h.1)
undo_counters (ExtentJoined k m ∷ es) t n h = (h.0, undo_counters es _ n h.1)

pub marked_length : (e : Edit) (t : Table) (ts : List Table) → length (marked e t ts) ≡ length ts + begins e
marked_length (Begun n) t ts = length_push ts t
marked_length ObjectAdded t ts = omega arith
marked_length (ObjectReplaced k row) t ts = omega arith
marked_length CellAdded t ts = omega arith
marked_length (CellReplaced k row) t ts = omega arith
marked_length ExtentAdded t ts = omega arith
marked_length (ExtentReplaced k row) t ts = omega arith
marked_length (ExtentJoined k n) t ts = omega arith

one_at_most : (e : Edit) → begins e ≤ 1
one_at_most (Begun n) = omega arith
one_at_most ObjectAdded = omega arith
one_at_most (ObjectReplaced k row) = omega arith
one_at_most CellAdded = omega arith
one_at_most (CellReplaced k row) = omega arith
one_at_most ExtentAdded = omega arith
one_at_most (ExtentReplaced k row) = omega arith
one_at_most (ExtentJoined k n) = omega arith

-- there are no more changes than edits
pub past_length : (es : List Edit) (t : Table) → length (past es t) ≤ length es
past_length [] t = omega arith
past_length (e ∷ es) t =
    let long = marked_length e (undone e t) (past es (undone e t)) in
    let one = one_at_most e in
    let rest = past_length es (undone e t) in
    omega arith

pub get_last : {A : Type 0} (xs : List A) (x : A) → slice_get (xs ++ x ∷ []) (length xs) ≡ Some x
get_last [] x = refl
get_last (y ∷ xs) x = get_last xs x

pub get_old : {A : Type 0} (xs ys : List A) (k : ℕ) → k < length xs → slice_get (xs ++ ys) k ≡ slice_get xs k
get_old [] ys k lt = absurd (omega arith)
get_old (x ∷ xs) ys zero lt = refl
get_old (x ∷ xs) ys (suc k) lt = get_old xs ys k (omega arith)

get_take : {A : Type 0} (n : ℕ) (xs : List A) (k : ℕ) → k < n → slice_get (take n xs) k ≡ slice_get xs k
get_take zero xs k lt = absurd (omega arith)
get_take (suc n) [] k lt = refl
get_take (suc n) (x ∷ xs) zero lt = refl
get_take (suc n) (x ∷ xs) (suc k) lt = get_take n xs k (omega arith)

-- on the way back to a mark: what is left to undo, and, once the mark is reached, the table that stood there
pub record Going (ts : List Table) (t : Table) (mark : ℕ) (es : List Edit) (u : Table) (begun : ℕ) : Type 0 where
  pub can : CanUndoAll es u
  pub counted : begun ≡ length (past es u)
  pub left : past es u ≡ take begun ts
  pub within : begun ≤ length ts
  pub ahead : mark ≤ begun
  pub there : begun ≡ mark → slice_get (ts ++ t ∷ []) mark ≡ Some u

pub starts : (mark : ℕ) (es : List Edit) (t : Table) (begun : ℕ) → CanUndoAll es t → begun ≡ length (past es t) → mark ≤ length (past es t) →
    Going (past es t) t mark es t begun
starts mark es t begun can counted ahead = record {
  can = can;
  counted = counted;
  left = sym (take_all begun (past es t) (omega arith));
  within = omega arith;
  ahead = omega arith;
  there = λ e. let same : mark ≡ length (past es t) = omega arith in
      subst (λ k. slice_get (past es t ++ t ∷ []) k ≡ Some t) (sym same) (get_last (past es t) t);
}

module _ (ts : List Table) (t : Table) (mark : ℕ) where
  quiet : (e : Edit) (es : List Edit) (u : Table) (begun : ℕ) → begins e ≡ 0 → marked e (undone e u) (past es (undone e u)) ≡ past es (undone e u) →
      mark < begun → Going ts t mark (e ∷ es) u begun → Going ts t mark es (undone e u) (begun - begins e)
  quiet e es u begun none same lt g =
      let n : begun - begins e ≡ begun = omega arith in
      subst (λ k. Going ts t mark es (undone e u) k) (sym n) (record {
        can = g.can.1;
        counted = g.counted ∙ ap length same;
        left = sym same ∙ g.left;
        within = g.within;
        ahead = g.ahead;
        there = λ h. absurd (omega arith);
      })

  pub goes : (e : Edit) (es : List Edit) (u : Table) (begun : ℕ) → mark < begun → Going ts t mark (e ∷ es) u begun →
      Going ts t mark es (undone e u) (begun - begins e)
  goes (Begun n) es u begun lt g =
      let v = with_counters u n in
      let p = past es v in
      let long : length (p ++ v ∷ []) ≡ length p + 1 = length_push p v in
      let whole : begun ≡ length p + 1 = g.counted ∙ long in
      let one : begun - 1 ≡ length p = omega arith in
      let within = g.within in
      let at : slice_get (p ++ v ∷ []) (length p) ≡ Some v = get_last p v in
      subst (λ k. Going ts t mark es v k) (sym one) (record {
        can = g.can.1;
        counted = refl;
        left =
            sym (take_at p (v ∷ []) (length p) refl)
            ∙ ap (take (length p)) g.left
            ∙ take-take (length p) begun ts (omega arith);
        within = omega arith;
        ahead = omega arith;
        there = λ h.
            let below : length p < length ts = omega arith in
            subst (λ k. slice_get (ts ++ t ∷ []) k ≡ Some v) h
            (get_old ts (t ∷ []) (length p) below
            ∙ sym (get_take begun ts (length p) (omega arith))
            ∙ ap (λ l. slice_get l (length p)) (sym g.left)
            ∙ at);
      })
  goes ObjectAdded es u begun lt g = quiet ObjectAdded es u begun refl refl lt g
  goes (ObjectReplaced k row) es u begun lt g = quiet (ObjectReplaced k row) es u begun refl refl lt g
  goes CellAdded es u begun lt g = quiet CellAdded es u begun refl refl lt g
  goes (CellReplaced k row) es u begun lt g = quiet (CellReplaced k row) es u begun refl refl lt g
  goes ExtentAdded es u begun lt g = quiet ExtentAdded es u begun refl refl lt g
  goes (ExtentReplaced k row) es u begun lt g = quiet (ExtentReplaced k row) es u begun refl refl lt g
  goes (ExtentJoined k n) es u begun lt g = quiet (ExtentJoined k n) es u begun refl refl lt g

pub turned : (es es' : List Edit) (e : Edit) → es ≡ es' ++ e ∷ [] → reverse es ≡ e ∷ reverse es'
turned es es' e h = ap reverse h ∙ reverse-append es' (e ∷ [])

-- an edit that begins no change
module _ (es es' : List Edit) (e : Edit) (t u : Table) (is : es' ≡ es ++ e ∷ []) (back : undone e u ≡ t) (quietly : (v : Table) (vs : List Table) →
    marked e v vs ≡ vs) where
  pub past_kept : past (reverse es') u ≡ past (reverse es) t
  past_kept = ap (λ l. past l u) (turned es' es e is) ∙ quietly (undone e u) (past (reverse es) (undone e u)) ∙ ap (past (reverse es)) back

  pub still_can : (n : ℕ) → CanUndo e u → CanUndoAll (reverse es) t × (n ≡ length (past (reverse es) t)) →
      CanUndoAll (reverse es') u × (n ≡ length (past (reverse es') u))
  still_can n can h = (
    subst (λ l. CanUndoAll l u) (sym (turned es' es e is)) (can, subst (CanUndoAll (reverse es)) (sym back) h.0),
    h.1 ∙ ap length (sym past_kept),
  )
