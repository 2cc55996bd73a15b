-- The places that were found cover all rows that change.
use Rattle.std.proofs.Common.{◌≡◌, refl, sym, ap, ◌∙◌, subst, ℕ, ◌<◌, Bool, true, false, cond, List, [], ◌∷◌, length, get_or, ◌⊎◌, inl, inr}
use Rattle.std.specs.Prelude.{not, position, ◌||◌, if◌then◌else◌}
use Rattle.std.specs.Ordering.{is_eq}
use Rattle.std.specs.Cmp.{tied_itself}
use Rattle.std.proofs.lemmas.List.{get_or_default}
use Rattle.sheet_values.specs.Sorted.{IsRising}
use Rattle.sheet_values.specs.Order.{value_cmp}
use Rattle.sheet_values.specs.OrderLaws.{value_total}
use Rattle.sheet_values.specs.Sets.{contains, minus}
use Rattle.sheet_values.specs.declared.value.Value.{Value}
use Rattle.sheet_values.specs.declared.value.Value.TheVariants.{Object}
use Rattle.sheet_columns.specs.declared.tree.Node.{Node}
use Rattle.sheet_state_rows.specs.Rows.{Table, set_row}
use Rattle.sheet_state_rows.specs.declared.row.ObjectRow.{ObjectRow}
use Rattle.sheet_state_rows.specs.declared.row.SetRow.{SetRow}
use Rattle.sheet_meaning.specs.Workbook.{object_at}
use Rattle.sheet_meaning.proofs.Members.{both_true}
use Rattle.sheet_state_references.specs.Below.{has}
use Rattle.sheet_state_references.specs.declared.references.Reference.{Reference}
use Rattle.sheet_state.specs.Deaths.{is_doomed, buried, swept}
use Rattle.sheet_state.specs.Stored.{IsMoment}
use Rattle.sheet_state.specs.Places.{Fits, Adds, OfAny, IsRowOf, IsOwnRow, RefersTo, IsHomeOf, Covers, IsListedRow, IsListed, AreObjects}
use Rattle.sheet_state.specs.Rows.{is_set, object_cmp, objects_in, moment, IsSound}
use Rattle.sheet_state.proofs.Underneath.{all_at, object_placed, set_placed, row_child, in_live}
use Rattle.sheet_state_references.proofs.Searched.{right}

fits_none : (n : ℕ) → Fits n []
fits_none n = λ k h. cc

not_there : (b : Bool) → b ≡ true → b ≡ false → ⊥
not_there b e f = let clash : true ≡ false = sym e ∙ f in cc

-- the places of all rows of objects that go
pub covers_objects : (d : List Value) (rows : List ObjectRow) (places : List ℕ) → IsRising object_cmp rows →
    Adds (OfAny d (IsRowOf rows)) (length rows) [] places → Covers (buried d) rows places
covers_objects d rows places rising a = record {
  fits = a.fits (fits_none (length rows));
  others = λ k e lt out. stays k e lt out (is_doomed d (get_or rows k e)) refl;
}
  where
    stays : (k : ℕ) (e : ObjectRow) → k < length rows → has k places ≡ false → (b : Bool) → is_doomed d (get_or rows k e) ≡ b →
        buried d (get_or rows k e) ≡ get_or rows k e
    stays k e lt out true h =
        let r = get_or rows k e in
        let t = both_true r.live (contains (Object r.number) d) h in
        absurd (not_there (has k places) (a.found k (r.number, t.1, object_placed rows k e rising lt t.0)) out)
    stays k e lt out false h = ap (λ b. if b then record (get_or rows k e) { live = false } else get_or rows k e) h

itself : (v : Value) → is_eq (value_cmp v v) ≡ true
itself v = ap is_eq (tied_itself value_total v)

-- nothing goes from a set that holds none of these
nothing_lost : (d xs : List Value) → ((v : Value) → contains v xs ≡ true → contains v d ≡ false) → minus xs d ≡ xs
nothing_lost d [] h = refl
nothing_lost d (x ∷ xs) h =
    ap (λ b. cond (not b) (x ∷ minus xs d) (minus xs d)) (h x (ap (λ b. b || contains x xs) (itself x)))
    ∙ ap (λ l. x ∷ l) (nothing_lost d xs (λ v e. h v (right (is_eq (value_cmp v x)) (contains v xs) e)))

-- a row of a set that has to do with one of these objects
pub record Touches (d : List Value) (rows : List SetRow) (k n : ℕ) : Type 0 where
  pub live : (set_row rows k).live ≡ true
  pub doomed : contains (Object n) d ≡ true
  pub how : ((set_row rows k).object ≡ n) ⊎ (contains (Object n) (set_row rows k).set ≡ true)

pub covers_sets : (d : List Value) (rows : List SetRow) (places : List ℕ) → AreObjects d →
    Fits (length rows) places → ((k n : ℕ) → k < length rows → Touches d rows k n → has k places ≡ true) → Covers (swept d) rows places
covers_sets d rows places objects fits touched = record {
  fits = fits;
  others = λ k e lt out. subst (λ r. swept d r ≡ r) (get_or_default rows k none e lt) (stays k lt out (set_row rows k).live refl);
}
  where
    none : SetRow
    none = record { object = 0; column = 0; live = false; set = [] }

    untouched : (k n : ℕ) → k < length rows → has k places ≡ false → (set_row rows k).live ≡ true →
        ((set_row rows k).object ≡ n) ⊎ (contains (Object n) (set_row rows k).set ≡ true) → contains (Object n) d ≡ false
    untouched k n lt out live how = at (contains (Object n) d) refl
      where
        at : (b : Bool) → contains (Object n) d ≡ b → contains (Object n) d ≡ false
        at true e = absurd (not_there (has k places) (touched k n lt (record { live = live; doomed = e; how = how })) out)
        at false e = e

    stays : (k : ℕ) → k < length rows → has k places ≡ false → (b : Bool) → (set_row rows k).live ≡ b → swept d (set_row rows k) ≡ set_row rows k
    stays k lt out false live =
        ap (λ b. if b then (if contains (Object (set_row rows k).object) d then record (set_row rows k) { live = false; set = [] }
        else record (set_row rows k) { set = minus (set_row rows k).set d }) else set_row rows k) live
    stays k lt out true live =
        let r = set_row rows k in
        ap (λ b. if b then (if contains (Object r.object) d then record r { live = false; set = [] } else record r { set = minus r.set d }) else r) live
        ∙ ap (λ b. if b then record r { live = false; set = [] } else record r { set = minus r.set d }) (untouched k r.object lt out live (inl refl))
        ∙ ap (λ xs. record r { set = xs }) (nothing_lost d r.set (λ v e. other k lt out live v e))
      where
        other : (k : ℕ) → k < length rows → has k places ≡ false → (set_row rows k).live ≡ true → (v : Value) → contains v (set_row rows k).set ≡ true →
            contains v d ≡ false
        other k lt out live v e = at (contains v d) refl
          where
            at : (b : Bool) → contains v d ≡ b → contains v d ≡ false
            at false h = h
            at true h =
                let w = objects v h in
                ap (λ u. contains u d) w.1 ∙ untouched k w.0 lt out live (inr (ap (λ u. contains u (set_row rows k).set) (sym w.1) ∙ e))

module _ (nodes : List Node) (t : Table) (sound : IsSound t) (m : IsMoment nodes (moment t)) (d : List Value) (only : AreObjects d) where
  -- the own cells of these objects, and those that refer to them
  pub covers_cells : (references : List Reference) (own places : List ℕ) → IsListed references t → Adds (OfAny d (IsOwnRow t.cells)) (length t.cells) [] own →
      Adds (OfAny d (RefersTo t.cells references)) (length t.cells) own places → Covers (swept d) t.cells places
  covers_cells references own places listed a b = covers_sets d t.cells places only (b.fits (a.fits (fits_none (length t.cells)))) touched
    where
      touched : (k n : ℕ) → k < length t.cells → Touches d t.cells k n → has k places ≡ true
      touched k n lt w = elim w.how [
        | inl same ↦ b.kept k (a.found k (n, w.doomed, (lt, same)))
        | inr holds ↦
            let r = set_row t.cells k in
            b.found k (
              n,
              w.doomed,
              (r.object, r.column, all_at (IsListedRow references) t.cells k _ listed lt w.live n holds, set_placed t.cells k sound.cells lt w.live),
            )
      ]

  -- the own extents of these objects, and those that they stand in
  pub covers_extents : (own places : List ℕ) → Adds (OfAny d (IsOwnRow t.extents)) (length t.extents) [] own →
      Adds (OfAny d (IsHomeOf t.objects t.extents)) (length t.extents) own places → Covers (swept d) t.extents places
  covers_extents own places a b = covers_sets d t.extents places only (b.fits (a.fits (fits_none (length t.extents)))) touched
    where
      touched : (k n : ℕ) → k < length t.extents → Touches d t.extents k n → has k places ≡ true
      touched k n lt w = elim w.how [
        | inl same ↦ b.kept k (a.found k (n, w.doomed, (lt, same)))
        | inr holds ↦
            let r = set_row t.extents k in
            let c = row_child t sound k n lt w.live holds in
            let x = c.0.object in
            b.found k (
              n,
              w.doomed,
              (
                r.object,
                x,
                ap (object_at (objects_in t.objects)) (sym c.0.number) ∙ in_live (objects_in t.objects) x m.well_formed.rising c.0.is_there,
                c.0.parent,
                ap (λ q. position (is_set r.object q) t.extents) c.1 ∙ set_placed t.extents k sound.extents lt w.live,
              ),
            )
      ]
