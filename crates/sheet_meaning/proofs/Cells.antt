-- Lists of cells.
use Rattle.std.proofs.Common.{◌≡◌, refl, sym, ap, ◌∙◌, subst, inl, inr, ⊎_elim, true, false, List, [], ◌∷◌, ◌++◌}
use Rattle.std.specs.Prelude.{◌⊎◌, ◌==◌, ◌&&◌, Some, if◌then◌else◌}
use Rattle.std.proofs.lemmas.Bool.{eq-eqb, eqb-true}
use Rattle.std.specs.Cmp.Derive.{both_true as both_are}
use Rattle.sheet_meaning.specs.Workbook.{FormulaCell}
use Rattle.sheet_meaning.specs.Support.{Cell, is_cell, has_cell, with_cell, with_cells, cell_at}
use Rattle.sheet_meaning.proofs.Members.{IsIn, in_front, in_back, in_either, any_in, from_any, both_true}

pub cell_itself : (x : Cell) → is_cell x x ≡ true
cell_itself x = both_are (eq-eqb x.0 x.0 refl) (eq-eqb x.1 x.1 refl)

pub same_cell : (x y : Cell) → is_cell x y ≡ true → x ≡ y
same_cell x y h =
    let p = both_true (x.0 == y.0) (x.1 == y.1) h in
    let a : x.0 ≡ y.0 = eqb-true x.0 y.0 p.0 in
    let b : x.1 ≡ y.1 = eqb-true x.1 y.1 p.1 in
    ap (λ n. (n, x.1)) a ∙ ap (λ n. (y.0, n)) b

pub has_in : (xs : List Cell) (x : Cell) → has_cell xs x ≡ true → IsIn x xs
has_in xs x h = let f = from_any (λ y. is_cell y x) xs h in subst (λ y. IsIn y xs) (same_cell f.0 x f.2) f.1

pub in_has : (xs : List Cell) (x : Cell) → IsIn x xs → has_cell xs x ≡ true
in_has xs x h = any_in (λ y. is_cell y x) xs x h (cell_itself x)

module _ (cells : List Cell) (x : Cell) where
  kept_with : (y : Cell) → IsIn y cells → IsIn y (with_cell cells x)
  kept_with y h = elim (has_cell cells x) as (λ b. IsIn y (if b then cells else cells ++ x ∷ [])) [ true ↦ h | false ↦ in_front y cells (x ∷ []) h ]

  added_with : IsIn x (with_cell cells x)
  added_with =
      elim (has_cell cells x) as (λ b. has_cell cells x ≡ b → IsIn x (if b then cells else cells ++ x ∷ [])) [
        | true ↦ λ e. has_in cells x e
        | false ↦ λ e. in_back x cells (x ∷ []) (inl refl)
      ] refl

  from_with : (y : Cell) → IsIn y (with_cell cells x) → IsIn y cells ⊎ (y ≡ x)
  from_with y h =
      elim (has_cell cells x) as (λ b. IsIn y (if b then cells else cells ++ x ∷ []) → IsIn y cells ⊎ (y ≡ x)) [
        | true ↦ λ k. inl k
        | false ↦ λ k. ⊎_elim (λ a. inl a) (λ b. ⊎_elim (λ e. inr e) (λ n. absurd n) b) (in_either y cells (x ∷ []) k)
      ] h

pub kept_in : (cells xs : List Cell) (y : Cell) → IsIn y cells → IsIn y (with_cells cells xs)
kept_in cells [] y h = h
kept_in cells (x ∷ xs) y h = kept_in (with_cell cells x) xs y (kept_with cells x y h)

pub added_in : (cells xs : List Cell) (y : Cell) → IsIn y xs → IsIn y (with_cells cells xs)
added_in cells [] y h = absurd h
added_in cells (x ∷ xs) y h =
    ⊎_elim
    (λ e. kept_in (with_cell cells x) xs y (subst (λ z. IsIn z (with_cell cells x)) (sym e) (added_with cells x)))
    (λ k. added_in (with_cell cells x) xs y k)
    h

pub from_cells : (cells xs : List Cell) (y : Cell) → IsIn y (with_cells cells xs) → IsIn y cells ⊎ IsIn y xs
from_cells cells [] y h = inl h
from_cells cells (x ∷ xs) y h =
    ⊎_elim
    (λ k. ⊎_elim (λ a. inl a) (λ e. inr (inl e)) (from_with cells x y k))
    (λ k. inr (inr k))
    (from_cells (with_cell cells x) xs y h)

-- the formula cell that is found is one of them, and is of the object and column
pub found_in : (fs : List FormulaCell) (x : Cell) (f : FormulaCell) → cell_at fs x ≡ Some f → IsIn f fs × (is_cell (f.object, f.column) x ≡ true)
found_in [] x f e = cc
found_in (g ∷ fs) x f e =
    elim (g.object == x.0 && g.column == x.1) as (λ b. (g.object == x.0 && g.column == x.1) ≡ b → (if b then Some g else cell_at fs x) ≡ Some f →
    IsIn f (g ∷ fs) × (is_cell (f.object, f.column) x ≡ true)) [
      | true ↦ λ t k. let same : g ≡ f = cc in (inl (sym same), subst (λ h. is_cell (h.object, h.column) x ≡ true) same t)
      | false ↦ λ t k. let r = found_in fs x f k in (inr r.0, r.1)
    ] refl e
