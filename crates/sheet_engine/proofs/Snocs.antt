-- Lists of started cells, with one more at the end.
use Rattle.std.proofs.Common.{◌≡◌, refl, sym, ap, subst, inl, inr, ⊎_elim, ℕ, zero, suc, true, List, [], ◌∷◌, ◌++◌, Some}
use Rattle.std.specs.Prelude.{◌⊎◌, slice_get}
use Rattle.std.specs.List.{AllByRecursion}
use Rattle.sheet_meaning.specs.Support.{Cell, has_cell, cells_read}
use Rattle.sheet_meaning.specs.declared.workbook.Workbook.{Workbook}
use Rattle.sheet_meaning.proofs.Members.{in_front, in_back, in_either}
use Rattle.sheet_meaning.proofs.Cells.{has_in, in_has}
use Rattle.sheet_engine_laws.specs.Chains.{Chained, LastReads}
use Rattle.sheet_engine.specs.Started.{cell_of, cells_started, AreApart}
use Rattle.sheet_engine.specs.declared.settling.Frame.{Frame}

pub cells_snoc : (fs : List Frame) (f : Frame) → cells_started (fs ++ f ∷ []) ≡ cells_started fs ++ cell_of f ∷ []
cells_snoc [] f = refl
cells_snoc (g ∷ fs) f = ap (λ l. cell_of g ∷ l) (cells_snoc fs f)

-- one of the list is that one, or one of those before
pub had_snoc : (xs : List Cell) (y x : Cell) → has_cell (xs ++ y ∷ []) x ≡ true → (has_cell xs x ≡ true) ⊎ (x ≡ y)
had_snoc xs y x h =
    ⊎_elim
    (λ k. inl (in_has xs x k))
    (λ k. ⊎_elim (λ e. inr e) (λ n. absurd n) k)
    (in_either x xs (y ∷ []) (has_in (xs ++ y ∷ []) x h))

pub has_front : (xs : List Cell) (y x : Cell) → has_cell xs x ≡ true → has_cell (xs ++ y ∷ []) x ≡ true
has_front xs y x h = in_has (xs ++ y ∷ []) x (in_front x xs (y ∷ []) (has_in xs x h))

pub has_last : (xs : List Cell) (y : Cell) → has_cell (xs ++ y ∷ []) y ≡ true
has_last xs y = in_has (xs ++ y ∷ []) y (in_back y xs (y ∷ []) (inl refl))

pub apart_snoc : (xs : List Cell) (y : Cell) → AreApart xs → (has_cell xs y ≡ true → ⊥) → AreApart (xs ++ y ∷ [])
apart_snoc [] y a n = ((λ e. cc), tt)
apart_snoc (x ∷ xs) y a n = (
  (λ h. ⊎_elim (λ k. a.0 k) (λ e. n (in_has (x ∷ xs) y (inl (sym e)))) (had_snoc xs y x h)),
  apart_snoc xs y a.1 (λ h. n (in_has (x ∷ xs) y (inr (has_in xs y h)))),
)

pub front_apart : (xs : List Cell) (y : Cell) → AreApart (xs ++ y ∷ []) → AreApart xs × (has_cell xs y ≡ true → ⊥)
front_apart [] y a = (tt, (λ h. cc))
front_apart (x ∷ xs) y a =
    let rest = front_apart xs y a.1 in (
      ((λ h. a.0 (has_front xs y x h)), rest.0),
      (λ h. ⊎_elim (λ e. a.0 (subst (λ z. has_cell (xs ++ y ∷ []) z ≡ true) e (has_last xs y))) (λ k. rest.1 (in_has xs y k)) (has_in (x ∷ xs) y h)),
    )

module _ {A : Type 0} (P : A → Type 0) where
  pub all_snoc : (xs : List A) (y : A) → AllByRecursion P xs → P y → AllByRecursion P (xs ++ y ∷ [])
  all_snoc [] y a p = (p, tt)
  all_snoc (x ∷ xs) y a p = (a.0, all_snoc xs y a.1 p)

  pub all_front : (xs : List A) (y : A) → AllByRecursion P (xs ++ y ∷ []) → AllByRecursion P xs × P y
  all_front [] y a = (tt, a.0)
  all_front (x ∷ xs) y a = let rest = all_front xs y a.1 in ((a.0, rest.0), rest.1)

module _ (w : Workbook) where
  pub chained_snoc : (xs : List Cell) (y : Cell) → Chained w xs → (xs ≡ []) ⊎ LastReads w xs y → Chained w (xs ++ y ∷ [])
  chained_snoc [] y c h = tt
  chained_snoc (x ∷ []) y c h = ⊎_elim (λ e. cc) (λ r. (r, tt)) h
  chained_snoc (x ∷ z ∷ xs) y c h = (c.0, chained_snoc (z ∷ xs) y c.1 (⊎_elim (λ e. cc) (λ r. inr r) h))

  pub front_chained : (xs : List Cell) (y : Cell) → Chained w (xs ++ y ∷ []) → Chained w xs
  front_chained [] y c = tt
  front_chained (x ∷ []) y c = tt
  front_chained (x ∷ z ∷ xs) y c = (c.0, front_chained (z ∷ xs) y c.1)

  pub last_reads : (xs : List Cell) (x y : Cell) → has_cell (cells_read w x) y ≡ true → LastReads w (xs ++ x ∷ []) y
  last_reads [] x y h = h
  last_reads (z ∷ []) x y h = h
  last_reads (z ∷ v ∷ xs) x y h = last_reads (v ∷ xs) x y h

pub has_place : (cells : List Cell) (k : ℕ) (x : Cell) → slice_get cells k ≡ Some x → has_cell cells x ≡ true
has_place [] k x e = cc
has_place (y ∷ ys) zero x e = let same : y ≡ x = cc in in_has (y ∷ ys) x (inl (sym same))
has_place (y ∷ ys) (suc k) x e = in_has (y ∷ ys) x (inr (has_in ys x (has_place ys k x e)))
