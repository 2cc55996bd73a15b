-- What is left to do falls with each cell that is started or gets a result.
use Rattle.std.proofs.Common.{◌≡◌, refl, sym, ap, ◌∙◌, subst, inl, inr, ⊎_elim, ◌<◌, ◌≤◌, true, false, List, [], ◌∷◌, arith, Option, Some, None, rules}
use Rattle.std.specs.Prelude.{◌⊎◌, if◌then◌else◌, IsSome}
use Rattle.sheet_meaning.specs.Support.{Cell, is_cell, cell_at}
use Rattle.sheet_meaning.specs.Workbook.{FormulaCell}
use Rattle.sheet_meaning.proofs.Members.{IsIn}
use Rattle.sheet_meaning.proofs.Cells.{cell_itself, same_cell, found_in as cell_found}
use Rattle.sheet_engine.specs.Standings.{Entries, stands, Puts, weight, left_at, Later, Grows}
use Rattle.sheet_engine.specs.declared.standings.Standing.{Standing}
use Rattle.sheet_engine.specs.declared.standings.Standing.TheVariants.{Started, Settled}

pub later_itself : (s : Option Standing) → Later s s
later_itself None = tt
later_itself (Some Started) = search rules
later_itself (Some (Settled r)) = refl

some_later : (s t : Option Standing) → IsSome s → Later s t → IsSome t
some_later None t i l = search rules
some_later (Some Started) t i l = l
some_later (Some (Settled r)) t i l = subst IsSome (sym l) i

later_later : (s t u : Option Standing) → Later s t → Later t u → Later s u
later_later None t u a b = tt
later_later (Some Started) t u a b = some_later t u a b
later_later (Some (Settled r)) t u a b = subst (λ z. Later z u) a b

pub grows_itself : (es : Entries) → Grows es es
grows_itself es = record { later = λ x. later_itself (stands es x) }

pub grows_on : (a b c : Entries) → Grows a b → Grows b c → Grows a c
grows_on a b c g h = record { later = λ x. later_later (stands a x) (stands b x) (stands c x) (g.later x) (h.later x) }

lighter_some : (t : Option Standing) → IsSome t → weight t ≤ 1
lighter_some None i = search rules
lighter_some (Some Started) i = omega arith
lighter_some (Some (Settled r)) i = omega arith

lightest : (s : Option Standing) → weight s ≤ 2
lightest None = omega arith
lightest (Some Started) = omega arith
lightest (Some (Settled r)) = omega arith

pub lighter : (s t : Option Standing) → Later s t → weight t ≤ weight s
lighter None t l = lightest t
lighter (Some Started) t l = lighter_some t l
lighter (Some (Settled r)) t l = let e : weight t ≡ 0 = ap weight l in omega arith

module _ (old new : Entries) (grows : Grows old new) where
  pub left_less : (fs : List FormulaCell) → left_at new fs ≤ left_at old fs
  left_less [] = omega arith
  left_less (f ∷ fs) =
      let here = lighter (stands old (f.object, f.column)) (stands new (f.object, f.column)) (grows.later (f.object, f.column)) in
      let rest = left_less fs in
      omega arith

  -- one cell of them weighs less
  pub left_falls : (fs : List FormulaCell) (f : FormulaCell) → IsIn f fs → weight (stands new (f.object, f.column)) < weight (stands old (f.object, f.column)) →
      left_at new fs < left_at old fs
  left_falls [] f i l = absurd i
  left_falls (g ∷ fs) f i l =
      ⊎_elim
      (λ e.
      let here : weight (stands new (g.object, g.column)) < weight (stands old (g.object, g.column)) =
      subst (λ (h : FormulaCell). weight (stands new (h.object, h.column)) < weight (stands old (h.object, h.column))) e l in
      let rest = left_less fs in
      omega arith)
      (λ j.
      let here = lighter (stands old (g.object, g.column)) (stands new (g.object, g.column)) (grows.later (g.object, g.column)) in
      let rest = left_falls fs f j l in
      omega arith)
      i

  -- that of a cell that is found among them
  pub falls_at : (fs : List FormulaCell) (x : Cell) → IsSome (cell_at fs x) → weight (stands new x) < weight (stands old x) → left_at new fs < left_at old fs
  falls_at fs x i l =
      elim (cell_at fs x) as (λ o. cell_at fs x ≡ o → IsSome o → left_at new fs < left_at old fs) [
        | None ↦ λ e s. search rules
        | Some f ↦ λ e s.
            let there = cell_found fs x f e in
            let same : (f.object, f.column) ≡ x = same_cell (f.object, f.column) x there.1 in
            left_falls fs f there.0 (subst (λ y. weight (stands new y) < weight (stands old y)) (sym same) l)
      ] refl i

module _ (old new : Entries) (x : Cell) (s : Standing) (puts : Puts old new x s) where
  pub put_here : stands new x ≡ Some s
  put_here = puts x ∙ ap (λ b. if b then Some s else stands old x) (cell_itself x)

  -- any cell is that one, or stands as before
  pub put_cases : (y : Cell) → (x ≡ y) ⊎ (stands new y ≡ stands old y)
  put_cases y =
      elim (is_cell x y) as (λ b. is_cell x y ≡ b → (x ≡ y) ⊎ (stands new y ≡ stands old y)) [
        | true ↦ λ e. inl (same_cell x y e)
        | false ↦ λ e. inr (puts y ∙ ap (λ b. if b then Some s else stands old y) e)
      ] refl

  pub put_grows : Later (stands old x) (Some s) → Grows old new
  put_grows l = record {
    later = λ y.
        ⊎_elim
        (λ e. subst (λ z. Later (stands old z) (stands new z)) e (subst (Later (stands old x)) (sym put_here) l))
        (λ e. subst (Later (stands old y)) (sym e) (later_itself (stands old y)))
        (put_cases y);
  }
