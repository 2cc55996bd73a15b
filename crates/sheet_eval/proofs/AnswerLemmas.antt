-- The answer and the reads of a whole evaluation.
use Rattle.std.proofs.Common.{◌≡◌, refl, sym, ap, ◌∙◌, subst, List, [], ◌∷◌, Bool, true, false, Some, None}
use Rattle.std.specs.Prelude.{filter, if◌then◌else◌}
use Rattle.std.specs.List.{filter_map}
use Rattle.sheet_values.specs.declared.value.Value.{Value}
use Rattle.sheet_meaning.specs.declared.run.Run.{Run}
use Rattle.sheet_meaning.specs.declared.run.Use.{Use}
use Rattle.sheet_meaning.specs.declared.run.Use.TheVariants as used
use Rattle.sheet_meaning.specs.Run.{Outcome as Result_of}
use Rattle.sheet_meaning.specs.Rounds.{item_in, cell_in}
use Rattle.sheet_meaning.specs.Support.{Cell, with_cells}
use Rattle.sheet_values.specs.Sorted.{insert}
use Rattle.sheet_columns.specs.ItemOrder.{item_cmp}
use Rattle.sheet_eval_sets.specs.Noted.{first_of, others_of}
use Rattle.sheet_eval.specs.Answer.{Answers, IsAnswer}
use Rattle.sheet_eval.specs.Told.{Told, Noted, note, noted, Came, lacks, lacking, used_cells, used_items, with_items}
use Rattle.sheet_eval.specs.declared.evaluation.Outcome.{Outcome}

noted_cells : (n : Noted) (us : List Use) → (noted n us).cells ≡ with_cells n.cells (filter_map cell_in us)
noted_cells n [] = refl
noted_cells n (used.Read i ∷ us) = noted_cells (note n (used.Read i)) us
noted_cells n (used.Cell o c ∷ us) = noted_cells (note n (used.Cell o c)) us

noted_heeds : (n : Noted) (us : List Use) → (noted n us).heeds_items ≡ n.heeds_items
noted_heeds n [] = refl
noted_heeds n (used.Read i ∷ us) = noted_heeds (note n (used.Read i)) us
noted_heeds n (used.Cell o c ∷ us) = noted_heeds (note n (used.Cell o c)) us

noted_items : (n : Noted) (us : List Use) → n.heeds_items ≡ true → (noted n us).items ≡ with_items n.items (filter_map item_in us)
noted_items n [] h = refl
noted_items n (used.Read i ∷ us) h =
    noted_items (note n (used.Read i)) us h
    ∙ ap (λ b. with_items (if b then insert item_cmp i n.items else n.items) (filter_map item_in us)) h
noted_items n (used.Cell o c ∷ us) h = noted_items (note n (used.Cell o c)) us h

-- what was noted from nothing on, of items where they are noted
pub cells_used : (n : Noted) (r : Run (List Value)) (uses : Noted) → n.cells ≡ [] → uses ≡ noted n r.uses → uses.cells ≡ used_cells r.uses
cells_used n r uses fresh e = ap (λ (m : Noted). m.cells) e ∙ noted_cells n r.uses ∙ ap (λ cs. with_cells cs (filter_map cell_in r.uses)) fresh

pub items_used : (n : Noted) (r : Run (List Value)) (uses : Noted) → n ≡ record { heeds_items = true; items = []; cells = [] } → uses ≡ noted n r.uses
    → uses.items ≡ used_items r.uses
items_used n r uses fresh e =
    ap (λ (m : Noted). m.items) (e ∙ ap (λ m. noted m r.uses) fresh) ∙ noted_items (record { heeds_items = true; items = []; cells = [] }) r.uses refl

pub answered : (r : Run (List Value)) {o : Result_of (List Value)} (n uses : Noted) → n.cells ≡ [] → Came r n o uses → (t : Told) {need : List Cell}
    (a : Outcome) → need ≡ with_cells [] (filter (lacks t) uses.cells) → Answers need o a → IsAnswer t r a
answered r n uses fresh c t {need} a e h =
    let all : need ≡ lacking t r.uses = e ∙ ap (λ cs. with_cells [] (filter (lacks t) cs)) (cells_used n r uses fresh c.uses) in
    subst (λ m. Answers m r.outcome a) all (subst (λ q. Answers need q a) c.outcome h)

joined_lacking : (lacks : Cell → Bool) (x : Cell) (cells : List Cell)
    → with_cells (with_cells [] (filter lacks (x ∷ []))) (filter lacks cells) ≡ with_cells [] (filter lacks (x ∷ cells))
joined_lacking lacks x cells =
    elim (lacks x) as (λ b. with_cells (with_cells [] (if b then x ∷ [] else [])) (filter lacks cells) ≡ with_cells [] (if b then x ∷ filter lacks cells else filter lacks cells)) [
      | true ↦ refl
      | false ↦ refl
    ]

-- the lacking ones of some cells: the first, and those behind it
pub lacking_whole : (lacks : Cell → Bool) (cells : List Cell) (x : Cell) {one need : List Cell} → first_of cells ≡ Some x
    → one ≡ with_cells [] (filter lacks (x ∷ [])) → need ≡ with_cells one (filter lacks (others_of cells)) → need ≡ with_cells [] (filter lacks cells)
lacking_whole lacks [] x h e f = cc
lacking_whole lacks (y ∷ cells) x {one} {need} h e f =
    let same : y ≡ x = cc in
    f ∙ ap (λ l. with_cells l (filter lacks cells)) e ∙ joined_lacking lacks x cells ∙ ap (λ z. with_cells [] (filter lacks (z ∷ cells))) (sym same)

pub lacking_none : (lacks : Cell → Bool) (cells : List Cell) → first_of cells ≡ None → [] ≡ with_cells [] (filter lacks cells)
lacking_none lacks [] h = refl
lacking_none lacks (y ∷ cells) h = cc
