-- Two workbooks that agree at the support of a view give the same page.
use Rattle.std.proofs.Common.{◌≡◌, refl, sym, ap, ◌∙◌, true, List, [], ◌∷◌, ◌++◌}
use Rattle.std.specs.Prelude.{map, Ok, Err}
use Rattle.std.specs.List.{filter_map, flat_map}
use Rattle.sheet_values.specs.declared.value.Value.{Value}
use Rattle.sheet_values.specs.Sorted.{contains}
use Rattle.sheet_columns.specs.ItemOrder.{item_cmp}
use Rattle.sheet_columns.specs.declared.item.Item.{Item}
use Rattle.sheet_columns.specs.declared.fault.Place.{Place}
use Rattle.sheet_columns.specs.declared.fault.Place.TheVariants as place
use Rattle.sheet_columns.specs.declared.formula.Core.{Core}
use Rattle.sheet_columns.specs.declared.view.CoreSlot.{CoreSlot}
use Rattle.sheet_columns.specs.declared.view.CoreView.{CoreView}
use Rattle.sheet_columns.specs.declared.view.CoreView.TheVariants as view
use Rattle.sheet_columns.specs.declared.page.Part.TheVariants as part
use Rattle.sheet_meaning.specs.declared.run.Use.{Use}
use Rattle.sheet_meaning.specs.declared.run.Use.TheVariants as used
use Rattle.sheet_meaning.specs.Run.{Outcome, after}
use Rattle.sheet_meaning.specs.Formula.{Variables, bind, truth}
use Rattle.sheet_meaning.specs.Workbook.{formula_cells}
use Rattle.sheet_meaning.specs.WellFormed.{IsWellFormed}
use Rattle.sheet_meaning.specs.Rounds.{outcome_in, table, rounds, settled_world, settled_run, item_in, cell_in}
use Rattle.sheet_meaning.specs.Reads.{AgreeAt, Agree}
use Rattle.sheet_meaning.specs.Items.{content}
use Rattle.sheet_meaning.specs.Support.{Cell, reached, items_read, support, Reaches}
use Rattle.sheet_meaning.specs.Procedure.{first_variables}
use Rattle.sheet_meaning.specs.Page.{slot_run, row, source_run, part_of, parts_if, allow_run, values_of, row_uses, part_uses, argument_uses, view_uses}
use Rattle.sheet_meaning.specs.Page.{SupportSuffices}
use Rattle.sheet_meaning.proofs.Members.{IsIn, in_front, in_back, in_flat_map, in_filter_map}
use Rattle.sheet_meaning.proofs.Cells.{in_has}
use Rattle.sheet_meaning.proofs.Tracks.{front_agrees, back_agrees, uses_suffice}
use Rattle.sheet_meaning.proofs.Reaching.{complete}
use Rattle.sheet_meaning.proofs.Ordered.{ordered_in}
use Rattle.sheet_meaning.proofs.Alike.{content_agrees, all_agree, same_meaning}
use Rattle.sheet_meaning.specs.declared.workbook.Workbook.{Workbook}

module _ (w : Workbook) (us : List Use) where
  -- an item that is used directly is in the support, and so is one that a reached cell reads
  direct_item : (i : Item) → IsIn (used.Read i) us → contains item_cmp i (support w us) ≡ true
  direct_item i h =
      ordered_in i (filter_map item_in us ++ flat_map (items_read w) (reached w us))
      (in_front i (filter_map item_in us) (flat_map (items_read w) (reached w us)) (in_filter_map item_in us (used.Read i) i h refl))

  reached_item : (x : Cell) → Reaches w (filter_map cell_in us) x → (i : Item) → IsIn i (items_read w x) → contains item_cmp i (support w us) ≡ true
  reached_item x r i h =
      ordered_in i (filter_map item_in us ++ flat_map (items_read w) (reached w us))
      (in_back i (filter_map item_in us) (flat_map (items_read w) (reached w us))
      (in_flat_map (items_read w) (reached w us) x i (complete w (filter_map cell_in us) x r) h))

module _ (w u : Workbook) (first : IsWellFormed w) (second : IsWellFormed u) (same : u.schema ≡ w.schema) where
  -- the settled worlds agree at what is used, where the workbooks agree at its support
  used_agrees : (us : List Use) → ((i : Item) → contains item_cmp i (support w us) ≡ true → content w.state i ≡ content u.state i) → (x : Use) → IsIn x us →
      AgreeAt (settled_world w) (settled_world u) x
  used_agrees us agree (used.Read i) h =
      content_agrees w u (outcome_in (formula_cells w) (table w (rounds w))) (outcome_in (formula_cells u) (table u (rounds u))) i
      (agree i (direct_item w us i h))
  used_agrees us agree (used.Cell o c) h =
      sym
      (same_meaning w u same first.rising second.rising (filter_map cell_in us) (λ x r i k. agree i (reached_item w us x r i k)) (o, c)
      (Reaches.direct (o, c) (in_has (filter_map cell_in us) (o, c) (in_filter_map cell_in us (used.Cell o c) (o, c) h refl))))

  abbrev Agreed : List Use → Type 0
  Agreed us = Agree (settled_world w) (settled_world u) us

  front : (xs ys : List Use) → Agreed (xs ++ ys) → Agreed xs
  front xs ys h = front_agrees (settled_world w) (settled_world u) xs ys h

  back : (xs ys : List Use) → Agreed (xs ++ ys) → Agreed ys
  back xs ys h = back_agrees (settled_world w) (settled_world u) xs ys h

  same_run : (e : Core) (p : Place) (v : Variables) → Agreed (settled_run w e p v).uses → settled_run u e p v ≡ settled_run w e p v
  same_run e p v h = uses_suffice (settled_world w) (settled_world u) p v e h

  module _ (v : Variables) where
    same_slots : (x : Value) (slots : List CoreSlot) → Agreed (row_uses w v slots x) →
        map (λ slot. (slot_run u (bind v x) slot).outcome) slots ≡ map (λ slot. (slot_run w (bind v x) slot).outcome) slots
    same_slots x [] h = refl
    same_slots x (slot ∷ slots) h =
        ap (λ r. r.outcome ∷ map (λ s. (slot_run u (bind v x) s).outcome) slots)
        (same_run slot.shown (place.Slot slot.number) (bind v x) (front (slot_run w (bind v x) slot).uses (row_uses w v slots x) h))
        ∙ ap (λ l. (slot_run w (bind v x) slot).outcome ∷ l) (same_slots x slots (back (slot_run w (bind v x) slot).uses (row_uses w v slots x) h))

    same_rows : (slots : List CoreSlot) (xs : List Value) → Agreed (flat_map (row_uses w v slots) xs) → map (row u v slots) xs ≡ map (row w v slots) xs
    same_rows slots [] h = refl
    same_rows slots (x ∷ xs) h =
        ap (λ l. record { of = x; shows = l } ∷ map (row u v slots) xs) (same_slots x slots (front (row_uses w v slots x) (flat_map (row_uses w v slots) xs) h))
        ∙ ap (λ l. row w v slots x ∷ l) (same_rows slots xs (back (row_uses w v slots x) (flat_map (row_uses w v slots) xs) h))

    rows_of : (slots : List CoreSlot) (o : Outcome (List Value)) → Agreed (flat_map (row_uses w v slots) (values_of o)) →
        after o (λ xs. Ok (map (row u v slots) xs)) ≡ after o (λ xs. Ok (map (row w v slots) xs))
    rows_of slots (Ok xs) h = ap Ok (same_rows slots xs h)
    rows_of slots (Err e) h = refl

    same_part : (x : CoreView) → Agreed (part_uses w v x) → part_of u v x ≡ part_of w v x
    same_part (view.Show slot) h = ap (λ r. part.Show slot.name r.outcome) (same_run slot.shown (place.Slot slot.number) v h)
    same_part (view.Table n name source slots) h =
        let uses = (source_run w v n source).uses in
        let rest = flat_map (row_uses w v slots) (values_of (source_run w v n source).outcome) in
        ap (λ r. part.Table name (map (λ s. s.name) slots) (after r.outcome (λ xs. Ok (map (row u v slots) xs))))
        (same_run source (place.Slot n) v (front uses rest h))
        ∙ ap (part.Table name (map (λ s. s.name) slots)) (rows_of slots (source_run w v n source).outcome (back uses rest h))

    same_parts : (xs : List CoreView) → Agreed (flat_map (part_uses w v) xs) → map (part_of u v) xs ≡ map (part_of w v) xs
    same_parts [] h = refl
    same_parts (x ∷ xs) h =
        ap (λ p. p ∷ map (part_of u v) xs) (same_part x (front (part_uses w v x) (flat_map (part_uses w v) xs) h))
        ∙ ap (λ l. part_of w v x ∷ l) (same_parts xs (back (part_uses w v x) (flat_map (part_uses w v) xs) h))

pub support_suffices : SupportSuffices
support_suffices w u first second same allow views caller arguments agree =
    let v = first_variables caller arguments in
    let uses = (allow_run w allow v).uses in
    let shown = flat_map (part_uses w v) views in
    let known : Agree (settled_world w) (settled_world u) (view_uses w allow views caller arguments) =
    all_agree (settled_world w) (settled_world u) (view_uses w allow views caller arguments)
    (used_agrees w u first second same (view_uses w allow views caller arguments) agree)
    in
    let rest = back_agrees (settled_world w) (settled_world u) uses (shown ++ argument_uses arguments) known in
    ap (λ r. parts_if (truth (place.Slot 0) r).outcome (map (part_of u v) views))
    (same_run w u first second same allow (place.Slot 0) v (front_agrees (settled_world w) (settled_world u) uses (shown ++ argument_uses arguments) known))
    ∙ ap (parts_if (truth (place.Slot 0) (allow_run w allow v)).outcome)
    (same_parts w u first second same v views (front_agrees (settled_world w) (settled_world u) shown (argument_uses arguments) rest))
