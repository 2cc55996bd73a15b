use Rattle.std.proofs.Common.{sym, subst, length, []}
use Rattle.sheet_state_references.specs.Below.{NeverFalls}
use Rattle.sheet_state.specs.Places.{Adds, OfAny, IsRowOf, IsOwnRow, RefersTo, IsHomeOf}
use Rattle.sheet_state.proofs.Covering.{covers_objects, covers_cells, covers_extents}
use Rattle.sheet_state.proofs.Underneath.{never_falls}
use Rattle.sheet_state.proofs.places.places_of.Goals as goal

pub own_rows-requires : goal.own_rows-requires
own_rows-requires c = subst NeverFalls (sym c.cells.ensures) (never_falls c.args.tables.now.present.cells c.requires.sound.cells)

pub own_rows-requires-2 : goal.own_rows-requires-2
own_rows-requires-2 c = subst NeverFalls (sym c.extents.ensures) (never_falls c.args.tables.now.present.extents c.requires.sound.extents)

pub returns-clause-objects : goal.returns-clause-objects
returns-clause-objects c =
    let d = c.args.doomed.now in
    covers_objects d c.args.tables.now.present.objects c.in_ok-objects.objects.keys c.requires.sound.objects
    (subst (λ rows. Adds (OfAny d (IsRowOf rows)) (length rows) [] c.in_ok-objects.objects.keys) c.objects.ensures c.in_ok-objects.ensures)

pub returns-clause-cells : goal.returns-clause-cells
returns-clause-cells c =
    let t = c.args.tables.now.present in
    let d = c.args.doomed.now in
    let refs = c.args.references.now in
    covers_cells c.requires.kept.0 t c.requires.sound c.requires.kept.1 d c.requires.only refs c.in_ok-cells.cells.keys c.add_referring.new.places.keys c.requires.listed
    (subst (λ rows. Adds (OfAny d (IsOwnRow rows)) (length rows) [] c.in_ok-cells.cells.keys) c.cells.ensures c.in_ok-cells.ensures)
    (subst (λ rows. Adds (OfAny d (RefersTo rows refs)) (length rows) c.in_ok-cells.cells.keys c.add_referring.new.places.keys) c.cells-2.ensures
    c.in_ok-add_referring.ensures)

pub returns-clause-extents : goal.returns-clause-extents
returns-clause-extents c =
    let t = c.args.tables.now.present in
    let d = c.args.doomed.now in
    let own = c.in_ok-extents.extents.keys in
    let all = c.add_homes.new.places.keys in
    covers_extents c.requires.kept.0 t c.requires.sound c.requires.kept.1 d c.requires.only own all
    (subst (λ rows. Adds (OfAny d (IsOwnRow rows)) (length rows) [] own) c.extents.ensures c.in_ok-extents.ensures)
    (subst (λ rows. Adds (OfAny d (IsHomeOf rows t.extents)) (length t.extents) own all) c.objects-2.ensures
    (subst (λ rows. Adds (OfAny d (IsHomeOf c.objects-2.result.now rows)) (length rows) own all) c.extents-2.ensures c.in_ok-add_homes.ensures))
