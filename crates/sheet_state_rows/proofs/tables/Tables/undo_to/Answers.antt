use Rattle.std.proofs.Common.{◌≡◌, ◌-◌, [], ◌∷◌, sym, ap, subst, arith, length, length-append}
use Rattle.std.specs.Prelude.{reverse}
use Rattle.sheet_state_rows.specs.Seen.{seen}
use Rattle.sheet_state_rows.specs.Undoing.{undone}
use Rattle.sheet_state_rows.proofs.Undo.{Going, goes, turned}
use Rattle.sheet_state_rows.proofs.tables.Tables.undo_to.Goals as goal

pub loop-self-preserved : goal.loop-self-preserved
loop-self-preserved c =
    let e = c.in-Some.edit in
    let ts = c.args.self.now.earlier in
    let t = c.args.self.now.present in
    let left = reverse c.pop.new.self.items in
    let u = seen c.loop-self.self-inside.rows in
    let n = c.loop-self.self-inside.begun in
    let es : reverse c.loop-self.self-inside.edits.items ≡ e ∷ left = turned _ c.pop.new.self.items e c.in-Some.ensures.items in
    let before = subst (λ l. Going ts t c.args.mark l u n) es c.loop-self.invariant in
    let after = goes ts t c.args.mark e left u n c.loop-self-test.true before in
    subst (λ v. Going ts t c.args.mark left v (n - c.begins.result)) (sym c.take_back.ensures)
    (subst (λ k. Going ts t c.args.mark left (undone e u) (n - k)) (sym c.begins.ensures) after)

pub loop-self-smaller : goal.loop-self-smaller
loop-self-smaller c = omega (arith, ap length c.in-Some.ensures.items, length-append c.pop.new.self.items (c.in-Some.edit ∷ []))
