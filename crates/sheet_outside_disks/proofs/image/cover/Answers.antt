use Rattle.std.proofs.Common.{◌≡◌, ◌+◌, ◌-◌, List, ℕ, ◌++◌, length, take, drop, replicate, sym, ◌∙◌, ap, subst, arith, rules}
use Rattle.std.proofs.lemmas.List.{with_items_is}
use Rattle.sheet_outside_disks.specs.Image.{IsCovered}
use Rattle.sheet_outside_disks.proofs.Covering.{covered}
use Rattle.sheet_outside_disks.proofs.image.cover.Goals as goal

pub returns : goal.returns
returns c =
    let end : c.in-Some.end ≡ c.args.place + c.args.count = search rules in
    let items : c.deref_mut.result.now ≡ c.args.image.now.items ++ replicate (c.in-Some.end - length c.args.image.now.items) c.args.fill = search rules in
    let now : take c.grow.new.bytes.len (c.fill_range.new.bytes ++ drop (length c.fill_range.new.bytes) c.grow.new.bytes.items) ≡ take c.args.place
    (c.args.image.now.items ++ replicate (c.args.place + c.args.count - length c.args.image.now.items) c.args.fill) ++ (replicate c.args.count
    c.args.fill ++ drop (c.args.place + c.args.count)
    (c.args.image.now.items ++ replicate (c.args.place + c.args.count - length c.args.image.now.items) c.args.fill)) =
    with_items_is c.grow.new.bytes c.fill_range.new.bytes (omega (arith, c.fill_range.auto.bytes, c.deref_mut.ensures.len))
    ∙ c.fill_range.ensures
    ∙ ap (λ (l : List ℕ). take c.args.place l ++ (replicate c.args.count c.args.fill ++ drop (c.args.place + c.args.count) l))
    (items ∙ ap (λ n. c.args.image.now.items ++ replicate (n - length c.args.image.now.items) c.args.fill) end) in
    subst (IsCovered c.args.image.now.items c.args.place c.args.count c.args.fill) (sym now)
    (covered c.args.image.now.items c.args.place c.args.count c.args.fill)
