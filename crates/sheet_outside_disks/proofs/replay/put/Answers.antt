use Rattle.std.proofs.Common.{◌≡◌, ◌+◌, ◌-◌, ◌<◌, List, ℕ, ◌++◌, length, take, drop, replicate, ◌∙◌, ap, arith, rules}
use Rattle.std.proofs.lemmas.List.{with_items_is}
use Rattle.sheet_outside_disks.proofs.Putting.{put_padded}
use Rattle.sheet_outside_disks.proofs.replay.put.Goals as goal

pub returns : goal.returns
returns c =
    let end : c.in-Some.end ≡ c.args.place + length c.args.piece.now = search rules in
    let items : c.deref_mut.result.now ≡ c.args.bytes.now.items ++ replicate (c.in-Some.end - length c.args.bytes.now.items) 0 = search rules in
    let some : 0 < length c.args.piece.now = search rules in
    with_items_is c.grow.new.bytes c.overwrite.new.bytes (omega (arith, c.overwrite.auto.bytes, c.deref_mut.ensures.len))
    ∙ c.overwrite.ensures
    ∙ ap (λ (l : List ℕ). take c.args.place l ++ (c.args.piece.now ++ drop (c.args.place + length c.args.piece.now) l))
    (items ∙ ap (λ n. c.args.bytes.now.items ++ replicate (n - length c.args.bytes.now.items) 0) end)
    ∙ put_padded c.args.bytes.now.items c.args.piece.now c.args.place some
