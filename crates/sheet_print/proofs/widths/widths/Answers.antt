use Rattle.std.proofs.Common.{◌≡◌, sym, ap, ◌∙◌, [], ◌∷◌, ◌++◌, arith}
use Rattle.std.proofs.lemmas.List.FromFn.{map-range_with_len_more}
use Rattle.std.specs.Prelude.{map}
use Rattle.std.specs.List.{range_with_len}
use Rattle.sheet_print.specs.Widths.{widest}
use Rattle.sheet_print.proofs.widths.widths.Goals as goal

pub loop-place-preserved : goal.loop-place-preserved
loop-place-preserved c =
    let f = widest c.args.lines.now in
    let k = c.loop-place.place in
    let pushed : c.push.new.self.items ≡ c.loop-place.widths.items ++ c.widest.result ∷ [] = c.in_ok-push.ensures.items in
    pushed
    ∙ ap (λ l. l ++ c.widest.result ∷ []) c.loop-place.invariant
    ∙ ap (λ w. map f (range_with_len 0 k) ++ w ∷ []) c.widest.ensures
    ∙ sym (map-range_with_len_more f 0 k k (omega arith))
