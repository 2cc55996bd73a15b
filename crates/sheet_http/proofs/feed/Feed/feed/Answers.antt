use Rattle.std.proofs.Common.{◌≡◌, ◌++◌, ◌∷◌, ◌≤◌, [], slice_index, ap, arith, length, length-append, subst, sym}
use Rattle.sheet_http.specs.Fronts.{IsKnownFront}
use Rattle.sheet_http.specs.Knowing.{Knows}
use Rattle.sheet_http.specs.Waiting.{bytes_wanted}
use Rattle.sheet_http.specs.declared.feed.Known.TheVariants.{Open}
use Rattle.sheet_http.proofs.FeedLemmas.{line_goes_on, within_more}
use Rattle.sheet_http.proofs.FrontLemmas.{front-append}
use Rattle.sheet_http.proofs.feed.Feed.feed.Goals as goal

pub invariant_of-self-then-goes_on : goal.invariant_of-self-then-goes_on
invariant_of-self-then-goes_on c =
    let inside = c.self.inside in
    let before = inside.held.bytes in
    let after = c.push_next.new.self.bytes in
    let byte = slice_index c.args.piece.now 0 in
    let goes_on = c.goes_on.ensures c.if-goes_on.true in
    let more : before ++ byte ∷ [] ≡ after = sym c.push_next.ensures.bytes in
    let longer : length before ≤ length after = omega (arith, ap length more, length-append before (byte ∷ [])) in
    let known : Knows after Open = subst (λ b. Knows b Open) more
    (line_goes_on before byte (subst (Knows before) goes_on.0 c.self.invariant.0) (omega (arith, goes_on.1, c.len.ensures.count)) c.if-byte-ne10.true) in
    let both : Knows after inside.known × (c.push_next.new.self.wanted ≡ bytes_wanted inside.known (length after)) =
    subst (λ k. Knows after k × (c.push_next.new.self.wanted ≡ bytes_wanted k (length after))) (sym goes_on.0) (known, c.push_next.ensures.wanted) in
    let front : IsKnownFront after inside.front =
    subst (λ b. IsKnownFront b inside.front) more (front-append before (byte ∷ []) inside.front c.self.invariant.2) in
    (both.0, both.1, front, c.self.invariant.3, within_more inside.told (length before) (length after) longer c.self.invariant.4)
