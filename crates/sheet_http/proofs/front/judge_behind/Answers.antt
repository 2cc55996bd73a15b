use Rattle.std.proofs.Common.{◌≢◌, length, arith, get_or, subst, sym}
use Rattle.httparse.specs.Grammar.{HasNoRequest}
use Rattle.sheet_http.specs.Fronts.{IsFront}
use Rattle.sheet_http.specs.Lines.{MayBecomeHead}
use Rattle.sheet_http.proofs.FrontLemmas.{front_judged, front_more, front_start, front_there, known_front}
use Rattle.sheet_http.proofs.front.judge_behind.Goals as goal

pub returns-then-are_fields-clause-judges : goal.returns-then-are_fields-clause-judges
returns-then-are_fields-clause-judges c =
    let line = c.args.line.now in
    let place = c.args.front.now in
    let known = front_there line place (omega (arith, c.if-place-gt0.true)) c.requires.front in
    front_judged line (front_more line place known (c.are_fields.ensures c.if-are_fields.true))

pub returns-then-are_fields-clause-front : goal.returns-then-are_fields-clause-front
returns-then-are_fields-clause-front c =
    let line = c.args.line.now in
    let place = c.args.front.now in
    let known = front_there line place (omega (arith, c.if-place-gt0.true)) c.requires.front in
    known_front line (length line) (front_more line place known (c.are_fields.ensures c.if-are_fields.true))

pub returns-then-begins-clause-front : goal.returns-then-begins-clause-front
returns-then-begins-clause-front c =
    let line = c.args.line.now in
    let ends = c.requires.ends in
    let first = c.begins.ensures c.if-begins.true in
    let none = subst HasNoRequest ends.1 c.in-Open.ensures.0 in
    let may = subst MayBecomeHead ends.1 c.in-Open.ensures.1 in
    let other = subst (λ t. (get_or t 0 0 ≢ 13) × (get_or t 0 0 ≢ 10)) ends.1 (first.1, first.2) in
    known_front line (length line) (subst (λ t. IsFront t (length t)) (sym ends.1) (front_start ends.0 none may other.0 other.1))
