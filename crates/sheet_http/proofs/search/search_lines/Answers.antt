use Rattle.std.proofs.Common.{◌≡◌, ◌<◌, length, refl, arith}
use Rattle.sheet_http.proofs.SearchLemmas.{open_more, open_line, hopeless_here, open_all}
use Rattle.sheet_http.proofs.search.search_lines.Goals as goal
use Rattle.sheet_http.proofs.search.search_lines.Goals.{then-held-place-eq10+in-Open, else-held-place-eq10}

pub returns-in-NotHttp-clause-found : goal.returns-in-NotHttp-clause-found
returns-in-NotHttp-clause-found c =
    let inside : c.loop-judged.judged < length c.args.held.now = omega (arith, c.loop-judged-test.true, c.min-end.ensures) in
    let room : c.loop-judged.judged < 8192 = omega (arith, c.loop-judged-test.true, c.min-end.ensures) in
    hopeless_here c.args.held.now c.loop-judged.judged _ c.loop-judged.invariant.front inside room refl c.if-held-place-eq10.true c.in-NotHttp.ensures

pub loop-judged-preserved : goal.loop-judged-preserved
loop-judged-preserved c =
    let inside : c.loop-judged.judged < length c.args.held.now = omega (arith, c.loop-judged-test.true, c.min-end.ensures) in
    let room : c.loop-judged.judged < 8192 = omega (arith, c.loop-judged-test.true, c.min-end.ensures) in
    record {
      front = elim c.if-held-place-eq10.branch [
        | then-held-place-eq10+in-Open w ↦
            let told = w.in-Open.ensures in
            open_line c.args.held.now c.loop-judged.judged c.loop-judged.invariant.front inside room told.0 told.1
        | else-held-place-eq10 w ↦ open_more c.args.held.now c.loop-judged.judged _ c.loop-judged.invariant.front inside room refl w.if-held-place-eq10.false
      ];
      room = omega (arith, c.loop-judged.invariant.room, c.if-held-place-eq10.auto.fields);
    }

pub returns-then-held-lt-LONGEST_HEAD-clause-found : goal.returns-then-held-lt-LONGEST_HEAD-clause-found
returns-then-held-lt-LONGEST_HEAD-clause-found c =
    let front = c.loop-judged.invariant.front in
    let all : c.loop-judged.judged ≡ length c.args.held.now = omega
    (arith, c.loop-judged-test.false, c.min-end.ensures, front.within, c.if-held-lt-LONGEST_HEAD.true) in (
      c.if-held-lt-LONGEST_HEAD.true,
      open_all c.args.held.now c.loop-judged.judged front all,
      λ m y. omega (arith, front.hope m y, all),
    )

pub returns-else-held-lt-LONGEST_HEAD-clause-found : goal.returns-else-held-lt-LONGEST_HEAD-clause-found
returns-else-held-lt-LONGEST_HEAD-clause-found c =
    let front = c.loop-judged.invariant.front in
    let all : c.loop-judged.judged ≡ 8192 = omega (arith, c.loop-judged-test.false, c.min-end.ensures, front.short, c.if-held-lt-LONGEST_HEAD.false) in (
      omega (arith, c.if-held-lt-LONGEST_HEAD.false),
      rw all at front.none,
      λ m y. omega (arith, front.hope m y, all),
    )
