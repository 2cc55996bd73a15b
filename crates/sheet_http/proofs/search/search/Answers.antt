use Rattle.std.proofs.Common.{◌≡◌, length, arith}
use Rattle.sheet_http.proofs.SearchLemmas.{open_all}
use Rattle.sheet_http.proofs.search.search.Goals as goal

pub returns-in-None-clause-found : goal.returns-in-None-clause-found
returns-in-None-clause-found c =
    let front = c.in-None.ensures.open in
    let place = c.judge_until.new.judged in
    let all : place ≡ length c.args.held.now = omega (arith, c.in-None.ensures.found, c.min-end.ensures, c.if-held-lt-LONGEST_HEAD.true) in (
      c.if-held-lt-LONGEST_HEAD.true,
      open_all c.args.held.now place front all,
      λ m y. omega (arith, front.hope m y, all),
    )

pub returns-in-None-2-clause-found : goal.returns-in-None-2-clause-found
returns-in-None-2-clause-found c =
    let front = c.in-None.ensures.open in
    let all : c.judge_until.new.judged ≡ 8192 = omega (arith, c.in-None.ensures.found, c.min-end.ensures, c.if-held-lt-LONGEST_HEAD.false) in (
      omega (arith, c.if-held-lt-LONGEST_HEAD.false),
      rw all at front.none,
      λ m y. omega (arith, front.hope m y, all),
    )
