use Rattle.std.proofs.Common.{◌+◌, ◌≤◌, length, arith}
use Rattle.sheet_http.proofs.SearchLemmas.{open_until, open_jump}
use Rattle.sheet_http.proofs.FrontLemmas.{front_whole}
use Rattle.sheet_http.proofs.search.judge_until.Goals as goal

pub returns-in-Open-clause-open : goal.returns-in-Open-clause-open
returns-in-Open-clause-open c =
    let held = c.args.held.now in
    let last = c.in-Some.last in
    let feed = c.in-Some.ensures in
    let told = c.in-Open.ensures.judges in
    let inside : c.args.end ≤ length held = omega (arith, c.requires.end) in
    let short : c.args.end ≤ 8192 = omega (arith, c.requires.end) in
    let jump = open_jump held last (omega (arith, feed.1, inside)) (omega (arith, feed.1, short)) told.0 told.1 in
    open_until held (last + 1) c.args.end jump (omega (arith, feed.1)) inside short (λ k low high. feed.3 k (omega (arith, low)) high)

pub returns-in_default-clause-open : goal.returns-in_default-clause-open
returns-in_default-clause-open c =
    let held = c.args.held.now in
    let inside : c.args.end ≤ length held = omega (arith, c.requires.end) in
    let short : c.args.end ≤ 8192 = omega (arith, c.requires.end) in
    let start = c.requires.open in
    open_until held c.args.judged.now c.args.end start (omega (arith, start.within, start.short, c.requires.end)) inside short c.in_default.ensures

pub returns-in-Open-clause-front : goal.returns-in-Open-clause-front
returns-in-Open-clause-front c = front_whole c.args.held.now (c.in-Some.last + 1) c.judge_behind.new.front c.judge_behind.ensures.front

pub returns-in-Whole-clause-front : goal.returns-in-Whole-clause-front
returns-in-Whole-clause-front c = front_whole c.args.held.now (c.in-Some.last + 1) c.judge_behind.new.front c.judge_behind.ensures.front

pub returns-in-NotHttp-clause-front : goal.returns-in-NotHttp-clause-front
returns-in-NotHttp-clause-front c = front_whole c.args.held.now (c.in-Some.last + 1) c.judge_behind.new.front c.judge_behind.ensures.front
