use Rattle.std.proofs.Common.{rules, ◌≡◌, ◌≤◌, true, false, Some, None, refl}
use Rattle.std.specs.Prelude.{bytes_eq}
use Rattle.sheet_callers.specs.Judging.{kept_at}
use Rattle.sheet_callers.proofs.NumberLemmas.{gone_is_past, kept_is_judged}
use Rattle.sheet_callers.proofs.account.Account.judge.Goals as goal

pub returns-in-None : goal.returns-in-None
returns-in-None c =
    let last : c.args.number ≤ c.args.self.now.last = search rules in
    let gone : kept_at c.args.self.now.kept c.args.number ≡ None = search rules in
    let same : c.args.self.now.last ≡ c.self.inside.last = search rules in
    rw (gone_is_past c.args.self.now c.args.number c.args.line.now c.requires last gone, same) refl

pub returns-in-Some : goal.returns-in-Some
returns-in-Some c =
    let last : c.args.number ≤ c.args.self.now.last = search rules in
    let at : kept_at c.args.self.now.kept c.args.number ≡ Some c.in-Some.kept.now = search rules in
    let equal : bytes_eq c.in-Some.kept.now.line c.args.line.now ≡ true = search rules in
    let answer : c.in-Some.kept.now.answer ≡ c.kept.inside.answer = search rules in
    rw (kept_is_judged c.args.self.now c.args.number c.args.line.now c.in-Some.kept.now c.requires last at, equal, answer) refl

pub returns-in-Some-2 : goal.returns-in-Some-2
returns-in-Some-2 c =
    let last : c.args.number ≤ c.args.self.now.last = search rules in
    let at : kept_at c.args.self.now.kept c.args.number ≡ Some c.in-Some.kept.now = search rules in
    let differs : bytes_eq c.in-Some.kept.now.line c.args.line.now ≡ false = search rules in
    rw (kept_is_judged c.args.self.now c.args.number c.args.line.now c.in-Some.kept.now c.requires last at, differs) refl
