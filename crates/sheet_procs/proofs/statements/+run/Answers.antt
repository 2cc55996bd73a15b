use Rattle.std.proofs.Common.{◌≡◌, refl, sym, ap, ◌∙◌, subst, ℕ, ◌+◌, ◌*◌, ◌<◌, ◌∷◌, ◌++◌, [], drop, take, length, true, false, Ok, Err, rules, arith, List}
use Rattle.sheet_values.specs.declared.value.Value.{Value}
use Rattle.sheet_books.specs.Schemas.{schema_of}
use Rattle.sheet_columns.specs.declared.formula.Core.{Core}
use Rattle.sheet_columns.specs.declared.statement.CoreStatement.{CoreStatement, If, For}
use Rattle.sheet_columns.specs.declared.statement.Statements.{Statements}
use Rattle.sheet_meaning.specs.Statements.{is_present, ended, run_statement, run_statements, course_statements, course_turn, course_turns}
use Rattle.sheet_types_rules.specs.Statements.{behind, behind_list}
use Rattle.sheet_procs.specs.Resting.{MayRunKeeping}
use Rattle.sheet_procs.specs.Runs.{point, Runs}
use Rattle.sheet_procs.specs.Typed.{MayRun, MayTurn}
use Rattle.sheet_procs.specs.declared.progress.Progress.{Progress}
use Rattle.sheet_procs.proofs.Blocks.{if_known, for_known, may_branch, may_repeat, may_first, may_rest, may_first_turn, may_rest_turns, may_turn, closed, not_closed}
use Rattle.sheet_procs.proofs.Blocks.{turned, skipped}
use Rattle.sheet_procs.proofs.Cutting.{cut_here, none_left}
use Rattle.sheet_procs.proofs.Going.{UnderWay, begins, goes_on, stops, arrives, ends_on, same_run, front_itself, front_more}
use Rattle.sheet_procs.proofs.Sizes.{heft, heft_list, heft_if, heft_for, heft_at}
use Rattle.sheet_procs.proofs.statements.+run.Goals as goal

-- statements in order
pub run_statements-loop-statement-init : goal.run_statements-loop-statement-init
run_statements-loop-statement-init g t c =
    let b = c.args.engine.now.book in
    record {
      book = refl;
      way = begins b c.args.engine.now.state c.args.progress.now (run_statements c.args.statements.now (schema_of b));
      may = c.requires;
    }

pub run_statements-run_statement-requires : goal.run_statements-run_statement-requires
run_statements-run_statement-requires g t c κs within =
    let l = c.loop-statement in
    let b = c.args.engine.now.book in
    let xs = c.args.statements.now in
    let x = c.statement-item.result in
    let cut = cut_here xs l.statement-index x c.loop-statement-test.true c.statement-item.is in
    let may = subst (λ ys. MayRun (behind_list ys) b l.engine.state l.progress) cut l.invariant.may in
    let first = subst (λ y. MayRun (behind x) y l.engine.state l.progress) (sym l.invariant.book)
    (may_first b l.engine.state l.progress x (drop (l.statement-index + 1) xs) may) in (
      (let small = heft_at xs l.statement-index x c.loop-statement-test.true c.statement-item.is in
          let bound = c.decreases in
          let falls : 5 * heft x < t = omega (arith, bound, small) in
          falls),
      (search rules, λ kept. first),
    )

pub run_statements-returns-in-Err-clause-runs : goal.run_statements-returns-in-Err-clause-runs
run_statements-returns-in-Err-clause-runs g t c =
    let l = c.loop-statement in
    let b = c.args.engine.now.book in
    let s = schema_of b in
    let xs = c.args.statements.now in
    let x = c.statement-item.result in
    let rest = drop (l.statement-index + 1) xs in
    let cut = cut_here xs l.statement-index x c.loop-statement-test.true c.statement-item.is in
    let way = subst (λ ys. UnderWay b c.args.engine.now.state l.engine.state c.args.progress.now l.progress (run_statements xs s) (run_statements ys s)) cut
    l.invariant.way in
    stops b c.args.engine.now.state l.engine.state c.run_statement.new.engine.state c.args.progress.now l.progress c.run_statement.new.progress
    (run_statements xs s) (run_statement x s) (run_statements rest s) c.in-Err.refusal way
    (subst (λ y. Runs y l.engine.state c.run_statement.new.engine.state l.progress c.run_statement.new.progress (Err c.in-Err.refusal)
    (run_statement x (schema_of y))) l.invariant.book c.in-Err.ensures.runs)

pub run_statements-loop-statement-preserved : goal.run_statements-loop-statement-preserved
run_statements-loop-statement-preserved g t c =
    let l = c.loop-statement in
    let b = c.args.engine.now.book in
    let s = schema_of b in
    let xs = c.args.statements.now in
    let x = c.statement-item.result in
    let rest = drop (l.statement-index + 1) xs in
    let cut = cut_here xs l.statement-index x c.loop-statement-test.true c.statement-item.is in
    let way = subst (λ ys. UnderWay b c.args.engine.now.state l.engine.state c.args.progress.now l.progress (run_statements xs s) (run_statements ys s)) cut
    l.invariant.way in
    let may = subst (λ ys. MayRun (behind_list ys) b l.engine.state l.progress) cut l.invariant.may in
    let runs = subst (λ y. Runs y l.engine.state c.run_statement.new.engine.state l.progress c.run_statement.new.progress (Ok tt)
    (run_statement x (schema_of y))) l.invariant.book c.in-Ok.ensures.runs in
    record {
      book = c.in-Ok.ensures.book ∙ l.invariant.book;
      way = goes_on b c.args.engine.now.state l.engine.state c.run_statement.new.engine.state c.args.progress.now l.progress c.run_statement.new.progress
          (run_statements xs s) (run_statement x s) (run_statements rest s) way runs;
      may = may_rest b l.engine.state c.run_statement.new.engine.state l.progress c.run_statement.new.progress x rest may runs;
    }

pub run_statements-returns-clause-runs : goal.run_statements-returns-clause-runs
run_statements-returns-clause-runs g t c =
    let l = c.loop-statement in
    let b = c.args.engine.now.book in
    let s = schema_of b in
    let xs = c.args.statements.now in
    arrives b c.args.engine.now.state l.engine.state c.args.progress.now l.progress (run_statements xs s)
    (subst (λ ys. UnderWay b c.args.engine.now.state l.engine.state c.args.progress.now l.progress (run_statements xs s) (run_statements ys s))
    (none_left xs l.statement-index c.loop-statement-test.false) l.invariant.way)

-- turns in order
pub run_turns-loop-value-init : goal.run_turns-loop-value-init
run_turns-loop-value-init g t c =
    let b = c.args.engine.now.book in
    record {
      book = refl;
      way = begins b c.args.engine.now.state c.args.progress.now (λ p. (course_turns (course_statements c.args.body.now (schema_of b)) c.args.values.now p).end);
      may = c.requires;
    }

pub run_turns-run_turn-requires : goal.run_turns-run_turn-requires
run_turns-run_turn-requires g t c κs within =
    let l = c.loop-value in
    let b = c.args.engine.now.book in
    let xs = c.args.values.now in
    let x = c.value-item.result in
    let cut = cut_here xs l.value-index x c.loop-value-test.true c.value-item.is in
    let may = subst (λ ys. MayTurn c.args.body.now ys b l.engine.state l.progress) cut l.invariant.may in
    let first = subst (λ y. MayTurn c.args.body.now (x ∷ []) y l.engine.state l.progress) (sym l.invariant.book)
    (may_first_turn b l.engine.state l.progress c.args.body.now x (drop (l.value-index + 1) xs) may) in
    (search rules, (search rules, first))

pub run_turns-returns-in-Err-clause-runs : goal.run_turns-returns-in-Err-clause-runs
run_turns-returns-in-Err-clause-runs g t c =
    let l = c.loop-value in
    let b = c.args.engine.now.book in
    let body = c.args.body.now in
    let inner = course_statements body (schema_of b) in
    let xs = c.args.values.now in
    let x = c.value-item.result in
    let rest = drop (l.value-index + 1) xs in
    let cut = cut_here xs l.value-index x c.loop-value-test.true c.value-item.is in
    let way = subst (λ ys. UnderWay b c.args.engine.now.state l.engine.state c.args.progress.now l.progress (λ p. (course_turns inner xs p).end)
    (λ p. (course_turns inner ys p).end)) cut l.invariant.way in
    stops b c.args.engine.now.state l.engine.state c.run_turn.new.engine.state c.args.progress.now l.progress c.run_turn.new.progress
    (λ p. (course_turns inner xs p).end) (λ p. (course_turn inner x p).end) (λ p. (course_turns inner rest p).end) c.in-Err.refusal way
    (subst (λ y. Runs y l.engine.state c.run_turn.new.engine.state l.progress c.run_turn.new.progress (Err c.in-Err.refusal)
    (λ p. (course_turn (course_statements body (schema_of y)) x p).end)) l.invariant.book c.in-Err.ensures.runs)

pub run_turns-loop-value-preserved : goal.run_turns-loop-value-preserved
run_turns-loop-value-preserved g t c =
    let l = c.loop-value in
    let b = c.args.engine.now.book in
    let body = c.args.body.now in
    let inner = course_statements body (schema_of b) in
    let xs = c.args.values.now in
    let x = c.value-item.result in
    let rest = drop (l.value-index + 1) xs in
    let cut = cut_here xs l.value-index x c.loop-value-test.true c.value-item.is in
    let way = subst (λ ys. UnderWay b c.args.engine.now.state l.engine.state c.args.progress.now l.progress (λ p. (course_turns inner xs p).end)
    (λ p. (course_turns inner ys p).end)) cut l.invariant.way in
    let may = subst (λ ys. MayTurn body ys b l.engine.state l.progress) cut l.invariant.may in
    let runs = subst (λ y. Runs y l.engine.state c.run_turn.new.engine.state l.progress c.run_turn.new.progress (Ok tt)
    (λ p. (course_turn (course_statements body (schema_of y)) x p).end)) l.invariant.book c.in-Ok.ensures.runs in
    record {
      book = c.in-Ok.ensures.book ∙ l.invariant.book;
      way = goes_on b c.args.engine.now.state l.engine.state c.run_turn.new.engine.state c.args.progress.now l.progress c.run_turn.new.progress
          (λ p. (course_turns inner xs p).end) (λ p. (course_turn inner x p).end) (λ p. (course_turns inner rest p).end) way runs;
      may = may_rest_turns b l.engine.state c.run_turn.new.engine.state l.progress c.run_turn.new.progress body x rest may runs;
    }

pub run_turns-returns-clause-runs : goal.run_turns-returns-clause-runs
run_turns-returns-clause-runs g t c =
    let l = c.loop-value in
    let b = c.args.engine.now.book in
    let inner = course_statements c.args.body.now (schema_of b) in
    let xs = c.args.values.now in
    arrives b c.args.engine.now.state l.engine.state c.args.progress.now l.progress (λ p. (course_turns inner xs p).end)
    (subst (λ ys. UnderWay b c.args.engine.now.state l.engine.state c.args.progress.now l.progress (λ p. (course_turns inner xs p).end)
    (λ p. (course_turns inner ys p).end)) (none_left xs l.value-index c.loop-value-test.false) l.invariant.way)

-- a block
pub run_block-returns-in-Ok-clause-runs : goal.run_block-returns-in-Ok-clause-runs
run_block-returns-in-Ok-clause-runs g t c =
    let b = c.args.engine.now.book in
    let k = c.args.engine.now.state in
    let l = c.run_statements.new.engine.state in
    let m = c.args.progress.now in
    let n = c.run_statements.new.progress in
    let xs = c.args.body.now in
    let last : Progress = record { variables = c.cut.new.self; reply = n.reply; touched = n.touched } in
    let s = schema_of b in
    let whole = closed b k l m m n xs (front_itself m.variables) refl refl last (c.cut.ensures ∙ ap (λ j. take j n.variables) c.len-outer.ensures) refl refl
    c.in-Ok.ensures.runs in
    same_run b k l m last (λ q. ended q (run_statements xs s (record q { variables = m.variables }))) (λ q. ended q (run_statements xs s q)) (Ok tt)
    (λ kept. refl) whole

pub run_block-returns-in-Err-clause-runs : goal.run_block-returns-in-Err-clause-runs
run_block-returns-in-Err-clause-runs g t c =
    let b = c.args.engine.now.book in
    let k = c.args.engine.now.state in
    let l = c.run_statements.new.engine.state in
    let m = c.args.progress.now in
    let n = c.run_statements.new.progress in
    let xs = c.args.body.now in
    let s = schema_of b in
    same_run b k l m n (λ q. ended q (run_statements xs s (record q { variables = m.variables }))) (λ q. ended q (run_statements xs s q))
    (Err c.in-Err.refusal) (λ kept. refl)
    (not_closed b k l m m n xs (front_itself m.variables) refl refl c.in-Err.refusal c.in-Err.ensures.runs)

-- a turn
pub run_turn-returns-then-not-is_present-clause-runs : goal.run_turn-returns-then-not-is_present-clause-runs
run_turn-returns-then-not-is_present-clause-runs g t c =
    let k = c.args.engine.now.state in
    let gone : is_present k.present.state c.args.value.now ≡ false = search rules in
    skipped c.args.engine.now.book k c.args.progress.now c.args.body.now c.args.value.now gone

pub run_turn-run_statements-requires : goal.run_turn-run_statements-requires
run_turn-run_statements-requires g t c κs within =
    let m = c.args.progress.now in
    let x = c.args.value.now in
    let n : Progress = record { variables = c.push.new.self; reply = m.reply; touched = m.touched } in
    let variables : c.push.new.self ≡ m.variables ++ (x ∷ []) ∷ [] =
    c.in_ok-push.ensures.ok ∙ ap (λ (set : List Value). m.variables ++ set ∷ []) (c.in_ok-set.ensures ∙ ap (λ (v : Value). v ∷ []) c.in_ok-copy.ensures) in
    (search rules, (search rules, may_turn c.args.engine.now.book c.args.engine.now.state m n c.args.body.now x c.requires variables refl))

pub run_turn-returns-in-Ok-clause-runs : goal.run_turn-returns-in-Ok-clause-runs
run_turn-returns-in-Ok-clause-runs g t c =
    let b = c.args.engine.now.book in
    let k = c.args.engine.now.state in
    let l = c.run_statements.new.engine.state in
    let m = c.args.progress.now in
    let x = c.args.value.now in
    let xs = c.args.body.now in
    let s = schema_of b in
    let inside : Progress = record { variables = c.push.new.self; reply = m.reply; touched = m.touched } in
    let n = c.run_statements.new.progress in
    let last : Progress = record { variables = c.cut.new.self; reply = n.reply; touched = n.touched } in
    let there : is_present k.present.state x ≡ true = search rules in
    let variables : c.push.new.self ≡ m.variables ++ (x ∷ []) ∷ [] =
    c.in_ok-push.ensures.ok ∙ ap (λ (set : List Value). m.variables ++ set ∷ []) (c.in_ok-set.ensures ∙ ap (λ (v : Value). v ∷ []) c.in_ok-copy.ensures) in
    let front = ap (take (length m.variables)) variables ∙ front_more m.variables ((x ∷ []) ∷ []) in
    let whole = closed b k l m inside n xs front refl refl last (c.cut.ensures ∙ ap (λ j. take j n.variables) c.len-outer.ensures) refl refl
    c.in-Ok.ensures.runs in
    turned b k l m last xs x (Ok tt) there
    (same_run b k l m last (λ q. ended q (run_statements xs s (record q { variables = inside.variables })))
    (λ q. ended q (run_statements xs s (record q { variables = m.variables ++ (x ∷ []) ∷ [] }))) (Ok tt)
    (λ kept. ap (λ (vs : List (List Value)). ended (point k m kept) (run_statements xs s (record (point k m kept) { variables = vs }))) (sym variables)) whole)

pub run_turn-returns-in-Err-clause-runs : goal.run_turn-returns-in-Err-clause-runs
run_turn-returns-in-Err-clause-runs g t c =
    let b = c.args.engine.now.book in
    let k = c.args.engine.now.state in
    let l = c.run_statements.new.engine.state in
    let m = c.args.progress.now in
    let x = c.args.value.now in
    let xs = c.args.body.now in
    let s = schema_of b in
    let inside : Progress = record { variables = c.push.new.self; reply = m.reply; touched = m.touched } in
    let n = c.run_statements.new.progress in
    let there : is_present k.present.state x ≡ true = search rules in
    let variables : c.push.new.self ≡ m.variables ++ (x ∷ []) ∷ [] =
    c.in_ok-push.ensures.ok ∙ ap (λ (set : List Value). m.variables ++ set ∷ []) (c.in_ok-set.ensures ∙ ap (λ (v : Value). v ∷ []) c.in_ok-copy.ensures) in
    let front = ap (take (length m.variables)) variables ∙ front_more m.variables ((x ∷ []) ∷ []) in
    turned b k l m n xs x (Err c.in-Err.refusal) there
    (same_run b k l m n (λ q. ended q (run_statements xs s (record q { variables = inside.variables })))
    (λ q. ended q (run_statements xs s (record q { variables = m.variables ++ (x ∷ []) ∷ [] }))) (Err c.in-Err.refusal)
    (λ kept. ap (λ (vs : List (List Value)). ended (point k m kept) (run_statements xs s (record (point k m kept) { variables = vs }))) (sym variables))
    (not_closed b k l m inside n xs front refl refl c.in-Err.refusal c.in-Err.ensures.runs))

-- the statements that hold blocks
pub run_choice-run_block-requires : goal.run_choice-run_block-requires
run_choice-run_block-requires g t c κs within = (
  search rules,
  (
    search rules,
    let b = c.args.engine.now.book in
        let k = c.args.engine.now.state in
        let m = c.args.progress.now in
        let read : Statements = record { list = c.args.body.now } in
        let other : Statements = record { list = c.args.otherwise.now } in
        let may = (may_branch b k m c.args.number c.args.condition.now read other (c.requires [])).0 in
        subst (λ y. MayRun (behind_list c.args.body.now) y c.truth_of.new.engine.state m) (sym c.in_ok-holds.ensures.book)
        (subst (λ y. MayRun (behind_list c.args.body.now) b y m) (sym c.in_ok-holds.ensures.state) may),
  ),
)

pub run_choice-run_block-requires-else-holds : goal.run_choice-run_block-requires-else-holds
run_choice-run_block-requires-else-holds g t c κs within = (
  search rules,
  (
    search rules,
    let b = c.args.engine.now.book in
        let k = c.args.engine.now.state in
        let m = c.args.progress.now in
        let read : Statements = record { list = c.args.body.now } in
        let other : Statements = record { list = c.args.otherwise.now } in
        let may = (may_branch b k m c.args.number c.args.condition.now read other (c.requires [])).1 in
        subst (λ y. MayRun (behind_list c.args.otherwise.now) y c.truth_of.new.engine.state m) (sym c.in_ok-holds.ensures.book)
        (subst (λ y. MayRun (behind_list c.args.otherwise.now) b y m) (sym c.in_ok-holds.ensures.state) may),
  ),
)

pub run_loop-run_turns-requires : goal.run_loop-run_turns-requires
run_loop-run_turns-requires g t c κs within = (
  search rules,
  (
    search rules,
    let b = c.args.engine.now.book in
        let k = c.args.engine.now.state in
        let m = c.args.progress.now in
        let set = c.in_ok-set.set in
        let body = c.args.body.now in
        let values = c.as_slice.result.now in
        let read : Statements = record { list = body } in
        let may = may_repeat b k m c.args.number c.args.source.now read set (c.requires []) c.in_ok-set.ensures.comes in
        subst (λ y. MayTurn body values y c.set_of.new.engine.state m) (sym c.in_ok-set.ensures.book)
        (subst (λ y. MayTurn body values b y m) (sym c.in_ok-set.ensures.state)
        (subst (λ vs. MayTurn body vs b k m) (sym c.as_slice.ensures.values) may)),
  ),
)

pub run_choice-returns-then-holds-clause-runs : goal.run_choice-returns-then-holds-clause-runs
run_choice-returns-then-holds-clause-runs g t c =
    let b = c.args.engine.now.book in
    let k = c.args.engine.now.state in
    let l = c.truth_of.new.engine.state in
    let o = c.run_block.new.engine.state in
    let m = c.args.progress.now in
    let n = c.run_block.new.progress in
    let s = schema_of b in
    let r = c.run_block.result in
    let read : Statements = record { list = c.args.body.now } in
    let other : Statements = record { list = c.args.otherwise.now } in
    ends_on b k l o m m n (run_statement (If c.args.number c.args.condition.now read other) s) (λ q. ended q (run_statements c.args.body.now s q)) r
    (if_known b k l c.in_ok-holds.ensures.state m c.args.number c.args.condition.now read other true (c.in_ok-holds.ensures.comes ∙ ap Ok c.if-holds.true))
    (subst (λ y. Runs y l o m n r (λ q. ended q (run_statements c.args.body.now (schema_of y) q))) c.in_ok-holds.ensures.book c.run_block.ensures.runs)

pub run_choice-returns-else-holds-clause-runs : goal.run_choice-returns-else-holds-clause-runs
run_choice-returns-else-holds-clause-runs g t c =
    let b = c.args.engine.now.book in
    let k = c.args.engine.now.state in
    let l = c.truth_of.new.engine.state in
    let o = c.run_block-else-holds.new.engine.state in
    let m = c.args.progress.now in
    let n = c.run_block-else-holds.new.progress in
    let s = schema_of b in
    let r = c.run_block-else-holds.result in
    let read : Statements = record { list = c.args.body.now } in
    let other : Statements = record { list = c.args.otherwise.now } in
    ends_on b k l o m m n (run_statement (If c.args.number c.args.condition.now read other) s) (λ q. ended q (run_statements c.args.otherwise.now s q)) r
    (if_known b k l c.in_ok-holds.ensures.state m c.args.number c.args.condition.now read other false (c.in_ok-holds.ensures.comes ∙ ap Ok c.if-holds.false))
    (subst (λ y. Runs y l o m n r (λ q. ended q (run_statements c.args.otherwise.now (schema_of y) q))) c.in_ok-holds.ensures.book
    c.run_block-else-holds.ensures.runs)

pub run_loop-returns-clause-runs : goal.run_loop-returns-clause-runs
run_loop-returns-clause-runs g t c =
    let b = c.args.engine.now.book in
    let k = c.args.engine.now.state in
    let l = c.set_of.new.engine.state in
    let o = c.run_turns.new.engine.state in
    let m = c.args.progress.now in
    let n = c.run_turns.new.progress in
    let s = schema_of b in
    let r = c.run_turns.result in
    let set = c.in_ok-set.set in
    let body = c.args.body.now in
    let values = c.as_slice.result.now in
    let read : Statements = record { list = body } in
    ends_on b k l o m m n (run_statement (For c.args.number c.args.source.now read) s) (λ q. (course_turns (course_statements body s) set q).end) r
    (for_known b k l c.in_ok-set.ensures.state m c.args.number c.args.source.now read set c.in_ok-set.ensures.comes)
    (subst (λ vs. Runs b l o m n r (λ q. (course_turns (course_statements body s) vs q).end)) c.as_slice.ensures.values
    (subst (λ y. Runs y l o m n r (λ q. (course_turns (course_statements body (schema_of y)) values q).end)) c.in_ok-set.ensures.book
    c.run_turns.ensures.runs))

-- the statement of two lists
if_listed : (x : CoreStatement) (n : ℕ) (e : Core) (body otherwise : Statements) (read other : List CoreStatement) → x ≡ If n e body otherwise →
    read ≡ body.list → other ≡ otherwise.list → x ≡ If n e (record { list = read }) (record { list = other })
if_listed x n e body otherwise read other is first second =
    is
    ∙ ap (λ (xs : List CoreStatement). If n e (record { list = xs }) otherwise) (sym first)
    ∙ ap (λ (ys : List CoreStatement). If n e (record { list = read }) (record { list = ys })) (sym second)

for_listed : (x : CoreStatement) (n : ℕ) (e : Core) (body : Statements) (read : List CoreStatement) → x ≡ For n e body → read ≡ body.list →
    x ≡ For n e (record { list = read })
for_listed x n e body read is first = is ∙ ap (λ (xs : List CoreStatement). For n e (record { list = xs })) (sym first)

pub run_statement-run_choice-requires : goal.run_statement-run_choice-requires
run_statement-run_choice-requires g t c κs within = (
  (let whole = ap heft c.in-If.is ∙ heft_if c.in-If.number c.in-If.condition c.in-If.body c.in-If.otherwise in
      let first = ap heft_list c.as_slice.ensures in
      let second = ap heft_list c.as_slice-in-If.ensures in
      let bound = c.decreases in
      let falls : 5 * (heft_list c.as_slice.result.now + heft_list c.as_slice-in-If.result.now) + 3 < t = omega (arith, bound, whole, first, second) in
      falls),
  (
    search rules,
    subst (λ x. MayRunKeeping (behind x) c.args.engine.now.book c.args.engine.now.state c.args.progress.now)
        (if_listed c.args.statement.now c.in-If.number c.in-If.condition c.in-If.body c.in-If.otherwise c.as_slice.result.now c.as_slice-in-If.result.now c.in-If.is
        c.as_slice.ensures c.as_slice-in-If.ensures) c.requires,
  ),
)

pub run_statement-run_loop-requires : goal.run_statement-run_loop-requires
run_statement-run_loop-requires g t c κs within = (
  (let whole = ap heft c.in-For.is ∙ heft_for c.in-For.number c.in-For.source c.in-For.body in
      let first = ap heft_list c.as_slice-in-For.ensures in
      let bound = c.decreases in
      let falls : 5 * heft_list c.as_slice-in-For.result.now + 4 < t = omega (arith, bound, whole, first) in
      falls),
  (
    search rules,
    subst (λ x. MayRunKeeping (behind x) c.args.engine.now.book c.args.engine.now.state c.args.progress.now)
        (for_listed c.args.statement.now c.in-For.number c.in-For.source c.in-For.body c.as_slice-in-For.result.now c.in-For.is c.as_slice-in-For.ensures)
        c.requires,
  ),
)

pub run_statement-returns-in-If-clause-runs : goal.run_statement-returns-in-If-clause-runs
run_statement-returns-in-If-clause-runs g t c =
    let b = c.args.engine.now.book in
    subst (λ x. Runs b c.args.engine.now.state c.run_choice.new.engine.state c.args.progress.now c.run_choice.new.progress c.run_choice.result
    (run_statement x (schema_of b)))
    (sym (if_listed c.args.statement.now c.in-If.number c.in-If.condition c.in-If.body c.in-If.otherwise c.as_slice.result.now c.as_slice-in-If.result.now
    c.in-If.is c.as_slice.ensures c.as_slice-in-If.ensures)) c.run_choice.ensures.runs

pub run_statement-returns-in-For-clause-runs : goal.run_statement-returns-in-For-clause-runs
run_statement-returns-in-For-clause-runs g t c =
    let b = c.args.engine.now.book in
    subst (λ x. Runs b c.args.engine.now.state c.run_loop.new.engine.state c.args.progress.now c.run_loop.new.progress c.run_loop.result
    (run_statement x (schema_of b)))
    (sym (for_listed c.args.statement.now c.in-For.number c.in-For.source c.in-For.body c.as_slice-in-For.result.now c.in-For.is
    c.as_slice-in-For.ensures)) c.run_loop.ensures.runs

pub run_statement-change-requires : goal.run_statement-change-requires
run_statement-change-requires g t c =
    subst (λ x. MayRun (behind x) c.args.engine.now.book c.args.engine.now.state c.args.progress.now) c.in-Change.is (c.requires [])

pub run_statement-create-requires : goal.run_statement-create-requires
run_statement-create-requires g t c =
    subst (λ x. MayRun (behind x) c.args.engine.now.book c.args.engine.now.state c.args.progress.now) c.in-New.is (c.requires [])

pub run_statement-delete-requires : goal.run_statement-delete-requires
run_statement-delete-requires g t c =
    subst (λ x. MayRun (behind x) c.args.engine.now.book c.args.engine.now.state c.args.progress.now) c.in-Delete.is (c.requires [])
