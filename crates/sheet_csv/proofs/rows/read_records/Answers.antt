use Rattle.std.proofs.Common.{[], ◌∷◌, length, ap, arith, length-append}
use Rattle.sheet_csv.proofs.FileLemmas.{row_stops}
use Rattle.sheet_csv.proofs.TurnLemmas.{ended, refused, started, turned}
use Rattle.sheet_csv.proofs.rows.read_records.Goals as goal

pub turns-init : goal.turns-init
turns-init c = record {
  reading = c.requires.reading;
  short = omega (arith, ap length c.new-rows.ensures);
  reaches = rw c.new-rows.ensures (started c.args.slots.now c.args.width c.args.records.now);
}

pub turns-preserved : goal.turns-preserved
turns-preserved c =
    let t = rw c.in-Some.is at c.in_ok-row.ensures in
    let a = c.in-Ok.ensures in
    record {
      reading = t.reading;
      short = let shorter = t.shorter in let short = c.turns.invariant.short in omega (arith, ap length a.2, length-append c.turns.rows (a.0 ∷ []));
      reaches = rw a.2 (turned _ _ _ _ _ _ _ _ c.turns.invariant.reaches t a.1);
    }

pub turns-smaller : goal.turns-smaller
turns-smaller c = let t = rw c.in-Some.is at c.in_ok-row.ensures in t.shorter

pub returns-in-Err : goal.returns-in-Err
returns-in-Err c = λ n long.
    let t = rw c.in-Some.is at c.in_ok-row.ensures in
    row_stops (Unit {0}) _ c.turns.rows c.add_row.new.rows c.in-Err.refusal _ c.in-Err.ensures (λ none. refused _ _ _ _ _ _ _ c.turns.invariant.reaches t none n long)

pub returns : goal.returns
returns c = λ n long.
    let e = rw c.in_default.is at c.in_ok-row.ensures in
    ended _ _ _ _ _ c.turns.invariant.reaches e n long
