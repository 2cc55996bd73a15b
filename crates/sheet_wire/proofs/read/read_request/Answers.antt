use Rattle.serde_json.specs.View.{view}
use Rattle.sheet_requests.specs.Reading.{no_memory}
use Rattle.sheet_wire.proofs.Whole.{reads_as, no_json}
use Rattle.sheet_wire.proofs.read.read_request.Goals as goal

pub returns-in-Ok-clause-reads : goal.returns-in-Ok-clause-reads
returns-in-Ok-clause-reads c =
    reads_as c.args.route.now c.args.bytes.now (view c.in-Ok.value) c.request_in.result (c.in-Ok.ensures.ok.0, c.in-Ok.ensures.ok.1) c.request_in.ensures.told

pub returns-then-is_memory-clause-reads : goal.returns-then-is_memory-clause-reads
returns-then-is_memory-clause-reads c = no_memory

pub returns-else-is_memory-clause-reads : goal.returns-else-is_memory-clause-reads
returns-else-is_memory-clause-reads c =
    no_json c.args.route.now c.args.bytes.now
    (c.in-Err.ensures.err (λ m. let t = c.is_memory.ensures.1 m in let f = c.if-is_memory.false in cc))
