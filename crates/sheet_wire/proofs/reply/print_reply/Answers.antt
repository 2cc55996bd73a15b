use Rattle.serde_json.proofs.FreeTexts.{text_of_value}
use Rattle.sheet_requests.specs.Bodies.{reply_data}
use Rattle.sheet_wire.proofs.Floats.{reply}
use Rattle.sheet_wire.proofs.reply.print_reply.Goals as goal

pub returns-in-Ok : goal.returns-in-Ok
returns-in-Ok c =
    let sent = c.in-Ok.ensures.events in
    text_of_value (reply_data c.args.columns.now c.args.reply.now) sent.0 c.in-Ok.text.items sent.1 sent.2 (reply c.args.columns.now c.args.reply.now)
