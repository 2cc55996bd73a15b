-- The bodies of replies.
use Rattle.std.proofs.Common.{◌≡◌, ◌≢◌, ℕ, List, refl}
use Rattle.sheet_columns.specs.declared.tree.Node.{Node}
use Rattle.sheet_requests.specs.Bodies.{body}
use Rattle.sheet_requests.specs.declared.reply.Reply.{Reply}
use Rattle.sheet_requests.specs.declared.reply.Reply.TheVariants as reply
use Rattle.sheet_requests.specs.declared.reply.Refusal.TheVariants as refused
use Rattle.sheet_machine.specs.Told.{told}

-- a body that is told is the printed reply, where there was memory
pub printed_reply : (nodes : List Node) (r : Reply) (text : List ℕ) → text ≡ told nodes r → r ≢ reply.Refused refused.NoMemory → text ≡ body nodes r
printed_reply nodes (reply.Accepted n answer) text is other = is
printed_reply nodes (reply.Kept n answer) text is other = is
printed_reply nodes (reply.Page parts) text is other = is
printed_reply nodes (reply.Reads items) text is other = is
printed_reply nodes (reply.Stats accepted callers kept objects) text is other = is
printed_reply nodes (reply.Wire why) text is other = is
printed_reply nodes (reply.Refused refused.DiskFault) text is other = is
printed_reply nodes (reply.Refused refused.UnknownKey) text is other = is
printed_reply nodes (reply.Refused refused.NotOperator) text is other = is
printed_reply nodes (reply.Refused (refused.Past last)) text is other = is
printed_reply nodes (reply.Refused refused.Differs) text is other = is
printed_reply nodes (reply.Refused (refused.Ahead last)) text is other = is
printed_reply nodes (reply.Refused refused.UnknownName) text is other = is
printed_reply nodes (reply.Refused (refused.BadArgument k)) text is other = is
printed_reply nodes (reply.Refused (refused.KeyTaken c)) text is other = is
printed_reply nodes (reply.Refused (refused.NameTaken c)) text is other = is
printed_reply nodes (reply.Refused (refused.TooMany n)) text is other = is
printed_reply nodes (reply.Refused refused.Denied) text is other = is
printed_reply nodes (reply.Refused (refused.CheckFailed k message)) text is other = is
printed_reply nodes (reply.Refused (refused.FormulaFault f)) text is other = is
printed_reply nodes (reply.Refused (refused.Full which limit)) text is other = is
printed_reply nodes (reply.Refused (refused.NotOneCell o c n)) text is other = is
printed_reply nodes (reply.Refused refused.NoMemory) text is other = absurd (other refl)
