-- What is answered where a number isn't fresh.
use Rattle.std.specs.Prelude.{ℕ, Option, Some, None}
use Rattle.sheet_requests.specs.declared.reply.Reply.{Reply}
use Rattle.sheet_requests.specs.declared.reply.Reply.TheVariants as reply
use Rattle.sheet_requests.specs.declared.reply.Refusal.TheVariants as refused
use Rattle.sheet_callers.specs.Judging.{Judged, Fresh, Kept, Differs, Past, Ahead}

-- nothing where it is fresh
abbrev pub reply_unless_fresh : ℕ → Judged → Option Reply
reply_unless_fresh n Fresh = None
reply_unless_fresh n (Kept answer) = Some (reply.Kept n answer)
reply_unless_fresh n Differs = Some (reply.Refused refused.Differs)
reply_unless_fresh n (Past last) = Some (reply.Refused (refused.Past last))
reply_unless_fresh n (Ahead last) = Some (reply.Refused (refused.Ahead last))
