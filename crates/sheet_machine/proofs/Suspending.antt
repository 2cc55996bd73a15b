-- An accepted request that is pending.
use Rattle.std.proofs.Common.{◌≡◌, ap, sym, ◌∙◌, ℕ, ◌+◌, ◌∷◌, ◌++◌, [], false, List, Some, if◌then◌else◌}
use Rattle.std.specs.Prelude.{nat_le}
use Rattle.sheet_callers.specs.Callers.{Caller, caller_at}
use Rattle.sheet_callers.specs.Judging.{IsNext}
use Rattle.sheet_callers.specs.Keeping.{keeping}
use Rattle.sheet_meaning.specs.declared.refusal.Which.TheVariants.{Requests}
use Rattle.sheet_requests.specs.declared.reply.Answer.{Answer}
use Rattle.sheet_requests.specs.declared.reply.Refusal.TheVariants as refused
use Rattle.sheet_requests.specs.declared.reply.Reply.TheVariants as reply
use Rattle.sheet_machine_laws.specs.Act.{accept, most_requests}
use Rattle.sheet_machine_laws.specs.Judging.{refuse}
use Rattle.sheet_machine_laws.specs.Machine.{Holding}
use Rattle.sheet_machine_laws.specs.Step.{is_accepted}
use Rattle.sheet_machine.specs.declared.answered.Answered.{Answered}
use Rattle.sheet_machine.specs.declared.held.Held.{Held}
use Rattle.sheet_machine.specs.declared.held.Pending.{Pending}
use Rattle.sheet_machine.specs.Gives.{Suspends}
use Rattle.sheet_machine.specs.Held.{holding, left_out, IsPending}

-- the operator's number is the next one yet, where there is a caller more
pub operator_next : (cs : List Caller) (d : Caller) (n : ℕ) → IsNext (caller_at cs 1) n → IsNext (caller_at (cs ++ d ∷ []) 1) n
operator_next [] d n next = absurd next
operator_next (c ∷ cs) d n next = next

pub suspended : (old after : Holding) (new : Held) (p : Pending) (given : Answer) (a : Answered) → new.pending ≡ Some p → holding new ≡ after → left_out new p ≡ old
    → old.accepted ≡ new.accepted → p.kept ≡ given → a.reply ≡ reply.Accepted p.number given → nat_le most_requests old.accepted ≡ false → IsPending new p
    → Suspends (accept old after p.caller p.number p.line.items given) old new a
suspended old after new p given a is held was count kept says less can = record {
  pending = p;
  is = is;
  acts = ap (λ b. if b then refuse old (refused.Full Requests most_requests) else (
    record after { callers = keeping after.callers p.caller p.number p.line.items given; accepted = old.accepted + 1 },
    reply.Accepted p.number given,
  )) less
      ∙ ap (λ x. (record x { callers = keeping x.callers p.caller p.number p.line.items given; accepted = old.accepted + 1 }, reply.Accepted p.number given)) (sym held)
      ∙ ap (λ g. (record (holding new) { callers = keeping new.callers p.caller p.number p.line.items g; accepted = old.accepted + 1 }, reply.Accepted p.number given))
      (sym kept)
      ∙ ap (λ n. (record (holding new) { callers = keeping new.callers p.caller p.number p.line.items p.kept; accepted = n + 1 }, reply.Accepted p.number given)) count
      ∙ ap (λ r. (record (holding new) { callers = keeping new.callers p.caller p.number p.line.items p.kept; accepted = new.accepted + 1 }, r)) (sym says);
  was = was;
  accepted = ap is_accepted says;
  can = can;
}
