-- Steps of the machine without a journal, by what a request gave.
use Rattle.std.proofs.Common.{◌≡◌, ◌⊎◌, inl, inr, ap, sym, ◌∙◌, subst, List, [], None}
use Rattle.sheet_columns.specs.declared.tree.Node.{Node}
use Rattle.sheet_machine.specs.declared.answered.Answered.{Answered}
use Rattle.sheet_machine.specs.declared.held.Held.{Held}
use Rattle.sheet_machine.specs.Gives.{Settles, Suspends}
use Rattle.sheet_machine.specs.Held.{holding, if_taken_in, IsReady}
use Rattle.sheet_machine.specs.Told.{told}
use Rattle.sheet_requests.specs.declared.request.Request.{Request}
use Rattle.sheet_requests.specs.declared.reply.Reply.{Reply}
use Rattle.sheet_requests.specs.declared.reply.Reply.TheVariants.{Refused}
use Rattle.sheet_requests.specs.declared.reply.Refusal.TheVariants.{NoMemory}
use Rattle.sheet_machine_laws.specs.Act.{act}
use Rattle.sheet_machine_laws.specs.Judging.{Acted}
use Rattle.sheet_machine_laws.specs.Machine.{Holding}
use Rattle.sheet_machine_laws.specs.Ranges.{IsInRange}
use Rattle.sheet_machine_laws.specs.Sound.{IsSound}
use Rattle.sheet_machine_laws.specs.Staying.{SoundStays}
use Rattle.sheet_machine_laws.specs.Step.{StepInMemory, acts_there, no_memory_there}

pub acted : (h n : Holding) (q : Request) (r : Reply) → act h q ≡ (n, r) → StepInMemory h q r n
acted h n q r e = subst (λ (a : Acted). StepInMemory h q a.1 a.0) e acts_there

pub starved : (h n : Holding) (q : Request) (r : Reply) → n ≡ h → r ≡ Refused NoMemory → StepInMemory h q r n
starved h n q r e f = subst (λ x. StepInMemory h q r x) (sym e) (subst (λ x. StepInMemory h q x h) (sym f) no_memory_there)

-- what a request comes to, once it is taken in where it is pending
pub all_taken_in : (h : Holding) (mid new : Held) (q : Request) (a : Answered) → Settles (act h q) mid a ⊎ Suspends (act h q) h mid a
    → holding new ≡ if_taken_in mid mid.pending → act h q ≡ (holding new, a.reply)
all_taken_in h mid new q a (inl s) e = s.acts ∙ ap (λ x. (x, a.reply)) (sym (e ∙ ap (if_taken_in mid) s.none))
all_taken_in h mid new q a (inr s) e = s.acts ∙ ap (λ x. (x, a.reply)) (sym (e ∙ ap (if_taken_in mid) s.is))

-- it is sound
pub ready_again : (h : Holding) (new : Held) (q : Request) (r : Reply) → SoundStays → IsSound h → IsInRange q → act h q ≡ (holding new, r)
    → new.engine.state.earlier ≡ [] → new.pending ≡ None → IsReady new
ready_again h new q r stay sound range e settled none =
    record { sound = subst IsSound (ap (λ (x : Acted). x.0) e) (stay h q sound range); settled = settled; none = none }

pub starved_body : (nodes : List Node) (b : Answered) → b.body.items ≡ [] → b.reply ≡ Refused NoMemory → b.body.items ≡ told nodes b.reply
starved_body nodes b e f = e ∙ sym (ap (told nodes) f)
