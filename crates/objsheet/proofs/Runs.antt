-- Answers one after another, and their text.
use Rattle.std.proofs.Common.{◌≡◌, ℕ, List, [], ◌∷◌, ◌++◌, length, refl, inl, inr, sym, ap, ◌∙◌, subst, append_assoc, append-nil}
use Rattle.std.specs.Prelude.{flat_map, nat_lt}
use Rattle.std.proofs.lemmas.Bool.{cases_Bool, ltb-true, ltb-false}
use Rattle.sheet_lines.specs.Lines.{printed}
use Rattle.sheet_requests.specs.Bodies.{body}
use Rattle.sheet_requests.specs.Reading.ReadsAs.{no_memory}
use Rattle.sheet_requests.specs.declared.request.WireRefusal.TheVariants.{NoMemory}
use Rattle.sheet_requests.specs.declared.reply.Reply.TheVariants.{Wire}
use Rattle.sheet_machine_laws.specs.Machine.{Holding}
use Rattle.objsheet.specs.Sessions.{IsAnswer, AreAnswers, Tells, too_long_line}
use Rattle.objsheet.specs.Sessions.IsAnswer.{is_too_long, holds_none}

are_append : (h mid last : Holding) (ls ks xs ys : List (List ℕ)) → AreAnswers h ls xs mid → AreAnswers mid ks ys last → AreAnswers h (ls ++ ks) (xs ++ ys) last
are_append h mid last [] ks [] ys first next = let P : Holding → Type 0 = λ n. AreAnswers n ks ys last in subst P first next
are_append h mid last [] ks (x ∷ xs) ys first next = absurd first
are_append h mid last (l ∷ ls) ks [] ys first next = absurd first
are_append h mid last (l ∷ ls) ks (x ∷ xs) ys first next = (first.0, first.1, are_append first.0 mid last ls ks xs ys first.2 next)

text_append : (xs ys : List (List ℕ)) → flat_map printed (xs ++ ys) ≡ flat_map printed xs ++ flat_map printed ys
text_append [] ys = refl
text_append (x ∷ xs) ys = ap (λ l. printed x ++ l) (text_append xs ys) ∙ sym (append_assoc (printed x) (flat_map printed xs) (flat_map printed ys))

-- the texts of two runs, of which the second begins where the first ended
pub tells_append : (h mid last : Holding) (ls ks : List (List ℕ)) (t u : List ℕ) → Tells h ls t mid → Tells mid ks u last → Tells h (ls ++ ks) (t ++ u) last
tells_append h mid last ls ks t u first next =
    let text : t ++ u ≡ flat_map printed (first.answers ++ next.answers) =
    ap (λ x. x ++ u) first.text_is ∙ ap (λ x. flat_map printed first.answers ++ x) next.text_is ∙ sym (text_append first.answers next.answers) in
    record { answers = first.answers ++ next.answers; are = are_append h mid last ls ks first.answers next.answers first.are next.are; text_is = text }

-- no request line, no answer
pub tells_none : (h : Holding) → Tells h [] [] h
tells_none h = record { answers = []; are = refl; text_is = refl }

pub tells_one : (h now : Holding) (line answer : List ℕ) → IsAnswer h line answer now → Tells h (line ∷ []) (printed answer) now
tells_one h now line answer is = record { answers = answer ∷ []; are = (now, is, refl); text_is = sym (append-nil (printed answer)) }

-- an answer to a line, where there is no memory
record StarvedLine (h : Holding) (line : List ℕ) : Type 0 where
  answer : List ℕ
  is : IsAnswer h line answer h

starved_line : (h : Holding) (line : List ℕ) → StarvedLine h line
starved_line h line =
    elim (cases_Bool (nat_lt 65536 (length line))) [
      | inl more ↦ record { answer = too_long_line; is = is_too_long (ltb-true 65536 (length line) more) }
      | inr fits ↦ record { answer = body h.book.columns (Wire NoMemory); is = holds_none NoMemory (ltb-false 65536 (length line) fits) no_memory }
    ]

-- the answers to these lines where there is no memory for any
pub record Starved (h : Holding) (ls : List (List ℕ)) : Type 0 where
  pub text : List ℕ
  pub told : Tells h ls text h

pub starved : (h : Holding) (ls : List (List ℕ)) → Starved h ls
starved h [] = record { text = []; told = tells_none h }
starved h (l ∷ ls) =
    let more = starved h ls in
    let first = starved_line h l in
    record {
      text = printed first.answer ++ more.text;
      told = tells_append h h h (l ∷ []) ls (printed first.answer) more.text (tells_one h h l first.answer first.is) more.told;
    }
