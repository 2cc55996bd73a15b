-- The ifs that wait for their parts.
use Rattle.std.proofs.Common.{◌≡◌, ℕ, ◌+◌, ◌-◌, ◌<◌, ◌≤◌, List, [], ◌∷◌, ◌++◌, length, Ok, Err, refl, sym, ap, ◌∙◌, subst, arith, length-append}
use Rattle.sheet_syntax_trees.specs.declared.token.Token.{Token}
use Rattle.sheet_syntax_trees.specs.declared.token.SyntaxRefusal.{SyntaxRefusal}
use Rattle.sheet_syntax_trees.specs.declared.token.SyntaxRefusal.TheVariants.{BadToken, NumberTooWide, Expected, TooNested, NoMemory}
use Rattle.sheet_syntax_trees.specs.declared.sign.Sign.TheVariants as sign
use Rattle.sheet_syntax_trees.specs.declared.operators.Level.TheVariants as level
use Rattle.sheet_syntax_trees.specs.declared.tree.Formed.{Formed}
use Rattle.sheet_syntax_trees.specs.Signs.{sign_of}
use Rattle.sheet_syntax_trees.specs.Reading.{Answer, ◌>>=◌, setting, offset, sign_at, expect, with_rest, within, chosen, chain_at, disjunction}
use Rattle.sheet_syntax_trees.proofs.Soundness.{disjunction_sound, within_sound}
use Rattle.sheet_syntax.specs.declared.waiting.Parts.TheVariants.{Nothing, Condition, Branch}
use Rattle.sheet_syntax.specs.declared.waiting.OpenIf.{OpenIf}
use Rattle.sheet_syntax.specs.declared.parser.Room.{Room}
use Rattle.sheet_syntax.specs.declared.waiting.Resumed.{Resumed}
use Rattle.sheet_syntax.specs.declared.waiting.Resumed.TheVariants.{Whole}
use Rattle.sheet_syntax_trees.specs.Tokens.{Reads}
use Rattle.sheet_syntax.specs.Waiting.{Resumes, chosen_form, behind_branch, behind_condition, goes_on_by, goes_on, resumed_by}
use Rattle.sheet_syntax.proofs.Turns.{other_sign, turn_if, turn_or, turn_none, turn_over}

error_then : {A B : Type 0} (r : Answer A) (e : SyntaxRefusal) (f : A → Answer B) → r ≡ Err e → ◌≡◌ {A = Answer B} (r >>= f) (Err e)
error_then r e f h = rw h refl

pub resumed_error : (end turns room : ℕ) (ws : List OpenIf) (e : SyntaxRefusal) → resumed_by end turns room ws (Err e) ≡ Err e
resumed_error end turns room [] e = refl
resumed_error end turns room (w ∷ ws) e = rw (resumed_error end (turns - 1) room ws e) refl

-- the innermost goes on first
pub resumed_last : (end turns room : ℕ) (ws : List OpenIf) (w : OpenIf) (r : Answer (Formed × List Token))
    → resumed_by end turns room (ws ++ w ∷ []) r ≡ resumed_by end turns room ws
    (r >>= (λ x. goes_on end (within 32 end (turns - (length ws + 1)) room) w x.0 x.1))
resumed_last end turns room [] w r = refl
resumed_last end turns room (v ∷ vs) w r =
    let count : (turns - 1) - (length vs + 1) ≡ turns - (length (v ∷ vs) + 1) = omega arith in
    ap (λ l. l >>= (λ x. goes_on end (within 32 end (turns - 1) room) v x.0 x.1))
    (resumed_last end (turns - 1) room vs w r ∙ ap (λ n. resumed_by end (turns - 1) room vs (r >>= (λ x. goes_on end (within 32 end n room) w x.0 x.1))) count)

one_longer : (ws : List OpenIf) (w : OpenIf) → length (ws ++ w ∷ []) ≡ length ws + 1
one_longer ws w = length-append ws (w ∷ [])

-- an if begins
pub begun : (end turns room : ℕ) (ws : List OpenIf) (t : Token) (rest ts : List Token) → length ws < turns → rest ≡ t ∷ ts → sign_of t.kind ≡ sign.If
    → resumed_by end turns room (ws ++ record { start = t.start; line = t.line; parts = Nothing } ∷ [])
    (within 32 end (turns - length (ws ++ record { start = t.start; line = t.line; parts = Nothing } ∷ [])) room ts)
    ≡ resumed_by end turns room ws (within 32 end (turns - length ws) room rest)
unfolding chosen
begun end turns room ws t rest ts some is sg =
    let w : OpenIf = record { start = t.start; line = t.line; parts = Nothing } in
    let count : turns - length (ws ++ w ∷ []) ≡ turns - (length ws + 1) = ap (λ n. turns - n) (one_longer ws w) in
    let less : (turns - length ws) - 1 ≡ turns - (length ws + 1) = omega arith in
    ap (λ n. resumed_by end turns room (ws ++ w ∷ []) (within 32 end n room ts)) count
    ∙ resumed_last end turns room ws w (within 32 end (turns - (length ws + 1)) room ts)
    ∙ ap (λ n. resumed_by end turns room ws (within 32 end n room ts >>= (λ x. goes_on end (within 32 end n room) w x.0 x.1))) (sym less)
    ∙ ap (resumed_by end turns room ws) (sym (turn_if 32 end (turns - length ws) room t rest ts (omega arith) is sg))

-- no if begins: what is read is for the innermost
pub no_if : (end turns room : ℕ) (n : ℕ) (ws : List OpenIf) (rest : List Token) → length ws < turns → (sign_at rest ≡ sign.If → ⊥) → n ≡ turns - (length ws + 1)
    → within 32 end (turns - length ws) room rest ≡ chain_at (setting 32 end n room) level.Or rest
no_if end turns room n ws [] some other count =
    let less : (turns - length ws) - 1 ≡ n = omega (arith, count) in
    turn_none 32 end (turns - length ws) room [] (omega arith) refl ∙ ap (λ m. disjunction (setting 32 end m room) []) less
no_if end turns room n ws (t ∷ ts) some other count =
    let less : (turns - length ws) - 1 ≡ n = omega (arith, count) in
    turn_or 32 end (turns - length ws) room t (t ∷ ts) ts (omega arith) refl (other_sign (sign_of t.kind) sign.If other)
    ∙ ap (λ m. disjunction (setting 32 end m room) (t ∷ ts)) less

pub no_turns : (end turns room : ℕ) (ws : List OpenIf) (rest : List Token) → turns ≤ length ws →
    resumed_by end turns room ws (within 32 end (turns - length ws) room rest) ≡ Err (Expected (offset end rest))
no_turns end turns room ws rest none =
    let over : turns - length ws ≡ 0 = omega arith in
    ap (resumed_by end turns room ws) (turn_over 32 end (turns - length ws) room rest over) ∙ resumed_error end turns room ws (Expected (offset end rest))

pub chain_shorter : (end turns room : ℕ) (ts : List Token) (x : Formed × List Token) → chain_at (setting 32 end turns room) level.Or ts ≡ Ok x →
    length x.1 ≤ length ts
chain_shorter end turns room ts x h =
    let s = disjunction_sound (setting 32 end turns room) (omega arith) (within_sound 32 end (omega arith) turns (room - 1)) ts x h in
    let same : length ts ≡ length s.front + length x.1 = ap length s.split ∙ length-append s.front x.1 in
    omega arith

-- the part that was read is the condition, and "then" stands behind it
pub condition_read : (end turns room : ℕ) (ws : List OpenIf) (w v : OpenIf) (f : Formed) (rest behind : List Token) → w.parts ≡ Nothing →
    v ≡ record { start = w.start; line = w.line; parts = Condition f }
    → ◌≡◌ {A = Answer (List Token)} (expect end sign.Then rest) (Ok behind)
    → resumed_by end turns room (ws ++ w ∷ []) (Ok (f, rest)) ≡ resumed_by end turns room (ws ++ v ∷ [])
    (within 32 end (turns - length (ws ++ v ∷ [])) room behind)
condition_read end turns room ws w v f rest behind is same given =
    let count : turns - length (ws ++ v ∷ []) ≡ turns - (length ws + 1) = ap (λ n. turns - n) (one_longer ws v) in
    resumed_last end turns room ws w (Ok (f, rest))
    ∙ ap (resumed_by end turns room ws)
    (ap (λ p. goes_on_by end (within 32 end (turns - (length ws + 1)) room) w p f rest) is
    ∙ ap (λ r. r >>= (λ a.
    within 32 end (turns - (length ws + 1)) room a >>= (λ x. behind_condition end (within 32 end (turns - (length ws + 1)) room) w f x.0 x.1))) given
    ∙ ap (λ (u : OpenIf). within 32 end (turns - (length ws + 1)) room behind >>= (λ x. goes_on end (within 32 end (turns - (length ws + 1)) room) u x.0 x.1))
    (sym same))
    ∙ sym (resumed_last end turns room ws v (within 32 end (turns - (length ws + 1)) room behind))
    ∙ ap (λ n. resumed_by end turns room (ws ++ v ∷ []) (within 32 end n room behind)) (sym count)

-- the part that was read is the first branch, and "else" stands behind it
pub branch_read : (end turns room : ℕ) (ws : List OpenIf) (w v : OpenIf) (c f : Formed) (rest behind : List Token) → w.parts ≡ Condition c →
    v ≡ record { start = w.start; line = w.line; parts = Branch c f }
    → ◌≡◌ {A = Answer (List Token)} (expect end sign.Else rest) (Ok behind)
    → resumed_by end turns room (ws ++ w ∷ []) (Ok (f, rest)) ≡ resumed_by end turns room (ws ++ v ∷ [])
    (within 32 end (turns - length (ws ++ v ∷ [])) room behind)
branch_read end turns room ws w v c f rest behind is same given =
    let count : turns - length (ws ++ v ∷ []) ≡ turns - (length ws + 1) = ap (λ n. turns - n) (one_longer ws v) in
    resumed_last end turns room ws w (Ok (f, rest))
    ∙ ap (resumed_by end turns room ws)
    (ap (λ p. goes_on_by end (within 32 end (turns - (length ws + 1)) room) w p f rest) is
    ∙ ap (λ r. r >>= (λ b. within 32 end (turns - (length ws + 1)) room b >>= (λ y. behind_branch w c f y.0 y.1))) given
    ∙ ap (λ (u : OpenIf). within 32 end (turns - (length ws + 1)) room behind >>= (λ x. goes_on end (within 32 end (turns - (length ws + 1)) room) u x.0 x.1))
    (sym same))
    ∙ sym (resumed_last end turns room ws v (within 32 end (turns - (length ws + 1)) room behind))
    ∙ ap (λ n. resumed_by end turns room (ws ++ v ∷ []) (within 32 end n room behind)) (sym count)

-- how the innermost goes on, where it is refused
pub last_refused : (end turns room : ℕ) (ws : List OpenIf) (w : OpenIf) (f : Formed) (rest : List Token) (e : SyntaxRefusal)
    → goes_on end (within 32 end (turns - (length ws + 1)) room) w f rest ≡ Err e → resumed_by end turns room (ws ++ w ∷ []) (Ok (f, rest)) ≡ Err e
last_refused end turns room ws w f rest e h =
    resumed_last end turns room ws w (Ok (f, rest)) ∙ ap (resumed_by end turns room ws) h ∙ resumed_error end turns room ws e

pub condition_refused : (end turns room : ℕ) (ws : List OpenIf) (w : OpenIf) (f : Formed) (rest : List Token) (e : SyntaxRefusal) → w.parts ≡ Nothing →
    ◌≡◌ {A = Answer (List Token)} (expect end sign.Then rest) (Err e)
    → resumed_by end turns room (ws ++ w ∷ []) (Ok (f, rest)) ≡ Err e
condition_refused end turns room ws w f rest e is h =
    last_refused end turns room ws w f rest e
    (ap (λ p. goes_on_by end (within 32 end (turns - (length ws + 1)) room) w p f rest) is
    ∙ ap (λ r. r >>= (λ a.
    within 32 end (turns - (length ws + 1)) room a >>= (λ x. behind_condition end (within 32 end (turns - (length ws + 1)) room) w f x.0 x.1))) h)

pub branch_refused : (end turns room : ℕ) (ws : List OpenIf) (w : OpenIf) (c f : Formed) (rest : List Token) (e : SyntaxRefusal) → w.parts ≡ Condition c →
    ◌≡◌ {A = Answer (List Token)} (expect end sign.Else rest) (Err e)
    → resumed_by end turns room (ws ++ w ∷ []) (Ok (f, rest)) ≡ Err e
branch_refused end turns room ws w c f rest e is h =
    last_refused end turns room ws w f rest e
    (ap (λ p. goes_on_by end (within 32 end (turns - (length ws + 1)) room) w p f rest) is
    ∙ ap (λ r. r >>= (λ b. within 32 end (turns - (length ws + 1)) room b >>= (λ y. behind_branch w c f y.0 y.1))) h)

pub choice_refused : (end turns room : ℕ) (ws : List OpenIf) (w : OpenIf) (c x f : Formed) (rest : List Token) (e : SyntaxRefusal) → w.parts ≡ Branch c x →
    chosen_form w.start w.line c x f ≡ Err e
    → resumed_by end turns room (ws ++ w ∷ []) (Ok (f, rest)) ≡ Err e
choice_refused end turns room ws w c x f rest e is h =
    last_refused end turns room ws w f rest e
    (ap (λ p. goes_on_by end (within 32 end (turns - (length ws + 1)) room) w p f rest) is ∙ ap (with_rest rest) h)

pub choice_made : (end turns room : ℕ) (ws : List OpenIf) (w : OpenIf) (c x f g : Formed) (rest : List Token) → w.parts ≡ Branch c x →
    chosen_form w.start w.line c x f ≡ Ok g
    → resumed_by end turns room (ws ++ w ∷ []) (Ok (f, rest)) ≡ resumed_by end turns room ws (Ok (g, rest))
choice_made end turns room ws w c x f g rest is h =
    resumed_last end turns room ws w (Ok (f, rest))
    ∙ ap (resumed_by end turns room ws)
    (ap (λ p. goes_on_by end (within 32 end (turns - (length ws + 1)) room) w p f rest) is ∙ ap (with_rest rest) h)

-- a token stands before what is expected
pub expect_shorter : (end : ℕ) (ts behind : List Token) (t : Token) → ts ≡ t ∷ behind → length behind < length ts
expect_shorter end ts behind t is = let l : length ts ≡ length (t ∷ behind) = ap length is in omega (arith, l)

-- a refusal is passed on
pub resumes_refused : {X Y : Type 0} (view : X → Y) (e : SyntaxRefusal) (told : Answer Y) (end turns room : ℕ) (new : List OpenIf) (rest : List Token)
    (whole : Answer (Formed × List Token)) → Reads view (Err e) told
    → ((d : SyntaxRefusal) → ◌≡◌ {A = Answer Y} told (Err d) → whole ≡ Err d) → Resumes end turns room new rest (Err e) whole
resumes_refused view (BadToken k) told end turns room new rest whole h more = more (BadToken k) h
resumes_refused view (NumberTooWide k) told end turns room new rest whole h more = more (NumberTooWide k) h
resumes_refused view (Expected k) told end turns room new rest whole h more = more (Expected k) h
resumes_refused view (TooNested k) told end turns room new rest whole h more = more (TooNested k) h
resumes_refused view NoMemory told end turns room new rest whole h more = tt

pub shorter_still : (a b c : ℕ) → a < b → b ≤ c → a < c
shorter_still a b c less short = omega arith

pub not_less : (a b : ℕ) → (a < b → ⊥) → b ≤ a
not_less a b h = omega (arith, h)

-- what is read behind the ifs that wait, with the turns that are left
pub turned : (end turns room : ℕ) (ws : List OpenIf) (rest : List Token) (r : Room) (x : Formed × List Token) → length ws < turns →
    (sign_at rest ≡ sign.If → ⊥) → r ≡ record { end = end; brackets = room; turns = turns - (length ws + 1) }
    → chain_at (setting 32 r.end r.turns r.brackets) level.Or rest ≡ Ok x →
    resumed_by end turns room ws (within 32 end (turns - length ws) room rest) ≡ resumed_by end turns room ws (Ok x)
turned end turns room ws rest r x some other is told =
    let P : Room → Type 0 = λ q. chain_at (setting 32 q.end q.turns q.brackets) level.Or rest ≡ Ok x in
    ap (resumed_by end turns room ws) (no_if end turns room (turns - (length ws + 1)) ws rest some other refl ∙ subst P is told)

pub turn_refused : (end turns room : ℕ) (ws : List OpenIf) (rest : List Token) (r : Room) (e : SyntaxRefusal) → length ws < turns →
    (sign_at rest ≡ sign.If → ⊥) → r ≡ record { end = end; brackets = room; turns = turns - (length ws + 1) }
    → chain_at (setting 32 r.end r.turns r.brackets) level.Or rest ≡ Err e → resumed_by end turns room ws (within 32 end (turns - length ws) room rest) ≡ Err e
turn_refused end turns room ws rest r e some other is told =
    let P : Room → Type 0 = λ q. chain_at (setting 32 q.end q.turns q.brackets) level.Or rest ≡ Err e in
    ap (resumed_by end turns room ws) (no_if end turns room (turns - (length ws + 1)) ws rest some other refl ∙ subst P is told)
    ∙ resumed_error end turns room ws e

-- a refusal of the ifs that wait is the reader's
pub resume_refused : {X : Type 0} (view : X → Formed × List Token) (e : SyntaxRefusal) (end turns room : ℕ) (new : List OpenIf) (rest : List Token)
    (told whole : Answer (Formed × List Token)) → Resumes end turns room new rest (Err e) told → whole ≡ told
    → Reads view (Err e) whole
resume_refused view (BadToken k) end turns room new rest told whole h same = same ∙ h
resume_refused view (NumberTooWide k) end turns room new rest told whole h same = same ∙ h
resume_refused view (Expected k) end turns room new rest told whole h same = same ∙ h
resume_refused view (TooNested k) end turns room new rest told whole h same = same ∙ h
resume_refused view NoMemory end turns room new rest told whole h same = tt

-- what is told of the ifs that waited, by what it is
pub whole_told : (end turns room : ℕ) (new : List OpenIf) (rest : List Token) (z : Resumed) (f : Formed) (r : Answer (Formed × List Token)) →
    Resumes end turns room new rest (Ok z) r → z ≡ Whole f → r ≡ Ok (f, rest)
whole_told end turns room new rest z f r h is = let P : Resumed → Type 0 = λ y. Resumes end turns room new rest (Ok y) r in subst P is h
