-- The pieces of an input, one behind another.
use Rattle.std.proofs.Common.{◌≡◌, ℕ, ◌<◌, List, [], ◌++◌, length, Some, None, Ok, Err, sym, ap, ◌∙◌, append_assoc, arith}
use Rattle.std.specs.Prelude.{Option, Result, OnErr}
use Rattle.sheet_outside.specs.Told.{WhereTold}
use Rattle.objsheet_check.specs.Checking.{ReadsText, Adds, Takes}

-- the text is what was taken from the front of the input
abbrev pub IsTaken : List ℕ → List ℕ → List ℕ → Type 0
IsTaken text old left = old ≡ text ++ left

added : (text text' old middle left : List ℕ) → IsTaken text old middle → Adds text text' middle left → IsTaken text' old left
added text text' old middle left taken adds =
    taken ∙ ap (λ l. text ++ l) adds.2 ∙ sym (append_assoc text adds.0 left) ∙ ap (λ l. l ++ left) (sym adds.1)

-- one piece more was taken
pub taken_more : (text text' : List ℕ) (l0 l1 l2 : Option (List ℕ)) → WhereTold (IsTaken text) l0 l1 → WhereTold (Adds text text') l1 l2 →
    WhereTold (IsTaken text') l0 l2
taken_more text text' l0 l1 None taken adds = tt
taken_more text text' l0 None (Some l2) taken adds = absurd adds
taken_more text text' None (Some l1) (Some l2) taken adds = absurd taken
taken_more text text' (Some l0) (Some l1) (Some l2) taken adds = added text text' l0 l1 l2 taken adds

-- before the first piece
pub taken_none : (text : List ℕ) (l : Option (List ℕ)) → text ≡ [] → WhereTold (IsTaken text) l l
taken_none text None none = tt
taken_none text (Some l) none = sym (ap (λ t. t ++ l) none)

-- what was taken, and some more
pub takes : (text : List ℕ) (l0 l1 l2 : Option (List ℕ)) → WhereTold (IsTaken text) l0 l1 → WhereTold Takes l1 l2 → WhereTold Takes l0 l2
takes text l0 l1 None taken more = tt
takes text l0 None (Some l2) taken more = absurd more
takes text None (Some l1) (Some l2) taken more = absurd taken
takes text (Some l0) (Some l1) (Some l2) taken more = (text ++ more.0, taken ∙ ap (λ l. text ++ l) more.1 ∙ sym (append_assoc text more.0 l2))

pub on_err : (T E : Type 0) (result : Result T E) (P : Type 0) → P → OnErr result P
on_err T E (Ok x) P h = tt
on_err T E (Err e) P h = h

-- the text was read to the end
pub read_to_end : (text : List ℕ) (l0 l1 m : Option (List ℕ)) → WhereTold (IsTaken text) l0 l1 → WhereTold (λ old left. left ≡ []) m l1 →
    WhereTold (ReadsText text) l0 l1
read_to_end text l0 None m taken end = tt
read_to_end text None (Some l1) m taken end = absurd taken
read_to_end text (Some l0) (Some l1) None taken end = absurd end
read_to_end text (Some l0) (Some l1) (Some m) taken end = record { read = taken; end = λ short. end }

-- the text is longer than a definition may be
pub read_long : (text : List ℕ) (l0 l1 : Option (List ℕ)) → 262144 < length text → WhereTold (IsTaken text) l0 l1 → WhereTold (ReadsText text) l0 l1
read_long text l0 None long taken = tt
read_long text None (Some l1) long taken = absurd taken
read_long text (Some l0) (Some l1) long taken = record { read = taken; end = λ short. absurd (omega (arith, long, short)) }
