-- The text that `check` reads, and its input.
use Rattle.std.proofs.Common.{◌≡◌, ℕ, ◌<◌, ◌≤◌, ◌+◌, List, ◌++◌, length, Some, None, Ok, Err, refl, inl, inr, sym, ap, ◌∙◌, subst, append-nil, arith}
use Rattle.std.specs.Prelude.{Option}
use Rattle.std.proofs.lemmas.List.{length-append}
use Rattle.sheet_outside.specs.Told.{WhereTold, Gains}
use Rattle.sheet_lines.specs.Told.{Ends, both, GainsFront}
use Rattle.sheet_define_reading.specs.Laws.{OneDefinition}
use Rattle.sheet_define.specs.declared.read.DefinitionRefusal.{DefinitionRefusal}
use Rattle.sheet_define.specs.declared.read.DefinitionRefusal.TheVariants.{TooLong, NotUtf8, Syntax}
use Rattle.sheet_define.specs.declared.read.DefinitionRefusal.TheVariants as define
use Rattle.sheet_define.specs.Definitions.{Defines, HasNone}
use Rattle.sheet_types_formulas.specs.declared.refusal.TypeRefusal.{TypeRefusal}
use Rattle.sheet_types_formulas.specs.declared.refusal.TypeRefusal.TheVariants.{Doubled, TooDeep, TooMany, UnknownName, Mismatch, NeedsFirst, NeedsType}
use Rattle.sheet_types_formulas.specs.declared.refusal.TypeRefusal.TheVariants.{DeclaredOther}
use Rattle.sheet_types_formulas.specs.declared.refusal.TypeRefusal.TheVariants as types
use Rattle.sheet_types_formulas.specs.Answers.{Answer, Answers}
use Rattle.sheet_types.specs.Elaboration.{elaborated}
use Rattle.objsheet_check.specs.Refusals.{definition_line, type_line}
use Rattle.objsheet_check.specs.Checking.{HasNoBook, IsGood, IsNoDefinition, IsNoBook, IsRefusedText, FindsInText, ReadsText, FindsInInput, IsUnfit, IsCutOff}
use Rattle.objsheet_check.specs.declared.checking.Verdict.{Verdict}
use Rattle.objsheet_check.specs.declared.checking.Verdict.TheVariants.{Good, Refused}

-- ---- what is told of the source and of the sink

-- the same for both
pub told_both : (P G : List ℕ → List ℕ → Type 0) (Q : Ends → Ends → Type 0) (l0 l1 w0 w1 : Option (List ℕ)) → WhereTold P l0 l1 → WhereTold G w0 w1
    → ((old left before after : List ℕ) → P old left → G before after → Q (record { left = old; written = before }) (record { left = left; written = after })) →
    WhereTold Q (both l0 w0) (both l1 w1)
told_both P G Q l0 None w0 w1 p g f = tt
told_both P G Q l0 (Some l1) w0 None p g f = tt
told_both P G Q None (Some l1) w0 (Some w1) p g f = absurd p
told_both P G Q (Some l0) (Some l1) None (Some w1) p g f = absurd g
told_both P G Q (Some l0) (Some l1) (Some w0) (Some w1) p g f = f l0 l1 w0 w1 p g

-- ---- refusals

-- what is refused of a definition is told so, unless it was for want of memory
pub told_refusal : (A : Type 0) (why : TypeRefusal) (told : Answer A) (line : List ℕ) → Answers (Err why) told → type_line why ≡ Some line → told ≡ Err why
told_refusal A (Doubled n) told line answers says = answers
told_refusal A (TooDeep n) told line answers says = answers
told_refusal A (TooMany n) told line answers says = answers
told_refusal A (UnknownName n) told line answers says = answers
told_refusal A (Mismatch n wanted found) told line answers says = answers
told_refusal A (NeedsFirst path) told line answers says = answers
told_refusal A (NeedsType path) told line answers says = answers
told_refusal A (DeclaredOther path declared found) told line answers says = answers
told_refusal A types.NoMemory told line answers says = cc

-- a text that is refused stands for no definition
none_stands : (text line : List ℕ) (why : DefinitionRefusal) → Defines text (Err why) → definition_line why ≡ Some line → HasNone text
none_stands text line (TooLong n) refused says = refused.0
none_stands text line (NotUtf8 o) refused says = refused.0
none_stands text line (Syntax refusal n) refused says = refused.0
none_stands text line define.NoMemory refused says = cc

pub no_book : OneDefinition → (text line : List ℕ) → IsRefusedText text line → HasNoBook text
no_book one text line (inl none) = λ book has. none_stands text line none.why none.refused none.says has.definition has.stands
no_book one text line (inr lacks) = λ book has.
    let same : has.definition ≡ lacks.definition = one text has.definition lacks.definition has.stands lacks.stands in
    let ok : elaborated lacks.definition ≡ Ok book = subst (λ d. elaborated d ≡ Ok book) same has.elaborates in
    let refused : elaborated lacks.definition ≡ Err lacks.why = lacks.refused in
    cc

-- ---- from the text to the input

-- what was read is all of the input, where it is no longer than a definition may be
all_read : (text old left : List ℕ) → ReadsText text old left → length text ≤ 262144 → text ≡ old
all_read text old left reads short = sym (reads.read ∙ ap (λ l. text ++ l) (reads.end short) ∙ append-nil text)

no_definition : (text old left line : List ℕ) (why : DefinitionRefusal) → ReadsText text old left → Defines text (Err why) → definition_line why ≡ Some line →
    IsNoDefinition old line
no_definition text old left line (TooLong n) reads refused says =
    let size : length old ≡ length text + length left = ap length reads.read ∙ length-append text left in
    let longer : 262144 < length old = omega (arith, size, refused.1) in
    record { why = TooLong (length old); refused = (λ d is. omega (arith, is.short, longer), longer, refl); says = says }
no_definition text old left line (NotUtf8 o) reads refused says =
    let P : List ℕ → Type 0 = λ t. Defines t (Err (NotUtf8 o)) in
    record { why = NotUtf8 o; refused = subst P (all_read text old left reads refused.1) refused; says = says }
no_definition text old left line (Syntax refusal n) reads refused says =
    let P : List ℕ → Type 0 = λ t. Defines t (Err (Syntax refusal n)) in
    record { why = Syntax refusal n; refused = subst P (all_read text old left reads refused.1) refused; says = says }
no_definition text old left line define.NoMemory reads refused says = cc

found_in_input : OneDefinition → (text old left : List ℕ) (v : Verdict) → ReadsText text old left → FindsInText text v → FindsInInput v old left
found_in_input one text old left (Good line) reads good =
    let short = good.has.stands.short in
    let P : List ℕ → Type 0 = λ t. IsGood t line.items in
    (subst P (all_read text old left reads short) good, reads.end short)
found_in_input one text old left (Refused line) reads (inl none) =
    let refused : IsRefusedText old line.items = inl (no_definition text old left line.items none.why reads none.refused none.says) in
    (refused, no_book one old line.items refused)
found_in_input one text old left (Refused line) reads (inr lacks) =
    let P : List ℕ → Type 0 = λ t. IsNoBook t line.items in
    let refused : IsRefusedText old line.items = inr (subst P (all_read text old left reads lacks.stands.short) lacks) in
    (refused, no_book one old line.items refused)

pub all_found : OneDefinition → (text read : List ℕ) (v : Verdict) (l0 l1 : Option (List ℕ)) → read ≡ text → WhereTold (ReadsText text) l0 l1 →
    FindsInText read v → WhereTold (FindsInInput v) l0 l1
all_found one text read v l0 None same reads found = tt
all_found one text read v None (Some l1) same reads found = absurd reads
all_found one text read v (Some l0) (Some l1) same reads found = let P : List ℕ → Type 0 = λ t. FindsInText t v in
    found_in_input one text l0 l1 v reads (subst P same found)

-- ---- the line that is written

pub unfit : (line said : List ℕ) (l0 l1 w0 w1 : Option (List ℕ)) → said ≡ line → WhereTold (λ old left. IsRefusedText old line × HasNoBook old) l0 l1 →
    Gains w0 w1 said → WhereTold IsUnfit (both l0 w0) (both l1 w1)
unfit line said l0 l1 w0 w1 same found gains =
    told_both (λ old left. IsRefusedText old line × HasNoBook old) (λ before after. after ≡ before ++ said) IsUnfit l0 l1 w0 w1 found gains
    (λ old left before after r w. record { line = line; refused = r.0; written = w ∙ ap (λ l. before ++ l) same })

pub cut_off : (line said : List ℕ) (l0 l1 w0 w1 : Option (List ℕ)) → said ≡ line → WhereTold (λ old left. IsRefusedText old line × HasNoBook old) l0 l1 →
    WhereTold (GainsFront said) w0 w1 → WhereTold IsCutOff (both l0 w0) (both l1 w1)
cut_off line said l0 l1 w0 w1 same found front =
    told_both (λ old left. IsRefusedText old line × HasNoBook old) (GainsFront said) IsCutOff l0 l1 w0 w1 found front
    (λ old left before after r f. let P : List ℕ → Type 0 = λ l. GainsFront l before after in record { line = line; due = inr r.0; front = subst P same f })

pub has_no_book : (line : List ℕ) (l0 l1 : Option (List ℕ)) → WhereTold (λ old left. IsRefusedText old line × HasNoBook old) l0 l1 →
    WhereTold (λ old left. HasNoBook old) l0 l1
has_no_book line l0 None found = tt
has_no_book line None (Some l1) found = absurd found
has_no_book line (Some l0) (Some l1) found = found.1
