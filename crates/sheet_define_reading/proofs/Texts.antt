-- Texts and their definitions.
use Rattle.std.proofs.Common.{◌≡◌, ℕ, ◌≤◌, List, length, true, Ok, Err, refl, sym, ap, ◌∙◌}
use Rattle.std.specs.Str.{is_utf8}
use Rattle.sheet_syntax_trees.specs.declared.token.Token.{Token}
use Rattle.sheet_syntax_trees.specs.declared.token.SyntaxRefusal.{SyntaxRefusal}
use Rattle.sheet_syntax_trees.specs.Tokens.{lexed}
use Rattle.sheet_syntax_trees.specs.Reading.{Answer, ◌>>=◌}
use Rattle.sheet_syntax_trees.proofs.Answering.{ok_then}
use Rattle.sheet_define_data.specs.declared.definition.Declaration.{Declaration}
use Rattle.sheet_define_data.specs.declared.definition.Definition.{Definition}
use Rattle.sheet_define_data.specs.Grammar.{IsDefinition}
use Rattle.sheet_define_reading.specs.Reading.{definition_read, whole_definition}
use Rattle.sheet_define_reading.specs.Laws.{OneDefinition}
use Rattle.sheet_define_reading.proofs.StatementSoundness.{whole_sound}
use Rattle.sheet_define_reading.proofs.WholeCompleteness.{whole_given}

-- what is read of a text is its definition
pub text_stands : (text : List ℕ) (d : Definition) → length text ≤ 262144 → is_utf8 text ≡ true → definition_read text ≡ Ok d.declarations → IsDefinition text d
text_stands text d short encoded e =
    let (tokens, told, read) = ok_then (lexed text) (λ tokens. whole_definition (length text) tokens) d.declarations e in
    record { short = short; encoded = encoded; tokens = tokens; told = told; produced = whole_sound (length text) tokens d.declarations read }

pub text_given : (text : List ℕ) (d : Definition) → IsDefinition text d → definition_read text ≡ Ok d.declarations
text_given text d s = ap (λ r. r >>= (λ tokens. whole_definition (length text) tokens)) s.told ∙ whole_given (length text) s.tokens d.declarations s.produced

apart : (ds : List Declaration) (r : SyntaxRefusal) → ◌≡◌ {A = Answer (List Declaration)} (Ok ds) (Err r) → ⊥
apart ds r e = cc

-- a text that is refused has none
pub text_none : (text : List ℕ) (r : SyntaxRefusal) → definition_read text ≡ Err r → (d : Definition) → IsDefinition text d → ⊥
text_none text r e d s = apart d.declarations r (sym (text_given text d s) ∙ e)

abbrev list_or : List Declaration → Answer (List Declaration) → List Declaration
list_or d (Ok ds) = ds
list_or d (Err e) = d

pub one_definition : OneDefinition
one_definition text d e p q =
    let same : d.declarations ≡ e.declarations = ap (list_or d.declarations) (sym (text_given text d p) ∙ text_given text e q) in
    ap (λ (ds : List Declaration). record { declarations = ds }) same
