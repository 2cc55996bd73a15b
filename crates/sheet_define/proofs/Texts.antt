-- Texts that are refused stand for no definition, and what is read of the others does.
use Rattle.std.proofs.Common.{◌≡◌, ℕ, zero, suc, ◌<◌, ◌≤◌, min, List, [], ◌∷◌, length, take, Ok, Err, refl, sym, ap, ◌∙◌, subst, arith, append-nil}
use Rattle.std.specs.Prelude.{IsUtf8}
use Rattle.std.specs.Str.{IsValidUpTo}
use Rattle.std.proofs.Math.Seq.{take-append_seam}
use Rattle.std.proofs.lemmas.Str.{IsUtf8-from_is_utf8, is_utf8-from_IsUtf8}
use Rattle.sheet_syntax_trees.specs.declared.token.SyntaxRefusal.{SyntaxRefusal}
use Rattle.sheet_syntax_trees.specs.declared.token.SyntaxRefusal.TheVariants.{BadToken, NumberTooWide, Expected, TooNested}
use Rattle.sheet_syntax_trees.specs.declared.token.SyntaxRefusal.TheVariants as syntax
use Rattle.sheet_syntax_trees.specs.Tokens.{Reads}
use Rattle.sheet_define_data.specs.declared.definition.Definition.{Definition}
use Rattle.sheet_define_reading.specs.Reading.{definition_read}
use Rattle.sheet_define_reading.proofs.Texts.{text_stands, text_none}
use Rattle.sheet_define_refusals.proofs.Texts.{refused_at_the_first, refused_for_nesting}
use Rattle.sheet_define.specs.declared.read.DefinitionRefusal.{DefinitionRefusal}
use Rattle.sheet_define.specs.declared.read.DefinitionRefusal.TheVariants.{Syntax}
use Rattle.sheet_define.specs.Definitions.{HasNone, Defines, Placed, line_at}

pub too_long : (text : List ℕ) → 262144 < length text → HasNone text
too_long text h d s = let k = s.short in absurd (omega arith)

pub not_utf8 : (text : List ℕ) (n : ℕ) → IsValidUpTo text n → HasNone text
not_utf8 text n v d s =
    let whole : take (length text) text ≡ text = ap (take (length text)) (sym (append-nil text)) ∙ take-append_seam text [] in
    v.longest (length text) v.short (subst IsUtf8 (sym whole) (IsUtf8-from_is_utf8 text s.encoded))

pub defines : (text : List ℕ) (d : Definition) → length text ≤ 262144 → IsUtf8 text → definition_read text ≡ Ok d.declarations → Defines text (Ok d)
defines text d short encoded e = text_stands text d short (is_utf8-from_IsUtf8 text encoded) e

placed_as : (text : List ℕ) (refusal : SyntaxRefusal) (line : ℕ) (r : DefinitionRefusal) → r ≡ Syntax refusal line → Defines text (Err (Syntax refusal line)) →
    Defines text (Err r)
placed_as text refusal line r is h = subst (λ r. Defines text (Err r)) (sym is) h

pub refused : (text : List ℕ) (refusal : SyntaxRefusal) (r : DefinitionRefusal) → length text ≤ 262144 → IsUtf8 text →
    Reads (λ (d : Definition). d.declarations) (Err refusal) (definition_read text) → Placed text refusal r → Defines text (Err r)
refused text (BadToken k) r short encoded e is = placed_as text (BadToken k) (line_at text k) r is (text_none text (BadToken k) e, short, encoded, (e, refl))
refused text (NumberTooWide k) r short encoded e is =
    placed_as text (NumberTooWide k) (line_at text k) r is (text_none text (NumberTooWide k) e, short, encoded, (e, refl))
refused text (Expected k) r short encoded e is =
    placed_as text (Expected k) (line_at text k) r is (text_none text (Expected k) e, short, encoded, (e, refl, refused_at_the_first text k e))
refused text (TooNested k) r short encoded e is =
    placed_as text (TooNested k) (line_at text k) r is (text_none text (TooNested k) e, short, encoded, (e, refl, refused_for_nesting text k e))
refused text syntax.NoMemory r short encoded e is = subst (λ r. Defines text (Err r)) (sym is) tt

-- the bytes up to an offset, or to the end
pub take_min : (n : ℕ) (xs : List ℕ) → take (min n (length xs)) xs ≡ take n xs
take_min zero xs = let e : min 0 (length xs) ≡ 0 = omega arith in rw e refl
take_min (suc n) [] = let e : min (suc n) 0 ≡ 0 = omega arith in rw e refl
take_min (suc n) (x ∷ xs) = let e : min (suc n) (length (x ∷ xs)) ≡ suc (min n (length xs)) = omega arith in rw e (ap (λ l. x ∷ l) (take_min n xs))
