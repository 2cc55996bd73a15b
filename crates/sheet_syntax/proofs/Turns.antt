-- Turns of the reader of expressions.
use Rattle.std.proofs.Common.{◌≡◌, ℕ, zero, suc, ◌-◌, ◌<◌, List, [], ◌∷◌, Err, false, refl, ◌∙◌, arith, inl, inr}
use Rattle.std.proofs.lemmas.Bool.{cases_Bool}
use Rattle.sheet_syntax_trees.specs.declared.token.Token.{Token}
use Rattle.sheet_syntax_trees.specs.declared.token.SyntaxRefusal.TheVariants.{Expected}
use Rattle.sheet_syntax_trees.specs.declared.sign.Sign.{Sign}
use Rattle.sheet_syntax_trees.specs.declared.sign.Sign.TheVariants as sign
use Rattle.sheet_syntax_trees.proofs.SignLemmas.{same_is}
use Rattle.sheet_syntax_trees.specs.Signs.{sign_of, same_sign}
use Rattle.sheet_syntax_trees.specs.Reading.{offset, setting, within, expression, chosen, disjunction}

pub turn_over : (limit end turns room : ℕ) (ts : List Token) → turns ≡ 0 → within limit end turns room ts ≡ Err (Expected (offset end ts))
unfolding within
turn_over limit end zero room ts e = refl
turn_over limit end (suc n) room ts e = absurd (omega arith)

turn_on : (limit end turns room : ℕ) (ts : List Token) → 0 < turns → within limit end turns room ts ≡ expression (setting limit end (turns - 1) room) ts
unfolding within
turn_on limit end zero room ts e = absurd (omega arith)
turn_on limit end (suc n) room ts e = let less : suc n - 1 ≡ n = omega arith in rw less refl

pub turn_if : (limit end turns room : ℕ) (t : Token) (rest ts : List Token) → 0 < turns → rest ≡ t ∷ ts → sign_of t.kind ≡ sign.If →
    within limit end turns room rest ≡ chosen (setting limit end (turns - 1) room) t ts
unfolding expression
turn_if limit end turns room t rest ts some e is = turn_on limit end turns room rest some ∙ rw (e, is) refl

pub turn_or : (limit end turns room : ℕ) (t : Token) (rest ts : List Token) → 0 < turns → rest ≡ t ∷ ts → same_sign (sign_of t.kind) sign.If ≡ false →
    within limit end turns room rest ≡ disjunction (setting limit end (turns - 1) room) rest
unfolding expression
turn_or limit end turns room t rest ts some e is = turn_on limit end turns room rest some ∙ rw (e, is) refl

pub turn_none : (limit end turns room : ℕ) (rest : List Token) → 0 < turns → rest ≡ [] →
    within limit end turns room rest ≡ disjunction (setting limit end (turns - 1) room) rest
unfolding expression
turn_none limit end turns room rest some e = turn_on limit end turns room rest some ∙ rw e refl

pub other_sign : (a b : Sign) → (a ≡ b → ⊥) → same_sign a b ≡ false
other_sign a b other = elim (cases_Bool (same_sign a b)) [ inl same ↦ absurd (other (same_is a b same)) | inr differ ↦ differ ]
