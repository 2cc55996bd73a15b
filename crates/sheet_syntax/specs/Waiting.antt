-- The ifs that wait for their parts.
use Rattle.std.specs.Prelude.{◌≡◌, ◌<◌, ℕ, ◌-◌, max, List, [], ◌∷◌, length, Result, Ok, Err}
use Rattle.sheet_syntax_trees.specs.declared.token.Token.{Token}
use Rattle.sheet_syntax_trees.specs.declared.token.SyntaxRefusal.{SyntaxRefusal}
use Rattle.sheet_syntax_trees.specs.declared.token.SyntaxRefusal.TheVariants.{NoMemory}
use Rattle.sheet_syntax_trees.specs.declared.sign.Sign.TheVariants as sign
use Rattle.sheet_syntax_trees.specs.declared.tree.Formed.{Formed}
use Rattle.sheet_syntax_trees.specs.declared.tree.Tree.TheVariants as tree
use Rattle.sheet_syntax_trees.specs.Reading.{Answer, Reader, ◌>>=◌, expect, with_rest, made, within}
use Rattle.sheet_syntax.specs.declared.waiting.Parts.{Parts}
use Rattle.sheet_syntax.specs.declared.waiting.Parts.TheVariants.{Nothing, Condition, Branch}
use Rattle.sheet_syntax.specs.declared.waiting.OpenIf.{OpenIf}
use Rattle.sheet_syntax.specs.declared.waiting.Resumed.{Resumed}
use Rattle.sheet_syntax.specs.declared.waiting.Resumed.TheVariants.{Whole, Part}

-- the if that begins there, of these parts
abbrev pub chosen_form : ℕ → ℕ → Formed → Formed → Formed → Answer Formed
chosen_form at line c x y = made 32 at (tree.If line c.tree x.tree y.tree) (max c.depth (max x.depth y.depth))

-- behind the else of an if, of which the condition and the first branch were read
abbrev pub behind_branch : OpenIf → Formed → Formed → Formed → List Token → Answer (Formed × List Token)
behind_branch w c x y rest = with_rest rest (chosen_form w.start w.line c x y)

-- behind the first branch, with the rest of the if still to be read
abbrev pub behind_condition : ℕ → Reader → OpenIf → Formed → Formed → List Token → Answer (Formed × List Token)
behind_condition end nested w c x rest = expect end sign.Else rest >>= (λ b. nested b >>= (λ y. behind_branch w c x y.0 y.1))

-- how an if goes on behind the part that was just read
abbrev pub goes_on_by : ℕ → Reader → OpenIf → Parts → Formed → List Token → Answer (Formed × List Token)
goes_on_by end nested w Nothing f rest = expect end sign.Then rest >>= (λ a. nested a >>= (λ x. behind_condition end nested w f x.0 x.1))
goes_on_by end nested w (Condition c) f rest = behind_condition end nested w c f rest
goes_on_by end nested w (Branch c x) f rest = behind_branch w c x f rest

-- how an if goes on behind the part that was just read
abbrev pub goes_on : ℕ → Reader → OpenIf → Formed → List Token → Answer (Formed × List Token)
goes_on end nested w f rest = goes_on_by end nested w w.parts f rest

-- What the ifs that wait, the outermost first, make of what is read for the innermost; the outermost was found with so
-- many turns left.
abbrev pub resumed_by : ℕ → ℕ → ℕ → List OpenIf → Answer (Formed × List Token) → Answer (Formed × List Token)
resumed_by end turns room [] r = r
resumed_by end turns room (w ∷ ws) r = resumed_by end (turns - 1) room ws r >>= (λ x. goes_on end (within 32 end (turns - 1) room) w x.0 x.1)

-- what is told of the ifs that waited for a formula: the outermost is whole, or the innermost has a part behind its next word
abbrev pub Resumes : ℕ → ℕ → ℕ → List OpenIf → List Token → Result Resumed SyntaxRefusal → Answer (Formed × List Token) → Type 0
Resumes end turns room new rest (Ok (Whole f)) r = r ≡ Ok (f, rest)
Resumes end turns room new rest (Ok (Part behind)) r = (length behind.now < length rest) × (r ≡ resumed_by end turns room new (within 32 end (turns - length new) room behind.now))
Resumes end turns room new rest (Err NoMemory) r = Unit {0}
Resumes end turns room new rest (Err e) r = r ≡ Err e
