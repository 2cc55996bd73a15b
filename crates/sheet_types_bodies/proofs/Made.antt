-- What is made of a block that a call made.
use Rattle.std.proofs.Common.{◌≡◌, sym, ◌∙◌, ap, ℕ, ◌+◌, List, [], ◌∷◌, ◌++◌, length, take, Ok, Err}
use Rattle.std.specs.Prelude.{Result, OnOk}
use Rattle.sheet_values.specs.declared.value.Kind.TheVariants as kind
use Rattle.sheet_columns.specs.declared.formula.Core.{Core}
use Rattle.sheet_columns.specs.declared.statement.CoreStatement.TheVariants as core
use Rattle.sheet_syntax_trees.specs.declared.tree.Tree.{Tree}
use Rattle.sheet_define_data.specs.declared.statement.Statement.{Statement}
use Rattle.sheet_types_formulas.specs.declared.refusal.TypeRefusal.{TypeRefusal}
use Rattle.sheet_types_formulas.specs.declared.scope.Typed.{Typed}
use Rattle.sheet_types_formulas.specs.declared.scope.Variable.{Variable}
use Rattle.sheet_types_formulas.specs.Answers.{Answer, AnswersAs, ◌>>=◌}
use Rattle.sheet_types_formulas.specs.Names.{bind}
use Rattle.sheet_types_formulas.specs.Typing.{typed}
use Rattle.sheet_types_bodies.specs.declared.formula.Sheet.{Sheet}
use Rattle.sheet_types_bodies.specs.declared.statement.Block.{Block as MadeBlock}
use Rattle.sheet_types_bodies.specs.declared.statement.Guarded.{Guarded as MadeGuarded}
use Rattle.sheet_types_bodies.specs.Statements.{Step, Block, step, formula_of, in_block, guarded_block, if_of, if_else_of, for_of, if_statement}
use Rattle.sheet_types_bodies.specs.Statements.{if_else_statement, for_statement}
use Rattle.sheet_types_bodies.specs.Calls.{here, made_with, made_block, made_guarded, with_made}
use Rattle.sheet_types_bodies.proofs.Steps.{handed_on}
use Rattle.sheet_types_bodies.proofs.Blocks.{begins_one}

pub with_same : {A : Type 0} (made : Result MadeBlock TypeRefusal) (f : MadeBlock → A) (P Q : Type 0) → (P → Q) → OnOk made P → OnOk (with_made made f) Q
with_same (Ok b) f P Q g h = g h
with_same (Err e) f P Q g h = tt

-- a condition, and the block behind it
pub guarded_told : (s : Sheet) (vs : List Variable) (e : Tree) (body : List Statement) (n : ℕ) (c : Core) (made : Result MadeBlock TypeRefusal)
    → formula_of kind.Truth e (here s vs) ≡ Ok c → AnswersAs made_block made (in_block body (here s vs) n)
    → AnswersAs made_guarded (with_made made (λ b. record { condition = c; body = b })) (guarded_block e body (here s vs) n)
guarded_told s vs e body n c (Ok b) is h =
    ap (λ a. a >>= (λ d. in_block body (here s vs) n >>= (λ x. Ok (d, x)))) is ∙ ap (λ a. a >>= (λ x. Ok (c, x))) h
guarded_told s vs e body n c (Err d) is h =
    handed_on d made_block made_guarded (in_block body (here s vs) n) (guarded_block e body (here s vs) n) h
    (λ no. ap (λ a. a >>= (λ k. in_block body (here s vs) n >>= (λ x. Ok (k, x)))) is ∙ ap (λ a. a >>= (λ x. Ok (c, x))) no)

-- a condition that is refused
pub guarded_refused : (s : Sheet) (us vs : List Variable) (e : Tree) (body : List Statement) (n : ℕ) (d : TypeRefusal)
    → us ≡ vs → ◌≡◌ {A = Answer Core} (formula_of kind.Truth e (here s us)) (Err d)
    → ◌≡◌ {A = Answer (Core × Block)} (guarded_block e body (here s vs) n) (Err d)
guarded_refused s us vs e body n d same h =
    ap (λ ws. guarded_block e body (here s ws) n) (sym same) ∙ ap (λ a. a >>= (λ c. in_block body (here s us) n >>= (λ x. Ok (c, x)))) h

module _ (s : Sheet) (old : List Variable) (e : Tree) (body : List Statement) (n first : ℕ) (behind : first ≡ n + 1) where
  -- a refusal of the condition and the block, or of what a loop goes over, is that of the whole
  pub if_refused : (d : TypeRefusal) → ◌≡◌ {A = Answer (Core × Block)} (guarded_block e body (here s old) first) (Err d)
      → ◌≡◌ {A = Answer Step} (if_statement e body (here s old) n) (Err d)
  if_refused d h =
      ap (λ m. guarded_block e body (here s old) m >>= (λ x. Ok (if_of (here s old) n x.0 x.1))) (sym behind)
      ∙ ap (λ a. a >>= (λ x. Ok (if_of (here s old) n x.0 x.1))) h

  pub either_refused : (otherwise : List Statement) (d : TypeRefusal) → ◌≡◌ {A = Answer (Core × Block)} (guarded_block e body (here s old) first) (Err d)
      → ◌≡◌ {A = Answer Step} (if_else_statement e body otherwise (here s old) n) (Err d)
  either_refused otherwise d h =
      ap (λ m. guarded_block e body (here s old) m >>= (λ x. in_block otherwise (here s old) x.1.next >>= (λ y. Ok (if_else_of (here s old) n x.0 x.1 y))))
      (sym behind)
      ∙ ap (λ a. a >>= (λ x. in_block otherwise (here s old) x.1.next >>= (λ y. Ok (if_else_of (here s old) n x.0 x.1 y)))) h

  pub for_refused : (x : List ℕ) (us : List Variable) (d : TypeRefusal) → us ≡ old → ◌≡◌ {A = Answer Typed} (typed e (here s us)) (Err d)
      → ◌≡◌ {A = Answer Step} (for_statement x e body (here s old) n) (Err d)
  for_refused x us d same h =
      ap (λ ws. for_statement x e body (here s ws) n) (sym same)
      ∙ ap (λ a. a >>= (λ y. in_block body (bind (here s us) x y.kind) (n + 1) >>= (λ z. Ok (for_of (here s us) n y.core z)))) h

  -- `if e { .. }`
  pub if_told : (new : List Variable) (g : MadeGuarded) → guarded_block e body (here s old) first ≡ Ok (made_guarded g) → new ≡ old
      → if_statement e body (here s old) n ≡ Ok (step (here s new) g.body.next (if_of (here s old) n g.condition (made_block g.body)).core)
  if_told new g is same =
      ap (λ m. guarded_block e body (here s old) m >>= (λ x. Ok (if_of (here s old) n x.0 x.1))) (sym behind)
      ∙ ap (λ a. a >>= (λ x. Ok (if_of (here s old) n x.0 x.1))) is
      ∙ ap (λ vs. Ok (step (here s vs) g.body.next (if_of (here s old) n g.condition (made_block g.body)).core)) (sym same)

  -- `if e { .. } else { .. }`
  pub either_told : (otherwise : List Statement) (mid new : List Variable) (g : MadeGuarded) (made : Result MadeBlock TypeRefusal)
      → guarded_block e body (here s old) first ≡ Ok (made_guarded g) → mid ≡ old
      → AnswersAs made_block made (in_block otherwise (here s mid) g.body.next) → OnOk made (new ≡ mid)
      → AnswersAs (made_with s new) (with_made made (λ o. record { core = core.If n g.condition g.body.statements o.statements; next = o.next }))
      (if_else_statement e body otherwise (here s old) n)
  either_told otherwise mid new g (Ok o) is same told stays =
      ap (λ m. guarded_block e body (here s old) m >>= (λ x. in_block otherwise (here s old) x.1.next >>= (λ y. Ok (if_else_of (here s old) n x.0 x.1 y))))
      (sym behind)
      ∙ ap (λ a. a >>= (λ x. in_block otherwise (here s old) x.1.next >>= (λ y. Ok (if_else_of (here s old) n x.0 x.1 y)))) is
      ∙ ap (λ vs. in_block otherwise (here s vs) g.body.next >>= (λ y. Ok (if_else_of (here s old) n g.condition (made_block g.body) y))) (sym same)
      ∙ ap (λ a. a >>= (λ y. Ok (if_else_of (here s old) n g.condition (made_block g.body) y))) told
      ∙ ap (λ vs. Ok (step (here s vs) o.next (core.If n g.condition g.body.statements o.statements))) (sym same ∙ sym stays)
  either_told otherwise mid new g (Err d) is same told stays =
      handed_on d made_block (made_with s new) (in_block otherwise (here s mid) g.body.next) (if_else_statement e body otherwise (here s old) n) told
      (λ no.
      ap (λ m. guarded_block e body (here s old) m >>= (λ x. in_block otherwise (here s old) x.1.next >>= (λ y. Ok (if_else_of (here s old) n x.0 x.1 y))))
      (sym behind)
      ∙ ap (λ a. a >>= (λ x. in_block otherwise (here s old) x.1.next >>= (λ y. Ok (if_else_of (here s old) n x.0 x.1 y)))) is
      ∙ ap (λ vs. in_block otherwise (here s vs) g.body.next >>= (λ y. Ok (if_else_of (here s old) n g.condition (made_block g.body) y))) (sym same)
      ∙ ap (λ a. a >>= (λ y. Ok (if_else_of (here s old) n g.condition (made_block g.body) y))) no)

  -- what a loop binds is gone behind it
  pub gone : (x : Variable) (mid after new : List Variable) → mid ≡ old ++ x ∷ [] → new ≡ take (length old) after → after ≡ mid → new ≡ old
  gone x mid after new one cut stays = cut ∙ ap (take (length old)) (stays ∙ one) ∙ begins_one old x

  -- `for x in e { .. }`
  pub for_told : (x : List ℕ) (mid after new : List Variable) (t : Typed) (made : Result MadeBlock TypeRefusal)
      → typed e (here s old) ≡ Ok t → mid ≡ old ++ record { name = x; kind = t.kind } ∷ []
      → AnswersAs made_block made (in_block body (here s mid) first) → OnOk made (after ≡ mid) → new ≡ take (length old) after
      → AnswersAs (made_with s new) (with_made made (λ b. record { core = core.For n t.core b.statements; next = b.next }))
      (for_statement x e body (here s old) n)
  for_told x mid after new t (Ok b) is one told stays cut =
      ap (λ a. a >>= (λ y. in_block body (bind (here s old) x y.kind) (n + 1) >>= (λ z. Ok (for_of (here s old) n y.core z)))) is
      ∙ ap (λ vs. in_block body (here s vs) (n + 1) >>= (λ z. Ok (for_of (here s old) n t.core z))) (sym one)
      ∙ ap (λ m. in_block body (here s mid) m >>= (λ z. Ok (for_of (here s old) n t.core z))) (sym behind)
      ∙ ap (λ a. a >>= (λ z. Ok (for_of (here s old) n t.core z))) told
      ∙ ap (λ vs. Ok (step (here s vs) b.next (core.For n t.core b.statements))) (sym (gone (record { name = x; kind = t.kind }) mid after new one cut stays))
  for_told x mid after new t (Err d) is one told stays cut =
      handed_on d made_block (made_with s new) (in_block body (here s mid) first) (for_statement x e body (here s old) n) told
      (λ no.
      ap (λ a. a >>= (λ y. in_block body (bind (here s old) x y.kind) (n + 1) >>= (λ z. Ok (for_of (here s old) n y.core z)))) is
      ∙ ap (λ vs. in_block body (here s vs) (n + 1) >>= (λ z. Ok (for_of (here s old) n t.core z))) (sym one)
      ∙ ap (λ m. in_block body (here s mid) m >>= (λ z. Ok (for_of (here s old) n t.core z))) (sym behind)
      ∙ ap (λ a. a >>= (λ z. Ok (for_of (here s old) n t.core z))) no)
