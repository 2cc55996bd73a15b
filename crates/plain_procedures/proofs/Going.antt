-- How a run goes on from a formula, and from one statement or turn to the next.
use Rattle.std.proofs.Common.{◌≡◌, refl, sym, ap, ◌∙◌, ℕ, ◌+◌, ◌<◌, ◌≤◌, List, [], ◌∷◌, ◌++◌, length, get_or, take, drop, Ok, Err}
use Rattle.std.specs.Prelude.{Result}
use Rattle.std.proofs.lemmas.List.{take_more, take_all, take-append-drop}
use Rattle.sheet_values.specs.declared.value.Value.{Value}
use Rattle.sheet_columns.specs.declared.statement.CoreStatement.{CoreStatement}
use Rattle.sheet_meaning.specs.declared.run.Run.{Run}
use Rattle.sheet_meaning.specs.declared.refusal.Refusal.{Refusal}
use Rattle.sheet_meaning.specs.declared.workbook.Schema.{Schema}
use Rattle.sheet_meaning.specs.Statements.{Point, next, with_value, from_run, keeping, run_statement, run_statements}
use Rattle.plain_meaning.specs.declared.stop.Stop.{Stop}
use Rattle.plain_meaning.specs.declared.stop.Stop.TheVariants.{Refused, NoMemory}
use Rattle.plain_procedures.specs.declared.point.PlainPoint.{PlainPoint}
use Rattle.plain_procedures.specs.Points.{as_point, Ends, GoesOn}
use Rattle.plain_procedures.specs.Blocks.{turn, turns}

-- a run that ends as one definition says ends as an equal one says
pub same_end : (r : Result PlainPoint Stop) {a b : Result Point Refusal} → a ≡ b → Ends r a → Ends r b
same_end (Ok p) e h = sym e ∙ h
same_end (Err (Refused x)) e h = sym e ∙ h
same_end (Err NoMemory) e h = tt

module _ {A : Type 0} (s : Schema) (r : Run A) (p : Point) (f : A → Point → Result Point Refusal) where
  -- a formula that has a value goes on
  pub goes_on : (x : A) (q : PlainPoint) → GoesOn s r p (Ok (x, q)) → from_run s r p f ≡ f x (as_point q)
  goes_on x q h = ap (λ o. with_value o (λ a. f a (keeping s r.uses p))) h.0 ∙ ap (f x) (sym h.1)

  -- one that has a fault ends the run
  pub ends_in : (stop : Stop) → GoesOn s r p (Err stop) → Ends (Err stop) (from_run s r p f)
  ends_in (Refused e) h = ap (λ o. with_value o (λ a. f a (keeping s r.uses p))) h.1 ∙ ap Err (sym h.2)
  ends_in NoMemory h = tt

-- steps in order, up to the first refusal
abbrev pub chain : {X : Type 0} → (X → Point → Result Point Refusal) → List X → Point → Result Point Refusal
chain f [] p = Ok p
chain f (x ∷ xs) p = next (f x p) (chain f xs)

next_same : (r : Result Point Refusal) (f g : Point → Result Point Refusal) → ((p : Point) → f p ≡ g p) → next r f ≡ next r g
next_same (Ok p) f g same = same p
next_same (Err e) f g same = refl

next_next : (r : Result Point Refusal) (f g : Point → Result Point Refusal) → next (next r f) g ≡ next r (λ p. next (f p) g)
next_next (Ok p) f g = refl
next_next (Err e) f g = refl

next_last : (r : Result Point Refusal) → next r (λ p. Ok p) ≡ r
next_last (Ok p) = refl
next_last (Err e) = refl

pub statements_chain : (xs : List CoreStatement) (s : Schema) (p : Point) → run_statements xs s p ≡ chain (λ x q. run_statement x s q) xs p
statements_chain [] s p = refl
statements_chain (x ∷ xs) s p = next_same (run_statement x s p) _ _ (statements_chain xs s)

pub turns_chain : (body : Point → Result Point Refusal) (xs : List Value) (p : Point) → turns body xs p ≡ chain (turn body) xs p
turns_chain body [] p = refl
turns_chain body (x ∷ xs) p = next_same (turn body x p) _ _ (turns_chain body xs)

module _ {X : Type 0} (f : X → Point → Result Point Refusal) where
  chain_parts : (xs ys : List X) (p : Point) → chain f (xs ++ ys) p ≡ next (chain f xs p) (chain f ys)
  chain_parts [] ys p = refl
  chain_parts (x ∷ xs) ys p = next_same (f x p) _ _ (chain_parts xs ys) ∙ sym (next_next (f x p) (chain f xs) (chain f ys))

  chain_one : (x : X) (p : Point) → chain f (x ∷ []) p ≡ f x p
  chain_one x p = next_last (f x p)

  module _ (xs : List X) (i : ℕ) (x : X) (lt : i < length xs) (is : x ≡ get_or xs i x) (p : Point) (q : PlainPoint)
      (so_far : chain f (take i xs) p ≡ Ok (as_point q)) where
    reached : chain f (take (i + 1) xs) p ≡ f x (as_point q)
    reached =
        ap (λ l. chain f l p) (take_more xs i x lt ∙ ap (λ y. take i xs ++ y ∷ []) (sym is))
        ∙ chain_parts (take i xs) (x ∷ []) p
        ∙ ap (λ r. next r (chain f (x ∷ []))) so_far
        ∙ chain_one x (as_point q)

    -- one step more
    pub chain_more : (n : PlainPoint) → Ends (Ok n) (f x (as_point q)) → chain f (take (i + 1) xs) p ≡ Ok (as_point n)
    chain_more n h = reached ∙ h

    -- a step that ends the run
    pub chain_ends : (stop : Stop) → Ends (Err stop) (f x (as_point q)) → Ends (Err stop) (chain f xs p)
    chain_ends (Refused e) h =
        ap (λ l. chain f l p) (sym (take-append-drop (i + 1) xs))
        ∙ chain_parts (take (i + 1) xs) (drop (i + 1) xs) p
        ∙ ap (λ r. next r (chain f (drop (i + 1) xs))) (reached ∙ h)
    chain_ends NoMemory h = tt

  -- the last step was taken
  pub chain_all : (xs : List X) (i : ℕ) (p : Point) (r : Result Point Refusal) → length xs ≤ i → chain f (take i xs) p ≡ r → chain f xs p ≡ r
  chain_all xs i p r all h = ap (λ l. chain f l p) (sym (take_all i xs all)) ∙ h
