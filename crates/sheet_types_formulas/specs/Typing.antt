-- The type of a formula as it is written, and its resolved form, or its first refusal.
use Rattle.std.specs.Prelude.{ℕ, List, [], ◌∷◌, Ok, codes}
use Rattle.sheet_values.specs.declared.value.Kind.TheVariants as kind
use Rattle.sheet_columns.specs.declared.formula.Core.TheVariants as core
use Rattle.sheet_syntax_trees.specs.declared.tree.Tree.{Tree, Number, Text, Truth, Root, This, Caller, Operator as OperatorWord, Name, Child', Up', Negate', Not', Binary', If', Set', Call', Gather', GatherWhere', Test', Row_of-Tree, end_of-Tree as end, more_of-Tree as more}
use Rattle.sheet_types_formulas.specs.declared.scope.Typed.{Typed}
use Rattle.sheet_types_formulas.specs.Answers.{Answer, ◌>>=◌}
use Rattle.sheet_types_formulas.specs.Names.{Reach, bind, typed_as, named, word}
use Rattle.sheet_types_formulas.specs.Forms.{step, up, negated, denied, operation, choice, set_of, called, no_condition, gathered, tested}

abbrev mutual
  -- The parts come first, from left to right, but the source of a comprehension, a sum, `any` and `all` before its other parts, in
  -- which the variable has its type; then the form.
  pub typed : Tree → Reach → Answer Typed
  typed (Number line n) r = Ok (typed_as line (core.Number n) kind.Number)
  typed (Text line t) r = Ok (typed_as line (core.Text t) kind.Text)
  typed (Truth line b) r = Ok (typed_as line (core.Truth b) kind.Truth)
  typed (Root line) r = Ok (typed_as line core.Root (kind.Object 0))
  typed (This line) r = word r line (codes "this")
  typed (Caller line) r = word r line (codes "caller")
  typed (OperatorWord line) r = word r line (codes "operator")
  typed (Name line name) r = named r line name
  typed (Child' line _ (more e end) name) r = typed e r >>= step r line name
  typed (Up' line _ (more e end)) r = typed e r >>= up r.columns line
  typed (Negate' line _ (more a end)) r = typed a r >>= negated r.columns line
  typed (Not' line _ (more a end)) r = typed a r >>= denied r.columns line
  typed (Binary' line op _ (more a end) _ (more b end)) r = typed a r >>= (λ x. typed b r >>= operation r.columns line op x)
  typed (If' line _ (more c end) _ (more a end) _ (more b end)) r =
      typed c r >>= (λ x. typed a r >>= (λ y. typed b r >>= choice r.columns line x y))
  typed (Set' line _ parts) r = typed_each parts r >>= set_of r.columns line
  typed (Call' line f _ (more s end)) r = typed s r >>= called r.columns line f
  typed (Gather' line g _ (more f end) x _ (more s end)) r =
      typed s r >>= (λ source. typed f (bind r x source.kind) >>= (λ body. gathered r.columns line g body source (no_condition line)))
  typed (GatherWhere' line g _ (more f end) x _ (more s end) _ (more p end)) r =
      typed s r >>= (λ source. typed f (bind r x source.kind) >>= (λ body. typed p (bind r x source.kind) >>= gathered r.columns line g body source))
  typed (Test' line q x _ (more s end) _ (more p end)) r =
      typed s r >>= (λ source. typed p (bind r x source.kind) >>= tested r.columns line q source)

  -- each part, in order
  pub typed_each : {m : _} → Row_of-Tree m → Reach → Answer (List Typed)
  typed_each end r = Ok []
  typed_each (more e rest) r = typed e r >>= (λ x. typed_each rest r >>= (λ xs. Ok (x ∷ xs)))

-- each of some formulas, in order
abbrev pub typed_list : List Tree → Reach → Answer (List Typed)
typed_list [] r = Ok []
typed_list (e ∷ es) r = typed e r >>= (λ x. typed_list es r >>= (λ xs. Ok (x ∷ xs)))

-- a formula, and what is made of it; some formulas, and what is made of them
abbrev pub typed_then : Tree → Reach → (Typed → Answer Typed) → Answer Typed
typed_then e r f = typed e r >>= f

-- some formulas, and what is made of them
abbrev pub list_then : List Tree → Reach → (List Typed → Answer Typed) → Answer Typed
list_then es r f = typed_list es r >>= f

-- the line of a formula's first token
abbrev pub line_of : Tree → ℕ
line_of (Number line n) = line
line_of (Text line t) = line
line_of (Truth line b) = line
line_of (Root line) = line
line_of (This line) = line
line_of (Caller line) = line
line_of (OperatorWord line) = line
line_of (Name line name) = line
line_of (Child' line _ _ _) = line
line_of (Up' line _ _) = line
line_of (Negate' line _ _) = line
line_of (Not' line _ _) = line
line_of (Binary' line _ _ _ _ _) = line
line_of (If' line _ _ _ _ _ _) = line
line_of (Set' line _ _) = line
line_of (Call' line _ _ _) = line
line_of (Gather' line _ _ _ _ _ _) = line
line_of (GatherWhere' line _ _ _ _ _ _ _ _) = line
line_of (Test' line _ _ _ _ _ _) = line
