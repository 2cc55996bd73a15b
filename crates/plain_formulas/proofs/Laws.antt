-- What `run` is at each form, where the parts are values of the program.
use Rattle.std.proofs.Common.{◌≡◌, refl, sym, ap, ◌∙◌, ℕ, Bool, List, [], ◌∷◌, ◌++◌, Ok, Err}
use Rattle.std.specs.Prelude.{pos, ◌+ℤ◌, map, fold, IfOk, Result}
use denote.Hole.Carrier.{hidden}
use Rattle.sheet_columns.specs.declared.formula.Core.TheBlock.{hidden-the_row-Core-0, hidden-the_row-Core-1}
use Rattle.sheet_columns.specs.declared.formula.Core.{Core, Row_of-Core, end_of-Core, more_of-Core, items-the_row-Core, items_hidden-the_row-Core-1, ObjectStep}
use Rattle.sheet_columns.specs.declared.formula.Core.{StateStep, FormulaStep, Up, Set, Combine, Compare, Order, Arithmetic, Negate, Join, Not, Connect, If}
use Rattle.sheet_columns.specs.declared.formula.Core.{Count, Only, Extreme, Comprehension, Sum, Quantify}
use Rattle.sheet_columns.specs.declared.formula.SetOperator.{SetOperator}
use Rattle.sheet_columns.specs.declared.formula.SetTest.{SetTest}
use Rattle.sheet_columns.specs.declared.formula.OrderTest.{OrderTest}
use Rattle.sheet_columns.specs.declared.formula.ArithmeticOperator.{ArithmeticOperator}
use Rattle.sheet_columns.specs.declared.formula.Connective.{Connective}
use Rattle.sheet_columns.specs.declared.formula.Extremum.{Extremum}
use Rattle.sheet_columns.specs.declared.formula.Quantifier.{Quantifier}
use Rattle.sheet_columns.specs.declared.formula.Quantifier.TheVariants.{Any, All}
use Rattle.sheet_columns.specs.declared.fault.Place.{Place}
use Rattle.sheet_values.specs.declared.value.Value.{Value}
use Rattle.sheet_meaning.specs.declared.run.Run.{Run}
use Rattle.sheet_meaning.specs.Run.{Outcome, finish, run_after, and_then, all}
use Rattle.sheet_meaning.specs.Formula.{World, Variables, run, run_each, bind, truth, number, step, extent_of, stored_of, worked_of, parent_of, quantified}
use Rattle.sheet_meaning.specs.Formula.{joined, single, turn, told, fits}
use Rattle.plain_formulas.specs.Forms.{combined, compared, in_order, calculated, negated, joined_texts, denied, connected, chosen, counted, only, extreme_of}
use Rattle.plain_formulas.specs.Forms.{united, singles, turns, number_turns, truths_of, totalled, answered, quantified_over, for_source, values_in}

pub same_if_ok : {A E : Type 0} (r : Result A E) {x y : A} → x ≡ y → IfOk r (λ a. a ≡ x) → IfOk r (λ a. a ≡ y)
same_if_ok (Ok a) e h = h ∙ e
same_if_ok (Err f) e h = tt

map_map : {A B C : Type 0} (g : B → C) (f : A → B) (xs : List A) → map g (map f xs) ≡ map (λ x. g (f x)) xs
map_map g f [] = refl
map_map g f (x ∷ xs) = ap (λ ys. g (f x) ∷ ys) (map_map g f xs)

-- what is made for the values of a source
for_values : (r : Run (List Value)) (f g : List Value → Run (List Value)) → ((s : List Value) → f s ≡ g s) →
    for_source r (f (values_in r.outcome)) ≡ and_then r g
for_values r f g same = ap (λ (next : Run (List Value)). record { outcome = next.outcome; uses = r.uses ++ next.uses }) (by_outcome r.outcome)
  where
    by_outcome : (o : Outcome (List Value)) → run_after o (λ s. f (values_in o)) ≡ run_after o g
    by_outcome (Ok s) = same s
    by_outcome (Err e) = refl

-- an outcome made of the value of what comes second
finish_next : {A B : Type 0} (r : Run (List Value)) (f : List Value → Run A) (g : A → Outcome B) → and_then r (λ s. finish (f s) g) ≡ finish (and_then r f) g
finish_next {A} {B} r f g = ap (λ (next : Run B). record { outcome = next.outcome; uses = r.uses ++ next.uses }) (by_outcome r.outcome)
  where
    by_outcome : (o : Outcome (List Value)) → run_after o (λ s. finish (f s) g) ≡ finish (run_after o f) g
    by_outcome (Ok s) = refl
    by_outcome (Err e) = refl

module _ (w : World) (p : Place) (v : Variables) where
  -- a form of one part, of two and of three
  pub unary : (h : Run (List Value) → Run (List Value)) (make : Core → Core) → ((e : Core) → run (make e) w p v ≡ h (run e w p v)) →
      (core e child : Core) (r : Run (List Value)) → core ≡ make e → child ≡ e → r ≡ run child w p v → h r ≡ run core w p v
  unary h make law core e child r is same first =
      ap h (first ∙ ap (λ k. run k w p v) same) ∙ sym (law e) ∙ sym (ap (λ k. run k w p v) is)

  pub binary : (h : Run (List Value) → Run (List Value) → Run (List Value)) (make : Core → Core → Core) →
      ((a b : Core) → run (make a b) w p v ≡ h (run a w p v) (run b w p v)) → (core a b left right : Core) (r s : Run (List Value)) → core ≡ make a b →
      left ≡ a → right ≡ b → r ≡ run left w p v → s ≡ run right w p v → h r s ≡ run core w p v
  binary h make law core a b left right r s is same_a same_b first second =
      ap (λ x. h x s) (first ∙ ap (λ k. run k w p v) same_a)
      ∙ ap (h (run a w p v)) (second ∙ ap (λ k. run k w p v) same_b)
      ∙ sym (law a b)
      ∙ sym (ap (λ k. run k w p v) is)

  pub run-ObjectStep : (c : ℕ) (e : Core) → run (ObjectStep e c) w p v ≡ and_then (run e w p v) (step (extent_of w c))
  unfolding hidden hidden-the_row-Core-0
  run-ObjectStep c e = refl

  pub run-StateStep : (c : ℕ) (e : Core) → run (StateStep e c) w p v ≡ and_then (run e w p v) (step (stored_of w c))
  unfolding hidden hidden-the_row-Core-0
  run-StateStep c e = refl

  pub run-FormulaStep : (c : ℕ) (e : Core) → run (FormulaStep e c) w p v ≡ and_then (run e w p v) (step (worked_of w c))
  unfolding hidden hidden-the_row-Core-0
  run-FormulaStep c e = refl

  pub run-Up : (e : Core) → run (Up e) w p v ≡ and_then (run e w p v) (step (parent_of w))
  unfolding hidden hidden-the_row-Core-0
  run-Up e = refl

  each_row : {m : _} (row : Row_of-Core m) → run_each row w p v ≡ map (λ e. single (run e w p v)) (items-the_row-Core m row)
  each_row end_of-Core = refl
  each_row (more_of-Core e rest) = ap (λ rs. single (run e w p v) ∷ rs) (each_row rest)

  run-Set : (parts : List Core) → run (Set parts) w p v ≡ united (map (λ e. single (run e w p v)) parts)
  run-Set parts =
      ap united (each_row (hidden-the_row-Core-1 parts) ∙ ap (map (λ e. single (run e w p v))) (items_hidden-the_row-Core-1 parts))

  pub set_form : (core : Core) (parts read : List Core) (rs : List (Run (List Value))) → core ≡ Set parts → read ≡ parts → rs ≡ map (λ e. run e w p v) read →
      united (singles rs) ≡ run core w p v
  set_form core parts read rs is same each =
      ap (λ l. united (singles l)) (each ∙ ap (map (λ e. run e w p v)) same)
      ∙ ap united (map_map single (λ e. run e w p v) parts)
      ∙ sym (run-Set parts)
      ∙ sym (ap (λ k. run k w p v) is)

  pub run-Combine : (op : SetOperator) (a b : Core) → run (Combine op a b) w p v ≡ combined op (run a w p v) (run b w p v)
  unfolding hidden hidden-the_row-Core-0
  run-Combine op a b = refl

  pub run-Compare : (test : SetTest) (a b : Core) → run (Compare test a b) w p v ≡ compared test (run a w p v) (run b w p v)
  unfolding hidden hidden-the_row-Core-0
  run-Compare test a b = refl

  pub run-Order : (test : OrderTest) (a b : Core) → run (Order test a b) w p v ≡ in_order test p (run a w p v) (run b w p v)
  unfolding hidden hidden-the_row-Core-0
  run-Order test a b = refl

  pub run-Arithmetic : (op : ArithmeticOperator) (a b : Core) → run (Arithmetic op a b) w p v ≡ calculated op p (run a w p v) (run b w p v)
  unfolding hidden hidden-the_row-Core-0
  run-Arithmetic op a b = refl

  pub run-Negate : (a : Core) → run (Negate a) w p v ≡ negated p (run a w p v)
  unfolding hidden hidden-the_row-Core-0
  run-Negate a = refl

  pub run-Join : (a b : Core) → run (Join a b) w p v ≡ joined_texts p (run a w p v) (run b w p v)
  unfolding hidden hidden-the_row-Core-0
  run-Join a b = refl

  pub run-Not : (a : Core) → run (Not a) w p v ≡ denied p (run a w p v)
  unfolding hidden hidden-the_row-Core-0
  run-Not a = refl

  pub run-Connect : (c : Connective) (a b : Core) → run (Connect c a b) w p v ≡ connected c p (run a w p v) (run b w p v)
  unfolding hidden hidden-the_row-Core-0
  run-Connect c a b = refl

  run-If : (c a b : Core) → run (If c a b) w p v ≡ chosen p (run c w p v) (run a w p v) (run b w p v)
  unfolding hidden hidden-the_row-Core-0
  run-If c a b = refl

  pub if_form : (core c a b condition left right : Core) (q r s : Run (List Value)) → core ≡ If c a b → condition ≡ c → left ≡ a → right ≡ b →
      q ≡ run condition w p v → r ≡ run left w p v → s ≡ run right w p v → chosen p q r s ≡ run core w p v
  if_form core c a b condition left right q r s is same_c same_a same_b first second third =
      ap (λ x. chosen p x r s) (first ∙ ap (λ k. run k w p v) same_c)
      ∙ ap (λ x. chosen p (run c w p v) x s) (second ∙ ap (λ k. run k w p v) same_a)
      ∙ ap (chosen p (run c w p v) (run a w p v)) (third ∙ ap (λ k. run k w p v) same_b)
      ∙ sym (run-If c a b)
      ∙ sym (ap (λ k. run k w p v) is)

  pub run-Count : (e : Core) → run (Count e) w p v ≡ counted (run e w p v)
  unfolding hidden hidden-the_row-Core-0
  run-Count e = refl

  pub run-Only : (e : Core) → run (Only e) w p v ≡ only p (run e w p v)
  unfolding hidden hidden-the_row-Core-0
  run-Only e = refl

  pub run-Extreme : (m : Extremum) (e : Core) → run (Extreme m e) w p v ≡ extreme_of m p (run e w p v)
  unfolding hidden hidden-the_row-Core-0
  run-Extreme m e = refl

  -- a condition and a body for a value
  abbrev pub pair_at : Core → Core → Value → Run (List Value) × Run (List Value)
  pair_at condition body x = (run condition w p (bind v x), run body w p (bind v x))

  run-Comprehension : (body source condition : Core) →
      run (Comprehension body source condition) w p v ≡ and_then (run source w p v)
      (λ s. united (map (λ x. turn (truth p (run condition w p (bind v x))) (run body w p (bind v x))) s))
  unfolding hidden hidden-the_row-Core-0
  run-Comprehension body source condition = refl

  pub comprehension_form : (core body source condition given read holds : Core) (r : Run (List Value)) (pairs : List (Run (List Value) × Run (List Value))) →
      core ≡ Comprehension body source condition → given ≡ body → read ≡ source → holds ≡ condition → r ≡ run read w p v →
      pairs ≡ map (pair_at holds given) (values_in r.outcome) → for_source r (united (turns p pairs)) ≡ run core w p v
  comprehension_form core body source condition given read holds r pairs is same_body same_source same_condition first each =
      ap (λ l. for_source r (united (turns p l)))
      (each
      ∙ ap (λ h. map (pair_at h given) (values_in r.outcome)) same_condition
      ∙ ap (λ g. map (pair_at condition g) (values_in r.outcome)) same_body)
      ∙ for_values r (λ s. united (turns p (map (pair_at condition body) s)))
      (λ s. united (map (λ x. turn (truth p (run condition w p (bind v x))) (run body w p (bind v x))) s))
      (λ s. ap united (map_map (λ (x : Run (List Value) × Run (List Value)). turn (truth p x.0) x.1) (pair_at condition body) s))
      ∙ ap (λ q. and_then q (λ s. united (map (λ x. turn (truth p (run condition w p (bind v x))) (run body w p (bind v x))) s)))
      (first ∙ ap (λ k. run k w p v) same_source)
      ∙ sym (run-Comprehension body source condition)
      ∙ sym (ap (λ k. run k w p v) is)

  run-Sum : (body source condition : Core) →
      run (Sum body source condition) w p v ≡ finish
      (and_then (run source w p v) (λ s. finish (all (map (λ x. turn (truth p (run condition w p (bind v x))) (number p (run body w p (bind v x)))) s))
      (λ parts. Ok (fold ◌+ℤ◌ (pos 0) (joined parts))))) (fits p)
  unfolding hidden hidden-the_row-Core-0
  run-Sum body source condition = refl

  pub sum_form : (core body source condition given read holds : Core) (r : Run (List Value)) (pairs : List (Run (List Value) × Run (List Value))) →
      core ≡ Sum body source condition → given ≡ body → read ≡ source → holds ≡ condition → r ≡ run read w p v →
      pairs ≡ map (pair_at holds given) (values_in r.outcome) → for_source r (totalled p (number_turns p pairs)) ≡ run core w p v
  sum_form core body source condition given read holds r pairs is same_body same_source same_condition first each =
      ap (λ l. for_source r (totalled p (number_turns p l)))
      (each
      ∙ ap (λ h. map (pair_at h given) (values_in r.outcome)) same_condition
      ∙ ap (λ g. map (pair_at condition g) (values_in r.outcome)) same_body)
      ∙ for_values r (λ s. totalled p (number_turns p (map (pair_at condition body) s)))
      (λ s. totalled p (map (λ x. turn (truth p (run condition w p (bind v x))) (number p (run body w p (bind v x)))) s))
      (λ s. ap (totalled p) (map_map (λ (x : Run (List Value) × Run (List Value)). turn (truth p x.0) (number p x.1)) (pair_at condition body) s))
      ∙ ap (λ q. and_then q (λ s. totalled p (map (λ x. turn (truth p (run condition w p (bind v x))) (number p (run body w p (bind v x)))) s)))
      (first ∙ ap (λ k. run k w p v) same_source)
      ∙ finish_next (run source w p v) (λ s. finish (all (map (λ x. turn (truth p (run condition w p (bind v x))) (number p (run body w p (bind v x)))) s))
      (λ parts. Ok (fold ◌+ℤ◌ (pos 0) (joined parts)))) (fits p)
      ∙ sym (run-Sum body source condition)
      ∙ sym (ap (λ k. run k w p v) is)

  run-Quantify : (q : Quantifier) (source condition : Core) →
      run (Quantify q source condition) w p v ≡ finish (and_then (run source w p v) (quantified q (λ x. truth p (run condition w p (bind v x))))) told
  unfolding hidden hidden-the_row-Core-0
  run-Quantify q source condition = refl

  by_quantifier : (q : Quantifier) (f : Value → Run Bool) (s : List Value) →
      finish (all (map (λ x. single (f x)) s)) (λ parts. Ok (answered q (joined parts))) ≡ quantified q f s
  by_quantifier Any f s = refl
  by_quantifier All f s = refl

  pub quantify_form : (q : Quantifier) (core source condition read holds : Core) (r : Run (List Value)) (conditions : List (Run (List Value))) →
      core ≡ Quantify q source condition → read ≡ source → holds ≡ condition → r ≡ run read w p v →
      conditions ≡ map (λ x. run holds w p (bind v x)) (values_in r.outcome) →
      for_source r (quantified_over q (singles (truths_of p conditions))) ≡ run core w p v
  quantify_form q core source condition read holds r conditions is same_source same_condition first each =
      ap (λ l. for_source r (quantified_over q (singles (truths_of p l))))
      (each ∙ ap (λ h. map (λ x. run h w p (bind v x)) (values_in r.outcome)) same_condition)
      ∙ for_values r (λ s. quantified_over q (singles (truths_of p (map (λ x. run condition w p (bind v x)) s))))
      (λ s. finish (quantified q (λ x. truth p (run condition w p (bind v x))) s) told)
      (λ s.
      ap (quantified_over q)
      (ap singles (map_map (truth p) (λ x. run condition w p (bind v x)) s)
      ∙ map_map single (λ x. truth p (run condition w p (bind v x))) s)
      ∙ ap (λ x. finish x told) (by_quantifier q (λ x. truth p (run condition w p (bind v x))) s))
      ∙ ap (λ x. and_then x (λ s. finish (quantified q (λ x. truth p (run condition w p (bind v x))) s) told)) (first ∙ ap (λ k. run k w p v) same_source)
      ∙ finish_next (run source w p v) (quantified q (λ x. truth p (run condition w p (bind v x)))) told
      ∙ sym (run-Quantify q source condition)
      ∙ sym (ap (λ k. run k w p v) is)
