-- What well-typed formulas give is of their types.
use Rattle.std.proofs.Common.{◌≡◌, sym, ◌∙◌, subst, ℕ, Bool, true, false, List, [], ◌∷◌, ◌++◌, Ok, Err, Option, Some, None}
use Rattle.std.specs.Prelude.{ℤ, pos, ◌&&◌, ◌+ℤ◌, ◌-ℤ◌, ◌*ℤ◌, neg_ℤ, int_div, int_rem, not, fold, IfOk, slice_index_or, if◌then◌else◌, nat_le, length}
use Rattle.std.specs.List.{AllByRecursion}
use Rattle.sheet_values.specs.Order.{value_cmp}
use Rattle.sheet_values.specs.Sets.{union}
use Rattle.sheet_values.specs.declared.value.Kind.{Kind}
use Rattle.sheet_values.specs.declared.value.Kind.TheVariants as kind
use Rattle.sheet_values.specs.declared.value.Value.{Value}
use Rattle.sheet_values.specs.declared.value.Value.TheVariants as value
use Rattle.sheet_columns.specs.Tree.{column_of, above_of}
use Rattle.sheet_columns.specs.declared.fault.Fault.TheVariants as fault
use Rattle.sheet_columns.specs.declared.fault.Place.{Place}
use Rattle.sheet_columns.specs.declared.tree.Column.TheVariants as column
use Rattle.sheet_columns.specs.declared.tree.Node.{Node}
use Rattle.sheet_columns.specs.declared.formula.ArithmeticOperator.{ArithmeticOperator}
use Rattle.sheet_columns.specs.declared.formula.ArithmeticOperator.TheVariants.{Add, Subtract, Multiply, Divide, Remainder}
use Rattle.sheet_columns.specs.declared.formula.Extremum.{Extremum}
use Rattle.sheet_columns.specs.declared.formula.Extremum.TheVariants.{Min, Max}
use Rattle.sheet_columns.specs.declared.formula.Core.{Core, Truth, Number, Text, Root, Variable, ObjectStep', StateStep', FormulaStep', Up' as UpStep', Set'}
use Rattle.sheet_columns.specs.declared.formula.Core.{Combine', Compare', Order', Arithmetic', Negate', Join', Not', Connect', If', Count', Only', Extreme'}
use Rattle.sheet_columns.specs.declared.formula.Core.{Comprehension', Sum', Quantify', Row_of-Core, end_of-Core as end, more_of-Core as more}
use Rattle.sheet_types_rules.specs.Columns.{kinds_from}
use Rattle.sheet_types_rules.specs.Formulas.{kind_in, kinds_in, provided, serves, all_common, is_under, is_object, is_state, is_formula, ◌>>◌}
use Rattle.sheet_types_rules.specs.Kinds.{common, has_order, objects_in}
use Rattle.sheet_meaning.specs.Formula.{World, Variables, run, run_each, bind, compare, ordered, one}
use Rattle.sheet_meaning.specs.Formula.{truth, number, text, told, fits, is_i64, fits_text, is_zero, divide, arithmetic}
use Rattle.sheet_meaning.specs.Formula.{last, extreme, joined, step, on_object, single}
use Rattle.sheet_meaning.specs.Formula.{turn, quantified, gathered, extent_of, stored_of, worked_of, parent_of}
use Rattle.sheet_meaning.specs.Run.{Outcome, and_then, both, all, connect, the_one}
use Rattle.sheet_meaning.specs.WellFormed.{HasKind, IsWellFormed}
use Rattle.sheet_meaning.specs.Workbook.{world}
use Rattle.sheet_meaning.specs.declared.run.Run.{Run}
use Rattle.sheet_meaning.specs.declared.workbook.State.{State}
use Rattle.sheet_meaning.specs.declared.workbook.Workbook.{Workbook}
use Rattle.sheet_meaning.proofs.Members.{both_true}
use Rattle.sheet_engine_types.specs.Types.{IsSetOf, HaveKinds}
use Rattle.sheet_engine_types.proofs.Given.{Gives, any, Any, finished, followed, Both, both_given, made, chosen_given, single_given, turn_given}
use Rattle.sheet_engine_types.proofs.Given.{gathered_given, all_more}
use Rattle.sheet_engine_types.proofs.OneKind.{came, passed, Becomes, agree}
use Rattle.sheet_engine_types.proofs.OneKind.{becomes, of_none, of_one, of_combined, of_unions, AreSetsOf, all_become}
use Rattle.sheet_engine_types.proofs.OneKind.{where_live, one_more, at_position}
use Rattle.sheet_engine_types.proofs.Contents.{state_there, formula_there, root_typed, children_typed, stored_typed, parent_typed, variable_typed}

-- a formula cell has no outcome but a set of its column's type
abbrev pub AreWorked : Workbook → (ℕ → ℕ → Outcome (List Value)) → Type 0
AreWorked w worked = (o c : ℕ) (k : Kind) → column_of w.schema.columns c ≡ Some (column.Formula k) → IfOk (worked o c) (IsSetOf w.state k)

module _ (w : Workbook) (formed : IsWellFormed w) (worked : ℕ → ℕ → Outcome (List Value)) (sound : AreWorked w worked) (p : Place) where
  abbrev s : State
  s = w.state

  abbrev n : List Node
  n = w.schema.columns

  abbrev k : List Kind
  k = kinds_from 0 n

  abbrev u : World
  u = world w worked

  -- an evaluation that gives a set of a type
  abbrev GivesSet : Kind → Run (List Value) → Type 0
  GivesSet x r = Gives (IsSetOf s x) r

  as_type : (x y : Kind) (r : Run (List Value)) → Becomes x y → GivesSet x r → GivesSet y r
  as_type x y r b h = record { is = at r.outcome h.is }
    where
      at : (o : Outcome (List Value)) → IfOk o (IsSetOf s x) → IfOk o (IsSetOf s y)
      at (Ok set) g = becomes s x y set b g
      at (Err e) g = tt

  same_type : (x y : Kind) (r : Run (List Value)) → x ≡ y → GivesSet x r → GivesSet y r
  same_type x y r e h = subst (λ z. GivesSet z r) e h

  -- where a test gave the type
  given : (b : Bool) (x y : Kind) (r : Run (List Value)) → provided b x ≡ Some y → GivesSet x r → GivesSet y r
  given b x y r got h = same_type x y r (passed b x y got).1 h

  some_type : (x y : Kind) (r : Run (List Value)) → Some x ≡ Some y → GivesSet x r → GivesSet y r
  some_type x y r got h = let same : x ≡ y = cc in same_type x y r same h

  -- one value
  told_typed : (b : Bool) → IfOk (told b) (IsSetOf s kind.Truth)
  told_typed b = of_one s kind.Truth (value.Truth b) tt

  fits_typed : (i : ℤ) → IfOk (fits p i) (IsSetOf s kind.Number)
  fits_typed i =
      elim (is_i64 i) as (λ b. IfOk (if b then Ok (value.Number i ∷ []) else Err (fault.Overflow p)) (IsSetOf s kind.Number)) [
        | true ↦ of_one s kind.Number (value.Number i) tt
        | false ↦ tt
      ]

  text_typed : (t : List ℕ) → IfOk (fits_text p t) (IsSetOf s kind.Text)
  text_typed t =
      elim (nat_le (length t) 1000) as (λ b. IfOk (if b then Ok (value.Text t ∷ []) else Err (fault.TextTooLong p)) (IsSetOf s kind.Text)) [
        | true ↦ of_one s kind.Text (value.Text t) tt
        | false ↦ tt
      ]

  divided : (f : ℤ → ℤ → ℤ) (a b : ℤ) → IfOk (divide p f a b) (IsSetOf s kind.Number)
  divided f a b =
      elim (is_zero b) as (λ z. IfOk (if z then Err (fault.ZeroDivisor p) else fits p (f a b)) (IsSetOf s kind.Number)) [
        | true ↦ tt
        | false ↦ fits_typed (f a b)
      ]

  arithmetic_typed : (op : ArithmeticOperator) (a b : ℤ) → IfOk (arithmetic op p a b) (IsSetOf s kind.Number)
  arithmetic_typed Add a b = fits_typed (a +ℤ b)
  arithmetic_typed Subtract a b = fits_typed (a -ℤ b)
  arithmetic_typed Multiply a b = fits_typed (a *ℤ b)
  arithmetic_typed Divide a b = divided int_div a b
  arithmetic_typed Remainder a b = divided int_rem a b

  the_one_typed : (x : Kind) (set : List Value) → IsSetOf s x set → IfOk (the_one p set) (HasKind s x)
  the_one_typed x [] h = tt
  the_one_typed x (v ∷ []) h = h.1.0
  the_one_typed x (v ∷ y ∷ rest) h = tt

  last_typed : (x : Kind) (v : Value) (set : List Value) → HasKind s x v → AllByRecursion (HasKind s x) set → HasKind s x (last v set)
  last_typed x v [] h g = h
  last_typed x v (y ∷ ys) h g = last_typed x y ys g.0 g.1

  extreme_typed : (m : Extremum) (x : Kind) (set : List Value) → IsSetOf s x set → IfOk (extreme m p set) (IsSetOf s x)
  extreme_typed Min x [] h = tt
  extreme_typed Max x [] h = tt
  extreme_typed Min x (v ∷ set) h = of_one s x v h.1.0
  extreme_typed Max x (v ∷ set) h = of_one s x (last v set) (last_typed x v set h.1.0 h.1.1)

  -- the steps from the objects of a set
  stepped : (x y : Kind) (f : ℕ → Run (List Value)) → ((o : ℕ) → HasKind s x (value.Object o) → GivesSet y (f o)) → (r : Run (List Value)) →
      GivesSet x r → GivesSet y (and_then r (step f))
  stepped x y f h r g = followed (IsSetOf s x) (IsSetOf s y) (step f) r g (λ set q.
      gathered_given (IsSetOf s y) (IsSetOf s y) union [] (on_object f) set
      (all_more (HasKind s x) (λ (v : Value). Gives (AllByRecursion (IsSetOf s y)) (on_object f v)) each set q.1)
      (λ parts a. of_unions s y [] parts (of_none s y) a))
    where
      each : (v : Value) → HasKind s x v → Gives (AllByRecursion (IsSetOf s y)) (on_object f v)
      each (value.Truth b) i = record { is = tt }
      each (value.Number m) i = record { is = tt }
      each (value.Text t) i = record { is = tt }
      each (value.Object o) i = single_given (IsSetOf s y) (f o) (h o i)

  up_step : (y x : Kind) (r : Run (List Value)) → (objects_in y >> (λ c. above_of n c >> (λ above. Some (kind.Object above)))) ≡ Some x → GivesSet y r →
      GivesSet x (and_then r (step (parent_of u)))
  up_step kind.Unknown x r got h = cc
  up_step kind.Truth x r got h = cc
  up_step kind.Number x r got h = cc
  up_step kind.Text x r got h = cc
  up_step (kind.Object c) x r got h =
      let above = came (above_of n c) (λ a. Some (kind.Object a)) x got in
      some_type (kind.Object above.from) x _ above.gives
      (stepped (kind.Object c) (kind.Object above.from) (parent_of u) (λ o i. record { is = parent_typed w formed o c above.from above.is i }) r h)

  -- a branch that is taken for granted by a test
  branch : (b : Bool) (o : Option Kind) (m : Kind) → (if b then o else None) ≡ Some m → o ≡ Some m
  branch true o m got = got
  branch false o m got = cc

  -- the parts of a written set, each one set
  abbrev IsPart : Kind → List (List Value) → Type 0
  IsPart x [] = ⊥
  IsPart x (set ∷ []) = IsSetOf s x set
  IsPart x (set ∷ other ∷ rest) = ⊥

  abbrev ArePartsOf : List Kind → List (List (List Value)) → Type 0
  ArePartsOf [] [] = Unit {0}
  ArePartsOf [] (part ∷ parts) = ⊥
  ArePartsOf (x ∷ xs) [] = ⊥
  ArePartsOf (x ∷ xs) (part ∷ parts) = IsPart x part × ArePartsOf xs parts

  joined_parts : (xs : List Kind) (parts : List (List (List Value))) → ArePartsOf xs parts → AreSetsOf s xs (joined parts)
  joined_parts [] [] h = tt
  joined_parts [] (part ∷ parts) h = absurd h
  joined_parts (x ∷ xs) [] h = absurd h
  joined_parts (x ∷ xs) ([] ∷ parts) h = absurd h.0
  joined_parts (x ∷ xs) ((set ∷ []) ∷ parts) h = (h.0, joined_parts xs parts h.1)
  joined_parts (x ∷ xs) ((set ∷ other ∷ rest) ∷ parts) h = absurd h.0

  -- a value of a source, as a variable behind others
  bound : (v : List Kind) (sets : Variables) (x : Kind) (a : Value) → HaveKinds s v sets → HasKind s x a → HaveKinds s (v ++ x ∷ []) (bind sets a)
  bound v sets x a h g = one_more s v sets x (a ∷ []) h ((tt, tt), (where_live s x a g, tt))

  mutual
    typed : (e : Core) (v : List Kind) (sets : Variables) (x : Kind) → HaveKinds s v sets → kind_in e n k v ≡ Some x → GivesSet x (run e u p sets)
    typed (Truth b) v sets x h got = some_type kind.Truth x _ got (record { is = of_one s kind.Truth (value.Truth b) tt })
    typed (Number i) v sets x h got = some_type kind.Number x _ got (record { is = of_one s kind.Number (value.Number i) tt })
    typed (Text t) v sets x h got = some_type kind.Text x _ got (record { is = of_one s kind.Text (value.Text t) tt })
    typed Root v sets x h got = some_type (kind.Object 0) x _ got (record { is = of_one s (kind.Object 0) (value.Object 0) (root_typed w formed) })
    typed (Variable i) v sets x h got =
        record { is = variable_typed w formed worked x (slice_index_or sets i []) (at_position s v sets i x h got) }
    typed (ObjectStep' _ (more e end) c) v sets x h got =
        let r = came (kind_in e n k v) (λ y. provided (is_under n y c && is_object (column_of n c)) (kind.Object c)) x got in
        given (is_under n r.from c && is_object (column_of n c)) (kind.Object c) x _ r.gives
        (stepped r.from (kind.Object c) (extent_of u c) (λ o i. record { is = children_typed w formed o c }) (run e u p sets)
        (typed e v sets r.from h r.is))
    typed (StateStep' _ (more e end) c) v sets x h got =
        let r = came (kind_in e n k v) (λ y. provided (is_under n y c && is_state (column_of n c)) (slice_index_or k c kind.Unknown)) x got in
        let t = passed (is_under n r.from c && is_state (column_of n c)) (slice_index_or k c kind.Unknown) x r.gives in
        let is = state_there n c (both_true (is_under n r.from c) (is_state (column_of n c)) t.0).1 in
        same_type is.holds x _ (sym is.kind ∙ t.1)
        (stepped r.from is.holds (stored_of u c) (λ o i. record { is = stored_typed w formed o c is.holds is.one is.first is.is }) (run e u p sets)
        (typed e v sets r.from h r.is))
    typed (FormulaStep' _ (more e end) c) v sets x h got =
        let r = came (kind_in e n k v) (λ y. provided (is_under n y c && is_formula (column_of n c)) (slice_index_or k c kind.Unknown)) x got in
        let t = passed (is_under n r.from c && is_formula (column_of n c)) (slice_index_or k c kind.Unknown) x r.gives in
        let is = formula_there n c (both_true (is_under n r.from c) (is_formula (column_of n c)) t.0).1 in
        same_type is.holds x _ (sym is.kind ∙ t.1)
        (stepped r.from is.holds (worked_of u c) (λ o i. record { is = sound o c is.holds is.is }) (run e u p sets) (typed e v sets r.from h r.is))
    typed (UpStep' _ (more e end)) v sets x h got =
        let r = came (kind_in e n k v) (λ y. objects_in y >> (λ c. above_of n c >> (λ above. Some (kind.Object above)))) x got in
        up_step r.from x (run e u p sets) r.gives (typed e v sets r.from h r.is)
    typed (Set' _ row) v sets x h got =
        let r = came (kinds_in row n k v) (all_common kind.Unknown) x got in
        finished (ArePartsOf r.from) (IsSetOf s x) (λ (parts : List (List (List Value))). Ok (fold union [] (joined parts))) (all (run_each row u p sets))
        (each_typed row v sets r.from h r.is)
        (λ parts q. of_unions s x [] (joined parts) (of_none s x) (all_become s kind.Unknown r.from x (joined parts) r.gives (joined_parts r.from parts q)))
    typed (Combine' op _ (more a end) _ (more b end)) v sets x h got =
        let r = came (kind_in a n k v) (λ y. kind_in b n k v >> common y) x got in
        let q = came (kind_in b n k v) (common r.from) x r.gives in
        let agreed = agree r.from q.from x q.gives in
        finished (Both (IsSetOf s x) (IsSetOf s x)) (IsSetOf s x) _ _
        (both_given (IsSetOf s x) (IsSetOf s x) (run a u p sets) (run b u p sets)
        (as_type r.from x (run a u p sets) agreed.left (typed a v sets r.from h r.is))
        (as_type q.from x (run b u p sets) agreed.right (typed b v sets q.from h q.is)))
        (λ (y : List Value × List Value) i. of_combined s x op y.0 y.1 i.0 i.1)
    typed (Compare' test _ (more a end) _ (more b end)) v sets x h got =
        let r = came (kind_in a n k v) (λ y. kind_in b n k v >> (λ z. provided (serves y z) kind.Truth)) x got in
        let q = came (kind_in b n k v) (λ z. provided (serves r.from z) kind.Truth) x r.gives in
        given (serves r.from q.from) kind.Truth x _ q.gives
        (made (IsSetOf s kind.Truth) (λ (y : List Value × List Value). told (compare test y.0 y.1)) (both (run a u p sets) (run b u p sets))
        (λ (y : List Value × List Value). told_typed (compare test y.0 y.1)))
    typed (Order' test _ (more a end) _ (more b end)) v sets x h got =
        let r = came (kind_in a n k v) (λ y. kind_in b n k v >> (λ z. provided (has_order y && has_order z && serves y z) kind.Truth)) x got in
        let q = came (kind_in b n k v) (λ z. provided (has_order r.from && has_order z && serves r.from z) kind.Truth) x r.gives in
        given (has_order r.from && has_order q.from && serves r.from q.from) kind.Truth x _ q.gives
        (made (IsSetOf s kind.Truth) (λ (y : Value × Value). told (ordered test (value_cmp y.0 y.1)))
        (both (one p (run a u p sets)) (one p (run b u p sets))) (λ (y : Value × Value). told_typed (ordered test (value_cmp y.0 y.1))))
    typed (Arithmetic' op _ (more a end) _ (more b end)) v sets x h got =
        let r = came (kind_in a n k v) (λ y. kind_in b n k v >> (λ z. provided (serves kind.Number y && serves kind.Number z) kind.Number)) x got in
        let q = came (kind_in b n k v) (λ z. provided (serves kind.Number r.from && serves kind.Number z) kind.Number) x r.gives in
        given (serves kind.Number r.from && serves kind.Number q.from) kind.Number x _ q.gives
        (made (IsSetOf s kind.Number) (λ (y : ℤ × ℤ). arithmetic op p y.0 y.1) (both (number p (run a u p sets)) (number p (run b u p sets)))
        (λ (y : ℤ × ℤ). arithmetic_typed op y.0 y.1))
    typed (Negate' _ (more a end)) v sets x h got =
        let r = came (kind_in a n k v) (λ y. provided (serves kind.Number y) kind.Number) x got in
        given (serves kind.Number r.from) kind.Number x _ r.gives
        (made (IsSetOf s kind.Number) (λ (i : ℤ). fits p (neg_ℤ i)) (number p (run a u p sets)) (λ (i : ℤ). fits_typed (neg_ℤ i)))
    typed (Join' _ (more a end) _ (more b end)) v sets x h got =
        let r = came (kind_in a n k v) (λ y. kind_in b n k v >> (λ z. provided (serves kind.Text y && serves kind.Text z) kind.Text)) x got in
        let q = came (kind_in b n k v) (λ z. provided (serves kind.Text r.from && serves kind.Text z) kind.Text) x r.gives in
        given (serves kind.Text r.from && serves kind.Text q.from) kind.Text x _ q.gives
        (made (IsSetOf s kind.Text) (λ (y : List ℕ × List ℕ). fits_text p (y.0 ++ y.1)) (both (text p (run a u p sets)) (text p (run b u p sets)))
        (λ (y : List ℕ × List ℕ). text_typed (y.0 ++ y.1)))
    typed (Not' _ (more a end)) v sets x h got =
        let r = came (kind_in a n k v) (λ y. provided (serves kind.Truth y) kind.Truth) x got in
        given (serves kind.Truth r.from) kind.Truth x _ r.gives
        (made (IsSetOf s kind.Truth) (λ (b : Bool). told (not b)) (truth p (run a u p sets)) (λ (b : Bool). told_typed (not b)))
    typed (Connect' c _ (more a end) _ (more b end)) v sets x h got =
        let r = came (kind_in a n k v) (λ y. kind_in b n k v >> (λ z. provided (serves kind.Truth y && serves kind.Truth z) kind.Truth)) x got in
        let q = came (kind_in b n k v) (λ z. provided (serves kind.Truth r.from && serves kind.Truth z) kind.Truth) x r.gives in
        given (serves kind.Truth r.from && serves kind.Truth q.from) kind.Truth x _ q.gives
        (made (IsSetOf s kind.Truth) told (connect c (truth p (run a u p sets)) (truth p (run b u p sets))) told_typed)
    typed (If' _ (more c end) _ (more a end) _ (more b end)) v sets x h got =
        let t = came (kind_in c n k v) (λ w. kind_in a n k v >> (λ y. kind_in b n k v >> (λ z. if serves kind.Truth w then common y z else None))) x got in
        let r = came (kind_in a n k v) (λ y. kind_in b n k v >> (λ z. if serves kind.Truth t.from then common y z else None)) x t.gives in
        let q = came (kind_in b n k v) (λ z. if serves kind.Truth t.from then common r.from z else None) x r.gives in
        let agreed = agree r.from q.from x (branch (serves kind.Truth t.from) (common r.from q.from) x q.gives) in
        followed Any (IsSetOf s x) _ (truth p (run c u p sets)) (any (truth p (run c u p sets)))
        (λ holds i. chosen_given (IsSetOf s x) holds (run a u p sets) (run b u p sets)
        (as_type r.from x (run a u p sets) agreed.left (typed a v sets r.from h r.is))
        (as_type q.from x (run b u p sets) agreed.right (typed b v sets q.from h q.is)))
    typed (Count' _ (more e end)) v sets x h got =
        let r = came (kind_in e n k v) (λ y. Some kind.Number) x got in
        some_type kind.Number x _ r.gives
        (made (IsSetOf s kind.Number) (λ (set : List Value). Ok (value.Number (pos (length set)) ∷ [])) (run e u p sets)
        (λ (set : List Value). of_one s kind.Number (value.Number (pos (length set))) tt))
    typed (Only' _ (more e end)) v sets x h got =
        finished (HasKind s x) (IsSetOf s x) _ (one p (run e u p sets))
        (finished (IsSetOf s x) (HasKind s x) (the_one p) (run e u p sets) (typed e v sets x h got) (the_one_typed x)) (of_one s x)
    typed (Extreme' m _ (more e end)) v sets x h got =
        let r = came (kind_in e n k v) (λ y. provided (has_order y) y) x got in
        given (has_order r.from) r.from x _ r.gives
        (finished (IsSetOf s r.from) (IsSetOf s r.from) (extreme m p) (run e u p sets) (typed e v sets r.from h r.is) (extreme_typed m r.from))
    typed (Comprehension' _ (more body end) _ (more source end) _ (more condition end)) v sets x h got =
        let t = came (kind_in source n k v)
        (λ w. kind_in body n k (v ++ w ∷ []) >> (λ y. kind_in condition n k (v ++ w ∷ []) >> (λ z. provided (serves kind.Truth z) y))) x got in
        let r = came (kind_in body n k (v ++ t.from ∷ []))
        (λ y. kind_in condition n k (v ++ t.from ∷ []) >> (λ z. provided (serves kind.Truth z) y)) x t.gives in
        let q = came (kind_in condition n k (v ++ t.from ∷ [])) (λ z. provided (serves kind.Truth z) r.from) x r.gives in
        given (serves kind.Truth q.from) r.from x _ q.gives
        (followed (IsSetOf s t.from) (IsSetOf s r.from) _ (run source u p sets) (typed source v sets t.from h t.is) (λ set i.
        gathered_given (IsSetOf s r.from) (IsSetOf s r.from) union [] _ set
        (all_more (HasKind s t.from)
        (λ (a : Value). Gives (AllByRecursion (IsSetOf s r.from)) (turn (truth p (run condition u p (bind sets a))) (run body u p (bind sets a))))
        (λ a g. turn_given (IsSetOf s r.from) (truth p (run condition u p (bind sets a))) (run body u p (bind sets a))
        (typed body (v ++ t.from ∷ []) (bind sets a) r.from (bound v sets t.from a h g) r.is)) set i.1)
        (λ parts g. of_unions s r.from [] parts (of_none s r.from) g)))
    typed (Sum' _ (more body end) _ (more source end) _ (more condition end)) v sets x h got =
        let t = came (kind_in source n k v)
        (λ w. kind_in body n k (v ++ w ∷ [])
        >> (λ y. kind_in condition n k (v ++ w ∷ []) >> (λ z. provided (serves kind.Number y && serves kind.Truth z) kind.Number))) x got in
        let r = came (kind_in body n k (v ++ t.from ∷ []))
        (λ y. kind_in condition n k (v ++ t.from ∷ []) >> (λ z. provided (serves kind.Number y && serves kind.Truth z) kind.Number)) x t.gives in
        let q = came (kind_in condition n k (v ++ t.from ∷ [])) (λ z. provided (serves kind.Number r.from && serves kind.Truth z) kind.Number) x r.gives in
        given (serves kind.Number r.from && serves kind.Truth q.from) kind.Number x _ q.gives
        (made (IsSetOf s kind.Number) (fits p)
        (and_then (run source u p sets)
        (gathered ◌+ℤ◌ (pos 0) (λ (a : Value). turn (truth p (run condition u p (bind sets a))) (number p (run body u p (bind sets a)))))) fits_typed)
    typed (Quantify' q _ (more source end) _ (more condition end)) v sets x h got =
        let t = came (kind_in source n k v) (λ w. kind_in condition n k (v ++ w ∷ []) >> (λ z. provided (serves kind.Truth z) kind.Truth)) x got in
        let r = came (kind_in condition n k (v ++ t.from ∷ [])) (λ z. provided (serves kind.Truth z) kind.Truth) x t.gives in
        given (serves kind.Truth r.from) kind.Truth x _ r.gives
        (made (IsSetOf s kind.Truth) told
        (and_then (run source u p sets) (quantified q (λ (a : Value). truth p (run condition u p (bind sets a))))) told_typed)

    each_typed : {m : _} (row : Row_of-Core m) (v : List Kind) (sets : Variables) (xs : List Kind) → HaveKinds s v sets → kinds_in row n k v ≡ Some xs →
        Gives (ArePartsOf xs) (all (run_each row u p sets))
    each_typed end v sets xs h got = let none : [] ≡ xs = cc in record { is = subst (λ l. ArePartsOf l []) none tt }
    each_typed (more e rest) v sets xs h got =
        let r = came (kind_in e n k v) (λ y. kinds_in rest n k v >> (λ ys. Some (y ∷ ys))) xs got in
        let q = came (kinds_in rest n k v) (λ ys. Some (r.from ∷ ys)) xs r.gives in
        let whole : r.from ∷ q.from ≡ xs = cc in
        subst (λ l. Gives (ArePartsOf l) (all (single (run e u p sets) ∷ run_each rest u p sets))) whole
        (finished (Both (IsPart r.from) (ArePartsOf q.from)) (ArePartsOf (r.from ∷ q.from))
        (λ (y : List (List Value) × List (List (List Value))). Ok (y.0 ∷ y.1)) (both (single (run e u p sets)) (all (run_each rest u p sets)))
        (both_given (IsPart r.from) (ArePartsOf q.from) (single (run e u p sets)) (all (run_each rest u p sets))
        (finished (IsSetOf s r.from) (IsPart r.from) (λ set. Ok (set ∷ [])) (run e u p sets) (typed e v sets r.from h r.is) (λ set i. i))
        (each_typed rest v sets q.from h q.is))
        (λ y i. i))

  pub forms_typed : (e : Core) (v : List Kind) (sets : Variables) (x : Kind) → HaveKinds s v sets → kind_in e n k v ≡ Some x →
      IfOk (run e u p sets).outcome (IsSetOf s x)
  forms_typed e v sets x h got = (typed e v sets x h got).is
