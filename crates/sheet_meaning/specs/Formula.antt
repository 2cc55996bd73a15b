-- What an expression comes to in a workbook where some formula cells have outcomes, and what it uses.
use Rattle.std.specs.Prelude.{ℕ, ℤ, pos, negsuc, nat_lt, nat_le, ◌&&◌, ◌+ℤ◌, ◌-ℤ◌, ◌*ℤ◌, neg_ℤ, int_div, int_rem, ◌^◌, ◌==◌, Bool, true, false, not, if◌then◌else◌, List, [], ◌∷◌, ◌++◌, map, filter, fold, length, ◌||◌, Option, Some, None, Ok, Err, slice_index_or}
use Rattle.std.specs.List.{filter_map, list_all}
use Rattle.std.specs.declared.cmp.Ordering.{Ordering}
use Rattle.std.specs.Ordering.{is_eq, is_lt, is_le, is_gt, is_ge}
use Rattle.sheet_values.specs.declared.value.Value.{Value}
use Rattle.sheet_values.specs.declared.value.Value.TheVariants as value
use Rattle.sheet_values.specs.Order.{value_cmp}
use Rattle.sheet_values.specs.Sets.{union, intersect, minus, contains}
use Rattle.sheet_columns.specs.declared.fault.Fault.TheVariants as fault
use Rattle.sheet_columns.specs.declared.fault.Place.{Place}
use Rattle.sheet_columns.specs.declared.item.Item.TheVariants.{Live, Up, Extent, Stored}
use Rattle.sheet_columns.specs.declared.formula.SetOperator.{SetOperator}
use Rattle.sheet_columns.specs.declared.formula.SetOperator.TheVariants.{Union, Intersect, Except}
use Rattle.sheet_columns.specs.declared.formula.SetTest.{SetTest}
use Rattle.sheet_columns.specs.declared.formula.SetTest.TheVariants.{Equal, Unequal, Within}
use Rattle.sheet_columns.specs.declared.formula.OrderTest.{OrderTest}
use Rattle.sheet_columns.specs.declared.formula.OrderTest.TheVariants.{Less, AtMost, Greater, AtLeast}
use Rattle.sheet_columns.specs.declared.formula.ArithmeticOperator.{ArithmeticOperator}
use Rattle.sheet_columns.specs.declared.formula.ArithmeticOperator.TheVariants.{Add, Subtract, Multiply, Divide, Remainder}
use Rattle.sheet_columns.specs.declared.formula.Extremum.{Extremum}
use Rattle.sheet_columns.specs.declared.formula.Extremum.TheVariants.{Min, Max}
use Rattle.sheet_columns.specs.declared.formula.Quantifier.{Quantifier}
use Rattle.sheet_columns.specs.declared.formula.Quantifier.TheVariants.{Any, All}
use Rattle.sheet_columns.specs.declared.formula.Core.{Core, Truth, Number, Text, Root, Variable, ObjectStep', StateStep', FormulaStep', Up' as UpStep', Set', Combine', Compare', Order', Arithmetic', Negate', Join', Not', Connect', If', Count', Only', Extreme', Comprehension', Sum', Quantify', Row_of-Core, end_of-Core as end, more_of-Core as more}
use Rattle.sheet_meaning.specs.declared.run.Use.{Use}
use Rattle.sheet_meaning.specs.declared.run.Use.TheVariants.{Read, Cell}
use Rattle.sheet_meaning.specs.Run.{Outcome, done, finish, and_then, both, all, connect, the_one}
use Rattle.sheet_meaning.specs.declared.run.Run.{Run}

-- the content that expressions are worked out from: stored sets, children, parents, whether an object is live, and the outcomes of
-- formula cells
pub record World : Type 0 where
  pub cell : ℕ → ℕ → List Value
  pub children : ℕ → ℕ → List Value
  pub parent : ℕ → Option ℕ
  pub live : ℕ → Bool
  pub worked : ℕ → ℕ → Outcome (List Value)

-- the sets of the variables, by position; past the end they are empty
abbrev pub Variables : Type 0
Variables = List (List Value)

-- the variables with one more, which holds x
abbrev pub bind : Variables → Value → Variables
bind v x = v ++ ((x ∷ []) ∷ [])

-- a value of the kind that a form takes
abbrev pub truth_in : Value → Option Bool
truth_in (value.Truth b) = Some b
truth_in (value.Number n) = None
truth_in (value.Text t) = None
truth_in (value.Object o) = None

abbrev pub number_in : Value → Option ℤ
number_in (value.Truth b) = None
number_in (value.Number n) = Some n
number_in (value.Text t) = None
number_in (value.Object o) = None

abbrev pub text_in : Value → Option (List ℕ)
text_in (value.Truth b) = None
text_in (value.Number n) = None
text_in (value.Text t) = Some t
text_in (value.Object o) = None

abbrev pub object_in : Value → Option ℕ
object_in (value.Truth b) = None
object_in (value.Number n) = None
object_in (value.Text t) = None
object_in (value.Object o) = Some o

-- a part that must be one value, one truth, one number, one text
abbrev pub one : Place → Run (List Value) → Run Value
one p r = finish r (the_one p)

abbrev pub truth : Place → Run (List Value) → Run Bool
truth p r = finish r (λ s. the_one p (filter_map truth_in s))

abbrev pub number : Place → Run (List Value) → Run ℤ
number p r = finish r (λ s. the_one p (filter_map number_in s))

abbrev pub text : Place → Run (List Value) → Run (List ℕ)
text p r = finish r (λ s. the_one p (filter_map text_in s))

-- the set of a truth
abbrev pub told : Bool → Outcome (List Value)
told b = Ok (value.Truth b ∷ [])

-- the set of a number, which must fit 64 bits
abbrev pub is_i64 : ℤ → Bool
is_i64 (pos n) = nat_lt n (2 ^ 63)
is_i64 (negsuc n) = nat_lt n (2 ^ 63)

abbrev pub fits : Place → ℤ → Outcome (List Value)
fits p n = if is_i64 n then Ok (value.Number n ∷ []) else Err (fault.Overflow p)

-- the set of a text, of 1,000 bytes at most
abbrev pub fits_text : Place → List ℕ → Outcome (List Value)
fits_text p t = if nat_le (length t) 1000 then Ok (value.Text t ∷ []) else Err (fault.TextTooLong p)

abbrev pub combine : SetOperator → List Value → List Value → List Value
combine Union a b = union a b
combine Intersect a b = intersect a b
combine Except a b = minus a b

-- whether two sets, listed in order, are equal
abbrev pub sets_equal : List Value → List Value → Bool
sets_equal [] [] = true
sets_equal [] (y ∷ ys) = false
sets_equal (x ∷ xs) [] = false
sets_equal (x ∷ xs) (y ∷ ys) = is_eq (value_cmp x y) && sets_equal xs ys

abbrev pub compare : SetTest → List Value → List Value → Bool
compare Equal a b = sets_equal a b
compare Unequal a b = not (sets_equal a b)
compare Within a b = list_all (λ x. contains x b) a

abbrev pub ordered : OrderTest → Ordering → Bool
ordered Less o = is_lt o
ordered AtMost o = is_le o
ordered Greater o = is_gt o
ordered AtLeast o = is_ge o

abbrev pub is_zero : ℤ → Bool
is_zero (pos n) = n == 0
is_zero (negsuc n) = false

-- the zero divisor is tested first, then the exact result; division truncates toward zero, and the remainder has the dividend's sign
abbrev pub divide : Place → (ℤ → ℤ → ℤ) → ℤ → ℤ → Outcome (List Value)
divide p f a b = if is_zero b then Err (fault.ZeroDivisor p) else fits p (f a b)

abbrev pub arithmetic : ArithmeticOperator → Place → ℤ → ℤ → Outcome (List Value)
arithmetic Add p a b = fits p (a +ℤ b)
arithmetic Subtract p a b = fits p (a -ℤ b)
arithmetic Multiply p a b = fits p (a *ℤ b)
arithmetic Divide p a b = divide p int_div a b
arithmetic Remainder p a b = divide p int_rem a b

-- the least value of a set, which is the first in its list, and the greatest, which is the last
abbrev pub last : Value → List Value → Value
last x [] = x
last x (y ∷ ys) = last y ys

abbrev pub extreme : Extremum → Place → List Value → Outcome (List Value)
extreme m p [] = the_one p []
extreme Min p (x ∷ xs) = Ok (x ∷ [])
extreme Max p (x ∷ xs) = Ok (last x xs ∷ [])

abbrev pub single : {A : Type 0} → Run A → Run (List A)
single r = finish r (λ a. Ok (a ∷ []))

abbrev pub joined : {A : Type 0} → List (List A) → List A
joined [] = []
joined (xs ∷ xss) = xs ++ joined xss

-- what each of some things gives, as parts in order; and their values folded into one
abbrev pub gathered : {X A B : Type 0} → (B → A → B) → B → (X → Run (List A)) → List X → Run B
gathered g b f xs = finish (all (map f xs)) (λ parts. Ok (fold g b (joined parts)))

-- what an object gives, and nothing for other values
abbrev pub on_object : (ℕ → Run (List Value)) → Value → Run (List (List Value))
on_object f (value.Truth b) = done []
on_object f (value.Number n) = done []
on_object f (value.Text t) = done []
on_object f (value.Object o) = single (f o)

-- the union of what each object of a set gives
abbrev pub step : (ℕ → Run (List Value)) → List Value → Run (List Value)
step f s = gathered union [] (on_object f) s

abbrev pub extent_of : World → ℕ → ℕ → Run (List Value)
extent_of w c o = record { outcome = Ok (w.children o c); uses = Read (Extent o c) ∷ [] }

abbrev pub stored_of : World → ℕ → ℕ → Run (List Value)
stored_of w c o = record { outcome = Ok (w.cell o c); uses = Read (Stored o c) ∷ [] }

abbrev pub worked_of : World → ℕ → ℕ → Run (List Value)
worked_of w c o = record { outcome = w.worked o c; uses = Cell o c ∷ [] }

abbrev pub objects_of : Option ℕ → List Value
objects_of None = []
objects_of (Some o) = value.Object o ∷ []

abbrev pub parent_of : World → ℕ → Run (List Value)
parent_of w o = record { outcome = Ok (objects_of (w.parent o)); uses = Read (Up o) ∷ [] }

-- a value of a variable is read unless it is an object that isn't live
abbrev pub is_read : World → Value → Bool
is_read w (value.Truth b) = true
is_read w (value.Number n) = true
is_read w (value.Text t) = true
is_read w (value.Object o) = w.live o

abbrev pub live_reads : List Value → List Use
live_reads s = map (λ o. Read (Live o)) (filter_map object_in s)

-- a variable's values, of objects only the live ones
abbrev pub variable_read : World → List Value → Run (List Value)
variable_read w s = record { outcome = Ok (filter (is_read w) s); uses = live_reads s }

-- what a value of a comprehension gives: its condition's fault or none, or nothing where it doesn't hold, or what the body gives
abbrev pub turn : {A : Type 0} → Run Bool → Run A → Run (List A)
turn condition body = and_then condition (λ holds. if holds then single body else done [])

-- the answers of a condition for all values, in one
abbrev pub quantified : Quantifier → (Value → Run Bool) → List Value → Run Bool
quantified Any f s = gathered ◌||◌ false (λ x. single (f x)) s
quantified All f s = gathered ◌&&◌ true (λ x. single (f x)) s

abbrev mutual
  -- the expression `e` in the world `w`, at the place `p`, with the variables `v`
  pub run : Core → World → Place → Variables → Run (List Value)
  run (Truth b) w p v = done (value.Truth b ∷ [])
  run (Number n) w p v = done (value.Number n ∷ [])
  run (Text t) w p v = done (value.Text t ∷ [])
  run Root w p v = done (value.Object 0 ∷ [])
  run (Variable k) w p v = variable_read w (slice_index_or v k [])
  run (ObjectStep' _ (more e end) c) w p v = and_then (run e w p v) (step (extent_of w c))
  run (StateStep' _ (more e end) c) w p v = and_then (run e w p v) (step (stored_of w c))
  run (FormulaStep' _ (more e end) c) w p v = and_then (run e w p v) (step (worked_of w c))
  run (UpStep' _ (more e end)) w p v = and_then (run e w p v) (step (parent_of w))
  run (Set' _ parts) w p v = finish (all (run_each parts w p v)) (λ parts. Ok (fold union [] (joined parts)))
  run (Combine' op _ (more a end) _ (more b end)) w p v = finish (both (run a w p v) (run b w p v)) (λ x. Ok (combine op x.0 x.1))
  run (Compare' test _ (more a end) _ (more b end)) w p v = finish (both (run a w p v) (run b w p v)) (λ x. told (compare test x.0 x.1))
  run (Order' test _ (more a end) _ (more b end)) w p v =
      finish (both (one p (run a w p v)) (one p (run b w p v))) (λ x. told (ordered test (value_cmp x.0 x.1)))
  run (Arithmetic' op _ (more a end) _ (more b end)) w p v =
      finish (both (number p (run a w p v)) (number p (run b w p v))) (λ x. arithmetic op p x.0 x.1)
  run (Negate' _ (more a end)) w p v = finish (number p (run a w p v)) (λ n. fits p (neg_ℤ n))
  run (Join' _ (more a end) _ (more b end)) w p v = finish (both (text p (run a w p v)) (text p (run b w p v))) (λ x. fits_text p (x.0 ++ x.1))
  run (Not' _ (more a end)) w p v = finish (truth p (run a w p v)) (λ b. told (not b))
  run (Connect' c _ (more a end) _ (more b end)) w p v = finish (connect c (truth p (run a w p v)) (truth p (run b w p v))) told
  run (If' _ (more c end) _ (more a end) _ (more b end)) w p v =
      and_then (truth p (run c w p v)) (λ x. if x then run a w p v else run b w p v)
  run (Count' _ (more e end)) w p v = finish (run e w p v) (λ s. Ok (value.Number (pos (length s)) ∷ []))
  run (Only' _ (more e end)) w p v = finish (one p (run e w p v)) (λ x. Ok (x ∷ []))
  run (Extreme' m _ (more e end)) w p v = finish (run e w p v) (extreme m p)
  run (Comprehension' _ (more body end) _ (more source end) _ (more condition end)) w p v =
      and_then (run source w p v) (gathered union [] (λ x. turn (truth p (run condition w p (bind v x))) (run body w p (bind v x))))
  run (Sum' _ (more body end) _ (more source end) _ (more condition end)) w p v =
      finish
      (and_then (run source w p v) (gathered ◌+ℤ◌ (pos 0) (λ x. turn (truth p (run condition w p (bind v x))) (number p (run body w p (bind v x))))))
      (fits p)
  run (Quantify' q _ (more source end) _ (more condition end)) w p v =
      finish (and_then (run source w p v) (quantified q (λ x. truth p (run condition w p (bind v x))))) told

  -- each part, in order
  pub run_each : {m : _} → Row_of-Core m → World → Place → Variables → List (Run (List (List Value)))
  run_each end w p v = []
  run_each (more e rest) w p v = single (run e w p v) ∷ run_each rest w p v
