-- What holds between an expression's evaluations in two worlds: a relation that the steps of an evaluation keep, and that holds where
-- the worlds are read, holds between the evaluations of every expression.
use Rattle.std.proofs.Common.{◌≡◌, refl, ap, ℕ, Bool, true, false, List, [], ◌∷◌}
use Rattle.std.specs.Prelude.{map, ◌+ℤ◌, pos, ◌||◌, ◌&&◌, Ok, Err, slice_index_or, if◌then◌else◌}
use Rattle.sheet_values.specs.Sets.{union}
use Rattle.sheet_values.specs.declared.value.Value.{Value}
use Rattle.sheet_values.specs.declared.value.Value.TheVariants as value
use Rattle.sheet_columns.specs.declared.fault.Place.{Place}
use Rattle.sheet_columns.specs.declared.formula.Connective.{Connective}
use Rattle.sheet_columns.specs.declared.formula.Quantifier.{Quantifier}
use Rattle.sheet_columns.specs.declared.formula.Quantifier.TheVariants.{Any, All}
use Rattle.sheet_columns.specs.declared.formula.Core.{Core, Truth, Number, Text, Root, Variable, ObjectStep', StateStep', FormulaStep', Up', Set', Combine'}
use Rattle.sheet_columns.specs.declared.formula.Core.{Compare', Order', Arithmetic', Negate', Join', Not', Connect', If', Count', Only', Extreme'}
use Rattle.sheet_columns.specs.declared.formula.Core.{Comprehension', Sum', Quantify', Row_of-Core, end_of-Core as end, more_of-Core as more}
use Rattle.sheet_columns.specs.declared.fault.Fault.{Fault}
use Rattle.sheet_columns.specs.declared.fault.Fault.TheVariants as fault
use Rattle.sheet_meaning.specs.Run.{Outcome, given, done, after, finish, and_then, both_outcomes, both, all, left_fault, connect}
use Rattle.sheet_meaning.specs.Formula.{World, Variables, run, run_each, step, bind, turn, quantified, gathered, single, on_object, extent_of, stored_of}
use Rattle.sheet_meaning.specs.Formula.{worked_of, parent_of, variable_read}
use Rattle.sheet_meaning.specs.declared.run.Run.{Run}

-- the steps of an evaluation keep the relation
pub record IsKept (R : (A : Type 0) → Run A → Run A → Type 0) : Type 1 where
  pub givens : {A : Type 0} (o : Outcome A) → R _ (given o) (given o)
  pub finishes : {A B : Type 0} (f : A → Outcome B) (r s : Run A) → R _ r s → R _ (finish r f) (finish s f)
  pub follows : {A B : Type 0} (f g : A → Run B) (r s : Run A) → R _ r s → ((a : A) → R _ (f a) (g a)) → R _ (and_then r f) (and_then s g)
  pub boths : {A B : Type 0} (r s : Run A) (q t : Run B) → R _ r s → R _ q t → R _ (both r q) (both s t)
  pub connects : (c : Connective) (r s q t : Run Bool) → R _ r s → R _ q t → R _ (connect c r q) (connect c s t)

-- a part behind one with a fault
abbrev pub behind_fault : Fault → Run Bool → Run Bool
behind_fault e b = record { outcome = left_fault e b.outcome; uses = b.uses }

-- is the second of two parts
abbrev pub second_part : Fault → Run Bool → Run Bool
second_part e b = finish (both (given {A = Bool} (Err e)) b) (λ (x : Bool × Bool). Ok x.1)

pub as_part : (e : Fault) (b : Run Bool) → second_part e b ≡ behind_fault e b
as_part e b = ap (λ o. record { outcome = o; uses = b.uses }) (same b.outcome)
  where
    same : (o : Outcome Bool) → after (both_outcomes {A = Bool} (Err e) o) (λ (x : Bool × Bool). Ok x.1) ≡ left_fault e o
    same (Ok a) = refl
    same (Err fault.Cycle) = refl
    same (Err (fault.NotOne how p)) = refl
    same (Err (fault.Overflow p)) = refl
    same (Err (fault.ZeroDivisor p)) = refl
    same (Err (fault.TextTooLong p)) = refl

-- the relation holds where the worlds are read
pub record HoldsAtReads (R : (A : Type 0) → Run A → Run A → Type 0) (w u : World) : Type 0 where
  pub variables : (s : List Value) → R _ (variable_read w s) (variable_read u s)
  pub extents : (o c : ℕ) → R _ (extent_of w c o) (extent_of u c o)
  pub stored : (o c : ℕ) → R _ (stored_of w c o) (stored_of u c o)
  pub worked : (o c : ℕ) → R _ (worked_of w c o) (worked_of u c o)
  pub parents : (o : ℕ) → R _ (parent_of w o) (parent_of u o)

module _ (R : (A : Type 0) → Run A → Run A → Type 0) (kept : IsKept R) where
  -- each is related to its counterpart
  abbrev EachRelated : {A : Type 0} → List (Run A) → List (Run A) → Type 0
  EachRelated [] [] = Unit {0}
  EachRelated [] (s ∷ ss) = ⊥
  EachRelated (r ∷ rs) [] = ⊥
  EachRelated (r ∷ rs) (s ∷ ss) = R _ r s × EachRelated rs ss

  all_related : {A : Type 0} (rs ss : List (Run A)) → EachRelated rs ss → R _ (all rs) (all ss)
  all_related [] [] h = kept.givens (Ok [])
  all_related [] (s ∷ ss) h = absurd h
  all_related (r ∷ rs) [] h = absurd h
  all_related (r ∷ rs) (s ∷ ss) h = kept.finishes _ _ _ (kept.boths r s (all rs) (all ss) h.0 (all_related rs ss h.1))

  map_related : {X A : Type 0} (f g : X → Run A) → ((x : X) → R _ (f x) (g x)) → (xs : List X) → EachRelated (map f xs) (map g xs)
  map_related f g h [] = tt
  map_related f g h (x ∷ xs) = (h x, map_related f g h xs)

  gathers : {A B : Type 0} (g : B → A → B) (b : B) (f h : Value → Run (List A)) → ((x : Value) → R _ (f x) (h x)) → (s : List Value) →
      R _ (gathered g b f s) (gathered g b h s)
  gathers g b f h rel s = kept.finishes _ _ _ (all_related (map f s) (map h s) (map_related f h rel s))

  singles : {A : Type 0} (r s : Run A) → R _ r s → R _ (single r) (single s)
  singles r s h = kept.finishes _ r s h

  on_objects : (f g : ℕ → Run (List Value)) → ((o : ℕ) → R _ (f o) (g o)) → (x : Value) → R _ (on_object f x) (on_object g x)
  on_objects f g h (value.Truth b) = kept.givens (Ok [])
  on_objects f g h (value.Number n) = kept.givens (Ok [])
  on_objects f g h (value.Text t) = kept.givens (Ok [])
  on_objects f g h (value.Object o) = singles (f o) (g o) (h o)

  steps : (f g : ℕ → Run (List Value)) → ((o : ℕ) → R _ (f o) (g o)) → (s : List Value) → R _ (step f s) (step g s)
  steps f g h s = gathers union [] (on_object f) (on_object g) (on_objects f g h) s

  chosen : {A : Type 0} (r s q t : Run A) → R _ r s → R _ q t → (b : Bool) → R _ (if b then r else q) (if b then s else t)
  chosen r s q t h k true = h
  chosen r s q t h k false = k

  turns : {A : Type 0} (c d : Run Bool) (r s : Run A) → R _ c d → R _ r s → R _ (turn c r) (turn d s)
  turns c d r s h k = kept.follows _ _ c d h (chosen (single r) (single s) (done []) (done []) (singles r s k) (kept.givens (Ok [])))

  quantifies : (q : Quantifier) (f g : Value → Run Bool) → ((x : Value) → R _ (f x) (g x)) → (s : List Value) → R _ (quantified q f s) (quantified q g s)
  quantifies Any f g h s = gathers ◌||◌ false (λ x. single (f x)) (λ x. single (g x)) (λ x. singles (f x) (g x) (h x)) s
  quantifies All f g h s = gathers ◌&&◌ true (λ x. single (f x)) (λ x. single (g x)) (λ x. singles (f x) (g x) (h x)) s

  module _ (w u : World) (reads : HoldsAtReads R w u) (p : Place) where
    -- the steps from the objects of an expression
    stepped : (e : Core) (v : Variables) (f g : ℕ → Run (List Value)) → ((o : ℕ) → R _ (f o) (g o)) → R _ (run e w p v) (run e u p v) →
        R _ (and_then (run e w p v) (step f)) (and_then (run e u p v) (step g))
    stepped e v f g h k = kept.follows (step f) (step g) (run e w p v) (run e u p v) k (steps f g h)

    mutual
      pub related : (e : Core) (v : Variables) → R _ (run e w p v) (run e u p v)
      related (Truth x) v = kept.givens _
      related (Number n) v = kept.givens _
      related (Text x) v = kept.givens _
      related Root v = kept.givens _
      related (Variable k) v = reads.variables (slice_index_or v k [])
      related (ObjectStep' _ (more e end) c) v = stepped e v (extent_of w c) (extent_of u c) (λ o. reads.extents o c) (related e v)
      related (StateStep' _ (more e end) c) v = stepped e v (stored_of w c) (stored_of u c) (λ o. reads.stored o c) (related e v)
      related (FormulaStep' _ (more e end) c) v = stepped e v (worked_of w c) (worked_of u c) (λ o. reads.worked o c) (related e v)
      related (Up' _ (more e end)) v = stepped e v (parent_of w) (parent_of u) reads.parents (related e v)
      related (Set' _ row) v = kept.finishes _ _ _ (all_related _ _ (each_related row v))
      related (Combine' op _ (more a end) _ (more b end)) v = kept.finishes _ _ _ (kept.boths _ _ _ _ (related a v) (related b v))
      related (Compare' test _ (more a end) _ (more b end)) v = kept.finishes _ _ _ (kept.boths _ _ _ _ (related a v) (related b v))
      related (Order' test _ (more a end) _ (more b end)) v =
          kept.finishes _ _ _ (kept.boths _ _ _ _ (kept.finishes _ _ _ (related a v)) (kept.finishes _ _ _ (related b v)))
      related (Arithmetic' op _ (more a end) _ (more b end)) v =
          kept.finishes _ _ _ (kept.boths _ _ _ _ (kept.finishes _ _ _ (related a v)) (kept.finishes _ _ _ (related b v)))
      related (Negate' _ (more a end)) v = kept.finishes _ _ _ (kept.finishes _ _ _ (related a v))
      related (Join' _ (more a end) _ (more b end)) v =
          kept.finishes _ _ _ (kept.boths _ _ _ _ (kept.finishes _ _ _ (related a v)) (kept.finishes _ _ _ (related b v)))
      related (Not' _ (more a end)) v = kept.finishes _ _ _ (kept.finishes _ _ _ (related a v))
      related (Connect' c _ (more a end) _ (more b end)) v =
          kept.finishes _ _ _ (kept.connects c _ _ _ _ (kept.finishes _ _ _ (related a v)) (kept.finishes _ _ _ (related b v)))
      related (If' _ (more c end) _ (more a end) _ (more b end)) v =
          kept.follows _ _ _ _ (kept.finishes _ _ _ (related c v)) (chosen _ _ _ _ (related a v) (related b v))
      related (Count' _ (more e end)) v = kept.finishes _ _ _ (related e v)
      related (Only' _ (more e end)) v = kept.finishes _ _ _ (kept.finishes _ _ _ (related e v))
      related (Extreme' m _ (more e end)) v = kept.finishes _ _ _ (related e v)
      related (Comprehension' _ (more body end) _ (more source end) _ (more condition end)) v =
          kept.follows _ _ _ _ (related source v)
          (gathers union [] _ _ (λ x. turns _ _ _ _ (kept.finishes _ _ _ (related condition (bind v x))) (related body (bind v x))))
      related (Sum' _ (more body end) _ (more source end) _ (more condition end)) v =
          kept.finishes _ _ _
          (kept.follows _ _ _ _ (related source v)
          (gathers ◌+ℤ◌ (pos 0) _ _ (λ x. turns _ _ _ _ (kept.finishes _ _ _ (related condition (bind v x))) (kept.finishes _ _ _ (related body (bind v x))))))
      related (Quantify' q _ (more source end) _ (more condition end)) v =
          kept.finishes _ _ _
          (kept.follows _ _ _ _ (related source v) (quantifies q _ _ (λ x. kept.finishes _ _ _ (related condition (bind v x)))))

      each_related : {m : _} (row : Row_of-Core m) (v : Variables) → EachRelated (run_each row w p v) (run_each row u p v)
      each_related end v = tt
      each_related (more e rest) v = (singles _ _ (related e v), each_related rest v)
