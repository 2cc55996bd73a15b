-- How runs that keep a workbook well formed are put together.
use Rattle.std.proofs.Common.{◌≡◌, refl, subst, ℕ, ◌≤◌, Bool, true, false, List, [], ◌∷◌, ◌++◌, Ok, Err}
use Rattle.std.specs.Prelude.{nat_lt, IfOk, if◌then◌else◌, Result}
use Rattle.std.specs.List.{AllByRecursion}
use Rattle.std.proofs.lemmas.Bool.{ltb-false}
use Rattle.sheet_values.specs.declared.value.Kind.{Kind}
use Rattle.sheet_values.specs.declared.value.Value.{Value}
use Rattle.sheet_meaning.specs.Drawn.{IsDrawn}
use Rattle.sheet_meaning.specs.Run.{Outcome}
use Rattle.sheet_meaning.specs.Statements.{Point, Changed, Course, keeping, at_end, where_known, next, with_value, ended, within, with_variable}
use Rattle.sheet_meaning.specs.Statements.{is_present, still, changed, course_next, course_from, course_ended, course_turn, course_turns, workbook}
use Rattle.sheet_meaning.specs.WellFormed.{IsWellFormed}
use Rattle.sheet_meaning.specs.declared.refusal.Refusal.{Refusal}
use Rattle.sheet_meaning.specs.declared.refusal.Refusal.TheVariants.{Full}
use Rattle.sheet_meaning.specs.declared.refusal.Which.{Which}
use Rattle.sheet_meaning.specs.declared.run.Run.{Run}
use Rattle.sheet_meaning.specs.declared.run.Use.{Use}
use Rattle.sheet_meaning.specs.declared.workbook.Schema.{Schema}
use Rattle.sheet_meaning.specs.declared.workbook.State.{State}
use Rattle.sheet_engine_types.specs.Types.{HasKindWhereLive, IsVariableOf}
use Rattle.sheet_engine_types.proofs.Given.{Gives, appended}
use Rattle.sheet_engine_types.proofs.OneKind.{one_more}
use Rattle.sheet_procs_laws.specs.Keeping.{IsTypedPoint, IsFormedChange}
use Rattle.sheet_procs_laws.proofs.Following.{Follows, follows_itself, follows_on, values_follow, set_drawn_still, drawn_still, kinds_still}

module _ (s : Schema) where
  -- where a run ends, its variables have these types, and its state follows on that of the beginning
  pub record Arrives (v : List Kind) (t : State) (p : Point) : Type 0 where
    pub typed : IsTypedPoint s v p
    pub follows : Follows t p.state

  -- a run from a state: its changes are between well-formed workbooks
  pub record Keeps (v : List Kind) (t : State) (r : Result Point Refusal) (changes : List Changed) : Type 0 where
    pub formed : AllByRecursion (IsFormedChange s) changes
    pub ends : (p : Point) → r ≡ Ok p → Arrives v t p

  abbrev pub Passes : List Kind → State → Course → Type 0
  Passes v t c = Keeps v t c.end c.changes

  -- without a change
  pub quiet : (v : List Kind) (p q : Point) → IsTypedPoint s v q → p.state ≡ q.state → Passes v p.state (still p (Ok q))
  quiet v p q h e = record {
    formed = tt;
    ends = λ x is.
        let same : q ≡ x = cc in
        subst (Arrives v p.state) same (record { typed = h; follows = subst (λ t. Follows p.state t) e (follows_itself p.state) });
  }

  pub refused : (v : List Kind) (p : Point) (t : State) (x : Refusal) → Passes v t (still p (Err x))
  refused v p t x = record { formed = tt; ends = λ q e. cc }

  pub quiet_if : (v : List Kind) (p : Point) (b : Bool) (x : Refusal) → IsTypedPoint s v p → Passes v p.state (still p (if b then Ok p else Err x))
  quiet_if v p true x h = quiet v p p h refl
  quiet_if v p false x h = refused v p p.state x

  -- counts that are within their limits
  abbrev pub AllWithin : List (Which × ℕ × ℕ) → Type 0
  AllWithin limits = AllByRecursion (λ (x : Which × ℕ × ℕ). x.1 ≤ x.2) limits

  pub within_limits : (limits : List (Which × ℕ × ℕ)) (q x : Point) → within limits (Ok q) ≡ Ok x → AllWithin limits × (q ≡ x)
  within_limits [] q x e = (tt, let same : q ≡ x = cc in same)
  within_limits (l ∷ ls) q x e =
      elim (nat_lt l.2 l.1) as (λ b. nat_lt l.2 l.1 ≡ b → (if b then Err (Full l.0 l.2) else within ls (Ok q)) ≡ Ok x → AllWithin (l ∷ ls) × (q ≡ x)) [
        | true ↦ λ t h. cc
        | false ↦ λ t h. let rest = within_limits ls q x h in ((ltb-false l.2 l.1 t, rest.0), rest.1)
      ] refl e

  pub quiet_within : (v : List Kind) (p : Point) (limits : List (Which × ℕ × ℕ)) (q : Point) → IsTypedPoint s v q → p.state ≡ q.state →
      Passes v p.state (still p (within limits (Ok q)))
  quiet_within v p limits q h e = record {
    formed = no_change (within limits (Ok q));
    ends = λ x is.
        subst (Arrives v p.state) (within_limits limits q x is).1
        (record { typed = h; follows = subst (λ t. Follows p.state t) e (follows_itself p.state) });
  }
    where
      no_change : (r : Result Point Refusal) → AllByRecursion (IsFormedChange s) (still p r).changes
      no_change r = tt

  -- one change
  pub one_change : (v : List Kind) (p : Point) (r : Result Point Refusal) → IsWellFormed (workbook s p.state) →
      ((q : Point) → r ≡ Ok q → Arrives v p.state q) → Passes v p.state (changed p r)
  one_change v p (Ok q) h g = record { formed = ((h, (g q refl).typed.formed), tt); ends = g }
  one_change v p (Err x) h g = record { formed = tt; ends = λ q e. cc }

  -- one run after another
  pub next_passes : (v u : List Kind) (t : State) (c : Course) (f : Point → Course) → Passes v t c →
      ((q : Point) → IsTypedPoint s v q → Follows t q.state → Passes u q.state (f q)) → Passes u t (course_next c f)
  next_passes v u t c f g h =
      elim c.end as (λ r. c.end ≡ r → Keeps u t (next r (λ q. (f q).end)) (c.changes ++ at_end r [] (λ q. (f q).changes))) [
        | Ok q ↦ λ e.
            let a = g.ends q e in
            let n = h q a.typed a.follows in
            record {
              formed = appended (IsFormedChange s) c.changes (f q).changes g.formed n.formed;
              ends = λ x is. let z = n.ends x is in record { typed = z.typed; follows = follows_on t q.state x.state a.follows z.follows };
            }
        | Err x ↦ λ e. record { formed = appended (IsFormedChange s) c.changes [] g.formed tt; ends = λ q is. cc }
      ] refl

  -- a formula keeps the cells that it reaches, and nothing else
  pub keeping_typed : (v : List Kind) (us : List Use) (p : Point) → IsTypedPoint s v p → IsTypedPoint s v (keeping s us p)
  keeping_typed v us p h = record { formed = h.formed; kinds = h.kinds; drawn = h.drawn }

  pub from_passes : {A : Type 0} (Q : A → Type 0) (u : List Kind) (uss : List (List Use)) (r : Run A) (p : Point) (f : A → Point → Course) → Gives Q r →
      ((a : A) → Q a → Passes u p.state (f a (keeping s r.uses p))) → Passes u p.state (course_from s uss r p f)
  from_passes {A} Q u uss r p f g h =
      let q = keeping s r.uses p in
      elim r.outcome as (λ (o : Outcome A). IfOk o Q → Keeps u p.state (with_value o (λ a. (f a q).end)) (where_known o [] (λ a. (f a q).changes))) [
        | Ok a ↦ λ i. h a i
        | Err e ↦ λ i. record { formed = tt; ends = λ x k. cc }
      ] g.is

  -- behind a block its variables are gone
  pub ended_passes : (v u : List Kind) (p : Point) (c : Course) → IsTypedPoint s v p → Passes u p.state c → Passes v p.state (course_ended p c)
  ended_passes v u p c h g =
      elim c.end as (λ r. c.end ≡ r → Keeps v p.state (ended p r) c.changes) [
        | Ok q ↦ λ e.
            let a = g.ends q e in
            record {
              formed = g.formed;
              ends = λ x is.
                  let same : record q { variables = p.variables } ≡ x = cc in
                  subst (Arrives v p.state) same
                  (record {
                    typed = record {
                      formed = a.typed.formed;
                      kinds = kinds_still p.state q.state a.follows v p.variables h.drawn h.kinds;
                      drawn = drawn_still p.state q.state a.follows p.variables h.drawn;
                    };
                    follows = a.follows;
                  });
            }
        | Err f ↦ λ e. record { formed = g.formed; ends = λ x is. cc }
      ] refl

  pub chosen_passes : (v : List Kind) (t : State) (b : Bool) (c d : Course) → Passes v t c → Passes v t d → Passes v t (if b then c else d)
  chosen_passes v t true c d g h = g
  chosen_passes v t false c d g h = h

  pub with_variable_typed : (v : List Kind) (k : Kind) (p : Point) (set : List Value) → IsTypedPoint s v p → IsVariableOf p.state k set →
      AllByRecursion (IsDrawn p.state.next) set → IsTypedPoint s (v ++ k ∷ []) (with_variable p set)
  with_variable_typed v k p set h g d = record {
    formed = h.formed;
    kinds = one_more p.state v p.variables k set h.kinds g;
    drawn = appended (λ (x : List Value). AllByRecursion (IsDrawn p.state.next) x) p.variables (set ∷ []) h.drawn (d, tt);
  }

  -- the turns of a loop over values of a type
  module _ (v u : List Kind) (k : Kind) (body : Point → Course) (goes : (q : Point) → IsTypedPoint s (v ++ k ∷ []) q → Passes u q.state (body q)) where
    pub turn_passes : (x : Value) (p : Point) → IsTypedPoint s v p → HasKindWhereLive p.state k x → IsDrawn p.state.next x → Passes v p.state (course_turn body x p)
    turn_passes x p h g d =
        let inside = goes (with_variable p (x ∷ [])) (with_variable_typed v k p (x ∷ []) h ((tt, tt), (g, tt)) (d, tt)) in
        let whole : Passes u p.state (body (with_variable p (x ∷ []))) = record { formed = inside.formed; ends = inside.ends } in
        chosen_passes v p.state (is_present p.state x) (course_ended p (body (with_variable p (x ∷ [])))) (still p (Ok p))
        (ended_passes v u p (body (with_variable p (x ∷ []))) h whole) (quiet v p p h refl)

    pub turns_pass : (xs : List Value) (p : Point) → IsTypedPoint s v p → AllByRecursion (HasKindWhereLive p.state k) xs →
        AllByRecursion (IsDrawn p.state.next) xs → Passes v p.state (course_turns body xs p)
    turns_pass [] p h g d = quiet v p p h refl
    turns_pass (x ∷ xs) p h g d =
        next_passes v v p.state (course_turn body x p) (course_turns body xs) (turn_passes x p h g.0 d.0)
        (λ q i f. turns_pass xs q i (values_follow p.state q.state f k xs d.1 g.1) (set_drawn_still p.state q.state f xs d.1))
