-- Every run of statements is a course.
use Rattle.std.proofs.Common.{◌≡◌, refl, sym, ap, ◌∙◌, subst, ℕ, Bool, true, false, List, [], ◌∷◌, ◌++◌, Ok, Err, Some, None}
use Rattle.std.specs.Prelude.{fold, sum_by, is_some, nat_lt, if◌then◌else◌, Result}
use Rattle.std.specs.List.{filter_map}
use Rattle.sheet_values.specs.declared.value.Value.{Value}
use Rattle.sheet_columns.specs.declared.fault.Place.TheVariants as place
use Rattle.sheet_columns.specs.declared.item.Item.{Item}
use Rattle.sheet_columns.specs.declared.statement.CoreStatement.{CoreStatement, Let, Change, New, Delete, Check, If', For', Reply, Row_of-CoreStatement}
use Rattle.sheet_columns.specs.declared.statement.CoreStatement.{end_of-CoreStatement as end, more_of-CoreStatement as more}
use Rattle.sheet_meaning.specs.declared.run.Use.{Use}
use Rattle.sheet_meaning.specs.declared.run.Run.{Run}
use Rattle.sheet_meaning.specs.declared.refusal.Refusal.{Refusal}
use Rattle.sheet_meaning.specs.declared.refusal.Refusal.TheVariants.{CheckFailed, Denied, Full}
use Rattle.sheet_meaning.specs.declared.refusal.Which.{Which}
use Rattle.sheet_meaning.specs.declared.refusal.Which.TheVariants as which
use Rattle.sheet_columns.specs.declared.formula.Core.{Core}
use Rattle.sheet_meaning.specs.Changes.{without_object}
use Rattle.sheet_meaning.specs.Courses.{Lead, IsUntouched, IsCourse, StatementsAreCourses, ProceduresAreCourses}
use Rattle.sheet_meaning.specs.Items.{content}
use Rattle.sheet_meaning.specs.Formula.{object_in, truth}
use Rattle.sheet_meaning.specs.Procedure.{beginning, course_of_allow, refuse_unfilled, test_filled}
use Rattle.sheet_meaning.specs.Run.{both}
use Rattle.sheet_meaning.specs.Statements.{Point, Changed, Course, keeping, at_end, where_known, next, with_value, ended, within, value_weight, max_reply}
use Rattle.sheet_meaning.specs.Statements.{with_state, with_variable, store, make, remove, removal, removals, remove_all, answer, is_present, still, changed}
use Rattle.sheet_meaning.specs.Statements.{course_next, course_from, course_ended, course_turn, course_turns, course, course_block, course_statements, formula}
use Rattle.sheet_meaning.specs.Statements.{target_object, workbook}
use Rattle.sheet_meaning.specs.WellFormed.{unfilled}
use Rattle.sheet_meaning.specs.Workbook.{object_at}
use Rattle.sheet_meaning.specs.declared.workbook.Schema.{Schema}
use Rattle.sheet_meaning.specs.declared.workbook.State.{State}
use Rattle.sheet_meaning.proofs.Contents.{unchanged}

-- a course as far as its changes go
record Goes (p : Point) (r : Result Point Refusal) (last : Point) (changes : List Changed) : Type 0 where
  leads : Lead p.state changes last.state
  ends : (q : Point) → r ≡ Ok q → last ≡ q

abbrev Passes : Point → Course → Type 0
Passes p c = Goes p c.end c.last c.changes

lead_on : (s t v : State) (cs ds : List Changed) → Lead s cs t → Lead t ds v → Lead s (cs ++ ds) v
lead_on s t v [] ds a b = subst (λ x. Lead x ds v) (sym a) b
lead_on s t v (c ∷ cs) ds a b = (a.0, lead_on c.behind t v cs ds a.1 b)

no_more : (cs : List Changed) → cs ++ [] ≡ cs
no_more [] = refl
no_more (c ∷ cs) = ap (λ l. c ∷ l) (no_more cs)

-- a step without a change
quiet : (p q : Point) → p.state ≡ q.state → Passes p (still p (Ok q))
quiet p q h = record { leads = h; ends = λ x e. let same : q ≡ x = cc in same }

refused : (p : Point) (x : Refusal) → Passes p (still p (Err x))
refused p x = record { leads = refl; ends = λ q e. cc }

quiet_if : (p : Point) (b : Bool) (x : Refusal) → Passes p (still p (if b then Ok p else Err x))
quiet_if p true x = quiet p p refl
quiet_if p false x = refused p x

quiet_within : (p : Point) (limits : List (Which × ℕ × ℕ)) (q : Point) → p.state ≡ q.state → Passes p (still p (within limits (Ok q)))
quiet_within p [] q h = quiet p q h
quiet_within p (x ∷ xs) q h =
    elim (nat_lt x.2 x.1) as (λ b. Passes p (still p (if b then Err (Full x.0 x.2) else within xs (Ok q)))) [
      | true ↦ refused p (Full x.0 x.2)
      | false ↦ quiet_within p xs q h
    ]

changed_goes : (p : Point) (r : Result Point Refusal) → Passes p (changed p r)
changed_goes p (Ok q) = record { leads = (refl, refl); ends = λ x e. let same : q ≡ x = cc in same }
changed_goes p (Err x) = record { leads = refl; ends = λ q e. cc }

next_goes : (p : Point) (c : Course) (f : Point → Course) → Passes p c → ((q : Point) → Passes q (f q)) → Passes p (course_next c f)
next_goes p c f g h =
    elim c.end as (λ r. c.end ≡ r → Goes p (next r (λ q. (f q).end)) (at_end r c.last (λ q. (f q).last)) (c.changes ++ at_end r [] (λ q. (f q).changes))) [
      | Ok q ↦ λ e. record {
        leads = lead_on p.state c.last.state (f q).last.state c.changes (f q).changes g.leads
            (subst (λ (x : Point). Lead x.state (f q).changes (f q).last.state) (sym (g.ends q e)) (h q).leads);
        ends = (h q).ends;
      }
      | Err x ↦ λ e. record { leads = subst (λ l. Lead p.state l c.last.state) (sym (no_more c.changes)) g.leads; ends = λ q k. cc }
    ] refl

from_goes : {A : Type 0} (s : Schema) (uss : List (List Use)) (r : Run A) (p : Point) (f : A → Point → Course) →
    ((a : A) (q : Point) → q.state ≡ p.state → Passes q (f a q)) → Passes p (course_from s uss r p f)
from_goes s uss r p f h =
    let q = keeping s r.uses p in
    elim r.outcome as (λ o. Goes p (with_value o (λ a. (f a q).end)) (where_known o q (λ a. (f a q).last)) (where_known o [] (λ a. (f a q).changes))) [
      | Ok a ↦ let g = h a q refl in record { leads = g.leads; ends = g.ends }
      | Err e ↦ record { leads = refl; ends = λ x k. cc }
    ]

ended_goes : (x p : Point) (c : Course) → Passes x c → Passes x (course_ended p c)
ended_goes x p c g =
    elim c.end as (λ r. c.end ≡ r → Goes x (ended p r) (at_end (ended p r) c.last (λ q. q)) c.changes) [
      | Ok q ↦ λ e. record {
        leads = subst (λ (t : Point). Lead x.state c.changes t.state) (g.ends q e) g.leads;
        ends = λ y k. let same : record q { variables = p.variables } ≡ y = cc in same;
      }
      | Err f ↦ λ e. record { leads = g.leads; ends = λ y k. cc }
    ] refl

chosen_goes : (p : Point) (b : Bool) (c d : Course) → Passes p c → Passes p d → Passes p (if b then c else d)
chosen_goes p true c d g h = g
chosen_goes p false c d g h = h

turn_goes : (body : Point → Course) → ((q : Point) → Passes q (body q)) → (x : Value) (p : Point) → Passes p (course_turn body x p)
turn_goes body h x p =
    let inner = h (with_variable p (x ∷ [])) in
    let whole : Passes p (body (with_variable p (x ∷ []))) = record { leads = inner.leads; ends = inner.ends } in
    chosen_goes p (is_present p.state x) (course_ended p (body (with_variable p (x ∷ [])))) (still p (Ok p))
    (ended_goes p p (body (with_variable p (x ∷ []))) whole) (quiet p p refl)

turns_goes : (body : Point → Course) → ((q : Point) → Passes q (body q)) → (xs : List Value) (p : Point) → Passes p (course_turns body xs p)
turns_goes body h [] p = quiet p p refl
turns_goes body h (x ∷ xs) p = next_goes p (course_turn body x p) (course_turns body xs) (turn_goes body h x p) (turns_goes body h xs)

removal_leads : (s : Schema) (p : Point) (o : ℕ) → Lead p.state (removal p o) (remove s p o).state
removal_leads s p o =
    elim (is_some (object_at p.state.objects o)) as (λ b. Lead p.state (if b then record { before = p.state; behind = without_object p.state o } ∷ [] else [])
    (if b then with_state s p (without_object p.state o) else p).state) [
      | true ↦ (refl, refl)
      | false ↦ refl
    ]

removals_lead : (s : Schema) (p : Point) (os : List ℕ) → Lead p.state (removals s p os) (fold (remove s) p os).state
removals_lead s p [] = refl
removals_lead s p (o ∷ os) =
    lead_on p.state (remove s p o).state (fold (remove s) (remove s p o) os).state (removal p o) (removals s (remove s p o) os) (removal_leads s p o)
    (removals_lead s (remove s p o) os)

mutual
  goes : (x : CoreStatement) (s : Schema) (p : Point) → Passes p (course x s p)
  goes (Let n e) s p =
      from_goes s ((formula s p n e).uses ∷ []) (formula s p n e) p (λ set q. still q (Ok (with_variable q set)))
      (λ set q h. quiet q (with_variable q set) refl)
  goes (Change n how t e) s p =
      from_goes s ((target_object s p n t).uses ∷ (formula s p n e).uses ∷ []) (both (target_object s p n t) (formula s p n e)) p
      (λ x q. changed q (store s how x.0 t.column x.1 q)) (λ x q h. changed_goes q (store s how x.0 t.column x.1 q))
  goes (New n t) s p =
      from_goes s ((target_object s p n t).uses ∷ []) (target_object s p n t) p (λ o q. changed q (make s t.column o q))
      (λ o q h. changed_goes q (make s t.column o q))
  goes (Delete n e) s p =
      from_goes s ((formula s p n e).uses ∷ []) (formula s p n e) p (λ set q. remove_all s q (filter_map object_in set))
      (λ set q h. record {
        leads = removals_lead s q (filter_map object_in set);
        ends = λ x k. let same : fold (remove s) q (filter_map object_in set) ≡ x =
            cc in same;
      })
  goes (Check n e message) s p =
      from_goes s ((formula s p n e).uses ∷ []) (truth (place.Statement n) (formula s p n e)) p
      (λ holds q. still q (if holds then Ok q else Err (CheckFailed n message))) (λ holds q h. quiet_if q holds (CheckFailed n message))
  goes (If' n e _ body _ otherwise) s p =
      from_goes s ((formula s p n e).uses ∷ []) (truth (place.Statement n) (formula s p n e)) p
      (λ holds q. course_ended q (if holds then course_block body s q else course_block otherwise s q))
      (λ holds q h. ended_goes q q (if holds then course_block body s q else course_block otherwise s q)
      (chosen_goes q holds (course_block body s q) (course_block otherwise s q) (block_goes body s q) (block_goes otherwise s q)))
  goes (For' n e _ body) s p =
      from_goes s ((formula s p n e).uses ∷ []) (formula s p n e) p (λ set q. course_turns (course_block body s) set q)
      (λ set q h. turns_goes (course_block body s) (block_goes body s) set q)
  goes (Reply n e) s p =
      from_goes s ((formula s p n e).uses ∷ []) (formula s p n e) p (λ set q. still q (answer set q))
      (λ set q h. quiet_within q ((which.Reply, sum_by value_weight set, max_reply) ∷ []) (record q { reply = set }) refl)

  block_goes : {m : _} (row : Row_of-CoreStatement m) (s : Schema) (p : Point) → Passes p (course_block row s p)
  block_goes end s p = quiet p p refl
  block_goes (more x rest) s p = next_goes p (course x s p) (course_block rest s) (goes x s p) (block_goes rest s)

statements_go : (xs : List CoreStatement) (s : Schema) (p : Point) → Passes p (course_statements xs s p)
statements_go [] s p = quiet p p refl
statements_go (x ∷ xs) s p = next_goes p (course x s p) (course_statements xs s) (goes x s p) (statements_go xs s)

items_stay : (s t : State) (cs : List Changed) → Lead s cs t → (i : Item) → IsUntouched cs i → content t i ≡ content s i
items_stay s t [] h i calm = ap (λ x. content x i) (sym h)
items_stay s t (c ∷ cs) h i calm = items_stay c.behind t cs h.1 i calm.1 ∙ sym (unchanged c.before c.behind i calm.0) ∙ ap (λ x. content x i) h.0

is_course : (p : Point) (c : Course) → Passes p c → IsCourse p c
is_course p c g = record { leads = g.leads; ends = g.ends; stays = λ i calm. items_stay p.state c.last.state c.changes g.leads i calm }

pub statements_are_courses : StatementsAreCourses
statements_are_courses xs s p = is_course p (course_statements xs s p) (statements_go xs s p)

allow_goes : (s : Schema) (allow : Core) (p : Point) → Passes p (course_of_allow s allow p)
allow_goes s allow p =
    from_goes s ((formula s p 0 allow).uses ∷ []) (truth (place.Statement 0) (formula s p 0 allow)) p (λ holds q. still q (if holds then Ok q else Err Denied))
    (λ holds q h. quiet_if q holds Denied)

filled_goes : (s : Schema) (p : Point) → Passes p (still p (test_filled s p))
filled_goes s p =
    elim (unfilled (workbook s p.state)) as (λ o. Passes p (still p (refuse_unfilled p o))) [ None ↦ quiet p p refl | Some x ↦ refused p _ ]

pub procedures_are_courses : ProceduresAreCourses
procedures_are_courses s allow body caller arguments state kept =
    let p = beginning caller arguments state kept in
    is_course p _
    (next_goes p (course_of_allow s allow p) (λ q. course_next (course_statements body s q) (λ r. still r (test_filled s r))) (allow_goes s allow p)
    (λ q. next_goes q (course_statements body s q) (λ r. still r (test_filled s r)) (statements_go body s q) (filled_goes s)))
