-- How each statement goes on from its formulas, and blocks and turns from their statements.
use Rattle.std.proofs.Common.{◌≡◌, refl, sym, ap, ◌∙◌, subst, ℕ, Bool, true, false, List, [], ◌∷◌, ◌++◌, length, take, Ok, Err, Some}
use Rattle.std.specs.Prelude.{Result, if◌then◌else◌, IfOk}
use Rattle.std.specs.List.{filter_map}
use Rattle.sheet_values.specs.declared.value.Kind.{Kind}
use Rattle.sheet_values.specs.declared.value.Kind.TheVariants as kind
use Rattle.sheet_values.specs.declared.value.Value.{Value}
use Rattle.sheet_books.specs.declared.book.Contents.{Contents}
use Rattle.sheet_books.specs.Schemas.{schema_of}
use Rattle.sheet_columns.specs.declared.fault.Place.TheVariants as place
use Rattle.sheet_columns.specs.declared.formula.Core.{Core}
use Rattle.sheet_columns.specs.declared.statement.Change.{Change as TheChange}
use Rattle.sheet_columns.specs.declared.statement.CoreStatement.{CoreStatement, Let, Change, New, Delete, Check, If, For, Reply}
use Rattle.sheet_columns.specs.declared.statement.Statements.{Statements}
use Rattle.sheet_columns.specs.declared.statement.Target.{Target}
use Rattle.sheet_engine_types.proofs.OneKind.{came, set_where_live}
use Rattle.sheet_engine_types.specs.Types.{IsSetOf}
use Rattle.sheet_meaning.specs.Formula.{object_in, truth_in, truth}
use Rattle.sheet_meaning.specs.Run.{Outcome, after, both, both_outcomes, the_one}
use Rattle.sheet_meaning.specs.Statements.{Point, Course, workbook, formula, target_object, with_variable, store, make, remove_all, answer}
use Rattle.sheet_meaning.specs.Statements.{ended, course_statements, course_ended, course_turn, course_turns, run_statement, run_statements}
use Rattle.sheet_meaning.specs.Statements.{is_present, still}
use Rattle.sheet_meaning.specs.Support.{Cell}
use Rattle.sheet_meaning.specs.declared.refusal.Refusal.{Refusal}
use Rattle.sheet_meaning.specs.declared.refusal.Refusal.TheVariants.{CheckFailed}
use Rattle.sheet_meaning.specs.declared.workbook.Schema.{Schema}
use Rattle.sheet_state.specs.Stored.{Stored}
use Rattle.sheet_types_rules.specs.Columns.{kinds_from}
use Rattle.sheet_types_rules.specs.Formulas.{kind_in, ◌>>◌}
use Rattle.sheet_types_rules.specs.Statements.{where_so, suits, behind, behind_list}
use Rattle.sheet_procs_laws.specs.Keeping.{IsTypedPoint}
use Rattle.sheet_procs_laws.proofs.Following.{set_drawn, values_follow, set_drawn_still}
use Rattle.sheet_procs_laws.proofs.Passing.{with_variable_typed, turn_passes}
use Rattle.sheet_procs_laws.proofs.Running.{goes, statements_go, value_typed}
use Rattle.sheet_procs_touched.specs.Touched.{Covers}
use Rattle.sheet_procs.specs.Runs.{point, Comes, Runs}
use Rattle.sheet_procs.specs.Typed.{Behind, MayRun, MayTurn}
use Rattle.sheet_procs.specs.declared.refusal.ProcedureRefusal.{ProcedureRefusal}
use Rattle.sheet_procs.specs.declared.progress.Progress.{Progress}
use Rattle.sheet_procs.proofs.Going.{UnderWay, known, not_known, ends_on, refusal_moved, front_on, front_itself, back_itself}
use Rattle.sheet_procs.proofs.Listed.{branch, run-If, repeat, run-For, behind-If, behind-For}
use Rattle.sheet_procs.proofs.Typing.{target_outcome, set_outcome}

-- the outcome of a condition
abbrev pub truth_outcome : Contents → Stored → Progress → ℕ → Core → Outcome Bool
truth_outcome b k m i e = after (set_outcome b k m i e) (λ s. the_one (place.Statement i) (filter_map truth_in s))

module _ (b : Contents) (k l : Stored) (same : l ≡ k) (m : Progress) (i : ℕ) where
  abbrev s : Schema
  s = schema_of b

  abbrev Way : (Point → Result Point Refusal) → (Point → Result Point Refusal) → Type 0
  Way f g = UnderWay b k l m m f g

  abbrev Refused : ProcedureRefusal → (Point → Result Point Refusal) → Type 0
  Refused x f = Runs b k l m m (Err x) f

  way_there : (f g : Point → Result Point Refusal) → UnderWay b k k m m f g → Way f g
  way_there f g w = subst (λ y. UnderWay b k y m m f g) (sym same) w

  refused_there : (x : ProcedureRefusal) (f : Point → Result Point Refusal) → Runs b k k m m (Err x) f → Refused x f
  refused_there x f h = subst (λ y. Runs b k y m m (Err x) f) (sym same) h

  pub let_known : (e : Core) (set : List Value) → set_outcome b k m i e ≡ Ok set → Way (run_statement (Let i e) s) (λ p. Ok (with_variable p set))
  let_known e set h =
      way_there (run_statement (Let i e) s) (λ p. Ok (with_variable p set))
      (known b (λ p. formula s p i e) (λ a q. Ok (with_variable q a)) k m (set_outcome b k m i e) (λ kept. refl) set h)

  pub let_refused : (e : Core) (x : ProcedureRefusal) → Comes {A = List Value} (Err x) (set_outcome b k m i e) → Refused x (run_statement (Let i e) s)
  let_refused e x h =
      refused_there x (run_statement (Let i e) s)
      (not_known b (λ p. formula s p i e) (λ a q. Ok (with_variable q a)) k m (set_outcome b k m i e) (λ kept. refl) x h)

  module _ (how : TheChange) (t : Target) (e : Core) where
    pub change_known : (o : ℕ) (set : List Value) → both_outcomes (target_outcome b k m i t.object) (set_outcome b k m i e) ≡ Ok (o, set) →
        Way (run_statement (Change i how t e) s) (store s how o t.column set)
    change_known o set h =
        way_there (run_statement (Change i how t e) s) (store s how o t.column set)
        (known b (λ p. both (target_object s p i t) (formula s p i e)) (λ a q. store s how a.0 t.column a.1 q) k m
        (both_outcomes (target_outcome b k m i t.object) (set_outcome b k m i e)) (λ kept. refl) (o, set) h)

    pub change_refused : (x : ProcedureRefusal) →
        Comes {A = ℕ × List Value} (Err x) (both_outcomes (target_outcome b k m i t.object) (set_outcome b k m i e)) →
        Refused x (run_statement (Change i how t e) s)
    change_refused x h =
        refused_there x (run_statement (Change i how t e) s)
        (not_known b (λ p. both (target_object s p i t) (formula s p i e)) (λ a q. store s how a.0 t.column a.1 q) k m
        (both_outcomes (target_outcome b k m i t.object) (set_outcome b k m i e)) (λ kept. refl) x h)

  module _ (t : Target) where
    pub new_known : (o : ℕ) → target_outcome b k m i t.object ≡ Ok o → Way (run_statement (New i t) s) (make s t.column o)
    new_known o h =
        way_there (run_statement (New i t) s) (make s t.column o)
        (known b (λ p. target_object s p i t) (λ a q. make s t.column a q) k m (target_outcome b k m i t.object) (λ kept. refl) o h)

    pub new_refused : (x : ProcedureRefusal) → Comes {A = ℕ} (Err x) (target_outcome b k m i t.object) → Refused x (run_statement (New i t) s)
    new_refused x h =
        refused_there x (run_statement (New i t) s)
        (not_known b (λ p. target_object s p i t) (λ a q. make s t.column a q) k m (target_outcome b k m i t.object) (λ kept. refl) x h)

  pub delete_known : (e : Core) (set : List Value) → set_outcome b k m i e ≡ Ok set →
      Way (run_statement (Delete i e) s) (λ p. (remove_all s p (filter_map object_in set)).end)
  delete_known e set h =
      way_there (run_statement (Delete i e) s) (λ p. (remove_all s p (filter_map object_in set)).end)
      (known b (λ p. formula s p i e) (λ a q. (remove_all s q (filter_map object_in a)).end) k m (set_outcome b k m i e) (λ kept. refl) set h)

  pub delete_refused : (e : Core) (x : ProcedureRefusal) → Comes {A = List Value} (Err x) (set_outcome b k m i e) → Refused x (run_statement (Delete i e) s)
  delete_refused e x h =
      refused_there x (run_statement (Delete i e) s)
      (not_known b (λ p. formula s p i e) (λ a q. (remove_all s q (filter_map object_in a)).end) k m (set_outcome b k m i e) (λ kept. refl) x h)

  pub check_known : (e : Core) (message : List ℕ) (holds : Bool) → truth_outcome b k m i e ≡ Ok holds →
      Way (run_statement (Check i e message) s) (λ p. if holds then Ok p else Err (CheckFailed i message))
  check_known e message holds h =
      way_there (run_statement (Check i e message) s) (λ p. if holds then Ok p else Err (CheckFailed i message))
      (known b (λ p. truth (place.Statement i) (formula s p i e)) (λ a q. if a then Ok q else Err (CheckFailed i message)) k m (truth_outcome b k m i e)
      (λ kept. refl) holds h)

  pub check_refused : (e : Core) (message : List ℕ) (x : ProcedureRefusal) → Comes {A = Bool} (Err x) (truth_outcome b k m i e) →
      Refused x (run_statement (Check i e message) s)
  check_refused e message x h =
      refused_there x (run_statement (Check i e message) s)
      (not_known b (λ p. truth (place.Statement i) (formula s p i e)) (λ a q. if a then Ok q else Err (CheckFailed i message)) k m (truth_outcome b k m i e)
      (λ kept. refl) x h)

  pub reply_known : (e : Core) (set : List Value) → set_outcome b k m i e ≡ Ok set → Way (run_statement (Reply i e) s) (answer set)
  reply_known e set h =
      way_there (run_statement (Reply i e) s) (answer set)
      (known b (λ p. formula s p i e) (λ a q. answer a q) k m (set_outcome b k m i e) (λ kept. refl) set h)

  pub reply_refused : (e : Core) (x : ProcedureRefusal) → Comes {A = List Value} (Err x) (set_outcome b k m i e) → Refused x (run_statement (Reply i e) s)
  reply_refused e x h =
      refused_there x (run_statement (Reply i e) s)
      (not_known b (λ p. formula s p i e) (λ a q. answer a q) k m (set_outcome b k m i e) (λ kept. refl) x h)

  -- the same way by another definition of the whole
  other_whole : (f g h : Point → Result Point Refusal) → ((p : Point) → f p ≡ g p) → UnderWay b k k m m g h → UnderWay b k k m m f h
  other_whole f g h is w = record {
    back = w.back;
    front = w.front;
    covered = w.covered;
    goes = λ kept. let a = w.goes kept in (a.0, is (point k m kept) ∙ a.1);
  }

  other_refused : (x : ProcedureRefusal) (f g : Point → Result Point Refusal) → ((p : Point) → f p ≡ g p) → Runs b k k m m (Err x) g → Runs b k k m m (Err x) f
  other_refused x f g is h =
      ends_on b k k k m m m f g (Err x)
      (record { back = back_itself k; front = front_itself m.variables; covered = λ c. c; goes = λ kept. (kept, is (point k m kept)) }) h

  module _ (e : Core) (body otherwise : Statements) where
    abbrev first : Point → Course
    first = course_statements body.list s

    abbrev second : Point → Course
    second = course_statements otherwise.list s

    pub if_known : (holds : Bool) → truth_outcome b k m i e ≡ Ok holds →
        Way (run_statement (If i e body otherwise) s) (λ q. (course_ended q (if holds then first q else second q)).end)
    if_known holds h =
        way_there (run_statement (If i e body otherwise) s) (λ q. (course_ended q (if holds then first q else second q)).end)
        (other_whole (run_statement (If i e body otherwise) s) (branch s i e first second) (λ q. (course_ended q (if holds then first q else second q)).end)
        (run-If i e body otherwise s)
        (known b (λ p. truth (place.Statement i) (formula s p i e)) (λ a q. (course_ended q (if a then first q else second q)).end) k m (truth_outcome b k m i e)
        (λ kept. refl) holds h))

    pub if_refused : (x : ProcedureRefusal) → Comes {A = Bool} (Err x) (truth_outcome b k m i e) → Refused x (run_statement (If i e body otherwise) s)
    if_refused x h =
        refused_there x (run_statement (If i e body otherwise) s)
        (other_refused x (run_statement (If i e body otherwise) s) (branch s i e first second) (run-If i e body otherwise s)
        (not_known b (λ p. truth (place.Statement i) (formula s p i e)) (λ a q. (course_ended q (if a then first q else second q)).end) k m
        (truth_outcome b k m i e) (λ kept. refl) x h))

  module _ (e : Core) (body : Statements) where
    abbrev inner : Point → Course
    inner = course_statements body.list s

    pub for_known : (set : List Value) → set_outcome b k m i e ≡ Ok set → Way (run_statement (For i e body) s) (λ q. (course_turns inner set q).end)
    for_known set h =
        way_there (run_statement (For i e body) s) (λ q. (course_turns inner set q).end)
        (other_whole (run_statement (For i e body) s) (repeat s i e inner) (λ q. (course_turns inner set q).end) (run-For i e body s)
        (known b (λ p. formula s p i e) (λ a q. (course_turns inner a q).end) k m (set_outcome b k m i e) (λ kept. refl) set h))

    pub for_refused : (x : ProcedureRefusal) → Comes {A = List Value} (Err x) (set_outcome b k m i e) → Refused x (run_statement (For i e body) s)
    for_refused x h =
        refused_there x (run_statement (For i e body) s)
        (other_refused x (run_statement (For i e body) s) (repeat s i e inner) (run-For i e body s)
        (not_known b (λ p. formula s p i e) (λ a q. (course_turns inner a q).end) k m (set_outcome b k m i e) (λ kept. refl) x h))

-- types on the way
module _ (b : Contents) where
  abbrev kk : List Kind
  kk = kinds_from 0 b.columns

  bare : (v : List Kind) (k : Stored) (m : Progress) (kept : List Cell) → IsTypedPoint (schema_of b) v (point k m kept) → IsTypedPoint (schema_of b) v (point k m [])
  bare v k m kept h = record { formed = h.formed; kinds = h.kinds; drawn = h.drawn }

  pub may_there : (f : Behind) (k l : Stored) (m : Progress) → l ≡ k → MayRun f b k m → MayRun f b l m
  may_there f k l m same h = subst (λ y. MayRun f b y m) (sym same) h

  -- the blocks of an `if`
  pub may_branch : (k : Stored) (m : Progress) (i : ℕ) (e : Core) (body otherwise : Statements) → MayRun (behind (If i e body otherwise)) b k m →
      MayRun (behind_list body.list) b k m × MayRun (behind_list otherwise.list) b k m
  may_branch k m i e body otherwise h =
      let n = b.columns in
      let v = h.kinds in
      let is = sym (behind-If n kk i e body otherwise v) ∙ h.is in
      let c = came (where_so (suits kind.Truth (kind_in e n kk v)) v)
      (λ z. behind_list body.list n kk v >> (λ x. behind_list otherwise.list n kk v >> (λ y. Some v))) h.kinds_after is in
      let a = came (behind_list body.list n kk v) (λ x. behind_list otherwise.list n kk v >> (λ y. Some v)) h.kinds_after c.gives in
      let d = came (behind_list otherwise.list n kk v) (λ y. Some v) h.kinds_after a.gives in (
        record { sound = h.sound; kinds = v; kinds_after = a.from; typed = h.typed; is = a.is },
        record { sound = h.sound; kinds = v; kinds_after = d.from; typed = h.typed; is = d.is },
      )

  -- the turns of a `for`
  pub may_repeat : (k : Stored) (m : Progress) (i : ℕ) (e : Core) (body : Statements) (set : List Value) → MayRun (behind (For i e body)) b k m →
      set_outcome b k m i e ≡ Ok set → MayTurn body.list set b k m
  may_repeat k m i e body set h gave =
      let n = b.columns in
      let s = schema_of b in
      let v = h.kinds in
      let is = sym (behind-For n kk i e body v) ∙ h.is in
      let c = came (kind_in e n kk v) (λ x. behind_list body.list n kk (v ++ x ∷ []) >> (λ u. Some v)) h.kinds_after is in
      let a = came (behind_list body.list n kk (v ++ c.from ∷ [])) (λ u. Some v) h.kinds_after c.gives in
      let given = subst (λ o. IfOk o (IsSetOf k.present.state c.from)) gave (value_typed s h.sound v (point k m []) i e c.from h.typed c.is).is in
      record {
        sound = h.sound;
        kinds = v;
        kind = c.from;
        kinds_after = a.from;
        typed = h.typed;
        fit = (set_where_live k.present.state c.from set given).1;
        drawn = set_drawn (workbook s k.present.state) h.typed.formed c.from set given.1;
        is = a.is;
      }

  -- the first statement, and those behind it
  pub may_first : (k : Stored) (m : Progress) (x : CoreStatement) (xs : List CoreStatement) → MayRun (behind_list (x ∷ xs)) b k m → MayRun (behind x) b k m
  may_first k m x xs h =
      let c = came (behind x b.columns kk h.kinds) (λ u. behind_list xs b.columns kk u) h.kinds_after h.is in
      record { sound = h.sound; kinds = h.kinds; kinds_after = c.from; typed = h.typed; is = c.is }

  pub may_rest : (k l : Stored) (m n : Progress) (x : CoreStatement) (xs : List CoreStatement) → MayRun (behind_list (x ∷ xs)) b k m →
      Runs b k l m n (Ok tt) (run_statement x (schema_of b)) → MayRun (behind_list xs) b l n
  may_rest k l m n x xs h r =
      let c = came (behind x b.columns kk h.kinds) (λ u. behind_list xs b.columns kk u) h.kinds_after h.is in
      let e = r.ends [] in
      let a = (goes (schema_of b) h.sound x h.kinds c.from (point k m []) h.typed c.is).ends (point l n e.0) e.1 in
      record { sound = h.sound; kinds = c.from; kinds_after = h.kinds_after; typed = bare c.from l n e.0 a.typed; is = c.gives }

  -- the first turn, and those behind it
  pub may_first_turn : (k : Stored) (m : Progress) (body : List CoreStatement) (x : Value) (xs : List Value) → MayTurn body (x ∷ xs) b k m →
      MayTurn body (x ∷ []) b k m
  may_first_turn k m body x xs h = record {
    sound = h.sound;
    kinds = h.kinds;
    kind = h.kind;
    kinds_after = h.kinds_after;
    typed = h.typed;
    fit = (h.fit.0, tt);
    drawn = (h.drawn.0, tt);
    is = h.is;
  }

  pub may_rest_turns : (k l : Stored) (m n : Progress) (body : List CoreStatement) (x : Value) (xs : List Value) → MayTurn body (x ∷ xs) b k m →
      Runs b k l m n (Ok tt) (λ p. (course_turn (course_statements body (schema_of b)) x p).end) → MayTurn body xs b l n
  may_rest_turns k l m n body x xs h r =
      let s = schema_of b in
      let e = r.ends [] in
      let inner = course_statements body s in
      let a = (turn_passes s h.kinds h.kinds_after h.kind inner (λ q i. statements_go s h.sound body (h.kinds ++ h.kind ∷ []) h.kinds_after q i h.is) x
      (point k m []) h.typed h.fit.0 h.drawn.0).ends (point l n e.0) e.1 in
      record {
        sound = h.sound;
        kinds = h.kinds;
        kind = h.kind;
        kinds_after = h.kinds_after;
        typed = bare h.kinds l n e.0 a.typed;
        fit = values_follow k.present.state l.present.state a.follows h.kind xs h.drawn.1 h.fit.1;
        drawn = set_drawn_still k.present.state l.present.state a.follows xs h.drawn.1;
        is = h.is;
      }

  -- the statements of a turn
  pub may_turn : (k : Stored) (m n : Progress) (body : List CoreStatement) (x : Value) → MayTurn body (x ∷ []) b k m →
      n.variables ≡ m.variables ++ (x ∷ []) ∷ [] → n.reply ≡ m.reply → MayRun (behind_list body) b k n
  may_turn k m n body x h variables reply =
      let s = schema_of b in
      let typed = with_variable_typed s h.kinds h.kind (point k m []) (x ∷ []) h.typed ((tt, tt), (h.fit.0, tt)) (h.drawn.0, tt) in
      record {
        sound = h.sound;
        kinds = h.kinds ++ h.kind ∷ [];
        kinds_after = h.kinds_after;
        typed =
            subst (λ vs. IsTypedPoint s (h.kinds ++ h.kind ∷ []) (record { state = k.present.state; variables = vs; reply = n.reply; kept = [] })) (sym variables)
            (record { formed = typed.formed; kinds = typed.kinds; drawn = typed.drawn });
        is = h.is;
      }

  -- the end of a block, whose statements ran with these variables
  module _ (k l : Stored) (m inside n : Progress) (xs : List CoreStatement) (first : take (length m.variables) inside.variables ≡ m.variables)
      (reply : inside.reply ≡ m.reply) (touched : inside.touched ≡ m.touched) where
    abbrev block : Point → Result Point Refusal
    block q = ended q (run_statements xs (schema_of b) (record q { variables = inside.variables }))

    inner_point : (kept : List Cell) → record (point k m kept) { variables = inside.variables } ≡ point k inside kept
    inner_point kept =
        ap (λ (r : List Value). let p : Point = record { state = k.present.state; variables = inside.variables; reply = r; kept = kept } in p) (sym reply)

    pub closed : (last : Progress) → last.variables ≡ take (length m.variables) n.variables → last.reply ≡ n.reply → last.touched ≡ n.touched →
        Runs b k l inside n (Ok tt) (run_statements xs (schema_of b)) → Runs b k l m last (Ok tt) block
    closed last variables same_reply same_touched h =
        let outer : last.variables ≡ m.variables = variables ∙ front_on m.variables inside.variables n.variables first h.front in
        record {
          back = h.back;
          front = ap (take (length m.variables)) outer ∙ front_itself m.variables;
          covered = λ c.
              subst (λ ts. Covers (workbook (schema_of b) l.present.state) ts) (sym same_touched)
              (h.covered (subst (λ ts. Covers (workbook (schema_of b) k.present.state) ts) (sym touched) c));
          ends = λ kept.
              let e = h.ends kept in (
                e.0,
                ap (λ p. ended (point k m kept) (run_statements xs (schema_of b) p)) (inner_point kept)
                    ∙ ap (ended (point k m kept)) e.1
                    ∙ ap (λ (vs : List (List Value)). Ok (record (point l n e.0) { variables = vs })) (sym outer)
                    ∙ ap (λ (r : List Value). let p : Point = record { state = l.present.state; variables = last.variables; reply = r; kept = e.0 } in Ok p)
                    (sym same_reply),
              );
        }

    pub not_closed : (x : ProcedureRefusal) → Runs b k l inside n (Err x) (run_statements xs (schema_of b)) → Runs b k l m n (Err x) block
    not_closed x h = record {
      back = h.back;
      front = tt;
      covered = tt;
      ends = λ kept.
          refusal_moved x (run_statements xs (schema_of b) (point k inside kept)) (block (point k m kept))
          (λ e is. ap (λ p. ended (point k m kept) (run_statements xs (schema_of b) p)) (inner_point kept) ∙ ap (ended (point k m kept)) is) (h.ends kept);
    }

  -- a turn over what is there, and over what is gone
  module _ (k l : Stored) (m n : Progress) (body : List CoreStatement) (x : Value) (r : Result (Unit {0}) ProcedureRefusal) where
    pub turned : is_present k.present.state x ≡ true →
        Runs b k l m n r (λ q. ended q (run_statements body (schema_of b) (record q { variables = m.variables ++ (x ∷ []) ∷ [] }))) →
        Runs b k l m n r (λ p. (course_turn (course_statements body (schema_of b)) x p).end)
    turned there h =
        ends_on b k k l m m n (λ p. (course_turn (course_statements body (schema_of b)) x p).end)
        (λ q. ended q (run_statements body (schema_of b) (record q { variables = m.variables ++ (x ∷ []) ∷ [] }))) r
        (record {
          back = back_itself k;
          front = front_itself m.variables;
          covered = λ c. c;
          goes = λ kept. (
            kept,
            ap (λ t. (if t then course_ended (point k m kept) (course_statements body (schema_of b) (with_variable (point k m kept) (x ∷ [])))
                else still (point k m kept) (Ok (point k m kept))).end) there,
          );
        }) h

  pub skipped : (k : Stored) (m : Progress) (body : List CoreStatement) (x : Value) → is_present k.present.state x ≡ false →
      Runs b k k m m (Ok tt) (λ p. (course_turn (course_statements body (schema_of b)) x p).end)
  skipped k m body x gone = record {
    back = back_itself k;
    front = front_itself m.variables;
    covered = λ c. c;
    ends = λ kept. (
      kept,
      ap (λ t. (if t then course_ended (point k m kept) (course_statements body (schema_of b) (with_variable (point k m kept) (x ∷ [])))
          else still (point k m kept) (Ok (point k m kept))).end) gone,
    );
  }
