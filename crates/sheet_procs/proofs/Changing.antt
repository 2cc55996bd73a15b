-- What the changes of statements come to.
use Rattle.std.proofs.Common.{◌≡◌, refl, sym, ap, ◌∙◌, subst, ℕ, true, false, List, [], ◌∷◌, ◌++◌, length, take, Option, None, Ok, Err}
use Rattle.std.specs.Prelude.{Result, OnOk, fold, is_some, nat_lt, sum_by, if◌then◌else◌}
use Rattle.std.specs.List.{filter_map}
use Rattle.sheet_values.specs.declared.value.Value.{Value}
use Rattle.sheet_values.specs.declared.value.Value.TheVariants as value
use Rattle.sheet_books.specs.declared.book.Contents.{Contents}
use Rattle.sheet_books.specs.Schemas.{schema_of}
use Rattle.sheet_columns.specs.Cells.{is_cell}
use Rattle.sheet_columns.specs.declared.item.Item.{Item}
use Rattle.sheet_columns.specs.declared.statement.Change.{Change as TheChange}
use Rattle.sheet_meaning.specs.Changes.{changed_set, with_set, with_object, without_object}
use Rattle.sheet_meaning.specs.Formula.{object_in}
use Rattle.sheet_meaning.specs.Statements.{Point, workbook, with_state, with_variable, store, make, remove, remove_all, answer, value_weight, max_reply}
use Rattle.sheet_meaning.specs.Support.{Cell}
use Rattle.sheet_meaning.specs.WellFormed.{cell_count, stored_values, IsWellFormed}
use Rattle.sheet_meaning.specs.Workbook.{object_at, set_in}
use Rattle.sheet_meaning.specs.declared.refusal.Refusal.{Refusal}
use Rattle.sheet_meaning.specs.declared.refusal.Refusal.TheVariants as meant
use Rattle.sheet_meaning.specs.declared.refusal.Which.{Which}
use Rattle.sheet_meaning.specs.declared.refusal.Which.TheVariants as which
use Rattle.sheet_meaning.specs.declared.workbook.Schema.{Schema}
use Rattle.sheet_meaning.specs.declared.workbook.State.{State}
use Rattle.sheet_state.specs.Limits.{first_full, Refuses}
use Rattle.sheet_state.specs.Removals.{without_live, without_all}
use Rattle.sheet_state.specs.Stored.{Stored, AreChanged, book, schema_of as columns_alone}
use Rattle.sheet_state.specs.declared.refusal.StateRefusal.{StateRefusal}
use Rattle.sheet_state.specs.declared.refusal.StateRefusal.TheVariants as state_refused
use Rattle.sheet_procs_laws.proofs.Changing.{carries, plain}
use Rattle.sheet_procs_touched.specs.Touched.{Covers, Adds, is_new, is_named}
use Rattle.sheet_procs_touched.proofs.Covering.{setting_is_covered, making_is_covered, deleting_is_covered}
use Rattle.sheet_procs.specs.Refused.{IsOf, IsNoted}
use Rattle.sheet_procs.specs.Runs.{point, IsRefusal, GoesBack, Runs}
use Rattle.sheet_procs.specs.declared.refusal.ProcedureRefusal.{ProcedureRefusal}
use Rattle.sheet_procs.specs.declared.refusal.ProcedureRefusal.TheVariants as refused
use Rattle.sheet_procs.specs.declared.progress.Progress.{Progress}
use Rattle.sheet_procs.proofs.Going.{back_itself, back_one, front_itself, front_more, wants_memory}
use Rattle.sheet_procs.proofs.Room.{by_limit, all_limits, value_limit}

-- a point, by its parts
abbrev made_of : State → List (List Value) → List Value → List Cell → Point
made_of s v r kept = record { state = s; variables = v; reply = r; kept = kept }

pub same_point : (s t : State) (v w : List (List Value)) (r q : List Value) (kept : List Cell) → s ≡ t → v ≡ w → r ≡ q →
    made_of s v r kept ≡ made_of t w q kept
same_point s t v w r q kept a b c = ap (λ x. made_of x v r kept) a ∙ ap (λ x. made_of t x r kept) b ∙ ap (λ x. made_of t w x kept) c

-- a change that is refused for a full count
limit_refused : (full : Option (Which × ℕ)) (cause : StateRefusal) (x : ProcedureRefusal) (q r : Result Point Refusal) → Refuses full cause → IsOf cause x →
    q ≡ by_limit full r → IsRefusal x q
limit_refused full (state_refused.Full which limit) x q r names of is =
    subst (λ y. IsRefusal y q) (sym of) (is ∙ ap (λ f. by_limit f r) names)
limit_refused full state_refused.NoMemory x q r names of is = subst (λ y. IsRefusal y q) (sym of) tt

module _ (b : Contents) (k l : Stored) (m n : Progress) (formed : IsWellFormed (workbook (schema_of b) k.present.state)) where
  abbrev s : Schema
  s = schema_of b

  abbrev t : State
  t = k.present.state

  -- `set`, `add` and `remove`
  module _ (how : TheChange) (o c : ℕ) (set : List Value) where
    abbrev pub stored_in : State
    stored_in = with_set t o c (changed_set how (set_in t.cells o c) set)

    store_limit : (kept : List Cell) → store s how o c set (point k m kept) ≡ by_limit (first_full (book b.columns stored_in))
        (Ok (with_state s (point k m kept) stored_in))
    store_limit kept =
        let u = stored_in in
        let p = plain s t formed in
        value_limit (length u.objects) (cell_count (book b.columns u)) (stored_values u.cells) u.next (Ok (with_state s (point k m kept) u)) p.few_objects
        p.few_cells p.few_numbers

    pub stored : l.present.state ≡ stored_in → first_full (book b.columns stored_in) ≡ None → l.earlier ≡ k.earlier ++ k.present ∷ [] →
        n.variables ≡ m.variables → n.reply ≡ m.reply → Adds (is_cell (o, c)) m.touched n.touched → Runs b k l m n (Ok tt) (store s how o c set)
    stored is room earlier variables reply adds = record {
      back = back_one k l earlier;
      front = ap (take (length m.variables)) variables ∙ front_itself m.variables;
      covered = λ h.
          subst (λ (u : State). Covers (workbook s u) n.touched) (sym is)
          (setting_is_covered s t o c (changed_set how (set_in t.cells o c) set) m.touched n.touched h adds);
      ends = λ kept.
          let p = with_state s (point k m kept) stored_in in (
            p.kept,
            store_limit kept
                ∙ ap (λ f. by_limit f (Ok p)) room
                ∙ ap Ok (same_point stored_in l.present.state m.variables n.variables m.reply n.reply p.kept (sym is) (sym variables) (sym reply)),
          );
    }

    pub noted : (r : Result (Unit {0}) ProcedureRefusal) → l.present.state ≡ stored_in → first_full (book b.columns stored_in) ≡ None →
        l.earlier ≡ k.earlier ++ k.present ∷ [] → n.variables ≡ m.variables → n.reply ≡ m.reply →
        IsNoted r (Adds (is_cell (o, c)) m.touched n.touched) → Runs b k l m n r (store s how o c set)
    noted (Ok u) is room earlier variables reply h = stored is room earlier variables reply h
    noted (Err x) is room earlier variables reply h =
        subst (λ y. Runs b k l m n (Err y) (store s how o c set)) (sym h) (wants_memory b k l m n (store s how o c set) (back_one k l earlier))

    pub not_stored : (cause : StateRefusal) (x : ProcedureRefusal) → Refuses (first_full (book b.columns stored_in)) cause → IsOf cause x → GoesBack k l →
        Runs b k l m n (Err x) (store s how o c set)
    not_stored cause x names of back = record {
      back = back;
      front = tt;
      covered = tt;
      ends = λ kept.
          limit_refused (first_full (book b.columns stored_in)) cause x (store s how o c set (point k m kept)) (Ok (with_state s (point k m kept) stored_in)) names
          of (store_limit kept);
    }

  -- `new`
  module _ (c parent : ℕ) where
    abbrev pub made_in : State
    made_in = with_object (columns_alone b.columns) t c parent

    same_made : made_in ≡ with_object s t c parent
    same_made = (carries s t formed t).new_object c parent

    same_full : first_full (book b.columns made_in) ≡ first_full (workbook s (with_object s t c parent))
    same_full = ap (λ (u : State). first_full (book b.columns u)) same_made ∙ (carries s t formed (with_object s t c parent)).full

    make_limit : (kept : List Cell) → make s c parent (point k m kept) ≡ by_limit (first_full (book b.columns made_in))
        (Ok (with_variable (with_state s (point k m kept) (with_object s t c parent)) (value.Object t.next ∷ [])))
    make_limit kept =
        let u = with_object s t c parent in
        let r = Ok (with_variable (with_state s (point k m kept) u) (value.Object t.next ∷ [])) in
        all_limits (length u.objects) (cell_count (workbook s u)) (stored_values u.cells) t.next r ∙ ap (λ f. by_limit f r) (sym same_full)

    pub made : (number : ℕ) → number ≡ t.next → l.present.state ≡ made_in → first_full (book b.columns made_in) ≡ None →
        l.earlier ≡ k.earlier ++ k.present ∷ [] → n.variables ≡ m.variables ++ (value.Object number ∷ []) ∷ [] → n.reply ≡ m.reply →
        Adds (is_new b.columns number c) m.touched n.touched → Runs b k l m n (Ok tt) (make s c parent)
    made number at is room earlier variables reply adds = record {
      back = back_one k l earlier;
      front = ap (take (length m.variables)) variables ∙ front_more m.variables ((value.Object number ∷ []) ∷ []);
      covered = λ h.
          subst (λ (u : State). Covers (workbook s u) n.touched) (sym (is ∙ same_made))
          (making_is_covered s t c parent m.touched n.touched formed h (subst (λ j. Adds (is_new b.columns j c) m.touched n.touched) at adds));
      ends = λ kept.
          let p = with_variable (with_state s (point k m kept) (with_object s t c parent)) (value.Object t.next ∷ []) in (
            p.kept,
            make_limit kept
                ∙ ap (λ f. by_limit f (Ok p)) room
                ∙ ap Ok
                (same_point (with_object s t c parent) l.present.state (m.variables ++ (value.Object t.next ∷ []) ∷ []) n.variables m.reply n.reply p.kept
                (sym (is ∙ same_made)) (ap (λ j. m.variables ++ (value.Object j ∷ []) ∷ []) (sym at) ∙ sym variables) (sym reply)),
          );
    }

    pub noted_object : (r : Result (Unit {0}) ProcedureRefusal) (number : ℕ) → number ≡ t.next → l.present.state ≡ made_in →
        first_full (book b.columns made_in) ≡ None → l.earlier ≡ k.earlier ++ k.present ∷ [] →
        OnOk r (n.variables ≡ m.variables ++ (value.Object number ∷ []) ∷ []) → n.reply ≡ m.reply →
        IsNoted r (Adds (is_new b.columns number c) m.touched n.touched) → Runs b k l m n r (make s c parent)
    noted_object (Ok u) number at is room earlier variables reply h = made number at is room earlier variables reply h
    noted_object (Err x) number at is room earlier variables reply h =
        subst (λ y. Runs b k l m n (Err y) (make s c parent)) (sym h) (wants_memory b k l m n (make s c parent) (back_one k l earlier))

    pub not_made : (cause : StateRefusal) (x : ProcedureRefusal) → Refuses (first_full (book b.columns made_in)) cause → IsOf cause x → GoesBack k l →
        Runs b k l m n (Err x) (make s c parent)
    not_made cause x names of back = record {
      back = back;
      front = tt;
      covered = tt;
      ends = λ kept.
          limit_refused (first_full (book b.columns made_in)) cause x (make s c parent (point k m kept))
          (Ok (with_variable (with_state s (point k m kept) (with_object s t c parent)) (value.Object t.next ∷ []))) names of (make_limit kept);
    }

  -- `delete`
  pub record LeavesAs (p q : Point) (u : State) : Type 0 where
    pub state : q.state ≡ u
    pub variables : q.variables ≡ p.variables
    pub reply : q.reply ≡ p.reply

  one_gone : (p : Point) (o : ℕ) → LeavesAs p (remove s p o) (without_live p.state o)
  one_gone p o =
      elim (is_some (object_at p.state.objects o))
      as (λ y. LeavesAs p (if y then with_state s p (without_object p.state o) else p) (if y then without_object p.state o else p.state)) [
        | true ↦ record { state = refl; variables = refl; reply = refl }
        | false ↦ record { state = refl; variables = refl; reply = refl }
      ]

  all_gone : (os : List ℕ) (p : Point) → LeavesAs p (fold (remove s) p os) (fold without_live p.state os)
  all_gone [] p = record { state = refl; variables = refl; reply = refl }
  all_gone (o ∷ os) p =
      let first = one_gone p o in
      let rest = all_gone os (remove s p o) in
      record {
        state = rest.state ∙ ap (λ (u : State). fold without_live u os) first.state;
        variables = rest.variables ∙ first.variables;
        reply = rest.reply ∙ first.reply;
      }

  pub taken : (set : List Value) (items : List Item) → l.present.state ≡ without_all t set → AreChanged t l.present.state items →
      l.earlier ≡ k.earlier ++ k.present ∷ [] → n.variables ≡ m.variables → n.reply ≡ m.reply → Adds (is_named items) m.touched n.touched →
      Runs b k l m n (Ok tt) (λ p. (remove_all s p (filter_map object_in set)).end)
  taken set items is changed earlier variables reply adds = record {
    back = back_one k l earlier;
    front = ap (take (length m.variables)) variables ∙ front_itself m.variables;
    covered = λ h.
        subst (λ (u : State). Covers (workbook s u) n.touched) (sym is)
        (deleting_is_covered s t set items m.touched n.touched formed (subst (λ (u : State). AreChanged t u items) is changed) h adds);
    ends = λ kept.
        let p = point k m kept in
        let q = fold (remove s) p (filter_map object_in set) in
        let g = all_gone (filter_map object_in set) p in (
          q.kept,
          ap Ok (same_point q.state l.present.state q.variables n.variables q.reply n.reply q.kept (g.state ∙ sym is) (g.variables ∙ sym variables)
              (g.reply ∙ sym reply)),
        );
  }

  pub noted_named : (r : Result (Unit {0}) ProcedureRefusal) (set : List Value) (items : List Item) → l.present.state ≡ without_all t set →
      AreChanged t l.present.state items → l.earlier ≡ k.earlier ++ k.present ∷ [] → n.variables ≡ m.variables → n.reply ≡ m.reply →
      IsNoted r (Adds (is_named items) m.touched n.touched) → Runs b k l m n r (λ p. (remove_all s p (filter_map object_in set)).end)
  noted_named (Ok u) set items is changed earlier variables reply h = taken set items is changed earlier variables reply h
  noted_named (Err x) set items is changed earlier variables reply h =
      subst (λ y. Runs b k l m n (Err y) (λ p. (remove_all s p (filter_map object_in set)).end)) (sym h)
      (wants_memory b k l m n (λ p. (remove_all s p (filter_map object_in set)).end) (back_one k l earlier))

-- statements that change nothing of the workbook
module _ (b : Contents) (k : Stored) (m : Progress) where
  abbrev with_parts : List (List Value) → List Value → Progress
  with_parts v r = record { variables = v; reply = r; touched = m.touched }

  pub bound : (vs : List (List Value)) (set : List Value) → vs ≡ m.variables ++ set ∷ [] →
      Runs b k k m (with_parts vs m.reply) (Ok tt) (λ p. Ok (with_variable p set))
  bound vs set is = record {
    back = back_itself k;
    front = ap (take (length m.variables)) is ∙ front_more m.variables (set ∷ []);
    covered = λ h. h;
    ends = λ kept. (kept, ap (λ v. Ok (made_of k.present.state v m.reply kept)) (sym is));
  }

  pub still_here : Runs b k k m m (Ok tt) (λ p. Ok p)
  still_here = record { back = back_itself k; front = front_itself m.variables; covered = λ h. h; ends = λ kept. (kept, refl) }

  pub passed : (i : ℕ) (message : List ℕ) → Runs b k k m m (Ok tt) (λ p. if true then Ok p else Err (meant.CheckFailed i message))
  passed i message = record { back = back_itself k; front = front_itself m.variables; covered = λ h. h; ends = λ kept. (kept, refl) }

  pub failed : (i : ℕ) (message : List ℕ) → Runs b k k m m (Err (refused.CheckFailed i message)) (λ p. if false then Ok p else Err (meant.CheckFailed i message))
  failed i message = record { back = back_itself k; front = tt; covered = tt; ends = λ kept. refl }

  pub answered : (set : List Value) → nat_lt max_reply (sum_by value_weight set) ≡ false → Runs b k k m (with_parts m.variables set) (Ok tt) (answer set)
  answered set e = record {
    back = back_itself k;
    front = front_itself m.variables;
    covered = λ h. h;
    ends = λ kept.
        (kept, ap (λ t. if t then Err (meant.Full which.Reply max_reply) else Ok (made_of k.present.state m.variables set kept)) e);
  }

  pub too_heavy : (set : List Value) → nat_lt max_reply (sum_by value_weight set) ≡ true → Runs b k k m m (Err (refused.Full which.Reply 4096)) (answer set)
  too_heavy set e = record {
    back = back_itself k;
    front = tt;
    covered = tt;
    ends = λ kept. ap (λ t. if t then Err (meant.Full which.Reply max_reply) else Ok (made_of k.present.state m.variables set kept)) e;
  }
