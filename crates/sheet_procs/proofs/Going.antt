-- How runs over an engine go on, one after another.
use Rattle.std.proofs.Common.{◌≡◌, refl, sym, ap, ◌∙◌, subst, List, [], ◌∷◌, ◌++◌, length, take, append_assoc, Ok, Err}
use Rattle.std.specs.Prelude.{Result}
use Rattle.std.proofs.lemmas.List.{append-nil}
use Rattle.sheet_books.specs.declared.book.Contents.{Contents}
use Rattle.sheet_books.specs.Schemas.{schema_of}
use Rattle.sheet_columns.specs.declared.fault.Fault.{Fault}
use Rattle.sheet_meaning.specs.Run.{Outcome}
use Rattle.sheet_meaning.specs.Statements.{Point, workbook, next, with_value, from_run, keeping}
use Rattle.sheet_meaning.specs.Support.{Cell}
use Rattle.sheet_meaning.specs.declared.refusal.Refusal.{Refusal}
use Rattle.sheet_meaning.specs.declared.refusal.Refusal.TheVariants as meant
use Rattle.sheet_meaning.specs.declared.run.Run.{Run}
use Rattle.sheet_meaning.specs.declared.workbook.Schema.{Schema}
use Rattle.sheet_state.specs.Stored.{Moment, Stored}
use Rattle.sheet_procs_touched.specs.Touched.{Covers}
use Rattle.sheet_procs.specs.Runs.{point, IsRefusal, Comes, history, GoesBack, Runs}
use Rattle.sheet_procs.specs.declared.refusal.ProcedureRefusal.{ProcedureRefusal}
use Rattle.sheet_procs.specs.declared.refusal.ProcedureRefusal.TheVariants as refused
use Rattle.sheet_procs.specs.declared.progress.Progress.{Progress}

-- the way back
pub back_itself : (k : Stored) → GoesBack k k
back_itself k = record { later = []; is = sym (append-nil (history k)) }

pub back_same : (k l : Stored) → l ≡ k → GoesBack k l
back_same k l e = subst (λ y. GoesBack k y) (sym e) (back_itself k)

pub back_on : (k l m : Stored) → GoesBack k l → GoesBack l m → GoesBack k m
back_on k l m a b = record {
  later = a.later ++ b.later;
  is = b.is ∙ ap (λ (x : List Moment). x ++ b.later) a.is ∙ append_assoc (history k) a.later b.later;
}

pub back_one : (k l : Stored) → l.earlier ≡ k.earlier ++ k.present ∷ [] → GoesBack k l
back_one k l e = record { later = l.present ∷ []; is = ap (λ (x : List Moment). x ++ l.present ∷ []) e }

-- what stands in front stays there
pub front_on : {A : Type 0} (a b c : List A) → take (length a) b ≡ a → take (length b) c ≡ b → take (length a) c ≡ a
front_on [] b c e f = refl
front_on (x ∷ a) [] c e f = cc
front_on (x ∷ a) (y ∷ b) [] e f = cc
front_on {A} (x ∷ a) (y ∷ b) (z ∷ c) e f =
    let first : y ≡ x = cc in
    let second : z ≡ y = cc in
    let rest : take (length a) b ≡ a = cc in
    let more : take (length b) c ≡ b = cc in
    ap (λ w. w ∷ take (length a) c) (second ∙ first) ∙ ap (λ l. x ∷ l) (front_on a b c rest more)

pub front_itself : {A : Type 0} (a : List A) → take (length a) a ≡ a
front_itself [] = refl
front_itself (x ∷ a) = ap (λ l. x ∷ l) (front_itself a)

pub front_more : {A : Type 0} (a b : List A) → take (length a) (a ++ b) ≡ a
front_more [] b = refl
front_more (x ∷ a) b = ap (λ l. x ∷ l) (front_more a b)

-- a refusal of one run is one of another that goes the same way
pub refusal_moved : {A B : Type 0} (x : ProcedureRefusal) (r : Result A Refusal) (q : Result B Refusal) → ((e : Refusal) → r ≡ Err e → q ≡ Err e) →
    IsRefusal x r → IsRefusal x q
refusal_moved refused.Denied r q f h = f meant.Denied h
refusal_moved (refused.CheckFailed n message) r q f h = f (meant.CheckFailed n message) h
refusal_moved (refused.FormulaFault e) r q f h = f (meant.FormulaFault e) h
refusal_moved (refused.NotOneCell o c n) r q f h = f (meant.NotOneCell o c n) h
refusal_moved (refused.Full which limit) r q f h = f (meant.Full which limit) h
refusal_moved refused.NoMemory r q f h = tt

-- a formula's fault is a refusal
pub faulted : {A B : Type 0} (x : ProcedureRefusal) (o : Outcome A) (r : Result B Refusal) → ((f : Fault) → o ≡ Err f → r ≡ Err (meant.FormulaFault f)) →
    Comes (Err x) o → IsRefusal x r
faulted refused.Denied o r f h = absurd h
faulted (refused.CheckFailed n message) o r f h = absurd h
faulted (refused.FormulaFault e) o r f h = f e h
faulted (refused.NotOneCell p c n) o r f h = absurd h
faulted (refused.Full which limit) o r f h = absurd h
faulted refused.NoMemory o r f h = tt

module _ (b : Contents) where
  abbrev pub sc : Schema
  sc = schema_of b

  -- a run is under way: what is left to run leads where the whole does
  pub record UnderWay (k l : Stored) (m n : Progress) (f g : Point → Result Point Refusal) : Type 0 where
    pub back : GoesBack k l
    pub front : take (length m.variables) n.variables ≡ m.variables
    pub covered : Covers (workbook sc k.present.state) m.touched → Covers (workbook sc l.present.state) n.touched
    pub goes : (kept : List Cell) → (later : List Cell) × (f (point k m kept) ≡ g (point l n later))

  pub begins : (k : Stored) (m : Progress) (f : Point → Result Point Refusal) → UnderWay k k m m f f
  begins k m f = record { back = back_itself k; front = front_itself m.variables; covered = λ h. h; goes = λ kept. (kept, refl) }

  -- the rest of the way
  pub ends_on : (k l o : Stored) (m n p : Progress) (f g : Point → Result Point Refusal) (r : Result (Unit {0}) ProcedureRefusal) → UnderWay k l m n f g →
      Runs b l o n p r g → Runs b k o m p r f
  ends_on k l o m n p f g (Ok u) w h = record {
    back = back_on k l o w.back h.back;
    front = front_on m.variables n.variables p.variables w.front h.front;
    covered = λ c. h.covered (w.covered c);
    ends = λ kept. let a = w.goes kept in let e = h.ends a.0 in (e.0, a.1 ∙ e.1);
  }
  ends_on k l o m n p f g (Err x) w h = record {
    back = back_on k l o w.back h.back;
    front = tt;
    covered = tt;
    ends = λ kept. let a = w.goes kept in refusal_moved x (g (point l n a.0)) (f (point k m kept)) (λ e is. a.1 ∙ is) (h.ends a.0);
  }

  -- a step on the way
  pub goes_on : (k l o : Stored) (m n p : Progress) (f h g : Point → Result Point Refusal) → UnderWay k l m n f (λ q. next (h q) g) → Runs b l o n p (Ok tt) h →
      UnderWay k o m p f g
  goes_on k l o m n p f h g w s = record {
    back = back_on k l o w.back s.back;
    front = front_on m.variables n.variables p.variables w.front s.front;
    covered = λ c. s.covered (w.covered c);
    goes = λ kept. let a = w.goes kept in let e = s.ends a.0 in (e.0, a.1 ∙ ap (λ x. next x g) e.1);
  }

  -- a step that ends the run
  pub stops : (k l o : Stored) (m n p : Progress) (f h g : Point → Result Point Refusal) (x : ProcedureRefusal) → UnderWay k l m n f (λ q. next (h q) g) →
      Runs b l o n p (Err x) h → Runs b k o m p (Err x) f
  stops k l o m n p f h g x w s = record {
    back = back_on k l o w.back s.back;
    front = tt;
    covered = tt;
    ends = λ kept.
        let a = w.goes kept in
        refusal_moved x (h (point l n a.0)) (f (point k m kept)) (λ e is. a.1 ∙ ap (λ y. next y g) is) (s.ends a.0);
  }

  -- the end of the way
  pub arrives : (k l : Stored) (m n : Progress) (f : Point → Result Point Refusal) → UnderWay k l m n f (λ q. Ok q) → Runs b k l m n (Ok tt) f
  arrives k l m n f w = record { back = w.back; front = w.front; covered = w.covered; ends = w.goes }

  -- the same run by another definition
  pub same_run : (k l : Stored) (m n : Progress) (f g : Point → Result Point Refusal) (r : Result (Unit {0}) ProcedureRefusal) →
      ((kept : List Cell) → g (point k m kept) ≡ f (point k m kept)) → Runs b k l m n r f → Runs b k l m n r g
  same_run k l m n f g r same h =
      ends_on k k l m m n g f r
      (record { back = back_itself k; front = front_itself m.variables; covered = λ c. c; goes = λ kept. (kept, same kept) }) h

  -- a statement begins with its formulas
  module _ {A : Type 0} (u : Point → Run A) (f : A → Point → Result Point Refusal) (k : Stored) (m : Progress) (o : Outcome A)
      (is : (kept : List Cell) → (u (point k m kept)).outcome ≡ o) where
    abbrev pub whole : Point → Result Point Refusal
    whole p = from_run sc (u p) p f

    pub known : (a : A) → Comes (Ok a) o → UnderWay k k m m whole (λ p. f a p)
    known a h = record {
      back = back_itself k;
      front = front_itself m.variables;
      covered = λ c. c;
      goes = λ kept.
          let p = point k m kept in
          let r = u p in
          ((keeping sc r.uses p).kept, ap (λ x. with_value x (λ y. f y (keeping sc r.uses p))) (is kept ∙ h));
    }

    pub not_known : (x : ProcedureRefusal) → Comes (Err x) o → Runs b k k m m (Err x) whole
    not_known x h = record {
      back = back_itself k;
      front = tt;
      covered = tt;
      ends = λ kept.
          let p = point k m kept in
          let r = u p in
          faulted x o (whole p) (λ e fault. ap (λ y. with_value y (λ z. f z (keeping sc r.uses p))) (is kept ∙ fault)) h;
    }

  -- only want of memory came of it
  pub wants_memory : (k l : Stored) (m n : Progress) (f : Point → Result Point Refusal) → GoesBack k l → Runs b k l m n (Err refused.NoMemory) f
  wants_memory k l m n f back = record { back = back; front = tt; covered = tt; ends = λ kept. tt }
