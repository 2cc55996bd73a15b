-- What is held stays sound with each request.
use Rattle.std.proofs.Common.{◌≡◌, refl, ap, sym, ◌∙◌, subst, ℕ, zero, suc, ◌+◌, ◌-◌, ◌<◌, ◌≤◌, Bool, true, false, if◌then◌else◌, List, [], ◌∷◌, ◌++◌, length, drop, arith}
use Rattle.std.proofs.Common.{Option, Some, None, Result, Ok, Err}
use Rattle.std.specs.Prelude.{nat_le, slice_get}
use Rattle.std.specs.List.{AllByRecursion}
use Rattle.std.proofs.lemmas.Bool.{leb-false, eqb-true}
use Rattle.sheet_values.specs.declared.value.Kind.{Kind}
use Rattle.sheet_values.specs.declared.value.Kind.TheVariants as kind
use Rattle.sheet_values.specs.declared.value.Value.{Value}
use Rattle.sheet_values.specs.declared.value.Value.TheVariants as value
use Rattle.sheet_columns.specs.Tree.{is_number, IsTree}
use Rattle.sheet_columns.specs.declared.page.Part.{Part}
use Rattle.sheet_books.specs.declared.body.Procedure.{Procedure}
use Rattle.sheet_books.specs.declared.body.View.{View}
use Rattle.sheet_books.specs.declared.book.Contents.{Contents}
use Rattle.sheet_books.specs.Books.{IsWellTyped, IsWellTypedProcedure}
use Rattle.sheet_books.proofs.SchemaLemmas.{books_start_well}
use Rattle.sheet_meaning.specs.Arguments.{bad_argument, AreArguments}
use Rattle.sheet_meaning.specs.Statements.{Point}
use Rattle.sheet_meaning.specs.Workbook.{object_at, column_in}
use Rattle.sheet_meaning.specs.declared.workbook.Caller.{Caller as Who}
use Rattle.sheet_meaning.specs.declared.refusal.Refusal.{Refusal as Stop}
use Rattle.sheet_meaning.specs.declared.refusal.Which.TheVariants.{Requests}
use Rattle.sheet_meaning.proofs.Fitting.{good_arguments_fit}
use Rattle.sheet_requests.specs.declared.reply.Answer.{Answer}
use Rattle.sheet_requests.specs.declared.reply.Answer.TheVariants as answer
use Rattle.sheet_requests.specs.declared.reply.Reply.{Reply}
use Rattle.sheet_requests.specs.declared.reply.Reply.TheVariants as reply
use Rattle.sheet_requests.specs.declared.reply.Refusal.TheVariants as refused
use Rattle.sheet_callers.specs.declared.admission.AdmitRefusal.{AdmitRefusal}
use Rattle.sheet_callers.specs.Admitting.{refused as refused_admission}
use Rattle.sheet_callers.specs.Callers.{Caller, KeptRequest, new_caller, caller_at}
use Rattle.sheet_callers.specs.Judging.{Judged, Fresh, Kept, Differs, Past, Ahead, judged}
use Rattle.sheet_callers.specs.Keeping.{most_kept, with_kept, keeping}
use Rattle.sheet_callers.specs.Sound.{AreCallers}
use Rattle.sheet_callers.proofs.CallerLemmas.{all_more as one_more, all_set, all_at}
use Rattle.sheet_engine_types.proofs.Given.{all_more, appended}
use Rattle.sheet_procs_laws.specs.Keeping.{IsCallerIn}
use Rattle.sheet_procs_laws.proofs.Following.{Follows, follows_itself, set_drawn, set_drawn_still}
use Rattle.sheet_procs_laws.proofs.Running.{procedures_leave_well_formed}
use Rattle.sheet_machine_laws.specs.Act.{accept, most_requests, after_run, by_run, run_of, who, admit, admit_unless, by_page}
use Rattle.sheet_machine_laws.specs.Judging.{Acted, refuse, caller_numbered, caller_found, by_number, where_good, procedure_at, procedure_found, view_found}
use Rattle.sheet_machine_laws.specs.Machine.{Holding, start, workbook_of}
use Rattle.sheet_machine_laws.specs.Sound.{IsFitting, IsKept, HasObject, IsCaller, IsSound}
use Rattle.sheet_machine_laws.proofs.KeptCallers.{kept_is, keeps_callers, admitted, admits_callers, operator_alone, still_at, fresh_is_next}
use Rattle.sheet_machine_laws.proofs.Replies.{procedure_ends}

-- what is said of a caller stays true of another holding, in which what was drawn stays so
module _ (g h : Holding) (f : Follows g.state h.state) (same : g.book ≡ h.book) (few : g.accepted ≤ h.accepted) where
  has_object : (o : Option ℕ) → HasObject g o → HasObject h o
  has_object None x = tt
  has_object (Some o) x =
      let grown = f.drawn in
      let lower = x.0 in
      (omega (arith, grown, lower), λ c e. subst (λ (y : Contents). c ≡ y.callers) same (x.1 c (f.column o c x.0 e)))

  fits_still : (a : Answer) → IsFitting g.state.next a → IsFitting h.state.next a
  fits_still (answer.Values set) x = (set_drawn_still g.state h.state f set x.0, x.1)
  fits_still (answer.Caller n) x = tt

  pub caller_still : (c : Caller) → IsCaller g c → IsCaller h c
  caller_still c x =
      let least = x.few in
      record {
        object = has_object c.object x.object;
        few = omega (arith, least, few);
        kept = all_more (IsKept g.state.next) (IsKept h.state.next) (λ k y. (y.0, fits_still k.answer y.1)) c.kept x.kept;
      }

all_drop : (P : KeptRequest → Type 0) (k : ℕ) (xs : List KeptRequest) → AllByRecursion P xs → AllByRecursion P (drop k xs)
all_drop P zero xs h = h
all_drop P (suc k) [] h = tt
all_drop P (suc k) (x ∷ xs) h = all_drop P k xs h.1

-- a caller that keeps one more request
kept_caller : (h : Holding) (c : Caller) (n : ℕ) (line : List ℕ) (given : Answer) → IsCaller h c → n ≤ h.accepted → length line ≤ 1000000
    → IsFitting h.state.next given → IsCaller h (with_kept c n line given)
kept_caller h c n line given x few short fits =
    let k : KeptRequest = record { number = n; line = line; answer = given } in
    record {
      object = x.object;
      few = few;
      kept =
          all_drop (IsKept h.state.next) (length (c.kept ++ k ∷ []) - most_kept) (c.kept ++ k ∷ [])
          (appended (IsKept h.state.next) c.kept (k ∷ []) x.kept ((short, fits), tt));
    }

either : (b : Bool) (x y : Acted) → IsSound x.0 → (b ≡ false → IsSound y.0) → IsSound (if b then x else y).0
either true x y f g = f
either false x y f g = g refl

-- one more accepted request
accepted_sound : (old new : Holding) (k : ℕ) (c : Caller) (n : ℕ) (line : List ℕ) (given : Answer)
    → IsSound old → IsSound new → new.accepted ≡ old.accepted → caller_at new.callers k ≡ Some c → n ≡ c.last + 1
    → length line ≤ 1000000 → IsFitting new.state.next given → IsSound (accept old new k n line given).0
accepted_sound old new zero c n line given was is same at next short fits = cc
accepted_sound old new (suc j) c n line given was is same at next short fits =
    let behind : Holding = record new { callers = keeping new.callers (suc j) n line given; accepted = old.accepted + 1 } in
    either (nat_le most_requests old.accepted) (refuse old (refused.Full Requests most_requests)) (behind, reply.Accepted n given) was (λ room.
    let less = leb-false most_requests old.accepted room in
    let there = caller_still new behind (follows_itself new.state) refl (omega (arith, same)) in
    let here = there c (all_at (IsCaller new) new.callers j c is.each at) in
    let last = (all_at (IsCaller new) new.callers j c is.each at).few in
    let kept = kept_is new.callers j c n line given at in
    record {
      typed = is.typed;
      tree = is.tree;
      formed = is.formed;
      filled = is.filled;
      callers = subst AreCallers (sym kept) (keeps_callers new.callers j c n line given at next is.callers);
      each =
          subst (AllByRecursion (IsCaller behind)) (sym kept)
          (all_set (IsCaller behind) new.callers j (with_kept c n line given) (all_more (IsCaller new) (IsCaller behind) there new.callers is.each)
          (kept_caller behind c n line given here (omega (arith, same, next, last)) short fits));
      few = omega (arith, less);
    })

pub all_got : {A : Type 0} (P : A → Type 0) (xs : List A) (i : ℕ) (x : A) → AllByRecursion P xs → slice_get xs i ≡ Some x → P x
all_got P [] i x h e = cc
all_got P (y ∷ ys) zero x h e = let same : y ≡ x = cc in subst P same h.0
all_got P (y ∷ ys) (suc i) x h e = all_got P ys i x h.1 e

pub as_many : (h : Holding) (ps : List (List ℕ × Kind)) (vs : List Value) → AreArguments h.state ps vs → length vs ≡ length ps
as_many h [] [] fit = refl
as_many h [] (v ∷ vs) fit = absurd fit
as_many h (p ∷ ps) [] fit = absurd fit
as_many h (p ∷ ps) (v ∷ vs) fit = ap suc (as_many h ps vs fit.1)

module _ (h : Holding) (sound : IsSound h) where
  pub found : (go : ℕ → Caller → Acted) → ((k : ℕ) (c : Caller) → caller_at h.callers k ≡ Some c → IsSound (go k c).0) → (o : Option ℕ)
      → IsSound (caller_found h go o).0
  found go goes None = sound
  found go goes (Some k) = numbered (caller_at h.callers k) refl
    where
      numbered : (o : Option Caller) → caller_at h.callers k ≡ o → IsSound (caller_numbered h k go o).0
      numbered None e = sound
      numbered (Some c) e = goes k c e

  pub fresh : (c : Caller) (n : ℕ) (line : List ℕ) (go : Acted) → (n ≡ c.last + 1 → IsSound go.0) → IsSound (by_number h n go (judged c n line)).0
  fresh c n line go goes = by_judged (judged c n line) refl
    where
      by_judged : (j : Judged) → judged c n line ≡ j → IsSound (by_number h n go j).0
      by_judged Fresh e = goes (fresh_is_next c n line e)
      by_judged (Kept given) e = sound
      by_judged Differs e = sound
      by_judged (Past last) e = sound
      by_judged (Ahead last) e = sound

  called : (o : Option ℕ) → HasObject h o → IsCallerIn h.state h.book.callers o
  called None x = x
  called (Some o) x = x

  -- where a run ends, the workbook is well formed and filled, and each caller's object is still one of the callers' column where it is live
  run_sound : (k : ℕ) (c : Caller) (n : ℕ) (line : List ℕ) (p : Procedure) (arguments : List Value)
      → caller_at h.callers k ≡ Some c → n ≡ c.last + 1 → length line ≤ 1000000
      → IsWellTypedProcedure h.book.columns h.book.callers p → AreArguments h.state p.parameters arguments
      → IsSound (by_run h k n line (run_of h p (who k c) arguments)).0
  run_sound zero c n line p arguments at next short typed fit = cc
  run_sound (suc j) c n line p arguments at next short typed fit = ended (run_of h p (who (suc j) c) arguments) refl
    where
      calls : IsCallerIn h.state h.book.callers c.object
      calls = called c.object (all_at (IsCaller h) h.callers j c sound.each at).object

      ended : (r : Result Point Stop) → run_of h p (who (suc j) c) arguments ≡ r → IsSound (by_run h (suc j) n line r).0
      ended (Err stop) e = sound
      ended (Ok q) e =
          let law = procedures_leave_well_formed h.book p (who (suc j) c) arguments h.state h.kept sound.typed sound.tree typed sound.formed calls fit in
          let goes = procedure_ends h.book p (who (suc j) c) arguments h.state h.kept sound.typed sound.tree typed sound.formed calls fit q e in
          let new = after_run h q in
          let is : IsSound new = record {
            typed = sound.typed;
            tree = sound.tree;
            formed = law.ends q e;
            filled = law.filled q e;
            callers = sound.callers;
            each = all_more (IsCaller h) (IsCaller new) (caller_still h new goes.follows refl (omega arith)) h.callers sound.each;
            few = sound.few;
          } in
          accepted_sound h new (suc j) c n line (answer.Values q.reply) sound is refl at next short (goes.fits (tt, omega arith))

  abbrev goes_to : ℕ → Caller → ℕ → List ℕ → List Value → Procedure → Acted
  goes_to k c n line arguments p = by_run h k n line (run_of h p (who k c) arguments)

  pub call_sound : (k : ℕ) (c : Caller) (name : List ℕ) (n : ℕ) (line : List ℕ) (arguments : List Value) (i : Option ℕ)
      → caller_at h.callers k ≡ Some c → n ≡ c.last + 1 → (length arguments ≤ 16 → length line ≤ 1000000)
      → IsSound (procedure_found h arguments (goes_to k c n line arguments) (procedure_at h.book i)).0
  call_sound k c name n line arguments None at next short = sound
  call_sound k c name n line arguments (Some i) at next short = of_found (slice_get h.book.procedures i) refl
    where
      good : (p : Procedure) → slice_get h.book.procedures i ≡ Some p → (o : Option ℕ) → bad_argument h.state p.parameters arguments ≡ o
          → IsSound (where_good h (goes_to k c n line arguments p) o).0
      good p e (Some b) bad = sound
      good p e None bad =
          let typed = all_got (IsWellTypedProcedure h.book.columns h.book.callers) h.book.procedures i p sound.typed.procedures e in
          let fit = (good_arguments_fit h.state p.parameters arguments).0 bad in
          let few = typed.parameters.0 in
          let many = as_many h p.parameters arguments fit in
          run_sound k c n line p arguments at next (short (omega (arith, few, many))) typed fit

      of_found : (o : Option Procedure) → slice_get h.book.procedures i ≡ o → IsSound (procedure_found h arguments (goes_to k c n line arguments) o).0
      of_found None e = sound
      of_found (Some p) e = good p e (bad_argument h.state p.parameters arguments) refl

  number_is : (a : ℕ) (o : Option ℕ) → is_number a o ≡ true → o ≡ Some a
  number_is a None e = cc
  number_is a (Some b) e = ap Some (sym (eqb-true a b e))

  -- a live object was drawn
  live_drawn : (o c : ℕ) → column_in (object_at h.state.objects o) ≡ Some c → o < h.state.next
  live_drawn o c e = (set_drawn (workbook_of h) sound.formed (kind.Object c) (value.Object o ∷ []) (e, tt)).0

  admits_sound : (c : Caller) (newkey name : List ℕ) (n o : ℕ) (line : List ℕ) → caller_at h.callers 1 ≡ Some c → n ≡ c.last + 1
      → length line ≤ 1000000 → column_in (object_at h.state.objects o) ≡ Some h.book.callers
      → (r : Option AdmitRefusal) → refused_admission h.callers newkey name ≡ r → IsSound (admit_unless h newkey name n o line r).0
  admits_sound c newkey name n o line at next short live (Some r) e = sound
  admits_sound c newkey name n o line at next short live None e =
      let d = new_caller newkey name (Some o) in
      let new : Holding = record h { callers = h.callers ++ d ∷ [] } in
      let still = caller_still h new (follows_itself h.state) refl (omega arith) in
      let here : IsCaller new d = record {
        object = (live_drawn o h.book.callers live, λ e g. let same : Some h.book.callers ≡ Some e = sym live ∙ g in cc);
        few = omega arith;
        kept = tt;
      } in
      let is : IsSound new = record {
        typed = sound.typed;
        tree = sound.tree;
        formed = sound.formed;
        filled = sound.filled;
        callers = admits_callers h.callers newkey name o (admitted h.callers newkey name e) sound.callers;
        each = one_more (IsCaller new) h.callers d (all_more (IsCaller h) (IsCaller new) still h.callers sound.each) here;
        few = sound.few;
      } in
      accepted_sound h new 1 c n line (answer.Caller (length h.callers + 1)) sound is refl (still_at h.callers 1 c d at) next short tt

  pub admit_sound : (c : Caller) (newkey name : List ℕ) (n o : ℕ) (line : List ℕ) → caller_at h.callers 1 ≡ Some c → n ≡ c.last + 1
      → length line ≤ 1000000 → IsSound (admit h newkey name n o line).0
  admit_sound c newkey name n o line at next short = either_live (is_number h.book.callers (column_in (object_at h.state.objects o))) refl
    where
      either_live : (b : Bool) → is_number h.book.callers (column_in (object_at h.state.objects o)) ≡ b
          → IsSound (if b then admit_unless h newkey name n o line (refused_admission h.callers newkey name) else refuse h (refused.BadArgument 1)).0
      either_live true e =
          admits_sound c newkey name n o line at next short (number_is h.book.callers (column_in (object_at h.state.objects o)) e)
          (refused_admission h.callers newkey name) refl
      either_live false e = sound

  good_view : (go : Acted) → IsSound go.0 → (o : Option ℕ) → IsSound (where_good h go o).0
  good_view go goes None = goes
  good_view go goes (Some b) = sound

  pub of_view : (arguments : List Value) (go : View → Acted) → ((v : View) → IsSound (go v).0) → (o : Option View) → IsSound (view_found h arguments go o).0
  of_view arguments go goes None = sound
  of_view arguments go goes (Some v) = good_view (go v) (goes v) (bad_argument h.state v.parameters arguments)

  pub shows_sound : (v : View) (w : Who) (arguments : List Value) (told : List Part → Reply) (r : Result (List Part) Stop)
      → IsSound (by_page h v w arguments told r).0
  shows_sound v w arguments told (Err r) = sound
  shows_sound v w arguments told (Ok parts) = record {
    typed = sound.typed;
    tree = sound.tree;
    formed = sound.formed;
    filled = sound.filled;
    callers = sound.callers;
    each = all_more (IsCaller h) (IsCaller (by_page h v w arguments told (Ok parts)).0)
        (caller_still h (by_page h v w arguments told (Ok parts)).0 (follows_itself h.state) refl (omega arith)) h.callers sound.each;
    few = sound.few;
  }

-- the start of a book
pub starts_are_sound : (book : Contents) (key : List ℕ) → IsWellTyped book → IsTree book.columns → IsSound (start book key)
starts_are_sound book key typed tree =
    let well = books_start_well book typed in
    record {
      typed = typed;
      tree = tree;
      formed = well.formed tree;
      filled = well.filled;
      callers = operator_alone key;
      each = (record { object = tt; few = omega arith; kept = tt }, tt);
      few = omega arith;
    }
