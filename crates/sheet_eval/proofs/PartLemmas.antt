-- Parts of an evaluation, put together.
use Rattle.std.proofs.Common.{◌≡◌, refl, sym, ap, ◌∙◌, subst, ℕ, suc, ◌+◌, ◌≤◌, ◌<◌, get_or, Bool, true, false, List, [], ◌∷◌, ◌++◌, zero, drop, length}
use Rattle.std.proofs.Common.{arith, Some, Ok, Err}
use Rattle.std.specs.Prelude.{slice_get, map, fold, filter, cond, IfOk, OnOk, Result}
use Rattle.std.proofs.lemmas.List.Sums.{fold-append}
use Rattle.sheet_columns.specs.declared.fault.Fault.{Fault}
use Rattle.sheet_meaning.specs.declared.run.Use.{Use}
use Rattle.sheet_meaning.specs.declared.run.Run.{Run}
use Rattle.sheet_meaning.specs.Run.{Outcome, after, both_outcomes, run_after, all, finish, and_then, both, done, outranked, is_none}
use Rattle.sheet_meaning.specs.Formula.{gathered, joined, single}
use Rattle.sheet_meaning.specs.Support.{Cell, with_cell, with_cells}
use Rattle.sheet_eval.specs.Told.{Noted, note, noted, Came, Folds}
use Rattle.sheet_eval_sets.proofs.Cutting.{cut_at}

-- what holds of an answer that is Ok
pub if_ok : {A E : Type 0} (r : Result A E) (P Q : A → Type 0) → ((a : A) → P a → Q a) → IfOk r P → IfOk r Q
if_ok (Ok a) P Q f h = f a h
if_ok (Err e) P Q f h = tt

pub on_ok : {A E : Type 0} (r : Result A E) (P Q : Type 0) → (P → Q) → OnOk r P → OnOk r Q
on_ok (Ok a) P Q f h = f h
on_ok (Err e) P Q f h = tt

pub noted_more : (n : Noted) (us vs : List Use) → noted n (us ++ vs) ≡ noted (noted n us) vs
noted_more n us vs = fold-append note n us vs

pub after_ok : {A B C : Type 0} (o : Outcome A) (h : A → B) (g : B → Outcome C) → after (after o (λ x. Ok (h x))) g ≡ after o (λ x. g (h x))
after_ok (Ok a) h g = refl
after_ok (Err e) h g = refl

-- the same run, at the formula that the program holds
pub same_run : {A : Type 0} {r s : Run A} {o : Outcome A} {u0 u : Noted} → r ≡ s → Came s u0 o u → Came r u0 o u
same_run {o = o} {u0 = u0} {u = u} e c = subst (λ r. Came r u0 o u) (sym e) c

-- the same outcome, written otherwise
pub came_is : {A : Type 0} {r : Run A} {o q : Outcome A} {u0 u : Noted} → o ≡ q → Came r u0 o u → Came r u0 q u
came_is {r = r} {u0 = u0} {u = u} e c = subst (λ q. Came r u0 q u) e c

-- the element that a loop is at
pub got : {X : Type 0} (xs : List X) (k : ℕ) (x : X) → k < length xs → x ≡ get_or xs k x → slice_get xs k ≡ Some x
got [] k x le e = absurd (omega arith)
got (y ∷ ys) zero x le e = ap Some (sym e)
got (y ∷ ys) (suc k) x le e = got ys k x (omega arith) e

-- the parts of a form, one after another
module _ {A B : Type 0} {old mid : Noted} where
  pub finish_came : {r : Run A} {o : Outcome A} (f : A → Outcome B) → Came r old o mid → Came (finish r f) old (after o f) mid
  finish_came f c = record { outcome = ap (λ o. after o f) c.outcome; uses = c.uses }

  pub both_came : {r : Run A} {s : Run B} {o : Outcome A} {q : Outcome B} {new : Noted} → Came r old o mid → Came s mid q new
      → Came (both r s) old (both_outcomes o q) new
  both_came {r} {s} {o} {q} {new} c d = record {
    outcome = ap (λ v. both_outcomes v q) c.outcome ∙ ap (both_outcomes r.outcome) d.outcome;
    uses = d.uses ∙ ap (λ n. noted n s.uses) c.uses ∙ sym (noted_more old r.uses s.uses);
  }

  pub then_came : {r : Run A} {x : Outcome A} (f : A → Run B) {o : Outcome B} {new : Noted} → Came r old x mid → Came (run_after x f) mid o new
      → Came (and_then r f) old o new
  then_came {r} {x} f {o} {new} c d = record {
    outcome = d.outcome ∙ ap (λ v. (run_after v f).outcome) c.outcome;
    uses =
        d.uses
        ∙ ap (λ n. noted n (run_after x f).uses) c.uses
        ∙ sym (noted_more old r.uses (run_after x f).uses)
        ∙ ap (λ v. noted old (r.uses ++ (run_after v f).uses)) c.outcome;
  }

  -- the second of two steps, which sees the outcome of the first
  pub leads_came : {r : Run A} {x : Outcome A} (k : Outcome A → Run B) {o : Outcome B} {new : Noted} → Came r old x mid → Came (k x) mid o new
      → Came (record { outcome = (k r.outcome).outcome; uses = r.uses ++ (k r.outcome).uses }) old o new
  leads_came {r} {x} k {o} {new} c d = record {
    outcome = d.outcome ∙ ap (λ v. (k v).outcome) c.outcome;
    uses =
        d.uses
        ∙ ap (λ n. noted n (k x).uses) c.uses
        ∙ sym (noted_more old r.uses (k x).uses)
        ∙ ap (λ v. noted old (r.uses ++ (k v).uses)) c.outcome;
  }

  pub known_came : {r : Run A} {a : A} (f : A → Run B) {o : Outcome B} {new : Noted} → Came r old (Ok a) mid → Came (f a) mid o new
      → Came (and_then r f) old o new
  known_came {r} {a} f {o} {new} c d = then_came f c d

  pub failed_came : {r : Run A} {e : Fault} (f : A → Run B) → Came r old (Err e) mid → Came (and_then r f) old (Err e) mid
  failed_came {r} {e} f c = then_came f c (record { outcome = refl; uses = refl })

-- of three faults, the first two are judged first or the last two
three : (e f h : Fault) → outranked e (outranked f h) ≡ outranked (outranked e f) h
three e f h =
    elim (is_none h) as (λ b. is_none h ≡ b → cond (is_none (cond b h f)) (cond b h f) e ≡ cond b h (outranked e f)) [
      | true ↦ λ n. ap (λ b. cond b h e) n
      | false ↦ λ n. refl
    ] refl

-- a loop over the values of a set
module _ {A B : Type 0} (g : B → A → B) where
  abbrev total : B × List (List A) → Outcome B
  total x = Ok (fold g x.0 (joined x.1))

  from_none : (b : B) (q : Outcome (List (List A))) → after q (λ parts. Ok (fold g b (joined parts))) ≡ after (both_outcomes (Ok b) q) total
  from_none b (Err e) = refl
  from_none b (Ok xss) = refl

  to_all : (o : Outcome B) → after (both_outcomes o (Ok [])) total ≡ o
  to_all (Err e) = refl
  to_all (Ok b) = refl

  one_more : (o : Outcome B) (r : Outcome (List A)) (q : Outcome (List (List A)))
      → after (both_outcomes o (after (both_outcomes r q) (λ p. Ok (p.0 ∷ p.1)))) total ≡ after
      (both_outcomes (after (both_outcomes o r) (λ x. Ok (fold g x.0 x.1))) q) total
  one_more (Err e) (Err f) (Err h) = ap Err (three e f h)
  one_more (Err e) (Err f) (Ok xss) = refl
  one_more (Err e) (Ok xs) (Err h) = refl
  one_more (Err e) (Ok xs) (Ok xss) = refl
  one_more (Ok b) (Err f) (Err h) = refl
  one_more (Ok b) (Err f) (Ok xss) = refl
  one_more (Ok b) (Ok xs) (Err h) = refl
  one_more (Ok b) (Ok xs) (Ok xss) = ap Ok (fold-append g b xs (joined xss))

  -- what was gathered of the first k values, and what was used on the way
  pub record Reached {X : Type 0} (b : B) (f : X → Run (List A)) (s : List X) (old : Noted) (so_far : Outcome B) (new : Noted) (k : ℕ) : Type 0 where
    pub outcome : (gathered g b f s).outcome ≡ after (both_outcomes so_far (all (map f (drop k s))).outcome) (λ x. Ok (fold g x.0 (joined x.1)))
    pub uses : noted old (gathered g b f s).uses ≡ noted new (all (map f (drop k s))).uses

  module _ {X : Type 0} (b : B) (f : X → Run (List A)) (s : List X) (old : Noted) where
    pub reached_none : Reached b f s old (Ok b) old 0
    reached_none = record { outcome = from_none b (all (map f s)).outcome; uses = refl }

    pub reached_more : {so_far : Outcome B} {uses : Noted} {k : ℕ} {v : X} {next : Outcome B} {new : Noted} → slice_get s k ≡ Some v
        → Reached b f s old so_far uses k → Folds g (f v) so_far uses next new → Reached b f s old next new (k + 1)
    reached_more {so_far} {uses} {k} {v} {next} {new} at r step =
        let rest = all (map f (drop (k + 1) s)) in
        record {
          outcome =
              r.outcome
              ∙ ap (λ l. after (both_outcomes so_far (all (map f l)).outcome) total) (cut_at s k v at)
              ∙ one_more so_far (f v).outcome rest.outcome
              ∙ ap (λ o. after (both_outcomes o rest.outcome) total) (sym step.outcome);
          uses =
              r.uses
              ∙ ap (λ l. noted uses (all (map f l)).uses) (cut_at s k v at)
              ∙ noted_more uses (f v).uses rest.uses
              ∙ ap (λ n. noted n rest.uses) (sym step.uses);
        }

    drop_past : (xs : List X) (k : ℕ) → length xs ≤ k → drop k xs ≡ []
    drop_past [] zero le = refl
    drop_past [] (suc k) le = refl
    drop_past (x ∷ xs) zero le = absurd (omega arith)
    drop_past (x ∷ xs) (suc k) le = drop_past xs k (omega arith)

    pub reached_end : {so_far : Outcome B} {uses : Noted} {k : ℕ} → length s ≤ k → Reached b f s old so_far uses k → Came (gathered g b f s) old so_far uses
    reached_end {so_far} {uses} {k} le r = record {
      outcome =
          sym (r.outcome
          ∙ ap (λ l. after (both_outcomes so_far (all (map f l)).outcome) total) (drop_past s k le)
          ∙ to_all so_far);
      uses = sym (r.uses ∙ ap (λ l. noted uses (all (map f l)).uses) (drop_past s k le));
    }

  pub fold_one : (o : Outcome B) (p : Outcome A)
      → after (both_outcomes o (after p (λ a. Ok (a ∷ [])))) (λ x. Ok (fold g x.0 x.1)) ≡ after (both_outcomes o p) (λ x. Ok (g x.0 x.1))
  fold_one (Err e) (Err f) = refl
  fold_one (Err e) (Ok a) = refl
  fold_one (Ok b) (Err f) = refl
  fold_one (Ok b) (Ok a) = refl

  pub fold_nothing : (o : Outcome B) → o ≡ after (both_outcomes o (Ok [])) (λ x. Ok (fold g x.0 x.1))
  fold_nothing (Err e) = refl
  fold_nothing (Ok b) = refl

  -- a value that gives one part, and one that gives none
  pub folds_single : {r : Run A} {part : Outcome A} {so_far next : Outcome B} {old new : Noted} → Came r old part new
      → next ≡ after (both_outcomes so_far part) (λ x. Ok (g x.0 x.1)) → Folds g (single r) so_far old next new
  folds_single {r} {part} {so_far} {next} {old} {new} c e = record {
    outcome = e ∙ sym (fold_one so_far part) ∙ ap (λ p. after (both_outcomes so_far (after p (λ a. Ok (a ∷ [])))) (λ x. Ok (fold g x.0 x.1))) c.outcome;
    uses = c.uses;
  }

  pub folds_nothing : (so_far : Outcome B) (uses : Noted) → Folds g (done []) so_far uses so_far uses
  folds_nothing so_far uses = record { outcome = fold_nothing so_far; uses = refl }

  -- a value that gives what is there or not
  pub folds_came : {r : Run (List A)} {part : Outcome (List A)} {so_far next : Outcome B} {old new : Noted} → Came r old part new
      → next ≡ after (both_outcomes so_far part) (λ x. Ok (fold g x.0 x.1)) → Folds g r so_far old next new
  folds_came {r} {part} {so_far} {next} {old} {new} c e = record {
    outcome = e ∙ ap (λ p. after (both_outcomes so_far p) (λ x. Ok (fold g x.0 x.1))) c.outcome;
    uses = c.uses;
  }

filter_front : (p : Cell → Bool) (x : Cell) (xs : List Cell) → filter p (x ∷ xs) ≡ filter p (x ∷ []) ++ filter p xs
filter_front p x xs = elim (p x) as (λ b. cond b (x ∷ filter p xs) (filter p xs) ≡ cond b (x ∷ []) [] ++ filter p xs) [ true ↦ refl | false ↦ refl ]

pub lacking_more : (p : Cell → Bool) (all cells : List Cell) (k : ℕ) {whole next : List Cell} {x : Cell} → slice_get cells k ≡ Some x
    → with_cells all (filter p (drop k cells)) ≡ whole → next ≡ with_cells all (filter p (x ∷ [])) → with_cells next (filter p (drop (k + 1) cells)) ≡ whole
lacking_more p all cells k {whole} {next} {x} at h e =
    ap (λ a. with_cells a (filter p (drop (k + 1) cells))) e
    ∙ sym (fold-append with_cell all (filter p (x ∷ [])) (filter p (drop (k + 1) cells)))
    ∙ ap (with_cells all) (sym (filter_front p x (drop (k + 1) cells)))
    ∙ ap (λ l. with_cells all (filter p l)) (sym (cut_at cells k x at))
    ∙ h
