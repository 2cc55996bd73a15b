-- An evaluation depends on nothing but what it uses.
use Rattle.std.proofs.Common.{◌≡◌, refl, sym, ap, ◌∙◌, subst, Bool, true, false, List, [], ◌∷◌, ◌++◌}
use Rattle.std.specs.Prelude.{filter, cond, Ok, Err, if◌then◌else◌}
use Rattle.sheet_values.specs.declared.value.Value.{Value}
use Rattle.sheet_values.specs.declared.value.Value.TheVariants as value
use Rattle.sheet_columns.specs.declared.fault.Fault.{Fault}
use Rattle.sheet_columns.specs.declared.item.Item.TheVariants.{Extent, Stored, Up}
use Rattle.sheet_columns.specs.declared.formula.Connective.{Connective}
use Rattle.sheet_meaning.specs.declared.run.Use.{Use}
use Rattle.sheet_meaning.specs.declared.run.Use.TheVariants.{Read, Cell}
use Rattle.sheet_meaning.specs.Run.{Outcome, is_none, given, done, run_after, finish, and_then, both, decides, second_after_fault, second_truth, connect}
use Rattle.sheet_meaning.specs.Formula.{World, objects_of, is_read, live_reads}
use Rattle.sheet_meaning.specs.Reads.{Agree, UsesSuffice}
use Rattle.sheet_meaning.proofs.Relation.{IsKept, HoldsAtReads, behind_fault, second_part, as_part, related}
use Rattle.sheet_meaning.specs.declared.run.Run.{Run}

module _ (w u : World) where
  pub front_agrees : (xs ys : List Use) → Agree w u (xs ++ ys) → Agree w u xs
  front_agrees [] ys h = tt
  front_agrees (x ∷ xs) ys h = (h.0, front_agrees xs ys h.1)

  pub back_agrees : (xs ys : List Use) → Agree w u (xs ++ ys) → Agree w u ys
  back_agrees [] ys h = h
  back_agrees (x ∷ xs) ys h = back_agrees xs ys h.1

  -- where the worlds agree at what the first used, the second is the first
  pub record Tracks (A : Type 0) (r s : Run A) : Type 0 where
    pub is : Agree w u r.uses → s ≡ r

  same : {A : Type 0} (r : Run A) → Tracks A r r
  same r = record { is = λ h. refl }

  chosen : {A : Type 0} (r s q t : Run A) → Tracks A r s → Tracks A q t → (b : Bool) → Tracks A (if b then r else q) (if b then s else t)
  chosen r s q t h k true = h
  chosen r s q t h k false = k

  module _ {A B : Type 0} where
    finishes : (f : A → Outcome B) (r s : Run A) → Tracks A r s → Tracks B (finish r f) (finish s f)
    finishes f r s t = record { is = λ h. ap (λ x. finish x f) (t.is h) }

    next_tracks : (f g : A → Run B) → ((a : A) → Tracks B (f a) (g a)) → (o : Outcome A) → Tracks B (run_after o f) (run_after o g)
    next_tracks f g t (Ok a) = t a
    next_tracks f g t (Err e) = same (given (Err e))

    follows : (f g : A → Run B) (r s : Run A) → Tracks A r s → ((a : A) → Tracks B (f a) (g a)) → Tracks B (and_then r f) (and_then s g)
    follows f g r s first t = record {
      is = λ h.
          ap (λ x. and_then x g) (first.is (front_agrees r.uses (run_after r.outcome f).uses h))
          ∙ ap (λ (x : Run B). record { outcome = x.outcome; uses = r.uses ++ x.uses })
          ((next_tracks f g t r.outcome).is (back_agrees r.uses (run_after r.outcome f).uses h));
    }

    boths : (r s : Run A) (q t : Run B) → Tracks A r s → Tracks B q t → Tracks (A × B) (both r q) (both s t)
    boths r s q t c d = record {
      is = λ h. ap (λ x. both x t) (c.is (front_agrees r.uses q.uses h)) ∙ ap (both r) (d.is (back_agrees r.uses q.uses h));
    }

  after_fault : (e : Fault) (q t : Run Bool) → Tracks Bool q t → Tracks Bool (second_after_fault e q) (second_after_fault e t)
  after_fault e q t h =
      let parts = finishes (λ (x : Bool × Bool). Ok x.1) _ _ (boths (given (Err e)) (given (Err e)) q t (same {A = Bool} (given (Err e))) h) in
      let one_side = subst (λ r. Tracks Bool r (second_part e t)) (as_part e q) parts in
      chosen (given (Err e)) (given (Err e)) (behind_fault e q) (behind_fault e t) (same _)
      (subst (λ r. Tracks Bool (behind_fault e q) r) (as_part e t) one_side) (is_none e)

  second_tracks : (c : Connective) (q t : Run Bool) → Tracks Bool q t → (o : Outcome Bool) → Tracks Bool (second_truth c o q) (second_truth c o t)
  second_tracks c q t h (Ok a) = chosen (done a) (done a) q t (same (done a)) h (decides c a)
  second_tracks c q t h (Err e) = after_fault e q t h

  connects : (c : Connective) (r s q t : Run Bool) → Tracks Bool r s → Tracks Bool q t → Tracks Bool (connect c r q) (connect c s t)
  connects c r s q t first second = record {
    is = λ h.
        ap (λ x. connect c x t) (first.is (front_agrees r.uses (second_truth c r.outcome q).uses h))
        ∙ ap (λ (x : Run Bool). record { outcome = x.outcome; uses = r.uses ++ x.uses })
        ((second_tracks c q t second r.outcome).is (back_agrees r.uses (second_truth c r.outcome q).uses h));
  }

  kept : IsKept Tracks
  kept = record {
    givens = λ o. same (given o);
    finishes = finishes;
    follows = follows;
    boths = boths;
    connects = connects;
  }

  -- a variable uses whether each of its objects is live
  read_alike : (s : List Value) → Agree w u (live_reads s) → filter (is_read u) s ≡ filter (is_read w) s
  read_alike [] h = refl
  read_alike (value.Truth b ∷ s) h = ap (λ l. value.Truth b ∷ l) (read_alike s h)
  read_alike (value.Number n ∷ s) h = ap (λ l. value.Number n ∷ l) (read_alike s h)
  read_alike (value.Text t ∷ s) h = ap (λ l. value.Text t ∷ l) (read_alike s h)
  read_alike (value.Object o ∷ s) h =
      ap (λ b. cond b (value.Object o ∷ filter (is_read u) s) (filter (is_read u) s)) (sym h.0)
      ∙ ap (λ l. cond (w.live o) (value.Object o ∷ l) l) (read_alike s h.1)

  reads : HoldsAtReads Tracks w u
  reads = record {
    variables = λ s. record { is = λ h. ap (λ l. record { outcome = Ok l; uses = live_reads s }) (read_alike s h) };
    extents = λ o c. record { is = λ h. ap (λ l. record { outcome = Ok l; uses = Read (Extent o c) ∷ [] }) (sym h.0) };
    stored = λ o c. record { is = λ h. ap (λ l. record { outcome = Ok l; uses = Read (Stored o c) ∷ [] }) (sym h.0) };
    worked = λ o c. record { is = λ h. ap (λ x. record { outcome = x; uses = Cell o c ∷ [] }) (sym h.0) };
    parents = λ o. record { is = λ h. ap (λ x. record { outcome = Ok (objects_of x); uses = Read (Up o) ∷ [] }) (sym h.0) };
  }

pub uses_suffice : UsesSuffice
uses_suffice w u p v e h = (related (Tracks w u) (kept w u) w u (reads w u) p e v).is h
