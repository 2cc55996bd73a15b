-- How many bytes a record takes, and how many fields it has.
use Rattle.std.proofs.Common.{◌≡◌, ◌<◌, ◌≤◌, ◌+◌, ℕ, List, [], ◌∷◌, ◌++◌, length, Bool, true, false, Some, None, inl, inr, refl, subst, arith, length-append}
use Rattle.std.specs.Prelude.{if◌then◌else◌, ◌==◌, ◌||◌, ◌&&◌}
use Rattle.std.proofs.lemmas.Bool.{cases_Bool}
use Rattle.csv.specs.Machine.{Read, ends_at_end, field_after, fields_after, in_field, is_end, next_record, start_field, start_record, step}
use Rattle.csv.specs.Reading.{default_config, strip_bom}
use Rattle.csv.specs.declared.parser.Action.{Action}
use Rattle.csv.specs.declared.parser.Action.TheVariants as act
use Rattle.csv.specs.declared.parser.State.{State}
use Rattle.csv.specs.declared.parser.State.TheVariants as st

-- where a step ends a record, it leads to no state in which the end of the text would end one
EndsWell : State × Action → Type 0
EndsWell r = is_end r.1 ≡ true → ends_at_end r.0 ≡ false

skips : (s : State) → EndsWell (s, act.Skip)
unfolding EndsWell
skips s = λ h. cc

copies : (s : State) → EndsWell (s, act.Copy)
unfolding EndsWell
copies s = λ h. cc

ends_field : (s : State) → EndsWell (s, act.EndField)
unfolding EndsWell
ends_field s = λ h. cc

ends_record : (b : Bool) → EndsWell ((if b then st.AfterCr else st.StartRecord), act.EndRecord)
unfolding EndsWell
ends_record true = λ h. refl
ends_record false = λ h. refl

either : (q : Bool) (x r : State × Action) → EndsWell x → EndsWell r → EndsWell (if q then x else r)
either true x r a b = a
either false x r a b = b

in_field_ends : (c : ℕ) → EndsWell (in_field default_config c)
in_field_ends c =
    either (c == 44) _ _ (ends_field st.StartField) (either ((c == 13) || (c == 10)) _ _ (ends_record (c == 13)) (copies st.InField))

start_field_ends : (c : ℕ) → EndsWell (start_field default_config c)
start_field_ends c = either (c == 34) _ _ (skips st.InQuoted) (in_field_ends c)

start_record_ends : (c : ℕ) → EndsWell (start_record default_config c)
start_record_ends c = either ((c == 13) || (c == 10)) _ _ (skips st.StartRecord) (start_field_ends c)

step_ends : (s : State) (c : ℕ) → EndsWell (step default_config s c)
step_ends st.StartRecord c = start_record_ends c
step_ends st.StartField c = start_field_ends c
step_ends st.InField c = in_field_ends c
step_ends st.InQuoted c = either (c == 34) _ _ (skips st.AfterQuote) (copies st.InQuoted)
step_ends st.InEscape c = copies st.InQuoted
step_ends st.AfterQuote c = either (c == 34) _ _ (copies st.InQuoted) (in_field_ends c)
step_ends st.InComment c = either (c == 10) _ _ (skips st.StartRecord) (skips st.InComment)
step_ends st.AfterCr c = either (c == 10) _ _ (skips st.StartRecord) (start_record_ends c)

-- one where the end of the text would end a record
abbrev pub extra : Bool → ℕ
extra true = 1
extra false = 0

-- what a record leaves
pub record Shrinks (s : State) (fields : List (List ℕ)) (xs : List ℕ) (p : Read) : Type 0 where
  pub between : ends_at_end p.1 ≡ false
  pub shorter : length p.2 < length xs + extra (ends_at_end s)
  pub few : length p.0 ≤ length fields + length xs + 1

at_end : (b : Bool) (s : State) (fields : List (List ℕ)) (field : List ℕ) (p : Read) → ends_at_end s ≡ b
    → (if b then Some (fields ++ (field ∷ []), st.StartRecord, []) else None) ≡ Some p → Shrinks s fields [] p
at_end true s fields field p b e =
    let whole : (fields ++ (field ∷ []), st.StartRecord, []) ≡ p = cc in
    subst (Shrinks s fields []) whole (record {
      between = refl;
      shorter = rw b (omega arith);
      few = omega (arith, length-append fields (field ∷ []));
    })
at_end false s fields field p b e = cc

few_after : (a : Action) (fields : List (List ℕ)) (field : List ℕ) → length (fields_after a fields field) ≤ length fields + 1
few_after act.Skip fields field = omega arith
few_after act.Copy fields field = omega arith
few_after act.EndField fields field = omega (arith, length-append fields (field ∷ []))
few_after act.EndRecord fields field = omega (arith, length-append fields (field ∷ []))

extra_small : (b : Bool) → extra b ≤ 1
extra_small true = omega arith
extra_small false = omega arith

pub shrinks : (s : State) (fields : List (List ℕ)) (field : List ℕ) (xs : List ℕ) (p : Read) → next_record default_config s fields field xs ≡ Some p → Shrinks s fields xs p
unfolding next_record EndsWell
shrinks s fields field [] p e = at_end (ends_at_end s) s fields field p refl e
shrinks s fields field (c ∷ rest) p e =
    elim (cases_Bool (is_end (step default_config s c).1)) [
      | inl ends ↦ let whole : (fields_after (step default_config s c).1 fields field, (step default_config s c).0, rest) ≡ p = let same = rw ends at e in cc in
          subst (Shrinks s fields (c ∷ rest)) whole (record {
            between = step_ends s c ends;
            shorter = omega arith;
            few = let few = few_after (step default_config s c).1 fields field in omega arith;
          })
      | inr goes ↦ let more = shrinks (step default_config s c).0 (fields_after (step default_config s c).1 fields field) (field_after (step default_config s c).1 c field) rest p (rw goes at e) in
          let few = few_after (step default_config s c).1 fields field in
          let small = extra_small (ends_at_end (step default_config s c).0) in
          record { between = more.between; shorter = omega arith; few = omega arith }
    ]

-- a byte order mark makes a text no longer
pub short_without_mark : (xs : List ℕ) → length (strip_bom xs) ≤ length xs
unfolding strip_bom
short_without_mark [] = omega arith
short_without_mark (a ∷ []) = omega arith
short_without_mark (a ∷ b ∷ []) = omega arith
short_without_mark (a ∷ b ∷ c ∷ rest) = kept ((a == 239) && (b == 187) && (c == 191))
  where
    kept : (mark : Bool) → length (if mark then rest else a ∷ b ∷ c ∷ rest) ≤ length (a ∷ b ∷ c ∷ rest)
    kept true = omega arith
    kept false = omega arith
