-- Counts against their limits.
use Rattle.std.proofs.Common.{◌≡◌, refl, sym, ap, ◌∙◌, ℕ, ◌+◌, ◌≤◌, Bool, true, false, [], ◌∷◌, arith, Option, Some, None, Err, lt-ltb}
use Rattle.std.specs.Prelude.{nat_lt, if◌then◌else◌, Result}
use Rattle.std.proofs.lemmas.Bool.{ltb-true}
use Rattle.sheet_meaning.specs.Statements.{Point, within}
use Rattle.sheet_meaning.specs.WellFormed.{max_objects, max_cells, max_values, max_number}
use Rattle.sheet_meaning.specs.declared.refusal.Refusal.{Refusal}
use Rattle.sheet_meaning.specs.declared.refusal.Refusal.TheVariants.{Full}
use Rattle.sheet_meaning.specs.declared.refusal.Which.{Which}
use Rattle.sheet_meaning.specs.declared.refusal.Which.TheVariants as which
use Rattle.sheet_state.specs.Limits.{full_of}

both_ways : (a b : Bool) → (a ≡ true → b ≡ true) → (b ≡ true → a ≡ true) → a ≡ b
both_ways true b f g = sym (f refl)
both_ways false true f g = g refl
both_ways false false f g = refl

one_more : (a b : ℕ) → nat_lt (a + 1) (b + 1) ≡ nat_lt a b
one_more a b =
    both_ways _ _ (λ h. let lt = ltb-true (a + 1) (b + 1) h in lt-ltb a b (omega (arith, lt))) (λ h. let lt = ltb-true a b h in lt-ltb (a + 1) (b + 1) (omega (arith, lt)))

not_over : (m a : ℕ) → a ≤ m → nat_lt m a ≡ false
not_over m a le = elim (nat_lt m a) as (λ b. nat_lt m a ≡ b → b ≡ false) [ true ↦ λ e. let lt = ltb-true m a e in absurd (omega (arith, lt, le)) | false ↦ λ e. refl ] refl

-- what a run comes to by the first limit that is passed
abbrev pub by_limit : Option (Which × ℕ) → Result Point Refusal → Result Point Refusal
by_limit None r = r
by_limit (Some x) r = Err (Full x.0 x.1)

chosen : (t : Bool) (x : Which × ℕ) (o : Option (Which × ℕ)) (r q : Result Point Refusal) → q ≡ by_limit o r →
    (if t then Err (Full x.0 x.1) else q) ≡ by_limit (if t then Some x else o) r
chosen true x o r q e = refl
chosen false x o r q e = e

pub all_limits : (a b v n : ℕ) (r : Result Point Refusal) →
    within ((which.Objects, a, max_objects) ∷ (which.Cells, b, max_cells) ∷ (which.Values, v, max_values) ∷ (which.Numbers, n, max_number) ∷ []) r
    ≡ by_limit (full_of a b v (n + 1)) r
all_limits a b v n r =
    chosen (nat_lt max_objects a) (which.Objects, max_objects) _ r _
    (chosen (nat_lt max_cells b) (which.Cells, max_cells) _ r _
    (chosen (nat_lt max_values v) (which.Values, max_values) _ r _
    (ap (λ t. if t then Err (Full which.Numbers max_number) else r) (sym (one_more max_number n))
    ∙ chosen (nat_lt (max_number + 1) (n + 1)) (which.Numbers, max_number) None r r refl)))

pub value_limit : (a b v n : ℕ) (r : Result Point Refusal) → a ≤ max_objects → b ≤ max_cells → n ≤ max_number + 1 →
    within ((which.Values, v, max_values) ∷ []) r ≡ by_limit (full_of a b v n) r
value_limit a b v n r objects cells numbers =
    chosen (nat_lt max_values v) (which.Values, max_values) None r r refl
    ∙ ap (λ t. by_limit (if nat_lt max_values v then Some (which.Values, max_values) else (if t then Some (which.Numbers, max_number) else None)) r)
    (sym (not_over (max_number + 1) n numbers))
    ∙ ap (λ t. by_limit (if t then Some (which.Cells, max_cells) else
    (if nat_lt max_values v then Some (which.Values, max_values) else (if nat_lt (max_number + 1) n then Some (which.Numbers, max_number) else None))) r)
    (sym (not_over max_cells b cells))
    ∙ ap (λ t. by_limit (if t then Some (which.Objects, max_objects) else (if nat_lt max_cells b then Some (which.Cells, max_cells) else
    (if nat_lt max_values v then Some (which.Values, max_values) else (if nat_lt (max_number + 1) n then Some (which.Numbers, max_number) else None)))) r)
    (sym (not_over max_objects a objects))
