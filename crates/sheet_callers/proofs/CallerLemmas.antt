-- Callers found by their indexes, and what holds of all of them.
use Rattle.std.proofs.Common.{◌≡◌, ◌<◌, ℕ, zero, suc, ◌+◌, ◌-◌, List, [], ◌∷◌, ◌++◌, length, map, take}
use Rattle.std.proofs.Common.{position, Option, Some, None, option_map, is_some, refl, sym, ap, ◌∙◌, subst, arith, slice_index_or, slice_set}
use Rattle.std.specs.Prelude.{IsSome, slice_get, bytes_eq}
use Rattle.std.specs.List.{AllByRecursion}
use Rattle.std.proofs.lemmas.Bool.{true≢false}
use Rattle.std.proofs.lemmas.List.{map-append, length-append}
use Rattle.sheet_requests.specs.declared.reply.Answer.{Answer}
use Rattle.sheet_callers.specs.Callers.{Caller, new_caller, caller_at, IsWithin, with_key, with_name}
use Rattle.sheet_callers.specs.Keeping.{keeping, with_kept, KeepsLast}
use Rattle.sheet_callers.specs.Judging.{IsNext}
use Rattle.sheet_callers.specs.Admitting.{most_callers}
use Rattle.sheet_callers.specs.Indexed.{IsIndexed}
use Rattle.sheet_callers.specs.Sound.{HasOperator}
use Rattle.sheet_callers.proofs.IndexLemmas.{position-map}

pub by_key : (keys : List (List ℕ)) (cs : List Caller) (key : List ℕ) → keys ≡ map (λ (c : Caller). c.key) cs
    → option_map (λ k. k + 1) (position (bytes_eq key) keys) ≡ with_key cs key
by_key keys cs key same = ap (option_map (λ k. k + 1)) (ap (position (bytes_eq key)) same ∙ position-map (λ (c : Caller). c.key) (bytes_eq key) cs)

pub by_name : (names : List (List ℕ)) (cs : List Caller) (name : List ℕ) → names ≡ map (λ (c : Caller). c.name) cs
    → option_map (λ k. k + 1) (position (bytes_eq name) names) ≡ with_name cs name
by_name names cs name same = ap (option_map (λ k. k + 1)) (ap (position (bytes_eq name)) same ∙ position-map (λ (c : Caller). c.name) (bytes_eq name) cs)

-- the caller at a place that is read
pub present : (cs : List Caller) (k : ℕ) (c : Caller) → IsSome (slice_get cs k) → c ≡ slice_index_or cs k c → slice_get cs k ≡ Some c
present [] k c some same = absurd (true≢false (sym some))
present (x ∷ xs) zero c some same = ap Some (sym same)
present (x ∷ xs) (suc k) c some same = present xs k c some same

-- one caller keeps one more request
pub keeping_is : (cs : List Caller) (caller : ℕ) (c d : Caller) (n : ℕ) (line : List ℕ) (answer : Answer)
    → IsSome (caller_at cs caller) → c ≡ slice_index_or cs (caller - 1) c → d ≡ with_kept c n line answer
    → slice_set cs (caller - 1) d ≡ keeping cs caller n line answer
keeping_is cs zero c d n line answer some same kept = absurd (true≢false (sym some))
keeping_is cs (suc k) c d n line answer some same kept =
    let e : suc k - 1 ≡ k = omega arith in
    let at : slice_get cs k ≡ Some c = present cs k c some (rw e at same) in
    rw (e, at, kept) refl

-- a changed caller with the same key and name
pub same_images : (f : Caller → List ℕ) (cs : List Caller) (k : ℕ) (c d : Caller) → c ≡ slice_index_or cs k c → f d ≡ f c → map f (slice_set cs k d) ≡ map f cs
same_images f [] k c d same like = refl
same_images f (x ∷ xs) zero c d same like = ap (λ y. y ∷ map f xs) (like ∙ ap f same)
same_images f (x ∷ xs) (suc k) c d same like = ap (λ t. f x ∷ t) (same_images f xs k c d same like)

pub same_length : (cs : List Caller) (k : ℕ) (d : Caller) → length (slice_set cs k d) ≡ length cs
same_length [] k d = refl
same_length (x ∷ xs) zero d = refl
same_length (x ∷ xs) (suc k) d = ap suc (same_length xs k d)

-- no caller has it, so it isn't in the index
pub absent : (o : Option ℕ) → option_map (λ k. k + 1) o ≡ None → o ≡ None
absent None none = refl
absent (Some k) none = absurd (true≢false (ap is_some none))

pub all_more : (P : Caller → Type 0) (xs : List Caller) (y : Caller) → AllByRecursion P xs → P y → AllByRecursion P (xs ++ y ∷ [])
all_more P [] y all it = (it, tt)
all_more P (x ∷ xs) y all it = (all.0, all_more P xs y all.1 it)

pub all_take : (P : Caller → Type 0) (n : ℕ) (xs : List Caller) → AllByRecursion P xs → AllByRecursion P (take n xs)
all_take P zero xs all = tt
all_take P (suc n) [] all = tt
all_take P (suc n) (x ∷ xs) all = (all.0, all_take P n xs all.1)

pub all_set : (P : Caller → Type 0) (xs : List Caller) (k : ℕ) (d : Caller) → AllByRecursion P xs → P d → AllByRecursion P (slice_set xs k d)
all_set P [] k d all it = tt
all_set P (x ∷ xs) zero d all it = (it, all.1)
all_set P (x ∷ xs) (suc k) d all it = (all.0, all_set P xs k d all.1 it)

-- the caller of an option, or another
abbrev some_or : Caller → Option Caller → Caller
some_or d None = d
some_or d (Some y) = y

pub all_at : (P : Caller → Type 0) (xs : List Caller) (k : ℕ) (c : Caller) → AllByRecursion P xs → slice_get xs k ≡ Some c → P c
all_at P [] k c all at = absurd (true≢false (sym (ap is_some at)))
all_at P (x ∷ xs) zero c all at = subst P (ap (some_or x) at) all.0
all_at P (x ∷ xs) (suc k) c all at = all_at P xs k c all.1 at

-- the operator is the first, whoever comes behind
pub operator_more : (cs : List Caller) (c : Caller) → HasOperator cs → IsSome c.object → HasOperator (cs ++ c ∷ [])
operator_more [] c none some = absurd none
operator_more (x ∷ xs) c has some = (has.0, has.1, all_more (λ (d : Caller). IsSome d.object) xs c has.2 some)

pub operator_take : (n : ℕ) (cs : List Caller) → 0 < n → HasOperator cs → HasOperator (take n cs)
operator_take zero cs some has = absurd (omega (arith, some))
operator_take (suc n) [] some none = absurd none
operator_take (suc n) (x ∷ xs) some has = (has.0, has.1, all_take (λ (d : Caller). IsSome d.object) n xs has.2)

-- a caller that keeps its name and its object
pub operator_set : (cs : List Caller) (k : ℕ) (c d : Caller)
    → c ≡ slice_index_or cs k c → d.name ≡ c.name → d.object ≡ c.object → IsSome (slice_get cs k) → HasOperator cs → HasOperator (slice_set cs k d)
operator_set [] k c d same name object some none = absurd none
operator_set (x ∷ xs) zero c d same name object some has =
    (name ∙ ap (λ (e : Caller). e.name) same ∙ has.0, object ∙ ap (λ (e : Caller). e.object) same ∙ has.1, has.2)
operator_set (x ∷ xs) (suc k) c d same name object some has =
    let at : slice_get xs k ≡ Some c = present xs k c some same in
    let it : IsSome c.object = all_at (λ (e : Caller). IsSome e.object) xs k c has.2 at in
    (has.0, has.1, all_set (λ (e : Caller). IsSome e.object) xs k d has.2 (ap is_some object ∙ it))

pub some_callers : (cs : List Caller) → HasOperator cs → 0 < length cs
some_callers [] none = absurd none
some_callers (x ∷ xs) has = omega arith

get_within : (cs : List Caller) (k : ℕ) → k < length cs → IsSome (slice_get cs k)
get_within [] k less = absurd (omega (arith, less))
get_within (x ∷ xs) zero less = refl
get_within (x ∷ xs) (suc k) less = get_within xs k (omega (arith, less))

-- a caller from 1 to the count is there
pub there : (cs : List Caller) (n : ℕ) → IsWithin cs n → IsSome (caller_at cs n)
there cs zero within = absurd (omega (arith, within.0))
there cs (suc k) within = get_within cs k (omega (arith, within.1))

within_get : (cs : List Caller) (k : ℕ) → IsSome (slice_get cs k) → k < length cs
within_get [] k some = absurd (true≢false (sym some))
within_get (x ∷ xs) zero some = omega arith
within_get (x ∷ xs) (suc k) some = let less = within_get xs k some in omega (arith, less)

pub within : (cs : List Caller) (n : ℕ) → IsSome (caller_at cs n) → IsWithin cs n
within cs zero some = absurd (true≢false (sym some))
within cs (suc k) some = let less = within_get cs k some in (omega arith, omega (arith, less))

-- where a number is the next one of a caller, there is that caller
pub next_is_there : (c : Option Caller) (n : ℕ) → IsNext c n → IsSome c
next_is_there None n none = absurd none
next_is_there (Some c) n next = refl

-- and of the caller at a place that is read it is the one behind its last one
pub next_of : (cs : List Caller) (caller : ℕ) (c : Caller) (n : ℕ) → IsNext (caller_at cs caller) n → c ≡ slice_index_or cs (caller - 1) c → n ≡ c.last + 1
next_of cs zero c n next same = absurd next
next_of cs (suc k) c n next same =
    let e : suc k - 1 ≡ k = omega arith in
    let at : slice_get cs k ≡ Some c = present cs k c (next_is_there (slice_get cs k) n next) (rw e at same) in
    subst (λ o. IsNext o n) at next

-- a caller that is there stands one place before its number
pub place_of : (cs : List Caller) (caller : ℕ) → IsSome (caller_at cs caller) → IsSome (slice_get cs (caller - 1))
place_of cs zero some = absurd (true≢false (sym some))
place_of cs (suc k) some =
    let e : suc k - 1 ≡ k = omega arith in
    rw e some

-- the number behind the one that a caller keeps is its next one
pub next_after : (cs : List Caller) (caller n : ℕ) (line : List ℕ) (answer : Answer) → IsSome (caller_at cs caller)
    → IsNext (caller_at (keeping cs caller n line answer) caller) (n + 1)
next_after cs zero n line answer some = absurd (true≢false (sym some))
next_after cs (suc k) n line answer some = next_at cs k (slice_get cs k) refl some
  where
    set_get : (xs : List Caller) (j : ℕ) (d : Caller) → IsSome (slice_get xs j) → slice_get (slice_set xs j d) j ≡ Some d
    set_get [] j d some = absurd (true≢false (sym some))
    set_get (x ∷ xs) zero d some = refl
    set_get (x ∷ xs) (suc j) d some = set_get xs j d some

    next_at : (xs : List Caller) (j : ℕ) (o : Option Caller) → slice_get xs j ≡ o → IsSome o
        → IsNext (caller_at (keeping xs (suc j) n line answer) (suc j)) (n + 1)
    next_at xs j None is none = absurd (true≢false (sym none))
    next_at xs j (Some c) is there =
        rw is (rw (set_get xs j (with_kept c n line answer) (ap is_some is)) refl)

-- one more caller, at the end of both indexes
pub indexed_more : (keys names : List (List ℕ)) (cs : List Caller) (key name : List ℕ) (object : ℕ)
    → IsIndexed keys names cs → length cs < most_callers
    → IsIndexed (keys ++ key ∷ []) (names ++ name ∷ []) (cs ++ new_caller key name (Some object) ∷ [])
indexed_more keys names cs key name object is room =
    let c = new_caller key name (Some object) in
    let one_more : length (cs ++ c ∷ []) ≡ length cs + 1 = length-append cs (c ∷ []) in
    record {
      keys_are = ap (λ ks. ks ++ key ∷ []) is.keys_are ∙ sym (map-append (λ (d : Caller). d.key) cs (c ∷ []));
      names_are = ap (λ ns. ns ++ name ∷ []) is.names_are ∙ sym (map-append (λ (d : Caller). d.name) cs (c ∷ []));
      operator = operator_more cs c is.operator refl;
      numbers = all_more KeepsLast cs c is.numbers refl;
      few = omega (arith, room, one_more);
    }
