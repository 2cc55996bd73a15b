-- What holds of callers when one of them keeps one more request, and when one more is admitted.
use Rattle.std.proofs.Common.{◌≡◌, refl, ap, sym, ◌∙◌, subst, ℕ, zero, suc, ◌+◌, ◌-◌, ◌<◌, ◌==◌, Bool, true, false, List, [], ◌∷◌, ◌++◌, length, map, arith}
use Rattle.std.proofs.Common.{Option, Some, None, is_some, position, slice_index_or, slice_set, length-append, cond}
use Rattle.std.specs.Prelude.{slice_get, bytes_eq, option_map, nat_le, if◌then◌else◌}
use Rattle.std.specs.List.{AllByRecursion, IsDistinct, position_from}
use Rattle.std.proofs.lemmas.Slice.Eq.{bytes_eq-Decides}
use Rattle.std.proofs.lemmas.Iterator.Adapters.{position_from-zero}
use Rattle.std.proofs.lemmas.Bool.{true≢false, eqb-true, leb-false}
use Rattle.std.proofs.lemmas.List.{map-append}
use Rattle.sheet_requests.specs.declared.reply.Answer.{Answer}
use Rattle.sheet_callers.specs.declared.admission.AdmitRefusal.TheVariants.{KeyTaken, NameTaken, TooMany}
use Rattle.sheet_callers.specs.Admitting.{refused, most_callers}
use Rattle.sheet_callers.specs.Callers.{Caller, KeptRequest, new_caller, operator, caller_at, with_key, with_name}
use Rattle.sheet_callers.specs.Judging.{Judged, Fresh, Kept, Differs, Past, Ahead, judged, judged_again, judged_behind, kept_at}
use Rattle.sheet_callers.specs.Keeping.{most_kept, with_kept, keeping, KeepsLast}
use Rattle.sheet_callers.specs.Sound.{AreCallers}
use Rattle.sheet_callers.proofs.CallerLemmas.{all_more, all_set, all_at, same_images, same_length, operator_more, operator_set, absent}
use Rattle.sheet_callers.proofs.IndexLemmas.{position-map}
use Rattle.sheet_callers.proofs.NumberLemmas.{keeps_last}

-- only the next number is fresh
past_isnt : (b : Bool) (last : ℕ) (j : Judged) → (if b then Past last else j) ≡ Fresh → j ≡ Fresh
past_isnt true last j e = cc
past_isnt false last j e = e

again_isnt : (b : Bool) (k : KeptRequest) → (if b then Kept k.answer else Differs) ≡ Fresh → ⊥
again_isnt true k e = cc
again_isnt false k e = cc

kept_isnt : (line : List ℕ) (o : Option KeptRequest) → judged_again line o ≡ Fresh → ⊥
kept_isnt line None e = cc
kept_isnt line (Some k) e = again_isnt (bytes_eq k.line line) k e

last_isnt : (b : Bool) (line : List ℕ) (o : Option KeptRequest) (j : Judged) → (if b then judged_again line o else j) ≡ Fresh → j ≡ Fresh
last_isnt true line o j e = absurd (kept_isnt line o e)
last_isnt false line o j e = e

next_is : (b : Bool) (last n : ℕ) → (n == last + 1) ≡ b → (if b then Fresh else Ahead last) ≡ Fresh → n ≡ last + 1
next_is true last n is e = eqb-true n (last + 1) is
next_is false last n is e = cc

pub fresh_is_next : (c : Caller) (n : ℕ) (line : List ℕ) → judged c n line ≡ Fresh → n ≡ c.last + 1
fresh_is_next c n line e =
    let old = past_isnt (nat_le n (c.last - most_kept)) c.last
    (if nat_le n c.last then judged_again line (kept_at c.kept n) else judged_behind c.last n) e in
    next_is (n == c.last + 1) c.last n refl (last_isnt (nat_le n c.last) line (kept_at c.kept n) (judged_behind c.last n) old)

-- a caller at a place that is read
read_is : (cs : List Caller) (j : ℕ) (c d : Caller) → slice_get cs j ≡ Some c → c ≡ slice_index_or cs j d
read_is [] j c d at = cc
read_is (x ∷ xs) zero c d at = let same : x ≡ c = cc in sym same
read_is (x ∷ xs) (suc j) c d at = read_is xs j c d at

-- one caller keeps one more request
module _ (cs : List Caller) (j : ℕ) (c : Caller) (n : ℕ) (line : List ℕ) (given : Answer) (at : slice_get cs j ≡ Some c) where
  abbrev d : Caller
  d = with_kept c n line given

  pub kept_is : keeping cs (suc j) n line given ≡ slice_set cs j d
  kept_is = rw at refl

  pub keeps_callers : n ≡ c.last + 1 → AreCallers cs → AreCallers (slice_set cs j d)
  keeps_callers next are =
      let same = read_is cs j c c at in
      let few = are.few in
      let long = same_length cs j d in
      record {
        operator = operator_set cs j c d same refl refl (ap is_some at) are.operator;
        keys = subst (IsDistinct bytes_eq) (sym (same_images (λ (e : Caller). e.key) cs j c d same refl)) are.keys;
        names = subst (IsDistinct bytes_eq) (sym (same_images (λ (e : Caller). e.name) cs j c d same refl)) are.names;
        numbers = all_set KeepsLast cs j d are.numbers (keeps_last c n line given (all_at KeepsLast cs j c are.numbers at) next);
        few = omega (arith, few, long);
      }

-- a text that differs from all of a list, behind it
flips : (a b : List ℕ) → bytes_eq a b ≡ false → bytes_eq b a ≡ false
flips a b differ = decided (bytes_eq b a) refl
  where
    decided : (x : Bool) → bytes_eq b a ≡ x → x ≡ false
    decided false e = refl
    decided true e =
        let same : b ≡ a = (bytes_eq-Decides b a).0 e in
        let no_less : bytes_eq a b ≡ true = (bytes_eq-Decides a b).1 (sym same) in
        absurd (true≢false (sym no_less ∙ differ))

all_behind : (P : List ℕ → Type 0) (xs : List (List ℕ)) (y : List ℕ) → AllByRecursion P xs → P y → AllByRecursion P (xs ++ y ∷ [])
all_behind P [] y all it = (it, tt)
all_behind P (x ∷ xs) y all it = (all.0, all_behind P xs y all.1 it)

none_first : (b : Bool) (i : ℕ) (o : Option ℕ) → cond b (Some i) o ≡ None → (b ≡ false) × (o ≡ None)
none_first true i o e = cc
none_first false i o e = (refl, e)

differs_behind : (xs : List (List ℕ)) (y : List ℕ) (i : ℕ) → IsDistinct bytes_eq xs → position_from (bytes_eq y) i xs ≡ None → IsDistinct bytes_eq (xs ++ y ∷ [])
unfolding IsDistinct
differs_behind [] y i apart away = (tt, tt)
differs_behind (x ∷ xs) y i apart away =
    let first = none_first (bytes_eq y x) i (position_from (bytes_eq y) (i + 1) xs) away in
    (all_behind (λ z. bytes_eq x z ≡ false) xs y apart.0 (flips y x first.0), differs_behind xs y (i + 1) apart.1 first.1)

one_more_differs : (f : Caller → List ℕ) (cs : List Caller) (c : Caller) → IsDistinct bytes_eq (map f cs)
    → option_map (λ k. k + 1) (position (λ (e : Caller). bytes_eq (f c) (f e)) cs) ≡ None → IsDistinct bytes_eq (map f (cs ++ c ∷ []))
one_more_differs f cs c apart away =
    let none : position (λ (e : Caller). bytes_eq (f c) (f e)) cs ≡ None = absent (position (λ (e : Caller). bytes_eq (f c) (f e)) cs) away in
    let gone : position (bytes_eq (f c)) (map f cs) ≡ None = position-map f (bytes_eq (f c)) cs ∙ none in
    subst (IsDistinct bytes_eq) (sym (map-append f cs (c ∷ [])))
    (differs_behind (map f cs) (f c) 0 apart (sym (position_from-zero (bytes_eq (f c)) (map f cs)) ∙ gone))

-- nobody has the key or the name of one who is admitted, and there is room
pub record IsAdmitted (cs : List Caller) (key name : List ℕ) : Type 0 where
  pub no_key : with_key cs key ≡ None
  pub no_name : with_name cs name ≡ None
  pub room : length cs < most_callers

pub admitted : (cs : List Caller) (key name : List ℕ) → refused cs key name ≡ None → IsAdmitted cs key name
admitted cs key name r =
    let k = at_key (with_key cs key) refl in
    let n = at_name k (with_name cs name) refl in
    record { no_key = k; no_name = n; room = leb-false most_callers (length cs) (at_count k n (nat_le most_callers (length cs)) refl) }
  where
    at_key : (o : Option ℕ) → with_key cs key ≡ o → with_key cs key ≡ None
    at_key None e = e
    at_key (Some c) e = let full : Some (KeyTaken c) ≡ None = rw e at r in cc

    at_name : with_key cs key ≡ None → (o : Option ℕ) → with_name cs name ≡ o → with_name cs name ≡ None
    at_name k None e = e
    at_name k (Some c) e = let full : Some (NameTaken c) ≡ None = rw (k, e) at r in cc

    at_count : with_key cs key ≡ None → with_name cs name ≡ None → (b : Bool) → nat_le most_callers (length cs) ≡ b → nat_le most_callers (length cs) ≡ false
    at_count k n false e = e
    at_count k n true e = let full : Some (TooMany most_callers) ≡ None = rw (k, n, e) at r in cc

pub admits_callers : (cs : List Caller) (key name : List ℕ) (o : ℕ) → IsAdmitted cs key name → AreCallers cs
    → AreCallers (cs ++ new_caller key name (Some o) ∷ [])
admits_callers cs key name o is are =
    let c = new_caller key name (Some o) in
    let long = length-append cs (c ∷ []) in
    let room = is.room in
    record {
      operator = operator_more cs c are.operator refl;
      keys = one_more_differs (λ (e : Caller). e.key) cs c are.keys is.no_key;
      names = one_more_differs (λ (e : Caller). e.name) cs c are.names is.no_name;
      numbers = all_more KeepsLast cs c are.numbers refl;
      few = omega (arith, long, room);
    }

-- the operator alone
pub operator_alone : (key : List ℕ) → AreCallers (operator key ∷ [])
unfolding IsDistinct
operator_alone key = record { operator = (refl, refl, tt); keys = (tt, tt); names = (tt, tt); numbers = (refl, tt); few = omega arith }

-- a caller stays where another one comes behind
pub still_at : (cs : List Caller) (k : ℕ) (c d : Caller) → caller_at cs k ≡ Some c → caller_at (cs ++ d ∷ []) k ≡ Some c
still_at cs zero c d at = cc
still_at cs (suc j) c d at = stays cs j at
  where
    stays : (xs : List Caller) (i : ℕ) → slice_get xs i ≡ Some c → slice_get (xs ++ d ∷ []) i ≡ Some c
    stays [] i e = cc
    stays (x ∷ xs) zero e = e
    stays (x ∷ xs) (suc i) e = stays xs i e
