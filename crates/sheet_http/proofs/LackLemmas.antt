-- How many bytes are lacking.
use Rattle.std.proofs.Common.{◌≡◌, ℕ, ◌-◌, ◌<◌, List, [], ◌∷◌, ◌++◌, length, refl, sym, ap, ◌∙◌, subst, arith, Ok, length-append, append-nil}
use Rattle.httparse.specs.Grammar.{RequestHead}
use Rattle.sheet_http.specs.Heads.{Asked, judged_head}
use Rattle.sheet_http.specs.Stream.{Heads, HasNoStep}
use Rattle.sheet_http.specs.Lacking.{Lacks, head, body, refused}
use Rattle.sheet_http.proofs.StreamLemmas.{heads-append, one_head}
use Rattle.sheet_http.proofs.FeedLemmas.{asked_stays, none_yet, asks_one}

-- a head asks for one thing
one_length : (b : List ℕ) (h k : RequestHead) (behind after : List ℕ) (a c : Asked) → Heads b h behind → Heads b k after → judged_head h ≡ Ok a
    → judged_head k ≡ Ok c → a.length - length behind ≡ c.length - length after
one_length b h k behind after a c x y asks wants =
    let same = one_head b h k behind after x y in
    let size : a.length ≡ c.length = ap (λ (t : Asked). t.length) (asks_one h a c asks (ap judged_head same.0 ∙ wants)) in
    λ i. size i - length (same.1 i)

pub one : (b : List ℕ) (n m : ℕ) → Lacks b n → Lacks b m → n ≡ m
one b _ _ (head none headless) (head _ _) = refl
one b _ _ (head none headless) (body h behind a x is) = absurd (headless h behind x)
one b _ _ (head none headless) (refused e c x) = absurd (none.none_refused e c x)
one b _ _ (body h behind a x is) (head none headless) = absurd (headless h behind x)
one b _ _ (body h behind a x is) (body k after c y also) = one_length b h k behind after a c x y is also
one b _ _ (body h behind a x is) (refused e c y) = absurd (asked_stays b h behind a x is e c y)
one b _ _ (refused e c x) (head none headless) = absurd (none.none_refused e c x)
one b _ _ (refused e c x) (body h behind a y is) = absurd (asked_stays b h behind a y is e c x)
one b _ _ (refused e c x) (refused _ _ _) = refl

pub waits : (b more : List ℕ) (n : ℕ) → Lacks b n → length more < n → HasNoStep (b ++ more)
waits b [] _ (head none headless) less = subst HasNoStep (sym (append-nil b)) none
waits b (y ∷ ys) _ (head none headless) less = absurd (omega (arith, less))
waits b more _ (body h behind a x is) less =
    none_yet (b ++ more) h (behind ++ more) a (heads-append b more h behind x) is (omega (arith, less, length-append behind more))
waits b more _ (refused e c x) less = absurd (omega (arith, less))
