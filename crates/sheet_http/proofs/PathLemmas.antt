-- Where the name of a route stands in its path.
use Rattle.std.proofs.Common.{◌≡◌, ℕ, ◌≤◌, List, [], ◌∷◌, length, drop, Option, Some, None, Bool, true, false, cond, refl, sym, ap, ◌∙◌, subst, arith}
use Rattle.std.proofs.Common.{◌==◌, codes, is_some}
use Rattle.std.specs.Prelude.{option_and_then, unwrap_or}
use Rattle.std.proofs.lemmas.Bool.{true≢false}
use Rattle.matchit.specs.Seek.{has_slash, or_else}
use Rattle.sheet_http.specs.declared.routes.Kind.{Kind}
use Rattle.sheet_http.specs.declared.routes.Kind.TheVariants.{Do, See, Reads, Admit, Stats}
use Rattle.sheet_http.specs.Paths.{after, whole, segment, routed, first_part, prefix_length}

abbrev Behind : List ℕ → List ℕ → Option (List ℕ) → Type 0
Behind prefix path None = Unit {0}
Behind prefix path (Some q) = (q ≡ drop (length prefix) path) × (length prefix ≤ length path)

grows : (x b : ℕ) (prefix path : List ℕ) (o : Option (List ℕ)) → Behind prefix path o → Behind (x ∷ prefix) (b ∷ path) o
grows x b prefix path None t = tt
grows x b prefix path (Some q) t = (t.0, omega (arith, t.1))

behind : (prefix path : List ℕ) → Behind prefix path (after prefix path)
behind [] path = (refl, omega arith)
behind (x ∷ prefix) [] = tt
behind (x ∷ prefix) (b ∷ path) = by (x == b) (grows x b prefix path (after prefix path) (behind prefix path))
  where
    by : (c : Bool) → Behind (x ∷ prefix) (b ∷ path) (after prefix path) → Behind (x ∷ prefix) (b ∷ path) (cond c (after prefix path) None)
    by true t = t
    by false t = tt

abbrev Named : List ℕ → Option (Kind × List ℕ) → Type 0
Named path None = Unit {0}
Named path (Some x) = (x.1 ≡ drop (prefix_length x.0) path) × (prefix_length x.0 ≤ length path)

ended : (k : Kind) (prefix path : List ℕ) (o : Option (List ℕ)) → prefix_length k ≡ length prefix → Behind prefix path o
    → Named path (option_and_then (whole k) o)
ended k prefix path None long t = tt
ended k prefix path (Some []) long t = (t.0 ∙ ap (λ n. drop n path) (sym long), omega (arith, t.1, long))
ended k prefix path (Some (b ∷ q)) long t = tt

parted : (k : Kind) (prefix path : List ℕ) (o : Option (List ℕ)) → prefix_length k ≡ length prefix → Behind prefix path o
    → Named path (option_and_then (segment k) o)
parted k prefix path None long t = tt
parted k prefix path (Some []) long t = tt
parted k prefix path (Some (b ∷ q)) long t = by (has_slash (b ∷ q))
  where
    by : (c : Bool) → Named path (cond c None (Some (k, b ∷ q)))
    by true = tt
    by false = (t.0 ∙ ap (λ n. drop n path) (sym long), omega (arith, t.1, long))

either : (path : List ℕ) (a b : Option (Kind × List ℕ)) → Named path a → Named path b → Named path (or_else a b)
either path None b x y = y
either path (Some k) b x y = x

named : (path : List ℕ) → Named path (routed path)
named path =
    either path _ _ (ended Admit (codes "/v1/admit") path _ refl (behind (codes "/v1/admit") path))
    (either path _ _ (parted Do (codes "/v1/do/") path _ refl (behind (codes "/v1/do/") path))
    (either path _ _ (parted Reads (codes "/v1/reads/") path _ refl (behind (codes "/v1/reads/") path))
    (either path _ _ (parted See (codes "/v1/see/") path _ refl (behind (codes "/v1/see/") path))
    (ended Stats (codes "/v1/stats") path _ refl (behind (codes "/v1/stats") path)))))

found : (path : List ℕ) (o : Option (Kind × List ℕ)) (k : Kind) → Named path o → first_part o ≡ Some k
    → (prefix_length k ≤ length path) × (o ≡ Some (k, drop (prefix_length k) path))
found path None k t e = absurd (true≢false (sym (ap is_some e)))
found path (Some x) k t e =
    let same : x.0 ≡ k = ap (λ o. unwrap_or o k) e in
    (subst (λ j. prefix_length j ≤ length path) same t.1, λ i. Some (same i, (t.0 ∙ ap (λ j. drop (prefix_length j) path) same) i))

pub name_place : (path : List ℕ) (k : Kind) → first_part (routed path) ≡ Some k
    → (prefix_length k ≤ length path) × (routed path ≡ Some (k, drop (prefix_length k) path))
name_place path k e = found path (routed path) k (named path) e
