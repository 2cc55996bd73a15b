use Rattle.std.proofs.Common.{◌≡◌, ◌≢◌, ℕ, suc, ◌-◌, ◌<◌, List, [], ◌∷◌, ◌++◌, length, drop, get_or, Option, Some, None, option_map, Bool, true}
use Rattle.std.proofs.Common.{false, cond, refl, sym, ap, ◌∙◌, arith, ◌==◌, codes, append-nil}
use Rattle.std.specs.Prelude.{option_and_then}
use Rattle.std.proofs.lemmas.Bool.Decides.{nat_tests}
use Rattle.std.proofs.lemmas.Grind.{common_steps}
use Rattle.matchit.specs.Rows.{Rows, prepend, param_token, catch_all_token}
use Rattle.matchit.specs.Router.{RouteOf, rename, map_key}
use Rattle.matchit.specs.Level.{IsText}
use Rattle.matchit.specs.Seek.{own, step, or_else, seek, first, param_step, has_slash}
use Rattle.matchit.proofs.SeekLemmas.{own-append, own-prepend, step-append, step-hit, step-miss, seek-empty, seek-drop, param_step-empty}
use Rattle.matchit.proofs.SeekLemmas.{or_else-none, prepend-nil}
use Rattle.matchit.proofs.RenameLemmas.{seek-rename}
use Rattle.matchit.proofs.OnLiterals.{matchit_on_literals}
use Rattle.sheet_http.specs.Paths.{rows, after, whole, segment, routed, first_part}
use Rattle.sheet_http.specs.declared.routes.Kind.{Kind}
use Rattle.sheet_http.specs.declared.routes.Kind.TheVariants.{Do, See, Reads, Admit, Stats}

-- rows with no parameter at their start are read by their first byte
no_wild : (r : Rows) (y : ℕ) (p : List ℕ) → step param_token r ≡ [] → step catch_all_token r ≡ [] → first r (y ∷ p) ≡ first (step y r) p
unfolding seek
no_wild r y p w c = simp (w, c, param_step-empty (y ∷ p), seek-empty ((param_step {K = ℕ} [] (y ∷ p)).0 - 1) p, or_else-none)

-- a literal prefix
prefixed : (w : List ℕ) (t : Rows) (q : List ℕ) → IsText w → first (prepend w t) q ≡ option_and_then (first t) (after w q)
unfolding seek
prefixed [] t q h = ap (λ r. first r q) (prepend-nil t)
prefixed (x ∷ w) t [] h = own-prepend x w t
prefixed (x ∷ w) t (y ∷ p) h =
    let n1 : x ≢ param_token = λ e. omega (arith, h.0) in
    let n2 : x ≢ catch_all_token = λ e. omega (arith, h.0) in
    no_wild (prepend (x ∷ w) t) y p (step-miss param_token x w t n1) (step-miss catch_all_token x w t n2) ∙ by (x == y) refl (prefixed w t p h.1)
  where
    by : (v : Bool) → (x == y) ≡ v → first (prepend w t) p ≡ option_and_then (first t) (after w p)
        → first (step y (prepend (x ∷ w) t)) p ≡ option_and_then (first t) (cond v (after w p) None)
    by true e ih = let xy : x ≡ y = grind (arith, nat_tests) in rw (← xy, step-hit x w t) ih
    by false e ih = let n : x ≢ y = λ q. grind (arith, nat_tests) in rw (step-miss y x w t n) (seek-empty 0 p)

-- a literal prefix beside rows that begin with other bytes
branch : (x : ℕ) (w : List ℕ) (t r : Rows) (q : List ℕ) → x < 256 → IsText w → step param_token r ≡ [] → step catch_all_token r ≡ [] → step x r ≡ []
    → first (prepend (x ∷ w) t ++ r) q ≡ or_else (option_and_then (first t) (after (x ∷ w) q)) (first r q)
unfolding seek
branch x w t r [] small text a b c = own-append (prepend (x ∷ w) t) r ∙ ap (λ o. or_else o (own r)) (own-prepend x w t)
branch x w t r (y ∷ p) small text a b c =
    let n1 : x ≢ param_token = λ e. omega (arith, small) in
    let n2 : x ≢ catch_all_token = λ e. omega (arith, small) in
    no_wild (prepend (x ∷ w) t ++ r) y p
    (step-append param_token (prepend (x ∷ w) t) r ∙ simp (step-miss param_token x w t n1, a) refl)
    (step-append catch_all_token (prepend (x ∷ w) t) r ∙ simp (step-miss catch_all_token x w t n2, b) refl)
    ∙ ap (λ s. first s p) (step-append y (prepend (x ∷ w) t) r)
    ∙ by (x == y) refl
  where
    by : (v : Bool) → (x == y) ≡ v → first (step y (prepend (x ∷ w) t) ++ step y r) p ≡ or_else (option_and_then (first t) (cond v (after w p) None))
        (first r (y ∷ p))
    by true e =
        let xy : x ≡ y = grind (arith, nat_tests) in
        let hit : step y (prepend (x ∷ w) t) ≡ prepend w t = rw (← xy) (step-hit x w t) in
        let gone : step y r ≡ [] = rw (← xy) c in
        let none : first r (y ∷ p) ≡ None = no_wild r y p a b ∙ ap (λ s. first s p) gone ∙ seek-empty 0 p in
        ap (λ s. first (s ++ step y r) p) hit ∙ ap (λ s. first (prepend w t ++ s) p) gone ∙ ap (λ s. first s p) (append-nil (prepend w t))
        ∙ prefixed w t p text ∙ sym (or_else-none (option_and_then (first t) (after w p)))
        ∙ ap (λ o. or_else (option_and_then (first t) (after w p)) o) (sym none)
    by false e = let n : x ≢ y = λ q. grind (arith, nat_tests) in rw (step-miss y x w t n) (sym (no_wild r y p a b))

-- ---- the five routes

abbrev route_of : List ℕ → List ℕ → List (ℕ × ℕ) → Kind → RouteOf Kind
route_of pattern text names kind = record { pattern = pattern; text = text; names = names; value = kind }

abbrev route_at : ℕ → RouteOf Kind
route_at k =
    cond (k == 0) (route_of (codes "/v1/admit") (codes "/v1/admit") [] Admit)
    (cond (k == 1) (route_of (codes "/v1/do/" ++ 256 ∷ []) (codes "/v1/do/{name}") ((8, 12) ∷ []) Do)
    (cond (k == 2) (route_of (codes "/v1/reads/" ++ 256 ∷ []) (codes "/v1/reads/{name}") ((11, 15) ∷ []) Reads)
    (cond (k == 3) (route_of (codes "/v1/see/" ++ 256 ∷ []) (codes "/v1/see/{name}") ((9, 13) ∷ []) See)
    (route_of (codes "/v1/stats") (codes "/v1/stats") [] Stats))))

abbrev end_row : ℕ → Rows
end_row k = ([], k) ∷ []

abbrev name_row : ℕ → Rows
name_row k = (256 ∷ [], k) ∷ []

abbrev late : Rows
late = prepend (codes "ee/") (name_row 3) ++ prepend (codes "tats") (end_row 4)

abbrev tails : Rows
tails = prepend (codes "admit") (end_row 0) ++ (prepend (codes "do/") (name_row 1) ++ (prepend (codes "reads/") (name_row 2) ++ prepend (codes "s") late))

abbrev keyed : Rows
keyed = prepend (codes "/v1/") tails

rows_are : rows ≡ rename route_at keyed
unfolding matchit_on_literals
rows_are = refl

end_first : (k : ℕ) (q : List ℕ)
    → option_map (λ k. (route_at k).value) (first (end_row k) q) ≡ option_map (λ (p : Kind × List ℕ). p.0) (whole (route_at k).value q)
unfolding seek
end_first k [] = refl
end_first k (b ∷ q) = rw (no_wild (end_row k) b q refl refl, seek-empty 0 q) refl

eq-false : (a b : ℕ) → a ≢ b → (a == b) ≡ false
eq-false a b n = grind (arith, nat_tests)

past_end : (q : List ℕ) (b : ℕ) → drop (length (b ∷ q) - 1) q ≡ []
past_end q b = grind (arith, common_steps)

name_first : (k : ℕ) (q : List ℕ) → IsText q
    → option_map (λ k. (route_at k).value) (first (name_row k) q) ≡ option_map (λ (p : Kind × List ℕ). p.0) (segment (route_at k).value q)
unfolding matchit_on_literals
name_first k [] text = refl
name_first k (b ∷ q) text =
    let other : step b (name_row k) ≡ [] = rw (eq-false 256 b (λ e. omega (arith, text.0))) refl in
    rw (other, seek-empty 0 q) (by (has_slash (b ∷ q)) refl)
  where
    by : (v : Bool) → has_slash (b ∷ q) ≡ v
        → option_map (λ k. (route_at k).value)
        (or_else (seek ((param_step {K = ℕ} (([], k) ∷ []) (b ∷ q)).0 - 1) (param_step {K = ℕ} (([], k) ∷ []) (b ∷ q)).1 q) None)
        ≡ option_map (λ (p : Kind × List ℕ). p.0) (cond v None (Some ((route_at k).value, b ∷ q)))
    by true e = rw (e, seek-empty (0 - 1) q) refl
    by false e = rw (e, seek-drop (length (b ∷ q) - 1) (([], k) ∷ []) q, past_end q b) refl

after-append : (v w q : List ℕ) → after (v ++ w) q ≡ option_and_then (after w) (after v q)
after-append [] w q = refl
after-append (x ∷ v) w [] = refl
after-append (x ∷ v) w (b ∷ q) = by (x == b) (after-append v w q)
  where
    by : (c : Bool) → after (v ++ w) q ≡ option_and_then (after w) (after v q)
        → cond c (after (v ++ w) q) None ≡ option_and_then (after w) (cond c (after v q) None)
    by true ih = ih
    by false ih = refl

late_first : (q : List ℕ) → first late q ≡ or_else (option_and_then (first (name_row 3)) (after (codes "ee/") q))
    (option_and_then (first (end_row 4)) (after (codes "tats") q))
late_first q = branch 101 (codes "e/") (name_row 3) (prepend (codes "tats") (end_row 4)) q (omega arith) (omega arith, (omega arith, tt)) refl refl refl
    ∙ ap (λ o. or_else (option_and_then (first (name_row 3)) (after (codes "ee/") q)) o)
    (prefixed (codes "tats") (end_row 4) q (omega arith, (omega arith, (omega arith, (omega arith, tt)))))

abbrev last_two : Rows
last_two = prepend (codes "reads/") (name_row 2) ++ prepend (codes "s") late

tails_first : (q : List ℕ) → first tails q ≡
    or_else (option_and_then (first (end_row 0)) (after (codes "admit") q))
    (or_else (option_and_then (first (name_row 1)) (after (codes "do/") q))
    (or_else (option_and_then (first (name_row 2)) (after (codes "reads/") q))
    (option_and_then (first late) (after (codes "s") q))))
tails_first q =
    let s = prefixed (codes "s") late q (omega arith, tt) in
    let r = branch 114 (codes "eads/") (name_row 2) (prepend (codes "s") late) q (omega arith)
    (omega arith, (omega arith, (omega arith, (omega arith, (omega arith, tt))))) refl refl refl in
    let d = branch 100 (codes "o/") (name_row 1) last_two q (omega arith) (omega arith, (omega arith, tt)) refl refl refl in
    let a = branch 97 (codes "dmit") (end_row 0) (prepend (codes "do/") (name_row 1) ++ last_two) q (omega arith)
    (omega arith, (omega arith, (omega arith, (omega arith, tt)))) refl refl refl in
    a ∙ rw (d, r, s) refl

-- ---- the kind of a path

abbrev kind_of : Option ℕ → Option Kind
kind_of o = option_map (λ k. (route_at k).value) o

abbrev TextIn : Option (List ℕ) → Type 0
TextIn None = Unit {0}
TextIn (Some q) = IsText q

after-text : (w q : List ℕ) → IsText q → TextIn (after w q)
after-text [] q text = text
after-text (x ∷ w) [] text = tt
after-text (x ∷ w) (b ∷ q) text = by (x == b) (after-text w q text.1)
  where
    by : (c : Bool) → TextIn (after w q) → TextIn (cond c (after w q) None)
    by true t = t
    by false t = tt

kind_of-or : (a b : Option ℕ) → kind_of (or_else a b) ≡ or_else (kind_of a) (kind_of b)
kind_of-or None b = refl
kind_of-or (Some k) b = refl

first_part-or : (a b : Option (Kind × List ℕ)) → first_part (or_else a b) ≡ or_else (first_part a) (first_part b)
first_part-or None b = refl
first_part-or (Some k) b = refl

behind : (g : List ℕ → Option ℕ) (h : List ℕ → Option (Kind × List ℕ)) → ((q : List ℕ) → IsText q → kind_of (g q) ≡ first_part (h q))
    → (m : Option (List ℕ)) → TextIn m → kind_of (option_and_then g m) ≡ first_part (option_and_then h m)
behind g h same None text = refl
behind g h same (Some q) text = same q text

both : (a b : Option ℕ) (c d : Option (Kind × List ℕ)) → kind_of a ≡ first_part c → kind_of b ≡ first_part d → kind_of (or_else a b) ≡ first_part (or_else c d)
both a b c d p q = kind_of-or a b ∙ (λ i. or_else (p i) (q i)) ∙ sym (first_part-or c d)

late_kind : (q : List ℕ) → IsText q
    → kind_of (first late q) ≡ first_part
    (or_else (option_and_then (segment See) (after (codes "ee/") q)) (option_and_then (whole Stats) (after (codes "tats") q)))
late_kind q text =
    let see = behind (first (name_row 3)) (segment See) (name_first 3) (after (codes "ee/") q) (after-text (codes "ee/") q text) in
    let stats = behind (first (end_row 4)) (whole Stats) (λ r t. end_first 4 r) (after (codes "tats") q) (after-text (codes "tats") q text) in
    ap kind_of (late_first q) ∙ both _ _ _ _ see stats

abbrev routed_behind : List ℕ → Option (Kind × List ℕ)
routed_behind q =
    or_else (option_and_then (whole Admit) (after (codes "admit") q))
    (or_else (option_and_then (segment Do) (after (codes "do/") q))
    (or_else (option_and_then (segment Reads) (after (codes "reads/") q))
    (or_else (option_and_then (segment See) (after (codes "see/") q))
    (option_and_then (whole Stats) (after (codes "stats") q)))))

tails_kind : (q : List ℕ) → IsText q → kind_of (first tails q) ≡ first_part (routed_behind q)
tails_kind q text =
    let admit = behind (first (end_row 0)) (whole Admit) (λ r t. end_first 0 r) (after (codes "admit") q) (after-text (codes "admit") q text) in
    let acts = behind (first (name_row 1)) (segment Do) (name_first 1) (after (codes "do/") q) (after-text (codes "do/") q text) in
    let reads = behind (first (name_row 2)) (segment Reads) (name_first 2) (after (codes "reads/") q) (after-text (codes "reads/") q text) in
    let rest = behind (first late) (λ r. or_else (option_and_then (segment See) (after (codes "ee/") r))
    (option_and_then (whole Stats) (after (codes "tats") r)))
    late_kind (after (codes "s") q) (after-text (codes "s") q text) in
    rw (after-append (codes "s") (codes "ee/") q, after-append (codes "s") (codes "tats") q)
    (ap kind_of (tails_first q) ∙ both _ _ _ _ admit (both _ _ _ _ acts (both _ _ _ _ reads (rest ∙ split (after (codes "s") q) refl))))
  where
    split : (m : Option (List ℕ)) → after (codes "s") q ≡ m
        → first_part (option_and_then (λ r. or_else (option_and_then (segment See) (after (codes "ee/") r))
        (option_and_then (whole Stats) (after (codes "tats") r))) m)
        ≡ first_part (or_else (option_and_then (segment See) (option_and_then (after (codes "ee/")) m))
        (option_and_then (whole Stats) (option_and_then (after (codes "tats")) m)))
    split None e = refl
    split (Some r) e = refl

value-map_key : (o : Option ℕ) → option_map (λ r. r.value) (map_key route_at o) ≡ kind_of o
value-map_key None = refl
value-map_key (Some k) = refl

pub route_kind : (path : List ℕ) → IsText path → option_map (λ r. r.value) (first rows path) ≡ first_part (routed path)
route_kind path text =
    let v = codes "/v1/" in
    let far = behind (first tails) routed_behind tails_kind (after v path) (after-text v path text) in
    rw (
      after-append v (codes "admit") path,
      after-append v (codes "do/") path,
      after-append v (codes "reads/") path,
      after-append v
          (codes "see/") path,
      after-append v (codes "stats") path,
    )
    (ap (λ r. option_map (λ r. r.value) (first r path)) rows_are ∙ ap (λ o. option_map (λ r. r.value) o) (seek-rename route_at 0 keyed path)
    ∙ value-map_key (first keyed path)
    ∙ ap kind_of (prefixed v tails path (omega arith, (omega arith, (omega arith, (omega arith, tt))))) ∙ far ∙ split (after v path) refl)
  where
    split : (m : Option (List ℕ)) → after (codes "/v1/") path ≡ m
        → first_part (option_and_then routed_behind m)
        ≡ first_part (or_else (option_and_then (whole Admit) (option_and_then (after (codes "admit")) m))
        (or_else (option_and_then (segment Do) (option_and_then (after (codes "do/")) m))
        (or_else (option_and_then (segment Reads) (option_and_then (after (codes "reads/")) m))
        (or_else (option_and_then (segment See) (option_and_then (after (codes "see/")) m))
        (option_and_then (whole Stats) (option_and_then (after (codes "stats")) m))))))
    split None e = refl
    split (Some r) e = refl

pub bytes_text : (path : List ℕ) → ((i : ℕ) → get_or path i 0 < 256) → IsText path
bytes_text [] h = tt
bytes_text (b ∷ path) h = (h 0, bytes_text path (λ i. h (suc i)))
