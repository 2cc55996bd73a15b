-- Tests of texts that are borrowed.
use Rattle.std.proofs.Common.{Bor, ◌≡◌, ◌<◌, ◌+◌, ℕ, suc, Bool, true, false, List, [], ◌∷◌, ◌++◌, length, map, take, drop, Some, refl, sym, ap, arith, ◌∙◌, get_or, cond}
use Rattle.std.specs.Prelude.{◌||◌, not, position}
use Rattle.std.specs.Prelude.{bytes_eq, unwrap_or}
use Rattle.std.specs.List.{list_any, prefix_len}
use Rattle.sheet_csv.specs.Rows.{Parameter, bad_field, is_among, names_parameter, place_in}
use Rattle.std.proofs.Math.Seq.{drop-cons}
use Rattle.std.proofs.lemmas.List.{length-take, length-map, map-append, take_more}

-- a test of what is pointed to
pub any_mapped : {A B : Type 0} (p : B → Bool) (f : A → B) (xs : List A) → list_any (λ x. p (f x)) xs ≡ list_any p (map f xs)
any_mapped p f [] = refl
any_mapped p f (x ∷ xs) = ap (λ b. p (f x) || b) (any_mapped p f xs)

prefix_mapped : {A B : Type 0} (p : B → Bool) (f : A → B) (xs : List A) → prefix_len (λ x. p (f x)) xs ≡ prefix_len p (map f xs)
prefix_mapped p f [] = refl
prefix_mapped p f (x ∷ xs) = ap (λ n. cond (p (f x)) (1 + n) 0) (prefix_mapped p f xs)

-- the first that passes such a test
pub position_mapped : {A B : Type 0} (p : B → Bool) (f : A → B) (xs : List A) → position (λ x. p (f x)) xs ≡ position p (map f xs)
position_mapped p f xs = rw (prefix_mapped (λ b. not (p b)) f xs, length-map xs f) refl

-- one text more, of those that are pointed to
pub pushed : (xs : List (Bor (List ℕ))) (x : Bor (List ℕ)) (ys : List (List ℕ)) (k : ℕ) → k < length ys → map (λ (t : Bor (List ℕ)). t.now) xs ≡ take k ys → get_or ys k [] ≡ x.now
    → map (λ (t : Bor (List ℕ)). t.now) (xs ++ x ∷ []) ≡ take (k + 1) ys
pushed xs x ys k within before here =
    map-append (λ (t : Bor (List ℕ)). t.now) xs (x ∷ []) ∙ ap (λ (l : List (List ℕ)). l ++ x.now ∷ []) before ∙ ap (λ (y : List ℕ). take k ys ++ y ∷ []) (sym here) ∙ sym (take_more ys k [] within)

-- the place of a name among texts that are pointed to
pub place_mapped : (name : List ℕ) (header : List (Bor (List ℕ)))
    → unwrap_or (position (λ (f : Bor (List ℕ)). bytes_eq f.now name) header) (length header) ≡ place_in (map (λ (t : Bor (List ℕ)). t.now) header) name
place_mapped name header =
    let n : length (map (λ (t : Bor (List ℕ)). t.now) header) ≡ length header = length-map header (λ (t : Bor (List ℕ)). t.now) in
    let p = position_mapped (λ f. bytes_eq f name) (λ (t : Bor (List ℕ)). t.now) header in
    ap (λ o. unwrap_or o (length header)) p ∙ ap (unwrap_or (position (λ f. bytes_eq f name) (map (λ (t : Bor (List ℕ)). t.now) header))) (sym n)

-- the texts that are pointed to
abbrev pub texts : List (Bor (List ℕ)) → List (List ℕ)
texts xs = map (λ (t : Bor (List ℕ)). t.now) xs

-- the header behind its first fields
header_at : (ps : List Parameter) (header : List (Bor (List ℕ))) (k : ℕ) (d : Bor (List ℕ)) → k < length header
    → bad_field ps (texts (take k header)) (texts (drop k header))
    ≡ bad_field ps (texts (take k header)) ((get_or header k d).now ∷ texts (drop (k + 1) header))
header_at ps header k d within = ap (λ l. bad_field ps (texts (take k header)) (texts l)) (drop-cons header k d within ∙ ap (λ n. get_or header k d ∷ drop n header) next)
  where
    next : suc k ≡ k + 1
    next = omega arith

-- one field more, which is good
pub bad_later : (ps : List Parameter) (header earlier : List (Bor (List ℕ))) (k : ℕ) (d : Bor (List ℕ)) → k < length header → earlier ≡ take k header
    → names_parameter (get_or header k d).now ps ≡ true → is_among (get_or header k d).now (texts earlier) ≡ false
    → bad_field ps (texts (take (k + 1) header)) (texts (drop (k + 1) header)) ≡ bad_field ps (texts (take k header)) (texts (drop k header))
bad_later ps header earlier k d within front names among =
    let before : is_among (get_or header k d).now (texts (take k header)) ≡ false = ap (λ l. is_among (get_or header k d).now (texts l)) (sym front) ∙ among in
    let grown : texts (take (k + 1) header) ≡ texts (take k header) ++ (get_or header k d).now ∷ [] =
    ap texts (take_more header k d within) ∙ map-append (λ (t : Bor (List ℕ)). t.now) (take k header) (get_or header k d ∷ []) in
    ap (λ l. bad_field ps l (texts (drop (k + 1) header))) grown ∙ sym (header_at ps header k d within ∙ rw (names, before) refl)

count_before : (header : List (Bor (List ℕ))) (k : ℕ) → k < length header → length (texts (take k header)) + 1 ≡ k + 1
count_before header k within =
    let n : length (texts (take k header)) ≡ length (take k header) = length-map (take k header) (λ (t : Bor (List ℕ)). t.now) in
    let m = length-take k header in
    omega arith

-- a field that names no parameter
pub bad_name : (ps : List Parameter) (header : List (Bor (List ℕ))) (k : ℕ) (d : Bor (List ℕ)) → k < length header
    → names_parameter (get_or header k d).now ps ≡ false
    → bad_field ps (texts (take k header)) (texts (drop k header)) ≡ Some (k + 1)
bad_name ps header k d within names = header_at ps header k d within ∙ rw names (ap Some (count_before header k within))

-- one that an earlier field names
pub bad_again : (ps : List Parameter) (header earlier : List (Bor (List ℕ))) (k : ℕ) (d : Bor (List ℕ)) → k < length header → earlier ≡ take k header
    → names_parameter (get_or header k d).now ps ≡ true → is_among (get_or header k d).now (texts earlier) ≡ true
    → bad_field ps (texts (take k header)) (texts (drop k header)) ≡ Some (k + 1)
bad_again ps header earlier k d within front names among =
    let before : is_among (get_or header k d).now (texts (take k header)) ≡ true = ap (λ l. is_among (get_or header k d).now (texts l)) (sym front) ∙ among in
    header_at ps header k d within ∙ rw (names, before) (ap Some (count_before header k within))
