-- Which records stand in a journal's bytes.
use Rattle.std.proofs.Common.{◌≡◌, ◌≢◌, refl, sym, ap, ◌∙◌, ℕ, ◌≤◌, List, [], ◌∷◌, ◌++◌, length, get_or, take, drop, arith, append_assoc, length-append}
use Rattle.std.specs.Int.{from_be_bytes, w32}
use Rattle.std.proofs.lemmas.Nat.{from_be_bytes-to_be_bytes_4}
use Rattle.std.proofs.lemmas.List.{take_at, drop_at}
use Rattle.sheet_journal.specs.Layout.{Entry, limit, body, layout, AllFit, Reaches, Ends, IsImage, IsBegun}

-- two records in front of the same bytes are one
same_front : (x y : Entry) (r s : List ℕ) → length x.payload ≤ limit → length y.payload ≤ limit → (1 ∷ body x) ++ r ≡ (1 ∷ body y) ++ s → (x ≡ y) × (r ≡ s)
same_front x y r s fit_x fit_y e =
    let long : length x.payload ≡ length y.payload =
    sym (from_be_bytes-to_be_bytes_4 (length x.payload) (omega (arith, fit_x)))
    ∙ ap (λ (l : List ℕ). from_be_bytes w32 (get_or l 1 0 ∷ get_or l 2 0 ∷ get_or l 3 0 ∷ get_or l 4 0 ∷ [])) e
    ∙ from_be_bytes-to_be_bytes_4 (length y.payload) (omega (arith, fit_y)) in
    let kind : x.kind ≡ y.kind = ap (λ (l : List ℕ). get_or l 5 0) e in
    let rest : x.payload ++ r ≡ y.payload ++ s = ap (λ (l : List ℕ). drop 6 l) e in
    let payload : x.payload ≡ y.payload = sym (take_at x.payload r (length x.payload) refl) ∙ ap (λ (l : List ℕ). take (length x.payload) l) rest
    ∙ take_at y.payload s (length x.payload) (sym long) in (
      ap (λ k. record { kind = k; payload = x.payload }) kind ∙ ap (λ (p : List ℕ). record { kind = y.kind; payload = p }) payload,
      sym (drop_at x.payload r (length x.payload) refl) ∙ ap (λ (l : List ℕ). drop (length x.payload) l) rest
          ∙ drop_at y.payload s (length x.payload) (sym long),
    )

regroup : (x : Entry) (xs : List Entry) (l : List ℕ) → layout (x ∷ xs) ++ l ≡ (1 ∷ body x) ++ (layout xs ++ l)
regroup x xs l = append_assoc (1 ∷ body x) (layout xs) l

-- records in front of a gate are the first of those that a closed gate ends
first_records : (xs ys : List Entry) (g h : ℕ) (r s : List ℕ) → h ≢ 1 → AllFit xs → AllFit ys → layout xs ++ g ∷ r ≡ layout ys ++ h ∷ s
    → (rest : List Entry) × (ys ≡ xs ++ rest)
first_records [] ys g h r s shut fit_x fit_y e = (ys, refl)
first_records (x ∷ xs) [] g h r s shut fit_x fit_y e = absurd (shut (ap (λ (l : List ℕ). get_or l 0 0) (sym e ∙ regroup x xs (g ∷ r))))
first_records (x ∷ xs) (y ∷ ys) g h r s shut fit_x fit_y e =
    let both = same_front x y (layout xs ++ g ∷ r) (layout ys ++ h ∷ s) fit_x.0 fit_y.0 (sym (regroup x xs (g ∷ r)) ∙ e ∙ regroup y ys (h ∷ s)) in
    let more = first_records xs ys g h r s shut fit_x.1 fit_y.1 both.1 in
    (more.0, ap (λ z. z ∷ ys) (sym both.0) ∙ ap (λ (zs : List Entry). x ∷ zs) more.1)

behind_magic : (bytes : List ℕ) (entries : List Entry) (place : ℕ) (r : Reaches bytes entries place) → drop 8 bytes ≡ layout entries ++ r.gate ∷ r.rest
behind_magic bytes entries place r = ap (λ (l : List ℕ). drop 8 l) r.is

-- records that stand in front of a place are the first of a journal's
pub records_begin : (bytes : List ℕ) (front all : List Entry) (place : ℕ) → Reaches bytes front place → IsImage bytes all
    → (rest : List Entry) × (all ≡ front ++ rest)
records_begin bytes front all place r image =
    let s = image.1.reaches in
    first_records front all r.gate s.gate r.rest s.rest image.1.closed r.fit s.fit (sym (behind_magic bytes front place r) ∙ behind_magic bytes all image.0 s)

-- the bytes of a journal of some records
pub is_begun : (bytes : List ℕ) (first : Entry) (more : List Entry) → IsImage bytes (first ∷ more) → IsBegun bytes
is_begun bytes first more image =
    let r = image.1.reaches in
    record {
      long = omega (arith, ap length r.is, length-append (body first ++ layout more) (r.gate ∷ r.rest));
      front = ap (λ (l : List ℕ). take 9 l) r.is;
    }

-- where the first gate is open, the journal isn't one of no records
pub not_empty : (bytes : List ℕ) (place : ℕ) → IsBegun bytes → Ends bytes [] place → ⊥
not_empty bytes place begun ends =
    ends.closed (ap (λ (l : List ℕ). get_or l 8 0) (sym (ap (λ (l : List ℕ). take 9 l) ends.reaches.is) ∙ begun.front))
