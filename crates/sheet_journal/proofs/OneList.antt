-- That bytes stand for one list of records at most.
use Rattle.std.proofs.Common.{◌≡◌, ◌≢◌, ℕ, ◌≤◌, List, [], ◌∷◌, ◌++◌, length, get_or, take, drop, Option, Some, None, refl, sym, ◌∙◌, ap, arith, append_assoc}
use Rattle.std.specs.Int.{from_be_bytes, w32}
use Rattle.std.proofs.lemmas.Nat.{from_be_bytes-to_be_bytes_4}
use Rattle.std.proofs.lemmas.List.{take_at, drop_at}
use Rattle.sheet_outside.specs.Crash.{File, Leaves, at_rest}
use Rattle.sheet_outside.specs.Moments.{Contents, files_at, MayHaveLeft}
use Rattle.sheet_journal.specs.Layout.{Entry, limit, body, layout, AllFit, Reaches, IsImage}
use Rattle.sheet_journal.specs.Journal.{Whatever}
use Rattle.sheet_journal.specs.JournalCalls.{Keeps, IsCutShort}
use Rattle.sheet_journal.proofs.Deciding.{gate_at}

-- two records in front of the same bytes are one
same_front : (x y : Entry) (r s : List ℕ) → length x.payload ≤ limit → length y.payload ≤ limit → (1 ∷ body x) ++ r ≡ (1 ∷ body y) ++ s → (x ≡ y) × (r ≡ s)
same_front x y r s fit_x fit_y e =
    let long : length x.payload ≡ length y.payload =
    sym (from_be_bytes-to_be_bytes_4 (length x.payload) (omega (arith, fit_x)))
    ∙ ap (λ (l : List ℕ). from_be_bytes w32 (get_or l 1 0 ∷ get_or l 2 0 ∷ get_or l 3 0 ∷ get_or l 4 0 ∷ [])) e
    ∙ from_be_bytes-to_be_bytes_4 (length y.payload) (omega (arith, fit_y)) in
    let kind : x.kind ≡ y.kind = ap (λ (l : List ℕ). get_or l 5 0) e in
    let rest : x.payload ++ r ≡ y.payload ++ s = ap (λ (l : List ℕ). drop 6 l) e in
    let payload : x.payload ≡ y.payload = sym (take_at x.payload r (length x.payload) refl) ∙ ap (λ (l : List ℕ). take (length x.payload) l) rest
    ∙ take_at y.payload s (length x.payload) (sym long) in (
      ap (λ k. record { kind = k; payload = x.payload }) kind ∙ ap (λ (p : List ℕ). record { kind = y.kind; payload = p }) payload,
      sym (drop_at x.payload r (length x.payload) refl) ∙ ap (λ (l : List ℕ). drop (length x.payload) l) rest
          ∙ drop_at y.payload s (length x.payload) (sym long),
    )

abbrev first : List ℕ → ℕ
first l = get_or l 0 0

regroup : (x : Entry) (xs : List Entry) (l : List ℕ) → layout (x ∷ xs) ++ l ≡ (1 ∷ body x) ++ (layout xs ++ l)
regroup x xs l = append_assoc (1 ∷ body x) (layout xs) l

same_records : (xs ys : List Entry) (g h : ℕ) (r s : List ℕ) → g ≢ 1 → h ≢ 1 → AllFit xs → AllFit ys → layout xs ++ g ∷ r ≡ layout ys ++ h ∷ s → xs ≡ ys
same_records [] [] g h r s g_shut h_shut fit_x fit_y e = refl
same_records [] (y ∷ ys) g h r s g_shut h_shut fit_x fit_y e = absurd (g_shut (ap first (e ∙ regroup y ys (h ∷ s))))
same_records (x ∷ xs) [] g h r s g_shut h_shut fit_x fit_y e = absurd (h_shut (ap first (sym e ∙ regroup x xs (g ∷ r))))
same_records (x ∷ xs) (y ∷ ys) g h r s g_shut h_shut fit_x fit_y e =
    let both = same_front x y (layout xs ++ g ∷ r) (layout ys ++ h ∷ s) fit_x.0 fit_y.0 (sym (regroup x xs (g ∷ r)) ∙ e ∙ regroup y ys (h ∷ s)) in
    ap (λ z. z ∷ xs) both.0 ∙ ap (λ (zs : List Entry). y ∷ zs) (same_records xs ys g h r s g_shut h_shut fit_x.1 fit_y.1 both.1)

-- what stands behind the magic
behind_magic : (bytes : List ℕ) (entries : List Entry) (place : ℕ) (r : Reaches bytes entries place) → drop 8 bytes ≡ layout entries ++ r.gate ∷ r.rest
behind_magic bytes entries place r = ap (λ (l : List ℕ). drop 8 l) r.is

pub one_list : (bytes : List ℕ) (xs ys : List Entry) → IsImage bytes xs → IsImage bytes ys → xs ≡ ys
one_list bytes xs ys a b =
    let r = a.1.reaches in
    let s = b.1.reaches in
    same_records xs ys r.gate s.gate r.rest s.rest a.1.closed b.1.closed r.fit s.fit (sym (behind_magic bytes xs a.0 r) ∙ behind_magic bytes ys b.0 s)

-- a record, and the gate behind it
record IsFollowed (l : List ℕ) (entry : Entry) : Type 0 where
  gate : ℕ
  rest : List ℕ
  is : l ≡ (1 ∷ body entry) ++ gate ∷ rest
  fits : length entry.payload ≤ limit

followed : (entry : Entry) (more : List Entry) (h : ℕ) (s l : List ℕ) → length entry.payload ≤ limit → l ≡ (1 ∷ body entry) ++ (layout more ++ h ∷ s) →
    IsFollowed l entry
followed entry [] h s l fits is = record { gate = h; rest = s; is = is; fits = fits }
followed entry (m ∷ more) h s l fits is =
    record { gate = 1; rest = body m ++ (layout more ++ h ∷ s); is = is ∙ ap (λ (t : List ℕ). (1 ∷ body entry) ++ t) (regroup m more (h ∷ s)); fits = fits }

-- where the gate behind some records is open, a whole record stands there
next_whole : (xs ys : List Entry) (g h : ℕ) (r s : List ℕ) → g ≡ 1 → h ≢ 1 → AllFit xs → AllFit ys → layout xs ++ g ∷ r ≡ layout ys ++ h ∷ s →
    (entry : Entry) × IsFollowed (g ∷ r) entry
next_whole [] [] g h r s opened shut fit_x fit_y e = absurd (shut (sym (ap first e) ∙ opened))
next_whole [] (y ∷ ys) g h r s opened shut fit_x fit_y e = (y, followed y ys h s (g ∷ r) fit_y.0 (e ∙ regroup y ys (h ∷ s)))
next_whole (x ∷ xs) [] g h r s opened shut fit_x fit_y e = absurd (shut (ap first (sym e ∙ regroup x xs (g ∷ r))))
next_whole (x ∷ xs) (y ∷ ys) g h r s opened shut fit_x fit_y e =
    next_whole xs ys g h r s opened shut fit_x.1 fit_y.1
    (same_front x y (layout xs ++ g ∷ r) (layout ys ++ h ∷ s) fit_x.0 fit_y.0 (sym (regroup x xs (g ∷ r)) ∙ e ∙ regroup y ys (h ∷ s))).1

some_same : (a b : List ℕ) → Some (at_rest a) ≡ Some (at_rest b) → a ≡ b
some_same a b e = ap (λ (f : Option File). seen_of f) e
  where
    seen_of : Option File → List ℕ
    seen_of None = []
    seen_of (Some f) = f.seen

pub not_cut_short : (bytes : List ℕ) (front all : List Entry) (place : ℕ) → Reaches bytes front place → IsCutShort (Some (at_rest bytes)) place →
    IsImage bytes all → ⊥
not_cut_short bytes front all place r cut image =
    let s = image.1.reaches in
    let here = gate_at front place bytes r in
    let same : bytes ≡ cut.bytes = some_same bytes cut.bytes cut.is in
    let opened : r.gate ≡ 1 = ap first (sym (ap (λ (l : List ℕ). take 1 l) here) ∙ ap (λ (l : List ℕ). take 1 (drop place l)) same ∙ cut.opened) in
    let n = next_whole front all r.gate s.gate r.rest s.rest opened image.1.closed r.fit s.fit (sym (behind_magic bytes front place r)
    ∙ behind_magic bytes all image.0 s) in
    cut.none n.0 (record { gate = n.1.gate; rest = n.1.rest; is = ap (λ (l : List ℕ). drop place l) (sym same) ∙ here ∙ n.1.is; fits = n.1.fits })

-- what a crash leaves of a file of which whatever it may leave has Q
left_of : (Q : Option (List ℕ) → Type 0) (file : Option File) (left : Option (List ℕ)) → Whatever Q file → Leaves file left → Q left
left_of Q None None w l = w
left_of Q None (Some bytes) w l = absurd l
left_of Q (Some file) left w l = w.1 left l

-- and at some moment of a call
pub left_throughout : (Q : Option (List ℕ) → Type 0) (of : List ℕ) (x y : Contents) (left : Option (List ℕ)) → Keeps of (Whatever Q) x y →
    MayHaveLeft y (length x.past) of left → Q left
left_throughout Q of x y left k m = left_of Q (files_at y m.0 of) left (k.moments.each m.0 m.1).0 m.2
