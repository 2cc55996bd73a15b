-- What is recovered from records.
use Rattle.std.proofs.Common.{◌≡◌, inl, inr, refl, sym, ap, ◌∙◌, subst, ℕ, List, [], ◌∷◌, ◌++◌, length, get_or, take, drop, Result, Ok, Err}
use Rattle.std.proofs.lemmas.List.{take_at, drop_at}
use Rattle.sheet_define_reading.specs.Laws.{OneDefinition}
use Rattle.sheet_books.specs.declared.book.Contents.{Contents}
use Rattle.sheet_journal.specs.Layout.{Entry}
use Rattle.sheet_machine_records.specs.Records.{first_payload}
use Rattle.sheet_machine_laws.specs.Leading.{Leads, MayStand}
use Rattle.sheet_machine_laws.specs.Machine.{Holding, start}
use Rattle.sheet_machine_laws.specs.Step.{Event, Took, Doubted, taken}
use Rattle.sheet_machine_laws.proofs.Leading.{one_after}
use Rattle.sheet_types.specs.Elaboration.{elaborated}
use Rattle.sheet_types_formulas.specs.declared.refusal.TypeRefusal.{TypeRefusal}
use Rattle.sheet_machine.specs.Recovering.{entries_of, Begins, GoesOn, GoOn, Recovers, AreRecovered}
use Rattle.sheet_machine.specs.StartsFrom.{StartsFrom}

-- ---- further records

pub go_on_both : (h m l : Holding) (xs ys : List Entry) → GoOn h xs m → GoOn m ys l → GoOn h (xs ++ ys) l
go_on_both h m l [] ys x y = subst (λ k. GoOn k ys l) x y
go_on_both h m l (e ∷ xs) ys x y = (x.0, x.1, go_on_both x.0 m l xs ys x.2 y)

go_on_split : (h l : Holding) (xs ys : List Entry) → GoOn h (xs ++ ys) l → (m : Holding) × GoOn h xs m × GoOn m ys l
go_on_split h l [] ys x = (h, refl, x)
go_on_split h l (e ∷ xs) ys x = let r = go_on_split x.0 l xs ys x.2 in (r.0, (x.0, x.1, r.1), r.2)

go_on_one : (h a b : Holding) (es : List Entry) → GoOn h es a → GoOn h es b → a ≡ b
go_on_one h a b [] x y = x ∙ sym y
go_on_one h a b (e ∷ es) x y =
    let same : x.0 ≡ y.0 = one_after h e.payload x.0 y.0 x.1.accepts y.1.accepts in
    go_on_one y.0 a b es (subst (λ k. GoOn k es a) same x.2) y.2

-- ---- the first record

pub same_first : (k d j e : List ℕ) → first_payload k d ≡ first_payload j e → (k ≡ j) × (d ≡ e)
same_first k d j e is =
    let long : length k ≡ length j = ap (λ (l : List ℕ). get_or l 0 0) is in
    let rest : k ++ d ≡ j ++ e = ap (λ (l : List ℕ). drop 1 l) is in (
      sym (take_at k d (length k) refl) ∙ ap (λ (l : List ℕ). take (length k) l) rest ∙ take_at j e (length k) (sym long),
      sym (drop_at k d (length k) refl) ∙ ap (λ (l : List ℕ). drop (length k) l) rest ∙ drop_at j e (length k) (sym long),
    )

book_or : Contents → Result Contents TypeRefusal → Contents
book_or other (Ok b) = b
book_or other (Err e) = other

starts_one : OneDefinition → (text key : List ℕ) (a b : Holding) → StartsFrom text key a → StartsFrom text key b → a ≡ b
unfolding book_or
starts_one law text key a b x y =
    let same = law text x.definition y.definition x.stands y.stands in
    x.is ∙ ap (λ c. start c key) (ap (book_or x.book) (sym x.elaborates ∙ ap elaborated same ∙ y.elaborates)) ∙ sym y.is

-- the first record with other parts
pub begins_with : (first : Entry) (h : Holding) (key definition : List ℕ) → first.payload ≡ first_payload key definition → Begins first h → StartsFrom definition key h
begins_with first h key definition is b =
    let same = same_first b.key b.definition key definition (sym b.payload ∙ is) in
    subst (λ d. StartsFrom d key h) same.1 (subst (λ k. StartsFrom b.definition k h) same.0 b.starts)

begins_one : OneDefinition → (first : Entry) (a b : Holding) → Begins first a → Begins first b → a ≡ b
begins_one law first a b x y = starts_one law x.definition x.key a b x.starts (begins_with first b x.key x.definition x.payload y)

-- ---- the whole

pub recovers_more : (xs ys : List Entry) (m l : Holding) → Recovers xs m → GoOn m ys l → Recovers (xs ++ ys) l
recovers_more [] ys m l x y = absurd x
recovers_more (e ∷ xs) ys m l x y = (x.0, x.1, go_on_both x.0 m l xs ys x.2 y)

recovers_front : (e : Entry) (xs ys : List Entry) (l : Holding) → Recovers ((e ∷ xs) ++ ys) l → (m : Holding) × Recovers (e ∷ xs) m × GoOn m ys l
recovers_front e xs ys l x = let r = go_on_split x.0 l xs ys x.2 in (r.0, (x.0, x.1, r.1), r.2)

pub recovers_one : OneDefinition → (es : List Entry) (a b : Holding) → Recovers es a → Recovers es b → a ≡ b
recovers_one law [] a b x y = absurd x
recovers_one law (e ∷ es) a b x y =
    let same : x.0 ≡ y.0 = begins_one law e x.0 y.0 x.1 y.1 in
    go_on_one y.0 a b es (subst (λ k. GoOn k es a) same x.2) y.2

-- records in front of good ones are good
pub front_recovered : (xs ys : List Entry) → AreRecovered (xs ++ ys) → AreRecovered xs
front_recovered [] ys x = inl refl
front_recovered (e ∷ xs) ys (inl none) = cc
front_recovered (e ∷ xs) ys (inr r) = let m = recovers_front e xs ys r.0 r.1 in inr (m.0, m.1)

-- a bad record behind good ones
pub bad_behind : OneDefinition → (front : List Entry) (h : Holding) (bad : Entry) → Recovers front h → ((after : Holding) → GoesOn h bad after → ⊥)
    → AreRecovered (front ++ bad ∷ []) → ⊥
bad_behind law [] h bad r not x = absurd r
bad_behind law (e ∷ front) h bad r not (inl none) = absurd cc
bad_behind law (e ∷ front) h bad r not (inr x) =
    let m = recovers_front e front (bad ∷ []) x.0 x.1 in
    let same : m.0 ≡ h = recovers_one law (e ∷ front) m.0 h m.1 r in
    not m.2.0 (subst (λ k. GoesOn k bad m.2.0) same m.2.1)

-- and a bad first one
pub bad_first : (bad : Entry) → ((h : Holding) → Begins bad h → ⊥) → AreRecovered (bad ∷ []) → ⊥
bad_first bad not (inl none) = absurd cc
bad_first bad not (inr x) = not x.1.0 x.1.1

-- ---- events

-- the lines that may stand at a moment are accepted one behind the other
pub moment_goes_on : (h last : Holding) (events : List Event) (lines : List (List ℕ)) → Leads h events last → MayStand events lines
    → (after : Holding) × GoOn h (entries_of lines) after
moment_goes_on h last [] lines x may = (h, subst (λ ls. GoOn h (entries_of ls) h) (sym may) refl)
moment_goes_on h last (Took line ∷ es) lines x (inl none) = (h, subst (λ ls. GoOn h (entries_of ls) h) (sym none) refl)
moment_goes_on h last (Took line ∷ es) lines x (inr more) =
    let r = moment_goes_on x.0 last es more.0 x.2 more.2 in
    (r.0, subst (λ ls. GoOn h (entries_of ls) r.0) (sym more.1) (x.0, record { kind = refl; accepts = x.1 }, r.1))
moment_goes_on h last (Doubted line ∷ es) lines x (inl one) =
    (x.0, subst (λ ls. GoOn h (entries_of ls) x.0) (sym one) (x.0, record { kind = refl; accepts = x.1 }, refl))
moment_goes_on h last (Doubted line ∷ es) lines x (inr may) = moment_goes_on h last es lines x.2 may

-- and so are all that were taken
pub taken_go_on : (h last : Holding) (events : List Event) → Leads h events last → GoOn h (entries_of (taken events)) last
taken_go_on h last [] x = x
taken_go_on h last (Took line ∷ es) x = (x.0, record { kind = refl; accepts = x.1 }, taken_go_on x.0 last es x.2)
taken_go_on h last (Doubted line ∷ es) x = taken_go_on h last es x.2
