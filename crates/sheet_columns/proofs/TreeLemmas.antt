-- Ways down the tree, and what an added column leaves as it was.
use Rattle.std.proofs.Common.{◌≡◌, ℕ, ◌+◌, ◌<◌, ◌≤◌, zero, suc, Bool, true, false, cond, List, [], ◌∷◌, ◌++◌, length, Option, Some, None, refl, sym}
use Rattle.std.proofs.Common.{ap, ◌∙◌, subst, inl, inr, arith, length-append, eq-eqb, ◌*◌, append_assoc}
use Rattle.std.specs.Prelude.{codes, ◌⊎◌, ◌==◌, slice_get, bytes_eq, option_map, option_and_then, unwrap_or}
use Rattle.std.specs.List.{position_from, join_with_byte}
use Rattle.std.proofs.lemmas.Iterator.Adapters.{position_from-zero}
use Rattle.std.proofs.lemmas.Option.{slice_get_within, option_and_then_some}
use Rattle.std.proofs.lemmas.Bool.{cases_lt}
use Rattle.std.proofs.lemmas.Slice.Eq.{bytes_eq-Decides}
use Rattle.sheet_columns.specs.declared.tree.Column.TheVariants.{Object}
use Rattle.sheet_columns.specs.declared.tree.Node.{Node}
use Rattle.sheet_columns.specs.Tree.{root, column_of, is_child_named, child_named, going_down, depth, HasFittingFirst, IsUnder, IsTree, names_down_to, path}

get_old : {A : Type 0} (xs ys : List A) (k : ℕ) → k < length xs → slice_get (xs ++ ys) k ≡ slice_get xs k
get_old [] ys k lt = absurd (omega arith)
get_old (x ∷ xs) ys zero lt = refl
get_old (x ∷ xs) ys (suc k) lt = get_old xs ys k (omega arith)

get_last : {A : Type 0} (xs : List A) (x : A) → slice_get (xs ++ x ∷ []) (length xs) ≡ Some x
get_last [] x = refl
get_last (y ∷ xs) x = get_last xs x

-- an element of a longer list is an old one or the last
get_push : {A : Type 0} (xs : List A) (x : A) (k : ℕ) (y : A) → slice_get (xs ++ x ∷ []) k ≡ Some y → (slice_get xs k ≡ Some y) ⊎ ((k ≡ length xs) × (x ≡ y))
get_push [] x zero y e = inr (refl, cc)
get_push [] x (suc k) y e = cc
get_push (z ∷ xs) x zero y e = inl e
get_push (z ∷ xs) x (suc k) y e =
    elim (get_push xs x k y e) [ inl old ↦ inl old | inr new ↦ inr (ap (λ j. suc j) new.0, new.1) ]

-- no element passes where no place is found
position_none : {A : Type 0} (p : A → Bool) (i : ℕ) (xs : List A) (k : ℕ) (x : A) → position_from p i xs ≡ None → slice_get xs k ≡ Some x → p x ≡ false
position_none p i [] k x none e = cc
position_none p i (y ∷ xs) zero x none e =
    let same : y ≡ x = cc in
    subst (λ z. p z ≡ false) same
    (elim (p y) as (λ b. p y ≡ b → cond b (Some i) (position_from p (i + 1) xs) ≡ None → b ≡ false) [ true ↦ λ t n. cc | false ↦ λ t n. refl ] refl none)
position_none p i (y ∷ xs) (suc k) x none e =
    position_none p (i + 1) xs k x
    (elim (p y) as (λ b. cond b (Some i) (position_from p (i + 1) xs) ≡ None → position_from p (i + 1) xs ≡ None) [ true ↦ λ n. cc | false ↦ λ n. n ] none) e

-- columns stand under earlier ones
pub record IsBackward (nodes : List Node) : Type 0 where
  pub earlier : (c : ℕ) (n : Node) (a : ℕ) → slice_get nodes c ≡ Some n → n.above ≡ Some a → a < c

pub backward : (nodes : List Node) → IsTree nodes → IsBackward nodes
backward nodes tree = record { earlier = λ c n a got is. (subst (IsUnder nodes c) is (tree.placed c n got)).0 }

module _ {A : Type 0} (start : A) (next : A → Node → A) where
  -- one step on the way down, from what the column above gives
  abbrev step : (ℕ → A) → Option Node → A
  step rest o = unwrap_or (option_and_then (λ (n : Node). option_map (λ above. next (rest above) n) n.above) o) start

  step_same : (r s : ℕ → A) (o : Option Node) → ((n : Node) (a : ℕ) → o ≡ Some n → n.above ≡ Some a → r a ≡ s a) → step r o ≡ step s o
  step_same r s None same = refl
  step_same r s (Some n) same =
      elim n.above as (λ o. n.above ≡ o → unwrap_or (option_map (λ a. next (r a) n) o) start ≡ unwrap_or (option_map (λ a. next (s a) n) o) start) [
        | None ↦ λ e. refl
        | Some a ↦ λ e. ap (λ v. next v n) (same n a refl e)
      ] refl

  step_start : (r : ℕ → A) (o : Option Node) → ((n : Node) (a : ℕ) → o ≡ Some n → n.above ≡ Some a → ⊥) → step r o ≡ start
  step_start r None none = refl
  step_start r (Some n) none =
      elim n.above as (λ o. n.above ≡ o → unwrap_or (option_map (λ a. next (r a) n) o) start ≡ start) [
        | None ↦ λ e. refl
        | Some a ↦ λ e. absurd (none n a refl e)
      ] refl

  -- more steps than the column's number change nothing
  going_more : (nodes : List Node) → IsBackward nodes → (f g c : ℕ) → c ≤ f → c ≤ g → going_down start next f nodes c ≡ going_down start next g nodes c
  going_more nodes b zero zero c lf lg = refl
  going_more nodes b zero (suc g) c lf lg =
      sym (step_start (going_down start next g nodes) (slice_get nodes c) (λ n a got is. let lt = b.earlier c n a got is in omega arith))
  going_more nodes b (suc f) zero c lf lg =
      step_start (going_down start next f nodes) (slice_get nodes c) (λ n a got is. let lt = b.earlier c n a got is in omega arith)
  going_more nodes b (suc f) (suc g) c lf lg =
      step_same (going_down start next f nodes) (going_down start next g nodes) (slice_get nodes c)
      (λ n a got is. let lt = b.earlier c n a got is in going_more nodes b f g a (omega arith) (omega arith))

  -- at a column below the root
  pub going_at : (nodes : List Node) → IsBackward nodes → (c : ℕ) (n : Node) (a : ℕ) → slice_get nodes c ≡ Some n → n.above ≡ Some a
      → going_down start next c nodes c ≡ next (going_down start next a nodes a) n
  going_at nodes b zero n a got is = let lt = b.earlier 0 n a got is in absurd (omega arith)
  going_at nodes b (suc f) n a got is =
      let lt = b.earlier (suc f) n a got is in
      ap (step (going_down start next f nodes)) got
      ∙ ap (λ o. unwrap_or (option_map (λ above. next (going_down start next f nodes above) n) o) start) is
      ∙ ap (λ v. next v n) (going_more nodes b f a a (omega arith) (omega arith))

  -- at the root
  pub going_root : (nodes : List Node) (f c : ℕ) (n : Node) → slice_get nodes c ≡ Some n → n.above ≡ None → going_down start next f nodes c ≡ start
  going_root nodes zero c n got is = refl
  going_root nodes (suc f) c n got is =
      ap (step (going_down start next f nodes)) got ∙ ap (λ o. unwrap_or (option_map (λ above. next (going_down start next f nodes above) n) o) start) is

  -- later columns change nothing
  pub going_push : (nodes : List Node) → IsBackward nodes → (x : Node) (f c : ℕ) → c < length nodes
      → going_down start next f (nodes ++ x ∷ []) c ≡ going_down start next f nodes c
  going_push nodes b x zero c lt = refl
  going_push nodes b x (suc f) c lt =
      ap (step (going_down start next f (nodes ++ x ∷ []))) (get_old nodes (x ∷ []) c lt)
      ∙ step_same (going_down start next f (nodes ++ x ∷ [])) (going_down start next f nodes) (slice_get nodes c)
      (λ n a got is. let less = b.earlier c n a got is in going_push nodes b x f a (omega arith))

same_bytes : (xs : List ℕ) → bytes_eq xs xs ≡ true
same_bytes xs = (bytes_eq-Decides xs xs).1 refl

same_number : (k : ℕ) → (k == k) ≡ true
same_number k = eq-eqb k k refl

-- the tree with one column more
module _ (nodes : List Node) (tree : IsTree nodes) (x : Node) (above : ℕ) (is : x.above ≡ Some above) (object : column_of nodes above ≡ Some Object)
    (free : child_named nodes above x.name ≡ None) (shallow : depth nodes above < 8) (few : length nodes < 1000) (short : length x.name ≤ 63)
    (fitting : HasFittingFirst x.column) where
  counted : above < length nodes
  counted =
      option_and_then_some (λ (n : Node). Some n.column) (slice_get nodes above) Object (same_map (slice_get nodes above) ∙ object)
      (λ n got e. slice_get_within nodes above n got)
    where
      same_map : (o : Option Node) → option_and_then (λ (n : Node). Some n.column) o ≡ option_map (λ (n : Node). n.column) o
      same_map None = refl
      same_map (Some n) = refl

  still_object : (a : ℕ) → a < length nodes → column_of nodes a ≡ Some Object → column_of (nodes ++ x ∷ []) a ≡ Some Object
  still_object a lt e = ap (option_map (λ (n : Node). n.column)) (get_old nodes (x ∷ []) a lt) ∙ e

  last : slice_get (nodes ++ x ∷ []) (length nodes) ≡ Some x
  last = get_last nodes x

  placed_old : (c : ℕ) (o : Option ℕ) → c < length nodes → IsUnder nodes c o → IsUnder (nodes ++ x ∷ []) c o
  placed_old c None lt u = u
  placed_old c (Some a) lt u = (u.0, still_object a (omega (arith, u.0)) u.1)

  placed_new : (o : Option ℕ) → o ≡ Some above → IsUnder (nodes ++ x ∷ []) (length nodes) o
  placed_new None e = cc
  placed_new (Some a) e =
      let same : above ≡ a = cc in
      subst (λ b. (b < length nodes) × (column_of (nodes ++ x ∷ []) b ≡ Some Object)) same (counted, still_object above counted object)

  placed : (c : ℕ) (n : Node) → slice_get (nodes ++ x ∷ []) c ≡ Some n → IsUnder (nodes ++ x ∷ []) c n.above
  placed c n got =
      elim (get_push nodes x c n got) [
        | inl old ↦ placed_old c n.above (slice_get_within nodes c n old) (tree.placed c n old)
        | inr new ↦ subst (λ (m : Node). IsUnder (nodes ++ x ∷ []) c m.above) new.1
            (subst (λ d. IsUnder (nodes ++ x ∷ []) d x.above) (sym new.0) (placed_new x.above is))
      ]

  later : IsBackward (nodes ++ x ∷ [])
  later = record { earlier = λ c n a got e. (subst (IsUnder (nodes ++ x ∷ []) c) e (placed c n got)).0 }

  depth_old : (c : ℕ) → c < length nodes → depth (nodes ++ x ∷ []) c ≡ depth nodes c
  depth_old c lt = going_push 0 (λ d n. d + 1) nodes (backward nodes tree) x c c lt

  depth_new : depth (nodes ++ x ∷ []) (length nodes) ≡ depth nodes above + 1
  depth_new =
      going_at 0 (λ d n. d + 1) (nodes ++ x ∷ []) later (length nodes) x above last is ∙ ap (λ d. d + 1) (depth_old above counted)

  shallow_all : (c : ℕ) → c < length (nodes ++ x ∷ []) → depth (nodes ++ x ∷ []) c ≤ 8
  shallow_all c lt =
      let long = length-append nodes (x ∷ []) in
      elim (cases_lt c (length nodes)) [
        | inl old ↦ let e = depth_old c old in let d = tree.shallow c old in omega arith
        | inr new ↦ let at : c ≡ length nodes = omega arith in subst (λ d. depth (nodes ++ x ∷ []) d ≤ 8) (sym at) (let e = depth_new in omega arith)
      ]

  -- a fact of each node
  each : (P : Node → Type 0) → ((c : ℕ) (n : Node) → slice_get nodes c ≡ Some n → P n) → P x → (c : ℕ) (n : Node) → slice_get (nodes ++ x ∷ []) c ≡ Some n → P n
  each P olds here c n got = elim (get_push nodes x c n got) [ inl old ↦ olds c n old | inr new ↦ subst P new.1 here ]

  apart : (b : ℕ) (m : Node) → slice_get nodes b ≡ Some m → m.above ≡ x.above → m.name ≡ x.name → ⊥
  apart b m got same_above same_name =
      let none : position_from (is_child_named above x.name) 0 nodes ≡ None = sym (position_from-zero (is_child_named above x.name) nodes) ∙ free in
      let no = position_none (is_child_named above x.name) 0 nodes b m none got in
      let yes : is_child_named above x.name m ≡ true = rw (same_above ∙ is, same_name, same_number above, same_bytes x.name) refl in
      cc

  distinct : (b c : ℕ) (m n : Node) → slice_get (nodes ++ x ∷ []) b ≡ Some m → slice_get (nodes ++ x ∷ []) c ≡ Some n → m.above ≡ n.above → m.name ≡ n.name
      → b ≡ c
  distinct b c m n got_m got_n same_above same_name =
      elim (get_push nodes x b m got_m) [
        | inl old_m ↦ elim (get_push nodes x c n got_n) [
          | inl old_n ↦ tree.distinct b c m n old_m old_n same_above same_name
          | inr new_n ↦ absurd (apart b m old_m (same_above ∙ ap (λ (k : Node). k.above) (sym new_n.1)) (same_name ∙ ap (λ (k : Node). k.name) (sym new_n.1)))
        ]
        | inr new_m ↦ elim (get_push nodes x c n got_n) [
          | inl old_n ↦ absurd (apart c n old_n (sym same_above ∙ ap (λ (k : Node). k.above) (sym new_m.1)) (sym same_name
              ∙ ap (λ (k : Node). k.name) (sym new_m.1)))
          | inr new_n ↦ new_m.0 ∙ sym new_n.0
        ]
      ]

  pub tree_push : IsTree (nodes ++ x ∷ [])
  tree_push = record {
    first = get_old nodes (x ∷ []) 0 (slice_get_within nodes 0 root tree.first) ∙ tree.first;
    few = let long = length-append nodes (x ∷ []) in omega arith;
    placed = placed;
    shallow = shallow_all;
    short = each (λ (n : Node). length n.name ≤ 63) tree.short short;
    fitting = each (λ (n : Node). HasFittingFirst n.column) tree.fitting fitting;
    distinct = distinct;
  }

join_more : (xs : List (List ℕ)) (x y : List ℕ) → join_with_byte 46 ((x ∷ xs) ++ y ∷ []) ≡ join_with_byte 46 (x ∷ xs) ++ 46 ∷ y
join_more [] x y = refl
join_more (z ∷ xs) x y = ap (λ t. x ++ (46 ∷ t)) (join_more xs z y) ∙ sym (append_assoc x (46 ∷ join_with_byte 46 (z ∷ xs)) (46 ∷ y))

-- one name more, after one at least
join_push : (xs : List (List ℕ)) (x y : List ℕ) → join_with_byte 46 ((xs ++ x ∷ []) ++ y ∷ []) ≡ join_with_byte 46 (xs ++ x ∷ []) ++ 46 ∷ y
join_push [] x y = join_more [] x y
join_push (z ∷ xs) x y = join_more (xs ++ x ∷ []) z y

join_long : (xs : List (List ℕ)) (y : List ℕ) → length y ≤ 63 → length (join_with_byte 46 (xs ++ y ∷ [])) ≤ length (join_with_byte 46 xs) + 64
join_long [] y short = omega arith
join_long (x ∷ xs) y short =
    let e = ap length (join_more xs x y) ∙ length-append (join_with_byte 46 (x ∷ xs)) (46 ∷ y) in
    omega arith

joined_step : (names : ℕ → List (List ℕ)) (deep : ℕ → ℕ) (o : Option Node) → ((n : Node) → o ≡ Some n → length n.name ≤ 63)
    → ((a : ℕ) → length (join_with_byte 46 (names a)) ≤ 64 * deep a)
    → length (join_with_byte 46 (step [] (λ above (n : Node). above ++ n.name ∷ []) names o)) ≤ 64 * step 0 (λ d (n : Node). d + 1) deep o
joined_step names deep None short so_far = omega arith
joined_step names deep (Some n) short so_far =
    elim n.above as (λ o. length (join_with_byte 46 (unwrap_or (option_map (λ a. names a ++ n.name ∷ []) o) [])) ≤ 64 * unwrap_or
    (option_map (λ a. deep a + 1) o) 0) [
      | None ↦ omega arith
      | Some a ↦ let more = join_long (names a) n.name (short n refl) in let before = so_far a in omega arith
    ]

-- the names on the way, joined, have at most 64 bytes for each column on the way
joined_short : (nodes : List Node) → IsTree nodes → (f c : ℕ)
    → length (join_with_byte 46 (going_down [] (λ names (n : Node). names ++ n.name ∷ []) f nodes c)) ≤ 64 * going_down 0 (λ d (n : Node). d + 1) f nodes c
joined_short nodes tree zero c = omega arith
joined_short nodes tree (suc f) c = joined_step _ _ (slice_get nodes c) (tree.short c) (joined_short nodes tree f)

pub path_short : (nodes : List Node) → IsTree nodes → (c : ℕ) → c < length nodes → length (path nodes c) ≤ 1000
path_short nodes tree zero lt = omega arith
path_short nodes tree (suc c) lt =
    let long = joined_short nodes tree (suc c) (suc c) in
    let few = tree.shallow (suc c) lt in
    omega arith

pub path_root : (nodes : List Node) → IsTree nodes → (c : ℕ) (n : Node) → slice_get nodes c ≡ Some n → n.above ≡ None → path nodes c ≡ codes "$"
path_root nodes tree c n got is = let first : c ≡ 0 = subst (IsUnder nodes c) is (tree.placed c n got) in ap (path nodes) first

pub path_top : (nodes : List Node) → IsTree nodes → (c : ℕ) (n : Node) → slice_get nodes c ≡ Some n → n.above ≡ Some 0 → path nodes c ≡ n.name
path_top nodes tree zero n got is = let lt = (backward nodes tree).earlier 0 n 0 got is in absurd (omega arith)
path_top nodes tree (suc c) n got is =
    ap (join_with_byte 46) (going_at [] (λ names (n : Node). names ++ n.name ∷ []) nodes (backward nodes tree) (suc c) n 0 got is)

-- the names down to a column below the root end with its own
names_at : (nodes : List Node) → IsTree nodes → (a : ℕ) → (column_of nodes (suc a) ≡ Some Object)
    → (front : List (List ℕ)) × (name : List ℕ) × (names_down_to nodes (suc a) ≡ front ++ name ∷ [])
names_at nodes tree a object = at (slice_get nodes (suc a)) refl object
  where
    under : (m : Node) (o : Option ℕ) → slice_get nodes (suc a) ≡ Some m → m.above ≡ o → IsUnder nodes (suc a) o
        → (front : List (List ℕ)) × (name : List ℕ) × (names_down_to nodes (suc a) ≡ front ++ name ∷ [])
    under m None got e u = absurd (omega arith)
    under m (Some b) got e u =
        (names_down_to nodes b, m.name, going_at [] (λ names (n : Node). names ++ n.name ∷ []) nodes (backward nodes tree) (suc a) m b got e)

    at : (o : Option Node) → slice_get nodes (suc a) ≡ o → option_map (λ (n : Node). n.column) o ≡ Some Object
        → (front : List (List ℕ)) × (name : List ℕ) × (names_down_to nodes (suc a) ≡ front ++ name ∷ [])
    at None got e = cc
    at (Some m) got e = under m m.above got refl (tree.placed (suc a) m got)

pub path_below : (nodes : List Node) → IsTree nodes → (c : ℕ) (n : Node) (a : ℕ) → slice_get nodes c ≡ Some n → n.above ≡ Some a → 0 < a
    → path nodes c ≡ path nodes a ++ 46 ∷ n.name
path_below nodes tree zero n a got is positive = let lt = (backward nodes tree).earlier 0 n a got is in absurd (omega arith)
path_below nodes tree (suc c) n zero got is positive = absurd (omega arith)
path_below nodes tree (suc c) n (suc a) got is positive =
    let object = (subst (IsUnder nodes (suc c)) is (tree.placed (suc c) n got)).1 in
    let last = names_at nodes tree a object in
    ap (join_with_byte 46) (going_at [] (λ names (n : Node). names ++ n.name ∷ []) nodes (backward nodes tree) (suc c) n (suc a) got is
    ∙ ap (λ ns. ns ++ n.name ∷ []) last.2)
    ∙ join_push last.0 last.1 n.name
    ∙ ap (λ ns. join_with_byte 46 ns ++ 46 ∷ n.name) (sym last.2)
