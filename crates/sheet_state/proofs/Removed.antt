-- Objects that go one after another are gone at once with all below them.
use Rattle.std.proofs.Common.{◌≡◌, refl, sym, ap, ◌∙◌, ℕ, ◌<◌, Bool, true, false, cond, List, [], ◌∷◌, ◌++◌, Option, Some, None, ◌⊎◌, inl, inr, eq-eqb, arith}
use Rattle.std.specs.Prelude.{not, ◌==◌, ◌&&◌, ◌||◌, if◌then◌else◌, map, filter, fold, is_some}
use Rattle.std.specs.List.{AllByRecursion}
use Rattle.std.proofs.lemmas.Bool.{eqb-true}
use Rattle.sheet_values.specs.Sets.{contains}
use Rattle.sheet_values.specs.declared.value.Value.{Value}
use Rattle.sheet_values.specs.declared.value.Value.TheVariants.{Truth, Number, Text, Object}
use Rattle.sheet_columns.specs.declared.tree.Node.{Node}
use Rattle.sheet_meaning.specs.Changes.{has_number, has_parent_in, family, is_other, without, without_object}
use Rattle.sheet_meaning.specs.Workbook.{object_at}
use Rattle.sheet_meaning.specs.WellFormed.{IsWellFormed}
use Rattle.sheet_meaning.specs.declared.workbook.LiveObject.{LiveObject}
use Rattle.sheet_meaning.specs.declared.workbook.StoredCell.{StoredCell}
use Rattle.sheet_meaning.specs.declared.workbook.State.{State}
use Rattle.sheet_meaning.proofs.Members.{both_true}
use Rattle.sheet_state.specs.Stored.{book}
use Rattle.sheet_state.specs.Removals.{without_live, without_all}
use Rattle.sheet_state.proofs.Existing.{live_in}
use Rattle.sheet_state.proofs.Family.{has_more}
use Rattle.sheet_state.proofs.Gone.{filter_same}
use Rattle.sheet_state.proofs.Without.{step, differs, stays, cell_stays, cleaned, found_left, IsDown, IsClosed, filter_kept, family_down, family_closed, root_stays, left_well_formed}
use Rattle.sheet_state.proofs.Underneath.{all_in}
use Rattle.sheet_state_references.proofs.Numbers.{ties}
use Rattle.sheet_state_references.proofs.Searched.{one_of, left, right}

-- a family is within what holds its object and goes down
pub within : (N : List ℕ) (o : ℕ) → has_number N o ≡ true → (xs : List LiveObject) (ns : List ℕ) → AllByRecursion (IsDown N) xs → ((m : ℕ) →
    has_number ns m ≡ true → has_number N m ≡ true) → (m : ℕ) → has_number (fold (step o) ns xs) m ≡ true → has_number N m ≡ true
within N o mine [] ns down sub m h = sub m h
within N o mine (x ∷ xs) ns down sub m h = within N o mine xs (step o ns x) down.1 (λ j e. at j (x.number == o || has_parent_in ns x.parent) refl e) m h
  where
    parents : (q : Option ℕ) → has_parent_in ns q ≡ true → has_parent_in N q ≡ true
    parents None e = cc
    parents (Some p) e = sub p e

    here : ((x.number == o) ≡ true) ⊎ (has_parent_in ns x.parent ≡ true) → has_number N x.number ≡ true
    here (inl e) = ap (has_number N) (eqb-true x.number o e) ∙ mine
    here (inr e) = down.0 (parents x.parent e)

    more : (j : ℕ) → (x.number == o || has_parent_in ns x.parent) ≡ true → ((x.number == j) ≡ true) ⊎ (has_number ns j ≡ true) → has_number N j ≡ true
    more j is (inl e) = ap (has_number N) (sym (eqb-true x.number j e)) ∙ here (one_of (x.number == o) (has_parent_in ns x.parent) is)
    more j is (inr e) = sub j e

    at : (j : ℕ) (b : Bool) → (x.number == o || has_parent_in ns x.parent) ≡ b → has_number (step o ns x) j ≡ true → has_number N j ≡ true
    at j false is e = sub j (sym (ap (λ b. has_number (if b then ns ++ x.number ∷ [] else ns) j) is) ∙ e)
    at j true is e =
        more j is
        (one_of (x.number == j) (has_number ns j)
        (sym (has_more ns x.number j) ∙ sym (ap (λ b. has_number (if b then ns ++ x.number ∷ [] else ns) j) is) ∙ e))

same_map : {A B : Type 0} (f g : A → B) → ((x : A) → f x ≡ g x) → (xs : List A) → map f xs ≡ map g xs
same_map f g e [] = refl
same_map f g e (x ∷ xs) = ap (λ y. y ∷ map f xs) (e x) ∙ ap (λ l. g x ∷ l) (same_map f g e xs)

-- states without the same objects
pub without_alike : (s : State) (M N : List ℕ) → ((n : ℕ) → has_number M n ≡ has_number N n) → without s M ≡ without s N
without_alike s M N is =
    ap (λ (xs : List LiveObject). record s { objects = xs; cells = map (cleaned M) (filter (cell_stays M) s.cells) })
    (filter_same (stays M) (stays N) (λ x. ap not (is x.number)) s.objects)
    ∙ ap (λ (cs : List StoredCell). record s { objects = filter (stays N) s.objects; cells = cs })
    (ap (map (cleaned M)) (filter_same (cell_stays M) (cell_stays N) (λ x. ap not (is x.object)) s.cells)
    ∙ same_map (cleaned M) (cleaned N) (λ x. ap (λ l. record x { set = l }) (filter_same (is_other M) (is_other N) others x.set)) (filter (cell_stays N) s.cells))
  where
    others : (v : Value) → is_other M v ≡ is_other N v
    others (Truth b) = refl
    others (Number n) = refl
    others (Text t) = refl
    others (Object n) = ap not (is n)

filter_twice : {A : Type 0} (p q r : A → Bool) → ((x : A) → r x ≡ (q x && p x)) → (xs : List A) → filter p (filter q xs) ≡ filter r xs
filter_twice p q r is [] = refl
filter_twice {A} p q r is (x ∷ xs) = at (filter_twice p q r is xs) (q x) (p x) refl refl
  where
    at : filter p (filter q xs) ≡ filter r xs → (a b : Bool) → q x ≡ a → p x ≡ b →
        filter p (cond (q x) (x ∷ filter q xs) (filter q xs)) ≡ cond (r x) (x ∷ filter r xs) (filter r xs)
    at rest false b e h =
        ap (λ c. filter p (cond c (x ∷ filter q xs) (filter q xs))) e
        ∙ rest
        ∙ sym (ap (λ c. cond c (x ∷ filter r xs) (filter r xs)) (is x ∙ ap (λ c. c && p x) e))
    at rest true false e h =
        ap (λ c. filter p (cond c (x ∷ filter q xs) (filter q xs))) e
        ∙ ap (λ c. cond c (x ∷ filter p (filter q xs)) (filter p (filter q xs))) h
        ∙ rest
        ∙ sym (ap (λ c. cond c (x ∷ filter r xs) (filter r xs)) (is x ∙ ap (λ c. c && p x) e ∙ h))
    at rest true true e h =
        ap (λ c. filter p (cond c (x ∷ filter q xs) (filter q xs))) e
        ∙ ap (λ c. cond c (x ∷ filter p (filter q xs)) (filter p (filter q xs))) h
        ∙ ap (λ l. x ∷ l) rest
        ∙ sym (ap (λ c. cond c (x ∷ filter r xs) (filter r xs)) (is x ∙ ap (λ c. c && p x) e ∙ h))

filter_map_swap : {A : Type 0} (f : A → A) (p : A → Bool) → ((x : A) → p (f x) ≡ p x) → (xs : List A) → filter p (map f xs) ≡ map f (filter p xs)
filter_map_swap f p is [] = refl
filter_map_swap {A} f p is (x ∷ xs) =
    ap (λ b. cond b (f x ∷ filter p (map f xs)) (filter p (map f xs))) (is x)
    ∙ ap (λ l. cond (p x) (f x ∷ l) l) (filter_map_swap f p is xs)
    ∙ at (p x)
  where
    at : (b : Bool) → cond b (f x ∷ map f (filter p xs)) (map f (filter p xs)) ≡ map f (cond b (x ∷ filter p xs) (filter p xs))
    at true = refl
    at false = refl

map_twice : {A : Type 0} (f g h : A → A) → ((x : A) → g (f x) ≡ h x) → (xs : List A) → map g (map f xs) ≡ map h xs
map_twice f g h is [] = refl
map_twice f g h is (x ∷ xs) = ap (λ y. y ∷ map g (map f xs)) (is x) ∙ ap (λ l. h x ∷ l) (map_twice f g h is xs)

not_or : (a b : Bool) → not (a || b) ≡ (not a && not b)
not_or true b = refl
not_or false b = refl

-- without some, and then without others
pub without_twice : (s : State) (M K N : List ℕ) → ((n : ℕ) → has_number N n ≡ (has_number M n || has_number K n)) → without (without s M) K ≡ without s N
without_twice s M K N is =
    ap (λ (xs : List LiveObject). record s { objects = xs; cells = map (cleaned K) (filter (cell_stays K) (map (cleaned M) (filter (cell_stays M) s.cells))) })
    (filter_twice (stays K) (stays M) (stays N) (λ x. ap not (is x.number) ∙ not_or (has_number M x.number) (has_number K x.number)) s.objects)
    ∙ ap (λ (cs : List StoredCell). record s { objects = filter (stays N) s.objects; cells = cs })
    (ap (map (cleaned K)) (filter_map_swap (cleaned M) (cell_stays K) (λ x. refl) (filter (cell_stays M) s.cells))
    ∙ map_twice (cleaned M) (cleaned K) (cleaned N) (λ x. ap (λ l. record x { set = l }) (filter_twice (is_other K) (is_other M) (is_other N) others x.set))
    (filter (cell_stays K) (filter (cell_stays M) s.cells))
    ∙ ap (map (cleaned N))
    (filter_twice (cell_stays K) (cell_stays M) (cell_stays N) (λ x. ap not (is x.object) ∙ not_or (has_number M x.object) (has_number K x.object)) s.cells))
  where
    others : (v : Value) → is_other N v ≡ (is_other M v && is_other K v)
    others (Truth b) = refl
    others (Number n) = refl
    others (Text t) = refl
    others (Object n) = ap not (is n) ∙ not_or (has_number M n) (has_number K n)

-- without nothing
all_stay : {A : Type 0} (p : A → Bool) → ((x : A) → p x ≡ true) → (xs : List A) → filter p xs ≡ xs
all_stay p is [] = refl
all_stay p is (x ∷ xs) = ap (λ b. cond b (x ∷ filter p xs) (filter p xs)) (is x) ∙ ap (λ l. x ∷ l) (all_stay p is xs)

all_same : {A : Type 0} (f : A → A) → ((x : A) → f x ≡ x) → (xs : List A) → map f xs ≡ xs
all_same f is [] = refl
all_same f is (x ∷ xs) = ap (λ y. y ∷ map f xs) (is x) ∙ ap (λ l. x ∷ l) (all_same f is xs)

pub without_none : (s : State) → without s [] ≡ s
without_none s =
    ap (λ (xs : List LiveObject). record s { objects = xs; cells = map (cleaned []) (filter (cell_stays []) s.cells) })
    (all_stay (stays []) (λ x. refl) s.objects)
    ∙ ap (λ (cs : List StoredCell). record s { objects = s.objects; cells = cs })
    (ap (map (cleaned [])) (all_stay (cell_stays []) (λ x. refl) s.cells)
    ∙ all_same (cleaned []) (λ x. ap (λ l. record x { set = l }) (all_stay (is_other []) others x.set)) s.cells)
  where
    others : (v : Value) → is_other [] v ≡ true
    others (Truth b) = refl
    others (Number n) = refl
    others (Text t) = refl
    others (Object n) = refl

-- with an object that has the property all that stand directly under it have it
abbrev pub Passes : (ℕ → Bool) → LiveObject → Type 0
Passes q x = (p : ℕ) → x.parent ≡ Some p → q p ≡ true → q x.number ≡ true

-- the numbers of those that are live, and of all below them
pub record AreGone (s : State) (os N : List ℕ) : Type 0 where
  pub first : (o : ℕ) → has_number os o ≡ true → is_some (object_at s.objects o) ≡ true → has_number N o ≡ true
  pub down : AllByRecursion (IsDown N) s.objects
  pub least : (q : ℕ → Bool) → ((o : ℕ) → has_number os o ≡ true → is_some (object_at s.objects o) ≡ true → q o ≡ true) →
      AllByRecursion (Passes q) s.objects → (n : ℕ) → has_number N n ≡ true → q n ≡ true

-- those of some that aren't among others
abbrev rest_of : List ℕ → List ℕ → List ℕ
rest_of M N = filter (λ n. not (has_number M n)) N

has_rest : (M N : List ℕ) (n : ℕ) → has_number (rest_of M N) n ≡ (has_number N n && not (has_number M n))
has_rest M [] n = refl
has_rest M (m ∷ N) n = at (has_rest M N n) (has_number M m) (m == n) refl refl
  where
    absorbed : (a b : Bool) → b ≡ false → (a && b) ≡ false
    absorbed true b e = e
    absorbed false b e = refl

    at : has_number (rest_of M N) n ≡ (has_number N n && not (has_number M n)) → (h e : Bool) → has_number M m ≡ h → (m == n) ≡ e →
        has_number (cond (not (has_number M m)) (m ∷ rest_of M N) (rest_of M N)) n ≡ ((m == n || has_number N n) && not (has_number M n))
    at rest true true gone same =
        let there : has_number M n ≡ true = ap (has_number M) (sym (eqb-true m n same)) ∙ gone in
        ap (λ b. has_number (cond (not b) (m ∷ rest_of M N) (rest_of M N)) n) gone
        ∙ rest
        ∙ absorbed (has_number N n) (not (has_number M n)) (ap not there)
        ∙ sym (absorbed (m == n || has_number N n) (not (has_number M n)) (ap not there))
    at rest true false gone same =
        ap (λ b. has_number (cond (not b) (m ∷ rest_of M N) (rest_of M N)) n) gone
        ∙ rest
        ∙ sym (ap (λ b. (b || has_number N n) && not (has_number M n)) same)
    at rest false true stay same =
        let here : has_number M n ≡ false = ap (has_number M) (sym (eqb-true m n same)) ∙ stay in
        ap (λ b. has_number (cond (not b) (m ∷ rest_of M N) (rest_of M N)) n) stay
        ∙ ap (λ b. b || has_number (rest_of M N) n) same
        ∙ sym (ap (λ b. (b || has_number N n) && not (has_number M n)) same ∙ ap not here)
    at rest false false stay same =
        ap (λ b. has_number (cond (not b) (m ∷ rest_of M N) (rest_of M N)) n) stay
        ∙ ap (λ b. b || has_number (rest_of M N) n) same
        ∙ rest
        ∙ sym (ap (λ b. (b || has_number N n) && not (has_number M n)) same)

no_clash : {A : Type 0} (b : Bool) → b ≡ true → b ≡ false → A
no_clash b e f = let clash : true ≡ false = sym e ∙ f in absurd cc

always : {A : Type 0} (P : A → Type 0) → ((x : A) → P x) → (xs : List A) → AllByRecursion P xs
always P h [] = tt
always P h (x ∷ xs) = (h x, always P h xs)

pub some_is : {A : Type 0} (o : Option A) → is_some o ≡ true → (x : A) × (o ≡ Some x)
some_is None e = cc
some_is (Some x) e = (x, refl)

module _ (nodes : List Node) (o : ℕ) (os : List ℕ) (s : State) (w : IsWellFormed (book nodes s)) (N : List ℕ) (positive : 0 < o) (g : AreGone s (o ∷ os) N) where
  abbrev M : List ℕ
  M = family s.objects o

  -- an object that isn't live changes nothing
  skipped : is_some (object_at s.objects o) ≡ false → AreGone s os N
  skipped dead = record {
    first = λ j h l. g.first j (right (o == j) (has_number os j) h) l;
    down = g.down;
    least = λ q e down n h. g.least q (λ j i l. pick q e j l (one_of (o == j) (has_number os j) i)) down n h;
  }
    where
      pick : (q : ℕ → Bool) → ((j : ℕ) → has_number os j ≡ true → is_some (object_at s.objects j) ≡ true → q j ≡ true) → (j : ℕ) →
          is_some (object_at s.objects j) ≡ true → ((o == j) ≡ true) ⊎ (has_number os j ≡ true) → q j ≡ true
      pick q e j l (inl same) = no_clash (is_some (object_at s.objects o)) (ap (λ k. is_some (object_at s.objects k)) (eqb-true o j same) ∙ l) dead
      pick q e j l (inr h) = e j h l

  module _ (live : is_some (object_at s.objects o) ≡ true) where
    own : has_number M o ≡ true
    own =
        let x = some_is (object_at s.objects o) live in
        let l = live_in s.objects o x.0 x.1 in
        ap (has_number M) (sym l.1) ∙ all_in (IsClosed o M) s.objects x.0 (family_closed nodes s w o positive) l.0
        ∙ left (x.0.number == o) (has_parent_in M x.0.parent) (eq-eqb x.0.number o l.1)

    inside : (n : ℕ) → has_number M n ≡ true → has_number N n ≡ true
    inside n h = within N o (g.first o (left (o == o) (has_number os o) (eq-eqb o o refl)) live) s.objects [] g.down (λ m e. cc) n h

    split : (n : ℕ) → has_number N n ≡ (has_number M n || has_number (rest_of M N) n)
    split n = at (has_number M n) refl
      where
        and_true : (b : Bool) → (b && true) ≡ b
        and_true true = refl
        and_true false = refl

        at : (b : Bool) → has_number M n ≡ b → has_number N n ≡ (has_number M n || has_number (rest_of M N) n)
        at true e = inside n e ∙ sym (ap (λ b. b || has_number (rest_of M N) n) e)
        at false e =
            sym (ap (λ b. b || has_number (rest_of M N) n) e ∙ has_rest M N n ∙ ap (λ b. has_number N n && not b) e ∙ and_true (has_number N n))

    -- an object that is left was there, and isn't of the family
    was_there : (j : ℕ) → is_some (object_at (filter (stays M) s.objects) j) ≡ true → (has_number M j ≡ false) × (is_some (object_at s.objects j) ≡ true)
    was_there j l = at (has_number M j) refl (ap is_some (sym (found_left M s.objects j)) ∙ l)
      where
        at : (b : Bool) → has_number M j ≡ b → is_some (if has_number M j then None else object_at s.objects j) ≡ true →
            (has_number M j ≡ false) × (is_some (object_at s.objects j) ≡ true)
        at true e h = let clash : false ≡ true = sym (ap (λ b. is_some (if b then None else object_at s.objects j)) e) ∙ h in absurd cc
        at false e h = (e, sym (ap (λ b. is_some (if b then None else object_at s.objects j)) e) ∙ h)

    in_rest : (p : Option ℕ) → has_parent_in (rest_of M N) p ≡ true → has_parent_in N p ≡ true
    in_rest None h = cc
    in_rest (Some p) h = (both_true (has_number N p) (not (has_number M p)) (sym (has_rest M N p) ∙ h)).0

    joined : (q : ℕ → Bool) (xs : List LiveObject) → AllByRecursion (IsDown M) xs → AllByRecursion (Passes q) (filter (stays M) xs) →
        AllByRecursion (Passes (λ k. q k || has_number M k)) xs
    joined q [] d p = tt
    joined q (x ∷ xs) d p =
        elim (has_number M x.number) as (λ b. has_number M x.number ≡ b →
        AllByRecursion (Passes q) (cond (not b) (x ∷ filter (stays M) xs) (filter (stays M) xs)) →
        AllByRecursion (Passes (λ k. q k || has_number M k)) (x ∷ xs)) [
          | true ↦ λ e rest. ((λ k up h. right (q x.number) (has_number M x.number) e), joined q xs d.1 rest)
          | false ↦ λ e rest. (
            (λ k up h. elim (one_of (q k) (has_number M k) h) [
              | inl a ↦ left (q x.number) (has_number M x.number) (rest.0 k up a)
              | inr b ↦ right (q x.number) (has_number M x.number) (d.0 (ap (has_parent_in M) up ∙ b))
            ]),
            joined q xs d.1 rest.1,
          )
        ] refl p

    remain : AreGone (without s M) os (rest_of M N)
    remain = record {
      first = λ j h l.
          let t = was_there j l in
          has_rest M N j ∙ ap (λ b. b && not (has_number M j)) (g.first j (right (o == j) (has_number os j) h) t.1) ∙ ap not t.0;
      down =
          filter_kept (IsDown N) (IsDown (rest_of M N)) (stays M)
          (λ x alive d h. has_rest M N x.number ∙ ap (λ b. b && not (has_number M x.number)) (d (in_rest x.parent h)) ∙ alive) s.objects g.down;
      least = λ q e down n h. last q e down n (both_true (has_number N n) (not (has_number M n)) (sym (has_rest M N n) ∙ h));
    }
      where
        begins : (q : ℕ → Bool) → ((j : ℕ) → has_number os j ≡ true → is_some (object_at (filter (stays M) s.objects) j) ≡ true → q j ≡ true) → (j : ℕ) →
            has_number (o ∷ os) j ≡ true → is_some (object_at s.objects j) ≡ true → (b : Bool) → has_number M j ≡ b → (q j || has_number M j) ≡ true
        begins q e j i l true m = right (q j) (has_number M j) m
        begins q e j i l false m = left (q j) (has_number M j) (e j (elim (one_of (o == j) (has_number os j) i) [
          | inl same ↦ no_clash (has_number M j) (ap (has_number M) (sym (eqb-true o j same)) ∙ own) m
          | inr h ↦ h
        ]) (ap is_some (found_left M s.objects j) ∙ ap (λ b. is_some (if b then None else object_at s.objects j)) m ∙ l))

        last : (q : ℕ → Bool) → ((j : ℕ) → has_number os j ≡ true → is_some (object_at (filter (stays M) s.objects) j) ≡ true → q j ≡ true) →
            AllByRecursion (Passes q) (filter (stays M) s.objects) → (n : ℕ) → (has_number N n ≡ true) × (not (has_number M n) ≡ true) → q n ≡ true
        last q e down n h =
            elim (one_of (q n) (has_number M n) (g.least (λ k. q k || has_number M k) (λ j i l. begins q e j i l (has_number M j) refl)
            (joined q s.objects (family_down nodes s w o positive) down) n h.0)) [
              | inl a ↦ a
              | inr b ↦ let clash : not true ≡ true = ap not (sym b) ∙ h.1 in absurd cc
            ]

  one_more : ((t : State) → IsWellFormed (book nodes t) → (K : List ℕ) → AreGone t os K → fold without_live t os ≡ without t K) →
      fold without_live s (o ∷ os) ≡ without s N
  one_more rec = at (is_some (object_at s.objects o)) refl
    where
      at : (b : Bool) → is_some (object_at s.objects o) ≡ b → fold without_live s (o ∷ os) ≡ without s N
      at false dead = ap (λ b. fold without_live (if b then without_object s o else s) os) dead ∙ rec s w N (skipped dead)
      at true live =
          ap (λ b. fold without_live (if b then without_object s o else s) os) live
          ∙ rec (without s M) (left_well_formed nodes s w M (family_down nodes s w o positive) (root_stays nodes s w o positive)) (rest_of M N) (remain live)
          ∙ without_twice s M (rest_of M N) N (split live)

-- objects that go one after another are gone with all below them
pub removed : (nodes : List Node) (os : List ℕ) (s : State) → IsWellFormed (book nodes s) → (N : List ℕ) → AllByRecursion (λ o. 0 < o) os → AreGone s os N →
    fold without_live s os ≡ without s N
removed nodes [] s w N pos g = sym (without_alike s N [] none ∙ without_none s)
  where
    at : (n : ℕ) (b : Bool) → has_number N n ≡ b → has_number N n ≡ false
    at n true e =
        let clash : false ≡ true = g.least (λ k. false) (λ j h l. cc) (always (Passes (λ k. false)) (λ x p up h. cc) s.objects) n e in
        absurd cc
    at n false e = e

    none : (n : ℕ) → has_number N n ≡ has_number [] n
    none n = at n (has_number N n) refl
removed nodes (o ∷ os) s w N pos g = one_more nodes o os s w N pos.0 g (λ t v K h. removed nodes os t v K pos.1 h)

-- one object that is live
pub one_removed : (s : State) (o : ℕ) → is_some (object_at s.objects o) ≡ true → without_all s (Object o ∷ []) ≡ without_object s o
one_removed s o live = ap (λ b. if b then without_object s o else s) live

pub no_root_in : (o : ℕ) → 0 < o → contains (Object 0) (Object o ∷ []) ≡ false
no_root_in o positive = ap (λ b. b || false) (ties 0 o ∙ differs 0 o (λ e. omega arith))
