-- A tree in which a column holds something else.
use Rattle.std.proofs.Common.{◌≡◌, ℕ, ◌+◌, ◌<◌, ◌≤◌, zero, suc, Bool, true, List, [], ◌∷◌, length, map, Option, Some, None, refl, sym, ap, ◌∙◌, subst, arith}
use Rattle.std.specs.Prelude.{codes, slice_get, slice_set, option_map, option_and_then, unwrap_or}
use Rattle.std.proofs.lemmas.List.{length-map}
use Rattle.std.proofs.lemmas.Option.{slice_get_within}
use Rattle.sheet_columns.specs.declared.tree.Column.{Column}
use Rattle.sheet_columns.specs.declared.tree.Column.TheVariants.{Object, State, Formula}
use Rattle.sheet_columns.specs.declared.tree.Node.{Node}
use Rattle.sheet_columns.specs.Contents.{holds_objects, holding, with_column}
use Rattle.sheet_columns.specs.Tree.{root, column_of, going_down, depth, HasFittingFirst, IsUnder, IsTree}

-- what of a column others rest on: where it stands, its name, and whether it holds objects
abbrev pub shape : Node → Option ℕ × List ℕ × Bool
shape n = (n.above, n.name, holds_objects n.column)

pub record IsLike (m n : Node) : Type 0 where
  pub above : m.above ≡ n.above
  pub name : m.name ≡ n.name
  pub objects : holds_objects m.column ≡ holds_objects n.column

-- two lists of columns that differ at most in what state and formula columns hold
pub record AreLike (ms ns : List Node) : Type 0 where
  pub same : map shape ms ≡ map shape ns

get_map : (ns : List Node) (k : ℕ) → slice_get (map shape ns) k ≡ option_map shape (slice_get ns k)
get_map [] k = refl
get_map (n ∷ ns) zero = refl
get_map (n ∷ ns) (suc k) = get_map ns k

like_some : (o p : Option Node) → option_map shape o ≡ option_map shape p → (m : Node) → o ≡ Some m → (n : Node) × (p ≡ Some n) × IsLike m n
like_some None p e m is = cc
like_some (Some k) None e m is = cc
like_some (Some k) (Some n) e m is =
    let same : m ≡ k = cc in
    let t : shape k ≡ shape n = cc in (
      n,
      refl,
      record {
        above = ap (λ (j : Node). j.above) same ∙ ap (λ s. s.0) t;
        name = ap (λ (j : Node). j.name) same ∙ ap (λ s. s.1) t;
        objects = ap (λ (j : Node). holds_objects j.column) same ∙ ap (λ s. s.2) t;
      },
    )

-- the column of that number in the other list
pub like_at : (ms ns : List Node) → AreLike ms ns → (k : ℕ) (m : Node) → slice_get ms k ≡ Some m → (n : Node) × (slice_get ns k ≡ Some n) × IsLike m n
like_at ms ns like k m got =
    like_some (slice_get ms k) (slice_get ns k) (sym (get_map ms k) ∙ ap (λ t. slice_get t k) like.same ∙ get_map ns k) m got

pub like_back : (ms ns : List Node) → AreLike ms ns → AreLike ns ms
like_back ms ns like = record { same = sym like.same }

pub like_length : (ms ns : List Node) → AreLike ms ns → length ms ≡ length ns
like_length ms ns like = sym (length-map ms shape) ∙ ap length like.same ∙ length-map ns shape

objects_only : (x : Column) → holds_objects x ≡ true → x ≡ Object
objects_only Object e = refl
objects_only (State k one first) e = cc
objects_only (Formula k) e = cc

object_some : (o : Option Node) → option_map (λ (n : Node). n.column) o ≡ Some Object → (n : Node) × (o ≡ Some n) × (n.column ≡ Object)
object_some None e = cc
object_some (Some n) e = (n, refl, cc)

-- object columns are object columns in the other list
pub like_object : (ms ns : List Node) → AreLike ms ns → (k : ℕ) → column_of ns k ≡ Some Object → column_of ms k ≡ Some Object
like_object ms ns like k e =
    let old = object_some (slice_get ns k) e in
    let new = like_at ns ms (like_back ms ns like) k old.0 old.1 in
    ap (option_map (λ (n : Node). n.column)) new.1 ∙ ap Some (objects_only new.0.column (sym new.2.objects ∙ ap holds_objects old.2))

module _ {A : Type 0} (start : A) (next : A → Node → A) (fair : (a : A) (m n : Node) → IsLike m n → next a m ≡ next a n) where
  step_like : (r s : ℕ → A) → ((k : ℕ) → r k ≡ s k) → (o p : Option Node) → option_map shape o ≡ option_map shape p
      → unwrap_or (option_and_then (λ (n : Node). option_map (λ above. next (r above) n) n.above) o) start
      ≡ unwrap_or (option_and_then (λ (n : Node). option_map (λ above. next (s above) n) n.above) p) start
  step_like r s same None None e = refl
  step_like r s same None (Some n) e = cc
  step_like r s same (Some m) None e = cc
  step_like r s same (Some m) (Some n) e =
      let like = (like_some (Some m) (Some n) e m refl) in
      let is : like.0 ≡ n = cc in
      at (subst (IsLike m) is like.2)
    where
      under : (o : Option ℕ) → IsLike m n
          → unwrap_or (option_map (λ above. next (r above) m) o) start ≡ unwrap_or (option_map (λ above. next (s above) n) o) start
      under None like = refl
      under (Some a) like = ap (λ v. next v m) (same a) ∙ fair (s a) m n like

      at : IsLike m n → unwrap_or (option_map (λ above. next (r above) m) m.above) start ≡ unwrap_or (option_map (λ above. next (s above) n) n.above) start
      at like = under m.above like ∙ ap (λ o. unwrap_or (option_map (λ above. next (s above) n) o) start) like.above

  -- the way down to a column is the same
  pub going_like : (ms ns : List Node) → AreLike ms ns → (f c : ℕ) → going_down start next f ms c ≡ going_down start next f ns c
  going_like ms ns like zero c = refl
  going_like ms ns like (suc f) c =
      step_like (going_down start next f ms) (going_down start next f ns) (going_like ms ns like f) (slice_get ms c) (slice_get ns c)
      (sym (get_map ms c) ∙ ap (λ t. slice_get t c) like.same ∙ get_map ns c)

pub depth_like : (ms ns : List Node) → AreLike ms ns → (c : ℕ) → depth ms c ≡ depth ns c
depth_like ms ns like c = going_like 0 (λ d n. d + 1) (λ a m n e. refl) ms ns like c c

root_like : (m : Node) → IsLike m root → m ≡ root
root_like m like = node m.above m.name m.column like.above like.name (objects_only m.column like.objects)
  where
    node : (a : Option ℕ) (name : List ℕ) (x : Column) → a ≡ None → name ≡ codes "$" → x ≡ Object → record { above = a; name = name; column = x } ≡ root
    node a name x ea en ex = cc

-- what is like a tree is one, where first values are of their columns' kinds
pub tree_like : (ms ns : List Node) → AreLike ms ns → IsTree ns → ((c : ℕ) (m : Node) → slice_get ms c ≡ Some m → HasFittingFirst m.column) → IsTree ms
tree_like ms ns like tree fitting = record {
  first =
      let new = like_at ns ms (like_back ms ns like) 0 root tree.first in
      new.1 ∙ ap Some (root_like new.0 (record { above = sym new.2.above; name = sym new.2.name; objects = sym new.2.objects }));
  few = let e = like_length ms ns like in omega (arith, tree.few);
  placed = λ c m got. let old = like_at ms ns like c m got in
      under c m.above (subst (IsUnder ns c) (sym old.2.above) (tree.placed c old.0 old.1));
  shallow = λ c lt. let e = depth_like ms ns like c in let d = tree.shallow c (let l = like_length ms ns like in omega arith) in omega arith;
  short = λ c m got. let old = like_at ms ns like c m got in subst (λ l. length l ≤ 63) (sym old.2.name) (tree.short c old.0 old.1);
  fitting = fitting;
  distinct = λ b c m n got_m got_n same_above same_name.
      let old_m = like_at ms ns like b m got_m in
      let old_n = like_at ms ns like c n got_n in
      tree.distinct b c old_m.0 old_n.0 old_m.1 old_n.1 (sym old_m.2.above ∙ same_above ∙ old_n.2.above) (sym old_m.2.name ∙ same_name ∙ old_n.2.name);
}
  where
    under : (c : ℕ) (o : Option ℕ) → IsUnder ns c o → IsUnder ms c o
    under c None u = u
    under c (Some a) u = (u.0, like_object ms ns like a u.1)

some_within : (nodes : List Node) (c : ℕ) (o : Option Node) (b : Bool) → slice_get nodes c ≡ o → option_map (λ (n : Node). holds_objects n.column) o ≡ Some b
    → c < length nodes
some_within nodes c None b got e = cc
some_within nodes c (Some n) b got e = slice_get_within nodes c n got

map_map : (o : Option Node) → option_map holds_objects (option_map (λ (n : Node). n.column) o) ≡ option_map (λ (n : Node). holds_objects n.column) o
map_map None = refl
map_map (Some n) = refl

-- a column that is told of is counted
pub alike_within : (nodes : List Node) (c : ℕ) (b : Bool) → option_map holds_objects (column_of nodes c) ≡ Some b → c < length nodes
alike_within nodes c b e = some_within nodes c (slice_get nodes c) b refl (sym (map_map (slice_get nodes c)) ∙ e)

-- the write of one place is the tree with that column changed
pub set_is : (nodes : List Node) (c : ℕ) (n : Node) (x : Column) → slice_get nodes c ≡ Some n → slice_set nodes c (holding n x) ≡ with_column nodes c x
set_is [] c n x got = cc
set_is (m ∷ nodes) zero n x got = let same : n ≡ m = cc in ap (λ (k : Node). holding k x ∷ nodes) same
set_is (m ∷ nodes) (suc c) n x got = ap (λ t. m ∷ t) (set_is nodes c n x got)

changed_same : (nodes : List Node) (c : ℕ) (x : Column) → option_map holds_objects (column_of nodes c) ≡ Some (holds_objects x)
    → map shape (with_column nodes c x) ≡ map shape nodes
changed_same [] c x alike = refl
changed_same (n ∷ nodes) zero x alike =
    let e : holds_objects n.column ≡ holds_objects x = cc in ap (λ b. (n.above, n.name, b) ∷ map shape nodes) (sym e)
changed_same (n ∷ nodes) (suc c) x alike = ap (λ t. shape n ∷ t) (changed_same nodes c x alike)

pub changed_like : (nodes : List Node) (c : ℕ) (x : Column) → option_map holds_objects (column_of nodes c) ≡ Some (holds_objects x)
    → AreLike (with_column nodes c x) nodes
changed_like nodes c x alike = record { same = changed_same nodes c x alike }

changed_fitting : (nodes : List Node) (c : ℕ) (x : Column) → HasFittingFirst x → ((k : ℕ) (n : Node) → slice_get nodes k ≡ Some n → HasFittingFirst n.column)
    → (k : ℕ) (m : Node) → slice_get (with_column nodes c x) k ≡ Some m → HasFittingFirst m.column
changed_fitting [] c x here olds k m got = cc
changed_fitting (n ∷ nodes) zero x here olds zero m got = let same : holding n x ≡ m = cc in subst (λ (j : Node). HasFittingFirst j.column) same here
changed_fitting (n ∷ nodes) zero x here olds (suc k) m got = olds (suc k) m got
changed_fitting (n ∷ nodes) (suc c) x here olds zero m got = olds 0 m got
changed_fitting (n ∷ nodes) (suc c) x here olds (suc k) m got = changed_fitting nodes c x here (λ j. olds (suc j)) k m got

-- a tree in which a column holds something else of its sort is a tree
pub tree_set : (nodes : List Node) → IsTree nodes → (c : ℕ) (x : Column) → option_map holds_objects (column_of nodes c) ≡ Some (holds_objects x)
    → HasFittingFirst x → IsTree (with_column nodes c x)
tree_set nodes tree c x alike fitting =
    tree_like (with_column nodes c x) nodes (changed_like nodes c x alike) tree (changed_fitting nodes c x fitting tree.fitting)
