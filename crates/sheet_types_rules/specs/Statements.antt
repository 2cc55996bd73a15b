-- Well-typed resolved statements: what they bind, and how they are numbered.
use Rattle.std.specs.Prelude.{ℕ, ◌+◌, ◌==◌, ◌&&◌, Bool, true, false, List, [], ◌∷◌, ◌++◌, Option, Some, None, is_some, slice_index_or}
use Rattle.sheet_values.specs.declared.value.Kind.{Kind}
use Rattle.sheet_values.specs.declared.value.Kind.TheVariants as kind
use Rattle.sheet_columns.specs.declared.tree.Node.{Node}
use Rattle.sheet_columns.specs.Tree.{column_of, above_of}
use Rattle.sheet_columns.specs.declared.formula.Core.{Core}
use Rattle.sheet_columns.specs.declared.statement.Target.{Target}
use Rattle.sheet_columns.specs.declared.statement.CoreStatement.{CoreStatement, Let, Change, New, Delete, Check, If', For', Reply, Row_of-CoreStatement, end_of-CoreStatement as end, more_of-CoreStatement as more}
use Rattle.sheet_types_rules.specs.Formulas.{kind_in, serves, is_under, is_object, is_state, ◌>>◌}

-- this, where the test holds
abbrev pub where_so : {A : Type 0} → Bool → A → Option A
where_so true a = Some a
where_so false a = None

-- whether a formula is well typed, and its type serves where that one is wanted
abbrev pub suits : Kind → Option Kind → Bool
suits wanted None = false
suits wanted (Some k) = serves wanted k

-- whether a target's column stands directly under that of its object
abbrev pub is_placed : List Node → Option Kind → ℕ → Bool
is_placed n None c = false
is_placed n (Some k) c = is_under n k c

-- whether what a formula gives can be deleted: objects below the root, or a set whose type isn't known
abbrev pub is_deletable : List Node → Option Kind → Bool
is_deletable n None = false
is_deletable n (Some kind.Unknown) = true
is_deletable n (Some kind.Truth) = false
is_deletable n (Some kind.Number) = false
is_deletable n (Some kind.Text) = false
is_deletable n (Some (kind.Object c)) = is_some (above_of n c)

-- `n` is the tree of columns, `k` the types of columns and `v` those of positions
abbrev pub changes_state : Target → Core → List Node → List Kind → List Kind → Bool
changes_state t e n k v =
    is_placed n (kind_in t.object n k v) t.column && is_state (column_of n t.column) && suits (slice_index_or k t.column kind.Unknown) (kind_in e n k v)

-- whether a target is an object column directly under its objects
abbrev pub makes_object : Target → List Node → List Kind → List Kind → Bool
makes_object t n k v = is_placed n (kind_in t.object n k v) t.column && is_object (column_of n t.column)

abbrev mutual
  -- the types of the positions behind a statement, where it is well typed
  pub behind : CoreStatement → List Node → List Kind → List Kind → Option (List Kind)
  behind (Let i e) n k v = kind_in e n k v >> (λ x. Some (v ++ x ∷ []))
  behind (Change i how t e) n k v = where_so (changes_state t e n k v) v
  behind (New i t) n k v = where_so (makes_object t n k v) (v ++ kind.Object t.column ∷ [])
  behind (Delete i e) n k v = where_so (is_deletable n (kind_in e n k v)) v
  behind (Check i e message) n k v = where_so (suits kind.Truth (kind_in e n k v)) v
  behind (If' i e _ body _ otherwise) n k v =
      where_so (suits kind.Truth (kind_in e n k v)) v >> (λ u. behind_all body n k v >> (λ x. behind_all otherwise n k v >> (λ y. Some v)))
  behind (For' i e _ body) n k v = kind_in e n k v >> (λ x. behind_all body n k (v ++ x ∷ []) >> (λ u. Some v))
  behind (Reply i e) n k v = kind_in e n k v >> (λ x. Some v)

  -- behind statements in order
  pub behind_all : {m : _} → Row_of-CoreStatement m → List Node → List Kind → List Kind → Option (List Kind)
  behind_all end n k v = Some v
  behind_all (more x rest) n k v = behind x n k v >> (λ u. behind_all rest n k u)

-- the same of a list
abbrev pub behind_list : List CoreStatement → List Node → List Kind → List Kind → Option (List Kind)
behind_list [] n k v = Some v
behind_list (x ∷ xs) n k v = behind x n k v >> (λ u. behind_list xs n k u)

-- the number behind this one, where it is `i`
abbrev pub counted : ℕ → ℕ → Option ℕ
counted j i = where_so (j == i) (i + 1)

abbrev mutual
  -- the number behind those of a statement, where it and those inside it are numbered from `i` on, it first
  pub numbered : CoreStatement → ℕ → Option ℕ
  numbered (Let j e) i = counted j i
  numbered (Change j how t e) i = counted j i
  numbered (New j t) i = counted j i
  numbered (Delete j e) i = counted j i
  numbered (Check j e message) i = counted j i
  numbered (If' j e _ body _ otherwise) i = counted j i >> (λ a. numbered_all body a >> (λ b. numbered_all otherwise b))
  numbered (For' j e _ body) i = counted j i >> (λ a. numbered_all body a)
  numbered (Reply j e) i = counted j i

  pub numbered_all : {m : _} → Row_of-CoreStatement m → ℕ → Option ℕ
  numbered_all end i = Some i
  numbered_all (more x rest) i = numbered x i >> (λ a. numbered_all rest a)

-- the same of a list
abbrev pub numbered_list : List CoreStatement → ℕ → Option ℕ
numbered_list [] i = Some i
numbered_list (x ∷ xs) i = numbered x i >> (λ a. numbered_list xs a)
