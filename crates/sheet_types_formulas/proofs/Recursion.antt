-- The recursion over trees: one variable more, and parts in order.
use Rattle.std.proofs.Common.{◌≡◌, sym, ap, ◌∙◌, ℕ, ◌+◌, ◌<◌, zero, suc, List, [], ◌∷◌, ◌++◌, length, get_or, take, drop, append_assoc, Ok, Err, arith}
use Rattle.std.proofs.lemmas.List.{take_more, take-append-drop}
use Rattle.sheet_values.specs.declared.value.Kind.{Kind}
use Rattle.sheet_syntax_trees.specs.declared.tree.Tree.{Tree}
use Rattle.sheet_types_formulas.specs.declared.refusal.TypeRefusal.{TypeRefusal}
use Rattle.sheet_types_formulas.specs.declared.scope.Scope.{Scope}
use Rattle.sheet_types_formulas.specs.declared.scope.Typed.{Typed}
use Rattle.sheet_types_formulas.specs.declared.scope.Variable.{Variable}
use Rattle.sheet_types_formulas.specs.Answers.{Answers}
use Rattle.sheet_types_formulas.specs.Names.{Reach, reach, within, bind}
use Rattle.sheet_types_formulas.specs.Typing.{typed, typed_list}
use Rattle.sheet_types_formulas.proofs.Agreeing.{passed, list_more, list_refused}

-- a variable that is bound in a formula stands behind all others
pub bound_within : (s : Scope) (bound inner : List Variable) (name : List ℕ) (k : Kind) → inner ≡ bound ++ record { name = name; kind = k } ∷ [] →
    within s inner ≡ bind (within s bound) name k
bound_within s bound inner name k e =
    ap (λ vs. reach s.columns.now s.kinds.now (s.variables.now ++ vs)) e
    ∙ ap (reach s.columns.now s.kinds.now) (sym (append_assoc s.variables.now bound (record { name = name; kind = k } ∷ [])))

pub drop_suc : {X : Type 0} (xs : List X) (i : ℕ) (x : X) → i < length xs → x ≡ get_or xs i x → drop i xs ≡ x ∷ drop (suc i) xs
drop_suc [] i x lt is = absurd (omega arith)
drop_suc (y ∷ xs) zero x lt is = ap (λ z. z ∷ xs) (sym is)
drop_suc (y ∷ xs) (suc i) x lt is = drop_suc xs i x (omega arith) is

-- what is left of a list begins with its next element
pub drop_item : {X : Type 0} (xs : List X) (i : ℕ) (x : X) → i < length xs → x ≡ get_or xs i x → drop i xs ≡ x ∷ drop (i + 1) xs
drop_item xs i x lt is = let one : suc i ≡ i + 1 = omega arith in drop_suc xs i x lt is ∙ ap (λ k. x ∷ drop k xs) one

-- a part is typed
pub part_typed : (ps : List Tree) (i : ℕ) (p : Tree) (r : Reach) (ts us : List Typed) (t : Typed)
    → i < length ps → p ≡ get_or ps i p → typed_list (take i ps) r ≡ Ok ts → typed p r ≡ Ok t → us ≡ ts ++ t ∷ []
    → typed_list (take (i + 1) ps) r ≡ Ok us
part_typed ps i p r ts us t lt is so_far told more =
    ap (λ es. typed_list es r) (take_more ps i p lt ∙ ap (λ e. take i ps ++ e ∷ []) (sym is))
    ∙ list_more (take i ps) p r ts t so_far told
    ∙ ap Ok (sym more)

-- a part is refused
pub part_refused : (ps : List Tree) (i : ℕ) (p : Tree) (r : Reach) (ts : List Typed) (e : TypeRefusal)
    → i < length ps → p ≡ get_or ps i p → typed_list (take i ps) r ≡ Ok ts → Answers (Err e) (typed p r)
    → Answers (Err e) (typed_list ps r)
part_refused ps i p r ts e lt is so_far told =
    passed e (typed p r) (typed_list ps r) told
    (λ d h.
    ap (λ es. typed_list es r) (sym (take-append-drop i ps) ∙ ap (λ es. take i ps ++ es) (drop_item ps i p lt is))
    ∙ list_refused (take i ps) p (drop (i + 1) ps) r ts d so_far h)
