-- The loops over parts.
use Rattle.std.proofs.Common.{◌≡◌, refl, ap, ◌∙◌, List, [], ◌∷◌, ◌++◌, Ok, Err, length, arith}
use Rattle.sheet_values.specs.declared.value.Kind.{Kind}
use Rattle.sheet_columns.specs.declared.tree.Node.{Node}
use Rattle.sheet_syntax_trees.specs.declared.tree.Tree.{Tree}
use Rattle.sheet_types_formulas.specs.declared.refusal.TypeRefusal.{TypeRefusal}
use Rattle.sheet_types_formulas.specs.declared.refusal.TypeRefusal.TheVariants.{Doubled, TooDeep, TooMany, UnknownName, Mismatch, NeedsFirst, NeedsType}
use Rattle.sheet_types_formulas.specs.declared.refusal.TypeRefusal.TheVariants.{DeclaredOther, NoMemory}
use Rattle.sheet_types_formulas.specs.declared.scope.Typed.{Typed}
use Rattle.sheet_types_formulas.specs.Answers.{Answer, Answers, ◌>>=◌}
use Rattle.sheet_types_formulas.specs.Kinds.{agreed}
use Rattle.sheet_types_formulas.specs.Names.{Reach}
use Rattle.sheet_types_formulas.specs.Forms.{all_agreed}
use Rattle.sheet_types_formulas.specs.Typing.{typed, typed_list}

-- a refusal is passed on
pub passed : {A B : Type 0} (e : TypeRefusal) (told : Answer A) (whole : Answer B) → Answers (Err e) told → ((d : TypeRefusal) → told ≡ Err d → whole ≡ Err d) →
    Answers (Err e) whole
passed (Doubled l) told whole h more = more (Doubled l) h
passed (TooDeep l) told whole h more = more (TooDeep l) h
passed (TooMany l) told whole h more = more (TooMany l) h
passed (UnknownName l) told whole h more = more (UnknownName l) h
passed (Mismatch l w f) told whole h more = more (Mismatch l w f) h
passed (NeedsFirst p) told whole h more = more (NeedsFirst p) h
passed (NeedsType p) told whole h more = more (NeedsType p) h
passed (DeclaredOther p d f) told whole h more = more (DeclaredOther p d f) h
passed NoMemory told whole h more = tt

-- ---- the agreement of parts

pub agreed_none : (n : List Node) (k : Kind) → all_agreed n k [] ≡ Ok k
unfolding all_agreed
agreed_none n k = refl

pub agreed_on : (n : List Node) (k l : Kind) (part : Typed) (parts : List Typed) → agreed n k part ≡ Ok l → all_agreed n k (part ∷ parts) ≡ all_agreed n l parts
unfolding all_agreed
agreed_on n k l part parts e = ap (λ x. x >>= (λ m. all_agreed n m parts)) e

pub agreed_refused : (n : List Node) (k : Kind) (part : Typed) (parts : List Typed) (d : TypeRefusal) → agreed n k part ≡ Err d →
    all_agreed n k (part ∷ parts) ≡ Err d
unfolding all_agreed
agreed_refused n k part parts d e = ap (λ x. x >>= (λ m. all_agreed n m parts)) e

-- ---- parts in order

pub came : {A B : Type 0} (x : Answer A) (f : A → Answer B) (t : B) → x >>= f ≡ Ok t → (a : A) × (x ≡ Ok a) × (f a ≡ Ok t)
came (Ok a) f t e = (a, refl, e)
came (Err d) f t e = let wrong : ⊥ = cc in absurd wrong

pub same_ok : {A : Type 0} (a b : A) → ◌≡◌ {A = Answer A} (Ok a) (Ok b) → a ≡ b
same_ok a b e = cc

-- some parts, and some more
pub list_append : (es fs : List Tree) (r : Reach) (ts us : List Typed) → typed_list es r ≡ Ok ts → typed_list fs r ≡ Ok us →
    typed_list (es ++ fs) r ≡ Ok (ts ++ us)
list_append [] fs r ts us h g = g ∙ ap (λ xs. Ok (xs ++ us)) (same_ok [] ts h)
list_append (e ∷ es) fs r ts us h g =
    let (x, first, rest) = came (typed e r) (λ y. typed_list es r >>= (λ ys. Ok (y ∷ ys))) ts h in
    let (xs, second, last) = came (typed_list es r) (λ ys. Ok (x ∷ ys)) ts rest in
    ap (λ a. a >>= (λ y. typed_list (es ++ fs) r >>= (λ ys. Ok (y ∷ ys)))) first
    ∙ ap (λ a. a >>= (λ ys. Ok (x ∷ ys))) (list_append es fs r xs us second g)
    ∙ ap (λ zs. Ok (zs ++ us)) (same_ok (x ∷ xs) ts last)

-- one part more
pub list_more : (es : List Tree) (e : Tree) (r : Reach) (ts : List Typed) (t : Typed) → typed_list es r ≡ Ok ts → typed e r ≡ Ok t →
    typed_list (es ++ e ∷ []) r ≡ Ok (ts ++ t ∷ [])
list_more es e r ts t h g = list_append es (e ∷ []) r ts (t ∷ []) h (ap (λ x. x >>= (λ y. Ok (y ∷ []))) g)

-- the first part that is refused
pub list_refused : (es : List Tree) (e : Tree) (others : List Tree) (r : Reach) (ts : List Typed) (d : TypeRefusal) → typed_list es r ≡ Ok ts →
    typed e r ≡ Err d → typed_list (es ++ e ∷ others) r ≡ Err d
list_refused [] e others r ts d h g = ap (λ x. x >>= (λ y. typed_list others r >>= (λ ys. Ok (y ∷ ys)))) g
list_refused (c ∷ es) e others r ts d h g =
    let (x, first, rest) = came (typed c r) (λ y. typed_list es r >>= (λ ys. Ok (y ∷ ys))) ts h in
    let (xs, second, last) = came (typed_list es r) (λ ys. Ok (x ∷ ys)) ts rest in
    ap (λ a. a >>= (λ y. typed_list (es ++ e ∷ others) r >>= (λ ys. Ok (y ∷ ys)))) first
    ∙ ap (λ a. a >>= (λ ys. Ok (x ∷ ys))) (list_refused es e others r xs d second g)

pub no_parts : (ts : List Typed) → length ts ≡ 0 → ts ≡ []
no_parts [] e = refl
no_parts (t ∷ ts) e = absurd (omega arith)
