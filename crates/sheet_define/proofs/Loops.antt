-- The loops of the readers.
use Rattle.std.proofs.Common.{◌≡◌, ℕ, zero, suc, ◌+◌, ◌-◌, ◌<◌, length, List, [], ◌∷◌, ◌++◌, Some, None, Ok, Err, true, false, refl, sym, ap, ◌∙◌, arith}
use Rattle.std.proofs.Common.{append_assoc, append-nil}
use Rattle.std.specs.Prelude.{Option, Bool, if◌then◌else◌}
use Rattle.sheet_syntax_trees.specs.declared.token.Token.{Token}
use Rattle.sheet_syntax_trees.specs.declared.token.SyntaxRefusal.{SyntaxRefusal}
use Rattle.sheet_syntax_trees.specs.declared.token.SyntaxRefusal.TheVariants.{BadToken, NumberTooWide, Expected, TooNested, NoMemory}
use Rattle.sheet_syntax_trees.specs.Tokens.{Reads}
use Rattle.sheet_syntax_trees.specs.declared.tree.Formed.{Formed}
use Rattle.sheet_syntax_trees.specs.Reading.{Answer, ◌>>=◌, offset, or_expected, with_rest, name_of, name_at, step_of, made}
use Rattle.sheet_syntax_trees.proofs.Answering.{name_ok}
use Rattle.sheet_define_data.specs.declared.definition.Declaration.{Declaration}
use Rattle.sheet_define_data.specs.declared.definition.Parameter.{Parameter}
use Rattle.sheet_define_data.specs.declared.statement.Target.{Target}
use Rattle.sheet_define_reading.specs.declared.mark.Mark.{Mark}
use Rattle.sheet_define_reading.specs.declared.mark.Mark.TheVariants as mark
use Rattle.sheet_define_reading.specs.Marks.{mark_of, same_mark}
use Rattle.sheet_define_reading.specs.Reading as reading
use Rattle.sheet_define_reading.specs.Reading.{Bounds, Reader, after, expect, alone, with_front, many, many_by, more_names, more_parameters, parameter, closed}
use Rattle.sheet_define_reading.specs.Reading.{last_step, step_by, statement_by, block, declarations, ended, turn_by, found_list, usual, whole_definition}
use Rattle.sheet_define_reading.proofs.MarkLemmas.{same_self, other_mark}
use Rattle.sheet_define_reading.proofs.WholeCompleteness.{none_before}

-- ---- things before others

pub nothing_before : {A : Type 0} (r : Answer (List A × List Token)) → with_front [] r ≡ r
nothing_before (Ok x) = refl
nothing_before (Err e) = refl

pub both_before : {A : Type 0} (a b : List A) (r : Answer (List A × List Token)) → with_front a (with_front b r) ≡ with_front (a ++ b) r
both_before a b (Ok x) = ap (λ l. Ok (l, x.1)) (sym (append_assoc a b x.0))
both_before a b (Err e) = refl

pub things_before : {A : Type 0} (a : List A) (rest : List Token) → with_front a (Ok ([], rest)) ≡ Ok (a, rest)
things_before a rest = ap (λ l. Ok (l, rest)) (append-nil a)

-- ---- things of a kind up to a closing brace

pub many_over : {A : Type 0} (end : ℕ) (one : Token → List Token → Mark → Answer (A × List Token)) (n : ℕ) (ts : List Token) → n ≡ 0 →
    many end one n ts ≡ Err (Expected (offset end ts))
unfolding many
many_over end one n [] none = refl
many_over end one n (t ∷ ts) none = rw none refl

pub many_none : {A : Type 0} (end : ℕ) (one : Token → List Token → Mark → Answer (A × List Token)) (n : ℕ) (ts : List Token) → ts ≡ [] →
    many end one n ts ≡ Err (Expected end)
unfolding many
many_none end one n ts none = rw none refl

many_closed : {A : Type 0} (end : ℕ) (one : Token → List Token → Mark → Answer (A × List Token)) (n m : ℕ) (t : Token) (ts us : List Token) → n ≡ suc m →
    ts ≡ t ∷ us → mark_of t.kind ≡ mark.CloseBrace → many end one n ts ≡ Ok ([], us)
unfolding many
many_closed end one n m t ts us more is closes = let test = same_self (mark_of t.kind) mark.CloseBrace closes in rw (more, is, test) refl

-- the things so far, at the closing brace
pub many_ended : {A : Type 0} (end : ℕ) (one : Token → List Token → Mark → Answer (A × List Token)) (n m : ℕ) (t : Token) (ts us : List Token) → n ≡ suc m →
    ts ≡ t ∷ us → mark_of t.kind ≡ mark.CloseBrace → (front : List A)
    → with_front front (many end one n ts) ≡ Ok (front, us)
many_ended end one n m t ts us more is closes front = ap (with_front front) (many_closed end one n m t ts us more is closes) ∙ things_before front us

many_by_one : {A : Type 0} (end : ℕ) (one : Token → List Token → Mark → Answer (A × List Token)) (n m : ℕ) (t : Token) (ts us : List Token) → n ≡ suc m →
    ts ≡ t ∷ us → (mark_of t.kind ≡ mark.CloseBrace → ⊥)
    → many end one n ts ≡ (one t us (mark_of t.kind) >>= (λ x. with_front (x.0 ∷ []) (many end one m x.1)))
unfolding many
many_by_one end one n m t ts us more is opens = let test = other_mark (mark_of t.kind) mark.CloseBrace opens in rw (more, is, test) refl

pub many_on : {A : Type 0} (end : ℕ) (one : Token → List Token → Mark → Answer (A × List Token)) (n m : ℕ) (t : Token) (ts us : List Token) (x : A)
    (rest : List Token) → n ≡ suc m → ts ≡ t ∷ us → (mark_of t.kind ≡ mark.CloseBrace → ⊥)
    → one t us (mark_of t.kind) ≡ Ok (x, rest) → (front : List A) → with_front (front ++ x ∷ []) (many end one m rest) ≡ with_front front (many end one n ts)
many_on end one n m t ts us x rest more is opens e front =
    sym (both_before front (x ∷ []) (many end one m rest))
    ∙ ap (with_front front) (sym (many_by_one end one n m t ts us more is opens ∙ ap (λ r. r >>= (λ x. with_front (x.0 ∷ []) (many end one m x.1))) e))

pub many_stopped : {A : Type 0} (end : ℕ) (one : Token → List Token → Mark → Answer (A × List Token)) (n m : ℕ) (t : Token) (ts us : List Token)
    (d : SyntaxRefusal) → n ≡ suc m → ts ≡ t ∷ us → (mark_of t.kind ≡ mark.CloseBrace → ⊥)
    → one t us (mark_of t.kind) ≡ Err d → (front : List A) → with_front front (many end one n ts) ≡ Err d
many_stopped end one n m t ts us d more is opens e front =
    ap (with_front front) (many_by_one end one n m t ts us more is opens ∙ ap (λ r. r >>= (λ x. with_front (x.0 ∷ []) (many end one m x.1))) e)

pub one_less : (n k : ℕ) → k < n → n - k ≡ suc (n - (k + 1))
one_less n k h = omega arith

-- ---- blocks

pub block_refused : (s : Bounds) (n : ℕ) (ts : List Token) (d : SyntaxRefusal) → ◌≡◌ {A = Answer (List Token)} (expect s.end mark.OpenBrace ts) (Err d) →
    block s n ts ≡ Err d
unfolding block
block_refused s zero ts d e = ap (λ r. r >>= (λ rest. Err (TooNested (offset s.end ts)))) e
block_refused s (suc n) ts d e = ap (λ r. r >>= (λ a. many s.end (statement_by s (λ rest. block s n rest)) (length a) a)) e

pub block_over : (s : Bounds) (n : ℕ) (ts rest : List Token) → n ≡ 0 → ◌≡◌ {A = Answer (List Token)} (expect s.end mark.OpenBrace ts) (Ok rest) →
    block s n ts ≡ Err (TooNested (offset s.end ts))
unfolding block
block_over s zero ts rest none e = ap (λ r. r >>= (λ rest. Err (TooNested (offset s.end ts)))) e
block_over s (suc n) ts rest none e = absurd (omega arith)

pub block_on : (s : Bounds) (n m : ℕ) (ts a : List Token) → n ≡ suc m → ◌≡◌ {A = Answer (List Token)} (expect s.end mark.OpenBrace ts) (Ok a) →
    block s n ts ≡ many s.end (statement_by s (λ rest. block s m rest)) (length a) a
unfolding block
block_on s n m ts a more e = rw more (ap (λ r. r >>= (λ a. many s.end (statement_by s (λ rest. block s m rest)) (length a) a)) e)

-- ---- names of a path

after_cond : (b : Bool) (ts : List Token) → (if b then Some ts else None) ≡ None → b ≡ false
after_cond true ts e = let wrong : ⊥ = cc in absurd wrong
after_cond false ts e = refl

after_some : (b : Bool) (ts us : List Token) → (if b then Some ts else None) ≡ Some us → (b ≡ true) × (ts ≡ us)
after_some true ts us e = (refl, cc)
after_some false ts us e = let wrong : ⊥ = cc in absurd wrong

pub after_is : (m : Mark) (ts us : List Token) → after m ts ≡ Some us → (t : Token) × (ts ≡ t ∷ us) × (same_mark (mark_of t.kind) m ≡ true)
after_is m [] us e = let wrong : ⊥ = cc in absurd wrong
after_is m (t ∷ ts) us e = let (test, same) = after_some (same_mark (mark_of t.kind) m) ts us e in (t, ap (λ l. t ∷ l) same, test)

pub names_end : (end : ℕ) (ts : List Token) → after mark.Dot ts ≡ None → more_names end ts ≡ Ok ([], ts)
unfolding more_names
names_end end [] e = refl
names_end end (d ∷ []) e = let other = after_cond (same_mark (mark_of d.kind) mark.Dot) [] e in rw other refl
names_end end (d ∷ t ∷ ts) e = let other = after_cond (same_mark (mark_of d.kind) mark.Dot) (t ∷ ts) e in rw other refl

-- the names behind a dot
dot_names : (end : ℕ) (d : Token) (ts : List Token) → same_mark (mark_of d.kind) mark.Dot ≡ true →
    more_names end (d ∷ ts) ≡ (name_at end ts >>= (λ name. with_front (name.0 ∷ []) (more_names end name.1)))
unfolding more_names
dot_names end d [] test = rw test refl
dot_names end d (t ∷ ts) test = rw test (by (name_of t.kind)) where
  by : (o : Option (List ℕ)) →
      (or_expected t.start o >>= (λ name. with_front (name ∷ []) (more_names end ts))) ≡ (with_rest ts (or_expected t.start o) >>= (λ name.
      with_front (name.0 ∷ []) (more_names end name.1)))
  by (Some name) = refl
  by None = refl

pub names_more : (end : ℕ) (ts us : List Token) → after mark.Dot ts ≡ Some us →
    more_names end ts ≡ (name_at end us >>= (λ name. with_front (name.0 ∷ []) (more_names end name.1)))
names_more end ts us e = let (d, is, test) = after_is mark.Dot ts us e in ap (more_names end) is ∙ dot_names end d us test

pub name_shorter : (end : ℕ) (ts : List Token) (x : List ℕ × List Token) → name_at end ts ≡ Ok x → length x.1 < length ts
name_shorter end ts x e = let (t, is, named) = name_ok end ts x e in let l : length ts ≡ length (t ∷ x.1) = ap length is in omega arith

-- ---- parameters

pub parameters_end : (s : Bounds) (room : ℕ) (ts : List Token) → after mark.Comma ts ≡ None → more_parameters s room ts ≡ closed s ts
unfolding more_parameters
parameters_end s zero ts e = refl
parameters_end s (suc room) ts e = rw e refl

pub parameters_over : (s : Bounds) (room : ℕ) (ts : List Token) → room ≡ 0 → more_parameters s room ts ≡ closed s ts
unfolding more_parameters
parameters_over s room ts e = rw e refl

pub parameters_more : (s : Bounds) (n room : ℕ) (ts us : List Token) → n ≡ suc room → after mark.Comma ts ≡ Some us →
    more_parameters s n ts ≡ (parameter s us >>= (λ p. with_front (p.0 ∷ []) (more_parameters s room p.1)))
unfolding more_parameters
parameters_more s n room ts us more e = rw (more, e) refl

-- ---- the steps of a target

pub last_over : (s : Bounds) (n at line : ℕ) (f : Formed) (ts : List Token) → n ≡ 0 → last_step s n at line f ts ≡ Err (Expected (offset s.end ts))
unfolding last_step
last_over s n at line f ts e = rw e refl

pub last_by : (s : Bounds) (n m at line : ℕ) (f : Formed) (ts : List Token) → n ≡ suc m →
    last_step s n at line f ts ≡ (expect s.end mark.Dot ts >>= (λ a. step_by s at line f a (alone a) (λ g rest. last_step s m at line g rest)))
unfolding last_step
last_by s n m at line f ts e = rw e refl

-- ---- declarations

pub ended_at : (s : Bounds) (b n k : ℕ) (ts : List Token) → ts ≡ [] → declarations s b n k ts ≡ ended s.end k
unfolding declarations
ended_at s b n k ts e = rw e refl

pub over_at : (s : Bounds) (b n k : ℕ) (t : Token) (ts us : List Token) → n ≡ 0 → ts ≡ t ∷ us → declarations s b n k ts ≡ Err (Expected t.start)
unfolding declarations
over_at s b n k t ts us none e = rw (none, e) refl

pub turn_at : (s : Bounds) (b n m k : ℕ) (t : Token) (ts us : List Token) → n ≡ suc m → ts ≡ t ∷ us →
    declarations s b n k ts ≡ (turn_by s b k t us (mark_of t.kind) >>= (λ x. reading.all_before (found_list x.0) (declarations s b m x.1 x.2)))
unfolding declarations
turn_at s b n m k t ts us more e = rw (more, e) refl

-- before the first turn
pub whole_begun : (end : ℕ) (ts : List Token) (front : List Declaration) → front ≡ [] →
    reading.all_before front (declarations (usual end) 16 (length ts - 0) 0 ts) ≡ whole_definition end ts
unfolding whole_definition
whole_begun end ts front none = let all : length ts - 0 ≡ length ts = omega arith in rw (none, all) (none_before (declarations (usual end) 16 (length ts) 0 ts))

pub declared_before : (a b : List Declaration) (r : Answer (List Declaration)) → reading.all_before a (reading.all_before b r) ≡ reading.all_before (a ++ b) r
declared_before a b (Ok ds) = ap Ok (sym (append_assoc a b ds))
declared_before a b (Err e) = refl

pub closed_ok : (s : Bounds) (list : List Parameter) (ts rest : List Token) → ◌≡◌ {A = Answer (List Token)} (expect s.end mark.Close ts) (Ok rest) →
    with_front list (closed s ts) ≡ Ok (list, rest)
closed_ok s list ts rest e = ap (λ r. with_front list (r >>= (λ rest. Ok ([], rest)))) e ∙ things_before list rest

pub last_ok : (s : Bounds) (n m at line : ℕ) (f : Formed) (ts a : List Token) → n ≡ suc m → ◌≡◌ {A = Answer (List Token)} (expect s.end mark.Dot ts) (Ok a) →
    last_step s n at line f ts ≡ step_by s at line f a (alone a) (λ g rest. last_step s m at line g rest)
last_ok s n m at line f ts a more e =
    last_by s n m at line f ts more ∙ ap (λ r. r >>= (λ a. step_by s at line f a (alone a) (λ g rest. last_step s m at line g rest))) e

pub last_refused : (s : Bounds) (n m at line : ℕ) (f : Formed) (ts : List Token) (d : SyntaxRefusal) → n ≡ suc m →
    ◌≡◌ {A = Answer (List Token)} (expect s.end mark.Dot ts) (Err d) → last_step s n at line f ts ≡ Err d
last_refused s n m at line f ts d more e =
    last_by s n m at line f ts more ∙ ap (λ r. r >>= (λ a. step_by s at line f a (alone a) (λ g rest. last_step s m at line g rest))) e

pub step_lone : (s : Bounds) (at line : ℕ) (f : Formed) (a : List Token) (more : Formed → Reader Target) (x : List ℕ × List Token) → alone a ≡ Some x →
    step_by s at line f a (alone a) more ≡ Ok (record { line = line; object = Some f.tree; column = x.0 }, x.1)
step_lone s at line f a more x e = ap (λ o. step_by s at line f a o more) e

pub step_cut : (s : Bounds) (at line : ℕ) (f : Formed) (a : List Token) (more : Formed → Reader Target) → a ≡ [] →
    step_by s at line f a (alone a) more ≡ Err (Expected s.end)
step_cut s at line f a more none = ap (λ l. step_by s at line f l (alone l) more) none

pub step_on : (s : Bounds) (at line : ℕ) (f : Formed) (a : List Token) (more : Formed → Reader Target) (t : Token) (us : List Token) → alone a ≡ None →
    a ≡ t ∷ us
    → step_by s at line f a (alone a) more ≡ (or_expected t.start (step_of line f.tree t.kind) >>= (λ form. made s.depth at form f.depth >>= (λ g. more g us)))
step_on s at line f a more t us lone is = ap (λ o. step_by s at line f a o more) lone ∙ ap (λ l. step_by s at line f l None more) is
