-- The marks with which something begins, and what the small readers answer where their tokens stand.
use Rattle.std.proofs.Common.{◌≡◌, ℕ, zero, suc, ◌+◌, ◌-◌, ◌<◌, ◌≤◌, List, [], ◌∷◌, ◌++◌, length, true, false, Some, None, Ok, Err, refl, sym, ap, ◌∙◌, subst}
use Rattle.std.proofs.Common.{arith}
use Rattle.std.specs.Prelude.{Bool, Option, if◌then◌else◌}
use Rattle.sheet_syntax_trees.specs.declared.token.Token.{Token}
use Rattle.sheet_syntax_trees.specs.declared.token.TokenKind.{TokenKind}
use Rattle.sheet_syntax_trees.specs.declared.token.TokenKind.TheVariants as kind
use Rattle.sheet_syntax_trees.specs.Signs.{sign_of}
use Rattle.sheet_syntax_trees.specs.Reading.{Answer, ◌>>=◌, sign_at, name_at}
use Rattle.sheet_syntax_trees.proofs.Binding.{binding}
use Rattle.sheet_define_reading.specs.declared.mark.Mark.{Mark}
use Rattle.sheet_define_reading.specs.declared.mark.Mark.TheVariants as mark
use Rattle.sheet_define_reading.specs.Marks.{mark_of, mark_rank, same_mark}
use Rattle.sheet_define_reading.specs.Reading.{mark_at, after, expect}
use Rattle.sheet_define_reading.proofs.MarkLemmas.{spelling, spelled, same_self, other_mark}

-- a word that begins a declaration, a part or a statement
abbrev pub begins : Mark → Bool
begins mark.Object = true
begins mark.State = true
begins mark.Formula = true
begins mark.Callers = true
begins mark.Procedure = true
begins mark.View = true
begins mark.Let = true
begins mark.Set = true
begins mark.Add = true
begins mark.Remove = true
begins mark.New = true
begins mark.Delete = true
begins mark.Check = true
begins mark.Reply = true
begins mark.If = true
begins mark.For = true
begins mark.Show = true
begins mark.Table = true
begins _ = false

-- such a word or a closing brace
abbrev pub clear : Mark → Bool
clear mark.CloseBrace = true
clear m = begins m

abbrev pub clear_at : List Token → Bool
clear_at [] = true
clear_at (t ∷ ts) = clear (mark_of t.kind)

spelling_mark : (m : Mark) → mark_of (spelling m) ≡ m
spelling_mark mark.Other = refl
spelling_mark mark.Add = refl
spelling_mark mark.Allow = refl
spelling_mark mark.Callers = refl
spelling_mark mark.Check = refl
spelling_mark mark.Delete = refl
spelling_mark mark.Else = refl
spelling_mark mark.False = refl
spelling_mark mark.For = refl
spelling_mark mark.Formula = refl
spelling_mark mark.From = refl
spelling_mark mark.If = refl
spelling_mark mark.In = refl
spelling_mark mark.Let = refl
spelling_mark mark.New = refl
spelling_mark mark.Number = refl
spelling_mark mark.Object = refl
spelling_mark mark.One = refl
spelling_mark mark.Procedure = refl
spelling_mark mark.Remove = refl
spelling_mark mark.Reply = refl
spelling_mark mark.Set = refl
spelling_mark mark.Show = refl
spelling_mark mark.State = refl
spelling_mark mark.Table = refl
spelling_mark mark.Text = refl
spelling_mark mark.To = refl
spelling_mark mark.True = refl
spelling_mark mark.Truth = refl
spelling_mark mark.Up = refl
spelling_mark mark.View = refl
spelling_mark mark.Open = refl
spelling_mark mark.Close = refl
spelling_mark mark.OpenBrace = refl
spelling_mark mark.CloseBrace = refl
spelling_mark mark.Colon = refl
spelling_mark mark.Comma = refl
spelling_mark mark.Dot = refl
spelling_mark mark.Equals = refl
spelling_mark mark.Minus = refl

pub marked : (k : TokenKind) (m : Mark) → k ≡ spelling m → mark_of k ≡ m
marked k m is = ap mark_of is ∙ spelling_mark m

clear_some : (m : Mark) → clear m ≡ true → 0 < mark_rank m
clear_some mark.Object e = omega arith
clear_some mark.State e = omega arith
clear_some mark.Formula e = omega arith
clear_some mark.Callers e = omega arith
clear_some mark.Procedure e = omega arith
clear_some mark.View e = omega arith
clear_some mark.Let e = omega arith
clear_some mark.Set e = omega arith
clear_some mark.Add e = omega arith
clear_some mark.Remove e = omega arith
clear_some mark.New e = omega arith
clear_some mark.Delete e = omega arith
clear_some mark.Check e = omega arith
clear_some mark.Reply e = omega arith
clear_some mark.If e = omega arith
clear_some mark.For e = omega arith
clear_some mark.Show e = omega arith
clear_some mark.Table e = omega arith
clear_some mark.CloseBrace e = omega arith
clear_some _ e = let wrong : ⊥ = cc in absurd wrong

clear_loose : (m : Mark) → clear m ≡ true → 6 < binding (sign_of (spelling m))
clear_loose mark.Object e = omega arith
clear_loose mark.State e = omega arith
clear_loose mark.Formula e = omega arith
clear_loose mark.Callers e = omega arith
clear_loose mark.Procedure e = omega arith
clear_loose mark.View e = omega arith
clear_loose mark.Let e = omega arith
clear_loose mark.Set e = omega arith
clear_loose mark.Add e = omega arith
clear_loose mark.Remove e = omega arith
clear_loose mark.New e = omega arith
clear_loose mark.Delete e = omega arith
clear_loose mark.Check e = omega arith
clear_loose mark.Reply e = omega arith
clear_loose mark.If e = omega arith
clear_loose mark.For e = omega arith
clear_loose mark.Show e = omega arith
clear_loose mark.Table e = omega arith
clear_loose mark.CloseBrace e = omega arith
clear_loose _ e = let wrong : ⊥ = cc in absurd wrong

-- no formula goes on with what is clear
pub clear_binding : (ts : List Token) → clear_at ts ≡ true → 6 < binding (sign_at ts)
clear_binding [] e = omega arith
clear_binding (t ∷ ts) e =
    subst (λ k. 6 < binding (sign_of k)) (sym (spelled t.kind (mark_of t.kind) refl (clear_some (mark_of t.kind) e))) (clear_loose (mark_of t.kind) e)

pub begins_clear : (m : Mark) → begins m ≡ true → clear m ≡ true
begins_clear mark.Object e = refl
begins_clear mark.State e = refl
begins_clear mark.Formula e = refl
begins_clear mark.Callers e = refl
begins_clear mark.Procedure e = refl
begins_clear mark.View e = refl
begins_clear mark.Let e = refl
begins_clear mark.Set e = refl
begins_clear mark.Add e = refl
begins_clear mark.Remove e = refl
begins_clear mark.New e = refl
begins_clear mark.Delete e = refl
begins_clear mark.Check e = refl
begins_clear mark.Reply e = refl
begins_clear mark.If e = refl
begins_clear mark.For e = refl
begins_clear mark.Show e = refl
begins_clear mark.Table e = refl
begins_clear _ e = let wrong : ⊥ = cc in absurd wrong

pub begins_open : (m : Mark) → begins m ≡ true → same_mark m mark.CloseBrace ≡ false
begins_open mark.Object e = refl
begins_open mark.State e = refl
begins_open mark.Formula e = refl
begins_open mark.Callers e = refl
begins_open mark.Procedure e = refl
begins_open mark.View e = refl
begins_open mark.Let e = refl
begins_open mark.Set e = refl
begins_open mark.Add e = refl
begins_open mark.Remove e = refl
begins_open mark.New e = refl
begins_open mark.Delete e = refl
begins_open mark.Check e = refl
begins_open mark.Reply e = refl
begins_open mark.If e = refl
begins_open mark.For e = refl
begins_open mark.Show e = refl
begins_open mark.Table e = refl
begins_open _ e = let wrong : ⊥ = cc in absurd wrong

-- what a token of another mark is not
pub other_at : (t : Token) (m n : Mark) → t.kind ≡ spelling m → same_mark m n ≡ false → same_mark (mark_of t.kind) n ≡ false
other_at t m n is other = ap (λ k. same_mark k n) (marked t.kind m is) ∙ other

test_none : (b : Bool) (ts : List Token) → b ≡ false → (if b then Some ts else None) ≡ None
test_none b ts e = rw e refl

pub after_other : (t : Token) (ts : List Token) (m n : Mark) → t.kind ≡ spelling m → same_mark m n ≡ false → after n (t ∷ ts) ≡ None
after_other t ts m n is other = test_none (same_mark (mark_of t.kind) n) ts (other_at t m n is other)

pub after_name_token : (t : Token) (ts : List Token) (name : List ℕ) (n : Mark) → t.kind ≡ kind.Name name → 0 < mark_rank n → after n (t ∷ ts) ≡ None
after_name_token t ts name n is some =
    test_none (same_mark (mark_of t.kind) n) ts (ap (λ k. same_mark (mark_of k) n) is
    ∙ other_mark mark.Other n (λ e. let none : 0 ≡ mark_rank n = ap mark_rank e in omega arith))

-- what is clear begins with no token of a mark that isn't
pub clear_other : (m : Mark) → clear m ≡ false → 0 < mark_rank m → (ts : List Token) → clear_at ts ≡ true → same_mark (mark_at ts) m ≡ false
clear_other m unlike some [] e = other_mark mark.Other m (λ same. let none : 0 ≡ mark_rank m = ap mark_rank same in omega arith)
clear_other m unlike some (t ∷ ts) e =
    other_mark (mark_of t.kind) m (λ same. let wrong : true ≡ false = sym e ∙ ap clear same ∙ unlike in let unlike : ⊥ = cc in unlike)

pub clear_after : (m : Mark) → clear m ≡ false → 0 < mark_rank m → (ts : List Token) → clear_at ts ≡ true → after m ts ≡ None
clear_after m unlike some [] e = refl
clear_after m unlike some (t ∷ ts) e = test_none (same_mark (mark_of t.kind) m) ts (clear_other m unlike some (t ∷ ts) e)

-- ---- what is read where it stands

pub then_given : {A B : Type 0} (r : Answer A) (x : A) (k : A → Answer B) (y : Answer B) → ◌≡◌ {A = Answer A} r (Ok x) → ◌≡◌ {A = Answer B} (k x) y →
    ◌≡◌ {A = Answer B} (r >>= k) y
then_given r x k y e h = ap (λ r. r >>= k) e ∙ h

pub after_given : (m : Mark) (t : Token) (ts : List Token) → t.kind ≡ spelling m → after m (t ∷ ts) ≡ Some ts
after_given m t ts is = let test = same_self (mark_of t.kind) m (marked t.kind m is) in rw test refl

pub expect_given : (end : ℕ) (m : Mark) (t : Token) (ts : List Token) → t.kind ≡ spelling m → ◌≡◌ {A = Answer (List Token)} (expect end m (t ∷ ts)) (Ok ts)
expect_given end m t ts is = let some = after_given m t ts is in rw some refl

pub name_given : (end : ℕ) (t : Token) (name : List ℕ) (ts : List Token) → t.kind ≡ kind.Name name → name_at end (t ∷ ts) ≡ Ok (name, ts)
name_given end t name ts is = rw is refl
