-- From what is told to what is told.
use Rattle.std.proofs.Common.{Some, None}
use Rattle.std.specs.Prelude.{Option, Result, Ok, Err, OnErr}
use Rattle.sheet_outside.specs.Told.{WhereTold}

pub told_map : {A B : Type 0} (P Q : A → B → Type 0) (before : Option A) (now : Option B) → WhereTold P before now → ((x : A) (y : B) → P x y → Q x y) →
    WhereTold Q before now
told_map P Q before None told f = tt
told_map P Q None (Some now) told f = absurd told
told_map P Q (Some before) (Some now) told f = f before now told

pub told_then : {A B C : Type 0} (P : A → B → Type 0) (Q : B → C → Type 0) (R : A → C → Type 0) (first : Option A) (next : Option B) (last : Option C) →
    WhereTold P first next → WhereTold Q next last
    → ((x : A) (y : B) (z : C) → P x y → Q y z → R x z) → WhereTold R first last
told_then P Q R first next None told more f = tt
told_then P Q R first None (Some last) told more f = absurd more
told_then P Q R None (Some next) (Some last) told more f = absurd told
told_then P Q R (Some first) (Some next) (Some last) told more f = f first next last told more

pub told_refl : {A : Type 0} (P : A → A → Type 0) (a : Option A) → ((x : A) → P x x) → WhereTold P a a
told_refl P None f = tt
told_refl P (Some x) f = f x

-- what holds anyway
pub on_err : {T E : Type 0} (result : Result T E) (P : Type 0) → P → OnErr result P
on_err (Ok x) P h = tt
on_err (Err e) P h = h
