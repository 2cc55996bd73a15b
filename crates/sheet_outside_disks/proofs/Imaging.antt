-- The image of the file that was open after a call.
use Rattle.std.proofs.Common.{◌≡◌, ℕ, ◌≤◌, Bool, true, cond, ◌&&◌, List, length, take, Some, None, Result, Ok, Err, IfOk, sym, ◌∙◌, ap, subst}
use Rattle.std.specs.Prelude.{nat_le}
use Rattle.std.proofs.lemmas.Bool.{le-leb}
use Rattle.sheet_outside.specs.Crash.{File}
use Rattle.sheet_outside.specs.Moments.{Files}
use Rattle.sheet_outside_disks.specs.Drive.{Drive, state, IsLastOpen}
use Rattle.sheet_outside_disks.specs.Image.{open_at, IsImageAt, IsImageOf}
use Rattle.sheet_outside_disks.proofs.Replaying.{files_then, open_there}

cond_all : {A : Type 0} (a b c : Bool) (x y : A) → a ≡ true → b ≡ true → c ≡ true → cond (a && b && c) x y ≡ x
cond_all a b c x y p q r = ap (λ v. cond (v && b && c) x y) p ∙ ap (λ v. cond (true && v && c) x y) q ∙ ap (λ v. cond (true && true && v) x y) r

le_true : (m n : ℕ) → m ≤ n → nat_le m n ≡ true
le_true m n h = le-leb m n h

pub if_ok_as : {T E : Type 0} (P Q : T → Type 0) → ((x : T) → P x → Q x) → (r : Result T E) → IfOk r P → IfOk r Q
if_ok_as P Q so (Ok x) p = so x p
if_ok_as P Q so (Err e) p = p

pub image_at : (d : Drive) (call fill : ℕ) (name : List ℕ) (file : File) (bytes : List ℕ) → d.tells ≡ true → call ≤ length d.calls →
    IsLastOpen (state d.start (take call d.calls)) (Some name)
    → Some file ≡ (state d.start (take call d.calls)).disk.now name → IsImageOf file fill bytes → IsImageAt d call fill (open_at d call) bytes
image_at d call fill name file bytes tells within last there image =
    let s = state d.start (take call d.calls) in
    let is_open : open_at d call ≡ Some name =
    cond_all d.tells (nat_le call (length d.calls)) s.is_open (Some s.disk.name) None tells (le_true call (length d.calls) within) last.0
    ∙ ap (λ n. Some n) last.1 in
    subst (λ o. IsImageAt d call fill o bytes) (sym is_open) (file, ap (λ (f : Files). f name) (files_then d.start d.calls call within) ∙ sym there, image)

-- an open file is there
pub open_not_there : (d : Drive) (call : ℕ) (name : List ℕ) → IsLastOpen (state d.start (take call d.calls)) (Some name) →
    None ≡ (state d.start (take call d.calls)).disk.now name → ⊥
open_not_there d call name last none =
    open_there d.start (take call d.calls) last.0 (ap (λ n. (state d.start (take call d.calls)).disk.now n) last.1 ∙ sym none)
