-- How the moments of a disk go on.
use Rattle.std.proofs.Common.{◌≡◌, inl, inr, List, [], ◌∷◌, ◌++◌, length, get_or, refl, sym, ◌∙◌, ap, subst, arith, length-append}
use Rattle.std.proofs.lemmas.Bool.{cases_lt, cases_eq}
use Rattle.std.proofs.lemmas.List.{get_or_past, get_or_push, get_or_append_left, get_or_default}
use Rattle.sheet_outside.specs.Moments.{Files, Contents, files_at, Throughout}

-- One call more is one moment more.
pub one_more : (P : Files → Type 0) (before now : Contents) → now.past ≡ before.past ++ before.now ∷ [] → P before.now → P now.now → Throughout P before now
one_more P before now past was is = record {
  later = omega (arith, ap length past, length-append before.past (before.now ∷ []));
  each = λ k from. elim (cases_eq k (length before.past)) [
    | inl here ↦ subst P (sym (ap (λ (l : List Files). get_or l k now.now) past ∙ get_or_push before.past before.now now.now k (sym here))) was
    | inr not_here ↦ subst P (sym (get_or_past now.past k now.now (omega (arith, from, not_here, ap length past, length-append before.past (before.now ∷ [])))))
        is
  ];
  earlier = λ k below. ap (λ (l : List Files). get_or l k now.now) past ∙ get_or_append_left before.past (before.now ∷ []) now.now k below
      ∙ get_or_default before.past k now.now before.now below;
}

-- from the first call to the last
pub joined : (P : Files → Type 0) (first mid last : Contents) → Throughout P first mid → Throughout P mid last → Throughout P first last
joined P first mid last a b = record {
  later = omega (arith, a.later, b.later);
  each = λ k from. elim (cases_lt k (length mid.past)) [
    | inl below ↦ subst P (sym (b.earlier k below)) (a.each k from)
    | inr above ↦ b.each k above
  ];
  earlier = λ k below. b.earlier k (omega (arith, below, a.later)) ∙ a.earlier k below;
}

-- where nothing was called
pub no_call : (P : Files → Type 0) (disk : Contents) → P disk.now → Throughout P disk disk
no_call P disk is = record {
  later = omega arith;
  each = λ k from. subst P (sym (get_or_past disk.past k disk.now from)) is;
  earlier = λ k below. refl;
}

-- what holds of the files at each moment, said otherwise
pub said_as : (P Q : Files → Type 0) (before now : Contents) → ((files : Files) → P files → Q files) → Throughout P before now → Throughout Q before now
said_as P Q before now so all = record { later = all.later; each = λ k from. so (files_at now k) (all.each k from); earlier = all.earlier }

-- the last moment is one of them
pub at_last : (P : Files → Type 0) (before now : Contents) → Throughout P before now → P now.now
at_last P before now all = subst P (get_or_past now.past (length now.past) now.now (omega arith)) (all.each (length now.past) all.later)
