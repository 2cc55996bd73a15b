-- Images that are filled range by range.
use Rattle.std.proofs.Common.{◌≡◌, ◌⊎◌, inl, inr, ℕ, ◌+◌, ◌-◌, ◌<◌, ◌≤◌, max, List, [], ◌∷◌, ◌++◌, length, get_or, take, drop, map, replicate, refl, sym, ◌∙◌}
use Rattle.std.proofs.Common.{ap, subst, arith, length-append, length-drop}
use Rattle.std.proofs.lemmas.Bool.{cases_lt}
use Rattle.std.proofs.lemmas.List.{length-take, length-replicate, get_or_append_left, get_or-append_right, get_or-take, get_or-drop, get_or-replicate}
use Rattle.sheet_outside.specs.Crash.{File, Range, Within, greatest_end, settled_bytes}
use Rattle.sheet_outside_disks.specs.declared.replay.Range.{Range as TheRange}
use Rattle.sheet_outside_disks.specs.Drive.{range}
use Rattle.sheet_outside_disks.specs.Image.{IsFilled, IsCovered, IsImageOf}
use Rattle.sheet_outside_disks.proofs.Mapping.{map_more}

-- a range more at the end
within_push : (rs : List Range) (r : Range) (i : ℕ) → Within (rs ++ r ∷ []) i → Within rs i ⊎ ((r.place ≤ i) × (i < r.place + r.count))
within_push [] r i (inl here) = inr here
within_push [] r i (inr none) = absurd none
within_push (s ∷ rs) r i (inl here) = inl (inl here)
within_push (s ∷ rs) r i (inr more) = elim (within_push rs r i more) [ inl there ↦ inl (inr there) | inr here ↦ inr here ]

within_left : (rs : List Range) (r : Range) (i : ℕ) → Within rs i → Within (rs ++ r ∷ []) i
within_left [] r i none = absurd none
within_left (s ∷ rs) r i (inl here) = inl here
within_left (s ∷ rs) r i (inr more) = inr (within_left rs r i more)

within_right : (rs : List Range) (r : Range) (i : ℕ) → (r.place ≤ i) × (i < r.place + r.count) → Within (rs ++ r ∷ []) i
within_right [] r i here = inl here
within_right (s ∷ rs) r i here = inr (within_right rs r i here)

end_push : (rs : List Range) (r : Range) → greatest_end (rs ++ r ∷ []) ≡ max (greatest_end rs) (r.place + r.count)
end_push [] r = omega arith
end_push (s ∷ rs) r = omega (arith, end_push rs r)

pub filled_none : (settled : List ℕ) (fill : ℕ) → IsFilled settled [] fill settled
filled_none settled fill = record {
  longest = omega arith;
  filled = λ i below. λ any. absurd (nowhere i below any);
  others = λ i below out. refl;
}
  where
    nowhere : (i : ℕ) → i < length settled → (length settled ≤ i) ⊎ Within [] i → ⊥
    nowhere i below (inl past) = omega (arith, below, past)
    nowhere i below (inr none) = none

decide : (a b i : ℕ) → ((a ≤ i) × (i < b)) ⊎ ((a ≤ i) × (i < b) → ⊥)
decide a b i = elim (cases_lt i a) [
  | inl before ↦ inr (λ w. omega (arith, before, w.0))
  | inr from ↦ elim (cases_lt i b) [ inl below ↦ inl (from, below) | inr past ↦ inr (λ w. omega (arith, past, w.1)) ]
]

pub filled_more : (settled : List ℕ) (rs : List Range) (r : Range) (fill : ℕ) (before now : List ℕ) → IsFilled settled rs fill before →
    IsCovered before r.place r.count fill now → IsFilled settled (rs ++ r ∷ []) fill now
filled_more settled rs r fill before now f c = record {
  longest = omega (arith, c.long, f.longest, end_push rs r);
  filled = λ i below any. elim (decide r.place (r.place + r.count) i) [
    | inl here ↦ c.filled i below (inr here)
    | inr not_here ↦ elim (cases_lt i (length before)) [
      | inl old ↦ c.others i old not_here ∙ f.filled i old (earlier i not_here any)
      | inr past ↦ c.filled i below (inl past)
    ]
  ];
  others = λ i below out.
      c.others i (omega (arith, below, f.longest)) (λ here. out (within_right rs r i here))
      ∙ f.others i below (λ w. out (within_left rs r i w));
}
  where
    earlier : (i : ℕ) → ((r.place ≤ i) × (i < r.place + r.count) → ⊥) → (length settled ≤ i) ⊎ Within (rs ++ r ∷ []) i → (length settled ≤ i) ⊎ Within rs i
    earlier i not_here (inl past) = inl past
    earlier i not_here (inr w) = elim (within_push rs r i w) [ inl there ↦ inr there | inr here ↦ absurd (not_here here) ]

-- one range more of those that are stored
pub filled_step : (settled : List ℕ) (ranges : List TheRange) (i : ℕ) (d : TheRange) (fill : ℕ) (before now : List ℕ) → i < length ranges →
    IsFilled settled (map range (take i ranges)) fill before
    → IsCovered before (get_or ranges i d).place (get_or ranges i d).count fill now → IsFilled settled (map range (take (i + 1) ranges)) fill now
filled_step settled ranges i d fill before now below f c =
    subst (λ (rs : List Range). IsFilled settled rs fill now) (sym (map_more range ranges i (get_or ranges i d) d below refl))
    (filled_more settled (map range (take i ranges)) (range (get_or ranges i d)) fill before now f c)

-- such an image is one that a crash may leave
pub image_of : (file : File) (fill : ℕ) (bytes : List ℕ) → IsFilled (settled_bytes file.settled) file.written fill bytes → IsImageOf file fill bytes
image_of file fill bytes f = record {
  left = record {
    no_shorter = omega (arith, f.longest);
    no_longer = omega (arith, f.longest);
    others = f.others;
  };
  filled = f;
}

-- a range that is filled, and what lies in front of it
module _ (before : List ℕ) (place count fill : ℕ) where
  abbrev pub padded : List ℕ
  padded = before ++ replicate (place + count - length before) fill

  abbrev behind : List ℕ
  behind = drop (place + count) padded

  length-padded : length padded ≡ length before + (place + count - length before)
  length-padded = omega (
    arith,
    length-append before (replicate (place + count - length before) fill),
    length-replicate {A = ℕ} (place + count - length before) fill,
  )

  length-front : length (take place padded) ≡ place
  length-front = omega (arith, length-take place padded, length-padded)

  length-rest : length (replicate count fill ++ behind) ≡ count + (length padded - (place + count))
  length-rest = omega (arith, length-append (replicate count fill) behind, length-replicate {A = ℕ} count fill, length-drop (place + count) padded)

  abbrev all : List ℕ
  all = take place padded ++ (replicate count fill ++ behind)

  long : length all ≡ max (length before) (place + count)
  long = omega (arith, length-append (take place padded) (replicate count fill ++ behind), length-front, length-rest, length-padded)

  in_padding : (i : ℕ) → length before ≤ i → i < place → get_or padded i 0 ≡ fill
  in_padding i past below =
      get_or-append_right before (replicate (place + count - length before) fill) (length before) i 0 refl past
      ∙ get_or-replicate (place + count - length before) (i - length before) fill 0 (omega (arith, past, below))

  in_front : (i : ℕ) → i < place → get_or all i 0 ≡ get_or padded i 0
  in_front i below = get_or_append_left (take place padded) (replicate count fill ++ behind) 0 i (omega (arith, below, length-front))
      ∙ get_or-take place padded i 0 below

  in_range : (i : ℕ) → place ≤ i → i < place + count → get_or all i 0 ≡ fill
  in_range i from below =
      get_or-append_right (take place padded) (replicate count fill ++ behind) place i 0 length-front from
      ∙ get_or_append_left (replicate count fill) behind 0 (i - place) (omega (arith, from, below, length-replicate {A = ℕ} count fill))
      ∙ get_or-replicate count (i - place) fill 0 (omega (arith, from, below))

  in_rest : (i : ℕ) → place + count ≤ i → get_or all i 0 ≡ get_or padded i 0
  in_rest i past =
      get_or-append_right (take place padded) (replicate count fill ++ behind) place i 0 length-front (omega (arith, past))
      ∙ get_or-append_right (replicate count fill) behind count (i - place) 0 (length-replicate {A = ℕ} count fill) (omega (arith, past))
      ∙ get_or-drop (place + count) padded (i - place - count) 0
      ∙ ap (λ k. get_or padded k 0) (omega (arith, past))

  filled_at : (i : ℕ) → i < length all → (length before ≤ i) ⊎ ((place ≤ i) × (i < place + count)) → get_or all i 0 ≡ fill
  filled_at i below (inr here) = in_range i here.0 here.1
  filled_at i below (inl past) = elim (cases_lt i place) [
    | inl front ↦ in_front i front ∙ in_padding i past front
    | inr from ↦ in_range i from (omega (arith, below, past, long))
  ]

  other_at : (i : ℕ) → i < length before → ((place ≤ i) × (i < place + count) → ⊥) → get_or all i 0 ≡ get_or before i 0
  other_at i below out = elim (cases_lt i place) [
    | inl front ↦ in_front i front ∙ get_or_append_left before (replicate (place + count - length before) fill) 0 i below
    | inr from ↦ elim (cases_lt i (place + count)) [
      | inl here ↦ absurd (out (from, here))
      | inr past ↦ in_rest i past ∙ get_or_append_left before (replicate (place + count - length before) fill) 0 i below
    ]
  ]

  pub covered : IsCovered before place count fill (take place padded ++ (replicate count fill ++ drop (place + count) padded))
  covered = record { long = long; filled = filled_at; others = other_at }
