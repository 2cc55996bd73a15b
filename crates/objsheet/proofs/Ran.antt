-- What the commands come to, from what their calls tell.
use Rattle.std.proofs.Common.{◌≡◌, ℕ, inl, inr, subst, sym}
use Rattle.std.specs.Prelude.{◌⊎◌}
use Rattle.sheet_outside.specs.Told.{WhereTold}
use Rattle.objsheet_status.specs.Outside.{Outside, Failed}
use Rattle.objsheet_check.specs.Checking.{IsChecked, IsCheckedInput, IsUnfit, HasNoBook, Takes, IsCutOff}
use Rattle.objsheet.specs.Trying.{IsDone, IsRead, IsRefused, HasCauseOfRefusal, IsStopped, IsBrokenOff}
use Rattle.objsheet.specs.Ran.{ends, Checks, Tries}
use Rattle.objsheet.specs.Ran.Checks.{has_book, has_none, is_unread, is_cut_off, has_no_room}
use Rattle.objsheet.specs.Ran.Tries.{is_done, is_refused, is_stopped, is_broken_off, is_starved}

-- the statuses of a command
abbrev Ended : ℕ → Type 0
Ended status = (status ≡ 0) ⊎ ((status ≡ 1) ⊎ ((status ≡ 3) ⊎ ((status ≡ 4) ⊎ (status ≡ 7))))

-- what holds at a number holds at its equal
at : (P : ℕ → Type 0) (status n : ℕ) → status ≡ n → P n → P status
at P status n same p = subst P (sym same) p

pub checked : (a b : Outside) (status : ℕ) → Ended status →
    (status ≡ 0 → WhereTold IsChecked (ends a) (ends b)) → (status ≡ 0 → WhereTold IsCheckedInput a.input.told b.input.told) →
    (status ≡ 1 → WhereTold IsUnfit (ends a) (ends b)) → (status ≡ 1 → WhereTold (λ input left. HasNoBook input) a.input.told b.input.told) →
    (status ≡ 3 → Failed a.input b.input) → (status ≡ 3 → WhereTold Takes a.input.told b.input.told) → ((status ≡ 3) ⊎ (status ≡ 7) → b.output.told ≡ a.output.told) →
    (status ≡ 4 → Failed a.output b.output) → (status ≡ 4 → WhereTold IsCutOff (ends a) (ends b)) → Checks a b status
checked a b s (inl is) good input unfit none source takes unsaid sink cut = at (Checks a b) s 0 is (has_book (good is) (input is))
checked a b s (inr (inl is)) good input unfit none source takes unsaid sink cut = at (Checks a b) s 1 is (has_none (unfit is) (none is))
checked a b s (inr (inr (inl is))) good input unfit none source takes unsaid sink cut =
    at (Checks a b) s 3 is (is_unread (source is) (takes is) (unsaid (inl is)))
checked a b s (inr (inr (inr (inl is)))) good input unfit none source takes unsaid sink cut =
    at (Checks a b) s 4 is (is_cut_off (sink is) (cut is))
checked a b s (inr (inr (inr (inr is)))) good input unfit none source takes unsaid sink cut = at (Checks a b) s 7 is (has_no_room (unsaid (inr is)))

pub tried : (a b : Outside) (status : ℕ) → Ended status →
    (status ≡ 0 → WhereTold IsDone (ends a) (ends b)) → (status ≡ 0 → WhereTold IsRead a.input.told b.input.told) →
    (status ≡ 1 → WhereTold IsRefused (ends a) (ends b)) → (status ≡ 1 → WhereTold HasCauseOfRefusal a.input.told b.input.told) →
    (status ≡ 3 → Failed a.input b.input) → (status ≡ 3 → WhereTold IsStopped (ends a) (ends b)) →
    (status ≡ 4 → Failed a.output b.output) → (status ≡ 4 → WhereTold IsBrokenOff (ends a) (ends b)) → (status ≡ 7 → WhereTold IsBrokenOff (ends a) (ends b)) →
    Tries a b status
tried a b s (inl is) done read refused cause source stopped sink broken starved = at (Tries a b) s 0 is (is_done (done is) (read is))
tried a b s (inr (inl is)) done read refused cause source stopped sink broken starved = at (Tries a b) s 1 is (is_refused (refused is) (cause is))
tried a b s (inr (inr (inl is))) done read refused cause source stopped sink broken starved =
    at (Tries a b) s 3 is (is_stopped (source is) (stopped is))
tried a b s (inr (inr (inr (inl is)))) done read refused cause source stopped sink broken starved =
    at (Tries a b) s 4 is (is_broken_off (sink is) (broken is))
tried a b s (inr (inr (inr (inr is)))) done read refused cause source stopped sink broken starved =
    at (Tries a b) s 7 is (is_starved (starved is))
