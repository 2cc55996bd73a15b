-- Callers, with indexes of their keys and of their names.
use Rattle.std.specs.Prelude.{◌≡◌, ℕ, ◌≤◌, List, length, map}
use Rattle.std.specs.List.{AllByRecursion}
use Rattle.sheet_callers.specs.Callers.{Caller}
use Rattle.sheet_callers.specs.Keeping.{KeepsLast}
use Rattle.sheet_callers.specs.Admitting.{most_callers}
use Rattle.sheet_callers.specs.Sound.{HasOperator}

-- the indexes are those of the callers; that their texts differ is told by the indexes themselves
pub record IsIndexed (keys names : List (List ℕ)) (callers : List Caller) : Type 0 where
  pub keys_are : keys ≡ map (λ (c : Caller). c.key) callers
  pub names_are : names ≡ map (λ (c : Caller). c.name) callers
  pub operator : HasOperator callers
  pub numbers : AllByRecursion KeepsLast callers
  pub few : length callers ≤ most_callers
