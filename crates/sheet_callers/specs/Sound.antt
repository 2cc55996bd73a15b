-- What holds of all callers.
use Rattle.std.specs.Prelude.{◌≡◌, ◌≤◌, List, [], ◌∷◌, length, map, bytes_eq, None, IsSome}
use Rattle.std.specs.List.{AllByRecursion, IsDistinct}
use Rattle.sheet_callers.specs.Callers.{Caller, operator_name}
use Rattle.sheet_callers.specs.Keeping.{KeepsLast}
use Rattle.sheet_callers.specs.Admitting.{most_callers}

-- the first caller is the operator, and it alone has no object
abbrev pub HasOperator : List Caller → Type 0
HasOperator [] = ⊥
HasOperator (c ∷ cs) = (c.name ≡ operator_name) × (c.object ≡ None) × AllByRecursion (λ (d : Caller). IsSome d.object) cs

-- there is the operator, callers differ in key and in name, of each the last 16 requests are kept, and there are 4,000 at most
pub record AreCallers (cs : List Caller) : Type 0 where
  pub operator : HasOperator cs
  pub keys : IsDistinct bytes_eq (map (λ (c : Caller). c.key) cs)
  pub names : IsDistinct bytes_eq (map (λ (c : Caller). c.name) cs)
  pub numbers : AllByRecursion KeepsLast cs
  pub few : length cs ≤ most_callers
