-- Who is admitted.
use Rattle.std.specs.Prelude.{◌≡◌, ℕ, ◌+◌, nat_le, List, [], ◌∷◌, ◌++◌, length, if◌then◌else◌, Option, Some, None, Result, Ok, Err}
use Rattle.sheet_callers.specs.declared.admission.AdmitRefusal.{AdmitRefusal}
use Rattle.sheet_callers.specs.declared.admission.AdmitRefusal.TheVariants.{KeyTaken, NameTaken, TooMany, NoMemory}
use Rattle.sheet_callers.specs.Callers.{Caller, new_caller, with_key, with_name}

-- how many callers there may be
abbrev pub most_callers : ℕ
most_callers = 4000

-- the count of callers is judged last
abbrev refused_by_count : ℕ → Option AdmitRefusal
refused_by_count count = if nat_le most_callers count then Some (TooMany most_callers) else None

-- the name is judged before the count
abbrev refused_by_name : ℕ → Option ℕ → Option AdmitRefusal
refused_by_name count (Some c) = Some (NameTaken c)
refused_by_name count None = refused_by_count count

-- the key is judged first
abbrev refused_by_key : List Caller → List ℕ → Option ℕ → Option AdmitRefusal
refused_by_key cs name (Some c) = Some (KeyTaken c)
refused_by_key cs name None = refused_by_name (length cs) (with_name cs name)

-- why no caller with that key and name can be admitted
abbrev pub refused : List Caller → List ℕ → List ℕ → Option AdmitRefusal
refused cs key name = refused_by_key cs name (with_key cs key)

-- what admitting comes to: one more caller at the end, or why there is none and all stay; want of memory is free
abbrev pub Admits : List Caller → List Caller → List ℕ → List ℕ → ℕ → Result ℕ AdmitRefusal → Type 0
Admits old new key name object (Ok n) = (refused old key name ≡ None) × (n ≡ length old + 1) × (new ≡ old ++ new_caller key name (Some object) ∷ [])
Admits old new key name object (Err (KeyTaken c)) = (refused old key name ≡ Some (KeyTaken c)) × (new ≡ old)
Admits old new key name object (Err (NameTaken c)) = (refused old key name ≡ Some (NameTaken c)) × (new ≡ old)
Admits old new key name object (Err (TooMany n)) = (refused old key name ≡ Some (TooMany n)) × (new ≡ old)
Admits old new key name object (Err NoMemory) = new ≡ old
