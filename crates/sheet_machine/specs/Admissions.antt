-- Why nobody is admitted.
use Rattle.std.specs.Prelude.{◌≡◌, Option, Some}
use Rattle.sheet_callers.specs.declared.admission.AdmitRefusal.{AdmitRefusal}
use Rattle.sheet_callers.specs.declared.admission.AdmitRefusal.TheVariants.{KeyTaken, NameTaken, TooMany, NoMemory}

-- a refusal is the defined one; want of memory alone is free
abbrev pub IsAdmissionRefusal : AdmitRefusal → Option AdmitRefusal → Type 0
IsAdmissionRefusal (KeyTaken c) r = r ≡ Some (KeyTaken c)
IsAdmissionRefusal (NameTaken c) r = r ≡ Some (NameTaken c)
IsAdmissionRefusal (TooMany n) r = r ≡ Some (TooMany n)
IsAdmissionRefusal NoMemory r = Unit {0}
