-- What the data of each form of request says: its fields are all there may be, then each says its part.
use Rattle.std.specs.Prelude.{ℕ, List, [], ◌∷◌, codes, Result, Ok}
use Rattle.serde_json.specs.Data.{Data}
use Rattle.sheet_requests.specs.Reading.{◌>>=◌, name_in, number_in, do_of, see_of, reads_of, admit_of, stats_of, counts_of, of_fields}
use Rattle.sheet_requests.specs.Reading.{do_fields, see_fields, reads_fields, admit_fields, stats_fields}
use Rattle.sheet_requests.specs.declared.request.Request.{Request}
use Rattle.sheet_requests.specs.declared.request.Request.TheVariants.{Admit}
use Rattle.sheet_requests.specs.declared.request.WireRefusal.{WireRefusal}

-- a call of a procedure, in a line
abbrev pub call_line : Data → Result Request WireRefusal
call_line d = of_fields (codes "do" ∷ do_fields) d >>= do_of (name_in (codes "do"))

-- a look at a view, in a line
abbrev pub look_line : Data → Result Request WireRefusal
look_line d = of_fields (codes "see" ∷ see_fields) d >>= see_of (name_in (codes "see"))

-- what a view rests on, in a line
abbrev pub reads_line : Data → Result Request WireRefusal
reads_line d = of_fields (codes "reads" ∷ reads_fields) d >>= reads_of (name_in (codes "reads"))

-- the counts, in a line
abbrev pub stats_line : Data → Result Request WireRefusal
stats_line d = of_fields stats_fields d >>= stats_of

-- an admission
abbrev pub admission : Data → Result Request WireRefusal
admission d = of_fields admit_fields d >>= admit_of

-- the numbers of an admission
abbrev pub admitted : List ℕ → List ℕ → List ℕ → Data → Result Request WireRefusal
admitted name key newkey d =
    number_in 1 (codes "number") d >>= (λ n. number_in 0 (codes "object") d >>= (λ o. Ok (Admit key newkey name n o)))

-- a call of the procedure of that name
abbrev pub call_of : List ℕ → Data → Result Request WireRefusal
call_of name d = of_fields do_fields d >>= do_of (λ e. Ok name)

-- a look at the view of that name
abbrev pub look_of : List ℕ → Data → Result Request WireRefusal
look_of name d = of_fields see_fields d >>= see_of (λ e. Ok name)

-- what the view of that name rests on
abbrev pub reads_of_view : List ℕ → Data → Result Request WireRefusal
reads_of_view name d = of_fields reads_fields d >>= reads_of (λ e. Ok name)

-- the counts on their route
abbrev pub counts : Data → Result Request WireRefusal
counts d = of_fields (codes "key" ∷ []) d >>= counts_of
