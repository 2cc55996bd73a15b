-- Objects: their fields, and `{"object":N}`.
use Rattle.std.proofs.Common.{◌≡◌, ℕ, List, [], ◌∷◌, ◌&&◌, map, true, false, refl, sym, ap, subst, ◌∙◌, arith}
use Rattle.std.proofs.Common.{codes, Bool, Ordering, Less, Equal, Greater, is_eq, bytes_eq}
use Rattle.std.proofs.Common.{nat_cmp, string_bytes, true≢false, Option, Some, None, option_and_then, Err}
use Rattle.std.proofs.lemmas.Bool.{both_ways, false_from_ne_true}
use Rattle.std.proofs.lemmas.Map.Text.{is_eq-slice_cmp}
use Rattle.std.proofs.lemmas.Option.{same_Some, none-some}
use Rattle.std.proofs.lemmas.Slice.Eq.{bytes_eq-Decides}
use Rattle.std.specs.Cmp.Lexicographic.{slice_cmp}
use Rattle.std.specs.List.{list_any}
use Rattle.std.specs.Ordering.{match_ordering}
use Rattle.serde_json.proofs.Views.{Entry}
use Rattle.serde_json.specs.Data.{Data, Num, null, boolean, number, string, array, object, Members, member, no_members}
use Rattle.serde_json.specs.Find.{get, get_member, as_number, as_object}
use Rattle.serde_json.specs.View.{members_view}
use Rattle.sheet_requests.specs.Reading.{has_only}
use Rattle.sheet_requests.specs.declared.request.WireRefusal.TheVariants.{BadShape}
use Rattle.sheet_wire.specs.Arguments.{fields, numbered_object, object_of}
use Rattle.sheet_wire.specs.Fields.{field_name}
use Rattle.sheet_wire.specs.declared.field.Field.{Field}

-- a number is found
pub is_number : (o : Option Data) (x : Num) → option_and_then as_number o ≡ Some x → o ≡ Some (number x)
is_number None x h = cc
is_number (Some null) x h = cc
is_number (Some (boolean b)) x h = cc
is_number (Some (number n)) x h = ap (λ y. Some (number y)) (same_Some n x h)
is_number (Some (string s)) x h = cc
is_number (Some (array ds)) x h = cc
is_number (Some (object ms)) x h = cc

-- ---- `{"object":N}`

either : (o : Ordering) (a b : Option Data) → is_eq o ≡ false → match_ordering o a b a ≡ a
either Less a b e = refl
either Equal a b e = absurd (true≢false e)
either Greater a b e = refl

apart : (k : List ℕ) → bytes_eq k (codes "object") ≡ false → is_eq (slice_cmp nat_cmp (codes "object") k) ≡ false
apart k p =
    is_eq-slice_cmp (codes "object") k
    ∙ false_from_ne_true (bytes_eq (codes "object") k) (λ t.
    both_ways (bytes_eq k (codes "object")) p ((bytes_eq-Decides k (codes "object")).1 (sym ((bytes_eq-Decides (codes "object") k).0 t))))

-- another field is no object
not_there : (k : List ℕ) (e : Data) → bytes_eq k (codes "object") ≡ false → get_member (codes "object") (member k e no_members) ≡ None
not_there k e p = either (slice_cmp nat_cmp (codes "object") k) None (Some e) (apart k p)

one_number : (k : List ℕ) (e : Data) (n : Num) (b : Bool) → bytes_eq k (codes "object") ≡ b
    → option_and_then as_number (get_member (codes "object") (member k e no_members)) ≡ Some n
    → object_of (object (member k e no_members)) ≡ numbered_object n
one_number k e n true p h =
    let same : k ≡ codes "object" = (bytes_eq-Decides k (codes "object")).0 p in
    let is = is_number (Some e) n (subst (λ l. option_and_then as_number (get_member (codes "object") (member l e no_members)) ≡ Some n) same h) in
    rw (p, same_Some e (number n) is) refl
one_number k e n false p h = absurd (none-some n (subst (λ r. option_and_then as_number r ≡ Some n) (not_there k e p) h))

no_number_here : (e : Data) → as_number e ≡ None → object_of (object (member (codes "object") e no_members)) ≡ Err (BadShape (codes "with"))
no_number_here null h = refl
no_number_here (boolean b) h = refl
no_number_here (number n) h = cc
no_number_here (string s) h = refl
no_number_here (array ds) h = refl
no_number_here (object ms) h = refl

one_other : (k : List ℕ) (e : Data) (b : Bool) → bytes_eq k (codes "object") ≡ b
    → option_and_then as_number (get_member (codes "object") (member k e no_members)) ≡ None
    → object_of (object (member k e no_members)) ≡ Err (BadShape (codes "with"))
one_other k e true p h =
    let same : k ≡ codes "object" = (bytes_eq-Decides k (codes "object")).0 p in
    subst (λ l. object_of (object (member l e no_members)) ≡ Err (BadShape (codes "with"))) (sym same)
    (no_number_here e (subst (λ l. option_and_then as_number (get_member (codes "object") (member l e no_members)) ≡ None) same h))
one_other k e false p h = rw p refl

-- with one field, in which there is a number or none
pub object_is : (d : Data) (n : Num) → fields d ≡ 1 → option_and_then as_number (get (codes "object") d) ≡ Some n
    → object_of d ≡ numbered_object n
object_is null n one h = absurd (omega (arith, one))
object_is (boolean b) n one h = absurd (omega (arith, one))
object_is (number m) n one h = absurd (omega (arith, one))
object_is (string s) n one h = absurd (omega (arith, one))
object_is (array ds) n one h = absurd (omega (arith, one))
object_is (object no_members) n one h = absurd (omega (arith, one))
object_is (object (member k e no_members)) n one h = one_number k e n (bytes_eq k (codes "object")) refl h
object_is (object (member k e (member l g more))) n one h = absurd (omega (arith, one))

pub no_object : (d : Data) → fields d ≡ 1 → option_and_then as_number (get (codes "object") d) ≡ None → object_of d ≡ Err (BadShape (codes "with"))
no_object null one h = absurd (omega (arith, one))
no_object (boolean b) one h = absurd (omega (arith, one))
no_object (number m) one h = absurd (omega (arith, one))
no_object (string s) one h = absurd (omega (arith, one))
no_object (array ds) one h = absurd (omega (arith, one))
no_object (object no_members) one h = absurd (omega (arith, one))
no_object (object (member k e no_members)) one h = one_other k e (bytes_eq k (codes "object")) refl h
no_object (object (member k e (member l g more))) one h = absurd (omega (arith, one))

-- ---- objects and their fields

pub is_object : (d : Data) (ms : Members) → as_object d ≡ Some ms → d ≡ object ms
is_object null ms h = cc
is_object (boolean b) ms h = cc
is_object (number n) ms h = cc
is_object (string s) ms h = cc
is_object (array ds) ms h = cc
is_object (object es) ms h = ap (λ x. object x) (same_Some es ms h)

pub among : (s : List ℕ) (fs : List Field) → list_any (bytes_eq s) (map field_name fs) ≡ list_any (λ f. bytes_eq s (field_name f)) fs
among s [] = refl
among s (f ∷ fs) = rw (among s fs) refl

-- a name that is none of them, and one that is
pub other_name : (fs : List Field) (e : Entry) (es : List Entry) → list_any (λ f. bytes_eq (string_bytes e.0) (field_name f)) fs ≡ false
    → has_only (map field_name fs) (members_view (e ∷ es)) ≡ false
other_name fs e es h = ap (λ b. b && has_only (map field_name fs) (members_view es)) (among (string_bytes e.0) fs ∙ h)

pub such_name : (fs : List Field) (e : Entry) (es : List Entry) → list_any (λ f. bytes_eq (string_bytes e.0) (field_name f)) fs ≡ true
    → has_only (map field_name fs) (members_view (e ∷ es)) ≡ has_only (map field_name fs) (members_view es)
such_name fs e es h = ap (λ b. b && has_only (map field_name fs) (members_view es)) (among (string_bytes e.0) fs ∙ h)
