-- What is sent of a list, and of objects of one to three fields.
use Rattle.std.proofs.Common.{◌≡◌, ◌∙◌, ◌+◌, ◌<◌, get_or, ℕ, List, [], ◌∷◌, map, length, drop, Some, refl, ap, sym, subst, suc}
use Rattle.std.proofs.lemmas.List.{drop_more}
use Rattle.serde.specs.Event.{Log, Logs, seq_begins}
use Rattle.serde_json.specs.Data.{Data, array}
use Rattle.serde_json.specs.Events.{SendsValue, SendsItems, items_len}
use Rattle.serde_json.specs.View.{items_of}

items_count : {A : Type 0} (f : A → Data) (xs : List A) → items_len (items_of (map f xs)) ≡ length xs
items_count f [] = refl
items_count f (x ∷ xs) = ap suc (items_count f xs)

-- what ends the first of a list well ends all of it well
abbrev pub GoesOn : {A : Type 0} → (A → Data) → List A → ℕ → Log → Log → Type 0
GoesOn f xs k first now = (end : Log) → SendsItems (items_of (map f (drop k xs))) now end → SendsItems (items_of (map f xs)) first end

-- a list whose elements were sent one after another
pub all_sent : {A : Type 0} (f : A → Data) (xs : List A) (k : ℕ) (old first now end : Log) → drop k xs ≡ [] → Logs old first (seq_begins (Some (length xs))) → GoesOn f xs k first now
    → SendsItems (items_of (map f [])) now end → SendsValue (array (items_of (map f xs))) old end
all_sent f xs k old first now end none begun on ended =
    (first, subst (λ m. Logs old first (seq_begins (Some m))) (sym (items_count f xs)) begun, on end (subst (λ ys. SendsItems (items_of (map f ys)) now end) (sym none) ended))

-- one element more
pub one_more : {A : Type 0} (f : A → Data) (xs : List A) (k : ℕ) (x : A) (first now next : Log) → k < length xs → x ≡ get_or xs k x → GoesOn f xs k first now → SendsValue (f x) now next
    → GoesOn f xs (k + 1) first next
one_more f xs k x first now next within is on sent =
    let parts : drop k xs ≡ x ∷ drop (k + 1) xs = drop_more xs k x within ∙ ap (λ y. y ∷ drop (k + 1) xs) (sym is) in
    λ end rest. on end (subst (λ ys. SendsItems (items_of (map f ys)) now end) (sym parts) (next, sent, rest))
