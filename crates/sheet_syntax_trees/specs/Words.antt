-- The reserved words.
use Rattle.std.specs.Prelude.{ℕ, List, [], ◌∷◌, codes}

-- the words that are no names
abbrev pub reserved_words : List (List ℕ)
reserved_words =
    codes "add" ∷ codes "all" ∷ codes "allow" ∷ codes "and" ∷ codes "any" ∷ codes "by" ∷ codes "caller" ∷ codes "callers"
    ∷ codes "check" ∷ codes "count" ∷ codes "date" ∷ codes "delete" ∷ codes "else" ∷ codes "except" ∷ codes "false"
    ∷ codes "for" ∷ codes "formula" ∷ codes "from" ∷ codes "group" ∷ codes "if" ∷ codes "in" ∷ codes "intersect"
    ∷ codes "let" ∷ codes "max" ∷ codes "min" ∷ codes "new" ∷ codes "not" ∷ codes "number" ∷ codes "object" ∷ codes "one"
    ∷ codes "only" ∷ codes "operator" ∷ codes "or" ∷ codes "order" ∷ codes "procedure" ∷ codes "remove" ∷ codes "reply"
    ∷ codes "report" ∷ codes "set" ∷ codes "show" ∷ codes "standing" ∷ codes "state" ∷ codes "sum" ∷ codes "table"
    ∷ codes "text" ∷ codes "then" ∷ codes "this" ∷ codes "to" ∷ codes "today" ∷ codes "true" ∷ codes "truth" ∷ codes "union"
    ∷ codes "up" ∷ codes "view" ∷ []
