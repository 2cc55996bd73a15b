-- The courses, derived from their tokens.
use Rattle.std.proofs.Common.{refl, arith, ℕ, List, [], ◌∷◌, take, drop}
use Rattle.std.specs.Prelude.{slice_index_or}
use lib.Utf8.{encode}
use Rattle.std.specs.Str.{is_utf8, chars}
use Rattle.sheet_syntax_trees.specs.declared.token.Token.{Token}
use Rattle.sheet_syntax_trees.specs.Tokens.{is_reserved}
use Rattle.sheet_syntax_trees.specs.declared.operators.Operator.TheVariants as operator
use Rattle.sheet_syntax_trees.specs.declared.operators.Level.TheVariants as level
use Rattle.sheet_syntax_trees.specs.Grammar.{an_operation, a_child, a_leaf, a_call}
use Rattle.sheet_define_data.specs.declared.definition.Declaration.{Declaration}
use Rattle.sheet_define_data.specs.Grammar.{IsDefinition, IsDeclaration, left_out, stated, none, one_more, one_name, a_path, numbers, texts, truths, objects}
use Rattle.sheet_define_data.specs.Grammar.{a_number, just_one, a_first, a_declared, an_allow, an_object_column, a_state_column, a_formula_column, no_columns}
use Rattle.sheet_define_data.specs.Grammar.{more_columns, a_parameter, one_parameter, more_parameters, no_parameters, some_parameters, of_object, an_assignment}
use Rattle.sheet_define_data.specs.Grammar.{a_delete, an_if_else, a_for, no_statements, more_statements, a_block, a_procedure, a_show, a_table, a_view}
use Rattle.sheet_define_data.specs.Grammar.{the_callers, a_column, one_procedure, one_view, no_declarations, more_declarations}
use Rattle.sheet_define_data.specs.Examples.{courses, courses_text}
use Rattle.sheet_define_data.proofs.Tokens.{word, name, symbol, number}
use Rattle.sheet_define_data.proofs.Lifting.{limits, a_formula, expression_of_atom, expression_of_postfix, expression_of_sums, postfix_of_atom}
use Rattle.sheet_define_data.proofs.Lifting.{products_of_atom, sums_of_atom}

-- the tokens, with the offset and the line of each
abbrev tokens : List Token
tokens =
    (word "callers" 0 1) ∷ (name "Member" 8 1)
    ∷ (word "object" 15 2) ∷ (name "Member" 22 2) ∷ (symbol "{" 29 2)
    ∷ (word "state" 33 3) ∷ (name "name" 39 3) ∷ (symbol ":" 44 3) ∷ (word "text" 46 3) ∷ (word "one" 51 3)
    ∷ (symbol "}" 55 4)
    ∷ (word "object" 57 5) ∷ (name "Course" 64 5) ∷ (symbol "{" 71 5)
    ∷ (word "state" 75 6) ∷ (name "capacity" 81 6) ∷ (symbol ":" 90 6) ∷ (word "number" 92 6) ∷ (word "one" 99 6) ∷ (symbol "=" 103 6) ∷ (number 8 105 106 6)
    ∷ (word "object" 109 7) ∷ (name "Seat" 116 7) ∷ (symbol "{" 121 7)
    ∷ (word "state" 127 8) ∷ (name "member" 133 8) ∷ (symbol ":" 140 8) ∷ (name "Member" 142 8) ∷ (word "one" 149 8)
    ∷ (symbol "}" 155 9)
    ∷ (word "formula" 159 10) ∷ (name "free" 167 10) ∷ (symbol ":" 172 10) ∷ (word "number" 174 10) ∷ (symbol "=" 181 10) ∷ (name "capacity" 183 10) ∷
    (symbol "-" 192 10) ∷ (word "count" 194 10) ∷ (symbol "(" 199 10) ∷ (name "Seat" 200 10) ∷ (symbol ")" 204 10)
    ∷ (symbol "}" 206 11)
    ∷ (word "procedure" 208 12) ∷ (name "leave" 218 12) ∷
    (symbol "(" 223 12) ∷ (name "c" 224 12) ∷ (symbol ":" 226 12) ∷ (name "Course" 228 12) ∷ (symbol "," 234 12) ∷ (name "last" 236 12) ∷
    (symbol ":" 241 12) ∷ (word "truth" 243 12) ∷ (symbol ")" 248 12) ∷ (word "allow" 250 12) ∷ (word "operator" 256 12) ∷ (symbol "{" 265 12)
    ∷ (word "if" 269 13) ∷ (name "last" 272 13) ∷ (symbol "{" 277 13)
    ∷ (word "delete" 283 14) ∷ (name "c" 290 14)
    ∷ (symbol "}" 294 15) ∷ (word "else" 296 15) ∷ (symbol "{" 301 15)
    ∷ (word "for" 307 16) ∷ (name "s" 311 16) ∷ (word "in" 313 16) ∷ (name "c" 316 16) ∷ (symbol "." 317 16) ∷ (name "Seat" 318 16) ∷ (symbol "{" 323 16)
    ∷ (word "set" 331 17) ∷ (name "s" 335 17) ∷ (symbol "." 336 17) ∷ (name "member" 337 17) ∷ (symbol "=" 344 17) ∷ (word "caller" 346 17)
    ∷ (symbol "}" 357 18)
    ∷ (symbol "}" 361 19)
    ∷ (symbol "}" 363 20)
    ∷ (word "view" 365 21) ∷ (name "open" 370 21) ∷ (symbol "(" 374 21) ∷ (symbol ")" 375 21) ∷ (symbol "{" 377 21)
    ∷ (word "table" 381 22) ∷ (name "courses" 387 22) ∷ (symbol "=" 395 22) ∷ (name "c" 397 22) ∷ (word "in" 399 22) ∷ (name "Course" 402 22) ∷
    (symbol "{" 409 22)
    ∷ (word "show" 415 23) ∷ (name "free" 420 23) ∷ (symbol "=" 425 23) ∷ (name "c" 427 23) ∷ (symbol "." 428 23) ∷ (name "free" 429 23)
    ∷ (symbol "}" 436 24)
    ∷ (symbol "}" 438 25)
    ∷ []

-- the token at that place
abbrev t : ℕ → Token
t k = slice_index_or tokens k (word "" 0 0)

-- so many declarations from that place on
abbrev the : ℕ → ℕ → List Declaration
the k count = take count (drop k courses.declarations)

-- the tokens from that place on
abbrev behind : ℕ → List Token
behind k = drop k tokens

declaration_1_is : IsDeclaration limits 16 (behind 0) (the 0 1) (behind 2)
declaration_1_is =
    the_callers (t 0) _ _ _ refl (a_path _ _ _ (one_name (t 1) _ _ refl))

declaration_2_is : IsDeclaration limits 16 (behind 2) (the 1 2) (behind 11)
declaration_2_is =
    a_column _ _ _ (an_object_column _ (t 2) (t 3) (t 4) (t 10) _ _ _ _ refl refl refl
    (more_columns _ _ _ _ _ _ (a_state_column _ (t 5) (t 6) (t 7) _ _ _ _ _ _ _ _ refl refl refl (texts (t 8) _ refl) (just_one (t 9) _ refl) (left_out _))
    (no_columns _ _)) refl)

declaration_3_is : IsDeclaration limits 16 (behind 11) (the 3 5) (behind 42)
declaration_3_is =
    a_column _ _ _ (an_object_column _ (t 11) (t 12) (t 13) (t 41) _ _ _ _ refl refl refl
    (more_columns _ _ _ _ _ _ (a_state_column _ (t 14) (t 15) (t 16) _ _ _ _ _ _ _ _ refl refl refl (numbers (t 17) _ refl) (just_one (t 18) _ refl)
    (stated _ _ _ (a_first (t 19) _ _ _ refl (a_number (t 20) _ _ refl))))
    (more_columns _ _ _ _ _ _
    (an_object_column _ (t 21) (t 22) (t 23) (t 29) _ _ _ _ refl refl refl
    (more_columns _ _ _ _ _ _
    (a_state_column _ (t 24) (t 25) (t 26) _ _ _ _ _ _ _ _ refl refl refl (objects _ _ _ (a_path _ _ _ (one_name (t 27) _ _ refl))) (just_one (t 28) _ refl)
    (left_out _)) (no_columns _ _)) refl)
    (more_columns _ _ _ _ _ _
    (a_formula_column _ (t 30) (t 31) (t 34) _ _ _ _ _ _ refl refl (stated _ _ _ (a_declared (t 32) _ _ _ refl (numbers (t 33) _ refl))) refl
    (a_formula _ _ (expression_of_sums
    (an_operation level.Sums operator.Minus (t 36) _ _ _ _ (sums_of_atom (a_leaf (t 35) _ refl)) refl
    (products_of_atom (a_call (t 37) (t 38) (t 40) _ _ _ refl refl (expression_of_atom (a_leaf (t 39) _ refl)) refl)))) refl refl refl)) (no_columns _ _))))
    refl)

declaration_4_is : IsDeclaration limits 16 (behind 42) (the 8 1) (behind 80)
declaration_4_is =
    one_procedure _ _ _
    (a_procedure (t 42) (t 43) _ _ _ _ _ _ _ _ refl refl
    (some_parameters (t 44) (t 52) _ _ _ refl
    (more_parameters _ _ _ (t 48) _ _ (a_parameter (t 45) (t 46) _ _ _ _ refl refl (objects _ _ _ (a_path _ _ _ (one_name (t 47) _ _ refl)))) refl
    (one_parameter _ _ _ (a_parameter (t 49) (t 50) _ _ _ _ refl refl (truths (t 51) _ refl)))) (omega arith) refl)
    (stated _ _ _ (an_allow (t 53) _ _ _ refl (a_formula _ _ (expression_of_atom (a_leaf (t 54) _ refl)) refl refl refl)))
    (a_block _ (t 55) (t 79) _ _ _ refl
    (more_statements _ _ _ _ _ _ (an_if_else _ (t 56) (t 62) _ _ _ _ _ _ _ refl (a_formula _ _ (expression_of_atom (a_leaf (t 57) _ refl)) refl refl refl)
    (a_block _ (t 58) (t 61) _ _ _ refl
    (more_statements _ _ _ _ _ _ (a_delete _ (t 59) _ _ _ refl (a_formula _ _ (expression_of_atom (a_leaf (t 60) _ refl)) refl refl refl))
    (no_statements _ _)) refl) refl
    (a_block _ (t 63) (t 78) _ _ _ refl
    (more_statements _ _ _ _ _ _
    (a_for _ (t 64) (t 65) (t 66) _ _ _ _ _ _ refl refl refl
    (a_formula _ _ (expression_of_postfix (a_child (t 68) (t 69) _ _ _ (postfix_of_atom (a_leaf (t 67) _ refl)) refl refl)) refl refl refl)
    (a_block _ (t 70) (t 77) _ _ _ refl
    (more_statements _ _ _ _ _ _
    (an_assignment _ (t 71) (t 75) _ _ _ _ _ refl (of_object (t 73) (t 74) _ _ _ _ (a_formula _ _ (postfix_of_atom (a_leaf (t 72) _ refl)) refl refl refl)
    refl refl) refl (a_formula _ _ (expression_of_atom (a_leaf (t 76) _ refl)) refl refl refl)) (no_statements _ _)) refl)) (no_statements _ _)) refl))
    (no_statements _ _)) refl))

declaration_5_is : IsDeclaration limits 16 (behind 80) (the 9 1) (behind 100)
declaration_5_is =
    one_view _ _ _ (a_view (t 80) (t 81) (t 84) (t 99) _ _ _ _ _ _ _ _ refl refl (no_parameters (t 82) (t 83) _ refl refl) (left_out _) refl
    (one_more _ _ _ _ _
    (a_table (t 85) (t 86) (t 87) (t 88) (t 89) (t 91) (t 98) _ _ _ _ _ _ _ refl refl refl refl refl
    (a_formula _ _ (expression_of_atom (a_leaf (t 90) _ refl)) refl refl refl) refl
    (one_more _ _ _ _ _
    (a_show (t 92) (t 93) (t 94) _ _ _ _ refl refl refl
    (a_formula _ _ (expression_of_postfix (a_child (t 96) (t 97) _ _ _ (postfix_of_atom (a_leaf (t 95) _ refl)) refl refl)) refl refl refl)) (none _)) refl)
    (none _)) refl)

pub courses_is_read : IsDefinition courses_text courses
unfolding is_utf8 chars encode is_reserved
courses_is_read = record {
  short = omega arith;
  encoded = refl;
  tokens = tokens;
  told = refl;
  produced =
      more_declarations _ _ _ _ declaration_1_is
      (more_declarations _ _ _ _ declaration_2_is
      (more_declarations _ _ _ _ declaration_3_is
      (more_declarations _ _ _ _ declaration_4_is (more_declarations _ _ _ _ declaration_5_is no_declarations))));
}
