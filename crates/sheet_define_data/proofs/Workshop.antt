-- The workshop, derived from its tokens.
use Rattle.std.proofs.Common.{refl, arith, ℕ, List, [], ◌∷◌, take, drop}
use Rattle.std.specs.Prelude.{slice_index_or}
use lib.Utf8.{encode}
use Rattle.std.specs.Str.{is_utf8, chars}
use Rattle.sheet_syntax_trees.specs.declared.token.Token.{Token}
use Rattle.sheet_syntax_trees.specs.Tokens.{is_reserved}
use Rattle.sheet_syntax_trees.specs.declared.operators.Operator.TheVariants as operator
use Rattle.sheet_syntax_trees.specs.declared.operators.Gathering.TheVariants as gathering
use Rattle.sheet_syntax_trees.specs.declared.operators.Level.TheVariants as level
use Rattle.sheet_syntax_trees.specs.declared.operators.Prefix.TheVariants as prefix
use Rattle.sheet_syntax_trees.specs.Grammar.{an_operation, a_prefix, a_child, an_up, a_leaf, in_parentheses, no_set, a_comprehension, a_sum, a_call, a_test}
use Rattle.sheet_syntax_trees.specs.Grammar.{all_values, chosen_values}
use Rattle.sheet_define_data.specs.declared.definition.Declaration.{Declaration}
use Rattle.sheet_define_data.specs.Grammar.{IsDefinition, IsDeclaration, left_out, stated, none, one_more, one_name, more_names, a_path, numbers, texts, truths}
use Rattle.sheet_define_data.specs.Grammar.{objects, a_negative_number, a_text, a_true, a_false, any_count, just_one, a_first, an_allow, an_object_column}
use Rattle.sheet_define_data.specs.Grammar.{a_state_column, no_columns, more_columns, a_parameter, one_parameter, no_parameters, some_parameters, of_root}
use Rattle.sheet_define_data.specs.Grammar.{of_object, a_let, an_assignment, an_add, a_remove, a_new, a_check, a_reply, an_if, no_statements, more_statements}
use Rattle.sheet_define_data.specs.Grammar.{a_block, a_procedure, a_show, one_show, a_view, a_column, one_procedure, one_view, no_declarations}
use Rattle.sheet_define_data.specs.Grammar.{more_declarations}
use Rattle.sheet_define_data.specs.Examples.{workshop, workshop_text}
use Rattle.sheet_define_data.proofs.Tokens.{word, name, symbol, number, text}
use Rattle.sheet_define_data.proofs.Lifting.{limits, a_formula, expression_of_atom, expression_of_comparison, expression_of_negation, expression_of_postfix}
use Rattle.sheet_define_data.proofs.Lifting.{expression_of_sums, expression_of_unary, negation_of_atom, postfix_of_atom, products_of_atom, sets_of_atom}
use Rattle.sheet_define_data.proofs.Lifting.{sums_of_atom, unary_of_atom}

-- the tokens, with the offset and the line of each
abbrev tokens : List Token
tokens =
    (word "state" 0 1) ∷ (name "open" 6 1) ∷ (symbol ":" 11 1) ∷ (word "truth" 13 1) ∷ (word "one" 19 1) ∷ (symbol "=" 23 1) ∷ (word "true" 25 1)
    ∷ (word "state" 30 2) ∷ (name "least" 36 2) ∷ (symbol ":" 42 2) ∷ (word "number" 44 2) ∷ (symbol "=" 51 2) ∷ (symbol "-" 53 2) ∷ (number 3 54 55 2)
    ∷ (word "state" 56 3) ∷ (name "title" 62 3) ∷ (symbol ":" 68 3) ∷ (word "text" 70 3) ∷ (word "one" 75 3) ∷ (symbol "=" 79 3) ∷ (text "say \"go\"" 81 93 3)
    ∷ (word "object" 94 4) ∷ (name "Order" 101 4) ∷ (symbol "{" 107 4)
    ∷ (word "state" 111 5) ∷ (name "notes" 117 5) ∷ (symbol ":" 123 5) ∷ (word "text" 125 5)
    ∷ (word "state" 132 6) ∷ (name "paid" 138 6) ∷ (symbol ":" 143 6) ∷ (word "truth" 145 6) ∷ (word "one" 151 6) ∷ (symbol "=" 155 6) ∷ (word "false" 157 6)
    ∷ (word "object" 165 7) ∷ (name "Line" 172 7) ∷ (symbol "{" 177 7)
    ∷ (word "state" 183 8) ∷ (name "parts" 189 8) ∷ (symbol ":" 195 8) ∷ (name "Order" 197 8) ∷ (symbol "." 202 8) ∷ (name "Line" 203 8)
    ∷ (symbol "}" 210 9)
    ∷ (symbol "}" 212 10)
    ∷ (word "procedure" 214 11) ∷ (name "move" 224 11) ∷
    (symbol "(" 228 11) ∷ (name "l" 229 11) ∷ (symbol ":" 231 11) ∷ (name "Order" 233 11) ∷ (symbol "." 238 11) ∷ (name "Line" 239 11) ∷ (symbol ")" 243 11)
    ∷ (symbol "{" 245 11)
    ∷ (word "let" 249 12) ∷ (name "parts" 253 12) ∷ (symbol "=" 259 12) ∷ (name "l" 261 12) ∷ (symbol "." 262 12) ∷ (name "parts" 263 12)
    ∷ (word "check" 271 13) ∷ (word "count" 277 13) ∷ (symbol "(" 282 13) ∷ (name "parts" 283 13) ∷ (symbol ")" 288 13) ∷ (symbol ">" 290 13) ∷
    (name "least" 292 13) ∷ (word "else" 298 13) ∷ (text "too few parts" 303 318 13)
    ∷ (word "new" 321 14) ∷ (name "n" 325 14) ∷ (symbol "=" 327 14) ∷ (name "Order" 329 14)
    ∷ (word "add" 337 15) ∷ (name "title" 341 15) ∷ (word "to" 347 15) ∷ (name "l" 350 15) ∷ (symbol "." 351 15) ∷ (word "up" 352 15) ∷ (symbol "." 354 15) ∷
    (name "notes" 355 15)
    ∷ (word "remove" 363 16) ∷ (symbol "{" 370 16) ∷ (symbol "}" 371 16) ∷ (word "from" 373 16) ∷ (name "l" 378 16) ∷ (symbol "." 379 16) ∷
    (name "parts" 380 16)
    ∷ (word "if" 388 17) ∷ (name "open" 391 17) ∷ (symbol "{" 396 17)
    ∷ (word "set" 402 18) ∷ (name "open" 406 18) ∷ (symbol "=" 411 18) ∷ (word "not" 413 18) ∷ (name "open" 417 18)
    ∷ (symbol "}" 424 19)
    ∷ (word "reply" 428 20) ∷ (name "n" 434 20)
    ∷ (symbol "}" 436 21)
    ∷ (word "procedure" 438 22) ∷ (name "clear" 448 22) ∷ (symbol "(" 453 22) ∷ (symbol ")" 454 22) ∷ (symbol "{" 456 22)
    ∷ (symbol "}" 458 23)
    ∷ (word "view" 460 24) ∷ (name "lines" 465 24) ∷ (symbol "(" 470 24) ∷ (name "l" 471 24) ∷ (symbol ":" 473 24) ∷ (name "Order" 475 24) ∷ (symbol "." 480 24)
    ∷ (name "Line" 481 24) ∷ (symbol ")" 485 24) ∷ (word "allow" 487 24) ∷ (word "operator" 493 24) ∷ (symbol "{" 502 24)
    ∷ (word "show" 506 25) ∷ (name "parts" 511 25) ∷ (symbol "=" 517 25) ∷
    (symbol "{" 519 25) ∷ (name "p" 520 25) ∷ (symbol ":" 522 25) ∷ (name "p" 524 25) ∷ (word "in" 526 25) ∷ (name "l" 529 25) ∷ (symbol "." 530 25) ∷
    (name "parts" 531 25) ∷ (symbol "|" 537 25) ∷ (word "any" 539 25) ∷
    (symbol "(" 542 25) ∷ (name "q" 543 25) ∷ (word "in" 545 25) ∷ (name "p" 548 25) ∷ (symbol "." 549 25) ∷ (name "parts" 550 25) ∷ (symbol "|" 556 25) ∷
    (name "q" 558 25) ∷ (symbol "=" 560 25) ∷ (name "l" 562 25) ∷ (symbol ")" 563 25) ∷ (symbol "}" 564 25)
    ∷ (word "show" 568 26) ∷ (name "orders" 573 26) ∷ (symbol "=" 580 26) ∷ (word "sum" 582 26) ∷
    (symbol "(" 585 26) ∷ (number 1 586 587 26) ∷ (symbol ":" 588 26) ∷ (name "o" 590 26) ∷ (word "in" 592 26) ∷ (name "Order" 595 26) ∷ (symbol ")" 600 26)
    ∷ (symbol "+" 602 26) ∷ (symbol "(" 604 26) ∷ (symbol "-" 605 26) ∷ (name "least" 606 26) ∷ (symbol ")" 611 26)
    ∷ (symbol "}" 613 27)
    ∷ []

-- the token at that place
abbrev t : ℕ → Token
t k = slice_index_or tokens k (word "" 0 0)

-- so many declarations from that place on
abbrev the : ℕ → ℕ → List Declaration
the k count = take count (drop k workshop.declarations)

-- the tokens from that place on
abbrev behind : ℕ → List Token
behind k = drop k tokens

declaration_1_is : IsDeclaration limits 16 (behind 0) (the 0 1) (behind 7)
declaration_1_is =
    a_column _ _ _ (a_state_column _ (t 0) (t 1) (t 2) _ _ _ _ _ _ _ _ refl refl refl (truths (t 3) _ refl) (just_one (t 4) _ refl)
    (stated _ _ _ (a_first (t 5) _ _ _ refl (a_true (t 6) _ refl))))

declaration_2_is : IsDeclaration limits 16 (behind 7) (the 1 1) (behind 14)
declaration_2_is =
    a_column _ _ _ (a_state_column _ (t 7) (t 8) (t 9) _ _ _ _ _ _ _ _ refl refl refl (numbers (t 10) _ refl) (any_count _)
    (stated _ _ _ (a_first (t 11) _ _ _ refl (a_negative_number (t 12) (t 13) _ _ refl refl))))

declaration_3_is : IsDeclaration limits 16 (behind 14) (the 2 1) (behind 21)
declaration_3_is =
    a_column _ _ _ (a_state_column _ (t 14) (t 15) (t 16) _ _ _ _ _ _ _ _ refl refl refl (texts (t 17) _ refl) (just_one (t 18) _ refl)
    (stated _ _ _ (a_first (t 19) _ _ _ refl (a_text (t 20) _ _ refl))))

declaration_4_is : IsDeclaration limits 16 (behind 21) (the 3 5) (behind 46)
declaration_4_is =
    a_column _ _ _ (an_object_column _ (t 21) (t 22) (t 23) (t 45) _ _ _ _ refl refl refl
    (more_columns _ _ _ _ _ _ (a_state_column _ (t 24) (t 25) (t 26) _ _ _ _ _ _ _ _ refl refl refl (texts (t 27) _ refl) (any_count _) (left_out _))
    (more_columns _ _ _ _ _ _ (a_state_column _ (t 28) (t 29) (t 30) _ _ _ _ _ _ _ _ refl refl refl (truths (t 31) _ refl) (just_one (t 32) _ refl)
    (stated _ _ _ (a_first (t 33) _ _ _ refl (a_false (t 34) _ refl))))
    (more_columns _ _ _ _ _ _
    (an_object_column _ (t 35) (t 36) (t 37) (t 44) _ _ _ _ refl refl refl
    (more_columns _ _ _ _ _ _
    (a_state_column _ (t 38) (t 39) (t 40) _ _ _ _ _ _ _ _ refl refl refl
    (objects _ _ _ (a_path _ _ _ (more_names (t 41) (t 42) _ _ _ _ refl refl (one_name (t 43) _ _ refl)))) (any_count _) (left_out _)) (no_columns _ _))
    refl) (no_columns _ _)))) refl)

declaration_5_is : IsDeclaration limits 16 (behind 46) (the 8 1) (behind 102)
declaration_5_is =
    one_procedure _ _ _
    (a_procedure (t 46) (t 47) _ _ _ _ _ _ _ _ refl refl
    (some_parameters (t 48) (t 54) _ _ _ refl
    (one_parameter _ _ _
    (a_parameter (t 49) (t 50) _ _ _ _ refl refl (objects _ _ _ (a_path _ _ _ (more_names (t 51) (t 52) _ _ _ _ refl refl (one_name (t 53) _ _ refl))))))
    (omega arith) refl) (left_out _)
    (a_block _ (t 55) (t 101) _ _ _ refl
    (more_statements _ _ _ _ _ _
    (a_let _ (t 56) (t 57) (t 58) _ _ _ _ refl refl refl
    (a_formula _ _ (expression_of_postfix (a_child (t 60) (t 61) _ _ _ (postfix_of_atom (a_leaf (t 59) _ refl)) refl refl)) refl refl refl))
    (more_statements _ _ _ _ _ _
    (a_check _ (t 62) (t 69) (t 70) _ _ _ _ refl
    (a_formula _ _ (expression_of_comparison
    (an_operation level.Comparison operator.Greater (t 67) _ _ _ _
    (sets_of_atom (a_call (t 63) (t 64) (t 66) _ _ _ refl refl (expression_of_atom (a_leaf (t 65) _ refl)) refl)) refl
    (sets_of_atom (a_leaf (t 68) _ refl)))) refl refl refl) refl refl)
    (more_statements _ _ _ _ _ _ (a_new _ (t 71) (t 72) (t 73) _ _ _ _ refl refl refl (of_root (t 74) _ _ refl))
    (more_statements _ _ _ _ _ _ (an_add _ (t 75) (t 77) _ _ _ _ _ refl (a_formula _ _ (expression_of_atom (a_leaf (t 76) _ refl)) refl refl refl) refl
    (of_object (t 81) (t 82) _ _ _ _ (a_formula _ _ (an_up (t 79) (t 80) _ _ (postfix_of_atom (a_leaf (t 78) _ refl)) refl refl) refl refl refl) refl refl))
    (more_statements _ _ _ _ _ _
    (a_remove _ (t 83) (t 86) _ _ _ _ _ refl (a_formula _ _ (expression_of_atom (no_set (t 84) (t 85) refl refl)) refl refl refl) refl
    (of_object (t 88) (t 89) _ _ _ _ (a_formula _ _ (postfix_of_atom (a_leaf (t 87) _ refl)) refl refl refl) refl refl))
    (more_statements _ _ _ _ _ _ (an_if _ (t 90) _ _ _ _ _ refl (a_formula _ _ (expression_of_atom (a_leaf (t 91) _ refl)) refl refl refl)
    (a_block _ (t 92) (t 98) _ _ _ refl
    (more_statements _ _ _ _ _ _
    (an_assignment _ (t 93) (t 95) _ _ _ _ _ refl (of_root (t 94) _ _ refl) refl
    (a_formula _ _ (expression_of_negation (a_prefix prefix.Not (t 96) _ _ refl (negation_of_atom (a_leaf (t 97) _ refl)))) refl refl refl))
    (no_statements _ _)) refl))
    (more_statements _ _ _ _ _ _ (a_reply _ (t 99) _ _ _ refl (a_formula _ _ (expression_of_atom (a_leaf (t 100) _ refl)) refl refl refl))
    (no_statements _ _)))))))) refl))

declaration_6_is : IsDeclaration limits 16 (behind 102) (the 9 1) (behind 108)
declaration_6_is =
    one_procedure _ _ _ (a_procedure (t 102) (t 103) _ _ _ _ _ _ _ _ refl refl (no_parameters (t 104) (t 105) _ refl refl) (left_out _)
    (a_block _ (t 106) (t 107) _ _ _ refl (no_statements _ _) refl))

declaration_7_is : IsDeclaration limits 16 (behind 108) (the 10 1) (behind 162)
declaration_7_is =
    one_view _ _ _ (a_view (t 108) (t 109) (t 119) (t 161) _ _ _ _ _ _ _ _ refl refl
    (some_parameters (t 110) (t 116) _ _ _ refl
    (one_parameter _ _ _
    (a_parameter (t 111) (t 112) _ _ _ _ refl refl
    (objects _ _ _ (a_path _ _ _ (more_names (t 113) (t 114) _ _ _ _ refl refl (one_name (t 115) _ _ refl)))))) (omega arith) refl)
    (stated _ _ _ (an_allow (t 117) _ _ _ refl (a_formula _ _ (expression_of_atom (a_leaf (t 118) _ refl)) refl refl refl))) refl
    (one_more _ _ _ _ _
    (one_show _ _ _ (a_show (t 120) (t 121) (t 122) _ _ _ _ refl refl refl
    (a_formula _ _ (expression_of_atom
    (a_comprehension (t 123) (t 144) _ _ refl
    (chosen_values _ gathering.Union (t 125) (t 126) (t 127) (t 131) _ _ _ _ _ _ _ (expression_of_atom (a_leaf (t 124) _ refl)) refl refl refl
    (expression_of_postfix (a_child (t 129) (t 130) _ _ _ (postfix_of_atom (a_leaf (t 128) _ refl)) refl refl)) refl
    (expression_of_atom
    (a_test (t 132) (t 133) (t 134) (t 135) (t 139) (t 143) _ _ _ _ _ _ refl refl refl refl
    (expression_of_postfix (a_child (t 137) (t 138) _ _ _ (postfix_of_atom (a_leaf (t 136) _ refl)) refl refl)) refl
    (expression_of_comparison (an_operation level.Comparison operator.Equals (t 141) _ _ _ _ (sets_of_atom (a_leaf (t 140) _ refl)) refl
    (sets_of_atom (a_leaf (t 142) _ refl)))) refl))) refl)) refl refl refl)))
    (one_more _ _ _ _ _
    (one_show _ _ _ (a_show (t 145) (t 146) (t 147) _ _ _ _ refl refl refl
    (a_formula _ _ (expression_of_sums
    (an_operation level.Sums operator.Plus (t 156) _ _ _ _
    (sums_of_atom (a_sum (t 148) (t 149) (t 155) _ _ refl refl
    (all_values _ gathering.Sum (t 151) (t 152) (t 153) _ _ _ _ _ (expression_of_atom (a_leaf (t 150) _ refl)) refl refl refl
    (expression_of_atom (a_leaf (t 154) _ refl))) refl)) refl
    (products_of_atom
    (in_parentheses (t 157) (t 160) _ _ refl (expression_of_unary (a_prefix prefix.Minus (t 158) _ _ refl (unary_of_atom (a_leaf (t 159) _ refl)))) refl))))
    refl refl refl))) (none _))) refl)

pub workshop_is_read : IsDefinition workshop_text workshop
unfolding is_utf8 chars encode is_reserved
workshop_is_read = record {
  short = omega arith;
  encoded = refl;
  tokens = tokens;
  told = refl;
  produced =
      more_declarations _ _ _ _ declaration_1_is
      (more_declarations _ _ _ _ declaration_2_is
      (more_declarations _ _ _ _ declaration_3_is
      (more_declarations _ _ _ _ declaration_4_is
      (more_declarations _ _ _ _ declaration_5_is
      (more_declarations _ _ _ _ declaration_6_is (more_declarations _ _ _ _ declaration_7_is no_declarations))))));
}
