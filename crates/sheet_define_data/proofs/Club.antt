-- The club, derived from its tokens.
use Rattle.std.proofs.Common.{refl, arith, ℕ, List, [], ◌∷◌, take, drop}
use Rattle.std.specs.Prelude.{slice_index_or}
use lib.Utf8.{encode}
use Rattle.std.specs.Str.{is_utf8, chars}
use Rattle.sheet_syntax_trees.specs.declared.token.Token.{Token}
use Rattle.sheet_syntax_trees.specs.Tokens.{is_reserved}
use Rattle.sheet_syntax_trees.specs.declared.operators.Operator.TheVariants as operator
use Rattle.sheet_syntax_trees.specs.declared.operators.Gathering.TheVariants as gathering
use Rattle.sheet_syntax_trees.specs.declared.operators.Level.TheVariants as level
use Rattle.sheet_syntax_trees.specs.declared.operators.Prefix.TheVariants as prefix
use Rattle.sheet_syntax_trees.specs.Grammar.{an_operation, a_prefix, a_child, a_leaf, a_comprehension, a_call, chosen_values}
use Rattle.sheet_define_data.specs.declared.definition.Declaration.{Declaration}
use Rattle.sheet_define_data.specs.Grammar.{IsDeclaration, left_out, stated, none, one_more, one_name, a_path, numbers, texts, objects, just_one, an_allow}
use Rattle.sheet_define_data.specs.Grammar.{an_object_column, a_state_column, a_formula_column, no_columns, more_columns, a_parameter, one_parameter}
use Rattle.sheet_define_data.specs.Grammar.{more_parameters, no_parameters, some_parameters, of_root, of_object, an_assignment, a_new, a_delete, a_check}
use Rattle.sheet_define_data.specs.Grammar.{a_reply, a_for, no_statements, more_statements, a_block, a_procedure, a_show, one_show, a_table, a_view}
use Rattle.sheet_define_data.specs.Grammar.{the_callers, a_column, one_procedure, one_view, no_declarations, more_declarations}
use Rattle.sheet_define_data.specs.Club.{club, ClubIsRead}
use Rattle.sheet_define_data.proofs.Tokens.{word, name, symbol, number, text}
use Rattle.sheet_define_data.proofs.Lifting.{limits, a_formula, expression_of_atom, expression_of_comparison, expression_of_negation, expression_of_postfix}
use Rattle.sheet_define_data.proofs.Lifting.{expression_of_sums, negation_of_comparison, postfix_of_atom, products_of_atom, sets_of_atom, sets_of_postfix}
use Rattle.sheet_define_data.proofs.Lifting.{sums_of_atom}

-- the tokens, with the offset and the line of each
abbrev tokens : List Token
tokens =
    (word "callers" 0 1) ∷ (name "Member" 8 1)
    ∷ (word "object" 15 2) ∷ (name "Course" 22 2) ∷ (symbol "{" 29 2)
    ∷ (word "state" 33 3) ∷ (name "title" 39 3) ∷ (symbol ":" 45 3) ∷ (word "text" 47 3) ∷ (word "one" 52 3)
    ∷ (word "state" 58 4) ∷ (name "capacity" 64 4) ∷ (symbol ":" 73 4) ∷ (word "number" 75 4) ∷ (word "one" 82 4)
    ∷ (word "object" 88 5) ∷ (name "Seat" 95 5) ∷ (symbol "{" 100 5)
    ∷ (word "state" 106 6) ∷ (name "member" 112 6) ∷ (symbol ":" 119 6) ∷ (name "Member" 121 6) ∷ (word "one" 128 6)
    ∷ (symbol "}" 134 7)
    ∷ (word "formula" 138 8) ∷ (name "taken" 146 8) ∷ (symbol "=" 152 8) ∷ (name "Seat" 154 8) ∷ (symbol "." 158 8) ∷ (name "member" 159 8)
    ∷ (word "formula" 168 9) ∷ (name "free" 176 9) ∷ (symbol "=" 181 9) ∷ (name "capacity" 183 9) ∷ (symbol "-" 192 9) ∷ (word "count" 194 9) ∷
    (symbol "(" 199 9) ∷ (name "Seat" 200 9) ∷ (symbol ")" 204 9)
    ∷ (symbol "}" 206 10)
    ∷ (word "object" 208 11) ∷ (name "Member" 215 11) ∷ (symbol "{" 222 11)
    ∷ (word "state" 226 12) ∷ (name "name" 232 12) ∷ (symbol ":" 237 12) ∷ (word "text" 239 12) ∷ (word "one" 244 12)
    ∷ (word "formula" 250 13) ∷ (name "courses" 258 13) ∷ (symbol "=" 266 13) ∷
    (symbol "{" 268 13) ∷ (name "c" 269 13) ∷ (symbol ":" 271 13) ∷ (name "c" 273 13) ∷ (word "in" 275 13) ∷ (name "Course" 278 13) ∷ (symbol "|" 285 13) ∷
    (word "this" 287 13) ∷ (word "in" 292 13) ∷ (name "c" 295 13) ∷ (symbol "." 296 13) ∷ (name "taken" 297 13) ∷ (symbol "}" 302 13)
    ∷ (symbol "}" 304 14)
    ∷ (word "procedure" 306 15) ∷ (name "add_course" 316 15) ∷
    (symbol "(" 326 15) ∷ (name "title" 327 15) ∷ (symbol ":" 333 15) ∷ (word "text" 335 15) ∷ (symbol "," 339 15) ∷ (name "capacity" 341 15) ∷
    (symbol ":" 350 15) ∷ (word "number" 352 15) ∷ (symbol ")" 358 15) ∷ (word "allow" 360 15) ∷ (word "operator" 366 15) ∷ (symbol "{" 375 15)
    ∷ (word "check" 379 16) ∷ (name "capacity" 385 16) ∷ (symbol ">=" 394 16) ∷ (number 0 397 398 16) ∷ (word "else" 399 16) ∷ (text "capacity is below zero"
    404 428 16)
    ∷ (word "new" 431 17) ∷ (name "c" 435 17) ∷ (symbol "=" 437 17) ∷ (name "Course" 439 17)
    ∷ (word "set" 448 18) ∷ (name "c" 452 18) ∷ (symbol "." 453 18) ∷ (name "title" 454 18) ∷ (symbol "=" 460 18) ∷ (name "title" 462 18)
    ∷ (word "set" 470 19) ∷ (name "c" 474 19) ∷ (symbol "." 475 19) ∷ (name "capacity" 476 19) ∷ (symbol "=" 485 19) ∷ (name "capacity" 487 19)
    ∷ (word "reply" 498 20) ∷ (name "c" 504 20)
    ∷ (symbol "}" 506 21)
    ∷ (word "procedure" 508 22) ∷ (name "add_member" 518 22) ∷
    (symbol "(" 528 22) ∷ (name "name" 529 22) ∷ (symbol ":" 534 22) ∷ (word "text" 536 22) ∷ (symbol ")" 540 22) ∷ (word "allow" 542 22) ∷
    (word "operator" 548 22) ∷ (symbol "{" 557 22)
    ∷ (word "new" 561 23) ∷ (name "m" 565 23) ∷ (symbol "=" 567 23) ∷ (name "Member" 569 23)
    ∷ (word "set" 578 24) ∷ (name "m" 582 24) ∷ (symbol "." 583 24) ∷ (name "name" 584 24) ∷ (symbol "=" 589 24) ∷ (name "name" 591 24)
    ∷ (word "reply" 598 25) ∷ (name "m" 604 25)
    ∷ (symbol "}" 606 26)
    ∷ (word "procedure" 608 27) ∷ (name "set_name" 618 27) ∷
    (symbol "(" 626 27) ∷ (name "m" 627 27) ∷ (symbol ":" 629 27) ∷ (name "Member" 631 27) ∷ (symbol "," 637 27) ∷ (name "name" 639 27) ∷
    (symbol ":" 644 27) ∷ (word "text" 646 27) ∷ (symbol ")" 650 27) ∷ (word "allow" 652 27) ∷ (word "operator" 658 27) ∷ (symbol "{" 667 27)
    ∷ (word "set" 671 28) ∷ (name "m" 675 28) ∷ (symbol "." 676 28) ∷ (name "name" 677 28) ∷ (symbol "=" 682 28) ∷ (name "name" 684 28)
    ∷ (symbol "}" 689 29)
    ∷ (word "procedure" 691 30) ∷ (name "join" 701 30) ∷ (symbol "(" 705 30) ∷ (name "c" 706 30) ∷ (symbol ":" 708 30) ∷ (name "Course" 710 30) ∷ (symbol ")"
    716 30) ∷ (symbol "{" 718 30)
    ∷ (word "check" 722 31) ∷ (word "count" 728 31) ∷ (symbol "(" 733 31) ∷ (word "caller" 734 31) ∷ (symbol ")" 740 31) ∷ (symbol "=" 742 31) ∷
    (number 1 744 745 31) ∷ (word "else" 746 31) ∷ (text "no member" 751 762 31)
    ∷ (word "check" 765 32) ∷ (word "not" 771 32) ∷ (word "caller" 775 32) ∷ (word "in" 782 32) ∷ (name "c" 785 32) ∷ (symbol "." 786 32) ∷
    (name "taken" 787 32) ∷ (word "else" 793 32) ∷ (text "already joined" 798 814 32)
    ∷ (word "check" 817 33) ∷ (name "c" 823 33) ∷ (symbol "." 824 33) ∷ (name "free" 825 33) ∷ (symbol ">" 830 33) ∷ (number 0 832 833 33) ∷
    (word "else" 834 33) ∷ (text "the course is full" 839 859 33)
    ∷ (word "new" 862 34) ∷ (name "s" 866 34) ∷ (symbol "=" 868 34) ∷ (name "c" 870 34) ∷ (symbol "." 871 34) ∷ (name "Seat" 872 34)
    ∷ (word "set" 879 35) ∷ (name "s" 883 35) ∷ (symbol "." 884 35) ∷ (name "member" 885 35) ∷ (symbol "=" 892 35) ∷ (word "caller" 894 35)
    ∷ (word "reply" 903 36) ∷ (name "s" 909 36)
    ∷ (symbol "}" 911 37)
    ∷ (word "procedure" 913 38) ∷ (name "enrol" 923 38) ∷
    (symbol "(" 928 38) ∷ (name "c" 929 38) ∷ (symbol ":" 931 38) ∷ (name "Course" 933 38) ∷ (symbol "," 939 38) ∷ (name "m" 941 38) ∷ (symbol ":" 943 38) ∷
    (name "Member" 945 38) ∷ (symbol ")" 951 38) ∷ (word "allow" 953 38) ∷ (word "operator" 959 38) ∷ (symbol "{" 968 38)
    ∷ (word "check" 972 39) ∷ (word "not" 978 39) ∷ (name "m" 982 39) ∷ (word "in" 984 39) ∷ (name "c" 987 39) ∷ (symbol "." 988 39) ∷ (name "taken" 989 39) ∷
    (word "else" 995 39) ∷ (text "already joined" 1000 1016 39)
    ∷ (word "check" 1019 40) ∷ (name "c" 1025 40) ∷ (symbol "." 1026 40) ∷ (name "free" 1027 40) ∷ (symbol ">" 1032 40) ∷ (number 0 1034 1035 40) ∷
    (word "else" 1036 40) ∷ (text "the course is full" 1041 1061 40)
    ∷ (word "new" 1064 41) ∷ (name "s" 1068 41) ∷ (symbol "=" 1070 41) ∷ (name "c" 1072 41) ∷ (symbol "." 1073 41) ∷ (name "Seat" 1074 41)
    ∷ (word "set" 1081 42) ∷ (name "s" 1085 42) ∷ (symbol "." 1086 42) ∷ (name "member" 1087 42) ∷ (symbol "=" 1094 42) ∷ (name "m" 1096 42)
    ∷ (word "reply" 1100 43) ∷ (name "s" 1106 43)
    ∷ (symbol "}" 1108 44)
    ∷ (word "procedure" 1110 45) ∷ (name "leave" 1120 45) ∷
    (symbol "(" 1125 45) ∷ (name "c" 1126 45) ∷ (symbol ":" 1128 45) ∷ (name "Course" 1130 45) ∷ (symbol ")" 1136 45) ∷ (symbol "{" 1138 45)
    ∷ (word "delete" 1142 46) ∷ (symbol "{" 1149 46) ∷ (name "s" 1150 46) ∷ (symbol ":" 1152 46) ∷ (name "s" 1154 46) ∷ (word "in" 1156 46) ∷ (name "c" 1159 46)
    ∷ (symbol "." 1160 46) ∷ (name "Seat" 1161 46) ∷ (symbol "|" 1166 46) ∷ (name "s" 1168 46) ∷ (symbol "." 1169 46) ∷ (name "member" 1170 46) ∷
    (symbol "=" 1177 46) ∷ (word "caller" 1179 46) ∷ (symbol "}" 1185 46)
    ∷ (symbol "}" 1187 47)
    ∷ (word "procedure" 1189 48) ∷ (name "drop_member" 1199 48) ∷
    (symbol "(" 1210 48) ∷ (name "m" 1211 48) ∷ (symbol ":" 1213 48) ∷ (name "Member" 1215 48) ∷ (symbol ")" 1221 48) ∷ (word "allow" 1223 48) ∷
    (word "operator" 1229 48) ∷ (symbol "{" 1238 48)
    ∷ (word "delete" 1242 49) ∷ (name "m" 1249 49)
    ∷ (symbol "}" 1251 50)
    ∷ (word "procedure" 1253 51) ∷ (name "wipe" 1263 51) ∷
    (symbol "(" 1267 51) ∷ (name "c" 1268 51) ∷ (symbol ":" 1270 51) ∷ (name "Course" 1272 51) ∷ (symbol ")" 1278 51) ∷ (word "allow" 1280 51) ∷
    (word "operator" 1286 51) ∷ (symbol "{" 1295 51)
    ∷ (word "for" 1299 52) ∷ (name "s" 1303 52) ∷ (word "in" 1305 52) ∷ (name "c" 1308 52) ∷ (symbol "." 1309 52) ∷ (name "Seat" 1310 52) ∷ (symbol "{" 1315 52)
    ∷ (word "delete" 1321 53) ∷ (name "c" 1328 53)
    ∷ (symbol "}" 1332 54)
    ∷ (word "check" 1336 55) ∷ (word "false" 1342 55) ∷ (word "else" 1348 55) ∷ (text "kept" 1353 1359 55)
    ∷ (symbol "}" 1360 56)
    ∷ (word "view" 1362 57) ∷ (name "mine" 1367 57) ∷ (symbol "(" 1371 57) ∷ (symbol ")" 1372 57) ∷ (symbol "{" 1374 57)
    ∷ (word "show" 1378 58) ∷ (name "name" 1383 58) ∷ (symbol "=" 1388 58) ∷ (word "caller" 1390 58) ∷ (symbol "." 1396 58) ∷ (name "name" 1397 58)
    ∷ (word "table" 1404 59) ∷ (name "courses" 1410 59) ∷ (symbol "=" 1418 59) ∷ (name "c" 1420 59) ∷ (word "in" 1422 59) ∷ (word "caller" 1425 59) ∷
    (symbol "." 1431 59) ∷ (name "courses" 1432 59) ∷ (symbol "{" 1440 59)
    ∷ (word "show" 1446 60) ∷ (name "title" 1451 60) ∷ (symbol "=" 1457 60) ∷ (name "c" 1459 60) ∷ (symbol "." 1460 60) ∷ (name "title" 1461 60)
    ∷ (word "show" 1471 61) ∷ (name "free" 1476 61) ∷ (symbol "=" 1481 61) ∷ (name "c" 1483 61) ∷ (symbol "." 1484 61) ∷ (name "free" 1485 61)
    ∷ (symbol "}" 1492 62)
    ∷ (symbol "}" 1494 63)
    ∷ (word "view" 1496 64) ∷ (name "overview" 1501 64) ∷ (symbol "(" 1509 64) ∷ (symbol ")" 1510 64) ∷ (word "allow" 1512 64) ∷ (word "operator" 1518 64) ∷
    (symbol "{" 1527 64)
    ∷ (word "table" 1531 65) ∷ (name "courses" 1537 65) ∷ (symbol "=" 1545 65) ∷ (name "c" 1547 65) ∷ (word "in" 1549 65) ∷ (name "Course" 1552 65) ∷
    (symbol "{" 1559 65)
    ∷ (word "show" 1565 66) ∷ (name "title" 1570 66) ∷ (symbol "=" 1576 66) ∷ (name "c" 1578 66) ∷ (symbol "." 1579 66) ∷ (name "title" 1580 66)
    ∷ (word "show" 1590 67) ∷ (name "free" 1595 67) ∷ (symbol "=" 1600 67) ∷ (name "c" 1602 67) ∷ (symbol "." 1603 67) ∷ (name "free" 1604 67)
    ∷ (symbol "}" 1611 68)
    ∷ (word "show" 1615 69) ∷ (name "seats" 1620 69) ∷ (symbol "=" 1626 69) ∷ (word "count" 1628 69) ∷
    (symbol "(" 1633 69) ∷ (name "Course" 1634 69) ∷ (symbol "." 1640 69) ∷ (name "Seat" 1641 69) ∷ (symbol ")" 1645 69)
    ∷ (symbol "}" 1647 70)
    ∷ []

-- the token at that place
abbrev t : ℕ → Token
t k = slice_index_or tokens k (word "" 0 0)

-- so many declarations from that place on
abbrev the : ℕ → ℕ → List Declaration
the k count = take count (drop k club.declarations)

-- the tokens from that place on
abbrev behind : ℕ → List Token
behind k = drop k tokens

declaration_1_is : IsDeclaration limits 16 (behind 0) (the 0 1) (behind 2)
declaration_1_is =
    the_callers (t 0) _ _ _ refl (a_path _ _ _ (one_name (t 1) _ _ refl))

declaration_2_is : IsDeclaration limits 16 (behind 2) (the 1 7) (behind 40)
declaration_2_is =
    a_column _ _ _ (an_object_column _ (t 2) (t 3) (t 4) (t 39) _ _ _ _ refl refl refl
    (more_columns _ _ _ _ _ _ (a_state_column _ (t 5) (t 6) (t 7) _ _ _ _ _ _ _ _ refl refl refl (texts (t 8) _ refl) (just_one (t 9) _ refl) (left_out _))
    (more_columns _ _ _ _ _ _ (a_state_column _ (t 10) (t 11) (t 12) _ _ _ _ _ _ _ _ refl refl refl (numbers (t 13) _ refl) (just_one (t 14) _ refl)
    (left_out _)) (more_columns _ _ _ _ _ _
    (an_object_column _ (t 15) (t 16) (t 17) (t 23) _ _ _ _ refl refl refl
    (more_columns _ _ _ _ _ _
    (a_state_column _ (t 18) (t 19) (t 20) _ _ _ _ _ _ _ _ refl refl refl (objects _ _ _ (a_path _ _ _ (one_name (t 21) _ _ refl))) (just_one (t 22) _ refl)
    (left_out _)) (no_columns _ _)) refl)
    (more_columns _ _ _ _ _ _
    (a_formula_column _ (t 24) (t 25) (t 26) _ _ _ _ _ _ refl refl (left_out _) refl
    (a_formula _ _ (expression_of_postfix (a_child (t 28) (t 29) _ _ _ (postfix_of_atom (a_leaf (t 27) _ refl)) refl refl)) refl refl refl))
    (more_columns _ _ _ _ _ _
    (a_formula_column _ (t 30) (t 31) (t 32) _ _ _ _ _ _ refl refl (left_out _) refl
    (a_formula _ _ (expression_of_sums
    (an_operation level.Sums operator.Minus (t 34) _ _ _ _ (sums_of_atom (a_leaf (t 33) _ refl)) refl
    (products_of_atom (a_call (t 35) (t 36) (t 38) _ _ _ refl refl (expression_of_atom (a_leaf (t 37) _ refl)) refl)))) refl refl refl))
    (no_columns _ _)))))) refl)

declaration_3_is : IsDeclaration limits 16 (behind 40) (the 8 3) (behind 65)
declaration_3_is =
    a_column _ _ _ (an_object_column _ (t 40) (t 41) (t 42) (t 64) _ _ _ _ refl refl refl
    (more_columns _ _ _ _ _ _ (a_state_column _ (t 43) (t 44) (t 45) _ _ _ _ _ _ _ _ refl refl refl (texts (t 46) _ refl) (just_one (t 47) _ refl)
    (left_out _)) (more_columns _ _ _ _ _ _
    (a_formula_column _ (t 48) (t 49) (t 50) _ _ _ _ _ _ refl refl (left_out _) refl
    (a_formula _ _ (expression_of_atom
    (a_comprehension (t 51) (t 63) _ _ refl
    (chosen_values _ gathering.Union (t 53) (t 54) (t 55) (t 57) _ _ _ _ _ _ _ (expression_of_atom (a_leaf (t 52) _ refl)) refl refl refl
    (expression_of_atom (a_leaf (t 56) _ refl)) refl
    (expression_of_comparison (an_operation level.Comparison operator.In (t 59) _ _ _ _ (sets_of_atom (a_leaf (t 58) _ refl)) refl
    (sets_of_postfix (a_child (t 61) (t 62) _ _ _ (postfix_of_atom (a_leaf (t 60) _ refl)) refl refl))))) refl)) refl refl refl)) (no_columns _ _))) refl)

declaration_4_is : IsDeclaration limits 16 (behind 65) (the 11 1) (behind 104)
declaration_4_is =
    one_procedure _ _ _
    (a_procedure (t 65) (t 66) _ _ _ _ _ _ _ _ refl refl
    (some_parameters (t 67) (t 75) _ _ _ refl (more_parameters _ _ _ (t 71) _ _ (a_parameter (t 68) (t 69) _ _ _ _ refl refl (texts (t 70) _ refl)) refl
    (one_parameter _ _ _ (a_parameter (t 72) (t 73) _ _ _ _ refl refl (numbers (t 74) _ refl)))) (omega arith) refl)
    (stated _ _ _ (an_allow (t 76) _ _ _ refl (a_formula _ _ (expression_of_atom (a_leaf (t 77) _ refl)) refl refl refl)))
    (a_block _ (t 78) (t 103) _ _ _ refl
    (more_statements _ _ _ _ _ _
    (a_check _ (t 79) (t 83) (t 84) _ _ _ _ refl
    (a_formula _ _ (expression_of_comparison (an_operation level.Comparison operator.AtLeast (t 81) _ _ _ _ (sets_of_atom (a_leaf (t 80) _ refl)) refl
    (sets_of_atom (a_leaf (t 82) _ refl)))) refl refl refl) refl refl)
    (more_statements _ _ _ _ _ _ (a_new _ (t 85) (t 86) (t 87) _ _ _ _ refl refl refl (of_root (t 88) _ _ refl))
    (more_statements _ _ _ _ _ _
    (an_assignment _ (t 89) (t 93) _ _ _ _ _ refl (of_object (t 91) (t 92) _ _ _ _ (a_formula _ _ (postfix_of_atom (a_leaf (t 90) _ refl)) refl refl refl)
    refl refl) refl (a_formula _ _ (expression_of_atom (a_leaf (t 94) _ refl)) refl refl refl))
    (more_statements _ _ _ _ _ _
    (an_assignment _ (t 95) (t 99) _ _ _ _ _ refl (of_object (t 97) (t 98) _ _ _ _ (a_formula _ _ (postfix_of_atom (a_leaf (t 96) _ refl)) refl refl refl)
    refl refl) refl (a_formula _ _ (expression_of_atom (a_leaf (t 100) _ refl)) refl refl refl))
    (more_statements _ _ _ _ _ _ (a_reply _ (t 101) _ _ _ refl (a_formula _ _ (expression_of_atom (a_leaf (t 102) _ refl)) refl refl refl))
    (no_statements _ _)))))) refl))

declaration_5_is : IsDeclaration limits 16 (behind 104) (the 12 1) (behind 127)
declaration_5_is =
    one_procedure _ _ _
    (a_procedure (t 104) (t 105) _ _ _ _ _ _ _ _ refl refl
    (some_parameters (t 106) (t 110) _ _ _ refl (one_parameter _ _ _ (a_parameter (t 107) (t 108) _ _ _ _ refl refl (texts (t 109) _ refl))) (omega arith)
    refl) (stated _ _ _ (an_allow (t 111) _ _ _ refl (a_formula _ _ (expression_of_atom (a_leaf (t 112) _ refl)) refl refl refl)))
    (a_block _ (t 113) (t 126) _ _ _ refl (more_statements _ _ _ _ _ _ (a_new _ (t 114) (t 115) (t 116) _ _ _ _ refl refl refl (of_root (t 117) _ _ refl))
    (more_statements _ _ _ _ _ _
    (an_assignment _ (t 118) (t 122) _ _ _ _ _ refl
    (of_object (t 120) (t 121) _ _ _ _ (a_formula _ _ (postfix_of_atom (a_leaf (t 119) _ refl)) refl refl refl) refl refl) refl
    (a_formula _ _ (expression_of_atom (a_leaf (t 123) _ refl)) refl refl refl))
    (more_statements _ _ _ _ _ _ (a_reply _ (t 124) _ _ _ refl (a_formula _ _ (expression_of_atom (a_leaf (t 125) _ refl)) refl refl refl))
    (no_statements _ _)))) refl))

declaration_6_is : IsDeclaration limits 16 (behind 127) (the 13 1) (behind 148)
declaration_6_is =
    one_procedure _ _ _
    (a_procedure (t 127) (t 128) _ _ _ _ _ _ _ _ refl refl
    (some_parameters (t 129) (t 137) _ _ _ refl
    (more_parameters _ _ _ (t 133) _ _ (a_parameter (t 130) (t 131) _ _ _ _ refl refl (objects _ _ _ (a_path _ _ _ (one_name (t 132) _ _ refl)))) refl
    (one_parameter _ _ _ (a_parameter (t 134) (t 135) _ _ _ _ refl refl (texts (t 136) _ refl)))) (omega arith) refl)
    (stated _ _ _ (an_allow (t 138) _ _ _ refl (a_formula _ _ (expression_of_atom (a_leaf (t 139) _ refl)) refl refl refl)))
    (a_block _ (t 140) (t 147) _ _ _ refl
    (more_statements _ _ _ _ _ _
    (an_assignment _ (t 141) (t 145) _ _ _ _ _ refl
    (of_object (t 143) (t 144) _ _ _ _ (a_formula _ _ (postfix_of_atom (a_leaf (t 142) _ refl)) refl refl refl) refl refl) refl
    (a_formula _ _ (expression_of_atom (a_leaf (t 146) _ refl)) refl refl refl)) (no_statements _ _)) refl))

declaration_7_is : IsDeclaration limits 16 (behind 148) (the 14 1) (behind 197)
declaration_7_is =
    one_procedure _ _ _
    (a_procedure (t 148) (t 149) _ _ _ _ _ _ _ _ refl refl
    (some_parameters (t 150) (t 154) _ _ _ refl
    (one_parameter _ _ _ (a_parameter (t 151) (t 152) _ _ _ _ refl refl (objects _ _ _ (a_path _ _ _ (one_name (t 153) _ _ refl))))) (omega arith) refl)
    (left_out _) (a_block _ (t 155) (t 196) _ _ _ refl
    (more_statements _ _ _ _ _ _
    (a_check _ (t 156) (t 163) (t 164) _ _ _ _ refl
    (a_formula _ _ (expression_of_comparison
    (an_operation level.Comparison operator.Equals (t 161) _ _ _ _
    (sets_of_atom (a_call (t 157) (t 158) (t 160) _ _ _ refl refl (expression_of_atom (a_leaf (t 159) _ refl)) refl)) refl
    (sets_of_atom (a_leaf (t 162) _ refl)))) refl refl refl) refl refl)
    (more_statements _ _ _ _ _ _
    (a_check _ (t 165) (t 172) (t 173) _ _ _ _ refl
    (a_formula _ _ (expression_of_negation
    (a_prefix prefix.Not (t 166) _ _ refl
    (negation_of_comparison (an_operation level.Comparison operator.In (t 168) _ _ _ _ (sets_of_atom (a_leaf (t 167) _ refl)) refl
    (sets_of_postfix (a_child (t 170) (t 171) _ _ _ (postfix_of_atom (a_leaf (t 169) _ refl)) refl refl)))))) refl refl refl) refl refl)
    (more_statements _ _ _ _ _ _
    (a_check _ (t 174) (t 180) (t 181) _ _ _ _ refl
    (a_formula _ _ (expression_of_comparison
    (an_operation level.Comparison operator.Greater (t 178) _ _ _ _
    (sets_of_postfix (a_child (t 176) (t 177) _ _ _ (postfix_of_atom (a_leaf (t 175) _ refl)) refl refl)) refl (sets_of_atom (a_leaf (t 179) _ refl)))) refl
    refl refl) refl refl)
    (more_statements _ _ _ _ _ _
    (a_new _ (t 182) (t 183) (t 184) _ _ _ _ refl refl refl
    (of_object (t 186) (t 187) _ _ _ _ (a_formula _ _ (postfix_of_atom (a_leaf (t 185) _ refl)) refl refl refl) refl refl))
    (more_statements _ _ _ _ _ _
    (an_assignment _ (t 188) (t 192) _ _ _ _ _ refl
    (of_object (t 190) (t 191) _ _ _ _ (a_formula _ _ (postfix_of_atom (a_leaf (t 189) _ refl)) refl refl refl) refl refl) refl
    (a_formula _ _ (expression_of_atom (a_leaf (t 193) _ refl)) refl refl refl))
    (more_statements _ _ _ _ _ _ (a_reply _ (t 194) _ _ _ refl (a_formula _ _ (expression_of_atom (a_leaf (t 195) _ refl)) refl refl refl))
    (no_statements _ _))))))) refl))

declaration_8_is : IsDeclaration limits 16 (behind 197) (the 15 1) (behind 243)
declaration_8_is =
    one_procedure _ _ _
    (a_procedure (t 197) (t 198) _ _ _ _ _ _ _ _ refl refl
    (some_parameters (t 199) (t 207) _ _ _ refl
    (more_parameters _ _ _ (t 203) _ _ (a_parameter (t 200) (t 201) _ _ _ _ refl refl (objects _ _ _ (a_path _ _ _ (one_name (t 202) _ _ refl)))) refl
    (one_parameter _ _ _ (a_parameter (t 204) (t 205) _ _ _ _ refl refl (objects _ _ _ (a_path _ _ _ (one_name (t 206) _ _ refl)))))) (omega arith) refl)
    (stated _ _ _ (an_allow (t 208) _ _ _ refl (a_formula _ _ (expression_of_atom (a_leaf (t 209) _ refl)) refl refl refl)))
    (a_block _ (t 210) (t 242) _ _ _ refl
    (more_statements _ _ _ _ _ _
    (a_check _ (t 211) (t 218) (t 219) _ _ _ _ refl
    (a_formula _ _ (expression_of_negation
    (a_prefix prefix.Not (t 212) _ _ refl
    (negation_of_comparison (an_operation level.Comparison operator.In (t 214) _ _ _ _ (sets_of_atom (a_leaf (t 213) _ refl)) refl
    (sets_of_postfix (a_child (t 216) (t 217) _ _ _ (postfix_of_atom (a_leaf (t 215) _ refl)) refl refl)))))) refl refl refl) refl refl)
    (more_statements _ _ _ _ _ _
    (a_check _ (t 220) (t 226) (t 227) _ _ _ _ refl
    (a_formula _ _ (expression_of_comparison
    (an_operation level.Comparison operator.Greater (t 224) _ _ _ _
    (sets_of_postfix (a_child (t 222) (t 223) _ _ _ (postfix_of_atom (a_leaf (t 221) _ refl)) refl refl)) refl (sets_of_atom (a_leaf (t 225) _ refl)))) refl
    refl refl) refl refl)
    (more_statements _ _ _ _ _ _
    (a_new _ (t 228) (t 229) (t 230) _ _ _ _ refl refl refl
    (of_object (t 232) (t 233) _ _ _ _ (a_formula _ _ (postfix_of_atom (a_leaf (t 231) _ refl)) refl refl refl) refl refl))
    (more_statements _ _ _ _ _ _
    (an_assignment _ (t 234) (t 238) _ _ _ _ _ refl
    (of_object (t 236) (t 237) _ _ _ _ (a_formula _ _ (postfix_of_atom (a_leaf (t 235) _ refl)) refl refl refl) refl refl) refl
    (a_formula _ _ (expression_of_atom (a_leaf (t 239) _ refl)) refl refl refl))
    (more_statements _ _ _ _ _ _ (a_reply _ (t 240) _ _ _ refl (a_formula _ _ (expression_of_atom (a_leaf (t 241) _ refl)) refl refl refl))
    (no_statements _ _)))))) refl))

declaration_9_is : IsDeclaration limits 16 (behind 243) (the 16 1) (behind 268)
declaration_9_is =
    one_procedure _ _ _
    (a_procedure (t 243) (t 244) _ _ _ _ _ _ _ _ refl refl
    (some_parameters (t 245) (t 249) _ _ _ refl
    (one_parameter _ _ _ (a_parameter (t 246) (t 247) _ _ _ _ refl refl (objects _ _ _ (a_path _ _ _ (one_name (t 248) _ _ refl))))) (omega arith) refl)
    (left_out _) (a_block _ (t 250) (t 267) _ _ _ refl
    (more_statements _ _ _ _ _ _
    (a_delete _ (t 251) _ _ _ refl
    (a_formula _ _ (expression_of_atom
    (a_comprehension (t 252) (t 266) _ _ refl
    (chosen_values _ gathering.Union (t 254) (t 255) (t 256) (t 260) _ _ _ _ _ _ _ (expression_of_atom (a_leaf (t 253) _ refl)) refl refl refl
    (expression_of_postfix (a_child (t 258) (t 259) _ _ _ (postfix_of_atom (a_leaf (t 257) _ refl)) refl refl)) refl
    (expression_of_comparison
    (an_operation level.Comparison operator.Equals (t 264) _ _ _ _
    (sets_of_postfix (a_child (t 262) (t 263) _ _ _ (postfix_of_atom (a_leaf (t 261) _ refl)) refl refl)) refl (sets_of_atom (a_leaf (t 265) _ refl)))))
    refl)) refl refl refl)) (no_statements _ _)) refl))

declaration_10_is : IsDeclaration limits 16 (behind 268) (the 17 1) (behind 281)
declaration_10_is =
    one_procedure _ _ _
    (a_procedure (t 268) (t 269) _ _ _ _ _ _ _ _ refl refl
    (some_parameters (t 270) (t 274) _ _ _ refl
    (one_parameter _ _ _ (a_parameter (t 271) (t 272) _ _ _ _ refl refl (objects _ _ _ (a_path _ _ _ (one_name (t 273) _ _ refl))))) (omega arith) refl)
    (stated _ _ _ (an_allow (t 275) _ _ _ refl (a_formula _ _ (expression_of_atom (a_leaf (t 276) _ refl)) refl refl refl)))
    (a_block _ (t 277) (t 280) _ _ _ refl
    (more_statements _ _ _ _ _ _ (a_delete _ (t 278) _ _ _ refl (a_formula _ _ (expression_of_atom (a_leaf (t 279) _ refl)) refl refl refl))
    (no_statements _ _)) refl))

declaration_11_is : IsDeclaration limits 16 (behind 281) (the 18 1) (behind 306)
declaration_11_is =
    one_procedure _ _ _
    (a_procedure (t 281) (t 282) _ _ _ _ _ _ _ _ refl refl
    (some_parameters (t 283) (t 287) _ _ _ refl
    (one_parameter _ _ _ (a_parameter (t 284) (t 285) _ _ _ _ refl refl (objects _ _ _ (a_path _ _ _ (one_name (t 286) _ _ refl))))) (omega arith) refl)
    (stated _ _ _ (an_allow (t 288) _ _ _ refl (a_formula _ _ (expression_of_atom (a_leaf (t 289) _ refl)) refl refl refl)))
    (a_block _ (t 290) (t 305) _ _ _ refl
    (more_statements _ _ _ _ _ _
    (a_for _ (t 291) (t 292) (t 293) _ _ _ _ _ _ refl refl refl
    (a_formula _ _ (expression_of_postfix (a_child (t 295) (t 296) _ _ _ (postfix_of_atom (a_leaf (t 294) _ refl)) refl refl)) refl refl refl)
    (a_block _ (t 297) (t 300) _ _ _ refl
    (more_statements _ _ _ _ _ _ (a_delete _ (t 298) _ _ _ refl (a_formula _ _ (expression_of_atom (a_leaf (t 299) _ refl)) refl refl refl))
    (no_statements _ _)) refl))
    (more_statements _ _ _ _ _ _ (a_check _ (t 301) (t 303) (t 304) _ _ _ _ refl (a_formula _ _ (expression_of_atom (a_leaf (t 302) _ refl)) refl refl refl)
    refl refl) (no_statements _ _))) refl))

declaration_12_is : IsDeclaration limits 16 (behind 306) (the 19 1) (behind 340)
declaration_12_is =
    one_view _ _ _ (a_view (t 306) (t 307) (t 310) (t 339) _ _ _ _ _ _ _ _ refl refl (no_parameters (t 308) (t 309) _ refl refl) (left_out _) refl
    (one_more _ _ _ _ _
    (one_show _ _ _ (a_show (t 311) (t 312) (t 313) _ _ _ _ refl refl refl
    (a_formula _ _ (expression_of_postfix (a_child (t 315) (t 316) _ _ _ (postfix_of_atom (a_leaf (t 314) _ refl)) refl refl)) refl refl refl)))
    (one_more _ _ _ _ _ (a_table (t 317) (t 318) (t 319) (t 320) (t 321) (t 325) (t 338) _ _ _ _ _ _ _ refl refl refl refl refl
    (a_formula _ _ (expression_of_postfix (a_child (t 323) (t 324) _ _ _ (postfix_of_atom (a_leaf (t 322) _ refl)) refl refl)) refl refl refl) refl
    (one_more _ _ _ _ _
    (a_show (t 326) (t 327) (t 328) _ _ _ _ refl refl refl
    (a_formula _ _ (expression_of_postfix (a_child (t 330) (t 331) _ _ _ (postfix_of_atom (a_leaf (t 329) _ refl)) refl refl)) refl refl refl))
    (one_more _ _ _ _ _
    (a_show (t 332) (t 333) (t 334) _ _ _ _ refl refl refl
    (a_formula _ _ (expression_of_postfix (a_child (t 336) (t 337) _ _ _ (postfix_of_atom (a_leaf (t 335) _ refl)) refl refl)) refl refl refl)) (none _)))
    refl) (none _))) refl)

declaration_13_is : IsDeclaration limits 16 (behind 340) (the 20 1) (behind 377)
declaration_13_is =
    one_view _ _ _ (a_view (t 340) (t 341) (t 346) (t 376) _ _ _ _ _ _ _ _ refl refl (no_parameters (t 342) (t 343) _ refl refl)
    (stated _ _ _ (an_allow (t 344) _ _ _ refl (a_formula _ _ (expression_of_atom (a_leaf (t 345) _ refl)) refl refl refl))) refl
    (one_more _ _ _ _ _ (a_table (t 347) (t 348) (t 349) (t 350) (t 351) (t 353) (t 366) _ _ _ _ _ _ _ refl refl refl refl refl
    (a_formula _ _ (expression_of_atom (a_leaf (t 352) _ refl)) refl refl refl) refl
    (one_more _ _ _ _ _
    (a_show (t 354) (t 355) (t 356) _ _ _ _ refl refl refl
    (a_formula _ _ (expression_of_postfix (a_child (t 358) (t 359) _ _ _ (postfix_of_atom (a_leaf (t 357) _ refl)) refl refl)) refl refl refl))
    (one_more _ _ _ _ _
    (a_show (t 360) (t 361) (t 362) _ _ _ _ refl refl refl
    (a_formula _ _ (expression_of_postfix (a_child (t 364) (t 365) _ _ _ (postfix_of_atom (a_leaf (t 363) _ refl)) refl refl)) refl refl refl)) (none _)))
    refl) (one_more _ _ _ _ _
    (one_show _ _ _ (a_show (t 367) (t 368) (t 369) _ _ _ _ refl refl refl
    (a_formula _ _ (expression_of_atom
    (a_call (t 370) (t 371) (t 375) _ _ _ refl refl
    (expression_of_postfix (a_child (t 373) (t 374) _ _ _ (postfix_of_atom (a_leaf (t 372) _ refl)) refl refl)) refl)) refl refl refl))) (none _))) refl)

pub club_is_read : ClubIsRead
unfolding is_utf8 chars encode is_reserved
club_is_read = record {
  short = omega arith;
  encoded = refl;
  tokens = tokens;
  told = refl;
  produced =
      more_declarations _ _ _ _ declaration_1_is
      (more_declarations _ _ _ _ declaration_2_is
      (more_declarations _ _ _ _ declaration_3_is
      (more_declarations _ _ _ _ declaration_4_is
      (more_declarations _ _ _ _ declaration_5_is
      (more_declarations _ _ _ _ declaration_6_is
      (more_declarations _ _ _ _ declaration_7_is
      (more_declarations _ _ _ _ declaration_8_is
      (more_declarations _ _ _ _ declaration_9_is
      (more_declarations _ _ _ _ declaration_10_is
      (more_declarations _ _ _ _ declaration_11_is
      (more_declarations _ _ _ _ declaration_12_is (more_declarations _ _ _ _ declaration_13_is no_declarations))))))))))));
}
