-- Declarations stop at tokens that go on with none.
use Rattle.std.proofs.Common.{◌≡◌, ℕ, List, [], ◌∷◌, length, true, false, Some, None, Ok, refl, sym, ap, ◌∙◌, subst, arith}
use Rattle.std.specs.Prelude.{Bool, Option}
use Rattle.sheet_syntax_trees.specs.declared.token.Token.{Token}
use Rattle.sheet_syntax_trees.specs.declared.token.SyntaxRefusal.TheVariants.{Expected}
use Rattle.sheet_syntax_trees.specs.declared.tree.Tree.{Tree}
use Rattle.sheet_syntax_trees.specs.Reading.{Answer, ◌>>=◌, name_at}
use Rattle.sheet_syntax_trees.proofs.Answering.{ok_then}
use Rattle.sheet_define_data.specs.declared.definition.TypeName.{TypeName}
use Rattle.sheet_define_data.specs.declared.definition.Literal.{Literal}
use Rattle.sheet_define_data.specs.declared.definition.Column.{Column}
use Rattle.sheet_define_data.specs.declared.definition.Content.TheVariants as content
use Rattle.sheet_define_data.specs.declared.definition.Parameter.{Parameter}
use Rattle.sheet_define_data.specs.declared.definition.Procedure.{Procedure}
use Rattle.sheet_define_data.specs.declared.definition.Show.{Show}
use Rattle.sheet_define_data.specs.declared.definition.Part.{Part}
use Rattle.sheet_define_data.specs.declared.definition.Part.TheVariants as part
use Rattle.sheet_define_data.specs.declared.definition.View.{View}
use Rattle.sheet_define_data.specs.declared.statement.Statement.{Statement}
use Rattle.sheet_define_reading.specs.declared.mark.Mark.{Mark}
use Rattle.sheet_define_reading.specs.declared.mark.Mark.TheVariants as mark
use Rattle.sheet_define_reading.specs.Marks.{mark_of}
use Rattle.sheet_define_reading.specs.Reading as reading
use Rattle.sheet_define_reading.specs.Reading.{Bounds, Reader, Turn, after, expect, with_front, optional, mark_at}
use Rattle.sheet_define_refusals.proofs.Locality.{Ordered, ordered_behind, Det, Reads, Any, Loose, det_weaken, det_cons, det_last, det_steady, det_bind}
use Rattle.sheet_define_refusals.proofs.Locality.{det_seq, det_mark, det_env, head_of, Element, element, no_element}
use Rattle.sheet_define_refusals.proofs.Words.{wide, apart, det_name, det_optional, type_det, literal_det, parameters_det, same_after, after_same, after_is}
use Rattle.sheet_define_refusals.proofs.Blocks.{mark_loose, spelled_loose, Many, many_det}
use Rattle.sheet_define_refusals.proofs.Statements.{formula_with, last_formula, formula_mark, brace_ends, block_loose, block_det}

module _ (end d n : ℕ) where
  abbrev W : Bounds
  W = wide end d n

  abbrev U : Bounds
  U = reading.usual end

  -- ---- columns

  pub object_det : (depth : ℕ) (w : Token) (ts : List Token) → Ordered end ts →
      Det Column end (reading.object_column U depth w ts) (Reads ℕ Column Any (λ e vs. reading.object_column W depth w vs)) ts
  unfolding reading.object_column
  object_det depth w ts order =
      det_name Column ℕ Column end Any _
      (λ e name. expect end mark.OpenBrace name.1 >>= (λ rest. Ok (record { depth = depth; line = w.line; name = name.0; content = content.Object }, rest)))
      ts order (λ name us shorter o.
      det_mark Column ℕ Column end mark.OpenBrace Any _ (λ e rest. Ok (record { depth = depth; line = w.line; name = name; content = content.Object }, rest)) us
      o (λ t xs split is o1.
      det_last Column ℕ Column end (record { depth = depth; line = w.line; name = name; content = content.Object }) Any
      (λ e. record { depth = depth; line = w.line; name = name; content = content.Object }) xs))

  first_value_det : (depth : ℕ) (w : Token) (name : List ℕ) (t : TypeName) (one : Bool) (ts : List Token) → Ordered end ts
      → Det Column end
      (optional (reading.literal_at U) ts (after mark.Equals ts) >>= (λ first.
      Ok (record { depth = depth; line = w.line; name = name; content = content.State t one first.0 }, first.1)))
      (Reads TypeName Column Any
      (λ e vs. optional (reading.literal_at W) vs (after mark.Equals vs) >>= (λ first.
      Ok (record { depth = depth; line = w.line; name = name; content = content.State e one first.0 }, first.1)))) ts
  first_value_det depth w name t one ts order =
      det_seq (Option Literal) Column TypeName (Option Literal) Column end Any (optional (reading.literal_at U) ts (after mark.Equals ts))
      (λ first. Ok (record { depth = depth; line = w.line; name = name; content = content.State t one first.0 }, first.1))
      (λ e vs. optional (reading.literal_at W) vs (after mark.Equals vs))
      (λ e first. Ok (record { depth = depth; line = w.line; name = name; content = content.State e one first.0 }, first.1)) ts order
      (det_optional Literal TypeName Literal end Any mark.Equals (reading.literal_at U) (λ e. reading.literal_at W) ts order
      (λ us o. det_steady Literal TypeName Literal end Any (reading.literal_at U us) (reading.literal_at W) us (literal_det end d n us o)))
      (λ v us e o. det_last Column (TypeName × Option Literal) Column end
      (record { depth = depth; line = w.line; name = name; content = content.State t one v }) Any
      (λ e. record { depth = depth; line = w.line; name = name; content = content.State e.0 one e.1 }) us)

  -- behind the type of a state column
  behind_det : (depth : ℕ) (w : Token) (name : List ℕ) (t : TypeName) (ts : List Token) → Ordered end ts → (o : Option (List Token)) → after mark.One ts ≡ o
      → Det Column end (reading.state_behind U depth w name t (reading.one_or ts o))
      (Reads (ℕ × TypeName) Column Any (λ e vs. reading.state_behind W depth w name e.1 (reading.one_or vs (after mark.One vs)))) ts
  behind_det depth w name t ts order None is =
      det_weaken Column end _
      (Reads TypeName Column Any
      (λ e vs. optional (reading.literal_at W) vs (after mark.Equals vs) >>= (λ first.
      Ok (record { depth = depth; line = w.line; name = name; content = content.State e false first.0 }, first.1))))
      (Reads (ℕ × TypeName) Column Any (λ e vs. reading.state_behind W depth w name e.1 (reading.one_or vs (after mark.One vs)))) ts
      (first_value_det depth w name t false ts order)
      (λ vs ws s c. record {
        which = c.which.1;
        value = c.value;
        left = c.left;
        is = sym (ap (λ o. reading.state_behind W depth w name c.which.1 (reading.one_or vs o)) (same_after end d n mark.One ts vs s is)) ∙ c.is;
      })
  behind_det depth w name t [] order (Some rest) is = let wrong : ⊥ = cc in absurd wrong
  behind_det depth w name t (u ∷ ts) order (Some rest) is =
      let (test, same) = after_same end d n mark.One u ts rest is in
      subst (λ l. Det Column end (reading.state_behind U depth w name t (true, l))
      (Reads (ℕ × TypeName) Column Any (λ e vs. reading.state_behind W depth w name e.1 (reading.one_or vs (after mark.One vs)))) (u ∷ ts)) (sym same)
      (det_cons Column end _
      (Reads TypeName Column Any
      (λ e vs. optional (reading.literal_at W) vs (after mark.Equals vs) >>= (λ first.
      Ok (record { depth = depth; line = w.line; name = name; content = content.State e true first.0 }, first.1))))
      (Reads (ℕ × TypeName) Column Any (λ e vs. reading.state_behind W depth w name e.1 (reading.one_or vs (after mark.One vs)))) u ts
      (first_value_det depth w name t true ts (ordered_behind end (u ∷ ts) (u ∷ []) ts order refl))
      (λ vs ws c. record {
        which = c.which.1;
        value = c.value;
        left = c.left;
        is = sym (ap (λ o. reading.state_behind W depth w name c.which.1 (reading.one_or (u ∷ vs) o)) (after_is end d n mark.One u vs test)) ∙ c.is;
      }))

  pub state_det : (depth : ℕ) (w : Token) (ts : List Token) → Ordered end ts →
      Det Column end (reading.state_column U depth w ts) (Reads ℕ Column Any (λ e vs. reading.state_column W depth w vs)) ts
  unfolding reading.state_column
  state_det depth w ts order =
      det_name Column ℕ Column end Any _
      (λ e name. expect end mark.Colon
      name.1 >>= (λ a. reading.type_at W a >>= (λ t. reading.state_behind W depth w name.0 t.0 (reading.one_or t.1 (after mark.One t.1))))) ts order
      (λ name us shorter o.
      det_mark Column ℕ Column end mark.Colon Any _
      (λ e a. reading.type_at W a >>= (λ t. reading.state_behind W depth w name t.0 (reading.one_or t.1 (after mark.One t.1)))) us o (λ c xs split is o1.
      det_seq TypeName Column ℕ TypeName Column end Any (reading.type_at U xs) _ (λ e vs. reading.type_at W vs)
      (λ e t. reading.state_behind W depth w name t.0 (reading.one_or t.1 (after mark.One t.1))) xs o1 (type_det end d n xs o1)
      (λ t vs e o2. behind_det depth w name t vs o2 (after mark.One vs) refl)))

  pub formula_column_det : (depth : ℕ) (w : Token) (ts : List Token) → Ordered end ts →
      Det Column end (reading.formula_column U depth w ts) (Reads ℕ Column Loose (λ e vs. reading.formula_column W depth w vs)) ts
  unfolding reading.formula_column
  formula_column_det depth w ts order =
      det_name Column ℕ Column end Loose _
      (λ e name. optional (reading.type_at W) name.1 (after mark.Colon name.1) >>= (λ t.
      expect end mark.Equals
      t.1 >>= (λ a. reading.formula W a >>= (λ f. Ok (record { depth = depth; line = w.line; name = name.0; content = content.Formula t.0 f.0 }, f.1))))) ts
      order (λ name us shorter o.
      det_seq (Option TypeName) Column ℕ (Option TypeName) Column end Loose (optional (reading.type_at U) us (after mark.Colon us)) _
      (λ e vs. optional (reading.type_at W) vs (after mark.Colon vs))
      (λ e t. expect end mark.Equals
      t.1 >>= (λ a. reading.formula W a >>= (λ f. Ok (record { depth = depth; line = w.line; name = name; content = content.Formula t.0 f.0 }, f.1)))) us o
      (det_optional TypeName ℕ TypeName end Any mark.Colon (reading.type_at U) (λ e. reading.type_at W) us o (λ vs o1. type_det end d n vs o1))
      (λ t vs e o1. det_mark Column (ℕ × Option TypeName) Column end mark.Equals Loose _
      (λ e a. reading.formula W a >>= (λ f. Ok (record { depth = depth; line = w.line; name = name; content = content.Formula e.1 f.0 }, f.1))) vs o1
      (λ q xs split is o2.
      last_formula end d n Column (ℕ × Option TypeName) Column (λ f. record { depth = depth; line = w.line; name = name; content = content.Formula t f })
      (λ e f. record { depth = depth; line = w.line; name = name; content = content.Formula e.1 f }) xs o2)))

  -- ---- procedures and views

  -- what may be allowed, before a brace
  allow_det : (Y : Type 0) (ts : List Token) → Ordered end ts →
      Det (Option Tree) end (optional (reading.formula U) ts (after mark.Allow ts))
      (Reads Y (Option Tree) Loose (λ e vs. optional (reading.formula W) vs (after mark.Allow vs))) ts
  allow_det Y ts order =
      det_optional Tree Y Tree end Loose mark.Allow (reading.formula U) (λ e. reading.formula W) ts order (λ us o. formula_with end d n Y us o)

  parameters_with : (Y : Type 0) (ts : List Token) → Ordered end ts →
      Det (List Parameter) end (reading.parameters U ts) (Reads Y (List Parameter) Any (λ e vs. reading.parameters W vs)) ts
  parameters_with Y ts order =
      det_steady (List Parameter) Y (List Parameter) end Any (reading.parameters U ts) (reading.parameters W) ts (parameters_det end d n ts order)

  pub procedure_det : (b : ℕ) (w : Token) (ts : List Token) → Ordered end ts →
      Det Procedure end (reading.procedure U b w ts) (Reads ℕ Procedure Any (λ e vs. reading.procedure W e w vs)) ts
  unfolding reading.procedure
  procedure_det b w ts order =
      det_name Procedure ℕ Procedure end Any _
      (λ e name. reading.parameters W
      name.1 >>= (λ ps.
      optional (reading.formula W) ps.1 (after mark.Allow ps.1) >>= (λ allow.
      reading.block W e allow.1 >>= (λ body. Ok (record { line = w.line; name = name.0; parameters = ps.0; allow = allow.0; body = body.0 }, body.1))))) ts
      order (λ name us shorter o.
      det_seq (List Parameter) Procedure ℕ (List Parameter) Procedure end Any (reading.parameters U us) _ (λ e vs. reading.parameters W vs)
      (λ e ps. optional (reading.formula W) ps.1 (after mark.Allow ps.1) >>= (λ allow.
      reading.block W e allow.1 >>= (λ body. Ok (record { line = w.line; name = name; parameters = ps.0; allow = allow.0; body = body.0 }, body.1)))) us o
      (parameters_with ℕ us o)
      (λ ps vs e o1. det_bind (Option Tree) Procedure (ℕ × List Parameter) (Option Tree) Procedure end Loose Any
      (optional (reading.formula U) vs (after mark.Allow vs)) _ (λ e vs. optional (reading.formula W) vs (after mark.Allow vs))
      (λ e allow. reading.block W e.0 allow.1 >>= (λ body. Ok (
        record { line = w.line; name = name; parameters = e.1; allow = allow.0; body = body.0 },
        body.1,
      ))) vs o1 (allow_det (ℕ × List Parameter) vs o1)
      (λ e a us z ws h l. let (x, ex, e1) =
      ok_then (reading.block W e.0 us) (λ body. Ok (record { line = w.line; name = name; parameters = e.1; allow = a; body = body.0 }, body.1)) (z, ws) h in
      block_loose end d n e.0 us x ex)
      (λ a xs e o2. det_seq (List Statement) Procedure ((ℕ × List Parameter) × Option Tree) (List Statement) Procedure end Any (reading.block U b xs) _
      (λ e vs. reading.block W e.0.0 vs)
      (λ e body. Ok (record { line = w.line; name = name; parameters = e.0.1; allow = e.1; body = body.0 }, body.1)) xs o2
      (det_env (List Statement) ((ℕ × List Parameter) × Option Tree) ℕ (List Statement) end Any (reading.block U b xs) (λ e vs. reading.block W e vs)
      (λ e. e.0.0) xs (block_det end d n b xs o2))
      (λ body ys e o3. det_last Procedure (((ℕ × List Parameter) × Option Tree) × List Statement) Procedure end
      (record { line = w.line; name = name; parameters = ps; allow = a; body = body }) Any
      (λ e. record { line = w.line; name = name; parameters = e.0.0.1; allow = e.0.1; body = e.1 }) ys))))

  show_det : (w : Token) (ts : List Token) → Ordered end ts → Det Show end (reading.show U w ts) (Reads ℕ Show Loose (λ e vs. reading.show W w vs)) ts
  unfolding reading.show
  show_det w ts order =
      det_name Show ℕ Show end Loose _
      (λ e name. expect end mark.Equals name.1 >>= (λ a. reading.formula W a >>= (λ f. Ok (record { line = w.line; name = name.0; shown = f.0 }, f.1)))) ts
      order (λ name us shorter o.
      det_mark Show ℕ Show end mark.Equals Loose _ (λ e a. reading.formula W a >>= (λ f. Ok (record { line = w.line; name = name; shown = f.0 }, f.1))) us o
      (λ t xs split is o1.
      last_formula end d n Show ℕ Show (λ f. record { line = w.line; name = name; shown = f }) (λ e f. record { line = w.line; name = name; shown = f }) xs o1))

  show_by_det : (w : Token) (ts : List Token) → Ordered end ts → (m : Mark) → mark_of w.kind ≡ m →
      Element Show end (reading.show_by U w ts m) (Reads ℕ Show Loose (λ e. head_of (reading.show_by W))) w ts
  unfolding reading.show_by
  show_by_det w ts order mark.Show is =
      element Show end (reading.show U w ts) (Reads ℕ Show Loose (λ e vs. reading.show W w vs)) (Reads ℕ Show Loose (λ e. head_of (reading.show_by W))) w ts
      (show_det w ts order)
      (λ vs ws c. record { which = c.which; value = c.value; is = sym (ap (reading.show_by W w vs) is) ∙ c.is; left = c.left })
  show_by_det w ts order m is =
      no_element Show end (Reads ℕ Show Loose (λ e. head_of (reading.show_by W))) w ts
      (λ vs ws c. apart (c.value, ws) (Expected w.start) (sym (ap (reading.show_by W w vs) is) ∙ c.is))

  show_loose : (w : Token) (ts : List Token) (m : Mark) (y : Show × List Token) → mark_of w.kind ≡ m → reading.show_by W w ts m ≡ Ok y → Loose (w ∷ ts)
  unfolding reading.show_by
  show_loose w ts mark.Show y is h = spelled_loose mark.Show (record { some = omega arith; ends = omega arith }) w ts is
  show_loose w ts m y is h = apart y (Expected w.start) h

  -- things of a kind up to the end of their braces, read in as many turns as there are tokens
  listed_with : (A C Y : Type 0) (r : Answer (List A × List Token)) (other : Token → List Token → Mark → Answer (C × List Token)) (ts : List Token)
      → Det (List A) end r (Reads (Many ℕ) (List C) Any (λ e vs. reading.many end other e.turns vs)) ts →
      Det (List A) end r (Reads Y (List C) Any (λ e vs. reading.many end other (length vs) vs)) ts
  listed_with A C Y r other ts d =
      det_weaken (List A) end r (Reads (Many ℕ) (List C) Any (λ e vs. reading.many end other e.turns vs))
      (Reads Y (List C) Any (λ e vs. reading.many end other (length vs) vs)) ts d
      (λ vs ws s c. record { which = record { inside = 0; turns = length vs }; value = c.value; is = c.is; left = c.left })

  shows_det : (Y : Type 0) (ts : List Token) → Ordered end ts →
      Det (List Show) end (reading.many end (reading.show_by U) (length ts) ts)
      (Reads Y (List Show) Any (λ e vs. reading.many end (reading.show_by W) (length vs) vs)) ts
  shows_det Y ts order =
      listed_with Show Show Y (reading.many end (reading.show_by U) (length ts) ts) (reading.show_by W) ts
      (many_det end Show ℕ Show (reading.show_by U) (λ e. reading.show_by W)
      (λ t us o. show_by_det t us (ordered_behind end (t ∷ us) (t ∷ []) us o refl) (mark_of t.kind) refl)
      (λ e t us y h. show_loose t us (mark_of t.kind) y refl h) (length ts) ts (omega arith) order)

  table_det : (w : Token) (ts : List Token) → Ordered end ts → Det Part end (reading.table U w ts) (Reads ℕ Part Loose (λ e vs. reading.table W w vs)) ts
  unfolding reading.table
  table_det w ts order =
      det_name Part ℕ Part end Loose _
      (λ e name. expect end mark.Equals
      name.1 >>= (λ a.
      name_at end a >>= (λ variable. expect end mark.In variable.1 >>= (λ c. reading.formula W c >>= (λ f. expect end mark.OpenBrace f.1 >>= (λ x.
      reading.many end (reading.show_by W) (length x) x >>= (λ shows. Ok (part.Table w.line name.0 variable.0 f.0 shows.0, shows.1)))))))) ts order
      (λ name us shorter o.
      det_mark Part ℕ Part end mark.Equals Loose _
      (λ e a. name_at end a >>= (λ variable. expect end mark.In variable.1 >>= (λ c. reading.formula W c >>= (λ f. expect end mark.OpenBrace f.1 >>= (λ x.
      reading.many end (reading.show_by W) (length x) x >>= (λ shows. Ok (part.Table w.line name variable.0 f.0 shows.0, shows.1))))))) us o
      (λ q xs split is o1.
      det_name Part ℕ Part end Loose _
      (λ e variable. expect end mark.In variable.1 >>= (λ c. reading.formula W c >>= (λ f. expect end mark.OpenBrace f.1 >>= (λ x.
      reading.many end (reading.show_by W) (length x) x >>= (λ shows. Ok (part.Table w.line name variable.0 f.0 shows.0, shows.1)))))) xs o1
      (λ variable vs shorter o2.
      det_mark Part ℕ Part end mark.In Loose _
      (λ e c. reading.formula W
      c >>= (λ f. expect end mark.OpenBrace
      f.1 >>= (λ x. reading.many end (reading.show_by W) (length x) x >>= (λ shows. Ok (part.Table w.line name variable f.0 shows.0, shows.1))))) vs o2
      (λ i cs split is o3.
      formula_mark end d n Part ℕ Part mark.OpenBrace (brace_ends end d n) Loose
      (λ f x. reading.many end (reading.show_by U) (length x) x >>= (λ shows. Ok (part.Table w.line name variable f shows.0, shows.1)))
      (λ e f x. reading.many end (reading.show_by W) (length x) x >>= (λ shows. Ok (part.Table w.line name variable f shows.0, shows.1))) cs o3 (λ f ds o4.
      det_seq (List Show) Part (ℕ × Tree) (List Show) Part end Loose (reading.many end (reading.show_by U) (length ds) ds)
      (λ shows. Ok (part.Table w.line name variable f shows.0, shows.1)) (λ e vs. reading.many end (reading.show_by W) (length vs) vs)
      (λ e shows. Ok (part.Table w.line name variable e.1 shows.0, shows.1)) ds o4 (shows_det (ℕ × Tree) ds o4)
      (λ shows es e o5. det_last Part ((ℕ × Tree) × List Show) Part end (part.Table w.line name variable f shows) Loose
      (λ e. part.Table w.line name variable e.0.1 e.1) es))))))

  part_by_det : (w : Token) (ts : List Token) → Ordered end ts → (m : Mark) → mark_of w.kind ≡ m →
      Element Part end (reading.part_by U w ts m) (Reads ℕ Part Loose (λ e. head_of (reading.part_by W))) w ts
  unfolding reading.part_by
  part_by_det w ts order mark.Show is =
      element Part end (reading.show U w ts >>= (λ x. Ok (part.Show x.0, x.1)))
      (Reads ℕ Part Loose (λ e vs. reading.show W w vs >>= (λ x. Ok (part.Show x.0, x.1)))) (Reads ℕ Part Loose (λ e. head_of (reading.part_by W))) w ts
      (det_bind Show Part ℕ Show Part end Loose Loose (reading.show U w ts) (λ x. Ok (part.Show x.0, x.1)) (λ e vs. reading.show W w vs)
      (λ e x. Ok (part.Show x.0, x.1)) ts order (show_det w ts order)
      (λ e v us z ws h l. let both : (part.Show v, us) ≡ (z, ws) = cc in subst Loose (sym (ap (λ (p : Part × List Token). p.1) both)) l)
      (λ x us e o. det_last Part (ℕ × Show) Part end (part.Show x) Loose (λ e. part.Show e.1) us))
      (λ vs ws c. record { which = c.which; value = c.value; is = sym (ap (reading.part_by W w vs) is) ∙ c.is; left = c.left })
  part_by_det w ts order mark.Table is =
      element Part end (reading.table U w ts) (Reads ℕ Part Loose (λ e vs. reading.table W w vs)) (Reads ℕ Part Loose (λ e. head_of (reading.part_by W))) w ts
      (table_det w ts order)
      (λ vs ws c. record { which = c.which; value = c.value; is = sym (ap (reading.part_by W w vs) is) ∙ c.is; left = c.left })
  part_by_det w ts order m is =
      no_element Part end (Reads ℕ Part Loose (λ e. head_of (reading.part_by W))) w ts
      (λ vs ws c. apart (c.value, ws) (Expected w.start) (sym (ap (reading.part_by W w vs) is) ∙ c.is))

  part_loose : (w : Token) (ts : List Token) (m : Mark) (y : Part × List Token) → mark_of w.kind ≡ m → reading.part_by W w ts m ≡ Ok y → Loose (w ∷ ts)
  unfolding reading.part_by
  part_loose w ts mark.Show y is h = spelled_loose mark.Show (record { some = omega arith; ends = omega arith }) w ts is
  part_loose w ts mark.Table y is h = spelled_loose mark.Table (record { some = omega arith; ends = omega arith }) w ts is
  part_loose w ts m y is h = apart y (Expected w.start) h

  parts_det : (Y : Type 0) (ts : List Token) → Ordered end ts →
      Det (List Part) end (reading.many end (reading.part_by U) (length ts) ts)
      (Reads Y (List Part) Any (λ e vs. reading.many end (reading.part_by W) (length vs) vs)) ts
  parts_det Y ts order =
      listed_with Part Part Y (reading.many end (reading.part_by U) (length ts) ts) (reading.part_by W) ts
      (many_det end Part ℕ Part (reading.part_by U) (λ e. reading.part_by W)
      (λ t us o. part_by_det t us (ordered_behind end (t ∷ us) (t ∷ []) us o refl) (mark_of t.kind) refl)
      (λ e t us y h. part_loose t us (mark_of t.kind) y refl h) (length ts) ts (omega arith) order)

  pub view_det : (w : Token) (ts : List Token) → Ordered end ts → Det View end (reading.view U w ts) (Reads ℕ View Any (λ e vs. reading.view W w vs)) ts
  unfolding reading.view
  view_det w ts order =
      det_name View ℕ View end Any _
      (λ e name. reading.parameters W
      name.1 >>= (λ ps. optional (reading.formula W) ps.1 (after mark.Allow ps.1) >>= (λ allow. expect end mark.OpenBrace allow.1 >>= (λ a.
      reading.many end (reading.part_by W) (length a)
      a >>= (λ parts. Ok (record { line = w.line; name = name.0; parameters = ps.0; allow = allow.0; parts = parts.0 }, parts.1)))))) ts order
      (λ name us shorter o.
      det_seq (List Parameter) View ℕ (List Parameter) View end Any (reading.parameters U us) _ (λ e vs. reading.parameters W vs)
      (λ e ps. optional (reading.formula W) ps.1 (after mark.Allow ps.1) >>= (λ allow. expect end mark.OpenBrace allow.1 >>= (λ a.
      reading.many end (reading.part_by W) (length a)
      a >>= (λ parts. Ok (record { line = w.line; name = name; parameters = ps.0; allow = allow.0; parts = parts.0 }, parts.1))))) us o
      (parameters_with ℕ us o)
      (λ ps vs e o1. det_bind (Option Tree) View (ℕ × List Parameter) (Option Tree) View end Loose Any (optional (reading.formula U) vs (after mark.Allow vs)) _
      (λ e vs. optional (reading.formula W) vs (after mark.Allow vs))
      (λ e allow. expect end mark.OpenBrace
      allow.1 >>= (λ a.
      reading.many end (reading.part_by W) (length a)
      a >>= (λ parts. Ok (record { line = w.line; name = name; parameters = e.1; allow = allow.0; parts = parts.0 }, parts.1)))) vs o1
      (allow_det (ℕ × List Parameter) vs o1)
      (λ e a us z ws h l.
      mark_loose end mark.OpenBrace (brace_ends end d n) us
      (λ b. reading.many end (reading.part_by W) (length b)
      b >>= (λ parts. Ok (record { line = w.line; name = name; parameters = e.1; allow = a; parts = parts.0 }, parts.1))) (z, ws) h)
      (λ a xs e o2. det_mark View ((ℕ × List Parameter) × Option Tree) View end mark.OpenBrace Any _
      (λ e b. reading.many end (reading.part_by W) (length b)
      b >>= (λ parts. Ok (record { line = w.line; name = name; parameters = e.0.1; allow = e.1; parts = parts.0 }, parts.1))) xs o2 (λ t ys split is o3.
      det_seq (List Part) View ((ℕ × List Parameter) × Option Tree) (List Part) View end Any (reading.many end (reading.part_by U) (length ys) ys)
      (λ parts. Ok (record { line = w.line; name = name; parameters = ps; allow = a; parts = parts.0 }, parts.1))
      (λ e vs. reading.many end (reading.part_by W) (length vs) vs)
      (λ e parts. Ok (record { line = w.line; name = name; parameters = e.0.1; allow = e.1; parts = parts.0 }, parts.1)) ys o3
      (parts_det ((ℕ × List Parameter) × Option Tree) ys o3)
      (λ parts zs e o4.
      det_last View (((ℕ × List Parameter) × Option Tree) × List Part) View end
      (record { line = w.line; name = name; parameters = ps; allow = a; parts = parts }) Any
      (λ e. record { line = w.line; name = name; parameters = e.0.0.1; allow = e.0.1; parts = e.1 }) zs)))))
