use Rattle.std.proofs.Common.{◌∙◌, sym}
use Rattle.sheet_csv.proofs.HeaderLemmas.{bad_again, bad_later, bad_name}
use Rattle.sheet_csv.proofs.header.bad_field.Goals as goal
use Rattle.sheet_csv.proofs.header.bad_field.Goals.{then-not-names_parameter-via-then-not-names_parameter, then-not-names_parameter-via-else-not-names_parameter+then-is_among}

pub loop-k-preserved : goal.loop-k-preserved
loop-k-preserved c =
    bad_later c.args.parameters.now c.args.header.now c.split_at.result.0.now c.loop-k.k _ c.loop-k-test.true c.split_at.ensures.front
    (sym c.names_parameter.ensures ∙ c.if-not-names_parameter.false) (sym c.is_among.ensures ∙ c.if-is_among.false)
    ∙ c.loop-k.invariant

pub returns-then-not-names_parameter : goal.returns-then-not-names_parameter
returns-then-not-names_parameter c = elim c.then-not-names_parameter.branch [
  | then-not-names_parameter-via-then-not-names_parameter w ↦
      sym (bad_name c.args.parameters.now c.args.header.now c.loop-k.k _ c.loop-k-test.true (sym c.names_parameter.ensures ∙ w.if-not-names_parameter.true))
      ∙ c.loop-k.invariant
  | then-not-names_parameter-via-else-not-names_parameter+then-is_among w ↦
      sym (bad_again c.args.parameters.now c.args.header.now c.split_at.result.0.now c.loop-k.k _ c.loop-k-test.true c.split_at.ensures.front
      (sym c.names_parameter.ensures ∙ w.if-not-names_parameter.false) (sym w.is_among.ensures ∙ w.if-is_among.true))
      ∙ c.loop-k.invariant
]
