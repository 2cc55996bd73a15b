use Rattle.std.proofs.Common.{◌≡◌, ap, ◌∙◌, Some}
use Rattle.serde_json.specs.View.{view}
use Rattle.serde_json.specs.Written.{compact_text, has_float}
use Rattle.sheet_requests.specs.Lines.{request_data}
use Rattle.sheet_wire.proofs.Floats.{request}
use Rattle.sheet_wire.proofs.Back.{shallow, asked_back}
use Rattle.sheet_wire.proofs.request.print_request.Goals as goal

pub returns-clause-line : goal.returns-clause-line
returns-clause-line c =
    let same : view c.in_ok-value.value ≡ request_data c.args.request.now = c.in_ok-value.ensures in
    c.in_ok-to_vec.ensures.text (ap has_float same ∙ request c.args.request.now) ∙ ap compact_text same

pub returns-clause-reads_back : goal.returns-clause-reads_back
returns-clause-reads_back c = λ ranges.
    let same : view c.in_ok-value.value ≡ request_data c.args.request.now = c.in_ok-value.ensures in (
      request_data c.args.request.now,
      (c.in_ok-to_vec.ensures.utf8, c.in_ok-to_vec.ensures.reads_back (rw same (shallow c.args.request.now)) ∙ ap (λ x. Some x) same),
      asked_back c.args.request.now ranges,
    )
