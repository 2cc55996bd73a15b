use Rattle.std.proofs.Common.{ℕ, ◌*◌, ◌≤◌, List, [], ◌∷◌, length, flat_map, All, ap, ◌∙◌, arith, length-append}
use Rattle.std.proofs.lemmas.List.Elements.{All-head, All-tail}
use Rattle.httparse.specs.Grammar.{LineEnd, crlf, lf, print_end, Field, print_field, IsField, RequestHead, print_request}
use Rattle.httparse.specs.Spans.{RequestExceeds}

end_bytes : (e : LineEnd) → 1 ≤ length (print_end e)
end_bytes crlf = omega arith
end_bytes lf = omega arith

field_bytes : (f : Field) → IsField f → 3 ≤ length (print_field f)
field_bytes f is = simp length-append (omega (arith, is.name.0, end_bytes f.end))

fields_bytes : (fs : List Field) → All IsField fs → 3 * length fs ≤ length (flat_map print_field fs)
fields_bytes [] all = omega arith
fields_bytes (f ∷ fs) all =
    omega (
      arith,
      field_bytes f (All-head IsField f fs all),
      fields_bytes fs (All-tail IsField f fs all),
      length-append (print_field f)
          (flat_map print_field fs),
    )

head_bytes : (h : RequestHead) → All IsField h.fields → 3 * length h.fields ≤ length (print_request h)
unfolding print_request
head_bytes h all = let a = fields_bytes h.fields all in simp length-append (omega (arith, a))

-- 8,192 bytes hold no more than 2,731 fields
pub never_exceeds : (bytes : List ℕ) → length bytes ≤ 8192 → RequestExceeds 2731 bytes → ⊥
never_exceeds bytes short x =
    let (front, rest, split, h, reads, more) = x in
    let same = ap length reads.1 ∙ length-append (print_request h) [] in
    let whole = ap length split ∙ length-append front rest in
    omega (arith, short, same, whole, more, head_bytes h reads.0.fields, length-append front (10 ∷ []))
