-- The lines that close braces, one by one.
use Rattle.std.proofs.Common.{◌≡◌, [], ◌<◌, ◌≤◌, ◌+◌, ◌-◌, ◌++◌, ℕ, suc, ap, ◌∙◌, arith}
use Rattle.std.specs.Prelude.{codes}
use Rattle.sheet_define_data.specs.Printing.{closings, line_at, margin}

pub closing_next : (left depth : ℕ) → depth < left → closings (left - depth) depth ≡ line_at (margin (left - 1)) (codes "}") ++ closings ((left - 1) - depth)
    depth
closing_next left depth h =
    let count : left - depth ≡ suc ((left - 1) - depth) = omega arith in
    let last : depth + ((left - 1) - depth) ≡ left - 1 = omega arith in
    ap (λ n. closings n depth) count ∙ ap (λ n. line_at (margin n) (codes "}") ++ closings ((left - 1) - depth) depth) last

pub closing_none : (left depth : ℕ) → left ≤ depth → closings (left - depth) depth ≡ []
closing_none left depth h = let none : left - depth ≡ 0 = omega arith in ap (λ n. closings n depth) none
