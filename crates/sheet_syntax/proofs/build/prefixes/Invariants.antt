use Rattle.std.proofs.Common.{◌≡◌, ◌+◌, ◌++◌, length, take, drop}
use Rattle.sheet_syntax_trees.specs.Reading.{prefixes, behind_prefixes}
use Rattle.sheet_syntax.proofs.build.prefixes.Given as goal

abbrev pub invariant-loop-others : goal.invariant-loop-others
invariant-loop-others l = record {
  within : l.count + length l.behind ≡ length l.rest;
  front : take l.count l.rest ++ prefixes l.prefix l.behind ≡ prefixes l.prefix l.rest;
  rest : l.behind ≡ drop l.count l.rest;
  behind : behind_prefixes l.prefix l.behind ≡ behind_prefixes l.prefix l.rest;
}

abbrev pub decreases-loop-others : goal.decreases-loop-others
decreases-loop-others l = length l.behind
