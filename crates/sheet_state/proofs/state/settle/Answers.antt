use Rattle.std.proofs.Common.{◌∙◌, sym, ap, subst}
use Rattle.sheet_state.specs.Places.{IsListed}
use Rattle.sheet_state.specs.Rows.{moment, IsSound}
use Rattle.sheet_state.proofs.Compacting.{moment_kept, sound_kept}
use Rattle.sheet_state.proofs.Listed.{listed_kept}
use Rattle.sheet_state.proofs.state.settle.Goals as goal

pub returns-then-rows-counters-clause-present : goal.returns-then-rows-counters-clause-present
returns-then-rows-counters-clause-present c = ap moment c.compact.ensures.present ∙ moment_kept c.args.tables.now.present

pub returns-then-rows-counters-clause-sound : goal.returns-then-rows-counters-clause-sound
returns-then-rows-counters-clause-sound c = subst IsSound (sym c.compact.ensures.present) (sound_kept c.args.tables.now.present c.requires)

pub returns-then-rows-counters-clause-listed : goal.returns-then-rows-counters-clause-listed
returns-then-rows-counters-clause-listed c = λ rs h. subst (IsListed rs) (sym c.compact.ensures.present) (listed_kept rs c.args.tables.now.present h)
