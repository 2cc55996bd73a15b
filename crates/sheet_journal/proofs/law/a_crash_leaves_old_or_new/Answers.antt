use Rattle.sheet_journal.specs.Layout.{IsOldOrNew}
use Rattle.sheet_journal.specs.Journal.{HasBytes}
use Rattle.sheet_journal.proofs.OneList.{left_throughout}
use Rattle.sheet_journal.proofs.law.a_crash_leaves_old_or_new.Goals as goal

pub returns : goal.returns
returns c name entries entry before now left k m = left_throughout (HasBytes (IsOldOrNew entries entry)) name before now left k m
