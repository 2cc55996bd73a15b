use Rattle.sheet_journal.specs.JournalCalls.{IsNoneOrOne}
use Rattle.sheet_journal.proofs.OneList.{left_throughout}
use Rattle.sheet_journal.proofs.law.a_crash_leaves_none_or_one.Goals as goal

pub returns : goal.returns
returns c name entry before now left k m = left_throughout (IsNoneOrOne entry) name before now left k m
