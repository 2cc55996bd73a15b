use Rattle.std.proofs.Common.{rules, refl}
use Rattle.sheet_http.proofs.FrontLemmas.{front_whole}
use Rattle.sheet_http.proofs.feed.look.Goals as goal

pub returns-in-Asked : goal.returns-in-Asked
returns-in-Asked c = record {
  knows = search rules;
  front = front_whole c.args.held.now c.args.judged c.args.front.now c.requires.front;
  fields = refl;
}
