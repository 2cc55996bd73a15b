use Rattle.std.proofs.Common.{◌≡◌, ◌+◌, List, ℕ, length, take, drop, ◌∙◌, ap, arith, rules, length-drop}
use Rattle.std.proofs.lemmas.List.{length-take}
use Rattle.sheet_journal.proofs.Advancing.{whole_of}
use Rattle.sheet_journal.proofs.journal.Journal.take_record.Goals as goal

pub returns-clause-reads : goal.returns-clause-reads
returns-clause-reads c =
    let place : c.self.inside.place ≡ c.args.self.now.place = search rules in
    let ahead : c.self.inside.ahead ≡ c.args.self.now.ahead = search rules in
    let copied : c.in-Ok.payload.items ≡ c.split_at-2.result.0.now = search rules in
    let payload : c.in-Ok.payload.items ≡ take c.args.count (drop 6 c.args.self.now.ahead) = copied ∙ c.split_at-2.ensures.front
    ∙ ap (λ (l : List ℕ). take c.args.count l) (c.split_at.ensures.back ∙ ap (λ (l : List ℕ). drop 6 l) (c.as_slice.ensures ∙ ahead)) in
    let long : length c.in-Ok.payload.items ≡ c.args.count =
    omega (arith, ap length payload, length-take c.args.count (drop 6 c.args.self.now.ahead), length-drop 6 c.args.self.now.ahead, c.requires.within.1) in
    let size : 6 + c.args.count ≡ length c.in-Ok.payload.items + 6 = omega (arith, long) in
    record {
      whole = whole_of c.args.self.now.ahead c.args.kind c.args.count c.in-Ok.payload.items payload c.requires.head c.requires.within;
      place = omega (arith, place, long);
      ahead = c.pass.ensures ∙ ap (λ n. drop n c.self.inside.ahead) size ∙ ap (λ (l : List ℕ). drop (length c.in-Ok.payload.items + 6) l) ahead;
      staged = search rules;
      doubt = search rules;
    }
