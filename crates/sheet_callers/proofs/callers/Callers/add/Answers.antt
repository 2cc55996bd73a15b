use Rattle.std.proofs.Common.{rules, ◌≡◌, ◌<◌, ◌∷◌, ◌++◌, [], Some, length, ap, position, ◌∙◌}
use Rattle.std.specs.Prelude.{bytes_eq}
use Rattle.sheet_callers.specs.Admitting.{most_callers}
use Rattle.sheet_callers.specs.Callers.{new_caller, with_key, with_name}
use Rattle.sheet_callers.proofs.CallerLemmas.{by_key, by_name, absent, indexed_more}
use Rattle.sheet_callers.proofs.callers.Callers.add.Goals as goal

pub add-requires : goal.add-requires
add-requires c =
    let gone = by_key c.self.inside.keys c.self.inside.accounts.items c.args.key c.self.invariant.keys_are
    ∙ ap (λ cs. with_key cs c.args.key) c.self.view_is ∙ c.requires.key in
    let same : c.in_ok-key_bytes.key_bytes.items ≡ c.args.key = search rules in
    ap (λ k. position (bytes_eq k) c.self.inside.keys) same ∙ absent (position (bytes_eq c.args.key) c.self.inside.keys) gone

pub add-requires-2 : goal.add-requires-2
add-requires-2 c =
    let gone = by_name c.self.inside.names c.self.inside.accounts.items c.args.name c.self.invariant.names_are
    ∙ ap (λ cs. with_name cs c.args.name) c.self.view_is ∙ c.requires.name in
    let same : c.in_ok-name_bytes.name_bytes.items ≡ c.args.name = search rules in
    ap (λ k. position (bytes_eq k) c.self.inside.names) same ∙ absent (position (bytes_eq c.args.name) c.self.inside.names) gone

pub invariant_of-self-2 : goal.invariant_of-self-2
invariant_of-self-2 c =
    let keys : c.add.new.self ≡ c.self.inside.keys ++ c.args.key ∷ [] = search rules in
    let names : c.add-2.new.self ≡ c.self.inside.names ++ c.args.name ∷ [] = search rules in
    let one_more = new_caller c.args.key c.args.name (Some c.args.object) in
    let accounts : c.push_reserved.new.self.items ≡ c.self.inside.accounts.items ++ one_more ∷ [] = search rules in
    let room : length c.self.inside.accounts.items < most_callers = search rules in
    rw (keys, names, accounts)
    (indexed_more c.self.inside.keys c.self.inside.names c.self.inside.accounts.items c.args.key c.args.name c.args.object c.self.invariant room)
