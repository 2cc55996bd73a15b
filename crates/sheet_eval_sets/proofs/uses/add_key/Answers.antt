use Rattle.std.proofs.Common.{sym, ap, ◌∙◌, subst}
use Rattle.std.specs.Prelude.{map}
use Rattle.std.specs.List.{AllByRecursion}
use Rattle.std.specs.BTreeSet.{insert_key}
use Rattle.sheet_eval_sets.specs.Keys.{item_of, IsKey}
use Rattle.sheet_eval_sets.proofs.KeyLemmas.{keys_insert, alike_keys, still_keys}
use Rattle.sheet_eval_sets.proofs.uses.add_key.Goals as goal

pub returns-in-Ok-clause-items : goal.returns-in-Ok-clause-items
returns-in-Ok-clause-items c =
    ap (map item_of) (c.in-Ok.ensures.keys ∙ ap (insert_key _ c.args.keys.now.keys) c.key_of-key.ensures)
    ∙ keys_insert _ alike_keys c.args.item c.args.keys.now.keys c.requires

pub returns-in-Ok-clause-keys : goal.returns-in-Ok-clause-keys
returns-in-Ok-clause-keys c =
    subst (AllByRecursion IsKey) (sym (c.in-Ok.ensures.keys ∙ ap (insert_key _ c.args.keys.now.keys) c.key_of-key.ensures))
    (still_keys _ c.args.item c.args.keys.now.keys c.requires)
