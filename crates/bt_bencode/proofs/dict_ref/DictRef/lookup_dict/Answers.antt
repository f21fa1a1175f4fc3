use Rattle.bt_bencode.proofs.Lookups.{dictionary_found, none_found, refused}
use Rattle.bt_bencode.proofs.dict_ref.DictRef.lookup_dict.Goals as goal

pub returns-in-Ok : goal.returns-in-Ok
returns-in-Ok c =
    dictionary_found c.args.key.now c.in_ok-value.value.now c.args.self.now.tree.0 c.in_ok-value.ensures.fits c.in_ok-value.ensures.value
    c.in-Ok.found.tree.0 c.in-Ok.field-0-1 c.in-Ok.ensures.ok

pub returns-in-Err : goal.returns-in-Err
returns-in-Err c =
    none_found c.args.key.now c.in_ok-value.value.now c.args.self.now.tree.0 c.in_ok-value.ensures.fits c.in_ok-value.ensures.value
    (refused c.in_ok-value.value.now c.in-Err.field-0 c.in-Err.ensures.err)
