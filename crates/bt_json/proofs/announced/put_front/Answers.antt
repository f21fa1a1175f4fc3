use Rattle.std.proofs.Common.{◌∙◌, length, take}
use Rattle.std.specs.Prelude.{codes}
use Rattle.bt_bencode.specs.Bencoding.{ben}
use Rattle.bt_bencode.specs.Trees.{Tree, dictionary}
use Rattle.bt_bencode.specs.declared.tree.Value.TheVariants as value
use Rattle.bt_ext.specs.Fields.{size_of, told_id}
use Rattle.bt_ext.specs.declared.ext.Ext.TheVariants as ext
use Rattle.bt_json.specs.Objects.{announced_fields, client_in, ext_fields, number_or_null, text_or_null}
use Rattle.bt_json.proofs.EscapeLaws.{ends_number_or_null, ends_text_or_null, three_fields, two_before}
use Rattle.bt_json.proofs.MemberLaws.{offset_line}
use Rattle.bt_json.proofs.announced.put_front.Goals as goal

pub returns-clause-text : goal.returns-clause-text
returns-clause-text c =
    let t : Tree = dictionary c.args.dict.now.tree.0 in
    rw c.put_announced.ensures.text (rw c.announced-id.ensures.size (rw c.announced-id.ensures.id (rw c.put_sizes-place.ensures.text
    (rw c.put_offset-place.ensures.text
    (three_fields _ (codes "metadata_size") (codes "ut_metadata") (codes "client") (number_or_null (size_of t)) (number_or_null (told_id t))
    (text_or_null (client_in t)) (ends_number_or_null (size_of t)) (ends_number_or_null (told_id t)) (ends_text_or_null (client_in t))
    ∙ two_before _ (codes "ext-handshake") (codes "dictionary") (codes "rest") (length (ben t)) (length c.args.rest.now) (announced_fields t)
    ∙ offset_line (take c.args.place c.args.text.now) c.args.at (ext_fields (ext.Handshake (value.Dict c.args.dict.now.tree.0) c.args.rest.now)))))))
