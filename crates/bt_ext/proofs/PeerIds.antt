-- The ids under which a peer wants extensions, by the table of what it told.
use Rattle.std.proofs.Common.{◌≡◌, option_and_then, refl}
use Rattle.bt_ext.specs.Ids.{metadata_name, donthave_name, extension_id, registered, metadata_id, donthave_id}
use Rattle.bt_ext.specs.Tables.{Entries, id_of_name, told_ids}

pub metadata-told : (es : Entries) → metadata_id (told_ids es) ≡ option_and_then extension_id (id_of_name metadata_name es)
unfolding told_ids
metadata-told es = refl

pub donthave-told : (es : Entries) → donthave_id (told_ids es) ≡ donthave_id (registered (id_of_name metadata_name es) (id_of_name donthave_name es))
unfolding told_ids
donthave-told es = refl
