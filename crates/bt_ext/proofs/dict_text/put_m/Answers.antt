use Rattle.std.proofs.Common.{◌∷◌, ◌<◌, List, ℕ, Option, drop, refl, subst, append_assoc}
use Rattle.std.specs.Option.{ForSome}
use Rattle.bt_bencode.specs.Trees.{no_pairs}
use Rattle.bt_ext.specs.Ids.{metadata_name}
use Rattle.bt_ext.specs.Made.{id_pair}
use Rattle.bt_ext.proofs.dict_text.put_m.Goals as goal

pub returns-clause-text : goal.returns-clause-text
returns-clause-text c =
    let rest : List ℕ = 101 ∷ drop c.args.at c.args.text.now in
    let one = c.put_id-place.ensures.text no_pairs rest c.put_bytes-end.ensures.text in
    let two = c.put_id-place-2.ensures.text (id_pair metadata_name c.metadata.result no_pairs) rest one in
    rw (c.put_bytes.ensures.text, two, c.metadata.ensures, c.donthave.ensures, append_assoc) refl

pub returns-clause-bytes : goal.returns-clause-bytes
returns-clause-bytes c = record {
  metadata = subst (λ (o : Option ℕ). ForSome o (λ n. n < 256)) c.metadata.ensures c.put_id-place.ensures.byte;
  donthave = subst (λ (o : Option ℕ). ForSome o (λ n. n < 256)) c.donthave.ensures c.put_id-place-2.ensures.byte;
}
