use Rattle.std.proofs.Common.{◌≡◌, ◌++◌, [], List, ℕ, ap, subst, ◌∙◌}
use Rattle.std.proofs.lemmas.List.{append-nil}
use Rattle.bt_bencode.specs.Bencoding.{ben}
use Rattle.bt_ext.specs.Ids.{metadata_only}
use Rattle.bt_ext.specs.Made.{handshake_tree}
use Rattle.bt_c.specs.Readers.{flagged}
use Rattle.bt_c.specs.Writing.{Writes}
use Rattle.bt_c.proofs.writing.bt_write_extended_handshake.Goals as goal

pub returns : goal.returns
returns c =
    let told = c.write_extended.ensures in
    let id = c.id_of.ensures in let size = c.size_from.ensures in
    let reg = c.metadata_only.ensures.ids ∙ ap metadata_only id in
    let text = c.handshake_text-place.ensures.text ∙ ap (λ k. ben (handshake_tree k c.size_from.result)) reg
    ∙ ap (λ k. ben (handshake_tree (metadata_only (flagged c.args.metadata_id c.args.metadata_id)) k)) size in
    let bytes : c.suffix.result.now ++ []
    ≡ ben (handshake_tree (metadata_only (flagged c.args.metadata_id c.args.metadata_id)) (flagged c.args.has_size c.args.size)) =
    append-nil c.suffix.result.now ∙ c.suffix.ensures ∙ text in (
      told.0,
      told.1,
      subst (λ (b : List ℕ). Writes c.args.peer.now told.0 b c.write_extended.new.peer c.args.out.now c.write_extended.new.out
          c.write_extended.new.written c.write_extended.result) bytes told.2,
    )
