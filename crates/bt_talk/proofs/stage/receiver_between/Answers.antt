use Rattle.std.proofs.Common.{◌≡◌, ◌∙◌, ℕ, Option, sym, ap}
use Rattle.bt_wire.specs.Streams.{Outcome}
use Rattle.bt_jobs.specs.Others.{first_of, own_of_other}
use Rattle.bt_intro.specs.Listening.{handshake_of}
use Rattle.bt_intro.specs.Settling.{receiver_by}
use Rattle.bt_talk.specs.Terms.{pieces_for}
use Rattle.bt_talk.proofs.Receivers.{limited, said_only}
use Rattle.bt_talk.proofs.stage.receiver_between.Goals as goal

pub returns-clause-is : goal.returns-clause-is
returns-clause-is c = λ p q s o.
    let terms = c.args.terms.now in
    let h = c.handshake.ensures p.front s in
    let r = c.receiver_of.ensures q.front p.front o s in
    let told = own_of_other r.0.items in
    let own = own_of_other r.1.items in
    let pieces : c.pieces.result ≡ pieces_for terms (first_of handshake_of r.1.items) =
    c.pieces.ensures ∙ ap (pieces_for terms) (h.2 ∙ ap (λ (v : Outcome). first_of handshake_of v.items) (said_only p.front h.0 r.1 h.1 r.3)) in
    record {
      own = r.1;
      theirs = r.0;
      own_is = r.3;
      theirs_is = r.2;
      is = limited told own c.pieces.result c.limit-limit.result c.in_ok-receiver.receiver (sym c.in_ok-receiver.was ∙ r.4)
          ∙ ap (λ (n : Option ℕ). receiver_by told own n c.limit-limit.result) pieces
          ∙ ap (λ (n : ℕ). receiver_by told own (pieces_for terms (first_of handshake_of r.1.items)) n) c.limit-limit.ensures.limit;
    }
