use Rattle.std.proofs.Common.{◌≡◌, ℕ, ◌++◌, List, length, take, ap, ◌∙◌, min}
use Rattle.bt_end.specs.Halves.{HalfState, without_sent}
use Rattle.bt_session.proofs.node.Node.deliver.Goals as goal

pub returns : goal.returns
returns c = λ p h k.
    let out : c.outgoing-waiting.result.now ≡ p.other.half.outbox = c.outgoing-waiting.ensures.value ∙ ap (λ (a : HalfState). a.outbox) k.end in
    let n : ℕ = c.min-count.result in (
      c.min-count.ensures ∙ ap (λ (b : List ℕ). min c.args.n (length b)) out,
      c.feed.ensures (record p.own { untaken = p.own.untaken ++ take n p.other.half.outbox })
          (record {
            end = h.end;
            untaken = c.in_ok-queue.ensures.ok ∙ ap (λ (b : List ℕ). b ++ take n c.outgoing-waiting.result.now) h.untaken
                ∙ ap (λ (b : List ℕ). p.own.untaken ++ take n b) out;
            sent = h.sent;
            handled = h.handled;
          }),
      record { end = c.sent.ensures ∙ ap (without_sent n) k.end; untaken = k.untaken; sent = k.sent; handled = k.handled },
    )
