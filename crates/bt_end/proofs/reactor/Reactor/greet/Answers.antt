use Rattle.std.proofs.Common.{ℕ, [], ◌++◌, Option, true, false, length, ap, sym, ◌∙◌, arith, rules, append-nil}
use Rattle.bt_bencode.specs.Bencoding.{ben}
use Rattle.bt_ext.specs.Made.{handshake_tree}
use Rattle.bt_end.specs.Parts.{framed}
use Rattle.bt_end.specs.Reactors.{end_of}
use Rattle.bt_end.specs.declared.reactor.Reactor.{Reactor}
use Rattle.bt_end.proofs.Greeting.{greeted_all}
use Rattle.bt_end.proofs.reactor.Reactor.greet.Goals as goal
use Rattle.bt_end.proofs.reactor.Reactor.greet.Goals.{then-ext, else-ext}

pub returns-then-fast : goal.returns-then-fast
returns-then-fast g c =
    let old = c.args.self.now in
    elim c.if-ext.branch [
      | then-ext w ↦
          let bytes = ap (λ (r : Reactor g.row.A.Denot). r.outbox.bytes) w.self-is in
          greeted_all _ c.if-ext.self _ c.args.context true w.if-ext.true c.if-fast.true (ap (λ (r : Reactor g.row.A.Denot). end_of r) w.self-is)
          (bytes ∙ w.put_handshake.ensures.bytes ∙ ap (λ (s : Option ℕ). old.outbox.bytes ++ framed 0 (ben (handshake_tree old.own.reg s) ++ []))
          w.served_size-size.ensures.value)
          (omega (arith, ap (length {A = ℕ}) bytes, w.put_handshake.ensures.bound)) c.announce.ensures
      | else-ext w ↦
          let bytes = ap (λ (r : Reactor g.row.A.Denot). r.outbox.bytes) w.self-is in
          greeted_all _ c.if-ext.self _ c.args.context false w.if-ext.false c.if-fast.true (ap (λ (r : Reactor g.row.A.Denot). end_of r) w.self-is)
          (bytes ∙ sym (append-nil old.outbox.bytes)) (omega (arith, ap (length {A = ℕ}) bytes)) c.announce.ensures
    ]

pub returns-else-fast : goal.returns-else-fast
returns-else-fast g c = search rules
