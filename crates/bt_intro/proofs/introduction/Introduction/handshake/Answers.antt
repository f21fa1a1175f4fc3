use Rattle.std.proofs.Common.{None, [], refl, inr, drop}
use Rattle.bt_wire.specs.Streams.{awaiting}
use Rattle.bt_intro.proofs.Hearing.{silent, voiced, told_by, Told}
use Rattle.bt_intro.proofs.introduction.Introduction.handshake.Goals as goal

pub returns-in-Some : goal.returns-in-Some
returns-in-Some c = λ front h.
    let voice = c.deref.result.now in
    let v = voiced front c.args.self.now c.in-Some.voice voice c.deref.ensures h c.in-Some.is in
    let t : Told (drop voice.start front) voice = told_by (drop voice.start front) voice v.1 in
    (t.now, inr (voice.start, v.0, t.is), t.heard.handshake)

pub returns-in-None : goal.returns-in-None
returns-in-None c = λ front h. (awaiting None [], silent front c.args.self.now h c.in-None.is, refl)
