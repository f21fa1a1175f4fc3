use Rattle.std.proofs.Common.{None, [], inl, inr, drop, arith}
use Rattle.bt_wire.specs.Streams.{awaiting}
use Rattle.bt_intro.specs.Hearing.{HasSaidAll}
use Rattle.bt_intro.proofs.Hearing.{silent, voiced}
use Rattle.bt_intro.proofs.introduction.Introduction.has_said_all.Goals as goal

pub returns-in-Some : goal.returns-in-Some
returns-in-Some c = λ front h.
    let voice = c.deref.result.now in
    let v = voiced front c.args.self.now c.in-Some.voice voice c.deref.ensures h c.in-Some.is in
    let t = c.has_said_all.ensures (drop voice.start front) v.1 in
    (t.0, inr (voice.start, v.0, t.1), t.2)

nothing_said : HasSaidAll (awaiting None []) → ⊥
nothing_said (inl e) = absurd cc
nothing_said (inr (inl e)) = absurd cc
nothing_said (inr (inr e)) = absurd (omega arith)

pub returns-in-None : goal.returns-in-None
returns-in-None c = λ front h. (awaiting None [], silent front c.args.self.now h c.in-None.is, ((λ e. absurd cc), λ e. absurd (nothing_said e)))
