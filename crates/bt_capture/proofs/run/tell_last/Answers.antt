use Rattle.std.proofs.Common.{◌≡◌, ◌∙◌, ◌∷◌, ℕ, Option, unwrap_or, inl, refl, sym, ap, subst}
use Rattle.bt_capture.specs.Arrivals.{clock_of, first_time}
use Rattle.bt_capture.specs.Following.{AtEnd, Final, FollowsIn, Stops, since}
use Rattle.bt_capture.proofs.Outcomes.{given_up}
use Rattle.bt_capture.proofs.Arriving.{have_come}
use Rattle.bt_capture.proofs.run.tell_last.Goals as goal

pub returns-in-Ok : goal.returns-in-Ok
returns-in-Ok g c = record {
  after = λ o left p es r absent i.
      let now = g.W.Target.seen c.args.writer.now in
      let came = i.came in
      let clock = clock_of i.packets in
      let new = c.report.new.self in
      let from : c.unwrap_or-from.result ≡ unwrap_or (first_time i.packets) 0 = c.unwrap_or-from.ensures ∙ ap (λ (s : Option ℕ). unwrap_or s 0) i.time in
      let P : ℕ → Type 0 = λ n. FollowsIn AtEnd (since o.target n) now clock came es new in
      let Q : ℕ → Type 0 = λ n. FollowsIn AtEnd (since o.target n) now clock came ((p, c.args.connection) ∷ es) c.args.run.now.connections in
      c.write_if_full.ensures.after AtEnd o left es r (record {
        packets = i.packets;
        read = i.read;
        asked = c.in-Ok.ensures.asked ∙ i.asked;
        time = i.time;
        came = came;
        come = i.come;
        follows = subst P from (c.in-Ok.ensures.goes AtEnd o.target now clock came p es Final absent
            (record { may_be = tt; parted = refl; why = λ there a b t. tt; why_lost = λ gone. tt; timely = tt; told_at = refl }) refl
            (subst Q (sym from) i.follows));
        utp = i.utp;
        skipped = i.skipped;
        unread = i.unread;
      });
}

pub returns-in-Err : goal.returns-in-Err
returns-in-Err g c = record {
  after = λ o left p es r absent i.
      let now = g.W.Target.seen c.args.writer.now in
      let came = i.came in
      let clock = clock_of i.packets in
      let new = c.report.new.self in
      let from : c.unwrap_or-from.result ≡ unwrap_or (first_time i.packets) 0 = c.unwrap_or-from.ensures ∙ ap (λ (s : Option ℕ). unwrap_or s 0) i.time in
      let P : ℕ → Type 0 = λ n. Stops (since o.target n) now clock came new in
      let Q : ℕ → Type 0 = λ n. FollowsIn AtEnd (since o.target n) now clock came ((p, c.args.connection) ∷ es) c.args.run.now.connections in
      given_up o left now i.packets came new r i.read (inl (have_come i.packets came c.args.run.now.links i.come)) (c.in-Err.ensures.asked ∙ i.asked)
      (subst P from (c.in-Err.ensures.goes AtEnd o.target now clock came p es Final absent
      (record { may_be = tt; parted = refl; why = λ there a b t. tt; why_lost = λ gone. tt; timely = tt; told_at = refl }) refl (subst Q (sym from) i.follows)));
}
