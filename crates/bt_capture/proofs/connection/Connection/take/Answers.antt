use Rattle.std.proofs.Common.{◌≡◌, ◌||◌, ◌∙◌, ℕ, List, [], ◌∷◌, ◌++◌, append-nil, true, false, ap, sym, subst, refl}
use Rattle.std.proofs.lemmas.Result.{on_err_weaker}
use Rattle.std.specs.List.{list_any}
use Rattle.bt_talk.specs.Rooms.{rows_in, sent_in, wanted_in}
use Rattle.bt_talk.specs.Rows.{Shown}
use Rattle.bt_talk.specs.Talks.{TakesAll}
use Rattle.bt_capture.specs.Arrivals.{arrived, has_data}
use Rattle.bt_capture.specs.Connections.{IsMade}
use Rattle.bt_capture.specs.Sending.{WasSent}
use Rattle.bt_capture.specs.Rowed.{ShowsOn}
use Rattle.bt_capture.proofs.Parts.{on_ok, on_two}
use Rattle.bt_capture.proofs.Rowing.{more_of, none_of}
use Rattle.bt_capture.proofs.Sending.{took_or_lost, was_after, was_all}
use Rattle.bt_capture.proofs.Shown.{has_taken, shows_taken}
use Rattle.bt_capture.proofs.Taking.{any_more, on_there, ran_out_with, was_there, made_more}
use Rattle.bt_capture.proofs.Turns.{goes_on}
use Rattle.bt_capture.proofs.connection.Connection.take.Goals as goal

pub returns-clause-takes : goal.returns-clause-takes
returns-clause-takes c link terms taken i =
    let x = arrived link c.args.segment.now c.args.when in
    let now = c.take-taken.new.self.is_lost in
    record {
      has_payload = ap (λ b. b || c.has_payload.result) i.has_payload ∙ ap (λ b. list_any has_data taken || b) (c.has_payload.ensures c.args.when)
          ∙ sym (any_more has_data taken x);
      made = λ there.
          let took = on_there c.take-taken.result now c.take-taken.ensures.all c.take-taken.ensures.lost there in
          let m = i.made (was_there c.take-taken.result c.args.self.now.talk.is_lost now _ c.take-taken.ensures.stays c.take-taken.ensures.lost there) in
          let all = took m.a m.b m.made.is in
          let on = goes_on c.args.segment.now c.args.when m.a m.b c.args.self.now.talk c.take-taken.new.self _ _ _ _ m.made.turns all m.made.heard in
          made_more terms taken c.args.segment.now x c.args.self.now.talk c.take-taken.new.self refl c.take-taken.ensures.ends c.take-taken.ensures.terms m
          all.took on.0 on.1;
      ran_out = λ gone. ran_out_with terms taken x c.args.self.now i;
    }

pub returns-clause-rows : goal.returns-clause-rows
returns-clause-rows c link terms taken i empty =
    has_taken c.take-taken.result c.args.self.now.talk.is_lost _ c.args.self.now.talk c.args.room.now c.take-taken.new.room c.take-taken.ensures.stays
    c.take-taken.ensures.rows c.take-taken.ensures.none (λ there. let m = i.made there in (m.a, m.b, m.made.is)) empty

pub returns-clause-sent : goal.returns-clause-sent
unfolding made_more
returns-clause-sent c link terms taken side sent wanted h =
    let x = arrived link c.args.segment.now c.args.when in
    let talk = c.args.self.now.talk in
    let talk' = c.take-taken.new.self in
    let now = talk'.is_lost in
    let more = sent_in c.take-taken.new.room in
    let P : List ℕ → Type 0 = λ l. WasSent false side (sent ++ l) terms (taken ++ x ∷ []) [] in
    let kept = was_after false side sent terms taken (x ∷ []) h.early in
    let next : (m : IsMade terms taken (x ∷ []) talk) → TakesAll c.args.segment.now c.args.when m.a m.b talk talk' (rows_in c.args.room.now)
    (rows_in c.take-taken.new.room) (wanted_in c.args.room.now) more → IsMade terms (taken ++ x ∷ []) [] talk' = λ m all.
    let on = goes_on c.args.segment.now c.args.when m.a m.b talk talk' _ _ _ _ m.made.turns all m.made.heard in
    made_more terms taken c.args.segment.now x talk talk' refl c.take-taken.ensures.ends c.take-taken.ensures.terms m all.took on.0 on.1 in
    record {
      early = took_or_lost c.take-taken.result talk.is_lost _ c.take-taken.ensures.stays
          (λ there. on_ok c.take-taken.result (λ takes.
          let g = h.all there in
          let all = takes g.0.a g.0.b g.0.made.is in
          was_all false side (sent ++ more) terms (taken ++ x ∷ []) [] talk' (next g.0 all) (all.sends side wanted sent g.1)) c.take-taken.ensures.all)
          (on_err_weaker c.take-taken.result (λ none. subst P (sym none) (subst (λ l. WasSent false side l terms (taken ++ x ∷ []) []) (sym (append-nil sent))
          kept)) c.take-taken.ensures.unsent);
      all = λ there.
          let g = h.all (was_there c.take-taken.result talk.is_lost now _ c.take-taken.ensures.stays c.take-taken.ensures.lost there) in
          let all = on_there c.take-taken.result now c.take-taken.ensures.all c.take-taken.ensures.lost there g.0.a g.0.b g.0.made.is in
          (next g.0 all, all.sends side wanted sent g.1);
    }

pub returns-clause-shows : goal.returns-clause-shows
returns-clause-shows c a b t there empty =
    let now = c.take-taken.new.self.is_lost in
    let all = on_there c.take-taken.result now c.take-taken.ensures.all c.take-taken.ensures.lost there a b t in
    record {
      before = rows_in c.args.room.now;
      heading_is = refl;
      empty = empty;
      took = all.took;
      after = all.shows;
      opening = all.settled;
    }

pub returns-clause-shown : goal.returns-clause-shown
unfolding made_more
returns-clause-shown c link terms taken before empty h =
    let x = arrived link c.args.segment.now c.args.when in
    let was = c.args.self.now.talk.is_lost in
    let lost = c.take-taken.new.self.is_lost in
    let head = (rows_in c.args.room.now).heading in
    let P : List Shown → Type 0 = λ rows. ShowsOn head before rows terms taken x c.args.self.now _ in
    shows_taken c.take-taken.result was lost _ c.args.room.now c.take-taken.new.room P c.take-taken.ensures.stays c.take-taken.ensures.lost
    c.take-taken.ensures.none empty
    (λ gone. record {
      there = λ there. absurd (let e : true ≡ false = sym gone ∙ there in cc);
      none = λ _. refl;
      are_of = none_of head.connection;
      shown = λ there. absurd (let e : true ≡ false = sym gone ∙ there in cc);
    })
    (λ on. on_two c.take-taken.result (λ shown there.
    let still : lost ≡ false = there in
    let g = h on in
    let m = g.0 in
    let all = shown m.a m.b m.made.is in
    let next = goes_on c.args.segment.now c.args.when m.a m.b c.args.self.now.talk c.take-taken.new.self _ _ _ _ m.made.turns all m.made.heard in
    let w = next.2 before g.1 in
    let rows = w.0 in (
      rows,
      w.1,
      record {
        there = λ _. on;
        none = λ gone. absurd (let e : false ≡ true = sym still ∙ gone in cc);
        are_of = more_of head next.0 before rows w.2;
        shown = λ there. (
          made_more terms taken c.args.segment.now x c.args.self.now.talk c.take-taken.new.self refl c.take-taken.ensures.ends c.take-taken.ensures.terms m
              all.took next.0 next.1,
          w.2,
        );
      },
    )) c.take-taken.ensures.all c.take-taken.ensures.there)
