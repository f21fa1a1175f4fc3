use Rattle.std.proofs.Common.{◌≡◌, ◌∙◌, false, true, [], ◌∷◌, refl, sym}
use Rattle.bt_talk.specs.Pasts.{no_past}
use Rattle.bt_talk.specs.Talks.{of_side}
use Rattle.bt_capture.specs.Arrivals.{arrived}
use Rattle.bt_capture.proofs.Sending.{nothing_sent, was_all}
use Rattle.bt_capture.proofs.Turns.{first_heard}
use Rattle.bt_capture.proofs.connection.Connection.new.Goals as goal

pub returns-clause-open : goal.returns-clause-open
returns-clause-open c link when = record {
  has_payload = refl;
  made = λ there. record {
    first = c.args.first.now;
    is_first = refl;
    a = no_past;
    b = no_past;
    made = record {
      begin = c.new.result;
      turns = [];
      begun = c.new.ensures;
      has_taken = (refl, refl, refl, refl);
      is = c.new.ensures.nothing;
      ends = c.new.ensures.ends;
      terms_are = c.new.ensures.terms_are;
      heard = first_heard c.new.result c.new.ensures.nothing c.new.ensures.opening;
    };
    next = tt;
  };
  ran_out = λ gone. absurd (let e : true ≡ false = sym gone ∙ c.new.ensures.there in cc);
}

pub returns-clause-sent : goal.returns-clause-sent
unfolding returns-clause-open
returns-clause-sent c link when side =
    let x = arrived link c.args.first.now when in
    let m = (returns-clause-open c link when).made c.new.ensures.there in
    let none = nothing_sent (of_side side no_past no_past) _ c.new.ensures.opening in
    record { early = was_all false side [] c.args.terms [] (x ∷ []) c.new.result m none; all = λ there. ((returns-clause-open c link when).made there, none) }

pub returns-clause-shown : goal.returns-clause-shown
unfolding returns-clause-open
returns-clause-shown c link when h there = ((returns-clause-open c link when).made there, refl)
