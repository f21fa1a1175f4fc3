use Rattle.std.proofs.Common.{ℕ, [], List, take, sym, subst, refl}
use Rattle.bt_ext.specs.declared.ids.Rules.TheVariants.{Free}
use Rattle.bt_feed.specs.Feeds.{FeedState, waiting}
use Rattle.bt_feed.specs.Pumps.{IsFed}
use Rattle.bt_feed.specs.Stages.{with_rules}
use Rattle.bt_judge.specs.Readings.{ReadingState, reading_state, IsJudgedTo, IsPieceTaken}
use Rattle.bt_judge.proofs.Both.{before, lenient_judged, lenient_missed, lenient_none}
use Rattle.bt_judge.proofs.reading.Reading.lenient.Goals as goal

pub returns-in_default-clause-judged : goal.returns-in_default-clause-judged
returns-in_default-clause-judged g c = λ own b xs j.
    let front = before own b xs c.args.self.now j in
    ([], (refl, lenient_none (record own { rules = Free }) b xs c.args.self.now.feed front))

pub returns-in-Ok-read-clause-judged : goal.returns-in-Ok-read-clause-judged
returns-in-Ok-read-clause-judged g c = λ own b xs j.
    let h = c.read.new.feed in
    let now = subst (λ (s : ReadingState). IsJudgedTo own b xs s) (sym c.self.view_is) j in
    let feed = c.self.inside.feed in
    let front = before own b xs (reading_state feed c.self.inside.refused) now in
    let r = c.in-Ok-read.ensures.read in
    let first = subst (λ (f : FeedState). IsPieceTaken f c.buffered.result.now r.0 h c.in-Ok-read.refused) c.in-Ok.ensures r.1.1 in
    let piece = subst (λ (l : List ℕ). IsPieceTaken (waiting (with_rules Free feed.stage)) l r.0 h c.in-Ok-read.refused) c.buffered.ensures first in (
      r.0,
      (
        r.1.0,
        lenient_judged (record own { rules = Free }) b xs feed h r.0 c.in-Ok-read.refused now.judged.limit c.in-Ok-read.ensures.limit front piece,
      ),
    )

pub returns-in-Err-clause-judged : goal.returns-in-Err-clause-judged
returns-in-Err-clause-judged g c = λ own b xs j.
    let h = c.read.new.feed in
    let now = subst (λ (s : ReadingState). IsJudgedTo own b xs s) (sym c.self.view_is) j in
    let feed = c.self.inside.feed in
    let front = before own b xs (reading_state feed c.self.inside.refused) now in
    let r = c.in-Err.ensures.read in
    let first = subst (λ (f : FeedState). IsFed f (take r.1.1.0 c.buffered.result.now) r.0 h) c.in-Ok.ensures r.1.1.1 in
    let piece = subst (λ (l : List ℕ). IsFed (waiting (with_rules Free feed.stage)) (take r.1.1.0 l) r.0 h) c.buffered.ensures first in (
      r.0,
      (
        r.1.0,
        lenient_missed (record own { rules = Free }) b xs feed h r.0 r.1.1.0 c.in-Err.ensures.limit front piece c.in-Err.ensures.emptied,
      ),
    )
