use Rattle.std.proofs.Common.{Some, arith}
use Rattle.bt_tcp.specs.Covered.{is_covered}
use Rattle.bt_flow.specs.Notes.{spans_noted}
use Rattle.bt_flow.specs.Flows.{gaps_end}
use Rattle.bt_flow.proofs.Filled.{apart_noted}
use Rattle.bt_flow.proofs.Told.{base_there, noted_from, past_from, only_from, next_at, next_missing, gaps_within, first_at}
use Rattle.bt_flow.proofs.flow.Flow.gaps.Goals as goal

pub returns-in-Some : goal.returns-in-Some
returns-in-Some c = λ heard segs out f.
    let stream = c.args.self.now.stream in
    let noted = c.args.self.now.noted in
    let next = c.in-Some.next in
    let p = c.in-Some.ensures heard segs out f in
    let only = only_from heard segs out stream noted next p f.stream f.noted in
    let found = gaps_within (spans_noted noted) next (gaps_end heard next) c.gaps_from.result (apart_noted noted)
    (λ i h e. omega (arith, f.within i (omega (arith, h, next_at heard segs out stream next p f.stream)) (only i h e))) (c.gaps_from.ensures heard f.half) in (
      Some next,
      p,
      record {
        only = only;
        all = noted_from heard segs out stream noted next p f.stream f.noted;
        past = past_from heard segs out stream noted next p f.stream f.noted;
        base = c.unwrap_or.result;
        found = c.gaps_from.result;
        base_is = base_there heard out stream c.base.result next c.unwrap_or.result p (c.base.ensures heard segs out f) c.unwrap_or.ensures;
        found_are = found;
        is = c.offsets.ensures;
        first = λ h. first_at (is_covered (spans_noted noted)) c.unwrap_or.result next (gaps_end heard next) c.gaps_from.result _ found c.offsets.ensures
            (next_missing heard segs out stream noted next p f.stream f.noted) h;
      },
    )
