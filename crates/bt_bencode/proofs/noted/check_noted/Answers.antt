use Rattle.std.proofs.Common.{List, [], ◌∷◌, ◌∙◌, ap, ◌≡◌, subst, None, arith, refl}
use Rattle.bt_bencode.specs.Trees.{Pairs, dictionary}
use Rattle.bt_bencode.specs.Keys.{unsorted, value_at}
use Rattle.bt_bencode.specs.OneSpelling.{one_spelled}
use Rattle.bt_bencode.specs.Readable.{FindsValue}
use Rattle.bt_bencode.proofs.Passing.{dictionary_passed}
use Rattle.bt_bencode.proofs.Stopping.{dictionary_stops}
use Rattle.bt_bencode.proofs.Halting.{halted}
use Rattle.bt_bencode.proofs.Places.{impossible, is_cut}
use Rattle.bt_bencode.proofs.Reading.{no_start, empty}
use Rattle.bt_bencode.specs.OnePass.{Halts}
use Rattle.bt_bencode.specs.declared.scan.Container.{Container}
use Rattle.bt_bencode.specs.declared.scan.Container.TheVariants as container
use Rattle.bt_bencode.proofs.noted.check_noted.Goals as goal

pub of_spelled-requires : goal.of_spelled-requires
of_spelled-requires c =
    let h = c.in-Some.ensures.passes in
    let p = dictionary_passed c.args.payload.now c.following.result.now c.in-Some.noted.rest.now h.pairs c.if-payload-ne100.false c.following.ensures h.fit h.sorted h.spelled in
    (h.pairs, p.spells)

pub returns-in-Some-clause-rises : goal.returns-in-Some-clause-rises
returns-in-Some-clause-rises c =
    let h = c.in-Some.ensures.passes in
    let p = dictionary_passed c.args.payload.now c.following.result.now c.in-Some.noted.rest.now h.pairs c.if-payload-ne100.false c.following.ensures h.fit h.sorted h.spelled in
    let same = one_spelled _ h.pairs c.of_spelled.result.tree.0 p.spells c.of_spelled.ensures in
    subst (λ (ps : Pairs). unsorted (dictionary ps) ≡ None) same p.rises

pub returns-in-Some-clause-first : goal.returns-in-Some-clause-first
returns-in-Some-clause-first c =
    let h = c.in-Some.ensures.passes in
    let p = dictionary_passed c.args.payload.now c.following.result.now c.in-Some.noted.rest.now h.pairs c.if-payload-ne100.false c.following.ensures h.fit h.sorted h.spelled in
    let same = one_spelled _ h.pairs c.of_spelled.result.tree.0 p.spells c.of_spelled.ensures in
    subst (λ (ps : Pairs). FindsValue c.in-Some.noted.first (value_at c.args.one.now ps)) same h.first

pub returns-in-Some-clause-second : goal.returns-in-Some-clause-second
returns-in-Some-clause-second c =
    let h = c.in-Some.ensures.passes in
    let p = dictionary_passed c.args.payload.now c.following.result.now c.in-Some.noted.rest.now h.pairs c.if-payload-ne100.false c.following.ensures h.fit h.sorted h.spelled in
    let same = one_spelled _ h.pairs c.of_spelled.result.tree.0 p.spells c.of_spelled.ensures in
    subst (λ (ps : Pairs). FindsValue c.in-Some.noted.second (value_at c.args.two.now ps)) same h.second

pub returns-in-Some-clause-third : goal.returns-in-Some-clause-third
returns-in-Some-clause-third c =
    let h = c.in-Some.ensures.passes in
    let p = dictionary_passed c.args.payload.now c.following.result.now c.in-Some.noted.rest.now h.pairs c.if-payload-ne100.false c.following.ensures h.fit h.sorted h.spelled in
    let same = one_spelled _ h.pairs c.of_spelled.result.tree.0 p.spells c.of_spelled.ensures in
    subst (λ (ps : Pairs). FindsValue c.in-Some.noted.third (value_at c.args.three.now ps)) same h.third

pub disorder_at-requires : goal.disorder_at-requires
disorder_at-requires c =
    let left = c.after_noted.new.left in
    let o = c.after_noted.new.stack in
    let start : c.push.new.self ≡ container.Dict ∷ [] = c.push.ensures ∙ ap (λ (s : List Container). container.Dict ∷ s) c.new-stack.ensures in
    let h = subst (λ (s : List Container). Halts s c.following.result.now left o) start (c.in-None.ensures.halts refl) in
    let g = halted c.args.payload.now c.following.result.now left o c.if-payload-ne100.false c.following.ensures h in
    record {
      within = g.within;
      stops = dictionary_stops 32 left c.args.payload.now c.following.result.now (omega arith) c.if-payload-ne100.false c.following.ensures
          (c.in-None.ensures.stops refl);
      read = g.read;
    }

pub returns-then-payload-eq0-clause-err : goal.returns-then-payload-eq0-clause-err
returns-then-payload-eq0-clause-err c = is_cut c.args.payload.now (empty c.args.payload.now (omega arith))

pub returns-then-payload-ne100-clause-err : goal.returns-then-payload-ne100-clause-err
returns-then-payload-ne100-clause-err c = impossible c.args.payload.now 0 (no_start c.args.payload.now (omega arith) c.if-payload-ne100.true)
