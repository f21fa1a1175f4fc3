use Rattle.std.proofs.Common.{◌≡◌, ◌∙◌, sym, refl, arith, true, false}
use Rattle.std.specs.Str.{bytes_eq}
use Rattle.bt_torrent.proofs.Passing.{no_dictionary_end, no_key, no_value}
use Rattle.bt_torrent.proofs.Lookups.{found_left, left_after, none_left, passes_left}
use Rattle.bt_torrent.proofs.bencoded.find.Goals as goal

pub loop-rest-init : goal.loop-rest-init
loop-rest-init c = λ ps more h. (ps, h, refl)

pub returns-then-rest-eq101 : goal.returns-then-rest-eq101
returns-then-rest-eq101 c = λ ps more h. none_left c.args.key.now c.loop-rest.rest.now more ps c.if-rest-eq101.true (c.loop-rest.invariant ps more h)

pub returns-in_err-name : goal.returns-in_err-name
returns-in_err-name c = λ ps more h. absurd (no_key 31 c.loop-rest.rest.now c.if-rest-eq101.false (c.in_err-name.ensures.none refl) more
    (passes_left c.args.key.now c.loop-rest.rest.now more ps (c.loop-rest.invariant ps more h)))

pub returns-in_err-next : goal.returns-in_err-next
returns-in_err-next c = λ ps more h. absurd (no_value 31 c.loop-rest.rest.now c.in_ok-name.name.now c.in_ok-name.value.now c.if-rest-eq101.false
    c.in_ok-name.ensures.short c.in_ok-name.ensures.split (c.in_err-next.ensures.none refl) more
    (passes_left c.args.key.now c.loop-rest.rest.now more ps (c.loop-rest.invariant ps more h)))

pub returns-then-eq : goal.returns-then-eq
returns-then-eq c = λ ps more h.
    let hit : bytes_eq c.in_ok-name.name.now c.args.key.now ≡ true = sym c.eq.ensures ∙ c.if-eq.true in
    found_left c.loop-rest.rest.now c.in_ok-name.name.now c.in_ok-name.value.now c.in_ok-next.next.now c.if-rest-eq101.false
    c.in_ok-name.ensures.short c.in_ok-name.ensures.split c.in_ok-next.ensures.passes c.args.key.now more ps hit (c.loop-rest.invariant ps more h)

pub loop-rest-preserved : goal.loop-rest-preserved
loop-rest-preserved c = λ ps more h.
    let miss : bytes_eq c.in_ok-name.name.now c.args.key.now ≡ false = sym c.eq.ensures ∙ c.if-eq.false in
    left_after c.loop-rest.rest.now c.in_ok-name.name.now c.in_ok-name.value.now c.in_ok-next.next.now c.if-rest-eq101.false
    c.in_ok-name.ensures.short c.in_ok-name.ensures.split c.in_ok-next.ensures.passes c.args.key.now more ps miss (c.loop-rest.invariant ps more h)

pub returns : goal.returns
returns c = λ ps more h. absurd (no_dictionary_end 31 c.loop-rest.rest.now (omega arith) more
    (passes_left c.args.key.now c.loop-rest.rest.now more ps (c.loop-rest.invariant ps more h)))
