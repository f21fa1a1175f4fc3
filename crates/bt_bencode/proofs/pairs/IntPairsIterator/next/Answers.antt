use Rattle.std.proofs.Common.{◌≡◌, List, ℕ, Bor, arith, subst}
use Rattle.bt_bencode.specs.Trees.{Pairs}
use Rattle.bt_bencode.specs.Readable.{SpellsPairs, LeaveAs}
use Rattle.bt_bencode.specs.declared.pairs.Left.{Left}
use Rattle.bt_bencode.specs.declared.pairs.Left.TheVariants.{Encoded}
use Rattle.bt_bencode.proofs.Heads.{key_there, value_after}
use Rattle.bt_bencode.proofs.Lookups.{none_given, pair_given, left_after, has_pairs, fewer}
use Rattle.bt_bencode.proofs.pairs.IntPairsIterator.next.Goals as goal

spells : (ps : Pairs) (l : Left) (rest : Bor (List ℕ)) → LeaveAs ps l → l ≡ Encoded rest → SpellsPairs ps rest.now
spells ps l rest h e = subst (LeaveAs ps) e h

pub returns-then-rest-eq101-clause-steps : goal.returns-then-rest-eq101-clause-steps
returns-then-rest-eq101-clause-steps c =
    let s = spells c.self.inside.pairs.0 c.self.inside.left c.in-Encoded.rest c.self.inside.pairs.1 c.in-Encoded.is in
    none_given c.in-Encoded.rest.now c.self.inside.pairs.0 c.args.self.now s c.self.view_is c.if-rest-eq101.true

pub split_string-requires : goal.split_string-requires
split_string-requires c =
    let s = spells c.self.inside.pairs.0 c.self.inside.left c.in-Encoded.rest c.self.inside.pairs.1 c.in-Encoded.is in
    key_there c.in-Encoded.rest.now (has_pairs c.in-Encoded.rest.now c.self.inside.pairs.0 s) c.if-rest-eq101.false

pub split_int-number-requires : goal.split_int-number-requires
split_int-number-requires c =
    let s = spells c.self.inside.pairs.0 c.self.inside.left c.in-Encoded.rest c.self.inside.pairs.1 c.in-Encoded.is in
    value_after c.in-Encoded.rest.now c.split_string.result.0.now c.split_string.result.1.now
    (has_pairs c.in-Encoded.rest.now c.self.inside.pairs.0 s) c.if-rest-eq101.false c.split_string.ensures.short c.split_string.ensures.split

pub invariant_of-self-inside : goal.invariant_of-self-inside
invariant_of-self-inside c =
    let s = spells c.self.inside.pairs.0 c.self.inside.left c.in-Encoded.rest c.self.inside.pairs.1 c.in-Encoded.is in (
      left_after c.in-Encoded.rest.now c.split_string.result.1.now c.split_int-number.result.1.now c.split_string.result.0.now
          c.self.inside.pairs.0 s c.if-rest-eq101.false c.split_string.ensures.short c.split_string.ensures.split
          c.split_int-number.ensures.following,
      tt,
    )

pub returns-else-rest-eq101-clause-steps : goal.returns-else-rest-eq101-clause-steps
returns-else-rest-eq101-clause-steps c =
    let s = spells c.self.inside.pairs.0 c.self.inside.left c.in-Encoded.rest c.self.inside.pairs.1 c.in-Encoded.is in
    pair_given c.self.inside.pairs.0 c.split_string.result.0 c.split_string.result.1 c.split_int-number.result.0 s
    c.self.view_is (record { other = c.if-rest-eq101.false; short = c.split_string.ensures.short; split = c.split_string.ensures.split })
    c.split_int-number.ensures.number c.split_int-number.ensures.following c.self-1.given.0.1

pub returns-else-rest-eq101-clause-goes : goal.returns-else-rest-eq101-clause-goes
returns-else-rest-eq101-clause-goes c =
    let s = spells c.self.inside.pairs.0 c.self.inside.left c.in-Encoded.rest c.self.inside.pairs.1 c.in-Encoded.is in
    let steps = pair_given c.self.inside.pairs.0 c.split_string.result.0 c.split_string.result.1 c.split_int-number.result.0 s
    c.self.view_is (record { other = c.if-rest-eq101.false; short = c.split_string.ensures.short; split = c.split_string.ensures.split })
    c.split_int-number.ensures.number c.split_int-number.ensures.following c.self-1.given.0.1 in
    let less = fewer c.args.self.now c.self-1.given.0.0 (c.split_string.result.0, c.split_int-number.result.0) steps in
    omega arith
