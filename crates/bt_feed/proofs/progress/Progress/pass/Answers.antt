use Rattle.std.proofs.Common.{◌≡◌, ◌+◌, [], ℕ, length, take, None, ap, arith}
use Rattle.std.proofs.lemmas.List.{nil_from_length}
use Rattle.bt_feed.specs.Feeds.{held_of}
use Rattle.bt_feed.specs.declared.stage.Stage.TheVariants as stages
use Rattle.bt_feed.proofs.Goals.{none_from}
use Rattle.bt_feed.proofs.Passed.{fed_waiting, passed_sound}
use Rattle.bt_feed.proofs.progress.Progress.pass.Goals as goal

pub returns-clause-items : goal.returns-clause-items
returns-clause-items g c =
    let p = c.args.self.now in
    let passed = c.pass_messages-passed.result in
    let q = record p { stage = stages.Message c.in-Message.context passed.order (c.in-Message.start + passed.bytes) (c.in-Message.number + passed.messages) } in
    let none : held_of p c.args.buffer.now ≡ [] = nil_from_length _ (omega (arith, ap (length {A = ℕ}) c.held.ensures)) in
    let moved = c.pass_messages-passed.ensures.items c.in-Message.number in (
      moved.0,
      moved.1,
      fed_waiting p q c.args.buffer.now (take passed.bytes c.args.piece.now) (stages.Message c.in-Message.context c.in-Message.order
          c.in-Message.start c.in-Message.number) moved.0 c.in-Message.is none none moved.2,
    )

pub returns-clause-sound : goal.returns-clause-sound
returns-clause-sound g c =
    let passed = c.pass_messages-passed.result in
    let none : held_of c.args.self.now c.args.buffer.now ≡ [] = nil_from_length _ (omega (arith, ap (length {A = ℕ}) c.held.ensures)) in
    let calm : c.args.self.now.refused ≡ None = none_from c.args.self.now.refused _ c.is_some.ensures c.if-is_some.false in
    passed_sound passed.order passed.bytes passed.messages c.requires c.in-Message.is none calm
    c.pass_messages-passed.ensures.start c.pass_messages-passed.ensures.count
