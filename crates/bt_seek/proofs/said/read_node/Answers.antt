use Rattle.std.proofs.Common.{Option, None, option_map, subst}
use Rattle.std.proofs.lemmas.Result.{IfOk-weaker}
use Rattle.bt_bencode.specs.Views.{tree_of}
use Rattle.bt_bencode.specs.declared.tree.Value.{Value}
use Rattle.bt_dht.specs.Datagrams.{IsReadAs}
use Rattle.bt_seek.specs.Answers.{IsNodeRead}
use Rattle.bt_seek.specs.Replies.{IsMessageOf, reply_of}
use Rattle.bt_seek.proofs.Reading.{message_said, no_message, node_read}
use Rattle.bt_seek.proofs.said.read_node.Goals as goal

pub returns-in-Some-message_in : goal.returns-in-Some-message_in
returns-in-Some-message_in c =
    let read = subst (λ (v : Option Value). IsReadAs c.args.bytes.now v) c.in-Some.is c.in_ok-value.ensures in
    IfOk-weaker c.node_answer.result (λ a. IsMessageOf c.in-Some-message_in.message (option_map reply_of a))
    (λ a. IsNodeRead c.args.bytes.now (option_map reply_of a))
    (λ a s. node_read c.args.bytes.now c.in-Some.value (option_map reply_of a) read
    (message_said (tree_of c.in-Some.value) c.in-Some-message_in.message (option_map reply_of a) c.in-Some-message_in.ensures.transaction
    c.in-Some-message_in.ensures.body s)) c.node_answer.ensures

pub returns : goal.returns
returns c =
    let read = subst (λ (v : Option Value). IsReadAs c.args.bytes.now v) c.in-Some.is c.in_ok-value.ensures in
    node_read c.args.bytes.now c.in-Some.value None read (no_message (tree_of c.in-Some.value) c.in-None.ensures.transaction)
