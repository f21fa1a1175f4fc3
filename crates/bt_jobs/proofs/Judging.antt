-- What whole items are judged to be.
use Rattle.std.proofs.Common.{◌≡◌, ℕ, ◌+◌, ◌<◌, ◌≤◌, Bool, true, false, List, ◌++◌, length, take, drop, Some, None, Result, Ok, Err, refl, sym, ap, ◌∙◌}
use Rattle.std.proofs.Common.{arith, inl, inr}
use Rattle.std.proofs.lemmas.List.{append-nil, length-take-le, take-append-drop, take_at, drop_all}
use Rattle.bt_wire.specs.declared.context.Context.{Context}
use Rattle.bt_wire.specs.declared.context.Order.{Order}
use Rattle.bt_wire.specs.declared.context.Order.TheVariants.{Fresh}
use Rattle.bt_wire.specs.declared.context.Own.{Own}
use Rattle.bt_wire.specs.declared.fault.Reason.{Reason}
use Rattle.bt_wire.specs.declared.fault.Refused.{Refused as Fault}
use Rattle.bt_wire.specs.declared.handshake.Handshake.{Handshake}
use Rattle.bt_wire.specs.declared.item.Item.TheVariants as items
use Rattle.bt_wire.specs.Faults.{IsFault}
use Rattle.bt_wire.specs.Fronts.{BeginsBy, IsPartial}
use Rattle.bt_wire.specs.Handshakes.{hand, hand_fault, IsHandshakeOf, negotiated}
use Rattle.bt_wire.specs.Messages.{Message, spell, order_after}
use Rattle.bt_wire.proofs.HandLaws.{hand-length, hand_same}
use Rattle.bt_feed.specs.declared.stage.Stage.{Stage}
use Rattle.bt_feed.specs.declared.stage.Stage.TheVariants as stage
use Rattle.bt_feed.specs.Feeds.{FeedState, waiting}
use Rattle.bt_feed.proofs.Closed.{partial_here}
use Rattle.bt_jobs.specs.PackSteps.{IsJudged}

-- the same judgement, of the values by other names
pub judged_as : (j k : FeedState) (t u : Stage) (b : List ℕ) (r q : Result Bool Reason) → j ≡ waiting t → k ≡ waiting u → r ≡ q
    → IsJudged (waiting t) b (waiting u) q → IsJudged j b k r
judged_as j k t u b r q from to same h =
    (rw (sym from) at (rw (sym to) at (rw (sym same) at h)))

-- ---- the handshake

hand_front : (b : List ℕ) (h : Handshake) → IsHandshakeOf b h → take 68 b ≡ hand h
hand_front b h p = ap (take 68) p.parts ∙ take_at (hand h) (drop 68 b) 68 (hand-length h p.fits)

pub hand_longer : (own : Own) (b : List ℕ) (h : Handshake) → hand_fault own b ≡ None → IsHandshakeOf b h → 68 < length b
    → IsJudged (waiting (stage.Handshake own)) b (waiting (stage.Handshake own)) (Ok false)
hand_longer own b h e p lt =
    let long : 48 ≤ length (take 68 b) = omega (arith, length-take-le 68 b (omega (arith, lt))) in
    let none : hand_fault own (take 68 b) ≡ None = sym (hand_same own (take 68 b) (drop 68 b) long) ∙ ap (hand_fault own) (take-append-drop 68 b) ∙ e in
    (refl, inr (68, lt, (items.Handshake h, (none, p.fits, hand_front b h p))))

pub hand_taken : (own : Own) (b : List ℕ) (h : Handshake) (c : Context) → hand_fault own b ≡ None → IsHandshakeOf b h → length b ≤ 68
    → c ≡ negotiated own h.reserved → IsJudged (waiting (stage.Handshake own)) b (waiting (stage.Message c Fresh 68 1)) (Ok true)
hand_taken own b h c e p le agreed =
    let is : b ≡ hand h = p.parts ∙ ap (λ (x : List ℕ). hand h ++ x) (drop_all 68 b le) ∙ append-nil (hand h) in
    let size : 68 ≡ length b = omega (arith, ap length is, hand-length h p.fits) in (
      items.Handshake h,
      (e, p.fits, is),
      ap (λ (d : Context). waiting (stage.Message d Fresh 68 1)) agreed
          ∙ ap (λ (n : ℕ). waiting (stage.Message (negotiated own h.reserved) Fresh n 1)) size,
    )

-- ---- a message

pub message_refused : (c : Context) (o : Order) (s n : ℕ) (b : List ℕ) (f : Fault) → IsFault c o s b (Some f)
    → IsJudged (waiting (stage.Message c o s n)) b (waiting (stage.Message c o s n)) (Err f.reason)
message_refused c o s n b f p = (refl, (f, p, refl))

pub message_open : (c : Context) (o : Order) (s n : ℕ) (b : List ℕ) → IsPartial c o s b
    → IsJudged (waiting (stage.Message c o s n)) b (waiting (stage.Message c o s n)) (Ok false)
message_open c o s n b p = (refl, inl (partial_here c o s n b p.none p.part))

pub message_longer : (c : Context) (o : Order) (s n size : ℕ) (b : List ℕ) (m : Message) → BeginsBy c o s b m size → size < length b
    → IsJudged (waiting (stage.Message c o s n)) b (waiting (stage.Message c o s n)) (Ok false)
message_longer c o s n size b m p lt =
    let front : take size b ≡ spell c m = ap (take size) p.parts ∙ take_at (spell c m) (drop size b) size (sym p.size) in
    (refl, inr (size, lt, (items.Message m, (p.said, front))))

pub message_taken : (c : Context) (o o' : Order) (s n size : ℕ) (b : List ℕ) (m : Message) → BeginsBy c o s b m size → length b ≤ size
    → o' ≡ order_after o m → IsJudged (waiting (stage.Message c o s n)) b (waiting (stage.Message c o' (s + size) (n + 1))) (Ok true)
message_taken c o o' s n size b m p le next =
    let is : b ≡ spell c m = p.parts ∙ ap (λ (x : List ℕ). spell c m ++ x) (drop_all size b le) ∙ append-nil (spell c m) in
    let all : size ≡ length b = p.size ∙ sym (ap length is) in (
      items.Message m,
      (p.said, is),
      ap (λ (q : Order). waiting (stage.Message c q (s + size) (n + 1))) next
          ∙ ap (λ (k : ℕ). waiting (stage.Message c (order_after o m) (s + k) (n + 1))) all,
    )
