use Rattle.std.proofs.Common.{◌≡◌, ◌++◌, ◌∷◌, [], List, ℕ, subst}
use Rattle.bt_capture.specs.Unread.{tally}
use Rattle.bt_capture.proofs.Tallying.{after_ether_type, after_fragment, after_link_type, after_other}
use Rattle.bt_capture.proofs.unread.UnreadPackets.count.Goals as goal

pub returns-in-LinkType : goal.returns-in-LinkType
returns-in-LinkType c whys is = rw c.in-LinkType.is (after_link_type whys c.in-LinkType.link c.args.self.now c.count.new.self is c.count.ensures)

pub returns-in-EtherType : goal.returns-in-EtherType
returns-in-EtherType c whys is =
    let P : ℕ → Type 0 = λ k. (kinds : List ℕ) → c.args.self.now.ether_types ≡ tally kinds → c.count-in-EtherType.new.self ≡ tally (kinds ++ k ∷ []) in
    rw c.in-EtherType.is (after_ether_type whys c.in-EtherType.kind c.args.self.now c.count-in-EtherType.new.self is
    (subst P c.from.ensures c.count-in-EtherType.ensures))

pub returns-in-Fragment : goal.returns-in-Fragment
returns-in-Fragment c whys is = rw c.in-Fragment.is (after_fragment whys c.args.self.now c.saturating_add-self.result is c.saturating_add-self.ensures)

pub returns-in-Other : goal.returns-in-Other
returns-in-Other c whys is = rw c.in-Other.is (after_other whys c.args.self.now is)
