use Rattle.std.proofs.Common.{◌≡◌, ◌∙◌, Bool}
use Rattle.bt_remarks.specs.declared.events.Remarks.{Remarks}
use Rattle.bt_remarks.specs.Said.{told}
use Rattle.bt_remarks.proofs.HistoryProofs.{has_unasked_is, has_choked_is, has_again_is, has_elsewhere_is}
use Rattle.bt_remarks.proofs.matcher.remarks_on.Goals as goal

same : (a a' b b' c c' d d' : Bool) → a ≡ a' → b ≡ b' → c ≡ c' → d ≡ d'
    → let R : Bool → Bool → Bool → Bool → Remarks = λ x y z w. record { unasked = x; choked = y; again = z; elsewhere = w } in R a b c d ≡ R a' b' c' d'
same a a' b b' c c' d d' p q r s = cc

pub returns : goal.returns
returns c = λ events h g.
    same _ _ _ _ _ _ _ _ (c.is_unasked.ensures ∙ has_unasked_is (told c.args.heard.now) events c.args.theirs.now g)
    (c.is_choked.ensures ∙ has_choked_is (told c.args.heard.now) events c.args.mine.now c.args.theirs.now h g)
    (c.is_again.ensures ∙ has_again_is (told c.args.heard.now) events c.args.mine.now c.args.theirs.now h g)
    (c.is_elsewhere.ensures ∙ has_elsewhere_is (told c.args.heard.now) events c.args.mine.now h)
