-- A connection, after one more packet.
use Rattle.std.proofs.Common.{◌≡◌, ℕ, ◌≤◌, ◌||◌, Bool, true, false, List, Option, Some, None, refl, sym, subst, ap, ◌∙◌, arith}
use Rattle.bt_order.specs.declared.direction.Direction.{Direction}
use Rattle.bt_order.specs.declared.link.Came.{Came}
use Rattle.bt_order.specs.declared.link.Step.{Step}
use Rattle.bt_order.specs.declared.link.Link.{Link}
use Rattle.bt_order.specs.Links.{is_state, is_first_data, told_by, told_first, IsBegun, Learns, Steps, TakesOwnBy, TakesOwn, CarriesBy, counted}

untold : (link : Link) (came : Came) → came.is_initiator ≡ false → is_state came.kind ≡ false → told_first link came ≡ None
untold link came i s = rw (i, s) refl

told_same : (old new : Link) (came : Came) → new.syn ≡ old.syn → new.is_known ≡ old.is_known → new.has_sent ≡ old.has_sent → new.acceptor ≡ old.acceptor
    → told_first new came ≡ told_first old came
told_same old new came es ek et ea =
    ap (λ x. told_by x new.is_known new.has_sent new.acceptor came) es
    ∙ ap (λ x. told_by old.syn x new.has_sent new.acceptor came) ek
    ∙ ap (λ x. told_by old.syn old.is_known x new.acceptor came) et
    ∙ ap (λ x. told_by old.syn old.is_known old.has_sent x came) ea

carries : (i k : Bool) (came : Came) (room : ℕ) (old : Link) (out : List ℕ) (mid new : Link) (out' : List ℕ) (step : Step)
    → came.is_initiator ≡ i → old.is_known ≡ k → is_state came.kind ≡ false → mid.syn ≡ old.syn → mid.is_known ≡ old.is_known → mid.has_sent ≡ old.has_sent
    → TakesOwnBy i k came room old out mid out' step → Learns came mid new → CarriesBy i k came room old out new out' step
carries true k came room old out mid new out' step ei ek state es em et t l =
    let begun = subst (λ o. IsBegun o mid.acceptor mid.is_known new.acceptor new.is_known) (told_same old mid came es em et t.1) l.first in (
      subst (λ d. Steps came room old.initiator out d out' step) (sym l.initiator) t.0,
      subst (λ d. IsBegun (told_first old came) d old.is_known new.acceptor new.is_known) t.1
          (subst (λ b. IsBegun (told_first old came) mid.acceptor b new.acceptor new.is_known) em begun),
    )
carries false true came room old out mid new out' step ei ek state es em et t l =
    let begun = subst (λ o. IsBegun o mid.acceptor mid.is_known new.acceptor new.is_known) (untold mid came ei state) l.first in
    (subst (λ d. Steps came room old.acceptor out d out' step) (sym begun.0) t.0, l.initiator ∙ t.1, begun.1 ∙ em ∙ ek)
carries false false came room old out mid new out' step ei ek state es em et t l =
    let begun = subst (λ o. IsBegun o mid.acceptor mid.is_known new.acceptor new.is_known) (untold mid came ei state) l.first in
    (t.0, t.1, l.initiator ∙ t.2, begun.0 ∙ t.3, begun.1 ∙ em ∙ ek)

pub carries_own : (came : Came) (room : ℕ) (old : Link) (out : List ℕ) (mid new : Link) (out' : List ℕ) (step : Step) → is_state came.kind ≡ false
    → TakesOwn came room old out mid out' step → Learns came mid new → CarriesBy came.is_initiator old.is_known came room old out new out' step
carries_own came room old out mid new out' step state t l =
    carries came.is_initiator old.is_known came room old out mid new out' step refl refl state t.syn t.known t.sent t.taken l

pub sent_by : (came : Came) (room : ℕ) (old : Link) (out : List ℕ) (mid new : Link) (out' : List ℕ) (step : Step)
    → TakesOwn came room old out mid out' step → Learns came mid new → new.has_sent ≡ old.has_sent || is_first_data old.syn came
sent_by came room old out mid new out' step t l =
    l.sent ∙ ap (λ b. b || is_first_data mid.syn came) t.sent ∙ ap (λ n. old.has_sent || is_first_data n came) t.syn

begun_counts : (o : Option ℕ) (old : Direction) (known : Bool) (new : Direction) (known' : Bool) → IsBegun o old known new known'
    → new.held.counted ≤ old.held.counted
begun_counts None old known new known' b = let same = ap (λ (d : Direction). d.held.counted) b.0 in omega (arith, same)
begun_counts (Some n) old known new known' b = omega (arith, b.0.empty)

pub learns_counted : (came : Came) (old new : Link) → Learns came old new → counted new ≤ counted old
learns_counted came old new l =
    let same = ap (λ (d : Direction). d.held.counted) l.initiator in
    omega (arith, same, begun_counts (told_first old came) old.acceptor old.is_known new.acceptor new.is_known l.first)
