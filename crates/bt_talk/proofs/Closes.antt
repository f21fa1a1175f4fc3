-- How a connection is closed, by equal parts.
use Rattle.std.proofs.Common.{◌≡◌, ◌∙◌, ℕ, Bool, Option, ap, subst}
use Rattle.bt_remarks.specs.declared.events.Side.{Side}
use Rattle.bt_packet.specs.declared.tcp.Flags.{Flags}
use Rattle.bt_flow.specs.declared.flow.Flow.{Flow}
use Rattle.bt_talk.specs.declared.closing.When.{When}
use Rattle.bt_talk.specs.declared.closing.Closed.{Closed}
use Rattle.bt_talk.specs.declared.closing.Closing.{Closing}
use Rattle.bt_talk.specs.Pasts.{Past}
use Rattle.bt_talk.specs.Closing.{Closes, closed_after}

pub closed_same : (old : Option Closed) (flags : Flags) (reset : Bool) (when : When) (x y : Side) (m m' n n' : ℕ) → x ≡ y → m ≡ m' → n ≡ n'
    → closed_after old flags (record { side = x; by_reset = reset; when = when; high_a = m; high_b = n })
    ≡ closed_after old flags (record { side = y; by_reset = reset; when = when; high_a = m'; high_b = n' })
closed_same old flags reset when x y m m' n n' e f g =
    ap (λ (s : Side). closed_after old flags (record { side = s; by_reset = reset; when = when; high_a = m; high_b = n })) e
    ∙ ap (λ (k : ℕ). closed_after old flags (record { side = y; by_reset = reset; when = when; high_a = k; high_b = n })) f
    ∙ ap (λ (k : ℕ). closed_after old flags (record { side = y; by_reset = reset; when = when; high_a = m'; high_b = k })) g

pub closes_same : (flags : Flags) (when : When) (side : Side) (a b : Past) (fa fa' fb fb' : Flow) (old old' new new' : Closing) → fa ≡ fa' → fb ≡ fb'
    → old ≡ old' → new ≡ new' → Closes flags when side a b fa fb old new → Closes flags when side a b fa' fb' old' new'
closes_same flags when side a b fa fa' fb fb' old old' new new' e f g h c =
    subst (λ (x : Flow). Closes flags when side a b x fb' old' new') e (subst (λ (x : Flow). Closes flags when side a b fa x old' new') f
    (subst (λ (x : Closing). Closes flags when side a b fa fb x new') g (subst (λ (x : Closing). Closes flags when side a b fa fb old x) h c)))
