-- The outcome of a stream that begins with items is those, and then the outcome of what follows them.
use Rattle.std.proofs.Common.{◌≡◌, ℕ, ◌+◌, ◌^◌, ◌≤◌, ◌<◌, List, [], ◌∷◌, ◌++◌, length, Option, refl, sym, ap, subst, ◌∙◌, arith}
use Rattle.std.proofs.lemmas.List.{append_assoc, length-append}
use Rattle.bt_wire.specs.declared.context.Context.{Context}
use Rattle.bt_wire.specs.declared.context.Own.{Own}
use Rattle.bt_wire.specs.declared.context.Order.{Order}
use Rattle.bt_wire.specs.declared.context.Order.TheVariants.{Fresh}
use Rattle.bt_wire.specs.declared.fault.Refused.{Refused}
use Rattle.bt_wire.specs.declared.handshake.Handshake.{Handshake}
use Rattle.bt_wire.specs.declared.item.Item.{Item}
use Rattle.bt_wire.specs.declared.item.Item.TheVariants as items
use Rattle.bt_wire.specs.Handshakes.{hand, IsHandshake, negotiated}
use Rattle.bt_wire.specs.Legal.{IsSaid}
use Rattle.bt_wire.specs.Messages.{Message, spell, order_after}
use Rattle.bt_wire.specs.Streams.{Begins, orders_after, placed, Outcome, IsOutcome, IsOpened, IsVerdictBy, with_item}
use Rattle.bt_wire.proofs.HandLaws.{hand-length, hand_same, one_handshake}
use Rattle.bt_wire.proofs.SpellLaws.{none_begins}
use Rattle.bt_wire.proofs.StreamLaws.{first}
use Rattle.bt_feed.specs.declared.stage.Stage.{Stage}
use Rattle.bt_feed.specs.declared.stage.Stage.TheVariants as stage
use Rattle.bt_feed.specs.Stages.{start_of, limit_of, IsItem, stage_after, Spells, Comes}
use Rattle.bt_feed.specs.Transcripts.{with_items}
use Rattle.bt_judge.proofs.ByRules.{limit_after}
use Rattle.bt_judge.proofs.Lenient.{after_first, one_more}

peel_by : (c : Context) (o : Order) (s number : ℕ) (m : Message) (y b : List ℕ) (v : Outcome) (ms : List Message) → c.limit < 2 ^ 32 → IsSaid c o s m
    → b ≡ spell c m ++ y → (h : IsOutcome c o s number b v) → h.messages ≡ ms
    → (u : Outcome) × IsOutcome c (order_after o m) (s + length (spell c m)) (number + 1) y u × (v ≡ with_item s (items.Message m) u)
peel_by c o s number m y b v [] lt said parts h e =
    absurd (omega (arith, h.longest.longest (m ∷ []) y (one_more c o s b y m said parts), ap length e))
peel_by c o s number m y b v (n ∷ ns) lt said parts h e =
    let B : List Message → Type 0 = λ l. Begins c o s b l v.tail in
    let f = first c o s b n ns v.tail (subst B e h.longest.begins) in
    let same = none_begins (f.rest ++ v.tail) y lt f.said said (sym f.parts ∙ parts) in
    let list : h.messages ≡ m ∷ ns = e ∙ ap (λ (x : Message). x ∷ ns) same.0 in
    let g = first c o s b m ns v.tail (subst B list h.longest.begins) in
    let rest : y ≡ g.rest ++ v.tail = sym (none_begins (g.rest ++ v.tail) y lt g.said said (sym g.parts ∙ parts)).1 in
    let shorter : (xs : List Message) (t : List ℕ) → Begins c (order_after o m) (s + length (spell c m)) y xs t → length xs ≤ length ns =
    after_first c o s b y m ns said parts (λ xs t k. omega (arith, h.longest.longest xs t k, ap length list)) in (
      record v { items = placed c (s + length (spell c m)) ns },
      record {
        messages = ns;
        longest = record { begins = (g.rest, rest, g.says); longest = shorter };
        items = refl;
        number_after = omega (arith, h.number_after, ap length list);
        order_after = h.order_after ∙ ap (orders_after o) list;
        start_after = omega (arith, h.start_after, ap length parts, length-append (spell c m) y);
        fault = h.fault;
        is_fault = h.is_fault;
        refusal = h.refusal;
      },
      ap (λ (l : List (ℕ × Item)). record v { items = l }) (h.items ∙ ap (placed c s) list),
    )

peel_message : (c : Context) (o : Order) (s number : ℕ) (m : Message) (y b : List ℕ) (v : Outcome) → c.limit < 2 ^ 32 → IsSaid c o s m
    → b ≡ spell c m ++ y → IsOutcome c o s number b v
    → (u : Outcome) × IsOutcome c (order_after o m) (s + length (spell c m)) (number + 1) y u × (v ≡ with_item s (items.Message m) u)
peel_message c o s number m y b v lt said parts h = peel_by c o s number m y b v h.messages lt said parts h refl

-- ---- an item, and what follows it
peel_opened : (own : Own) (w y : List ℕ) (h : Handshake) (v : Outcome) → length w ≡ 68 → IsHandshake h → w ≡ hand h → (o : IsOpened own (w ++ y) v)
    → (u : Outcome) × IsOutcome (negotiated own h.reserved) Fresh (length w) 1 y u × (v ≡ with_item 0 (items.Handshake h) u)
peel_opened own w y h v size fits spelled o =
    let u = o.after in
    let same = one_handshake o.handshake h o.rest y o.fits fits (sym o.parts ∙ ap (λ (l : List ℕ). l ++ y) spelled) in
    let P : Handshake → ℕ → List ℕ → Type 0 = λ x s l. IsOutcome (negotiated own x.reserved) Fresh s 1 l u in
    let here = subst (λ (x : Handshake). P x 68 o.rest) same.0 o.messages in
    let rest = subst (λ (l : List ℕ). P h 68 l) same.1 here in
    let whole : v ≡ with_item 0 (items.Handshake h) u = o.whole ∙ ap (λ (x : Handshake). with_item 0 (items.Handshake x) u) same.0 in
    (u, subst (λ (s : ℕ). P h s y) (sym size) rest, whole)

peel_item : (t : Stage) (w y : List ℕ) (item : Item) (v : Outcome) → limit_of t < 2 ^ 32 → IsItem t w item → Comes t (w ++ y) v
    → (u : Outcome) × Comes (stage_after t (length w) item) y u × (v ≡ with_item (start_of t) item u)
peel_item (stage.Handshake own) w y (items.Handshake h) v lt p k =
    let size : length w ≡ 68 = ap length p.2 ∙ hand-length h p.1 in
    let P : Option Refused → Type 0 = λ f. IsVerdictBy f own (w ++ y) v in
    let opened = (subst P (hand_same own w y (omega arith) ∙ p.0) k).1 (omega (arith, size, length-append w y)) in
    peel_opened own w y h v size p.1 p.2 opened
peel_item (stage.Message c o s n) w y (items.Message m) v lt p k =
    let u = peel_message c o s n m y (w ++ y) v lt p.0 (ap (λ (l : List ℕ). l ++ y) p.1) k in
    let P : ℕ → Type 0 = λ size. IsOutcome c (order_after o m) (s + size) (n + 1) y u.0 in
    (u.0, subst P (sym (ap length p.1)) u.1, u.2)
peel_item (stage.Handshake own) w y (items.Message m) v lt p k = absurd p
peel_item (stage.Message c o s n) w y (items.Handshake h) v lt p k = absurd p

-- ---- several items
pub peel : (t : Stage) (xs : List (ℕ × Item)) (b : List ℕ) (u : Stage) (rest later : List ℕ) (v : Outcome) → limit_of t < 2 ^ 32 → Spells t xs b u rest
    → Comes t (b ++ later) v → (w : Outcome) × Comes u (rest ++ later) w × (v ≡ with_items xs w)
peel t [] b u rest later v lt p k =
    let P : Stage → Type 0 = λ s. Comes s (rest ++ later) v in
    let Q : List ℕ → Type 0 = λ l. Comes t (l ++ later) v in
    (v, subst P (sym p.0) (subst Q p.1 k), refl)
peel t (x ∷ xs) b u rest later v lt p k =
    let w = p.1.0 in
    let more = p.1.1 in
    let next = stage_after t (length w) x.1 in
    let P : List ℕ → Type 0 = λ l. Comes t l v in
    let one = peel_item t w (more ++ later) x.1 v lt p.1.3 (subst P (ap (λ (l : List ℕ). l ++ later) p.1.2 ∙ append_assoc w more later) k) in
    let all = peel next xs more u rest later one.0 (omega (arith, lt, limit_after t (length w) x.1)) p.1.4 one.1 in (
      all.0,
      all.1,
      one.2 ∙ ap (with_item (start_of t) x.1) all.2 ∙ ap (λ (s : ℕ). with_item s x.1 (with_items xs all.0)) (sym p.0),
    )
